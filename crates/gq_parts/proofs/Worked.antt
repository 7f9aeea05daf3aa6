-- The worked case as a whole: all that the law of all nodes asks of its lines is so, however many writes there are.
use Rattle.std.proofs.Common.{◌≡◌, ◌∙◌, ℕ, zero, suc, ◌+◌, ◌<◌, ◌^◌, Bool, true, false, List, [], ◌∷◌, ◌++◌, map, refl, sym, ap, subst, arith, append-nil, append_assoc, Option, Some, None, inl, inr}
use Rattle.std.specs.Prelude.{◌==◌, nat_lt, slice_index, if◌then◌else◌}
use Rattle.std.proofs.lemmas.Bool.{cases_Bool, eqb-true, lt-ltb}
use Rattle.std.proofs.lemmas.List.Elements.{Contains-append_left, Contains-append_right}
use Rattle.gq_grid.specs.Grid.{Servers}
use Rattle.gq_tag.specs.declared.StoredCopy.{StoredCopy}
use Rattle.gq_tag.specs.Tag.{File, is_file, OwnMessage, message_of, first_copy, greatest}
use Rattle.gq_phase.specs.declared.Outcome.{Outcome}
use Rattle.gq_phase.specs.declared.Outcome.TheVariants.{Wrote}
use Rattle.gq_phase.specs.Phase.{Reply}
use Rattle.gq_phase.specs.Quorums.{collect_quorum, store_quorum, ends_collect, ends_store, are_peers}
use Rattle.gq_model.specs.declared.events.Line.TheVariants.{Write}
use Rattle.gq_model.specs.Told.{Began}
use Rattle.gq_model.specs.Trace.{Own, State}
use Rattle.gq_model.specs.Lone.{entry_of}
use Rattle.gq_cluster.specs.Cluster.{copy_in}
use Rattle.gq_cluster.specs.Facts.{Reserved}
use Rattle.gq_laws.proofs.Holding.{greatest-push}
use Rattle.gq_laws.proofs.OperationMoments.{same_file}
use Rattle.gq_replace.specs.Fleet.{Posted}
use Rattle.gq_node.specs.Inputs.{Input, Asked, AskedLook, Brought, does}
use Rattle.gq_node.specs.Local.{Local, Resident, Doing, part_in, state_for, goes_on, serves, copy_fits}
use Rattle.gq_node.specs.Nodes.{Nodes, Event, Came, posts, after_event, nodes_after}
use Rattle.gq_wire.specs.declared.incoming.Incoming.TheVariants.{Request, Look, Letter}
use Rattle.gq_wire.proofs.LettersBack.{letters_read_back}
use Rattle.gq_wire.proofs.RequestsBack.{requests_read_back, looks_read_back}
use Rattle.gq_wire.specs.Laws.{look_text}
use Rattle.gq_parts.specs.AllNodes.{Happening, nodes_at, LinesCanCome}
use Rattle.gq_parts.specs.Within.{within, hops}
use Rattle.gq_parts.specs.Worked.{grid_worked, Sent, Sends, content, written, happened, all_happened, losses_worked, write_worked, looks_worked, writes_worked, run_worked, tells_look, EndsWithLooks, IsDone, AllWorked}
use Rattle.gq_parts.proofs.AllNodes.{follows_law}
use Rattle.gq_parts.proofs.Replacing.{is_plan, plans_sound, Known, Gets, AreRead, known_events, known_after, KnownCan, AllKnownCan, lines_can, lines_after, read_append, can_append, after_append, replaced_known, first_known, new, two_lost, losses_known, losses_read, losses_can}
use Rattle.gq_parts.proofs.WorkedLooks.{look_told}
use Rattle.gq_parts.proofs.Writing.{world, home_site, other_site, file, resting, home_local, other_local, ask, copy, store, stored, fits_yes, asked_step_is, storing, copy_step_is, home_stores, other_stores, noted, own_stored, done, other_stored, within_one, within_two, within_three, two, left_by, home_asked, home_brought, other_brought, home_looked, other_looked}

-- ---- the two nodes

-- all nodes: what the two have, what was written, and the rest
record Both : Type 0 where
  rest : Nodes
  posted : List Posted
  home : Local
  other : Local

abbrev shown : Both → Nodes
shown x = two x.rest x.posted x.home x.other

-- after a doing of the one, and of the other
abbrev by_home : Both → Doing → Both
by_home x doing = record { rest = left_by x.rest (shown x) 0 doing; posted = x.posted ++ posts world (shown x) 0 doing.letters; home = doing.local; other = x.other }

abbrev by_other : Both → Doing → Both
by_other x doing = record { rest = left_by x.rest (shown x) 193 doing; posted = x.posted ++ posts world (shown x) 193 doing.letters; home = x.home; other = doing.local }

-- ---- between writes

-- what the two nodes have, and all others, while the session has no operation
record Idle : Type 0 where
  rest : Nodes
  posted : List Posted
  copies : File → List StoredCopy
  joined : Servers
  peer : ℕ
  others : ℕ → Resident
  round : ℕ
  heard : List Reply
  collected : List StoredCopy
  reserved : Reserved
  outcome : Option Outcome
  waited : Bool
  copies_there : File → List StoredCopy
  lacks : File → Bool
  joined_there : Servers
  peer_there : ℕ
  residents : ℕ → Resident

abbrev home_of : Idle → ℕ → Local
home_of s i = home_local s.copies s.joined s.peer s.others (resting i s.round s.heard s.collected s.reserved s.outcome s.waited)

abbrev other_of : Idle → Local
other_of s = other_local s.copies_there s.lacks s.joined_there s.peer_there s.residents

abbrev both_of : Idle → ℕ → Both
both_of s i = record { rest = s.rest; posted = s.posted; home = home_of s i; other = other_of s }

abbrev nodes_of : Idle → ℕ → Nodes
nodes_of s i = shown (both_of s i)

abbrev held_here : Idle → StoredCopy
held_here s = greatest (first_copy ∷ s.copies file)

abbrev held_there : Idle → StoredCopy
held_there s = greatest (first_copy ∷ s.copies_there file)

-- the last write is done
record IsLast (s : Idle) (i : ℕ) : Type 0 where
  outcome : s.outcome ≡ Some (Wrote 1 i (written i).tag)
  here : held_here s ≡ written i
  there : held_there s ≡ written i

-- both nodes go on, and three are gone; both have a copy of the last write's number
record Stands (s : Idle) (i : ℕ) : Type 0 where
  first : s.rest.begun 0 ≡ true
  second : s.rest.begun 193 ≡ true
  stays : s.rest.gone 0 ≡ false
  stays_there : s.rest.gone 193 ≡ false
  gone_first : s.rest.gone 1 ≡ true
  gone_next : s.rest.gone 65 ≡ true
  gone_last : s.rest.gone 129 ≡ true
  number : (held_here s).tag.number ≡ i
  number_there : (held_there s).tag.number ≡ i
  fits : copy_fits 64 (held_here s) ≡ true
  done : 0 < i → IsLast s i

-- ---- one write, doing by doing

abbrev asked_doing : Idle → ℕ → Doing
asked_doing s i =
    let state : State = state_for home_site (home_of s i) 1 in
    goes_on (home_of s i) 1 (i + 1) false state (entry_of state (Own (Write 1 0 0 content)) (record { told = Began (i + 1) 0 1; new = ask (i + 1) ∷ [] }))

abbrev served_doing : Idle → ℕ → Doing
served_doing s i = serves home_site (asked_doing s i).local (ask (i + 1))

abbrev storing_doing : Idle → ℕ → Doing
storing_doing s i = storing i (held_here s) (served_doing s i).local

abbrev kept_doing : Idle → ℕ → Doing
kept_doing s i = serves home_site (storing_doing s i).local (store (i + 1) 0)

abbrev noted_doing : Idle → ℕ → Doing
noted_doing s i = noted i (kept_doing s i).local

abbrev kept_there : Idle → ℕ → Doing
kept_there s i = serves other_site (other_of s) (store (i + 1) 1)

abbrev done_doing : Idle → ℕ → Doing
done_doing s i = done i (noted_doing s i).local

-- the nodes after each line
abbrev asked_both : Idle → ℕ → Both
asked_both s i = by_home (by_home (by_home (both_of s i) (asked_doing s i)) (served_doing s i)) (storing_doing s i)

abbrev noted_both : Idle → ℕ → Both
noted_both s i = by_home (by_home (asked_both s i) (kept_doing s i)) (noted_doing s i)

abbrev there_both : Idle → ℕ → Both
there_both s i = by_other (noted_both s i) (kept_there s i)

abbrev done_both : Idle → ℕ → Both
done_both s i = by_home (there_both s i) (done_doing s i)

abbrev looked_home : Idle → ℕ → Both
looked_home s i = let x : Both = done_both s i in by_home x (does (AskedLook (i + 1) 0) home_site x.home)

abbrev looked_both : Idle → ℕ → Both
looked_both s i = let x : Both = looked_home s i in by_other x (does (AskedLook (i + 1) 0) other_site x.other)

-- ---- that these are the doings

asked_is : (s : Idle) (i : ℕ) → does (Asked (i + 1) (Write 1 0 0 content)) home_site (home_of s i) ≡ asked_doing s i
asked_is s i = asked_step_is i s.round s.copies s.joined s.peer s.others s.heard s.collected s.reserved s.outcome s.waited

served_is : (s : Idle) (i : ℕ) → does (Brought 0 (ask (i + 1))) home_site (asked_doing s i).local ≡ served_doing s i
served_is s i = refl

storing_is : (s : Idle) (i : ℕ) → i + 1 < 2 ^ 32 → Stands s i → does (Brought 0 (copy (i + 1) (held_here s))) home_site (served_doing s i).local ≡ storing_doing s i
storing_is s i low stands =
    let local : Local = (served_doing s i).local in
    copy_step_is i (held_here s) local.brought local.joined local.peer (home_of s i).residents (local.residents 1).reserved None false low stands.number stands.fits

kept_is : (s : Idle) (i : ℕ) → i + 1 < 2 ^ 32 → does (Brought 0 (store (i + 1) 0)) home_site (storing_doing s i).local ≡ kept_doing s i
kept_is s i low = let local : Local = (storing_doing s i).local in home_stores i local.brought local.joined local.peer (served_doing s i).local.residents (local.residents 1) low

noted_is : (s : Idle) (i : ℕ) → i + 1 < 2 ^ 32 → does (Brought 0 (stored (i + 1) 0)) home_site (kept_doing s i).local ≡ noted_doing s i
noted_is s i low =
    let local : Local = (kept_doing s i).local in
    let r : Resident = local.residents 1 in
    own_stored i local.brought local.joined local.peer (served_doing s i).local.residents r.reserved r.outcome r.waited low

kept_there_is : (s : Idle) (i : ℕ) → i + 1 < 2 ^ 32 → does (Brought 0 (store (i + 1) 1)) other_site (other_of s) ≡ kept_there s i
kept_there_is s i low = other_stores i s.copies_there s.lacks s.joined_there s.peer_there s.residents low

done_is : (s : Idle) (i : ℕ) → i + 1 < 2 ^ 32 → does (Brought 193 (stored (i + 1) 1)) home_site (noted_doing s i).local ≡ done_doing s i
done_is s i low =
    let local : Local = (noted_doing s i).local in
    let r : Resident = local.residents 1 in
    other_stored i local.brought local.joined local.peer (kept_doing s i).local.residents r.reserved r.outcome r.waited low

-- ---- a line

-- it can come to these nodes, and leaves those
record Goes (nodes after : Nodes) (k : Known) : Type 0 where
  can : KnownCan grid_worked 0 nodes k
  leaves : nodes_after world nodes (known_events grid_worked 0 nodes k) ≡ after

goes_can : (nodes after : Nodes) (k : Known) (known : List Known) → Goes nodes after k → AllKnownCan grid_worked 0 after known → AllKnownCan grid_worked 0 nodes (k ∷ known)
goes_can nodes after k known goes can = (goes.can, subst (λ x. AllKnownCan grid_worked 0 x known) (sym goes.leaves) can)

goes_after : (nodes after : Nodes) (k : Known) (known : List Known) → Goes nodes after k → known_after grid_worked 0 nodes (k ∷ known) ≡ known_after grid_worked 0 after known
goes_after nodes after k known goes = ap (λ x. known_after grid_worked 0 x known) goes.leaves

abbrev came : (n : ℕ) → List Input → List Event
came n inputs = map (λ input. Came n input) (inputs ++ [])

abbrev pub known_of : ℕ → List Known
known_of op =
    Gets 0 3 (Request 0 op (Write 1 0 0 content))
    ∷ Gets 0 3 (Letter 0 (message_of 0 (store op 0)))
    ∷ Gets 193 3 (Letter 0 (message_of 0 (store op 1)))
    ∷ Gets 0 3 (Letter 193 (message_of 0 (stored op 1)))
    ∷ Gets 0 3 (Look 0 op 0)
    ∷ Gets 193 3 (Look 0 op 0)
    ∷ []

asked_goes : (s : Idle) (i : ℕ) → i + 1 < 2 ^ 32 → Stands s i → Goes (nodes_of s i) (shown (asked_both s i)) (Gets 0 3 (Request 0 (i + 1) (Write 1 0 0 content)))
asked_goes s i low stands = record {
  can = ((stands.first, stands.stays, tt), tt);
  leaves =
      let x : Both = both_of s i in
      let y : Both = by_home x (asked_doing s i) in
      let z : Both = by_home y (served_doing s i) in
      let one : Input = Asked (i + 1) (Write 1 0 0 content) in
      let next : Input = Brought 0 (ask (i + 1)) in
      let last : Input = Brought 0 (copy (i + 1) (held_here s)) in
      ap (λ inputs. nodes_after world (nodes_of s i) (came 0 inputs))
      (within_three home_site (home_of s i) one (ask (i + 1)) (copy (i + 1) (held_here s)) (asked_doing s i) (served_doing s i) (storing_doing s i) (λ site local. (refl, refl)) (asked_is s i) refl (served_is s i) refl (storing_is s i low stands) refl)
      ∙ ap (λ nodes. after_event world (after_event world nodes (Came 0 next)) (Came 0 last)) (home_asked x.rest x.posted x.home x.other (i + 1) (Write 1 0 0 content) (asked_doing s i) (asked_is s i))
      ∙ ap (λ nodes. after_event world nodes (Came 0 last)) (home_brought y.rest y.posted y.home y.other 0 (ask (i + 1)) (served_doing s i) (served_is s i))
      ∙ home_brought z.rest z.posted z.home z.other 0 (copy (i + 1) (held_here s)) (storing_doing s i) (storing_is s i low stands);
}

-- a letter that was written, by node `from` to this one
abbrev letter_from : (from to : ℕ) → OwnMessage → Posted
letter_from from to m = record { from = from; to = to; letter = m }

noted_goes : (s : Idle) (i : ℕ) → i + 1 < 2 ^ 32 → Stands s i → Goes (shown (asked_both s i)) (shown (noted_both s i)) (Gets 0 3 (Letter 0 (message_of 0 (store (i + 1) 0))))
noted_goes s i low stands = record {
  can = ((stands.first, stands.stays, Contains-append_right z.posted (posts world (shown z) 0 (storing_doing s i).letters) (letter_from 0 0 (store (i + 1) 0)) (0, omega arith, refl)), tt);
  leaves =
      ap (λ inputs. nodes_after world (shown x) (came 0 inputs))
      (within_two home_site x.home (Brought 0 (store (i + 1) 0)) (stored (i + 1) 0) (kept_doing s i) (noted_doing s i) (λ site local. (refl, refl)) (kept_is s i low) refl (noted_is s i low) refl)
      ∙ ap (λ nodes. after_event world nodes (Came 0 (Brought 0 (stored (i + 1) 0)))) (home_brought x.rest x.posted x.home x.other 0 (store (i + 1) 0) (kept_doing s i) (kept_is s i low))
      ∙ home_brought y.rest y.posted y.home y.other 0 (stored (i + 1) 0) (noted_doing s i) (noted_is s i low);
}
  where
    x : Both
    x = asked_both s i

    y : Both
    y = by_home x (kept_doing s i)

    z : Both
    z = by_home (by_home (both_of s i) (asked_doing s i)) (served_doing s i)

there_goes : (s : Idle) (i : ℕ) → i + 1 < 2 ^ 32 → Stands s i → Goes (shown (noted_both s i)) (shown (there_both s i)) (Gets 193 3 (Letter 0 (message_of 0 (store (i + 1) 1))))
there_goes s i low stands = record {
  can = (
    (
      stands.second,
      stands.stays_there,
      Contains-append_left y.posted (posts world (shown y) 0 (noted_doing s i).letters) p
          (Contains-append_left x.posted (posts world (shown x) 0 (kept_doing s i).letters) p (Contains-append_right z.posted (posts world (shown z) 0 (storing_doing s i).letters) p (1, omega arith, refl))),
    ),
    tt,
  );
  leaves =
      ap (λ inputs. nodes_after world (shown v) (came 193 inputs)) (within_one other_site (other_of s) (Brought 0 (store (i + 1) 1)) (kept_there s i) (λ site local. (refl, refl)) (kept_there_is s i low) refl)
      ∙ other_brought v.rest v.posted v.home v.other 0 (store (i + 1) 1) (kept_there s i) (kept_there_is s i low);
}
  where
    x : Both
    x = asked_both s i

    y : Both
    y = by_home x (kept_doing s i)

    z : Both
    z = by_home (by_home (both_of s i) (asked_doing s i)) (served_doing s i)

    v : Both
    v = noted_both s i

    p : Posted
    p = letter_from 0 193 (store (i + 1) 1)

done_goes : (s : Idle) (i : ℕ) → i + 1 < 2 ^ 32 → Stands s i → Goes (shown (there_both s i)) (shown (done_both s i)) (Gets 0 3 (Letter 193 (message_of 0 (stored (i + 1) 1))))
done_goes s i low stands = record {
  can = ((stands.first, stands.stays, Contains-append_right v.posted (posts world (shown v) 193 (kept_there s i).letters) (letter_from 193 0 (stored (i + 1) 1)) (0, omega arith, refl)), tt);
  leaves =
      ap (λ inputs. nodes_after world (shown x) (came 0 inputs)) (within_one home_site x.home (Brought 193 (stored (i + 1) 1)) (done_doing s i) (λ site local. (refl, refl)) (done_is s i low) refl)
      ∙ home_brought x.rest x.posted x.home x.other 193 (stored (i + 1) 1) (done_doing s i) (done_is s i low);
}
  where
    v : Both
    v = noted_both s i

    x : Both
    x = there_both s i

looked_here : (s : Idle) (i : ℕ) → Stands s i → Goes (shown (done_both s i)) (shown (looked_home s i)) (Gets 0 3 (Look 0 (i + 1) 0))
looked_here s i stands = record {
  can = ((stands.first, stands.stays, tt), tt);
  leaves =
      let x : Both = done_both s i in
      ap (λ inputs. nodes_after world (shown x) (came 0 inputs)) (within_one home_site x.home (AskedLook (i + 1) 0) (does (AskedLook (i + 1) 0) home_site x.home) (λ site local. (refl, refl)) refl refl)
      ∙ home_looked x.rest x.posted x.home x.other (i + 1);
}

looked_there : (s : Idle) (i : ℕ) → Stands s i → Goes (shown (looked_home s i)) (shown (looked_both s i)) (Gets 193 3 (Look 0 (i + 1) 0))
looked_there s i stands = record {
  can = ((stands.second, stands.stays_there, tt), tt);
  leaves =
      let x : Both = looked_home s i in
      ap (λ inputs. nodes_after world (shown x) (came 193 inputs)) (within_one other_site x.other (AskedLook (i + 1) 0) (does (AskedLook (i + 1) 0) other_site x.other) (λ site local. (refl, refl)) refl refl)
      ∙ other_looked x.rest x.posted x.home x.other (i + 1);
}

-- ---- a write

abbrev next_idle : Idle → ℕ → Idle
next_idle s i =
    let x : Both = looked_both s i in
    let r : Resident = x.home.residents 1 in
    record {
      rest = x.rest;
      posted = x.posted;
      copies = x.home.brought;
      joined = x.home.joined;
      peer = x.home.peer;
      others = (noted_doing s i).local.residents;
      round = r.session.round;
      heard = r.session.heard;
      collected = r.session.collected;
      reserved = r.reserved;
      outcome = r.outcome;
      waited = r.waited;
      copies_there = x.other.brought;
      lacks = s.lacks;
      joined_there = s.joined_there;
      peer_there = s.peer_there;
      residents = s.residents;
    }

-- a copy under a greater number is the one that is held
pub newer : (i : ℕ) (copies : List StoredCopy) → (greatest (first_copy ∷ copies)).tag.number ≡ i → greatest (first_copy ∷ copies ++ written (i + 1) ∷ []) ≡ written (i + 1)
newer i copies number = greatest-push first_copy (written (i + 1)) copies ∙ (rw less refl)
  where
    less : nat_lt (greatest (first_copy ∷ copies)).tag.number (i + 1) ≡ true
    less = lt-ltb (greatest (first_copy ∷ copies)).tag.number (i + 1) (omega arith)

next_stands : (s : Idle) (i : ℕ) → i + 1 < 2 ^ 32 → Stands s i → Stands (next_idle s i) (i + 1)
next_stands s i low stands =
    let here : held_here (next_idle s i) ≡ written (i + 1) = newer i (s.copies file) stands.number in
    let there : held_there (next_idle s i) ≡ written (i + 1) = newer i (s.copies_there file) stands.number_there in
    record {
      first = stands.first;
      second = stands.second;
      stays = stands.stays;
      stays_there = stands.stays_there;
      gone_first = stands.gone_first;
      gone_next = stands.gone_next;
      gone_last = stands.gone_last;
      number = ap (λ (c : StoredCopy). c.tag.number) here;
      number_there = ap (λ (c : StoredCopy). c.tag.number) there;
      fits = subst (λ (c : StoredCopy). copy_fits 64 c ≡ true) (sym here) (fits_yes (i + 1) low);
      done = λ some. record { outcome = refl; here = here; there = there };
    }

abbrev asked_line : ℕ → Known
asked_line op = Gets 0 3 (Request 0 op (Write 1 0 0 content))

abbrev here_line : ℕ → Known
here_line op = Gets 0 3 (Letter 0 (message_of 0 (store op 0)))

abbrev there_line : ℕ → Known
there_line op = Gets 193 3 (Letter 0 (message_of 0 (store op 1)))

abbrev done_line : ℕ → Known
done_line op = Gets 0 3 (Letter 193 (message_of 0 (stored op 1)))

abbrev home_line : ℕ → Known
home_line op = Gets 0 3 (Look 0 op 0)

abbrev other_line : ℕ → Known
other_line op = Gets 193 3 (Look 0 op 0)

abbrev behind_line : ℕ → List Known → List Known
behind_line op known = home_line op ∷ other_line op ∷ known

write_can : (s : Idle) (i : ℕ) (known : List Known) → i + 1 < 2 ^ 32 → Stands s i → AllKnownCan grid_worked 0 (nodes_of (next_idle s i) (i + 1)) known → AllKnownCan grid_worked 0 (nodes_of s i) (known_of (i + 1) ++ known)
write_can s i known low stands can =
    goes_can (nodes_of s i) (shown (asked_both s i)) (asked_line (i + 1)) (here_line (i + 1) ∷ there_line (i + 1) ∷ done_line (i + 1) ∷ behind_line (i + 1) known) (asked_goes s i low stands)
    (goes_can (shown (asked_both s i)) (shown (noted_both s i)) (here_line (i + 1)) (there_line (i + 1) ∷ done_line (i + 1) ∷ behind_line (i + 1) known) (noted_goes s i low stands)
    (goes_can (shown (noted_both s i)) (shown (there_both s i)) (there_line (i + 1)) (done_line (i + 1) ∷ behind_line (i + 1) known) (there_goes s i low stands)
    (goes_can (shown (there_both s i)) (shown (done_both s i)) (done_line (i + 1)) (behind_line (i + 1) known) (done_goes s i low stands)
    (goes_can (shown (done_both s i)) (shown (looked_home s i)) (home_line (i + 1)) (other_line (i + 1) ∷ known) (looked_here s i stands)
    (goes_can (shown (looked_home s i)) (shown (looked_both s i)) (other_line (i + 1)) known (looked_there s i stands) can)))))

-- the write alone, and with the looks behind it
done_after : (s : Idle) (i : ℕ) (known : List Known) → i + 1 < 2 ^ 32 → Stands s i →
    known_after grid_worked 0 (nodes_of s i) (asked_line (i + 1) ∷ here_line (i + 1) ∷ there_line (i + 1) ∷ done_line (i + 1) ∷ known) ≡ known_after grid_worked 0 (shown (done_both s i)) known
done_after s i known low stands =
    goes_after (nodes_of s i) (shown (asked_both s i)) (asked_line (i + 1)) (here_line (i + 1) ∷ there_line (i + 1) ∷ done_line (i + 1) ∷ known) (asked_goes s i low stands)
    ∙ goes_after (shown (asked_both s i)) (shown (noted_both s i)) (here_line (i + 1)) (there_line (i + 1) ∷ done_line (i + 1) ∷ known) (noted_goes s i low stands)
    ∙ goes_after (shown (noted_both s i)) (shown (there_both s i)) (there_line (i + 1)) (done_line (i + 1) ∷ known) (there_goes s i low stands)
    ∙ goes_after (shown (there_both s i)) (shown (done_both s i)) (done_line (i + 1)) known (done_goes s i low stands)

write_after : (s : Idle) (i : ℕ) (known : List Known) → i + 1 < 2 ^ 32 → Stands s i → known_after grid_worked 0 (nodes_of s i) (known_of (i + 1) ++ known) ≡ known_after grid_worked 0 (nodes_of (next_idle s i) (i + 1)) known
write_after s i known low stands =
    done_after s i (behind_line (i + 1) known) low stands
    ∙ goes_after (shown (done_both s i)) (shown (looked_home s i)) (home_line (i + 1)) (other_line (i + 1) ∷ known) (looked_here s i stands)
    ∙ goes_after (shown (looked_home s i)) (shown (looked_both s i)) (other_line (i + 1)) known (looked_there s i stands)

-- ---- all writes

abbrev all_known : (before many : ℕ) → List Known
all_known before zero = []
all_known before (suc many) = known_of (before + 1) ++ all_known (before + 1) many

-- they can come, and in the end the last one is done
record AreDone (nodes : Nodes) (before many : ℕ) : Type 0 where
  can : AllKnownCan grid_worked 0 nodes (all_known before many)
  last : Idle
  is : known_after grid_worked 0 nodes (all_known before many) ≡ nodes_of last (before + many)
  stands : Stands last (before + many)

are_done : (many before : ℕ) (s : Idle) → before + many < 2 ^ 32 → Stands s before → AreDone (nodes_of s before) before many
are_done zero before s low stands =
    let e : before ≡ before + 0 = omega arith in
    record { can = tt; last = s; is = ap (nodes_of s) e; stands = subst (Stands s) e stands }
are_done (suc many) before s low stands =
    let one : before + 1 < 2 ^ 32 = omega arith in
    let e : before + 1 + many ≡ before + suc many = omega arith in
    let rest : AreDone (nodes_of (next_idle s before) (before + 1)) (before + 1) many = are_done many (before + 1) (next_idle s before) (omega arith) (next_stands s before one stands) in
    record {
      can = write_can s before (all_known (before + 1) many) one stands rest.can;
      last = rest.last;
      is = write_after s before (all_known (before + 1) many) one stands ∙ rest.is ∙ ap (nodes_of rest.last) e;
      stands = subst (Stands rest.last) e rest.stands;
    }

-- ---- the lines are read so

pub content_bytes : (i : ℕ) → slice_index content i < 256
content_bytes zero = omega arith
content_bytes (suc zero) = omega arith
content_bytes (suc (suc zero)) = omega arith
content_bytes (suc (suc (suc zero))) = omega arith
content_bytes (suc (suc (suc (suc zero)))) = omega arith
content_bytes (suc (suc (suc (suc (suc i))))) = omega arith

pub write_read : (op : ℕ) → op < 2 ^ 32 → AreRead grid_worked (write_worked op ++ looks_worked op) (known_of op)
write_read op low =
    let asked = requests_read_back grid_worked.plan 0 0 op (Write 1 0 0 content) is_plan (omega arith) (omega arith) (low, omega arith, omega arith, omega arith, (content_bytes, omega arith)) in
    let first = letters_read_back grid_worked.plan 0 0 (message_of 0 (store op 0)) is_plan
    (record { tenant = omega arith; own = refl; to_fits = omega arith; from_fits = omega arith; server = refl; session = omega arith; op = low; round = omega arith; volume = omega arith; file = omega arith; body = (omega arith, omega arith, content_bytes); short = omega arith; in_round = refl }) in
    let next = letters_read_back grid_worked.plan 193 0 (message_of 0 (store op 1)) is_plan
    (record { tenant = omega arith; own = refl; to_fits = omega arith; from_fits = omega arith; server = refl; session = omega arith; op = low; round = omega arith; volume = omega arith; file = omega arith; body = (omega arith, omega arith, content_bytes); short = omega arith; in_round = refl }) in
    let last = letters_read_back grid_worked.plan 0 193 (message_of 0 (stored op 1)) is_plan
    (record { tenant = omega arith; own = refl; to_fits = omega arith; from_fits = omega arith; server = refl; session = omega arith; op = low; round = omega arith; volume = omega arith; file = omega arith; body = tt; short = omega arith; in_round = refl }) in
    let here = looks_read_back grid_worked.plan 0 0 op 0 is_plan (omega arith) (omega arith) (omega arith) (omega arith) in
    let there = looks_read_back grid_worked.plan 193 0 op 0 is_plan (omega arith) (omega arith) (omega arith) (omega arith) in
    ((refl, refl, asked), ((refl, refl, first.2), ((refl, refl, next.2), ((refl, refl, last.2), ((refl, refl, here), ((refl, refl, there), tt))))))

writes_read : (many before : ℕ) → before + many < 2 ^ 32 → AreRead grid_worked (writes_worked before many) (all_known before many)
writes_read zero before low = tt
writes_read (suc many) before low =
    read_append grid_worked (write_worked (before + 1) ++ looks_worked (before + 1)) (known_of (before + 1)) (writes_worked (before + 1) many) (all_known (before + 1) many) (write_read (before + 1) (omega arith)) (writes_read many (before + 1) (omega arith))

-- ---- behind the losses

three_lost : Nodes
three_lost = known_after grid_worked 0 two_lost (replaced_known 193 3)

lost_are : known_after grid_worked 0 new losses_known ≡ three_lost
unfolding three_lost
lost_are = after_append grid_worked 0 (first_known ++ replaced_known 129 2) (replaced_known 193 3) new ∙ ap (λ nodes. known_after grid_worked 0 nodes (replaced_known 193 3)) (after_append grid_worked 0 first_known (replaced_known 129 2) new)

abbrev start : Idle
start =
    let home : Local = three_lost.local 0 in
    let other : Local = three_lost.local 193 in
    let r : Resident = home.residents 1 in
    record {
      rest = three_lost;
      posted = three_lost.posted;
      copies = home.brought;
      joined = home.joined;
      peer = home.peer;
      others = home.residents;
      round = r.session.round;
      heard = r.session.heard;
      collected = r.session.collected;
      reserved = r.reserved;
      outcome = r.outcome;
      waited = r.waited;
      copies_there = other.brought;
      lacks = other.lacks;
      joined_there = other.joined;
      peer_there = other.peer;
      residents = other.residents;
    }

pub one_named : {X : Type 0} (f : ℕ → X) (x : X) (a m : ℕ) → f a ≡ x → f m ≡ (if a == m then x else f m)
one_named f x a m is = elim (cases_Bool (a == m)) [
  | inl same ↦ (ap f (sym (eqb-true a m same)) ∙ is ∙ sym (rw same refl))
  | inr other ↦ (sym (rw other refl))
]

two_named : {X : Type 0} (f : ℕ → X) (x y : X) (a b m : ℕ) → f a ≡ x → f b ≡ y → f m ≡ (if m == a then x else if m == b then y else f m)
two_named f x y a b m is also = elim (cases_Bool (m == a)) [
  | inl same ↦ (ap f (eqb-true m a same) ∙ is ∙ sym (rw same refl))
  | inr other ↦ (elim (cases_Bool (m == b)) [
    | inl same ↦ (ap f (eqb-true m b same) ∙ also ∙ sym (rw (other, same) refl))
    | inr away ↦ (sym (rw (other, away) refl))
  ])
]

session_is : (three_lost.local 0).residents 1 ≡ resting 0 start.round start.heard start.collected start.reserved start.outcome start.waited
unfolding three_lost collect_quorum store_quorum ends_collect ends_store are_peers within hops
session_is = refl

home_is : three_lost.local 0 ≡ record (three_lost.local 0) { volumes = record { files = 1; blocks = 1 } ∷ []; lacks = λ f. false }
unfolding three_lost collect_quorum store_quorum ends_collect ends_store are_peers within hops
home_is = refl

volumes_are : (three_lost.local 193).volumes ≡ record { files = 1; blocks = 1 } ∷ []
unfolding three_lost collect_quorum store_quorum ends_collect ends_store are_peers within hops
volumes_are = refl

has_file : (three_lost.local 193).lacks file ≡ false
unfolding three_lost collect_quorum store_quorum ends_collect ends_store are_peers within hops
has_file = refl

pub lacks_no_more : (lacks : File → Bool) (f : File) → lacks file ≡ false → lacks f ≡ (if is_file file f then false else lacks f)
lacks_no_more lacks f has = elim (cases_Bool (is_file file f)) [
  | inl same ↦ (ap lacks (sym (same_file file f same)) ∙ has ∙ sym (rw same refl))
  | inr other ↦ (sym (rw other refl))
]

plans_are : (three_lost.last_plan 0 ≡ 3) × (three_lost.last_plan 193 ≡ 3)
unfolding three_lost collect_quorum store_quorum ends_collect ends_store are_peers within hops
plans_are = (refl, refl)

start_stands : Stands start 0
unfolding three_lost collect_quorum store_quorum ends_collect ends_store are_peers within hops
start_stands = record {
  first = refl;
  second = refl;
  stays = refl;
  stays_there = refl;
  gone_first = refl;
  gone_next = refl;
  gone_last = refl;
  number = refl;
  number_there = refl;
  fits = refl;
  done = λ some. absurd (omega arith);
}

start_is : three_lost ≡ nodes_of start 0
start_is = λ i. record three_lost { last_plan = λ m. two_named three_lost.last_plan 3 3 0 193 m plans_are.0 plans_are.1 i; local = λ m. two_named three_lost.local (home_of start 0) (other_of start) 0 193 m home other i }
  where
    home : three_lost.local 0 ≡ home_of start 0
    home = home_is ∙ (λ i. record (three_lost.local 0) { volumes = record { files = 1; blocks = 1 } ∷ []; lacks = λ f. false; residents = λ k. one_named (three_lost.local 0).residents (resting 0 start.round start.heard start.collected start.reserved start.outcome start.waited) 1 k session_is i })

    other : three_lost.local 193 ≡ other_of start
    other = λ i. record (three_lost.local 193) { volumes = volumes_are i; lacks = λ f. lacks_no_more (three_lost.local 193).lacks f has_file i }

-- ---- what is told

happened_more : (before : List Happening) (xs ys : List Sent) → all_happened grid_worked before (xs ++ ys) ≡ all_happened grid_worked before xs ++ all_happened grid_worked (before ++ all_happened grid_worked before xs) ys
happened_more before [] ys = ap (λ b. all_happened grid_worked b ys) (sym (append-nil before))
happened_more before (x ∷ xs) ys =
    let h : Happening = happened grid_worked before x in
    let rest : List Happening = all_happened grid_worked (before ++ h ∷ []) xs in
    ap (λ hs. h ∷ hs) (happened_more (before ++ h ∷ []) xs ys ∙ ap (λ b. rest ++ all_happened grid_worked b ys) (append_assoc before (h ∷ []) rest))

writes_more : (many before : ℕ) → writes_worked before (suc many) ≡ writes_worked before many ++ (write_worked (before + many + 1) ++ looks_worked (before + many + 1))
writes_more zero before = let e : before ≡ before + 0 = omega arith in ap (λ n. write_worked (n + 1) ++ looks_worked (n + 1)) e
writes_more (suc many) before =
    let e : before + 1 + many ≡ before + suc many = omega arith in
    ap (λ rest. write_worked (before + 1) ++ looks_worked (before + 1) ++ rest) (writes_more many (before + 1))
    ∙ ap (λ n. write_worked (before + 1) ++ looks_worked (before + 1) ++ (writes_worked (before + 1) many ++ (write_worked (n + 1) ++ looks_worked (n + 1)))) e

-- the last two lines are the looks behind the last write
ends_so : (m : ℕ) (s : Idle) → m + 1 < 2 ^ 32 → Stands s m → known_after grid_worked 0 new (losses_known ++ all_known 0 m) ≡ nodes_of s m → AreRead grid_worked (losses_worked ++ writes_worked 0 m) (losses_known ++ all_known 0 m) →
    EndsWithLooks (suc m)
ends_so m s low stands is read = record { before = before; ends = run_is ∙ (λ i. before ++ one i ∷ next i ∷ []) ∙ (λ i. before ++ tells_look 0 (number i) ∷ tells_look 193 (number i) ∷ []) }
  where
    op : ℕ
    op = m + 1

    sent : List Sent
    sent = losses_worked ++ writes_worked 0 m ++ write_worked op

    before : List Happening
    before = all_happened grid_worked [] sent

    written_lines : List Known
    written_lines = asked_line op ∷ here_line op ∷ there_line op ∷ done_line op ∷ []

    known : List Known
    known = losses_known ++ all_known 0 m ++ written_lines

    lines : AreRead grid_worked (write_worked op ++ looks_worked op) (known_of op)
    lines = write_read op low

    all_read : AreRead grid_worked sent known
    all_read = read_append grid_worked (losses_worked ++ writes_worked 0 m) (losses_known ++ all_known 0 m) (write_worked op) written_lines read (lines.0, (lines.1.0, (lines.1.1.0, (lines.1.1.1.0, tt))))

    -- what the nodes have behind the write, and behind the first look
    behind : known_after grid_worked 0 new known ≡ shown (done_both s m)
    behind = after_append grid_worked 0 (losses_known ++ all_known 0 m) written_lines new ∙ ap (λ nodes. known_after grid_worked 0 nodes written_lines) is ∙ done_after s m [] low stands

    at_first : nodes_at grid_worked before 0 ≡ shown (done_both s m)
    at_first = lines_after grid_worked 0 sent known new [] all_read ∙ behind

    one_look : List Sent
    one_look = Sends 0 3 (look_text grid_worked.plan 0 0 op 0) ∷ []

    h : Happening
    h = happened grid_worked before (Sends 0 3 (look_text grid_worked.plan 0 0 op 0))

    at_next : nodes_at grid_worked (before ++ h ∷ []) 0 ≡ shown (looked_home s m)
    at_next =
        ap (λ hs. nodes_at grid_worked hs 0) (sym (happened_more [] sent one_look))
        ∙ lines_after grid_worked 0 (sent ++ one_look) (known ++ home_line op ∷ []) new [] (read_append grid_worked sent known one_look (home_line op ∷ []) all_read (lines.1.1.1.1.0, tt))
        ∙ after_append grid_worked 0 known (home_line op ∷ []) new
        ∙ ap (λ nodes. known_after grid_worked 0 nodes (home_line op ∷ [])) behind
        ∙ goes_after (shown (done_both s m)) (shown (looked_home s m)) (home_line op) [] (looked_here s m stands)

    k : Happening
    k = happened grid_worked (before ++ h ∷ []) (Sends 193 3 (look_text grid_worked.plan 193 0 op 0))

    one : h ≡ tells_look 0 op
    one = look_told before 0 op lines.1.1.1.1.0.2 (ap (λ (nodes : Nodes). (nodes.local 0).volumes) at_first) (ap (λ (nodes : Nodes). (nodes.local 0).lacks file) at_first)
        (ap (λ (nodes : Nodes). copy_in (part_in (nodes.local 0)) file) at_first ∙ newer m (s.copies file) stands.number)

    next : k ≡ tells_look 193 op
    next = look_told (before ++ h ∷ []) 193 op lines.1.1.1.1.1.0.2 (ap (λ (nodes : Nodes). (nodes.local 193).volumes) at_next) (ap (λ (nodes : Nodes). (nodes.local 193).lacks file) at_next)
        (ap (λ (nodes : Nodes). copy_in (part_in (nodes.local 193)) file) at_next ∙ newer m (s.copies_there file) stands.number_there)

    e : 0 + m ≡ m
    e = omega arith

    number : op ≡ suc m
    number = omega arith

    run_is : run_worked (suc m) ≡ before ++ h ∷ k ∷ []
    run_is =
        ap (λ w. all_happened grid_worked [] (losses_worked ++ w)) (writes_more m 0 ∙ ap (λ n. writes_worked 0 m ++ (write_worked (n + 1) ++ looks_worked (n + 1))) e)
        ∙ ap (all_happened grid_worked []) (sym (append_assoc losses_worked (writes_worked 0 m) (write_worked op ++ looks_worked op)) ∙ sym (append_assoc (losses_worked ++ writes_worked 0 m) (write_worked op) (looks_worked op)))
        ∙ happened_more [] sent (looks_worked op)

looks_end : (many : ℕ) → many < 2 ^ 32 → 0 < many → EndsWithLooks many
looks_end zero low some = absurd (omega arith)
looks_end (suc m) low some =
    let after : AreDone (nodes_of start 0) 0 m = are_done m 0 start (omega arith) start_stands in
    let e : 0 + m ≡ m = omega arith in
    ends_so m after.last (omega arith) (subst (Stands after.last) e after.stands)
    (after_append grid_worked 0 losses_known (all_known 0 m) new ∙ ap (λ nodes. known_after grid_worked 0 nodes (all_known 0 m)) (lost_are ∙ start_is) ∙ after.is ∙ ap (nodes_of after.last) e)
    (read_append grid_worked losses_worked losses_known (writes_worked 0 m) (all_known 0 m) losses_read (writes_read m 0 (omega arith)))

-- ---- the whole

pub all_worked : AllWorked
all_worked many low =
    let after : AreDone (nodes_of start 0) 0 many = are_done many 0 start (omega arith) start_stands in
    let begun : known_after grid_worked 0 new losses_known ≡ nodes_of start 0 = lost_are ∙ start_is in
    let sent : List Sent = losses_worked ++ writes_worked 0 many in
    let known : List Known = losses_known ++ all_known 0 many in
    let read : AreRead grid_worked sent known = read_append grid_worked losses_worked losses_known (writes_worked 0 many) (all_known 0 many) losses_read (writes_read many 0 (omega arith)) in
    let all : AllKnownCan grid_worked 0 new known =
    can_append grid_worked 0 losses_known (all_known 0 many) new losses_can (subst (λ nodes. AllKnownCan grid_worked 0 nodes (all_known 0 many)) (sym begun) after.can) in
    let lines : LinesCanCome grid_worked 0 new (run_worked many) = lines_can grid_worked 0 sent known new [] read all in
    let number : 0 + many ≡ many = omega arith in
    let end : nodes_at grid_worked (run_worked many) 0 ≡ nodes_of after.last (0 + many) =
    lines_after grid_worked 0 sent known new [] read ∙ after_append grid_worked 0 losses_known (all_known 0 many) new ∙ ap (λ nodes. known_after grid_worked 0 nodes (all_known 0 many)) begun ∙ after.is in
    record {
      sound = plans_sound;
      opens = (refl, tt);
      can = lines;
      right = (follows_law grid_worked (run_worked many) 0 plans_sound lines).right (refl, tt);
      first_gone = ap (λ (nodes : Nodes). nodes.gone 1) end ∙ after.stands.gone_first;
      next_gone = ap (λ (nodes : Nodes). nodes.gone 65) end ∙ after.stands.gone_next;
      last_gone = ap (λ (nodes : Nodes). nodes.gone 129) end ∙ after.stands.gone_last;
      stays = ap (λ (nodes : Nodes). nodes.gone 0) end ∙ after.stands.stays;
      stays_there = ap (λ (nodes : Nodes). nodes.gone 193) end ∙ after.stands.stays_there;
      done = λ some. subst (IsDone (nodes_at grid_worked (run_worked many) 0)) number
          (let last : IsLast after.last (0 + many) = after.stands.done (omega arith) in
          subst (λ nodes. IsDone nodes (0 + many)) (sym end) (record { last = refl; idle = refl; done = last.outcome; first = last.here; second = last.there }));
      looks = looks_end many low;
    }
