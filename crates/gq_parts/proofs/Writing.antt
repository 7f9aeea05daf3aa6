-- The worked case goes on: a session writes, as often as one likes. The words on quorums are opened here to compute.
use Rattle.std.proofs.Common.{◌≡◌, ◌∙◌, ℕ, suc, ◌+◌, ◌<◌, ◌^◌, Bool, true, false, List, [], ◌∷◌, ◌++◌, max, refl, ap, arith, append-nil, Option, Some, None, inl, inr}
use Rattle.std.specs.Prelude.{◌==◌, nat_lt, if◌then◌else◌}
use Rattle.std.proofs.lemmas.Bool.{cases_Bool, eq-eqb, ne_eqb, eqb-true, lt-ltb}
use Rattle.std.proofs.lemmas.Bool.Decides.{nat_tests}
use Rattle.gq_grid.specs.Grid.{Servers}
use Rattle.gq_tag.specs.declared.StoredCopy.{StoredCopy}
use Rattle.gq_tag.specs.declared.Body.TheVariants.{Ask, Copy, Store, Stored}
use Rattle.gq_tag.specs.Tag.{File, is_file, OwnMessage, greatest}
use Rattle.gq_phase.specs.declared.Outcome.{Outcome}
use Rattle.gq_phase.specs.declared.Outcome.TheVariants.{Wrote}
use Rattle.gq_phase.specs.Phase.{Reply, Writing, Operation}
use Rattle.gq_phase.specs.Quorums.{collect_quorum, store_quorum, ends_collect, ends_store}
use Rattle.gq_model.specs.declared.events.Line.{Line}
use Rattle.gq_model.specs.declared.events.Line.TheVariants.{Write}
use Rattle.gq_model.specs.Told.{Began, Noted, Round, Done}
use Rattle.gq_model.specs.Trace.{Own, State}
use Rattle.gq_model.specs.Lone.{Step, entry_of, hear_step}
use Rattle.gq_cluster.specs.Facts.{Reserved}
use Rattle.gq_laws.proofs.Holding.{greatest-cons}
use Rattle.gq_node.specs.Inputs.{Input, Asked, AskedLook, Brought, does}
use Rattle.gq_node.specs.Local.{Local, Resident, Doing, state_for, goes_on, brings, serves, with_resident, copy_fits, has_above}
use Rattle.gq_node.specs.Nodes.{NodeWorld, Nodes, Came, site_in, posts, after_doing, after_event}
use Rattle.gq_node.specs.Sites.{Site}
use Rattle.gq_replace.specs.Fleet.{Posted}
use Rattle.gq_parts.specs.AllNodes.{world_at}
use Rattle.gq_parts.specs.Within.{gives_again, own_by, first_own, own_of, hops, within}
use Rattle.gq_parts.specs.Worked.{grid_worked, content, written, letter_worked}
use Rattle.gq_parts.proofs.Taking.{hops_none, IsPlain}

abbrev pub world : NodeWorld
world = world_at grid_worked 0

-- the session's home, and the other node
abbrev pub home_site : Site
home_site = site_in world 3 0

abbrev pub other_site : Site
other_site = site_in world 3 193

abbrev pub file : File
file = record { volume = 0; place = 0 }

-- ---- what the nodes have

-- session 1, whose last operation has this number, and so its last write
abbrev pub resting : (op round : ℕ) → List Reply → List StoredCopy → Reserved → Option Outcome → Bool → Resident
resting op round heard collected reserved outcome waited = record {
  session = record { op = op; current = None; round = round; heard = heard; collected = collected; floor = op };
  reserved = reserved;
  outcome = outcome;
  row = 0;
  column = 0;
  waited = waited;
  stays = 0;
}

-- and while it writes
abbrev pub writing : (op floor round : ℕ) → List Reply → List StoredCopy → Reserved → Option Outcome → Bool → Resident
writing op floor round heard collected reserved outcome waited = record {
  session = record { op = op; current = Some (Writing file content); round = round; heard = heard; collected = collected; floor = floor };
  reserved = reserved;
  outcome = outcome;
  row = 0;
  column = 0;
  waited = waited;
  stays = 0;
}

abbrev pub home_local : (File → List StoredCopy) → Servers → (peer : ℕ) → (ℕ → Resident) → Resident → Local
home_local copies joined peer others r =
    record { volumes = record { files = 1; blocks = 1 } ∷ []; brought = copies; lacks = λ f. false; joined = joined; peer = peer; residents = λ k. if 1 == k then r else others k }

-- the other node has the file, whichever others it lacks
abbrev pub other_local : (File → List StoredCopy) → (File → Bool) → Servers → (peer : ℕ) → (ℕ → Resident) → Local
other_local copies lacks joined peer residents = record {
  volumes = record { files = 1; blocks = 1 } ∷ [];
  brought = copies;
  lacks = λ f. if is_file file f then false else lacks f;
  joined = joined;
  peer = peer;
  residents = residents;
}

-- ---- the letters of a write

abbrev pub ask : (op : ℕ) → OwnMessage
ask op = record { session = 1; op = op; round = 1; server = 0; file = file; body = Ask }

abbrev pub copy : (op : ℕ) → StoredCopy → OwnMessage
copy op c = record { session = 1; op = op; round = 1; server = 0; file = file; body = Copy c }

abbrev pub store : (op server : ℕ) → OwnMessage
store op server = letter_worked op server (Store (written op))

abbrev pub stored : (op server : ℕ) → OwnMessage
stored op server = letter_worked op server Stored

-- ---- tests of numbers

later_no : (i : ℕ) → nat_lt (i + 1) i ≡ false
later_no i = grind (arith, nat_tests)

some_no : (i : ℕ) → ((i + 1) == 0) ≡ false
some_no i = ne_eqb (i + 1) 0 (λ e. omega arith)

next_no : (i : ℕ) → ((i + 1) == i) ≡ false
next_no i = ne_eqb (i + 1) i (λ e. omega arith)

pub same_yes : (n : ℕ) → (n == n) ≡ true
same_yes n = eq-eqb n n refl

pub above_yes : (n : ℕ) → n < 2 ^ 32 → has_above n ≡ true
above_yes n low = lt-ltb n 18446744073709551615 (omega arith)

pub fits_yes : (n : ℕ) → n < 2 ^ 32 → copy_fits 64 (written n) ≡ true
fits_yes n low = rw (above_yes n low) refl

-- ---- each step of a write

pub asked_step_is : (i round : ℕ) (copies : File → List StoredCopy) (joined : Servers) (peer : ℕ) (others : ℕ → Resident) (heard : List Reply) (collected : List StoredCopy) (reserved : Reserved) (outcome : Option Outcome) (waited : Bool) →
    let local : Local = home_local copies joined peer others (resting i round heard collected reserved outcome waited) in
    let state : State = state_for home_site local 1 in
    does (Asked (i + 1) (Write 1 0 0 content)) home_site local ≡ goes_on local 1 (i + 1) false state (entry_of state (Own (Write 1 0 0 content)) (record { told = Began (i + 1) 0 1; new = ask (i + 1) ∷ [] }))
unfolding collect_quorum
asked_step_is i round copies joined peer others heard collected reserved outcome waited = rw (later_no i, some_no i, next_no i, same_yes (i + 1)) refl

-- the session hears its own server's copy, and decides its own, above it
hear_copy : (i : ℕ) (c : StoredCopy) (local : Local) → c.tag.number ≡ i →
    let o : Operation = record { session = 1; op = i + 1; task = Writing file content; round = 1; heard = []; collected = []; floor = i } in
    let state : State = state_for home_site (home_local local.brought local.joined local.peer local.residents (writing (i + 1) i 1 [] [] (local.residents 1).reserved None false)) 1 in
    hear_step home_site.grid state (copy (i + 1) c) (Some o)
    ≡ record { told = Round 2 (Some (written (i + 1)).tag) 0 2; new = store (i + 1) 0 ∷ store (i + 1) 1 ∷ [] }
unfolding collect_quorum store_quorum ends_collect ends_store
hear_copy i c local number = rw (same_yes (i + 1)) (ap (λ n. step n) (ap (λ (x : StoredCopy). max x.tag.number i) (greatest-cons c []) ∙ least))
  where
    least : max c.tag.number i ≡ i
    least = omega arith

    made : ℕ → StoredCopy
    made n = record { tag = record { number = n + 1; session = 1 }; bytes = content }

    step : ℕ → Step
    step n = record { told = Round 2 (Some (made n).tag) 0 2; new = letter_worked (i + 1) 0 (Store (made n)) ∷ letter_worked (i + 1) 1 (Store (made n)) ∷ [] }

-- ---- what the session then has

-- the doing by which it goes on to store, with the copy that it decided
abbrev pub decided : (i : ℕ) → StoredCopy → Local → Doing
decided i c local = goes_on local 1 (i + 1) false (state_for home_site local 1)
    (brings (copy (i + 1) c) (record { told = Round 2 (Some (written (i + 1)).tag) 0 2; new = store (i + 1) 0 ∷ store (i + 1) 1 ∷ [] }))

abbrev pub storing : (i : ℕ) → StoredCopy → Local → Doing
storing i c local = record (decided i c local) {
  local = with_resident local 1 (record ((decided i c local).local.residents 1) {
    session = record { op = i + 1; current = Some (Writing file content); round = 2; heard = []; collected = written (i + 1) ∷ []; floor = i + 1 };
  });
}

pub copy_step_is : (i : ℕ) (c : StoredCopy) (copies : File → List StoredCopy) (joined : Servers) (peer : ℕ) (others : ℕ → Resident) (reserved : Reserved) (outcome : Option Outcome) (waited : Bool) →
    let local : Local = home_local copies joined peer others (writing (i + 1) i 1 [] [] reserved outcome waited) in
    i + 1 < 2 ^ 32 → c.tag.number ≡ i → copy_fits 64 c ≡ true → does (Brought 0 (copy (i + 1) c)) home_site local ≡ storing i c local
unfolding collect_quorum store_quorum ends_collect ends_store
copy_step_is i c copies joined peer others reserved outcome waited low number fits =
    rw (fits, above_yes i (omega arith)) (ap (λ step. goes_on local 1 (i + 1) false (state_for home_site local 1) (brings (copy (i + 1) c) step)) (hear_copy i c local number)) ∙ same
  where
    local : Local
    local = home_local copies joined peer others (writing (i + 1) i 1 [] [] reserved outcome waited)

    made : ℕ → StoredCopy
    made n = record { tag = record { number = n + 1; session = 1 }; bytes = content }

    least : max c.tag.number i ≡ i
    least = omega arith

    e : max (greatest (c ∷ [])).tag.number i ≡ i
    e = ap (λ (x : StoredCopy). max x.tag.number i) (greatest-cons c []) ∙ least

    same : decided i c local ≡ storing i c local
    same = λ j. record (decided i c local) {
      local = with_resident local 1 (record ((decided i c local).local.residents 1) {
        session = record { op = i + 1; current = Some (Writing file content); round = 2; heard = []; collected = made (e j) ∷ []; floor = i + 1 };
      });
    }

-- a server stores it
pub home_stores : (i : ℕ) (copies : File → List StoredCopy) (joined : Servers) (peer : ℕ) (others : ℕ → Resident) (r : Resident) →
    let local : Local = home_local copies joined peer others r in
    i + 1 < 2 ^ 32 → does (Brought 0 (store (i + 1) 0)) home_site local ≡ serves home_site local (store (i + 1) 0)
home_stores i copies joined peer others r low = rw (above_yes (i + 1) low) refl

pub other_stores : (i : ℕ) (copies : File → List StoredCopy) (lacks : File → Bool) (joined : Servers) (peer : ℕ) (residents : ℕ → Resident) →
    let local : Local = other_local copies lacks joined peer residents in
    i + 1 < 2 ^ 32 → does (Brought 0 (store (i + 1) 1)) other_site local ≡ serves other_site local (store (i + 1) 1)
other_stores i copies lacks joined peer residents low = rw (above_yes (i + 1) low) refl

-- the home's own server tells so, and then the other one
abbrev pub noted : (i : ℕ) → Local → Doing
noted i local = goes_on local 1 (i + 1) false (state_for home_site local 1) (brings (stored (i + 1) 0) (record { told = Noted; new = [] }))

pub own_stored : (i : ℕ) (copies : File → List StoredCopy) (joined : Servers) (peer : ℕ) (others : ℕ → Resident) (reserved : Reserved) (outcome : Option Outcome) (waited : Bool) →
    let local : Local = home_local copies joined peer others (writing (i + 1) (i + 1) 2 [] (written (i + 1) ∷ []) reserved outcome waited) in
    i + 1 < 2 ^ 32 → does (Brought 0 (stored (i + 1) 0)) home_site local ≡ noted i local
unfolding collect_quorum store_quorum ends_collect ends_store
own_stored i copies joined peer others reserved outcome waited low = rw (above_yes (i + 1) low, same_yes (i + 1)) refl

abbrev pub done : (i : ℕ) → Local → Doing
done i local = goes_on local 1 (i + 1) false (state_for home_site local 1) (brings (stored (i + 1) 1) (record { told = Done (Wrote 1 (i + 1) (written (i + 1)).tag); new = [] }))

pub other_stored : (i : ℕ) (copies : File → List StoredCopy) (joined : Servers) (peer : ℕ) (others : ℕ → Resident) (reserved : Reserved) (outcome : Option Outcome) (waited : Bool) →
    let local : Local = home_local copies joined peer others (writing (i + 1) (i + 1) 2 (record { server = 0; body = Stored } ∷ []) (written (i + 1) ∷ []) reserved outcome waited) in
    i + 1 < 2 ^ 32 → does (Brought 193 (stored (i + 1) 1)) home_site local ≡ done i local
unfolding collect_quorum store_quorum ends_collect ends_store
other_stored i copies joined peer others reserved outcome waited low = rw (above_yes (i + 1) low, same_yes (i + 1)) refl

-- ---- what is taken within

first_hop : (site : Site) (local : Local) (x : Input) (doing : Doing) (ms : List OwnMessage) → IsPlain x → does x site local ≡ doing → own_by (gives_again x) site doing.letters ≡ ms →
    within site local x ≡ x ∷ hops 8 site doing.local ms
unfolding within
first_hop site local x doing ms plain is own = ap (λ rest. x ∷ rest) (λ i. hops 8 site (is i).local (e i))
  where
    e : first_own site local x ≡ ms
    e = ap (own_by (gives_again x) site) ((plain site local).0 ∙ ap (λ (d : Doing). d.letters) is) ∙ own

one_hop : (n : ℕ) (site : Site) (local : Local) (m : OwnMessage) (doing : Doing) (ms : List OwnMessage) → does (Brought site.here m) site local ≡ doing → own_of site doing.letters ≡ ms →
    hops (suc n) site local (m ∷ []) ≡ Brought site.here m ∷ hops n site doing.local ms
unfolding hops
one_hop n site local m doing ms is own = ap (λ rest. Brought site.here m ∷ rest) (λ i. hops n site (is i).local (e i))
  where
    e : own_of site (does (Brought site.here m) site local).letters ++ [] ≡ ms
    e = ap (λ (d : Doing). own_of site d.letters ++ []) is ∙ ap (λ z. z ++ []) own ∙ append-nil ms

pub within_one : (site : Site) (local : Local) (x : Input) (doing : Doing) → IsPlain x → does x site local ≡ doing → own_by (gives_again x) site doing.letters ≡ [] → within site local x ≡ x ∷ []
within_one site local x doing plain is own = first_hop site local x doing [] plain is own ∙ ap (λ rest. x ∷ rest) (hops_none 8 site doing.local)

pub within_two : (site : Site) (local : Local) (x : Input) (m : OwnMessage) (one two : Doing) → IsPlain x → does x site local ≡ one → own_by (gives_again x) site one.letters ≡ m ∷ [] →
    does (Brought site.here m) site one.local ≡ two → own_of site two.letters ≡ [] → within site local x ≡ x ∷ Brought site.here m ∷ []
within_two site local x m one two plain is own also none =
    first_hop site local x one (m ∷ []) plain is own ∙ ap (λ rest. x ∷ rest) (one_hop 7 site one.local m two [] also none ∙ ap (λ rest. Brought site.here m ∷ rest) (hops_none 7 site two.local))

pub within_three : (site : Site) (local : Local) (x : Input) (m k : OwnMessage) (one two three : Doing) → IsPlain x → does x site local ≡ one → own_by (gives_again x) site one.letters ≡ m ∷ [] →
    does (Brought site.here m) site one.local ≡ two → own_of site two.letters ≡ k ∷ [] → does (Brought site.here k) site two.local ≡ three → own_of site three.letters ≡ [] →
    within site local x ≡ x ∷ Brought site.here m ∷ Brought site.here k ∷ []
within_three site local x m k one two three plain is own also more last none =
    first_hop site local x one (m ∷ []) plain is own
    ∙ ap (λ rest. x ∷ rest) (one_hop 7 site one.local m two (k ∷ []) also more ∙ ap (λ rest. Brought site.here m ∷ rest) (one_hop 6 site two.local k three [] last none ∙ ap (λ rest. Brought site.here k ∷ rest) (hops_none 6 site three.local)))

-- ---- all nodes

-- these nodes, in which two have these parts, and the last plan, and this was written
abbrev pub two : (rest : Nodes) → List Posted → (home other : Local) → Nodes
two rest ps home other = record rest {
  last_plan = λ m. if m == 0 then 3 else if m == 193 then 3 else rest.last_plan m;
  local = λ m. if m == 0 then home else if m == 193 then other else rest.local m;
  posted = ps;
}

-- what else is left by the doing of a node
abbrev pub left_by : (rest nodes : Nodes) → ℕ → Doing → Nodes
left_by rest nodes n doing = record rest { facts = (after_doing world nodes n doing).facts; wanted = (after_doing world nodes n doing).wanted; fetched = (after_doing world nodes n doing).fetched }

over_home : (a b : Bool) (x y z l : Local) → (if a then x else if a then y else if b then z else l) ≡ (if a then x else if b then z else l)
over_home true b x y z l = refl
over_home false b x y z l = refl

home_doing : (rest : Nodes) (ps : List Posted) (home other : Local) (doing : Doing) →
    after_doing world (two rest ps home other) 0 doing ≡ two (left_by rest (two rest ps home other) 0 doing) (ps ++ posts world (two rest ps home other) 0 doing.letters) doing.local other
home_doing rest ps home other doing = λ i. record (after_doing world (two rest ps home other) 0 doing) { local = λ m. over_home (m == 0) (m == 193) doing.local home other (rest.local m) i }

over_other : (m : ℕ) (x y z l : Local) → (if m == 193 then x else if m == 0 then y else if m == 193 then z else l) ≡ (if m == 0 then y else if m == 193 then x else l)
over_other m x y z l = elim (cases_Bool (m == 0)) [
  | inl is ↦ (let away : (m == 193) ≡ false = ne_eqb m 193 (λ e. let f = eqb-true m 0 is in omega (arith, e, f)) in rw (is, away) refl)
  | inr is ↦ (rw is (by (m == 193)))
]
  where
    by : (b : Bool) → (if b then x else if b then z else l) ≡ (if b then x else l)
    by true = refl
    by false = refl

other_doing : (rest : Nodes) (ps : List Posted) (home other : Local) (doing : Doing) →
    after_doing world (two rest ps home other) 193 doing ≡ two (left_by rest (two rest ps home other) 193 doing) (ps ++ posts world (two rest ps home other) 193 doing.letters) home doing.local
other_doing rest ps home other doing = λ i. record (after_doing world (two rest ps home other) 193 doing) { local = λ m. over_other m doing.local home other (rest.local m) i }

pub home_asked : (rest : Nodes) (ps : List Posted) (home other : Local) (op : ℕ) (line : Line) (doing : Doing) → does (Asked op line) home_site home ≡ doing →
    after_event world (two rest ps home other) (Came 0 (Asked op line)) ≡ two (left_by rest (two rest ps home other) 0 doing) (ps ++ posts world (two rest ps home other) 0 doing.letters) doing.local other
home_asked rest ps home other op line doing is = ap (after_doing world (two rest ps home other) 0) is ∙ home_doing rest ps home other doing

pub home_brought : (rest : Nodes) (ps : List Posted) (home other : Local) (from : ℕ) (m : OwnMessage) (doing : Doing) → does (Brought from m) home_site home ≡ doing →
    after_event world (two rest ps home other) (Came 0 (Brought from m)) ≡ two (left_by rest (two rest ps home other) 0 doing) (ps ++ posts world (two rest ps home other) 0 doing.letters) doing.local other
home_brought rest ps home other from m doing is = ap (after_doing world (two rest ps home other) 0) is ∙ home_doing rest ps home other doing

pub other_brought : (rest : Nodes) (ps : List Posted) (home other : Local) (from : ℕ) (m : OwnMessage) (doing : Doing) → does (Brought from m) other_site other ≡ doing →
    after_event world (two rest ps home other) (Came 193 (Brought from m)) ≡ two (left_by rest (two rest ps home other) 193 doing) (ps ++ posts world (two rest ps home other) 193 doing.letters) home doing.local
other_brought rest ps home other from m doing is = ap (after_doing world (two rest ps home other) 193) is ∙ other_doing rest ps home other doing

-- a look leaves both as they are
pub home_looked : (rest : Nodes) (ps : List Posted) (home other : Local) (mark : ℕ) → let doing : Doing = does (AskedLook mark 0) home_site home in
    after_event world (two rest ps home other) (Came 0 (AskedLook mark 0)) ≡ two (left_by rest (two rest ps home other) 0 doing) (ps ++ posts world (two rest ps home other) 0 doing.letters) doing.local other
home_looked rest ps home other mark = home_doing rest ps home other (does (AskedLook mark 0) home_site home)

pub other_looked : (rest : Nodes) (ps : List Posted) (home other : Local) (mark : ℕ) → let doing : Doing = does (AskedLook mark 0) other_site other in
    after_event world (two rest ps home other) (Came 193 (AskedLook mark 0)) ≡ two (left_by rest (two rest ps home other) 193 doing) (ps ++ posts world (two rest ps home other) 193 doing.letters) home doing.local
other_looked rest ps home other mark = other_doing rest ps home other (does (AskedLook mark 0) other_site other)
