-- Parts that are alike do the same.
use Rattle.std.proofs.Common.{◌≡◌, ◌∙◌, ℕ, zero, suc, ◌+◌, ◌<◌, Bool, true, false, List, [], ◌∷◌, ◌++◌, length, map, cond, refl, sym, ap, subst, arith, Option, Some, None, inl, inr}
use Rattle.std.specs.Prelude.{◌==◌, ◌&&◌, ◌||◌, not, nat_lt, is_some, slice_get, find, fold, ⊤, if◌then◌else◌}
use Rattle.std.specs.List.{flat_map, range_with_len}
use Rattle.std.proofs.lemmas.Bool.{cases_Bool, and_parts, eqb-true, lt-ltb, true≢false}
use Rattle.gq_grid.specs.Grid.{Servers, no_servers, with_server}
use Rattle.gq_tag.specs.declared.StoredCopy.{StoredCopy}
use Rattle.gq_tag.specs.declared.Body.{Body}
use Rattle.gq_tag.specs.declared.Body.TheVariants.{Ask, Copy, Store, Stored}
use Rattle.gq_tag.specs.Tag.{File, OwnMessage, is_file, to_server, first_copy, greatest, newer_of}
use Rattle.gq_desk.specs.declared.volumes.VolumeRow.{VolumeRow}
use Rattle.gq_phase.specs.declared.Row.{Row}
use Rattle.gq_phase.specs.Phase.{heard_servers, is_collect, listed_row}
use Rattle.gq_model.specs.declared.events.Line.{Line}
use Rattle.gq_model.specs.declared.events.Line.TheVariants.{Write, Read, List as ListFiles, Abandon}
use Rattle.gq_model.specs.Trace.{Own, Entry, State, changed, files_of, operation, limit_at}
use Rattle.gq_model.specs.Lone.{Step, entry_of, is_refusal, asked_step, hear_step, retry_step, reply_to}
use Rattle.gq_laws.proofs.Holding.{greatest-push}
use Rattle.gq_laws.proofs.OperationMoments.{same_file}
use Rattle.gq_cluster.specs.Cluster.{everyone, copy_in}
use Rattle.gq_cluster.specs.Facts.{Had, reserving, reserved_by, replaced_in}
use Rattle.gq_replace.specs.Plans.{place_of}
use Rattle.gq_node.specs.declared.output.Answer.{Answer}
use Rattle.gq_node.specs.declared.output.Answer.TheVariants.{Refused as IsRefused, Away, Old, Early, Looked, NotLooked, Bad as IsBad}
use Rattle.gq_model.specs.declared.events.Refusal.TheVariants.{NoSession}
use Rattle.gq_node.specs.Joining.{all_files, files_in_volume, lacked_files, hears_joined, all_joined, first_lacked, peer_for, asks_peer, looks, is_peer, has_file, gives, takes}
use Rattle.gq_node.specs.Columns.{column_behind, stays_after}
use Rattle.gq_node.specs.Lanes.{lane_of, lacks_of_lane}
use Rattle.gq_node.specs.Local.{Local, Resident, Doing, Wants, Brings, part_in, state_of, state_for, state_behind, aim_at, tries_next, with_resident, silently, tells, answer_of, outcome_after, waits_after, goes_on, asker, begins, ended, asked_by, asks, letter_fits, file_fits, has_above, of_round, brings, serves, hears, receives, waits_on, ticks, with_copy, given}
use Rattle.gq_node.specs.Looked.{held_row, look_answer}
use Rattle.gq_node.specs.Sites.{Site, has_session, is_new, has_node, aim}
use Rattle.gq_node.proofs.Receiving.{Parts, parts, session_here, to_a_session, to_the_server, has_it, lacks_it}
use Rattle.gq_parts.specs.Alike.{is_own_session, is_file_in, AreAlike, DoSame}
use Rattle.gq_parts.proofs.Knowing.{takes_it}

-- ---- doings

same_as : (site : Site) (p p' q q' : Doing) → p ≡ p' → q ≡ q' → DoSame site p' q' → DoSame site p q
same_as site p p' q q' left right same = subst (λ x. DoSame site x q) (sym left) (subst (DoSame site p') (sym right) same)

-- nothing is done; and the same is told alone
pub silent_same : (site : Site) (a b : Local) → AreAlike site a b → DoSame site (silently a) (silently b)
silent_same site a b alike = record { local = alike; answer = refl; letters = refl; transfer = refl; fact = refl }

told_same : (site : Site) (a b : Local) (answer : Answer) → AreAlike site a b → DoSame site (tells a answer) (tells b answer)
told_same site a b answer alike = record { local = alike; answer = refl; letters = refl; transfer = refl; fact = refl }

-- a file is there in both, with the same limit
pub same_limits : (site : Site) (a b : Local) (file : File) → AreAlike site a b → limit_at (state_of everyone a) file.volume file.place ≡ limit_at (state_of everyone b) file.volume file.place
same_limits site a b file alike = ap (λ (vs : List VolumeRow). limit_at (state_of everyone (record b { volumes = vs })) file.volume file.place) alike.volumes

pub fits_there : (limit : Option ℕ) (body : Body) → file_fits limit body ≡ true → is_some limit ≡ true
fits_there None body fits = fits
fits_there (Some limit) body fits = refl

-- ---- a session

-- another resident, the same in both
pub with_same : (site : Site) (a b : Local) (k : ℕ) (r q : Resident) → is_own_session site k ≡ true → r ≡ q → AreAlike site a b → AreAlike site (with_resident a k r) (with_resident b k q)
with_same site a b k r q own same alike = record {
  volumes = alike.volumes;
  copies = alike.copies;
  lacks = alike.lacks;
  joined = alike.joined;
  peer = alike.peer;
  residents = λ j its. here j its (k == j) refl;
  idle = λ j not. there j not (k == j) refl;
}
  where
    here : (j : ℕ) → is_own_session site j ≡ true → (c : Bool) → (k == j) ≡ c → (with_resident a k r).residents j ≡ (with_resident b k q).residents j
    here j its true is = rw is same
    here j its false is = rw is (alike.residents j its)

    there : (j : ℕ) → is_own_session site j ≡ false → (c : Bool) → (k == j) ≡ c → (((with_resident a k r).residents j).session.current ≡ None) × (((with_resident b k q).residents j).session.current ≡ None)
    there j not' true is = absurd (true≢false (sym own ∙ ap (is_own_session site) (eqb-true k j is) ∙ not'))
    there j not' false is = rw is (alike.idle j not')

-- the session goes on by entries that say the same, and leave it the same
goes_same : (site : Site) (a b : Local) (k m n : ℕ) (g h : Bool) (sa sb : State) (ea eb : Entry) → is_own_session site k ≡ true → m ≡ n → g ≡ h → (changed ea sa).session k ≡ (changed eb sb).session k → ea.told ≡ eb.told → ea.new ≡ eb.new →
    AreAlike site a b → DoSame site (goes_on a k m g sa ea) (goes_on b k n h sb eb)
goes_same site a b k m n g h sa sb ea eb own ops heards sessions tolds news alike =
    let r : a.residents k ≡ b.residents k = alike.residents k own in
    record {
      local = with_same site a b k _ _ own (λ i. record (r i) {
        session = sessions i;
        reserved = reserved_by (reserving k (r i).reserved (tolds i) (sessions i).floor) (r i).reserved;
        outcome = outcome_after (tolds i) (r i).outcome;
        waited = waits_after (tolds i) (heards i) (r i).waited;
        stays = stays_after (tolds i) (r i).stays;
      }) alike;
      answer = λ i. answer_of k (ops i) (r i).session.op (tolds i);
      letters = news;
      transfer = refl;
      fact = λ i. reserving k (r i).reserved (tolds i) (sessions i).floor;
    }

-- ---- a request

-- the answers of a part of which only this is known
abbrev pub lone : List VolumeRow → Servers → Resident → State
lone volumes up r = state_of up (record { volumes = volumes; brought = λ file. []; lacks = λ file. false; joined = no_servers; peer = 0; residents = λ k. r })

abbrev alone : Site → List VolumeRow → Resident → State
alone site volumes r = lone volumes (aim_at site.grid r) r

abbrev said : Site → Line → State → Step
said site line state = asked_step site.grid site.row state line

abbrev left : Site → (k : ℕ) → Line → State → Entry
left site k line state = entry_of state (Own line) (said site line state)

-- what the model says to a request, and what it leaves of the session, hangs on the session and the volumes alone
record SaysSame (site : Site) (k : ℕ) (line : Line) (a b : Local) : Type 0 where
  told : (said site line (state_for site a k)).told ≡ (said site line (state_for site b k)).told
  new : (said site line (state_for site a k)).new ≡ (said site line (state_for site b k)).new
  session : (changed (left site k line (state_for site a k)) (state_for site a k)).session k ≡ (changed (left site k line (state_for site b k)) (state_for site b k)).session k

write_says : (site : Site) (k v f : ℕ) (bytes : List ℕ) (a b : Local) → a.volumes ≡ b.volumes → a.residents k ≡ b.residents k → SaysSame site k (Write k v f bytes) a b
write_says site k v f bytes a b vs r = record {
  told = λ i. (said site (Write k v f bytes) (alone site (vs i) (r i))).told;
  new = λ i. (said site (Write k v f bytes) (alone site (vs i) (r i))).new;
  session = λ i. (changed (left site k (Write k v f bytes) (alone site (vs i) (r i))) (alone site (vs i) (r i))).session k;
}

read_says : (site : Site) (k v f : ℕ) (a b : Local) → a.volumes ≡ b.volumes → a.residents k ≡ b.residents k → SaysSame site k (Read k v f) a b
read_says site k v f a b vs r = record {
  told = λ i. (said site (Read k v f) (alone site (vs i) (r i))).told;
  new = λ i. (said site (Read k v f) (alone site (vs i) (r i))).new;
  session = λ i. (changed (left site k (Read k v f) (alone site (vs i) (r i))) (alone site (vs i) (r i))).session k;
}

list_says : (site : Site) (k v : ℕ) (a b : Local) → a.volumes ≡ b.volumes → a.residents k ≡ b.residents k → SaysSame site k (ListFiles k v) a b
list_says site k v a b vs r = record {
  told = λ i. (said site (ListFiles k v) (alone site (vs i) (r i))).told;
  new = λ i. (said site (ListFiles k v) (alone site (vs i) (r i))).new;
  session = λ i. (changed (left site k (ListFiles k v) (alone site (vs i) (r i))) (alone site (vs i) (r i))).session k;
}

abandon_says : (site : Site) (k : ℕ) (a b : Local) → a.volumes ≡ b.volumes → a.residents k ≡ b.residents k → SaysSame site k (Abandon k) a b
abandon_says site k a b vs r = record {
  told = λ i. (said site (Abandon k) (alone site (vs i) (r i))).told;
  new = λ i. (said site (Abandon k) (alone site (vs i) (r i))).new;
  session = λ i. (changed (left site k (Abandon k) (alone site (vs i) (r i))) (alone site (vs i) (r i))).session k;
}

request_same : (op : ℕ) (line : Line) (k : ℕ) (site : Site) (a b : Local) → asker line ≡ Some k → (a.residents k ≡ b.residents k → SaysSame site k line a b) → AreAlike site a b → DoSame site (asks op line site a) (asks op line site b)
request_same op line k site a b its says alike = elim (cases_Bool (has_session site k)) [
  | inr none ↦ (same_as site (asks op line site a) (tells a (IsRefused k op NoSession)) (asks op line site b) (tells b (IsRefused k op NoSession)) (rw (its, none) refl) (rw (its, none) refl) (told_same site a b (IsRefused k op NoSession) alike))
  | inl has ↦ (elim (cases_Bool (site.home k == site.here)) [
    | inr away ↦ (same_as site (asks op line site a) (tells a (Away k op (site.home k))) (asks op line site b) (tells b (Away k op (site.home k))) (rw (its, has, away) refl) (rw (its, has, away) refl) (told_same site a b (Away k op (site.home k)) alike))
    | inl here ↦ (by (rw (has, here) refl))
  ])
]
  where
    sa : State
    sa = state_for site a k

    sb : State
    sb = state_for site b k

    gone : (own : is_own_session site k ≡ true) → SaysSame site k line a b → (c : Bool) → is_refusal (said site line sb).told ≡ c → DoSame site (asked_by a k op sa line (said site line sa)) (asked_by b k op sb line (said site line sb))
    gone own same true is =
        let also : is_refusal (said site line sa).told ≡ true = ap is_refusal same.told ∙ is in
        let r : a.residents k ≡ b.residents k = alike.residents k own in
        same_as site (asked_by a k op sa line (said site line sa)) (record { local = a; answer = answer_of k op (a.residents k).session.op (said site line sa).told; letters = []; transfer = None; fact = None })
        (asked_by b k op sb line (said site line sb)) (record { local = b; answer = answer_of k op (b.residents k).session.op (said site line sb).told; letters = []; transfer = None; fact = None })
        (rw also refl) (rw is refl)
        (record { local = alike; answer = λ i. answer_of k op (r i).session.op (same.told i); letters = refl; transfer = refl; fact = refl })
    gone own same false is =
        let also : is_refusal (said site line sa).told ≡ false = ap is_refusal same.told ∙ is in
        same_as site (asked_by a k op sa line (said site line sa)) (goes_on a k op false sa (left site k line sa)) (asked_by b k op sb line (said site line sb)) (goes_on b k op false sb (left site k line sb)) (rw also refl) (rw is refl)
        (goes_same site a b k op op false false sa sb (left site k line sa) (left site k line sb) own refl refl same.session same.told same.new alike)

    -- the last number, and whether an operation goes on
    by : is_own_session site k ≡ true → DoSame site (asks op line site a) (asks op line site b)
    by own = old (nat_lt op (last b) || op == 0) refl
      where
        r : a.residents k ≡ b.residents k
        r = alike.residents k own

        has : has_session site k ≡ true
        has = (and_parts (has_session site k) (site.home k == site.here) own).0

        here : (site.home k == site.here) ≡ true
        here = (and_parts (has_session site k) (site.home k == site.here) own).1

        last : Local → ℕ
        last x = (x.residents k).session.op

        lasts : last a ≡ last b
        lasts = ap (λ (x : Resident). x.session.op) r

        going : Local → Bool
        going x = is_some (x.residents k).session.current

        told : (one two : Answer) → one ≡ two → asks op line site a ≡ tells a one → asks op line site b ≡ tells b two → DoSame site (asks op line site a) (asks op line site b)
        told one two same left right = same_as site (asks op line site a) (tells a one) (asks op line site b) (tells b two) left right (record { local = alike; answer = ap (λ x. Some x) same; letters = refl; transfer = refl; fact = refl })

        asked : asks op line site a ≡ asked_by a k op sa line (said site line sa) → asks op line site b ≡ asked_by b k op sb line (said site line sb) → DoSame site (asks op line site a) (asks op line site b)
        asked left right = same_as site (asks op line site a) (asked_by a k op sa line (said site line sa)) (asks op line site b) (asked_by b k op sb line (said site line sb)) left right (gone own (says r) (is_refusal (said site line sb).told) refl)

        ends : (nat_lt op (last b) || op == 0) ≡ false → (op == last b) ≡ true → (c : Bool) → going b ≡ c → DoSame site (asks op line site a) (asks op line site b)
        ends above its' false is =
            let above_too : (nat_lt op (last a) || op == 0) ≡ false = ap (λ n. nat_lt op n || op == 0) lasts ∙ above in
            let its_too : (op == last a) ≡ true = ap (λ n. op == n) lasts ∙ its' in
            let idle : going a ≡ false = ap (λ (x : Resident). is_some x.session.current) r ∙ is in
            told (ended k op (a.residents k).outcome) (ended k op (b.residents k).outcome) (ap (λ (x : Resident). ended k op x.outcome) r) (rw (its, has, here, above_too, its_too, idle) refl) (rw (its, has, here, above, its', is) refl)
        ends above its' true is =
            let above_too : (nat_lt op (last a) || op == 0) ≡ false = ap (λ n. nat_lt op n || op == 0) lasts ∙ above in
            let its_too : (op == last a) ≡ true = ap (λ n. op == n) lasts ∙ its' in
            let busy : going a ≡ true = ap (λ (x : Resident). is_some x.session.current) r ∙ is in
            elim (cases_Bool (begins line)) [
              | inl first ↦ (same_as site (asks op line site a) (silently a) (asks op line site b) (silently b) (rw (its, has, here, above_too, its_too, busy, first) refl) (rw (its, has, here, above, its', is, first) refl) (silent_same site a b alike))
              | inr not' ↦ (asked (rw (its, has, here, above_too, its_too, busy, not') refl) (rw (its, has, here, above, its', is, not') refl))
            ]

        next : (nat_lt op (last b) || op == 0) ≡ false → (op == last b) ≡ false → (c : Bool) → (begins line && op == last b + 1) ≡ c → DoSame site (asks op line site a) (asks op line site b)
        next above other c is = at c (ap (λ n. begins line && op == n + 1) lasts ∙ is) is
          where
            above_too : (nat_lt op (last a) || op == 0) ≡ false
            above_too = ap (λ n. nat_lt op n || op == 0) lasts ∙ above

            other_too : (op == last a) ≡ false
            other_too = ap (λ n. op == n) lasts ∙ other

            at : (c : Bool) → (begins line && op == last a + 1) ≡ c → (begins line && op == last b + 1) ≡ c → DoSame site (asks op line site a) (asks op line site b)
            at true one two = asked (rw (its, has, here, above_too, other_too, one) refl) (rw (its, has, here, above, other, two) refl)
            at false one two = told (Early k op (last a)) (Early k op (last b)) (ap (Early k op) lasts) (rw (its, has, here, above_too, other_too, one) refl) (rw (its, has, here, above, other, two) refl)

        old : (c : Bool) → (nat_lt op (last b) || op == 0) ≡ c → DoSame site (asks op line site a) (asks op line site b)
        old true is =
            let also : (nat_lt op (last a) || op == 0) ≡ true = ap (λ n. nat_lt op n || op == 0) lasts ∙ is in
            told (Old k op (last a)) (Old k op (last b)) (ap (Old k op) lasts) (rw (its, has, here, also) refl) (rw (its, has, here, is) refl)
        old false is = elim (cases_Bool (op == last b)) [
          | inl same ↦ (ends is same (going b) refl)
          | inr other ↦ (next is other (begins line && op == last b + 1) refl)
        ]

pub asks_same : (op : ℕ) (line : Line) (site : Site) (a b : Local) → AreAlike site a b → DoSame site (asks op line site a) (asks op line site b)
asks_same op (Write k v f bytes) site a b alike = request_same op (Write k v f bytes) k site a b refl (write_says site k v f bytes a b alike.volumes) alike
asks_same op (Read k v f) site a b alike = request_same op (Read k v f) k site a b refl (read_says site k v f a b alike.volumes) alike
asks_same op (ListFiles k v) site a b alike = request_same op (ListFiles k v) k site a b refl (list_says site k v a b alike.volumes) alike
asks_same op (Abandon k) site a b alike = request_same op (Abandon k) k site a b refl (abandon_says site k a b alike.volumes) alike
asks_same op line site a b alike = told_same site a b IsBad alike

-- ---- a letter

-- the server takes the copy, or answers
pub served_same : (site : Site) (a b : Local) (m : OwnMessage) → AreAlike site a b → is_file_in b m.file ≡ true → a.lacks m.file ≡ false → b.lacks m.file ≡ false → DoSame site (serves site a m) (serves site b m)
served_same site a b m alike there has also = of m.session m.op m.round m.server m.file m.body alike there has also
  where
    of : (session op round server : ℕ) (file : File) (body : Body) →
        let m : OwnMessage = record { session = session; op = op; round = round; server = server; file = file; body = body } in
        AreAlike site a b → is_file_in b file ≡ true → a.lacks file ≡ false → b.lacks file ≡ false → DoSame site (serves site a m) (serves site b m)
    of session op round server file Ask alike there has also = record {
      local = record { volumes = alike.volumes; copies = alike.copies; lacks = alike.lacks; joined = alike.joined; peer = alike.peer; residents = alike.residents; idle = alike.idle };
      answer = refl;
      letters = rw (has, also) (ap (λ (c : StoredCopy). reply_to c (record { session = session; op = op; round = round; server = server; file = file; body = Ask }) ∷ []) (alike.copies file));
      transfer = refl;
      fact = refl;
    }
    of session op round server file (Copy copy) alike there has also = record {
      local = record { volumes = alike.volumes; copies = alike.copies; lacks = alike.lacks; joined = alike.joined; peer = alike.peer; residents = alike.residents; idle = alike.idle };
      answer = refl;
      letters = rw (has, also) (ap (λ (c : StoredCopy). reply_to c (record { session = session; op = op; round = round; server = server; file = file; body = Copy copy }) ∷ []) (alike.copies file));
      transfer = refl;
      fact = refl;
    }
    of session op round server file Stored alike there has also = record {
      local = record { volumes = alike.volumes; copies = alike.copies; lacks = alike.lacks; joined = alike.joined; peer = alike.peer; residents = alike.residents; idle = alike.idle };
      answer = refl;
      letters = rw (has, also) (ap (λ (c : StoredCopy). reply_to c (record { session = session; op = op; round = round; server = server; file = file; body = Stored }) ∷ []) (alike.copies file));
      transfer = refl;
      fact = refl;
    }
    of session op round server file (Store copy) alike there has also = record {
      local = record { volumes = alike.volumes; copies = λ f. copies f (is_file file f) refl; lacks = alike.lacks; joined = alike.joined; peer = alike.peer; residents = alike.residents; idle = alike.idle };
      answer = refl;
      letters = rw (has, also) (ap (λ (c : StoredCopy). reply_to c (record { session = session; op = op; round = round; server = server; file = file; body = Store copy }) ∷ []) (alike.copies file));
      transfer = refl;
      fact = ap (λ (c : StoredCopy). replaced_in c file (Store copy)) (alike.copies file);
    }
      where
        letter : OwnMessage
        letter = record { session = session; op = op; round = round; server = server; file = file; body = Store copy }

        stored : (f : File) (c : Bool) → greatest (first_copy ∷ (if c then a.brought f ++ copy ∷ [] else a.brought f)) ≡ greatest (first_copy ∷ (if c then b.brought f ++ copy ∷ [] else b.brought f))
        stored f true = greatest-push first_copy copy (a.brought f) ∙ ap (λ c. newer_of c copy) (alike.copies f) ∙ sym (greatest-push first_copy copy (b.brought f))
        stored f false = alike.copies f

        taken : Local → File → Bool
        taken x f = (server == site.place) && is_file file f && (not (x.lacks f) && true)

        -- whether it is of this file hangs on nothing that the two have
        both : (f : File) (c : Bool) → is_file file f ≡ c → taken a f ≡ taken b f
        both f true is =
            let here : a.lacks f ≡ false = ap a.lacks (sym (same_file file f is)) ∙ has in
            let here_too : b.lacks f ≡ false = ap b.lacks (sym (same_file file f is)) ∙ also in
            rw (here, here_too) refl
        both f false is = rw is (off (server == site.place))
          where
            off : (p : Bool) → (p && false && (not (a.lacks f) && true)) ≡ (p && false && (not (b.lacks f) && true))
            off true = refl
            off false = refl

        copies : (f : File) (c : Bool) → is_file file f ≡ c → copy_in (part_in (serves site a letter).local) f ≡ copy_in (part_in (serves site b letter).local) f
        copies f c is = ap (λ d. greatest (first_copy ∷ (if d then a.brought f ++ copy ∷ [] else a.brought f))) (both f c is) ∙ stored f (taken b f)

-- whether a session with this resident hears it, and what is told and sent then
abbrev hears_it : Site → OwnMessage → Resident → Bool
hears_it site m r = has_above r.session.floor && of_round (operation (alone site [] r) m.session) m.file

abbrev alone_behind : Site → OwnMessage → List VolumeRow → Resident → State
alone_behind site m volumes r = lone volumes (aim site.grid r.row (column_behind site.grid r.stays r.column (operation (alone site [] r) m.session) m)) r

abbrev hearing : Site → OwnMessage → List VolumeRow → Resident → Step
hearing site m volumes r = hear_step site.grid (alone_behind site m volumes r) m (operation (alone site volumes r) m.session)

-- a session hears it
pub heard_same : (site : Site) (a b : Local) (m : OwnMessage) → is_own_session site m.session ≡ true → AreAlike site a b → DoSame site (hears site a m) (hears site b m)
heard_same site a b m own alike = by (hears_it site m (b.residents m.session)) refl
  where
    r : a.residents m.session ≡ b.residents m.session
    r = alike.residents m.session own

    vs : a.volumes ≡ b.volumes
    vs = alike.volumes

    same : hears_it site m (a.residents m.session) ≡ hears_it site m (b.residents m.session)
    same = ap (hears_it site m) r

    by : (c : Bool) → hears_it site m (b.residents m.session) ≡ c → DoSame site (hears site a m) (hears site b m)
    by false is = let also : hears_it site m (a.residents m.session) ≡ false = same ∙ is in same_as site (hears site a m) (silently a) (hears site b m) (silently b) (rw also refl) (rw is refl) (silent_same site a b alike)
    by true is =
        let also : hears_it site m (a.residents m.session) ≡ true = same ∙ is in
        let sa : State = state_behind site a m in
        let sb : State = state_behind site b m in
        let ea : Entry = brings m (hear_step site.grid sa m (operation sa m.session)) in
        let eb : Entry = brings m (hear_step site.grid sb m (operation sb m.session)) in
        same_as site (hears site a m) (goes_on a m.session (a.residents m.session).session.op (heard_servers (a.residents m.session).session.heard m.server) sa ea)
        (hears site b m) (goes_on b m.session (b.residents m.session).session.op (heard_servers (b.residents m.session).session.heard m.server) sb eb) (rw also refl) (rw is refl)
        (goes_same site a b m.session (a.residents m.session).session.op (b.residents m.session).session.op (heard_servers (a.residents m.session).session.heard m.server) (heard_servers (b.residents m.session).session.heard m.server) sa sb ea eb own
        (λ i. (r i).session.op) (λ i. heard_servers (r i).session.heard m.server)
        (λ i. (changed (brings m (hearing site m (vs i) (r i))) (alone_behind site m (vs i) (r i))).session m.session) (λ i. (hearing site m (vs i) (r i)).told) (λ i. (hearing site m (vs i) (r i)).new) alike)

pub receives_same : (from : ℕ) (m : OwnMessage) (site : Site) (a b : Local) → AreAlike site a b → DoSame site (receives from m site a) (receives from m site b)
receives_same from m site a b alike = by (letter_fits site (limit b) from m) refl
  where
    limit : Local → Option ℕ
    limit x = limit_at (state_of everyone x) m.file.volume m.file.place

    same : letter_fits site (limit a) from m ≡ letter_fits site (limit b) from m
    same = ap (λ l. letter_fits site l from m) (same_limits site a b m.file alike)

    at_its_server : to_server m.body ≡ true → letter_fits site (limit a) from m ≡ true → letter_fits site (limit b) from m ≡ true → (c : Bool) → b.lacks m.file ≡ c → DoSame site (receives from m site a) (receives from m site b)
    at_its_server goes one two true is =
        let there : is_file_in b m.file ≡ true = fits_there (limit b) m.body (parts site (limit b) from m two).file in
        let also : a.lacks m.file ≡ true = alike.lacks m.file there ∙ is in
        same_as site (receives from m site a) (silently a) (receives from m site b) (silently b) (to_the_server from m site a one goes ∙ lacks_it site a m also) (to_the_server from m site b two goes ∙ lacks_it site b m is) (silent_same site a b alike)
    at_its_server goes one two false is =
        let there : is_file_in b m.file ≡ true = fits_there (limit b) m.body (parts site (limit b) from m two).file in
        let also : a.lacks m.file ≡ false = alike.lacks m.file there ∙ is in
        same_as site (receives from m site a) (serves site a m) (receives from m site b) (serves site b m) (to_the_server from m site a one goes ∙ has_it site a m also) (to_the_server from m site b two goes ∙ has_it site b m is) (served_same site a b m alike there also is)

    by : (c : Bool) → letter_fits site (limit b) from m ≡ c → DoSame site (receives from m site a) (receives from m site b)
    by false is = let also : letter_fits site (limit a) from m ≡ false = same ∙ is in same_as site (receives from m site a) (silently a) (receives from m site b) (silently b) (rw also refl) (rw is refl) (silent_same site a b alike)
    by true is =
        let also : letter_fits site (limit a) from m ≡ true = same ∙ is in
        elim (cases_Bool (to_server m.body)) [
          | inl goes ↦ (at_its_server goes also is (b.lacks m.file) refl)
          | inr goes ↦ (
              let p : Parts site (limit b) from m = parts site (limit b) from m is in
              let own : is_own_session site m.session ≡ true = rw (p.session, session_here site from m goes p.between) refl in
              same_as site (receives from m site a) (hears site a m) (receives from m site b) (hears site b m) (to_a_session from m site a also goes) (to_a_session from m site b is goes) (heard_same site a b m own alike))
        ]

-- ---- a tick

-- whom it asks next, and what is sent once more
abbrev next_tried : Site → Resident → Resident
next_tried site r = tries_next site.grid (is_collect r.session.round) r

abbrev asking_next : Site → List VolumeRow → Resident → State
asking_next site volumes r = lone volumes (aim_at site.grid (next_tried site r)) r

abbrev sent_again : Site → (k : ℕ) → List VolumeRow → Resident → List OwnMessage
sent_again site k volumes r = (retry_step site.grid (asking_next site volumes r) (operation (asking_next site volumes r) k)).new

pub ticks_same : (k : ℕ) (site : Site) (a b : Local) → AreAlike site a b → DoSame site (ticks k site a) (ticks k site b)
ticks_same k site a b alike = elim (cases_Bool (is_own_session site k)) [
  | inr not' ↦ (
      let one : (a.residents k).session.current ≡ None = (alike.idle k not').0 in
      let two : (b.residents k).session.current ≡ None = (alike.idle k not').1 in
      same_as site (ticks k site a) (silently a) (ticks k site b) (silently b) (rw one refl) (rw two refl) (silent_same site a b alike))
  | inl own ↦ (by own (is_some (b.residents k).session.current) refl)
]
  where
    by : is_own_session site k ≡ true → (c : Bool) → is_some (b.residents k).session.current ≡ c → DoSame site (ticks k site a) (ticks k site b)
    by own c is = at c (ap (λ (x : Resident). is_some x.session.current) r ∙ is) is
      where
        r : a.residents k ≡ b.residents k
        r = alike.residents k own

        vs : a.volumes ≡ b.volumes
        vs = alike.volumes

        waits : (w : Bool) → DoSame site (waits_on site a k w) (waits_on site b k w)
        waits false = record { local = with_same site a b k _ _ own (λ i. record (r i) { waited = true }) alike; answer = refl; letters = refl; transfer = refl; fact = refl }
        waits true = record { local = with_same site a b k _ _ own (ap (next_tried site) r) alike; answer = refl; letters = λ i. sent_again site k (vs i) (r i); transfer = refl; fact = refl }

        at : (c : Bool) → is_some (a.residents k).session.current ≡ c → is_some (b.residents k).session.current ≡ c → DoSame site (ticks k site a) (ticks k site b)
        at false one two = same_as site (ticks k site a) (silently a) (ticks k site b) (silently b) (rw one refl) (rw two refl) (silent_same site a b alike)
        at true one two =
            same_as site (ticks k site a) (waits_on site a k (b.residents k).waited) (ticks k site b) (waits_on site b k (b.residents k).waited) (rw one (ap (λ (x : Resident). waits_on site a k x.waited) r)) (rw two refl) (waits (b.residents k).waited)

-- ---- the files that are there

-- the two say the same of each of these files
SaySame : (p q : File → Bool) → List File → Type 0
SaySame p q [] = ⊤
SaySame p q (f ∷ files) = (p f ≡ q f) × SaySame p q files

say_append : (p q : File → Bool) (xs ys : List File) → SaySame p q xs → SaySame p q ys → SaySame p q (xs ++ ys)
unfolding SaySame
say_append p q [] ys one two = two
say_append p q (x ∷ xs) ys one two = (one.0, say_append p q xs ys one.1 two)

in_volume : (p q : File → Bool) (v from many : ℕ) → ((place : ℕ) → place < from + many → p (record { volume = v; place = place }) ≡ q (record { volume = v; place = place })) →
    SaySame p q (map (λ place. record { volume = v; place = place }) (range_with_len from many))
unfolding SaySame
in_volume p q v from zero same = tt
in_volume p q v from (suc many) same = (same from (omega arith), in_volume p q v (from + 1) many (λ place below. same place (omega arith)))

in_volumes : (p q : File → Bool) (volumes : List VolumeRow) (from many : ℕ) → ((v place : ℕ) → place < files_of volumes v → p (record { volume = v; place = place }) ≡ q (record { volume = v; place = place })) →
    SaySame p q (flat_map (λ v. files_in_volume v (files_of volumes v)) (range_with_len from many))
unfolding SaySame
in_volumes p q volumes from zero same = tt
in_volumes p q volumes from (suc many) same =
    say_append p q (files_in_volume from (files_of volumes from)) (flat_map (λ v. files_in_volume v (files_of volumes v)) (range_with_len (from + 1) many))
    (in_volume p q from 0 (files_of volumes from) (λ place below. same from place (omega (arith, below)))) (in_volumes p q volumes (from + 1) many same)

-- one of a volume is there
one_there : (local : Local) (v place : ℕ) → place < files_of local.volumes v → is_file_in local (record { volume = v; place = place }) ≡ true
one_there local v place below = by (slice_get local.volumes v) refl
  where
    by : (o : Option VolumeRow) → slice_get local.volumes v ≡ o → is_file_in local (record { volume = v; place = place }) ≡ true
    by None is = let none : files_of local.volumes v ≡ 0 = rw is refl in absurd (omega (arith, below, none))
    by (Some row) is = let inside : nat_lt place row.files ≡ true = lt-ltb place row.files (subst (λ n. place < n) (rw is refl) below) in rw (is, inside) refl

lack_same : (site : Site) (a b : Local) → AreAlike site a b → SaySame a.lacks b.lacks (all_files b.volumes)
lack_same site a b alike = in_volumes a.lacks b.lacks b.volumes 0 (length b.volumes) (λ v place below. alike.lacks (record { volume = v; place = place }) (one_there b v place below))

found_same : (p q : File → Bool) (files : List File) → SaySame p q files → find p files ≡ find q files
unfolding SaySame
found_same p q [] same = refl
found_same p q (f ∷ files) same = rw (same.0, found_same p q files same.1) refl

counted_same : (p q : File → Bool) (files : List File) (n : ℕ) → SaySame p q files → fold (λ n f. n + cond (p f) 1 0) n files ≡ fold (λ n f. n + cond (q f) 1 0) n files
unfolding SaySame
counted_same p q [] n same = refl
counted_same p q (f ∷ files) n same = ap (λ b. fold (λ n f. n + cond (p f) 1 0) (n + cond b 1 0) files) same.0 ∙ counted_same p q files (n + cond (q f) 1 0) same.1

lanes_same : (p q : File → Bool) (volumes : List VolumeRow) (lane : ℕ) (files : List File) → SaySame p q files → SaySame (lacks_of_lane p volumes lane) (lacks_of_lane q volumes lane) files
unfolding SaySame
lanes_same p q volumes lane [] same = tt
lanes_same p q volumes lane (f ∷ files) same = (ap (λ b. b && lane_of volumes f.volume == lane) same.0, lanes_same p q volumes lane files same.1)

first_same : (site : Site) (a b : Local) (lane : ℕ) → AreAlike site a b → first_lacked a lane ≡ first_lacked b lane
first_same site a b lane alike =
    ap (λ (vs : List VolumeRow). find (lacks_of_lane a.lacks vs lane) (all_files vs)) alike.volumes
    ∙ found_same (lacks_of_lane a.lacks b.volumes lane) (lacks_of_lane b.lacks b.volumes lane) (all_files b.volumes) (lanes_same a.lacks b.lacks b.volumes lane (all_files b.volumes) (lack_same site a b alike))

-- the same is told of a volume
rows_same : {X : Type 0} (p q : File → X) (v from many : ℕ) → ((place : ℕ) → place < from + many → p (record { volume = v; place = place }) ≡ q (record { volume = v; place = place })) →
    map p (map (λ place. record { volume = v; place = place }) (range_with_len from many)) ≡ map q (map (λ place. record { volume = v; place = place }) (range_with_len from many))
rows_same p q v from zero same = refl
rows_same p q v from (suc many) same =
    let first : p (record { volume = v; place = from }) ≡ q (record { volume = v; place = from }) = same from (omega arith) in
    let rest = rows_same p q v (from + 1) many (λ place below. same place (omega arith)) in
    λ i. first i ∷ rest i

row_same : (site : Site) (a b : Local) → AreAlike site a b → (file : File) → is_file_in b file ≡ true → held_row a file ≡ held_row b file
row_same site a b alike file there =
    ap (λ c. if c then None else Some (listed_row (copy_in (part_in a) file))) (alike.lacks file there)
    ∙ ap (λ (c : StoredCopy). if b.lacks file then None else Some (listed_row c)) (alike.copies file)

held_same : (site : Site) (a b : Local) (v : ℕ) → AreAlike site a b → map (held_row a) (files_in_volume v (files_of a.volumes v)) ≡ map (held_row b) (files_in_volume v (files_of b.volumes v))
held_same site a b v alike =
    ap (λ (vs : List VolumeRow). map (held_row a) (files_in_volume v (files_of vs v))) alike.volumes
    ∙ rows_same (held_row a) (held_row b) v 0 (files_of b.volumes v) (λ place below. row_same site a b alike (record { volume = v; place = place }) (one_there b v place (omega (arith, below))))

pub looked_same : (mark volume : ℕ) (site : Site) (a b : Local) → AreAlike site a b → look_answer mark volume site a ≡ look_answer mark volume site b
looked_same mark volume site a b alike =
    let told : List (Option Row) → List VolumeRow → Answer = λ rows vs. if nat_lt volume (length vs) then Looked (record { mark = mark; volume = volume; losses = site.losses; rows = rows }) else NotLooked mark volume in
    ap (λ (rows : List (Option Row)). told rows a.volumes) (held_same site a b volume alike) ∙ ap (told (map (held_row b) (files_in_volume volume (files_of b.volumes volume)))) alike.volumes

-- as many are lacked in the one as in the other
pub lacked_same : (site : Site) (a b : Local) → AreAlike site a b → lacked_files a.lacks a.volumes ≡ lacked_files b.lacks b.volumes
lacked_same site a b alike = ap (λ (vs : List VolumeRow). lacked_files a.lacks vs) alike.volumes ∙ counted_same a.lacks b.lacks (all_files b.volumes) 0 (lack_same site a b alike)

-- ---- who joined, and what is fetched

asked_same : (site : Site) (a b : Local) (lane place : ℕ) → AreAlike site a b → DoSame site (asks_peer site a lane place) (asks_peer site b lane place)
asked_same site a b lane place alike = by (first_lacked b lane) refl
  where
    asks : AreAlike site (record a { peer = place }) (record b { peer = place })
    asks = record { volumes = alike.volumes; copies = alike.copies; lacks = alike.lacks; joined = alike.joined; peer = refl; residents = alike.residents; idle = alike.idle }

    by : (o : Option File) → first_lacked b lane ≡ o → DoSame site (asks_peer site a lane place) (asks_peer site b lane place)
    by None is =
        let also : first_lacked a lane ≡ None = first_same site a b lane alike ∙ is in
        let turn : Local → Doing = λ x. silently (record x { peer = place }) in
        same_as site (asks_peer site a lane place) (turn a) (asks_peer site b lane place) (turn b) (rw also refl) (rw is refl) (record { local = asks; answer = refl; letters = refl; transfer = refl; fact = refl })
    by (Some file) is =
        let also : first_lacked a lane ≡ Some file = first_same site a b lane alike ∙ is in
        let ask : Local → Doing = λ x. record (silently (record x { peer = place })) { transfer = Some (Wants (site.node_at place) file) } in
        same_as site (asks_peer site a lane place) (ask a) (asks_peer site b lane place) (ask b) (rw also refl) (rw is refl) (record { local = asks; answer = refl; letters = refl; transfer = refl; fact = refl })

pub looks_same : (lane : ℕ) (site : Site) (a b : Local) → AreAlike site a b → DoSame site (looks lane site a) (looks lane site b)
looks_same lane site a b alike = by (all_joined site b.joined) refl
  where
    by : (c : Bool) → all_joined site b.joined ≡ c → DoSame site (looks lane site a) (looks lane site b)
    by false is = let also : all_joined site a.joined ≡ false = ap (all_joined site) alike.joined ∙ is in same_as site (looks lane site a) (silently a) (looks lane site b) (silently b) (rw also refl) (rw is refl) (silent_same site a b alike)
    by true is =
        let also : all_joined site a.joined ≡ true = ap (all_joined site) alike.joined ∙ is in
        same_as site (looks lane site a) (asks_peer site a lane (peer_for site lane b.peer)) (looks lane site b) (asks_peer site b lane (peer_for site lane b.peer)) (rw also (ap (λ p. asks_peer site a lane (peer_for site lane p)) alike.peer)) (rw is refl) (asked_same site a b lane (peer_for site lane b.peer) alike)

pub joins_same : (from losses : ℕ) (site : Site) (a b : Local) → AreAlike site a b → DoSame site (hears_joined from losses site a) (hears_joined from losses site b)
joins_same from losses site a b alike = by (is_new site && has_node site from && losses == site.losses) refl
  where
    by : (c : Bool) → (is_new site && has_node site from && losses == site.losses) ≡ c → DoSame site (hears_joined from losses site a) (hears_joined from losses site b)
    by false is = same_as site (hears_joined from losses site a) (silently a) (hears_joined from losses site b) (silently b) (rw is refl) (rw is refl) (silent_same site a b alike)
    by true is =
        let join : Local → Doing = λ x. silently (record x { joined = with_server (place_of from) x.joined }) in
        same_as site (hears_joined from losses site a) (join a) (hears_joined from losses site b) (join b) (rw is refl) (rw is refl)
        (silent_same site (join a).local (join b).local (record { volumes = alike.volumes; copies = alike.copies; lacks = alike.lacks; joined = ap (with_server (place_of from)) alike.joined; peer = alike.peer; residents = alike.residents; idle = alike.idle }))

-- whether a file is there that is not lacked
has_same : (site : Site) (a b : Local) (file : File) → AreAlike site a b → has_file a file ≡ has_file b file
has_same site a b file alike = elim (cases_Bool (is_file_in b file)) [
  | inl there ↦ (
      let also : is_file_in a file ≡ true = ap is_some (same_limits site a b file alike) ∙ there in
      rw (also, there) (ap not (alike.lacks file there)))
  | inr none ↦ (let also : is_file_in a file ≡ false = ap is_some (same_limits site a b file alike) ∙ none in rw (also, none) refl)
]

pub gives_same : (from : ℕ) (file : File) (site : Site) (a b : Local) → AreAlike site a b → DoSame site (gives from file site a) (gives from file site b)
gives_same from file site a b alike = by (is_peer site from && has_file b file) refl
  where
    by : (c : Bool) → (is_peer site from && has_file b file) ≡ c → DoSame site (gives from file site a) (gives from file site b)
    by false is =
        let also : (is_peer site from && has_file a file) ≡ false = ap (λ h. is_peer site from && h) (has_same site a b file alike) ∙ is in
        same_as site (gives from file site a) (silently a) (gives from file site b) (silently b) (rw also refl) (rw is refl) (silent_same site a b alike)
    by true is =
        let also : (is_peer site from && has_file a file) ≡ true = ap (λ h. is_peer site from && h) (has_same site a b file alike) ∙ is in
        let give : Local → Doing = λ x. record (silently x) { transfer = Some (Brings from file (copy_in (part_in x) file)) } in
        same_as site (gives from file site a) (give a) (gives from file site b) (give b) (rw also refl) (rw is refl)
        (record { local = alike; answer = refl; letters = refl; transfer = ap (λ c. Some (Brings from file c)) (alike.copies file); fact = refl })

-- one copy more of a file; and what was lacked is given
pub copied_same : (site : Site) (a b : Local) (file : File) (copy : StoredCopy) → AreAlike site a b → AreAlike site (with_copy file copy a) (with_copy file copy b)
copied_same site a b file copy alike = record {
  volumes = alike.volumes;
  copies = λ f. copies f (is_file file f) refl;
  lacks = alike.lacks;
  joined = alike.joined;
  peer = alike.peer;
  residents = alike.residents;
  idle = alike.idle;
}
  where
    copies : (f : File) (c : Bool) → is_file file f ≡ c → copy_in (part_in (with_copy file copy a)) f ≡ copy_in (part_in (with_copy file copy b)) f
    copies f true is =
        let one : (with_copy file copy a).brought f ≡ a.brought f ++ copy ∷ [] = rw is refl in
        let two : (with_copy file copy b).brought f ≡ b.brought f ++ copy ∷ [] = rw is refl in
        ap (λ xs. greatest (first_copy ∷ xs)) one ∙ greatest-push first_copy copy (a.brought f) ∙ ap (λ c. newer_of c copy) (alike.copies f) ∙ sym (greatest-push first_copy copy (b.brought f)) ∙ sym (ap (λ xs. greatest (first_copy ∷ xs)) two)
    copies f false is =
        let one : (with_copy file copy a).brought f ≡ a.brought f = rw is refl in
        let two : (with_copy file copy b).brought f ≡ b.brought f = rw is refl in
        ap (λ xs. greatest (first_copy ∷ xs)) one ∙ alike.copies f ∙ sym (ap (λ xs. greatest (first_copy ∷ xs)) two)

pub given_same : (site : Site) (a b : Local) (file : File) (copy : StoredCopy) → AreAlike site a b → AreAlike site (given file copy a) (given file copy b)
given_same site a b file copy alike =
    let one : AreAlike site (with_copy file copy a) (with_copy file copy b) = copied_same site a b file copy alike in
    record { volumes = one.volumes; copies = one.copies; lacks = λ f there. ap (λ l. l && not (is_file file f)) (alike.lacks f there); joined = one.joined; peer = one.peer; residents = one.residents; idle = one.idle }

took_same : (from : ℕ) (file : File) (copy : StoredCopy) (site : Site) (a b : Local) → AreAlike site a b → takes_it site a from file copy ≡ takes_it site b from file copy
took_same from file copy site a b alike = elim (cases_Bool (file_fits (limit_at (state_of everyone b) file.volume file.place) (Store copy))) [
  | inl fits ↦ (
      let there : is_file_in b file ≡ true = fits_there (limit_at (state_of everyone b) file.volume file.place) (Store copy) fits in
      ap (λ l. is_peer site from && l && file_fits (limit_at (state_of everyone a) file.volume file.place) (Store copy)) (alike.lacks file there)
      ∙ ap (λ l. is_peer site from && b.lacks file && file_fits l (Store copy)) (same_limits site a b file alike))
  | inr not' ↦ (
      let also : file_fits (limit_at (state_of everyone a) file.volume file.place) (Store copy) ≡ false = ap (λ l. file_fits l (Store copy)) (same_limits site a b file alike) ∙ not' in
      rw (also, not') (off (is_peer site from) (a.lacks file) ∙ sym (off (is_peer site from) (b.lacks file))))
]
  where
    off : (p l : Bool) → (p && l && false) ≡ false
    off true true = refl
    off true false = refl
    off false l = refl

pub takes_same : (from : ℕ) (file : File) (copy : StoredCopy) (site : Site) (a b : Local) → AreAlike site a b → DoSame site (takes from file copy site a) (takes from file copy site b)
takes_same from file copy site a b alike = by (takes_it site b from file copy) refl
  where
    by : (c : Bool) → takes_it site b from file copy ≡ c → DoSame site (takes from file copy site a) (takes from file copy site b)
    by false is =
        let also : takes_it site a from file copy ≡ false = took_same from file copy site a b alike ∙ is in
        same_as site (takes from file copy site a) (silently a) (takes from file copy site b) (silently b) (rw also refl) (rw is refl) (silent_same site a b alike)
    by true is =
        let also : takes_it site a from file copy ≡ true = took_same from file copy site a b alike ∙ is in
        let lane : ℕ = lane_of b.volumes file.volume in
        let take : Local → Doing = λ x. record (asks_peer site (given file copy x) lane (place_of from)) { fact = Some (Had file copy) } in
        let asks : DoSame site (asks_peer site (given file copy a) lane (place_of from)) (asks_peer site (given file copy b) lane (place_of from)) = asked_same site (given file copy a) (given file copy b) lane (place_of from) (given_same site a b file copy alike) in
        let own : lane_of a.volumes file.volume ≡ lane = ap (λ (vs : List VolumeRow). lane_of vs file.volume) alike.volumes in
        same_as site (takes from file copy site a) (take a) (takes from file copy site b) (take b) (rw also (ap (λ n. record (asks_peer site (given file copy a) n (place_of from)) { fact = Some (Had file copy) }) own)) (rw is refl)
        (record { local = asks.local; answer = asks.answer; letters = asks.letters; transfer = asks.transfer; fact = refl })
