-- What is read off backwards: one event more.
use Rattle.std.proofs.Common.{◌≡◌, ◌≢◌, ◌⊎◌, inl, inr, ℕ, ◌+◌, ◌-◌, ◌<◌, ◌≤◌, Bool, true, false, ◌&&◌, List, [], ◌∷◌, ◌++◌, reverse, length, drop, get_or, set, refl, sym, ap, ◌∙◌, subst, Option, Some, None, arith}
use Rattle.std.specs.Prelude.{nat_lt, replicate, ◌==◌, if◌then◌else◌}
use Rattle.std.proofs.lemmas.Bool.{ltb-true, lt-ltb, ne_eqb, eq-eqb, cases_eq}
use Rattle.std.proofs.lemmas.List.{drop_all, get_or-replicate, length-replicate, get_or-set_same, get_or-set_other, length-set, reverse-append, append-nil}
use Rattle.std.proofs.lemmas.Option.{unwrap_or-slice_get}
use Rattle.gq_tag.specs.Tag.{File, is_file}
use Rattle.gq_model.specs.declared.events.Event.{Event}
use Rattle.gq_model.specs.declared.events.Event.TheVariants.{Tenant}
use Rattle.gq_model.specs.declared.events.Line.{Line}
use Rattle.gq_model.specs.declared.events.Line.TheVariants.{Write, Read, List as ListFiles}
use Rattle.gq_model.specs.declared.events.Answer.{Answer}
use Rattle.gq_model.specs.declared.events.Answer.TheVariants.{Began}
use Rattle.gq_laws.specs.declared.ops.Op.{Op}
use Rattle.gq_order.proofs.Rests.{drop_is}
use Rattle.gq_order.specs.declared.endings.Ending.{Ending}
use Rattle.gq_order.specs.Passes.{sent_at, session_at, sessions_from, sees, no_ending, ended_by, ending_in, entered, entered_by, ending_from, begins, begun_by, with_op, as_list, ops_from, write_begun, read_begun, row_begun, copy_given_at, row_given_at}

-- only the endings of sessions below 256 are looked at
begins_same : (file : File) (all : List Answer) (place op : ℕ) (line : Line) (f g : ℕ → Ending) → ((k : ℕ) → k < 256 → f k ≡ g k) → begins file all place op line f ≡ begins file all place op line g
begins_same file all place op (Write k v p bytes) f g same = go (nat_lt k 256) refl
  where
    go : (b : Bool) → nat_lt k 256 ≡ b → begins file all place op (Write k v p bytes) f ≡ begins file all place op (Write k v p bytes) g
    go false is = rw is refl
    go true is = ap (λ e. if nat_lt k 256 && is_file (record { volume = v; place = p }) file then Some (write_begun k op place bytes e) else None) (same k (omega (arith, ltb-true k 256 is)))
begins_same file all place op (Read k v p) f g same = go (nat_lt k 256) refl
  where
    go : (b : Bool) → nat_lt k 256 ≡ b → begins file all place op (Read k v p) f ≡ begins file all place op (Read k v p) g
    go false is = rw is refl
    go true is = ap (λ e. if nat_lt k 256 && is_file (record { volume = v; place = p }) file then Some (read_begun k op place e.end (copy_given_at all e.end)) else None) (same k (omega (arith, ltb-true k 256 is)))
begins_same file all place op (ListFiles k v) f g same = go (nat_lt k 256) refl
  where
    go : (b : Bool) → nat_lt k 256 ≡ b → begins file all place op (ListFiles k v) f ≡ begins file all place op (ListFiles k v) g
    go false is = rw is refl
    go true is = ap (λ e. if nat_lt k 256 && (v == file.volume) then Some (row_begun k op place e.end (row_given_at file.place all e.end)) else None) (same k (omega (arith, ltb-true k 256 is)))
begins_same file all place op _ f g same = refl

begun_same : (t : ℕ) (file : File) (all : List Answer) (place : ℕ) (e : Event) (a : Answer) (f g : ℕ → Ending) → ((k : ℕ) → k < 256 → f k ≡ g k) → begun_by t file all place e a f ≡ begun_by t file all place e a g
begun_same t file all place (Tenant tenant line) (Began op first count) f g same =
    ap (λ z. if tenant == t then z else None) (begins_same file all place op line f g same)
begun_same t file all place (Tenant tenant line) _ f g same = refl
begun_same t file all place _ a f g same = refl

-- ---- the table

ending_get : (ends : List Ending) (k : ℕ) → ending_in ends k ≡ get_or ends k no_ending
ending_get ends k = unwrap_or-slice_get ends k no_ending

-- the table of each session, where so many are left
abbrev pub Table : ℕ → List Event → List Answer → List ℕ → ℕ → List Ending → Type 0
Table t events answers sessions i ends = (k : ℕ) → k < 256 → ending_in ends k ≡ ending_from t i (drop i events) (drop i answers) (drop i sessions) k

entered_length : (t place : ℕ) (e : Event) (a : Answer) (session : ℕ) (ends : List Ending) → length (entered_by t place e a session ends) ≡ length ends
entered_length t place e a session ends = go (sees t e) refl (nat_lt session (length ends)) refl
  where
    go : (b : Bool) → sees t e ≡ b → (c : Bool) → nat_lt session (length ends) ≡ c → length (entered_by t place e a session ends) ≡ length ends
    go false is c low = rw is refl
    go true is false low = rw (is, low) refl
    go true is true low = rw (is, low) (length-set ends session (ended_by place a (ending_in ends session)))

entered_is : (t place : ℕ) (e : Event) (a : Answer) (session : ℕ) (ends : List Ending) (k : ℕ) → k < length ends →
    ending_in (entered_by t place e a session ends) k ≡ (if sees t e && (session == k) then ended_by place a (ending_in ends k) else ending_in ends k)
entered_is t place e a session ends k inside = go (sees t e) refl (cases_eq session k)
  where
    new : Ending
    new = ended_by place a (ending_in ends session)

    go : (b : Bool) → sees t e ≡ b → (session ≡ k) ⊎ (session ≢ k) → ending_in (entered_by t place e a session ends) k ≡ (if sees t e && (session == k) then ended_by place a (ending_in ends k) else ending_in ends k)
    go false is either = rw is refl
    go true is (inl same) =
        rw (is, lt-ltb session (length ends) (omega (arith, same)), eq-eqb session k same)
        (ending_get (set ends session new) k ∙ ap (λ z. get_or (set ends z new) k no_ending) same ∙ get_or-set_same ends k new no_ending inside ∙ ap (λ z. ended_by place a (ending_in ends z)) same)
    go true is (inr other) = rw (is, ne_eqb session k other) (past (nat_lt session (length ends)) refl)
      where
        past : (c : Bool) → nat_lt session (length ends) ≡ c → ending_in (entered place a session ends) k ≡ ending_in ends k
        past false high = rw high refl
        past true low = rw low (ending_get (set ends session new) k ∙ get_or-set_other ends session k new no_ending (λ same. other (sym same)) ∙ sym (ending_get ends k))

-- ---- one event more

listed : (o : Option Op) (later : List Op) → reverse (with_op o later) ≡ reverse later ++ as_list o
listed None later = sym (append-nil (reverse later))
listed (Some op) later = reverse-append (op ∷ []) later

ops_none : (t : ℕ) (file : File) (all : List Answer) (place : ℕ) (events : List Event) (answers : List Answer) → ops_from t file all place events answers [] ≡ []
ops_none t file all place [] answers = refl
ops_none t file all place (e ∷ events) [] = refl
ops_none t file all place (e ∷ events) (a ∷ answers) = refl

ending_none : (t place : ℕ) (events : List Event) (answers : List Answer) (k : ℕ) → ending_from t place events answers [] k ≡ no_ending
ending_none t place [] answers k = refl
ending_none t place (e ∷ events) [] k = refl
ending_none t place (e ∷ events) (a ∷ answers) k = refl

-- the operations and the table so far, where so many events are left
pub record Back (t : ℕ) (file : File) (events : List Event) (answers : List Answer) (sessions : List ℕ) (i : ℕ) (ends : List Ending) (ops : List Op) : Type 0 where
  pub size : length ends ≡ 256
  pub table : Table t events answers sessions i ends
  pub found : ops ≡ reverse (ops_from t file answers i (drop i events) (drop i answers) (drop i sessions))

pub back_first : (t : ℕ) (file : File) (events : List Event) (answers : List Answer) (sessions : List ℕ) (i n : ℕ) (ends : List Ending) (ops : List Op) → i ≡ length sessions → n ≡ 256 → ends ≡ replicate n no_ending → ops ≡ [] →
    Back t file events answers sessions i ends ops
back_first t file events answers sessions i n ends ops is size new none = record {
  size = ap length new ∙ length-replicate n no_ending ∙ size;
  table = λ k low. ap (λ z. ending_in z k) new ∙ ending_get (replicate n no_ending) k ∙ get_or-replicate n k no_ending no_ending (omega (arith, low, size))
      ∙ sym (ap (λ z. ending_from t i (drop i events) (drop i answers) z k) gone ∙ ending_none t i (drop i events) (drop i answers) k);
  found = none ∙ sym (ap (λ z. reverse (ops_from t file answers i (drop i events) (drop i answers) z)) gone ∙ ap reverse (ops_none t file answers i (drop i events) (drop i answers)));
}
  where
    gone : drop i sessions ≡ []
    gone = drop_all i sessions (omega (arith, is))

back_next : (t : ℕ) (file : File) (events : List Event) (answers : List Answer) (sessions : List ℕ) (i : ℕ) (ends ends' : List Ending) (ops ops' : List Op) (e : Event) (a : Answer) (session : ℕ) (o : Option Op) →
    Back t file events answers sessions (i + 1) ends ops →
    i < length events → e ≡ get_or events i e → i < length answers → a ≡ get_or answers i a → i < length sessions → session ≡ get_or sessions i session →
    o ≡ begun_by t file answers i e a (ending_in ends) → ops' ≡ ops ++ as_list o → ends' ≡ entered_by t i e a session ends →
    Back t file events answers sessions i ends' ops'
back_next t file events answers sessions i ends ends' ops ops' e a session o back in_e e_is in_a a_is in_s s_is begins keeps notes = record {
  size = ap length notes ∙ entered_length t i e a session ends ∙ back.size;
  table = λ k low.
      ap (λ z. ending_in z k) notes ∙ entered_is t i e a session ends k (omega (arith, back.size, low))
      ∙ ap (λ z. if sees t e && (session == k) then ended_by i a z else z) (back.table k low)
      ∙ sym (ending_more k);
  found = keeps
      ∙ ap (λ z. z ++ as_list o) back.found
      ∙ sym (listed o later)
      ∙ ap (λ z. reverse (with_op z later)) (begins ∙ begun_same t file answers i e a (ending_in ends) rests back.table)
      ∙ ap reverse (sym ops_more);
}
  where
    es : List Event
    es = drop (i + 1) events

    as' : List Answer
    as' = drop (i + 1) answers

    ss : List ℕ
    ss = drop (i + 1) sessions

    rests : ℕ → Ending
    rests = ending_from t (i + 1) es as' ss

    later : List Op
    later = ops_from t file answers (i + 1) es as' ss

    ending_more : (k : ℕ) → ending_from t i (drop i events) (drop i answers) (drop i sessions) k ≡ (if sees t e && (session == k) then ended_by i a (rests k) else rests k)
    ending_more k =
        ap (λ z. ending_from t i z (drop i answers) (drop i sessions) k) (drop_is events i e in_e e_is)
        ∙ ap (λ z. ending_from t i (e ∷ es) z (drop i sessions) k) (drop_is answers i a in_a a_is)
        ∙ ap (λ z. ending_from t i (e ∷ es) (a ∷ as') z k) (drop_is sessions i session in_s s_is)

    ops_more : ops_from t file answers i (drop i events) (drop i answers) (drop i sessions) ≡ with_op (begun_by t file answers i e a rests) later
    ops_more =
        ap (λ z. ops_from t file answers i z (drop i answers) (drop i sessions)) (drop_is events i e in_e e_is)
        ∙ ap (λ z. ops_from t file answers i (e ∷ es) z (drop i sessions)) (drop_is answers i a in_a a_is)
        ∙ ap (λ z. ops_from t file answers i (e ∷ es) (a ∷ as') z) (drop_is sessions i session in_s s_is)

-- the same, where j events were left before
pub back_more : (t : ℕ) (file : File) (events : List Event) (answers : List Answer) (sessions : List ℕ) (j : ℕ) (ends ends' : List Ending) (ops ops' : List Op) (e : Event) (a : Answer) (session : ℕ) (o : Option Op) →
    Back t file events answers sessions j ends ops → 0 < j → j ≤ length sessions → length sessions ≤ length events → length sessions ≤ length answers →
    e ≡ get_or events (j - 1) e → a ≡ get_or answers (j - 1) a → session ≡ get_or sessions (j - 1) session →
    o ≡ begun_by t file answers (j - 1) e a (ending_in ends) → ops' ≡ ops ++ as_list o → ends' ≡ entered_by t (j - 1) e a session ends →
    Back t file events answers sessions (j - 1) ends' ops'
back_more t file events answers sessions j ends ends' ops ops' e a session o back some few in_events in_answers e_is a_is s_is begins keeps notes =
    let P : ℕ → Type 0 = λ z. Back t file events answers sessions z ends ops in
    back_next t file events answers sessions (j - 1) ends ends' ops ops' e a session o (subst P (one j some) back)
    (omega arith) e_is (omega arith) a_is (omega arith) s_is begins keeps notes
  where
    one : (j : ℕ) → 0 < j → j ≡ j - 1 + 1
    one j some = omega arith

-- where none is left
pub back_last : (t : ℕ) (file : File) (events : List Event) (answers : List Answer) (sessions : List ℕ) (i : ℕ) (ends : List Ending) (ops : List Op) → Back t file events answers sessions i ends ops → i ≤ 0 →
    ops ≡ reverse (ops_from t file answers 0 events answers sessions)
back_last t file events answers sessions i ends ops back none =
    let P : ℕ → Type 0 = λ z. ops ≡ reverse (ops_from t file answers z (drop z events) (drop z answers) (drop z sessions)) in
    subst P (zero_is i none) back.found
  where
    zero_is : (i : ℕ) → i ≤ 0 → i ≡ 0
    zero_is i none = omega arith

-- ---- the sessions

pub few_events : (t : ℕ) (owned : List ℕ) (events : List Event) (answers : List Answer) → length (sessions_from t owned events answers) ≤ length events
few_events t owned [] answers = omega arith
few_events t owned (e ∷ events) [] = omega arith
few_events t owned (e ∷ events) (a ∷ answers) = let h = few_events t (owned ++ replicate (sent_at t e a) (session_at t owned e)) events answers in omega (arith, h)

pub few_answers : (t : ℕ) (owned : List ℕ) (events : List Event) (answers : List Answer) → length (sessions_from t owned events answers) ≤ length answers
few_answers t owned [] answers = omega arith
few_answers t owned (e ∷ events) [] = omega arith
few_answers t owned (e ∷ events) (a ∷ answers) = let h = few_answers t (owned ++ replicate (sent_at t e a) (session_at t owned e)) events answers in omega (arith, h)
