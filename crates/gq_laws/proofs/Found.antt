-- What is found in lists of copies and of replies.
use Rattle.std.proofs.Common.{◌≡◌, ◌⊎◌, ℕ, zero, suc, ◌+◌, ◌<◌, Bool, true, false, ◌++◌, List, [], ◌∷◌, length, refl, sym, ap, ◌∙◌, subst, inl, inr, Some, None, arith, eqb}
use Rattle.std.specs.Prelude.{Contains, slice_get, fold, filter}
use Rattle.std.specs.List.{list_any}
use Rattle.std.proofs.lemmas.Bool.{true≢false, eqb-true, and_parts}
use Rattle.std.proofs.lemmas.List.Elements.{Contains-push_cases}
use Rattle.gq_tag.specs.declared.Tag.{Tag}
use Rattle.gq_tag.specs.declared.StoredCopy.{StoredCopy}
use Rattle.gq_tag.specs.Tag.{first_copy, newer_of, greatest, is_less}
use Rattle.gq_tag.specs.declared.Body.{Body}
use Rattle.gq_tag.specs.declared.Body.TheVariants.{Ask, Copy, Store, Stored}
use Rattle.gq_tag.proofs.Order.{IsAtMost, at_most_trans, newer_of-right}
use Rattle.gq_phase.specs.Phase.{Reply, heard_servers, heard_copies, hear_reply, equal_replies, stored_copy, has_tag, givers}
use Rattle.gq_laws.proofs.Holding.{fold_grows, greatest-cons}

-- ---- places of a list

-- what stands at a place of a list is in it
pub contains_at : {X : Type 0} (xs : List X) (i : ℕ) (x : X) → slice_get xs i ≡ Some x → Contains xs x
contains_at [] i x h = absurd (let bad : None ≡ Some x = h in cc)
contains_at (y ∷ ys) zero x h = (0, omega arith, (let is : y ≡ x = cc in is))
contains_at (y ∷ ys) (suc i) x h = let later = contains_at ys i x h in (suc later.0, omega (arith, later.1), later.2)

-- what is in a list stands at a place of it
pub position_of : {X : Type 0} (xs : List X) (x : X) → Contains xs x → (i : ℕ) × (slice_get xs i ≡ Some x)
position_of [] x within = absurd (omega (arith, within.1))
position_of (y ∷ ys) x (zero, low, is) = (0, ap Some is)
position_of (y ∷ ys) x (suc i, low, is) = let later = position_of ys x (i, omega arith, is) in (suc later.0, later.1)

-- one element more
pub push_at : {X : Type 0} (cs : List X) (c : X) (i : ℕ) (d : X) → slice_get (cs ++ c ∷ []) i ≡ Some d → (slice_get cs i ≡ Some d) ⊎ ((i ≡ length cs) × (c ≡ d))
push_at [] c zero d h = inr (refl, (let same : c ≡ d = cc in same))
push_at [] c (suc i) d h = absurd (let bad : None ≡ Some d = h in cc)
push_at (b ∷ cs) c zero d h = inl h
push_at (b ∷ cs) c (suc i) d h = go (push_at cs c i d h)
  where
    go : (slice_get cs i ≡ Some d) ⊎ ((i ≡ length cs) × (c ≡ d)) → (slice_get (b ∷ cs) (suc i) ≡ Some d) ⊎ ((suc i ≡ length (b ∷ cs)) × (c ≡ d))
    go (inl old) = inl old
    go (inr new) = inr (omega (arith, new.0), new.1)

-- the last of some copies
pub stored-push : (copies : List StoredCopy) (c : StoredCopy) → stored_copy (copies ++ c ∷ []) ≡ c
stored-push [] c = refl
stored-push (a ∷ []) c = refl
stored-push (a ∷ b ∷ copies) c = stored-push (b ∷ copies) c

pub last_at : (cs : List StoredCopy) → 0 < length cs → (j : ℕ) × (length cs ≡ j + 1) × (slice_get cs j ≡ Some (stored_copy cs))
last_at [] h = absurd (omega arith)
last_at (c ∷ []) h = (0, omega arith, refl)
last_at (c ∷ d ∷ cs) h = let later = last_at (d ∷ cs) (omega arith) in (suc later.0, omega (arith, later.1), later.2)

-- ---- the greatest

fold_in : (P : StoredCopy → Type 0) (c : StoredCopy) (cs : List StoredCopy) → P c → ((d : StoredCopy) → Contains cs d → P d) → P (fold newer_of c cs)
fold_in P c [] here each = here
fold_in P c (d ∷ cs) here each = fold_in P (newer_of c d) cs (one (is_less c.tag d.tag) refl) (λ x within. each x (suc within.0, omega (arith, within.1), within.2))
  where
    one : (b : Bool) → is_less c.tag d.tag ≡ b → P (newer_of c d)
    one true e = rw e (each d (0, omega arith, refl))
    one false e = rw e here

pub greatest_in : (P : StoredCopy → Type 0) (cs : List StoredCopy) → P first_copy → ((d : StoredCopy) → Contains cs d → P d) → P (greatest cs)
greatest_in P [] first each = first
greatest_in P (c ∷ cs) first each = subst P (sym (greatest-cons c cs)) (fold_in P c cs (each c (0, omega arith, refl)) (λ x within. each x (suc within.0, omega (arith, within.1), within.2)))

fold_bound : (c : StoredCopy) (cs : List StoredCopy) (d : StoredCopy) (i : ℕ) → slice_get cs i ≡ Some d → IsAtMost d.tag (fold newer_of c cs).tag
fold_bound c [] d i h = absurd (let bad : None ≡ Some d = h in cc)
fold_bound c (b ∷ cs) d zero h =
    let same : b ≡ d = cc in
    at_most_trans d.tag (newer_of c b).tag (fold newer_of (newer_of c b) cs).tag (rw same (newer_of-right c d)) (fold_grows (newer_of c b) cs)
fold_bound c (b ∷ cs) d (suc i) h = fold_bound (newer_of c b) cs d i h

pub greatest_bound : (cs : List StoredCopy) (d : StoredCopy) (i : ℕ) → slice_get cs i ≡ Some d → IsAtMost d.tag (greatest cs).tag
greatest_bound [] d i h = absurd (let bad : None ≡ Some d = h in cc)
greatest_bound (c ∷ cs) d i h = let P : StoredCopy → Type 0 = λ z. IsAtMost d.tag z.tag in subst P (sym (greatest-cons c cs)) (bound i h)
  where
    bound : (i : ℕ) → slice_get (c ∷ cs) i ≡ Some d → IsAtMost d.tag (fold newer_of c cs).tag
    bound zero h = let same : c ≡ d = cc in rw (← same) (fold_grows c cs)
    bound (suc i) h = fold_bound c cs d i h

-- ---- replies

pub hear_in : (hs : List Reply) (r x : Reply) → Contains (hear_reply hs r) x → Contains hs x ⊎ (r ≡ x)
hear_in hs r x within = go (list_any (equal_replies r) hs) refl
  where
    go : (b : Bool) → list_any (equal_replies r) hs ≡ b → Contains hs x ⊎ (r ≡ x)
    go true e = inl (rw e at within)
    go false e = Contains-push_cases hs r x (rw e at within)

pub server_in : (hs : List Reply) (s : ℕ) → heard_servers hs s ≡ true → (x : Reply) × Contains hs x × (x.server ≡ s)
server_in [] s h = absurd (true≢false (sym h))
server_in (y ∷ hs) s h = go (eqb y.server s) refl (server_in hs s)
  where
    go : (b : Bool) → eqb y.server s ≡ b → (heard_servers hs s ≡ true → (x : Reply) × Contains hs x × (x.server ≡ s)) → (x : Reply) × Contains (y ∷ hs) x × (x.server ≡ s)
    go true e ih = (y, (0, omega arith, refl), eqb-true y.server s e)
    go false e ih =
        let later = ih (rw e at h) in
        let within = later.1 in
        (later.0, (suc within.0, omega (arith, within.1), within.2), later.2)

pub copies_in : (hs : List Reply) (c : StoredCopy) → Contains (heard_copies hs) c → (x : Reply) × Contains hs x × (x.body ≡ Copy c)
copies_in [] c within = absurd (omega (arith, within.1))
copies_in (y ∷ hs) c within = go y.body refl (copies_in hs c)
  where
    Result : Type 0
    Result = (x : Reply) × Contains (y ∷ hs) x × (x.body ≡ Copy c)

    old : (Contains (heard_copies hs) c → (x : Reply) × Contains hs x × (x.body ≡ Copy c)) → Contains (heard_copies hs) c → Result
    old ih inside = let later = ih inside in let at = later.1 in (later.0, (suc at.0, omega (arith, at.1), at.2), later.2)

    by : (d : StoredCopy) → y.body ≡ Copy d → (Contains (heard_copies hs) c → (x : Reply) × Contains hs x × (x.body ≡ Copy c)) → Contains (d ∷ heard_copies hs) c → Result
    by d e ih (zero, low, is) = (y, (0, omega arith, refl), e ∙ ap Copy is)
    by d e ih (suc i, low, is) = old ih (i, omega arith, is)

    go : (b : Body) → y.body ≡ b → (Contains (heard_copies hs) c → (x : Reply) × Contains hs x × (x.body ≡ Copy c)) → Result
    go (Copy d) e ih = by d e ih (rw e at within)
    go Ask e ih = old ih (rw e at within)
    go (Store d) e ih = old ih (rw e at within)
    go Stored e ih = old ih (rw e at within)

pub copies_to : (hs : List Reply) (x : Reply) (c : StoredCopy) (i : ℕ) → slice_get hs i ≡ Some x → x.body ≡ Copy c → (j : ℕ) × (slice_get (heard_copies hs) j ≡ Some c)
copies_to [] x c i h is = absurd (let bad : None ≡ Some x = h in cc)
copies_to (y ∷ hs) x c zero h is =
    let same : y ≡ x = cc in
    let copied : y.body ≡ Copy c = ap (λ z. z.body) same ∙ is in
    (0, (rw copied))
copies_to (y ∷ hs) x c (suc i) h is = go y.body refl (copies_to hs x c i h is)
  where
    go : (b : Body) → y.body ≡ b → (j : ℕ) × (slice_get (heard_copies hs) j ≡ Some c) → (j : ℕ) × (slice_get (heard_copies (y ∷ hs)) j ≡ Some c)
    go (Copy d) e later = (suc later.0, (rw e later.1))
    go Ask e later = (later.0, (rw e later.1))
    go (Store d) e later = (later.0, (rw e later.1))
    go Stored e later = (later.0, (rw e later.1))

-- what passes a test is in the list, and passes
filtered_in : (test : Reply → Bool) (hs : List Reply) (x : Reply) → Contains (filter test hs) x → Contains hs x × (test x ≡ true)
filtered_in test [] x within = absurd (omega (arith, within.1))
filtered_in test (y ∷ hs) x within = go (test y) refl (filtered_in test hs x)
  where
    Result : Type 0
    Result = Contains (y ∷ hs) x × (test x ≡ true)

    later : Contains hs x × (test x ≡ true) → Result
    later r = let at = r.0 in ((suc at.0, omega (arith, at.1), at.2), r.1)

    by : test y ≡ true → (Contains (filter test hs) x → Contains hs x × (test x ≡ true)) → Contains (y ∷ filter test hs) x → Result
    by e ih (zero, low, is) = ((0, omega arith, is), ap test (sym is) ∙ e)
    by e ih (suc i, low, is) = later (ih (i, omega arith, is))

    go : (b : Bool) → test y ≡ b → (Contains (filter test hs) x → Contains hs x × (test x ≡ true)) → Result
    go true e ih = by e ih (rw e at within)
    go false e ih = later (ih (rw e at within))

copy_of_tag : (tag : Tag) (b : Body) → has_tag tag b ≡ true → (c : StoredCopy) × (b ≡ Copy c) × (c.tag ≡ tag)
copy_of_tag tag (Copy c) h =
    let parts = and_parts (eqb c.tag.number tag.number) (eqb c.tag.session tag.session) h in
    (c, refl, (λ i. record { number = eqb-true c.tag.number tag.number parts.0 i; session = eqb-true c.tag.session tag.session parts.1 i }))
copy_of_tag tag Ask h = absurd (true≢false (sym h))
copy_of_tag tag (Store c) h = absurd (true≢false (sym h))
copy_of_tag tag Stored h = absurd (true≢false (sym h))

-- a server that told a copy of the tag, with its reply and the copy
pub giver_in : (tag : Tag) (hs : List Reply) (s : ℕ) → givers tag hs s ≡ true → (x : Reply) × (c : StoredCopy) × Contains hs x × (x.server ≡ s) × (x.body ≡ Copy c) × (c.tag ≡ tag)
giver_in tag hs s gives =
    let passed = server_in (filter (λ reply. has_tag tag reply.body) hs) s gives in
    let told = filtered_in (λ reply. has_tag tag reply.body) hs passed.0 passed.1 in
    let copy = copy_of_tag tag passed.0.body told.1 in
    (passed.0, copy.0, told.0, passed.2, copy.1, copy.2)
