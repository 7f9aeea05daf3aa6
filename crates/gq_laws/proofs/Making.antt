-- The copies with which writes' store rounds began: an entry makes one at most, and no two have the same tag.
use Rattle.std.proofs.Common.{◌≡◌, ◌≢◌, ◌⊎◌, ℕ, ◌≤◌, ◌++◌, List, [], ◌∷◌, length, refl, sym, ap, ◌∙◌, subst, inl, inr, Option, Some, None, arith, append-nil}
use Rattle.std.specs.Prelude.{Contains, slice_get}
use Rattle.std.proofs.lemmas.List.Elements.{Contains-push_cases}
use Rattle.gq_grid.specs.Grid.{Grid}
use Rattle.gq_tag.specs.Tag.{OwnMessage}
use Rattle.gq_desk.specs.declared.plans.TenantRow.{TenantRow}
use Rattle.gq_phase.specs.Phase.{Task, Writing, Reading, Listing}
use Rattle.gq_model.specs.Told.{Told}
use Rattle.gq_model.specs.Trace.{Turn, Entry, Trace, Deed, Elsewhere, Begins, Hears, Moves, Ends, Leaps}
use Rattle.gq_laws.proofs.Words.{deed_on, current, floor}
use Rattle.gq_laws.proofs.Runs.{Made, made, made_of, IsRun}
use Rattle.gq_laws.proofs.Found.{contains_at, push_at}
use Rattle.gq_laws.proofs.Floors.{floor_grows, new_tag}

-- ---- what one entry made

-- the write of session k makes the copy at this entry
pub record MakesCopy (t : Trace) (e : Entry) (x : Made) : Type 0 where
  pub k : ℕ
  pub l : OwnMessage
  pub r : ℕ
  pub does : deed_on t k e ≡ Moves l r (Some x.copy.tag)
  pub busy : current t k ≡ Some (Writing x.file x.copy.bytes)

made_of_cases : (t : Trace) (e : Entry) (k : ℕ) → (made_of (deed_on t k e) (current t k) ≡ []) ⊎ ((x : Made) × MakesCopy t e x × (made_of (deed_on t k e) (current t k) ≡ x ∷ []))
made_of_cases t e k = go (deed_on t k e) refl (current t k) refl
  where
    Result : Type 0
    Result = (made_of (deed_on t k e) (current t k) ≡ []) ⊎ ((x : Made) × MakesCopy t e x × (made_of (deed_on t k e) (current t k) ≡ x ∷ []))

    none : (d : Deed) (task : Option Task) → deed_on t k e ≡ d → current t k ≡ task → made_of d task ≡ [] → Result
    none d task is busy empty = inl (ap (λ z. made_of z (current t k)) is ∙ ap (made_of d) busy ∙ empty)

    go : (d : Deed) → deed_on t k e ≡ d → (task : Option Task) → current t k ≡ task → Result
    go (Moves l r (Some tag)) is (Some (Writing file bytes)) busy = inr (
      record { file = file; copy = record { tag = tag; bytes = bytes } },
      record { k = k; l = l; r = r; does = is; busy = busy },
      ap (λ z. made_of z (current t k)) is ∙ ap (made_of (Moves l r (Some tag))) busy,
    )
    go (Moves l r (Some tag)) is (Some (Reading file)) busy = none (Moves l r (Some tag)) (Some (Reading file)) is busy refl
    go (Moves l r (Some tag)) is (Some (Listing v f)) busy = none (Moves l r (Some tag)) (Some (Listing v f)) is busy refl
    go (Moves l r (Some tag)) is None busy = none (Moves l r (Some tag)) None is busy refl
    go (Moves l r None) is task busy = none (Moves l r None) task is busy refl
    go Elsewhere is task busy = none Elsewhere task is busy refl
    go (Begins line) is task busy = none (Begins line) task is busy refl
    go (Hears l) is task busy = none (Hears l) task is busy refl
    go Ends is task busy = none Ends task is busy refl
    go (Leaps last number) is task busy = none (Leaps last number) task is busy refl

-- an entry makes no copy, or one
abbrev MadeBy : Trace → Entry → Type 0
MadeBy t e = (made (e ∷ t) ≡ made t) ⊎ ((x : Made) × MakesCopy t e x × (made (e ∷ t) ≡ made t ++ x ∷ []))

made_cases_by : (t : Trace) (turn : Turn) (message : Option OwnMessage) (told : Told) (new : List OwnMessage) → MadeBy t (record { turn = turn; message = message; told = told; new = new })
made_cases_by t turn None told new = inl (append-nil (made t))
made_cases_by t turn (Some m) told new = go (made_of_cases t e m.session)
  where
    e : Entry
    e = record { turn = turn; message = Some m; told = told; new = new }

    go : (made_of (deed_on t m.session e) (current t m.session) ≡ []) ⊎ ((x : Made) × MakesCopy t e x × (made_of (deed_on t m.session e) (current t m.session) ≡ x ∷ [])) → MadeBy t e
    go (inl none) = inl (ap (λ z. made t ++ z) none ∙ append-nil (made t))
    go (inr (x, makes, is)) = inr (x, makes, ap (λ z. made t ++ z) is)

made_cases : (t : Trace) (e : Entry) → MadeBy t e
made_cases t e = made_cases_by t e.turn e.message e.told e.new

pub made_entry : (t : Trace) (e : Entry) (x : Made) → Contains (made (e ∷ t)) x → Contains (made t) x ⊎ MakesCopy t e x
made_entry t e x within = go (made_cases t e)
  where
    P : List Made → Type 0
    P z = Contains z x

    by : (y : Made) → MakesCopy t e y → Contains (made t) x ⊎ (y ≡ x) → Contains (made t) x ⊎ MakesCopy t e x
    by y makes (inl old) = inl old
    by y makes (inr same) = let Q : Made → Type 0 = λ z. MakesCopy t e z in inr (subst Q same makes)

    go : MadeBy t e → Contains (made t) x ⊎ MakesCopy t e x
    go (inl same) = inl (subst P same within)
    go (inr (y, makes, is)) = by y makes (Contains-push_cases (made t) y x (subst P is within))

-- ---- their tags

-- none is above its session's last number
made_below : (grid : Grid) (row : TenantRow) (t : Trace) → IsRun grid row t → (x : Made) → Contains (made t) x → x.copy.tag.number ≤ floor t x.copy.tag.session
made_below grid row [] run x within = absurd (omega (arith, within.1))
made_below grid row (e ∷ t) run x within = go (λ old. made_below grid row t run.0 x old) (made_entry t e x within)
  where
    go : (Contains (made t) x → x.copy.tag.number ≤ floor t x.copy.tag.session) → Contains (made t) x ⊎ MakesCopy t e x → x.copy.tag.number ≤ floor (e ∷ t) x.copy.tag.session
    go before (inl old) = omega (arith, before old, floor_grows grid row t e x.copy.tag.session run.1)
    go before (inr makes) =
        let new = new_tag grid row t e makes.k x.file x.copy.bytes makes.l makes.r x.copy.tag run.1 makes.does makes.busy in
        omega (arith, new.2, ap (floor (e ∷ t)) new.0)

-- no two have the same tag
pub made_tags_differ : (grid : Grid) (row : TenantRow) (t : Trace) → IsRun grid row t → (i j : ℕ) (x y : Made) → slice_get (made t) i ≡ Some x → slice_get (made t) j ≡ Some y → x.copy.tag ≡ y.copy.tag → i ≡ j
made_tags_differ grid row [] run i j x y at_i at_j same = absurd (let bad : None ≡ Some x = at_i in cc)
made_tags_differ grid row (e ∷ t) run i j x y at_i at_j same = go (λ a b. made_tags_differ grid row t run.0 i j x y a b same) (made_cases t e)
  where
    Before : Type 0
    Before = slice_get (made t) i ≡ Some x → slice_get (made t) j ≡ Some y → i ≡ j

    is_new : (z : Made) → MakesCopy t e z → (w : Made) → Contains (made t) w → w.copy.tag ≢ z.copy.tag
    is_new z makes w within tags =
        let new = new_tag grid row t e makes.k z.file z.copy.bytes makes.l makes.r z.copy.tag run.1 makes.does makes.busy in
        omega (arith, new.1, made_below grid row t run.0 w within, ap (λ g. g.number) tags, ap (λ g. floor t g.session) tags, ap (floor t) new.0)

    by : Before → (z : Made) → MakesCopy t e z → (slice_get (made t) i ≡ Some x) ⊎ ((i ≡ length (made t)) × (z ≡ x)) → (slice_get (made t) j ≡ Some y) ⊎ ((j ≡ length (made t)) × (z ≡ y)) → i ≡ j
    by before z makes (inl a) (inl b) = before a b
    by before z makes (inl a) (inr b) = absurd (is_new z makes x (contains_at (made t) i x a) (same ∙ ap (λ m. m.copy.tag) (sym b.1)))
    by before z makes (inr a) (inl b) = absurd (is_new z makes y (contains_at (made t) j y b) (sym same ∙ ap (λ m. m.copy.tag) (sym a.1)))
    by before z makes (inr a) (inr b) = a.0 ∙ sym b.0

    go : Before → MadeBy t e → i ≡ j
    go before (inl is) = before (ap (λ l. slice_get l i) (sym is) ∙ at_i) (ap (λ l. slice_get l j) (sym is) ∙ at_j)
    go before (inr (z, makes, is)) = by before z makes (push_at (made t) z i x (ap (λ l. slice_get l i) (sym is) ∙ at_i)) (push_at (made t) z j y (ap (λ l. slice_get l j) (sym is) ∙ at_j))
