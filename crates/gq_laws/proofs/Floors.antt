-- A session's last number never falls, and each tag that its writes make is above it.
use Rattle.std.proofs.Common.{◌≡◌, ℕ, ◌+◌, ◌<◌, ◌≤◌, max, List, ◌∷◌, refl, sym, ap, ◌∙◌, subst, Option, Some, None, arith}
use Rattle.gq_grid.specs.Grid.{Grid}
use Rattle.gq_tag.specs.declared.Tag.{Tag}
use Rattle.gq_tag.specs.Tag.{File, OwnMessage, greatest}
use Rattle.gq_desk.specs.declared.plans.TenantRow.{TenantRow}
use Rattle.gq_phase.specs.Phase.{Task, Writing, Reading, Listing, HeardNext, with_reply, hear_current, heard_copies, hear_reply, reply_of}
use Rattle.gq_model.specs.Trace.{Entry, Trace, Deed, Elsewhere, Begins, Hears, Moves, Ends, Leaps, up}
use Rattle.gq_laws.proofs.Words.{deed_on, current, floor, heard}
use Rattle.gq_laws.proofs.Runs.{Follows}
use Rattle.gq_laws.proofs.Acts.{act, Turning, turning, going}
use Rattle.gq_laws.proofs.RoundEnds.{Next, ToStore, ToCollect, Skips, next_of}

-- the tag that a write of session k makes is the session's; its number is above the session's last one, and is then that
pub new_tag : (grid : Grid) (row : TenantRow) (t : Trace) (e : Entry) (k : ℕ) (file : File) (bytes : List ℕ) (l : OwnMessage) (r : ℕ) (tag : Tag) → Follows grid row t e → deed_on t k e ≡ Moves l r (Some tag) → current t k ≡ Some (Writing file bytes) →
    (tag.session ≡ k) × (floor t k < tag.number) × (floor (e ∷ t) k ≡ tag.number)
new_tag grid row t e k file bytes l r tag follows does busy = by (next_of grid (up t) (with_reply (going t k (Writing file bytes)) T.l) r (Some tag) e.new (subst P same T.heard))
  where
    T : Turning grid t e k r (Some tag)
    T = turning grid t e k l r (Some tag) (act grid row t e follows) does

    same : T.task ≡ Writing file bytes
    same = let both : Some T.task ≡ Some (Writing file bytes) = sym T.comes.busy ∙ busy in cc

    P : Task → Type 0
    P z = hear_current grid (up t) (with_reply (going t k z) T.l) ≡ HeardNext r (Some tag) e.new

    by : Next grid (up t) (with_reply (going t k (Writing file bytes)) T.l) r (Some tag) e.new → (tag.session ≡ k) × (floor t k < tag.number) × (floor (e ∷ t) k ≡ tag.number)
    by (ToStore odd ends r_is tag_is new_is) =
        let new : Tag = record { number = max (greatest (heard_copies (hear_reply (heard t k) (reply_of T.l)))).tag.number (floor t k) + 1; session = k } in
        let both : Some tag ≡ Some new = tag_is in
        let is : tag ≡ new = cc in
        (ap (λ z. z.session) is, omega (arith, ap (λ z. z.number) is), (rw (does, floor, busy)))
    by (ToCollect v f lists even ends r_is tag_is new_is) = absurd (let bad : Some tag ≡ None = tag_is in cc)
    by (Skips v f lists odd ends skips r_is tag_is new_is) = absurd (let bad : Some tag ≡ None = tag_is in cc)

-- with one more entry
pub floor_grows : (grid : Grid) (row : TenantRow) (t : Trace) (e : Entry) (k : ℕ) → Follows grid row t e → floor t k ≤ floor (e ∷ t) k
floor_grows grid row t e k follows = go (deed_on t k e) refl (current t k) refl
  where
    go : (d : Deed) → deed_on t k e ≡ d → (task : Option Task) → current t k ≡ task → floor t k ≤ floor (e ∷ t) k
    go (Moves m r (Some tag)) is (Some (Writing file bytes)) busy =
        let new = new_tag grid row t e k file bytes m r tag follows is busy in
        omega (arith, new.1, new.2)
    go (Moves m r (Some tag)) is (Some (Reading file)) busy = rw (is, floor, busy) (omega arith)
    go (Moves m r (Some tag)) is (Some (Listing v f)) busy = rw (is, floor, busy) (omega arith)
    go (Moves m r (Some tag)) is None busy = rw (is, floor, busy) (omega arith)
    go (Moves m r None) is (Some (Writing file bytes)) busy = rw (is, floor, busy) (omega arith)
    go (Moves m r None) is (Some (Reading file)) busy = rw (is, floor, busy) (omega arith)
    go (Moves m r None) is (Some (Listing v f)) busy = rw (is, floor, busy) (omega arith)
    go (Moves m r None) is None busy = rw (is, floor, busy) (omega arith)
    go Elsewhere is task busy = rw (is, floor) (omega arith)
    go (Begins line) is task busy = rw (is, floor) (omega arith)
    go (Hears m) is task busy = rw (is, floor) (omega arith)
    go Ends is task busy = rw (is, floor) (omega arith)
    go (Leaps last number) is task busy = rw (is, floor) (omega arith)
