-- Rooms for chunks that tenants may have, one behind another, and that none gets less.
use Rattle.std.proofs.Common.{◌≡◌, ℕ, ◌<◌, ◌≤◌, ◌^◌, ◌⊎◌, inl, inr, List, [], ◌∷◌, ◌++◌, length, get_or, zero, suc, Bool, true, false, cond, refl, sym, subst, arith, append_assoc, append-nil}
use Rattle.std.specs.Prelude.{◌==◌, ◌||◌, nat_le}
use Rattle.std.specs.List.{All}
use Rattle.std.proofs.lemmas.Bool.{and_parts, eqb-true, leb-true}
use Rattle.gq_desk.specs.CheckedPlan.{CheckedPlan}
use Rattle.gq_lines.specs.Words.{Word}
use Rattle.gq_setup.specs.declared.openings.ChunkRoom.{ChunkRoom}
use Rattle.gq_setup.specs.Setups.{kib_of, can_have, CanHave, is_gone_at}
use Rattle.gq_setup.specs.GoingOn.{rooms_kept, rooms_go_on}

-- behind what may be had another may be
pub one_had : (plan : CheckedPlan) (before rooms : List ChunkRoom) (room : ChunkRoom) → CanHave plan before rooms → room.tenant < length plan.rows → room.kib < 2 ^ 32 → can_have (before ++ rooms) room ≡ true →
    CanHave plan before (rooms ++ room ∷ [])
one_had plan before [] room can there low may = (there, low, subst (λ b. can_have b room ≡ true) (append-nil before) may, tt)
one_had plan before (x ∷ rooms) room can there low may =
    (can.0, can.1, can.2, one_had plan (before ++ x ∷ []) rooms room can.3 there low (subst (λ b. can_have b room ≡ true) (sym (append_assoc before (x ∷ []) rooms)) may))

-- each is of a tenant that is there
there_from : (plan : CheckedPlan) (before rooms : List ChunkRoom) → CanHave plan before rooms → (k : ℕ) (d : ChunkRoom) → k < length rooms → (get_or rooms k d).tenant < length plan.rows
there_from plan before [] can k d less = absurd (omega arith)
there_from plan before (room ∷ rooms) can zero d less = can.0
there_from plan before (room ∷ rooms) can (suc k) d less = there_from plan (before ++ room ∷ []) rooms can.3 k d (omega arith)

pub all_there : (plan : CheckedPlan) (rooms : List ChunkRoom) → CanHave plan [] rooms → All (λ (room : ChunkRoom). room.tenant < length plan.rows) rooms
all_there plan rooms can = there_from plan [] rooms can

-- ---- no less than before

-- a tenant that is not gone has none by these, or keeps what it had
none_or_kept : (gone : List Word) (plan : CheckedPlan) (olds news rooms : List ChunkRoom) (t : ℕ) → is_gone_at gone plan t ≡ false → rooms_kept gone plan olds news rooms ≡ true → (kib_of rooms t ≡ 0) ⊎ (nat_le (kib_of olds t) (kib_of news t) ≡ true)
none_or_kept gone plan olds news [] t stays kept = inl refl
none_or_kept gone plan olds news (room ∷ rooms) t stays kept =
    let parts = and_parts (is_gone_at gone plan room.tenant || nat_le (kib_of olds room.tenant) (kib_of news room.tenant)) (rooms_kept gone plan olds news rooms) kept in
    by (room.tenant == t) refl parts.0 (none_or_kept gone plan olds news rooms t stays parts.1)
  where
    its : room.tenant ≡ t → (is_gone_at gone plan room.tenant || nat_le (kib_of olds room.tenant) (kib_of news room.tenant)) ≡ true → nat_le (kib_of olds t) (kib_of news t) ≡ true
    its is kept =
        subst (λ b. (b || nat_le (kib_of olds t) (kib_of news t)) ≡ true) stays
        (subst (λ p. (is_gone_at gone plan p || nat_le (kib_of olds p) (kib_of news p)) ≡ true) is kept)

    by : (b : Bool) → (room.tenant == t) ≡ b → (is_gone_at gone plan room.tenant || nat_le (kib_of olds room.tenant) (kib_of news room.tenant)) ≡ true →
        (kib_of rooms t ≡ 0) ⊎ (nat_le (kib_of olds t) (kib_of news t) ≡ true) →
        (cond b room.kib (kib_of rooms t) ≡ 0) ⊎ (nat_le (kib_of olds t) (kib_of news t) ≡ true)
    by true same kept later = inr (its (eqb-true room.tenant t same) kept)
    by false other kept later = later

pub rooms_grow : (gone : List Word) (plan : CheckedPlan) (olds news : List ChunkRoom) (t : ℕ) → rooms_go_on gone plan olds news ≡ true → is_gone_at gone plan t ≡ false → kib_of olds t ≤ kib_of news t
rooms_grow gone plan olds news t kept stays = elim (none_or_kept gone plan olds news olds t stays kept) [
  | inl none ↦ omega (arith, none)
  | inr more ↦ leb-true (kib_of olds t) (kib_of news t) more
]
