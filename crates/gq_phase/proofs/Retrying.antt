-- A round that goes on has a server of each of its quorums that was not heard.
use Rattle.std.proofs.Common.{◌≡◌, ℕ, zero, suc, ◌+◌, ◌*◌, ◌<◌, ◌≤◌, Bool, true, false, List, [], ◌∷◌, length, refl, sym, ◌∙◌, inl, inr, Some, arith}
use Rattle.std.specs.Prelude.{filter}
use Rattle.std.specs.List.{range_with_len}
use Rattle.std.proofs.lemmas.Bool.{cases_Bool, cases_eq, true≢false}
use Rattle.gq_grid.specs.Grid.{Grid, Servers, rising}
use Rattle.gq_round.specs.Round.{apart}
use Rattle.gq_phase.specs.declared.operation.Operation.{Operation as Code}
use Rattle.gq_phase.specs.Phase.{ends_round, is_collect}
use Rattle.gq_phase.specs.Standing.{quorum_as, ends_as}
use Rattle.gq_phase.proofs.Meeting.{collect_quorums_end, store_quorums_end, nobody_ends, more_still_end}

-- a round goes on as it begins
pub nothing_heard : (grid : Grid) (round : ℕ) → 0 < grid.rows * grid.cols → ends_round grid round [] ≡ false
nothing_heard grid round some =
    elim (cases_Bool (is_collect round)) [
      | inl e ↦ rw e (nobody_ends grid some).0
      | inr e ↦ rw e (nobody_ends grid some).1
    ]

-- none of the numbers passes where none is left
filter_none : (p : ℕ → Bool) (a n x : ℕ) → filter p (range_with_len a n) ≡ [] → a ≤ x → x < a + n → p x ≡ false
filter_none p a zero x h low high = absurd (omega arith)
filter_none p a (suc n) x h low high =
    elim (cases_Bool (p a)) [
      | inl e ↦ let some : a ∷ filter p (range_with_len (a + 1) n) ≡ [] = rw e at h in absurd (cc)
      | inr e ↦
          let rest : filter p (range_with_len (a + 1) n) ≡ [] = rw e at h in
          elim (cases_eq a x) [
            | inl same ↦ rw (← same) e
            | inr other ↦ filter_none p (a + 1) n x rest (omega arith) (omega arith)
          ]
    ]

-- a server of the one set that is not apart from the other is in the other
in_both : (set but : Servers) (server : ℕ) → apart set but server ≡ false → set server ≡ true → but server ≡ true
in_both set but server h is =
    elim (cases_Bool (but server)) [
      | inl e ↦ e
      | inr e ↦ absurd (let apart_is : true ≡ false = rw (is, e) at h in true≢false apart_is)
    ]

-- a quorum of the value's round ends it
quorum_ends : (code : Code) (up quorum : Servers) → quorum_as code up ≡ Some quorum → ends_as code quorum ≡ true
quorum_ends code up quorum h =
    elim (cases_Bool code.course.collecting) [
      | inl e ↦ rw e (collect_quorums_end code.grid up quorum (rw e at h))
      | inr e ↦ rw e (store_quorums_end code.grid up quorum (rw e at h))
    ]

still_ends : (code : Code) (fewer more : Servers) → ((server : ℕ) → server < code.grid.rows * code.grid.cols → fewer server ≡ true → more server ≡ true) → ends_as code fewer ≡ true → ends_as code more ≡ true
still_ends code fewer more within h =
    elim (cases_Bool code.course.collecting) [
      | inl e ↦ rw e ((more_still_end code.grid fewer more within).0 (rw e at h))
      | inr e ↦ rw e ((more_still_end code.grid fewer more within).1 (rw e at h))
    ]

pub one_unheard : (code : Code) (up quorum heard : Servers) → quorum_as code up ≡ Some quorum → ends_as code heard ≡ false → 0 < length (rising code.grid (apart quorum heard))
one_unheard code up quorum heard chosen goes_on = go (rising code.grid (apart quorum heard)) refl
  where
    go : (unheard : List ℕ) → rising code.grid (apart quorum heard) ≡ unheard → 0 < length (rising code.grid (apart quorum heard))
    go [] e =
        let within : (server : ℕ) → server < code.grid.rows * code.grid.cols → quorum server ≡ true → heard server ≡ true =
        λ server below. in_both quorum heard server (filter_none (apart quorum heard) 0 (code.grid.rows * code.grid.cols) server e (omega arith) (omega arith)) in
        absurd (true≢false (sym (still_ends code quorum heard within (quorum_ends code up quorum chosen)) ∙ goes_on))
    go (x ∷ xs) e = rw e (omega arith)
