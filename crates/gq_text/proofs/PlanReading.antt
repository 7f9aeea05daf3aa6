-- A plan that is read line by line.
use Rattle.std.proofs.Common.{◌≡◌, ℕ, List, Ok, refl}
use Rattle.gq_grid.specs.Grid.{Grid}
use Rattle.gq_desk.specs.declared.plans.TenantRow.{TenantRow}
use Rattle.gq_text.specs.declared.plan_text.PlanText.{PlanText}
use Rattle.gq_text.specs.declared.plan_text.PlanText.TheVariants.{Fault, Memory}
use Rattle.gq_lines.specs.Words.{words_of}
use Rattle.gq_text.specs.PlanText.{Reading, then_read, at_line, line_at, grid_told, blocks_told, is_room, rows_from, checked, plan_of, IsFaultOf}

-- all lines are read, and the rows are left to be tested
pub plan_after_lines : (lines after1 after2 after3 : List (List ℕ)) (first second : List ℕ) (grid : Grid) (blocks : ℕ) (rows : List TenantRow) → line_at 1 lines ≡ Ok (first, after1) → at_line 1 (grid_told (words_of first)) ≡ Ok grid → line_at 2 after1 ≡ Ok (second, after2) → at_line 2 (blocks_told (words_of second)) ≡ Ok blocks → rows_from (is_room (words_of second)) 3 after2 ≡ Ok (rows, after3) → plan_of lines ≡ then_read (checked grid blocks rows) (λ plan. Ok (plan, after3))
unfolding plan_of
plan_after_lines lines after1 after2 after3 first second grid blocks rows l1 g l2 b r = rw (l1, g, l2, b, r) refl

-- a fault stays
pub fault_stays : {A B : Type 0} (read : Reading A) (next : A → Reading B) (e : PlanText) → IsFaultOf read e → IsFaultOf (then_read read next) e
fault_stays read next (Fault line fault) is = rw is refl
fault_stays read next (Memory _) is = tt
