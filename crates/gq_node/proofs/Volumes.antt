-- Volumes that may be opened are the model's, once they were opened there.
use Rattle.std.proofs.Common.{◌≡◌, ◌∙◌, ℕ, ◌+◌, ◌≤◌, ◌<◌, false, List, [], ◌∷◌, ◌++◌, length, refl, sym, ap, arith, append-nil, append_assoc, min, None}
use Rattle.std.specs.Prelude.{fold, nat_le}
use Rattle.std.proofs.lemmas.Bool.Decides.{nat_tests}
use Rattle.gq_grid.specs.Grid.{Grid}
use Rattle.gq_desk.specs.declared.plans.TenantRow.{TenantRow}
use Rattle.gq_desk.specs.declared.volumes.VolumeRow.{VolumeRow}
use Rattle.gq_desk.specs.Volumes.{open_fault, account_with}
use Rattle.gq_model.specs.declared.events.Line.TheVariants.{NewVolume}
use Rattle.gq_model.specs.Told.{Opened}
use Rattle.gq_model.specs.Trace.{Turn, Own, Past, start, volumes}
use Rattle.gq_model.specs.Lone.{step_at, after, open_told, quiet}
use Rattle.gq_cluster.specs.Laws.{openings}
use Rattle.gq_node.specs.Nodes.{AllOpen, AllVolumesOpen}

not_spent : (steps lines : ℕ) → lines < steps → nat_le steps (min steps lines) ≡ false
not_spent steps lines low = let least : min steps lines ≡ lines = omega arith in rw least (grind (arith, nat_tests))

-- one
opens_one : (grid : Grid) (row : TenantRow) (p : Past) (v : VolumeRow) → p.lines < row.steps → open_fault (account_with row (volumes p.trace)) v ≡ None →
    step_at grid row p (Own (NewVolume v.files v.blocks)) ≡ quiet (Opened (length (volumes p.trace)))
opens_one grid row p v low sound = (rw (not_spent row.steps p.lines low) refl) ∙ ap (λ fault. quiet (open_told (length (volumes p.trace)) fault)) sound

opened_one : (grid : Grid) (row : TenantRow) (p : Past) (v : VolumeRow) → p.lines < row.steps → open_fault (account_with row (volumes p.trace)) v ≡ None →
    volumes (after grid row p (Own (NewVolume v.files v.blocks))).trace ≡ volumes p.trace ++ v ∷ []
opened_one grid row p v low sound = rw (opens_one grid row p v low sound) refl

opened_all : (grid : Grid) (row : TenantRow) (opens : List VolumeRow) (p : Past) (before : List VolumeRow) → volumes p.trace ≡ before → AllOpen row before opens → p.lines + length opens ≤ row.steps →
    volumes (fold (after grid row) p (openings opens)).trace ≡ before ++ opens
opened_all grid row [] p before is sound enough = is ∙ sym (append-nil before)
opened_all grid row (v ∷ opens) p before is sound enough =
    let low : p.lines < row.steps = omega arith in
    let turn : Turn = Own (NewVolume v.files v.blocks) in
    let one : volumes (after grid row p turn).trace ≡ before ++ v ∷ [] = opened_one grid row p v low (ap (λ vs. open_fault (account_with row vs) v) is ∙ sound.0) ∙ ap (λ vs. vs ++ v ∷ []) is in
    let more : p.lines + 1 + length opens ≤ row.steps = omega arith in
    opened_all grid row opens (after grid row p turn) (before ++ v ∷ []) one sound.1 more ∙ append_assoc before (v ∷ []) opens

pub all_volumes_open : AllVolumesOpen
all_volumes_open grid row home opens sound enough = opened_all grid row opens start [] refl sound (omega arith)
