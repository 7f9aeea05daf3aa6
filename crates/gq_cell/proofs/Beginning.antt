-- A cell that begins: no file is there, and nothing was done.
use Rattle.std.proofs.Common.{◌≡◌, ℕ, List, [], refl, sym, ap, ◌∙◌, subst, arith, true}
use Rattle.std.proofs.lemmas.List.{get_or_past}
use Rattle.std.proofs.Math.ListN.{get_or-map}
use Rattle.gq_tag.specs.declared.FileId.{FileId}
use Rattle.gq_tag.specs.Tag.{first_copy}
use Rattle.gq_desk.specs.CheckedPlan.{CheckedPlan, nobody}
use Rattle.gq_store.specs.Copies.{StoreCopies, TenantCopies, VolumeCopies, copy_at, volume_copy, volume_in, empty_store, new_tenant, empty_volume}
use Rattle.gq_cell.specs.declared.letter.CellEntry.{CellEntry}
use Rattle.gq_cell.specs.Keeping.{Replays}
use Rattle.gq_cell.proofs.Growing.{copy_after-fold}

copy_at-empty : (plan : CheckedPlan) (id : FileId) → copy_at (empty_store plan) id ≡ first_copy
copy_at-empty plan id =
    ap (λ (x : TenantCopies). volume_copy (volume_in x id.volume) id.file) (get_or-map new_tenant plan.rows id.tenant nobody)
    ∙ (ap (λ (y : VolumeCopies). volume_copy y id.file) (get_or_past [] id.volume empty_volume (omega arith)) ∙ get_or_past [] id.file first_copy (omega arith))

pub begins : (server total : ℕ) (store : StoreCopies) (j : List CellEntry) (plan : CheckedPlan) → total ≡ 0 → store ≡ empty_store plan → j ≡ [] → Replays server true 0 total store j
begins server total store j plan none is empty =
    subst (Replays server true 0 total store) (sym empty) (record {
      lawful = tt;
      copies = λ file. ap (λ (s : StoreCopies). copy_at s file) is ∙ (copy_at-empty plan file ∙ sym (copy_after-fold [] file));
      flag = refl;
      stamp = refl;
      counted = none;
      few = omega arith;
    })
