use Rattle.std.proofs.Common.{◌≡◌, ◌∙◌, Option, Some, None, true, false, sym, ap, subst, refl}
use Rattle.std.specs.Prelude.{List, ℕ, is_some, not}
use Rattle.gq_desk.specs.declared.plans.TenantRow.{TenantRow}
use Rattle.gq_script.specs.Stepping.{MissesGo}
use Rattle.gq_script.proofs.Growing.{misses_more}
use Rattle.gq_script.proofs.stepping.are_rows.Goals as goal

some_row : (o : Option TenantRow) → is_some o ≡ true → (row : TenantRow) × (o ≡ Some row)
some_row None is = absurd (let apart : false ≡ true = is in cc)
some_row (Some row) is = (row, refl)

pub loop-rest-preserved : goal.loop-rest-preserved
loop-rest-preserved c =
    let row = some_row c.row_told.result (c.is_none.ensures ∙ ap not c.if-is_none.false) in
    let other = rw c.as_slice.ensures at c.if-eq.ensures in
    let P : List (List ℕ) → Type 0 = λ lines. MissesGo c.args.room lines in
    record {
      rows = λ miss. c.loop-rest.invariant.rows (subst P (sym c.first_line.ensures.lines)
          (misses_more c.args.room c.first_line.result.0.now _ row.0 (sym other) (sym c.row_told.ensures ∙ row.1) miss));
    }
