use Rattle.std.proofs.Common.{◌≡◌, ◌∙◌, ◌*◌, ◌+◌, ℕ, List, [], ◌∷◌, length, length-append, Option, ap, sym, subst}
use Rattle.std.specs.Prelude.{unwrap_or, slice_get}
use Rattle.gq_desk.specs.CheckedPlan.{CheckedPlan, row_at, nobody}
use Rattle.gq_desk.specs.declared.plans.TenantRow.{TenantRow}
use Rattle.gq_setup.specs.Setups.{kib_of}
use Rattle.gq_depot.specs.declared.depot.Depot.{Depot}
use Rattle.gq_chunks.specs.Machines.{IsBare, room_before, lacks_at_first}
use Rattle.gq_chunks.proofs.Begun.{each_more, bare_at}
use Rattle.gq_chunks.proofs.new_depots.new_depots.Goals as goal

pub loop-place-preserved : goal.loop-place-preserved
loop-place-preserved c =
    let setup = c.args.setup.now in
    let P : ℕ → Depot → Type 0 = λ t depot. IsBare (row_at setup.plan t).sessions (kib_of setup.rooms t * 1024) (lacks_at_first c.args.node (room_before c.args.first.now t) (kib_of setup.rooms t * 1024)) depot in
    let row : c.row.result.now.sessions ≡ (row_at setup.plan c.loop-place.place).sessions =
    sym (ap (λ (o : Option TenantRow). (unwrap_or o nobody).sessions) (ap (λ (p : CheckedPlan). slice_get p.rows c.loop-place.place) (sym c.plan-in-loop-place.ensures) ∙ c.row.ensures.row)) in
    let one : P (length c.loop-place.depots.items) c.in_ok-new.field-0 = subst (λ (t : ℕ). P t c.in_ok-new.field-0) (sym c.loop-place.invariant.0)
    (bare_at c.args.node c.in_ok-new.field-0 (row_at setup.plan c.loop-place.place).sessions _ _ _ _ _ (c.in_ok-new.ensures.sessions ∙ row) c.in_ok-new.ensures.allowed c.chunk_bytes-allowed.ensures c.lacks_at_first-lacks.ensures c.room_before.ensures c.in_ok-new.ensures.nothing) in (
      ap (λ (xs : List Depot). length xs) c.in_ok-grow.ensures.items ∙ (length-append c.loop-place.depots.items (c.in_ok-new.field-0 ∷ []) ∙ ap (λ (n : ℕ). n + 1) c.loop-place.invariant.0),
      λ t depot at. each_more P c.loop-place.depots.items c.in_ok-new.field-0 c.loop-place.invariant.1 one t depot (ap (λ (xs : List Depot). slice_get xs t) (sym c.in_ok-grow.ensures.items) ∙ at),
    )
