-- Each operation is of a session that the tenant's row has.
use Rattle.std.proofs.Common.{◌≡◌, ℕ, Bool, true, false, List, refl, subst, Some, None}
use Rattle.std.specs.Prelude.{nat_lt}
use Rattle.gq_grid.specs.Grid.{Grid}
use Rattle.gq_tag.specs.Tag.{File}
use Rattle.gq_desk.specs.CheckedPlan.{CheckedPlan, row_at}
use Rattle.gq_desk.specs.Plans.{is_in}
use Rattle.gq_desk.specs.declared.plans.TenantRow.{TenantRow}
use Rattle.gq_model.specs.declared.events.Event.{Event}
use Rattle.gq_model.specs.Events.{own}
use Rattle.gq_model.specs.Trace.{Turn, start, files_of}
use Rattle.gq_laws.specs.declared.ops.Op.{Op}
use Rattle.gq_laws.specs.Laws.{lone_operations}
use Rattle.gq_laws.specs.Operations.{SessionAnswer, At, opened_in}
use Rattle.gq_laws.specs.Tenants.{tenant_operations}
use Rattle.gq_laws.proofs.AllTenants.{place_in_all, operations_alone}
use Rattle.gq_laws.proofs.Beginnings.{op_at}
use Rattle.gq_laws.proofs.Going.{begins_in_range}
use Rattle.gq_laws.proofs.OtherPlaces.{op_was}
use Rattle.gq_laws.proofs.Telling.{tells}

-- in its run by itself
lone_in_range : (grid : Grid) (row : TenantRow) (turns : List Turn) (file : File) (i : ℕ) (a : Op) → At (lone_operations grid row turns file) i a → is_in 1 row.sessions a.session ≡ true
lone_in_range grid row turns file i a at = by (nat_lt file.place (files_of (opened_in all) file.volume)) refl
  where
    all : List SessionAnswer
    all = tells grid row start 0 turns

    by : (b : Bool) → nat_lt file.place (files_of (opened_in all) file.volume) ≡ b → is_in 1 row.sessions a.session ≡ true
    by true there =
        let o = op_at grid row file turns start 0 i a (rw there at at) in
        begins_in_range grid row o.q.trace o.begun.g.e a.session o.begun.line o.begun.g.follows o.begun.does
    by false gone = absurd (let bad : None ≡ Some a = rw gone at at in cc)

-- and in a run of all tenants
pub tenant_in_range : (plan : CheckedPlan) (events : List Event) (t : ℕ) (file : File) (i : ℕ) (a : Op) → At (tenant_operations plan events t file) i a → is_in 1 (row_at plan t).sessions a.session ≡ true
tenant_in_range plan events t file i a at =
    let P : List Op → Type 0 = λ ops. At ops i a in
    let Q : Op → Type 0 = λ z. is_in 1 (row_at plan t).sessions z.session ≡ true in
    let was = op_was (place_in_all t 0 events) (lone_operations plan.grid (row_at plan t) (own t events) file) i a (subst P (operations_alone plan events t file) at) in
    subst Q was.2 (lone_in_range plan.grid (row_at plan t) (own t events) file i was.0 was.1)
