-- In the run of all tenants an operation is completed by the same lines.
use Rattle.std.proofs.Common.{◌≡◌, ℕ, ◌++◌, List, [], ◌∷◌, map, refl, ap, ◌∙◌, Some}
use Rattle.std.proofs.lemmas.Bool.{eq-eqb}
use Rattle.gq_desk.specs.CheckedPlan.{CheckedPlan, row_at}
use Rattle.gq_model.specs.declared.events.Event.{Event}
use Rattle.gq_model.specs.declared.events.Event.TheVariants.{Tenant}
use Rattle.gq_model.specs.declared.events.Line.{Line}
use Rattle.gq_model.specs.declared.events.Line.TheVariants.{Deliver, Retry}
use Rattle.gq_model.specs.Trace.{Own}
use Rattle.gq_model.specs.Lone.{told_from}
use Rattle.gq_model.specs.Events.{answer_to, own, past_at}
use Rattle.gq_model.proofs.Whole.{past_whole, up_has}
use Rattle.gq_laws.specs.Tenants.{answers_from}
use Rattle.gq_laws.specs.Progress.{Completes, AllTenantsComplete}
use Rattle.gq_laws.proofs.AllTenants.{past_more}
use Rattle.gq_laws.proofs.Completing.{all_operations_complete}

-- the next lines of a tenant are told what its run alone says
next_told : (plan : CheckedPlan) (t : ℕ) (lines : List Line) (events : List Event) → answers_from plan events (map (Tenant t) lines) ≡ told_from plan.grid (row_at plan t) (past_at plan t events) (map Own lines)
next_told plan t [] events = refl
next_told plan t (line ∷ lines) events =
    ap (λ later. answer_to plan events (Tenant t line) ∷ later)
    (next_told plan t lines (events ++ Tenant t line ∷ []) ∙ ap (λ p. told_from plan.grid (row_at plan t) p (map Own lines)) (past_more plan t events (Tenant t line) (Some (Own line)) (rw (eq-eqb t t refl) refl)))

pub all_tenants_complete : AllTenantsComplete
all_tenants_complete plan events t k o has q steps =
    let alone : Completes plan.grid (row_at plan t) (past_at plan t events) o (Retry k) = all_operations_complete plan.grid (row_at plan t) (own t events) k o has q (up_has (past_at plan t events).trace (past_whole plan t events)) steps in
    record { alone = alone; told = next_told plan t (Retry k ∷ map Deliver alone.numbers) events ∙ alone.told }
