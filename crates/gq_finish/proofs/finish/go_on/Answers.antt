use Rattle.std.proofs.Common.{◌≡◌, Bool, true, false, List, subst}
use Rattle.gq_model.specs.declared.events.Event.{Event}
use Rattle.gq_model.specs.declared.events.Event.TheVariants.{Tenant}
use Rattle.gq_model.specs.declared.events.Refusal.TheVariants.{Spent, Idle}
use Rattle.gq_model.specs.Events.{answer_to}
use Rattle.gq_model.specs.Shown.{shown}
use Rattle.gq_model.specs.Told.{Told, Refused}
use Rattle.gq_world.specs.Tables.{Stands}
use Rattle.gq_finish.specs.declared.finish.Stop.{Stop}
use Rattle.gq_finish.specs.declared.finish.Stop.TheVariants.{Idle as NoOperation, Steps}
use Rattle.gq_finish.specs.Finishing.{goes_on, IsEnd}
use Rattle.gq_finish.proofs.Finishing.{ok_then, err_then}
use Rattle.gq_finish.proofs.finish.go_on.Goals as goal

-- what is known of the answer is known of what is answered after the events
pub returns-clause-going : goal.returns-clause-going
returns-clause-going c =
    ok_then (λ (done : Bool). done ≡ false → goes_on (shown c.in_ok-answer.answer) ≡ true)
    (λ (done : Bool). done ≡ false → (events : List Event) → Stands c.args.world.now.tables events → goes_on (answer_to c.args.world.now.tables.plan events (Tenant c.args.tenant c.args.line)) ≡ true)
    c.hear.result (λ done told is events stands. subst (λ (z : Told). goes_on z ≡ true) (c.in_ok-answer.ensures.answer events stands) (told is)) c.hear.ensures.going

pub returns-clause-done : goal.returns-clause-done
returns-clause-done c =
    ok_then (λ (done : Bool). done ≡ true → IsEnd c.args.session (shown c.in_ok-answer.answer))
    (λ (done : Bool). done ≡ true → (events : List Event) → Stands c.args.world.now.tables events → IsEnd c.args.session (answer_to c.args.world.now.tables.plan events (Tenant c.args.tenant c.args.line)))
    c.hear.result (λ done told is events stands. subst (IsEnd c.args.session) (c.in_ok-answer.ensures.answer events stands) (told is)) c.hear.ensures.done

pub returns-clause-spent : goal.returns-clause-spent
returns-clause-spent c =
    err_then (λ (stop : Stop). stop ≡ Steps → shown c.in_ok-answer.answer ≡ Refused Spent)
    (λ (stop : Stop). stop ≡ Steps → (events : List Event) → Stands c.args.world.now.tables events → answer_to c.args.world.now.tables.plan events (Tenant c.args.tenant c.args.line) ≡ Refused Spent)
    c.hear.result (λ stop told is events stands. subst (λ (z : Told). z ≡ Refused Spent) (c.in_ok-answer.ensures.answer events stands) (told is)) c.hear.ensures.spent

pub returns-clause-idle : goal.returns-clause-idle
returns-clause-idle c =
    err_then (λ (stop : Stop). stop ≡ NoOperation → shown c.in_ok-answer.answer ≡ Refused Idle)
    (λ (stop : Stop). stop ≡ NoOperation → (events : List Event) → Stands c.args.world.now.tables events → answer_to c.args.world.now.tables.plan events (Tenant c.args.tenant c.args.line) ≡ Refused Idle)
    c.hear.result (λ stop told is events stands. subst (λ (z : Told). z ≡ Refused Idle) (c.in_ok-answer.ensures.answer events stands) (told is)) c.hear.ensures.idle
