-- A run grows event by event.
use Rattle.std.proofs.Common.{◌≡◌, List, [], ◌∷◌, ◌++◌, refl, sym, ap, ◌∙◌, append_assoc}
use Rattle.std.proofs.lemmas.List.{map-append, append-nil}
use Rattle.gq_desk.specs.CheckedPlan.{CheckedPlan}
use Rattle.gq_model.specs.declared.events.Event.{Event}
use Rattle.gq_model.specs.Events.{answer_to}
use Rattle.gq_model.specs.Shown.{shown}
use Rattle.gq_laws.specs.Tenants.{answers, answers_from}
use Rattle.gq_order.specs.Runs.{RunsGrow}

answers_more : (plan : CheckedPlan) (before events : List Event) (e : Event) → answers_from plan before (events ++ e ∷ []) ≡ answers_from plan before events ++ answer_to plan (before ++ events) e ∷ []
answers_more plan before [] e = ap (λ z. answer_to plan z e ∷ []) (sym (append-nil before))
answers_more plan before (x ∷ events) e =
    ap (λ z. answer_to plan before x ∷ z) (answers_more plan (before ++ x ∷ []) events e ∙ ap (λ z. answers_from plan (before ++ x ∷ []) events ++ answer_to plan z e ∷ []) (append_assoc before (x ∷ []) events))

pub runs-grow : RunsGrow
runs-grow = record {
  none = λ plan. refl;
  more = λ plan events given e a run says.
      map-append shown given (a ∷ [])
      ∙ ap (λ z. z ++ shown a ∷ []) run
      ∙ ap (λ z. answers plan events ++ z ∷ []) says
      ∙ sym (answers_more plan [] events e);
}
