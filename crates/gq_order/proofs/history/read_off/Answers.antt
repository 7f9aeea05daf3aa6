use Rattle.std.proofs.Common.{[], ◌≤◌, length, ◌∙◌, sym, subst, ℕ, List}
use Rattle.gq_order.proofs.Backwards.{few_events, few_answers}
use Rattle.gq_order.proofs.history.read_off.Goals as goal

pub read_back-requires-clause-events : goal.read_back-requires-clause-events
read_back-requires-clause-events c =
    let P : List ℕ → Type 0 = λ z. length z ≤ length c.args.events.now in
    subst P (sym (c.as_slice.ensures.value ∙ c.in_ok-sessions.ensures)) (few_events c.args.file.tenant [] c.args.events.now c.args.answers.now)

pub read_back-requires-clause-answers : goal.read_back-requires-clause-answers
read_back-requires-clause-answers c =
    let P : List ℕ → Type 0 = λ z. length z ≤ length c.args.answers.now in
    subst P (sym (c.as_slice.ensures.value ∙ c.in_ok-sessions.ensures)) (few_answers c.args.file.tenant [] c.args.events.now c.args.answers.now)
