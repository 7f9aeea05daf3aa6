-- What events do to servers, event by event.
use Rattle.std.proofs.Common.{◌≡◌, ℕ, zero, suc, ◌+◌, ◌<◌, List, [], ◌∷◌, ◌++◌, length, map, take, get_or, ap, sym, ◌∙◌, add-one, arith}
use Rattle.std.proofs.lemmas.List.{take_all}
use Rattle.gq_model.specs.declared.events.Event.{Event}
use Rattle.gq_model.specs.declared.events.Answer.{Answer}
use Rattle.gq_model.specs.Shown.{shown}
use Rattle.gq_picture.specs.declared.absences.Effect.{Effect}
use Rattle.gq_picture.specs.Absences.{effect_of, effects}

-- those of the first events
abbrev pub first_effects : ℕ → List Event → List Answer → List Effect
first_effects n events answers = effects (take n events) (map shown (take n answers))

next_effect : (events : List Event) (answers : List Answer) (i : ℕ) (e : Event) (a : Answer) → i < length events → length answers ≡ length events → e ≡ get_or events i e → a ≡ get_or answers i a →
    first_effects (suc i) events answers ≡ first_effects i events answers ++ effect_of e (shown a) ∷ []
next_effect [] answers i e a low same at_e at_a = absurd (omega (arith, low))
next_effect (x ∷ events) [] i e a low same at_e at_a = absurd (omega (arith, same))
next_effect (x ∷ events) (y ∷ answers) zero e a low same at_e at_a = λ j. effect_of (sym at_e j) (shown (sym at_a j)) ∷ []
next_effect (x ∷ events) (y ∷ answers) (suc i) e a low same at_e at_a = ap (λ more. effect_of x (shown y) ∷ more) (next_effect events answers i e a (omega (arith, low)) (omega (arith, same)) at_e at_a)

pub effects_more : (events : List Event) (answers : List Answer) (i : ℕ) (e : Event) (a : Answer) (all more : List Effect) → i < length events → length answers ≡ length events → e ≡ get_or events i e → a ≡ get_or answers i a →
    all ≡ first_effects i events answers → more ≡ all ++ effect_of e (shown a) ∷ [] → more ≡ first_effects (i + 1) events answers
effects_more events answers i e a all more low same at_e at_a before pushed =
    pushed ∙ ap (λ z. z ++ effect_of e (shown a) ∷ []) before ∙ sym (next_effect events answers i e a low same at_e at_a) ∙ ap (λ n. first_effects n events answers) (sym (add-one i))

pub effects_all : (events : List Event) (answers : List Answer) (i : ℕ) → length events < i + 1 → length answers ≡ length events → first_effects i events answers ≡ effects events (map shown answers)
effects_all events answers i high same = λ j. effects (take_all i events (omega (arith, high)) j) (map shown (take_all i answers (omega (arith, high, same)) j))
