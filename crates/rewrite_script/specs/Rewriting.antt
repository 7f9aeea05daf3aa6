-- What the canonical script of a script is.
use Rattle.std.specs.Prelude.{◌≡◌, ℕ, List}
use Rattle.gq_desk.specs.CheckedPlan.{CheckedPlan}
use Rattle.gq_model.specs.declared.events.Event.{Event}
use Rattle.gq_text.specs.Canonical.{script_text, IsScriptOf}

-- the text is the canonical script of the plan and the events of the script, and reading it gives them again
pub record IsRewriting (script text : List ℕ) : Type 0 where
  pub plan : CheckedPlan
  pub events : List Event
  pub read : IsScriptOf script plan events
  pub again : IsScriptOf text plan events
  pub canonical : text ≡ script_text plan events
