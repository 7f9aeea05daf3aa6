-- The canonical script of what a script tells is its rewriting.
use Rattle.std.proofs.Common.{◌≡◌, ℕ, ◌-◌, List, Ok, map, sym, take, drop, length}
use Rattle.gq_desk.specs.CheckedPlan.{CheckedPlan}
use Rattle.gq_model.specs.declared.events.Event.{Event}
use Rattle.gq_lines.specs.Lines.{lines_of}
use Rattle.gq_text.specs.Input.{event_of}
use Rattle.gq_text.specs.PlanText.{plan_of}
use Rattle.gq_text.specs.Canonical.{script_text, IsScriptOf}
use Rattle.gq_lines.proofs.WordsLemmas.{whole_rest}
use Rattle.rewrite_script.specs.Rewriting.{IsRewriting}

-- the lines after the plan start at a place of the script
pub is_rewriting : (script text : List ℕ) (plan : CheckedPlan) (place : ℕ) (events : List Event) → plan_of (lines_of script) ≡ Ok (plan, lines_of (drop place script))
    → events ≡ map (event_of plan) (lines_of (take (length script - place) (drop place script)))
    → text ≡ script_text plan events → IsScriptOf (script_text plan events) plan events → IsRewriting script text
is_rewriting script text plan place events read tell is back =
    let told : events ≡ map (event_of plan) (lines_of (drop place script)) = rw whole_rest at tell in
    record {
      plan = plan;
      events = events;
      read = record { lines = lines_of (drop place script); read = read; tell = sym told };
      again = rw is back;
      canonical = is;
    }
