use Rattle.std.proofs.Common.{◌≡◌, ◌++◌, ◌∙◌, subst, sym, ap}
use Rattle.std.specs.List.{All}
use Rattle.gq_model.specs.Events.{IsIn}
use Rattle.gq_inspect.specs.Replay.{IsRunOf}
use Rattle.gq_text.specs.Canonical.{IsScriptOf, script_text}
use Rattle.gq_runs.proofs.live.recorded_script.Goals as goal

pub write_script-requires : goal.write_script-requires
write_script-requires g c = subst (All (IsIn c.args.plan.now)) (sym c.as_slice.ensures.value) c.in-Ok-inspect.ensures.within

pub returns-in-Ok-write_script-clause-script :
    goal.returns-in-Ok-write_script-clause-script
returns-in-Ok-write_script-clause-script g c =
    let plan = c.args.plan.now in let events = c.as_slice.result.now in let live = c.in-Ok.ensures in
    let is : c.write_script.new.out.items ≡ script_text plan events = c.in-Ok-write_script.ensures.ok ∙ ap (λ t. t ++ script_text plan events) c.new-text.ensures.items in
    record {
      events = events;
      run = record {
        records = c.in-Ok.records;
        recorded = record { volumes = live.volumes; cells = live.cells; lawful = live.lawful; sessions = live.sessions; asked = live.asked; gave_up = live.gave_up; changes = live.changes; opens = live.opens };
        run = subst (IsRunOf plan c.in-Ok.records) (sym c.as_slice.ensures.value) c.in-Ok-inspect.ensures.run;
      };
      is = is;
      back = subst (λ text. IsScriptOf text plan events) (sym is) c.in-Ok-write_script.ensures.back;
    }
