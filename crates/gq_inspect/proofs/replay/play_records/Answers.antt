-- The events are the run of the records.
use Rattle.std.proofs.Common.{◌≡◌, ◌∙◌, List, [], ◌++◌, ap, map, rules}
use Rattle.std.proofs.lemmas.Result.{on_ok_weaker}
use Rattle.gq_desk.specs.CheckedPlan.{CheckedPlan}
use Rattle.gq_model.specs.declared.events.Event.{Event}
use Rattle.gq_session.specs.declared.records.Opening.{Opening}
use Rattle.gq_session.specs.declared.records.Records.{Records}
use Rattle.gq_inspect.specs.declared.steps.Step.{Step}
use Rattle.gq_inspect.specs.declared.replaying.First.{First}
use Rattle.gq_inspect.specs.Replay.{OrderFits, IsRunOf, Opens, opening_event}
use Rattle.gq_inspect.specs.Tapes.{before_of}
use Rattle.gq_inspect.proofs.replay.play_records.Goals as goal

opens_as : (plan : CheckedPlan) (events : List Event) (openings also_openings : List Opening) → events ≡ [] → also_openings ≡ openings → Opens plan events also_openings → Opens plan [] openings
opens_as plan events openings also_openings none listed opens = rw (← none, ← listed) opens

goes_as : (r : Records) (plan also : CheckedPlan) (order also_order : List Step) (openings : List Opening) (events played : List Event) (firsts : List First) → also ≡ plan → also_order ≡ order → events ≡ map opening_event openings → firsts ≡ [] →
    OrderFits also r also_order (record { events = events; firsts = firsts }) played → OrderFits plan r order (record { events = map opening_event openings; firsts = [] }) played
goes_as r plan also order also_order openings events played firsts same in_order opened none goes = rw (← same, ← in_order, ← opened, ← none) goes

pub returns : goal.returns
returns c =
    on_ok_weaker {P = OrderFits c.open_all.new.tape.world.tables.plan c.args.records.now c.as_slice-2.result.now (before_of c.open_all.new.tape) c.play_all.new.tape.events.items}
    {Q = IsRunOf c.args.tape.now.world.tables.plan c.args.records.now c.play_all.new.tape.events.items} c.play_all.result
    (λ goes. record {
      servers = c.requires.servers;
      sessions = search rules;
      opens = opens_as c.args.tape.now.world.tables.plan c.args.tape.now.events.items c.args.records.now.volumes.items c.as_slice.result.now c.requires.events c.as_slice.ensures.value c.in_ok-open_all.ensures.opens;
      climb = search rules;
      flips = search rules;
      order = c.in_ok-order.order.items;
      is_order = c.in_ok-order.ensures;
      goes = goes_as c.args.records.now c.args.tape.now.world.tables.plan c.open_all.new.tape.world.tables.plan c.in_ok-order.order.items c.as_slice-2.result.now c.args.records.now.volumes.items c.open_all.new.tape.events.items
          c.play_all.new.tape.events.items c.open_all.new.tape.firsts.items c.open_all.ensures.plan c.as_slice-2.ensures.value
          (c.in_ok-open_all.ensures.events ∙ ap (λ (events : List Event). events ++ map opening_event c.as_slice.result.now) c.requires.events ∙ ap (map opening_event) c.as_slice.ensures.value)
          (ap (λ firsts. firsts.items) c.open_all.ensures.firsts ∙ c.requires.firsts) goes;
    }) c.play_all.ensures
