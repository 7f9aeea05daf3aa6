use Rattle.std.proofs.Common.{◌≡◌, List, [], ◌++◌, take, drop, length, ap, ◌∙◌, sym, subst, arith}
use Rattle.gq_journal.specs.Batches.{Line, whole_lines, batches_of}
use Rattle.gq_keeper.specs.Lines.{short_lines}
use Rattle.gq_keeper.specs.Plans.{last_plan}
use Rattle.gq_keeper.specs.Restarting.{RestartsAsOne}
use Rattle.gq_keeper.specs.Durable.{Durable}
use Rattle.gq_lines.specs.Written.{first_text}
use Rattle.gq_keeper.proofs.Instants.{elapses_then}
use Rattle.gq_keeper.proofs.Running.{runs_append, runs_keep}
use Rattle.gq_keeper.proofs.Durability.{durable_none, durable_then}
use Rattle.gq_keeper.proofs.Readings.{written_back, served_more, served_longer, begins_nothing, taken_more, as_one, of_turn, at_any}
use Rattle.gq_keeper.proofs.serving.serve.Goals as goal

pub returns-in_err-count-clause-any_time : goal.returns-in_err-count-clause-any_time
returns-in_err-count-clause-any_time g c =
    at_any g.M.Machine.steps g.M.Machine.recalls g.M.Machine.readable g.M.Lasting.blank g.M.Lasting.rests (whole_lines c.args.plan.now) c.args.machine.now _ _ _ _ (g.D.Log.seen c.args.disk.now) (g.D.Log.synced c.args.disk.now) c.args.first c.requires.sealed c.requires.restarts (λ left may. g.met.D.Log.only_now c.args.disk.now left may) c.loop.invariant.crash

pub returns-then-count-eq0-clause-any_time : goal.returns-then-count-eq0-clause-any_time
returns-then-count-eq0-clause-any_time g c =
    at_any g.M.Machine.steps g.M.Machine.recalls g.M.Machine.readable g.M.Lasting.blank g.M.Lasting.rests (whole_lines c.args.plan.now) c.args.machine.now _ _ _ _ (g.D.Log.seen c.args.disk.now) (g.D.Log.synced c.args.disk.now) c.args.first c.requires.sealed c.requires.restarts (λ left may. g.met.D.Log.only_now c.args.disk.now left may) c.loop.invariant.crash

pub returns-in_err-hold-clause-any_time : goal.returns-in_err-hold-clause-any_time
returns-in_err-hold-clause-any_time g c =
    at_any g.M.Machine.steps g.M.Machine.recalls g.M.Machine.readable g.M.Lasting.blank g.M.Lasting.rests (whole_lines c.args.plan.now) c.args.machine.now _ _ _ _ (g.D.Log.seen c.args.disk.now) (g.D.Log.synced c.args.disk.now) c.args.first c.requires.sealed c.requires.restarts (λ left may. g.met.D.Log.only_now c.args.disk.now left may) c.loop.invariant.crash

pub returns-in_err-grow_by-clause-any_time : goal.returns-in_err-grow_by-clause-any_time
returns-in_err-grow_by-clause-any_time g c =
    at_any g.M.Machine.steps g.M.Machine.recalls g.M.Machine.readable g.M.Lasting.blank g.M.Lasting.rests (whole_lines c.args.plan.now) c.args.machine.now _ _ _ _ (g.D.Log.seen c.args.disk.now) (g.D.Log.synced c.args.disk.now) c.args.first c.requires.sealed c.requires.restarts (λ left may. g.met.D.Log.only_now c.args.disk.now left may) c.loop.invariant.crash

pub returns-clause-any_time : goal.returns-clause-any_time
returns-clause-any_time g c =
    at_any g.M.Machine.steps g.M.Machine.recalls g.M.Machine.readable g.M.Lasting.blank g.M.Lasting.rests (whole_lines c.args.plan.now) c.args.machine.now _ _ _ _ (g.D.Log.seen c.args.disk.now) (g.D.Log.synced c.args.disk.now) c.args.first c.requires.sealed c.requires.restarts (λ left may. g.met.D.Log.only_now c.args.disk.now left may) c.loop.invariant.crash

pub returns-in_err-rest-clause-any_time : goal.returns-in_err-rest-clause-any_time
returns-in_err-rest-clause-any_time g c =
    at_any g.M.Machine.steps g.M.Machine.recalls g.M.Machine.readable g.M.Lasting.blank g.M.Lasting.rests (whole_lines c.args.plan.now) c.args.machine.now _ _ _ _ (g.D.Log.seen c.args.disk.now) (g.D.Log.synced c.args.disk.now) c.args.first c.requires.sealed c.requires.restarts (λ left may. g.met.D.Log.only_now c.args.disk.now left may) (elapses_then _ _ _ _ _ _ _ _ (RestartsAsOne g.M.Machine.steps g.M.Machine.recalls g.M.Machine.readable g.M.Lasting.blank g.M.Lasting.rests (whole_lines c.args.plan.now) c.args.machine.now) c.loop.invariant.crash c.take_text.ensures.crash (λ left x. x) (λ left e. of_turn g.M.Machine.steps g.M.Machine.recalls g.M.Machine.readable g.M.Lasting.blank g.M.Lasting.rests (whole_lines c.args.plan.now) (last_plan [] (batches_of (g.D.Log.synced c.loop.disk))) c.args.machine.now c.loop.machine c.loop.invariant.served.durable.dids left c.loop.invariant.served.durable.runs c.loop.invariant.served.durable.restarts.last e))

pub returns-in_err-held-clause-any_time : goal.returns-in_err-held-clause-any_time
returns-in_err-held-clause-any_time g c =
    at_any g.M.Machine.steps g.M.Machine.recalls g.M.Machine.readable g.M.Lasting.blank g.M.Lasting.rests (whole_lines c.args.plan.now) c.args.machine.now _ _ _ _ (g.D.Log.seen c.args.disk.now) (g.D.Log.synced c.args.disk.now) c.args.first c.requires.sealed c.requires.restarts (λ left may. g.met.D.Log.only_now c.args.disk.now left may) (elapses_then _ _ _ _ _ _ _ _ (RestartsAsOne g.M.Machine.steps g.M.Machine.recalls g.M.Machine.readable g.M.Lasting.blank g.M.Lasting.rests (whole_lines c.args.plan.now) c.args.machine.now) c.loop.invariant.crash c.take_text.ensures.crash (λ left x. x) (λ left e. of_turn g.M.Machine.steps g.M.Machine.recalls g.M.Machine.readable g.M.Lasting.blank g.M.Lasting.rests (whole_lines c.args.plan.now) (last_plan [] (batches_of (g.D.Log.synced c.loop.disk))) c.args.machine.now c.loop.machine c.loop.invariant.served.durable.dids left c.loop.invariant.served.durable.runs c.loop.invariant.served.durable.restarts.last e))

pub returns-in_err-renew_if_due-clause-any_time : goal.returns-in_err-renew_if_due-clause-any_time
returns-in_err-renew_if_due-clause-any_time g c =
    let turned = elapses_then _ _ _ _ _ _ _ _ (RestartsAsOne g.M.Machine.steps g.M.Machine.recalls g.M.Machine.readable g.M.Lasting.blank g.M.Lasting.rests (whole_lines c.args.plan.now) c.args.machine.now) c.loop.invariant.crash c.take_text.ensures.crash (λ left x. x) (λ left e. of_turn g.M.Machine.steps g.M.Machine.recalls g.M.Machine.readable g.M.Lasting.blank g.M.Lasting.rests (whole_lines c.args.plan.now) (last_plan [] (batches_of (g.D.Log.synced c.loop.disk))) c.args.machine.now c.loop.machine c.loop.invariant.served.durable.dids left c.loop.invariant.served.durable.runs c.loop.invariant.served.durable.restarts.last e) in
    at_any g.M.Machine.steps g.M.Machine.recalls g.M.Machine.readable g.M.Lasting.blank g.M.Lasting.rests (whole_lines c.args.plan.now) c.args.machine.now _ _ _ _ (g.D.Log.seen c.args.disk.now) (g.D.Log.synced c.args.disk.now) c.args.first c.requires.sealed c.requires.restarts (λ left may. g.met.D.Log.only_now c.args.disk.now left may) (elapses_then _ _ _ _ _ _ _ _ (RestartsAsOne g.M.Machine.steps g.M.Machine.recalls g.M.Machine.readable g.M.Lasting.blank g.M.Lasting.rests (whole_lines c.args.plan.now) c.args.machine.now) turned c.renew_if_due.ensures.crash (λ left x. x) (λ left r. as_one g.M.Machine.steps g.M.Machine.recalls g.M.Machine.readable g.M.Lasting.blank g.M.Lasting.rests (whole_lines c.args.plan.now) c.args.machine.now c.take_text.new.machine _ left (runs_append g.M.Machine.steps _ _ _ c.loop.invariant.served.durable.dids c.in_ok-rest.ensures.durable.dids c.loop.invariant.served.durable.runs c.in_ok-rest.ensures.durable.runs) r))

pub returns-in_err-count-clause-crash : goal.returns-in_err-count-clause-crash
returns-in_err-count-clause-crash g c = c.loop.invariant.crash

pub returns-then-count-eq0-clause-crash : goal.returns-then-count-eq0-clause-crash
returns-then-count-eq0-clause-crash g c = c.loop.invariant.crash

pub returns-in_err-hold-clause-crash : goal.returns-in_err-hold-clause-crash
returns-in_err-hold-clause-crash g c = c.loop.invariant.crash

pub returns-in_err-grow_by-clause-crash : goal.returns-in_err-grow_by-clause-crash
returns-in_err-grow_by-clause-crash g c = c.loop.invariant.crash

pub returns-clause-crash : goal.returns-clause-crash
returns-clause-crash g c = c.loop.invariant.crash

pub returns-in_err-rest-clause-crash : goal.returns-in_err-rest-clause-crash
returns-in_err-rest-clause-crash g c = elapses_then _ _ _ _ _ _ _ _ (RestartsAsOne g.M.Machine.steps g.M.Machine.recalls g.M.Machine.readable g.M.Lasting.blank g.M.Lasting.rests (whole_lines c.args.plan.now) c.args.machine.now) c.loop.invariant.crash c.take_text.ensures.crash (λ left x. x) (λ left e. of_turn g.M.Machine.steps g.M.Machine.recalls g.M.Machine.readable g.M.Lasting.blank g.M.Lasting.rests (whole_lines c.args.plan.now) (last_plan [] (batches_of (g.D.Log.synced c.loop.disk))) c.args.machine.now c.loop.machine c.loop.invariant.served.durable.dids left c.loop.invariant.served.durable.runs c.loop.invariant.served.durable.restarts.last e)

pub returns-in_err-held-clause-crash : goal.returns-in_err-held-clause-crash
returns-in_err-held-clause-crash g c = elapses_then _ _ _ _ _ _ _ _ (RestartsAsOne g.M.Machine.steps g.M.Machine.recalls g.M.Machine.readable g.M.Lasting.blank g.M.Lasting.rests (whole_lines c.args.plan.now) c.args.machine.now) c.loop.invariant.crash c.take_text.ensures.crash (λ left x. x) (λ left e. of_turn g.M.Machine.steps g.M.Machine.recalls g.M.Machine.readable g.M.Lasting.blank g.M.Lasting.rests (whole_lines c.args.plan.now) (last_plan [] (batches_of (g.D.Log.synced c.loop.disk))) c.args.machine.now c.loop.machine c.loop.invariant.served.durable.dids left c.loop.invariant.served.durable.runs c.loop.invariant.served.durable.restarts.last e)

pub returns-in_err-renew_if_due-clause-crash : goal.returns-in_err-renew_if_due-clause-crash
returns-in_err-renew_if_due-clause-crash g c =
    let turned = elapses_then _ _ _ _ _ _ _ _ (RestartsAsOne g.M.Machine.steps g.M.Machine.recalls g.M.Machine.readable g.M.Lasting.blank g.M.Lasting.rests (whole_lines c.args.plan.now) c.args.machine.now) c.loop.invariant.crash c.take_text.ensures.crash (λ left x. x) (λ left e. of_turn g.M.Machine.steps g.M.Machine.recalls g.M.Machine.readable g.M.Lasting.blank g.M.Lasting.rests (whole_lines c.args.plan.now) (last_plan [] (batches_of (g.D.Log.synced c.loop.disk))) c.args.machine.now c.loop.machine c.loop.invariant.served.durable.dids left c.loop.invariant.served.durable.runs c.loop.invariant.served.durable.restarts.last e) in
    elapses_then _ _ _ _ _ _ _ _ (RestartsAsOne g.M.Machine.steps g.M.Machine.recalls g.M.Machine.readable g.M.Lasting.blank g.M.Lasting.rests (whole_lines c.args.plan.now) c.args.machine.now) turned c.renew_if_due.ensures.crash (λ left x. x) (λ left r. as_one g.M.Machine.steps g.M.Machine.recalls g.M.Machine.readable g.M.Lasting.blank g.M.Lasting.rests (whole_lines c.args.plan.now) c.args.machine.now c.take_text.new.machine _ left (runs_append g.M.Machine.steps _ _ _ c.loop.invariant.served.durable.dids c.in_ok-rest.ensures.durable.dids c.loop.invariant.served.durable.runs c.in_ok-rest.ensures.durable.runs) r)

pub show-requires : goal.show-requires
show-requires g c =
    c.requires.may c.args.machine.now [] _ _ (begins_nothing (g.R.Read.remaining c.args.input.now)) (durable_none g.M.Machine.steps g.M.Machine.recalls g.M.Machine.readable g.M.Lasting.blank g.M.Lasting.rests c.args.machine.now (whole_lines c.args.plan.now) _ _ c.requires.restarts)

pub take_text-requires-clause-may : goal.take_text-requires-clause-may
take_text-requires-clause-may g c =
    let taken = take c.in_ok-count.count c.read_some.new.block in
    let full : length c.read_some.new.block ≡ c.loop.block.len = omega (arith, c.as_mut_slice.ensures.len) in
    let back = written_back c.loop.block.len c.read_some.new.block (drop (length c.read_some.new.block) c.loop.block.items) full in
    let text : c.as_slice.result.now ≡ c.loop.held.items ++ taken = c.as_slice.ensures.value ∙ c.in_ok-grow_by.ensures.items ∙ ap (λ b. c.loop.held.items ++ b) (ap (take c.in_ok-count.count) (c.deref.ensures.value ∙ back)) in
    λ last front behind synced shown cut d.
    let more = taken_more c.args.longest g.M.Machine.steps g.M.Machine.recalls g.M.Machine.readable g.M.Lasting.blank g.M.Lasting.rests c.args.machine.now c.loop.machine (whole_lines c.args.plan.now) (g.O.Output.shown c.args.out.now) _ _ _ _ _ c.loop.held.items taken front behind c.loop.invariant.served c.in_ok-count.ensures.bytes.0 (sym text ∙ cut) in
    c.requires.may last more.0 synced shown more.1
    (subst (λ (ls : List Line). Durable g.M.Machine.steps g.M.Machine.recalls g.M.Machine.readable g.M.Lasting.blank g.M.Lasting.rests c.args.machine.now last (whole_lines c.args.plan.now) ls (g.O.Output.shown c.args.out.now ++ first_text) synced shown) (sym more.2)
    (durable_then g.M.Machine.steps g.M.Machine.recalls g.M.Machine.readable g.M.Lasting.blank g.M.Lasting.rests c.args.machine.now c.loop.machine last (whole_lines c.args.plan.now) _ (short_lines c.args.longest front) _ _ _ synced shown c.loop.invariant.served.durable
    (subst (λ (p : List Line). Durable g.M.Machine.steps g.M.Machine.recalls g.M.Machine.readable g.M.Lasting.blank g.M.Lasting.rests c.loop.machine last p (short_lines c.args.longest front) (g.O.Output.shown c.loop.out) synced shown) c.loop.invariant.served.durable.restarts.last d)))

pub renew_if_due-requires-clause-of_plan : goal.renew_if_due-requires-clause-of_plan
renew_if_due-requires-clause-of_plan g c =
    runs_keep g.M.Machine.steps (g.M.Lasting.is_of (whole_lines c.args.plan.now)) (λ old line facts told new step is. g.met.M.Lasting.keeps_plan (whole_lines c.args.plan.now) old line facts told new step is) c.loop.machine c.take_text.new.machine c.in_ok-rest.ensures.durable.dids c.in_ok-rest.ensures.durable.runs c.loop.invariant.of_plan

pub loop-preserved-then-ends_no_line : goal.loop-preserved-then-ends_no_line
loop-preserved-then-ends_no_line g c =
    let taken = take c.in_ok-count.count c.read_some.new.block in
    let full : length c.read_some.new.block ≡ c.loop.block.len = omega (arith, c.as_mut_slice.ensures.len) in
    let back = written_back c.loop.block.len c.read_some.new.block (drop (length c.read_some.new.block) c.loop.block.items) full in
    let same : take c.in_ok-count.count c.deref.result.now ≡ taken = ap (take c.in_ok-count.count) (c.deref.ensures.value ∙ back) in
    record {
      sealed = c.loop.invariant.sealed;
      served = served_longer c.args.longest g.M.Machine.steps g.M.Machine.recalls g.M.Machine.readable g.M.Lasting.blank g.M.Lasting.rests c.args.machine.now c.loop.machine (whole_lines c.args.plan.now) (g.O.Output.shown c.args.out.now) _ _ _ _ _ c.loop.held.items taken c.hold.new.held.items
          c.loop.invariant.served c.in_ok-count.ensures.bytes.0 (ap whole_lines (sym same) ∙ c.ends_no_line.ensures.none c.if-ends_no_line.true) c.in_ok-hold.ensures.none
          (λ more. c.in_ok-hold.ensures.same more ∙ ap (λ b. short_lines c.args.longest ((c.loop.held.items ++ b) ++ more)) same);
      of_plan = c.loop.invariant.of_plan;
      crash = c.loop.invariant.crash;
      room = rw back (omega arith);
    }

pub loop-preserved : goal.loop-preserved
loop-preserved g c =
    let turned = elapses_then _ _ _ _ _ _ _ _ (RestartsAsOne g.M.Machine.steps g.M.Machine.recalls g.M.Machine.readable g.M.Lasting.blank g.M.Lasting.rests (whole_lines c.args.plan.now) c.args.machine.now) c.loop.invariant.crash c.take_text.ensures.crash (λ left x. x) (λ left e. of_turn g.M.Machine.steps g.M.Machine.recalls g.M.Machine.readable g.M.Lasting.blank g.M.Lasting.rests (whole_lines c.args.plan.now) (last_plan [] (batches_of (g.D.Log.synced c.loop.disk))) c.args.machine.now c.loop.machine c.loop.invariant.served.durable.dids left c.loop.invariant.served.durable.runs c.loop.invariant.served.durable.restarts.last e) in
    let taken = take c.in_ok-count.count c.read_some.new.block in
    let full : length c.read_some.new.block ≡ c.loop.block.len = omega (arith, c.as_mut_slice.ensures.len) in
    let back = written_back c.loop.block.len c.read_some.new.block (drop (length c.read_some.new.block) c.loop.block.items) full in
    record {
      sealed = c.in_ok-renew_if_due.ensures.sealed;
      served = served_more c.args.longest g.M.Machine.steps g.M.Machine.recalls g.M.Machine.readable g.M.Lasting.blank g.M.Lasting.rests c.args.machine.now c.loop.machine c.take_text.new.machine (whole_lines c.args.plan.now) (g.O.Output.shown c.args.out.now) _ _ (g.D.Log.synced c.take_text.new.log) (g.O.Output.shown c.take_text.new.out) _ _ _ _ c.loop.held.items taken c.as_slice.result.now c.in_ok-rest.rest.now c.in_ok-held.held.items
          c.loop.invariant.served c.in_ok-count.ensures.bytes.0 (c.as_slice.ensures.value ∙ c.in_ok-grow_by.ensures.items ∙ ap (λ b. c.loop.held.items ++ b) (ap (take c.in_ok-count.count) (c.deref.ensures.value ∙ back))) (subst (λ (p : List Line). Durable g.M.Machine.steps g.M.Machine.recalls g.M.Machine.readable g.M.Lasting.blank g.M.Lasting.rests c.loop.machine c.take_text.new.machine p (short_lines c.args.longest c.as_slice.result.now) (g.O.Output.shown c.loop.out) (g.D.Log.synced c.take_text.new.log) (g.O.Output.shown c.take_text.new.out)) c.loop.invariant.served.durable.restarts.last c.in_ok-rest.ensures.durable) c.in_ok-renew_if_due.ensures.restarts c.in_ok-rest.ensures.behind c.in_ok-held.ensures.none c.in_ok-held.ensures.same;
      of_plan = runs_keep g.M.Machine.steps (g.M.Lasting.is_of (whole_lines c.args.plan.now)) (λ old line facts told new step is. g.met.M.Lasting.keeps_plan (whole_lines c.args.plan.now) old line facts told new step is) c.loop.machine c.take_text.new.machine c.in_ok-rest.ensures.durable.dids c.in_ok-rest.ensures.durable.runs c.loop.invariant.of_plan;
      crash = elapses_then _ _ _ _ _ _ _ _ (RestartsAsOne g.M.Machine.steps g.M.Machine.recalls g.M.Machine.readable g.M.Lasting.blank g.M.Lasting.rests (whole_lines c.args.plan.now) c.args.machine.now) turned c.renew_if_due.ensures.crash (λ left x. x) (λ left r. as_one g.M.Machine.steps g.M.Machine.recalls g.M.Machine.readable g.M.Lasting.blank g.M.Lasting.rests (whole_lines c.args.plan.now) c.args.machine.now c.take_text.new.machine _ left (runs_append g.M.Machine.steps _ _ _ c.loop.invariant.served.durable.dids c.in_ok-rest.ensures.durable.dids c.loop.invariant.served.durable.runs c.in_ok-rest.ensures.durable.runs) r);
      room = rw back (omega arith);
    }
