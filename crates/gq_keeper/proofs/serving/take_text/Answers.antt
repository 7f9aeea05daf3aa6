use Rattle.std.proofs.Common.{List, [], ◌++◌, sym, subst, ap, ◌∙◌, ⊎_elim, append_assoc}
use Rattle.gq_journal.specs.Batches.{Line, batches_of}
use Rattle.gq_keeper.specs.Plans.{last_plan}
use Rattle.gq_keeper.specs.Restarting.{Restarts, RestartsAsOne}
use Rattle.gq_keeper.specs.Durable.{Durable}
use Rattle.gq_keeper.proofs.Instants.{elapses_none, elapses_then}
use Rattle.gq_keeper.proofs.Durability.{taken_none, durable_behind, taken_then, taken_lines, taken_behind, grows_none, grows_then, grows_idle}
use Rattle.gq_keeper.proofs.Readings.{no_short, of_batch}
use Rattle.gq_keeper.proofs.serving.take_text.Goals as goal

pub batches-init : goal.batches-init
batches-init g c = record {
  sealed = c.requires.sealed;
  taken = taken_none c.args.longest g.M.Machine.steps g.M.Machine.recalls g.M.Machine.readable g.M.Lasting.blank g.M.Lasting.rests c.args.machine.now _ c.args.text.now (g.O.Output.shown c.args.out.now) (g.L.Log.synced c.args.log.now) c.requires.restarts;
  grows = grows_none _ _;
  crash = elapses_none _ _ _;
}

pub take_batch-requires-clause-restarts : goal.take_batch-requires-clause-restarts
take_batch-requires-clause-restarts g c = let r = c.batches.invariant.taken.durable.restarts in subst (λ (p : List Line). Restarts g.M.Machine.recalls g.M.Machine.readable g.M.Lasting.blank g.M.Lasting.rests p c.batches.machine (g.L.Log.synced c.batches.log)) (sym r.last) r

pub take_batch-requires-clause-may : goal.take_batch-requires-clause-may
take_batch-requires-clause-may g c = λ last front behind synced shown cut d.
    let so = c.batches.invariant.taken in
    c.requires.may last (so.front ++ front) behind synced shown (so.cut ∙ ap (λ t. so.front ++ t) cut ∙ sym (append_assoc so.front front behind))
    (durable_behind c.args.longest g.M.Machine.steps g.M.Machine.recalls g.M.Machine.readable g.M.Lasting.blank g.M.Lasting.rests _ _ _ (last_plan [] (batches_of (g.L.Log.synced c.args.log.now))) (last_plan [] (batches_of (g.L.Log.synced c.batches.log))) _ _ front _ _ _ synced shown so so.durable.restarts.last d)

pub batches-preserved : goal.batches-preserved
batches-preserved g c =
    let so = c.batches.invariant.taken in
    record {
      sealed = c.in_ok-rest.ensures.sealed;
      taken = taken_then c.args.longest g.M.Machine.steps g.M.Machine.recalls g.M.Machine.readable g.M.Lasting.blank g.M.Lasting.rests _ _ _ (last_plan [] (batches_of (g.L.Log.synced c.args.log.now))) (last_plan [] (batches_of (g.L.Log.synced c.batches.log))) _ _ _ _ _ _ _ _ so so.durable.restarts.last c.in_ok-rest.ensures.few.taken;
      grows = grows_then _ _ _ _ _ _ c.batches.invariant.grows c.in_ok-rest.ensures.idle;
      crash = elapses_then _ _ _ _ _ _ _ _ (RestartsAsOne g.M.Machine.steps g.M.Machine.recalls g.M.Machine.readable g.M.Lasting.blank g.M.Lasting.rests (last_plan [] (batches_of (g.L.Log.synced c.args.log.now))) c.args.machine.now) c.batches.invariant.crash c.take_batch.ensures.crash (λ left x. x) (λ left e. of_batch g.M.Machine.steps g.M.Machine.recalls g.M.Machine.readable g.M.Lasting.blank g.M.Lasting.rests (last_plan [] (batches_of (g.L.Log.synced c.args.log.now))) (last_plan [] (batches_of (g.L.Log.synced c.batches.log))) c.args.machine.now c.batches.machine c.take_batch.new.machine so.durable.dids left so.durable.runs so.durable.restarts.last e);
    }

pub batches-smaller : goal.batches-smaller
batches-smaller g c = ⊎_elim (λ none. absurd (c.ends_no_line.ensures.some c.batches-test.true none)) (λ less. less) c.in_ok-rest.ensures.on

pub returns-in_err-rest-clause-crash : goal.returns-in_err-rest-clause-crash
returns-in_err-rest-clause-crash g c =
    let so = c.batches.invariant.taken in
    elapses_then _ _ _ _ _ _ _ _ (RestartsAsOne g.M.Machine.steps g.M.Machine.recalls g.M.Machine.readable g.M.Lasting.blank g.M.Lasting.rests (last_plan [] (batches_of (g.L.Log.synced c.args.log.now))) c.args.machine.now) c.batches.invariant.crash c.take_batch.ensures.crash (λ left x. x) (λ left e. of_batch g.M.Machine.steps g.M.Machine.recalls g.M.Machine.readable g.M.Lasting.blank g.M.Lasting.rests (last_plan [] (batches_of (g.L.Log.synced c.args.log.now))) (last_plan [] (batches_of (g.L.Log.synced c.batches.log))) c.args.machine.now c.batches.machine c.take_batch.new.machine so.durable.dids left so.durable.runs so.durable.restarts.last e)

pub returns-clause-durable : goal.returns-clause-durable
returns-clause-durable g c =
    let so = c.batches.invariant.taken in
    subst (λ (ls : List Line). Durable g.M.Machine.steps g.M.Machine.recalls g.M.Machine.readable g.M.Lasting.blank g.M.Lasting.rests c.args.machine.now c.batches.machine (last_plan [] (batches_of (g.L.Log.synced c.args.log.now))) ls (g.O.Output.shown c.args.out.now) (g.L.Log.synced c.batches.log) (g.O.Output.shown c.batches.out))
    (sym (taken_lines c.args.longest g.M.Machine.steps g.M.Machine.recalls g.M.Machine.readable g.M.Lasting.blank g.M.Lasting.rests _ _ _ _ _ _ _ _ so (no_short c.args.longest c.batches.rest.now (c.ends_no_line.ensures.none c.batches-test.false)))) so.durable

pub returns-clause-idle : goal.returns-clause-idle
returns-clause-idle g c = grows_idle _ _ _ c.batches.invariant.grows

pub returns-clause-rest : goal.returns-clause-rest
returns-clause-rest g c = (c.batches.invariant.taken.front, c.batches.invariant.taken.cut)

pub returns-clause-left : goal.returns-clause-left
returns-clause-left g c = c.ends_no_line.ensures.none c.batches-test.false

pub returns-clause-behind : goal.returns-clause-behind
returns-clause-behind g c = taken_behind c.args.longest g.M.Machine.steps g.M.Machine.recalls g.M.Machine.readable g.M.Lasting.blank g.M.Lasting.rests _ _ _ _ _ _ _ _ c.batches.invariant.taken (no_short c.args.longest c.batches.rest.now (c.ends_no_line.ensures.none c.batches-test.false))

pub returns-clause-crash : goal.returns-clause-crash
returns-clause-crash g c = c.batches.invariant.crash
