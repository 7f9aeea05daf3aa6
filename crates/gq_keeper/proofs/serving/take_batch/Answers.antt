use Rattle.std.proofs.Common.{◌++◌, ◌<◌, ◌^◌, length, ap, ◌∙◌, arith}
use Rattle.gq_keeper.specs.Runs.{facts_of}
use Rattle.gq_keeper.specs.Durable.{kept_text}
use Rattle.gq_keeper.proofs.Instants.{elapses_none, elapses_only}
use Rattle.gq_keeper.proofs.Planning.{open_facts}
use Rattle.gq_keeper.proofs.Journals.{grown_sealed, nothing_in}
use Rattle.gq_keeper.proofs.Restarts.{Owes, runs_facts, turn_left}
use Rattle.gq_keeper.proofs.Durability.{taken_at_once}
use Rattle.gq_keeper.proofs.serving.take_batch.Goals as goal

pub returns-in_err-rest-clause-crash : goal.returns-in_err-rest-clause-crash
returns-in_err-rest-clause-crash g c = elapses_none _ _ _

pub keep-requires : goal.keep-requires
keep-requires g c = c.requires.sealed.all

pub returns-in_err-keep-clause-crash : goal.returns-in_err-keep-clause-crash
returns-in_err-keep-clause-crash g c =
    let owes : Owes g.M.Machine.steps g.M.Machine.recalls g.M.Machine.readable g.M.Lasting.blank g.M.Lasting.rests = record { gives_facts = g.met.M.Lasting.gives_facts; gives_readable = g.met.M.Lasting.gives_readable; keeps_blank = g.met.M.Lasting.keeps_blank; keeps_rest = g.met.M.Lasting.keeps_rest } in
    let small : length c.take_lines.new.facts.items < 2 ^ 64 = omega (arith, c.take_lines.new.facts.small) in
    let took = c.in_ok-rest.ensures.took in
    elapses_only _ _ _ _ _ _ c.keep.ensures.crash (λ left l. turn_left g.M.Machine.steps g.M.Machine.recalls g.M.Machine.readable g.M.Lasting.blank g.M.Lasting.rests owes _ _ _ took.dids _ _ c.args.number.now _ left c.requires.sealed c.requires.restarts took.runs took.facts (omega arith) small l)

pub show-requires : goal.show-requires
show-requires g c =
    let owes : Owes g.M.Machine.steps g.M.Machine.recalls g.M.Machine.readable g.M.Lasting.blank g.M.Lasting.rests = record { gives_facts = g.met.M.Lasting.gives_facts; gives_readable = g.met.M.Lasting.gives_readable; keeps_blank = g.met.M.Lasting.keeps_blank; keeps_rest = g.met.M.Lasting.keeps_rest } in
    let small : length c.take_lines.new.facts.items < 2 ^ 64 = omega (arith, c.take_lines.new.facts.small) in
    let took = c.in_ok-rest.ensures.took in
    let d = taken_at_once c.args.longest c.most_held.result g.M.Machine.steps g.M.Machine.recalls g.M.Machine.readable g.M.Lasting.blank g.M.Lasting.rests owes _ _ _ _ _ c.args.number.now (g.O.Output.shown c.args.out.now) _ _ _ _ _ _ c.requires.sealed c.requires.restarts took c.most_held.ensures.held (omega arith) small c.in_ok-keep.ensures.synced (ap (λ t. g.O.Output.shown c.args.out.now ++ t) c.as_slice.ensures.value) in
    c.requires.may _ d.taken.front _ _ _ d.taken.cut d.taken.durable

pub returns-in_err-show-clause-crash : goal.returns-in_err-show-clause-crash
returns-in_err-show-clause-crash g c =
    let owes : Owes g.M.Machine.steps g.M.Machine.recalls g.M.Machine.readable g.M.Lasting.blank g.M.Lasting.rests = record { gives_facts = g.met.M.Lasting.gives_facts; gives_readable = g.met.M.Lasting.gives_readable; keeps_blank = g.met.M.Lasting.keeps_blank; keeps_rest = g.met.M.Lasting.keeps_rest } in
    let small : length c.take_lines.new.facts.items < 2 ^ 64 = omega (arith, c.take_lines.new.facts.small) in
    let took = c.in_ok-rest.ensures.took in
    elapses_only _ _ _ _ _ _ c.keep.ensures.crash (λ left l. turn_left g.M.Machine.steps g.M.Machine.recalls g.M.Machine.readable g.M.Lasting.blank g.M.Lasting.rests owes _ _ _ took.dids _ _ c.args.number.now _ left c.requires.sealed c.requires.restarts took.runs took.facts (omega arith) small l)

pub returns-clause-sealed : goal.returns-clause-sealed
returns-clause-sealed g c =
    let owes : Owes g.M.Machine.steps g.M.Machine.recalls g.M.Machine.readable g.M.Lasting.blank g.M.Lasting.rests = record { gives_facts = g.met.M.Lasting.gives_facts; gives_readable = g.met.M.Lasting.gives_readable; keeps_blank = g.met.M.Lasting.keeps_blank; keeps_rest = g.met.M.Lasting.keeps_rest } in
    let small : length c.take_lines.new.facts.items < 2 ^ 64 = omega (arith, c.take_lines.new.facts.small) in
    let took = c.in_ok-rest.ensures.took in
    grown_sealed _ _ c.args.number.now _ _ _ _ _ c.requires.sealed took.facts (omega arith) small (open_facts (facts_of took.dids) (runs_facts g.M.Machine.steps g.M.Machine.recalls g.M.Machine.readable g.M.Lasting.blank g.M.Lasting.rests owes _ _ _ took.runs)) c.in_ok-keep.ensures.all c.in_ok-keep.ensures.synced c.in_ok-keep.ensures.number

pub returns-clause-few : goal.returns-clause-few
returns-clause-few g c =
    let owes : Owes g.M.Machine.steps g.M.Machine.recalls g.M.Machine.readable g.M.Lasting.blank g.M.Lasting.rests = record { gives_facts = g.met.M.Lasting.gives_facts; gives_readable = g.met.M.Lasting.gives_readable; keeps_blank = g.met.M.Lasting.keeps_blank; keeps_rest = g.met.M.Lasting.keeps_rest } in
    let small : length c.take_lines.new.facts.items < 2 ^ 64 = omega (arith, c.take_lines.new.facts.small) in
    let took = c.in_ok-rest.ensures.took in
    taken_at_once c.args.longest c.most_held.result g.M.Machine.steps g.M.Machine.recalls g.M.Machine.readable g.M.Lasting.blank g.M.Lasting.rests owes _ _ _ _ _ c.args.number.now (g.O.Output.shown c.args.out.now) _ _ _ _ _ _ c.requires.sealed c.requires.restarts took c.most_held.ensures.held (omega arith) small c.in_ok-keep.ensures.synced (c.in_ok-show.ensures ∙ ap (λ x. g.O.Output.shown c.args.out.now ++ x) c.as_slice.ensures.value)

pub returns-clause-idle : goal.returns-clause-idle
returns-clause-idle g c = (kept_text c.args.number.now c.take_lines.new.facts.items, c.in_ok-keep.ensures.synced, λ none. c.keep.ensures.idle (nothing_in c.args.number.now _ none))

pub returns-clause-crash : goal.returns-clause-crash
returns-clause-crash g c =
    let owes : Owes g.M.Machine.steps g.M.Machine.recalls g.M.Machine.readable g.M.Lasting.blank g.M.Lasting.rests = record { gives_facts = g.met.M.Lasting.gives_facts; gives_readable = g.met.M.Lasting.gives_readable; keeps_blank = g.met.M.Lasting.keeps_blank; keeps_rest = g.met.M.Lasting.keeps_rest } in
    let small : length c.take_lines.new.facts.items < 2 ^ 64 = omega (arith, c.take_lines.new.facts.small) in
    let took = c.in_ok-rest.ensures.took in
    elapses_only _ _ _ _ _ _ c.keep.ensures.crash (λ left l. turn_left g.M.Machine.steps g.M.Machine.recalls g.M.Machine.readable g.M.Lasting.blank g.M.Lasting.rests owes _ _ _ took.dids _ _ c.args.number.now _ left c.requires.sealed c.requires.restarts took.runs took.facts (omega arith) small l)
