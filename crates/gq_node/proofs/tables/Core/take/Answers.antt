-- The server has the copy, and the next file is asked for, where it takes it.
use Rattle.std.proofs.Common.{◌≡◌, ◌∙◌, ℕ, None, Some, refl, sym, subst}
use Rattle.gq_replace.specs.Plans.{place_of}
use Rattle.gq_node.specs.declared.output.Fact.TheVariants.{Had as WasGiven}
use Rattle.gq_node.specs.declared.output.Output.{Output}
use Rattle.gq_node.specs.Joining.{asks_peer}
use Rattle.gq_node.specs.Tables.{Tables, Acts}
use Rattle.gq_node.proofs.Giving.{takes_not, takes_so}
use Rattle.gq_node.proofs.tables.Core.take.Goals as goal

pub returns-then-not-takes : goal.returns-then-not-takes
returns-then-not-takes c = takes_not c.args.self.now c.args.from c.args.file c.args.copy c.nothing.result (sym c.takes.ensures.takes ∙ c.if-not-takes.true)
    (record { answer = c.nothing.ensures.answer; letters = c.nothing.ensures.letters; transfer = c.nothing.ensures.transfer; fact = c.nothing.ensures.fact })

pub returns : goal.returns
returns c =
    let w : Tables = c.args.self.now in
    let t : ℕ = c.args.file.tenant in
    let out : Output = record { answer = None; letters = c.new.result; transfer = c.ask-asked.result.transfer; fact = Some (WasGiven c.args.file c.args.copy) } in
    let place : c.from.result ≡ place_of c.args.from = c.from.ensures ∙ c.place_of.ensures in
    let asks : Acts c.has_now.new.self t (λ site local. asks_peer site local c.lane-lane.result (place_of c.args.from)) c.ask-asked.result c.ask-asked.new.self =
    subst (λ n. Acts c.has_now.new.self t (λ site local. asks_peer site local c.lane-lane.result n) c.ask-asked.result c.ask-asked.new.self) place (record { leads = c.ask-asked.ensures.leads; gives = c.ask-asked.ensures.gives }) in
    takes_so w c.has_now.new.self c.ask-asked.new.self c.args.from c.lane-lane.result c.args.file c.args.copy c.ask-asked.result out (sym c.takes.ensures.takes ∙ c.if-not-takes.false) c.lane-lane.ensures c.has_now.ensures.leads asks refl c.new.ensures.items refl refl
