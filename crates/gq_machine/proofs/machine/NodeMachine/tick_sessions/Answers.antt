-- One session after another.
use Rattle.std.proofs.Common.{◌∷◌, [], ℕ, List, sym, subst, arith}
use Rattle.std.proofs.lemmas.List.FromFn.{map-range_with_len_more}
use Rattle.gq_desk.specs.CheckedPlan.{CheckedPlan}
use Rattle.gq_node.specs.Inputs.{Input, Ticked}
use Rattle.gq_node.specs.Sites.{Here, session_at}
use Rattle.gq_node.specs.Tables.{Tables}
use Rattle.gq_parts.specs.Steps.{TookOf}
use Rattle.gq_parts.proofs.Taking.{none_took, took_more}
use Rattle.gq_machine.proofs.machine.NodeMachine.tick_sessions.Goals as goal

pub loop-place-init : goal.loop-place-init
loop-place-init c = none_took c.args.self.now.node.tables c.args.tenant c.args.facts.now.items c.args.told.now.items

pub loop-place-preserved : goal.loop-place-preserved
loop-place-preserved c =
    let w : Tables = c.args.self.now.node.tables in
    let m : Tables = c.loop-place.self.node.tables in
    let t : ℕ = c.args.tenant in
    let tick : CheckedPlan → Here → Input = λ plan here. Ticked (session_at plan here t c.loop-place.place) in
    let Q : CheckedPlan → Here → Type 0 = λ plan here. TookOf m t (tick plan here ∷ []) c.loop-place.facts.items c.tick_session.new.facts.items c.loop-place.told.items c.tick_session.new.told.items c.tick_session.new.self.node.tables in
    let one : Q w.plan w.here = subst (λ plan. Q plan w.here) c.loop-place.invariant.takes.plan (subst (λ here. Q m.plan here) c.loop-place.invariant.takes.here c.in_ok-tick_session.ensures) in
    let more = map-range_with_len_more (λ place. Ticked (session_at w.plan w.here t place)) 0 c.loop-place.place c.loop-place.place (omega arith) in
    let P : List Input → Type 0 = λ inputs. TookOf w t inputs c.args.facts.now.items c.tick_session.new.facts.items c.args.told.now.items c.tick_session.new.told.items c.tick_session.new.self.node.tables in
    subst P (sym more) (took_more w m c.tick_session.new.self.node.tables t _ (tick w.plan w.here ∷ []) _ _ _ _ _ _ c.loop-place.invariant one)
