-- The place is remembered, and the first file of the lane is asked for.
use Rattle.std.proofs.Common.{◌≡◌, ◌∙◌, ℕ, ◌<◌, length, Some, sym, ap, subst}
use Rattle.std.specs.Prelude.{option_map, slice_set}
use Rattle.gq_replace.specs.Plans.{node_at}
use Rattle.gq_tag.specs.Tag.{file_place}
use Rattle.gq_node.specs.declared.output.Transfer.TheVariants.{Wants as CodeWants}
use Rattle.gq_node.specs.Joining.{asks_peer}
use Rattle.gq_node.specs.Local.{Local, Doing}
use Rattle.gq_node.specs.SessionStates.{GivesNothing}
use Rattle.gq_node.specs.Shape.{IsShaped}
use Rattle.gq_node.specs.Sites.{Site, plan_in}
use Rattle.gq_node.specs.Tables.{Tables, Acts}
use Rattle.gq_node.proofs.Giving.{GivesTransfer, with_peer, none_asked, some_asked}
use Rattle.gq_node.proofs.tables.Core.ask.Goals as goal

pub returns-in_default : goal.returns-in_default
returns-in_default c =
    let w : Tables = c.args.self.now in
    let t : ℕ = c.args.tenant in
    let place : ℕ = c.args.place in
    let step : Site → Local → Doing = λ site local. asks_peer site local c.args.lane place in
    let V : ℕ → Tables = λ n. record { plan = c.self.inside.plan; here = record { node = c.self.inside.node; lost = c.self.inside.lost }; desk = c.self.inside.desk; store = c.self.inside.store; given = c.self.inside.lacks.items; joined = c.self.inside.joined; peers = slice_set c.self.inside.peers.items n place; session_states = c.self.inside.session_states.items } in
    let shaped : IsShaped w = subst IsShaped c.self.view_is c.self.invariant in
    let within : t < length w.peers = subst (λ n. t < n) (sym shaped.peers) c.requires.tenant in
    let given : GivesNothing c.nothing.result = record { answer = c.nothing.ensures.answer; letters = c.nothing.ensures.letters; transfer = c.nothing.ensures.transfer; fact = c.nothing.ensures.fact } in
    let acts : Acts w t step c.nothing.result (with_peer w t place) = none_asked w t c.args.lane place c.nothing.result within (sym c.first_in_lane-first.ensures.first ∙ ap (option_map file_place) c.in_default.is) given in
    subst (λ n. Acts w t step c.nothing.result (V n)) (sym c.from.ensures) (subst (λ (x : Tables). Acts w t step c.nothing.result (with_peer x t place)) (sym c.self.view_is) acts)

pub returns : goal.returns
returns c =
    let w : Tables = c.args.self.now in
    let t : ℕ = c.args.tenant in
    let place : ℕ = c.args.place in
    let step : Site → Local → Doing = λ site local. asks_peer site local c.args.lane place in
    let V : ℕ → Tables = λ n. record { plan = c.self.inside.plan; here = record { node = c.self.inside.node; lost = c.self.inside.lost }; desk = c.self.inside.desk; store = c.self.inside.store; given = c.self.inside.lacks.items; joined = c.self.inside.joined; peers = slice_set c.self.inside.peers.items n place; session_states = c.self.inside.session_states.items } in
    let shaped : IsShaped w = subst IsShaped c.self.view_is c.self.invariant in
    let within : t < length w.peers = subst (λ n. t < n) (sym shaped.peers) c.requires.tenant in
    let to : c.node_at-to.result ≡ node_at (plan_in w.here.lost) place = c.node_at-to.ensures ∙ ap (λ (x : Tables). node_at (plan_in x.here.lost) place) c.self.view_is in
    let given : GivesTransfer (CodeWants (node_at (plan_in w.here.lost) place) c.in-Some.file) c.sent.result = record {
      answer = c.sent.ensures.answer;
      letters = c.sent.ensures.letters;
      transfer_is = c.sent.ensures.transfer ∙ ap (λ n. Some (CodeWants n c.in-Some.file)) to;
      fact = c.sent.ensures.fact;
    } in
    let acts : Acts w t step c.sent.result (with_peer w t place) = some_asked w t c.args.lane place c.in-Some.file c.sent.result within c.in-Some.ensures.tenant (sym c.in-Some.ensures.first) given in
    subst (λ n. Acts w t step c.sent.result (V n)) (sym c.from.ensures) (subst (λ (x : Tables). Acts w t step c.sent.result (with_peer x t place)) (sym c.self.view_is) acts)
