-- One more message, or none.
use Rattle.std.proofs.Common.{◌≡◌, ◌∙◌, ◌≤◌, ap, sym, arith, true, false}
use Rattle.gq_grid.specs.Sets.{servers}
use Rattle.gq_round.specs.Round.{addressed, apart}
use Rattle.gq_round.proofs.Lists.{map_filter_same, length_more, apart-true, apart-left, apart-right}
use Rattle.std.specs.Prelude.{length}
use Rattle.gq_round.proofs.Messages.len.Goals as goal
use Rattle.gq_round.proofs.Messages.len.Goals.{then-has+then-not-has, else-has, else-has-via-then-has+else-not-has, else-has-via-else-has}

pub loop-server-preserved : goal.loop-server-preserved
loop-server-preserved c =
    elim c.if-has.branch [
      | then-has+then-not-has w ↦
          let passes : apart (servers c.self.inside.to) (servers c.self.inside.except) c.loop-server.server ≡ true =
          apart-true (servers c.self.inside.to) (servers c.self.inside.except) c.loop-server.server (sym c.has.ensures ∙ w.if-has.true) (sym w.has-then-has.ensures ∙ w.if-not-has.true) in
          let few : c.loop-server.count ≤ c.loop-server.server = c.loop-server.invariant.1 in
          rw w.count-is (
            length_more (addressed c.self.inside.message) (apart (servers c.self.inside.to) (servers c.self.inside.except)) c.loop-server.server c.loop-server.count passes c.loop-server.invariant.0,
            (omega arith),
          )
      | else-has w ↦
          let fails : apart (servers c.self.inside.to) (servers c.self.inside.except) c.loop-server.server ≡ false =
          elim w.else-has.branch [
            | else-has-via-then-has+else-not-has v ↦ apart-right (servers c.self.inside.to) (servers c.self.inside.except) c.loop-server.server (sym c.has.ensures ∙ v.if-has.true) (sym v.has-then-has.ensures ∙ v.if-not-has.false)
            | else-has-via-else-has v ↦ apart-left (servers c.self.inside.to) (servers c.self.inside.except) c.loop-server.server (sym c.has.ensures ∙ v.if-has.false)
          ] in
          let few : c.loop-server.count ≤ c.loop-server.server = c.loop-server.invariant.1 in
          rw w.count-is (
            c.loop-server.invariant.0 ∙ sym (ap length (map_filter_same (addressed c.self.inside.message) (apart (servers c.self.inside.to) (servers c.self.inside.except)) c.loop-server.server fails)),
            (omega arith),
          )
    ]
