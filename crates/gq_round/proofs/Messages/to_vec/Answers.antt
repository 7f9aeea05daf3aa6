-- One more message, or none.
use Rattle.std.proofs.Common.{◌≡◌, ◌∙◌, sym, arith, ◌*◌, true, false}
use Rattle.gq_grid.specs.Sets.{servers}
use Rattle.gq_round.specs.Round.{addressed, apart}
use Rattle.gq_round.proofs.Lists.{map_filter_more, map_filter_same, apart-true, apart-left, apart-right}
use Rattle.gq_round.proofs.Messages.to_vec.Goals as goal
use Rattle.gq_round.proofs.Messages.to_vec.Goals.{then-has+then-not-has+in_ok-share+in_ok-grow, else-has, else-has-via-then-has+else-not-has, else-has-via-else-has}

pub loop-server-preserved : goal.loop-server-preserved
loop-server-preserved c =
    elim c.if-has.branch [
      | then-has+then-not-has+in_ok-share+in_ok-grow w ↦
          let passes : apart (servers c.self.inside.to) (servers c.self.inside.except) c.loop-server.server ≡ true =
          apart-true (servers c.self.inside.to) (servers c.self.inside.except) c.loop-server.server (sym c.has.ensures ∙ w.if-has.true) (sym w.has-then-has.ensures ∙ w.if-not-has.true) in
          let more = map_filter_more (addressed c.self.inside.message) (apart (servers c.self.inside.to) (servers c.self.inside.except)) c.loop-server.server passes in
          let so_far = c.loop-server.invariant in
          rw (w.messages-is, w.in_ok-grow.ensures.items, so_far, w.in_ok-share.ensures) (sym more)
      | else-has w ↦
          let fails : apart (servers c.self.inside.to) (servers c.self.inside.except) c.loop-server.server ≡ false =
          elim w.else-has.branch [
            | else-has-via-then-has+else-not-has v ↦ apart-right (servers c.self.inside.to) (servers c.self.inside.except) c.loop-server.server (sym c.has.ensures ∙ v.if-has.true) (sym v.has-then-has.ensures ∙ v.if-not-has.false)
            | else-has-via-else-has v ↦ apart-left (servers c.self.inside.to) (servers c.self.inside.except) c.loop-server.server (sym c.has.ensures ∙ v.if-has.false)
          ] in
          rw w.messages-is (c.loop-server.invariant ∙ sym (map_filter_same (addressed c.self.inside.message) (apart (servers c.self.inside.to) (servers c.self.inside.except)) c.loop-server.server fails))
    ]

pub returns : goal.returns
returns c =
    let end : c.loop-server.server ≡ c.self.inside.grid.rows * c.self.inside.grid.cols = omega arith in
    rw (← c.self.view_is) (rw end at c.loop-server.invariant)
