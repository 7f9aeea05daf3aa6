-- One slip more, or none.
use Rattle.std.proofs.Common.{◌≡◌, ◌∙◌, ◌++◌, ◌∷◌, [], ◌+◌, ◌≤◌, ap, sym, arith, true, false, length, append_assoc}
use Rattle.std.specs.Prelude.{vec_len, vec_capacity}
use Rattle.gq_grid.specs.Sets.{servers}
use Rattle.gq_round.specs.Round.{apart}
use Rattle.gq_round.proofs.Lists.{map_filter_more, map_filter_same, length_more, apart-true, apart-left, apart-right}
use Rattle.gq_post.specs.Slips.{slip_to}
use Rattle.gq_post.proofs.envelopes.push_slips.Goals as goal
use Rattle.gq_post.proofs.envelopes.push_slips.Goals.{then-has+then-not-has, else-has, else-has-via-then-has+else-not-has, else-has-via-else-has}

pub loop-server-preserved : goal.loop-server-preserved
loop-server-preserved c =
    elim c.if-has.branch [
      | then-has+then-not-has w ↦
          let passes : apart (servers c.args.to) (servers c.args.except) c.loop-server.server ≡ true =
          apart-true (servers c.args.to) (servers c.args.except) c.loop-server.server (sym c.has.ensures ∙ w.if-has.true) (sym w.has-then-has.ensures ∙ w.if-not-has.true) in
          let few : c.loop-server.count ≤ c.loop-server.server = c.loop-server.invariant.2 in
          let room : vec_len c.loop-server.slips + c.servers-server-end.result ≤ vec_capacity c.loop-server.slips + c.loop-server.server = c.loop-server.invariant.3 in
          rw (w.count-is, w.slips-is) (
            w.push_reserved.ensures.items
                ∙ ap (λ items. items ++ slip_to c.args.slip c.loop-server.server ∷ []) c.loop-server.invariant.0
                ∙ append_assoc c.args.slips.now.items _ (slip_to c.args.slip c.loop-server.server ∷ [])
                ∙ ap (λ more. c.args.slips.now.items ++ more) (sym (map_filter_more (slip_to c.args.slip) (apart (servers c.args.to) (servers c.args.except)) c.loop-server.server passes)),
            length_more (slip_to c.args.slip) (apart (servers c.args.to) (servers c.args.except)) c.loop-server.server c.loop-server.count passes c.loop-server.invariant.1,
            (omega (arith, few)),
            (omega (arith, room, w.push_reserved.ensures.len, w.push_reserved.ensures.capacity)),
          )
      | else-has w ↦
          let fails : apart (servers c.args.to) (servers c.args.except) c.loop-server.server ≡ false =
          elim w.else-has.branch [
            | else-has-via-then-has+else-not-has v ↦ apart-right (servers c.args.to) (servers c.args.except) c.loop-server.server (sym c.has.ensures ∙ v.if-has.true) (sym v.has-then-has.ensures ∙ v.if-not-has.false)
            | else-has-via-else-has v ↦ apart-left (servers c.args.to) (servers c.args.except) c.loop-server.server (sym c.has.ensures ∙ v.if-has.false)
          ] in
          let few : c.loop-server.count ≤ c.loop-server.server = c.loop-server.invariant.2 in
          let room : vec_len c.loop-server.slips + c.servers-server-end.result ≤ vec_capacity c.loop-server.slips + c.loop-server.server = c.loop-server.invariant.3 in
          let same = map_filter_same (slip_to c.args.slip) (apart (servers c.args.to) (servers c.args.except)) c.loop-server.server fails in
          rw (w.count-is, w.slips-is) (
            c.loop-server.invariant.0 ∙ ap (λ more. c.args.slips.now.items ++ more) (sym same),
            c.loop-server.invariant.1 ∙ sym (ap length same),
            (omega (arith, few)),
            (omega (arith, room)),
          )
    ]
