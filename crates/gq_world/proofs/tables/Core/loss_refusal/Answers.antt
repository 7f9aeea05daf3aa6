-- The peer that is found among the servers that are not lost decides.
use Rattle.std.proofs.Common.{◌≡◌, ◌∙◌, ◌*◌, ◌<◌, true, None, Some, ap, sym, arith}
use Rattle.gq_grid.specs.Sets.{servers}
use Rattle.gq_world.specs.Tables.{Tables}
use Rattle.gq_world.proofs.LossWords.{loss_word}
use Rattle.gq_world.proofs.tables.Core.loss_refusal.Goals as goal

pub returns-in-None-clause-word : goal.returns-in-None-clause-word
returns-in-None-clause-word c =
    let w : Tables = c.args.self.now in
    let grid : c.grid-grid.result.now ≡ w.plan.grid = c.grid-grid.ensures ∙ ap (λ (x : Tables). x.plan.grid) c.self.view_is in
    let kept : c.self.inside.kept ≡ w.kept = ap (λ (x : Tables). x.kept) c.self.view_is in
    let within : c.args.server < c.grid-grid.result.now.rows * c.grid-grid.result.now.cols = let count = c.servers.ensures.value in let low = c.if-server-servers.false in omega arith in
    let here : servers c.self.inside.kept c.args.server ≡ true = sym c.has.ensures ∙ c.if-not-has.false in
    loss_word w c.grid-grid.result.now c.self.inside.kept c.args.server None grid kept within here c.in-None.ensures.peer

pub returns-in-Some-clause-word : goal.returns-in-Some-clause-word
returns-in-Some-clause-word c =
    let w : Tables = c.args.self.now in
    let grid : c.grid-grid.result.now ≡ w.plan.grid = c.grid-grid.ensures ∙ ap (λ (x : Tables). x.plan.grid) c.self.view_is in
    let kept : c.self.inside.kept ≡ w.kept = ap (λ (x : Tables). x.kept) c.self.view_is in
    let within : c.args.server < c.grid-grid.result.now.rows * c.grid-grid.result.now.cols = let count = c.servers.ensures.value in let low = c.if-server-servers.false in omega arith in
    let here : servers c.self.inside.kept c.args.server ≡ true = sym c.has.ensures ∙ c.if-not-has.false in
    loss_word w c.grid-grid.result.now c.self.inside.kept c.args.server (Some c.in-Some.field-0) grid kept within here c.in-Some.ensures.peer
