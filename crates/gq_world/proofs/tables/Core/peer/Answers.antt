-- The peer that is found among the servers that are up decides.
use Rattle.std.proofs.Common.{◌≡◌, ◌∙◌, ◌*◌, ◌<◌, false, None, ap, sym, arith}
use Rattle.gq_grid.specs.Sets.{servers}
use Rattle.gq_world.specs.Tables.{Tables}
use Rattle.gq_world.proofs.LossWords.{repair_word, peer_found}
use Rattle.gq_world.proofs.tables.Core.peer.Goals as goal

pub returns-in-None-clause-word : goal.returns-in-None-clause-word
returns-in-None-clause-word c =
    let w : Tables = c.args.self.now in
    let grid : c.grid-grid.result.now ≡ w.plan.grid = c.grid-grid.ensures ∙ ap (λ (x : Tables). x.plan.grid) c.self.view_is in
    let up : c.servers-else-has.result ≡ w.up = c.servers-else-has.ensures ∙ ap (λ (x : Tables). x.up) c.self.view_is in
    let kept : c.self.inside.kept ≡ w.kept = ap (λ (x : Tables). x.kept) c.self.view_is in
    let within : c.args.server < c.grid-grid.result.now.rows * c.grid-grid.result.now.cols = let count = c.servers.ensures.value in let low = c.if-server-servers.false in omega arith in
    let lost : servers c.self.inside.kept c.args.server ≡ false = sym c.has.ensures ∙ c.if-has.false in
    repair_word w c.grid-grid.result.now c.servers-else-has.result c.self.inside.kept c.args.server None grid up kept within lost c.in-None.ensures.peer

pub returns-in-Some-clause-peer : goal.returns-in-Some-clause-peer
returns-in-Some-clause-peer c =
    let w : Tables = c.args.self.now in
    let grid : c.grid-grid.result.now ≡ w.plan.grid = c.grid-grid.ensures ∙ ap (λ (x : Tables). x.plan.grid) c.self.view_is in
    let up : c.servers-else-has.result ≡ w.up = c.servers-else-has.ensures ∙ ap (λ (x : Tables). x.up) c.self.view_is in
    let kept : c.self.inside.kept ≡ w.kept = ap (λ (x : Tables). x.kept) c.self.view_is in
    let within : c.args.server < c.grid-grid.result.now.rows * c.grid-grid.result.now.cols = let count = c.servers.ensures.value in let low = c.if-server-servers.false in omega arith in
    let lost : servers c.self.inside.kept c.args.server ≡ false = sym c.has.ensures ∙ c.if-has.false in
    peer_found w c.grid-grid.result.now c.servers-else-has.result c.self.inside.kept c.args.server c.in-Some.peer grid up kept within lost c.in-Some.ensures.peer
