-- The tables answer.
use Rattle.std.proofs.Common.{◌≡◌, ◌∙◌, ℕ, Vec, Global, ap}
use Rattle.std.proofs.lemmas.Result.{IfOk-weaker}
use Rattle.gq_grid.specs.Sets.{servers}
use Rattle.gq_node.specs.Joining.{awaited}
use Rattle.gq_node.specs.Sites.{site_of}
use Rattle.gq_node.specs.Tables.{Tables, Whole}
use Rattle.gq_node.proofs.node.Node.awaited.Goals as goal

pub returns : goal.returns
returns c =
    let P : Tables → Vec ℕ Global → Type 0 = λ w nodes. (t : ℕ) → nodes.items ≡ awaited (site_of w.plan w.here t) (servers w.joined) in
    IfOk-weaker c.awaited.result (P c.self.inside.tables) (P c.args.self.now.tables) (λ nodes h t. h t ∙ ap (λ (x : Whole). awaited (site_of x.tables.plan x.tables.here t) (servers x.tables.joined)) c.self.view_is) c.awaited.ensures
