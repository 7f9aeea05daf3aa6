-- Each part of the question is answered by the tables.
use Rattle.std.proofs.Common.{◌≡◌, ◌∙◌, true, false, sym, ap, length}
use Rattle.std.specs.Prelude.{◌&&◌, nat_le}
use Rattle.gq_node.specs.Sites.{site_of, has_node}
use Rattle.gq_node.specs.Tables.{Tables}
use Rattle.gq_node.proofs.tables.Core.tells_joined.Goals as goal

pub returns-then-has_node : goal.returns-then-has_node
returns-then-has_node c = λ t.
    let w : Tables = c.args.self.now in
    let has : has_node (site_of w.plan w.here t) c.args.from ≡ true = sym (c.has_node.ensures.has t) ∙ c.if-has_node.true in
    let count : length c.places.result.now ≡ length w.here.lost = ap length c.places.ensures ∙ ap (λ (x : Tables). length x.here.lost) c.self.view_is in
    ap (nat_le c.args.losses) count ∙ sym (ap (λ b. b && nat_le c.args.losses (length w.here.lost)) has)

pub returns-else-has_node : goal.returns-else-has_node
returns-else-has_node c = λ t.
    let w : Tables = c.args.self.now in
    let not' : has_node (site_of w.plan w.here t) c.args.from ≡ false = sym (c.has_node.ensures.has t) ∙ c.if-has_node.false in
    c.if-has_node.false ∙ sym (ap (λ b. b && nat_le c.args.losses (length w.here.lost)) not')
