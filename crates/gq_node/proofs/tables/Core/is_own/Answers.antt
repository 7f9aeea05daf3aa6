-- Of a node that is no new one no session is asked.
use Rattle.std.proofs.Common.{◌≡◌, ◌∙◌, true, false, sym, ap}
use Rattle.std.specs.Prelude.{◌==◌, ◌&&◌}
use Rattle.gq_node.specs.Sites.{home_of}
use Rattle.gq_node.specs.Tables.{Tables, is_new_node}
use Rattle.gq_node.proofs.tables.Core.is_own.Goals as goal

pub returns-then-is_new : goal.returns-then-is_new
returns-then-is_new c =
    let w : Tables = c.args.self.now in
    let new : is_new_node w ≡ true = sym (c.is_new.ensures 0) ∙ c.if-is_new.true in
    c.is_home.ensures ∙ sym (ap (λ b. b && (home_of w.plan c.args.tenant c.args.session == w.here.node)) new)

pub returns-else-is_new : goal.returns-else-is_new
returns-else-is_new c =
    let w : Tables = c.args.self.now in
    let old : is_new_node w ≡ false = sym (c.is_new.ensures 0) ∙ c.if-is_new.false in
    c.if-is_new.false ∙ sym (ap (λ b. b && (home_of w.plan c.args.tenant c.args.session == w.here.node)) old)
