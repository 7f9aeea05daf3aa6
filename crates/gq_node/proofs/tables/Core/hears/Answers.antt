-- Each part of the question is answered by the tables.
use Rattle.std.proofs.Common.{◌≡◌, ◌∙◌, true, false, sym, ap, length}
use Rattle.std.specs.Prelude.{◌==◌, ◌&&◌}
use Rattle.gq_node.specs.Sites.{site_of, is_new, has_node}
use Rattle.gq_node.specs.Tables.{Tables}
use Rattle.gq_node.proofs.tables.Core.hears.Goals as goal

pub returns-then-not-is_new-clause-hears : goal.returns-then-not-is_new-clause-hears
returns-then-not-is_new-clause-hears c = λ t.
    let w : Tables = c.args.self.now in
    let not' : is_new (site_of w.plan w.here t) ≡ false = sym (c.is_new.ensures t) ∙ c.if-not-is_new.true in
    sym (ap (λ b. b && has_node (site_of w.plan w.here t) c.args.from && c.args.losses == length w.here.lost) not')

pub returns-then-not-has_node-clause-hears : goal.returns-then-not-has_node-clause-hears
returns-then-not-has_node-clause-hears c = λ t.
    let w : Tables = c.args.self.now in
    let new : is_new (site_of w.plan w.here t) ≡ true = sym (c.is_new.ensures t) ∙ c.if-not-is_new.false in
    let not' : has_node (site_of w.plan w.here t) c.args.from ≡ false = sym (c.has_node.ensures.has t) ∙ c.if-not-has_node.true in
    sym (ap (λ b. b && has_node (site_of w.plan w.here t) c.args.from && c.args.losses == length w.here.lost) new
    ∙ ap (λ b. b && c.args.losses == length w.here.lost) not')

pub returns-clause-hears : goal.returns-clause-hears
returns-clause-hears c = λ t.
    let w : Tables = c.args.self.now in
    let new : is_new (site_of w.plan w.here t) ≡ true = sym (c.is_new.ensures t) ∙ c.if-not-is_new.false in
    let has : has_node (site_of w.plan w.here t) c.args.from ≡ true = sym (c.has_node.ensures.has t) ∙ c.if-not-has_node.false in
    let count : length c.places.result.now ≡ length w.here.lost = ap length c.places.ensures ∙ ap (λ (x : Tables). length x.here.lost) c.self.view_is in
    ap (λ n. c.args.losses == n) count
    ∙ sym (ap (λ b. b && has_node (site_of w.plan w.here t) c.args.from && c.args.losses == length w.here.lost) new
    ∙ ap (λ b. b && c.args.losses == length w.here.lost) has)
