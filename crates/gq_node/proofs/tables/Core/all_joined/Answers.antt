-- One place more.
use Rattle.std.proofs.Common.{◌≡◌, ◌∙◌, ℕ, ◌*◌, ◌<◌, sym, ap, arith}
use Rattle.gq_grid.proofs.Ranges.{list_all_more}
use Rattle.gq_node.specs.Tables.{Tables, has_joined}
use Rattle.gq_node.proofs.Looking.{list_all_less, list_all_none}
use Rattle.gq_node.proofs.tables.Core.all_joined.Goals as goal

pub loop-place-preserved : goal.loop-place-preserved
loop-place-preserved c =
    let w : Tables = c.args.self.now in
    let n : ℕ = w.plan.grid.rows * w.plan.grid.cols in
    let end : c.servers-place-end.result ≡ n = c.servers-place-end.ensures.value ∙ ap (λ g. g.rows * g.cols) c.grid.ensures ∙ ap (λ (x : Tables). x.plan.grid.rows * x.plan.grid.cols) c.self.view_is in
    let below : c.loop-place.place < n = omega arith in
    list_all_more (has_joined w) c.loop-place.place n below (sym c.has_joined.ensures ∙ c.if-not-has_joined.false) ∙ c.loop-place.invariant

pub returns-then-not-has_joined : goal.returns-then-not-has_joined
returns-then-not-has_joined c = λ t.
    let w : Tables = c.args.self.now in
    let n : ℕ = w.plan.grid.rows * w.plan.grid.cols in
    let end : c.servers-place-end.result ≡ n = c.servers-place-end.ensures.value ∙ ap (λ g. g.rows * g.cols) c.grid.ensures ∙ ap (λ (x : Tables). x.plan.grid.rows * x.plan.grid.cols) c.self.view_is in
    let below : c.loop-place.place < n = omega arith in
    sym (list_all_less (has_joined w) c.loop-place.place n below (sym c.has_joined.ensures ∙ c.if-not-has_joined.true)) ∙ c.loop-place.invariant

pub returns : goal.returns
returns c = λ t.
    let w : Tables = c.args.self.now in
    let n : ℕ = w.plan.grid.rows * w.plan.grid.cols in
    let end : c.servers-place-end.result ≡ n = c.servers-place-end.ensures.value ∙ ap (λ g. g.rows * g.cols) c.grid.ensures ∙ ap (λ (x : Tables). x.plan.grid.rows * x.plan.grid.cols) c.self.view_is in
    sym (list_all_none (has_joined w) c.loop-place.place n (omega arith)) ∙ c.loop-place.invariant
