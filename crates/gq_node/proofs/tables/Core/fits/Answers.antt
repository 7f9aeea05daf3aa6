-- Each part of the question is answered by the tables.
use Rattle.std.proofs.Common.{◌≡◌, ◌∙◌, ◌*◌, ◌<◌, Bool, true, sym, ap, arith}
use Rattle.std.specs.Prelude.{nat_lt, ◌&&◌}
use Rattle.std.proofs.lemmas.Bool.{lt-ltb}
use Rattle.gq_grid.specs.Grid.{Grid}
use Rattle.gq_tag.specs.declared.Message.{Message}
use Rattle.gq_tag.specs.Tag.{own_message}
use Rattle.gq_desk.specs.Volumes.{limit_of}
use Rattle.gq_node.specs.Local.{goes_between, file_fits}
use Rattle.gq_node.specs.Sites.{Site, site_of, has_session}
use Rattle.gq_node.specs.Tables.{Tables}
use Rattle.gq_node.proofs.tables.Core.fits.Goals as goal

pub returns-then-goes_between : goal.returns-then-goes_between
returns-then-goes_between c =
    let w : Tables = c.args.self.now in
    let m : Message = c.args.message.now in
    let site : Site = site_of w.plan w.here m.tenant in
    let has : has_session site m.session ≡ true = ap (has_session site) (sym c.from.ensures) ∙ sym c.has.ensures.has ∙ c.if-not-has.false in
    let count : c.servers.result ≡ w.plan.grid.rows * w.plan.grid.cols = c.servers.ensures.value ∙ ap (λ (g : Grid). g.rows * g.cols) c.grid.ensures ∙ ap (λ (x : Tables). x.plan.grid.rows * x.plan.grid.cols) c.self.view_is in
    let below : m.server < w.plan.grid.rows * w.plan.grid.cols = omega (arith, count, c.if-message-servers.false) in
    let low : nat_lt m.server (w.plan.grid.rows * w.plan.grid.cols) ≡ true = lt-ltb m.server (w.plan.grid.rows * w.plan.grid.cols) below in
    let between : goes_between site c.args.from (own_message m) ≡ true = sym c.goes_between.ensures ∙ c.if-goes_between.true in
    let file : c.file_fits.result ≡ file_fits (limit_of w.desk m.file) m.body = c.file_fits.ensures ∙ ap (λ l. file_fits l m.body) (c.limit.ensures ∙ ap (λ (x : Tables). limit_of x.desk m.file) c.self.view_is) in
    file ∙ sym (ap (λ (a : Bool). a && nat_lt m.server (w.plan.grid.rows * w.plan.grid.cols) && goes_between site c.args.from (own_message m) && file_fits (limit_of w.desk m.file) m.body) has
    ∙ ap (λ (a : Bool). a && goes_between site c.args.from (own_message m) && file_fits (limit_of w.desk m.file) m.body) low
    ∙ ap (λ (a : Bool). a && file_fits (limit_of w.desk m.file) m.body) between)
