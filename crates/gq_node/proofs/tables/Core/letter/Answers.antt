-- A letter that fits goes to the server, or to its session.
use Rattle.std.proofs.Common.{◌∙◌, ◌<◌, ◌*◌, ◌≤◌, sym, subst, arith}
use Rattle.std.proofs.lemmas.Result.{IfOk-weaker}
use Rattle.gq_grid.specs.declared.TheConstants.{MOST_SERVERS}
use Rattle.gq_tag.specs.declared.Message.{Message}
use Rattle.gq_tag.specs.Tag.{own_message}
use Rattle.gq_desk.specs.Volumes.{limit_of}
use Rattle.gq_node.specs.declared.output.Output.{Output}
use Rattle.gq_node.specs.Sites.{Site, site_of}
use Rattle.gq_node.specs.Local.{Local, receives, at_server, hears}
use Rattle.gq_node.specs.Shape.{IsShaped}
use Rattle.gq_node.specs.Tables.{Tables, Acts}
use Rattle.gq_node.proofs.Receiving.{passed_acts, server_acts, session_acts, parts, Parts, its_server, its_number}
use Rattle.gq_node.proofs.tables.Core.letter.Goals as goal

pub returns-then-not-fits : goal.returns-then-not-fits
returns-then-not-fits c =
    record { acts = passed_acts c.args.self.now c.args.from c.args.message.now c.nothing.result c.requires.own (sym c.fits.ensures ∙ c.if-not-fits.true) (record { answer = c.nothing.ensures.answer; letters = c.nothing.ensures.letters; transfer = c.nothing.ensures.transfer; fact = c.nothing.ensures.fact }) }

pub returns-then-to_server : goal.returns-then-to_server
returns-then-to_server c =
    let w : Tables = c.args.self.now in
    let m : Message = c.args.message.now in
    let P : Output → Type 0 = λ out. Acts w m.tenant (λ (site : Site) (local : Local). at_server site local (own_message m)) out c.bring.new.self in
    let Q : Output → Type 0 = λ out. Acts w m.tenant (receives c.args.from (own_message m)) out c.bring.new.self in
    record { acts = IfOk-weaker c.bring.result P Q (λ out h. server_acts w c.bring.new.self c.args.from m out c.requires.own (sym c.fits.ensures ∙ c.if-not-fits.false) (sym c.to_server.ensures ∙ c.if-to_server.true) h) c.bring.ensures.acts }

pub returns-else-to_server : goal.returns-else-to_server
returns-else-to_server c =
    let w : Tables = c.args.self.now in
    let m : Message = c.args.message.now in
    let P : Output → Type 0 = λ out. Acts w m.tenant (λ (site : Site) (local : Local). hears site local (own_message m)) out c.hear.new.self in
    let Q : Output → Type 0 = λ out. Acts w m.tenant (receives c.args.from (own_message m)) out c.hear.new.self in
    record { acts = IfOk-weaker c.hear.result P Q (λ out h. session_acts w c.hear.new.self c.args.from m out c.requires.own (sym c.fits.ensures ∙ c.if-not-fits.false) (sym c.to_server.ensures ∙ c.if-to_server.false) h) c.hear.ensures.acts }

pub bring-requires : goal.bring-requires
bring-requires c =
    let w : Tables = c.args.self.now in
    let m : Message = c.args.message.now in
    let p : Parts (site_of w.plan w.here m.tenant) (limit_of w.desk m.file) c.args.from (own_message m) = parts (site_of w.plan w.here m.tenant) (limit_of w.desk m.file) c.args.from (own_message m) (sym c.fits.ensures ∙ c.if-not-fits.false) in
    let goes = sym c.to_server.ensures ∙ c.if-to_server.true in
    record { tenant = c.requires.tenant; own = c.requires.own; goes = goes; server = its_server (site_of w.plan w.here m.tenant) c.args.from (own_message m) goes p.between; fits = p.file }

pub hear-requires : goal.hear-requires
hear-requires c =
    let w : Tables = c.args.self.now in
    let m : Message = c.args.message.now in
    let p : Parts (site_of w.plan w.here m.tenant) (limit_of w.desk m.file) c.args.from (own_message m) = parts (site_of w.plan w.here m.tenant) (limit_of w.desk m.file) c.args.from (own_message m) (sym c.fits.ensures ∙ c.if-not-fits.false) in
    let shaped : IsShaped w = subst IsShaped c.self.view_is c.self.invariant in
    let small : w.plan.grid.rows * w.plan.grid.cols ≤ MOST_SERVERS = shaped.grid in
    let below : m.server < w.plan.grid.rows * w.plan.grid.cols = p.server in
    record { tenant = c.requires.tenant; has = p.session; goes = sym c.to_server.ensures ∙ c.if-to_server.false; server = omega arith; number = its_number (limit_of w.desk m.file) m.body p.file }
