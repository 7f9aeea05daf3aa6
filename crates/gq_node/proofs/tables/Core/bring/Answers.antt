-- A letter of a file that the server lacks is passed over.
use Rattle.std.proofs.Common.{◌≡◌, ◌∙◌, true, false, ap, sym}
use Rattle.std.proofs.lemmas.Result.{IfOk-weaker}
use Rattle.gq_tag.specs.declared.Message.{Message}
use Rattle.gq_tag.specs.Tag.{own_message, file_place}
use Rattle.gq_node.specs.declared.output.Output.{Output}
use Rattle.gq_node.specs.Sites.{Site}
use Rattle.gq_node.specs.Local.{Local, serves, at_server}
use Rattle.gq_node.specs.Tables.{Tables, Acts, lacks_at}
use Rattle.gq_node.proofs.Receiving.{has_acts, lacks_acts}
use Rattle.gq_node.proofs.tables.Core.bring.Goals as goal

pub returns-then-lacks : goal.returns-then-lacks
returns-then-lacks c =
    let w : Tables = c.args.self.now in
    let m : Message = c.args.message.now in
    let lacks : lacks_at w m.tenant (file_place m.file) ≡ true = ap (λ t. lacks_at w t (file_place m.file)) (sym c.requires.own) ∙ sym c.lacks.ensures ∙ c.if-lacks.true in
    record { acts = lacks_acts w m c.nothing.result lacks (record { answer = c.nothing.ensures.answer; letters = c.nothing.ensures.letters; transfer = c.nothing.ensures.transfer; fact = c.nothing.ensures.fact }) }

pub returns : goal.returns
returns c =
    let w : Tables = c.args.self.now in
    let m : Message = c.args.message.now in
    let has : lacks_at w m.tenant (file_place m.file) ≡ false = ap (λ t. lacks_at w t (file_place m.file)) (sym c.requires.own) ∙ sym c.lacks.ensures ∙ c.if-lacks.false in
    let P : Output → Type 0 = λ out. Acts w m.tenant (λ (site : Site) (local : Local). serves site local (own_message m)) out c.serve.new.self in
    let Q : Output → Type 0 = λ out. Acts w m.tenant (λ (site : Site) (local : Local). at_server site local (own_message m)) out c.serve.new.self in
    record { acts = IfOk-weaker c.serve.result P Q (λ out h. has_acts w c.serve.new.self m out has h) c.serve.ensures.acts }
