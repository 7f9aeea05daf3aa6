-- Each part of the question is answered by the tables.
use Rattle.std.proofs.Common.{◌∙◌, ℕ, sym, ap}
use Rattle.std.specs.Prelude.{◌&&◌, not, is_some}
use Rattle.gq_tag.specs.Tag.{file_place}
use Rattle.gq_desk.specs.Volumes.{limit_of}
use Rattle.gq_node.specs.Tables.{Tables, lacks_at}
use Rattle.gq_node.proofs.tables.Core.gives.Goals as goal

pub returns-then-not-is_peer-clause-gives : goal.returns-then-not-is_peer-clause-gives
returns-then-not-is_peer-clause-gives c =
    let w : Tables = c.args.self.now in
    let t : ℕ = c.args.file.tenant in
    sym (ap (λ b. b && (is_some (limit_of w.desk c.args.file) && not (lacks_at w t (file_place c.args.file)))) (sym (c.is_peer.ensures.peer t) ∙ c.if-not-is_peer.true))

pub returns-then-not-is_there-clause-gives : goal.returns-then-not-is_there-clause-gives
returns-then-not-is_there-clause-gives c =
    let w : Tables = c.args.self.now in
    let t : ℕ = c.args.file.tenant in
    sym (ap (λ b. b && (is_some (limit_of w.desk c.args.file) && not (lacks_at w t (file_place c.args.file)))) (sym (c.is_peer.ensures.peer t) ∙ c.if-not-is_peer.false)
    ∙ ap (λ b. b && not (lacks_at w t (file_place c.args.file))) (sym c.is_there.ensures.there ∙ c.if-not-is_there.true))

pub returns-clause-gives : goal.returns-clause-gives
returns-clause-gives c =
    let w : Tables = c.args.self.now in
    let t : ℕ = c.args.file.tenant in
    ap not c.lacks.ensures
    ∙ sym (ap (λ b. b && (is_some (limit_of w.desk c.args.file) && not (lacks_at w t (file_place c.args.file)))) (sym (c.is_peer.ensures.peer t) ∙ c.if-not-is_peer.false)
    ∙ ap (λ b. b && not (lacks_at w t (file_place c.args.file))) (sym c.is_there.ensures.there ∙ c.if-not-is_there.false))
