-- Each part of the question is answered by the tables.
use Rattle.std.proofs.Common.{◌≡◌, ◌∙◌, ℕ, Some, sym, ap}
use Rattle.std.specs.Prelude.{◌&&◌}
use Rattle.gq_tag.specs.declared.Body.TheVariants.{Store}
use Rattle.gq_tag.specs.Tag.{file_place}
use Rattle.gq_desk.specs.Volumes.{limit_of}
use Rattle.gq_node.specs.Local.{file_fits}
use Rattle.gq_node.specs.Tables.{Tables, lacks_at}
use Rattle.gq_node.proofs.Giving.{fits_nowhere}
use Rattle.gq_node.proofs.tables.Core.takes.Goals as goal

pub returns-then-not-is_peer-clause-takes : goal.returns-then-not-is_peer-clause-takes
returns-then-not-is_peer-clause-takes c =
    let w : Tables = c.args.self.now in
    let t : ℕ = c.args.file.tenant in
    sym (ap (λ b. b && lacks_at w t (file_place c.args.file) && file_fits (limit_of w.desk c.args.file) (Store c.args.copy.now)) (sym (c.is_peer.ensures.peer t) ∙ c.if-not-is_peer.true))

pub returns-then-not-lacks-clause-takes : goal.returns-then-not-lacks-clause-takes
returns-then-not-lacks-clause-takes c =
    let w : Tables = c.args.self.now in
    let t : ℕ = c.args.file.tenant in
    sym (ap (λ b. b && lacks_at w t (file_place c.args.file) && file_fits (limit_of w.desk c.args.file) (Store c.args.copy.now)) (sym (c.is_peer.ensures.peer t) ∙ c.if-not-is_peer.false)
    ∙ ap (λ b. b && file_fits (limit_of w.desk c.args.file) (Store c.args.copy.now)) (sym c.lacks.ensures ∙ c.if-not-lacks.true))

pub returns-then-not-is_there-clause-takes : goal.returns-then-not-is_there-clause-takes
returns-then-not-is_there-clause-takes c =
    let w : Tables = c.args.self.now in
    let t : ℕ = c.args.file.tenant in
    sym (ap (λ b. b && lacks_at w t (file_place c.args.file) && file_fits (limit_of w.desk c.args.file) (Store c.args.copy.now)) (sym (c.is_peer.ensures.peer t) ∙ c.if-not-is_peer.false)
    ∙ ap (λ b. b && file_fits (limit_of w.desk c.args.file) (Store c.args.copy.now)) (sym c.lacks.ensures ∙ c.if-not-lacks.false)
    ∙ fits_nowhere (limit_of w.desk c.args.file) (Store c.args.copy.now) (sym c.is_there.ensures.there ∙ c.if-not-is_there.true))

pub returns-in-Some-clause-takes : goal.returns-in-Some-clause-takes
returns-in-Some-clause-takes c =
    let w : Tables = c.args.self.now in
    let t : ℕ = c.args.file.tenant in
    let there : limit_of w.desk c.args.file ≡ Some c.in-Some.limit = ap (λ (x : Tables). limit_of x.desk c.args.file) (sym c.self.view_is) ∙ sym c.limit.ensures ∙ c.in-Some.is in
    c.copy_fits.ensures ∙ ap (λ o. file_fits o (Store c.args.copy.now)) (sym there)
    ∙ sym (ap (λ b. b && lacks_at w t (file_place c.args.file) && file_fits (limit_of w.desk c.args.file) (Store c.args.copy.now)) (sym (c.is_peer.ensures.peer t) ∙ c.if-not-is_peer.false)
    ∙ ap (λ b. b && file_fits (limit_of w.desk c.args.file) (Store c.args.copy.now)) (sym c.lacks.ensures ∙ c.if-not-lacks.false))
