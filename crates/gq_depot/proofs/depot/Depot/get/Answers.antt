use Rattle.std.proofs.Common.{◌≡◌, ℕ, sym}
use Rattle.gq_shelf.specs.Notes.{IsClean}
use Rattle.gq_depot.specs.Answers.{FoundAt}
use Rattle.gq_depot.specs.declared.answer.ChunkAnswer.TheVariants.{NoSession}
use Rattle.gq_depot.proofs.Standing.{by_session}
use Rattle.gq_depot.proofs.depot.Depot.get.Goals as goal

pub returns-clause-tells : goal.returns-clause-tells
returns-clause-tells g c written = by_session c.args.self.now c.args.session c.in-Some.place (c.in_ok-answer.answer ≡ NoSession c.args.session c.args.number) (λ (place : ℕ). FoundAt (IsClean written (g.S.Shelf.noted c.get_at.new.shelf)) written c.args.self.now place c.args.session c.args.number c.args.from c.args.long c.in_ok-answer.answer) (sym c.in-Some.ensures.place) (c.in_ok-answer.ensures.tells written)
