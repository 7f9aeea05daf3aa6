use Rattle.std.proofs.Common.{◌≡◌, ℕ, None, sym}
use Rattle.gq_shelf.specs.Notes.{IsClean}
use Rattle.gq_depot.specs.Moving.{MovedAt}
use Rattle.gq_depot.proofs.Standing.{by_session}
use Rattle.gq_depot.proofs.depot.Depot.shelve.Goals as goal

pub returns-clause-gives : goal.returns-clause-gives
returns-clause-gives g c written = by_session c.args.self.now c.args.session c.in-Some.place (c.in_ok-fact.fact ≡ None) (λ (place : ℕ). MovedAt (IsClean written (g.S.Shelf.noted c.shelve_at.new.shelf)) written (g.S.Shelf.end c.args.shelf.now) c.args.self.now place c.args.session c.args.number c.in_ok-fact.fact) (sym c.in-Some.ensures.place) (c.in_ok-fact.ensures.gives written)
