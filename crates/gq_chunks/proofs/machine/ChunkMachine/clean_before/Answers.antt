use Rattle.std.proofs.Common.{◌≡◌, ℕ, length, true, Option, ap, subst, ◌∙◌, arith}
use Rattle.std.specs.Prelude.{IfSome}
use Rattle.gq_chunks.specs.Coming.{coming, moves_at}
use Rattle.gq_chunks.specs.declared.cleaning.Due.{Due}
use Rattle.gq_chunks.specs.Having.{chunks_of}
use Rattle.gq_chunks.specs.Machines.{Chunks}
use Rattle.gq_chunks.proofs.Cleaned.{moves_none, moves_from}
use Rattle.gq_chunks.proofs.Taken.{refused_on}
use Rattle.gq_chunks.proofs.machine.ChunkMachine.clean_before.Goals as goal

pub returns-in_default-clause-plan : goal.returns-in_default-clause-plan
returns-in_default-clause-plan g c = ap (λ (z : Chunks). z.plan) c.due.ensures.same

pub returns-in_default-clause-tenants : goal.returns-in_default-clause-tenants
returns-in_default-clause-tenants g c = ap (λ (z : Chunks). length z.depots) c.due.ensures.same

pub returns-in_default-clause-rises : goal.returns-in_default-clause-rises
returns-in_default-clause-rises g c = let same = ap (λ (z : Chunks). z.noted.refused) c.due.ensures.same in omega (arith, same)

pub returns-in_default-clause-moves : goal.returns-in_default-clause-moves
returns-in_default-clause-moves g c =
    let m = c.args.self.now in
    let n = c.due.new.self in
    moves_none (coming c.args.came.now) (chunks_of g.S.Shelf.noted m) (chunks_of g.S.Shelf.noted n) c.args.facts.now.items c.due.ensures.same

pub returns-in-Ok-clause-plan : goal.returns-in-Ok-clause-plan
returns-in-Ok-clause-plan g c = c.in-Ok.ensures.moves.site.plan ∙ ap (λ (z : Chunks). z.plan) c.due.ensures.same

pub returns-in-Ok-clause-tenants : goal.returns-in-Ok-clause-tenants
returns-in-Ok-clause-tenants g c = c.in-Ok.ensures.moves.site.tenants ∙ ap (λ (z : Chunks). length z.depots) c.due.ensures.same

pub returns-in-Ok-clause-rises : goal.returns-in-Ok-clause-rises
returns-in-Ok-clause-rises g c = let same = ap (λ (z : Chunks). z.noted.refused) c.due.ensures.same in omega (arith, same, c.in-Ok.ensures.moves.refused)

pub returns-in-Ok-clause-moves : goal.returns-in-Ok-clause-moves
returns-in-Ok-clause-moves g c =
    let m = c.args.self.now in
    let n = c.due.new.self in
    let k = c.clean.new.self in
    moves_from (coming c.args.came.now) (chunks_of g.S.Shelf.noted m) (chunks_of g.S.Shelf.noted n) (chunks_of g.S.Shelf.noted k) c.args.facts.now.items c.clean.new.facts.items c.due.ensures.same (subst (λ (o : Option Due). IfSome o (λ due. moves_at (coming c.args.came.now) ≡ true)) c.in-Some.is c.in_ok-due.ensures.may) c.in-Ok.ensures.moves

pub returns-in-Err-clause-refused : goal.returns-in-Err-clause-refused
returns-in-Err-clause-refused g c =
    let same : (g.S.Shelf.noted c.due.new.self.depots.shelf).refused ≡ (g.S.Shelf.noted c.args.self.now.depots.shelf).refused = ap (λ (z : Chunks). z.noted.refused) c.due.ensures.same in
    refused_on c.in-Err.fault (g.S.Shelf.noted c.args.self.now.depots.shelf) (g.S.Shelf.noted c.due.new.self.depots.shelf) (g.S.Shelf.noted c.clean.new.self.depots.shelf) (omega (arith, same)) c.in-Err.ensures.refused
