use Rattle.std.proofs.Common.{◌≡◌, ◌∙◌, sym, ap, subst, Some, List, ℕ, []}
use Rattle.std.specs.Bool.{Decides}
use Rattle.std.proofs.lemmas.Bool.{both_ways}
use Rattle.std.proofs.lemmas.Bool.Decides.{Decides-eqb}
use Rattle.std.proofs.lemmas.Slice.Eq.{slice_eq-Decides}
use Rattle.std.proofs.lemmas.Option.{same_Some}
use Rattle.gq_shelf.specs.Notes.{IsClean}
use Rattle.gq_ledger.specs.Ledgers.{book_of}
use Rattle.gq_stock.specs.Held.{contents}
use Rattle.gq_stock.specs.Finding.{FoundAs}
use Rattle.gq_stock.specs.declared.finding.Found.{Found}
use Rattle.gq_stock.proofs.Contents.{some_held, none_held}
use Rattle.gq_stock.proofs.session.Session.compare.Goals as goal

pub returns-then-eq-clause-told : goal.returns-then-eq-clause-told
returns-then-eq-clause-told g c written clean =
    let there = subst (λ (f : Found). FoundAs (IsClean written (g.S.Shelf.noted c.find.new.shelf)) ((contents written (book_of c.args.self.now.chunks)).at c.args.number) f) c.in-There.is (c.in_ok-there.ensures.found written) in
    let equal : Decides c.eq.result (c.as_slice.result.now ≡ c.args.bytes.now) = slice_eq-Decides Decides-eqb c.as_slice.result.now c.args.bytes.now c.eq.result c.eq.ensures in
    there clean ∙ ap (λ (x : List ℕ). Some x) (sym c.as_slice.ensures ∙ equal.0 c.if-eq.true)

pub returns-in-There-clause-told : goal.returns-in-There-clause-told
returns-in-There-clause-told g c written clean =
    let there = subst (λ (f : Found). FoundAs (IsClean written (g.S.Shelf.noted c.find.new.shelf)) ((contents written (book_of c.args.self.now.chunks)).at c.args.number) f) c.in-There.is (c.in_ok-there.ensures.found written) in
    let equal : Decides c.eq.result (c.as_slice.result.now ≡ c.args.bytes.now) = slice_eq-Decides Decides-eqb c.as_slice.result.now c.args.bytes.now c.eq.result c.eq.ensures in (
      some_held written ((book_of c.args.self.now.chunks).at c.args.number) c.requires,
      λ e. both_ways c.eq.result c.if-eq.false (equal.1 (c.as_slice.ensures ∙ same_Some _ _ (sym (there clean) ∙ e))),
    )

pub unreachable-requires : goal.unreachable-requires
unreachable-requires g c =
    let none = subst (λ (f : Found). FoundAs (IsClean (λ extent. []) (g.S.Shelf.noted c.find.new.shelf)) ((contents (λ extent. []) (book_of c.args.self.now.chunks)).at c.args.number) f) c.in-Nothing.is (c.in_ok-there.ensures.found (λ extent. [])) in
    none_held (λ extent. []) ((book_of c.args.self.now.chunks).at c.args.number) none c.requires
