use Rattle.std.proofs.Common.{rules, ◌≡◌, ◌<◌, [], ◌∷◌, ◌++◌, true, false, ap, sym, subst, ◌∙◌, length, get_or}
use Rattle.std.specs.Prelude.{All, Some, slice_get}
use Rattle.std.proofs.lemmas.Option.{slice_get_within, get_or_from_slice_get}
use Rattle.gq_grid.specs.Grid.{Grid}
use Rattle.gq_session.specs.Fitting.{IsChange}
use Rattle.gq_cell.specs.declared.board.BoardEntry.{BoardEntry}
use Rattle.gq_cell.specs.Boards.{Posted}
use Rattle.gq_model.specs.declared.events.ServerLine.{ServerLine}
use Rattle.gq_session.specs.Changed.{change_line, picked, changes_of}
use Rattle.gq_session.proofs.Changing.{picked-skip, picked-take, changes_of-push}
use Rattle.gq_session.proofs.schedule.Schedule.change.Goals as goal

pub invariant_of-self-in-Ok : goal.invariant_of-self-in-Ok
invariant_of-self-in-Ok c =
    let old = c.args.self.now in
    let line : ServerLine = change_line c.args.change in
    let fits : All (IsChange c.change.new.self.grid) old.list.items = subst (λ (g : Grid). All (IsChange g) old.list.items) (sym (ap (λ (b : Posted). b.grid) c.in-Ok.ensures.changed)) old.fits in
    let e : BoardEntry = record { stamp = c.in-Ok.stamp; server = c.args.change.server; up = c.args.change.up } in
    let is : c.push_reserved.new.self.items ≡ old.done.items ++ true ∷ [] = search rules in
    let here : slice_get old.list.items (length old.done.items) ≡ Some line = c.requires.next in
    let low : length old.done.items < length old.list.items = slice_get_within old.list.items (length old.done.items) line here in
    let at : line ≡ get_or old.list.items (length old.done.items) line = sym (get_or_from_slice_get old.list.items (length old.done.items) line line here) in
    let more : c.change.new.self.entries ≡ old.board.entries ++ e ∷ [] = ap (λ (b : Posted). b.entries) c.in-Ok.ensures.changed in
    record {
      fits = fits;
      done_are = ap changes_of more
          ∙ (changes_of-push old.board.entries e
          ∙ (ap (λ cs. cs ++ line ∷ []) old.done_are ∙ sym (ap (λ bs. picked bs old.list.items) is ∙ picked-take old.done.items old.list.items line low at)));
    }

pub invariant_of-self-in-Err-Same : goal.invariant_of-self-in-Err-Same
invariant_of-self-in-Err-Same c =
    let old = c.args.self.now in
    let is : c.push_reserved-in-Err-Same.new.self.items ≡ old.done.items ++ false ∷ [] = search rules in
    let fits : All (IsChange c.change.new.self.grid) old.list.items = subst (λ (g : Grid). All (IsChange g) old.list.items) (sym (ap (λ (b : Posted). b.grid) c.in-Err-Same.ensures.same)) old.fits in
    let same : c.change.new.self.entries ≡ old.board.entries = ap (λ (b : Posted). b.entries) c.in-Err-Same.ensures.same in
    record { fits = fits; done_are = ap changes_of same ∙ (old.done_are ∙ sym (ap (λ bs. picked bs old.list.items) is ∙ picked-skip old.done.items old.list.items)) }
