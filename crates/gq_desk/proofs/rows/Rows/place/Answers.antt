-- The number's place is the name's; a word without a number is no name, and so that of no row.
use Rattle.std.proofs.Common.{◌≡◌, ◌∙◌, None}
use Rattle.std.specs.List.{position_from}
use Rattle.gq_desk.specs.NameNumbers.{word_number}
use Rattle.gq_desk.specs.Plans.{is_of}
use Rattle.gq_desk.proofs.NamesOfRows.{place_of, no_place_of}
use Rattle.gq_desk.proofs.rows.Rows.place.Goals as goal

pub returns-in_err-word_number-clause-place : goal.returns-in_err-word_number-clause-place
returns-in_err-word_number-clause-place c =
    let none : position_from (is_of c.args.word.now) 0 c.args.self.now ≡ None =
    rw (← c.self.view_is) (no_place_of c.args.word.now 0 c.self.inside.rows.items c.in_err-word_number.ensures.none c.self.invariant.1) in
    cc

pub returns-clause-place : goal.returns-clause-place
returns-clause-place c =
    let number : c.in_ok-word_number.field-0 ≡ word_number c.args.word.now = c.in_ok-word_number.ensures.number in
    rw (← c.self.view_is)
    (c.get_index_of.ensures.index ∙ rw (number, c.self.invariant.0) (place_of c.args.word.now c.self.inside.rows.items c.in_ok-word_number.ensures.letters c.self.invariant.1))
