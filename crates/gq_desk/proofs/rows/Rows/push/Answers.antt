-- The numbers go on with the rows.
use Rattle.std.proofs.Common.{◌≡◌, ◌∙◌, ap, refl, true, false}
use Rattle.std.specs.Prelude.{nat_eq}
use Rattle.std.specs.List.{list_any}
use Rattle.indexmap.specs.IndexSet.{insert_key, keys}
use Rattle.std.proofs.lemmas.List.Folds.{list_all-append}
use Rattle.gq_desk.specs.Plans.{is_of, is_named}
use Rattle.gq_desk.proofs.NamesOfRows.{with_row}
use Rattle.gq_desk.proofs.rows.Rows.push.Goals as goal

pub invariant_of-self-2 : goal.invariant_of-self-2
invariant_of-self-2 c =
    let fresh : list_any (is_of c.args.row.name) c.self.inside.rows.items ≡ false = rw c.self.view_is c.requires in
    let named : is_named c.args.row ≡ true = c.number.ensures.name in
    rw (c.push_reserved.ensures.items, c.make_room.ensures.items) (
      c.in_ok-grow.ensures.keys ∙ ap (insert_key nat_eq (keys c.self.inside.numbers)) c.number.ensures.number
          ∙ with_row (keys c.self.inside.numbers) c.self.inside.rows.items c.args.row c.self.invariant.0 c.self.invariant.1 named fresh,
      rw (list_all-append, c.self.invariant.1, named) refl,
    )
