-- One file more.
use Rattle.std.proofs.Common.{◌≡◌, ◌∙◌, ◌∷◌, [], ◌++◌, ℕ, List, Option, map, sym, ap}
use Rattle.std.specs.List.{range_with_len}
use Rattle.gq_phase.specs.declared.Row.{Row}
use Rattle.gq_node.specs.Tables.{Tables, row_at_server}
use Rattle.gq_node.proofs.Giving.{at_place}
use Rattle.gq_node.proofs.Held.{rows_more}
use Rattle.gq_node.proofs.tables.Core.held_rows.Goals as goal

pub loop-place-preserved : goal.loop-place-preserved
loop-place-preserved c =
    let w : Tables = c.args.self.now in
    let t : ℕ = c.args.tenant in
    let v : ℕ = c.args.volume in
    let n : ℕ = c.loop-place.place in
    let before : List (Option Row) = map (row_at_server w t) (map (at_place v) (range_with_len 0 n)) in
    c.in_ok-grow.ensures.items
    ∙ ap (λ (rows : List (Option Row)). rows ++ c.held_row.result ∷ []) c.loop-place.invariant
    ∙ ap (λ (row : Option Row). before ++ row ∷ []) c.held_row.ensures
    ∙ sym (rows_more (row_at_server w t) v n)
