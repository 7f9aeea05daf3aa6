use Rattle.try_calls.proofs.cells.on_a_cell.Given as goal

abbrev pub ghosts-on_a_new_cell : goal.ghosts-on_a_new_cell
ghosts-on_a_new_cell a = record { name = a.blank.name; parts = a.blank.parts }
