use Rattle.gq_tests.proofs.cell.records_what_a_cell_does.Given as goal

abbrev pub ghosts-cell_steps : goal.ghosts-cell_steps
ghosts-cell_steps g a = record { name = a.blank.name; parts = a.blank.parts }
