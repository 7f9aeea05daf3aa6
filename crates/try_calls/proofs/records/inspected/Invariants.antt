use Rattle.try_calls.proofs.records.inspected.Given as goal

abbrev pub ghosts-records : goal.ghosts-records
ghosts-records a = record { name = a.blank.name; parts = a.blank.parts }
