use Rattle.std.proofs.Common.{◌∙◌}
use Rattle.gq_cell.proofs.cell.Cell.add_files.Goals as goal

pub invariant_of-self-2 : goal.invariant_of-self-2
invariant_of-self-2 g c =
    let is = c.self.invariant in
    record { lawful = is.lawful; copies = λ file. c.in_ok-add_files.ensures.copies file ∙ is.copies file; flag = is.flag; stamp = is.stamp; counted = is.counted; few = is.few }
