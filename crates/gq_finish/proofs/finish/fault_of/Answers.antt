use Rattle.std.proofs.Common.{true, false, rules}
use Rattle.gq_finish.proofs.Finishing.{column_told, row_told}
use Rattle.gq_finish.proofs.finish.fault_of.Goals as goal

pub returns-in-true-true : goal.returns-in-true-true
returns-in-true-true c = λ plan events t k same is stop. (row_told plan events c.args.grid.now c.args.up c.has_row.result true same is c.has_row.ensures (search rules), column_told plan events c.args.grid.now c.args.up c.has_column.result true same is c.has_column.ensures (search rules))

pub returns-in-true-false : goal.returns-in-true-false
returns-in-true-false c = λ plan events t k same is stop. (row_told plan events c.args.grid.now c.args.up c.has_row.result true same is c.has_row.ensures (search rules), column_told plan events c.args.grid.now c.args.up c.has_column.result false same is c.has_column.ensures (search rules))

pub returns-in-false-true : goal.returns-in-false-true
returns-in-false-true c = λ plan events t k same is stop. (row_told plan events c.args.grid.now c.args.up c.has_row.result false same is c.has_row.ensures (search rules), column_told plan events c.args.grid.now c.args.up c.has_column.result true same is c.has_column.ensures (search rules))

pub returns-in-false-false : goal.returns-in-false-false
returns-in-false-false c = λ plan events t k same is stop. (row_told plan events c.args.grid.now c.args.up c.has_row.result false same is c.has_row.ensures (search rules), column_told plan events c.args.grid.now c.args.up c.has_column.result false same is c.has_column.ensures (search rules))
