-- Ticks lead a session on.
use Rattle.gq_node.proofs.Progress.{all_rows_are_tried, all_columns_are_tried}
use Rattle.gq_node.proofs.laws.ticks.Goals as goal

pub returns : goal.returns
returns c = record { rows = all_rows_are_tried; columns = all_columns_are_tried }
