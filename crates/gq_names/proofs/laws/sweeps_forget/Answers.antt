use Rattle.gq_names.proofs.laws.sweeps_forget.Goals as goal
use Rattle.gq_names.proofs.Alone.{all_can_sweep}
use Rattle.gq_names.proofs.Clearing.{all_sweeps_clear}
use Rattle.gq_names.proofs.Sweeping.{all_sweeps_forget}

pub returns : goal.returns
returns c = record { forgets = all_sweeps_forget; can = all_can_sweep; clears = all_sweeps_clear }
