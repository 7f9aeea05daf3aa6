-- The trace of a past is a run.
use Rattle.std.proofs.Common.{◌≡◌, Bool, true, false, List, [], ◌∷◌, refl}
use Rattle.std.specs.Prelude.{fold, min}
use Rattle.gq_grid.specs.Grid.{Grid}
use Rattle.gq_desk.specs.declared.plans.TenantRow.{TenantRow}
use Rattle.gq_model.specs.Trace.{Turn, Past, start}
use Rattle.gq_model.specs.Lone.{after, past_of, is_refusal, step_at}
use Rattle.gq_laws.proofs.Runs.{IsRun}

-- one more turn
pub after_run : (grid : Grid) (row : TenantRow) (past : Past) (turn : Turn) → IsRun grid row past.trace → IsRun grid row (after grid row past turn).trace
after_run grid row past turn run = go (is_refusal (step_at grid row past turn).told) refl
  where
    go : (refused : Bool) → is_refusal (step_at grid row past turn).told ≡ refused → IsRun grid row (after grid row past turn).trace
    go true e = rw e run
    go false e = rw e (run, record { lines = min row.steps past.lines; message = refl; told = refl; new = refl; accepted = e })

pub run_from : (grid : Grid) (row : TenantRow) (turns : List Turn) (past : Past) → IsRun grid row past.trace → IsRun grid row (fold (after grid row) past turns).trace
run_from grid row [] past run = run
run_from grid row (turn ∷ turns) past run = run_from grid row turns (after grid row past turn) (after_run grid row past turn run)

pub past_run : (grid : Grid) (row : TenantRow) (turns : List Turn) → IsRun grid row (past_of grid row turns).trace
past_run grid row turns = run_from grid row turns start tt
