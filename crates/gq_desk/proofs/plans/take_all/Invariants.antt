-- The rows so far are held and have no fault.
use Rattle.std.proofs.Common.{◌≡◌, ◌≤◌, take, drop, length, [], true}
use Rattle.std.specs.List.{list_all}
use Rattle.gq_desk.specs.declared.limits.TheConstants.{MOST_TENANTS}
use Rattle.gq_desk.specs.Plans.{rows_fault, is_named}
use Rattle.gq_desk.proofs.plans.take_all.Given as goal

abbrev pub invariant-loop-row : goal.invariant-loop-row
invariant-loop-row l = record {
  held : l.held ≡ take l.row-index l.rows;
  sound : rows_fault (take l.row-index l.rows) (drop l.row-index l.rows) ≡ rows_fault [] l.rows;
  few : length l.held ≤ MOST_TENANTS;
  named : list_all is_named l.held ≡ true;
}
