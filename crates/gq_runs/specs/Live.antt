-- What a live run of an input does, and what it keeps of the input.
use Rattle.std.specs.Prelude.{◌≡◌, ◌*◌, All, List, None, map, vec_len}
use Rattle.std.specs.List.{filter_map}
use Rattle.gq_desk.specs.CheckedPlan.{CheckedPlan}
use Rattle.gq_live.specs.Openings.{refused_volume}
use Rattle.gq_live.specs.Runs.{AllAsked, AllLawful}
use Rattle.gq_model.specs.declared.events.Event.{Event}
use Rattle.gq_session.specs.Attending.{GivesUpWhereStuck}
use Rattle.gq_session.specs.Changed.{IsSubsequence, changes_of}
use Rattle.gq_session.specs.Fitting.{plan_sessions}
use Rattle.gq_session.specs.declared.records.Programs.{Programs}
use Rattle.gq_session.specs.declared.records.Records.{Records}
use Rattle.gq_runs.specs.Programs.{server_line_in, opening_of, requests_for}

-- the events open the volumes that were asked, in order; each session's requests are those that were asked of it, in order;
-- and the server lines are some of those that were asked, in order
pub record KeepsInput (plan : CheckedPlan) (asked events : List Event) : Type 0 where
  pub opens : filter_map opening_of events ≡ filter_map opening_of asked
  pub requests : map (requests_for events) (plan_sessions plan) ≡ map (requests_for asked) (plan_sessions plan)
  pub changes : IsSubsequence (filter_map server_line_in events) (filter_map server_line_in asked)

-- what `live` promises of the records of each run of the programs: the volumes are those of the programs, none of which is
-- refused; there is a lawful journal for each server of the grid and a list for each session; each session asked its requests,
-- all, in order, and gave an operation up exactly where it waited for nothing; and the changes on the board are some of those of
-- the programs, in order. (It does not say that threads recorded this: that is no fact about records.)
pub record IsRecordOf (plan : CheckedPlan) (programs : Programs) (r : Records) : Type 0 where
  pub volumes : r.volumes.items ≡ programs.volumes.items
  pub cells : vec_len r.cells ≡ plan.grid.rows * plan.grid.cols
  pub lawful : AllLawful r.cells.items
  pub sessions : vec_len r.sessions ≡ vec_len programs.sessions
  pub asked : AllAsked programs.sessions.items r.sessions.items
  pub gave_up : All GivesUpWhereStuck r.sessions.items
  pub changes : IsSubsequence (changes_of r.board.items) programs.changes.items
  pub opens : refused_volume plan programs.volumes.items ≡ None
