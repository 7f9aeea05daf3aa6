-- Each operation can be completed: whatever happened before, where quorums are up, it is done by one retry of its session and
-- deliveries of messages that are sent from then on. It waits for no other session, no other tenant, no server that is
-- down, and no message of the past. (Obstruction-freedom: Herlihy, Luchangco and Moir, Obstruction-free synchronization,
-- ICDCS 2003. That a round ends once a quorum has answered: Attiya, Bar-Noy and Dolev, Sharing memory robustly in
-- message-passing systems, JACM 42(1), 1995.)
use Rattle.std.specs.Prelude.{◌≡◌, ◌≢◌, ℕ, ◌+◌, ◌-◌, ◌*◌, ◌≤◌, List, [], ◌∷◌, ◌++◌, Bool, true, false, Some, None, All, length, map, max, fold}
use Rattle.gq_grid.specs.Grid.{Grid, Servers}
use Rattle.gq_tag.specs.Tag.{File}
use Rattle.gq_desk.specs.CheckedPlan.{CheckedPlan, row_at}
use Rattle.gq_desk.specs.declared.plans.TenantRow.{TenantRow}
use Rattle.gq_phase.specs.declared.Outcome.{Outcome}
use Rattle.gq_phase.specs.declared.Outcome.TheVariants.{Wrote, Gave, Listed}
use Rattle.gq_phase.specs.Phase.{Task, Writing, Reading, Listing, Operation, is_collect}
use Rattle.gq_phase.specs.Quorums.{collect_quorum, store_quorum}
use Rattle.gq_model.specs.declared.events.Event.{Event}
use Rattle.gq_model.specs.declared.events.Event.TheVariants.{Tenant}
use Rattle.gq_model.specs.declared.events.Line.{Line}
use Rattle.gq_model.specs.declared.events.Line.TheVariants.{Deliver, Retry, Abandon}
use Rattle.gq_model.specs.declared.events.Refusal.TheVariants.{Busy}
use Rattle.gq_model.specs.Told.{Told, Done, Abandoned, Refused}
use Rattle.gq_model.specs.Trace.{Turn, Own, State, Past, questions, operation, task_of}
use Rattle.gq_model.specs.Lone.{is_refusal, after, said, past_of, told_from, first_operation}
use Rattle.gq_model.specs.Events.{own, past_at, IsRequestOf}
use Rattle.gq_laws.specs.Tenants.{answers_from}

-- ---- how far an operation has to go

-- how many files the task is about
abbrev pub task_files : Task → ℕ
task_files (Writing file bytes) = 1
task_files (Reading file) = 1
task_files (Listing volume files) = files

-- how many of them are not collected yet
abbrev pub files_left : Operation → ℕ
files_left o = task_files o.task - length o.collected

-- how many rounds it takes at most until the operation is done, the present one included: two for each file that is left, and
-- the store round where the last file collected is in it
abbrev pub rounds_left : Operation → ℕ
rounds_left o = by (is_collect o.round)
  where
    by : Bool → ℕ
    by true = 2 * max 1 (files_left o)
    by false = 2 * files_left o + 1

-- how many deliveries: in each round, for each server of the grid, one to it and one back
abbrev pub deliveries_left : Grid → Operation → ℕ
deliveries_left grid o = rounds_left o * (2 * (grid.rows * grid.cols))

-- ---- how it goes there

-- the outcome is this operation's
abbrev pub IsOutcomeOf : Operation → Outcome → Type 0
IsOutcomeOf o outcome = by o.task outcome
  where
    by : Task → Outcome → Type 0
    by (Writing file bytes) (Wrote session op tag) = (session ≡ o.session) × (op ≡ o.op)
    by (Reading file) (Gave session op copy) = (session ≡ o.session) × (op ≡ o.op)
    by (Listing volume files) (Listed session op rows) = (session ≡ o.session) × (op ≡ o.op)
    by _ _ = ⊥

-- from a past on the operation comes to its end by this line of the tenant, and by deliveries
pub record Completes (grid : Grid) (row : TenantRow) (past : Past) (o : Operation) (line : Line) : Type 0 where
  -- of the messages of these numbers, which are few, and none of which was sent before the line
  pub numbers : List ℕ
  pub few : length numbers ≤ deliveries_left grid o
  pub own : All (λ number. length (questions past.trace).sent ≤ number) numbers
  -- the last of them is told that the operation is done
  pub before : List Told
  pub outcome : Outcome
  pub told : told_from grid row past (map Own (line ∷ map Deliver numbers)) ≡ before ++ Done outcome ∷ []
  pub its : IsOutcomeOf o outcome
  -- and none is refused
  pub accepted : All (λ word. is_refusal word ≡ false) before
  -- the session may then ask again
  pub idle : operation (questions (fold (after grid row) past (map Own (line ∷ map Deliver numbers))).trace) o.session ≡ None

-- ---- the law

-- the servers that are up have a quorum for collect rounds, and one for store rounds
pub record QuorumsUp (grid : Grid) (up : Servers) : Type 0 where
  pub collecting : Servers
  pub storing : Servers
  pub collect_up : collect_quorum grid up ≡ Some collecting
  pub store_up : store_quorum grid up ≡ Some storing

-- each server that is up has every file: none is up that lost its copies and was not given others
abbrev pub HaveFiles : State → Type 0
HaveFiles state = (server : ℕ) (file : File) → state.up server ≡ true → state.lacks server file ≡ false

-- what the questions say after the turns
abbrev pub state_after : Grid → TenantRow → List Turn → State
state_after grid row turns = questions (past_of grid row turns).trace

-- so many steps of the tenant are left after the turns
abbrev pub StepsLeft : Grid → TenantRow → List Turn → ℕ → Type 0
StepsLeft grid row turns steps = (past_of grid row turns).lines + steps ≤ row.steps

-- whatever the turns, each operation is completed by a retry and deliveries, where quorums are up, all that are up have all files, and
-- steps are left
abbrev pub AllOperationsComplete : Type 0
AllOperationsComplete = (grid : Grid) (row : TenantRow) (turns : List Turn) (k : ℕ) (o : Operation) →
    operation (state_after grid row turns) k ≡ Some o → QuorumsUp grid (state_after grid row turns).up → HaveFiles (state_after grid row turns) → StepsLeft grid row turns (1 + deliveries_left grid o) →
    Completes grid row (past_of grid row turns) o (Retry k)

-- in the run of all tenants, the lines of tenant t by which its operation is completed are told the same
pub record TenantCompletes (plan : CheckedPlan) (events : List Event) (t : ℕ) (o : Operation) (line : Line) : Type 0 where
  pub alone : Completes plan.grid (row_at plan t) (past_at plan t events) o line
  pub told : answers_from plan events (map (Tenant t) (line ∷ map Deliver alone.numbers)) ≡ alone.before ++ Done alone.outcome ∷ []

-- whatever the events of all tenants, each operation of each tenant is completed so
abbrev pub AllTenantsComplete : Type 0
AllTenantsComplete = (plan : CheckedPlan) (events : List Event) (t k : ℕ) (o : Operation) →
    operation (state_after plan.grid (row_at plan t) (own t events)) k ≡ Some o → QuorumsUp plan.grid (state_after plan.grid (row_at plan t) (own t events)).up →
    StepsLeft plan.grid (row_at plan t) (own t events) (1 + deliveries_left plan.grid o) → TenantCompletes plan events t o (Retry k)

-- ---- requests, and what is abandoned

-- whatever the turns, a request that is accepted is completed by deliveries alone
abbrev pub AllRequestsComplete : Type 0
AllRequestsComplete = (grid : Grid) (row : TenantRow) (turns : List Turn) (k : ℕ) (line : Line) (task : Task) →
    IsRequestOf k line → task_of (state_after grid row turns).volumes line ≡ Some task → is_refusal (said grid row (past_of grid row turns) (Own line)) ≡ false →
    QuorumsUp grid (state_after grid row turns).up → HaveFiles (state_after grid row turns) → StepsLeft grid row turns (1 + deliveries_left grid (first_operation (state_after grid row turns) k task)) →
    Completes grid row (past_of grid row turns) (first_operation (state_after grid row turns) k task) line

-- session k abandons its operation, whatever is up, and may ask again
pub record Frees (grid : Grid) (row : TenantRow) (past : Past) (k : ℕ) : Type 0 where
  pub told : said grid row past (Own (Abandon k)) ≡ Abandoned
  pub idle : operation (questions (after grid row past (Own (Abandon k))).trace) k ≡ None
  pub free : (line : Line) → IsRequestOf k line → said grid row (after grid row past (Own (Abandon k))) (Own line) ≢ Refused Busy

-- whatever the turns, no session is held up by an operation of its past
abbrev pub AllMayAbandon : Type 0
AllMayAbandon = (grid : Grid) (row : TenantRow) (turns : List Turn) (k : ℕ) (o : Operation) →
    operation (state_after grid row turns) k ≡ Some o → StepsLeft grid row turns 1 → Frees grid row (past_of grid row turns) k
