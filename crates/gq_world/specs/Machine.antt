-- One step, over what is known: how it goes on for each tenant, without the events before.
use Rattle.std.specs.Prelude.{◌≡◌, ◌≢◌, ℕ, ◌+◌, ◌<◌, Option, Some, None, nat_le, length, if◌then◌else◌}
use Rattle.gq_grid.specs.Grid.{Grid, Servers}
use Rattle.gq_desk.specs.CheckedPlan.{row_at}
use Rattle.gq_desk.specs.declared.plans.TenantRow.{TenantRow}
use Rattle.gq_model.specs.declared.events.Event.{Event}
use Rattle.gq_model.specs.declared.events.Event.TheVariants.{Tenant, Server, Stray}
use Rattle.gq_model.specs.declared.events.Line.{Line}
use Rattle.gq_model.specs.Told.{Told, StrayBad}
use Rattle.gq_model.specs.Trace.{Turn, Own, Serving, Leaping, Losing, Returning, State, Known, changed, up_by, gone_by}
use Rattle.gq_model.specs.Lone.{Step, entry_of, step, told, line_step, line_told, is_refusal, server_told}
use Rattle.gq_model.specs.Events.{turn_of}
use Rattle.gq_world.specs.Bounds.{IsBounded}
use Rattle.gq_world.specs.Tables.{Tables, Agrees, up_in, gone_in}

-- the steps that are taken after a turn
abbrev pub counted : TenantRow → ℕ → Turn → ℕ
counted row lines (Own line) = if nat_le row.steps lines then lines else lines + 1
counted row lines (Serving line) = lines
counted row lines (Leaping k op number) = lines
counted row lines (Losing s volumes) = lines
counted row lines (Returning s f peer copy) = lines

-- the answers to the questions after a turn at which this was told and sent
abbrev pub state_after_turn : State → Turn → Step → State
state_after_turn state turn step = if is_refusal step.told then state else changed (entry_of state turn step) state

-- what is known after a turn
abbrev pub next : Grid → TenantRow → Known → Turn → Known
next grid row known turn = record { lines = counted row known.lines turn; state = state_after_turn known.state turn (step grid row known turn) }

-- what is known after an event that the tenant may see
abbrev pub next_seen : Grid → TenantRow → Known → Option Turn → Known
next_seen grid row known None = known
next_seen grid row known (Some turn) = next grid row known turn

-- the servers that are up after an event, and those that are lost, where these were up before and these lost
abbrev pub up_after : Grid → Servers → Servers → Event → Servers
up_after grid up gone (Server line) = if is_refusal (server_told grid up gone line) then up else up_by (Serving line) up
up_after grid up gone (Tenant tenant line) = up
up_after grid up gone Stray = up

abbrev pub gone_after : Grid → Servers → Servers → Event → Servers
gone_after grid up gone (Server line) = if is_refusal (server_told grid up gone line) then gone else gone_by (Serving line) gone
gone_after grid up gone (Tenant tenant line) = gone
gone_after grid up gone Stray = gone

-- the event leads from the old tables to the new: whatever the tables had for a tenant that can be known of a run, they have after what the
-- tenant sees of it
pub record Advances (old : Tables) (event : Event) (new : Tables) : Type 0 where
  pub plan : new.plan ≡ old.plan
  pub tenants : (t : ℕ) → t < length old.plan.rows → (known : Known) (most : ℕ) → IsBounded old.plan.grid (row_at old.plan t) most known.state → Agrees old t known → Agrees new t (next_seen old.plan.grid (row_at old.plan t) known (turn_of t event))
  pub servers : up_in new.plan.grid new.up ≡ up_after old.plan.grid (up_in old.plan.grid old.up) (gone_in old.plan.grid old.kept) event
  pub gone : gone_in new.plan.grid new.kept ≡ gone_after old.plan.grid (up_in old.plan.grid old.up) (gone_in old.plan.grid old.kept) event

-- the answer is what is told to the event, whatever the tables have for its tenant
abbrev pub Tells : Tables → Event → Told → Type 0
Tells w (Tenant t line) answer = (known : Known) → Agrees w t known → answer ≡ told w.plan.grid (row_at w.plan t) known (Own line)
Tells w (Server line) answer = answer ≡ server_told w.plan.grid (up_in w.plan.grid w.up) (gone_in w.plan.grid w.kept) line
Tells w Stray answer = answer ≡ StrayBad

-- ---- a tenant's line whose step is taken

-- what is known after it
abbrev pub acted : Grid → TenantRow → Known → Line → Known
acted grid row known line = record { lines = known.lines; state = state_after_turn known.state (Own line) (line_step grid row known.state line) }

-- it leads from the old tables to the new: the tenant's part goes on, and the others' are unchanged
pub record Acts (old : Tables) (t : ℕ) (line : Line) (new : Tables) : Type 0 where
  pub plan : new.plan ≡ old.plan
  pub own : (known : Known) (most : ℕ) → IsBounded old.plan.grid (row_at old.plan t) most known.state → Agrees old t known → Agrees new t (acted old.plan.grid (row_at old.plan t) known line)
  pub others : (u : ℕ) → u ≢ t → (known : Known) → Agrees old u known → Agrees new u known
  pub servers : up_in new.plan.grid new.up ≡ up_in old.plan.grid old.up
  pub gone : gone_in new.plan.grid new.kept ≡ gone_in old.plan.grid old.kept

-- the answer is what is told to it
abbrev pub TellsLine : Tables → ℕ → Line → Told → Type 0
TellsLine w t line answer = (known : Known) → Agrees w t known → answer ≡ line_told w.plan.grid (row_at w.plan t) known.state line
