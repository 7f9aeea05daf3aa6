-- A worked case, computed: a node is lost, then the node in its place is lost too, and sessions of both new nodes write.
use Rattle.std.specs.Prelude.{◌≡◌, ℕ, zero, suc, ◌<◌, List, [], ◌∷◌, ◌==◌, true, if◌then◌else◌}
use Rattle.gq_grid.specs.Grid.{Grid, Servers}
use Rattle.gq_tag.specs.declared.StoredCopy.{StoredCopy}
use Rattle.gq_tag.specs.declared.Body.{Body}
use Rattle.gq_tag.specs.declared.Body.TheVariants.{Ask, Copy, Store}
use Rattle.gq_tag.specs.Tag.{File, OwnMessage, first_copy}
use Rattle.gq_desk.specs.declared.plans.TenantRow.{TenantRow}
use Rattle.gq_desk.specs.declared.volumes.VolumeRow.{VolumeRow}
use Rattle.gq_model.specs.declared.events.Line.TheVariants.{Write}
use Rattle.gq_cluster.specs.Cluster.{Asks, Comes, everyone}
use Rattle.gq_replace.specs.Plans.{Plan, IsChain, generation, is_replaced}
use Rattle.gq_replace.specs.Fleet.{World, Fleet, FleetStep, Begins, StartsAgain, Does, new_fleet, fleet_after, first_number, AllMayHappen}
use Rattle.gq_replace.specs.Laws.{world_of}
use Rattle.gq_numbers.specs.Numbers.{AllAsked, Stores}

-- two servers in one column. Session 1 has its home at node 0, session 2 at node 1, session 3 at node 64, which replaces node 0, and session 4 at
-- node 128, which replaces node 64
abbrev pub column : Grid
column = record { rows = 2; cols = 1 }

abbrev pub row : TenantRow
row = record { name = 97 ∷ []; share = 4; sessions = 4; steps = 1000; most_blocks = 16; most_volumes = 64 }

abbrev pub home : ℕ → ℕ
home k = if k == 4 then 128 else if k == 3 then 64 else if k == 2 then 1 else 0

abbrev pub opens : List VolumeRow
opens = record { files = 1; blocks = 1 } ∷ []

abbrev pub plans : ℕ → Plan
plans zero = record { lost = []; volumes = 1 }
plans (suc zero) = record { lost = 0 ∷ []; volumes = 1 }
plans (suc (suc j)) = record { lost = 0 ∷ 0 ∷ []; volumes = 1 }

abbrev pub twice : World
twice = world_of column row home opens plans

abbrev pub file : File
file = record { volume = 0; place = 0 }

-- the copies that sessions 3 and 4 write
abbrev pub written : StoredCopy
written = record { tag = record { number = 1099511627777; session = 3 }; bytes = 104 ∷ [] }

abbrev pub rewritten : StoredCopy
rewritten = record { tag = record { number = 2199023255553; session = 4 }; bytes = 105 ∷ [] }

-- a letter of the session's first operation, to server 1 or from it
abbrev pub letter : (session round : ℕ) → Body → OwnMessage
letter session round body = record { session = session; op = 1; round = round; server = 1; file = file; body = body }

-- for whoever asks, the first server is down
abbrev pub but_the_first : Servers
but_the_first server = server == 1

abbrev pub steps_worked : List FleetStep
steps_worked =
    Begins 0 0
    ∷ Begins 1 0
    -- node 0 is lost. Session 3 of the node in its place writes, and node 1 keeps that
    ∷ StartsAgain 1 1
    ∷ Begins 64 1
    ∷ Does 64 (Asks (Write 3 0 0 written.bytes) but_the_first)
    ∷ Does 1 (Comes (letter 3 1 Ask) everyone)
    ∷ Does 64 (Comes (letter 3 1 (Copy first_copy)) everyone)
    ∷ Does 1 (Comes (letter 3 2 (Store written)) everyone)
    -- that node is lost. Session 4 of the next one begins to write, and node 1 tells it the copy
    ∷ StartsAgain 1 2
    ∷ Begins 128 2
    ∷ Does 128 (Asks (Write 4 0 0 rewritten.bytes) but_the_first)
    ∷ Does 1 (Comes (letter 4 1 Ask) everyone)
    ∷ []

abbrev pub fleet_worked : Fleet
fleet_worked = fleet_after twice steps_worked

-- all that the law asks is so, and it speaks of both lost nodes, and of a write
pub record IsWorked : Type 0 where
  pub chain : IsChain twice.plans
  pub may : AllMayHappen twice new_fleet steps_worked
  pub asked : AllAsked twice new_fleet steps_worked
  pub begun : fleet_worked.begun 128 ≡ true
  pub is_new : 0 < generation 128
  pub first_lost : is_replaced (twice.plans (fleet_worked.first_plan 128)) 0 ≡ true
  pub then_lost : is_replaced (twice.plans (fleet_worked.first_plan 128)) 64 ≡ true
  pub number : first_number twice 128 (fleet_worked.first_plan 128) ≡ 2199023255552
  pub stores : Stores twice.setting (fleet_worked.part 128) (letter 4 1 (Copy written)) everyone rewritten.tag
