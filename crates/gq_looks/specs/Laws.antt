-- Looks are reads.
use Rattle.std.specs.Prelude.{◌≡◌, List, ◌++◌, map, nat_lt, true, Contains}
use Rattle.gq_grid.specs.Grid.{Grid}
use Rattle.gq_tag.specs.Tag.{File}
use Rattle.gq_desk.specs.declared.plans.TenantRow.{TenantRow}
use Rattle.gq_model.specs.Trace.{Turn, files_of}
use Rattle.gq_model.specs.Lone.{lone}
use Rattle.gq_laws.specs.declared.ops.Op.{Op}
use Rattle.gq_laws.specs.Operations.{answered, operations, opened_in, session_answers, Tagged, Legal}
use Rattle.gq_laws.specs.Laws.{answered_at}
use Rattle.gq_laws.specs.Orders.{order}
use Rattle.gq_looks.specs.Looks.{Look, IsLook, turn_place, look_op}

-- the run has the file
abbrev pub HasFile : Grid → TenantRow → List Turn → File → Type 0
HasFile grid row turns file = nat_lt file.place (files_of (opened_in (session_answers (answered turns (lone grid row turns)))) file.volume) ≡ true

-- the operations on the file in the tenant's run by itself, and behind them the looks
abbrev pub with_looks : Grid → TenantRow → List Turn → File → List Look → List Op
with_looks grid row turns file looks = operations (answered_at turn_place turns (lone grid row turns)) file ++ map look_op looks

-- each of them is a look at the file in that run
abbrev pub AreLooks : Grid → TenantRow → List Turn → File → List Look → Type 0
AreLooks grid row turns file looks = (look : Look) → Contains looks look → IsLook grid row turns file look

abbrev pub AllLooksTagged : Type 0
AllLooksTagged = (grid : Grid) (row : TenantRow) (turns : List Turn) (file : File) (looks : List Look) → HasFile grid row turns file → AreLooks grid row turns file looks → Tagged (with_looks grid row turns file looks)

-- so a single register gives the same answers, in an order that keeps precedence
abbrev pub AllLooksLegal : Type 0
AllLooksLegal = (grid : Grid) (row : TenantRow) (turns : List Turn) (file : File) (looks : List Look) → HasFile grid row turns file → AreLooks grid row turns file looks →
    Legal (with_looks grid row turns file looks) (order (with_looks grid row turns file looks))
