-- The operations on a file, read off what was done at the nodes alone, and that they are those of one register.
use Rattle.std.specs.Prelude.{ℕ, ◌+◌, List, [], ◌∷◌, nat_lt, Option, Some, None, if◌then◌else◌}
use Rattle.gq_grid.specs.Grid.{Grid}
use Rattle.gq_tag.specs.Tag.{File}
use Rattle.gq_desk.specs.declared.plans.TenantRow.{TenantRow}
use Rattle.gq_desk.specs.declared.volumes.VolumeRow.{VolumeRow}
use Rattle.gq_model.specs.declared.events.Line.TheVariants.{Deliver}
use Rattle.gq_model.specs.declared.said.Said.{Said}
use Rattle.gq_model.specs.declared.said.Said.TheVariants.{Began as SaidBegan, Stale as SaidStale, Noted as SaidNoted, Round as SaidRound, Done as SaidDone, Resent as SaidResent, Abandoned as SaidAbandoned, Refused as SaidRefused}
use Rattle.gq_model.specs.Told.{Told, Began, Stale, Noted, Round, Done, Resent, Abandoned, Refused}
use Rattle.gq_model.specs.Trace.{Turn, Own, files_of}
use Rattle.gq_laws.specs.declared.ops.Op.{Op}
use Rattle.gq_laws.specs.Operations.{SessionAnswer, begun_in, Legal}
use Rattle.gq_laws.specs.Orders.{order}
use Rattle.gq_cluster.specs.Cluster.{Setting, NodeStep, Arrival, LineCame, LetterCame, Exchange, session_named, new_cluster, CanFollow, exchanges}
use Rattle.gq_cluster.specs.Laws.{setting_of, StepsEnough}

-- what came, as a turn, and the session that it is about; a letter has no number, so it is read as the delivery of any
abbrev pub turn_in : Arrival → Turn
turn_in (LineCame line) = Own line
turn_in (LetterCame letter) = Own (Deliver 0)

abbrev pub session_in : Arrival → ℕ
session_in (LineCame line) = session_named line
session_in (LetterCame letter) = letter.session

-- what was said, as the model tells it where the first message sent is number 0; where nothing was said it is read as stale, which
-- begins and ends nothing
abbrev pub told_in : Option Said → Told
told_in (Some (SaidBegan op count)) = Began op 0 count
told_in (Some SaidStale) = Stale
told_in (Some SaidNoted) = Noted
told_in (Some (SaidRound round tag count)) = Round round tag 0 count
told_in (Some (SaidDone outcome)) = Done outcome
told_in (Some (SaidResent count)) = Resent 0 count
told_in (Some SaidAbandoned) = Abandoned
told_in (Some (SaidRefused refusal)) = Refused refusal
told_in None = Stale

-- exchanges, each with its session, the one of this number in the list at that place (a function, so that places need not lie side by side)
abbrev pub answers_at : (ℕ → ℕ) → List Exchange → List SessionAnswer
answers_at place [] = []
answers_at place (d ∷ done) = record { place = place 0; turn = turn_in d.came; told = told_in d.said; session = session_in d.came } ∷ answers_at (λ i. place (i + 1)) done

-- each at its place in the list
abbrev pub answers_of : List Exchange → List SessionAnswer
answers_of done = answers_at (λ i. i) done

-- the operations on the file in order of beginning, none where there is no such file
abbrev pub node_operations : List VolumeRow → List Exchange → File → List Op
node_operations volumes done file = if nat_lt file.place (files_of volumes file.volume) then begun_in file (answers_of done) else []

-- those of a run of nodes
abbrev pub operations_at : Setting → List NodeStep → File → List Op
operations_at s steps file = node_operations s.volumes (exchanges s new_cluster steps) file

-- whatever happens at the nodes, the operations on each file have an order in which a single register gives the same answers,
-- and in which none that ended before another began stands after it: the order by tag
abbrev pub AllClustersLegal : Type 0
AllClustersLegal = (grid : Grid) (row : TenantRow) (home : ℕ → ℕ) (opens : List VolumeRow) (steps : List NodeStep) →
    let s : Setting = setting_of grid row home opens in
    StepsEnough row opens steps → CanFollow s new_cluster steps → (file : File) → Legal (operations_at s steps file) (order (operations_at s steps file))
