-- What the text of a plan tells.
use Rattle.std.specs.Prelude.{◌≡◌, List}
use Rattle.std.specs.List.{flat_map}
use Rattle.std.proofs.Math.ListN.{replicate}
use Rattle.gq_desk.specs.declared.volumes.VolumeRow.{VolumeRow}
use Rattle.gq_plan.specs.declared.runs.Run.{Run}
use Rattle.gq_plan.specs.PlanWords.{runs_of}

abbrev pub volumes_in : Run → List VolumeRow
volumes_in run = replicate run.times (record { files = run.files; blocks = run.blocks })

-- the volumes of the runs are the volumes
abbrev pub RunsTellVolumes : Type 0
RunsTellVolumes = (volumes : List VolumeRow) → flat_map volumes_in (runs_of volumes) ≡ volumes
