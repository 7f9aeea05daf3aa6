-- What a node's server has of a volume, as its tenant is told.
use Rattle.std.specs.Prelude.{ℕ, length, map, nat_lt, Option, Some, None, if◌then◌else◌}
use Rattle.gq_tag.specs.Tag.{File}
use Rattle.gq_phase.specs.declared.Row.{Row}
use Rattle.gq_phase.specs.Phase.{listed_row}
use Rattle.gq_model.specs.Trace.{files_of}
use Rattle.gq_cluster.specs.Cluster.{copy_in}
use Rattle.gq_node.specs.declared.output.Answer.{Answer}
use Rattle.gq_node.specs.declared.output.Answer.TheVariants.{Looked, NotLooked}
use Rattle.gq_node.specs.declared.output.Look.{Look}
use Rattle.gq_node.specs.Joining.{files_in_volume}
use Rattle.gq_node.specs.Local.{Local, Doing, part_in, tells}
use Rattle.gq_node.specs.Sites.{Site}

-- the length and the tag of its copy of the file, unless it lacks the file
abbrev pub held_row : Local → File → Option Row
held_row local file = if local.lacks file then None else Some (listed_row (copy_in (part_in local) file))

-- of each file of the volume, with how many losses the node's plan tells of
abbrev pub look_of : (mark volume : ℕ) → Site → Local → Look
look_of mark volume site local = record {
  mark = mark;
  volume = volume;
  losses = site.losses;
  rows = map (held_row local) (files_in_volume volume (files_of local.volumes volume));
}

abbrev pub look_answer : (mark volume : ℕ) → Site → Local → Answer
look_answer mark volume site local = if nat_lt volume (length local.volumes) then Looked (look_of mark volume site local) else NotLooked mark volume

-- the tenant asks: it is told, and nothing else is done
abbrev pub tells_look : (mark volume : ℕ) → Site → Local → Doing
tells_look mark volume site local = tells local (look_answer mark volume site local)
