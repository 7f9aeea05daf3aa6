-- The registers of a node that was never started.
use Rattle.std.proofs.Common.{ℕ, List}
use Rattle.gq_journal.specs.Batches.{Line, whole_lines, lines_text}
use Rattle.gq_machine.specs.declared.machine.NodeMachine.{NodeMachine}
use Rattle.gq_machine.specs.Machines.{tables_of, MachineIsBlank, MachineIsOf}
use Rattle.gq_parts.proofs.Resting.{new_is_blank as tables_are_blank}
use Rattle.gq_setup.specs.Laws.{here_of}
use Rattle.gq_node.specs.Resting.{FirstPlan}
use Rattle.gq_setup.specs.Setups.{Setup}
use Rattle.gq_setup.specs.Texts.{node_text, setup_of_node_text, first_read, first_of_lines}
use Rattle.gq_service.specs.Serving.{IsNewFor, IsOwnText, volumes_in}
use Rattle.gq_service.proofs.NewNodes.{own_volumes, is_of_plan}

pub new_is_blank : (setup : Setup) (number : ℕ) (lines : List Line) (m : NodeMachine) → IsNewFor setup number (first_read (setup_of_node_text (lines_text lines))) (tables_of m) → MachineIsBlank lines m m
new_is_blank setup number lines m new = tables_are_blank setup.plan (here_of number setup) (λ t. volumes_in t setup.openings) (first_of_lines lines) (tables_of m) new

pub new_is_of : (setup : Setup) (number : ℕ) (lost : ℕ → FirstPlan) (m : NodeMachine) → IsOwnText setup number → IsNewFor setup number lost (tables_of m) → MachineIsOf (whole_lines (node_text number setup)) m
new_is_of setup number lost m own new = is_of_plan (whole_lines (node_text number setup)) setup (tables_of m) own.volumes (own_volumes setup number lost (tables_of m) new)
