-- What a contract sees of a node's machine: its node's tables go on as `gq_parts` says.
use Rattle.std.specs.Prelude.{◌≡◌, List, ℕ, ◌*◌, Bool, true, not, ◌&&◌, ◌==◌, nat_lt, Option, None, slice_index_or}
use Rattle.std.specs.List.{list_all}
use Rattle.gq_keeper.specs.Plans.{are_facts}
use Rattle.gq_keeper.specs.Starting.{RecallsAll}
use Rattle.gq_replace.specs.Plans.{place_of, node_at}
use Rattle.gq_node.specs.Sites.{plan_in}
use Rattle.gq_node.specs.Tables.{Tables}
use Rattle.gq_parts.specs.Recalls.{RecallsTo, reads_line}
use Rattle.gq_parts.specs.Resting.{IsBlank, HasFirst, Rests}
use Rattle.gq_setup.specs.Texts.{first_of_lines}
use Rattle.gq_parts.specs.Steps.{StepsTo}
use Rattle.gq_parts.proofs.Reading.{on_tables, gives_facts as tables_give_facts}
use Rattle.gq_parts.proofs.Readable.{reads_on as tables_read_on, reads_again as tables_read_again, gives_readable as tables_give_readable}
use Rattle.gq_parts.proofs.Resting.{keeps_blank as tables_keep_blank, keeps_volumes as tables_keep_volumes, recalls_volumes as tables_recall_volumes, keeps_rest as tables_keep_rest, starts_again as tables_start_again}
use Rattle.gq_machine.specs.declared.machine.NodeMachine.{NodeMachine}

-- its node's tables
abbrev pub tables_of : NodeMachine → Tables
tables_of m = m.node.tables

-- whether the node's plan has the node of that number, and it is another
abbrev pub is_other : Tables → (node : ℕ) → Bool
is_other w node = nat_lt (place_of node) (w.plan.grid.rows * w.plan.grid.cols) && node_at (plan_in w.here.lost) (place_of node) == node && not (node == w.here.node)

-- the form of lines that the node at the place told last, if it told one
abbrev pub form_at : NodeMachine → (place : ℕ) → Option ℕ
form_at m place = slice_index_or m.forms place None

-- its step on a line, and what a line of an earlier run does to it
abbrev pub MachineSteps : NodeMachine → List ℕ → List (List ℕ) → List ℕ → NodeMachine → Type 0
MachineSteps old line facts told new = StepsTo (tables_of old) line facts told (tables_of new)

abbrev pub MachineRecalls : NodeMachine → List ℕ → NodeMachine → Type 0
MachineRecalls old line new = RecallsTo (tables_of old) line (tables_of new)

-- whether it reads the line
abbrev pub machine_reads : NodeMachine → List ℕ → Bool
machine_reads m line = reads_line (tables_of m) line

-- the other is that of the same node, never started, which was begun with the plan of these lines if it is a new one
abbrev pub MachineIsBlank : List (List ℕ) → NodeMachine → NodeMachine → Type 0
MachineIsBlank plan machine blank = IsBlank (first_of_lines plan) (tables_of machine) (tables_of blank)

-- its node has the volumes and the losses of the plan of these lines
abbrev pub MachineIsOf : List (List ℕ) → NodeMachine → Type 0
MachineIsOf plan machine = HasFirst (first_of_lines plan) (tables_of machine)

-- the other is that of the same node, at rest
abbrev pub MachineRests : NodeMachine → NodeMachine → Type 0
MachineRests machine again = Rests (tables_of machine) (tables_of again)

-- ---- what a machine that lasts owes

pub reads : (lines : List (List ℕ)) (a b : NodeMachine) → RecallsAll MachineRecalls a lines b → RecallsAll RecallsTo (tables_of a) lines (tables_of b)
reads lines a b r = on_tables tables_of MachineRecalls (λ x y line recalled. recalled) lines a b r

pub gives_facts : (old : NodeMachine) (line : List ℕ) (facts : List (List ℕ)) (told : List ℕ) (new : NodeMachine) → MachineSteps old line facts told new → are_facts facts ≡ true
gives_facts old line facts told new step = tables_give_facts (tables_of old) line facts told (tables_of new) step

pub gives_readable : (plan : List (List ℕ)) (old : NodeMachine) (line : List ℕ) (facts : List (List ℕ)) (told : List ℕ) (new other : NodeMachine) → MachineSteps old line facts told new → MachineIsBlank plan old other →
    list_all (machine_reads other) facts ≡ true
gives_readable plan old line facts told new other step blank = tables_give_readable (first_of_lines plan) (tables_of old) line facts told (tables_of new) (tables_of other) step blank

pub reads_again : (plan : List (List ℕ)) (first last new : NodeMachine) (lines : List (List ℕ)) → MachineIsBlank plan first first → RecallsAll MachineRecalls first lines last → MachineIsBlank plan last new → list_all (machine_reads new) lines ≡ true
reads_again plan first last new lines blank to_last other = tables_read_again (first_of_lines plan) (tables_of first) (tables_of last) (tables_of new) lines (reads lines first last to_last) other

pub keeps_blank : (plan : List (List ℕ)) (old : NodeMachine) (line : List ℕ) (facts : List (List ℕ)) (told : List ℕ) (new other : NodeMachine) → MachineSteps old line facts told new → MachineIsBlank plan new other → MachineIsBlank plan old other
keeps_blank plan old line facts told new other step blank = tables_keep_blank (first_of_lines plan) (tables_of old) line facts told (tables_of new) (tables_of other) step blank

pub keeps_plan : (plan : List (List ℕ)) (old : NodeMachine) (line : List ℕ) (facts : List (List ℕ)) (told : List ℕ) (new : NodeMachine) → MachineSteps old line facts told new → MachineIsOf plan old → MachineIsOf plan new
keeps_plan plan old line facts told new step is = tables_keep_volumes (first_of_lines plan) (tables_of old) line facts told (tables_of new) step is

pub recalls_plan : (plan : List (List ℕ)) (old : NodeMachine) (line : List ℕ) (new : NodeMachine) → MachineRecalls old line new → MachineIsOf plan old → MachineIsOf plan new
recalls_plan plan old line new recalled is = tables_recall_volumes (first_of_lines plan) (tables_of old) line (tables_of new) recalled is

pub keeps_rest : (old : NodeMachine) (line : List ℕ) (facts : List (List ℕ)) (told : List ℕ) (new before after : NodeMachine) → MachineSteps old line facts told new → MachineRests old before →
    RecallsAll MachineRecalls before facts after → MachineRests new after
keeps_rest old line facts told new before after step rests r =
    tables_keep_rest (tables_of old) line facts told (tables_of new) (tables_of before) (tables_of after) step rests (reads facts before after r)

pub starts_again : (plan : List (List ℕ)) (first last new again : NodeMachine) (lines : List (List ℕ)) → MachineIsBlank plan first first → RecallsAll MachineRecalls first lines last → MachineIsBlank plan last new →
    RecallsAll MachineRecalls new lines again → MachineRests last again
starts_again plan first last new again lines blank to_last other to_again =
    tables_start_again (first_of_lines plan) (tables_of first) (tables_of last) (tables_of new) (tables_of again) lines blank (reads lines first last to_last) other (reads lines new again to_again)

pub reads_on : (old : NodeMachine) (line : List ℕ) (new : NodeMachine) (other : List ℕ) → MachineRecalls old line new → machine_reads new other ≡ machine_reads old other
reads_on old line new other recalled = tables_read_on (tables_of old) line (tables_of new) other recalled
