-- What a node's process writes, by the journal that it found and the lines that came.
use Rattle.std.specs.Prelude.{◌≡◌, ◌⊎◌, ◌*◌, ◌<◌, ℕ, ◌==◌, List, [], ◌∷◌, length, Bool, true, false, Ok, Err, Option, Some, None, IfSome, if◌then◌else◌}
use Rattle.std.specs.List.{list_all}
use Rattle.gq_desk.specs.declared.volumes.VolumeRow.{VolumeRow}
use Rattle.gq_journal.specs.Batches.{Line, whole_lines, lines_text, batches_of}
use Rattle.gq_journal.specs.Laws.{Begins}
use Rattle.gq_keeper.specs.Crashes.{Leaves}
use Rattle.gq_keeper.specs.Durable.{Durable}
use Rattle.gq_keeper.specs.Lines.{short_lines}
use Rattle.gq_keeper.specs.Plans.{IsPlan, begins_with_plan, last_plan, is_of}
use Rattle.gq_keeper.specs.Restarting.{ReadsAs, RestartsAsOne}
use Rattle.gq_keeper.specs.Starting.{RecallsAll, IsDamaged}
use Rattle.gq_desk.specs.CheckedPlan.{CheckedPlan}
use Rattle.gq_replace.specs.Plans.{place_of}
use Rattle.gq_node.specs.Local.{new_local}
use Rattle.gq_node.specs.Resting.{FirstPlan}
use Rattle.gq_node.specs.Sites.{Here}
use Rattle.gq_node.specs.Tables.{Tables, Agrees}
use Rattle.gq_chunks.specs.Longest.{longest_of}
use Rattle.gq_parts.specs.Resting.{IsNodeOf, IsNewNode}
use Rattle.gq_machine.specs.declared.machine.NodeMachine.{NodeMachine}
use Rattle.gq_machine.specs.Machines.{tables_of, MachineSteps, MachineRecalls, machine_reads, MachineIsBlank, MachineRests}
use Rattle.gq_setup.specs.declared.openings.Opening.{Opening}
use Rattle.gq_setup.specs.declared.going_on.NotKept.{NotKept}
use Rattle.gq_setup.specs.Setups.{Setup, SetupReading, has_node, volume_of}
use Rattle.gq_setup.specs.NotKept.{IsNotKept}
use Rattle.gq_setup.specs.Laws.{here_of}
use Rattle.gq_setup.specs.GoingOn.{goes_on_from_read}
use Rattle.gq_setup.specs.Texts.{node_text, setup_of_node_text, no_first, first_read, OpensFor}
use Rattle.gq_service.specs.Kinds.{Kind, kind}
use Rattle.gq_service.specs.Gone.{somebody_went, first_taken, facts_taken}
use Rattle.gq_service.specs.Forms.{form_of}
use Rattle.gq_service.specs.declared.fault.NodeFault.{NodeFault}
use Rattle.gq_service.specs.declared.fault.NodeFault.TheVariants.{NoServer, PlanText, Form, Damaged, Another, Strange}
use Rattle.gq_service.specs.declared.mismatch.Mismatch.{Mismatch}
use Rattle.gq_service.specs.declared.mismatch.Mismatch.TheVariants.{NoPlan, Node, Plan}

-- ---- a start

-- the volumes that are opened for the tenant at place t, in order
abbrev pub volumes_in : ℕ → List Opening → List VolumeRow
volumes_in t [] = []
volumes_in t (opening ∷ openings) = if opening.tenant == t then volume_of opening ∷ volumes_in t openings else volumes_in t openings

-- the node of this number was never started, has these volumes open, and lacks none of their files
pub record IsOpen (plan : CheckedPlan) (here : Here) (volumes : ℕ → List VolumeRow) (w : Tables) : Type 0 where
  pub node : IsNodeOf plan here w
  pub parts : (t : ℕ) → t < length plan.rows → Agrees w t (new_local plan.grid (place_of here.node) (volumes t))

-- The node of this number was never started, and has the volumes of the setup open. If it is a new one, it was begun with this first plan.
abbrev pub IsNewFor : Setup → (number : ℕ) → (lost : ℕ → FirstPlan) → Tables → Type 0
IsNewFor setup number lost w = IsNewNode setup.plan (here_of number setup) (λ t. volumes_in t setup.openings) lost w

-- what a new node takes from a setup for the tenant at place t, if one was read
abbrev pub first_of_read : Option Setup → (t : ℕ) → FirstPlan
first_of_read None t = no_first
first_of_read (Some setup) t = first_read (Ok setup) t

-- the plan with which its journal begins, as it takes it: that of the journal that is found, or its own where none is
abbrev pub begun_with : Setup → (journal : List ℕ) → SetupReading Setup
begun_with setup journal = if begins_with_plan (batches_of journal) then first_taken setup journal else Ok setup

-- what it takes from that
abbrev pub first_of_journal : Setup → (journal : List ℕ) → ℕ → FirstPlan
first_of_journal setup journal = first_read (begun_with setup journal)

-- what is known of the text of a node's plan: it may stand in a journal, and is read as the setup
pub record IsOwnText (setup : Setup) (number : ℕ) : Type 0 where
  pub is_plan : IsPlan (node_text number setup)
  pub back : setup_of_node_text (node_text number setup) ≡ Ok setup
  pub volumes : OpensFor (whole_lines (node_text number setup)) setup

-- a node that keeps registers alone
abbrev pub registers : Kind NodeMachine
registers = kind MachineSteps MachineRecalls machine_reads MachineIsBlank MachineRests (λ setup number read m. IsNewFor setup number (first_read read) (tables_of m))

-- the node started from this journal: one that was never started read its facts, but for those that name a tenant who went
pub record IsStarted {M : Type 0} (k : Kind M) (setup : Setup) (number : ℕ) (journal : List ℕ) (m : M) : Type 0 where
  pub new : M
  pub is_new : k.is_new setup number (begun_with setup journal) new
  pub reads : RecallsAll k.recalls new (facts_taken setup journal) m

-- the journal that is found: none, where it is to be begun
abbrev pub journal_found : (is_new : Bool) → List ℕ → List ℕ
journal_found true seen = []
journal_found false seen = seen

-- ---- what it writes

-- From this journal a node started, and its steps took these lines. What is shown after `base` is what they told; and a start from
-- what is synced reads the node that they left, the operations of its sessions gone, and these behind the numbers that are reserved
-- for them.
pub record Serves {M : Type 0} (k : Kind M) (setup : Setup) (number : ℕ) (journal : List ℕ) (lines : List Line) (base synced shown : List ℕ) : Type 0 where
  pub first : M
  pub last : M
  pub started : IsStarted k setup number journal first
  pub durable : Durable k.steps k.recalls k.readable k.blank k.rests first last (whole_lines (node_text number setup)) lines base synced shown

-- At any write: the same of the node of this number, by this plan and some journal, and of the lines of a beginning of the input, of which
-- this is known. Whatever was shown is told by steps whose facts are synced.
pub record IsDurable {M : Type 0} (k : Kind M) (setup : Setup) (number : ℕ) (input : Option (List ℕ)) (base synced shown : List ℕ) : Type 0 where
  pub journal : List ℕ
  pub taken : List ℕ
  pub begins : IfSome input (Begins taken)
  pub serves : Serves k setup number journal (short_lines (longest_of setup) taken) base synced shown

-- what comes of an input, of which this is known: all lines of it are taken
pub record ServesInput {M : Type 0} (k : Kind M) (setup : Setup) (number : ℕ) (journal : List ℕ) (input : Option (List ℕ)) (base synced shown : List ℕ) : Type 0 where
  pub bytes : List ℕ
  pub all : IfSome input (λ known. known ≡ bytes)
  pub serves : Serves k setup number journal (short_lines (longest_of setup) bytes) base synced shown

-- whether the journal is of the node of this number, and of a plan from which this setup goes on
abbrev pub is_its_journal : Setup → (number : ℕ) → List ℕ → Bool
is_its_journal setup number journal = is_of (λ last. goes_on_from_read (setup_of_node_text last) setup) (node_text number setup) (batches_of journal)

-- at the end of the input: the same, by some journal; where none was to be begun, by one that is its own
pub record ServesSomehow {M : Type 0} (k : Kind M) (setup : Setup) (number : ℕ) (is_new : Bool) (input : Option (List ℕ)) (base shown : List ℕ) : Type 0 where
  pub journal : List ℕ
  pub synced : List ℕ
  pub serves : ServesInput k setup number journal input base synced shown
  pub its : is_new ≡ false → is_its_journal setup number journal ≡ true

-- ---- what a crash leaves

-- a start from this reads the node of this number, at rest, to which steps led from the one that started from the journal
pub record RestartsFrom {M : Type 0} (k : Kind M) (setup : Setup) (number : ℕ) (journal left : List ℕ) : Type 0 where
  pub first : M
  pub started : IsStarted k setup number journal first
  pub restarts : RestartsAsOne k.steps k.recalls k.readable k.blank k.rests (whole_lines (node_text number setup)) first left

-- where tenants went, the journal that was found; else what a start reads as that
abbrev pub GoesOnAs : (went : Bool) → Setup → (number : ℕ) → (seen left : List ℕ) → Type 0
GoesOnAs true setup number seen left = left ≡ seen
GoesOnAs false setup number seen left = ReadsAs (whole_lines (node_text number setup)) seen left

-- At any time from a call on a crash leaves what it could leave before; or what a start reads as the journal that was found; or what it
-- reads as this node behind some steps. So where tenants went a start finds the journal as it was, or one that was written without them.
abbrev pub MayBeLeft : {M : Type 0} → Kind M → Setup → (number : ℕ) → (is_new : Bool) → (synced seen left : List ℕ) → Type 0
MayBeLeft k setup number is_new synced seen left =
    Leaves synced seen left ⊎ (((is_new ≡ false) × GoesOnAs (somebody_went setup seen) setup number seen left) ⊎ RestartsFrom k setup number (journal_found is_new seen) left)

-- ---- faults

-- where it is told that the grid has so many servers, its plan has no node of this number
abbrev pub TellsNoServer : Setup → (number : ℕ) → NodeFault → Type 0
TellsNoServer setup number (NoServer told) = (told ≡ setup.plan.grid.rows * setup.plan.grid.cols) × (has_node setup number ≡ false)
TellsNoServer setup number _ = Unit {0}

-- where damage is told, the journal is damaged at that place
abbrev pub TellsDamage : (journal : List ℕ) → NodeFault → Type 0
TellsDamage journal (Damaged at) = IsDamaged journal at
TellsDamage journal _ = Unit {0}

-- where a form is told, the journal says that it has it
abbrev pub TellsForm : (journal : List ℕ) → NodeFault → Type 0
TellsForm journal (Form form) = form_of journal ≡ Some form
TellsForm journal _ = Unit {0}

-- a line of the journal, of those that are taken, says no fact that fits in the node of this number, never started
pub record IsStrange {M : Type 0} (k : Kind M) (setup : Setup) (number : ℕ) (journal : List ℕ) : Type 0 where
  pub new : M
  pub is_new : k.is_new setup number (first_taken setup journal) new
  pub strange : list_all (k.readable new) (facts_taken setup journal) ≡ false

-- where it is told that the plan's text may not stand in a journal, it may not
abbrev pub TellsNoText : Setup → (number : ℕ) → NodeFault → Type 0
TellsNoText setup number PlanText = IsPlan (node_text number setup) → ⊥
TellsNoText setup number _ = Unit {0}

-- what is told of the last plan of a journal: it was so in the setup that its text tells, and this setup does not keep it
abbrev pub WasInPlan : Setup → SetupReading Setup → NotKept → Type 0
WasInPlan setup (Ok old) what = IsNotKept old setup what
WasInPlan setup (Err fault) what = ⊥

abbrev pub TellsMismatch : Setup → (last : List ℕ) → Mismatch → Type 0
TellsMismatch setup last (Plan what) = WasInPlan setup (setup_of_node_text last) what
TellsMismatch setup last (Node number) = Unit {0}
TellsMismatch setup last NoPlan = Unit {0}

-- where it is told that the journal is of another node or plan, it is, and what is told of its last plan is so; where it is told that one of
-- its lines is strange, one is
abbrev pub TellsAnother : {M : Type 0} → Kind M → Setup → (number : ℕ) → (journal : List ℕ) → NodeFault → Type 0
TellsAnother k setup number journal (Another why) = (is_its_journal setup number journal ≡ false) × TellsMismatch setup (lines_text (last_plan [] (batches_of journal))) why
TellsAnother k setup number journal Strange = IsStrange k setup number journal
TellsAnother k setup number journal _ = Unit {0}

-- none of these is told
abbrev pub TellsNoOther : NodeFault → Type 0
TellsNoOther (Another why) = ⊥
TellsNoOther Strange = ⊥
TellsNoOther _ = Unit {0}

-- these leave the journal as it was
abbrev pub LeavesJournal : (same : Type 0) → NodeFault → Type 0
LeavesJournal same (Form form) = same
LeavesJournal same (Damaged at) = same
LeavesJournal same (Another why) = same
LeavesJournal same Strange = same
LeavesJournal same _ = Unit {0}
