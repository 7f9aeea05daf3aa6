-- What a live run writes, and its faults.
use Rattle.std.specs.Prelude.{ℕ, ◌≡◌, ◌≢◌, ◌<◌, ◌≤◌, List, map, length, Option, Some, None}
use Rattle.std.specs.Io.KnownBytes.{Appends}
use Rattle.gq_desk.specs.CheckedPlan.{CheckedPlan, row_at}
use Rattle.gq_model.specs.declared.events.Event.{Event}
use Rattle.gq_session.specs.declared.records.Programs.{Programs}
use Rattle.gq_session.specs.declared.records.Records.{Records}
use Rattle.gq_session.specs.declared.records.LiveFault.TheVariants.{Memory as LiveMemory, Gate}
use Rattle.gq_inspect.specs.Replay.{IsRunOf}
use Rattle.gq_inspect.specs.declared.mismatch.Mismatch.{Mismatch as MismatchIs}
use Rattle.gq_inspect.specs.declared.mismatch.Mismatch.TheVariants.{Answer, Memory as MismatchMemory}
use Rattle.gq_text.specs.Canonical.{IsScriptOf, script_text}
use Rattle.gq_text.specs.Input.{event_of}
use Rattle.gq_lines.specs.Lines.{lines_of}
use Rattle.gq_text.specs.PlanText.{plan_of}
use Rattle.gq_streams.specs.Watched.{AppendsPrefix}
use Rattle.gq_script.specs.declared.script.ReadFault.{ReadFault}
use Rattle.gq_script.specs.declared.script.ReadFault.TheVariants.{Read as NotRead, TooBig as ReadTooMuch, Memory as ReadMemory}
use Rattle.gq_script.specs.declared.script.TheConstants.{MOST_INPUT}
use Rattle.gq_runs.specs.Programs.{IsProgramsOf, fault_of}
use Rattle.gq_runs.specs.Live.{IsRecordOf, KeepsInput}
use Rattle.gq_runs.specs.declared.live.LiveRunFault.{LiveRunFault}
use Rattle.gq_runs.specs.declared.live.LiveRunFault.TheVariants.{Read, TooBig, Program, Live, Mismatch, Memory, Write}

-- the events are the run that some records of a live run of the programs tell
pub record IsRunOfPrograms (plan : CheckedPlan) (programs : Programs) (events : List Event) : Type 0 where
  pub records : Records
  pub recorded : IsRecordOf plan programs records
  pub run : IsRunOf plan records events

-- the text is the script of such a run, and gives the plan and the events when it is read again
pub record IsScriptOfRun (plan : CheckedPlan) (programs : Programs) (text : List ℕ) : Type 0 where
  pub events : List Event
  pub run : IsRunOfPrograms plan programs events
  pub is : text ≡ script_text plan events
  pub back : IsScriptOf text plan events

-- the text is the script of a live run of the input's programs, which keeps the input's opens, each session's requests in
-- order, and of the server lines some, in order
pub record IsLiveScript (input : List ℕ) (script : List ℕ) : Type 0 where
  pub small : length input ≤ MOST_INPUT
  pub plan : CheckedPlan
  pub programs : Programs
  pub reads : IsProgramsOf input plan programs
  pub of : IsScriptOfRun plan programs script
  pub keeps : KeepsInput plan (map (event_of plan) reads.lines) of.events

-- such a script was appended, or a prefix of one
abbrev pub AppendsLive : List ℕ → Option (List ℕ) → Option (List ℕ) → Type 0
AppendsLive input old new = (script : List ℕ) × IsLiveScript input script × Appends old new script

abbrev pub AppendsLivePrefix : List ℕ → Option (List ℕ) → Option (List ℕ) → Type 0
AppendsLivePrefix input old new = (script : List ℕ) × IsLiveScript input script × AppendsPrefix old new script

-- ---- faults

-- the input is small enough, and gives programs
abbrev pub GivesPrograms : List ℕ → Type 0
GivesPrograms input = (length input ≤ MOST_INPUT) × (fault_of (plan_of (lines_of input)) ≡ None)

-- a fault of the threads, of the inspection or of the memory; want of memory is told one way only
abbrev pub IsFaultOfRun : LiveRunFault → Type 0
IsFaultOfRun (Live fault) = fault ≢ LiveMemory tt
IsFaultOfRun (Mismatch named) = named.mismatch ≢ MismatchMemory tt
IsFaultOfRun (Memory _) = Unit {0}
IsFaultOfRun _ = ⊥

-- a fault behind the reading: the first one of the input, or one of its run
abbrev pub IsFaultOfScript : List ℕ → LiveRunFault → Type 0
IsFaultOfScript input (Program fault) = (length input ≤ MOST_INPUT) × (fault_of (plan_of (lines_of input)) ≡ Some fault)
IsFaultOfScript input (Live fault) = (fault ≢ LiveMemory tt) × GivesPrograms input
IsFaultOfScript input (Mismatch named) = (named.mismatch ≢ MismatchMemory tt) × GivesPrograms input
IsFaultOfScript input (Memory _) = Unit {0}
IsFaultOfScript input _ = ⊥

-- any fault
abbrev pub IsLiveFaultOf : List ℕ → LiveRunFault → Type 0
IsLiveFaultOf input Read = Unit {0}
IsLiveFaultOf input TooBig = MOST_INPUT < length input
IsLiveFaultOf input Write = GivesPrograms input
IsLiveFaultOf input fault = IsFaultOfScript input fault

-- that the input was not read whole, as it is told of a live run
abbrev pub live_of_reading : ReadFault → LiveRunFault
live_of_reading NotRead = Read
live_of_reading ReadTooMuch = TooBig
live_of_reading (ReadMemory refused) = Memory refused

-- the name beside a mismatch is that of the tenant's row, where it is of a session's step
abbrev pub IsNamed : CheckedPlan → MismatchIs → Option (List ℕ) → Type 0
IsNamed plan (Answer tenant session at) name = tenant < length plan.rows → name ≡ Some (row_at plan tenant).name
IsNamed plan _ name = name ≡ None

-- this mismatch is told, with its name
abbrev pub IsMismatchOf : CheckedPlan → MismatchIs → LiveRunFault → Type 0
IsMismatchOf plan mismatch (Mismatch named) = (named.mismatch ≡ mismatch) × IsNamed plan mismatch named.name
IsMismatchOf plan mismatch _ = ⊥

-- it is not that the gate gave up
abbrev pub NoGateFault : LiveRunFault → Type 0
NoGateFault (Live fault) = fault ≢ Gate
NoGateFault _ = Unit {0}
