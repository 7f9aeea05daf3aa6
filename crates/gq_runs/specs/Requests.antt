-- What a request asks to be written, when each of its faults comes, and the statuses of these.
use Rattle.std.specs.Prelude.{◌≡◌, ℕ, ◌<◌, ◌≤◌, List, Option, Some, None, Err, length}
use Rattle.std.specs.Io.KnownBytes.{Appends}
use Rattle.gq_script_words.specs.declared.words.Request.{Request}
use Rattle.gq_script_words.specs.declared.words.Request.TheVariants.{Run, Step, Order, History, Picture, Finish, Live}
use Rattle.gq_script.specs.Out.{out, IsAccepted}
use Rattle.gq_streams.specs.Watched.{AppendsPrefix}
use Rattle.gq_script.specs.declared.script.RunFault.{RunFault}
use Rattle.gq_script.specs.declared.script.RunFault.TheVariants.{Read, TooBig, Plan, Memory, Write}
use Rattle.gq_script.specs.declared.script.TheConstants.{MOST_INPUT}
use Rattle.gq_lines.specs.Lines.{lines_of}
use Rattle.gq_text.specs.PlanText.{plan_of, NamesTenant}
use Rattle.gq_session.specs.declared.records.LiveFault.TheVariants.{Memory as LiveMemory, Thread, Gate, Stamps, Letter}
use Rattle.gq_files.specs.Orders.{order_out}
use Rattle.gq_files.specs.Histories.{AppendsHistory, AppendsHistoryPrefix}
use Rattle.gq_files.specs.Pictures.{AppendsPicture, AppendsPicturePrefix}
use Rattle.gq_finish.specs.Finishing.{FinishOf, HasCause}
use Rattle.gq_runs.specs.LiveRuns.{AppendsLive, AppendsLivePrefix, IsLiveFaultOf}
use Rattle.gq_files.specs.declared.order.OrderFault.{OrderFault}
use Rattle.gq_files.specs.declared.order.OrderFault.TheVariants.{Run as OrderRun, Name}
use Rattle.gq_finish.specs.declared.finish.FinishFault.{FinishFault}
use Rattle.gq_finish.specs.declared.finish.FinishFault.TheVariants.{Run as FinishRun}
use Rattle.gq_runs.specs.declared.live.LiveRunFault.TheVariants.{Read as LiveRead, TooBig as LiveTooBig, Memory as LiveRunMemory, Write as LiveWrite, Live as LiveThreads, Mismatch}
use Rattle.gq_runs.specs.declared.requests.RequestFault.{RequestFault}
use Rattle.gq_runs.specs.declared.requests.RequestFault.TheVariants.{Run as RunEnded, Step as StepEnded, Order as OrderEnded, History as HistoryEnded, Picture as PictureEnded, Finish as FinishEnded, Live as LiveEnded}

-- what the request asks for was appended: the output of the input; with the order of the operations on that file of that tenant;
-- the history of these operations; their picture; the lines that complete the operation of that session; the script of a live run
abbrev pub Writes : Request → List ℕ → Option (List ℕ) → Option (List ℕ) → Type 0
Writes (Run jobs) input old new = Appends old new (out input)
Writes Step input old new = Appends old new (out input)
Writes (Order name volume file) input old new = Appends old new (order_out input name.now (record { volume = volume; place = file }))
Writes (History name volume file) input old new = AppendsHistory input name.now (record { volume = volume; place = file }) old new
Writes (Picture name volume file) input old new = AppendsPicture input name.now (record { volume = volume; place = file }) old new
Writes (Finish name session) input old new = (text : List ℕ) × FinishOf name.now session input text × Appends old new text
Writes Live input old new = AppendsLive input old new

-- a beginning of it was appended
abbrev pub WritesPrefix : Request → List ℕ → Option (List ℕ) → Option (List ℕ) → Type 0
WritesPrefix (Run jobs) input old new = AppendsPrefix old new (out input)
WritesPrefix Step input old new = AppendsPrefix old new (out input)
WritesPrefix (Order name volume file) input old new = AppendsPrefix old new (order_out input name.now (record { volume = volume; place = file }))
WritesPrefix (History name volume file) input old new = AppendsHistoryPrefix input name.now (record { volume = volume; place = file }) old new
WritesPrefix (Picture name volume file) input old new = AppendsPicturePrefix input name.now (record { volume = volume; place = file }) old new
WritesPrefix (Finish name session) input old new = (text : List ℕ) × FinishOf name.now session input text × AppendsPrefix old new text
WritesPrefix Live input old new = AppendsLivePrefix input old new

-- ---- faults

-- the fault that any run may have, if it is one
abbrev pub run_fault : RequestFault → Option RunFault
run_fault (RunEnded fault) = Some fault
run_fault (StepEnded fault) = Some fault
run_fault (OrderEnded (OrderRun fault)) = Some fault
run_fault (HistoryEnded (OrderRun fault)) = Some fault
run_fault (PictureEnded (OrderRun fault)) = Some fault
run_fault (FinishEnded (FinishRun fault)) = Some fault
run_fault (LiveEnded LiveRead) = Some Read
run_fault (LiveEnded LiveTooBig) = Some TooBig
run_fault (LiveEnded (LiveRunMemory refused)) = Some (Memory refused)
run_fault (LiveEnded LiveWrite) = Some Write
run_fault fault = None

-- a fault of writing; of a run that answers each line as it comes, any but one of the plan
abbrev pub MayHaveWritten : RequestFault → Type 0
MayHaveWritten (StepEnded (Plan line fault)) = ⊥
MayHaveWritten (StepEnded fault) = Unit {0}
MayHaveWritten fault = run_fault fault ≡ Some Write

-- when the input has this fault of a run: it is too long, or it is not and its plan is at fault; and where writing fails, it has none
abbrev pub IsRunFault : List ℕ → RunFault → Type 0
IsRunFault input Read = Unit {0}
IsRunFault input TooBig = MOST_INPUT < length input
IsRunFault input (Plan line fault) = (length input ≤ MOST_INPUT) × (plan_of (lines_of input) ≡ Err (line, fault))
IsRunFault input (Memory refused) = Unit {0}
IsRunFault input Write = IsAccepted input

-- the same of a run that answers each line as it comes, which tells a fault of the plan before it knows how long the input is
abbrev pub IsStepFault : List ℕ → RunFault → Type 0
IsStepFault input TooBig = MOST_INPUT < length input
IsStepFault input (Plan line fault) = plan_of (lines_of input) ≡ Err (line, fault)
IsStepFault input fault = Unit {0}

-- of one that tells of a file of the tenant of this name
abbrev pub IsFileFault : List ℕ → List ℕ → OrderFault → Type 0
IsFileFault name input (OrderRun Write) = IsAccepted input × NamesTenant name input
IsFileFault name input (OrderRun fault) = IsRunFault input fault
IsFileFault name input Name = IsAccepted input × (NamesTenant name input → ⊥)

-- of one that completes the operation of a session of the tenant of this name
abbrev pub IsFinishFault : List ℕ → ℕ → List ℕ → FinishFault → Type 0
IsFinishFault name session input (FinishRun TooBig) = MOST_INPUT < length input
IsFinishFault name session input fault = HasCause name session input fault

-- the fault is one of what was asked for, and the input has it
abbrev pub IsFaultFor : Request → List ℕ → RequestFault → Type 0
IsFaultFor (Run jobs) input (RunEnded fault) = IsRunFault input fault
IsFaultFor Step input (StepEnded fault) = IsStepFault input fault
IsFaultFor (Order name volume file) input (OrderEnded fault) = IsFileFault name.now input fault
IsFaultFor (History name volume file) input (HistoryEnded fault) = IsFileFault name.now input fault
IsFaultFor (Picture name volume file) input (PictureEnded fault) = IsFileFault name.now input fault
IsFaultFor (Finish name session) input (FinishEnded fault) = IsFinishFault name.now session input fault
IsFaultFor Live input (LiveEnded fault) = IsLiveFaultOf input fault
IsFaultFor request input fault = ⊥

-- the status that the program ends with: 3 where memory was wanting or a thread could not be started, 4 where a live run is not what it
-- should be, else 1
abbrev pub status_of : RequestFault → ℕ
status_of (RunEnded (Memory _)) = 3
status_of (StepEnded (Memory _)) = 3
status_of (OrderEnded (OrderRun (Memory _))) = 3
status_of (HistoryEnded (OrderRun (Memory _))) = 3
status_of (PictureEnded (OrderRun (Memory _))) = 3
status_of (FinishEnded (FinishRun (Memory _))) = 3
status_of (LiveEnded (LiveRunMemory _)) = 3
status_of (LiveEnded (LiveThreads (LiveMemory _))) = 3
status_of (LiveEnded (LiveThreads Thread)) = 3
status_of (LiveEnded (LiveThreads Gate)) = 4
status_of (LiveEnded (LiveThreads Stamps)) = 4
status_of (LiveEnded (LiveThreads Letter)) = 4
status_of (LiveEnded (Mismatch named)) = 4
status_of fault = 1
