-- The status with which a node's process ends, by its fault.
use Rattle.std.specs.Prelude.{ℕ}
use Rattle.gq_keeper.specs.declared.fault.Fault.{Fault}
use Rattle.gq_keeper.specs.declared.fault.Fault.TheVariants.{Memory as NoMemory, Read as ReadFault, Write as WriteFault, JournalRead as JournalReadFault, JournalWrite as JournalWriteFault, Full}
use Rattle.gq_setup.specs.declared.openings.SetupFault.TheVariants.{Memory as NoMemoryForSetup}
use Rattle.gq_service.specs.declared.fault.NodeFault.{NodeFault}
use Rattle.gq_service.specs.declared.fault.NodeFault.TheVariants.{Memory, Plan, Damaged, JournalRead, JournalWrite, Read, Write}

-- 3 where memory is wanting, 4 where the journal is damaged, else 1
abbrev pub status_of : NodeFault → ℕ
status_of Memory = 3
status_of (Plan (NoMemoryForSetup _)) = 3
status_of (Damaged at) = 4
status_of _ = 1

-- a fault of the loop, as one of the node
abbrev pub as_fault : Fault → NodeFault
as_fault (NoMemory _) = Memory
as_fault ReadFault = Read
as_fault WriteFault = Write
as_fault JournalReadFault = JournalRead
as_fault JournalWriteFault = JournalWrite
as_fault Full = JournalWrite
