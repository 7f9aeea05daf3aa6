-- Why a node's machine refuses a line.
use Rattle.std.specs.Prelude.{⊤}
use Rattle.gq_keeper.specs.declared.fault.Fault.{Fault}
use Rattle.gq_keeper.specs.declared.fault.Fault.TheVariants.{Memory, Read, Write, JournalRead, JournalWrite, Full}

-- memory was wanting
abbrev pub IsMemory : Fault → Type 0
IsMemory (Memory refused) = ⊤
IsMemory Read = ⊥
IsMemory Write = ⊥
IsMemory JournalRead = ⊥
IsMemory JournalWrite = ⊥
IsMemory Full = ⊥
