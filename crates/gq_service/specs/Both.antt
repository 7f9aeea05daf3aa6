-- A node that keeps registers and chunks. What has the chunks, and over which shelf, is left open: `has` says which it has.
use Rattle.std.specs.Prelude.{ℕ, List, Option, Some, None, Ok, Err}
use Rattle.gq_chunks.specs.Machines.{Chunks, ChunkSteps, ChunkRecalls, chunk_reads, ChunksAreBlank, ChunksRest, IsNewFor as ChunksAreNewFor}
use Rattle.gq_chunks.specs.Takers.{line_taker, tells_chunk}
use Rattle.gq_machine.specs.declared.machine.NodeMachine.{NodeMachine}
use Rattle.gq_machine.specs.Machines.{tables_of, MachineSteps, MachineRecalls, machine_reads, MachineIsBlank, MachineRests}
use Rattle.gq_pair.specs.declared.pair.Pair.{Pair}
use Rattle.gq_pair.specs.Pairs.{StepsBy, RecallsBy, readable_by}
use Rattle.gq_setup.specs.Setups.{Setup, SetupReading}
use Rattle.gq_setup.specs.Texts.{first_read}
use Rattle.gq_service.specs.Kinds.{Kind, kind}
use Rattle.gq_service.specs.Serving.{IsNewFor}
use Rattle.gq_service.specs.declared.both.ByVerb.{ByVerb}

-- registers, and chunks
abbrev pub Both : Type 0 → Type 0
Both C = Pair NodeMachine C ByVerb

-- the setup that was read, if one was
abbrev pub setup_read : SetupReading Setup → Option Setup
setup_read (Ok setup) = Some setup
setup_read (Err fault) = None

-- both were never started, at the node of this number of the setup
abbrev pub BothAreNewFor : {C : Type 0} → (has : C → Chunks) → Setup → (number : ℕ) → SetupReading Setup → Both C → Type 0
BothAreNewFor has setup number read m = IsNewFor setup number (first_read read) (tables_of m.first) × ChunksAreNewFor setup (setup_read read) number (has m.second)

abbrev pub BothStep : {C : Type 0} → (has : C → Chunks) → Both C → List ℕ → List (List ℕ) → List ℕ → Both C → Type 0
BothStep {C} has old line facts told new = StepsBy MachineSteps (λ (m : C) (line : List ℕ) (facts : List (List ℕ)) (told : List ℕ) (n : C). ChunkSteps (has m) line facts told (has n)) (line_taker line) old.first old.second line facts told new.first new.second

abbrev pub BothRecall : {C : Type 0} → (has : C → Chunks) → Both C → List ℕ → Both C → Type 0
BothRecall {C} has old line new = RecallsBy MachineRecalls (λ (m : C) (line : List ℕ) (n : C). ChunkRecalls (has m) line (has n)) (tells_chunk line) old.first old.second line new.first new.second

abbrev pub both : {C : Type 0} → (has : C → Chunks) → Kind (Both C)
both has = kind
    (BothStep has)
    (BothRecall has)
    (λ m line. readable_by (tells_chunk line) (machine_reads m.first line) (chunk_reads (has m.second) line))
    (λ plan m new. MachineIsBlank plan m.first new.first × ChunksAreBlank plan (has m.second) (has new.second))
    (λ m again. MachineRests m.first again.first × ChunksRest (has m.second) (has again.second))
    (BothAreNewFor has)
