-- A worked case, computed: two servers in one column, of which one loses its disk. No proof rests on it. The words on quorums are
-- opened here to compute, as in the other worked cases.
use Rattle.std.proofs.Common.{◌≡◌, List, [], ◌∷◌, ◌++◌, refl, Some}
use Rattle.gq_grid.specs.Grid.{Grid}
use Rattle.gq_tag.specs.declared.Tag.{Tag}
use Rattle.gq_tag.specs.declared.StoredCopy.{StoredCopy}
use Rattle.gq_tag.specs.Tag.{File, first_copy}
use Rattle.gq_desk.specs.declared.plans.TenantRow.{TenantRow}
use Rattle.gq_phase.specs.Quorums.{collect_quorum, store_quorum, ends_collect, ends_store, are_peers}
use Rattle.gq_model.specs.declared.events.Line.TheVariants.{NewVolume, Write, Read, Deliver}
use Rattle.gq_model.specs.declared.events.Refusal.TheVariants.{Busy, NoMessage}
use Rattle.gq_model.specs.declared.events.ServerRefusal.TheVariants.{Same}
use Rattle.gq_model.specs.Told.{Began, Replied, IsDown, Round, Refused, ServerOk, ServerRefused}
use Rattle.gq_model.specs.Trace.{Turn, Own, Losing, Returning}
use Rattle.gq_model.specs.Lone.{past_of, told_from}
use Rattle.gq_laws.specs.declared.ops.Kind.TheVariants.{Write as Writes, Read as Reads}
use Rattle.gq_laws.specs.Laws.{lone_operations}

abbrev row : TenantRow
row = record { name = 97 ∷ []; share = 4; sessions = 2; steps = 100; most_blocks = 16; most_volumes = 64 }

abbrev file : File
file = record { volume = 0; place = 0 }

abbrev column : Grid
column = record { rows = 2; cols = 1 }

abbrev tag : Tag
tag = record { number = 1; session = 1 }

abbrev copy : StoredCopy
copy = record { tag = tag; bytes = 104 ∷ 105 ∷ [] }

-- session 1 writes: server 0 is asked, and both store
abbrev write_turns : List Turn
write_turns = Own (NewVolume 1 1) ∷ Own (Write 1 0 0 (104 ∷ 105 ∷ [])) ∷ Own (Deliver 0) ∷ Own (Deliver 1)
    ∷ Own (Deliver 2) ∷ Own (Deliver 3) ∷ Own (Deliver 4) ∷ Own (Deliver 5) ∷ []

-- server 0 loses its disk; session 2 reads, and what it asks of server 0 is not answered, until server 1 has given it its copy: not the
-- first one, which it did not hold since the loss, and not twice
abbrev loss_turns : List Turn
loss_turns = Losing 0 1 ∷ Own (Read 2 0 0) ∷ Own (Deliver 6) ∷ Returning 0 file 1 first_copy ∷ Returning 0 file 0 copy ∷ Returning 0 file 1 copy ∷ Returning 0 file 1 copy
    ∷ Own (Deliver 6) ∷ Losing 0 1 ∷ Own (Deliver 7) ∷ []

-- the read has heard server 0, which may then not lose what it told; its store round has not
abbrev end_turns : List Turn
end_turns = Losing 0 1 ∷ Returning 0 file 1 copy ∷ Own (Deliver 8) ∷ Own (Deliver 9) ∷ Own (Deliver 10) ∷ Own (Deliver 11) ∷ []

pub told_of_a_loss : told_from column row (past_of column row write_turns) loss_turns ≡
    ServerOk ∷ Began 1 6 1 ∷ IsDown ∷ Refused NoMessage ∷ Refused NoMessage ∷ ServerOk ∷ ServerRefused Same ∷ Replied 7 ∷ Refused Busy ∷ Round 2 (Some tag) 8 2 ∷ []
unfolding collect_quorum store_quorum ends_collect ends_store are_peers
told_of_a_loss = refl

pub operations_of_a_loss : lone_operations column row (write_turns ++ loss_turns ++ end_turns) file ≡
    record { kind = Writes (104 ∷ 105 ∷ []); session = 1; op = 1; begin = 1; end = Some 7; tag = Some tag }
    ∷ record { kind = Reads (Some (104 ∷ 105 ∷ [])); session = 2; op = 1; begin = 9; end = Some 23; tag = Some tag }
    ∷ []
unfolding collect_quorum store_quorum ends_collect ends_store are_peers
operations_of_a_loss = refl
