-- Worked cases, computed. No proof rests on them. The four words on quorums are opened here to compute, as in the worked case of
-- gq_cluster, and nowhere else above gq_phase.
use Rattle.std.proofs.Common.{◌≡◌, List, [], ◌∷◌, ◌++◌, refl, Some}
use Rattle.gq_grid.specs.Grid.{Grid}
use Rattle.gq_tag.specs.Tag.{File}
use Rattle.gq_desk.specs.declared.plans.TenantRow.{TenantRow}
use Rattle.gq_phase.specs.Quorums.{collect_quorum, store_quorum, ends_collect, ends_store}
use Rattle.gq_model.specs.declared.events.Line.TheVariants.{NewVolume, Write, Read, List as ListFiles, Deliver, Retry}
use Rattle.gq_model.specs.declared.events.ServerLine.TheVariants.{Down, Up}
use Rattle.gq_model.specs.Trace.{Turn, Own, Serving}
use Rattle.gq_laws.specs.declared.ops.Kind.TheVariants.{Write as Writes, Read as Reads, Row as Rows}
use Rattle.gq_laws.specs.Laws.{lone_operations}
use Rattle.gq_laws.specs.Orders.{order}

abbrev row : TenantRow
row = record { name = 97 ∷ []; share = 4; sessions = 2; steps = 100; most_blocks = 16; most_volumes = 64 }

abbrev file : File
file = record { volume = 0; place = 0 }

-- ---- one server

abbrev one_server : Grid
one_server = record { rows = 1; cols = 1 }

-- session 1 writes; session 2 reads, and lists a volume of two files. The server that tells its copy ends a store round,
-- so that the read and both files of the listing have none
abbrev turns : List Turn
turns = Own (NewVolume 2 1) ∷ Own (Write 1 0 0 (104 ∷ 105 ∷ [])) ∷ Own (Deliver 0) ∷ Own (Deliver 1) ∷ Own (Deliver 2) ∷ Own (Deliver 3)
    ∷ Own (Read 2 0 0) ∷ Own (Deliver 4) ∷ Own (Deliver 5)
    ∷ Own (ListFiles 2 0) ∷ Own (Deliver 6) ∷ Own (Deliver 7) ∷ Own (Deliver 8) ∷ Own (Deliver 9) ∷ []

pub operations_of_one_server : lone_operations one_server row turns file ≡
    record { kind = Writes (104 ∷ 105 ∷ []); session = 1; op = 1; begin = 1; end = Some 5; tag = Some (record { number = 1; session = 1 }) }
    ∷ record { kind = Reads (Some (104 ∷ 105 ∷ [])); session = 2; op = 1; begin = 6; end = Some 8; tag = Some (record { number = 1; session = 1 }) }
    ∷ record { kind = Rows (Some 2); session = 2; op = 2; begin = 9; end = Some 13; tag = Some (record { number = 1; session = 1 }) }
    ∷ []
unfolding collect_quorum store_quorum ends_collect ends_store
operations_of_one_server = refl

pub order_of_one_server : order (lone_operations one_server row turns file) ≡ 0 ∷ 1 ∷ 2 ∷ []
unfolding collect_quorum store_quorum ends_collect ends_store
order_of_one_server = refl

-- ---- two rows of two servers

abbrev square : Grid
square = record { rows = 2; cols = 2 }

-- session 1 writes at the column of servers 0 and 2
abbrev write_turns : List Turn
write_turns = Own (NewVolume 1 1) ∷ Own (Write 1 0 0 (104 ∷ 105 ∷ [])) ∷ Own (Deliver 0) ∷ Own (Deliver 1) ∷ Own (Deliver 2) ∷ Own (Deliver 3)
    ∷ Own (Deliver 4) ∷ Own (Deliver 5) ∷ Own (Deliver 6) ∷ Own (Deliver 7) ∷ []

-- session 2 reads: server 0 tells the copy, server 1 goes down, and the retry asks servers 2 and 3. Once this row is
-- heard, 0 and 2 have told the copy: a full column, so that the read has no store round
abbrev fast_turns : List Turn
fast_turns = Own (Read 2 0 0) ∷ Own (Deliver 8) ∷ Own (Deliver 10) ∷ Serving (Down 1) ∷ Own (Retry 2)
    ∷ Own (Deliver 11) ∷ Own (Deliver 12) ∷ Own (Deliver 13) ∷ Own (Deliver 14) ∷ []

-- session 1 reads: of the row of servers 0 and 1, server 0 alone tells the copy, which is stored at the column
abbrev slow_turns : List Turn
slow_turns = Serving (Up 1) ∷ Own (Read 1 0 0) ∷ Own (Deliver 15) ∷ Own (Deliver 16) ∷ Own (Deliver 17) ∷ Own (Deliver 18)
    ∷ Own (Deliver 19) ∷ Own (Deliver 20) ∷ Own (Deliver 21) ∷ Own (Deliver 22) ∷ []

abbrev square_turns : List Turn
square_turns = write_turns ++ fast_turns ++ slow_turns

pub operations_of_square : lone_operations square row square_turns file ≡
    record { kind = Writes (104 ∷ 105 ∷ []); session = 1; op = 1; begin = 1; end = Some 9; tag = Some (record { number = 1; session = 1 }) }
    ∷ record { kind = Reads (Some (104 ∷ 105 ∷ [])); session = 2; op = 1; begin = 10; end = Some 18; tag = Some (record { number = 1; session = 1 }) }
    ∷ record { kind = Reads (Some (104 ∷ 105 ∷ [])); session = 1; op = 2; begin = 20; end = Some 28; tag = Some (record { number = 1; session = 1 }) }
    ∷ []
unfolding collect_quorum store_quorum ends_collect ends_store
operations_of_square = refl

pub order_of_square : order (lone_operations square row square_turns file) ≡ 0 ∷ 1 ∷ 2 ∷ []
unfolding collect_quorum store_quorum ends_collect ends_store
order_of_square = refl
