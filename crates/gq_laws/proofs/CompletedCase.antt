-- A worked case, computed: one server, and a write whose only message is lost; it is completed by a retry and as many deliveries
-- as are allowed. No proof rests on it. The four words on quorums are opened here to compute, as in Cases.
use Rattle.std.proofs.Common.{◌≡◌, List, [], ◌∷◌, map, refl, Some}
use Rattle.std.specs.Prelude.{option_map}
use Rattle.gq_grid.specs.Grid.{Grid}
use Rattle.gq_tag.specs.declared.Tag.{Tag}
use Rattle.gq_desk.specs.declared.plans.TenantRow.{TenantRow}
use Rattle.gq_phase.specs.declared.Outcome.TheVariants.{Wrote}
use Rattle.gq_phase.specs.Quorums.{collect_quorum, store_quorum, ends_collect, ends_store}
use Rattle.gq_model.specs.declared.events.Line.TheVariants.{NewVolume, Write, Deliver, Lose, Retry}
use Rattle.gq_model.specs.Told.{Replied, Round, Done, Resent}
use Rattle.gq_model.specs.Trace.{Turn, Own, operation}
use Rattle.gq_model.specs.Lone.{past_of, told_from}
use Rattle.gq_laws.specs.Progress.{deliveries_left, state_after}

abbrev grid : Grid
grid = record { rows = 1; cols = 1 }

abbrev row : TenantRow
row = record { name = 97 ∷ []; share = 4; sessions = 2; steps = 100; most_blocks = 16; most_volumes = 64 }

abbrev turns : List Turn
turns = Own (NewVolume 1 1) ∷ Own (Write 1 0 0 (104 ∷ 105 ∷ [])) ∷ Own (Lose 0) ∷ []

abbrev tag : Tag
tag = record { number = 1; session = 1 }

pub deliveries_left_of_the_write : option_map (deliveries_left grid) (operation (state_after grid row turns) 1) ≡ Some 4
unfolding collect_quorum store_quorum ends_collect ends_store
deliveries_left_of_the_write = refl

pub completed_after_a_loss : told_from grid row (past_of grid row turns) (map Own (Retry 1 ∷ map Deliver (1 ∷ 2 ∷ 3 ∷ 4 ∷ []))) ≡
    Resent 1 1 ∷ Replied 2 ∷ Round 2 (Some tag) 3 1 ∷ Replied 4 ∷ Done (Wrote 1 1 tag) ∷ []
unfolding collect_quorum store_quorum ends_collect ends_store
completed_after_a_loss = refl
