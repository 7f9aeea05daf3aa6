-- A worked case, computed: a look while a write is on its way, and after a disk was lost. No proof rests on it. The words on quorums are opened here to
-- compute, as in the other worked cases.
use Rattle.std.proofs.Common.{◌≡◌, zero, suc, List, [], ◌∷◌, false, None, refl, subst, Some, arith}
use Rattle.std.specs.Prelude.{Contains}
use Rattle.gq_grid.specs.Grid.{Grid}
use Rattle.gq_tag.specs.declared.StoredCopy.{StoredCopy}
use Rattle.gq_tag.specs.Tag.{File, first_copy, is_less}
use Rattle.gq_desk.specs.declared.plans.TenantRow.{TenantRow}
use Rattle.gq_phase.specs.Quorums.{collect_quorum, store_quorum, ends_collect, ends_store, are_peers}
use Rattle.gq_model.specs.declared.events.Line.TheVariants.{NewVolume, Write, Deliver}
use Rattle.gq_model.specs.Trace.{Turn, Own, Losing, Returning}
use Rattle.gq_laws.specs.declared.ops.Kind.TheVariants.{Write as Writes, Read as Reads}
use Rattle.gq_laws.specs.Orders.{order}
use Rattle.gq_looks.specs.Looks.{Seen, Look, IsLook, WasSeen}
use Rattle.gq_looks.specs.Laws.{HasFile, with_looks}

abbrev square : Grid
square = record { rows = 2; cols = 2 }

abbrev row : TenantRow
row = record { name = 97 ∷ []; share = 4; sessions = 2; steps = 100; most_blocks = 16; most_volumes = 64 }

abbrev file : File
file = record { volume = 0; place = 0 }

abbrev first_write : StoredCopy
first_write = record { tag = record { number = 1; session = 1 }; bytes = 104 ∷ 105 ∷ [] }

-- session 1 writes at the column of servers 0 and 2; server 2 loses its disk, and is given the copy by server 0; then session 2 writes, and its
-- store has come to server 2 alone
abbrev turns : List Turn
turns = Own (NewVolume 1 1) ∷ Own (Write 1 0 0 (104 ∷ 105 ∷ [])) ∷ Own (Deliver 0) ∷ Own (Deliver 1) ∷ Own (Deliver 2) ∷ Own (Deliver 3)
    ∷ Own (Deliver 4) ∷ Own (Deliver 5) ∷ Own (Deliver 6) ∷ Own (Deliver 7)
    ∷ Losing 2 1 ∷ Returning 2 file 0 first_write
    ∷ Own (Write 2 0 0 (106 ∷ [])) ∷ Own (Deliver 8) ∷ Own (Deliver 9) ∷ Own (Deliver 10) ∷ Own (Deliver 11) ∷ Own (Deliver 13) ∷ []

abbrev second_write : StoredCopy
second_write = record { tag = record { number = 2; session = 2 }; bytes = 106 ∷ [] }

-- servers 0 and 1 are a row, 0 and 2 a column
abbrev look : Look
look = record {
  begin = 12;
  end = 18;
  collected = record { server = 0; moment = 13; copy = first_write } ∷ record { server = 1; moment = 15; copy = first_copy } ∷ [];
  confirmed = record { server = 0; moment = 13; copy = first_write } ∷ record { server = 2; moment = 18; copy = second_write } ∷ [];
}

-- what holds of two holds of all in their list
of_two : (P : Seen → Type 0) (a b : Seen) → P a → P b → (s : Seen) → Contains (a ∷ b ∷ []) s → P s
of_two P a b at_a at_b s (zero, low, is) = subst P is at_a
of_two P a b at_a at_b s (suc zero, low, is) = subst P is at_b
of_two P a b at_a at_b s (suc (suc i), low, is) = absurd (omega (arith, low))

pub it_is_a_look : IsLook square row turns file look
unfolding collect_quorum store_quorum ends_collect ends_store are_peers
it_is_a_look = record {
  ends = omega arith;
  within = omega arith;
  collected = of_two (WasSeen square row turns file 12 18) _ _ (record { after = omega arith; before = omega arith; has = refl; copy = refl; kept = refl }) (record { after = omega arith; before = omega arith; has = refl; copy = refl; kept = refl });
  confirmed = of_two (WasSeen square row turns file 12 18) _ _ (record { after = omega arith; before = omega arith; has = refl; copy = refl; kept = refl }) (record { after = omega arith; before = omega arith; has = refl; copy = refl; kept = refl });
  collects = refl;
  confirms = refl;
  no_less = of_two (λ s. is_less s.copy.tag (record { number = 1; session = 1 }) ≡ false) _ _ refl refl;
}

pub it_has_the_file : HasFile square row turns file
unfolding collect_quorum store_quorum ends_collect ends_store are_peers
it_has_the_file = refl

-- the look gives what the first write wrote, and stands behind it; the second write is open, and nobody was given its tag
pub among_operations : with_looks square row turns file (look ∷ []) ≡
    record { kind = Writes (104 ∷ 105 ∷ []); session = 1; op = 1; begin = 5; end = Some 29; tag = Some (record { number = 1; session = 1 }) }
    ∷ record { kind = Writes (106 ∷ []); session = 2; op = 1; begin = 38; end = None; tag = Some (record { number = 2; session = 2 }) }
    ∷ record { kind = Reads (Some (104 ∷ 105 ∷ [])); session = 0; op = 0; begin = 36; end = Some 55; tag = Some (record { number = 1; session = 1 }) }
    ∷ []
unfolding collect_quorum store_quorum ends_collect ends_store are_peers
among_operations = refl

pub order_of_all : order (with_looks square row turns file (look ∷ [])) ≡ 0 ∷ 2 ∷ []
unfolding collect_quorum store_quorum ends_collect ends_store are_peers
order_of_all = refl
