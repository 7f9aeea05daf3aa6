-- The plan of a shard.
use Rattle.std.proofs.Common.{◌≡◌, ◌∙◌, ℕ, suc, zero, ◌+◌, Bool, true, false, List, [], ◌∷◌, map, refl, sym, ap, subst, arith}
use Rattle.std.specs.Prelude.{◌==◌, slice_get, unwrap_or}
use Rattle.std.specs.List.{position_from}
use Rattle.std.specs.Str.{bytes_eq}
use Rattle.std.proofs.lemmas.Bool.{eq-eqb}
use Rattle.gq_desk.specs.Plans.{is_of}
use Rattle.gq_desk.specs.CheckedPlan.{CheckedPlan, nobody}
use Rattle.gq_desk.specs.declared.plans.TenantRow.{TenantRow}
use Rattle.gq_lines.specs.Words.{Word}
use Rattle.gq_text.specs.Input.{place_named, event_of_words}
use Rattle.gq_shards.specs.Shards.{shard_of, part_row, part_rows, IsPart}

-- names alone say where a word leads
place_by_names : (word : Word) (n : ℕ) (rows : List TenantRow) → position_from (is_of word) n rows ≡ position_from (bytes_eq word) n (map (λ (row : TenantRow). row.name) rows)
place_by_names word n [] = refl
place_by_names word n (row ∷ rows) = by (bytes_eq word row.name) refl (place_by_names word (n + 1) rows)
  where
    by : (b : Bool) → bytes_eq word row.name ≡ b → position_from (is_of word) (n + 1) rows ≡ position_from (bytes_eq word) (n + 1) (map (λ (row : TenantRow). row.name) rows) → position_from (is_of word) n (row ∷ rows) ≡ position_from (bytes_eq word) n (map (λ (row : TenantRow). row.name) (row ∷ rows))
    by true is later = rw is refl
    by false is later = rw is later

place_part : (n k : ℕ) (plan part : CheckedPlan) (word : Word) → IsPart n k plan part → place_named part word ≡ place_named plan word
place_part n k plan part word is =
    place_by_names word 0 part.rows ∙ (ap (position_from (bytes_eq word) 0) is.names ∙ sym (place_by_names word 0 plan.rows))

-- the shard reads a line as the event that it is
pub event_words_part : (n k : ℕ) (plan part : CheckedPlan) (words : List Word) → IsPart n k plan part → event_of_words part words ≡ event_of_words plan words
unfolding event_of_words
event_words_part n k plan part [] is = refl
event_words_part n k plan part (first ∷ words) is = rw (place_part n k plan part first is) refl

-- the rows of a part
part_names : (n k t : ℕ) (rows : List TenantRow) → map (λ (row : TenantRow). row.name) (part_rows n k t rows) ≡ map (λ (row : TenantRow). row.name) rows
part_names n k t [] = refl
part_names n k t (row ∷ rows) = by (shard_of n t == k) (part_names n k (t + 1) rows)
  where
    by : (b : Bool) → map (λ (row : TenantRow). row.name) (part_rows n k (t + 1) rows) ≡ map (λ (row : TenantRow). row.name) rows → (part_row b row).name ∷ map (λ (row : TenantRow). row.name) (part_rows n k (t + 1) rows) ≡ row.name ∷ map (λ (row : TenantRow). row.name) rows
    by true later = ap (λ z. row.name ∷ z) later
    by false later = ap (λ z. row.name ∷ z) later

part_get : (n k t i : ℕ) (rows : List TenantRow) → (shard_of n (t + i) == k) ≡ true → slice_get (part_rows n k t rows) i ≡ slice_get rows i
part_get n k t i [] mine = refl
part_get n k t zero (row ∷ rows) mine =
    let here : t + 0 ≡ t = omega arith in
    let is : shard_of n t == k ≡ true = rw here at mine in
    rw is refl
part_get n k t (suc i) (row ∷ rows) mine =
    let here : t + suc i ≡ (t + 1) + i = omega arith in
    part_get n k (t + 1) i rows (rw here at mine)

pub is_part : (n k : ℕ) (plan part : CheckedPlan) → part.grid ≡ plan.grid → part.rows ≡ part_rows n k 0 plan.rows → IsPart n k plan part
is_part n k plan part grid rows = record {
  grid = grid;
  names = rw rows (part_names n k 0 plan.rows);
  rows = λ t mine.
      let zero_t : 0 + t ≡ t = omega arith in
      let tell : (shard_of n (0 + t) == k) ≡ true = rw zero_t (eq-eqb (shard_of n t) k mine) in
      ap (λ o. unwrap_or o nobody) (ap (λ rs. slice_get rs t) rows ∙ part_get n k 0 t plan.rows tell);
}

pub is_whole : (n k : ℕ) (plan part : CheckedPlan) → part ≡ plan → IsPart n k plan part
is_whole n k plan part same = subst (IsPart n k plan) (sym same) (record { grid = refl; names = refl; rows = λ t mine. refl })
