-- Volumes that are told by runs.
use Rattle.std.proofs.Common.{◌≡◌, ◌∙◌, ℕ, ◌+◌, ◌<◌, ◌≤◌, List, [], ◌∷◌, ◌++◌, length, drop, true, false, refl, sym, ap, subst, arith, append_assoc, append-nil}
use Rattle.std.specs.Prelude.{slice_index_or}
use Rattle.std.proofs.lemmas.List.{drop_more}
use Rattle.std.proofs.lemmas.List.Concat.{flat_map-append}
use Rattle.gq_desk.specs.declared.volumes.VolumeRow.{VolumeRow}
use Rattle.gq_lines.specs.Words.{Word}
use Rattle.gq_lines.specs.Written.{spaced}
use Rattle.gq_wire.specs.Texts.{are_alike, run_word, runs_behind}

-- so much of these words is told, and the rest is left
pub record Told (before out : List ℕ) (all left : List Word) : Type 0 where
  pub done : List Word
  pub text : out ≡ before ++ spaced done
  pub words : all ≡ done ++ left

pub none_told : (before : List ℕ) (all : List Word) → Told before before all all
none_told before all = record { done = []; text = sym (append-nil before); words = refl }

pub more_told : (before out next : List ℕ) (all left : List Word) (word : Word) → Told before out all (word ∷ left) → next ≡ out ++ 32 ∷ word → Told before next all left
more_told before out next all left word told is = record {
  done = told.done ++ word ∷ [];
  text = is
      ∙ ap (λ x. x ++ 32 ∷ word) told.text
      ∙ append_assoc before (spaced told.done) (32 ∷ word)
      ∙ ap (λ x. before ++ (spaced told.done ++ x)) (sym (append-nil (32 ∷ word)))
      ∙ ap (λ x. before ++ x) (sym (flat_map-append (λ w. 32 ∷ w) told.done (word ∷ [])));
  words = told.words ∙ sym (append_assoc told.done (word ∷ []) left);
}

pub all_told : (before out : List ℕ) (all : List Word) → Told before out all [] → out ≡ before ++ spaced all
all_told before out all told = told.text ∙ ap (λ ws. before ++ spaced ws) (sym (append-nil told.done) ∙ sym told.words)

-- one volume more
pub run_on : (run next : VolumeRow) (times : ℕ) (volumes : List VolumeRow) → are_alike next run ≡ true → runs_behind run times (next ∷ volumes) ≡ runs_behind run (times + 1) volumes
run_on run next times volumes alike = rw alike refl

pub run_ends : (run next : VolumeRow) (times : ℕ) (volumes : List VolumeRow) → are_alike next run ≡ false → runs_behind run times (next ∷ volumes) ≡ run_word run times ∷ runs_behind next 1 volumes
run_ends run next times volumes other = rw other refl

-- ---- a loop over the volumes behind the first

abbrev pub no_volume : VolumeRow
no_volume = record { files = 0; blocks = 0 }

-- of these i were looked at: the runs that have ended are told, and one goes on
abbrev pub Runs : (before out : List ℕ) (first run : VolumeRow) (volumes : List VolumeRow) (i times : ℕ) → Type 0
Runs before out first run volumes i times = Told before out (runs_behind first 1 volumes) (runs_behind run times (drop i volumes)) × (times ≤ i + 1)

pub goes_on : (before out now : List ℕ) (first run next : VolumeRow) (volumes : List VolumeRow) (i times count : ℕ) → i < length volumes → Runs before out first run volumes i times →
    are_alike (slice_index_or volumes i no_volume) run ≡ true → now ≡ out → next ≡ run → count ≡ times + 1 → Runs before now first next volumes (i + 1) count
goes_on before out now first run next volumes i times count less runs alike out_is run_is count_is =
    let left : runs_behind run times (drop i volumes) ≡ runs_behind next count (drop (i + 1) volumes) =
    ap (runs_behind run times) (drop_more volumes i no_volume less)
    ∙ run_on run (slice_index_or volumes i no_volume) times (drop (i + 1) volumes) alike
    ∙ (λ j. runs_behind (sym run_is j) (sym count_is j) (drop (i + 1) volumes)) in (
      subst (λ o. Told before o (runs_behind first 1 volumes) (runs_behind next count (drop (i + 1) volumes))) (sym out_is) (subst (Told before out (runs_behind first 1 volumes)) left runs.0),
      omega (arith, runs.1, count_is),
    )

pub ends : (before out now : List ℕ) (first run next : VolumeRow) (volumes : List VolumeRow) (i times count : ℕ) → i < length volumes → Runs before out first run volumes i times →
    are_alike (slice_index_or volumes i no_volume) run ≡ false → now ≡ out ++ 32 ∷ run_word run times → next ≡ slice_index_or volumes i no_volume → count ≡ 1 → Runs before now first next volumes (i + 1) count
ends before out now first run next volumes i times count less runs other out_is next_is count_is =
    let left : runs_behind run times (drop i volumes) ≡ run_word run times ∷ runs_behind next count (drop (i + 1) volumes) =
    ap (runs_behind run times) (drop_more volumes i no_volume less)
    ∙ run_ends run (slice_index_or volumes i no_volume) times (drop (i + 1) volumes) other
    ∙ (λ j. run_word run times ∷ runs_behind (sym next_is j) (sym count_is j) (drop (i + 1) volumes)) in (
      more_told before out now (runs_behind first 1 volumes) (runs_behind next count (drop (i + 1) volumes)) (run_word run times) (subst (Told before out (runs_behind first 1 volumes)) left runs.0) out_is,
      omega (arith, count_is),
    )
