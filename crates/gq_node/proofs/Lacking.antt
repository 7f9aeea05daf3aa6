-- Which files a server lacks once it was given one more.
use Rattle.std.proofs.Common.{◌≡◌, ◌∙◌, ℕ, ◌<◌, ◌≤◌, Bool, true, false, List, [], ◌∷◌, zero, suc, ◌+◌, arith, length, replicate, refl, sym, ap, subst, inl, inr}
use Rattle.std.specs.Prelude.{◌&&◌, not, nat_lt, slice_set, slice_index_or}
use Rattle.std.specs.List.{list_all}
use Rattle.std.proofs.lemmas.Bool.{cases_eq, cases_lt, eq-eqb, ne_eqb, le-ltb, lt-ltb}
use Rattle.std.proofs.Math.ListN.{get_or-eq_default}
use Rattle.std.proofs.lemmas.List.{get_or_default, get_or-set_same, get_or-set_other, get_or-replicate, length-set, length-replicate}
use Rattle.std.proofs.lemmas.List.FromFn.{get_or-map-range_with_len, length-map-range_with_len}
use Rattle.gq_desk.specs.declared.volumes.VolumeRow.{VolumeRow}
use Rattle.gq_tag.specs.declared.TheConstants.{MOST_FILES}
use Rattle.gq_tag.specs.Tag.{File, is_file}
use Rattle.gq_desk.specs.declared.limits.TheConstants.{MOST_FILE_BLOCKS}
use Rattle.gq_desk.specs.Volumes.{is_sized}
use Rattle.gq_model.specs.Trace.{files_of}
use Rattle.gq_node.proofs.Listing.{sized_files}
use Rattle.gq_node.specs.Lacks.{Given, is_given, lacks_in, HasRoom, AllGiven, AllWhole, marks_for, all_lost}

with_true : (b : Bool) → b ≡ (b && not false)
with_true true = refl
with_true false = refl

with_false : (b : Bool) → false ≡ (b && not true)
with_false true = refl
with_false false = refl

-- the file of that number in that volume is given
abbrev pub with_file : Given → (volume place : ℕ) → Given
with_file given v p = slice_set given v (slice_set (slice_index_or given v []) p true)

pub given_more : (given : Given) (v p : ℕ) → v < length given → p < length (slice_index_or given v []) → (f : File) → lacks_in (with_file given v p) f ≡ (lacks_in given f && not (is_file (record { volume = v; place = p }) f))
given_more given v p within long f = elim (cases_eq f.volume v) [
  | inr other ↦ (
      let files : slice_index_or (with_file given v p) f.volume [] ≡ slice_index_or given f.volume [] = get_or-set_other given v f.volume (slice_set (slice_index_or given v []) p true) [] other in
      let apart : is_file (record { volume = v; place = p }) f ≡ false = rw (ne_eqb v f.volume (λ e. other (sym e))) refl in
      ap (λ n. nat_lt f.volume n && not (is_given (with_file given v p) f)) (length-set given v (slice_set (slice_index_or given v []) p true))
      ∙ ap (λ (fs : List Bool). nat_lt f.volume (length given) && not (slice_index_or fs f.place false)) files
      ∙ with_true (lacks_in given f)
      ∙ ap (λ b. lacks_in given f && not b) (sym apart))
  | inl same ↦ (
      let files : slice_index_or (with_file given v p) f.volume [] ≡ slice_set (slice_index_or given v []) p true =
      ap (λ n. slice_index_or (with_file given v p) n []) same ∙ get_or-set_same given v (slice_set (slice_index_or given v []) p true) [] within in
      ap (λ n. nat_lt f.volume n && not (is_given (with_file given v p) f)) (length-set given v (slice_set (slice_index_or given v []) p true))
      ∙ ap (λ (fs : List Bool). nat_lt f.volume (length given) && not (slice_index_or fs f.place false)) files
      ∙ (elim (cases_eq f.place p) [
        | inl here ↦ (
            let it : slice_index_or (slice_set (slice_index_or given v []) p true) f.place false ≡ true = ap (λ n. slice_index_or (slice_set (slice_index_or given v []) p true) n false) here ∙ get_or-set_same (slice_index_or given v []) p true false long in
            let is : is_file (record { volume = v; place = p }) f ≡ true = rw (eq-eqb v f.volume (sym same), eq-eqb p f.place (sym here)) refl in
            ap (λ b. nat_lt f.volume (length given) && not b) it
            ∙ off (nat_lt f.volume (length given))
            ∙ with_false (lacks_in given f)
            ∙ ap (λ b. lacks_in given f && not b) (sym is))
        | inr there ↦ (
            let it : slice_index_or (slice_set (slice_index_or given v []) p true) f.place false ≡ slice_index_or (slice_index_or given v []) f.place false = get_or-set_other (slice_index_or given v []) p f.place true false there in
            let is : is_file (record { volume = v; place = p }) f ≡ false = rw (eq-eqb v f.volume (sym same), ne_eqb p f.place (λ e. there (sym e))) refl in
            ap (λ b. nat_lt f.volume (length given) && not b) (it ∙ ap (λ n. slice_index_or (slice_index_or given n []) f.place false) (sym same))
            ∙ with_true (lacks_in given f)
            ∙ ap (λ b. lacks_in given f && not b) (sym is))
      ]))
]
  where
    off : (b : Bool) → (b && not true) ≡ false
    off true = refl
    off false = refl

-- of a volume that was not lost nothing is lacked
pub given_no_more : (given : Given) (v p : ℕ) → length given ≤ v → (f : File) → lacks_in given f ≡ (lacks_in given f && not (is_file (record { volume = v; place = p }) f))
given_no_more given v p past f = elim (cases_eq v f.volume) [
  | inr other ↦ (let apart : is_file (record { volume = v; place = p }) f ≡ false = rw (ne_eqb v f.volume other) refl in with_true (lacks_in given f) ∙ ap (λ b. lacks_in given f && not b) (sym apart))
  | inl same ↦ (let none : nat_lt f.volume (length given) ≡ false = le-ltb f.volume (length given) (subst (λ n. length given ≤ n) same past) in rw none refl)
]

-- ---- before which file of a volume each was given

-- once one more was
pub given_still : (files : List Bool) (first file : ℕ) → file < length files → AllGiven files first → AllGiven (slice_set files file true) first
given_still files first file within all place below = elim (cases_eq place file) [
  | inl same ↦ (ap (λ n. slice_index_or (slice_set files file true) n false) same ∙ get_or-set_same files file true false within)
  | inr other ↦ (get_or-set_other files file place true false other ∙ all place below)
]

-- one file more
pub given_on : (files : List Bool) (first : ℕ) → AllGiven files first → slice_index_or files first false ≡ true → AllGiven files (first + 1)
given_on files first all one place below = elim (cases_eq place first) [
  | inl same ↦ (ap (λ n. slice_index_or files n false) same ∙ one)
  | inr other ↦ (all place (omega (arith, below, other)))
]

pub given_before : (files : List Bool) (first other : ℕ) → AllGiven files first → other ≤ first → AllGiven files other
given_before files first other all low place below = all place (omega (arith, below, low))

-- a list of lists as it is read
pub list_read : {A : Type 0} (lists all : List (List A)) (n : ℕ) (it empty : List A) → all ≡ lists → n < length lists → it ≡ slice_index_or all n empty → it ≡ slice_index_or lists n []
list_read {A} lists all n it empty all_is within it_is = it_is ∙ ap (λ (xs : List (List A)). slice_index_or xs n empty) all_is ∙ get_or_default lists n empty [] within

-- of these nothing is lacked, nor of a volume that was not lost
pub none_lacked : (given : Given) (v first : ℕ) → AllGiven (slice_index_or given v []) first → (place : ℕ) → place < first → lacks_in given (record { volume = v; place = place }) ≡ false
none_lacked given v first all place below = ap (λ b. nat_lt v (length given) && not b) (all place below) ∙ off (nat_lt v (length given))
  where
    off : (b : Bool) → (b && not true) ≡ false
    off true = refl
    off false = refl

pub none_lacked_past : (given : Given) (v : ℕ) → length given ≤ v → (place : ℕ) → lacks_in given (record { volume = v; place = place }) ≡ false
none_lacked_past given v past place = rw (le-ltb v (length given) past) refl

-- ---- the marks

-- one more is given: as many are marked
pub marks_after : (given : Given) (v p : ℕ) → v < length given → (u : ℕ) → length (slice_index_or (with_file given v p) u []) ≡ length (slice_index_or given u [])
marks_after given v p within u = elim (cases_eq u v) [
  | inl same ↦ (ap (λ n. length (slice_index_or (with_file given v p) n [])) same ∙ ap length (get_or-set_same given v (slice_set (slice_index_or given v []) p true) [] within) ∙ length-set (slice_index_or given v []) p true ∙ ap (λ n. length (slice_index_or given n [])) (sym same))
  | inr other ↦ (ap length (get_or-set_other given v u (slice_set (slice_index_or given v []) p true) [] other))
]

pub room_after : (given : Given) (v p : ℕ) → v < length given → HasRoom given → HasRoom (with_file given v p)
room_after given v p within room u below =
    subst (λ n. n ≤ MOST_FILES) (sym (marks_after given v p within u)) (room u (subst (λ n. u < n) (length-set given v (slice_set (slice_index_or given v []) p true)) below))

-- and each volume that was given whole is so still
pub whole_after : (given : Given) (v p first : ℕ) → v < length given → p < length (slice_index_or given v []) → AllWhole given first → AllWhole (with_file given v p) first
whole_after given v p first within long whole u below = elim (cases_eq u v) [
  | inl same ↦ (
      let files : slice_index_or (with_file given v p) u [] ≡ slice_set (slice_index_or given v []) p true = ap (λ n. slice_index_or (with_file given v p) n []) same ∙ get_or-set_same given v (slice_set (slice_index_or given v []) p true) [] within in
      let count : length (slice_set (slice_index_or given v []) p true) ≡ length (slice_index_or given v []) = length-set (slice_index_or given v []) p true in
      let before : AllGiven (slice_index_or given v []) (length (slice_index_or given v [])) = whole v (subst (λ n. n < first) same below) in
      subst (λ (fs : List Bool). AllGiven fs (length fs)) (sym files)
      (subst (λ n. AllGiven (slice_set (slice_index_or given v []) p true) n) (sym count) (given_still (slice_index_or given v []) (length (slice_index_or given v [])) p long before)))
  | inr other ↦ (subst (λ (fs : List Bool). AllGiven fs (length fs)) (sym (get_or-set_other given v u (slice_set (slice_index_or given v []) p true) [] other)) (whole u below))
]

-- one volume more
pub whole_on : (given : Given) (first : ℕ) → AllWhole given first → AllGiven (slice_index_or given first []) (length (slice_index_or given first [])) → AllWhole given (first + 1)
whole_on given first whole one v below = elim (cases_eq v first) [
  | inl same ↦ (subst (λ n. AllGiven (slice_index_or given n []) (length (slice_index_or given n []))) (sym same) one)
  | inr other ↦ (whole v (omega (arith, below, other)))
]

pub whole_before : (given : Given) (first other : ℕ) → AllWhole given first → other ≤ first → AllWhole given other
whole_before given first other whole low v below = whole v (omega (arith, below, low))

pub none_whole : (given : Given) → AllWhole given 0
none_whole given v below = absurd (omega arith)

-- how many are marked of a volume
pub marks_there : (rows : List VolumeRow) (v : ℕ) → v < length rows → marks_for rows v ≡ files_of rows v
marks_there rows v low = rw (lt-ltb v (length rows) low) refl

pub marks_past : (rows : List VolumeRow) (v : ℕ) → length rows ≤ v → marks_for rows v ≡ MOST_FILES
marks_past rows v past = rw (le-ltb v (length rows) past) refl

pub marks_few : (rows : List VolumeRow) → list_all (is_sized MOST_FILE_BLOCKS) rows ≡ true → (v : ℕ) → marks_for rows v ≤ MOST_FILES
marks_few rows sized v = elim (cases_lt v (length rows)) [
  | inl low ↦ (omega (arith, marks_there rows v low, (sized_files MOST_FILE_BLOCKS rows v sized low).1))
  | inr past ↦ (omega (arith, marks_past rows v past))
]

-- where all files of the first volumes were lost
pub lost_at : (rows : List VolumeRow) (n v : ℕ) → v < n → slice_index_or (all_lost rows n) v [] ≡ replicate (marks_for rows v) false
lost_at rows n v low = get_or-map-range_with_len (λ u. replicate (marks_for rows u) false) 0 n v v [] low (omega arith)

pub lost_count : (rows : List VolumeRow) (n : ℕ) → length (all_lost rows n) ≡ n
lost_count rows n = length-map-range_with_len (λ u. replicate (marks_for rows u) false) 0 n

pub lost_marks : (rows : List VolumeRow) (n v : ℕ) → v < n → length (slice_index_or (all_lost rows n) v []) ≡ marks_for rows v
lost_marks rows n v low = ap length (lost_at rows n v low) ∙ length-replicate (marks_for rows v) false

pub room_first : (rows : List VolumeRow) (n : ℕ) → ((v : ℕ) → marks_for rows v ≤ MOST_FILES) → HasRoom (all_lost rows n)
room_first rows n few v within =
    let low : v < n = subst (λ m. v < m) (lost_count rows n) within in
    subst (λ m. m ≤ MOST_FILES) (sym (lost_marks rows n v low)) (few v)

-- behind the last of a list is nothing
pub none_beyond : (xs : List ℕ) (n : ℕ) → length xs ≤ n → slice_index_or xs n 0 ≡ 0
none_beyond [] n beyond = refl
none_beyond (x ∷ xs) zero beyond = absurd (omega arith)
none_beyond (x ∷ xs) (suc n) beyond = none_beyond xs n (omega arith)

-- a file of such a volume was not given
pub none_given : (rows : List VolumeRow) (n v place : ℕ) → slice_index_or (slice_index_or (all_lost rows n) v []) place false ≡ false
none_given rows n v place = elim (cases_lt v n) [
  | inl low ↦ (ap (λ (files : List Bool). slice_index_or files place false) (lost_at rows n v low) ∙ unmarked (marks_for rows v) place)
  | inr past ↦ (ap (λ (files : List Bool). slice_index_or files place false) (get_or-eq_default (all_lost rows n) [] (subst (λ m. m ≤ v) (sym (lost_count rows n)) past)))
]
  where
    unmarked : (m i : ℕ) → slice_index_or (replicate m false) i false ≡ false
    unmarked m i = elim (cases_lt i m) [
      | inl inside ↦ (get_or-replicate m i false false inside)
      | inr past ↦ (get_or-eq_default (replicate m false) false (subst (λ k. k ≤ i) (sym (length-replicate m false)) past))
    ]
