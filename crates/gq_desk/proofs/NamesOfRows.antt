-- Names among rows, by their numbers.
use Rattle.std.proofs.Common.{◌≡◌, ℕ, ◌+◌, List, [], ◌∷◌, ◌++◌, Bool, true, false, cond, Option, Some, None, refl, ap, ◌∙◌, ◌||◌}
use Rattle.std.specs.Prelude.{map, position, nat_eq, is_some}
use Rattle.std.specs.List.{list_any, list_all, position_from}
use Rattle.std.specs.Str.{bytes_eq}
use Rattle.std.proofs.lemmas.Bool.{and_parts}
use Rattle.std.proofs.lemmas.Bool.Decides.{same_from_decides, Decides-like, Decides-eqb}
use Rattle.std.proofs.lemmas.List.{map-append}
use Rattle.std.proofs.lemmas.Slice.Eq.{bytes_eq-Decides}
use Rattle.indexmap.specs.IndexSet.{insert_key}
use Rattle.std.proofs.lemmas.Iterator.Adapters.{position_from-zero}
use Rattle.gq_desk.specs.declared.plans.TenantRow.{TenantRow}
use Rattle.gq_desk.specs.Names.{is_letter, is_name}
use Rattle.gq_desk.specs.NameNumbers.{word_number}
use Rattle.gq_desk.specs.Plans.{is_of, is_named}
use Rattle.gq_desk.proofs.WordNumbers.{same_word}

-- the numbers of the rows' names
abbrev pub numbers_of : List TenantRow → List ℕ
numbers_of rows = map (λ row. word_number row.name) rows

letters_of_name : (name : List ℕ) → is_name name ≡ true → list_all is_letter name ≡ true
letters_of_name name is = (and_parts _ _ (and_parts _ _ is).1).0

-- a word of letters has a name's number where it is the name
same_test : (word name : List ℕ) → list_all is_letter word ≡ true → is_name name ≡ true → nat_eq (word_number word) (word_number name) ≡ bytes_eq word name
same_test word name letters is =
    same_from_decides _ _ (Decides-like _ (same_word word name letters (letters_of_name name is)) (ap word_number) (Decides-eqb (word_number word) (word_number name))) (bytes_eq-Decides word name)

-- the word's number is among the rows' where a row is of the word
pub any_of : (word : List ℕ) (rows : List TenantRow) → list_all is_letter word ≡ true → list_all is_named rows ≡ true → list_any (nat_eq (word_number word)) (numbers_of rows) ≡ list_any (is_of word) rows
any_of word [] letters named = refl
any_of word (row ∷ rows) letters named =
    let parts = and_parts (is_named row) (list_all is_named rows) named in
    rw (same_test word row.name letters parts.0) (ap (λ b. bytes_eq word row.name || b) (any_of word rows letters parts.1))

-- and at the same place
place_from : (word : List ℕ) (n : ℕ) (rows : List TenantRow) → list_all is_letter word ≡ true → list_all is_named rows ≡ true → position_from (nat_eq (word_number word)) n (numbers_of rows) ≡ position_from (is_of word) n rows
place_from word n [] letters named = refl
place_from word n (row ∷ rows) letters named =
    let parts = and_parts (is_named row) (list_all is_named rows) named in
    rw (same_test word row.name letters parts.0) (ap (λ o. cond (bytes_eq word row.name) (Some n) o) (place_from word (n + 1) rows letters parts.1))

pub place_of : (word : List ℕ) (rows : List TenantRow) → list_all is_letter word ≡ true → list_all is_named rows ≡ true → position (nat_eq (word_number word)) (numbers_of rows) ≡ position_from (is_of word) 0 rows
place_of word rows letters named = position_from-zero (nat_eq (word_number word)) (numbers_of rows) ∙ place_from word 0 rows letters named

-- a place is found where there is a row
pub is_found : (p : TenantRow → Bool) (n : ℕ) (rows : List TenantRow) → is_some (position_from p n rows) ≡ list_any p rows
is_found p n [] = refl
is_found p n (row ∷ rows) = by (p row) (is_found p (n + 1) rows)
  where
    by : (b : Bool) → is_some (position_from p (n + 1) rows) ≡ list_any p rows → is_some (cond b (Some n) (position_from p (n + 1) rows)) ≡ (b || list_any p rows)
    by true later = refl
    by false later = later

-- a word that is no name is that of no row
pub no_place_of : (word : List ℕ) (n : ℕ) (rows : List TenantRow) → is_name word ≡ false → list_all is_named rows ≡ true → position_from (is_of word) n rows ≡ None
no_place_of word n [] none named = refl
no_place_of word n (row ∷ rows) none named =
    let parts = and_parts (is_named row) (list_all is_named rows) named in
    by (bytes_eq word row.name) (λ is. cc ((bytes_eq-Decides word row.name).0 is, none, parts.0)) (no_place_of word (n + 1) rows none parts.1)
  where
    by : (b : Bool) → (b ≡ true → ⊥) → position_from (is_of word) (n + 1) rows ≡ None → cond b (Some n) (position_from (is_of word) (n + 1) rows) ≡ None
    by true not_it later = absurd (not_it refl)
    by false not_it later = later

-- a row of a new name
pub with_row : (numbers : List ℕ) (rows : List TenantRow) (row : TenantRow) → numbers ≡ numbers_of rows → list_all is_named rows ≡ true → is_named row ≡ true → list_any (is_of row.name) rows ≡ false →
    insert_key nat_eq numbers (word_number row.name) ≡ numbers_of (rows ++ row ∷ [])
with_row numbers rows row is named row_named fresh =
    let none : list_any (nat_eq (word_number row.name)) numbers ≡ false = rw is (any_of row.name rows (letters_of_name row.name row_named) named ∙ fresh) in
    rw (none, is, map-append) refl
