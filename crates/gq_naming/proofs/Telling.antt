-- What is told of a name is the greatest line.
use Rattle.std.proofs.Common.{◌≡◌, ◌⊎◌, ◌∙◌, ℕ, zero, suc, ◌+◌, ◌<◌, ◌≤◌, List, [], ◌∷◌, length, Option, Some, None, Bool, true, false, refl, sym, ap, subst, inl, inr, arith, true≢false}
use Rattle.std.specs.Prelude.{slice_get, option_map, if◌then◌else◌}
use Rattle.gq_tag.specs.declared.Tag.{Tag}
use Rattle.gq_tag.specs.declared.StoredCopy.{StoredCopy}
use Rattle.gq_tag.specs.Tag.{first_copy, first_tag, is_less, newer_of}
use Rattle.gq_tag.proofs.Order.{IsAtMost, less_from, less_at_most, at_most-parts}
use Rattle.gq_names.specs.Names.{Setting, Page, shown, greatest_of, greatest_shown}
use Rattle.gq_names.proofs.Views.{not_less_first}
use Rattle.gq_page.specs.declared.page.Line.{Line}
use Rattle.gq_page.specs.declared.page.Page.{Page as SeenPage}
use Rattle.gq_page.specs.Page.{Sheet, sheet_of, line_of}
use Rattle.gq_client.specs.declared.view.Known.{Known}
use Rattle.gq_client.specs.Changing.{version_of}
use Rattle.gq_client.specs.Looking.{page_at, line_at, later_line, shown_from}
use Rattle.gq_naming.specs.Standing.{Naming, copy_of, copy_told, IsPage, Sees}
use Rattle.gq_naming.specs.Laws.{AllGetsTell}
use Rattle.gq_naming.proofs.Kept.{line_found}

-- found at a session before this one
abbrev IsBefore : (k : ℕ) → Option (Tag × Line) → Type 0
IsBefore k None = Unit {0}
IsBefore k (Some found) = found.0.session < k

-- found at this session, with a version
abbrev IsAt : (k : ℕ) → Option (Tag × Line) → Type 0
IsAt k None = Unit {0}
IsAt k (Some found) = (found.0.session ≡ k) × (0 < found.0.number)

later_copy : (names : Naming) (k : ℕ) (best here : Option (Tag × Line)) → IsBefore k best → IsAt k here → copy_told names (later_line best here) ≡ newer_of (copy_told names best) (copy_told names here)
later_copy names k None None before at = refl
later_copy names k None (Some y) before at = rw (less_from first_tag y.0 (inl at.1)) refl
later_copy names k (Some x) None before at = by (is_less x.0 first_tag) refl
  where
    cx : StoredCopy
    cx = copy_told names (Some x)

    by : (b : Bool) → is_less x.0 first_tag ≡ b → copy_told names (Some x) ≡ (if b then first_copy else copy_told names (Some x))
    by true e = absurd (not_less_first x.0 e)
    by false e = refl
later_copy names k (Some x) (Some y) before at = by (is_less y.0 x.0) refl
  where
    by : (b : Bool) → is_less y.0 x.0 ≡ b → copy_told names (if b then Some x else Some y) ≡ newer_of (copy_told names (Some x)) (copy_told names (Some y))
    by true e = rw (less_at_most y.0 x.0 e) refl
    by false e = rw (less_from x.0 y.0 (parts (at_most-parts y.0 x.0 e))) refl
      where
        parts : (x.0.number < y.0.number) ⊎ ((y.0.number ≡ x.0.number) × (x.0.session ≤ y.0.session)) → (x.0.number < y.0.number) ⊎ ((x.0.number ≡ y.0.number) × (x.0.session < y.0.session))
        parts (inl less) = inl less
        parts (inr same) = inr (sym same.0, (let low : x.0.session < k = before in let here : y.0.session ≡ k = at.0 in omega arith))

later_before : (k : ℕ) (best here : Option (Tag × Line)) → IsBefore k best → IsAt k here → IsBefore (k + 1) (later_line best here)
later_before k None None before at = tt
later_before k None (Some y) before at = (let here : y.0.session ≡ k = at.0 in omega arith)
later_before k (Some x) None before at = (let low : x.0.session < k = before in omega arith)
later_before k (Some x) (Some y) before at = by (is_less y.0 x.0)
  where
    by : (b : Bool) → IsBefore (k + 1) (if b then Some x else Some y)
    by true = (let low : x.0.session < k = before in omega arith)
    by false = (let here : y.0.session ≡ k = at.0 in omega arith)

-- the line of one page
told_at : (names : Naming) (k : ℕ) (found : Option Line) → copy_told names (option_map (λ line. (version_of k line, line)) found) ≡ copy_of names k found
told_at names k None = refl
told_at names k (Some line) = refl

at_session : (k : ℕ) (a : List ℕ) (sheet : Sheet) → IsPage sheet → (found : Option Line) → line_of a sheet.lines ≡ found → IsAt k (option_map (λ line. (version_of k line, line)) found)
at_session k a sheet ok None is = tt
at_session k a sheet ok (Some line) is = (refl, ok.some line (line_found a sheet.lines line is).0)

module _ (names : Naming) (own : ℕ) (journal : Option SeenPage) (a : List ℕ) (f : ℕ → StoredCopy) where
  told_from : (k : ℕ) (seen : List Known) (best : Option (Tag × Line)) → IsBefore k best → copy_told names best ≡ greatest_of k f
      → ((place : ℕ) (known : Known) → slice_get seen place ≡ Some known → f (k + place) ≡ copy_of names (k + place) (line_of a (page_at (k + place) own journal known).lines.items))
      → ((place : ℕ) (known : Known) → slice_get seen place ≡ Some known → IsPage (sheet_of (page_at (k + place) own journal known)))
      → copy_told names (shown_from k own journal a seen best) ≡ greatest_of (k + length seen) f
  told_from k [] best before is each pages = let same : k + 0 ≡ k = omega arith in is ∙ ap (λ n. greatest_of n f) (sym same)
  told_from k (known ∷ seen) best before is each pages =
      told_from (k + 1) seen (later_line best (line_at k own journal a known)) (later_before k best (line_at k own journal a known) before at) next later_each later_pages ∙ ap (λ n. greatest_of n f) count
    where
      count : k + 1 + length seen ≡ k + suc (length seen)
      count = omega arith

      at_k : k + 0 ≡ k
      at_k = omega arith

      at : IsAt k (line_at k own journal a known)
      at = at_session k a (sheet_of (page_at k own journal known)) (subst (λ j. IsPage (sheet_of (page_at j own journal known))) at_k (pages 0 known refl)) (line_of a (page_at k own journal known).lines.items) refl

      here : f k ≡ copy_told names (line_at k own journal a known)
      here = subst (λ j. f j ≡ copy_of names j (line_of a (page_at j own journal known).lines.items)) at_k (each 0 known refl) ∙ sym (told_at names k (line_of a (page_at k own journal known).lines.items))

      next : copy_told names (later_line best (line_at k own journal a known)) ≡ greatest_of (k + 1) f
      next =
          let one : suc k ≡ k + 1 = omega arith in
          later_copy names k best (line_at k own journal a known) before at ∙ ap (λ c. newer_of c (copy_told names (line_at k own journal a known))) is ∙ ap (λ c. newer_of (greatest_of k f) c) (sym here) ∙ ap (λ n. greatest_of n f) one

      later_each : (place : ℕ) (z : Known) → slice_get seen place ≡ Some z → f (k + 1 + place) ≡ copy_of names (k + 1 + place) (line_of a (page_at (k + 1 + place) own journal z).lines.items)
      later_each place z there =
          let same : k + suc place ≡ k + 1 + place = omega arith in
          subst (λ j. f j ≡ copy_of names j (line_of a (page_at j own journal z).lines.items)) same (each (suc place) z there)

      later_pages : (place : ℕ) (z : Known) → slice_get seen place ≡ Some z → IsPage (sheet_of (page_at (k + 1 + place) own journal z))
      later_pages place z there =
          let same : k + suc place ≡ k + 1 + place = omega arith in
          subst (λ j. IsPage (sheet_of (page_at j own journal z))) same (pages (suc place) z there)

pub gets_tell : AllGetsTell
gets_tell names v own journal seen pages a n sees ok number =
    let all : 0 + length seen ≡ v.sessions = (let many : length seen ≡ v.sessions = sees.many in omega arith) in
    let f : ℕ → StoredCopy = λ t. shown (pages t) n in
    told_from names own journal a f 0 seen None tt refl
    (λ place known at. let same : place ≡ 0 + place = omega arith in subst (λ j. f j ≡ copy_of names j (line_of a (page_at j own journal known).lines.items)) same ((sees.each place known at).lines a n number))
    (λ place known at. let same : place ≡ 0 + place = omega arith in subst (λ j. IsPage (sheet_of (page_at j own journal known))) same (ok place known at))
    ∙ ap (λ m. greatest_of m f) all
