-- What the passes over the pages of all sessions find.
use Rattle.std.proofs.Common.{◌≡◌, ◌≢◌, ◌⊎◌, ◌∙◌, ℕ, zero, suc, ◌+◌, ◌<◌, ◌≤◌, List, [], ◌∷◌, length, get_or, max, Option, Some, None, Bool, true, false, refl, sym, ap, subst, inl, inr, arith, eqb}
use Rattle.std.specs.Prelude.{slice_get, option_map, ◌==◌, ◌&&◌, ◌||◌, not, nat_le, if◌then◌else◌, map}
use Rattle.std.specs.List.{list_any}
use Rattle.std.proofs.lemmas.Bool.{and_parts, or_cases, cases_eq, ne_eqb, leb-true, le-leb, eqb-false}
use Rattle.gq_tag.specs.declared.Tag.{Tag}
use Rattle.gq_tag.specs.Tag.{is_less}
use Rattle.gq_tag.proofs.Order.{IsAtMost, at_most_refl, at_most_trans, less_at_most}
use Rattle.gq_page.specs.declared.page.Line.{Line}
use Rattle.gq_page.specs.Page.{Sheet, sheet_of, line_of, after_of, is_removal}
use Rattle.gq_client.specs.declared.view.Known.{Known}
use Rattle.gq_client.specs.declared.changing.Fate.{Fate}
use Rattle.gq_client.specs.Changing.{version_of, beside, later_of, greatest_from, all_know_from, latest_removal, asked_after, after_from}
use Rattle.gq_naming.specs.Standing.{IsAmong}

-- a line of the name, of the page of another session
pub record FoundIn (k own : ℕ) (name : List ℕ) (seen : List Known) (version : Tag) : Type 0 where
  pub place : ℕ
  pub known : Known
  pub line : Line
  pub at : slice_get seen place ≡ Some known
  pub other : k + place ≢ own
  pub has : line_of name known.page.lines.items ≡ Some line
  pub is : version ≡ version_of (k + place) line

later_cases : (best here : Option Tag) (version : Tag) → later_of best here ≡ Some version → (best ≡ Some version) ⊎ (here ≡ Some version)
later_cases None here version is = inr is
later_cases (Some x) None version is = inl is
later_cases (Some x) (Some y) version is = by (is_less y x) is
  where
    by : (b : Bool) → (if b then Some x else Some y) ≡ Some version → (Some x ≡ Some version) ⊎ (Some y ≡ Some version)
    by true e = inl e
    by false e = inr e

later-none : (best here : Option Tag) → later_of best here ≡ None → (best ≡ None) × (here ≡ None)
later-none None here is = (refl, is)
later-none (Some x) None is = absurd (none is)
  where
    none : Some x ≡ None → ⊥
    none h = cc
later-none (Some x) (Some y) is = absurd (by (is_less y x) is)
  where
    by : (b : Bool) → (if b then Some x else Some y) ≡ None → ⊥
    by true e = cc
    by false e = cc

pub record Here (k own : ℕ) (name : List ℕ) (known : Known) (version : Tag) : Type 0 where
  pub line : Line
  pub other : k ≢ own
  pub has : line_of name known.page.lines.items ≡ Some line
  pub is : version ≡ version_of k line

some_line : (k : ℕ) (found : Option Line) (version : Tag) → option_map (version_of k) found ≡ Some version → (line : Line) × (found ≡ Some line) × (version ≡ version_of k line)
some_line k None version is = absurd (none is)
  where
    none : None ≡ Some version → ⊥
    none h = cc
some_line k (Some line) version is = (line, refl, sym (the is))
  where
    the : Some (version_of k line) ≡ Some version → version_of k line ≡ version
    the h = cc

beside_here : (k own : ℕ) (name : List ℕ) (known : Known) (version : Tag) → beside k own name known ≡ Some version → Here k own name known version
beside_here k own name known version is = by (k == own) refl is
  where
    by : (b : Bool) → (k == own) ≡ b → (if b then None else option_map (version_of k) (line_of name known.page.lines.items)) ≡ Some version → Here k own name known version
    by true e h = absurd (none h)
      where
        none : None ≡ Some version → ⊥
        none n = cc
    by false e h =
        let found = some_line k (line_of name known.page.lines.items) version h in
        record { line = found.0; other = eqb-false k own e; has = found.1; is = found.2 }

pub found_from : (k own : ℕ) (name : List ℕ) (seen : List Known) (best : Option Tag) (version : Tag) → greatest_from k own name seen best ≡ Some version → (best ≡ Some version) ⊎ FoundIn k own name seen version
found_from k own name [] best version is = inl is
found_from k own name (known ∷ seen) best version is = by (found_from (k + 1) own name seen (later_of best (beside k own name known)) version is)
  where
    here : Here k own name known version → FoundIn k own name (known ∷ seen) version
    here h =
        let at_k : k + 0 ≡ k = omega arith in
        record { place = 0; known = known; line = h.line; at = refl; other = (λ e. h.other (sym at_k ∙ e)); has = h.has; is = h.is ∙ ap (λ j. version_of j h.line) (sym at_k) }

    by : (later_of best (beside k own name known) ≡ Some version) ⊎ FoundIn (k + 1) own name seen version → (best ≡ Some version) ⊎ FoundIn k own name (known ∷ seen) version
    by (inr f) =
        let same : k + 1 + f.place ≡ k + suc f.place = omega arith in
        inr (record { place = suc f.place; known = f.known; line = f.line; at = f.at; other = (λ e. f.other (same ∙ e)); has = f.has; is = f.is ∙ ap (λ j. version_of j f.line) same })
    by (inl later) = cases (later_cases best (beside k own name known) version later)
      where
        cases : (best ≡ Some version) ⊎ (beside k own name known ≡ Some version) → (best ≡ Some version) ⊎ FoundIn k own name (known ∷ seen) version
        cases (inl before) = inl before
        cases (inr now) = inr (here (beside_here k own name known version now))

-- none shows one
none_here : (k own : ℕ) (name : List ℕ) (known : Known) → beside k own name known ≡ None → k ≢ own → line_of name known.page.lines.items ≡ None
none_here k own name known is other = by (line_of name known.page.lines.items) (sym off ∙ is)
  where
    off : beside k own name known ≡ option_map (version_of k) (line_of name known.page.lines.items)
    off = rw (ne_eqb k own other) refl

    by : (found : Option Line) → option_map (version_of k) found ≡ None → found ≡ None
    by None h = refl
    by (Some line) h = absurd (none h)
      where
        none : Some (version_of k line) ≡ None → ⊥
        none n = cc

best_none : (k own : ℕ) (name : List ℕ) (seen : List Known) (best : Option Tag) → greatest_from k own name seen best ≡ None → best ≡ None
best_none k own name [] best is = is
best_none k own name (known ∷ seen) best is = (later-none best (beside k own name known) (best_none (k + 1) own name seen (later_of best (beside k own name known)) is)).0

pub none_from : (k own : ℕ) (name : List ℕ) (seen : List Known) (best : Option Tag) → greatest_from k own name seen best ≡ None → (place : ℕ) (known : Known) → slice_get seen place ≡ Some known → k + place ≢ own → line_of name known.page.lines.items ≡ None
none_from k own name [] best is place known at other = absurd (none at)
  where
    none : None ≡ Some known → ⊥
    none h = cc
none_from k own name (first ∷ seen) best is zero known at other =
    let after : later_of best (beside k own name first) ≡ None = best_none (k + 1) own name seen (later_of best (beside k own name first)) is in
    let same : first ≡ known = cc in
    let at_k : k + 0 ≡ k = omega arith in
    subst (λ z. line_of name z.page.lines.items ≡ None) same (none_here k own name first (later-none best (beside k own name first) after).1 (λ e. other (at_k ∙ e)))
none_from k own name (first ∷ seen) best is (suc place) known at other =
    let same : k + 1 + place ≡ k + suc place = omega arith in
    none_from (k + 1) own name seen (later_of best (beside k own name first)) is place known at (λ e. other (sym same ∙ e))

-- each other page was made beside one with that number
pub known_from : (k own number : ℕ) (seen : List Known) → all_know_from k own number seen ≡ true → (place : ℕ) (known : Known) → slice_get seen place ≡ Some known → k + place ≢ own → number ≤ after_of (sheet_of known.page) own
known_from k own number [] is place known at other = absurd (none at)
  where
    none : None ≡ Some known → ⊥
    none h = cc
known_from k own number (first ∷ seen) is zero known at other =
    let parts = and_parts (k == own || nat_le number (after_of (sheet_of first.page) own)) (all_know_from (k + 1) own number seen) is in
    let same : first ≡ known = cc in
    let at_k : k + 0 ≡ k = omega arith in
    let off : (k == own) ≡ false = ne_eqb k own (λ e. other (at_k ∙ e)) in
    let le : nat_le number (after_of (sheet_of first.page) own) ≡ true = rw off at parts.0 in
    subst (λ z. number ≤ after_of (sheet_of z.page) own) same (leb-true number (after_of (sheet_of first.page) own) le)
known_from k own number (first ∷ seen) is (suc place) known at other =
    let parts = and_parts (k == own || nat_le number (after_of (sheet_of first.page) own)) (all_know_from (k + 1) own number seen) is in
    let same : k + 1 + place ≡ k + suc place = omega arith in
    known_from (k + 1) own number seen parts.1 place known at (λ e. other (sym same ∙ e))

-- the numbers that pages are asked for, one by one
pub after_at : (k own : ℕ) (journal : Sheet) (fates : List Fate) (seen : List Known) (place : ℕ) (known : Known) → slice_get seen place ≡ Some known → get_or (after_from k own journal fates seen) place 0 ≡ asked_after own journal fates (k + place) known
after_at k own journal fates [] place known at = absurd (none at)
  where
    none : None ≡ Some known → ⊥
    none h = cc
after_at k own journal fates (first ∷ seen) zero known at =
    let same : first ≡ known = cc in
    let at_k : k ≡ k + 0 = omega arith in
    ap (λ z. asked_after own journal fates k z) same ∙ ap (λ j. asked_after own journal fates j known) at_k
after_at k own journal fates (first ∷ seen) (suc place) known at =
    let same : k + 1 + place ≡ k + suc place = omega arith in
    after_at (k + 1) own journal fates seen place known at ∙ ap (λ j. asked_after own journal fates j known) same

pub after_past : (k own : ℕ) (journal : Sheet) (fates : List Fate) (seen : List Known) (place : ℕ) → slice_get seen place ≡ None → get_or (after_from k own journal fates seen) place 0 ≡ 0
after_past k own journal fates [] zero at = refl
after_past k own journal fates [] (suc place) at = refl
after_past k own journal fates (first ∷ seen) zero at = absurd (none at)
  where
    none : Some first ≡ None → ⊥
    none h = cc
after_past k own journal fates (first ∷ seen) (suc place) at = after_past (k + 1) own journal fates seen place at

-- which places there are
pub place_is : {A : Type 0} (xs : List A) (place : ℕ) → (slice_get xs place ≡ None) × (length xs ≤ place) ⊎ ((x : A) × (slice_get xs place ≡ Some x) × (place < length xs))
place_is [] place = inl (refl, omega arith)
place_is (x ∷ xs) zero = inr (x, refl, omega arith)
place_is (x ∷ xs) (suc place) = by (place_is xs place)
  where
    by : (slice_get xs place ≡ None) × (length xs ≤ place) ⊎ ((y : _) × (slice_get xs place ≡ Some y) × (place < length xs)) → (slice_get xs place ≡ None) × (suc (length xs) ≤ suc place) ⊎ ((y : _) × (slice_get xs place ≡ Some y) × (suc place < suc (length xs)))
    by (inl past) = inl (past.0, (let le = past.1 in omega arith))
    by (inr here) = inr (here.0, here.1, (let lt = here.2 in omega arith))

pub past_end : (xs : List ℕ) (place : ℕ) → length xs ≤ place → get_or xs place 0 ≡ 0
past_end [] place le = refl
past_end (x ∷ xs) zero le = absurd (omega arith)
past_end (x ∷ xs) (suc place) le = past_end xs place (omega arith)

-- ---- the greatest is at least each

later_some : (best here : Option Tag) (b : Tag) → best ≡ Some b → (x : Tag) × (later_of best here ≡ Some x) × IsAtMost b x
later_some None here b is = absurd (none is)
  where
    none : None ≡ Some b → ⊥
    none h = cc
later_some (Some y) None b is = (y, refl, subst (λ z. IsAtMost b z) (sym (the is)) (at_most_refl b))
  where
    the : Some y ≡ Some b → y ≡ b
    the h = cc
later_some (Some y) (Some z) b is = by (is_less z y) refl
  where
    same : y ≡ b
    same = the is
      where
        the : Some y ≡ Some b → y ≡ b
        the h = cc

    by : (c : Bool) → is_less z y ≡ c → (x : Tag) × ((if c then Some y else Some z) ≡ Some x) × IsAtMost b x
    by true e = (y, refl, subst (λ w. IsAtMost w y) same (at_most_refl y))
    by false e = (z, refl, subst (λ w. IsAtMost w z) same e)

later_here : (best here : Option Tag) (b : Tag) → here ≡ Some b → (x : Tag) × (later_of best here ≡ Some x) × IsAtMost b x
later_here None here b is = (b, is, at_most_refl b)
later_here (Some y) None b is = absurd (none is)
  where
    none : None ≡ Some b → ⊥
    none h = cc
later_here (Some y) (Some z) b is = by (is_less z y) refl
  where
    same : z ≡ b
    same = the is
      where
        the : Some z ≡ Some b → z ≡ b
        the h = cc

    by : (c : Bool) → is_less z y ≡ c → (x : Tag) × ((if c then Some y else Some z) ≡ Some x) × IsAtMost b x
    by true e = (y, refl, subst (λ w. IsAtMost w y) same (less_at_most z y e))
    by false e = (z, refl, subst (λ w. IsAtMost w z) same (at_most_refl z))

best_most : (k own : ℕ) (name : List ℕ) (seen : List Known) (best : Option Tag) (version b : Tag) → greatest_from k own name seen best ≡ Some version → best ≡ Some b → IsAtMost b version
best_most k own name [] best version b is here = subst (λ z. IsAtMost b z) (the (sym here ∙ is)) (at_most_refl b)
  where
    the : Some b ≡ Some version → b ≡ version
    the h = cc
best_most k own name (known ∷ seen) best version b is here =
    let later = later_some best (beside k own name known) b here in
    at_most_trans b later.0 version later.2 (best_most (k + 1) own name seen (later_of best (beside k own name known)) version later.0 is later.1)

pub each_most : (k own : ℕ) (name : List ℕ) (seen : List Known) (best : Option Tag) (version : Tag) → greatest_from k own name seen best ≡ Some version
    → (place : ℕ) (known : Known) (line : Line) → slice_get seen place ≡ Some known → k + place ≢ own → line_of name known.page.lines.items ≡ Some line → IsAtMost (version_of (k + place) line) version
each_most k own name [] best version is place known line at other has = absurd (none at)
  where
    none : None ≡ Some known → ⊥
    none h = cc
each_most k own name (first ∷ seen) best version is zero known line at other has =
    let same : first ≡ known = cc in
    let at_k : k + 0 ≡ k = omega arith in
    let off : (k == own) ≡ false = ne_eqb k own (λ e. other (at_k ∙ e)) in
    let found : line_of name first.page.lines.items ≡ Some line = ap (λ z. line_of name z.page.lines.items) same ∙ has in
    let shown : beside k own name first ≡ Some (version_of k line) = rw (off, found) refl in
    let later = later_here best (beside k own name first) (version_of k line) shown in
    subst (λ j. IsAtMost (version_of j line) version) (sym at_k)
    (at_most_trans (version_of k line) later.0 version later.2 (best_most (k + 1) own name seen (later_of best (beside k own name first)) version later.0 is later.1))
each_most k own name (first ∷ seen) best version is (suc place) known line at other has =
    let same : k + 1 + place ≡ k + suc place = omega arith in
    subst (λ j. IsAtMost (version_of j line) version) same (each_most (k + 1) own name seen (later_of best (beside k own name first)) version is place known line at (λ e. other (sym same ∙ e)) has)

-- where no other page shows one, there is none
pub none_all : (k own : ℕ) (name : List ℕ) (seen : List Known) → ((place : ℕ) (known : Known) → slice_get seen place ≡ Some known → k + place ≢ own → line_of name known.page.lines.items ≡ None) → greatest_from k own name seen None ≡ None
none_all k own name [] each = refl
none_all k own name (known ∷ seen) each =
    ap (λ best. greatest_from (k + 1) own name seen best) (none (k == own) refl) ∙ none_all (k + 1) own name seen later
  where
    at_k : k + 0 ≡ k
    at_k = omega arith

    none : (b : Bool) → (k == own) ≡ b → (if b then None else option_map (version_of k) (line_of name known.page.lines.items)) ≡ None
    none true e = refl
    none false e = ap (option_map (version_of k)) (each 0 known refl (λ same. eqb-false k own e (sym at_k ∙ same)))

    later : (place : ℕ) (z : Known) → slice_get seen place ≡ Some z → k + 1 + place ≢ own → line_of name z.page.lines.items ≡ None
    later place z at other =
        let same : k + 1 + place ≡ k + suc place = omega arith in
        each (suc place) z at (λ e. other (same ∙ e))

pub know_all : (k own number : ℕ) (seen : List Known) → ((place : ℕ) (known : Known) → slice_get seen place ≡ Some known → k + place ≢ own → number ≤ after_of (sheet_of known.page) own) → all_know_from k own number seen ≡ true
know_all k own number [] each = refl
know_all k own number (known ∷ seen) each = both (k == own || nat_le number (after_of (sheet_of known.page) own)) (all_know_from (k + 1) own number seen) (here (k == own) refl) (know_all (k + 1) own number seen later)
  where
    both : (a b : Bool) → a ≡ true → b ≡ true → (a && b) ≡ true
    both a b first second = rw (first, second) refl

    at_k : k + 0 ≡ k
    at_k = omega arith

    here : (b : Bool) → (k == own) ≡ b → (b || nat_le number (after_of (sheet_of known.page) own)) ≡ true
    here true e = refl
    here false e = le-leb number (after_of (sheet_of known.page) own) (each 0 known refl (λ same. eqb-false k own e (sym at_k ∙ same)))

    later : (place : ℕ) (z : Known) → slice_get seen place ≡ Some z → k + 1 + place ≢ own → number ≤ after_of (sheet_of z.page) own
    later place z at other =
        let same : k + 1 + place ≡ k + suc place = omega arith in
        each (suc place) z at (λ e. other (same ∙ e))

-- the greatest number of removals is at least that of each
latest_least : (latest : ℕ) (lines : List Line) → latest ≤ latest_removal latest lines
latest_least latest [] = omega arith
latest_least latest (line ∷ lines) = by (λ n. latest_least n lines) (is_removal line)
  where
    by : ((n : ℕ) → n ≤ latest_removal n lines) → (b : Bool) → latest ≤ latest_removal (if b then max line.version latest else latest) lines
    by on true = let le : max line.version latest ≤ latest_removal (max line.version latest) lines = on (max line.version latest) in omega arith
    by on false = on latest

pub latest_each : (latest : ℕ) (lines : List Line) (l : Line) → IsAmong l lines → is_removal l ≡ true → l.version ≤ latest_removal latest lines
latest_each latest [] l among is = absurd among
latest_each latest (line ∷ lines) l (inl same) is =
    let here : is_removal line ≡ true = ap is_removal same ∙ is in
    let le : max line.version latest ≤ latest_removal (max line.version latest) lines = latest_least (max line.version latest) lines in
    let version : line.version ≡ l.version = ap (λ z. z.version) same in
    rw here (omega arith)
latest_each latest (line ∷ lines) l (inr among) is = latest_each (if is_removal line then max line.version latest else latest) lines l among is
