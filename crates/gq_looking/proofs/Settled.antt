-- What settles a file is a look.
use Rattle.std.proofs.Common.{◌≡◌, ◌⊎◌, ◌∙◌, ℕ, ◌+◌, List, [], ◌∷◌, map, Option, Some, None, Bool, true, false, ◌||◌, refl, sym, ap, subst, inl, inr, arith, cond, eq-eqb}
use Rattle.std.specs.Prelude.{◌==◌, not, find, unwrap_or, Contains, All, if◌then◌else◌}
use Rattle.std.specs.List.{list_any, AllByRecursion}
use Rattle.std.proofs.lemmas.Bool.{and_parts, or_cases, not-true, eqb-true}
use Rattle.std.proofs.lemmas.List.Elements.{All-contains, All-from_recursion}
use Rattle.gq_grid.specs.Grid.{Grid, Servers, no_servers, with_server, has_row, has_column}
use Rattle.gq_grid.proofs.Meeting.{has_row_more, has_column_more}
use Rattle.gq_tag.specs.declared.Tag.{Tag}
use Rattle.gq_tag.specs.declared.StoredCopy.{StoredCopy}
use Rattle.gq_tag.specs.Tag.{is_less, is_unexceeded, greatest, first_copy}
use Rattle.gq_tag.proofs.Order.{at_most_refl, at_most-parts}
use Rattle.gq_phase.specs.Quorums.{ends_collect, ends_store}
use Rattle.gq_looks.specs.Looks.{Seen, WasSeen, copy_of, servers_of}
use Rattle.gq_look.specs.Look.{most_from, least_from, settles, found_from}
use Rattle.gq_looking.specs.Heard.{tags_of, most_of, least_of, look_by, Stand, AllSettledAreLooks}

-- ---- those that were seen

most_each : (P : Seen → Type 0) (k : ℕ) (tag : Tag) (heard : List (Option Seen)) → Stand P k heard → AllByRecursion P (most_of tag heard)
most_each P k tag [] stand = tt
most_each P k tag (None ∷ heard) stand = most_each P (k + 1) tag heard stand
most_each P k tag (Some s ∷ heard) stand = by (most_each P (k + 1) tag heard stand.1) (is_less tag s.copy.tag)
  where
    by : AllByRecursion P (most_of tag heard) → (b : Bool) → AllByRecursion P (if b then most_of tag heard else s ∷ most_of tag heard)
    by rest true = rest
    by rest false = (stand.0.1, rest)

least_each : (P : Seen → Type 0) (k : ℕ) (tag : Tag) (heard : List (Option Seen)) → Stand P k heard → AllByRecursion (λ s. P s × (is_less s.copy.tag tag ≡ false)) (least_of tag heard)
least_each P k tag [] stand = tt
least_each P k tag (None ∷ heard) stand = least_each P (k + 1) tag heard stand
least_each P k tag (Some s ∷ heard) stand = by (least_each P (k + 1) tag heard stand.1) (is_less s.copy.tag tag) refl
  where
    by : AllByRecursion (λ s. P s × (is_less s.copy.tag tag ≡ false)) (least_of tag heard) → (b : Bool) → is_less s.copy.tag tag ≡ b → AllByRecursion (λ s. P s × (is_less s.copy.tag tag ≡ false)) (if b then least_of tag heard else s ∷ least_of tag heard)
    by rest true e = rest
    by rest false e = ((stand.0.1, e), rest)

most_below : (tag : Tag) (heard : List (Option Seen)) → AllByRecursion (λ c. is_less tag c.tag ≡ false) (map (λ s. s.copy) (most_of tag heard))
most_below tag [] = tt
most_below tag (None ∷ heard) = most_below tag heard
most_below tag (Some s ∷ heard) = by (most_below tag heard) (is_less tag s.copy.tag) refl
  where
    by : AllByRecursion (λ c. is_less tag c.tag ≡ false) (map (λ s. s.copy) (most_of tag heard)) → (b : Bool) → is_less tag s.copy.tag ≡ b → AllByRecursion (λ c. is_less tag c.tag ≡ false) (map (λ s. s.copy) (if b then most_of tag heard else s ∷ most_of tag heard))
    by rest true e = rest
    by rest false e = (e, rest)

-- ---- their places

one_place : (set : Servers) (k p : ℕ) → with_server k set p ≡ true → (set p ≡ true) ⊎ (k ≡ p)
one_place set k p h = elim (or_cases (set p) (k == p) h) [
  | inl e ↦ inl e
  | inr e ↦ inr (eqb-true k p e)
]

most_places : (P : Seen → Type 0) (k : ℕ) (tag : Tag) (heard : List (Option Seen)) (set : Servers) (p : ℕ) → Stand P k heard → most_from k tag (tags_of heard) set p ≡ true → (set p ≡ true) ⊎ (servers_of (most_of tag heard) p ≡ true)
most_places P k tag [] set p stand h = inl h
most_places P k tag (None ∷ heard) set p stand h = most_places P (k + 1) tag heard set p stand h
most_places P k tag (Some s ∷ heard) set p stand h = by (λ other g. most_places P (k + 1) tag heard other p stand.1 g) (is_less tag s.copy.tag) h
  where
    later : servers_of (most_of tag heard) p ≡ true → ((s.server == p) || servers_of (most_of tag heard) p) ≡ true
    later e = rw e (or_true (s.server == p))
      where
        or_true : (b : Bool) → (b || true) ≡ true
        or_true true = refl
        or_true false = refl

    here : k ≡ p → ((s.server == p) || servers_of (most_of tag heard) p) ≡ true
    here e = rw (eq-eqb s.server p (stand.0.0 ∙ e)) refl

    by : ((other : Servers) → most_from (k + 1) tag (tags_of heard) other p ≡ true → (other p ≡ true) ⊎ (servers_of (most_of tag heard) p ≡ true)) → (b : Bool) → most_from (k + 1) tag (tags_of heard) (if b then set else with_server k set) p ≡ true → (set p ≡ true) ⊎ (servers_of (if b then most_of tag heard else s ∷ most_of tag heard) p ≡ true)
    by rest true g = elim (rest set g) [ inl e ↦ inl e | inr e ↦ inr e ]
    by rest false g = elim (rest (with_server k set) g) [
      | inl e ↦ elim (one_place set k p e) [ inl f ↦ inl f | inr f ↦ inr (here f) ]
      | inr e ↦ inr (later e)
    ]

least_places : (P : Seen → Type 0) (k : ℕ) (tag : Tag) (heard : List (Option Seen)) (set : Servers) (p : ℕ) → Stand P k heard → least_from k tag (tags_of heard) set p ≡ true → (set p ≡ true) ⊎ (servers_of (least_of tag heard) p ≡ true)
least_places P k tag [] set p stand h = inl h
least_places P k tag (None ∷ heard) set p stand h = least_places P (k + 1) tag heard set p stand h
least_places P k tag (Some s ∷ heard) set p stand h = by (λ other g. least_places P (k + 1) tag heard other p stand.1 g) (is_less s.copy.tag tag) h
  where
    later : servers_of (least_of tag heard) p ≡ true → ((s.server == p) || servers_of (least_of tag heard) p) ≡ true
    later e = rw e (or_true (s.server == p))
      where
        or_true : (b : Bool) → (b || true) ≡ true
        or_true true = refl
        or_true false = refl

    here : k ≡ p → ((s.server == p) || servers_of (least_of tag heard) p) ≡ true
    here e = rw (eq-eqb s.server p (stand.0.0 ∙ e)) refl

    by : ((other : Servers) → least_from (k + 1) tag (tags_of heard) other p ≡ true → (other p ≡ true) ⊎ (servers_of (least_of tag heard) p ≡ true)) → (b : Bool) → least_from (k + 1) tag (tags_of heard) (if b then set else with_server k set) p ≡ true → (set p ≡ true) ⊎ (servers_of (if b then least_of tag heard else s ∷ least_of tag heard) p ≡ true)
    by rest true g = elim (rest set g) [ inl e ↦ inl e | inr e ↦ inr e ]
    by rest false g = elim (rest (with_server k set) g) [
      | inl e ↦ elim (one_place set k p e) [ inl f ↦ inl f | inr f ↦ inr (here f) ]
      | inr e ↦ inr (later e)
    ]

from_none : {B : Type 0} → (false ≡ true) ⊎ B → B
from_none (inl h) = absurd (no h)
  where
    no : false ≡ true → ⊥
    no k = cc
from_none (inr b) = b

-- ---- the tag of the greatest copy

abbrev pub HasTag : Tag → List StoredCopy → Type 0
HasTag tag [] = ⊥
HasTag tag (c ∷ copies) = (c.tag ≡ tag) ⊎ HasTag tag copies

tag_path : (a b : Tag) → a.number ≡ b.number → a.session ≡ b.session → a ≡ b
tag_path a b number session = ap (λ n. the_tag n a.session) number ∙ ap (the_tag b.number) session
  where
    the_tag : ℕ → ℕ → Tag
    the_tag n s = record { number = n; session = s }

tags_same : (a b : Tag) → is_less a b ≡ false → is_less b a ≡ false → a ≡ b
tags_same a b h k =
    let x = at_most-parts a b h in
    let y = at_most-parts b a k in
    let number : a.number ≡ b.number = omega (arith, x, y) in
    let session : a.session ≡ b.session = omega (arith, x, y) in
    tag_path a b number session

any_has : (tag : Tag) (p : StoredCopy → Bool) (copies : List StoredCopy) → HasTag tag copies → ((c : StoredCopy) → c.tag ≡ tag → p c ≡ true) → list_any p copies ≡ true
any_has tag p [] has each = absurd has
any_has tag p (c ∷ copies) (inl e) each = rw (each c e) refl
any_has tag p (c ∷ copies) (inr e) each = rw (any_has tag p copies e each) (or_true (p c))
  where
    or_true : (b : Bool) → (b || true) ≡ true
    or_true true = refl
    or_true false = refl

finds : (p : StoredCopy → Bool) (Q : StoredCopy → Type 0) (xs : List StoredCopy) → AllByRecursion Q xs → list_any p xs ≡ true → (b : StoredCopy) × (find p xs ≡ Some b) × (p b ≡ true) × Q b
finds p Q [] each any = absurd (no any)
  where
    no : false ≡ true → ⊥
    no k = cc
finds p Q (x ∷ xs) each any = by (λ h. finds p Q xs each.1 h) (p x) refl any
  where
    by : (list_any p xs ≡ true → (b : StoredCopy) × (find p xs ≡ Some b) × (p b ≡ true) × Q b) → (t : Bool) → p x ≡ t → (t || list_any p xs) ≡ true → (b : StoredCopy) × (cond t (Some x) (find p xs) ≡ Some b) × (p b ≡ true) × Q b
    by rest true e h = (x, refl, e, each.0)
    by rest false e h = rest h

unexceeded : (tag : Tag) (c : StoredCopy) (copies : List StoredCopy) → c.tag ≡ tag → AllByRecursion (λ d. is_less tag d.tag ≡ false) copies → is_unexceeded copies c ≡ true
unexceeded tag c [] is below = refl
unexceeded tag c (d ∷ copies) is below = rw (is, below.0) (unexceeded tag c copies is below.1)

exceeds_none : (tag : Tag) (b : StoredCopy) (copies : List StoredCopy) → HasTag tag copies → is_unexceeded copies b ≡ true → is_less b.tag tag ≡ false
exceeds_none tag b [] has un = absurd has
exceeds_none tag b (c ∷ copies) (inl e) un = rw (sym e) (not-true (is_less b.tag c.tag) (and_parts (not (is_less b.tag c.tag)) (is_unexceeded copies b) un).0)
exceeds_none tag b (c ∷ copies) (inr e) un = exceeds_none tag b copies e (and_parts (not (is_less b.tag c.tag)) (is_unexceeded copies b) un).1

greatest_tag : (tag : Tag) (copies : List StoredCopy) → AllByRecursion (λ c. is_less tag c.tag ≡ false) copies → HasTag tag copies → (greatest copies).tag ≡ tag
greatest_tag tag copies below has =
    let f = finds (is_unexceeded copies) (λ c. is_less tag c.tag ≡ false) copies below (any_has tag (is_unexceeded copies) copies has (λ c is. unexceeded tag c copies is below)) in
    let same : f.0.tag ≡ tag = tags_same f.0.tag tag (exceeds_none tag f.0 copies has f.2) f.3 in
    ap (λ o. (unwrap_or o first_copy).tag) f.1 ∙ same

-- ---- what was found

found_has : (grid : Grid) (told : List (Option Tag)) (rest : List (Option Seen)) (tag : Tag) → found_from grid told (tags_of rest) ≡ Some tag → (settles grid told tag ≡ true) × HasTag tag (map (λ s. s.copy) (most_of tag rest))
found_has grid told [] tag h = absurd (no h)
  where
    no : None ≡ Some tag → ⊥
    no k = cc
found_has grid told (None ∷ rest) tag h = found_has grid told rest tag h
found_has grid told (Some s ∷ rest) tag h = by (λ k. found_has grid told rest tag k) (settles grid told s.copy.tag) refl h
  where
    the : Some s.copy.tag ≡ Some tag → s.copy.tag ≡ tag
    the k = cc

    first : s.copy.tag ≡ tag → HasTag tag (map (λ s. s.copy) (if is_less tag s.copy.tag then most_of tag rest else s ∷ most_of tag rest))
    first e =
        let stays : is_less tag s.copy.tag ≡ false = rw e (at_most_refl tag) in
        rw stays (inl e)

    more : (b : Bool) → HasTag tag (map (λ s. s.copy) (most_of tag rest)) → HasTag tag (map (λ s. s.copy) (if b then most_of tag rest else s ∷ most_of tag rest))
    more true e = e
    more false e = inr e

    by : (found_from grid told (tags_of rest) ≡ Some tag → (settles grid told tag ≡ true) × HasTag tag (map (λ s. s.copy) (most_of tag rest))) → (b : Bool) → settles grid told s.copy.tag ≡ b → (if b then Some s.copy.tag else found_from grid told (tags_of rest)) ≡ Some tag → (settles grid told tag ≡ true) × HasTag tag (map (λ s. s.copy) (if is_less tag s.copy.tag then most_of tag rest else s ∷ most_of tag rest))
    by on true e k = (subst (λ t. settles grid told t ≡ true) (the k) e, first (the k))
    by on false e k = let found = on k in (found.0, more (is_less tag s.copy.tag) found.1)

collects : (grid : Grid) (set : Servers) → has_row grid set ≡ true → ends_collect grid set ≡ true
unfolding ends_collect
collects grid set h = h

confirms : (grid : Grid) (set : Servers) → has_column grid set ≡ true → ends_store grid set ≡ true
unfolding ends_store
confirms grid set h = h

pub settled_are_looks : AllSettledAreLooks
settled_are_looks grid row turns file begin end heard tag low high stand is =
    let seen : Seen → Type 0 = WasSeen grid row turns file begin end in
    let found = found_has grid (tags_of heard) heard tag is in
    let both = and_parts (has_row grid (most_from 0 tag (tags_of heard) no_servers)) (has_column grid (least_from 0 tag (tags_of heard) no_servers)) found.0 in
    let same : (copy_of (look_by begin end tag heard)).tag ≡ tag = greatest_tag tag (map (λ s. s.copy) (most_of tag heard)) (most_below tag heard) found.1 in
    let no_less : Seen → Type 0 = λ s. seen s × (is_less s.copy.tag tag ≡ false) in
    let confirmed : All no_less (least_of tag heard) = All-from_recursion no_less (least_of tag heard) (least_each seen 0 tag heard stand) in
    let one : (s : Seen) → Contains (least_of tag heard) s → no_less s = λ s has. All-contains no_less (least_of tag heard) s confirmed has in (
      record {
        ends = low;
        within = high;
        collected = λ s has. All-contains seen (most_of tag heard) s (All-from_recursion seen (most_of tag heard) (most_each seen 0 tag heard stand)) has;
        confirmed = λ s has. (one s has).0;
        collects = collects grid (servers_of (most_of tag heard)) (has_row_more grid (most_from 0 tag (tags_of heard) no_servers) (servers_of (most_of tag heard)) (λ p within e. from_none (most_places seen 0 tag heard no_servers p stand e)) both.0);
        confirms = confirms grid (servers_of (least_of tag heard)) (has_column_more grid (least_from 0 tag (tags_of heard) no_servers) (servers_of (least_of tag heard)) (λ p within e. from_none (least_places seen 0 tag heard no_servers p stand e)) both.1);
        no_less = λ s has. rw same ((one s has).1);
      },
      same,
    )
