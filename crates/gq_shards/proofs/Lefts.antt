-- What is left of the shards' texts while their lines are put together.
use Rattle.std.proofs.Common.{◌≡◌, ◌≢◌, ◌⊎◌, ◌∙◌, ℕ, ◌+◌, ◌-◌, ◌<◌, ◌≤◌, true, false, List, [], ◌∷◌, ◌++◌, map, length, get_or, set, replicate, take, drop, Option, refl, sym, ap, subst, inl, inr, arith, append_assoc, append-nil, length-append, length-drop}
use Rattle.std.specs.Prelude.{◌==◌}
use Rattle.std.specs.Io.KnownBytes.{Appends}
use Rattle.std.proofs.Math.Seq.{take-append_seam, drop-append_seam}
use Rattle.std.proofs.lemmas.Bool.{cases_eq, ne_eqb, eq-eqb}
use Rattle.std.proofs.lemmas.List.{drop_more, drop-drop, get_or_default, get_or-replicate, get_or-set_same, get_or-set_other, length-set, length-replicate}
use Rattle.gq_lines.specs.Lines.{joined}
use Rattle.gq_streams.specs.Watched.{AppendsPrefix}
use Rattle.gq_shards.specs.declared.telling.Told.{Told}
use Rattle.gq_shards.specs.declared.merging.Place.{Place}
use Rattle.gq_shards.specs.declared.lengths.LengthPlace.{LengthPlace}
use Rattle.gq_shards.specs.Shards.{first_place, of_shard, AreLeft, IsLeft, AreTold, Passes}
use Rattle.gq_shards.proofs.Passing.{prefix_longer, passes_none, passes_more, passes_all, passes_part}

-- where the next line lies
pub next_within : (told : Told) (place : Place) (line : List ℕ) (lines : List (List ℕ)) → IsLeft told place (line ∷ lines) → place.byte + length line ≤ length told.text.items
next_within told place line lines left =
    let bytes : length (drop place.byte told.text.items) ≡ length line + length (joined lines) = ap length left.bytes ∙ length-append line (joined lines) in
    omega (arith, bytes, length-drop place.byte told.text.items, left.within)

-- it, and what is left behind it
pub next_is : (told : Told) (place : Place) (after : LengthPlace) (n : ℕ) (line : List ℕ) (lines : List (List ℕ)) → IsLeft told place (line ∷ lines) → (n ≡ length line) × AreLeft told.lengths after (map length lines)
    → (take n (drop place.byte told.text.items) ≡ line) × IsLeft told (record { length = after; byte = place.byte + n }) lines
next_is told place after n line lines left (size, counts) = (
  rw (size, left.bytes) (take-append_seam line (joined lines)),
  record {
    within = omega (arith, size, next_within told place line lines left);
    bytes = sym (drop-drop n place.byte told.text.items) ∙ rw (size, left.bytes) (drop-append_seam line (joined lines));
    counts = counts;
  },
)

-- what is left of each shard, and what was put together so far
pub record Merging (all : List Told) (places : List Place) (marks : List ℕ) (lines : List (List ℕ)) (out : List ℕ) (every : List (List ℕ)) : Type 0 where
  pub left : (k : ℕ) (d : Told) (q : Place) → k < length all → IsLeft (get_or all k d) (get_or places k q) (of_shard k marks lines)
  pub size : length places ≡ length all
  pub whole : out ++ joined lines ≡ joined every

own : (mark : ℕ) (marks line : List ℕ) (lines : List (List ℕ)) → of_shard (mark - 1) (mark ∷ marks) (line ∷ lines) ≡ line ∷ of_shard (mark - 1) marks lines
own mark marks line lines = let yes : (mark - 1 == mark - 1) ≡ true = eq-eqb (mark - 1) (mark - 1) refl in rw yes refl

-- the next line is left of its shard
pub left_next : (all : List Told) (places : List Place) (mark : ℕ) (marks line : List ℕ) (lines every : List (List ℕ)) (out : List ℕ) (d : Told) (q : Place) → Merging all places (mark ∷ marks) (line ∷ lines) out every → mark - 1 < length all
    → IsLeft (get_or all (mark - 1) d) (get_or places (mark - 1) q) (line ∷ of_shard (mark - 1) marks lines)
left_next all places mark marks line lines every out d q m below =
    subst (IsLeft (get_or all (mark - 1) d) (get_or places (mark - 1) q)) (own mark marks line lines) (m.left (mark - 1) d q below)

-- one line more
pub merging_more : (all : List Told) (places : List Place) (mark : ℕ) (marks line : List ℕ) (lines every : List (List ℕ)) (out : List ℕ) (after : Place) (d : Told)
    → Merging all places (mark ∷ marks) (line ∷ lines) out every → mark - 1 < length all
    → IsLeft (get_or all (mark - 1) d) after (of_shard (mark - 1) marks lines)
    → Merging all (set places (mark - 1) after) marks lines (out ++ line) every
merging_more all places mark marks line lines every out after d m below next = record {
  left = λ k e q inside. left_of k e q inside (cases_eq k (mark - 1));
  size = length-set places (mark - 1) after ∙ m.size;
  whole = append_assoc out line (joined lines) ∙ m.whole;
}
  where
    others : (k : ℕ) → k ≢ mark - 1 → of_shard k (mark ∷ marks) (line ∷ lines) ≡ of_shard k marks lines
    others k other = let none : (mark - 1 == k) ≡ false = ne_eqb (mark - 1) k (λ same. other (sym same)) in rw none refl

    left_of : (k : ℕ) (e : Told) (q : Place) → k < length all → (k ≡ mark - 1) ⊎ (k ≢ mark - 1) → IsLeft (get_or all k e) (get_or (set places (mark - 1) after) k q) (of_shard k marks lines)
    left_of k e q inside (inl same) =
        let within : mark - 1 < length places = omega (arith, below, m.size) in
        let placed : get_or (set places (mark - 1) after) (mark - 1) q ≡ after = get_or-set_same places (mark - 1) after q within in
        let told : get_or all (mark - 1) e ≡ get_or all (mark - 1) d = get_or_default all (mark - 1) e d below in
        rw (same, told, placed) next
    left_of k e q inside (inr other) =
        let placed : get_or (set places (mark - 1) after) k q ≡ get_or places k q = get_or-set_other places (mark - 1) k after q other in
        rw (placed, sym (others k other)) (m.left k e q inside)

-- before the first line
pub merging_first : (all : List Told) (places : List Place) (marks : List ℕ) (every : List (List ℕ)) → places ≡ replicate (length all) first_place → AreTold marks every all → Merging all places marks every [] every
merging_first all places marks every is told = record {
  left = λ k d q inside.
      let placed : get_or places k q ≡ first_place = ap (λ ps. get_or ps k q) is ∙ get_or-replicate (length all) k first_place q inside in
      let text = told.texts k d inside in
      rw placed (record { within = omega arith; bytes = text.bytes; counts = text.counts });
  size = ap length is ∙ length-replicate (length all) first_place;
  whole = refl;
}

-- ---- through a chunk

-- what was put together so far was written or waits
pub record Going (old new : Option (List ℕ)) (held : List ℕ) (all : List Told) (places : List Place) (marks : List ℕ) (lines every : List (List ℕ)) : Type 0 where
  pub out : List ℕ
  pub passed : Passes old new out held
  pub merging : Merging all places marks lines out every

pub going_first : (old : Option (List ℕ)) (held : List ℕ) (all : List Told) (places : List Place) (marks : List ℕ) (every : List (List ℕ)) → held ≡ [] → places ≡ replicate (length all) first_place → AreTold marks every all → Going old old held all places marks every every
going_first old held all places marks every none first told = record {
  out = [];
  passed = subst (Passes old old []) (sym none) (passes_none old []);
  merging = merging_first all places marks every first told;
}

pub going_more : (old new new' : Option (List ℕ)) (held held' found : List ℕ) (all : List Told) (places : List Place) (mark : ℕ) (marks line : List ℕ) (lines every : List (List ℕ)) (after : Place) (d : Told)
    → Going old new held all places (mark ∷ marks) (line ∷ lines) every → mark - 1 < length all
    → found ≡ line → IsLeft (get_or all (mark - 1) d) after (of_shard (mark - 1) marks lines) → Passes new new' (held ++ found) held'
    → Going old new' held' all (set places (mark - 1) after) marks lines every
going_more old new new' held held' found all places mark marks line lines every after d g below is next more = record {
  out = g.out ++ line;
  passed = passes_more old new new' g.out held line held' g.passed (subst (λ t. Passes new new' (held ++ t) held') is more);
  merging = merging_more all places mark marks line lines every g.out after d g.merging below next;
}

-- a write failed
pub going_part : (old new new' : Option (List ℕ)) (held found : List ℕ) (all : List Told) (places : List Place) (mark : ℕ) (marks line : List ℕ) (lines every : List (List ℕ))
    → Going old new held all places (mark ∷ marks) (line ∷ lines) every → found ≡ line → AppendsPrefix new new' (held ++ found) → AppendsPrefix old new' (joined every)
going_part old new new' held found all places mark marks line lines every g is part =
    let now : AppendsPrefix old new' (g.out ++ line) = passes_part old new new' g.out held line g.passed (subst (λ t. AppendsPrefix new new' (held ++ t)) is part) in
    let whole : (g.out ++ line) ++ joined lines ≡ joined every = append_assoc g.out line (joined lines) ∙ g.merging.whole in
    subst (AppendsPrefix old new') whole (prefix_longer old new' (g.out ++ line) (joined lines) now)

-- no line is left
out_whole : (out : List ℕ) (lines every : List (List ℕ)) → lines ≡ [] → out ++ joined lines ≡ joined every → out ≡ joined every
out_whole out lines every none whole = sym (append-nil out) ∙ (ap (λ (ls : List (List ℕ)). out ++ joined ls) (sym none) ∙ whole)

pub going_all : (old new new' : Option (List ℕ)) (held : List ℕ) (all : List Told) (places : List Place) (marks : List ℕ) (lines every : List (List ℕ))
    → Going old new held all places marks lines every → lines ≡ [] → Appends new new' held → Appends old new' (joined every)
going_all old new new' held all places marks lines every g none last =
    subst (Appends old new') (out_whole g.out lines every none g.merging.whole) (passes_all old new new' g.out held g.passed last)

pub going_last : (old new new' : Option (List ℕ)) (held : List ℕ) (all : List Told) (places : List Place) (marks : List ℕ) (lines every : List (List ℕ))
    → Going old new held all places marks lines every → lines ≡ [] → AppendsPrefix new new' held → AppendsPrefix old new' (joined every)
going_last old new new' held all places marks lines every g none part =
    let now : AppendsPrefix old new' (g.out ++ []) = passes_part old new new' g.out held [] g.passed (subst (AppendsPrefix new new') (sym (append-nil held)) part) in
    subst (AppendsPrefix old new') (append-nil g.out ∙ out_whole g.out lines every none g.merging.whole) now

-- ---- the step of a line

-- the line at place i is the next of shard k, of which `told` is what it tells
pub record IsNext (all : List Told) (places : List Place) (marks : List ℕ) (lines : List (List ℕ)) (i k : ℕ) (told : Told) (place : Place) : Type 0 where
  pub told_all : AreTold marks lines all
  pub below : i < length marks
  pub shard : k ≡ get_or marks i 0 - 1
  pub is : told ≡ get_or all k told
  pub at : place ≡ get_or places k first_place

step_going : (old new : Option (List ℕ)) (held : List ℕ) (all : List Told) (places : List Place) (marks : List ℕ) (lines : List (List ℕ)) (i : ℕ) → Going old new held all places (drop i marks) (drop i lines) lines → AreTold marks lines all → i < length marks
    → Going old new held all places (get_or marks i 0 ∷ drop (i + 1) marks) (get_or lines i [] ∷ drop (i + 1) lines) lines
step_going old new held all places marks lines i g told below =
    rw (drop_more marks i 0 below, drop_more lines i [] (omega (arith, below, told.size))) at g

pub step_left : (old new : Option (List ℕ)) (held : List ℕ) (all : List Told) (places : List Place) (marks : List ℕ) (lines : List (List ℕ)) (i k : ℕ) (told : Told) (place : Place) → Going old new held all places (drop i marks) (drop i lines) lines
    → IsNext all places marks lines i k told place → IsLeft told place (get_or lines i [] ∷ of_shard k (drop (i + 1) marks) (drop (i + 1) lines))
step_left old new held all places marks lines i k told place g n =
    let now = step_going old new held all places marks lines i g n.told_all n.below in
    let left = left_next all places (get_or marks i 0) (drop (i + 1) marks) (get_or lines i []) (drop (i + 1) lines) lines now.out told first_place now.merging (n.told_all.shards i n.below) in
    rw (← n.shard, ← n.is, ← n.at) at left

pub step_more : (old new new' : Option (List ℕ)) (held held' found : List ℕ) (all : List Told) (places : List Place) (marks : List ℕ) (lines : List (List ℕ)) (i k : ℕ) (told : Told) (place after : Place)
    → Going old new held all places (drop i marks) (drop i lines) lines → IsNext all places marks lines i k told place
    → ((line : List ℕ) (rest : List (List ℕ)) → IsLeft told place (line ∷ rest) → (found ≡ line) × IsLeft told after rest) → Passes new new' (held ++ found) held'
    → Going old new' held' all (set places k after) (drop (i + 1) marks) (drop (i + 1) lines) lines
step_more old new new' held held' found all places marks lines i k told place after g n next more =
    let now = step_going old new held all places marks lines i g n.told_all n.below in
    let found_is = next _ _ (step_left old new held all places marks lines i k told place g n) in
    let same : get_or all (get_or marks i 0 - 1) told ≡ told = ap (λ j. get_or all j told) (sym n.shard) ∙ sym n.is in
    let all_more = going_more old new new' held held' found all places (get_or marks i 0) (drop (i + 1) marks) (get_or lines i []) (drop (i + 1) lines) lines after told now (n.told_all.shards i n.below)
    found_is.0 (subst (λ t. IsLeft t after (of_shard (get_or marks i 0 - 1) (drop (i + 1) marks) (drop (i + 1) lines))) (sym same)
    (subst (λ j. IsLeft told after (of_shard j (drop (i + 1) marks) (drop (i + 1) lines))) n.shard found_is.1)) more in
    subst (λ j. Going old new' held' all (set places j after) (drop (i + 1) marks) (drop (i + 1) lines) lines) (sym n.shard) all_more

pub step_part : (old new new' : Option (List ℕ)) (held found : List ℕ) (all : List Told) (places : List Place) (marks : List ℕ) (lines : List (List ℕ)) (i k : ℕ) (told : Told) (place after : Place)
    → Going old new held all places (drop i marks) (drop i lines) lines → IsNext all places marks lines i k told place
    → ((line : List ℕ) (rest : List (List ℕ)) → IsLeft told place (line ∷ rest) → (found ≡ line) × IsLeft told after rest) → AppendsPrefix new new' (held ++ found)
    → AppendsPrefix old new' (joined lines)
step_part old new new' held found all places marks lines i k told place after g n next part =
    let now = step_going old new held all places marks lines i g n.told_all n.below in
    going_part old new new' held found all places (get_or marks i 0) (drop (i + 1) marks) (get_or lines i []) (drop (i + 1) lines) lines now (next _ _ (step_left old new held all places marks lines i k told place g n)).0 part
