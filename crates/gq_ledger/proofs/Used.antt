-- How many bytes there are after a change.
use Rattle.std.proofs.Common.{◌≡◌, ℕ, ◌+◌, ◌-◌, ◌≤◌, List, None, ap, ◌∙◌, arith}
use Rattle.std.specs.Prelude.{option_map, unwrap_or}
use Rattle.std.specs.Ordering.{nat_cmp}
use Rattle.std.specs.BTreeMap.{insert_entry, is_at}
use Rattle.std.specs.List.Sorted.{IsStrictlySortedBy}
use Rattle.std.specs.Map.{keys_of, values_of, lookup, remove_entry}
use Rattle.std.proofs.lemmas.Cmp.{nat_cmp_total}
use Rattle.std.proofs.lemmas.Map.Entries.{sum_by-insert_entry, sum_by-remove_entry}
use Rattle.std.proofs.lemmas.List.Sums.{sum_by-le-sum_by}
use Rattle.gq_ledger.specs.Used.{used_of}

-- how many bytes are under the number
abbrev pub long_of : {T : Type 0} → (T → ℕ) → List (ℕ × T) → ℕ → ℕ
long_of f es k = unwrap_or (option_map f (lookup (is_at (nat_cmp k)) es)) 0

pub after_insert : {T : Type 0} (f : T → ℕ) (es fs : List (ℕ × T)) (k : ℕ) (v : T) → IsStrictlySortedBy nat_cmp (keys_of es) → fs ≡ insert_entry nat_cmp es k v → used_of f fs + long_of f es k ≡ used_of f es + f v
after_insert f es fs k v sorted is = ap (λ z. used_of f z + long_of f es k) is ∙ sum_by-insert_entry f nat_cmp_total es k v sorted

pub after_remove : {T : Type 0} (f : T → ℕ) (es fs : List (ℕ × T)) (k : ℕ) → fs ≡ remove_entry (is_at (nat_cmp k)) es → used_of f fs + long_of f es k ≡ used_of f es
after_remove f es fs k is = ap (λ z. used_of f z + long_of f es k) is ∙ sum_by-remove_entry f (is_at (nat_cmp k)) es

pub absent_long : {T : Type 0} (f : T → ℕ) (es : List (ℕ × T)) (k : ℕ) → lookup (is_at (nat_cmp k)) es ≡ None → long_of f es k ≡ 0
absent_long f es k none = ap (λ o. unwrap_or (option_map f o) 0) none

pub long_within : {T : Type 0} (f : T → ℕ) (es : List (ℕ × T)) (k : ℕ) → long_of f es k ≤ used_of f es
long_within f es k =
    let sum : used_of f (remove_entry (is_at (nat_cmp k)) es) + long_of f es k ≡ used_of f es = sum_by-remove_entry f (is_at (nat_cmp k)) es in
    omega arith

pub taken_from : (used before after : ℕ) → after + before ≡ used → used - before ≡ after
taken_from used before after sum = omega arith

pub before_within : (used before after : ℕ) → after + before ≡ used → before ≤ used
before_within used before after sum = omega arith

pub given_to : (used before after long : ℕ) → before ≤ used → after + before ≡ used + long → used - before + long ≡ after
given_to used before after long within sum = omega arith

pub kept_with : (used before after long : ℕ) → before ≡ 0 → after + before ≡ used + long → used + long ≡ after
kept_with used before after long none sum = omega arith

-- what is counted of less is less
pub fresh_within : {T : Type 0} (f g : T → ℕ) (es : List (ℕ × T)) → ((x : T) → f x ≤ g x) → used_of f es ≤ used_of g es
fresh_within f g es within = sum_by-le-sum_by f g (values_of es) within
