-- Plans that go on from one another, and the nodes that they have.
use Rattle.std.proofs.Common.{◌≡◌, ℕ, ◌+◌, ◌*◌, ◌<◌, ◌≤◌, Bool, true, sym, ap, ◌∙◌, inl, inr, arith}
use Rattle.std.specs.Prelude.{◌==◌, if◌then◌else◌}
use Rattle.std.specs.List.{count_by}
use Rattle.std.proofs.lemmas.Bool.{cases_lt, eqb-true}
use Rattle.std.proofs.lemmas.Nat.{div-mul-add, mod-mul-add, mod_below, div-add-mod'}
use Rattle.std.proofs.lemmas.List.Sums.{sum_by-append}
use Rattle.gq_replace.specs.Plans.{Plan, times, place_of, generation, node_at, has_node, GoesOn, IsChain}

-- ---- numbers

pub place_below : (node : ℕ) → place_of node < 64
place_below node = mod_below node 64 (omega arith)

-- two nodes of one place and one generation are one
pub same_node : (n m : ℕ) → place_of n ≡ place_of m → generation n ≡ generation m → n ≡ m
same_node n m place turn = sym (div-add-mod' n 64) ∙ (λ i. turn i * 64 + place i) ∙ div-add-mod' m 64

pub place_at : (plan : Plan) (place : ℕ) → place < 64 → place_of (node_at plan place) ≡ place
place_at plan place within = mod-mul-add (times plan place) 64 place within

pub generation_at : (plan : Plan) (place : ℕ) → place < 64 → generation (node_at plan place) ≡ times plan place
generation_at plan place within = div-mul-add (times plan place) 64 place within

-- the node that a plan has stands at its place
pub own_node : (plan : Plan) (node : ℕ) → has_node plan node ≡ true → node_at plan (place_of node) ≡ node
own_node plan node has =
    let turn : generation node ≡ times plan (place_of node) = eqb-true (generation node) (times plan (place_of node)) has in
    ap (λ g. g * 64 + place_of node) (sym turn) ∙ div-add-mod' node 64

-- ---- chains

pub times_grow : (old new : Plan) (place : ℕ) → GoesOn old new → times old place ≤ times new place
times_grow old new place on =
    let test : ℕ → Bool = λ lost. lost == place in
    let all : times new place ≡ times old place + count_by test on.more = ap (count_by test) on.lost ∙ sum_by-append (λ lost. if test lost then 1 else 0) old.lost on.more in
    omega (arith, all)

-- of two nodes of one place, a plan that has the newer one stands behind each that has the older one
pub newer_later : (plans : ℕ → Plan) → IsChain plans → (i j old new : ℕ) → place_of old ≡ place_of new → has_node (plans i) old ≡ true → has_node (plans j) new ≡ true → generation old < generation new → i ≤ j
newer_later plans chain i j old new place has_old has_new less = elim (cases_lt j i) [
  | inl before ↦ (absurd (
      let grown : times (plans j) (place_of new) ≤ times (plans i) (place_of new) = times_grow (plans j) (plans i) (place_of new) (chain j i (omega (arith, before))) in
      let at_old : generation old ≡ times (plans i) (place_of new) = eqb-true (generation old) (times (plans i) (place_of old)) has_old ∙ ap (times (plans i)) place in
      let at_new : generation new ≡ times (plans j) (place_of new) = eqb-true (generation new) (times (plans j) (place_of new)) has_new in
      omega (arith, grown, at_old, at_new, less)))
  | inr behind ↦ behind
]
