-- The nodes of a plan, in rising order.
use Rattle.std.proofs.Common.{◌≡◌, ◌≢◌, ◌∙◌, ℕ, suc, ◌+◌, ◌-◌, ◌<◌, ◌≤◌, Bool, true, false, List, [], ◌∷◌, ◌++◌, length, take, map, refl, sym, ap, arith}
use Rattle.std.specs.Prelude.{◌==◌, filter, slice_index_or}
use Rattle.std.proofs.Math.Seq.{take-suc}
use Rattle.std.specs.List.{flat_map, range_with_len}
use Rattle.std.proofs.lemmas.Bool.{eq-eqb, ne_eqb}
use Rattle.std.proofs.lemmas.List.{map-append, append-nil}
use Rattle.std.proofs.lemmas.List.Elements.{filter-append}
use Rattle.std.proofs.lemmas.Grind.{flat_map-append}
use Rattle.gq_grid.specs.declared.TheConstants.{MOST_SERVERS}
use Rattle.gq_grid.proofs.Same.{range_more}
use Rattle.gq_replace.specs.Plans.{times, node_at, generation}
use Rattle.gq_replace.proofs.Chains.{generation_at}
use Rattle.gq_node.specs.Deciding.{nodes_of_turn}
use Rattle.gq_node.specs.Sites.{Here, plan_in}
use Rattle.gq_node.specs.Tables.{Tables}

-- of those at the first places, and of the first turns
abbrev pub nodes_below : Here → (turn place : ℕ) → List ℕ
nodes_below here turn place = filter (λ node. generation node == turn) (map (node_at (plan_in here.lost)) (range_with_len 0 place))

abbrev pub nodes_until : Tables → (first turn : ℕ) → List ℕ
nodes_until w first turn = flat_map (nodes_of_turn w) (range_with_len first (turn - first))

one_more : (here : Here) (turn place : ℕ) → nodes_below here turn (place + 1) ≡ nodes_below here turn place ++ filter (λ node. generation node == turn) (node_at (plan_in here.lost) place ∷ [])
one_more here turn place =
    let test : ℕ → Bool = λ node. generation node == turn in
    let at : ℕ → ℕ = node_at (plan_in here.lost) in
    let next : place + 1 ≡ suc place = omega arith in
    ap (λ n. filter test (map at (range_with_len 0 n))) next
    ∙ ap (λ ns. filter test (map at ns)) (range_more 0 place place (omega arith))
    ∙ ap (filter test) (map-append at (range_with_len 0 place) (place ∷ []))
    ∙ filter-append test (map at (range_with_len 0 place)) (at place ∷ [])

pub nodes_more : (here : Here) (turn place : ℕ) → place < MOST_SERVERS → times (plan_in here.lost) place ≡ turn → nodes_below here turn (place + 1) ≡ nodes_below here turn place ++ node_at (plan_in here.lost) place ∷ []
nodes_more here turn place within is =
    let its : (generation (node_at (plan_in here.lost) place) == turn) ≡ true = eq-eqb (generation (node_at (plan_in here.lost) place)) turn (generation_at (plan_in here.lost) place within ∙ is) in
    one_more here turn place ∙ (rw its refl)

pub nodes_same : (here : Here) (turn place : ℕ) → place < MOST_SERVERS → times (plan_in here.lost) place ≢ turn → nodes_below here turn (place + 1) ≡ nodes_below here turn place
nodes_same here turn place within is_not =
    let its : (generation (node_at (plan_in here.lost) place) == turn) ≡ false = ne_eqb (generation (node_at (plan_in here.lost) place)) turn (λ e. is_not (sym (generation_at (plan_in here.lost) place within) ∙ e)) in
    one_more here turn place ∙ (rw its (append-nil (nodes_below here turn place)))

pub turns_more : (w : Tables) (first turn : ℕ) → first ≤ turn → nodes_until w first (turn + 1) ≡ nodes_until w first turn ++ nodes_of_turn w turn
turns_more w first turn low =
    let next : (turn + 1) - first ≡ suc (turn - first) = omega (arith, low) in
    let at : first + (turn - first) ≡ turn = omega (arith, low) in
    ap (λ n. flat_map (nodes_of_turn w) (range_with_len first n)) next
    ∙ ap (flat_map (nodes_of_turn w)) (range_more first (turn - first) turn at)
    ∙ flat_map-append (nodes_of_turn w) (range_with_len first (turn - first)) (turn ∷ [])
    ∙ ap (λ ns. nodes_until w first turn ++ ns) (append-nil (nodes_of_turn w turn))

pub no_turns : (w : Tables) (first : ℕ) → [] ≡ nodes_until w first first
no_turns w first = let none : first - first ≡ 0 = omega arith in sym (ap (λ n. flat_map (nodes_of_turn w) (range_with_len first n)) none)

-- ---- of a list those that pass a test, one more looked at

one_looked : (test : ℕ → Bool) (xs : List ℕ) (i : ℕ) → i < length xs → filter test (take (i + 1) xs) ≡ filter test (take i xs) ++ filter test (slice_index_or xs i 0 ∷ [])
one_looked test xs i within =
    let next : i + 1 ≡ suc i = omega arith in
    ap (λ n. filter test (take n xs)) next ∙ ap (filter test) (take-suc xs i 0 within) ∙ filter-append test (take i xs) (slice_index_or xs i 0 ∷ [])

pub filter_kept : (test : ℕ → Bool) (xs : List ℕ) (i : ℕ) → i < length xs → test (slice_index_or xs i 0) ≡ true → filter test (take i xs) ++ slice_index_or xs i 0 ∷ [] ≡ filter test (take (i + 1) xs)
filter_kept test xs i within is = sym (one_looked test xs i within ∙ (rw is refl))

pub filter_left : (test : ℕ → Bool) (xs : List ℕ) (i : ℕ) → i < length xs → test (slice_index_or xs i 0) ≡ false → filter test (take i xs) ≡ filter test (take (i + 1) xs)
filter_left test xs i within is = sym (one_looked test xs i within ∙ (rw is (append-nil (filter test (take i xs)))))
