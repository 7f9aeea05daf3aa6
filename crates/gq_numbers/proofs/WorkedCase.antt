-- The worked case: all that the law asks of it is so. The words on quorums are opened here to compute.
use Rattle.std.proofs.Common.{◌≡◌, ◌≢◌, ◌⊎◌, ℕ, zero, suc, ◌*◌, ◌<◌, ◌≤◌, Bool, true, false, [], ◌∷◌, refl, sym, subst, inl, inr, arith}
use Rattle.std.specs.Prelude.{◌==◌, ◌&&◌, Contains, if◌then◌else◌}
use Rattle.std.specs.List.{AllByRecursion}
use Rattle.std.proofs.lemmas.Bool.{cases_eq, eq-eqb, true≢false}
use Rattle.std.proofs.lemmas.List.Elements.{All-from_recursion, All-contains, Contains-append_cases}
use Rattle.gq_tag.specs.declared.StoredCopy.{StoredCopy}
use Rattle.gq_tag.specs.declared.Body.{Body}
use Rattle.gq_tag.specs.declared.Body.TheVariants.{Ask, Copy, Store, Stored}
use Rattle.gq_tag.specs.Tag.{File, OwnMessage, is_file, first_copy}
use Rattle.gq_desk.specs.Plans.{is_in}
use Rattle.gq_phase.specs.Quorums.{collect_quorum, store_quorum, ends_collect, ends_store, are_peers}
use Rattle.gq_model.specs.declared.events.Line.TheVariants.{Write}
use Rattle.gq_cluster.specs.Facts.{Reserved}
use Rattle.gq_cluster.specs.Cluster.{Act, Asks, Comes, everyone, step_of, part_after}
use Rattle.gq_replace.specs.declared.numbers.TheConstants.{NUMBERS_OF_A_LOSS}
use Rattle.gq_replace.specs.Plans.{IsChain, place_of, is_replaced}
use Rattle.gq_replace.specs.Fleet.{Fleet, Posted, FleetStep, Begins, StartsAgain, Does, new_fleet, first_number, address, posts, after_fleet_step, AllMayHappen}
use Rattle.gq_numbers.specs.Numbers.{IsBelow, BringsBelow, FewLosses, NumbersLast, node_of, AllAsked, Stores}
use Rattle.gq_numbers.specs.Worked.{plans, twice, file, letter, but_the_first, written, rewritten, steps_worked, fleet_worked}
use Rattle.gq_replace.proofs.Agreeing.{from_map}
use Rattle.gq_numbers.proofs.Behind.{same_below, other_same}

pub is_chain : IsChain plans
is_chain zero zero low = record { more = []; lost = refl; volumes = omega arith }
is_chain zero (suc zero) low = record { more = 0 ∷ []; lost = refl; volumes = omega arith }
is_chain zero (suc (suc j)) low = record { more = 0 ∷ 0 ∷ []; lost = refl; volumes = omega arith }
is_chain (suc i) zero low = absurd (omega arith)
is_chain (suc zero) (suc zero) low = record { more = []; lost = refl; volumes = omega arith }
is_chain (suc zero) (suc (suc j)) low = record { more = 0 ∷ []; lost = refl; volumes = omega arith }
is_chain (suc (suc i)) (suc zero) low = absurd (omega arith)
is_chain (suc (suc i)) (suc (suc j)) low = record { more = []; lost = refl; volumes = omega arith }

-- a step, and those behind it
infixr 4 ◌and◌
◌and◌ : {P Q : Type 0} → P → Q → P × Q
p and q = (p, q)

pub may_happen : AllMayHappen twice new_fleet steps_worked
unfolding collect_quorum store_quorum ends_collect ends_store are_peers
may_happen =
    (refl, refl, refl)
    and (refl, refl, refl)
    and ((refl, refl), omega arith, refl)
    and (refl, refl, refl)
    and ((refl, refl), (tt, refl))
    and ((refl, refl), (64, (0, omega arith, refl), record { place = refl; home = refl; has = refl }))
    and ((refl, refl), (1, (1, omega arith, refl), refl))
    and ((refl, refl), (64, (3, omega arith, refl), record { place = refl; home = refl; has = refl }))
    and ((refl, refl), omega arith, refl)
    and (refl, refl, refl)
    and ((refl, refl), (tt, refl))
    and ((refl, refl), (128, (5, omega arith, refl), record { place = refl; home = refl; has = refl }))
    and tt

pub stores : Stores twice.setting (fleet_worked.part 128) (letter 4 1 (Copy written)) everyone rewritten.tag
unfolding collect_quorum store_quorum ends_collect ends_store are_peers
stores = record { reply = refl; file = record { volume = 0; place = 0 }; bytes = rewritten.bytes; writes = refl; round = 2; first = 0; count = 2; told = refl }

-- ---- numbers are below a bound, step by step

choose : (P : ℕ → Type 0) (b : Bool) (x y : ℕ) → P x → P y → P (if b then x else y)
choose P true x y first second = first
choose P false x y first second = second

brings_more : (a b : ℕ) (body : Body) → a ≤ b → BringsBelow a body → BringsBelow b body
brings_more a b (Copy copy) most low = omega (arith, most, low)
brings_more a b (Store copy) most low = omega (arith, most, low)
brings_more a b Ask most low = tt
brings_more a b Stored most low = tt

below_more : (u : Fleet) (node a b : ℕ) → a ≤ b → IsBelow u node a → IsBelow u node b
below_more u node a b most below = record {
  letters = λ x within from. brings_more a b x.letter.body most (below.letters x within from);
  copies = λ file copy within. (let low = below.copies file copy within in omega (arith, most, low));
  reserved = λ k. (let low = below.reserved k in omega (arith, most, low));
}

abbrev AllBelow : Fleet → ℕ → Type 0
AllBelow u bound = (node : ℕ) → IsBelow u node bound

-- what a step leaves of its own node is below, so all is
on : (u : Fleet) (step : FleetStep) (bound : ℕ) → AllBelow u bound → IsBelow (after_fleet_step twice u step) (node_of step) bound → AllBelow (after_fleet_step twice u step) bound
on u step bound old here node = by (cases_eq (node_of step) node)
  where
    by : (node_of step ≡ node) ⊎ (node_of step ≢ node) → IsBelow (after_fleet_step twice u step) node bound
    by (inl same) = subst (λ n. IsBelow (after_fleet_step twice u step) n bound) same here
    by (inr away) = same_below u (after_fleet_step twice u step) node bound (other_same twice u step node away) (old node)

begins_below : (u : Fleet) (node plan bound : ℕ) → AllBelow u bound → first_number twice node plan < bound → AllBelow (after_fleet_step twice u (Begins node plan)) bound
begins_below u node plan bound old low = on u (Begins node plan) bound old (record {
  letters = (old node).letters;
  copies = λ file copy. rw (eq-eqb node node refl) (λ within. let none = within.1 in absurd (omega (arith, none)));
  reserved = λ k. rw (eq-eqb node node refl) (choose (λ z. z < bound) ((twice.setting.home k == node) && is_in 1 twice.setting.row.sessions k) (first_number twice node plan) 0 low (omega (arith, low)));
})

again_below : (u : Fleet) (node plan bound : ℕ) → AllBelow u bound → AllBelow (after_fleet_step twice u (StartsAgain node plan)) bound
again_below u node plan bound old = on u (StartsAgain node plan) bound old (record {
  letters = (old node).letters;
  copies = λ file copy. rw (eq-eqb node node refl) ((old node).copies file copy);
  reserved = λ k. rw (eq-eqb node node refl) ((old node).reserved k);
})

-- what an act leaves of its node
record ActBelow (u : Fleet) (node : ℕ) (act : Act) (bound : ℕ) : Type 0 where
  letters : AllByRecursion (λ (letter : OwnMessage). BringsBelow bound letter.body) (step_of twice.setting (u.part node) act).new
  copies : (file : File) (copy : StoredCopy) → Contains ((part_after twice.setting (place_of node) (u.part node) act).brought file) copy → copy.tag.number < bound
  reserved : (k : ℕ) → ((part_after twice.setting (place_of node) (u.part node) act).reserved k).floor < bound

act_below : (u : Fleet) (node : ℕ) (act : Act) (bound : ℕ) → AllBelow u bound → ActBelow u node act bound → AllBelow (after_fleet_step twice u (Does node act)) bound
act_below u node act bound old its = on u (Does node act) bound old (record {
  letters = λ x within from. letters x (Contains-append_cases u.posted (posts twice u node (step_of twice.setting (u.part node) act).new) x within) from;
  copies = λ file copy. rw (eq-eqb node node refl) (its.copies file copy);
  reserved = λ k. rw (eq-eqb node node refl) (its.reserved k);
})
  where
    letters : (x : Posted) → Contains u.posted x ⊎ Contains (posts twice u node (step_of twice.setting (u.part node) act).new) x → x.from ≡ node → BringsBelow bound x.letter.body
    letters x (inl before) from = (old node).letters x before from
    letters x (inr now) from =
        let found = from_map (λ (letter : OwnMessage). record { from = node; to = address twice u node letter; letter = letter }) (step_of twice.setting (u.part node) act).new x now in
        let P : OwnMessage → Type 0 = λ letter. BringsBelow bound letter.body in
        let low : P found.0 = All-contains P (step_of twice.setting (u.part node) act).new found.0 (All-from_recursion P (step_of twice.setting (u.part node) act).new its.letters) found.1 in
        subst (λ (y : Posted). BringsBelow bound y.letter.body) found.2 low

floor_below : (bound : ℕ) (b : Bool) (x y : Reserved) → x.floor < bound → y.floor < bound → (if b then x else y).floor < bound
floor_below bound true x y first second = first
floor_below bound false x y first second = second

-- ---- the fleets of the run

abbrev u1 : Fleet
u1 = after_fleet_step twice new_fleet (Begins 0 0)

abbrev u2 : Fleet
u2 = after_fleet_step twice u1 (Begins 1 0)

abbrev u3 : Fleet
u3 = after_fleet_step twice u2 (StartsAgain 1 1)

abbrev u4 : Fleet
u4 = after_fleet_step twice u3 (Begins 64 1)

abbrev act5 : Act
act5 = Asks (Write 3 0 0 written.bytes) but_the_first

abbrev u5 : Fleet
u5 = after_fleet_step twice u4 (Does 64 act5)

abbrev act6 : Act
act6 = Comes (letter 3 1 Ask) everyone

abbrev u6 : Fleet
u6 = after_fleet_step twice u5 (Does 1 act6)

abbrev act7 : Act
act7 = Comes (letter 3 1 (Copy first_copy)) everyone

abbrev u7 : Fleet
u7 = after_fleet_step twice u6 (Does 64 act7)

abbrev act8 : Act
act8 = Comes (letter 3 2 (Store written)) everyone

abbrev u8 : Fleet
u8 = after_fleet_step twice u7 (Does 1 act8)

abbrev u9 : Fleet
u9 = after_fleet_step twice u8 (StartsAgain 1 2)

abbrev u10 : Fleet
u10 = after_fleet_step twice u9 (Begins 128 2)

abbrev act11 : Act
act11 = Asks (Write 4 0 0 rewritten.bytes) but_the_first

abbrev u11 : Fleet
u11 = after_fleet_step twice u10 (Does 128 act11)

abbrev act12 : Act
act12 = Comes (letter 4 1 Ask) everyone

abbrev u12 : Fleet
u12 = after_fleet_step twice u11 (Does 1 act12)

-- ---- below one, two and three times the numbers of a loss

abbrev once : ℕ
once = 1099511627776

abbrev two_times : ℕ
two_times = 2199023255552

abbrev three_times : ℕ
three_times = 3298534883328

below0 : AllBelow new_fleet once
below0 node = record {
  letters = λ x within from. (let none = within.1 in absurd (omega (arith, none)));
  copies = λ file copy within. (let none = within.1 in absurd (omega (arith, none)));
  reserved = λ k. omega arith;
}

below1 : AllBelow u1 once
below1 = begins_below new_fleet 0 0 once below0 (omega arith)

below2 : AllBelow u2 once
below2 = begins_below u1 1 0 once below1 (omega arith)

below3 : AllBelow u3 once
below3 = again_below u2 1 1 once below2

below4 : AllBelow u4 two_times
below4 = begins_below u3 64 1 two_times (λ node. below_more u3 node once two_times (omega arith) (below3 node)) (omega arith)

does5 : ActBelow u4 64 act5 two_times
unfolding collect_quorum store_quorum ends_collect ends_store are_peers
does5 = record {
  letters = (tt, tt);
  copies = (below4 64).copies;
  reserved = λ k. floor_below two_times (3 == k) (record ((u4.part 64).reserved k) { op = 1024 }) ((u4.part 64).reserved k) ((below4 64).reserved k) ((below4 64).reserved k);
}

below5 : AllBelow u5 two_times
below5 = act_below u4 64 act5 two_times below4 does5

does6 : ActBelow u5 1 act6 two_times
unfolding collect_quorum store_quorum ends_collect ends_store are_peers
does6 = record { letters = (omega arith, tt); copies = (below5 1).copies; reserved = (below5 1).reserved }

below6 : AllBelow u6 two_times
below6 = act_below u5 1 act6 two_times below5 does6

does7 : ActBelow u6 64 act7 two_times
unfolding collect_quorum store_quorum ends_collect ends_store are_peers
does7 = record {
  letters = (omega arith, (omega arith, tt));
  copies = (below6 64).copies;
  reserved = λ k. floor_below two_times (3 == k) (record ((u6.part 64).reserved k) { floor = 1099511628800 }) ((u6.part 64).reserved k) (omega arith) ((below6 64).reserved k);
}

below7 : AllBelow u7 two_times
below7 = act_below u6 64 act7 two_times below6 does7

kept_below : (b : Bool) (copy : StoredCopy) → Contains (if b then written ∷ [] else []) copy → copy.tag.number < two_times
kept_below true copy (zero, low, is) = subst (λ (c : StoredCopy). c.tag.number < two_times) is (omega arith)
kept_below true copy (suc i, low, is) = absurd (omega (arith, low))
kept_below false copy (i, low, is) = absurd (omega (arith, low))

does8 : ActBelow u7 1 act8 two_times
unfolding collect_quorum store_quorum ends_collect ends_store are_peers
does8 = record { letters = (tt, tt); copies = λ other copy within. kept_below (is_file file other && everyone 1) copy within; reserved = (below7 1).reserved }

below8 : AllBelow u8 two_times
below8 = act_below u7 1 act8 two_times below7 does8

below9 : AllBelow u9 two_times
below9 = again_below u8 1 2 two_times below8

below10 : AllBelow u10 three_times
below10 = begins_below u9 128 2 three_times (λ node. below_more u9 node two_times three_times (omega arith) (below9 node)) (omega arith)

does11 : ActBelow u10 128 act11 three_times
unfolding collect_quorum store_quorum ends_collect ends_store are_peers
does11 = record {
  letters = (tt, tt);
  copies = (below10 128).copies;
  reserved = λ k. floor_below three_times (4 == k) (record ((u10.part 128).reserved k) { op = 1024 }) ((u10.part 128).reserved k) ((below10 128).reserved k) ((below10 128).reserved k);
}

below11 : AllBelow u11 three_times
below11 = act_below u10 128 act11 three_times below10 does11

does12 : ActBelow u11 1 act12 three_times
unfolding collect_quorum store_quorum ends_collect ends_store are_peers
does12 = record { letters = (omega arith, tt); copies = (below11 1).copies; reserved = (below11 1).reserved }

below12 : AllBelow u12 three_times
below12 = act_below u11 1 act12 three_times below11 does12

-- ---- so the numbers last

lasts : (u : Fleet) (least : ℕ) → AllBelow u (least * NUMBERS_OF_A_LOSS) → ((losses : ℕ) → 0 < losses → FewLosses twice u losses → least ≤ losses) → NumbersLast twice u
lasts u least below enough losses node some few = let most = enough losses some few in below_more u node (least * NUMBERS_OF_A_LOSS) (losses * NUMBERS_OF_A_LOSS) (omega (arith, most)) (below node)

first_lasts : (u : Fleet) → AllBelow u once → NumbersLast twice u
first_lasts u below = lasts u 1 below (λ losses some few. omega (arith, some))

-- ---- and no node acts that a plan says is replaced

not_one : (plan : ℕ) → is_replaced (plans plan) 1 ≡ false
not_one zero = refl
not_one (suc zero) = refl
not_one (suc (suc j)) = refl

not_last : (plan : ℕ) → is_replaced (plans plan) 128 ≡ false
not_last zero = refl
not_last (suc zero) = refl
not_last (suc (suc j)) = refl

not_yet : (plan : ℕ) → plan ≤ 1 → is_replaced (plans plan) 64 ≡ false
not_yet zero low = refl
not_yet (suc zero) low = refl
not_yet (suc (suc j)) low = absurd (omega (arith, low))

early : (node : ℕ) → u3.last_plan node ≤ 1
early node = choose (λ z. z ≤ 1) (node == 1) 1 (u2.last_plan node) (omega arith)
    (choose (λ z. z ≤ 1) (node == 1) 0 (u1.last_plan node) (omega arith) (choose (λ z. z ≤ 1) (node == 0) 0 0 (omega arith) (omega arith)))

-- also behind the start of node 64
still_early : (node : ℕ) → u4.last_plan node ≤ 1
still_early node = choose (λ z. z ≤ 1) (node == 64) 1 (u3.last_plan node) (omega arith) (early node)

once_lasts : (u : Fleet) → AllBelow u two_times → ((losses : ℕ) → FewLosses twice u losses → 1 < losses) → NumbersLast twice u
once_lasts u below more = lasts u 2 below (λ losses some few. let most = more losses few in omega (arith, most))

twice_lasts : (u : Fleet) → AllBelow u three_times → ((losses : ℕ) → FewLosses twice u losses → 2 < losses) → NumbersLast twice u
twice_lasts u below more = lasts u 3 below (λ losses some few. let most = more losses few in omega (arith, most))

asked12 : AllAsked twice u12 []
asked12 = twice_lasts u12 below12 (λ losses few. few 128 refl)

asked11 : AllAsked twice u11 (Does 1 act12 ∷ [])
asked11 = (twice_lasts u11 below11 (λ losses few. few 128 refl), (λ node begun. not_one (u11.last_plan node)), asked12)

asked10 : AllAsked twice u10 (Does 128 act11 ∷ Does 1 act12 ∷ [])
asked10 = (twice_lasts u10 below10 (λ losses few. few 128 refl), (λ node begun. not_last (u10.last_plan node)), asked11)

asked9 : AllAsked twice u9 (Begins 128 2 ∷ Does 128 act11 ∷ Does 1 act12 ∷ [])
asked9 = (once_lasts u9 below9 (λ losses few. few 64 refl), (λ node begun. not_last (u9.last_plan node)), asked10)

asked8 : AllAsked twice u8 (StartsAgain 1 2 ∷ Begins 128 2 ∷ Does 128 act11 ∷ Does 1 act12 ∷ [])
asked8 = (once_lasts u8 below8 (λ losses few. few 64 refl), (λ node begun. not_one (u8.last_plan node)), asked9)

asked7 : AllAsked twice u7 (Does 1 act8 ∷ StartsAgain 1 2 ∷ Begins 128 2 ∷ Does 128 act11 ∷ Does 1 act12 ∷ [])
asked7 = (once_lasts u7 below7 (λ losses few. few 64 refl), (λ node begun. not_one (u7.last_plan node)), asked8)

asked6 : AllAsked twice u6 (Does 64 act7 ∷ Does 1 act8 ∷ StartsAgain 1 2 ∷ Begins 128 2 ∷ Does 128 act11 ∷ Does 1 act12 ∷ [])
asked6 = (once_lasts u6 below6 (λ losses few. few 64 refl), (λ node begun. not_yet (u6.last_plan node) (still_early node)), asked7)

asked5 : AllAsked twice u5 (Does 1 act6 ∷ Does 64 act7 ∷ Does 1 act8 ∷ StartsAgain 1 2 ∷ Begins 128 2 ∷ Does 128 act11 ∷ Does 1 act12 ∷ [])
asked5 = (once_lasts u5 below5 (λ losses few. few 64 refl), (λ node begun. not_one (u5.last_plan node)), asked6)

asked4 : AllAsked twice u4 (Does 64 act5 ∷ Does 1 act6 ∷ Does 64 act7 ∷ Does 1 act8 ∷ StartsAgain 1 2 ∷ Begins 128 2 ∷ Does 128 act11 ∷ Does 1 act12 ∷ [])
asked4 = (once_lasts u4 below4 (λ losses few. few 64 refl), (λ node begun. not_yet (u4.last_plan node) (still_early node)), asked5)

asked3 : AllAsked twice u3 (Begins 64 1 ∷ Does 64 act5 ∷ Does 1 act6 ∷ Does 64 act7 ∷ Does 1 act8 ∷ StartsAgain 1 2 ∷ Begins 128 2 ∷ Does 128 act11 ∷ Does 1 act12 ∷ [])
asked3 = (first_lasts u3 below3, (λ node begun. not_yet (u3.last_plan node) (early node)), asked4)

asked2 : AllAsked twice u2 (StartsAgain 1 1 ∷ Begins 64 1 ∷ Does 64 act5 ∷ Does 1 act6 ∷ Does 64 act7 ∷ Does 1 act8 ∷ StartsAgain 1 2 ∷ Begins 128 2 ∷ Does 128 act11 ∷ Does 1 act12 ∷ [])
asked2 = (first_lasts u2 below2, (λ node begun. not_one (u2.last_plan node)), asked3)

asked1 : AllAsked twice u1 (Begins 1 0 ∷ StartsAgain 1 1 ∷ Begins 64 1 ∷ Does 64 act5 ∷ Does 1 act6 ∷ Does 64 act7 ∷ Does 1 act8 ∷ StartsAgain 1 2 ∷ Begins 128 2 ∷ Does 128 act11 ∷ Does 1 act12 ∷ [])
asked1 = (first_lasts u1 below1, (λ node begun. not_one (u1.last_plan node)), asked2)

pub asked : AllAsked twice new_fleet steps_worked
asked = (first_lasts new_fleet below0, (λ node none. absurd (true≢false (sym none))), asked1)
