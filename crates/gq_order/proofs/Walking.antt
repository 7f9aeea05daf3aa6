-- The test in one go is true exactly where the order is legal.
use Rattle.std.proofs.Common.{◌≡◌, ℕ, max, Bool, true, false, ◌&&◌, ◌||◌, List, [], ◌∷◌, refl, sym, ap, ◌∙◌, Option, Some, None, is_some}
use Rattle.std.specs.Prelude.{slice_get, ◌==◌}
use Rattle.std.specs.Bool.{Decides}
use Rattle.std.specs.List.{list_all}
use Rattle.std.proofs.lemmas.Bool.{true≢false, and_parts, and_from, or_left, or_right, eqb-true, eq-eqb}
use Rattle.gq_laws.specs.declared.ops.Kind.{Kind}
use Rattle.gq_laws.specs.declared.ops.Kind.TheVariants.{Write as Writes, Read as Reads, Row as Rows}
use Rattle.gq_laws.specs.declared.ops.Op.{Op}
use Rattle.gq_laws.specs.Operations.{is_write, ops_at, Legal}
use Rattle.gq_laws.specs.Checks.{is_once, is_allowed, is_whole, is_open_at, is_in_order, gives, register_gives}
use Rattle.gq_laws.proofs.Checking.{checks_decide}
use Rattle.gq_order.proofs.Rests.{rest_whole}
use Rattle.gq_order.proofs.Counting.{late_all, whole_if, whole_only}
use Rattle.gq_order.proofs.Rising.{rises_once}
use Rattle.gq_order.specs.Walk.{passes, bytes_after, walks, completed, completed_at, rises, is_legal_at_once}

-- ---- the walk

-- the three parts of the test that the walk does together
abbrev Parts : List Op → List ℕ → ℕ → List ℕ → Type 0
Parts ops places begun bytes = (list_all (is_allowed ops) places ≡ true) × (is_in_order begun (ops_at ops places) ≡ true) × (register_gives (ops_at ops places) bytes ≡ true)

-- the register's part of one operation
register_from : (a : Op) (rest : List Op) (bytes : List ℕ) → (is_write a || gives a bytes) ≡ true → register_gives rest (bytes_after a bytes) ≡ true → register_gives (a ∷ rest) bytes ≡ true
register_from a rest bytes h later = go a.kind refl
  where
    go : (k : Kind) → a.kind ≡ k → register_gives (a ∷ rest) bytes ≡ true
    go (Writes written) is = rw is (rw is at later)
    go (Reads gave) is = let gives_is : gives a bytes ≡ true = (let reads : is_write a ≡ false = rw is in rw reads at h) in let both = and_from (gives a bytes) (register_gives rest bytes) gives_is (rw is at later) in rw is (rw is at both)
    go (Rows gave) is = let gives_is : gives a bytes ≡ true = (let reads : is_write a ≡ false = rw is in rw reads at h) in let both = and_from (gives a bytes) (register_gives rest bytes) gives_is (rw is at later) in rw is (rw is at both)

register_to : (a : Op) (rest : List Op) (bytes : List ℕ) → register_gives (a ∷ rest) bytes ≡ true → ((is_write a || gives a bytes) ≡ true) × (register_gives rest (bytes_after a bytes) ≡ true)
register_to a rest bytes h = go a.kind refl
  where
    Result : Type 0
    Result = ((is_write a || gives a bytes) ≡ true) × (register_gives rest (bytes_after a bytes) ≡ true)

    both : is_write a ≡ false → bytes_after a bytes ≡ bytes → (gives a bytes && register_gives rest bytes) ≡ true → Result
    both reads same h' = let parts = and_parts (gives a bytes) (register_gives rest bytes) h' in (or_right (is_write a) (gives a bytes) parts.0, ap (register_gives rest) same ∙ parts.1)

    go : (k : Kind) → a.kind ≡ k → Result
    go (Writes written) is = let later : register_gives rest written ≡ true = rw is at h in let writes : is_write a ≡ true = rw is in (or_left (is_write a) (gives a bytes) writes, rw is later)
    go (Reads gave) is = let h' : (gives a bytes && register_gives rest bytes) ≡ true = rw is (rw is at h) in both (rw is) (rw is) h'
    go (Rows gave) is = let h' : (gives a bytes && register_gives rest bytes) ≡ true = rw is (rw is at h) in both (rw is) (rw is) h'

walk_from : (ops : List Op) (places : List ℕ) (begun : ℕ) (bytes : List ℕ) → walks ops places begun bytes ≡ true → Parts ops places begun bytes
walk_from ops [] begun bytes h = (refl, refl, refl)
walk_from ops (i ∷ places) begun bytes h = go (slice_get ops i) refl (walk_from ops places)
  where
    go : (o : Option Op) → slice_get ops i ≡ o → ((begun : ℕ) (bytes : List ℕ) → walks ops places begun bytes ≡ true → Parts ops places begun bytes) → Parts ops (i ∷ places) begun bytes
    go None e later = absurd (true≢false (sym (rw e at h)))
    go (Some a) e later =
        let high : ℕ = max begun a.begin in
        let h' : (passes a high bytes && walks ops places high (bytes_after a bytes)) ≡ true = rw e at h in
        let both = and_parts (passes a high bytes) (walks ops places high (bytes_after a bytes)) h' in
        let p = and_parts (is_some a.end || is_write a) (is_open_at high a.end && (is_write a || gives a bytes)) both.0 in
        let q = and_parts (is_open_at high a.end) (is_write a || gives a bytes) p.1 in
        let rest = later high (bytes_after a bytes) both.1 in
        let allowed : is_allowed ops i ≡ true = rw e p.0 in
        let os : ops_at ops (i ∷ places) ≡ a ∷ ops_at ops places = rw e in
        let order : is_in_order begun (a ∷ ops_at ops places) ≡ true = and_from (is_open_at high a.end) (is_in_order high (ops_at ops places)) q.0 rest.1 in
        let register : register_gives (a ∷ ops_at ops places) bytes ≡ true = register_from a (ops_at ops places) bytes q.1 rest.2 in
        (and_from (is_allowed ops i) (list_all (is_allowed ops) places) allowed rest.0, ap (is_in_order begun) os ∙ order, ap (λ z. register_gives z bytes) os ∙ register)

walk_to : (ops : List Op) (places : List ℕ) (begun : ℕ) (bytes : List ℕ) → Parts ops places begun bytes → walks ops places begun bytes ≡ true
walk_to ops [] begun bytes h = refl
walk_to ops (i ∷ places) begun bytes (allowed, order, register) = go (slice_get ops i) refl (walk_to ops places)
  where
    each : (is_allowed ops i ≡ true) × (list_all (is_allowed ops) places ≡ true)
    each = and_parts (is_allowed ops i) (list_all (is_allowed ops) places) allowed

    go : (o : Option Op) → slice_get ops i ≡ o → ((begun : ℕ) (bytes : List ℕ) → Parts ops places begun bytes → walks ops places begun bytes ≡ true) → walks ops (i ∷ places) begun bytes ≡ true
    go None e later = absurd (true≢false (sym (rw e at each.0)))
    go (Some a) e later =
        let high : ℕ = max begun a.begin in
        let may : (is_some a.end || is_write a) ≡ true = rw e at each.0 in
        let os : a ∷ ops_at ops places ≡ ops_at ops (i ∷ places) = rw e in
        let o = and_parts (is_open_at high a.end) (is_in_order high (ops_at ops places)) (ap (is_in_order begun) os ∙ order) in
        let r = register_to a (ops_at ops places) bytes (ap (λ z. register_gives z bytes) os ∙ register) in
        let pass : passes a high bytes ≡ true = and_from (is_some a.end || is_write a) (is_open_at high a.end && (is_write a || gives a bytes)) may (and_from (is_open_at high a.end) (is_write a || gives a bytes) o.0 r.0) in
        let both = and_from (passes a high bytes) (walks ops places high (bytes_after a bytes)) pass (later high (bytes_after a bytes) (each.1, o.1, r.1)) in
        rw e both

-- ---- the whole test

once_of : (ops : List Op) (places : List ℕ) → (rises ops places || is_once places) ≡ true → is_once places ≡ true
once_of ops places h = go (rises ops places) refl
  where
    go : (b : Bool) → rises ops places ≡ b → is_once places ≡ true
    go true e = rises_once ops places e
    go false e = rw e at h

at_once_from : (ops : List Op) (places : List ℕ) → is_legal_at_once ops places ≡ true → Legal ops places
at_once_from ops places h =
    let os : List Op = ops_at ops places in
    let one = and_parts (walks ops places 0 []) (completed_at ops places == completed ops && (rises ops places || is_once places)) h in
    let two = and_parts (completed_at ops places == completed ops) (rises ops places || is_once places) one.1 in
    let parts = walk_from ops places 0 [] one.0 in
    let once = once_of ops places two.1 in
    let whole = whole_if ops ops 0 places once (rest_whole ops) (late_all ops places ∙ eqb-true (completed_at ops places) (completed ops) two.0) in
    (checks_decide ops places).0
    (and_from (is_once places) (list_all (is_allowed ops) places && (is_whole places 0 ops && (is_in_order 0 os && register_gives os []))) once
    (and_from (list_all (is_allowed ops) places) (is_whole places 0 ops && (is_in_order 0 os && register_gives os [])) parts.0
    (and_from (is_whole places 0 ops) (is_in_order 0 os && register_gives os []) whole
    (and_from (is_in_order 0 os) (register_gives os []) parts.1 parts.2))))

at_once_to : (ops : List Op) (places : List ℕ) → Legal ops places → is_legal_at_once ops places ≡ true
at_once_to ops places legal =
    let os : List Op = ops_at ops places in
    let h = (checks_decide ops places).1 legal in
    let one = and_parts (is_once places) (list_all (is_allowed ops) places && (is_whole places 0 ops && (is_in_order 0 os && register_gives os []))) h in
    let two = and_parts (list_all (is_allowed ops) places) (is_whole places 0 ops && (is_in_order 0 os && register_gives os [])) one.1 in
    let three = and_parts (is_whole places 0 ops) (is_in_order 0 os && register_gives os []) two.1 in
    let four = and_parts (is_in_order 0 os) (register_gives os []) three.1 in
    let counts : completed_at ops places ≡ completed ops = sym (late_all ops places) ∙ whole_only ops ops 0 places one.0 (rest_whole ops) three.0 in
    and_from (walks ops places 0 []) (completed_at ops places == completed ops && (rises ops places || is_once places))
    (walk_to ops places 0 [] (two.0, four.0, four.1))
    (and_from (completed_at ops places == completed ops) (rises ops places || is_once places) (eq-eqb (completed_at ops places) (completed ops) counts) (or_right (rises ops places) (is_once places) one.0))

pub at_once_decides : (ops : List Op) (places : List ℕ) → Decides (is_legal_at_once ops places) (Legal ops places)
at_once_decides ops places = (at_once_from ops places, at_once_to ops places)
