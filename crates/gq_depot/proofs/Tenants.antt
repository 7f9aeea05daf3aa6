-- Tenants are apart, and facts make again what there was.
use Rattle.std.proofs.Common.{◌≡◌, ◌≢◌, ◌<◌, ◌-◌, ℕ, zero, suc, Bool, true, false, List, [], ◌∷◌, length, get_or, set, get_or-set_same, length-set, Option, Some, None, refl, sym, ap, subst, ◌∙◌, arith}
use Rattle.std.specs.Prelude.{◌==◌, ◌&&◌, ◌||◌, slice_get, max, if◌then◌else◌}
use Rattle.std.proofs.lemmas.Bool.{eqb-true, eq-eqb, true≢false}
use Rattle.std.proofs.lemmas.Option.{same_Some, slice_get-get_or}
use Rattle.gq_shelf.specs.Notes.{Noted}
use Rattle.gq_ledger.specs.Steps.{Book, with_at}
use Rattle.gq_stock.specs.Forgetting.{is_in, is_in_any}
use Rattle.gq_depot.specs.Depots.{Placed, Standing, standing_of, forgotten, after_fact, IsSame}
use Rattle.gq_depot.specs.Moving.{MoveStep, MovesOwn}
use Rattle.gq_depot.specs.Tenants.{Step, TakesOwn, FillStep, FillsOwn}
use Rattle.gq_depot.specs.Laws.{Did, Deed, Asked, Filled, Moved, fact_of, Does, Ran, RanAlone, own_with, own, Apart, after_all, FactsRemake}
use Rattle.gq_depot.specs.declared.answer.Answered.{Answered}
use Rattle.gq_depot.specs.declared.depot.Depot.{Depot}
use Rattle.gq_depot.specs.declared.fact.ChunkFact.{ChunkFact}
use Rattle.gq_depot.specs.declared.fact.ChunkFact.TheVariants as Fact
use Rattle.gq_depot.specs.declared.filling.Filling.{Filling}
use Rattle.gq_depot.specs.declared.request.ChunkRequest.{ChunkRequest}
use Rattle.gq_depot.proofs.Standing.{there}

-- ---- one request

pub takes_own : (noted : Noted) (losses : ℕ) (olds : List Depot) (t : ℕ) (d new : Depot) (request : ChunkRequest) (answered : Answered) → t < length olds → d ≡ get_or olds t d → Step noted losses d request answered new → TakesOwn noted losses olds t request answered (set olds t new)
takes_own noted losses olds t d new request answered lt is step old now was after =
    let within : t < length (set olds t new) = omega (arith, length-set olds t new) in
    let first : old ≡ d = same_Some old d (sym was ∙ (slice_get-get_or olds t d lt ∙ ap (λ (x : Depot). Some x) (sym is))) in
    let last : now ≡ new = same_Some now new (sym after ∙ (slice_get-get_or (set olds t new) t new within ∙ ap (λ (x : Depot). Some x) (get_or-set_same olds t new new lt))) in
    subst (λ (x : Depot). Step noted losses x request answered now) (sym first) (subst (λ (x : Depot). Step noted losses d request answered x) (sym last) step)

pub fills_own : (noted : Noted) (olds : List Depot) (t : ℕ) (d new : Depot) (filling : Filling) (fact : Option ChunkFact) → t < length olds → d ≡ get_or olds t d → FillStep noted d filling fact new → FillsOwn noted olds t filling fact (set olds t new)
fills_own noted olds t d new filling fact lt is step old now was after =
    let within : t < length (set olds t new) = omega (arith, length-set olds t new) in
    let first : old ≡ d = same_Some old d (sym was ∙ (slice_get-get_or olds t d lt ∙ ap (λ (x : Depot). Some x) (sym is))) in
    let last : now ≡ new = same_Some now new (sym after ∙ (slice_get-get_or (set olds t new) t new within ∙ ap (λ (x : Depot). Some x) (get_or-set_same olds t new new lt))) in
    subst (λ (x : Depot). FillStep noted x filling fact now) (sym first) (subst (λ (x : Depot). FillStep noted d filling fact x) (sym last) step)

pub moves_own : (noted : Noted) (end : ℕ) (olds : List Depot) (t s n : ℕ) (d new : Depot) (fact : Option ChunkFact) → t < length olds → d ≡ get_or olds t d → MoveStep noted end d s n fact new → MovesOwn noted end olds t s n fact (set olds t new)
moves_own noted end olds t s n d new fact lt is step old now was after =
    let within : t < length (set olds t new) = omega (arith, length-set olds t new) in
    let first : old ≡ d = same_Some old d (sym was ∙ (slice_get-get_or olds t d lt ∙ ap (λ (x : Depot). Some x) (sym is))) in
    let last : now ≡ new = same_Some now new (sym after ∙ (slice_get-get_or (set olds t new) t new within ∙ ap (λ (x : Depot). Some x) (get_or-set_same olds t new new lt))) in
    subst (λ (x : Depot). MoveStep noted end x s n fact now) (sym first) (subst (λ (x : Depot). MoveStep noted end d s n fact x) (sym last) step)

-- ---- any requests, and what peers give

pub within : {X : Type 0} (xs : List X) (t : ℕ) (x : X) → slice_get xs t ≡ Some x → t < length xs
within {X} [] t x is = absurd (none x is)
  where
    none : (x : X) → None ≡ Some x → ⊥
    none x e = cc
within (y ∷ xs) zero x is = omega arith
within (y ∷ xs) (suc t) x is =
    let rest : t < length xs = within xs t x is in
    omega arith

lengths : (losses : ℕ) (firsts nows : List Depot) (dids : List Did) → Ran losses firsts dids nows → length nows ≡ length firsts
lengths losses firsts nows [] ran = ap (λ (xs : List Depot). length xs) ran
lengths losses firsts nows (did ∷ before) (mid, ran, takes) = takes.2 ∙ lengths losses firsts mid before ran

pub apart : Apart
apart losses t firsts nows [] first now was is ran = same_Some now first (sym is ∙ (ap (λ (xs : List Depot). slice_get xs t) ran ∙ was))
apart losses t firsts nows (did ∷ before) first now was is (mid, ran, takes) =
    let lt : t < length firsts = within firsts t first was in
    let same : length mid ≡ length firsts = lengths losses firsts mid before ran in
    let its : (x : Depot) × (slice_get mid t ≡ Some x) = there mid t (omega (arith, lt, same)) in
    by (did.tenant == t) refl its.0 its.1 (apart losses t firsts mid before first its.0 was its.1 ran)
  where
    by : (b : Bool) → (did.tenant == t) ≡ b → (m : Depot) → slice_get mid t ≡ Some m → RanAlone losses first (own t before) m → RanAlone losses first (own_with b did (own t before)) now
    by true e m at rest =
        let tenant : did.tenant ≡ t = eqb-true did.tenant t e in
        (m, rest, takes.0 m now (subst (λ (z : ℕ). slice_get mid z ≡ Some m) (sym tenant) at) (subst (λ (z : ℕ). slice_get nows z ≡ Some now) (sym tenant) is))
    by false e m at rest =
        let other : t ≢ did.tenant = λ same. true≢false (sym (eq-eqb did.tenant t (sym same)) ∙ e) in
        subst (λ (x : Depot). RanAlone losses first (own t before) x) (same_Some m now (sym at ∙ (sym (takes.1 t other) ∙ is))) rest

-- ---- facts

books_same : (b : Bool) (f : Book Placed → Book Placed) (x y : Book Placed) (n : ℕ) → (f x).at n ≡ (f y).at n → x.at n ≡ y.at n → (if b then f x else x).at n ≡ (if b then f y else y).at n
books_same true f x y n changed same = changed
books_same false f x y n changed same = same

floors_same : (b : Bool) (f : Book Placed → Book Placed) (x y : Book Placed) → (f x).floor ≡ (f y).floor → x.floor ≡ y.floor → (if b then f x else x).floor ≡ (if b then f y else y).floor
floors_same true f x y changed same = changed
floors_same false f x y changed same = same

pub after_same : (fact : Option ChunkFact) (a b : Standing) → IsSame a b → IsSame (after_fact fact a) (after_fact fact b)
after_same None a b same = same
after_same (Some (Fact.Put s n sure place)) a b same =
    let f : Book Placed → Book Placed = λ x. with_at x n (Some (record { place = place; is_sure = sure })) in record {
      at = λ k m. books_same (k == s - 1) f (a.books k) (b.books k) m (ap (λ (o : Option Placed). if m == n then Some (record { place = place; is_sure = sure }) else o) (same.at k m)) (same.at k m);
      floor = λ k. floors_same (k == s - 1) f (a.books k) (b.books k) (same.floor k) (same.floor k);
      gone = same.gone;
      lacks = same.lacks;
    }
after_same (Some (Fact.Forgot s floor run)) a b same =
    let f : Book Placed → Book Placed = λ x. forgotten x floor run in record {
      at = λ k m. books_same (k == s - 1) f (a.books k) (b.books k) m (ap (λ (o : Option Placed). if is_in_any m (run ∷ []) then None else o) (same.at k m)) (same.at k m);
      floor = λ k. floors_same (k == s - 1) f (a.books k) (b.books k) (ap (λ (x : ℕ). max x floor) (same.floor k)) (same.floor k);
      gone = λ k m. ap (λ (x : Bool). x || (a.lacks && ((k == s - 1) && is_in m run))) (same.gone k m) ∙ ap (λ (x : Bool). b.gone k m || (x && ((k == s - 1) && is_in m run))) same.lacks;
      lacks = same.lacks;
    }
after_same (Some Fact.Filled) a b same = record { at = same.at; floor = same.floor; gone = λ k n. refl; lacks = refl }

pub same_on : (a b c : Standing) → IsSame a b → IsSame b c → IsSame a c
same_on a b c one two = record { at = λ k n. one.at k n ∙ two.at k n; floor = λ k. one.floor k ∙ two.floor k; gone = λ k n. one.gone k n ∙ two.gone k n; lacks = one.lacks ∙ two.lacks }

pub facts_remake : FactsRemake
facts_remake losses first now [] ran = subst (λ (x : Depot). IsSame (standing_of x) (standing_of first)) (sym ran) (record { at = λ k n. refl; floor = λ k. refl; gone = λ k n. refl; lacks = refl })
facts_remake losses first now (did ∷ before) (mid, ran, step) =
    same_on (standing_of now) (after_fact (fact_of did.deed) (standing_of mid)) (after_all (did ∷ before) (standing_of first)) (leads did.deed step)
    (after_same (fact_of did.deed) (standing_of mid) (after_all before (standing_of first)) (facts_remake losses first mid before ran))
  where
    leads : (deed : Deed) → Does did.noted losses mid deed now → IsSame (standing_of now) (after_fact (fact_of deed) (standing_of mid))
    leads (Asked request answered) step = step.leads.standing
    leads (Filled filling fact) step = step.leads.standing
    leads (Moved s n end fact) step = step.leads.standing
