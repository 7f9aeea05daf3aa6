-- How many bytes of contents are in memory.
use Rattle.std.proofs.Common.{◌≡◌, ℕ, ◌≤◌, ◌<◌, ◌+◌, ◌-◌, Bool, true, false, List, refl, ap, sym, ◌∙◌, arith, get_or, set, length}
use Rattle.std.specs.Prelude.{Result, Ok, Err, IfOk, OnErr, Option, Some, None, IfSome, max, if◌then◌else◌}
use Rattle.std.proofs.lemmas.List.Sums.{sum_by-set}
use Rattle.gq_ledger.specs.Ledgers.{all_fresh}
use Rattle.gq_shelf.specs.Notes.{Noted}
use Rattle.gq_shelf.specs.Places.{PutBehind}
use Rattle.gq_shelf.specs.declared.place.Place.{Place}
use Rattle.gq_shelf.specs.declared.place.Place.TheVariants.{Fresh, Shelved}
use Rattle.gq_stock.specs.Memory.{fresh_at, stays_fresh, fresh_of, fresh_taken}
use Rattle.gq_stock.specs.Moving.{LiesBehind}
use Rattle.gq_stock.specs.declared.keeping.Keeping.{Keeping}
use Rattle.gq_stock.specs.declared.keeping.Keeping.TheVariants.{New, Same, Differs, Damaged, Below, Full, NoSpace}
use Rattle.gq_stock.specs.declared.session.Session.{Session}
use Rattle.gq_stock.specs.Stocks.{fresh_in}

-- what lies on the shelf is not in memory
pub put_behind : (place : Place) (end : ℕ) (content : List ℕ) (old new : Noted) → PutBehind end content old new place → fresh_at place ≡ 0
put_behind (Fresh bytes) end content old new put = absurd put
put_behind (Shelved extent) end content old new put = refl

lies_behind : (place : Place) (end : ℕ) → LiesBehind end place → fresh_at place ≡ 0
lies_behind (Fresh bytes) end lies = absurd lies
lies_behind (Shelved extent) end lies = refl

pub lies_all : (o : Option Place) (end : ℕ) → IfSome o (λ there. LiesBehind end there) → IfSome o (λ there. fresh_at there ≡ 0)
lies_all None end lie = tt
lies_all (Some there) end lie = lies_behind there end lie

-- a content takes no more memory than is left
fresh_within : (long left : ℕ) → fresh_of long left ≤ left
fresh_within long left = grind arith

pub stays : (long n left : ℕ) → n ≡ long → stays_fresh n left ≡ true → long ≡ fresh_of long left
stays long n left same is = sym (ap (λ (t : Bool). if t then long else 0) (ap (λ (m : ℕ). stays_fresh m left) (sym same) ∙ is))

pub goes : {E : Type 0} (r : Result Place E) (long n left : ℕ) → n ≡ long → stays_fresh n left ≡ false → IfOk r (λ place. fresh_at place ≡ 0) → IfOk r (λ place. fresh_at place ≡ fresh_of long left)
goes (Err e) long n left same not none = tt
goes (Ok place) long n left same not none = none ∙ sym (ap (λ (t : Bool). if t then long else 0) (ap (λ (m : ℕ). stays_fresh m left) (sym same) ∙ not))

pub taken_within : (long left : ℕ) (told : Keeping) → fresh_taken long left told ≤ left
taken_within long left New = fresh_within long left
taken_within long left Same = omega arith
taken_within long left Differs = omega arith
taken_within long left Damaged = omega arith
taken_within long left Below = omega arith
taken_within long left Full = omega arith
taken_within long left NoSpace = omega arith

-- ---- all sessions

-- one session in place of another
pub in_all : (sessions : List Session) (i : ℕ) (d new : Session) → i < length sessions → d ≡ get_or sessions i d → fresh_in (set sessions i new) + all_fresh d.chunks ≡ fresh_in sessions + all_fresh new.chunks
in_all sessions i d new lt is =
    let sum : fresh_in (set sessions i new) + all_fresh (get_or sessions i d).chunks ≡ fresh_in sessions + all_fresh new.chunks = sum_by-set (λ (s : Session). all_fresh s.chunks) sessions i new d lt in
    let same : all_fresh d.chunks ≡ all_fresh (get_or sessions i d).chunks = ap (λ (s : Session). all_fresh s.chunks) is in
    omega (arith, sum, same)

pub given_within : (sessions : List Session) (i : ℕ) (d new : Session) (left most : ℕ) → i < length sessions → d ≡ get_or sessions i d → left ≡ most - fresh_in sessions → all_fresh new.chunks ≤ all_fresh d.chunks + left → fresh_in (set sessions i new) ≤ max (fresh_in sessions) most
given_within sessions i d new left most lt is room le =
    let sum : fresh_in (set sessions i new) + all_fresh d.chunks ≡ fresh_in sessions + all_fresh new.chunks = in_all sessions i d new lt is in
    omega (arith, sum, room, le)

pub kept_within : {E : Type 0} (r : Result Keeping E) (sessions : List Session) (i : ℕ) (d new : Session) (long left most : ℕ) → i < length sessions → d ≡ get_or sessions i d → left ≡ most - fresh_in sessions →
    IfOk r (λ told. all_fresh new.chunks ≡ all_fresh d.chunks + fresh_taken long left told) → OnErr r (all_fresh new.chunks ≡ all_fresh d.chunks) → fresh_in (set sessions i new) ≤ max (fresh_in sessions) most
kept_within (Ok told) sessions i d new long left most lt is room kept same =
    let taken : fresh_taken long left told ≤ left = taken_within long left told in
    given_within sessions i d new left most lt is room (omega (arith, taken, kept))
kept_within (Err e) sessions i d new long left most lt is room kept same = given_within sessions i d new left most lt is room (omega (arith, same))

pub kept_fresh : {E : Type 0} (r : Result Keeping E) (sessions : List Session) (i : ℕ) (d new : Session) (long left room : ℕ) → i < length sessions → d ≡ get_or sessions i d → left ≡ room →
    IfOk r (λ told. all_fresh new.chunks ≡ all_fresh d.chunks + fresh_taken long left told) → IfOk r (λ told. fresh_in (set sessions i new) ≡ fresh_in sessions + fresh_taken long room told)
kept_fresh (Err e) sessions i d new long left room lt is same kept = tt
kept_fresh (Ok told) sessions i d new long left room lt is same kept =
    let sum : fresh_in (set sessions i new) + all_fresh d.chunks ≡ fresh_in sessions + all_fresh new.chunks = in_all sessions i d new lt is in
    let taken : fresh_taken long left told ≡ fresh_taken long room told = ap (λ (n : ℕ). fresh_taken long n told) same in
    omega (arith, sum, taken, kept)
