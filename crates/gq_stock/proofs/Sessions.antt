-- How many bytes the chunks of all sessions have.
use Rattle.std.proofs.Common.{◌≡◌, ◌≢◌, Bool, subst, get_or-set_same, length-set, ◌≤◌, ◌<◌, ◌+◌, ◌-◌, ◌^◌, ℕ, List, [], ◌∷◌, zero, suc, Some, refl, sym, ap, ◌∙◌, arith, take, get_or, set, length}
use Rattle.std.specs.Prelude.{min, max}
use Rattle.std.proofs.lemmas.List.Sums.{sum_by_more, sum_by-set, sum_by_more_le}
use Rattle.gq_ledger.specs.Ledgers.{all_bytes}
use Rattle.gq_stock.specs.declared.session.Session.{Session}
use Rattle.std.specs.Prelude.{Result, Ok, Err, IfOk, OnErr, slice_get}
use Rattle.std.proofs.lemmas.Option.{same_Some, slice_get-get_or}
use Rattle.gq_shelf.specs.declared.extent.Extent.{Extent}
use Rattle.gq_ledger.specs.Ledgers.{book_of}
use Rattle.gq_stock.specs.Finding.{FindsDamage}
use Rattle.gq_stock.specs.Held.{contents}
use Rattle.gq_stock.specs.Keeping.{KeptAs, ChangesOnly}
use Rattle.gq_stock.specs.declared.keeping.Keeping.{Keeping}
use Rattle.gq_stock.specs.declared.keeping.Keeping.TheVariants.{New, Damaged}
use Rattle.gq_shelf.specs.Notes.{Noted}
use Rattle.gq_stock.specs.Sure.{IsSureOf, IsLongOf}
use Rattle.gq_stock.specs.Stocks.{used_in, KeptIn, ChangesIn, DamagedIn, SureIn, LongIn, StaysIn}

-- one session more
pub used_more : (sessions : List Session) (i : ℕ) (d : Session) (before after used : ℕ) → i < length sessions → before ≡ min (used_in (take i sessions)) (2 ^ 64 - 1) → used ≡ all_bytes (get_or sessions i d).chunks → after ≡ min (before + used) (2 ^ 64 - 1) → after ≡ min (used_in (take (i + 1) sessions)) (2 ^ 64 - 1)
used_more sessions i d before after used lt is its next =
    let more : used_in (take (i + 1) sessions) ≡ used_in (take i sessions) + all_bytes (get_or sessions i d).chunks = sum_by_more (λ (s : Session). all_bytes s.chunks) sessions i d lt in
    omega arith

-- what is used of one session is used
pub used_within : (sessions : List Session) (i : ℕ) (d : Session) → i < length sessions → all_bytes (get_or sessions i d).chunks ≤ used_in sessions
used_within sessions i d lt =
    let le : used_in (take i sessions) + all_bytes (get_or sessions i d).chunks ≤ used_in sessions = sum_by_more_le (λ (s : Session). all_bytes s.chunks) sessions i d lt in
    omega arith

-- what a session takes
pub used_set : (sessions : List Session) (i : ℕ) (d new : Session) (taken : ℕ) → i < length sessions → all_bytes new.chunks ≡ all_bytes (get_or sessions i d).chunks + taken → used_in (set sessions i new) ≡ used_in sessions + taken
used_set sessions i d new taken lt is =
    let sum : used_in (set sessions i new) + all_bytes (get_or sessions i d).chunks ≡ used_in sessions + all_bytes new.chunks = sum_by-set (λ (s : Session). all_bytes s.chunks) sessions i new d lt in
    omega arith

pub room_kept : (used free allowed after taken : ℕ) → after ≡ used + taken → taken ≤ free → free ≡ allowed - used → after ≤ max used allowed
room_kept used free allowed after taken is within room = omega arith

-- the session that is at the place, and the one that is put there
pub at_place : (sessions : List Session) (i : ℕ) (d old : Session) → i < length sessions → d ≡ get_or sessions i d → slice_get sessions i ≡ Some old → old ≡ d
at_place sessions i d old lt is was = same_Some old d (sym was ∙ (slice_get-get_or sessions i d lt ∙ ap (λ (s : Session). Some s) (sym is)))

pub put_there : (sessions : List Session) (i : ℕ) (new now : Session) → i < length sessions → slice_get (set sessions i new) i ≡ Some now → now ≡ new
put_there sessions i new now lt is =
    let within : i < length (set sessions i new) = omega (arith, length-set sessions i new) in
    same_Some now new (sym is ∙ (slice_get-get_or (set sessions i new) i new within ∙ ap (λ (s : Session). Some s) (get_or-set_same sessions i new new lt)))

pub kept_in : {E : Type 0} (r : Result Keeping E) (written : Extent → List ℕ) (sessions : List Session) (i n : ℕ) (bytes : List ℕ) (is_sure : Bool) (free allowed : ℕ) (C : Type 0) (d new : Session) → i < length sessions → d ≡ get_or sessions i d → free ≡ allowed - used_in sessions →
    IfOk r (λ told. C → KeptAs (contents written (book_of d.chunks)) n bytes is_sure free told (contents written (book_of new.chunks))) →
    IfOk r (λ told. C → KeptIn written sessions i n bytes is_sure (allowed - used_in sessions) told (set sessions i new))
kept_in (Err e) written sessions i n bytes is_sure free allowed C d new lt is room kept = tt
kept_in (Ok told) written sessions i n bytes is_sure free allowed C d new lt is room kept = λ clean old now was then.
    subst (λ (s : Session). KeptAs (contents written (book_of s.chunks)) n bytes is_sure (allowed - used_in sessions) told (contents written (book_of now.chunks))) (sym (at_place sessions i d old lt is was))
    (subst (λ (s : Session). KeptAs (contents written (book_of d.chunks)) n bytes is_sure (allowed - used_in sessions) told (contents written (book_of s.chunks))) (sym (put_there sessions i new now lt then))
    (subst (λ (f : ℕ). KeptAs (contents written (book_of d.chunks)) n bytes is_sure f told (contents written (book_of new.chunks))) room (kept clean)))

pub others_stay : {X : Type 0} (xs : List X) (i j : ℕ) (y : X) → j ≢ i → slice_get (set xs i y) j ≡ slice_get xs j
others_stay [] i j y other = refl
others_stay (x ∷ xs) zero zero y other = absurd (other refl)
others_stay (x ∷ xs) zero (suc j) y other = refl
others_stay (x ∷ xs) (suc i) zero y other = refl
others_stay (x ∷ xs) (suc i) (suc j) y other = others_stay xs i j y (λ e. other (ap suc e))

pub stays_in : (sessions : List Session) (i : ℕ) (d new : Session) → i < length sessions → d ≡ get_or sessions i d → book_of new.chunks ≡ book_of d.chunks → StaysIn sessions i (set sessions i new)
stays_in sessions i d new lt is same old now was then =
    ap (λ (s : Session). book_of s.chunks) (put_there sessions i new now lt then) ∙ (same ∙ sym (ap (λ (s : Session). book_of s.chunks) (at_place sessions i d old lt is was)))

pub err_stays : {E : Type 0} (r : Result Keeping E) (sessions : List Session) (i : ℕ) (d new : Session) → i < length sessions → d ≡ get_or sessions i d → OnErr r (book_of new.chunks ≡ book_of d.chunks) → OnErr r (StaysIn sessions i (set sessions i new))
err_stays (Ok told) sessions i d new lt is same = tt
err_stays (Err e) sessions i d new lt is same = stays_in sessions i d new lt is same

pub sure_in : {E : Type 0} (r : Result Keeping E) (sessions : List Session) (i n : ℕ) (new : Session) (noted : Noted) → i < length sessions → IfOk r (λ told. told ≡ New → IsSureOf ((book_of new.chunks).at n) noted) → IfOk r (λ told. told ≡ New → SureIn (set sessions i new) i n noted)
sure_in (Err e) sessions i n new noted lt sure = tt
sure_in (Ok told) sessions i n new noted lt sure = λ is session there. subst (λ (s : Session). IsSureOf ((book_of s.chunks).at n) noted) (sym (put_there sessions i new session lt there)) (sure is)

pub long_in : {E : Type 0} (r : Result Keeping E) (sessions : List Session) (i n : ℕ) (new : Session) (long : ℕ) → i < length sessions → IfOk r (λ told. told ≡ New → IsLongOf ((book_of new.chunks).at n) long) → IfOk r (λ told. told ≡ New → LongIn (set sessions i new) i n long)
long_in (Err e) sessions i n new long lt is = tt
long_in (Ok told) sessions i n new long lt is = λ same session there. subst (λ (s : Session). IsLongOf ((book_of s.chunks).at n) long) (sym (put_there sessions i new session lt there)) (is same)

-- ---- what changes alone

pub changes_in : {E : Type 0} (r : Result Keeping E) (sessions : List Session) (i n : ℕ) (d new : Session) → i < length sessions → d ≡ get_or sessions i d → IfOk r (λ told. told ≡ New → ChangesOnly (book_of d.chunks) n (book_of new.chunks)) → IfOk r (λ told. told ≡ New → ChangesIn sessions i n (set sessions i new))
changes_in (Err e) sessions i n d new lt is alone = tt
changes_in (Ok told) sessions i n d new lt is alone = λ same old now was then.
    subst (λ (s : Session). ChangesOnly (book_of s.chunks) n (book_of now.chunks)) (sym (at_place sessions i d old lt is was))
    (subst (λ (s : Session). ChangesOnly (book_of d.chunks) n (book_of s.chunks)) (sym (put_there sessions i new now lt then)) (alone same))

pub keeps_in : {E : Type 0} (r : Result Keeping E) (sessions : List Session) (i : ℕ) (d new : Session) → i < length sessions → d ≡ get_or sessions i d → IfOk r (λ told. told ≢ New → book_of new.chunks ≡ book_of d.chunks) → IfOk r (λ told. told ≢ New → StaysIn sessions i (set sessions i new))
keeps_in (Err e) sessions i d new lt is stays = tt
keeps_in (Ok told) sessions i d new lt is stays = λ other. stays_in sessions i d new lt is (stays other)

pub damaged_in : {E : Type 0} (r : Result Keeping E) (sessions : List Session) (i n : ℕ) (d : Session) (old new : Noted) → i < length sessions → d ≡ get_or sessions i d → IfOk r (λ told. told ≡ Damaged → FindsDamage ((book_of d.chunks).at n) old new) → IfOk r (λ told. told ≡ Damaged → DamagedIn sessions i n old new)
damaged_in (Err e) sessions i n d old new lt is damaged = tt
damaged_in (Ok told) sessions i n d old new lt is damaged = λ same session was. subst (λ (s : Session). FindsDamage ((book_of s.chunks).at n) old new) (sym (at_place sessions i d session lt is was)) (damaged same)
