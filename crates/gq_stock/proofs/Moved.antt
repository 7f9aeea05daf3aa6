-- A chunk that is moved.
use Rattle.std.proofs.Common.{◌≡◌, ◌<◌, ◌≤◌, ◌+◌, ℕ, Bool, true, false, List, Some, get_or, set, length, refl, sym, ap, subst, ◌∙◌, arith}
use Rattle.std.specs.Prelude.{Option, option_map, ◌==◌, if◌then◌else◌, Result, Ok, Err, IfOk, OnErr}
use Rattle.std.proofs.lemmas.Bool.{eqb-true, eq-eqb}
use Rattle.std.proofs.lemmas.List.Sums.{sum_by-set}
use Rattle.gq_shelf.specs.Notes.{Noted}
use Rattle.gq_shelf.specs.declared.extent.Extent.{Extent}
use Rattle.gq_shelf.specs.Places.{content_at, long_at}
use Rattle.gq_ledger.specs.Steps.{Book, Gives, Leads}
use Rattle.gq_stock.specs.Held.{Held, held_by, contents}
use Rattle.gq_ledger.specs.Ledgers.{book_of, all_bytes, all_fresh}
use Rattle.gq_stock.specs.Keeping.{ChangesOnly}
use Rattle.gq_stock.specs.Moving.{MovedAs, LiesBehind, IsMoved}
use Rattle.gq_stock.specs.Stocks.{used_in, fresh_in, ChangesIn, StaysIn, MovedIn, PutIn}
use Rattle.gq_stock.specs.Sure.{PlaceIsPut, IsPutOf}
use Rattle.gq_stock.specs.declared.chunk.Chunk.{Chunk}
use Rattle.gq_stock.specs.declared.session.Session.{Session}
use Rattle.gq_stock.proofs.Giving.{given_alone}
use Rattle.gq_stock.proofs.Memory.{in_all}
use Rattle.gq_stock.proofs.Sessions.{at_place, put_there, stays_in}

-- two chunks of the same bytes that are as sure
same_held : (written : Extent → List ℕ) (was chunk : Chunk) → content_at written chunk.place ≡ content_at written was.place → chunk.is_sure ≡ was.is_sure → held_by written chunk ≡ held_by written was
same_held written was chunk bytes sure =
    ap (λ (bs : List ℕ). record { bytes = bs; is_sure = chunk.is_sure }) bytes ∙ ap (λ (b : Bool). record { bytes = content_at written was.place; is_sure = b }) sure

-- the chunk that was there is put elsewhere
pub moved : (written : Extent → List ℕ) (old new : Book Chunk) (n : ℕ) (was chunk : Chunk) → old.at n ≡ Some was → content_at written chunk.place ≡ content_at written was.place → chunk.is_sure ≡ was.is_sure → Leads old (Gives n chunk) new → MovedAs (contents written old) (contents written new)
moved written old new n was chunk there bytes sure leads = record { at = λ m. ap (option_map (held_by written)) (leads.at m) ∙ by m (m == n) refl; floor = leads.floor }
  where
    same : Some (held_by written chunk) ≡ option_map (held_by written) (old.at n)
    same = ap (λ (h : Held). Some h) (same_held written was chunk bytes sure) ∙ sym (ap (option_map (held_by written)) there)

    by : (m : ℕ) (b : Bool) → (m == n) ≡ b → option_map (held_by written) (if b then Some chunk else old.at m) ≡ option_map (held_by written) (old.at m)
    by m true e = same ∙ ap (λ (k : ℕ). option_map (held_by written) (old.at k)) (sym (eqb-true m n e))
    by m false e = refl

pub stays_moved : (written : Extent → List ℕ) (old new : Book Chunk) → new ≡ old → MovedAs (contents written old) (contents written new)
stays_moved written old new now = record { at = λ m. ap (λ (b : Book Chunk). option_map (held_by written) (b.at m)) now; floor = ap (λ (b : Book Chunk). b.floor) now }

-- ---- where it stands then

put_at : (old new : Book Chunk) (n : ℕ) (chunk : Chunk) → Leads old (Gives n chunk) new → new.at n ≡ Some chunk
put_at old new n chunk leads = leads.at n ∙ ap (λ (t : Bool). if t then Some chunk else old.at n) (eq-eqb n n refl)

pub moved_to : (is_clean : Type 0) (written : Extent → List ℕ) (end : ℕ) (old new : Book Chunk) (n : ℕ) (was chunk : Chunk) → old.at n ≡ Some was → Leads old (Gives n chunk) new → chunk.is_sure ≡ was.is_sure → long_at chunk.place ≡ long_at was.place → LiesBehind end chunk.place → (is_clean → content_at written chunk.place ≡ content_at written was.place) → IsMoved is_clean written end (old.at n) (new.at n)
moved_to is_clean written end old new n was chunk there leads sure long lies same =
    subst (λ (o : Option Chunk). IsMoved is_clean written end o (new.at n)) (sym there)
    (subst (λ (o : Option Chunk). IsMoved is_clean written end (Some was) o) (sym (put_at old new n chunk leads)) (sure, long, lies, same))

pub moved_put : (old new : Book Chunk) (n : ℕ) (chunk : Chunk) (noted : Noted) → Leads old (Gives n chunk) new → PlaceIsPut chunk.place noted → IsPutOf (new.at n) noted
moved_put old new n chunk noted leads put = subst (λ (o : Option Chunk). IsPutOf o noted) (sym (put_at old new n chunk leads)) put

-- ---- of all sessions

pub moved_in : {E : Type 0} (r : Result Bool E) (is_clean : Type 0) (written : Extent → List ℕ) (end : ℕ) (sessions : List Session) (i n : ℕ) (d new : Session) → i < length sessions → d ≡ get_or sessions i d →
    IfOk r (λ is. is ≡ true → IsMoved is_clean written end ((book_of d.chunks).at n) ((book_of new.chunks).at n)) → IfOk r (λ is. is ≡ true → MovedIn is_clean written end sessions i n (set sessions i new))
moved_in (Err e) is_clean written end sessions i n d new lt is moved = tt
moved_in (Ok b) is_clean written end sessions i n d new lt is moved = λ same old now was after.
    subst (λ (s : Session). IsMoved is_clean written end ((book_of s.chunks).at n) ((book_of now.chunks).at n)) (sym (at_place sessions i d old lt is was))
    (subst (λ (s : Session). IsMoved is_clean written end ((book_of d.chunks).at n) ((book_of s.chunks).at n)) (sym (put_there sessions i new now lt after)) (moved same))

pub alone_in : {E : Type 0} (r : Result Bool E) (sessions : List Session) (i n : ℕ) (d new : Session) → i < length sessions → d ≡ get_or sessions i d → IfOk r (λ is. is ≡ true → ChangesOnly (book_of d.chunks) n (book_of new.chunks)) → IfOk r (λ is. is ≡ true → ChangesIn sessions i n (set sessions i new))
alone_in (Err e) sessions i n d new lt is alone = tt
alone_in (Ok b) sessions i n d new lt is alone = λ same. given_alone sessions i n d new lt is (alone same)

pub none_in : {E : Type 0} (r : Result Bool E) (sessions : List Session) (i : ℕ) (d new : Session) → i < length sessions → d ≡ get_or sessions i d → IfOk r (λ is. is ≡ false → book_of new.chunks ≡ book_of d.chunks) → IfOk r (λ is. is ≡ false → StaysIn sessions i (set sessions i new))
none_in (Err e) sessions i d new lt is same = tt
none_in (Ok b) sessions i d new lt is same = λ none. stays_in sessions i d new lt is (same none)

pub err_in : {E : Type 0} (r : Result Bool E) (sessions : List Session) (i : ℕ) (d new : Session) → i < length sessions → d ≡ get_or sessions i d → OnErr r (book_of new.chunks ≡ book_of d.chunks) → OnErr r (StaysIn sessions i (set sessions i new))
err_in (Ok b) sessions i d new lt is same = tt
err_in (Err e) sessions i d new lt is same = stays_in sessions i d new lt is same

pub put_in : {E : Type 0} (r : Result Bool E) (sessions : List Session) (i n : ℕ) (new : Session) (noted : Noted) → i < length sessions → IfOk r (λ is. is ≡ true → IsPutOf ((book_of new.chunks).at n) noted) → IfOk r (λ is. is ≡ true → PutIn (set sessions i new) i n noted)
put_in (Err e) sessions i n new noted lt put = tt
put_in (Ok b) sessions i n new noted lt put = λ is session there. subst (λ (s : Session). IsPutOf ((book_of s.chunks).at n) noted) (sym (put_there sessions i new session lt there)) (put is)

pub used_stays : (sessions : List Session) (i : ℕ) (d new : Session) → i < length sessions → d ≡ get_or sessions i d → all_bytes new.chunks ≡ all_bytes d.chunks → used_in (set sessions i new) ≡ used_in sessions
used_stays sessions i d new lt is same =
    let sum : used_in (set sessions i new) + all_bytes (get_or sessions i d).chunks ≡ used_in sessions + all_bytes new.chunks = sum_by-set (λ (s : Session). all_bytes s.chunks) sessions i new d lt in
    let its : all_bytes d.chunks ≡ all_bytes (get_or sessions i d).chunks = ap (λ (s : Session). all_bytes s.chunks) is in
    omega (arith, sum, its, same)

pub fresh_falls : (sessions : List Session) (i : ℕ) (d new : Session) → i < length sessions → d ≡ get_or sessions i d → all_fresh new.chunks ≤ all_fresh d.chunks → fresh_in (set sessions i new) ≤ fresh_in sessions
fresh_falls sessions i d new lt is less =
    let sum : fresh_in (set sessions i new) + all_fresh d.chunks ≡ fresh_in sessions + all_fresh new.chunks = in_all sessions i d new lt is in
    omega (arith, sum, less)
