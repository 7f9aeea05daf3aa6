-- A chunk that is moved is told as before.
use Rattle.std.proofs.Common.{◌≡◌, ◌≤◌, ◌<◌, ◌+◌, ◌-◌, ℕ, Bool, true, false, List, length, Option, Some, None, refl, sym, ap, subst, ◌∙◌, arith}
use Rattle.std.specs.Prelude.{option_map, slice_get, MatchOption, nat_le, ◌==◌, ◌&&◌, if◌then◌else◌}
use Rattle.std.proofs.lemmas.Bool.{eqb-true, leb-true}
use Rattle.std.proofs.lemmas.Option.{same_Some}
use Rattle.gq_shelf.specs.Notes.{Noted, IsClean}
use Rattle.gq_shelf.specs.Places.{content_at, long_at}
use Rattle.gq_shelf.specs.declared.extent.Extent.{Extent}
use Rattle.gq_shelf.specs.declared.place.Place.{Place}
use Rattle.gq_ledger.specs.Ledgers.{book_of}
use Rattle.gq_ledger.specs.Steps.{Book, with_at}
use Rattle.gq_stock.specs.Moving.{IsAt, IsMoved}
use Rattle.gq_stock.specs.Stocks.{MovedIn, PutIn, used_in}
use Rattle.gq_stock.specs.Sure.{PlaceIsPut, IsPutOf}
use Rattle.gq_stock.specs.declared.chunk.Chunk.{Chunk}
use Rattle.gq_stock.specs.declared.session.Session.{Session}
use Rattle.gq_depot.specs.Answers.{In}
use Rattle.gq_depot.specs.Depots.{Placed, placed_of, book_in, place_in, standing_of, after_fact, IsSame, LeadsTo, in_memory, StandsIn, ReadsFact, reads_fact}
use Rattle.gq_depot.specs.Moving.{MovedAt, MoveGives, FactIsPut, FitsThere, MoveStep, told_of, TellsSame, MovesTellSame}
use Rattle.gq_depot.specs.declared.depot.Depot.{Depot}
use Rattle.gq_depot.specs.declared.fact.ChunkFact.{ChunkFact}
use Rattle.gq_depot.specs.declared.fact.ChunkFact.TheVariants.{Put, Forgot, Filled}
use Rattle.gq_depot.specs.declared.limits.TheConstants.{MOST_CHUNK}
use Rattle.gq_depot.proofs.Standing.{there, reads_put}

-- ---- one chunk

placed_at : (is_clean : Type 0) (written : Extent → List ℕ) (end : ℕ) (was o : Option Chunk) (sure : Bool) (at : Place) → IsMoved is_clean written end was o → option_map placed_of o ≡ Some (record { place = at; is_sure = sure }) → IsAt is_clean written end was sure at
placed_at is_clean written end was None sure at moved is = absurd moved
placed_at is_clean written end was (Some chunk) sure at moved is = subst (λ (it : Placed). IsAt is_clean written end was it.is_sure it.place) (same_Some (placed_of chunk) (record { place = at; is_sure = sure }) is) moved

-- the fact of the chunk that stands there now
pub moved_at : (is_clean : Type 0) (written : Extent → List ℕ) (end : ℕ) (old : Depot) (news : List Session) (p s n : ℕ) (fact : ChunkFact) → p < length news → MovedIn is_clean written end old.stock.sessions.items p n news → In news p (λ session. StandsIn (book_of session.chunks) s n fact) → MovedAt is_clean written end old p s n (Some fact)
moved_at is_clean written end old news p s n fact within moved stands =
    let is : (x : Session) × (slice_get news p ≡ Some x) = there news p within in
    by fact is.0 is.1 (stands is.0 is.1)
  where
    by : (f : ChunkFact) (is : Session) → slice_get news p ≡ Some is → StandsIn (book_of is.chunks) s n f → MovedAt is_clean written end old p s n (Some f)
    by (Put s' n' sure at) is at_is st = (st.0, st.1, λ session was. placed_at is_clean written end ((book_of session.chunks).at n) ((book_of is.chunks).at n) sure at (moved session is was at_is) st.2)
    by (Forgot s' floor run) is at_is st = absurd st
    by Filled is at_is st = absurd st

put_new : (o : Option Chunk) (place : Place) (sure : Bool) (noted : Noted) → option_map placed_of o ≡ Some (record { place = place; is_sure = sure }) → IsPutOf o noted → PlaceIsPut place noted
put_new None place sure noted is put = absurd put
put_new (Some chunk) place sure noted is put = subst (λ (it : Placed). PlaceIsPut it.place noted) (same_Some (placed_of chunk) (record { place = place; is_sure = sure }) is) put

pub fact_put : (news : List Session) (p s n : ℕ) (fact : ChunkFact) (noted : Noted) → p < length news → PutIn news p n noted → In news p (λ session. StandsIn (book_of session.chunks) s n fact) → FactIsPut (Some fact) noted
fact_put news p s n fact noted within put stands =
    let is : (x : Session) × (slice_get news p ≡ Some x) = there news p within in
    by fact is.0 (put is.0 is.1) (stands is.0 is.1)
  where
    by : (f : ChunkFact) (is : Session) → IsPutOf ((book_of is.chunks).at n) noted → StandsIn (book_of is.chunks) s n f → FactIsPut (Some f) noted
    by (Put s' n' sure at) is its st = put_new ((book_of is.chunks).at n) at sure noted st.2 its
    by (Forgot s' floor run) is its st = absurd st
    by Filled is its st = absurd st

fits_still : (is_clean : Type 0) (written : Extent → List ℕ) (end : ℕ) (was : Option Chunk) (sure : Bool) (at : Place) → FitsThere was → IsAt is_clean written end was sure at → long_at at ≤ MOST_CHUNK
fits_still is_clean written end None sure at fits its = absurd fits
fits_still is_clean written end (Some chunk) sure at fits its = omega (arith, fits, its.1)

-- a start reads the fact
pub moved_reads : (is_clean : Type 0) (written : Extent → List ℕ) (end : ℕ) (old : Depot) (p s n : ℕ) (fact : ChunkFact) → s ≡ p + 1 → p < length old.stock.sessions.items → In old.stock.sessions.items p (λ session. FitsThere ((book_of session.chunks).at n)) → MovedAt is_clean written end old p s n (Some fact) → ReadsFact (length old.stock.sessions.items) (Some fact)
moved_reads is_clean written end old p s n fact number within fits moved =
    let was : (x : Session) × (slice_get old.stock.sessions.items p ≡ Some x) = there old.stock.sessions.items p within in
    by fact was.0 (fits was.0 was.1) was.1 moved
  where
    by : (f : ChunkFact) (was : Session) → FitsThere ((book_of was.chunks).at n) → slice_get old.stock.sessions.items p ≡ Some was → MovedAt is_clean written end old p s n (Some f) → ReadsFact (length old.stock.sessions.items) (Some f)
    by (Put s' n' sure at) was fit at_was m =
        subst (λ (z : ℕ). reads_fact (length old.stock.sessions.items) (Put z n' sure at) ≡ true) (sym m.0)
        (reads_put (length old.stock.sessions.items) p s (long_at at) n' sure at number within (fits_still is_clean written end ((book_of was.chunks).at n) sure at fit (m.2 was at_was)) refl)
    by (Forgot s' floor run) was fit at_was m = absurd m
    by Filled was fit at_was m = absurd m

-- nothing was moved
none_given : (is_clean : Type 0) (written : Extent → List ℕ) (end : ℕ) (old : Depot) (s n : ℕ) → MoveGives is_clean written end old s n None
none_given is_clean written end old s n = by (place_in old.stock.sessions.items s)
  where
    nothing : Option ChunkFact
    nothing = None

    by : (o : Option ℕ) → MatchOption o (nothing ≡ None) (λ place. MovedAt is_clean written end old place s n None)
    by None = refl
    by (Some p) = tt

pub none_moved : (noted : Noted) (end : ℕ) (old new : Depot) (s n : ℕ) → LeadsTo old None new → in_memory new ≤ in_memory old → used_in new.stock.sessions.items ≡ used_in old.stock.sessions.items → MoveStep noted end old s n None new
none_moved noted end old new s n leads memory used = record { gives = λ written. none_given (IsClean written noted) written end old s n; leads = leads; put = tt; reads = tt; memory = memory; used = used }

-- ---- what is told

-- what a book says of a number, where another chunk is there of which the same is said
said_same : {X : Type 0} (f : Placed → X) (b : Bool) (n m : ℕ) (book : Book Placed) (now : Placed) → (b ≡ true → option_map f (book.at n) ≡ Some (f now)) →
    option_map f ((if b then with_at book n (Some now) else book).at m) ≡ option_map f (book.at m)
said_same f false n m book now same = refl
said_same f true n m book now same = by (m == n) refl
  where
    by : (c : Bool) → (m == n) ≡ c → option_map f (if c then Some now else book.at m) ≡ option_map f (book.at m)
    by true e = sym (ap (λ (z : ℕ). option_map f (book.at z)) (eqb-true m n e) ∙ same refl)
    by false e = refl

floor_same : (b : Bool) (n : ℕ) (book : Book Placed) (now : Placed) → (if b then with_at book n (Some now) else book).floor ≡ book.floor
floor_same true n book now = refl
floor_same false n book now = refl

place_is : (sessions : List Session) (s p : ℕ) → place_in sessions s ≡ Some p → s - 1 ≡ p
place_is sessions s p is = by (nat_le 1 s && nat_le s (length sessions)) is
  where
    none : {x : ℕ} → None ≡ Some x → ⊥
    none e = cc

    by : (b : Bool) → (if b then Some (s - 1) else None) ≡ Some p → s - 1 ≡ p
    by true e = same_Some (s - 1) p e
    by false e = absurd (none e)

place_within : (sessions : List Session) (s p : ℕ) → place_in sessions s ≡ Some p → p < length sessions
place_within sessions s p is = by (nat_le 1 s) refl (nat_le s (length sessions)) refl is
  where
    none : {x : ℕ} → None ≡ Some x → ⊥
    none e = cc

    by : (a : Bool) → nat_le 1 s ≡ a → (b : Bool) → nat_le s (length sessions) ≡ b → (if a && b then Some (s - 1) else None) ≡ Some p → p < length sessions
    by true e true f is =
        let low : 1 ≤ s = leb-true 1 s e in
        let high : s ≤ length sessions = leb-true s (length sessions) f in
        let same : s - 1 ≡ p = same_Some (s - 1) p is in
        omega (arith, low, high, same)
    by true e false f is = absurd (none is)
    by false e b f is = absurd (none is)

-- what the book says of the chunk that was moved
was_said : {X : Type 0} (f : Placed → X) (is_clean : Type 0) (written : Extent → List ℕ) (end : ℕ) (o : Option Chunk) (sure : Bool) (at : Place) → IsAt is_clean written end o sure at →
    ((was : Chunk) → IsAt is_clean written end (Some was) sure at → f (placed_of was) ≡ f (record { place = at; is_sure = sure })) → option_map f (option_map placed_of o) ≡ Some (f (record { place = at; is_sure = sure }))
was_said {X} f is_clean written end None sure at its same = absurd its
was_said {X} f is_clean written end (Some was) sure at its same = ap (λ (x : X). Some x) (same was its)

told_same : (written : Extent → List ℕ) (was : Placed) (at : Place) (sure : Bool) → sure ≡ was.is_sure → content_at written at ≡ content_at written was.place → told_of written was ≡ told_of written (record { place = at; is_sure = sure })
told_same written was at sure is same =
    sym (ap (λ (bs : List ℕ). record { bytes = bs; is_sure = sure }) same ∙ ap (λ (b : Bool). record { bytes = content_at written was.place; is_sure = b }) is)

pub moves_tell_same : MovesTellSame
moves_tell_same noted end old new s n fact step written = by fact (step.gives written) step.leads.standing
  where
    -- what a fact that was given of it says of the number
    its_book : (sure : Bool) (at : Place) {X : Type 0} (f : Placed → X) → (s' n' : ℕ) → MoveGives (IsClean written noted) written end old s n (Some (Put s' n' sure at)) →
        ((was : Chunk) → IsAt (IsClean written noted) written end (Some was) sure at → f (placed_of was) ≡ f (record { place = at; is_sure = sure })) → (k : ℕ) → k ≡ s' - 1 → option_map f (((standing_of old).books k).at n') ≡ Some (f (record { place = at; is_sure = sure }))
    its_book sure at {X} f s' n' gives same k is = go (place_in old.stock.sessions.items s) refl gives
      where
        none : {x : ChunkFact} → Some x ≡ None → ⊥
        none e = cc

        at_session : (p : ℕ) → s - 1 ≡ p → s' ≡ s → n' ≡ n → In old.stock.sessions.items p (λ session. IsAt (IsClean written noted) written end ((book_of session.chunks).at n) sure at) → (o : Option Session) → slice_get old.stock.sessions.items p ≡ o → p < length old.stock.sessions.items → option_map f ((book_in o).at n') ≡ Some (f (record { place = at; is_sure = sure }))
        at_session p sp es en its None e lt =
            let x : (x : Session) × (slice_get old.stock.sessions.items p ≡ Some x) = there old.stock.sessions.items p lt in
            absurd (never (sym x.1 ∙ e))
          where
            never : {x : Session} → Some x ≡ None → ⊥
            never e = cc
        at_session p sp es en its (Some session) e lt =
            ap (λ (z : ℕ). option_map f (option_map placed_of ((book_of session.chunks).at z))) en
            ∙ was_said f (IsClean written noted) written end ((book_of session.chunks).at n) sure at (its session e) same

        within : (p : ℕ) → place_in old.stock.sessions.items s ≡ Some p → p < length old.stock.sessions.items
        within p is = place_within old.stock.sessions.items s p is

        go : (o : Option ℕ) → place_in old.stock.sessions.items s ≡ o → MatchOption o (Some (Put s' n' sure at) ≡ None) (λ place. MovedAt (IsClean written noted) written end old place s n (Some (Put s' n' sure at))) → option_map f (((standing_of old).books k).at n') ≡ Some (f (record { place = at; is_sure = sure }))
        go None e m = absurd (none m)
        go (Some p) e m =
            let sp : s - 1 ≡ p = place_is old.stock.sessions.items s p e in
            let kp : k ≡ p = is ∙ (ap (λ (z : ℕ). z - 1) m.0 ∙ sp) in
            ap (λ (z : ℕ). option_map f ((book_in (slice_get old.stock.sessions.items z)).at n')) kp
            ∙ at_session p sp m.0 m.1 m.2 (slice_get old.stock.sessions.items p) refl (within p e)

    of_put : (s' n' : ℕ) (sure : Bool) (at : Place) → MoveGives (IsClean written noted) written end old s n (Some (Put s' n' sure at)) → IsSame (standing_of new) (after_fact (Some (Put s' n' sure at)) (standing_of old)) → TellsSame (IsClean written noted) written old new
    of_put s' n' sure at gives same = record {
      at = λ clean k m. ap (option_map (told_of written)) (same.at k m) ∙ said (told_of written) (λ was its. told_same written (placed_of was) at sure its.0 (its.3 clean)) k m;
      long = λ k m. ap (option_map (λ (it : Placed). long_at it.place)) (same.at k m) ∙ said (λ (it : Placed). long_at it.place) (λ was its. sym its.1) k m;
      sure = λ k m. ap (option_map (λ (it : Placed). it.is_sure)) (same.at k m) ∙ said (λ (it : Placed). it.is_sure) (λ was its. sym its.0) k m;
      floor = λ k. same.floor k ∙ floor_same (k == s' - 1) n' ((standing_of old).books k) (record { place = at; is_sure = sure });
      gone = same.gone;
      lacks = same.lacks;
      used = step.used;
      allowed = step.leads.allowed;
    }
      where
        said : {X : Type 0} (f : Placed → X) → ((was : Chunk) → IsAt (IsClean written noted) written end (Some was) sure at → f (placed_of was) ≡ f (record { place = at; is_sure = sure })) → (k m : ℕ) →
            option_map f (((after_fact (Some (Put s' n' sure at)) (standing_of old)).books k).at m) ≡ option_map f (((standing_of old).books k).at m)
        said {X} f its k m = said_same f (k == s' - 1) n' m ((standing_of old).books k) (record { place = at; is_sure = sure }) (λ e. its_book sure at f s' n' gives its k (eqb-true k (s' - 1) e))

    by : (f : Option ChunkFact) → MoveGives (IsClean written noted) written end old s n f → IsSame (standing_of new) (after_fact f (standing_of old)) → TellsSame (IsClean written noted) written old new
    by None gives same = record {
      at = λ clean k m. ap (option_map (told_of written)) (same.at k m);
      long = λ k m. ap (option_map (λ (it : Placed). long_at it.place)) (same.at k m);
      sure = λ k m. ap (option_map (λ (it : Placed). it.is_sure)) (same.at k m);
      floor = same.floor;
      gone = same.gone;
      lacks = same.lacks;
      used = step.used;
      allowed = step.leads.allowed;
    }
    by (Some (Put s' n' sure at)) gives same = of_put s' n' sure at gives same
    by (Some (Forgot s' floor run)) gives same = absurd (not_such (place_in old.stock.sessions.items s) gives)
      where
        none : {x : ChunkFact} → Some x ≡ None → ⊥
        none e = cc

        not_such : (o : Option ℕ) → MatchOption o (Some (Forgot s' floor run) ≡ None) (λ place. MovedAt (IsClean written noted) written end old place s n (Some (Forgot s' floor run))) → ⊥
        not_such None e = none e
        not_such (Some p) e = e
    by (Some Filled) gives same = absurd (not_such (place_in old.stock.sessions.items s) gives)
      where
        none : {x : ChunkFact} → Some x ≡ None → ⊥
        none e = cc

        not_such : (o : Option ℕ) → MatchOption o (Some Filled ≡ None) (λ place. MovedAt (IsClean written noted) written end old place s n (Some Filled)) → ⊥
        not_such None e = none e
        not_such (Some p) e = e
