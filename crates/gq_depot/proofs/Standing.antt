-- A depot of which one session has changed.
use Rattle.std.proofs.Common.{◌≡◌, ◌≢◌, ◌<◌, ◌+◌, ◌-◌, length-append, get_or, set, get_or-set_same, length-set, ℕ, zero, suc, Bool, true, false, List, [], ◌∷◌, length, Option, Some, None, refl, sym, ap, subst, ◌∙◌, arith}
use Rattle.std.specs.Prelude.{All, ◌≤◌, ◌&&◌, ◌||◌, nat_le, ◌++◌, slice_get, option_map, ◌==◌, IsSome, IfOk, MatchBool, MatchOption, Result, Ok, Err, if◌then◌else◌}
use Rattle.std.proofs.lemmas.Bool.{and_from, and_parts, le-leb, leb-true, ne_eqb, eqb-true, eq-eqb, true≢false}
use Rattle.std.proofs.lemmas.List.Folds.{list_any-append, list_any_at}
use Rattle.std.proofs.lemmas.Option.{same_Some, slice_get-get_or, slice_get_within, get_or_from_slice_get}
use Rattle.gq_shelf.specs.Notes.{Noted}
use Rattle.gq_shelf.specs.Places.{content_at, long_at}
use Rattle.gq_shelf.specs.declared.extent.Extent.{Extent}
use Rattle.gq_shelf.specs.declared.place.Place.{Place}
use Rattle.gq_ledger.specs.Ledgers.{book_of}
use Rattle.gq_ledger.specs.Steps.{Book, Leads, Gives, with_at}
use Rattle.gq_stock.proofs.Sessions.{others_stay}
use Rattle.gq_stock.specs.Forgetting.{is_in, is_in_any, ForgotAs}
use Rattle.gq_stock.specs.Held.{Held, held_by, contents}
use Rattle.gq_stock.specs.Keeping.{ChangesOnly, KeptAs}
use Rattle.gq_stock.specs.Stocks.{GivenIn, ChangesIn, StaysIn, KeptIn, SureIn, LongIn, IsEmpty}
use Rattle.gq_stock.specs.Sure.{PlaceIsSure, IsSureOf, IsLongOf}
use Rattle.gq_stock.proofs.Deeds.{new_there, same≢new, differs≢new, damaged≢new, below≢new, full≢new, space≢new}
use Rattle.gq_stock.specs.declared.chunk.Chunk.{Chunk}
use Rattle.gq_stock.specs.declared.keeping.Keeping.{Keeping}
use Rattle.gq_stock.specs.declared.keeping.Keeping.TheVariants.{New, Same, Differs, Damaged, Below, Full, NoSpace}
use Rattle.gq_stock.specs.declared.run.Run.{Run}
use Rattle.gq_stock.specs.declared.session.Session.{Session}
use Rattle.gq_stock.specs.Finding.{FoundAs}
use Rattle.gq_stock.specs.declared.finding.Found.{Found}
use Rattle.gq_stock.specs.declared.stock.Stock.{Stock}
use Rattle.gq_depot.specs.Answers.{In, BySession, GivesFor, free_in, fits, is_told, told_if, KeptAt, KeptFitting, KeepTells, FoundAt, GetTells, PutIs, KeepGives, IsNext, Follow, last_of}
use Rattle.gq_depot.specs.declared.answer.Answered.{Answered}
use Rattle.gq_depot.specs.declared.answer.ChunkAnswer.{ChunkAnswer}
use Rattle.gq_depot.specs.declared.answer.ChunkAnswer.TheVariants.{NoSession, Kept}
use Rattle.gq_depot.specs.declared.answer.ListedChunk.{ListedChunk}
use Rattle.gq_depot.specs.Depots.{Placed, place_in, placed_of, placed, book_in, is_gone, standing_of, forgotten, gone_after, after_fact, IsSame, LeadsTo, FactIsSure, bare, reads_fact, ReadsFact, StandsIn}
use Rattle.gq_depot.specs.declared.limits.TheConstants.{MOST_CHUNK}
use Rattle.gq_depot.specs.declared.depot.Depot.{Depot}
use Rattle.gq_depot.specs.declared.fact.ChunkFact.{ChunkFact}
use Rattle.gq_depot.specs.declared.gone.Gone.{Gone}
use Rattle.gq_depot.specs.declared.fact.ChunkFact.TheVariants.{Put, Forgot, Filled}

-- there is one at a place within the list
pub there : {X : Type 0} (xs : List X) (p : ℕ) → p < length xs → (x : X) × (slice_get xs p ≡ Some x)
there [] p lt = absurd (none p lt)
  where
    none : (p : ℕ) → p < 0 → ⊥
    none p lt = omega arith
there (x ∷ xs) zero lt = (x, refl)
there (x ∷ xs) (suc p) lt = there xs p (omega arith)

abbrev pub OthersStay : (old new : Depot) → ℕ → Type 0
OthersStay old new p = (j : ℕ) → j ≢ p → slice_get new.stock.sessions.items j ≡ slice_get old.stock.sessions.items j

-- the session at the place has what this makes of what it had
pub one_book : (old new : Depot) (p s : ℕ) (f : Book Placed → Book Placed) (g : ℕ → ℕ → Bool) (was is : Session) → s ≡ p + 1 → OthersStay old new p → new.lacks ≡ old.lacks → ((k n : ℕ) → (standing_of new).gone k n ≡ g k n) →
    slice_get old.stock.sessions.items p ≡ Some was → slice_get new.stock.sessions.items p ≡ Some is →
    ((m : ℕ) → (placed (book_of is.chunks)).at m ≡ (f (placed (book_of was.chunks))).at m) → (placed (book_of is.chunks)).floor ≡ (f (placed (book_of was.chunks))).floor →
    IsSame (standing_of new) (record { books = λ k. if k == s - 1 then f ((standing_of old).books k) else (standing_of old).books k; gone = g; lacks = old.lacks })
one_book old new p s f g was is number others lacks gone was_there is_there at floor = record { at = λ k m. at_by k m (k == s - 1) refl; floor = λ k. floor_by k (k == s - 1) refl; gone = gone; lacks = lacks }
  where
    place : (k : ℕ) → k ≡ s - 1 → k ≡ p
    place k e = omega (arith, e, number)

    other : (k : ℕ) → (k == s - 1) ≡ false → k ≢ p
    other k e same = true≢false (sym (eq-eqb k (s - 1) (omega (arith, same, number))) ∙ e)

    at_by : (k m : ℕ) (b : Bool) → (k == s - 1) ≡ b → (book_in (slice_get new.stock.sessions.items k)).at m ≡ (if b then f (book_in (slice_get old.stock.sessions.items k)) else book_in (slice_get old.stock.sessions.items k)).at m
    at_by k m true e = subst (λ (z : ℕ). (book_in (slice_get new.stock.sessions.items z)).at m ≡ (f (book_in (slice_get old.stock.sessions.items z))).at m) (sym (place k (eqb-true k (s - 1) e)))
        (ap (λ (o : Option Session). (book_in o).at m) is_there ∙ (at m ∙ sym (ap (λ (o : Option Session). (f (book_in o)).at m) was_there)))
    at_by k m false e = ap (λ (o : Option Session). (book_in o).at m) (others k (other k e))

    floor_by : (k : ℕ) (b : Bool) → (k == s - 1) ≡ b → (book_in (slice_get new.stock.sessions.items k)).floor ≡ (if b then f (book_in (slice_get old.stock.sessions.items k)) else book_in (slice_get old.stock.sessions.items k)).floor
    floor_by k true e = subst (λ (z : ℕ). (book_in (slice_get new.stock.sessions.items z)).floor ≡ (f (book_in (slice_get old.stock.sessions.items z))).floor) (sym (place k (eqb-true k (s - 1) e)))
        (ap (λ (o : Option Session). (book_in o).floor) is_there ∙ (floor ∙ sym (ap (λ (o : Option Session). (f (book_in o)).floor) was_there)))
    floor_by k false e = ap (λ (o : Option Session). (book_in o).floor) (others k (other k e))

-- what was forgotten stays so
pub gone_stays : (old new : Depot) → new.lacks ≡ old.lacks → new.gone.items ≡ old.gone.items → (k n : ℕ) → (standing_of new).gone k n ≡ (standing_of old).gone k n
gone_stays old new lacks gone k n = ap (λ (xs : List Gone). new.lacks && is_gone xs k n) gone ∙ ap (λ (b : Bool). b && is_gone old.gone.items k n) lacks

-- a chunk is under the number
pub put_same : (old new : Depot) (p s n : ℕ) (sure : Bool) (at : Place) (was is : Session) → s ≡ p + 1 → OthersStay old new p → new.lacks ≡ old.lacks → new.gone.items ≡ old.gone.items →
    slice_get old.stock.sessions.items p ≡ Some was → slice_get new.stock.sessions.items p ≡ Some is →
    ChangesOnly (book_of was.chunks) n (book_of is.chunks) → option_map placed_of ((book_of is.chunks).at n) ≡ Some (record { place = at; is_sure = sure }) →
    IsSame (standing_of new) (after_fact (Some (Put s n sure at)) (standing_of old))
put_same old new p s n sure at was is number others lacks gone was_there is_there alone stands =
    one_book old new p s (λ b. with_at b n (Some (record { place = at; is_sure = sure }))) (standing_of old).gone was is number others lacks (gone_stays old new lacks gone) was_there is_there (λ m. under m (m == n) refl) alone.floor
  where
    under : (m : ℕ) (b : Bool) → (m == n) ≡ b → option_map placed_of ((book_of is.chunks).at m) ≡ (if b then Some (record { place = at; is_sure = sure }) else option_map placed_of ((book_of was.chunks).at m))
    under m true e = ap (λ (z : ℕ). option_map placed_of ((book_of is.chunks).at z)) (eqb-true m n e) ∙ stands
    under m false e = ap (option_map placed_of) (alone.others m (λ same. true≢false (sym (eq-eqb m n same) ∙ e)))

-- numbers are forgotten
pub forgot_same : (old new : Depot) (p s floor : ℕ) (run : Run) (was is : Session) → s ≡ p + 1 → OthersStay old new p → new.lacks ≡ old.lacks → ((k n : ℕ) → (standing_of new).gone k n ≡ gone_after (standing_of old) p run k n) →
    slice_get old.stock.sessions.items p ≡ Some was → slice_get new.stock.sessions.items p ≡ Some is →
    ForgotAs (book_of was.chunks) floor (run ∷ []) (book_of is.chunks) →
    IsSame (standing_of new) (after_fact (Some (Forgot s floor run)) (standing_of old))
forgot_same old new p s floor run was is number others lacks noted was_there is_there forgot =
    one_book old new p s (λ b. forgotten b floor run) (gone_after (standing_of old) (s - 1) run) was is number others lacks (λ k n. noted k n ∙ ap (λ (place : ℕ). gone_after (standing_of old) place run k n) (sym place)) was_there is_there (λ m. ap (option_map placed_of) (forgot.at m) ∙ gone (is_in_any m (run ∷ [])) ((book_of was.chunks).at m)) forgot.risen
  where
    place : s - 1 ≡ p
    place = omega (arith, number)

    gone : (b : Bool) (o : Option Chunk) → option_map placed_of (if b then None else o) ≡ (if b then None else option_map placed_of o)
    gone true o = refl
    gone false o = refl

-- nothing changes
pub stays_same : (old new : Depot) (p : ℕ) (was is : Session) → OthersStay old new p → new.lacks ≡ old.lacks → new.gone.items ≡ old.gone.items →
    slice_get old.stock.sessions.items p ≡ Some was → slice_get new.stock.sessions.items p ≡ Some is →
    book_of is.chunks ≡ book_of was.chunks → IsSame (standing_of new) (standing_of old)
stays_same old new p was is others lacks gone was_there is_there same = record { at = λ k m. ap (λ (b : Book Placed). b.at m) (books k (k == p) refl); floor = λ k. ap (λ (b : Book Placed). b.floor) (books k (k == p) refl); gone = gone_stays old new lacks gone; lacks = lacks }
  where
    books : (k : ℕ) (b : Bool) → (k == p) ≡ b → book_in (slice_get new.stock.sessions.items k) ≡ book_in (slice_get old.stock.sessions.items k)
    books k true e = subst (λ (z : ℕ). book_in (slice_get new.stock.sessions.items z) ≡ book_in (slice_get old.stock.sessions.items z)) (sym (eqb-true k p e))
        (ap book_in is_there ∙ (ap placed same ∙ sym (ap book_in was_there)))
    books k false e = ap book_in (others k (λ it. true≢false (sym (eq-eqb k p it) ∙ e)))

-- ---- a content that was to be kept

abbrev pub Keeps : (old new : Depot) → (p n : ℕ) → Keeping → Type 0
Keeps old new p n told = (told ≡ New → ChangesIn old.stock.sessions.items p n new.stock.sessions.items) × (told ≢ New → StaysIn old.stock.sessions.items p new.stock.sessions.items)

same_by : (old new : Depot) (p s n : ℕ) (told : Keeping) (fact : Option ChunkFact) (was is : Session) → s ≡ p + 1 → OthersStay old new p → new.lacks ≡ old.lacks → new.gone.items ≡ old.gone.items →
    slice_get old.stock.sessions.items p ≡ Some was → slice_get new.stock.sessions.items p ≡ Some is →
    Keeps old new p n told → GivesFor told (book_of is.chunks) s n fact → IsSame (standing_of new) (after_fact fact (standing_of old))
same_by old new p s n New (Some (Put s' n' sure at)) was is number others lacks gone was_there is_there keeps gives =
    subst (λ (z : ℕ). IsSame (standing_of new) (after_fact (Some (Put z n' sure at)) (standing_of old))) (sym gives.0)
    (subst (λ (z : ℕ). IsSame (standing_of new) (after_fact (Some (Put s z sure at)) (standing_of old))) (sym gives.1)
    (put_same old new p s n sure at was is number others lacks gone was_there is_there (keeps.0 refl was is was_there is_there) gives.2))
same_by old new p s n New (Some (Forgot s' floor run)) was is number others lacks gone was_there is_there keeps gives = absurd gives
same_by old new p s n New (Some Filled) was is number others lacks gone was_there is_there keeps gives = absurd gives
same_by old new p s n New None was is number others lacks gone was_there is_there keeps gives = absurd gives
same_by old new p s n Same fact was is number others lacks gone was_there is_there keeps gives = subst (λ (f : Option ChunkFact). IsSame (standing_of new) (after_fact f (standing_of old))) (sym gives) (stays_same old new p was is others lacks gone was_there is_there (keeps.1 same≢new was is was_there is_there))
same_by old new p s n Differs fact was is number others lacks gone was_there is_there keeps gives = subst (λ (f : Option ChunkFact). IsSame (standing_of new) (after_fact f (standing_of old))) (sym gives) (stays_same old new p was is others lacks gone was_there is_there (keeps.1 differs≢new was is was_there is_there))
same_by old new p s n Damaged fact was is number others lacks gone was_there is_there keeps gives = subst (λ (f : Option ChunkFact). IsSame (standing_of new) (after_fact f (standing_of old))) (sym gives) (stays_same old new p was is others lacks gone was_there is_there (keeps.1 damaged≢new was is was_there is_there))
same_by old new p s n Below fact was is number others lacks gone was_there is_there keeps gives = subst (λ (f : Option ChunkFact). IsSame (standing_of new) (after_fact f (standing_of old))) (sym gives) (stays_same old new p was is others lacks gone was_there is_there (keeps.1 below≢new was is was_there is_there))
same_by old new p s n Full fact was is number others lacks gone was_there is_there keeps gives = subst (λ (f : Option ChunkFact). IsSame (standing_of new) (after_fact f (standing_of old))) (sym gives) (stays_same old new p was is others lacks gone was_there is_there (keeps.1 full≢new was is was_there is_there))
same_by old new p s n NoSpace fact was is number others lacks gone was_there is_there keeps gives = subst (λ (f : Option ChunkFact). IsSame (standing_of new) (after_fact f (standing_of old))) (sym gives) (stays_same old new p was is others lacks gone was_there is_there (keeps.1 space≢new was is was_there is_there))

pub leads_by : (old new : Depot) (p s n : ℕ) (told : Keeping) (fact : Option ChunkFact) → s ≡ p + 1 → p < length old.stock.sessions.items → length new.stock.sessions.items ≡ length old.stock.sessions.items → new.stock.allowed ≡ old.stock.allowed → new.lacks ≡ old.lacks → new.gone.items ≡ old.gone.items →
    OthersStay old new p → Keeps old new p n told → In new.stock.sessions.items p (λ session. GivesFor told (book_of session.chunks) s n fact) → LeadsTo old fact new
leads_by old new p s n told fact number within long allowed lacks gone others keeps gives =
    let was : (x : Session) × (slice_get old.stock.sessions.items p ≡ Some x) = there old.stock.sessions.items p within in
    let is : (x : Session) × (slice_get new.stock.sessions.items p ≡ Some x) = there new.stock.sessions.items p (omega (arith, within, long)) in
    record { standing = same_by old new p s n told fact was.0 is.0 number others lacks gone was.1 is.1 keeps (gives is.0 is.1); sessions = long; allowed = allowed }

-- a depot of which nothing changed
pub nothing_led : (old new : Depot) (p s : ℕ) → s ≡ p + 1 → p < length old.stock.sessions.items → length new.stock.sessions.items ≡ length old.stock.sessions.items → new.stock.allowed ≡ old.stock.allowed → new.lacks ≡ old.lacks → new.gone.items ≡ old.gone.items →
    OthersStay old new p → StaysIn old.stock.sessions.items p new.stock.sessions.items → LeadsTo old None new
nothing_led old new p s number within long allowed lacks gone others stays =
    leads_by old new p s 0 Full None number within long allowed lacks gone others (λ is. absurd (full≢new is), λ other. stays) (λ session is. refl)

-- ---- what is told and given

-- what is told is what the session told
pub tells_by : (written : Extent → List ℕ) (old : Depot) (p s n : ℕ) (bytes : List ℕ) (sure : Bool) (losses floor free : ℕ) (told : Keeping) (news : List Session) → p < length old.stock.sessions.items → length news ≡ length old.stock.sessions.items →
    free ≡ free_in old → In old.stock.sessions.items p (λ session. floor ≡ (book_of session.chunks).floor) → KeptIn written old.stock.sessions.items p n bytes sure (free_in old) told news →
    KeptAt written old p s n bytes losses (Kept s n told losses floor free)
tells_by written old p s n bytes sure losses floor free told news within long is_free at_floor kept =
    let now : (x : Session) × (slice_get news p ≡ Some x) = there news p (omega (arith, within, long)) in
    (refl, refl, refl, is_free, λ session is. (at_floor session is, (kept session now.0 is now.1).told_so))

held_placed : (written : Extent → List ℕ) (o : Option Chunk) (place : Place) (sure : Bool) → option_map placed_of o ≡ Some (record { place = place; is_sure = sure }) → option_map (held_by written) o ≡ Some (record { bytes = content_at written place; is_sure = sure })
held_placed written None place sure is = absurd (none is)
  where
    none : {x : Placed} → None ≡ Some x → ⊥
    none e = cc
held_placed written (Some chunk) place sure is = ap (λ (o : Option Placed). option_map (λ (it : Placed). record { bytes = content_at written it.place; is_sure = it.is_sure }) o) is

held_there : (written : Extent → List ℕ) (old new : Book Chunk) (n : ℕ) (bytes : List ℕ) (sure : Bool) (free : ℕ) → KeptAs (contents written old) n bytes sure free New (contents written new) → (contents written new).at n ≡ Some (record { bytes = bytes; is_sure = sure })
held_there written old new n bytes sure free kept =
    new_there (contents written old) (contents written new) n n (record { bytes = bytes; is_sure = sure }) kept.told_so.0 kept.told_so.1 (kept.leads refl)
    ∙ ap (λ (t : Bool). if t then Some (record { bytes = bytes; is_sure = sure }) else (contents written old).at n) (eq-eqb n n refl)

-- what is given of a new content is where its bytes are
gives_new : (written : Extent → List ℕ) (old new : Book Chunk) (s n : ℕ) (bytes : List ℕ) (sure : Bool) (free : ℕ) (fact : Option ChunkFact) → KeptAs (contents written old) n bytes sure free New (contents written new) → GivesFor New new s n fact → PutIs written s n sure bytes fact
gives_new written old new s n bytes sure free (Some (Put s' n' is_sure place)) kept gives =
    let same : Some (record { bytes = content_at written place; is_sure = is_sure }) ≡ Some (record { bytes = bytes; is_sure = sure }) = sym (held_placed written (new.at n) place is_sure gives.2) ∙ held_there written old new n bytes sure free kept in
    let held = same_Some (record { bytes = content_at written place; is_sure = is_sure }) (record { bytes = bytes; is_sure = sure }) same in
    (gives.0, gives.1, ap (λ (h : Held). h.is_sure) held, ap (λ (h : Held). h.bytes) held)
gives_new written old new s n bytes sure free (Some (Forgot s' floor run)) kept gives = absurd gives
gives_new written old new s n bytes sure free (Some Filled) kept gives = absurd gives
gives_new written old new s n bytes sure free None kept gives = absurd gives

pub gives_by : (written : Extent → List ℕ) (olds news : List Session) (p s n : ℕ) (bytes : List ℕ) (sure : Bool) (losses floor free room : ℕ) (told : Keeping) (fact : Option ChunkFact) → p < length olds → length news ≡ length olds →
    KeptIn written olds p n bytes sure room told news → In news p (λ session. GivesFor told (book_of session.chunks) s n fact) → KeepGives written s n sure bytes (Kept s n told losses floor free) fact
gives_by written olds news p s n bytes sure losses floor free room told fact within long kept gives =
    let was : (x : Session) × (slice_get olds p ≡ Some x) = there olds p within in
    let is : (x : Session) × (slice_get news p ≡ Some x) = there news p (omega (arith, within, long)) in
    by told was.0 is.0 (kept was.0 is.0 was.1 is.1) (gives is.0 is.1)
  where
    by : (t : Keeping) (was is : Session) → KeptAs (contents written (book_of was.chunks)) n bytes sure room t (contents written (book_of is.chunks)) → GivesFor t (book_of is.chunks) s n fact → KeepGives written s n sure bytes (Kept s n t losses floor free) fact
    by New was is k g = gives_new written (book_of was.chunks) (book_of is.chunks) s n bytes sure room fact k g
    by Same was is k g = g
    by Differs was is k g = g
    by Damaged was is k g = g
    by Below was is k g = g
    by Full was is k g = g
    by NoSpace was is k g = g

-- what a fact names was made sure of
sure_new : (o : Option Chunk) (place : Place) (sure : Bool) (noted : Noted) → option_map placed_of o ≡ Some (record { place = place; is_sure = sure }) → IsSureOf o noted → PlaceIsSure place noted
sure_new None place sure noted is sure_of = absurd sure_of
sure_new (Some chunk) place sure noted is sure_of = subst (λ (at : Place). PlaceIsSure at noted) (ap (λ (it : Placed). it.place) (same_Some (placed_of chunk) (record { place = place; is_sure = sure }) is)) sure_of

pub sure_by : (news : List Session) (p s n : ℕ) (told : Keeping) (fact : Option ChunkFact) (noted : Noted) → p < length news → (told ≡ New → SureIn news p n noted) → In news p (λ session. GivesFor told (book_of session.chunks) s n fact) → FactIsSure fact noted
sure_by news p s n told fact noted within sure gives =
    let is : (x : Session) × (slice_get news p ≡ Some x) = there news p within in
    by told fact is.0 is.1 sure (gives is.0 is.1)
  where
    by : (t : Keeping) (f : Option ChunkFact) (is : Session) → slice_get news p ≡ Some is → (t ≡ New → SureIn news p n noted) → GivesFor t (book_of is.chunks) s n f → FactIsSure f noted
    by New (Some (Put s' n' is_sure place)) is at sure g = sure_new ((book_of is.chunks).at n) place is_sure noted g.2 (sure refl is at)
    by New (Some (Forgot s' floor run)) is at sure g = absurd g
    by New (Some Filled) is at sure g = absurd g
    by New None is at sure g = absurd g
    by Same f is at sure g = subst (λ (z : Option ChunkFact). FactIsSure z noted) (sym g) tt
    by Differs f is at sure g = subst (λ (z : Option ChunkFact). FactIsSure z noted) (sym g) tt
    by Damaged f is at sure g = subst (λ (z : Option ChunkFact). FactIsSure z noted) (sym g) tt
    by Below f is at sure g = subst (λ (z : Option ChunkFact). FactIsSure z noted) (sym g) tt
    by Full f is at sure g = subst (λ (z : Option ChunkFact). FactIsSure z noted) (sym g) tt
    by NoSpace f is at sure g = subst (λ (z : Option ChunkFact). FactIsSure z noted) (sym g) tt

-- what is given of a new content is read by a start
long_new : (o : Option Chunk) (place : Place) (sure : Bool) (long : ℕ) → option_map placed_of o ≡ Some (record { place = place; is_sure = sure }) → IsLongOf o long → long_at place ≡ long
long_new None place sure long is it = absurd it
long_new (Some chunk) place sure long is it = subst (λ (at : Place). long_at at ≡ long) (ap (λ (it : Placed). it.place) (same_Some (placed_of chunk) (record { place = place; is_sure = sure }) is)) it

pub reads_put : (sessions p s long : ℕ) (n : ℕ) (sure : Bool) (place : Place) → s ≡ p + 1 → p < sessions → long ≤ MOST_CHUNK → long_at place ≡ long → reads_fact sessions (Put s n sure place) ≡ true
reads_put sessions p s long n sure place number within few is =
    and_from (nat_le 1 s && nat_le s sessions) (nat_le (long_at place) MOST_CHUNK)
    (and_from (nat_le 1 s) (nat_le s sessions) (le-leb 1 s (omega (arith, number))) (le-leb s sessions (omega (arith, number, within))))
    (le-leb (long_at place) MOST_CHUNK (omega (arith, is, few)))

pub reads_by : (news : List Session) (p s n sessions : ℕ) {long : ℕ} (told : Keeping) (fact : Option ChunkFact) → s ≡ p + 1 → p < sessions → length news ≡ sessions → long ≤ MOST_CHUNK → (told ≡ New → LongIn news p n long) → In news p (λ session. GivesFor told (book_of session.chunks) s n fact) → ReadsFact sessions fact
reads_by news p s n sessions {long} told fact number within same few is_long gives =
    let is : (x : Session) × (slice_get news p ≡ Some x) = there news p (omega (arith, within, same)) in
    by told fact is.0 is.1 is_long (gives is.0 is.1)
  where
    by : (t : Keeping) (f : Option ChunkFact) (is : Session) → slice_get news p ≡ Some is → (t ≡ New → LongIn news p n long) → GivesFor t (book_of is.chunks) s n f → ReadsFact sessions f
    by New (Some (Put s' n' is_sure place)) is at its g =
        subst (λ (z : ℕ). reads_fact sessions (Put z n' is_sure place) ≡ true) (sym g.0)
        (reads_put sessions p s long n' is_sure place number within few (long_new ((book_of is.chunks).at n) place is_sure long g.2 (its refl is at)))
    by New (Some (Forgot s' floor run)) is at its g = absurd g
    by New (Some Filled) is at its g = absurd g
    by New None is at its g = absurd g
    by Same f is at its g = subst (λ (z : Option ChunkFact). ReadsFact sessions z) (sym g) tt
    by Differs f is at its g = subst (λ (z : Option ChunkFact). ReadsFact sessions z) (sym g) tt
    by Damaged f is at its g = subst (λ (z : Option ChunkFact). ReadsFact sessions z) (sym g) tt
    by Below f is at its g = subst (λ (z : Option ChunkFact). ReadsFact sessions z) (sym g) tt
    by Full f is at its g = subst (λ (z : Option ChunkFact). ReadsFact sessions z) (sym g) tt
    by NoSpace f is at its g = subst (λ (z : Option ChunkFact). ReadsFact sessions z) (sym g) tt

-- a depot that is new has nothing
pub bare_new : (depot : Depot) (lacks : Bool) → All IsEmpty depot.stock.sessions.items → depot.lacks ≡ lacks → depot.gone.items ≡ [] → IsSame (standing_of depot) (bare lacks)
bare_new depot lacks empty is none = record { at = λ k n. at_by k n (slice_get depot.stock.sessions.items k) refl; floor = λ k. floor_by k (slice_get depot.stock.sessions.items k) refl; gone = λ k n. ap (λ (xs : List Gone). depot.lacks && is_gone xs k n) none ∙ never depot.lacks; lacks = is }
  where
    never : (b : Bool) → (b && false) ≡ false
    never true = refl
    never false = refl

    its : (k : ℕ) (session : Session) → slice_get depot.stock.sessions.items k ≡ Some session → IsEmpty session
    its k session e = subst IsEmpty (get_or_from_slice_get depot.stock.sessions.items k session session e) (empty k session (slice_get_within depot.stock.sessions.items k session e))

    at_by : (k n : ℕ) (o : Option Session) → slice_get depot.stock.sessions.items k ≡ o → (book_in o).at n ≡ None
    at_by k n None e = refl
    at_by k n (Some session) e = ap (option_map placed_of) ((its k session e).at n)

    floor_by : (k : ℕ) (o : Option Session) → slice_get depot.stock.sessions.items k ≡ o → (book_in o).floor ≡ 0
    floor_by k None e = refl
    floor_by k (Some session) e = (its k session e).floor

-- what is not of the stock and of what is lacked plays no part
pub leads_on : (old mid new : Depot) (fact : Option ChunkFact) → LeadsTo old fact mid → new.stock ≡ mid.stock → new.lacks ≡ mid.lacks → new.gone.items ≡ mid.gone.items → LeadsTo old fact new
leads_on old mid new fact leads stock lacks gone = record {
  standing = record {
    at = λ k n. ap (λ (x : Stock). (book_in (slice_get x.sessions.items k)).at n) stock ∙ leads.standing.at k n;
    floor = λ k. ap (λ (x : Stock). (book_in (slice_get x.sessions.items k)).floor) stock ∙ leads.standing.floor k;
    gone = λ k n. gone_stays mid new lacks gone k n ∙ leads.standing.gone k n;
    lacks = lacks ∙ leads.standing.lacks;
  };
  sessions = ap (λ (x : Stock). length x.sessions.items) stock ∙ leads.sessions;
  allowed = ap (λ (x : Stock). x.allowed) stock ∙ leads.allowed;
}

-- ---- listings

pub follow_more : (b : Book Chunk) (after : ℕ) (chunks : List ListedChunk) (next : ListedChunk) → Follow b after chunks → IsNext b (last_of after chunks) next → Follow b after (chunks ++ next ∷ [])
follow_more b after [] next follow is = (is, tt)
follow_more b after (first ∷ chunks) next follow is = (follow.0, follow_more b first.number chunks next follow.1 is)

pub last_more : (after : ℕ) (chunks : List ListedChunk) (next : ListedChunk) → last_of after (chunks ++ next ∷ []) ≡ next.number
last_more after [] next = refl
last_more after (first ∷ chunks) next = last_more first.number chunks next

pub is_next : (b : Book Chunk) (after n : ℕ) (chunk : Chunk) (long : ℕ) → after < n → b.at n ≡ Some chunk → long ≡ long_at chunk.place → ((m : ℕ) → after < m → IsSome (b.at m) → n ≤ m) → IsNext b after (record { number = n; size = long })
is_next b after n chunk long above there is_long least = record {
  above = above;
  long = ap (option_map (λ (chunk : Chunk). long_at chunk.place)) there ∙ ap (λ (l : ℕ). Some l) (sym is_long);
  none = λ m over below. none_by m over below (b.at m) refl;
}
  where
    none_by : (m : ℕ) → after < m → m < n → (o : Option Chunk) → b.at m ≡ o → b.at m ≡ None
    none_by m over below None e = e
    none_by m over below (Some x) e =
        let le : n ≤ m = least m over (subst (λ (o : Option Chunk). IsSome o) (sym e) refl) in
        absurd (never m le below)
      where
        never : (m : ℕ) → n ≤ m → m < n → ⊥
        never m le lt = omega arith

-- ---- what is told by place

pub by_session : (depot : Depot) (s place : ℕ) (none : Type 0) (at : ℕ → Type 0) → place_in depot.stock.sessions.items s ≡ Some place → at place → BySession depot s none at
by_session depot s place none at is holds = subst (λ (o : Option ℕ). MatchOption o none at) (sym is) holds

pub keep_tells : {E : Type 0} (r : Result Answered E) (written : Extent → List ℕ) (C : Type 0) (depot : Depot) (s place n : ℕ) (bytes : List ℕ) (losses : ℕ) → place_in depot.stock.sessions.items s ≡ Some place → fits bytes ≡ true →
    IfOk r (λ a. C → KeptAt written depot place s n bytes losses a.answer) → IfOk r (λ a. C → KeepTells written depot s n bytes losses a.answer)
keep_tells (Err e) written C depot s place n bytes losses is fit told = tt
keep_tells (Ok a) written C depot s place n bytes losses is fit told = λ clean.
    by_session depot s place (a.answer ≡ NoSession s n) (λ place. KeptFitting (fits bytes) written depot place s n bytes losses a.answer) is
    (subst (λ (t : Bool). KeptFitting t written depot place s n bytes losses a.answer) (sym fit) (told clean))

-- ---- what is found of a chunk that is told

pub found_told : (C : Type 0) (written : Extent → List ℕ) (lacks told : Bool) (o : Option Chunk) (found : Found) → told ≡ is_told lacks o → told ≡ true → FoundAs C (option_map (held_by written) o) found → FoundAs C (option_map (held_by written) (told_if (is_told lacks o) o)) found
found_told C written lacks told o found is told_so same = subst (λ (t : Bool). FoundAs C (option_map (held_by written) (told_if t o)) found) (sym told_so ∙ is) same

pub get_tells : {E : Type 0} (r : Result ChunkAnswer E) (written : Extent → List ℕ) (C : Type 0) (depot : Depot) (s place n from long : ℕ) → place_in depot.stock.sessions.items s ≡ Some place →
    IfOk r (λ answer. FoundAt C written depot place s n from long answer) → IfOk r (λ answer. GetTells C written depot s n from long answer)
get_tells (Err e) written C depot s place n from long is told = tt
get_tells (Ok answer) written C depot s place n from long is told = by_session depot s place (answer ≡ NoSession s n) (λ place. FoundAt C written depot place s n from long answer) is told

pub listed_more : (b : Book Chunk) (after last most : ℕ) (chunks new : List ListedChunk) (next : ListedChunk) → new ≡ chunks ++ next ∷ [] → Follow b after chunks → last ≡ last_of after chunks → IsNext b last next → length chunks ≤ most → length chunks ≢ most →
    Follow b after new × (next.number ≡ last_of after new) × (length new ≤ most)
listed_more b after last most chunks new next is follow last_is is_next few full =
    let one : length (chunks ++ next ∷ []) ≡ length chunks + 1 = length-append chunks (next ∷ []) in
    let all : length new ≡ length chunks + 1 = ap (λ (z : List ListedChunk). length z) is ∙ one in (
      subst (λ (z : List ListedChunk). Follow b after z) (sym is) (follow_more b after chunks next follow (subst (λ (z : ℕ). IsNext b z next) last_is is_next)),
      sym (ap (last_of after) is ∙ last_more after chunks next),
      within (length chunks) (length new) most few full all,
    )
  where
    within : (n m most : ℕ) → n ≤ most → n ≢ most → m ≡ n + 1 → m ≤ most
    within n m most le ne is = omega arith

pub looked : (C : Type 0) (written : Extent → List ℕ) (sessions : List Session) (p n : ℕ) (there it : Session) (found : Found) → slice_get sessions p ≡ Some there → slice_get sessions p ≡ Some it → FoundAs C ((contents written (book_of there.chunks)).at n) found → FoundAs C (option_map (held_by written) ((book_of it.chunks).at n)) found
looked C written sessions p n there it found there_is it_is as_there = subst (λ (s : Session). FoundAs C ((contents written (book_of s.chunks)).at n) found) (same_Some there it (sym there_is ∙ it_is)) as_there

-- a chunk is put there, whatever was
pub given_leads : (old new : Depot) (p s n : ℕ) (chunk : Chunk) (d is : Session) → s ≡ p + 1 → p < length old.stock.sessions.items → d ≡ get_or old.stock.sessions.items p d → Leads (book_of d.chunks) (Gives n chunk) (book_of is.chunks) →
    new.stock.sessions.items ≡ set old.stock.sessions.items p is → new.stock.allowed ≡ old.stock.allowed → new.lacks ≡ old.lacks → new.gone.items ≡ old.gone.items → LeadsTo old (Some (Put s n chunk.is_sure chunk.place)) new
given_leads old new p s n chunk d is number lt d_is leads set_is allowed lacks gone =
    let within : p < length (set old.stock.sessions.items p is) = omega (arith, length-set old.stock.sessions.items p is, lt) in record {
      standing = put_same old new p s n chunk.is_sure chunk.place d is number
          (λ j other. ap (λ (xs : List Session). slice_get xs j) set_is ∙ others_stay old.stock.sessions.items p j is other) lacks gone
          (slice_get-get_or old.stock.sessions.items p d lt ∙ ap (λ (x : Session). Some x) (sym d_is))
          (ap (λ (xs : List Session). slice_get xs p) set_is ∙ (slice_get-get_or (set old.stock.sessions.items p is) p is within ∙ ap (λ (x : Session). Some x) (get_or-set_same old.stock.sessions.items p is is lt)))
          (record { others = λ m other. leads.at m ∙ ap (λ (t : Bool). if t then Some chunk else (book_of d.chunks).at m) (ne_eqb m n other); floor = leads.floor })
          (ap (option_map placed_of) (leads.at n ∙ ap (λ (t : Bool). if t then Some chunk else (book_of d.chunks).at n) (eq-eqb n n refl)));
      sessions = ap (λ (xs : List Session). length xs) set_is ∙ length-set old.stock.sessions.items p is;
      allowed = allowed;
    }

-- ---- what is forgotten while chunks are lacked

-- one more is noted
pub noted_more : (old new : Depot) (place : ℕ) (run : Run) → new.lacks ≡ old.lacks → new.gone.items ≡ old.gone.items ++ record { place = place; run = run } ∷ [] → old.lacks ≡ true → (k n : ℕ) → (standing_of new).gone k n ≡ gone_after (standing_of old) place run k n
noted_more old new place run lacks gone is k n =
    ap (λ (xs : List Gone). new.lacks && is_gone xs k n) gone
    ∙ (ap (λ (b : Bool). b && is_gone (old.gone.items ++ record { place = place; run = run } ∷ []) k n) (lacks ∙ is)
    ∙ (list_any-append (λ (one : Gone). (k == one.place) && is_in n one.run) old.gone.items (record { place = place; run = run } ∷ [])
    ∙ (one (is_gone old.gone.items k n) ((k == place) && is_in n run) ∙ sym (ap (λ (b : Bool). (b && is_gone old.gone.items k n) || (b && ((k == place) && is_in n run))) is))))
  where
    one : (a b : Bool) → (a || (b || false)) ≡ (a || b)
    one true b = refl
    one false true = refl
    one false false = refl

-- nothing is noted where nothing is lacked
pub noted_nothing : (old : Depot) (place : ℕ) (run : Run) → old.lacks ≡ false → (k n : ℕ) → (standing_of old).gone k n ≡ gone_after (standing_of old) place run k n
noted_nothing old place run is k n = ap (λ (b : Bool). b && is_gone old.gone.items k n) is ∙ sym (ap (λ (b : Bool). (b && is_gone old.gone.items k n) || (b && ((k == place) && is_in n run))) is)

-- a run that has no number
pub noted_none : (old : Depot) (place : ℕ) (run : Run) → run.last < run.first → (k n : ℕ) → (standing_of old).gone k n ≡ gone_after (standing_of old) place run k n
noted_none old place run below k n = sym (ap (λ (b : Bool). (old.lacks && is_gone old.gone.items k n) || (old.lacks && ((k == place) && b))) (none (nat_le run.first n) refl (nat_le n run.last) refl) ∙ nothing old.lacks (is_gone old.gone.items k n) (k == place))
  where
    none : (a : Bool) → nat_le run.first n ≡ a → (b : Bool) → nat_le n run.last ≡ b → is_in n run ≡ false
    none true e true f = absurd (never (leb-true run.first n e) (leb-true n run.last f))
      where
        never : run.first ≤ n → n ≤ run.last → ⊥
        never le ge = omega (arith, below, le, ge)
    none false e b f = ap (λ (t : Bool). t && nat_le n run.last) e
    none true e false f = ap (λ (t : Bool). t && nat_le n run.last) e ∙ f

    nothing : (l a b : Bool) → ((l && a) || (l && (b && false))) ≡ (l && a)
    nothing true true b = refl
    nothing true false true = refl
    nothing true false false = refl
    nothing false a b = refl

-- one that is noted already
pub noted_already : (old : Depot) (place : ℕ) (run : Run) → ((k n : ℕ) → ((k == place) && is_in n run) ≡ true → is_gone old.gone.items k n ≡ true) → (k n : ℕ) → (standing_of old).gone k n ≡ gone_after (standing_of old) place run k n
noted_already old place run covered k n = by old.lacks (is_gone old.gone.items k n) refl ((k == place) && is_in n run) refl
  where
    by : (l a : Bool) → is_gone old.gone.items k n ≡ a → (b : Bool) → ((k == place) && is_in n run) ≡ b → (l && is_gone old.gone.items k n) ≡ ((l && is_gone old.gone.items k n) || (l && ((k == place) && is_in n run)))
    by false a e b f = refl
    by true true e b f = e ∙ sym (ap (λ (t : Bool). t || ((k == place) && is_in n run)) e)
    by true false e true f = absurd (true≢false (sym (covered k n f) ∙ e))
    by true false e false f = sym (ap (λ (t : Bool). is_gone old.gone.items k n || t) f ∙ or_false (is_gone old.gone.items k n))
      where
        or_false : (x : Bool) → (x || false) ≡ x
        or_false true = refl
        or_false false = refl

-- its test, as it goes along the list
pub covered_by : (gone : List Gone) (place : ℕ) (run : Run) (one : Gone) (i : ℕ) → i < length gone → one ≡ get_or gone i one → one.place ≡ place → one.run.first ≤ run.first → run.last ≤ one.run.last → (k n : ℕ) → ((k == place) && is_in n run) ≡ true → is_gone gone k n ≡ true
covered_by gone place run one i lt is same first last k n e =
    let parts = and_parts (k == place) (is_in n run) e in
    let ends = and_parts (nat_le run.first n) (nat_le n run.last) parts.1 in
    let low : run.first ≤ n = leb-true run.first n ends.0 in
    let high : n ≤ run.last = leb-true n run.last ends.1 in
    let here : ((k == one.place) && is_in n one.run) ≡ true = and_from (k == one.place) (is_in n one.run) (ap (λ (z : ℕ). k == z) same ∙ parts.0) (and_from (nat_le one.run.first n) (nat_le n one.run.last) (le-leb one.run.first n (omega (arith, first, low))) (le-leb n one.run.last (omega (arith, last, high)))) in
    list_any_at (λ (x : Gone). (k == x.place) && is_in n x.run) gone i one lt (subst (λ (x : Gone). ((k == x.place) && is_in n x.run) ≡ true) is here)

-- ---- what a peer gives

pub give_leads : (old mid new : Depot) (p s n : ℕ) (fact : ChunkFact) → s ≡ p + 1 → p < length old.stock.sessions.items → length mid.stock.sessions.items ≡ length old.stock.sessions.items → mid.stock.allowed ≡ old.stock.allowed → mid.lacks ≡ old.lacks → mid.gone.items ≡ old.gone.items → OthersStay old mid p →
    ChangesIn old.stock.sessions.items p n mid.stock.sessions.items → new.stock ≡ mid.stock → new.lacks ≡ mid.lacks → new.gone.items ≡ mid.gone.items → In mid.stock.sessions.items p (λ session. StandsIn (book_of session.chunks) s n fact) → LeadsTo old (Some fact) new
give_leads old mid new p s n fact number within long allowed lacks gone others changes stock lacks_same gone_same stands =
    leads_on old mid new (Some fact)
    (leads_by old mid p s n New (Some fact) number within long allowed lacks gone others ((λ same. changes), (λ other. absurd (other refl))) stands)
    stock lacks_same gone_same

pub stands_still : (was is : Stock) (p s n : ℕ) (fact : ChunkFact) → is ≡ was → In is.sessions.items p (λ session. StandsIn (book_of session.chunks) s n fact) → In was.sessions.items p (λ session. StandsIn (book_of session.chunks) s n fact)
stands_still was is p s n fact same stands = subst (λ (x : Stock). In x.sessions.items p (λ session. StandsIn (book_of session.chunks) s n fact)) same stands

pub put_given : (written : Extent → List ℕ) (news : List Session) (p s n : ℕ) (bytes : List ℕ) (fact : ChunkFact) → p < length news → GivenIn written news p n bytes → In news p (λ session. StandsIn (book_of session.chunks) s n fact) → PutIs written s n true bytes (Some fact)
put_given written news p s n bytes fact within given stands =
    let is : (x : Session) × (slice_get news p ≡ Some x) = there news p within in
    by fact is.0 (given is.0 is.1) (stands is.0 is.1)
  where
    by : (f : ChunkFact) (is : Session) → (contents written (book_of is.chunks)).at n ≡ Some (record { bytes = bytes; is_sure = true }) → StandsIn (book_of is.chunks) s n f → PutIs written s n true bytes (Some f)
    by (Put s' n' is_sure place) is held st =
        let same : Some (record { bytes = content_at written place; is_sure = is_sure }) ≡ Some (record { bytes = bytes; is_sure = true }) = sym (held_placed written ((book_of is.chunks).at n) place is_sure st.2) ∙ held in
        let it = same_Some (record { bytes = content_at written place; is_sure = is_sure }) (record { bytes = bytes; is_sure = true }) same in
        (st.0, st.1, ap (λ (h : Held). h.is_sure) it, ap (λ (h : Held). h.bytes) it)
    by (Forgot s' floor run) is held st = absurd st
    by Filled is held st = absurd st

pub match_both : (a b : Bool) (P Q : Type 0) → a ≡ true → b ≡ true → P → MatchBool (a && b) P Q
match_both true true P Q e f holds = holds
match_both true false P Q e f holds = absurd (true≢false (sym f))
match_both false b P Q e f holds = absurd (true≢false (sym e))
