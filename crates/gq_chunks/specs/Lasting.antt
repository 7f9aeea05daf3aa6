-- What a machine of chunks owes that lasts.
use Rattle.std.proofs.Common.{◌≡◌, ◌≢◌, ◌<◌, ◌-◌, ℕ, List, [], ◌∷◌, ◌++◌, length, Bool, true, false, Option, Some, None, inl, inr, refl, sym, ap, subst, ◌∙◌, arith, append_assoc, append-nil}
use Rattle.std.specs.Prelude.{◌⊎◌, ⊤, ◌==◌, ◌≤◌, ◌&&◌, ◌||◌, nat_le, not, max, slice_get, MatchBool, if◌then◌else◌}
use Rattle.std.specs.List.{list_all}
use Rattle.std.proofs.lemmas.Bool.{and_from, and_parts, leb-true, eqb-true, eq-eqb, true≢false}
use Rattle.std.proofs.lemmas.List.Folds.{list_all-append}
use Rattle.std.proofs.lemmas.Option.{same_Some, slice_get_within}
use Rattle.gq_shelf.specs.Notes.{GoesOn}
use Rattle.gq_shelf.specs.Places.{long_at}
use Rattle.gq_shelf.specs.declared.place.Place.{Place}
use Rattle.gq_shelf.specs.declared.place.Place.TheVariants.{Fresh, Shelved}
use Rattle.gq_desk.specs.CheckedPlan.{CheckedPlan, row_at}
use Rattle.gq_lines.specs.Written.{spaced}
use Rattle.gq_journal.specs.Batches.{Line, is_batch_line}
use Rattle.gq_keeper.specs.Plans.{is_head, are_facts}
use Rattle.gq_keeper.specs.Starting.{RecallsAll}
use Rattle.gq_depot.specs.Depots.{Placed, Standing, standing_of, forgotten, after_fact, bare, IsSame, LeadsTo, reads_fact, ReadsFact}
use Rattle.gq_depot.specs.Tenants.{LeadsOwn, ApartFrom}
use Rattle.gq_ledger.specs.Steps.{with_at}
use Rattle.gq_stock.specs.Forgetting.{is_in, is_in_any}
use Rattle.gq_depot.specs.declared.limits.TheConstants.{MOST_CHUNK}
use Rattle.gq_depot.specs.declared.depot.Depot.{Depot}
use Rattle.gq_depot.specs.declared.fact.ChunkFact.{ChunkFact}
use Rattle.gq_depot.specs.declared.fact.ChunkFact.TheVariants.{Put, Forgot, Filled}
use Rattle.gq_depot.specs.declared.answer.ChunkAnswer.{ChunkAnswer}
use Rattle.gq_depot.specs.declared.filling.Filling.{Filling}
use Rattle.gq_depot.specs.declared.filling.Filling.TheVariants.{Give, Raise, End}
use Rattle.gq_depot.specs.declared.request.ChunkRequest.{ChunkRequest}
use Rattle.gq_depot.specs.declared.request.ChunkRequest.TheVariants.{Get, List as ListChunks}
use Rattle.gq_depot.proofs.Standing.{there}
use Rattle.gq_depot.proofs.Tenants.{after_same, same_on}
use Rattle.gq_chunks.specs.Facts.{place_verb, verb_of, own_words, chunk_fact_line, chunk_fact_of_line}
use Rattle.gq_chunks.specs.Answers.{chunk_answer_text}
use Rattle.gq_chunks.specs.Coming.{Coming, Asked, Said, Ticked, Nothing, moves_at}
use Rattle.gq_chunks.specs.PeerLines.{Saying, Seeks, Found, Wants, Gives, Misses, Spoilt, peer_answer_text}
use Rattle.gq_chunks.specs.Machines.{Chunks, IsSite, coming_in, fact_lines, FactStands, depot_reads, Took, Fills, Fed, Unfed, Waits, Move, move_lines, MovesOne, MovesOn, Moves, MovesBy, may_answer, AnswersPeer, whole_length, SaidBy, StepsBy, ChunkSteps, reads_told, chunk_reads, Recalled, ChunkRecalls, room_of_lines, lacks_at_first, IsBare, IsBlank, ChunksAreBlank, AllFit, GoneFits, IsSound, AreSound, HasRoom, ChunksAreOf, DepotRests, ChunksRest}

-- ---- machines that have chunks

-- what machines read, what they have reads
pub on_chunks : {M : Type 0} (f : M → Chunks) (lines : List Line) (a b : M) → RecallsAll (λ (old : M) (line : List ℕ) (new : M). ChunkRecalls (f old) line (f new)) a lines b → RecallsAll ChunkRecalls (f a) lines (f b)
on_chunks f [] a b same = ap f same
on_chunks f (line ∷ lines) a b (next, one, more) = (f next, one, on_chunks f lines next b more)

-- ---- the same, and the same node

pub same_back : (a b : Standing) → IsSame a b → IsSame b a
same_back a b same = record { at = λ k n. sym (same.at k n); floor = λ k. sym (same.floor k); gone = λ k n. sym (same.gone k n); lacks = sym same.lacks }

pub same_itself : (a : Standing) → IsSame a a
same_itself a = record { at = λ k n. refl; floor = λ k. refl; gone = λ k n. refl; lacks = refl }

pub site_on : (a b c : Chunks) → IsSite a b → IsSite b c → IsSite a c
site_on a b c one two = record { plan = two.plan ∙ one.plan; node = two.node ∙ one.node; lost = two.lost ∙ one.lost; losses = two.losses ∙ one.losses; tenants = two.tenants ∙ one.tenants }

site_back : (a b : Chunks) → IsSite a b → IsSite b a
site_back a b site = record { plan = sym site.plan; node = sym site.node; lost = sym site.lost; losses = sym site.losses; tenants = sym site.tenants }

pub site_itself : (a : Chunks) → IsSite a a
site_itself a = record { plan = refl; node = refl; lost = refl; losses = refl; tenants = refl }

-- the depot of the same tenant
pub across : (xs ys : List Depot) (t : ℕ) (y : Depot) → length ys ≡ length xs → slice_get ys t ≡ Some y → (x : Depot) × (slice_get xs t ≡ Some x)
across xs ys t y same is = there xs t (subst (λ (n : ℕ). t < n) same (slice_get_within ys t y is))

-- ---- one tenant's depot goes on

-- what the fact, if there is one, makes of the tenant's depot, and all others stay
pub record Went (old : Chunks) (t : ℕ) (fact : Option ChunkFact) (new : Chunks) : Type 0 where
  pub leads : LeadsOwn old.depots t fact new.depots
  pub reads : (was : Depot) → slice_get old.depots t ≡ Some was → ReadsFact (length was.stock.sessions.items) fact
  pub apart : ApartFrom t old.depots new.depots
  pub site : IsSite old new

leads_itself : (depot : Depot) → LeadsTo depot None depot
leads_itself depot = record { standing = same_itself (standing_of depot); sessions = refl; allowed = refl }

-- nothing changed
went_nowhere : (old : Chunks) (t : ℕ) → Went old t None old
went_nowhere old t = record {
  leads = λ was is at_was at_is. subst (λ (x : Depot). LeadsTo was None x) (same_Some was is (sym at_was ∙ at_is)) (leads_itself was);
  reads = λ was at. tt;
  apart = λ other is. refl;
  site = site_itself old;
}

-- no tenant's chunks did
went_still : (old new : Chunks) → new.depots ≡ old.depots → IsSite old new → Went old 0 None new
went_still old new same site = record {
  leads = λ was is at_was at_is. subst (λ (x : Depot). LeadsTo was None x) (same_Some was is (sym at_was ∙ (ap (λ (xs : List Depot). slice_get xs 0) (sym same) ∙ at_is))) (leads_itself was);
  reads = λ was at. tt;
  apart = λ other is. ap (λ (xs : List Depot). slice_get xs other) same;
  site = site;
}

went_took : (text : ChunkAnswer → List ℕ) (old : Chunks) (t : ℕ) (request : ChunkRequest) (facts : List Line) (told : List ℕ) (new : Chunks) (took : Took text old t request facts told new) → Went old t took.answered.fact new
went_took text old t request facts told new took = record {
  leads = λ was is at_was at_is. (took.answers.own was is at_was at_is).leads;
  reads = λ was at_was.
      let is : (x : Depot) × (slice_get new.depots t ≡ Some x) = across new.depots old.depots t was (sym took.answers.site.tenants) at_was in
      (took.answers.own was is.0 at_was is.1).reads;
  apart = took.answers.apart;
  site = took.answers.site;
}

went_filled : (old : Chunks) (t : ℕ) (filling : Filling) (facts : List Line) (new : Chunks) (fills : Fills old t filling facts new) → Went old t fills.fact new
went_filled old t filling facts new fills = record {
  leads = λ was is at_was at_is. (fills.done.own was is at_was at_is).leads;
  reads = λ was at_was.
      let is : (x : Depot) × (slice_get new.depots t ≡ Some x) = across new.depots old.depots t was (sym fills.done.site.tenants) at_was in
      (fills.done.own was is.0 at_was is.1).reads;
  apart = fills.done.apart;
  site = fills.done.site;
}

pub went_recalled : (old : Chunks) (t : ℕ) (fact : ChunkFact) (new : Chunks) → depot_reads (slice_get old.depots t) fact ≡ true → Recalled old t fact new → Went old t (Some fact) new
went_recalled old t fact new reads recalled = record {
  leads = recalled.leads;
  reads = λ was at. ap (λ (o : Option Depot). depot_reads o fact) (sym at) ∙ reads;
  apart = recalled.apart;
  site = recalled.site;
}

-- the tenant's depot reads the fact, if there is one
abbrev pub FactIsRead : Chunks → (t : ℕ) → Option ChunkFact → Type 0
FactIsRead old t None = ⊤
FactIsRead old t (Some fact) = depot_reads (slice_get old.depots t) fact ≡ true

fact_read : (old : Chunks) (t : ℕ) (fact : Option ChunkFact) → t < length old.depots → ((was : Depot) → slice_get old.depots t ≡ Some was → ReadsFact (length was.stock.sessions.items) fact) → FactIsRead old t fact
fact_read old t None within reads = tt
fact_read old t (Some fact) within reads =
    let was : (x : Depot) × (slice_get old.depots t ≡ Some x) = there old.depots t within in
    ap (λ (o : Option Depot). depot_reads o fact) was.1 ∙ reads was.0 was.1

-- a step is that of some tenant and fact, and gives the lines of this fact
pub record WentSome (old : Chunks) (facts : List Line) (new : Chunks) : Type 0 where
  pub tenant : ℕ
  pub fact : Option ChunkFact
  pub went : Went old tenant fact new
  pub facts_are : facts ≡ fact_lines old.plan tenant fact
  pub stands : FactStands old.plan tenant fact
  pub is_read : FactIsRead old tenant fact
  pub goes_on : GoesOn old.noted new.noted

stayed : (old : Chunks) (facts : List Line) (new : Chunks) → new ≡ old → facts ≡ [] → WentSome old facts new
stayed old facts new same none = record {
  tenant = 0;
  fact = None;
  went = subst (λ (z : Chunks). Went old 0 None z) (sym same) (went_nowhere old 0);
  facts_are = none;
  stands = tt;
  is_read = tt;
  goes_on = subst (λ (z : Chunks). GoesOn old.noted z.noted) (sym same) (λ written clean. clean);
}

took_some : (text : ChunkAnswer → List ℕ) (old : Chunks) (t : ℕ) (request : ChunkRequest) (facts : List Line) (told : List ℕ) (new : Chunks) → Took text old t request facts told new → WentSome old facts new
took_some text old t request facts told new took =
    let went : Went old t took.answered.fact new = went_took text old t request facts told new took in
    record { tenant = t; fact = took.answered.fact; went = went; facts_are = took.facts_are; stands = took.stands; is_read = fact_read old t took.answered.fact took.within went.reads; goes_on = took.answers.goes_on }

filled_some : (old : Chunks) (t : ℕ) (filling : Filling) (facts : List Line) (new : Chunks) → Fills old t filling facts new → WentSome old facts new
filled_some old t filling facts new fills =
    let went : Went old t fills.fact new = went_filled old t filling facts new fills in
    record { tenant = t; fact = fills.fact; went = went; facts_are = fills.facts_are; stands = fills.stands; is_read = fact_read old t fills.fact fills.within went.reads; goes_on = fills.done.goes_on }

unfed_some : (old : Chunks) (t : ℕ) (facts : List Line) (told : List ℕ) (new : Chunks) → Unfed old t facts told new → WentSome old facts new
unfed_some old t facts told new unfed = record {
  tenant = t;
  fact = None;
  went = record { leads = unfed.left.leads; reads = λ was at. tt; apart = unfed.left.apart; site = unfed.left.site };
  facts_are = unfed.facts_are;
  stands = tt;
  is_read = tt;
  goes_on = unfed.left.goes_on;
}

pub own_went : (its : Coming) (old : Chunks) (facts : List Line) (told : List ℕ) (new : Chunks) → StepsBy its old facts told new → WentSome old facts new
own_went its old facts told new step = by its step
  where
    peer : (may : Bool) (t from : ℕ) (request : ChunkRequest) → AnswersPeer may old t from request facts told new → WentSome old facts new
    peer true t from request took = took_some (peer_answer_text old.plan old.node from t) old t request facts told new took
    peer false t from request stays = stayed old facts new stays.same stays.facts_are

    said : (t from : ℕ) (saying : Saying) → SaidBy saying old t from facts told new → WentSome old facts new
    said t from (Seeks p s after) its = peer (may_answer old t p) t from (ListChunks s after) its
    said t from (Wants s n) its = peer (may_answer old t 0) t from (Get s n 0 whole_length) its
    said t from (Found s after floor is_all chunks) fed = filled_some old t (Raise s floor) facts new fed.fills
    said t from (Gives s n bytes) (inl fed) = filled_some old t (Give s n bytes) facts new fed.fills
    said t from (Gives s n bytes) (inr unfed) = unfed_some old t facts told new unfed
    said t from (Misses s n) waits = stayed old facts new waits.same waits.facts_are
    said t from (Spoilt s n) waits = stayed old facts new waits.same waits.facts_are

    ticked : (t : ℕ) → Waits old t facts told new ⊎ Fed old t End facts told new → WentSome old facts new
    ticked t (inl waits) = stayed old facts new waits.same waits.facts_are
    ticked t (inr fed) = filled_some old t End facts new fed.fills

    by : (its : Coming) → StepsBy its old facts told new → WentSome old facts new
    by Nothing stays = stayed old facts new stays.same stays.facts_are
    by (Asked t None) stays = stayed old facts new stays.same stays.facts_are
    by (Asked t (Some request)) took = took_some (chunk_answer_text old.plan old.node t) old t request facts told new took
    by (Said t from saying) its = said t from saying its
    by Ticked its = ticked its.0 its.1

-- ---- one after another

-- steps of some tenants' facts, and the lines of each
abbrev pub WentMany : Chunks → List (List Line) → Chunks → Type 0
WentMany old [] new = new ≡ old
WentMany old (facts ∷ parts) new = (mid : Chunks) × WentSome old facts mid × WentMany mid parts new

abbrev pub joined : List (List Line) → List Line
joined [] = []
joined (facts ∷ parts) = facts ++ joined parts

-- such is a step, and it gives the lines of all
pub record WentAll (old : Chunks) (facts : List Line) (new : Chunks) : Type 0 where
  pub parts : List (List Line)
  pub went : WentMany old parts new
  pub facts_are : facts ≡ joined parts

many_on : (a b c : Chunks) (one two : List (List Line)) → WentMany a one b → WentMany b two c → WentMany a (one ++ two) c
many_on a b c [] two same went = subst (λ (z : Chunks). WentMany z two c) same went
many_on a b c (facts ∷ one) two (mid, some, more) went = (mid, some, many_on mid b c one two more went)

joined_on : (one two : List (List Line)) → joined (one ++ two) ≡ joined one ++ joined two
joined_on [] two = refl
joined_on (facts ∷ one) two = ap (λ (lines : List Line). facts ++ lines) (joined_on one two) ∙ sym (append_assoc facts (joined one) (joined two))

abbrev pub move_parts : CheckedPlan → List Move → List (List Line)
move_parts plan [] = []
move_parts plan (move ∷ moves) = fact_lines plan move.0 move.1 ∷ move_parts plan moves

moves_joined : (plan : CheckedPlan) (moves : List Move) → move_lines plan moves ≡ joined (move_parts plan moves)
moves_joined plan [] = refl
moves_joined plan (move ∷ moves) = ap (λ (lines : List Line). fact_lines plan move.0 move.1 ++ lines) (moves_joined plan moves)

moved_some : (old : Chunks) (t : ℕ) (fact : Option ChunkFact) (new : Chunks) → MovesOne old t fact new → WentSome old (fact_lines old.plan t fact) new
moved_some old t fact new one =
    let went : Went old t fact new = record {
      leads = λ was is at_was at_is. (one.done.own was is at_was at_is).leads;
      reads = λ was at_was.
          let is : (x : Depot) × (slice_get new.depots t ≡ Some x) = across new.depots old.depots t was (sym one.done.site.tenants) at_was in
          (one.done.own was is.0 at_was is.1).reads;
      apart = one.done.apart;
      site = one.done.site;
    } in
    record { tenant = t; fact = fact; went = went; facts_are = refl; stands = one.stands; is_read = fact_read old t fact one.within went.reads; goes_on = one.done.goes_on }

pub moves_many : (old : Chunks) (moves : List Move) (new : Chunks) → MovesOn old moves new → WentMany old (move_parts old.plan moves) new
moves_many old [] new same = same
moves_many old (move ∷ moves) new (mid, one, more) = (mid, moved_some old move.0 move.1 mid one, subst (λ (p : CheckedPlan). WentMany mid (move_parts p moves) new) one.done.site.plan (moves_many mid moves new more))

pub moves_all : (old : Chunks) (facts : List Line) (new : Chunks) → Moves old facts new → WentAll old facts new
moves_all old facts new moves = record {
  parts = move_parts old.plan moves.moves ++ [] ∷ [];
  went = many_on old moves.last new (move_parts old.plan moves.moves) ([] ∷ []) (moves_many old moves.moves moves.last moves.moved) (new, synced, refl);
  facts_are = moves.facts_are ∙ (moves_joined old.plan moves.moves ∙ (sym (append-nil (joined (move_parts old.plan moves.moves))) ∙ sym (joined_on (move_parts old.plan moves.moves) ([] ∷ []))));
}
  where
    synced : WentSome moves.last [] new
    synced = record { tenant = 0; fact = None; went = went_still moves.last new moves.depots moves.site; facts_are = refl; stands = tt; is_read = tt; goes_on = moves.goes_on }

pub moves_by_all : (its : Coming) (old : Chunks) (facts : List Line) (new : Chunks) → MovesBy its old facts new → WentAll old facts new
moves_by_all its old facts new moves = by (moves_at its) moves
  where
    by : (may : Bool) → MatchBool may (Moves old facts new) ((new ≡ old) × (facts ≡ [])) → WentAll old facts new
    by true some = moves_all old facts new some
    by false none = record { parts = []; went = none.0; facts_are = none.1 }

pub step_went : (old : Chunks) (line : List ℕ) (facts : List Line) (told : List ℕ) (new : Chunks) → ChunkSteps old line facts told new → WentAll old facts new
step_went old line facts told new step =
    let first : WentAll old step.moved step.mid = moves_by_all (coming_in old line) old step.moved step.mid step.moves in
    let second : WentSome step.mid step.own new = own_went (coming_in old line) step.mid step.own told new step.step in
    record {
      parts = first.parts ++ step.own ∷ [];
      went = many_on old step.mid new first.parts (step.own ∷ []) first.went (new, second, refl);
      facts_are = step.facts_are ∙ (ap (λ (lines : List Line). lines ++ step.own) first.facts_are
          ∙ (ap (λ (lines : List Line). joined first.parts ++ lines) (sym (append-nil step.own)) ∙ sym (joined_on first.parts (step.own ∷ []))));
    }

pub many_go_on : (old : Chunks) (parts : List (List Line)) (new : Chunks) → WentMany old parts new → GoesOn old.noted new.noted
many_go_on old [] new same = subst (λ (z : Chunks). GoesOn old.noted z.noted) (sym same) (λ written clean. clean)
many_go_on old (facts ∷ parts) new (mid, some, more) = λ written clean. some.goes_on written (many_go_on mid parts new more written clean)

pub many_site : (old : Chunks) (parts : List (List Line)) (new : Chunks) → WentMany old parts new → IsSite old new
many_site old [] new same = subst (λ (z : Chunks). IsSite old z) (sym same) (site_itself old)
many_site old (facts ∷ parts) new (mid, some, more) = site_on old mid new some.went.site (many_site mid parts new more)

pub recall_went : (old : Chunks) (line : List ℕ) (new : Chunks) (recalled : ChunkRecalls old line new) → Went old recalled.tenant (Some recalled.fact) new
recall_went old line new recalled = went_recalled old recalled.tenant recalled.fact new recalled.reads recalled.recalled

-- ---- sessions and rooms stay

pub record SameShape (was is : Depot) : Type 0 where
  pub sessions : length is.stock.sessions.items ≡ length was.stock.sessions.items
  pub allowed : is.stock.allowed ≡ was.stock.allowed

pub record KeepsShape (old new : Chunks) : Type 0 where
  pub site : IsSite old new
  pub depots : (t : ℕ) (was is : Depot) → slice_get old.depots t ≡ Some was → slice_get new.depots t ≡ Some is → SameShape was is

went_shape : (old : Chunks) (t : ℕ) (fact : Option ChunkFact) (new : Chunks) → Went old t fact new → KeepsShape old new
went_shape old t fact new went = record { site = went.site; depots = λ k was is at_was at_is. by k was is (k == t) refl at_was at_is }
  where
    by : (k : ℕ) (was is : Depot) (b : Bool) → (k == t) ≡ b → slice_get old.depots k ≡ Some was → slice_get new.depots k ≡ Some is → SameShape was is
    by k was is true e at_was at_is =
        let same : k ≡ t = eqb-true k t e in
        let leads : LeadsTo was fact is = went.leads was is (subst (λ (z : ℕ). slice_get old.depots z ≡ Some was) same at_was) (subst (λ (z : ℕ). slice_get new.depots z ≡ Some is) same at_is) in
        record { sessions = leads.sessions; allowed = leads.allowed }
    by k was is false e at_was at_is =
        let other : k ≢ t = λ same. true≢false (sym (eq-eqb k t same) ∙ e) in
        subst (λ (x : Depot). SameShape was x) (same_Some was is (sym at_was ∙ (sym (went.apart k other) ∙ at_is))) (record { sessions = refl; allowed = refl })

shape_on : (a b c : Chunks) → KeepsShape a b → KeepsShape b c → KeepsShape a c
shape_on a b c one two = record { site = site_on a b c one.site two.site; depots = depots }
  where
    depots : (t : ℕ) (was is : Depot) → slice_get a.depots t ≡ Some was → slice_get c.depots t ≡ Some is → SameShape was is
    depots t was is at_was at_is =
        let mid : (x : Depot) × (slice_get b.depots t ≡ Some x) = across b.depots a.depots t was (sym one.site.tenants) at_was in
        let first : SameShape was mid.0 = one.depots t was mid.0 at_was mid.1 in
        let second : SameShape mid.0 is = two.depots t mid.0 is mid.1 at_is in
        record { sessions = second.sessions ∙ first.sessions; allowed = second.allowed ∙ first.allowed }

shape_itself : (a : Chunks) → KeepsShape a a
shape_itself a = went_shape a 0 None a (went_nowhere a 0)

shapes : (a : Chunks) (lines : List Line) (b : Chunks) → RecallsAll ChunkRecalls a lines b → KeepsShape a b
shapes a [] b same = subst (λ (z : Chunks). KeepsShape a z) same (shape_itself a)
shapes a (line ∷ lines) b (next, one, more) = shape_on a next b (went_shape a one.tenant (Some one.fact) next (recall_went a line next one)) (shapes next lines b more)

shape_back : (a b : Chunks) → KeepsShape a b → KeepsShape b a
shape_back a b one = record { site = site_back a b one.site; depots = λ t was is at_was at_is. record { sessions = sym (one.depots t is was at_is at_was).sessions; allowed = sym (one.depots t is was at_is at_was).allowed } }

many_shape : (old : Chunks) (parts : List (List Line)) (new : Chunks) → WentMany old parts new → KeepsShape old new
many_shape old [] new same = subst (λ (z : Chunks). KeepsShape old z) (sym same) (shape_itself old)
many_shape old (facts ∷ parts) new (mid, some, more) = shape_on old mid new (went_shape old some.tenant some.fact mid some.went) (many_shape mid parts new more)

blank_shape : (first : ℕ → ℕ) (m blank : Chunks) → IsBlank first m blank → KeepsShape m blank
blank_shape first m blank is = record {
  site = is.site;
  depots = λ t was now at_was at_now.
      let its = is.depots t was now at_was at_now in
      record { sessions = its.sessions_are; allowed = its.allowed_is };
}

-- ---- what is read

never_some : {A X : Type 0} (x : X) → None ≡ Some x → A
never_some {A} {X} x same = absurd (true≢false (ap is_nothing same))
  where
    is_nothing : Option X → Bool
    is_nothing None = true
    is_nothing (Some y) = false

reads_same : (old new : Chunks) → KeepsShape old new → (t : ℕ) (fact : ChunkFact) → depot_reads (slice_get new.depots t) fact ≡ depot_reads (slice_get old.depots t) fact
reads_same old new shape t fact = by (slice_get old.depots t) (slice_get new.depots t) refl refl
  where
    by : (o n : Option Depot) → slice_get old.depots t ≡ o → slice_get new.depots t ≡ n → depot_reads n fact ≡ depot_reads o fact
    by None None e f = refl
    by (Some was) (Some is) e f = ap (λ (n : ℕ). reads_fact n fact) ((shape.depots t was is e f).sessions)
    by None (Some is) e f =
        let was : (x : Depot) × (slice_get old.depots t ≡ Some x) = across old.depots new.depots t is shape.site.tenants f in
        never_some was.0 (sym e ∙ was.1)
    by (Some was) None e f =
        let is : (x : Depot) × (slice_get new.depots t ≡ Some x) = across new.depots old.depots t was (sym shape.site.tenants) e in
        never_some is.0 (sym f ∙ is.1)

reads_as : (old new : Chunks) → KeepsShape old new → (line : List ℕ) → chunk_reads new line ≡ chunk_reads old line
reads_as old new shape line = ap (λ (p : CheckedPlan). reads_told new.depots (chunk_fact_of_line p line)) shape.site.plan ∙ by (chunk_fact_of_line old.plan line)
  where
    by : (told : Option (ℕ × ChunkFact)) → reads_told new.depots told ≡ reads_told old.depots told
    by None = refl
    by (Some (t, fact)) = reads_same old new shape t fact

-- the line of a recall is read
reads_one : (old : Chunks) (line : List ℕ) (new : Chunks) → ChunkRecalls old line new → chunk_reads old line ≡ true
reads_one old line new recalled = ap (reads_told old.depots) recalled.says ∙ recalled.reads

read_all : (a last new : Chunks) (lines : List Line) → RecallsAll ChunkRecalls a lines last → KeepsShape last new → list_all (chunk_reads new) lines ≡ true
read_all a last new [] r shape = refl
read_all a last new (line ∷ lines) (next, one, more) shape =
    let to_new : KeepsShape a new = shape_on a next new (went_shape a one.tenant (Some one.fact) next (recall_went a line next one)) (shape_on next last new (shapes next lines last more) shape) in
    and_from (chunk_reads new line) (list_all (chunk_reads new) lines) (reads_as a new to_new line ∙ reads_one a line next one) (read_all next last new lines more shape)

pub reads_on : (old : Chunks) (line : List ℕ) (new : Chunks) (other : List ℕ) → ChunkRecalls old line new → chunk_reads new other ≡ chunk_reads old other
reads_on old line new other recalled = reads_as old new (went_shape old recalled.tenant (Some recalled.fact) new (recall_went old line new recalled)) other

pub reads_again : (plan : List (List ℕ)) (first last new : Chunks) (lines : List (List ℕ)) → ChunksAreBlank plan first first → RecallsAll ChunkRecalls first lines last → ChunksAreBlank plan last new → list_all (chunk_reads new) lines ≡ true
reads_again plan first last new lines blank r other = read_all first last new lines r (blank_shape (room_of_lines plan) last new other)

-- ---- what a step gives

place_never_heads : (place : Place) (rest : List ℕ) → not (is_head (place_verb place ++ rest)) ≡ true
place_never_heads (Fresh bytes) rest = refl
place_never_heads (Shelved extent) rest = refl

never_heads : (fact : ChunkFact) (rest : List ℕ) → not (is_head (verb_of fact ++ rest)) ≡ true
never_heads (Put s n sure place) rest = place_never_heads place rest
never_heads (Forgot s floor run) rest = refl
never_heads Filled rest = refl

-- lines of one fact, or none
pub lines_are_facts : (plan : CheckedPlan) (t : ℕ) (fact : Option ChunkFact) → FactStands plan t fact → are_facts (fact_lines plan t fact) ≡ true
lines_are_facts plan t None stands = refl
lines_are_facts plan t (Some fact) stands =
    let line : List ℕ = chunk_fact_line plan t fact in
    and_from (is_batch_line line && not (is_head line)) true (and_from (is_batch_line line) (not (is_head line)) stands.1 (never_heads fact (spaced ((row_at plan t).name ∷ own_words fact)))) refl

pub gives_facts : (old : Chunks) (line : List ℕ) (facts : List (List ℕ)) (told : List ℕ) (new : Chunks) → ChunkSteps old line facts told new → are_facts facts ≡ true
gives_facts old line facts told new step =
    let all : WentAll old facts new = step_went old line facts told new step in
    ap are_facts all.facts_are ∙ many old all.parts all.went
  where
    many : (old : Chunks) (parts : List (List Line)) → WentMany old parts new → are_facts (joined parts) ≡ true
    many old [] went = refl
    many old (lines ∷ parts) (mid, some, more) =
        list_all-append (λ (line : Line). is_batch_line line && not (is_head line)) lines (joined parts)
        ∙ and_from (are_facts lines) (are_facts (joined parts)) (ap are_facts some.facts_are ∙ lines_are_facts old.plan some.tenant some.fact some.stands) (many mid parts more)

lines_read : (old other : Chunks) (t : ℕ) (fact : Option ChunkFact) → KeepsShape old other → FactStands old.plan t fact → FactIsRead old t fact → list_all (chunk_reads other) (fact_lines old.plan t fact) ≡ true
lines_read old other t None shape stands reads = refl
lines_read old other t (Some fact) shape stands reads =
    let line : List ℕ = chunk_fact_line old.plan t fact in
    and_from (chunk_reads other line) true (reads_as old other shape line ∙ (ap (reads_told old.depots) stands.0 ∙ reads)) refl

pub gives_readable : (plan : List (List ℕ)) (old : Chunks) (line : List ℕ) (facts : List (List ℕ)) (told : List ℕ) (new other : Chunks) → ChunkSteps old line facts told new → ChunksAreBlank plan old other → list_all (chunk_reads other) facts ≡ true
gives_readable plan old line facts told new other step blank =
    let all : WentAll old facts new = step_went old line facts told new step in
    ap (list_all (chunk_reads other)) all.facts_are ∙ many old all.parts all.went (blank_shape (room_of_lines plan) old other blank)
  where
    many : (old : Chunks) (parts : List (List Line)) → WentMany old parts new → KeepsShape old other → list_all (chunk_reads other) (joined parts) ≡ true
    many old [] went shape = refl
    many old (lines ∷ parts) (mid, some, more) shape =
        list_all-append (chunk_reads other) lines (joined parts)
        ∙ and_from (list_all (chunk_reads other) lines) (list_all (chunk_reads other) (joined parts)) (ap (list_all (chunk_reads other)) some.facts_are ∙ lines_read old other some.tenant some.fact shape some.stands some.is_read)
        (many mid parts more (shape_on mid old other (shape_back old mid (went_shape old some.tenant some.fact mid some.went)) shape))

-- ---- what a start begins with

blank_back : (first : ℕ → ℕ) (old new other : Chunks) → KeepsShape old new → IsBlank first new other → IsBlank first old other
blank_back first old new other shape blank = record { site = site_on old new other shape.site blank.site; depots = depots }
  where
    depots : (t : ℕ) (was is : Depot) → slice_get old.depots t ≡ Some was → slice_get other.depots t ≡ Some is → IsBare (length was.stock.sessions.items) was.stock.allowed (lacks_at_first old.node (first t) was.stock.allowed) is
    depots t was is at_was at_is =
        let now : (x : Depot) × (slice_get new.depots t ≡ Some x) = across new.depots old.depots t was (sym shape.site.tenants) at_was in
        let same : SameShape was now.0 = shape.depots t was now.0 at_was now.1 in
        subst (λ (n : ℕ). IsBare n was.stock.allowed (lacks_at_first old.node (first t) was.stock.allowed) is) same.sessions
        (subst (λ (n : ℕ). IsBare (length now.0.stock.sessions.items) n (lacks_at_first old.node (first t) n) is) same.allowed
        (subst (λ (n : ℕ). IsBare (length now.0.stock.sessions.items) now.0.stock.allowed (lacks_at_first n (first t) now.0.stock.allowed) is) shape.site.node (blank.depots t now.0 is now.1 at_is)))

pub keeps_blank : (plan : List (List ℕ)) (old : Chunks) (line : List ℕ) (facts : List (List ℕ)) (told : List ℕ) (new other : Chunks) → ChunkSteps old line facts told new → ChunksAreBlank plan new other → ChunksAreBlank plan old other
keeps_blank plan old line facts told new other step blank =
    let all : WentAll old facts new = step_went old line facts told new step in
    blank_back (room_of_lines plan) old new other (many_shape old all.parts new all.went) blank

-- ---- of which plan it is

lacks_less : (fact : Option ChunkFact) (it : Standing) → (after_fact fact it).lacks ≡ true → it.lacks ≡ true
lacks_less None it is = is
lacks_less (Some (Put s n sure place)) it is = is
lacks_less (Some (Forgot s floor run)) it is = is
lacks_less (Some Filled) it is = absurd (true≢false (sym is))

room_on : (node room : ℕ) (fact : Option ChunkFact) (was is : Depot) → LeadsTo was fact is → HasRoom node room was → HasRoom node room is
room_on node room fact was is leads has = record {
  allowed = leads.allowed ∙ has.allowed;
  lacking = λ lacks. ap (lacks_at_first node room) leads.allowed ∙ has.lacking (lacks_less fact (standing_of was) (sym leads.standing.lacks ∙ lacks));
}

-- what a fact that is read puts there fits
fits_after : (sessions : ℕ) (fact : Option ChunkFact) (it : Standing) → ReadsFact sessions fact → AllFit it → AllFit (after_fact fact it)
fits_after sessions None it reads fit = fit
fits_after sessions (Some Filled) it reads fit = fit
fits_after sessions (Some (Put s n sure place)) it reads fit = λ k m placed is. by k m placed (k == s - 1) is
  where
    x : Placed
    x = record { place = place; is_sure = sure }

    long : long_at place ≤ MOST_CHUNK
    long = leb-true (long_at place) MOST_CHUNK (and_parts (nat_le 1 s && nat_le s sessions) (nat_le (long_at place) MOST_CHUNK) reads).1

    inner : (k m : ℕ) (placed : Placed) (b : Bool) → (if b then Some x else (it.books k).at m) ≡ Some placed → long_at placed.place ≤ MOST_CHUNK
    inner k m placed true is = subst (λ (z : Placed). long_at z.place ≤ MOST_CHUNK) (same_Some x placed is) long
    inner k m placed false is = fit k m placed is

    by : (k m : ℕ) (placed : Placed) (a : Bool) → (if a then with_at (it.books k) n (Some x) else it.books k).at m ≡ Some placed → long_at placed.place ≤ MOST_CHUNK
    by k m placed true is = inner k m placed (m == n) is
    by k m placed false is = fit k m placed is
fits_after sessions (Some (Forgot s floor run)) it reads fit = λ k m placed is. by k m placed (k == s - 1) is
  where
    inner : (k m : ℕ) (placed : Placed) (b : Bool) → (if b then None else (it.books k).at m) ≡ Some placed → long_at placed.place ≤ MOST_CHUNK
    inner k m placed true is = never_some placed is
    inner k m placed false is = fit k m placed is

    by : (k m : ℕ) (placed : Placed) (a : Bool) → (if a then forgotten (it.books k) floor run else it.books k).at m ≡ Some placed → long_at placed.place ≤ MOST_CHUNK
    by k m placed true is = inner k m placed (is_in_any m (run ∷ [])) is
    by k m placed false is = fit k m placed is

fits_same : (a b : Standing) → IsSame a b → AllFit b → AllFit a
fits_same a b same fit k n placed is = fit k n placed (sym (same.at k n) ∙ is)

-- what a fact that is read forgets is not above the floor that it leaves
gone_after_fits : (sessions : ℕ) (fact : Option ChunkFact) (it : Standing) → ReadsFact sessions fact → GoneFits sessions it → GoneFits sessions (after_fact fact it)
gone_after_fits sessions None it reads fits = fits
gone_after_fits sessions (Some Filled) it reads fits = λ k m is. absurd (true≢false (sym is))
gone_after_fits sessions (Some (Put s n sure place)) it reads fits = λ k m is. ((fits k m is).0, by k m (k == s - 1) (fits k m is).1)
  where
    by : (k m : ℕ) (a : Bool) → m ≤ (it.books k).floor → m ≤ (if a then with_at (it.books k) n (Some (record { place = place; is_sure = sure })) else it.books k).floor
    by k m true le = le
    by k m false le = le
gone_after_fits sessions (Some (Forgot s floor run)) it reads fits = λ k m is. by k m (it.gone k m) refl is
  where
    parts : ((nat_le 1 s && nat_le s sessions) ≡ true) × (nat_le run.last floor ≡ true)
    parts = and_parts (nat_le 1 s && nat_le s sessions) (nat_le run.last floor) reads

    session : (nat_le 1 s ≡ true) × (nat_le s sessions ≡ true)
    session = and_parts (nat_le 1 s) (nat_le s sessions) parts.0

    risen : (k m : ℕ) (a : Bool) → m ≤ (it.books k).floor → m ≤ (if a then forgotten (it.books k) floor run else it.books k).floor
    risen k m true le = above (it.books k).floor le
      where
        above : (x : ℕ) → m ≤ x → m ≤ max x floor
        above x le = omega (arith, le)
    risen k m false le = le

    here : (k m : ℕ) → k ≡ s - 1 → m ≤ run.last → (k < sessions) × (m ≤ (if k == s - 1 then forgotten (it.books k) floor run else it.books k).floor)
    here k m same le = (
      omega (arith, same, leb-true 1 s session.0, leb-true s sessions session.1),
      subst (λ (t : Bool). m ≤ (if t then forgotten (it.books k) floor run else it.books k).floor) (sym (eq-eqb k (s - 1) same)) (above (it.books k).floor),
    )
      where
        above : (x : ℕ) → m ≤ max x floor
        above x = omega (arith, le, leb-true run.last floor parts.1)

    noted : (k m : ℕ) (lacks : Bool) → (lacks && ((k == s - 1) && is_in m run)) ≡ true → (k < sessions) × (m ≤ (if k == s - 1 then forgotten (it.books k) floor run else it.books k).floor)
    noted k m lacks is =
        let its = and_parts lacks ((k == s - 1) && is_in m run) is in
        let both = and_parts (k == s - 1) (is_in m run) its.1 in
        let ends = and_parts (nat_le run.first m) (nat_le m run.last) both.1 in
        here k m (eqb-true k (s - 1) both.0) (leb-true m run.last ends.1)

    by : (k m : ℕ) (a : Bool) → it.gone k m ≡ a → (a || (it.lacks && ((k == s - 1) && is_in m run))) ≡ true → (k < sessions) × (m ≤ (if k == s - 1 then forgotten (it.books k) floor run else it.books k).floor)
    by k m true e is = ((fits k m e).0, risen k m (k == s - 1) (fits k m e).1)
    by k m false e is = noted k m it.lacks is

gone_fits_same : (sessions : ℕ) (a b : Standing) → IsSame a b → GoneFits sessions b → GoneFits sessions a
gone_fits_same sessions a b same fits k n is =
    let its = fits k n (sym (same.gone k n) ∙ is) in
    (its.0, subst (λ (z : ℕ). n ≤ z) (sym (same.floor k)) its.1)

sound_on : (plan : CheckedPlan) (t : ℕ) (fact : Option ChunkFact) (was is : Depot) → LeadsTo was fact is → ReadsFact (length was.stock.sessions.items) fact → IsSound plan t was → IsSound plan t is
sound_on plan t fact was is leads reads sound = record {
  sessions_are = leads.sessions ∙ sound.sessions_are;
  fit = fits_same (standing_of is) (after_fact fact (standing_of was)) leads.standing (fits_after (length was.stock.sessions.items) fact (standing_of was) reads sound.fit);
  gone = subst (λ (n : ℕ). GoneFits n (standing_of is)) (sym leads.sessions)
      (gone_fits_same (length was.stock.sessions.items) (standing_of is) (after_fact fact (standing_of was)) leads.standing (gone_after_fits (length was.stock.sessions.items) fact (standing_of was) reads sound.gone));
}

-- what holds of each tenant's depot goes on to hold
went_all : (P : ℕ → Depot → Type 0) (old : Chunks) (t : ℕ) (fact : Option ChunkFact) (new : Chunks) → Went old t fact new → ((was is : Depot) → LeadsTo was fact is → ReadsFact (length was.stock.sessions.items) fact → P t was → P t is) → ((k : ℕ) (depot : Depot) → slice_get old.depots k ≡ Some depot → P k depot) → (k : ℕ) (depot : Depot) → slice_get new.depots k ≡ Some depot → P k depot
went_all P old t fact new went on has k depot at =
    let was : (x : Depot) × (slice_get old.depots k ≡ Some x) = across old.depots new.depots k depot went.site.tenants at in
    by (k == t) refl was.0 was.1
  where
    by : (b : Bool) → (k == t) ≡ b → (was : Depot) → slice_get old.depots k ≡ Some was → P k depot
    by true e was at_was =
        let same : k ≡ t = eqb-true k t e in
        let was_there : slice_get old.depots t ≡ Some was = subst (λ (z : ℕ). slice_get old.depots z ≡ Some was) same at_was in
        subst (λ (z : ℕ). P z depot) (sym same) (on was depot (went.leads was depot was_there (subst (λ (z : ℕ). slice_get new.depots z ≡ Some depot) same at)) (went.reads was was_there) (has t was was_there))
    by false e was at_was =
        let other : k ≢ t = λ same. true≢false (sym (eq-eqb k t same) ∙ e) in
        has k depot (sym (went.apart k other) ∙ at)

went_of : (plan : List (List ℕ)) (old : Chunks) (t : ℕ) (fact : Option ChunkFact) (new : Chunks) → Went old t fact new → ChunksAreOf plan old → ChunksAreOf plan new
went_of plan old t fact new went has = record {
  tenants = went.site.tenants ∙ (has.tenants ∙ sym (ap (λ (p : CheckedPlan). length p.rows) went.site.plan));
  rooms = subst (λ (n : ℕ). (k : ℕ) (depot : Depot) → slice_get new.depots k ≡ Some depot → HasRoom n (room_of_lines plan k) depot) (sym went.site.node)
      (went_all (λ k depot. HasRoom old.node (room_of_lines plan k) depot) old t fact new went (λ was is leads reads room. room_on old.node (room_of_lines plan t) fact was is leads room) has.rooms);
  sound = subst (λ (p : CheckedPlan). AreSound p new.depots) (sym went.site.plan)
      (went_all (λ k depot. IsSound old.plan k depot) old t fact new went (λ was is leads reads sound. sound_on old.plan t fact was is leads reads sound) has.sound);
}

pub keeps_plan : (plan : List (List ℕ)) (old : Chunks) (line : List ℕ) (facts : List (List ℕ)) (told : List ℕ) (new : Chunks) → ChunkSteps old line facts told new → ChunksAreOf plan old → ChunksAreOf plan new
keeps_plan plan old line facts told new step has =
    let all : WentAll old facts new = step_went old line facts told new step in
    many old all.parts all.went has
  where
    many : (old : Chunks) (parts : List (List Line)) → WentMany old parts new → ChunksAreOf plan old → ChunksAreOf plan new
    many old [] same has = subst (λ (z : Chunks). ChunksAreOf plan z) (sym same) has
    many old (lines ∷ parts) (mid, some, more) has = many mid parts more (went_of plan old some.tenant some.fact mid some.went has)

pub recalls_plan : (plan : List (List ℕ)) (old : Chunks) (line : List ℕ) (new : Chunks) → ChunkRecalls old line new → ChunksAreOf plan old → ChunksAreOf plan new
recalls_plan plan old line new recalled has = went_of plan old recalled.tenant (Some recalled.fact) new (recall_went old line new recalled) has

-- ---- at rest

rest_on : (fact : Option ChunkFact) (a b c d : Depot) → LeadsTo a fact b → LeadsTo c fact d → DepotRests a c → DepotRests b d
rest_on fact a b c d one two rest = record {
  sessions = two.sessions ∙ (rest.sessions ∙ sym one.sessions);
  allowed = two.allowed ∙ (rest.allowed ∙ sym one.allowed);
  standing = same_on (standing_of d) (after_fact fact (standing_of c)) (standing_of b) two.standing
      (same_on (after_fact fact (standing_of c)) (after_fact fact (standing_of a)) (standing_of b) (after_same fact (standing_of c) (standing_of a) rest.standing) (same_back (standing_of b) (after_fact fact (standing_of a)) one.standing));
}

-- the same fact of the same tenant
rests_on : (t : ℕ) (fact : Option ChunkFact) (old new before after : Chunks) → Went old t fact new → Went before t fact after → ChunksRest old before → ChunksRest new after
rests_on t fact old new before after one two rest = record {
  site = site_on new old after (site_back old new one.site) (site_on old before after rest.site two.site);
  depots = λ k was is at_was at_is. by k was is (k == t) refl at_was at_is;
}
  where
    by : (k : ℕ) (was is : Depot) (b : Bool) → (k == t) ≡ b → slice_get new.depots k ≡ Some was → slice_get after.depots k ≡ Some is → DepotRests was is
    by k was is true e at_was at_is =
        let same : k ≡ t = eqb-true k t e in
        let o : (x : Depot) × (slice_get old.depots k ≡ Some x) = across old.depots new.depots k was one.site.tenants at_was in
        let b : (x : Depot) × (slice_get before.depots k ≡ Some x) = across before.depots after.depots k is two.site.tenants at_is in
        rest_on fact o.0 was b.0 is
        (one.leads o.0 was (subst (λ (z : ℕ). slice_get old.depots z ≡ Some o.0) same o.1) (subst (λ (z : ℕ). slice_get new.depots z ≡ Some was) same at_was))
        (two.leads b.0 is (subst (λ (z : ℕ). slice_get before.depots z ≡ Some b.0) same b.1) (subst (λ (z : ℕ). slice_get after.depots z ≡ Some is) same at_is))
        (rest.depots k o.0 b.0 o.1 b.1)
    by k was is false e at_was at_is =
        let other : k ≢ t = λ same. true≢false (sym (eq-eqb k t same) ∙ e) in
        rest.depots k was is (sym (one.apart k other) ∙ at_was) (sym (two.apart k other) ∙ at_is)

-- the facts of a step are recalled as what they are
recalled_went : (plan : CheckedPlan) (t : ℕ) (fact : Option ChunkFact) (before after : Chunks) → before.plan ≡ plan → FactStands plan t fact → RecallsAll ChunkRecalls before (fact_lines plan t fact) after → Went before t fact after
recalled_went plan t None before after is stands same = subst (λ (z : Chunks). Went before t None z) same (went_nowhere before t)
recalled_went plan t (Some fact) before after is stands (next, one, last) =
    let line : List ℕ = chunk_fact_line plan t fact in
    let says : chunk_fact_of_line plan line ≡ Some (one.tenant, one.fact) = ap (λ (p : CheckedPlan). chunk_fact_of_line p line) (sym is) ∙ one.says in
    let same : (one.tenant, one.fact) ≡ (t, fact) = same_Some (one.tenant, one.fact) (t, fact) (sym says ∙ stands.0) in
    subst (λ (z : Chunks). Went before t (Some fact) z) last (subst (λ (x : ℕ × ChunkFact). Went before x.0 (Some x.1) next) same (recall_went before line next one))

pub keeps_rest : (old : Chunks) (line : List ℕ) (facts : List (List ℕ)) (told : List ℕ) (new before after : Chunks) → ChunkSteps old line facts told new → ChunksRest old before → RecallsAll ChunkRecalls before facts after → ChunksRest new after
keeps_rest old line facts told new before after step rests r =
    let all : WentAll old facts new = step_went old line facts told new step in
    many old all.parts before all.went rests (subst (λ (lines : List Line). RecallsAll ChunkRecalls before lines after) all.facts_are r)
  where
    -- what is recalled of two lists of lines
    apart : (one two : List Line) (a : Chunks) → RecallsAll ChunkRecalls a (one ++ two) after → (m : Chunks) × RecallsAll ChunkRecalls a one m × RecallsAll ChunkRecalls m two after
    apart [] two a its = (a, refl, its)
    apart (line ∷ one) two a (next, first, more) =
        let rest = apart one two next more in
        (rest.0, (next, first, rest.1), rest.2)

    many : (old : Chunks) (parts : List (List Line)) (before : Chunks) → WentMany old parts new → ChunksRest old before → RecallsAll ChunkRecalls before (joined parts) after → ChunksRest new after
    many old [] before same rests r = subst (λ (z : Chunks). ChunksRest z after) (sym same) (subst (λ (z : Chunks). ChunksRest old z) r rests)
    many old (lines ∷ parts) before (mid, some, more) rests r =
        let its = apart lines (joined parts) before r in
        let read : RecallsAll ChunkRecalls before (fact_lines old.plan some.tenant some.fact) its.0 = subst (λ (ls : List Line). RecallsAll ChunkRecalls before ls its.0) some.facts_are its.1 in
        many mid parts its.0 more (rests_on some.tenant some.fact old mid before its.0 some.went (recalled_went old.plan some.tenant some.fact before its.0 rests.site.plan some.stands read) rests) its.2

-- ---- a start once more

pub both_recall : (lines : List Line) (a b c d : Chunks) → RecallsAll ChunkRecalls a lines b → RecallsAll ChunkRecalls c lines d → ChunksRest a c → ChunksRest b d
both_recall [] a b c d one two rest = subst (λ (z : Chunks). ChunksRest z d) one (subst (λ (z : Chunks). ChunksRest a z) two rest)
both_recall (line ∷ lines) a b c d (next, one, more) (after, two, others) rest =
    let says : chunk_fact_of_line a.plan line ≡ Some (two.tenant, two.fact) = ap (λ (p : CheckedPlan). chunk_fact_of_line p line) (sym rest.site.plan) ∙ two.says in
    let same : (two.tenant, two.fact) ≡ (one.tenant, one.fact) = same_Some (two.tenant, two.fact) (one.tenant, one.fact) (sym says ∙ one.says) in
    both_recall lines next b after d more others
    (rests_on one.tenant (Some one.fact) a next c after (recall_went a line next one) (subst (λ (x : ℕ × ChunkFact). Went c x.0 (Some x.1) after) same (recall_went c line after two)) rest)

-- two that were never asked anything
bare_rests : (was is : Depot) (sessions allowed : ℕ) (a b : Bool) → a ≡ b → IsBare sessions allowed a was → IsBare sessions allowed b is → DepotRests was is
bare_rests was is sessions allowed a b same one two = record {
  sessions = two.sessions_are ∙ sym one.sessions_are;
  allowed = two.allowed_is ∙ sym one.allowed_is;
  standing = same_on (standing_of is) (bare b) (standing_of was) two.nothing (subst (λ (z : Bool). IsSame (bare z) (standing_of was)) same (same_back (standing_of was) (bare a) one.nothing));
}

pub blank_rests : (first : ℕ → ℕ) (begun last new : Chunks) → IsBlank first begun begun → KeepsShape begun last → IsBlank first last new → ChunksRest begun new
blank_rests first begun last new blank shape other =
    let back : IsBlank first begun new = blank_back first begun last new shape other in
    record {
      site = back.site;
      depots = λ t was is at_was at_is.
          bare_rests was is (length was.stock.sessions.items) was.stock.allowed (lacks_at_first begun.node (first t) was.stock.allowed) (lacks_at_first begun.node (first t) was.stock.allowed) refl
          (blank.depots t was was at_was at_was) (back.depots t was is at_was at_is);
    }

pub starts_again : (plan : List (List ℕ)) (first last new again : Chunks) (lines : List (List ℕ)) → ChunksAreBlank plan first first → RecallsAll ChunkRecalls first lines last → ChunksAreBlank plan last new → RecallsAll ChunkRecalls new lines again → ChunksRest last again
starts_again plan first last new again lines blank to_last other to_again =
    both_recall lines first last new again to_last to_again (blank_rests (room_of_lines plan) first last new blank (shapes first lines last to_last) other)
