-- Each tenant's part of a run is a run of that tenant alone.
use Rattle.std.proofs.Common.{◌≡◌, ◌≢◌, ℕ, List, [], ◌∷◌, length, Bool, true, false, Option, Some, None, inl, inr, refl, sym, ap, subst, ◌∙◌}
use Rattle.std.specs.Prelude.{◌⊎◌, ◌++◌, ◌==◌, ◌&&◌, nat_le, slice_get, MatchBool}
use Rattle.std.proofs.lemmas.Bool.{eqb-true, eq-eqb, true≢false}
use Rattle.std.proofs.lemmas.Option.{same_Some}
use Rattle.gq_shelf.specs.Notes.{Noted, GoesOn}
use Rattle.gq_desk.specs.CheckedPlan.{CheckedPlan}
use Rattle.gq_journal.specs.Batches.{Line}
use Rattle.gq_keeper.specs.Runs.{Did, Runs}
use Rattle.gq_depot.specs.Tenants.{ApartFrom}
use Rattle.gq_depot.specs.declared.depot.Depot.{Depot}
use Rattle.gq_depot.specs.declared.filling.Filling.{Filling}
use Rattle.gq_depot.specs.declared.filling.Filling.TheVariants.{Give, Raise, End}
use Rattle.gq_depot.specs.declared.request.ChunkRequest.{ChunkRequest}
use Rattle.gq_depot.specs.declared.request.ChunkRequest.TheVariants.{Get, List as ListChunks}
use Rattle.gq_depot.specs.declared.answer.ChunkAnswer.{ChunkAnswer}
use Rattle.gq_depot.specs.declared.answer.ChunkAnswer.TheVariants.{Bad}
use Rattle.gq_chunks.specs.Answers.{chunk_answer_text}
use Rattle.gq_chunks.specs.Coming.{Coming, Asked, Said, Ticked, Nothing, moves_at}
use Rattle.gq_chunks.specs.PeerLines.{Saying, Seeks, Found, Wants, Gives, Misses, Spoilt, peer_answer_text}
use Rattle.gq_chunks.specs.Machines.{Chunks, IsSite, coming_in, fact_lines, Took, Stays, MayAsk, Fed, Unfed, Waits, Move, move_lines, MovesOn, Moves, MovesBy, lacks_none, may_answer, AnswersPeer, whole_length, SaidBy, StepsBy, ChunkSteps}
use Rattle.gq_chunks.specs.Lasting.{across, WentSome, WentAll, own_went, moves_by_all, step_went, many_go_on, many_site}
use Rattle.gq_chunks.specs.Alone.{Site, site_of, is_own, AnswersAlone, StaysAlone, FedAlone, UnfedAlone, WaitsAlone, move_with, own_moves, MovesAlone, AllMoveAlone, MayMove, OwnAlone, LineAlone, PeerAlone, may_answer_alone, SaidAlone, TicksAlone, StepsAlone, RunsAlone, TenantsApart}

-- ---- what is noted goes on, and the node stays

runs_go_on : (first last : Chunks) (dids : List Did) → Runs ChunkSteps first dids last → GoesOn first.noted last.noted
runs_go_on first last [] same = subst (λ (z : Chunks). GoesOn first.noted z.noted) same (λ written clean. clean)
runs_go_on first last (did ∷ dids) (next, step, more) =
    let all : WentAll first did.facts next = step_went first did.line did.facts did.told next step in
    λ written clean. many_go_on first all.parts next all.went written (runs_go_on next last dids more written clean)

site_stays : (a b : Chunks) → IsSite a b → site_of b ≡ site_of a
site_stays a b same =
    ap (λ (p : CheckedPlan). record { plan = p; node = b.node; lost = b.lost; tenants = length b.depots; losses = b.losses }) same.plan
    ∙ (ap (λ (n : ℕ). record { plan = a.plan; node = n; lost = b.lost; tenants = length b.depots; losses = b.losses }) same.node
    ∙ (ap (λ (l : List ℕ). record { plan = a.plan; node = a.node; lost = l; tenants = length b.depots; losses = b.losses }) same.lost
    ∙ (ap (λ (n : ℕ). record { plan = a.plan; node = a.node; lost = a.lost; tenants = n; losses = b.losses }) same.tenants
    ∙ ap (λ (n : ℕ). record { plan = a.plan; node = a.node; lost = a.lost; tenants = length a.depots; losses = n }) same.losses)))

-- ---- one step

-- the step is the tenant's own, or leaves its depot
step_alone : (last : Noted) (old : Chunks) (its : Coming) (facts : List Line) (told : List ℕ) (new : Chunks) (t : ℕ) (was is : Depot) → StepsBy its old facts told new → GoesOn new.noted last → slice_get old.depots t ≡ Some was → slice_get new.depots t ≡ Some is →
    (X : Bool → Type 0) → (StepsAlone last (site_of old) t its was facts told is → X true) → (is ≡ was → X false) → X (is_own t its)
step_alone last old its facts told new t was is step on at_was at_is X own other = by its step own
  where
    stayed : new ≡ old → is ≡ was
    stayed e = same_Some is was (sym at_is ∙ (ap (λ (z : Chunks). slice_get z.depots t) e ∙ at_was))

    -- those of another tenant stay
    left : (k : ℕ) → (k == t) ≡ false → ApartFrom k old.depots new.depots → is ≡ was
    left k e apart =
        let differs : t ≢ k = λ same. true≢false (sym (eq-eqb k t (sym same)) ∙ e) in
        same_Some is was (sym at_is ∙ (apart t differs ∙ at_was))

    was_there : (k : ℕ) → k ≡ t → slice_get old.depots k ≡ Some was
    was_there k same = subst (λ (z : ℕ). slice_get old.depots z ≡ Some was) (sym same) at_was

    is_there : (k : ℕ) → k ≡ t → slice_get new.depots k ≡ Some is
    is_there k same = subst (λ (z : ℕ). slice_get new.depots z ≡ Some is) (sym same) at_is

    of_took : (text : ℕ → ChunkAnswer → List ℕ) (k : ℕ) (request : ChunkRequest) → k ≡ t → Took (text k) old k request facts told new → AnswersAlone (text t) last (site_of old) t request was facts told is
    of_took text k request same took = record {
      answered = took.answered;
      before = old.noted;
      noted = new.noted;
      goes_on = on;
      step = took.answers.own was is (was_there k same) (is_there k same);
      damaged = took.answers.damaged was (was_there k same);
      facts_are = took.facts_are ∙ ap (λ (z : ℕ). fact_lines old.plan z took.answered.fact) same;
      told_is = took.told_is ∙ ap (λ (z : ℕ). text z took.answered.answer) same;
    }

    of_stays : (text : ℕ → List ℕ) (k : ℕ) → k ≡ t → Stays old facts told (text k) new → StaysAlone was facts told (text t) is
    of_stays text k same stays = record { same = stayed stays.same; facts_are = stays.facts_are; told_is = stays.told_is ∙ ap text same }

    of_fed : (k : ℕ) (filling : Filling) → k ≡ t → Fed old k filling facts told new → FedAlone last (site_of old) t filling was facts told is
    of_fed k filling same fed = record {
      fact = fed.fills.fact;
      noted = new.noted;
      goes_on = on;
      step = fed.fills.done.own was is (was_there k same) (is_there k same);
      facts_are = fed.fills.facts_are ∙ ap (λ (z : ℕ). fact_lines old.plan z fed.fills.fact) same;
      asks = subst (λ (z : ℕ). MayAsk old.plan old.node old.lost old.losses z told) same fed.asks;
    }

    of_waits : (k : ℕ) → k ≡ t → Waits old k facts told new → WaitsAlone (site_of old) t was facts told is
    of_waits k same waits = record { same = stayed waits.same; facts_are = waits.facts_are; asks = subst (λ (z : ℕ). MayAsk old.plan old.node old.lost old.losses z told) same waits.asks }

    -- whether a peer is answered hangs on this tenant's depot
    may_be : (k p : ℕ) → k ≡ t → may_answer old k p ≡ may_answer_alone (site_of old) was p
    may_be k p same = ap (λ (o : Option Depot). lacks_none o && nat_le p old.losses) (was_there k same)

    of_peer : (k from : ℕ) (request : ChunkRequest) (a b : Bool) → a ≡ b → k ≡ t → AnswersPeer a old k from request facts told new → PeerAlone b last (site_of old) t from request was facts told is
    of_peer k from request true b e same took = subst (λ (z : Bool). PeerAlone z last (site_of old) t from request was facts told is) e (of_took (λ z. peer_answer_text old.plan old.node from z) k request same took)
    of_peer k from request false b e same stays = subst (λ (z : Bool). PeerAlone z last (site_of old) t from request was facts told is) e (of_stays (λ z. []) k same stays)

    of_said : (k from : ℕ) (saying : Saying) → k ≡ t → SaidBy saying old k from facts told new → SaidAlone saying last (site_of old) t from was facts told is
    of_said k from (Seeks p s after) same its = of_peer k from (ListChunks s after) (may_answer old k p) (may_answer_alone (site_of old) was p) (may_be k p same) same its
    of_said k from (Wants s n) same its = of_peer k from (Get s n 0 whole_length) (may_answer old k 0) (may_answer_alone (site_of old) was 0) (may_be k 0 same) same its
    of_said k from (Found s after floor is_all chunks) same fed = of_fed k (Raise s floor) same fed
    of_said k from (Gives s n bytes) same (inl fed) = inl (of_fed k (Give s n bytes) same fed)
    of_said k from (Gives s n bytes) same (inr unfed) = inr (record {
      before = old.noted;
      noted = new.noted;
      space = unfed.left.space;
      goes_on = on;
      leads = unfed.left.leads was is (was_there k same) (is_there k same);
      facts_are = unfed.facts_are;
      told_is = unfed.told_is;
    })
    of_said k from (Misses s n) same waits = of_waits k same waits
    of_said k from (Spoilt s n) same waits = of_waits k same waits

    peer_left : (k from : ℕ) (request : ChunkRequest) (a : Bool) → (k == t) ≡ false → AnswersPeer a old k from request facts told new → is ≡ was
    peer_left k from request true e took = left k e took.answers.apart
    peer_left k from request false e stays = stayed stays.same

    said_left : (k from : ℕ) (saying : Saying) → (k == t) ≡ false → SaidBy saying old k from facts told new → is ≡ was
    said_left k from (Seeks p s after) e its = peer_left k from (ListChunks s after) (may_answer old k p) e its
    said_left k from (Wants s n) e its = peer_left k from (Get s n 0 whole_length) (may_answer old k 0) e its
    said_left k from (Found s after floor is_all chunks) e fed = left k e fed.fills.done.apart
    said_left k from (Gives s n bytes) e (inl fed) = left k e fed.fills.done.apart
    said_left k from (Gives s n bytes) e (inr unfed) = left k e unfed.left.apart
    said_left k from (Misses s n) e waits = stayed waits.same
    said_left k from (Spoilt s n) e waits = stayed waits.same

    ticked : (k : ℕ) (b : Bool) → (k == t) ≡ b → Waits old k facts told new ⊎ Fed old k End facts told new → TicksAlone last (site_of old) t was facts told is
    ticked k b e (inl waits) = record { asks = (k, waits.asks); did = inl (stayed waits.same) }
    ticked k true e (inr fed) = record { asks = (k, fed.asks); did = inr (of_fed k End (eqb-true k t e) fed) }
    ticked k false e (inr fed) = record { asks = (k, fed.asks); did = inl (left k e fed.fills.done.apart) }

    bad : (k : ℕ) (b : Bool) → (k == t) ≡ b → Stays old facts told (chunk_answer_text old.plan old.node k Bad) new → (StaysAlone was facts told (chunk_answer_text old.plan old.node t Bad) is → X true) → X b
    bad k true e stays mine = mine (of_stays (λ z. chunk_answer_text old.plan old.node z Bad) k (eqb-true k t e) stays)
    bad k false e stays mine = other (stayed stays.same)

    request : (k : ℕ) (b : Bool) (r : ChunkRequest) → (k == t) ≡ b → Took (chunk_answer_text old.plan old.node k) old k r facts told new → (AnswersAlone (chunk_answer_text old.plan old.node t) last (site_of old) t r was facts told is → X true) → X b
    request k true r e took mine = mine (of_took (λ z. chunk_answer_text old.plan old.node z) k r (eqb-true k t e) took)
    request k false r e took mine = other (left k e took.answers.apart)

    said : (k from : ℕ) (b : Bool) (saying : Saying) → (k == t) ≡ b → SaidBy saying old k from facts told new → (SaidAlone saying last (site_of old) t from was facts told is → X true) → X b
    said k from true saying e its mine = mine (of_said k from saying (eqb-true k t e) its)
    said k from false saying e its mine = other (said_left k from saying e its)

    by : (its : Coming) → StepsBy its old facts told new → (StepsAlone last (site_of old) t its was facts told is → X true) → X (is_own t its)
    by Nothing stays mine = other (stayed stays.same)
    by (Asked k None) stays mine = bad k (k == t) refl stays mine
    by (Asked k (Some r)) took mine = request k (k == t) r refl took mine
    by (Said k from saying) its mine = said k from (k == t) saying refl its mine
    by Ticked its mine = mine (ticked its.0 (its.0 == t) refl its.1)

-- ---- chunks that are moved

moves_go_on : (old : Chunks) (moves : List Move) (new : Chunks) → MovesOn old moves new → GoesOn old.noted new.noted
moves_go_on old [] new same = subst (λ (z : Chunks). GoesOn old.noted z.noted) (sym same) (λ written clean. clean)
moves_go_on old (move ∷ moves) new (mid, one, more) = λ written clean. one.done.goes_on written (moves_go_on mid moves new more written clean)

moves_alone : (last : Noted) (old new : Chunks) (moves : List Move) (t : ℕ) (was is : Depot) → MovesOn old moves new → GoesOn new.noted last → slice_get old.depots t ≡ Some was → slice_get new.depots t ≡ Some is → AllMoveAlone last was (own_moves t moves) is
moves_alone last old new [] t was is same on at_was at_is = same_Some was is (sym at_was ∙ (ap (λ (z : Chunks). slice_get z.depots t) (sym same) ∙ at_is))
moves_alone last old new (move ∷ moves) t was is (mid, one, more) on at_was at_is =
    let its : (x : Depot) × (slice_get mid.depots t ≡ Some x) = across mid.depots old.depots t was (sym one.done.site.tenants) at_was in
    by (move.0 == t) refl its.0 its.1 (moves_alone last mid new moves t its.0 is more on its.1 at_is)
  where
    by : (b : Bool) → (move.0 == t) ≡ b → (m : Depot) → slice_get mid.depots t ≡ Some m → AllMoveAlone last m (own_moves t moves) is → AllMoveAlone last was (move_with b move.1 (own_moves t moves)) is
    by true e m at rest =
        let same : move.0 ≡ t = eqb-true move.0 t e in (
          m,
          record {
            session = one.done.session;
            number = one.done.number;
            end = one.done.end;
            noted = mid.noted;
            goes_on = λ written clean. moves_go_on mid moves new more written (on written clean);
            step = one.done.own was m (subst (λ (z : ℕ). slice_get old.depots z ≡ Some was) (sym same) at_was) (subst (λ (z : ℕ). slice_get mid.depots z ≡ Some m) (sym same) at);
          },
          rest,
        )
    by false e m at rest =
        let differs : t ≢ move.0 = λ same. true≢false (sym (eq-eqb move.0 t (sym same)) ∙ e) in
        subst (λ (x : Depot). AllMoveAlone last x (own_moves t moves) is) (same_Some m was (sym at ∙ (one.done.apart t differs ∙ at_was))) rest

-- what was moved before a step, by what the line is
pub record MovedAlone (last : Noted) (old : Chunks) (t : ℕ) (its : Coming) (facts : List Line) (was is : Depot) : Type 0 where
  pub moves : List Move
  pub facts_are : facts ≡ move_lines old.plan moves
  pub may : MayMove its moves
  pub moved : AllMoveAlone last was (own_moves t moves) is

moved_alone : (last : Noted) (old : Chunks) (its : Coming) (facts : List Line) (new : Chunks) (t : ℕ) (was is : Depot) → MovesBy its old facts new → GoesOn new.noted last → slice_get old.depots t ≡ Some was → slice_get new.depots t ≡ Some is → MovedAlone last old t its facts was is
moved_alone last old its facts new t was is moves on at_was at_is = by (moves_at its) refl moves
  where
    by : (b : Bool) → moves_at its ≡ b → MatchBool b (Moves old facts new) ((new ≡ old) × (facts ≡ [])) → MovedAlone last old t its facts was is
    by true e some = record {
      moves = some.moves;
      facts_are = some.facts_are;
      may = subst (λ (may : Bool). MatchBool may (Unit {0}) (some.moves ≡ [])) (sym e) tt;
      moved = moves_alone last old some.last some.moves t was is some.moved (λ written clean. some.goes_on written (on written clean)) at_was (ap (λ (xs : List Depot). slice_get xs t) (sym some.depots) ∙ at_is);
    }
    by false e (same, are) = record {
      moves = [];
      facts_are = are;
      may = subst (λ (may : Bool). MatchBool may (Unit {0}) (none ≡ [])) (sym e) refl;
      moved = same_Some was is (sym at_was ∙ (ap (λ (z : Chunks). slice_get z.depots t) (sym same) ∙ at_is));
    }
      where
        none : List Move
        none = []

-- ---- all steps

one_line : (last : Noted) (first next : Chunks) (did : Did) (t : ℕ) (was is : Depot) → ChunkSteps first did.line did.facts did.told next → GoesOn next.noted last → slice_get first.depots t ≡ Some was → slice_get next.depots t ≡ Some is → LineAlone last (site_of first) t did was is
one_line last first next did t was is step on at_was at_is =
    let its : Coming = coming_in first did.line in
    let before : WentAll first step.moved step.mid = moves_by_all its first step.moved step.mid step.moves in
    let own : WentSome step.mid step.own next = own_went its step.mid step.own did.told next step.step in
    let site : IsSite first step.mid = many_site first before.parts step.mid before.went in
    let mid : (x : Depot) × (slice_get step.mid.depots t ≡ Some x) = across step.mid.depots first.depots t was (sym site.tenants) at_was in
    let moved : MovedAlone last first t its step.moved was mid.0 = moved_alone last first its step.moved step.mid t was mid.0 step.moves (λ written clean. own.goes_on written (on written clean)) at_was mid.1 in
    record {
      moves = moved.moves;
      own = step.own;
      mid = mid.0;
      facts_are = step.facts_are ∙ ap (λ (lines : List Line). lines ++ step.own) moved.facts_are;
      may = moved.may;
      moved = moved.moved;
      step = subst (λ (z : Site). OwnAlone (is_own t its) last z t its mid.0 step.own did.told is) (site_stays first step.mid site)
          (step_alone last step.mid its step.own did.told next t mid.0 is step.step on mid.1 at_is (λ (b : Bool). OwnAlone b last (site_of step.mid) t its mid.0 step.own did.told is) (λ one. one) (λ same. same));
    }

pub tenants_apart : TenantsApart
tenants_apart first last [] t was is same at_was at_is = same_Some was is (sym at_was ∙ (ap (λ (z : Chunks). slice_get z.depots t) same ∙ at_is))
tenants_apart first last (did ∷ dids) t was is (next, step, more) at_was at_is =
    let all : WentAll first did.facts next = step_went first did.line did.facts did.told next step in
    let site : IsSite first next = many_site first all.parts next all.went in
    let mid : (x : Depot) × (slice_get next.depots t ≡ Some x) = across next.depots first.depots t was (sym site.tenants) at_was in (
      mid.0,
      one_line last.noted first next did t was mid.0 step (runs_go_on next last dids more) at_was mid.1,
      subst (λ (z : Site). RunsAlone last.noted z t mid.0 dids is) (site_stays first next site) (tenants_apart next last dids t mid.0 is more mid.1 at_is),
    )
