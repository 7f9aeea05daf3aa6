-- Chunks that are moved, one after another.
use Rattle.std.proofs.Common.{◌≡◌, ◌≤◌, ◌<◌, ℕ, List, [], ◌∷◌, ◌++◌, length, Bool, true, false, Option, Some, None, refl, sym, ap, subst, ◌∙◌, append-nil, append_assoc, arith}
use Rattle.std.specs.Prelude.{MatchBool, slice_get}
use Rattle.std.proofs.lemmas.Option.{same_Some}
use Rattle.gq_shelf.specs.Notes.{Noted, after_sync, GoesOn}
use Rattle.gq_shelf.proofs.Clean.{sync_goes_on}
use Rattle.gq_desk.specs.CheckedPlan.{CheckedPlan}
use Rattle.gq_journal.specs.Batches.{Line, lines_text, are_batch_lines}
use Rattle.gq_stock.specs.Sure.{PutsStay}
use Rattle.gq_stock.proofs.Syncing.{puts_on, puts_itself, sync_sure}
use Rattle.gq_stock.specs.Stocks.{used_in}
use Rattle.gq_depot.specs.Depots.{FactIsSure, LeadsTo, in_memory}
use Rattle.gq_depot.proofs.Moved.{none_moved}
use Rattle.gq_depot.specs.Moving.{FactIsPut}
use Rattle.gq_depot.specs.declared.depot.Depot.{Depot}
use Rattle.gq_depot.specs.declared.fact.ChunkFact.{ChunkFact}
use Rattle.gq_depot.specs.declared.fact.ChunkFact.TheVariants.{Put, Forgot, Filled}
use Rattle.gq_chunks.specs.Coming.{Coming, moves_at}
use Rattle.gq_chunks.specs.Lasting.{site_on, site_itself}
use Rattle.gq_chunks.specs.Machines.{Chunks, IsSite, fact_lines, FactStands, Move, move_lines, EachMove, MoveDone, MovesOne, MovesOn, Moves, MovesBy, MovedSoFar, AddsMoves, AddsMovesBy}
use Rattle.gq_chunks.proofs.Taken.{text_on, lines_on, fact_opened}

-- ---- none, one, and more

pub moved_none : (m : Chunks) (before : List ℕ) → MovedSoFar m before before m
moved_none m before = record { moves = []; moved = refl; text = sym (append-nil before); opened = refl; put = tt; puts_stay = puts_itself m.noted }

pub moved_one : (old new : Chunks) (t : ℕ) (fact : Option ChunkFact) (before after : List ℕ) → MoveDone old t fact new → t < length old.depots → FactStands new.plan t fact → after ≡ before ++ lines_text (fact_lines new.plan t fact) → MovedSoFar old before after new
moved_one old new t fact before after done within stands text =
    let its : FactStands old.plan t fact = subst (λ (p : CheckedPlan). FactStands p t fact) done.site.plan stands in
    let same : fact_lines new.plan t fact ≡ move_lines old.plan ((t, fact) ∷ []) = ap (λ (p : CheckedPlan). fact_lines p t fact) done.site.plan ∙ sym (append-nil (fact_lines old.plan t fact)) in
    record {
      moves = (t, fact) ∷ [];
      moved = (new, record { done = done; within = within; stands = its }, refl);
      text = text ∙ ap (λ (lines : List Line). before ++ lines_text lines) same;
      opened = ap are_batch_lines (append-nil (fact_lines old.plan t fact)) ∙ fact_opened old.plan t fact its;
      put = (done.put, tt);
      puts_stay = done.puts_stay;
    }

-- a content was read, and nothing else was done
nothing_done : (old new : Chunks) (t : ℕ) → new.depots ≡ old.depots → IsSite old new → GoesOn old.noted new.noted → PutsStay old.noted new.noted → MoveDone old t None new
nothing_done old new t same site goes puts = record {
  session = 0;
  number = 0;
  end = 0;
  own = λ was is at_was at_is. none_moved new.noted 0 was is 0 0 (still was is (one at_was at_is)) (no_more was is (one at_was at_is)) (as_much was is (one at_was at_is));
  apart = λ other differs. ap (λ (depots : List Depot). slice_get depots other) same;
  goes_on = goes;
  site = site;
  put = tt;
  puts_stay = puts;
}
  where
    one : {was is : Depot} → slice_get old.depots t ≡ Some was → slice_get new.depots t ≡ Some is → is ≡ was
    one {was} {is} at_was at_is = same_Some is was (sym at_is ∙ ap (λ (depots : List Depot). slice_get depots t) same ∙ at_was)

    itself : (depot : Depot) → LeadsTo depot None depot
    itself depot = record { standing = record { at = λ k n. refl; floor = λ k. refl; gone = λ k n. refl; lacks = refl }; sessions = refl; allowed = refl }

    still : (was is : Depot) → is ≡ was → LeadsTo was None is
    still was is e = subst (λ (d : Depot). LeadsTo was None d) (sym e) (itself was)

    no_more : (was is : Depot) → is ≡ was → in_memory is ≤ in_memory was
    no_more was is e = subst (λ (d : Depot). in_memory d ≤ in_memory was) (sym e) (omega arith)

    as_much : (was is : Depot) → is ≡ was → used_in is.stock.sessions.items ≡ used_in was.stock.sessions.items
    as_much was is e = ap (λ (d : Depot). used_in d.stock.sessions.items) e

pub read_one : (old new : Chunks) (t : ℕ) (text : List ℕ) → t < length old.depots → new.depots ≡ old.depots → IsSite old new → GoesOn old.noted new.noted → PutsStay old.noted new.noted → MovedSoFar old text text new
read_one old new t text within same site goes puts = moved_one old new t None text text (nothing_done old new t same site goes puts) within tt (sym (append-nil text))

moves_on : (a b c : Chunks) (one two : List Move) → MovesOn a one b → MovesOn b two c → MovesOn a (one ++ two) c
moves_on a b c [] two same moved = subst (λ (z : Chunks). MovesOn z two c) same moved
moves_on a b c (move ∷ one) two (mid, first, more) moved = (mid, first, moves_on mid b c one two more moved)

lines_of : (plan : CheckedPlan) (one two : List Move) → move_lines plan (one ++ two) ≡ move_lines plan one ++ move_lines plan two
lines_of plan [] two = refl
lines_of plan (move ∷ one) two = ap (λ (lines : List Line). fact_lines plan move.0 move.1 ++ lines) (lines_of plan one two) ∙ sym (append_assoc (fact_lines plan move.0 move.1) (move_lines plan one) (move_lines plan two))

pub moves_site : (old new : Chunks) (moves : List Move) → MovesOn old moves new → IsSite old new
moves_site old new [] same = subst (λ (z : Chunks). IsSite old z) (sym same) (site_itself old)
moves_site old new (move ∷ moves) (mid, one, more) = site_on old mid new one.done.site (moves_site mid new moves more)

put_stays : (fact : Option ChunkFact) (old new : Noted) → PutsStay old new → FactIsPut fact old → FactIsPut fact new
put_stays None old new stay put = tt
put_stays (Some (Put s n sure place)) old new stay put = stay.put place put
put_stays (Some (Forgot s floor run)) old new stay put = tt
put_stays (Some Filled) old new stay put = tt

all_put : (one two : List Move) (old new : Noted) → PutsStay old new → EachMove (λ (fact : Option ChunkFact). FactIsPut fact old) one → EachMove (λ (fact : Option ChunkFact). FactIsPut fact new) two → EachMove (λ (fact : Option ChunkFact). FactIsPut fact new) (one ++ two)
all_put [] two old new stay first second = second
all_put (move ∷ one) two old new stay first second = (put_stays move.1 old new stay first.0, all_put one two old new stay first.1 second)

pub moved_more : (a b c : Chunks) (x y z : List ℕ) → MovedSoFar a x y b → MovedSoFar b y z c → MovedSoFar a x z c
moved_more a b c x y z one two =
    let plan : b.plan ≡ a.plan = (moves_site a b one.moves one.moved).plan in
    let second : move_lines b.plan two.moves ≡ move_lines a.plan two.moves = ap (λ (p : CheckedPlan). move_lines p two.moves) plan in
    let joined : move_lines a.plan one.moves ++ move_lines b.plan two.moves ≡ move_lines a.plan (one.moves ++ two.moves) = ap (λ (lines : List Line). move_lines a.plan one.moves ++ lines) second ∙ sym (lines_of a.plan one.moves two.moves) in
    record {
      moves = one.moves ++ two.moves;
      moved = moves_on a b c one.moves two.moves one.moved two.moved;
      text = text_on x y z (move_lines a.plan one.moves) (move_lines b.plan two.moves) one.text two.text ∙ ap (λ (lines : List Line). x ++ lines_text lines) joined;
      opened = ap are_batch_lines (sym joined) ∙ lines_on (move_lines a.plan one.moves) (move_lines b.plan two.moves) one.opened two.opened;
      put = all_put one.moves two.moves b.noted c.noted two.puts_stay one.put two.put;
      puts_stay = puts_on a.noted b.noted c.noted one.puts_stay two.puts_stay;
    }

-- ---- the shelf made sure of them

fact_sure : (fact : Option ChunkFact) (old new : Noted) → new ≡ after_sync old → FactIsPut fact old → FactIsSure fact new
fact_sure None old new e put = tt
fact_sure (Some (Put s n sure place)) old new e put = sync_sure place old new e put
fact_sure (Some (Forgot s floor run)) old new e put = tt
fact_sure (Some Filled) old new e put = tt

all_sure : (moves : List Move) (old new : Noted) → new ≡ after_sync old → EachMove (λ (fact : Option ChunkFact). FactIsPut fact old) moves → EachMove (λ (fact : Option ChunkFact). FactIsSure fact new) moves
all_sure [] old new e put = tt
all_sure (move ∷ moves) old new e put = (fact_sure move.1 old new e put.0, all_sure moves old new e put.1)

pub moves_sure : (old mid new : Chunks) (before after : List ℕ) → MovedSoFar old before after mid → IsSite mid new → new.depots ≡ mid.depots → new.noted ≡ after_sync mid.noted → AddsMoves old before after new
moves_sure old mid new before after moved site depots sure = record {
  lines = move_lines old.plan moved.moves;
  is = moved.text;
  opened = moved.opened;
  moves = record {
    moves = moved.moves;
    last = mid;
    moved = moved.moved;
    depots = depots;
    site = site;
    goes_on = sync_goes_on mid.noted new.noted sure;
    sure = all_sure moved.moves mid.noted new.noted sure moved.put;
    facts_are = refl;
  };
  site = site_on old mid new (moves_site old mid moved.moves moved.moved) site;
  refused =
      let le : old.noted.refused ≤ mid.noted.refused = moved.puts_stay.refused in
      let same : new.noted.refused ≡ mid.noted.refused = ap (λ (n : Noted). n.refused) sure in
      omega (arith, le, same);
}

pub same_site : (old new : Chunks) → new.plan ≡ old.plan → new.node ≡ old.node → new.lost ≡ old.lost → new.losses ≡ old.losses → new.depots ≡ old.depots → IsSite old new
same_site old new plan node lost losses depots = record { plan = plan; node = node; lost = lost; losses = losses; tenants = ap (λ (xs : List Depot). length xs) depots }

-- ---- by what the line is

pub moves_by : (its : Coming) (old new : Chunks) (before after : List ℕ) → moves_at its ≡ true → AddsMoves old before after new → AddsMovesBy its old before after new
moves_by its old new before after may moves = record { lines = moves.lines; is = moves.is; opened = moves.opened; moves = subst (λ (b : Bool). MatchBool b (Moves old moves.lines new) ((new ≡ old) × (moves.lines ≡ []))) (sym may) moves.moves }

nothing_moved : (old : Chunks) → Moves old [] old
nothing_moved old = record { moves = []; last = old; moved = refl; depots = refl; site = site_itself old; goes_on = λ written clean. clean; sure = tt; facts_are = refl }

pub moves_none : (its : Coming) (old new : Chunks) (before : List ℕ) → new ≡ old → AddsMovesBy its old before before new
moves_none its old new before same = subst (λ (z : Chunks). AddsMovesBy its old before before z) (sym same) (record { lines = []; is = sym (append-nil before); opened = refl; moves = by (moves_at its) })
  where
    nil : List Line
    nil = []

    by : (may : Bool) → MatchBool may (Moves old nil old) ((old ≡ old) × (nil ≡ []))
    by true = nothing_moved old
    by false = (refl, refl)

pub moves_from : (its : Coming) (old mid new : Chunks) (before after : List ℕ) → mid ≡ old → moves_at its ≡ true → AddsMoves mid before after new → AddsMovesBy its old before after new
moves_from its old mid new before after same may moves = subst (λ (z : Chunks). AddsMovesBy its z before after new) same (moves_by its mid new before after may moves)
