-- Registers and chunks that were never there.
use Rattle.std.proofs.Common.{◌≡◌, ◌∙◌, ℕ, List, length, Bool, true, false, refl, sym, ap, subst, Option, Some, None}
use Rattle.std.specs.Prelude.{Ok, Err, ◌&&◌, nat_lt, slice_get}
use Rattle.std.proofs.lemmas.Bool.{and_parts, and_from}
use Rattle.gq_desk.specs.CheckedPlan.{CheckedPlan, row_at}
use Rattle.gq_journal.specs.Batches.{Line, whole_lines, lines_text}
use Rattle.gq_chunks.specs.Machines.{Chunks, ChunksAreBlank, ChunksAreOf, room_read, room_of_lines, room_before, lacks_at_first, is_new as is_new_node, AllFit, IsNewFor as ChunksAreNewFor}
use Rattle.gq_depot.specs.Depots.{Standing, standing_of, bare, IsSame}
use Rattle.gq_depot.specs.declared.depot.Depot.{Depot}
use Rattle.gq_setup.specs.Setups.{Setup, SetupReading}
use Rattle.gq_setup.specs.Texts.{node_text, setup_of_node_text}
use Rattle.gq_service.specs.Both.{setup_read}
use Rattle.gq_service.specs.Gone.{IsRead}
use Rattle.gq_service.specs.Serving.{IsOwnText}
use Rattle.gq_service.proofs.WhoWent.{as_read}

some_same : {A : Type 0} (o : Option A) (x y : A) → o ≡ Some x → o ≡ Some y → x ≡ y
some_same o x y is was = (let both : Some x ≡ Some y = sym is ∙ was in cc)

same_room : (read : SetupReading Setup) (t : ℕ) → room_before (setup_read read) t ≡ room_read read t
same_room (Ok setup) t = refl
same_room (Err fault) t = refl

chunks_are_blank : (setup : Setup) (number : ℕ) (lines : List Line) (m : Chunks) → ChunksAreNewFor setup (setup_read (setup_of_node_text (lines_text lines))) number m → ChunksAreBlank lines m m
chunks_are_blank setup number lines m new = record {
  site = record { plan = refl; node = refl; lost = refl; losses = refl; tenants = refl };
  depots = λ t was is was_there is_there.
      let same : was ≡ is = some_same (slice_get m.depots t) was is was_there is_there in
      let b = new.depots t is is_there in
      let had : room_before (setup_read (setup_of_node_text (lines_text lines))) t ≡ room_of_lines lines t = same_room (setup_of_node_text (lines_text lines)) t in
      let lack : lacks_at_first number (room_before (setup_read (setup_of_node_text (lines_text lines))) t) (room_read (Ok setup) t) ≡ lacks_at_first m.node (room_of_lines lines t) was.stock.allowed =
      ap (λ r. lacks_at_first number r (room_read (Ok setup) t)) had ∙ ap (λ n. lacks_at_first n (room_of_lines lines t) (room_read (Ok setup) t)) (sym new.node_is)
      ∙ ap (λ r. lacks_at_first m.node (room_of_lines lines t) r) (sym (ap (λ (d : Depot). d.stock.allowed) same ∙ b.allowed_is)) in
      record {
        sessions_are = ap (λ (d : Depot). length d.stock.sessions.items) (sym same);
        allowed_is = ap (λ (d : Depot). d.stock.allowed) (sym same);
        nothing = subst (λ l. IsSame (standing_of is) (bare l)) lack b.nothing;
      };
}

-- what a new node lacks it lacks by the room that it has
lacks_by_room : (node first room : ℕ) → lacks_at_first node first room ≡ true → lacks_at_first node room room ≡ true
lacks_by_room node first room lacks =
    let one = and_parts (is_new_node node && nat_lt 0 first) (nat_lt 0 room) lacks in
    let two = and_parts (is_new_node node) (nat_lt 0 first) one.0 in
    and_from (is_new_node node && nat_lt 0 room) (nat_lt 0 room) (and_from (is_new_node node) (nat_lt 0 room) two.0 one.1) one.1

-- none is there that is too long
none_too_long : (lacks : Bool) (it : Standing) → IsSame it (bare lacks) → AllFit it
none_too_long lacks it same k n placed there = absurd (let never : None ≡ Some placed = sym (same.at k n) ∙ there in cc)

chunks_are_of : (setup : Setup) (number : ℕ) (before : Option Setup) (m : Chunks) → IsOwnText setup number → ChunksAreNewFor setup before number m → ChunksAreOf (whole_lines (node_text number setup)) m
chunks_are_of setup number before m own new = record {
  tenants = new.tenants ∙ ap (λ (p : CheckedPlan). length p.rows) (sym new.plan_is);
  rooms = λ t depot there.
      let b = new.depots t depot there in
      let reads : setup_of_node_text (lines_text (whole_lines (node_text number setup))) ≡ Ok setup = ap setup_of_node_text own.is_plan.batch.is ∙ own.back in
      let room : room_of_lines (whole_lines (node_text number setup)) t ≡ room_read (Ok setup) t = ap (λ (r : SetupReading Setup). room_read r t) reads in
      record {
        allowed = b.allowed_is ∙ sym room;
        lacking = λ lacks.
            let first : lacks_at_first number (room_before before t) (room_read (Ok setup) t) ≡ true = sym b.nothing.lacks ∙ lacks in
            let now : lacks_at_first number (room_read (Ok setup) t) (room_read (Ok setup) t) ≡ true = lacks_by_room number (room_before before t) (room_read (Ok setup) t) first in
            ap (λ n. lacks_at_first n (room_of_lines (whole_lines (node_text number setup)) t) depot.stock.allowed) new.node_is
            ∙ ap (λ r. lacks_at_first number r depot.stock.allowed) room
            ∙ ap (λ r. lacks_at_first number (room_read (Ok setup) t) r) b.allowed_is
            ∙ now;
      };
  sound = λ t depot there.
      let b = new.depots t depot there in
      record {
        sessions_are = b.sessions_are ∙ ap (λ (p : CheckedPlan). (row_at p t).sessions) (sym new.plan_is);
        fit = none_too_long (lacks_at_first number (room_before before t) (room_read (Ok setup) t)) (standing_of depot) b.nothing;
        gone = λ k n is. absurd (let e : true ≡ false = sym is ∙ b.nothing.gone k n in cc);
      };
}

-- those of a node by what was read of the plan with which its journal begins
pub new_as_read : (setup : Setup) (number : ℕ) (before : Option Setup) (reading : SetupReading Setup) (m : Chunks) → IsRead reading before → ChunksAreNewFor setup before number m → ChunksAreNewFor setup (setup_read reading) number m
new_as_read setup number before reading m is new = subst (λ (b : Option Setup). ChunksAreNewFor setup b number m) (sym (as_read reading before is)) new

-- they are blank
pub blank_as_read : (setup : Setup) (number : ℕ) (before : Option Setup) (lines : List Line) (m : Chunks) → IsRead (setup_of_node_text (lines_text lines)) before → ChunksAreNewFor setup before number m → ChunksAreBlank lines m m
blank_as_read setup number before lines m is new = chunks_are_blank setup number lines m (new_as_read setup number before (setup_of_node_text (lines_text lines)) m is new)

-- and of the node's own plan
pub of_by_text : (setup : Setup) (number : ℕ) (text : List ℕ) (before : Option Setup) (m : Chunks) → text ≡ node_text number setup → IsOwnText setup number → ChunksAreNewFor setup before number m → ChunksAreOf (whole_lines text) m
of_by_text setup number text before m is own new = subst (λ (t : List ℕ). ChunksAreOf (whole_lines t) m) (sym is) (chunks_are_of setup number before m own new)
