-- What is told of a request that comes again.
use Rattle.std.specs.Prelude.{◌≡◌, ℕ, ◌<◌, List, [], ◌∷◌, Bool, true, false, ◌==◌, ◌||◌, not, nat_lt, Option, Some, None, is_some, ⊤, if◌then◌else◌}
use Rattle.std.specs.List.{list_any}
use Rattle.gq_phase.specs.declared.Outcome.{Outcome}
use Rattle.gq_phase.specs.declared.Outcome.TheVariants.{Wrote, Gave, Listed}
use Rattle.gq_model.specs.declared.events.Line.{Line}
use Rattle.gq_model.specs.declared.events.Refusal.TheVariants.{NoSession}
use Rattle.gq_node.specs.declared.output.Answer.{Answer}
use Rattle.gq_node.specs.declared.output.Answer.TheVariants.{Done, Gone, Refused, Old, Away}
use Rattle.gq_node.specs.Inputs.{Asked, does}
use Rattle.gq_node.specs.Local.{Local, asker, ended}
use Rattle.gq_node.specs.Nodes.{NodeWorld, site_at, Nodes, Event, Started, Came, new_nodes, node_in, doing_of, after_event, nodes_after}
use Rattle.gq_node.specs.Once.{comes_again, begun_by}
use Rattle.gq_node.specs.Sites.{Site, has_session}

-- ---- by what the node has of the session

-- of a request with the number op, at the home of session k, whose last operation has that number, and goes on or has this outcome, if
-- one is known: nothing while it goes on, and then how it ended; of an earlier one that its number is old
abbrev pub told_at_home : (k op last : ℕ) → (going : Bool) → Option Outcome → Option Answer
told_at_home k op last going outcome =
    if nat_lt op last || op == 0 then Some (Old k op last)
    else if going then None
    else Some (ended k op outcome)

-- and at any node
abbrev pub told_again : Site → (k op last : ℕ) → (going : Bool) → Option Outcome → Option Answer
told_again site k op last going outcome =
    if not (has_session site k) then Some (Refused k op NoSession)
    else if not (site.home k == site.here) then Some (Away k op (site.home k))
    else told_at_home k op last going outcome

-- so it is at each request that comes again
abbrev pub AllToldAgain : Type 0
AllToldAgain = (site : Site) (local : Local) (op : ℕ) (line : Line) (k : ℕ) → asker line ≡ Some k → comes_again local (Asked op line) ≡ true →
    (does (Asked op line) site local).answer ≡ told_again site k op (local.residents k).session.op (is_some (local.residents k).session.current) (local.residents k).outcome

-- ---- by what was told before

-- the session and the number of the operation that the outcome is of
abbrev pub session_in : Outcome → ℕ
session_in (Wrote session op tag) = session
session_in (Gave session op copy) = session
session_in (Listed session op rows) = session

abbrev pub number_in : Outcome → ℕ
number_in (Wrote session op tag) = op
number_in (Gave session op copy) = op
number_in (Listed session op rows) = op

-- the answer tells how operation op of session k ended: its outcome, or that it is gone
abbrev pub TellsEnd : (k op : ℕ) → Answer → Type 0
TellsEnd k op (Done outcome) = (session_in outcome ≡ k) × (number_in outcome ≡ op)
TellsEnd k op (Gone j number) = (j ≡ k) × (number ≡ op)
TellsEnd k op _ = ⊥

-- whether node n starts again by the event
abbrev pub is_start : ℕ → Event → Bool
is_start n (Started m plan) = m == n
is_start n _ = false

-- the operation of session k that began at node n by the event, if one did; none does by a start
abbrev pub begun_at : NodeWorld → Nodes → (n k : ℕ) → Event → Option ℕ
begun_at w nodes n k event = if is_start n event then None else begun_by k (nodes.local n) ((after_event w nodes event).local n)

-- none begins by these
abbrev pub NoneBegins : NodeWorld → Nodes → (n k : ℕ) → List Event → Type 0
NoneBegins w nodes n k [] = ⊤
NoneBegins w nodes n k (event ∷ events) = (begun_at w nodes n k event ≡ None) × NoneBegins w (after_event w nodes event) n k events

-- what a node that started again tells of operation op of session k, where it goes on behind that number: that it is gone; or that its
-- number is old, as it goes on behind a greater one
abbrev pub forgotten : (k op last : ℕ) → Answer
forgotten k op last = if op == last then Gone k op else Old k op last

-- what is told of the operation's end after these events: the same as before; or, where the node was started again since, what is told
-- of one that is forgotten, this number being the last that was reserved for the session
abbrev pub end_after : (n k op last : ℕ) → List Event → Answer → Answer
end_after n k op last events answer = if list_any (is_start n) events then forgotten k op last else answer

-- Of any nodes, with any plans, whatever comes to them: once a node told how operation op of session k ended, each line that comes to it for
-- this session with this number is told the same again, whatever came to all nodes between, until the session begins its next operation. Where
-- the node was started again since, its plan has the session still.
abbrev pub AllEndsToldAgain : Type 0
AllEndsToldAgain = (w : NodeWorld) (before : List Event) (event : Event) (between : List Event) (k op : ℕ) (answer : Answer) (line : Line) →
    let nodes : Nodes = nodes_after w (new_nodes w) before in
    let told : Nodes = after_event w nodes event in
    let later : Nodes = nodes_after w told between in
    let n : ℕ = node_in event in
    (doing_of w nodes event).answer ≡ Some answer → TellsEnd k op answer →
    NoneBegins w told n k between → has_session (site_at w later n) k ≡ true → asker line ≡ Some k →
    (doing_of w later (Came n (Asked op line))).answer ≡ Some (end_after n k op ((told.local n).residents k).reserved.op between answer)

-- ---- what begins later

-- Of any nodes, with any plans, whatever comes to them: an operation that begins in a session at a node has a greater number than each that began in
-- it there before, whether or not the node was started again between.
abbrev pub AllBeginLater : Type 0
AllBeginLater = (w : NodeWorld) (before : List Event) (event : Event) (between : List Event) (again : Event) (n k op next : ℕ) →
    let nodes : Nodes = nodes_after w (new_nodes w) before in
    let later : Nodes = nodes_after w (after_event w nodes event) between in
    begun_at w nodes n k event ≡ Some op → begun_at w later n k again ≡ Some next → op < next
