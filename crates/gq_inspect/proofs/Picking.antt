-- What a run's events open, what each session asks in them and which changes they have, in order: just what the records have.
use Rattle.std.proofs.Common.{◌≡◌, ◌⊎◌, ℕ, ◌+◌, Bool, true, false, List, [], ◌∷◌, ◌++◌, Option, Some, None, length, map, refl, sym, ap, ◌∙◌, subst, inl, inr, append_assoc}
use Rattle.std.specs.Prelude.{slice_get, if◌then◌else◌}
use Rattle.std.specs.List.{cons_option, filter, filter_map, flat_map, range_with_len}
use Rattle.std.specs.Option.{option_to_list}
use Rattle.std.proofs.lemmas.Bool.{cases_eq, eq-eqb, ne_eqb}
use Rattle.std.proofs.lemmas.List.{length_push}
use Rattle.std.proofs.lemmas.List.Concat.{flat_map_single}
use Rattle.std.proofs.lemmas.List.Elements.{filter_map-append}
use Rattle.std.proofs.lemmas.List.Folds.{flat_map-map}
use Rattle.gq_cell.specs.declared.board.BoardEntry.{BoardEntry}
use Rattle.gq_desk.specs.CheckedPlan.{CheckedPlan}
use Rattle.gq_model.specs.declared.events.Event.{Event}
use Rattle.gq_model.specs.declared.events.Event.TheVariants.{Tenant, Server}
use Rattle.gq_model.specs.declared.events.Line.{Line}
use Rattle.gq_model.specs.declared.events.Line.TheVariants.{NewVolume, Write, Read, List as ListFiles, Deliver, Retry, Abandon}
use Rattle.gq_model.specs.declared.events.ServerLine.{ServerLine}
use Rattle.gq_model.specs.Events.{IsRequestOf}
use Rattle.gq_session.specs.Asked.{asks, asked_of}
use Rattle.gq_session.specs.Changed.{changes_of, entry_line}
use Rattle.gq_session.specs.Fitting.{plan_sessions}
use Rattle.gq_session.specs.declared.fitting.SessionId.{SessionId}
use Rattle.gq_session.specs.declared.records.Did.{Did}
use Rattle.gq_session.specs.declared.records.Did.TheVariants.{Asked, Heard, Retried, GaveUp}
use Rattle.gq_session.specs.declared.records.Opening.{Opening}
use Rattle.gq_session.specs.declared.records.Records.{Records}
use Rattle.gq_session.specs.declared.records.SessionEntry.{SessionEntry}
use Rattle.gq_session.proofs.Asking.{append-none}
use Rattle.gq_inspect.specs.declared.steps.Step.{Step}
use Rattle.gq_inspect.specs.declared.steps.Origin.{Origin}
use Rattle.gq_inspect.specs.declared.steps.Origin.TheVariants.{Board as OfBoard, Session as OfSession, Server as OfServer}
use Rattle.gq_inspect.specs.Replay.{Before, IsDeed, StepFitsAs, OrderFits, opening_event, IsRunOf}
use Rattle.gq_inspect.specs.Steps.{board_steps, session_steps}
use Rattle.gq_inspect.proofs.InOrder.{is_of, same_list, board_in_order, session_in_order}
use Rattle.gq_inspect.proofs.Sessions.{session_once}

-- ---- step by step

-- the event that a step is
abbrev event_at : (plan : CheckedPlan) (r : Records) (step : Step) (b after : Before) (origin : Origin) → StepFitsAs origin plan r step b after → Event
event_at plan r step b after OfBoard plays = Server (entry_line plays.entry)
event_at plan r step b after (OfSession session) plays = Tenant plays.id.tenant plays.plays.line
event_at plan r step b after (OfServer server) plays = Tenant plays.letter.message.tenant (Deliver plays.plays.number)

-- what is picked of a step's event is what its list has at its place
abbrev Picks : {B : Type 0} → CheckedPlan → Records → (Event → Option B) → (Origin → ℕ → List B) → Type 0
Picks plan r pick has =
    (step : Step) (b after : Before) (origin : Origin) (plays : StepFitsAs origin plan r step b after) → cons_option (pick (event_at plan r step b after origin plays)) [] ≡ has origin step.at

-- a step adds its event
one_more : (plan : CheckedPlan) (r : Records) (step : Step) (b after : Before) (origin : Origin) (plays : StepFitsAs origin plan r step b after) → after.events ≡ b.events ++ event_at plan r step b after origin plays ∷ []
one_more plan r step b after OfBoard plays = ap (λ (x : Before). x.events) plays.plays.left
one_more plan r step b after (OfSession session) plays = ap (λ (x : Before). x.events) plays.plays.left
one_more plan r step b after (OfServer server) plays = ap (λ (x : Before). x.events) plays.plays.left

-- what the steps of an order have
abbrev has_all : {B : Type 0} → (Origin → ℕ → List B) → List Step → List B
has_all has order = flat_map (λ (s : Step). has s.origin s.at) order

picked_along : {B : Type 0} (plan : CheckedPlan) (r : Records) (pick : Event → Option B) (has : Origin → ℕ → List B) → Picks plan r pick has → (order : List Step) (b : Before) (events : List Event) → OrderFits plan r order b events → filter_map pick events ≡ filter_map pick b.events ++ has_all has order
picked_along plan r pick has picks [] b events goes = ap (filter_map pick) (sym goes) ∙ sym (append-none (filter_map pick b.events))
picked_along plan r pick has picks (step ∷ order) b events goes =
    let after = goes.0 in
    let event = event_at plan r step b after step.origin goes.1 in
    picked_along plan r pick has picks order after events goes.2
    ∙ ap (λ es. filter_map pick es ++ has_all has order) (one_more plan r step b after step.origin goes.1)
    ∙ ap (λ l. l ++ has_all has order) (filter_map-append pick b.events (event ∷ []) ∙ ap (λ l. filter_map pick b.events ++ l) (picks step b after step.origin goes.1))
    ∙ append_assoc (filter_map pick b.events) (has step.origin step.at) (has_all has order)

-- what is picked of the events of a run
picked_run : {B : Type 0} (plan : CheckedPlan) (r : Records) (events : List Event) (run : IsRunOf plan r events) (pick : Event → Option B) (has : Origin → ℕ → List B) → Picks plan r pick has → filter_map pick events ≡ filter_map pick (map opening_event r.volumes.items) ++ has_all has run.order
picked_run plan r events run pick has picks = picked_along plan r pick has picks run.order (record { events = map opening_event r.volumes.items; firsts = [] }) events run.goes

-- ---- the steps of one list

-- what the element at a place has
abbrev at_place : {E B : Type 0} → (E → List B) → List E → ℕ → List B
at_place has es place = flat_map has (option_to_list (slice_get es place))

stands_first : {E : Type 0} (before : List E) (e : E) (es : List E) → slice_get (before ++ e ∷ es) (length before) ≡ Some e
stands_first [] e es = refl
stands_first (x ∷ before) e es = stands_first before e es

all_places : {E B : Type 0} (has : E → List B) (before es : List E) → flat_map (at_place has (before ++ es)) (range_with_len (length before) (length es)) ≡ flat_map has es
all_places has before [] = refl
all_places {E} {B} has before (e ∷ es) =
    let here : at_place has (before ++ e ∷ es) (length before) ≡ has e ++ [] = ap (λ o. flat_map has (option_to_list o)) (stands_first before e es) in
    let same : before ++ e ∷ es ≡ (before ++ e ∷ []) ++ es = sym (append_assoc before (e ∷ []) es) in
    let rest : flat_map (at_place has (before ++ e ∷ es)) (range_with_len (length before + 1) (length es)) ≡ flat_map has es = ap (λ l. flat_map (at_place has l) (range_with_len (length before + 1) (length es))) same
    ∙ ap (λ n. flat_map (at_place has ((before ++ e ∷ []) ++ es)) (range_with_len n (length es))) (sym (length_push before e))
    ∙ all_places has (before ++ e ∷ []) es in
    ap (λ l. l ++ flat_map (at_place has (before ++ e ∷ es)) (range_with_len (length before + 1) (length es))) (here ∙ append-none (has e)) ∙ ap (λ l. has e ++ l) rest

board_places : (at : ℕ) (es : List BoardEntry) → map (λ (s : Step). s.at) (board_steps at es) ≡ range_with_len at (length es)
board_places at [] = refl
board_places at (e ∷ es) = ap (λ l. at ∷ l) (board_places (at + 1) es)

session_places : (k at : ℕ) (es : List SessionEntry) → map (λ (s : Step). s.at) (session_steps k at es) ≡ range_with_len at (length es)
session_places k at [] = refl
session_places k at (e ∷ es) = ap (λ l. at ∷ l) (session_places k (at + 1) es)

-- steps at all places of a list have what its elements have
steps_have : {E B : Type 0} (has : E → List B) (es : List E) (ss : List Step) → map (λ (s : Step). s.at) ss ≡ range_with_len 0 (length es) → flat_map (λ (s : Step). at_place has es s.at) ss ≡ flat_map has es
steps_have has es ss places = sym (flat_map-map (at_place has es) (λ (s : Step). s.at) ss) ∙ ap (flat_map (at_place has es)) places ∙ all_places has [] es

-- only the steps of one list have something
abbrev only : {B : Type 0} → Origin → (ℕ → List B) → Origin → ℕ → List B
only origin has o place = if same_list origin o then has place else []

only_those : {B : Type 0} (origin : Origin) (has : ℕ → List B) (order : List Step) → has_all (only origin has) order ≡ flat_map (λ (s : Step). has s.at) (filter (is_of origin) order)
only_those origin has [] = refl
only_those {B} origin has (s ∷ order) = go (is_of origin s) (only_those origin has order)
  where
    go : (b : Bool) → has_all (only origin has) order ≡ flat_map (λ (t : Step). has t.at) (filter (is_of origin) order) →
        (if b then has s.at else []) ++ has_all (only origin has) order ≡ flat_map (λ (t : Step). has t.at) (if b then s ∷ filter (is_of origin) order else filter (is_of origin) order)
    go true later = ap (λ l. has s.at ++ l) later
    go false later = later

-- ---- changes

-- each server line is picked, and no line of a tenant
pub record PicksChanges (pick : Event → Option ServerLine) : Type 0 where
  pub changes : (line : ServerLine) → pick (Server line) ≡ Some line
  pub lines : (tenant : ℕ) (line : Line) → pick (Tenant tenant line) ≡ None

none_picked : {B : Type 0} (pick : Event → Option B) (openings : List Opening) → ((o : Opening) → pick (opening_event o) ≡ None) → filter_map pick (map opening_event openings) ≡ []
none_picked pick [] none = refl
none_picked pick (o ∷ openings) none = ap (λ p. cons_option p (filter_map pick (map opening_event openings))) (none o) ∙ none_picked pick openings none

-- the server lines of the events are the changes of the board
pub changes_picked : (plan : CheckedPlan) (r : Records) (events : List Event) → IsRunOf plan r events → (pick : Event → Option ServerLine) → PicksChanges pick → filter_map pick events ≡ changes_of r.board.items
changes_picked plan r events run pick is =
    let board = r.board.items in
    picked_run plan r events run pick (only OfBoard (at_place has board)) picks
    ∙ ap (λ l. l ++ has_all (only OfBoard (at_place has board)) run.order) (none_picked pick r.volumes.items (λ o. is.lines o.tenant (NewVolume o.files o.blocks)))
    ∙ only_those OfBoard (at_place has board) run.order
    ∙ ap (flat_map (λ (s : Step). at_place has board s.at)) (board_in_order r run.order run.is_order run.climb)
    ∙ steps_have has board (board_steps 0 board) (board_places 0 board)
    ∙ flat_map_single entry_line board
  where
    has : BoardEntry → List ServerLine
    has e = entry_line e ∷ []

    picks : Picks plan r pick (only OfBoard (at_place has r.board.items))
    picks step b after OfBoard plays = ap (λ p. cons_option p []) (is.changes (entry_line plays.entry)) ∙ sym (ap (λ o. flat_map has (option_to_list o)) plays.stands)
    picks step b after (OfSession session) plays = ap (λ p. cons_option p []) (is.lines plays.id.tenant plays.plays.line)
    picks step b after (OfServer server) plays = ap (λ p. cons_option p []) (is.lines plays.letter.message.tenant (Deliver plays.plays.number))

-- ---- a session's lines

-- a delivery, a retry or an abandonment
abbrev pub IsOther : Line → Type 0
IsOther (Deliver number) = Unit {0}
IsOther (Retry session) = Unit {0}
IsOther (Abandon session) = Unit {0}
IsOther _ = ⊥

-- none of these is a request
not_both : (k : ℕ) (line : Line) → IsRequestOf k line → IsOther line → ⊥
not_both k (Write session volume file bytes) is other = other
not_both k (Read session volume file) is other = other
not_both k (ListFiles session volume) is other = other
not_both k _ is other = is

-- a request is of one session
one_number : (j k : ℕ) (line : Line) → IsRequestOf j line → IsRequestOf k line → j ≡ k
one_number j k (Write session volume file bytes) is is' = sym is ∙ is'
one_number j k (Read session volume file) is is' = sym is ∙ is'
one_number j k (ListFiles session volume) is is' = sym is ∙ is'
one_number j k _ is is' = absurd is

-- a session's line is the request that it asked, or it asked none
abbrev IsSessionLine : ℕ → Did → Line → Type 0
IsSessionLine number did line = ((asks did ≡ line ∷ []) × IsRequestOf number line) ⊎ ((asks did ≡ []) × IsOther line)

session_line : (plan : CheckedPlan) (b : Before) (id : SessionId) (did : Did) (line : Line) → IsDeed plan b id did line → IsSessionLine id.number did line
session_line plan b id (Asked asked) line deed = inl (ap (λ l. l ∷ []) (sym deed.0), subst (IsRequestOf id.number) (sym deed.0) deed.1)
session_line plan b id (Heard letter) line deed = inr (refl, subst IsOther (sym deed.delivery) tt)
session_line plan b id Retried line deed = inr (refl, subst IsOther (sym deed) tt)
session_line plan b id GaveUp line deed = inr (refl, subst IsOther (sym deed) tt)

-- ---- openings

-- each opening is picked, and no other line of a live run
pub record PicksOpenings (pick : Event → Option Opening) : Type 0 where
  pub openings : (o : Opening) → pick (opening_event o) ≡ Some o
  pub requests : (tenant k : ℕ) (line : Line) → IsRequestOf k line → pick (Tenant tenant line) ≡ None
  pub others : (tenant : ℕ) (line : Line) → IsOther line → pick (Tenant tenant line) ≡ None
  pub changes : (line : ServerLine) → pick (Server line) ≡ None

all_picked : (pick : Event → Option Opening) (openings : List Opening) → ((o : Opening) → pick (opening_event o) ≡ Some o) → filter_map pick (map opening_event openings) ≡ openings
all_picked pick [] each = refl
all_picked pick (o ∷ openings) each = ap (λ p. cons_option p (filter_map pick (map opening_event openings))) (each o) ∙ ap (λ l. o ∷ l) (all_picked pick openings each)

none_had : (order : List Step) → has_all (λ (o : Origin) (place : ℕ). let none : List Opening = [] in none) order ≡ []
none_had [] = refl
none_had (s ∷ order) = none_had order

-- the openings among the events are the volumes
pub openings_picked : (plan : CheckedPlan) (r : Records) (events : List Event) → IsRunOf plan r events → (pick : Event → Option Opening) → PicksOpenings pick → filter_map pick events ≡ r.volumes.items
openings_picked plan r events run pick is =
    picked_run plan r events run pick (λ o place. []) picks
    ∙ ap (λ l. filter_map pick (map opening_event r.volumes.items) ++ l) (none_had run.order)
    ∙ append-none (filter_map pick (map opening_event r.volumes.items))
    ∙ all_picked pick r.volumes.items is.openings
  where
    picks : Picks plan r pick (λ o place. [])
    picks step b after OfBoard plays = ap (λ p. cons_option p []) (is.changes (entry_line plays.entry))
    picks step b after (OfSession session) plays = ap (λ p. cons_option p []) (by (session_line plan b plays.id plays.entry.did plays.plays.line plays.plays.deed))
      where
        by : IsSessionLine plays.id.number plays.entry.did plays.plays.line → pick (Tenant plays.id.tenant plays.plays.line) ≡ None
        by (inl asked) = is.requests plays.id.tenant plays.id.number plays.plays.line asked.1
        by (inr other) = is.others plays.id.tenant plays.plays.line other.1
    picks step b after (OfServer server) plays = ap (λ p. cons_option p []) (is.others plays.letter.message.tenant (Deliver plays.plays.number) tt)

-- ---- requests

-- each request of the session is picked, and nothing else
pub record PicksRequests (id : SessionId) (pick : Event → Option Line) : Type 0 where
  pub own : (line : Line) → IsRequestOf id.number line → pick (Tenant id.tenant line) ≡ Some line
  pub others : (tenant : ℕ) (line : Line) → (pick (Tenant tenant line) ≡ None) ⊎ ((tenant ≡ id.tenant) × IsRequestOf id.number line)
  pub changes : (line : ServerLine) → pick (Server line) ≡ None

-- the session's requests among the events are those that its list says it asked
pub requests_picked : (plan : CheckedPlan) (r : Records) (events : List Event) → IsRunOf plan r events → (k : ℕ) (id : SessionId) (entries : List SessionEntry) → slice_get (plan_sessions plan) k ≡ Some id → slice_get r.sessions.items k ≡ Some entries → (pick : Event → Option Line) → PicksRequests id pick → filter_map pick events ≡ asked_of entries
requests_picked plan r events run k id entries is_of_plan list pick is =
    picked_run plan r events run pick (only (OfSession k) (at_place has entries)) picks
    ∙ ap (λ l. l ++ has_all (only (OfSession k) (at_place has entries)) run.order) (none_picked pick r.volumes.items opening)
    ∙ only_those (OfSession k) (at_place has entries) run.order
    ∙ ap (flat_map (λ (s : Step). at_place has entries s.at)) (session_in_order r run.order k entries run.is_order run.climb list)
    ∙ steps_have has entries (session_steps k 0 entries) (session_places k 0 entries)
  where
    has : SessionEntry → List Line
    has e = asks e.did

    opening : (o : Opening) → pick (opening_event o) ≡ None
    opening o = by (is.others o.tenant (NewVolume o.files o.blocks))
      where
        by : (pick (opening_event o) ≡ None) ⊎ ((o.tenant ≡ id.tenant) × ⊥) → pick (opening_event o) ≡ None
        by (inl none) = none
        by (inr bad) = absurd bad.1

    -- no delivery, retry or abandonment is picked
    other_line : (tenant : ℕ) (line : Line) → IsOther line → pick (Tenant tenant line) ≡ None
    other_line tenant line other = by (is.others tenant line)
      where
        by : (pick (Tenant tenant line) ≡ None) ⊎ ((tenant ≡ id.tenant) × IsRequestOf id.number line) → pick (Tenant tenant line) ≡ None
        by (inl none) = none
        by (inr own) = absurd (not_both id.number line own.1 other)

    -- of the session itself what it asked is picked
    own_line : (did : Did) (line : Line) → IsSessionLine id.number did line → cons_option (pick (Tenant id.tenant line)) [] ≡ asks did
    own_line did line (inl asked) = ap (λ p. cons_option p []) (is.own line asked.1) ∙ sym asked.0
    own_line did line (inr other) = ap (λ p. cons_option p []) (other_line id.tenant line other.1) ∙ sym other.0

    -- of another session nothing is
    not_own : (j : ℕ) (a : SessionId) (did : Did) (line : Line) → slice_get (plan_sessions plan) j ≡ Some a → (k ≡ j → ⊥) → IsSessionLine a.number did line → pick (Tenant a.tenant line) ≡ None
    not_own j a did line at ne (inr other) = other_line a.tenant line other.1
    not_own j a did line at ne (inl asked) = by (is.others a.tenant line)
      where
        by : (pick (Tenant a.tenant line) ≡ None) ⊎ ((a.tenant ≡ id.tenant) × IsRequestOf id.number line) → pick (Tenant a.tenant line) ≡ None
        by (inl none) = none
        by (inr own) =
            let numbers : a.number ≡ id.number = one_number a.number id.number line asked.1 own.1 in
            let same : a ≡ id = λ i. record { tenant = own.0 i; number = numbers i } in
            absurd (ne (sym (session_once plan j k a id at is_of_plan same)))

    picks : Picks plan r pick (only (OfSession k) (at_place has entries))
    picks step b after OfBoard plays = ap (λ p. cons_option p []) (is.changes (entry_line plays.entry))
    picks step b after (OfServer server) plays = ap (λ p. cons_option p []) (other_line plays.letter.message.tenant (Deliver plays.plays.number) tt)
    picks step b after (OfSession j) plays = by (cases_eq k j)
      where
        line : IsSessionLine plays.id.number plays.entry.did plays.plays.line
        line = session_line plan b plays.id plays.entry.did plays.plays.line plays.plays.deed

        by : (k ≡ j) ⊎ (k ≡ j → ⊥) → cons_option (pick (Tenant plays.id.tenant plays.plays.line)) [] ≡ only (OfSession k) (at_place has entries) (OfSession j) step.at
        by (inl same) =
            let there : slice_get (plan_sessions plan) k ≡ Some plays.id = ap (slice_get (plan_sessions plan)) same ∙ plays.is_of in
            let is_id : plays.id ≡ id = cc in
            let also : slice_get r.sessions.items k ≡ Some plays.entries = ap (slice_get r.sessions.items) same ∙ plays.list in
            let are : plays.entries ≡ entries = cc in
            let stands : slice_get entries step.at ≡ Some plays.entry = ap (λ l. slice_get l step.at) (sym are) ∙ plays.stands in
            let placed : at_place has entries step.at ≡ asks plays.entry.did = ap (λ o. flat_map has (option_to_list o)) stands ∙ append-none (asks plays.entry.did) in
            ap (λ (a : SessionId). cons_option (pick (Tenant a.tenant plays.plays.line)) []) is_id
            ∙ own_line plays.entry.did plays.plays.line (subst (λ (a : SessionId). IsSessionLine a.number plays.entry.did plays.plays.line) is_id line)
            ∙ sym (ap (λ x. if x then at_place has entries step.at else []) (eq-eqb k j same) ∙ placed)
        by (inr ne) =
            ap (λ p. cons_option p []) (not_own j plays.id plays.entry.did plays.plays.line plays.is_of ne line)
            ∙ sym (ap (λ x. if x then at_place has entries step.at else []) (ne_eqb k j ne))
