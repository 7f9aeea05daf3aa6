-- By an act no session's own last number falls, nor does what is reserved for it, and the tag of a write is above that number.
use Rattle.std.proofs.Common.{◌≡◌, ℕ, ◌+◌, ◌<◌, ◌≤◌, Bool, true, false, not, max, List, length, refl, sym, ap, ◌∙◌, subst, Option, Some, None, arith}
use Rattle.std.specs.Prelude.{◌==◌, ◌&&◌, nat_le, option_map, if◌then◌else◌}
use Rattle.std.proofs.lemmas.Bool.{eqb-true, leb-false}
use Rattle.gq_grid.specs.Grid.{Servers}
use Rattle.gq_tag.specs.declared.Tag.{Tag}
use Rattle.gq_tag.specs.Tag.{File, OwnMessage, greatest, to_server}
use Rattle.gq_desk.specs.declared.volumes.VolumeRow.{VolumeRow}
use Rattle.gq_phase.specs.Phase.{Task, Writing, Reading, Listing, Operation, Heard, HeardStale, HeardNoted, HeardNext, HeardDone, hear, is_current, with_reply, heard_copies, hear_reply, reply_of}
use Rattle.gq_model.specs.declared.events.Line.{Line}
use Rattle.gq_model.specs.declared.events.Line.TheVariants.{Write, Read, List as ListFiles, Abandon}
use Rattle.gq_model.specs.Told.{Told, Began, Noted, Round, Done, Stale}
use Rattle.gq_model.specs.Trace.{Session, Deed, Elsewhere, Begins, Moves, Ends, deed, heard_deed, operation_with, session_by}
use Rattle.gq_model.specs.Lone.{Step, is_refusal, heard_step, hear_step}
use Rattle.gq_laws.proofs.RoundEnds.{Next, ToStore, ToCollect, Skips, next_of}
use Rattle.gq_cluster.specs.Facts.{Begun, Numbered, Reserved, greatest_op, greatest_number, last_of_run, reserving, with_reserved, replaced_in}
use Rattle.gq_cluster.specs.Cluster.{Setting, Part, Act, Asks, Comes, act_entry, copy_in, state_of, session_named, step_of, fact_in, fact_of, part_after}
use Rattle.gq_cluster.proofs.Reserving.{replaced_none}
use Rattle.gq_replace.proofs.Acting.{session_after, reserved_after}

-- ---- the tag of a write

-- what an operation says by which a write goes on to store
said_above : (s : Setting) (aim : Servers) (m : OwnMessage) (z : Session) (file : File) (bytes : List ℕ) (r : ℕ) (tag : Tag) (messages : List OwnMessage) →
    hear s.grid aim (operation_with m.session z (Writing file bytes)) m ≡ HeardNext r (Some tag) messages → z.floor < tag.number
said_above s aim m z file bytes r tag messages says = go (is_current o m) refl
  where
    o : Operation
    o = operation_with m.session z (Writing file bytes)

    by : Next s.grid aim (with_reply o m) r (Some tag) messages → z.floor < tag.number
    by (ToStore odd ends r_is tag_is new_is) =
        let new : Tag = record { number = max (greatest (heard_copies (hear_reply z.heard (reply_of m)))).tag.number z.floor + 1; session = m.session } in
        let both : Some tag ≡ Some new = tag_is in
        let is : tag ≡ new = cc in
        omega (arith, ap (λ (t : Tag). t.number) is)
    by (ToCollect v f lists even ends r_is tag_is new_is) = absurd (let bad : Some tag ≡ None = tag_is in cc)
    by (Skips v f lists odd ends skips r_is tag_is new_is) = absurd (let bad : Some tag ≡ None = tag_is in cc)

    go : (b : Bool) → is_current o m ≡ b → z.floor < tag.number
    go true e = by (next_of s.grid aim (with_reply o m) r (Some tag) messages (rw e at says))
    go false e = absurd (let bad : HeardStale ≡ HeardNext r (Some tag) messages = rw e at says in cc)

pub write_above : (s : Setting) (p : Part) (m : OwnMessage) (aim : Servers) (file : File) (bytes : List ℕ) (r first count : ℕ) (tag : Tag) → to_server m.body ≡ false →
    (p.session m.session).current ≡ Some (Writing file bytes) → (step_of s p (Comes m aim)).told ≡ Round r (Some tag) first count → (p.session m.session).floor < tag.number
write_above s p m aim file bytes r first count tag reply busy told = by (hear s.grid aim o m) refl
  where
    z : Session
    z = p.session m.session

    o : Operation
    o = operation_with m.session z (Writing file bytes)

    law : step_of s p (Comes m aim) ≡ hear_step s.grid (state_of s.volumes aim p) m (option_map (operation_with m.session z) z.current)
    law = rw reply refl

    step_is : step_of s p (Comes m aim) ≡ heard_step 0 (hear s.grid aim o m)
    step_is = law ∙ ap (λ (c : Option Task). hear_step s.grid (state_of s.volumes aim p) m (option_map (operation_with m.session z) c)) busy

    said : (heard_step 0 (hear s.grid aim o m)).told ≡ Round r (Some tag) first count
    said = ap (λ (x : Step). x.told) (sym step_is) ∙ told

    by : (h : Heard) → hear s.grid aim o m ≡ h → z.floor < tag.number
    by HeardStale is = absurd (let bad : Stale ≡ Round r (Some tag) first count = rw is at said in cc)
    by HeardNoted is = absurd (let bad : Noted ≡ Round r (Some tag) first count = rw is at said in cc)
    by (HeardDone outcome) is = absurd (let bad : Done outcome ≡ Round r (Some tag) first count = rw is at said in cc)
    by (HeardNext next of messages) is =
        let both : Round next of 0 (length messages) ≡ Round r (Some tag) first count = rw is at said in
        let its : of ≡ Some tag = cc in
        said_above s aim m z file bytes next tag messages (is ∙ ap (λ (t : Option Tag). HeardNext next t messages) its)

-- ---- own last numbers

-- what a deed does that is no round of a write
stays : (volumes : List VolumeRow) (k : ℕ) (line : Line) (z : Session) (b : Bool) → z.floor ≤ (session_by volumes k (if b then Begins line else Elsewhere) z).floor
stays volumes k line z true = omega arith
stays volumes k line z false = omega arith

ends : (volumes : List VolumeRow) (k : ℕ) (z : Session) (b : Bool) → z.floor ≤ (session_by volumes k (if b then Ends else Elsewhere) z).floor
ends volumes k z true = omega arith
ends volumes k z false = omega arith

asked_floor : (volumes : List VolumeRow) (k : ℕ) (line : Line) (aim : Servers) (step : Step) (z : Session) → z.floor ≤ (session_by volumes k (deed k (act_entry (Asks line aim) step)) z).floor
asked_floor volumes k (Write j v f bytes) aim step z = stays volumes k (Write j v f bytes) z (j == k)
asked_floor volumes k (Read j v f) aim step z = stays volumes k (Read j v f) z (j == k)
asked_floor volumes k (ListFiles j v) aim step z = stays volumes k (ListFiles j v) z (j == k)
asked_floor volumes k (Abandon j) aim step z = ends volumes k z (j == k)
asked_floor volumes k other aim step z = omega arith

-- a letter to a session, which was told this
heard_floor : (s : Setting) (p : Part) (m : OwnMessage) (aim : Servers) (told : Told) → to_server m.body ≡ false → (step_of s p (Comes m aim)).told ≡ told →
    (p.session m.session).floor ≤ (session_by s.volumes m.session (heard_deed m told) (p.session m.session)).floor
heard_floor s p m aim (Round r (Some tag) first count) reply is = by (p.session m.session).current refl
  where
    z : Session
    z = p.session m.session

    by : (task : Option Task) → z.current ≡ task → z.floor ≤ (session_by s.volumes m.session (Moves m r (Some tag)) z).floor
    by None busy = rw busy (omega arith)
    by (Some (Reading file)) busy = rw busy (omega arith)
    by (Some (Listing v f)) busy = rw busy (omega arith)
    by (Some (Writing file bytes)) busy = let above = write_above s p m aim file bytes r first count tag reply busy is in rw busy (omega (arith, above))
heard_floor s p m aim (Round r None first count) reply is = by (p.session m.session).current refl
  where
    z : Session
    z = p.session m.session

    by : (task : Option Task) → z.current ≡ task → z.floor ≤ (session_by s.volumes m.session (Moves m r None) z).floor
    by None busy = rw busy (omega arith)
    by (Some (Reading file)) busy = rw busy (omega arith)
    by (Some (Listing v f)) busy = rw busy (omega arith)
    by (Some (Writing file bytes)) busy = rw busy (omega arith)
heard_floor s p m aim Noted reply is = omega arith
heard_floor s p m aim (Done outcome) reply is = omega arith
heard_floor s p m aim told reply is = omega arith

came_floor : (s : Setting) (p : Part) (m : OwnMessage) (aim : Servers) (k : ℕ) → (p.session k).floor ≤ (session_by s.volumes k (deed k (act_entry (Comes m aim) (step_of s p (Comes m aim)))) (p.session k)).floor
came_floor s p m aim k = by (to_server m.body) refl (m.session == k) refl
  where
    told : Told
    told = (step_of s p (Comes m aim)).told

    Then : Deed → Type 0
    Then d = (p.session k).floor ≤ (session_by s.volumes k d (p.session k)).floor

    its : Bool → Bool → Deed
    its to own = if not to && own then heard_deed m told else Elsewhere

    by : (to : Bool) → to_server m.body ≡ to → (own : Bool) → (m.session == k) ≡ own → Then (its (to_server m.body) (m.session == k))
    by true e own f = subst Then (λ i. its (sym e i) (m.session == k)) (omega arith)
    by false e false f = subst Then (λ i. its (sym e i) (sym f i)) (omega arith)
    by false e true f =
        let P : ℕ → Type 0 = λ j. (p.session j).floor ≤ (session_by s.volumes j (heard_deed m told) (p.session j)).floor in
        subst Then (λ i. its (sym e i) (sym f i)) (subst P (eqb-true m.session k f) (heard_floor s p m aim told e refl))

pub act_floor : (s : Setting) (n : ℕ) (p : Part) (act : Act) (k : ℕ) → (p.session k).floor ≤ ((part_after s n p act).session k).floor
act_floor s n p act k = subst (λ (z : Session). (p.session k).floor ≤ z.floor) (sym (session_after s n p act k)) (by (is_refusal (step_of s p act).told))
  where
    changed : (act : Act) → (p.session k).floor ≤ (session_by s.volumes k (deed k (act_entry act (step_of s p act))) (p.session k)).floor
    changed (Asks line aim) = asked_floor s.volumes k line aim (step_of s p (Asks line aim)) (p.session k)
    changed (Comes m aim) = came_floor s p m aim k

    by : (b : Bool) → (p.session k).floor ≤ (if b then p.session k else session_by s.volumes k (deed k (act_entry act (step_of s p act))) (p.session k)).floor
    by true = omega arith
    by false = changed act

-- ---- what is reserved

reserving_grows : (j k : ℕ) (told : Told) (floor : ℕ) (reserved : ℕ → Reserved) → (reserved k).floor ≤ (with_reserved (reserving j (reserved j) told floor) reserved k).floor
reserving_grows j k (Began op first count) floor reserved = by (nat_le op (reserved j).op)
  where
    other : (b : Bool) → (reserved k).floor ≤ (if b then record (reserved k) { op = last_of_run greatest_op op } else reserved k).floor
    other true = omega arith
    other false = omega arith

    by : (b : Bool) → (reserved k).floor ≤ (with_reserved (if b then None else Some (Begun j (last_of_run greatest_op op))) reserved k).floor
    by true = omega arith
    by false = other (j == k)
reserving_grows j k (Round r tag first count) floor reserved = by (nat_le floor (reserved j).floor) refl
  where
    new : ℕ
    new = last_of_run greatest_number floor

    own : (b : Bool) → (j == k) ≡ b → nat_le floor (reserved j).floor ≡ false → (reserved k).floor ≤ (if b then record (reserved k) { floor = new } else reserved k).floor
    own true e more =
        let less : (reserved j).floor < floor = leb-false floor (reserved j).floor more in
        let same : (reserved j).floor ≡ (reserved k).floor = ap (λ n. (reserved n).floor) (eqb-true j k e) in
        omega (arith, less, same)
    own false e more = omega arith

    by : (b : Bool) → nat_le floor (reserved j).floor ≡ b → (reserved k).floor ≤ (with_reserved (if b then None else Some (Numbered j new)) reserved k).floor
    by true e = omega arith
    by false e = own (j == k) refl e
reserving_grows j k told floor reserved = omega arith

fact_grows : (s : Setting) (p : Part) (act : Act) (k : ℕ) → (p.reserved k).floor ≤ (with_reserved (fact_of s p act) p.reserved k).floor
fact_grows s p (Asks line aim) k = reserving_grows (session_named line) k _ _ p.reserved
fact_grows s p (Comes m aim) k = by (to_server m.body) (p.lacks m.file)
  where
    by : (to lacks : Bool) → (p.reserved k).floor ≤ (with_reserved (if to then (if lacks then None else replaced_in (copy_in p m.file) m.file m.body) else fact_in s p (Comes m aim) m.session) p.reserved k).floor
    by true true = omega arith
    by true false = let same = replaced_none (copy_in p m.file) m.file m.body p.reserved k in omega (arith, ap (λ (r : Reserved). r.floor) same)
    by false lacks = reserving_grows m.session k _ _ p.reserved

pub act_reserved : (s : Setting) (n : ℕ) (p : Part) (act : Act) (k : ℕ) → (p.reserved k).floor ≤ ((part_after s n p act).reserved k).floor
act_reserved s n p act k = subst (λ (r : Reserved). (p.reserved k).floor ≤ r.floor) (sym (reserved_after s n p act k)) (by (is_refusal (step_of s p act).told))
  where
    by : (b : Bool) → (p.reserved k).floor ≤ (if b then p.reserved k else with_reserved (fact_of s p act) p.reserved k).floor
    by true = omega arith
    by false = fact_grows s p act k
