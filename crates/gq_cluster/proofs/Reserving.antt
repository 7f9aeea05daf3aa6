-- Each number that a session used was reserved before.
use Rattle.std.proofs.Common.{◌≡◌, ◌≢◌, ◌⊎◌, ℕ, ◌+◌, ◌≤◌, Bool, true, false, ◌&&◌, List, [], ◌∷◌, refl, sym, ap, ◌∙◌, subst, inl, inr, Option, Some, None, arith, eqb}
use Rattle.std.specs.Prelude.{fold, nat_le, max, ⊤, if◌then◌else◌}
use Rattle.std.proofs.lemmas.Bool.{cases_eq, eq-eqb, ne_eqb, leb-true, leb-false, true≢false}
use Rattle.gq_grid.specs.Grid.{Servers}
use Rattle.gq_tag.specs.declared.StoredCopy.{StoredCopy}
use Rattle.gq_tag.specs.declared.Body.{Body}
use Rattle.gq_tag.specs.declared.Body.TheVariants.{Store}
use Rattle.gq_tag.specs.Tag.{File, OwnMessage, is_less, to_server}
use Rattle.gq_desk.specs.Plans.{is_in}
use Rattle.gq_desk.specs.declared.volumes.VolumeRow.{VolumeRow}
use Rattle.gq_model.specs.declared.events.Line.{Line}
use Rattle.gq_model.specs.declared.events.Line.TheVariants.{Write, Read, List as ListFiles, Retry, Abandon}
use Rattle.gq_model.specs.declared.events.Refusal.{Refusal}
use Rattle.gq_model.specs.Told.{Told, Began, Noted, Round, Done}
use Rattle.gq_model.specs.Trace.{State, Session, Deed, Elsewhere, Begins, Hears, Moves, Ends, Leaps, deed, heard_deed, session_by}
use Rattle.gq_model.specs.Lone.{Step, first_cause, session_causes, session_step, is_refusal, unless}
use Rattle.gq_laws.proofs.Acts.{no_cause}
use Rattle.gq_cluster.specs.Facts.{OwnFact, Begun, Numbered, Kept, Had, Reserved, greatest_op, greatest_number, last_of_run, reserving, reserved_by, with_reserved, replaced_in}
use Rattle.gq_cluster.specs.Cluster.{Setting, Part, Act, Asks, Comes, Cluster, NodeStep, Acts, Restarts, Reserves, Loses, Returns, lost_part, given_part, state_of, part_of, copy_in, step_of, act_entry, fact_in, fact_of, state_after, part_after, node_of, new_cluster, leapt_part, reserving_part, after_act, after_acts, after_step, acts_of, behind_acts}
use Rattle.gq_cluster.specs.Keeping.{IsReserved, AllUsedReserved}

-- ---- what a fact reserves

-- the fact is none, or one of numbers of session k
abbrev pub IsOfNumbers : ℕ → Option OwnFact → Type 0
IsOfNumbers k None = ⊤
IsOfNumbers k (Some (Begun j op)) = j ≡ k
IsOfNumbers k (Some (Numbered j number)) = j ≡ k
IsOfNumbers k (Some (Kept file copy)) = ⊥
IsOfNumbers k (Some (Had file copy)) = ⊥

pub reserves_numbers : (k : ℕ) (reserved : Reserved) (told : Told) (floor : ℕ) → IsOfNumbers k (reserving k reserved told floor)
reserves_numbers k reserved (Began op first count) floor = by (nat_le op reserved.op)
  where
    by : (b : Bool) → IsOfNumbers k (if b then None else Some (Begun k (last_of_run greatest_op op)))
    by true = tt
    by false = refl
reserves_numbers k reserved (Round round tag first count) floor = by (nat_le floor reserved.floor)
  where
    by : (b : Bool) → IsOfNumbers k (if b then None else Some (Numbered k (last_of_run greatest_number floor)))
    by true = tt
    by false = refl
reserves_numbers k reserved told floor = tt

-- such a fact reserves for session k, and for no other
own_reserved : (fact : Option OwnFact) (k : ℕ) (reserved : ℕ → Reserved) → IsOfNumbers k fact → with_reserved fact reserved k ≡ reserved_by fact (reserved k)
own_reserved None k reserved its = refl
own_reserved (Some (Begun j op)) k reserved its = rw (eq-eqb j k its) refl
own_reserved (Some (Numbered j number)) k reserved its = rw (eq-eqb j k its) refl
own_reserved (Some (Kept file copy)) k reserved its = absurd its
own_reserved (Some (Had file copy)) k reserved its = absurd its

other_reserved : (fact : Option OwnFact) (k j : ℕ) (reserved : ℕ → Reserved) → IsOfNumbers k fact → k ≢ j → with_reserved fact reserved j ≡ reserved j
other_reserved None k j reserved its ne = refl
other_reserved (Some (Begun x op)) k j reserved its ne = rw (ne_eqb x j (λ same. ne (sym its ∙ same))) refl
other_reserved (Some (Numbered x number)) k j reserved its ne = rw (ne_eqb x j (λ same. ne (sym its ∙ same))) refl
other_reserved (Some (Kept file copy)) k j reserved its ne = absurd its
other_reserved (Some (Had file copy)) k j reserved its ne = absurd its

-- what is reserved for any session behind a fact of numbers of session k
pub reserved_is : (fact : Option OwnFact) (k j : ℕ) (reserved : ℕ → Reserved) → IsOfNumbers k fact → with_reserved fact reserved j ≡ (if eqb k j then reserved_by fact (reserved k) else reserved j)
reserved_is fact k j reserved its = by (cases_eq k j)
  where
    by : (k ≡ j) ⊎ (k ≢ j) → with_reserved fact reserved j ≡ (if eqb k j then reserved_by fact (reserved k) else reserved j)
    by (inl same) = ap (with_reserved fact reserved) (sym same) ∙ own_reserved fact k reserved its ∙ (rw (eq-eqb k j same) refl)
    by (inr ne) = other_reserved fact k j reserved its ne ∙ (rw (ne_eqb k j ne) refl)

-- a store reserves nothing
pub replaced_none : (held : StoredCopy) (file : File) (body : Body) (reserved : ℕ → Reserved) (j : ℕ) → with_reserved (replaced_in held file body) reserved j ≡ reserved j
replaced_none held file (Store copy) reserved j = by (is_less held.tag copy.tag)
  where
    by : (b : Bool) → with_reserved (if b then Some (Kept file copy) else None) reserved j ≡ reserved j
    by true = refl
    by false = refl
replaced_none held file body reserved j = refl

-- ---- one session

-- what is reserved for session k behind what it was told
abbrev then_reserved : ℕ → Reserved → Told → ℕ → Reserved
then_reserved k reserved told floor = reserved_by (reserving k reserved told floor) reserved

-- what begins an operation of this number, and what begins a round
abbrev IsBegan : ℕ → Told → Type 0
IsBegan op (Began its first count) = its ≡ op
IsBegan op _ = ⊥

abbrev IsRound : Told → Type 0
IsRound (Round round tag first count) = ⊤
IsRound _ = ⊥

-- no less than before, and where an operation began, or a round did, the number that this uses
record Grows (old new : Reserved) (number last : ℕ) : Type 0 where
  old_op : old.op ≤ new.op
  old_floor : old.floor ≤ new.floor
  op : number ≤ new.op
  floor : last ≤ new.floor

began_grows : (k : ℕ) (r : Reserved) (op first count floor : ℕ) → Grows r (then_reserved k r (Began op first count) floor) op 0
began_grows k r op first count floor = by (nat_le op r.op) refl
  where
    by : (b : Bool) → nat_le op r.op ≡ b → Grows r (then_reserved k r (Began op first count) floor) op 0
    by true e = let low : op ≤ r.op = leb-true op r.op e in rw e (record { old_op = omega arith; old_floor = omega arith; op = low; floor = omega arith })
    by false e =
        let high = leb-false op r.op e in
        let run : op ≤ last_of_run greatest_op op = omega arith in
        rw e (record { old_op = omega (arith, high, run); old_floor = omega arith; op = run; floor = omega arith })

round_grows : (k : ℕ) (r : Reserved) (told : Told) (floor : ℕ) → IsRound told → Grows r (then_reserved k r told floor) 0 floor
round_grows k r (Round round tag first count) floor its = by (nat_le floor r.floor) refl
  where
    by : (b : Bool) → nat_le floor r.floor ≡ b → Grows r (then_reserved k r (Round round tag first count) floor) 0 floor
    by true e = let low : floor ≤ r.floor = leb-true floor r.floor e in rw e (record { old_op = omega arith; old_floor = omega arith; op = omega arith; floor = low })
    by false e =
        let high = leb-false floor r.floor e in
        let run : floor ≤ last_of_run greatest_number floor = omega arith in
        rw e (record { old_op = omega arith; old_floor = omega (arith, high, run); op = omega arith; floor = run })
round_grows k r other floor its = absurd its

told_grows : (k : ℕ) (r : Reserved) (told : Told) (floor : ℕ) → Grows r (then_reserved k r told floor) 0 0
told_grows k r (Began op first count) floor = let more = began_grows k r op first count floor in record { old_op = more.old_op; old_floor = more.old_floor; op = omega arith; floor = omega arith }
told_grows k r (Round round tag first count) floor = let more = round_grows k r (Round round tag first count) floor tt in record { old_op = more.old_op; old_floor = more.old_floor; op = omega arith; floor = omega arith }
told_grows k r told floor = record { old_op = omega arith; old_floor = omega arith; op = omega arith; floor = omega arith }

-- what was told where this is done in a session: with this number an operation begins
abbrev IsTold : ℕ → Deed → Told → Type 0
IsTold op (Begins line) told = IsBegan op told
IsTold op (Moves message round tag) told = IsRound told
IsTold op (Leaps number floor) told = ⊥
IsTold op _ told = ⊤

-- the session uses no number that is not reserved
record IsWithin (z : Session) (r : Reserved) : Type 0 where
  op : z.op ≤ r.op
  floor : z.floor ≤ r.floor

deed_within : (vs : List VolumeRow) (k : ℕ) (r : Reserved) (told : Told) (d : Deed) (z : Session) → IsWithin z r → IsTold (z.op + 1) d told → IsWithin (session_by vs k d z) (then_reserved k r told (session_by vs k d z).floor)
deed_within vs k r told d z low is = by d is
  where
    -- where neither number changes
    same : IsWithin z (then_reserved k r told z.floor)
    same = let grows = told_grows k r told z.floor in let op = low.op in let floor = low.floor in let more = grows.old_op in let above = grows.old_floor in record { op = omega arith; floor = omega arith }

    by : (d : Deed) → IsTold (z.op + 1) d told → IsWithin (session_by vs k d z) (then_reserved k r told (session_by vs k d z).floor)
    by Elsewhere is = same
    by (Begins line) is = began told is
      where
        began : (told : Told) → IsBegan (z.op + 1) told → IsWithin (session_by vs k (Begins line) z) (then_reserved k r told z.floor)
        began (Began op first count) is =
            let grows = began_grows k r op first count z.floor in
            let floor = low.floor in
            let more = grows.op in
            let above = grows.old_floor in
            record { op = omega (arith, is, more); floor = omega (arith, floor, above) }
        began other is = absurd is
    by (Hears message) is = record { op = same.op; floor = same.floor }
    by (Moves message round tag) is =
        let floor : ℕ = (session_by vs k (Moves message round tag) z).floor in
        let grows = round_grows k r told floor is in
        let op = low.op in
        let more = grows.old_op in
        record { op = omega (arith, op, more); floor = grows.floor }
    by Ends is = record { op = same.op; floor = same.floor }
    by (Leaps op number) is = absurd is

-- ---- one act

-- where neither the session nor what is reserved for it changes
stays : (old new : Part) (j : ℕ) → new.session j ≡ old.session j → new.reserved j ≡ old.reserved j → IsReserved old j → IsReserved new j
stays old new j session reserved low =
    let op : (new.session j).op ≡ (old.session j).op = ap (λ z. z.op) session in
    let floor : (new.session j).floor ≡ (old.session j).floor = ap (λ z. z.floor) session in
    let last_op : (new.reserved j).op ≡ (old.reserved j).op = ap (λ z. z.op) reserved in
    let last_floor : (new.reserved j).floor ≡ (old.reserved j).floor = ap (λ z. z.floor) reserved in
    let low_op = low.op in
    let low_floor = low.floor in
    record { op = omega (arith, op, last_op, low_op); floor = omega (arith, floor, last_floor, low_floor) }

-- the part after an act that is not refused
abbrev pub accepted : Setting → ℕ → Part → Act → Part
accepted s n part act = part_of n (with_reserved (fact_of s part act) part.reserved) (state_after s part act)

-- a line that is not refused does what its session is asked for
unless_gone : (word : Option Refusal) (step : Step) → is_refusal (unless word step).told ≡ false → (unless word step).told ≡ step.told
unless_gone word step fine = ap (λ w. (unless w step).told) (no_cause word step fine)

-- session k was told this, and this is done in it; nothing in the others
told_within : (vs : List VolumeRow) (old new : Part) (k : ℕ) (d : Deed) (told : Told) → IsTold ((old.session k).op + 1) d told →
    ((j : ℕ) → new.session j ≡ session_by vs j (if eqb k j then d else Elsewhere) (old.session j)) →
    ((j : ℕ) → new.reserved j ≡ with_reserved (reserving k (old.reserved k) told (new.session k).floor) old.reserved j) →
    (j : ℕ) → IsReserved old j → IsReserved new j
told_within vs old new k d told is sessions reserved j low = by (cases_eq k j)
  where
    fact : Option OwnFact
    fact = reserving k (old.reserved k) told (new.session k).floor

    its : IsOfNumbers k fact
    its = reserves_numbers k (old.reserved k) told (new.session k).floor

    own : IsReserved old k → IsReserved new k
    own low = record { op = subst (λ r. (new.session k).op ≤ r.op) (sym now) within.op; floor = subst (λ r. (new.session k).floor ≤ r.floor) (sym now) within.floor }
      where
        now : new.reserved k ≡ then_reserved k (old.reserved k) told (new.session k).floor
        now = reserved k ∙ own_reserved fact k old.reserved its

        session : new.session k ≡ session_by vs k d (old.session k)
        session = sessions k ∙ rw (eq-eqb k k refl) refl

        within : IsWithin (new.session k) (then_reserved k (old.reserved k) told (new.session k).floor)
        within =
            let P : Session → Type 0 = λ z. IsWithin z (then_reserved k (old.reserved k) told z.floor) in
            subst P (sym session) (deed_within vs k (old.reserved k) told d (old.session k) (record { op = low.op; floor = low.floor }) is)

    by : (k ≡ j) ⊎ (k ≢ j) → IsReserved new j
    by (inl same) = let P : ℕ → Type 0 = λ z. IsReserved old z → IsReserved new z in subst P same own low
    by (inr ne) = stays old new j (sessions j ∙ rw (ne_eqb k j ne) refl) (reserved j ∙ other_reserved fact k j old.reserved its ne) low

-- a line of a session
asks_within : (s : Setting) (n : ℕ) (part : Part) (line : Line) (aim : Servers) → is_refusal (step_of s part (Asks line aim)).told ≡ false → (j : ℕ) → IsReserved part j → IsReserved (accepted s n part (Asks line aim)) j
asks_within s n part line aim fine = by line fine
  where
    st : State
    st = state_of s.volumes aim part

    -- what is told to the line is what its session is told, as there is no cause
    told : (line : Line) → is_refusal (step_of s part (Asks line aim)).told ≡ false → (step_of s part (Asks line aim)).told ≡ (session_step s.grid st line).told
    told line fine = unless_gone (first_cause (session_causes s.grid s.row st line)) (session_step s.grid st line) fine

    begins : (k : ℕ) (line : Line) → (first count : ℕ) → (w : Told) → w ≡ Began ((part.session k).op + 1) first count → IsTold ((part.session k).op + 1) (Begins line) w
    begins k line first count w is = let P : Told → Type 0 = IsBegan ((part.session k).op + 1) in subst P (sym is) refl

    by : (line : Line) → is_refusal (step_of s part (Asks line aim)).told ≡ false → (j : ℕ) → IsReserved part j → IsReserved (accepted s n part (Asks line aim)) j
    by (Write k v f bytes) fine = told_within s.volumes part (accepted s n part (Asks (Write k v f bytes) aim)) k (Begins (Write k v f bytes)) (step_of s part (Asks (Write k v f bytes) aim)).told (begins k (Write k v f bytes) _ _ _ (told (Write k v f bytes) fine)) (λ j. refl) (λ j. refl)
    by (Read k v f) fine = told_within s.volumes part (accepted s n part (Asks (Read k v f) aim)) k (Begins (Read k v f)) (step_of s part (Asks (Read k v f) aim)).told (begins k (Read k v f) _ _ _ (told (Read k v f) fine)) (λ j. refl) (λ j. refl)
    by (ListFiles k v) fine = told_within s.volumes part (accepted s n part (Asks (ListFiles k v) aim)) k (Begins (ListFiles k v)) (step_of s part (Asks (ListFiles k v) aim)).told (begins k (ListFiles k v) _ _ _ (told (ListFiles k v) fine)) (λ j. refl) (λ j. refl)
    by (Retry k) fine = told_within s.volumes part (accepted s n part (Asks (Retry k) aim)) k Elsewhere (step_of s part (Asks (Retry k) aim)).told tt (λ j. nothing j (eqb k j)) (λ j. refl)
      where
        nothing : (j : ℕ) (b : Bool) → part.session j ≡ session_by s.volumes j (if b then Elsewhere else Elsewhere) (part.session j)
        nothing j true = refl
        nothing j false = refl
    by (Abandon k) fine = told_within s.volumes part (accepted s n part (Asks (Abandon k) aim)) k Ends (step_of s part (Asks (Abandon k) aim)).told tt (λ j. refl) (λ j. refl)
    by other fine = absurd (true≢false fine)

-- a letter to a server
serves_within : (s : Setting) (n : ℕ) (part : Part) (m : OwnMessage) (aim : Servers) → to_server m.body ≡ true → (j : ℕ) → IsReserved part j → IsReserved (accepted s n part (Comes m aim)) j
serves_within s n part m aim ask j = stays part (accepted s n part (Comes m aim)) j (rw ask refl) now
  where
    fact : Bool → Option OwnFact
    fact b = if b then (if part.lacks m.file then None else replaced_in (copy_in part m.file) m.file m.body) else fact_in s part (Comes m aim) m.session

    none : (lacking : Bool) → with_reserved (if lacking then None else replaced_in (copy_in part m.file) m.file m.body) part.reserved j ≡ part.reserved j
    none true = refl
    none false = replaced_none (copy_in part m.file) m.file m.body part.reserved j

    now : with_reserved (fact (to_server m.body)) part.reserved j ≡ part.reserved j
    now = ap (λ b. with_reserved (fact b) part.reserved j) ask ∙ none (part.lacks m.file)

-- a letter to a session
heard_is : (op : ℕ) (m : OwnMessage) (told : Told) → IsTold op (heard_deed m told) told
heard_is op m Noted = tt
heard_is op m (Round round tag first count) = tt
heard_is op m (Done outcome) = tt
heard_is op m told = tt

hears_within : (s : Setting) (n : ℕ) (part : Part) (m : OwnMessage) (aim : Servers) → to_server m.body ≡ false → (j : ℕ) → IsReserved part j → IsReserved (accepted s n part (Comes m aim)) j
hears_within s n part m aim reply = told_within s.volumes part (accepted s n part (Comes m aim)) m.session (heard_deed m told) told (heard_is ((part.session m.session).op + 1) m told) (λ j. ap (λ d. session_by s.volumes j d (part.session j)) (deeds told (step_of s part (Comes m aim)).new j)) now
  where
    told : Told
    told = (step_of s part (Comes m aim)).told

    deeds : (told : Told) (new : List OwnMessage) (j : ℕ) → deed j (act_entry (Comes m aim) (record { told = told; new = new })) ≡ (if eqb m.session j then heard_deed m told else Elsewhere)
    deeds told new j = rw reply refl

    fact : Bool → Option OwnFact
    fact b = if b then (if part.lacks m.file then None else replaced_in (copy_in part m.file) m.file m.body) else fact_in s part (Comes m aim) m.session

    now : (j : ℕ) → with_reserved (fact (to_server m.body)) part.reserved j ≡ with_reserved (fact false) part.reserved j
    now j = ap (λ b. with_reserved (fact b) part.reserved j) reply

pub act_within : (s : Setting) (n : ℕ) (part : Part) (act : Act) (j : ℕ) → IsReserved part j → IsReserved (part_after s n part act) j
act_within s n part act j low = by (is_refusal (step_of s part act).told) refl
  where
    done : (act : Act) → is_refusal (step_of s part act).told ≡ false → IsReserved (accepted s n part act) j
    done (Asks line aim) fine = asks_within s n part line aim fine j low
    done (Comes m aim) fine = on (to_server m.body) refl
      where
        on : (b : Bool) → to_server m.body ≡ b → IsReserved (accepted s n part (Comes m aim)) j
        on true ask = serves_within s n part m aim ask j low
        on false reply = hears_within s n part m aim reply j low

    Then : Bool → Type 0
    Then b = IsReserved (if b then part else accepted s n part act) j

    by : (b : Bool) → is_refusal (step_of s part act).told ≡ b → Then (is_refusal (step_of s part act).told)
    by true e = subst Then (sym e) low
    by false e = subst Then (sym e) (done act e)

-- ---- all steps

-- at each node each session
abbrev AllReserved : Cluster → Type 0
AllReserved c = (n k : ℕ) → IsReserved (c.part n) k

acts_within : (s : Setting) (acts : List Act) (c : Cluster) → AllReserved c → AllReserved (after_acts s c acts)
acts_within s [] c low = low
acts_within s (act ∷ acts) c low = acts_within s acts (after_act s c act) (λ n k. one n k (eqb n (node_of s.home act)))
  where
    one : (n k : ℕ) (b : Bool) → IsReserved (if b then part_after s n (c.part n) act else c.part n) k
    one n k true = act_within s n (c.part n) act k (low n k)
    one n k false = low n k

-- a session that goes on behind its reserved numbers has used these alone
leap_within : (s : Setting) (node : ℕ) (part : Part) (k : ℕ) → IsReserved part k → IsReserved (leapt_part s node part) k
leap_within s node part k low = let both = by (eqb (s.home k) node && is_in 1 s.row.sessions k) in record { op = both.0; floor = both.1 }
  where
    to : Bool → Session
    to b = if b then session_by s.volumes k (Leaps (part.reserved k).op (part.reserved k).floor) (part.session k) else part.session k

    by : (b : Bool) → ((to b).op ≤ (part.reserved k).op) × ((to b).floor ≤ (part.reserved k).floor)
    by true = let op = low.op in let floor = low.floor in (omega arith, omega arith)
    by false = (low.op, low.floor)

-- nor is any above them where more are reserved
more_within : (s : Setting) (node number : ℕ) (part : Part) (k : ℕ) → IsReserved part k → IsReserved (reserving_part s node number part) k
more_within s node number part k low = let both = by (eqb (s.home k) node && is_in 1 s.row.sessions k) in record { op = both.0; floor = both.1 }
  where
    to : Bool → Reserved
    to b = if b then record (part.reserved k) { floor = max (part.reserved k).floor number } else part.reserved k

    by : (b : Bool) → ((part.session k).op ≤ (to b).op) × ((part.session k).floor ≤ (to b).floor)
    by true = let op = low.op in let floor = low.floor in (omega arith, omega arith)
    by false = (low.op, low.floor)

step_within : (s : Setting) (step : NodeStep) (c : Cluster) → AllReserved c → AllReserved (behind_acts s step c)
step_within s (Acts act) c low = low
step_within s (Loses server volumes) c low = λ n k. by n k (eqb server n)
  where
    by : (n k : ℕ) (b : Bool) → IsReserved (if b then lost_part volumes (c.part n) else c.part n) k
    by n k true = record { op = (low n k).op; floor = (low n k).floor }
    by n k false = low n k
step_within s (Returns server file peer copy) c low = λ n k. by n k (eqb server n)
  where
    by : (n k : ℕ) (b : Bool) → IsReserved (if b then given_part file copy (c.part n) else c.part n) k
    by n k true = record { op = (low n k).op; floor = (low n k).floor }
    by n k false = low n k
step_within s (Reserves node number) c low = λ n k. by n k (eqb n node)
  where
    by : (n k : ℕ) (b : Bool) → IsReserved (if b then reserving_part s node number (c.part n) else c.part n) k
    by n k true = more_within s node number (c.part n) k (low n k)
    by n k false = low n k
step_within s (Restarts node) c low = λ n k. by n k (eqb n node)
  where
    by : (n k : ℕ) (b : Bool) → IsReserved (if b then leapt_part s node (c.part n) else c.part n) k
    by n k true = leap_within s node (c.part n) k (low n k)
    by n k false = low n k

steps_within : (s : Setting) (steps : List NodeStep) (c : Cluster) → AllReserved c → AllReserved (fold (after_step s) c steps)
steps_within s [] c low = low
steps_within s (step ∷ steps) c low = steps_within s steps (after_step s c step) (step_within s step (after_acts s c (acts_of s c step)) (acts_within s (acts_of s c step) c low))

pub all_used_reserved : AllUsedReserved
all_used_reserved s steps = steps_within s steps new_cluster (λ n k. record { op = omega arith; floor = omega arith })
