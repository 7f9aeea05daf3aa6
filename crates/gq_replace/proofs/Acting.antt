-- A node does by its own part what is done in a cluster, where both have the same session, or the same copies of a file.
use Rattle.std.proofs.Common.{◌≡◌, ◌≢◌, ◌⊎◌, ℕ, ◌+◌, Bool, true, false, List, [], ◌∷◌, ◌++◌, refl, sym, ap, ◌∙◌, subst, inl, inr, Option, Some, None, is_some, arith, eqb}
use Rattle.std.specs.Prelude.{Contains, option_map, not, ◌&&◌, ◌==◌, if◌then◌else◌}
use Rattle.std.proofs.lemmas.Bool.{eq-eqb, ne_eqb, true≢false}
use Rattle.std.proofs.lemmas.List.Elements.{Contains-append_left, Contains-append_right}
use Rattle.gq_grid.specs.Grid.{Servers}
use Rattle.gq_tag.specs.declared.StoredCopy.{StoredCopy}
use Rattle.gq_tag.specs.declared.Body.{Body}
use Rattle.gq_tag.specs.declared.Body.TheVariants.{Ask, Copy, Store, Stored}
use Rattle.gq_tag.specs.Tag.{File, OwnMessage, is_file, is_less, to_server}
use Rattle.gq_desk.specs.declared.volumes.VolumeRow.{VolumeRow}
use Rattle.gq_model.specs.declared.events.Line.{Line}
use Rattle.gq_model.specs.declared.events.Line.TheVariants.{Write, Read, List as ListFiles, Retry, Abandon}
use Rattle.gq_model.specs.Told.{Replied}
use Rattle.gq_model.specs.Trace.{State, Session, Deed, Elsewhere, Begins, Hears, Moves, Ends, Leaps, new_session, deed, operation_with, session_by, serves, stored_by}
use Rattle.gq_model.specs.Lone.{Step, is_refusal, asked_step, hear_step, reply_to}
use Rattle.gq_cluster.specs.Facts.{OwnFact, Begun, Numbered, Kept, Had, Reserved, none_reserved, reserving, with_reserved, replaced_in}
use Rattle.gq_cluster.specs.Cluster.{Setting, Cluster, Part, Act, Asks, Comes, everyone, aim_of, act_entry, copy_in, state_of, session_named, IsOfSession, step_of, step_in, fact_in, fact_of, node_of, part_after, parts_after, with_held, after_act}
use Rattle.gq_cluster.proofs.Parts.{act_deed, refused_part}

-- ---- an act in a cluster

pub act_away : (s : Setting) (c : Cluster) (act : Act) (n : ℕ) → n ≢ node_of s.home act → (after_act s c act).part n ≡ c.part n
act_away s c act n ne = rw (ne_eqb n (node_of s.home act) ne) refl

pub act_here : (s : Setting) (c : Cluster) (act : Act) (n : ℕ) → n ≡ node_of s.home act → (after_act s c act).part n ≡ part_after s n (c.part n) act
act_here s c act n same = rw (eq-eqb n (node_of s.home act) same) refl

-- what could be given before
abbrev offered_then : Setting → Cluster → Act → Bool → ℕ → File → ℕ → List StoredCopy
offered_then s c act refused = if refused then c.offered else with_held (parts_after s c act) c.offered

pub act_offers : (s : Setting) (c : Cluster) (act : Act) (server : ℕ) (file : File) (peer : ℕ) (copy : StoredCopy) → Contains (c.offered server file peer) copy → Contains ((after_act s c act).offered server file peer) copy
act_offers s c act server file peer copy within = by (is_refusal (step_in s c act).told)
  where
    by : (b : Bool) → Contains (offered_then s c act b server file peer) copy
    by true = within
    by false = Contains-append_left (c.offered server file peer) _ copy within

-- a server that lacks a file can be given what each other that has it holds
abbrev pub Offers : Cluster → Type 0
Offers c = (server : ℕ) (file : File) (peer : ℕ) → (c.part server).lacks file ≡ true → (c.part peer).lacks file ≡ false → Contains (c.offered server file peer) (copy_in (c.part peer) file)

pub held_offered : (before : List StoredCopy) (lacks : Bool) (copy : StoredCopy) → lacks ≡ false → Contains (before ++ (if lacks then [] else copy ∷ [])) copy
held_offered before true copy has = absurd (true≢false has)
held_offered before false copy has = Contains-append_right before (copy ∷ []) copy (0, omega arith, refl)

pub act_offering : (s : Setting) (c : Cluster) (act : Act) → Offers c → Offers (after_act s c act)
act_offering s c act offers server file peer lacks has = by (is_refusal (step_in s c act).told) refl
  where
    by : (b : Bool) → is_refusal (step_in s c act).told ≡ b → Contains (offered_then s c act b server file peer) (copy_in (parts_after s c act peer) file)
    by false e = held_offered (c.offered server file peer) ((parts_after s c act peer).lacks file) (copy_in (parts_after s c act peer) file) has
    by true e =
        let P : Part → Type 0 = λ z. Contains (c.offered server file peer) (copy_in z file) in
        subst P (sym (refused_part s c act e peer))
        (offers server file peer (ap (λ z. z.lacks file) (sym (refused_part s c act e server)) ∙ lacks) (ap (λ z. z.lacks file) (sym (refused_part s c act e peer)) ∙ has))

-- ---- what is told and sent

-- both parts have this of session k
pub record Same (p q : Part) (k : ℕ) : Type 0 where
  pub session : p.session k ≡ q.session k
  pub reserved : p.reserved k ≡ q.reserved k

-- a state of which only the session is known
abbrev only : Setting → Servers → Session → State
only s aim session = state_of s.volumes aim (record { brought = λ file. []; lacks = λ file. false; session = λ j. session; reserved = λ j. none_reserved })

asked_same : (s : Setting) (aim : Servers) (p q : Part) (line : Line) → IsOfSession line → p.session (session_named line) ≡ q.session (session_named line) → step_of s p (Asks line aim) ≡ step_of s q (Asks line aim)
asked_same s aim p q (Write k v f bytes) its same = λ i. asked_step s.grid s.row (only s aim (same i)) (Write k v f bytes)
asked_same s aim p q (Read k v f) its same = λ i. asked_step s.grid s.row (only s aim (same i)) (Read k v f)
asked_same s aim p q (ListFiles k v) its same = λ i. asked_step s.grid s.row (only s aim (same i)) (ListFiles k v)
asked_same s aim p q (Retry k) its same = λ i. asked_step s.grid s.row (only s aim (same i)) (Retry k)
asked_same s aim p q (Abandon k) its same = λ i. asked_step s.grid s.row (only s aim (same i)) (Abandon k)
asked_same s aim p q other its same = absurd its

heard_same : (s : Setting) (aim : Servers) (p q : Part) (m : OwnMessage) → to_server m.body ≡ false → p.session m.session ≡ q.session m.session → step_of s p (Comes m aim) ≡ step_of s q (Comes m aim)
heard_same s aim p q m reply same = law p ∙ ap hear same ∙ sym (law q)
  where
    hear : Session → Step
    hear z = hear_step s.grid (only s aim new_session) m (option_map (operation_with m.session z) z.current)

    law : (x : Part) → step_of s x (Comes m aim) ≡ hear (x.session m.session)
    law x = rw reply refl

-- a server that has the file sends back this
abbrev pub served : OwnMessage → StoredCopy → Step
served m copy = record { told = Replied 0; new = reply_to copy m ∷ [] }

pub served_is : (s : Setting) (aim : Servers) (p : Part) (m : OwnMessage) → to_server m.body ≡ true → p.lacks m.file ≡ false → step_of s p (Comes m aim) ≡ served m (copy_in p m.file)
served_is s aim p m ask has = rw (ask, has) refl

-- the same is told and sent by the act, and the same is to be kept
pub record SameAct (s : Setting) (p q : Part) (act : Act) : Type 0 where
  pub step : step_of s p act ≡ step_of s q act
  pub fact : fact_of s p act ≡ fact_of s q act

fact_same : (s : Setting) (p q : Part) (act : Act) (k : ℕ) → step_of s p act ≡ step_of s q act → Same p q k → fact_in s p act k ≡ fact_in s q act k
fact_same s p q (Asks line aim) k step same = λ i. reserving k (same.reserved i) (step i).told (session_by s.volumes k (deed k (act_entry (Asks line aim) (step i))) (same.session i)).floor
fact_same s p q (Comes m aim) k step same = λ i. reserving k (same.reserved i) (step i).told (session_by s.volumes k (deed k (act_entry (Comes m aim) (step i))) (same.session i)).floor

pub asked_act : (s : Setting) (aim : Servers) (p q : Part) (line : Line) → IsOfSession line → Same p q (session_named line) → SameAct s p q (Asks line aim)
asked_act s aim p q line its same =
    let step = asked_same s aim p q line its same.session in
    record { step = step; fact = fact_same s p q (Asks line aim) (session_named line) step same }

pub heard_act : (s : Setting) (aim : Servers) (p q : Part) (m : OwnMessage) → to_server m.body ≡ false → Same p q m.session → SameAct s p q (Comes m aim)
heard_act s aim p q m reply same = record { step = step; fact = law p ∙ fact_same s p q (Comes m aim) m.session step same ∙ sym (law q) }
  where
    step : step_of s p (Comes m aim) ≡ step_of s q (Comes m aim)
    step = heard_same s aim p q m reply same.session

    law : (x : Part) → fact_of s x (Comes m aim) ≡ fact_in s x (Comes m aim) m.session
    law x = rw reply refl

-- ---- what is left of sessions

abbrev pub session_then : Setting → Act → ℕ → Step → Session → Session
session_then s act k step z = if is_refusal step.told then z else session_by s.volumes k (deed k (act_entry act step)) z

pub session_after : (s : Setting) (n : ℕ) (p : Part) (act : Act) (k : ℕ) → (part_after s n p act).session k ≡ session_then s act k (step_of s p act) (p.session k)
session_after s n p act k = by (is_refusal (step_of s p act).told) refl
  where
    by : (b : Bool) → is_refusal (step_of s p act).told ≡ b → (part_after s n p act).session k ≡ session_then s act k (step_of s p act) (p.session k)
    by true e = rw e refl
    by false e = rw e (ap (λ d. session_by s.volumes k d (p.session k)) (act_deed [] k (p.session k) act (step_of s p act)))

abbrev reserved_then : Step → Option OwnFact → (ℕ → Reserved) → ℕ → Reserved
reserved_then step fact reserved k = if is_refusal step.told then reserved k else with_reserved fact reserved k

pub reserved_after : (s : Setting) (n : ℕ) (p : Part) (act : Act) (k : ℕ) → (part_after s n p act).reserved k ≡ reserved_then (step_of s p act) (fact_of s p act) p.reserved k
reserved_after s n p act k = by (is_refusal (step_of s p act).told) refl
  where
    by : (b : Bool) → is_refusal (step_of s p act).told ≡ b → (part_after s n p act).reserved k ≡ reserved_then (step_of s p act) (fact_of s p act) p.reserved k
    by true e = rw e refl
    by false e = rw e refl

reserved_same : (fact : Option OwnFact) (p q : ℕ → Reserved) (k : ℕ) → p k ≡ q k → with_reserved fact p k ≡ with_reserved fact q k
reserved_same None p q k same = same
reserved_same (Some (Begun j op)) p q k same = λ i. if j == k then record (same i) { op = op } else same i
reserved_same (Some (Numbered j number)) p q k same = λ i. if j == k then record (same i) { floor = number } else same i
reserved_same (Some (Kept file copy)) p q k same = same
reserved_same (Some (Had file copy)) p q k same = same

-- behind such an act both have the same of each session of which they had the same
pub after_same : (s : Setting) (n m : ℕ) (p q : Part) (act : Act) → SameAct s p q act → (k : ℕ) → Same p q k → Same (part_after s n p act) (part_after s m q act) k
after_same s n m p q act acts k same = record {
  session = session_after s n p act k ∙ (λ i. session_then s act k (acts.step i) (same.session i)) ∙ sym (session_after s m q act k);
  reserved = reserved_after s n p act k ∙ (λ i. if is_refusal (acts.step i).told then same.reserved i else reserved i) ∙ sym (reserved_after s m q act k);
}
  where
    reserved : with_reserved (fact_of s p act) p.reserved k ≡ with_reserved (fact_of s q act) q.reserved k
    reserved = ap (λ fact. with_reserved fact p.reserved k) acts.fact ∙ reserved_same (fact_of s q act) p.reserved q.reserved k same.reserved

-- an operation that goes on behind a deed went on before it, or began by it with the next number
pub went_on : (volumes : List VolumeRow) (k : ℕ) (d : Deed) (z : Session) → is_some (session_by volumes k d z).current ≡ true →
    (((session_by volumes k d z).op ≡ z.op) × (is_some z.current ≡ true)) ⊎ ((session_by volumes k d z).op ≡ z.op + 1)
went_on volumes k Elsewhere z goes = inl (refl, goes)
went_on volumes k (Begins line) z goes = inr refl
went_on volumes k (Hears m) z goes = inl (refl, goes)
went_on volumes k (Moves m round tag) z goes = inl (refl, goes)
went_on volumes k Ends z goes = absurd (true≢false (sym goes))
went_on volumes k (Leaps op number) z goes = absurd (true≢false (sym goes))

pub went_on_then : (s : Setting) (act : Act) (k : ℕ) (step : Step) (z : Session) → is_some (session_then s act k step z).current ≡ true →
    (((session_then s act k step z).op ≡ z.op) × (is_some z.current ≡ true)) ⊎ ((session_then s act k step z).op ≡ z.op + 1)
went_on_then s act k step z goes = by (is_refusal step.told) goes
  where
    then_is : Bool → Session
    then_is b = if b then z else session_by s.volumes k (deed k (act_entry act step)) z

    by : (b : Bool) → is_some (then_is b).current ≡ true → (((then_is b).op ≡ z.op) × (is_some z.current ≡ true)) ⊎ ((then_is b).op ≡ z.op + 1)
    by true goes = inl (refl, goes)
    by false goes = went_on s.volumes k (deed k (act_entry act step)) z goes

-- ---- and of copies

pub lacks_after : (s : Setting) (n : ℕ) (p : Part) (act : Act) (file : File) → (part_after s n p act).lacks file ≡ p.lacks file
lacks_after s n p (Asks line aim) file = by (is_refusal (step_of s p (Asks line aim)).told) refl
  where
    by : (b : Bool) → is_refusal (step_of s p (Asks line aim)).told ≡ b → (part_after s n p (Asks line aim)).lacks file ≡ p.lacks file
    by true e = rw e refl
    by false e = rw e refl
lacks_after s n p (Comes m aim) file = by (is_refusal (step_of s p (Comes m aim)).told) refl
  where
    by : (b : Bool) → is_refusal (step_of s p (Comes m aim)).told ≡ b → (part_after s n p (Comes m aim)).lacks file ≡ p.lacks file
    by true e = rw e refl
    by false e = rw e refl

-- a line of a session, and a letter to one, bring no copy
pub asked_brings : (s : Setting) (n : ℕ) (p : Part) (line : Line) (aim : Servers) (file : File) → (part_after s n p (Asks line aim)).brought file ≡ p.brought file
asked_brings s n p line aim file = by (is_refusal (step_of s p (Asks line aim)).told) refl
  where
    by : (b : Bool) → is_refusal (step_of s p (Asks line aim)).told ≡ b → (part_after s n p (Asks line aim)).brought file ≡ p.brought file
    by true e = rw e refl
    by false e = rw e refl

reply_brings : (serving : ℕ → File → Bool) (m : OwnMessage) (before : ℕ → File → List StoredCopy) (n : ℕ) (file : File) → to_server m.body ≡ false → stored_by serving (Some m) before n file ≡ before n file
reply_brings serving m before n file reply = by m.body refl
  where
    by : (body : Body) → m.body ≡ body → stored_by serving (Some m) before n file ≡ before n file
    by Ask e = rw e refl
    by (Copy copy) e = rw e refl
    by (Store copy) e = absurd (true≢false (sym (ap to_server e) ∙ reply))
    by Stored e = rw e refl

pub heard_brings : (s : Setting) (n : ℕ) (p : Part) (m : OwnMessage) (aim : Servers) (file : File) → to_server m.body ≡ false → (part_after s n p (Comes m aim)).brought file ≡ p.brought file
heard_brings s n p m aim file reply = by (is_refusal (step_of s p (Comes m aim)).told) refl
  where
    by : (b : Bool) → is_refusal (step_of s p (Comes m aim)).told ≡ b → (part_after s n p (Comes m aim)).brought file ≡ p.brought file
    by true e = rw e refl
    by false e = rw e (reply_brings (serves (aim_of (Comes m aim)) (λ server. p.lacks)) m (λ server. p.brought) n file reply)

-- ---- a letter to a server

-- the copies that it leaves of a file
abbrev stored : Part → OwnMessage → (n : ℕ) → File → List StoredCopy
stored p m n file = stored_by (serves everyone (λ server. p.lacks)) (Some m) (λ server. p.brought) n file

served_stores : (s : Setting) (n : ℕ) (p : Part) (m : OwnMessage) (aim : Servers) (file : File) → to_server m.body ≡ true → p.lacks m.file ≡ false → (part_after s n p (Comes m aim)).brought file ≡ stored p m n file
served_stores s n p m aim file ask has = rw accepted (ap (λ z. stored_by (serves z (λ server. p.lacks)) (Some m) (λ server. p.brought) n file) aimed)
  where
    accepted : is_refusal (step_of s p (Comes m aim)).told ≡ false
    accepted = ap (λ (z : Step). is_refusal z.told) (served_is s aim p m ask has)

    aimed : aim_of (Comes m aim) ≡ everyone
    aimed = rw ask refl

-- none of another file
other_file : (p : Part) (m : OwnMessage) (n : ℕ) (file : File) → is_file m.file file ≡ false → stored p m n file ≡ p.brought file
other_file p m n file other = by m.body refl
  where
    by : (body : Body) → m.body ≡ body → stored p m n file ≡ p.brought file
    by Ask e = rw e refl
    by (Copy copy) e = rw e refl
    by (Store copy) e = rw (e, other) (away (eqb m.server n))
      where
        away : (b : Bool) → ◌≡◌ {A = List StoredCopy} (if b && false && (not (p.lacks file) && true) then p.brought file ++ copy ∷ [] else p.brought file) (p.brought file)
        away true = refl
        away false = refl
    by Stored e = rw e refl

-- the same of a file of which both had the same
stored_same : (p q : Part) (m : OwnMessage) (n : ℕ) (file : File) → p.lacks file ≡ q.lacks file → p.brought file ≡ q.brought file → stored p m n file ≡ stored q m n file
stored_same p q m n file lacks same = by m.body refl
  where
    by : (body : Body) → m.body ≡ body → stored p m n file ≡ stored q m n file
    by Ask e = rw e same
    by (Copy copy) e = rw e same
    by (Store copy) e = rw e (λ i. if eqb m.server n && is_file m.file file && (not (lacks i) && true) then same i ++ copy ∷ [] else same i)
    by Stored e = rw e same

pub served_same : (s : Setting) (n m : ℕ) (p q : Part) (l : OwnMessage) (aim : Servers) (file : File) → to_server l.body ≡ true → p.lacks l.file ≡ false → q.lacks l.file ≡ false → n ≡ m → p.lacks file ≡ q.lacks file → p.brought file ≡ q.brought file →
    (part_after s n p (Comes l aim)).brought file ≡ (part_after s m q (Comes l aim)).brought file
served_same s n m p q l aim file ask has also same_n lacks same =
    served_stores s n p l aim file ask has ∙ ap (λ z. stored p l z file) same_n ∙ stored_same p q l m file lacks same ∙ sym (served_stores s m q l aim file ask also)

pub served_other : (s : Setting) (n : ℕ) (p : Part) (m : OwnMessage) (aim : Servers) (file : File) → to_server m.body ≡ true → p.lacks m.file ≡ false → is_file m.file file ≡ false → (part_after s n p (Comes m aim)).brought file ≡ p.brought file
served_other s n p m aim file ask has other = served_stores s n p m aim file ask has ∙ other_file p m n file other

-- it does nothing in a session
pub served_session : (s : Setting) (n : ℕ) (p : Part) (m : OwnMessage) (aim : Servers) (k : ℕ) → to_server m.body ≡ true → p.lacks m.file ≡ false → Same (part_after s n p (Comes m aim)) p k
served_session s n p m aim k ask has = record {
  session = session_after s n p (Comes m aim) k ∙ ap (λ z. session_then s (Comes m aim) k z (p.session k)) step ∙ elsewhere;
  reserved = reserved_after s n p (Comes m aim) k ∙ (λ i. reserved_then (step i) (fact i) p.reserved k) ∙ copies (copy_in p m.file) m.file m.body;
}
  where
    step : step_of s p (Comes m aim) ≡ served m (copy_in p m.file)
    step = served_is s aim p m ask has

    elsewhere : session_then s (Comes m aim) k (served m (copy_in p m.file)) (p.session k) ≡ p.session k
    elsewhere = rw ask refl

    fact : fact_of s p (Comes m aim) ≡ replaced_in (copy_in p m.file) m.file m.body
    fact = rw (ask, has) refl

    copies : (held : StoredCopy) (file : File) (body : Body) → with_reserved (replaced_in held file body) p.reserved k ≡ p.reserved k
    copies held file Ask = refl
    copies held file (Copy copy) = refl
    copies held file (Store copy) = by (is_less held.tag copy.tag)
      where
        by : (b : Bool) → with_reserved (if b then Some (Kept file copy) else None) p.reserved k ≡ p.reserved k
        by true = refl
        by false = refl
    copies held file Stored = refl
