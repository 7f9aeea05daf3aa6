-- Parts that are alike do the same.
use Rattle.std.proofs.Common.{◌≡◌, ◌∙◌, ℕ, Bool, true, false, List, [], ◌∷◌, ◌++◌, refl, sym, ap, subst, Option, Some, None, inl, inr}
use Rattle.std.specs.Prelude.{option_map, is_some, not, ◌&&◌, ◌==◌, max, if◌then◌else◌}
use Rattle.std.proofs.lemmas.Bool.{cases_Bool}
use Rattle.gq_grid.specs.Grid.{Servers}
use Rattle.gq_tag.specs.declared.StoredCopy.{StoredCopy}
use Rattle.gq_tag.specs.declared.Body.{Body}
use Rattle.gq_tag.specs.declared.Body.TheVariants.{Ask, Copy, Store, Stored}
use Rattle.gq_tag.specs.Tag.{File, OwnMessage, is_file, to_server, first_copy, greatest, newer_of}
use Rattle.gq_desk.specs.Plans.{is_in}
use Rattle.gq_desk.specs.declared.volumes.VolumeRow.{VolumeRow}
use Rattle.gq_phase.specs.Phase.{Task}
use Rattle.gq_model.specs.declared.events.Line.{Line}
use Rattle.gq_model.specs.declared.events.Line.TheVariants.{Write, Read, List as ListFiles, Retry, Abandon}
use Rattle.gq_model.specs.declared.events.Refusal.TheVariants.{NoSession, Idle}
use Rattle.gq_model.specs.Told.{Refused, Replied}
use Rattle.gq_model.specs.Trace.{State, Session, Deed, Elsewhere, Begins, Hears, Moves, Ends, Leaps, changed, deed, operation_with, session_by, serves, stored_by, held, deed_in}
use Rattle.gq_model.specs.Lone.{Step, is_refusal, asked_step, hear_step, reply_to, quiet}
use Rattle.gq_cluster.proofs.Parts.{act_deed}
use Rattle.gq_cluster.specs.Facts.{OwnFact, Begun, Numbered, Kept, Had, Reserved, none_reserved, reserving, with_reserved, replaced_in}
use Rattle.gq_cluster.specs.Cluster.{Setting, Part, Act, Asks, Comes, part_of, step_of, state_after, fact_in, fact_of, part_after, act_entry, aim_of, session_named, IsOfSession, copy_in, state_of}
use Rattle.gq_laws.proofs.Holding.{greatest-push}
use Rattle.gq_node.specs.Nodes.{SessionAlike, PartAlike}

-- ---- sessions

pub session_refl : (a : Session) → SessionAlike a a
session_refl a = record { op = refl; floor = refl; current = refl; going = λ is. refl }

session_same : (a b : Session) → a ≡ b → SessionAlike a b
session_same a b same = subst (SessionAlike a) same (session_refl a)

pub idle_alike : (a b : Session) → a.op ≡ b.op → a.floor ≡ b.floor → a.current ≡ None → b.current ≡ None → SessionAlike a b
idle_alike a b ops floors none also = record { op = ops; floor = floors; current = none ∙ sym also; going = λ is. let e = sym (ap is_some also) ∙ is in absurd (cc) }

-- a deed in both
deed_alike : (volumes : List VolumeRow) (k : ℕ) (d : Deed) (a b : Session) (current : Option Task) → b.current ≡ current → SessionAlike a b → SessionAlike (session_by volumes k d a) (session_by volumes k d b)
deed_alike volumes k d a b (Some task) is alike = session_same _ _ (ap (session_by volumes k d) (alike.going (ap is_some is)))
deed_alike volumes k Elsewhere a b None is alike = alike
deed_alike volumes k (Begins line) a b None is alike =
    session_same _ _ (λ i. session_by volumes k (Begins line) (record { op = alike.op i; current = None; round = 1; heard = []; collected = []; floor = alike.floor i }))
deed_alike volumes k (Hears m) a b None is alike = idle_alike _ _ alike.op alike.floor (alike.current ∙ is) is
deed_alike volumes k (Moves m round tag) a b None is alike = rw (is, alike.current ∙ is) (idle_alike _ _ alike.op alike.floor refl refl)
deed_alike volumes k Ends a b None is alike = idle_alike _ _ alike.op alike.floor refl refl
deed_alike volumes k (Leaps op number) a b None is alike = idle_alike _ _ (ap (λ n. max n op) alike.op) (ap (λ n. max n number) alike.floor) refl refl

-- ---- what is told and sent

-- a part of which only this is known
abbrev just : Setting → Servers → (op : ℕ) → Option Task → (floor : ℕ) → State
just s aim op current floor = state_of s.volumes aim (record { brought = λ file. []; lacks = λ file. false; session = λ j. record { op = op; current = current; round = 1; heard = []; collected = []; floor = floor }; reserved = λ j. none_reserved })

abbrev only : Setting → Servers → Session → State
only s aim session = state_of s.volumes aim (record { brought = λ file. []; lacks = λ file. false; session = λ j. session; reserved = λ j. none_reserved })

retry_idle : (s : Setting) (aim : Servers) (p : Part) (k : ℕ) → (p.session k).current ≡ None → step_of s p (Asks (Retry k) aim) ≡ (if is_in 1 s.row.sessions k then quiet (Refused Idle) else quiet (Refused NoSession))
retry_idle s aim p k idle = elim (cases_Bool (is_in 1 s.row.sessions k)) [
  | inl inside ↦ (rw (inside, idle) refl)
  | inr outside ↦ (rw outside refl)
]

retry_alike : (s : Setting) (aim : Servers) (p q : Part) (k : ℕ) (current : Option Task) → (q.session k).current ≡ current → SessionAlike (p.session k) (q.session k) → step_of s p (Asks (Retry k) aim) ≡ step_of s q (Asks (Retry k) aim)
retry_alike s aim p q k None is alike = retry_idle s aim p k (alike.current ∙ is) ∙ sym (retry_idle s aim q k is)
retry_alike s aim p q k (Some task) is alike = λ i. asked_step s.grid s.row (only s aim (alike.going (ap is_some is) i)) (Retry k)

asked_alike : (s : Setting) (aim : Servers) (p q : Part) (line : Line) → IsOfSession line → SessionAlike (p.session (session_named line)) (q.session (session_named line)) → step_of s p (Asks line aim) ≡ step_of s q (Asks line aim)
asked_alike s aim p q (Write k v f bytes) its alike = λ i. asked_step s.grid s.row (just s aim (alike.op i) (alike.current i) (alike.floor i)) (Write k v f bytes)
asked_alike s aim p q (Read k v f) its alike = λ i. asked_step s.grid s.row (just s aim (alike.op i) (alike.current i) (alike.floor i)) (Read k v f)
asked_alike s aim p q (ListFiles k v) its alike = λ i. asked_step s.grid s.row (just s aim (alike.op i) (alike.current i) (alike.floor i)) (ListFiles k v)
asked_alike s aim p q (Retry k) its alike = retry_alike s aim p q k (q.session k).current refl alike
asked_alike s aim p q (Abandon k) its alike = λ i. asked_step s.grid s.row (just s aim (alike.op i) (alike.current i) (alike.floor i)) (Abandon k)
asked_alike s aim p q other its alike = absurd its

-- an operation of one is that of the other
operation_alike : (k : ℕ) (a b : Session) (current : Option Task) → b.current ≡ current → SessionAlike a b → option_map (operation_with k a) a.current ≡ option_map (operation_with k b) b.current
operation_alike k a b None is alike = rw (alike.current ∙ is, is) refl
operation_alike k a b (Some task) is alike = ap (λ (x : Session). option_map (operation_with k x) x.current) (alike.going (ap is_some is))

heard_alike : (s : Setting) (p q : Part) (m : OwnMessage) (aim : Servers) → to_server m.body ≡ false → SessionAlike (p.session m.session) (q.session m.session) → step_of s p (Comes m aim) ≡ step_of s q (Comes m aim)
heard_alike s p q m aim goes alike =
    let law : (x : Part) → step_of s x (Comes m aim) ≡ hear_step s.grid (just s aim 0 None 0) m (option_map (operation_with m.session (x.session m.session)) (x.session m.session).current) = λ x. rw goes refl in
    law p ∙ ap (hear_step s.grid (just s aim 0 None 0) m) (operation_alike m.session (p.session m.session) (q.session m.session) (q.session m.session).current refl alike) ∙ sym (law q)

served_alike : (s : Setting) (p q : Part) (m : OwnMessage) (aim : Servers) → to_server m.body ≡ true → p.lacks m.file ≡ q.lacks m.file → copy_in p m.file ≡ copy_in q m.file → step_of s p (Comes m aim) ≡ step_of s q (Comes m aim)
served_alike s p q m aim goes lacks same = by (q.lacks m.file) refl
  where
    by : (b : Bool) → q.lacks m.file ≡ b → step_of s p (Comes m aim) ≡ step_of s q (Comes m aim)
    by true is = let also : p.lacks m.file ≡ true = lacks ∙ is in rw (goes, is, also) refl
    by false is =
        let S : StoredCopy → Step = λ copy. record { told = Replied 0; new = reply_to copy m ∷ [] } in
        let law : (x : Part) → x.lacks m.file ≡ false → step_of s x (Comes m aim) ≡ S (copy_in x m.file) = λ x has. rw (goes, has) refl in
        law p (lacks ∙ is) ∙ ap S same ∙ sym (law q is)

-- the act can be one: a line is one of a session
abbrev pub IsAct : Act → Type 0
IsAct (Asks line aim) = IsOfSession line
IsAct (Comes m aim) = Unit {0}

-- a line, or a letter to a session, comes to its home
abbrev pub HereAt : (home : ℕ → ℕ) (n : ℕ) → Act → Type 0
HereAt home n (Asks line aim) = home (session_named line) ≡ n
HereAt home n (Comes m aim) = to_server m.body ≡ false → home m.session ≡ n

pub step_alike : (s : Setting) (n : ℕ) (p q : Part) (act : Act) → IsAct act → HereAt s.home n act → PartAlike s.home n p q → step_of s p act ≡ step_of s q act
step_alike s n p q (Asks line aim) its here alike = asked_alike s aim p q line its (alike.sessions (session_named line) here)
step_alike s n p q (Comes m aim) its here alike = elim (cases_Bool (to_server m.body)) [
  | inl goes ↦ (served_alike s p q m aim goes (alike.lacks m.file) (alike.copies m.file))
  | inr goes ↦ (heard_alike s p q m aim goes (alike.sessions m.session (here goes)))
]

-- ---- what is left

brought_alike : (here there : ℕ → File → Bool) (message : Option OwnMessage) (p q : Part) (n : ℕ) (file : File) → here n file ≡ there n file → copy_in p file ≡ copy_in q file →
    greatest (first_copy ∷ stored_by here message (λ server. p.brought) n file) ≡ greatest (first_copy ∷ stored_by there message (λ server. q.brought) n file)
brought_alike here there None p q n file serving same = same
brought_alike here there (Some m) p q n file serving same = by m.session m.op m.round m.server m.file m.body
  where
    stored : (b : Bool) (copy : StoredCopy) → greatest (first_copy ∷ (if b then p.brought file ++ copy ∷ [] else p.brought file)) ≡ greatest (first_copy ∷ (if b then q.brought file ++ copy ∷ [] else q.brought file))
    stored true copy = greatest-push first_copy copy (p.brought file) ∙ ap (λ c. newer_of c copy) same ∙ sym (greatest-push first_copy copy (q.brought file))
    stored false copy = same

    by : (session op round server : ℕ) (f : File) (body : Body) →
        let m : OwnMessage = record { session = session; op = op; round = round; server = server; file = f; body = body } in
        greatest (first_copy ∷ stored_by here (Some m) (λ server. p.brought) n file) ≡ greatest (first_copy ∷ stored_by there (Some m) (λ server. q.brought) n file)
    by session op round server f Ask = same
    by session op round server f (Copy copy) = same
    by session op round server f (Store copy) =
        ap (λ z. greatest (first_copy ∷ (if (server == n) && is_file f file && z then p.brought file ++ copy ∷ [] else p.brought file))) serving ∙ stored ((server == n) && is_file f file && there n file) copy
    by session op round server f Stored = same

held_alike : (s : Setting) (n : ℕ) (p q : Part) (act : Act) (step : Step) (file : File) → p.lacks file ≡ q.lacks file → copy_in p file ≡ copy_in q file →
    held (changed (act_entry act step) (state_of s.volumes (aim_of act) p)) n file ≡ held (changed (act_entry act step) (state_of s.volumes (aim_of act) q)) n file
held_alike s n p q (Asks line aim) step file lacks same = same
held_alike s n p q (Comes m aim) step file lacks same =
    brought_alike (serves (aim_of (Comes m aim)) (λ server. p.lacks)) (serves (aim_of (Comes m aim)) (λ server. q.lacks)) (Some m) p q n file (λ i. not (lacks i) && aim_of (Comes m aim) n) same

-- an act takes no file from its server, and gives it none back
lacks_still : (s : Setting) (n : ℕ) (p : Part) (act : Act) (step : Step) (file : File) → (changed (act_entry act step) (state_of s.volumes (aim_of act) p)).lacks n file ≡ p.lacks file
lacks_still s n p (Asks line aim) step file = refl
lacks_still s n p (Comes m aim) step file = refl

-- what is reserved for session j behind the fact
reserved_alike : (fact : Option OwnFact) (a b : ℕ → Reserved) (j : ℕ) → a j ≡ b j → with_reserved fact a j ≡ with_reserved fact b j
reserved_alike None a b j same = same
reserved_alike (Some (Begun k op)) a b j same = λ i. if k == j then record (same i) { op = op } else same i
reserved_alike (Some (Numbered k number)) a b j same = λ i. if k == j then record (same i) { floor = number } else same i
reserved_alike (Some (Kept file copy)) a b j same = same
reserved_alike (Some (Had file copy)) a b j same = same

-- the fact that session k gives by the act
told_fact_alike : (s : Setting) (n : ℕ) (p q : Part) (act : Act) (k : ℕ) → s.home k ≡ n → step_of s p act ≡ step_of s q act → PartAlike s.home n p q → fact_in s p act k ≡ fact_in s q act k
told_fact_alike s n p q act k here same alike = λ i. reserving k (alike.reserved k here i) (same i).told (floor i)
  where
    said : (x : Part) → ((state_after s x act).session k).floor ≡ (session_by s.volumes k (deed k (act_entry act (step_of s x act))) (x.session k)).floor
    said x = ap (λ d. (session_by s.volumes k d (x.session k)).floor) (act_deed [] k (x.session k) act (step_of s x act))

    floor : ((state_after s p act).session k).floor ≡ ((state_after s q act).session k).floor
    floor =
        said p
        ∙ ap (λ (z : Step). (session_by s.volumes k (deed k (act_entry act z)) (p.session k)).floor) same
        ∙ (deed_alike s.volumes k (deed k (act_entry act (step_of s q act))) (p.session k) (q.session k) (q.session k).current refl (alike.sessions k here)).floor
        ∙ sym (said q)

fact_alike : (s : Setting) (n : ℕ) (p q : Part) (act : Act) → HereAt s.home n act → step_of s p act ≡ step_of s q act → PartAlike s.home n p q → fact_of s p act ≡ fact_of s q act
fact_alike s n p q (Asks line aim) here same alike = told_fact_alike s n p q (Asks line aim) (session_named line) here same alike
fact_alike s n p q (Comes m aim) here same alike = by (to_server m.body) refl
  where
    fact : Part → Bool → Option OwnFact
    fact x b = if b then (if x.lacks m.file then None else replaced_in (copy_in x m.file) m.file m.body) else fact_in s x (Comes m aim) m.session

    by : (b : Bool) → to_server m.body ≡ b → fact p (to_server m.body) ≡ fact q (to_server m.body)
    by true goes = ap (fact p) goes ∙ (λ i. if alike.lacks m.file i then None else replaced_in (alike.copies m.file i) m.file m.body) ∙ sym (ap (fact q) goes)
    by false goes = ap (fact p) goes ∙ told_fact_alike s n p q (Comes m aim) m.session (here goes) same alike ∙ sym (ap (fact q) goes)

-- the part after the act, where this is told and sent by it, and this is its fact
abbrev part_by : Setting → ℕ → Act → Option OwnFact → Step → Part → Part
part_by s n act fact step x = if is_refusal step.told then x else part_of n (with_reserved fact x.reserved) (changed (act_entry act step) (state_of s.volumes (aim_of act) x))

pub part_alike : (s : Setting) (n server : ℕ) (p q : Part) (act : Act) → IsAct act → HereAt s.home n act → PartAlike s.home n p q → PartAlike s.home n (part_after s server p act) (part_after s server q act)
part_alike s n server p q act its here alike = subst (λ (x : Part). PartAlike s.home n x (part_after s server q act)) (sym same_by) (by (is_refusal step.told) refl)
  where
    step : Step
    step = step_of s q act

    fact : Option OwnFact
    fact = fact_of s q act

    same_step : step_of s p act ≡ step
    same_step = step_alike s n p q act its here alike

    same_by : part_after s server p act ≡ part_by s server act fact step p
    same_by = λ i. part_by s server act (fact_alike s n p q act here same_step alike i) (same_step i) p

    accepted : PartAlike s.home n (part_of server (with_reserved fact p.reserved) (changed (act_entry act step) (state_of s.volumes (aim_of act) p))) (part_of server (with_reserved fact q.reserved) (changed (act_entry act step) (state_of s.volumes (aim_of act) q)))
    accepted = record {
      copies = λ file. held_alike s server p q act step file (alike.lacks file) (alike.copies file);
      lacks = λ file. lacks_still s server p act step file ∙ alike.lacks file ∙ sym (lacks_still s server q act step file);
      reserved = λ k at. reserved_alike fact p.reserved q.reserved k (alike.reserved k at);
      sessions = λ k at.
          let D : Deed → Deed → Type 0 = λ a b. SessionAlike (session_by s.volumes k a (p.session k)) (session_by s.volumes k b (q.session k)) in
          let d : Deed = deed k (act_entry act step) in
          subst (λ a. D a (deed_in [] k (q.session k) (act_entry act step))) (sym (act_deed [] k (p.session k) act step))
          (subst (λ b. D d b) (sym (act_deed [] k (q.session k) act step)) (deed_alike s.volumes k d (p.session k) (q.session k) (q.session k).current refl (alike.sessions k at)));
    }

    by : (b : Bool) → is_refusal step.told ≡ b → PartAlike s.home n (part_by s server act fact step p) (part_by s server act fact step q)
    by true is = rw is alike
    by false is = rw is accepted
