-- An act changes what a node must not forget by its one fact.
use Rattle.std.proofs.Common.{◌≡◌, ◌≢◌, ◌⊎◌, ℕ, Bool, true, false, List, [], ◌∷◌, ◌++◌, refl, sym, ap, ◌∙◌, inl, inr, Option, Some, None, eqb}
use Rattle.std.specs.Prelude.{All, fold, if◌then◌else◌}
use Rattle.std.proofs.lemmas.List.Elements.{All-head, All-tail}
use Rattle.std.proofs.lemmas.List.Sums.{fold-append}
use Rattle.std.proofs.lemmas.Bool.{cases_eq, eq-eqb, ne_eqb, true≢false}
use Rattle.gq_grid.specs.Grid.{Servers}
use Rattle.gq_tag.specs.declared.StoredCopy.{StoredCopy}
use Rattle.gq_tag.specs.declared.Body.{Body}
use Rattle.gq_tag.specs.declared.Body.TheVariants.{Ask, Copy, Store, Stored}
use Rattle.gq_tag.specs.Tag.{File, OwnMessage, is_file, is_less, first_copy, greatest, newer_of, to_server}
use Rattle.gq_model.specs.declared.events.Line.{Line}
use Rattle.gq_model.specs.Told.{Told, Began, Replied, IsDown, Round}
use Rattle.gq_model.specs.Trace.{serves, stored_by}
use Rattle.gq_model.specs.Lone.{is_refusal, reply_to, quiet}
use Rattle.gq_laws.proofs.Holding.{greatest-push}
use Rattle.gq_laws.proofs.OperationMoments.{same_file}
use Rattle.gq_cluster.specs.Facts.{OwnFact, Begun, Numbered, Kept, Had, Reserved, reserving, with_reserved, replaced_in}
use Rattle.gq_cluster.specs.Cluster.{Setting, Part, Act, Asks, Comes, aim_of, node_of, session_named, copy_in, step_of, state_after, fact_in, fact_of, part_after, Cluster, NodeStep, Acts, Restarts, Reserves, Loses, Returns, leapt_part, new_cluster, after_act, after_acts, after_step, acts_of, behind_acts}
use Rattle.gq_cluster.specs.Keeping.{kept_of, with_fact, AllActsKeep, IsKept, fact_at, facts_of, facts_at, AllFactsSuffice}
use Rattle.gq_cluster.proofs.OneAct.{brings_nothing}
use Rattle.gq_cluster.proofs.Reserving.{IsOfNumbers, reserves_numbers, accepted}

-- ---- a fact

-- what is kept goes on by the fact where what is reserved does, and the copies
fact_keeps : (old new : Part) (fact : Option OwnFact) → ((j : ℕ) → new.reserved j ≡ with_reserved fact old.reserved j) → ((f : File) → copy_in new f ≡ (with_fact (kept_of old) fact).copy f) → kept_of new ≡ with_fact (kept_of old) fact
fact_keeps old new fact reserved copies = (λ i. record { copy = λ f. copies f i; op = λ j. (reserved j i).op; floor = λ j. (reserved j i).floor }) ∙ by fact
  where
    op : (b : Bool) (x y : Reserved) → (if b then x else y).op ≡ (if b then x.op else y.op)
    op true x y = refl
    op false x y = refl

    floor : (b : Bool) (x y : Reserved) → (if b then x else y).floor ≡ (if b then x.floor else y.floor)
    floor true x y = refl
    floor false x y = refl

    same : (b : Bool) (n : ℕ) → (if b then n else n) ≡ n
    same true n = refl
    same false n = refl

    by : (fact : Option OwnFact) → record { copy = (with_fact (kept_of old) fact).copy; op = λ j. (with_reserved fact old.reserved j).op; floor = λ j. (with_reserved fact old.reserved j).floor } ≡ with_fact (kept_of old) fact
    by None = refl
    by (Some (Begun k last)) = λ i. record {
      copy = copy_in old;
      op = λ j. op (eqb k j) (record (old.reserved j) { op = last }) (old.reserved j) i;
      floor = λ j. (floor (eqb k j) (record (old.reserved j) { op = last }) (old.reserved j) ∙ same (eqb k j) (old.reserved j).floor) i;
    }
    by (Some (Numbered k last)) = λ i. record {
      copy = copy_in old;
      op = λ j. (op (eqb k j) (record (old.reserved j) { floor = last }) (old.reserved j) ∙ same (eqb k j) (old.reserved j).op) i;
      floor = λ j. floor (eqb k j) (record (old.reserved j) { floor = last }) (old.reserved j) i;
    }
    by (Some (Kept file copy)) = refl
    by (Some (Had file copy)) = refl

-- a fact of numbers leaves the copies
numbers_copies : (part : Part) (k : ℕ) (fact : Option OwnFact) → IsOfNumbers k fact → (f : File) → (with_fact (kept_of part) fact).copy f ≡ copy_in part f
numbers_copies part k None its f = refl
numbers_copies part k (Some (Begun j op)) its f = refl
numbers_copies part k (Some (Numbered j number)) its f = refl
numbers_copies part k (Some (Kept file copy)) its f = absurd its
numbers_copies part k (Some (Had file copy)) its f = absurd its

-- a refusal gives none
refused_none : (k : ℕ) (reserved : Reserved) (told : Told) (floor : ℕ) → is_refusal told ≡ true → reserving k reserved told floor ≡ None
refused_none k reserved (Began op first count) floor refused = absurd (true≢false (sym refused))
refused_none k reserved (Round round tag first count) floor refused = absurd (true≢false (sym refused))
refused_none k reserved told floor refused = refl

-- the act is refused and gives no fact, or is not refused and changes what is kept by its fact
act_keeps : (s : Setting) (n : ℕ) (part : Part) (act : Act) → (is_refusal (step_of s part act).told ≡ true → fact_of s part act ≡ None) →
    (is_refusal (step_of s part act).told ≡ false → kept_of (accepted s n part act) ≡ with_fact (kept_of part) (fact_of s part act)) →
    kept_of (part_after s n part act) ≡ with_fact (kept_of part) (fact_of s part act)
act_keeps s n part act none goes = by (is_refusal (step_of s part act).told) refl
  where
    then_is : Bool → Part
    then_is b = if b then part else accepted s n part act

    by : (b : Bool) → is_refusal (step_of s part act).told ≡ b → kept_of (then_is (is_refusal (step_of s part act).told)) ≡ with_fact (kept_of part) (fact_of s part act)
    by true e = ap (λ b. kept_of (then_is b)) e ∙ ap (with_fact (kept_of part)) (sym (none e))
    by false e = ap (λ b. kept_of (then_is b)) e ∙ goes e

-- ---- a line of a session

asks_keep : (s : Setting) (n : ℕ) (part : Part) (line : Line) (aim : Servers) → kept_of (part_after s n part (Asks line aim)) ≡ with_fact (kept_of part) (fact_of s part (Asks line aim))
asks_keep s n part line aim = act_keeps s n part act
    (λ refused. refused_none k (part.reserved k) (step_of s part act).told floor refused)
    (λ fine. fact_keeps part (accepted s n part act) (fact_of s part act) (λ j. refl) (λ f. sym (numbers_copies part k (fact_of s part act) (reserves_numbers k (part.reserved k) (step_of s part act).told floor) f)))
  where
    act : Act
    act = Asks line aim

    k : ℕ
    k = session_named line

    floor : ℕ
    floor = ((state_after s part act).session k).floor

-- ---- a letter to a server

-- the copy of a file after a letter about a file
abbrev copy_then : Part → File → Body → File → StoredCopy
copy_then old file (Store copy) f = if is_file file f then newer_of (copy_in old f) copy else copy_in old f
copy_then old file _ f = copy_in old f

replaced_copy : (old : Part) (file : File) (body : Body) (f : File) → copy_then old file body f ≡ (with_fact (kept_of old) (replaced_in (copy_in old file) file body)).copy f
replaced_copy old file Ask f = refl
replaced_copy old file (Copy copy) f = refl
replaced_copy old file Stored f = refl
replaced_copy old file (Store copy) f = by (is_less (copy_in old file).tag copy.tag) refl
  where
    at : file ≡ f → is_less (copy_in old f).tag copy.tag ≡ is_less (copy_in old file).tag copy.tag
    at same = ap (λ z. is_less (copy_in old z).tag copy.tag) (sym same)

    newer : (b : Bool) → is_file file f ≡ b → is_less (copy_in old file).tag copy.tag ≡ true → copy_then old file (Store copy) f ≡ (if is_file file f then copy else copy_in old f)
    newer true e less = rw (e, at (same_file file f e) ∙ less) refl
    newer false e less = rw e refl

    older : (b : Bool) → is_file file f ≡ b → is_less (copy_in old file).tag copy.tag ≡ false → copy_then old file (Store copy) f ≡ copy_in old f
    older true e less = rw (e, at (same_file file f e) ∙ less) refl
    older false e less = rw e refl

    -- where the fact is this one
    fact : Bool → Option OwnFact
    fact b = if b then Some (Kept file copy) else None

    by : (b : Bool) → is_less (copy_in old file).tag copy.tag ≡ b → copy_then old file (Store copy) f ≡ (with_fact (kept_of old) (fact (is_less (copy_in old file).tag copy.tag))).copy f
    by true less = newer (is_file file f) refl less ∙ ap (λ b. (with_fact (kept_of old) (fact b)).copy f) (sym less)
    by false less = older (is_file file f) refl less ∙ ap (λ b. (with_fact (kept_of old) (fact b)).copy f) (sym less)

-- what the letter brings to its server
brings_copy : (serving : ℕ → File → Bool) (part : Part) (m : OwnMessage) (n : ℕ) (f : File) → m.server ≡ n → (is_file m.file f ≡ true → serving n f ≡ true) →
    greatest (first_copy ∷ stored_by serving (Some m) (λ server. part.brought) n f) ≡ copy_then part m.file m.body f
brings_copy serving part m n f here alive = by m.body
  where
    with_body : Body → OwnMessage
    with_body body = record { session = m.session; op = m.op; round = m.round; server = m.server; file = m.file; body = body }

    stored : (copy : StoredCopy) (b : Bool) → is_file m.file f ≡ b → greatest (first_copy ∷ stored_by serving (Some (with_body (Store copy))) (λ server. part.brought) n f) ≡ copy_then part m.file (Store copy) f
    stored copy true e =
        let more : stored_by serving (Some (with_body (Store copy))) (λ server. part.brought) n f ≡ part.brought f ++ copy ∷ [] = rw (eq-eqb m.server n here, e, alive e) refl in
        let newer : copy_then part m.file (Store copy) f ≡ newer_of (copy_in part f) copy = rw e refl in
        ap (λ z. greatest (first_copy ∷ z)) more ∙ greatest-push first_copy copy (part.brought f) ∙ sym newer
    stored copy false e =
        let same : stored_by serving (Some (with_body (Store copy))) (λ server. part.brought) n f ≡ part.brought f = rw (eq-eqb m.server n here, e) refl in
        let older : copy_then part m.file (Store copy) f ≡ copy_in part f = rw e refl in
        ap (λ z. greatest (first_copy ∷ z)) same ∙ sym older

    by : (body : Body) → greatest (first_copy ∷ stored_by serving (Some (with_body body)) (λ server. part.brought) n f) ≡ copy_then part m.file body f
    by Ask = refl
    by (Copy copy) = refl
    by (Store copy) = stored copy (is_file m.file f) refl
    by Stored = refl

-- and to one that lacks its file: nothing
brings_none : (serving : ℕ → File → Bool) (part : Part) (m : OwnMessage) (n : ℕ) (f : File) → (is_file m.file f ≡ true → serving n f ≡ false) → stored_by serving (Some m) (λ server. part.brought) n f ≡ part.brought f
brings_none serving part m n f without = by m.body
  where
    with_body : Body → OwnMessage
    with_body body = record { session = m.session; op = m.op; round = m.round; server = m.server; file = m.file; body = body }

    stored : (copy : StoredCopy) (a : Bool) → eqb m.server n ≡ a → (b : Bool) → is_file m.file f ≡ b → stored_by serving (Some (with_body (Store copy))) (λ server. part.brought) n f ≡ part.brought f
    stored copy false elsewhere b e = rw elsewhere refl
    stored copy true here true e = rw (here, e, without e) refl
    stored copy true here false e = rw (here, e) refl

    by : (body : Body) → stored_by serving (Some (with_body body)) (λ server. part.brought) n f ≡ part.brought f
    by Ask = refl
    by (Copy copy) = refl
    by (Store copy) = stored copy (eqb m.server n) refl (is_file m.file f) refl
    by Stored = refl

serves_keep : (s : Setting) (n : ℕ) (part : Part) (m : OwnMessage) (aim : Servers) → to_server m.body ≡ true → m.server ≡ n → kept_of (part_after s n part (Comes m aim)) ≡ with_fact (kept_of part) (fact_of s part (Comes m aim))
serves_keep s n part m aim ask here = act_keeps s n part act (λ refused. absurd (true≢false (sym refused ∙ replied))) (λ fine. fact_keeps part (accepted s n part act) (fact_of s part act) (λ j. refl) copies)
  where
    act : Act
    act = Comes m aim

    fact : Bool → Bool → Option OwnFact
    fact b lacking = if b then (if lacking then None else replaced_in (copy_in part m.file) m.file m.body) else fact_in s part act m.session

    alive : aim_of act n ≡ true
    alive = rw ask refl

    -- nothing that comes to a server is refused
    replied : is_refusal (step_of s part act).told ≡ false
    replied = by (part.lacks m.file) refl
      where
        by : (b : Bool) → part.lacks m.file ≡ b → is_refusal (step_of s part act).told ≡ false
        by false is = let told : step_of s part act ≡ record { told = Replied 0; new = reply_to (copy_in part m.file) m ∷ [] } = rw (ask, is) refl in ap (λ z. is_refusal z.told) told
        by true is = let told : step_of s part act ≡ quiet IsDown = rw (ask, is) refl in ap (λ z. is_refusal z.told) told

    serving : ℕ → File → Bool
    serving = serves (aim_of act) (λ server. part.lacks)

    -- a server that has the file takes what comes, and one that lacks it does not
    takes : (lacking : Bool) → part.lacks m.file ≡ lacking → (f : File) → copy_in (accepted s n part act) f ≡ (with_fact (kept_of part) (fact true lacking)).copy f
    takes false has f = brings_copy serving part m n f here (λ same. rw (ap part.lacks (sym (same_file m.file f same)) ∙ has, alive) refl) ∙ replaced_copy part m.file m.body f
    takes true lacks f = ap (λ copies. greatest (first_copy ∷ copies)) (brings_none serving part m n f (λ same. rw (ap part.lacks (sym (same_file m.file f same)) ∙ lacks) refl))

    copies : (f : File) → copy_in (accepted s n part act) f ≡ (with_fact (kept_of part) (fact (to_server m.body) (part.lacks m.file))).copy f
    copies f = takes (part.lacks m.file) refl f ∙ ap (λ b. (with_fact (kept_of part) (fact b (part.lacks m.file))).copy f) (sym ask)

-- ---- a letter to a session

hears_keep : (s : Setting) (n : ℕ) (part : Part) (m : OwnMessage) (aim : Servers) → to_server m.body ≡ false → kept_of (part_after s n part (Comes m aim)) ≡ with_fact (kept_of part) (fact_of s part (Comes m aim))
hears_keep s n part m aim reply = act_keeps s n part act
    (λ refused. ap fact reply ∙ refused_none k (part.reserved k) (step_of s part act).told floor refused)
    (λ fine. fact_keeps part (accepted s n part act) (fact_of s part act) (λ j. refl) copies)
  where
    act : Act
    act = Comes m aim

    k : ℕ
    k = m.session

    floor : ℕ
    floor = ((state_after s part act).session k).floor

    fact : Bool → Option OwnFact
    fact b = if b then (if part.lacks m.file then None else replaced_in (copy_in part m.file) m.file m.body) else fact_in s part act m.session

    copies : (f : File) → copy_in (accepted s n part act) f ≡ (with_fact (kept_of part) (fact (to_server m.body))).copy f
    copies f =
        ap (λ z. greatest (first_copy ∷ z)) (brings_nothing (serves (aim_of act) (λ server. part.lacks)) m (λ server. part.brought) n f (inr reply))
        ∙ sym (numbers_copies part k (fact false) (reserves_numbers k (part.reserved k) (step_of s part act).told floor) f)
        ∙ ap (λ b. (with_fact (kept_of part) (fact b)).copy f) (sym reply)

-- ---- the law

pub all_acts_keep : AllActsKeep
all_acts_keep s n part (Asks line aim) place = asks_keep s n part line aim
all_acts_keep s n part (Comes m aim) place = by (to_server m.body) refl
  where
    by : (b : Bool) → to_server m.body ≡ b → kept_of (part_after s n part (Comes m aim)) ≡ with_fact (kept_of part) (fact_of s part (Comes m aim))
    by true ask =
        let here : m.server ≡ n = rw ask at place in
        serves_keep s n part m aim ask here
    by false reply = hears_keep s n part m aim reply

-- ---- all facts of a node

cluster_keeps : (s : Setting) (c : Cluster) (n : ℕ) (act : Act) → kept_of ((after_act s c act).part n) ≡ with_fact (kept_of (c.part n)) (fact_at s c n act)
cluster_keeps s c n act = by (cases_eq n (node_of s.home act))
  where
    part : Bool → Part
    part b = if b then part_after s n (c.part n) act else c.part n

    fact : Bool → Option OwnFact
    fact b = if b then fact_of s (c.part n) act else None

    by : (n ≡ node_of s.home act) ⊎ (n ≢ node_of s.home act) → kept_of (part (eqb n (node_of s.home act))) ≡ with_fact (kept_of (c.part n)) (fact (eqb n (node_of s.home act)))
    by (inl same) =
        let e : eqb n (node_of s.home act) ≡ true = eq-eqb n (node_of s.home act) same in
        ap (λ b. kept_of (part b)) e ∙ all_acts_keep s n (c.part n) act (sym same) ∙ ap (λ b. with_fact (kept_of (c.part n)) (fact b)) (sym e)
    by (inr ne) =
        let e : eqb n (node_of s.home act) ≡ false = ne_eqb n (node_of s.home act) ne in
        ap (λ b. kept_of (part b)) e ∙ ap (λ b. with_fact (kept_of (c.part n)) (fact b)) (sym e)

acts_keep : (s : Setting) (n : ℕ) (acts : List Act) (c : Cluster) → kept_of ((after_acts s c acts).part n) ≡ fold with_fact (kept_of (c.part n)) (facts_of s c n acts)
acts_keep s n [] c = refl
acts_keep s n (act ∷ acts) c = acts_keep s n acts (after_act s c act) ∙ ap (λ z. fold with_fact z (facts_of s (after_act s c act) n acts)) (cluster_keeps s c n act)

-- sessions that go on behind their reserved numbers leave what is kept
step_keeps : (s : Setting) (n : ℕ) (step : NodeStep) (c : Cluster) → IsKept step → kept_of ((behind_acts s step c).part n) ≡ kept_of (c.part n)
step_keeps s n (Acts act) c kept = refl
step_keeps s n (Reserves node number) c kept = absurd kept
step_keeps s n (Loses server volumes) c kept = absurd kept
step_keeps s n (Returns server file peer copy) c kept = absurd kept
step_keeps s n (Restarts node) c kept = by (eqb n node)
  where
    by : (b : Bool) → kept_of (if b then leapt_part s node (c.part n) else c.part n) ≡ kept_of (c.part n)
    by true = refl
    by false = refl

steps_keep : (s : Setting) (n : ℕ) (steps : List NodeStep) (c : Cluster) → All IsKept steps → kept_of ((fold (after_step s) c steps).part n) ≡ fold with_fact (kept_of (c.part n)) (facts_at s c n steps)
steps_keep s n [] c kept = refl
steps_keep s n (step ∷ steps) c kept =
    steps_keep s n steps (after_step s c step) (All-tail IsKept step steps kept)
    ∙ ap (λ z. fold with_fact z (facts_at s (after_step s c step) n steps)) (step_keeps s n step (after_acts s c (acts_of s c step)) (All-head IsKept step steps kept) ∙ acts_keep s n (acts_of s c step) c)
    ∙ sym (fold-append with_fact (kept_of (c.part n)) (facts_of s c n (acts_of s c step)) (facts_at s (after_step s c step) n steps))

pub all_facts_suffice : AllFactsSuffice
all_facts_suffice s n steps kept = steps_keep s n steps new_cluster kept
