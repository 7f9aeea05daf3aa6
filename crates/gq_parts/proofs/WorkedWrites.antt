-- The worked case in tables: what the lines of a write do to them. The words on quorums are opened here to compute.
use Rattle.std.proofs.Common.{◌≡◌, ◌∙◌, ℕ, ◌+◌, ◌<◌, ◌^◌, Bool, true, false, List, [], ◌∷◌, ◌++◌, length, map, refl, sym, ap, subst, arith, Option, Some, None, inl, inr}
use Rattle.std.specs.Prelude.{nat_le, option_map}
use Rattle.std.specs.List.{flat_map}
use Rattle.std.specs.Option.{option_to_list}
use Rattle.std.proofs.lemmas.Bool.{cases_Bool, eq-eqb}
use Rattle.gq_grid.specs.Grid.{Servers, no_servers, with_server, has_column}
use Rattle.gq_grid.specs.Sets.{servers}
use Rattle.gq_grid.specs.declared.ServerSet.{ServerSet}
use Rattle.gq_grid.proofs.Same.{none_below}
use Rattle.gq_tag.specs.declared.StoredCopy.{StoredCopy}
use Rattle.gq_tag.specs.declared.Body.TheVariants.{Store, Stored}
use Rattle.gq_tag.specs.Tag.{File, is_less, message_of, first_copy, greatest, newer_of}
use Rattle.gq_phase.specs.declared.Outcome.{Outcome}
use Rattle.gq_phase.specs.declared.Outcome.TheVariants.{Wrote}
use Rattle.gq_phase.specs.declared.operation.Operation.{Operation as Code}
use Rattle.gq_phase.specs.declared.operation.Task.TheVariants.{Write as Writes}
use Rattle.gq_phase.specs.Phase.{Task, Writing, Reply, hear_reply, heard_servers, stored_copy}
use Rattle.gq_phase.specs.Quorums.{ends_store}
use Rattle.gq_phase.specs.Standing.{StandsFor}
use Rattle.gq_phase.proofs.Hearing.{heard_servers-hear}
use Rattle.gq_model.specs.declared.events.Line.TheVariants.{Write, Bad as NoLine}
use Rattle.gq_model.specs.Told.{Began, Round}
use Rattle.gq_model.specs.Trace.{Own, State, Session, operation_with}
use Rattle.gq_model.specs.Lone.{entry_of}
use Rattle.gq_cluster.specs.Facts.{OwnFact, Reserved, reserving, reserved_by, replaced_in}
use Rattle.gq_laws.proofs.Holding.{greatest-push}
use Rattle.gq_node.specs.declared.output.Answer.TheVariants.{Done}
use Rattle.gq_node.specs.declared.shorts.ShortBody.TheVariants.{Confirm}
use Rattle.gq_node.specs.Shorts.{short_with, short_as}
use Rattle.gq_node.specs.declared.session_states.SessionState.{SessionState}
use Rattle.gq_node.specs.Inputs.{Input, Asked, Brought, does}
use Rattle.gq_node.specs.Lacks.{lacks_in}
use Rattle.gq_node.specs.Local.{Local, Resident, Doing, state_for, goes_on, serves, copy_fits}
use Rattle.gq_node.specs.Tables.{SessionStateAgrees, Sits, fact_of}
use Rattle.gq_wire.specs.declared.incoming.Incoming.TheVariants.{Request, Letter}
use Rattle.gq_wire.specs.Texts.{told_line, short_line}
use Rattle.gq_parts.specs.AllNodes.{here_in}
use Rattle.gq_parts.specs.Texts.{sent_line}
use Rattle.gq_parts.specs.Worked.{grid_worked, file_worked, content, written}
use Rattle.gq_parts.proofs.Chains.{Move, Comes, comes_one, comes_alone, left_two, left_three}
use Rattle.gq_parts.proofs.Worked.{content_bytes, one_named, lacks_no_more}
use Rattle.gq_parts.proofs.WorkedSteps.{Leads, Steps, OptionFits, fits_options, is_idle}
use Rattle.gq_parts.proofs.WorkedTables.{file, View, Sees, no_set_is, first_set_is}
use Rattle.gq_parts.proofs.Writing.{home_site, other_site, resting, writing, home_local, other_local, ask, copy, store, stored, asked_step_is, storing, copy_step_is, home_stores, other_stores, noted, own_stored, done, same_yes, above_yes, within_two, within_three}

-- ---- the home between writes, and while it writes

-- what its tables have between writes: the file's copy, what is reserved for session 1, its last outcome, whether it has waited, and session 2
pub record Rest : Type 0 where
  pub copy : StoredCopy
  pub reserved : Reserved
  pub outcome : Option Outcome
  pub waited : Bool
  pub two : SessionState

abbrev pub home_view : StoredCopy → (one two : SessionState) → View
home_view copy one two = record { copy = copy; given = []; joined = record { bits = 0 }; peer = 0; one = one; two = two }

abbrev pub idle_one : (op : ℕ) → Reserved → Option Outcome → Bool → SessionState
idle_one op reserved outcome waited =
    record { op = op; floor = op; reserved_op = reserved.op; reserved_floor = reserved.floor; operation = None; outcome = outcome; row = 0; column = 0; waited = waited; stays = 0 }

abbrev pub idle_view : (op : ℕ) → Rest → View
idle_view op s = home_view s.copy (idle_one op s.reserved s.outcome s.waited) s.two

-- the write of this number in its store round, where these servers were heard
abbrev code_of : (op : ℕ) → ServerSet → Code
code_of op heard = record {
  alloc = record { memory = record { seal = tt } };
  grid = grid_worked.plan.grid;
  who = record { tenant = 0; session = 1; op = op };
  task = Writes content;
  file = file_worked;
  course = record { files = 1; collected = 1; collecting = false };
  heard = heard;
  best = None;
  givers = record { bits = 0 };
  stored = written op;
  rows = [];
  floor = op;
  done = false;
}

abbrev busy_one : (op : ℕ) → Reserved → ServerSet → SessionState
busy_one op reserved heard =
    record { op = op; floor = op; reserved_op = reserved.op; reserved_floor = reserved.floor; operation = Some (code_of op heard); outcome = None; row = 0; column = 0; waited = false; stays = 0 }

abbrev pub busy_view : (op : ℕ) → StoredCopy → Reserved → ServerSet → SessionState → View
busy_view op copy reserved heard two = home_view copy (busy_one op reserved heard) two

-- ---- the parts that such tables have

pub home_lacks : (f : File) → lacks_in [] f ≡ false
home_lacks f = rw (none_below f.volume) refl

-- the part of the home, in which session 1 is this one
abbrev home_with : Local → Resident → Local
home_with local r = home_local local.brought local.joined local.peer local.residents r

home_is : (c : StoredCopy) (one two : SessionState) (local : Local) (r : Resident) → Sees 0 3 (home_view c one two) local → local.residents 1 ≡ r → local ≡ home_with local r
home_is c one two local r sees is = λ j. record local { volumes = sym sees.volumes j; lacks = λ f. (sym (sees.lacks f) ∙ home_lacks f) j; residents = λ k. one_named local.residents r 1 k is j }

resting_is : (op : ℕ) (reserved : Reserved) (outcome : Option Outcome) (waited : Bool) (r : Resident) → SessionStateAgrees grid_worked.plan.grid 0 1 (idle_one op reserved outcome waited) r →
    r ≡ resting op r.session.round r.session.heard r.session.collected reserved outcome waited
resting_is op reserved outcome waited r agrees =
    let idle = is_idle 1 (idle_one op reserved outcome waited) r refl agrees in
    λ j. record {
      session = record { op = sym agrees.op j; current = idle.0 j; round = r.session.round; heard = r.session.heard; collected = r.session.collected; floor = sym idle.1 j };
      reserved = record { op = sym agrees.reserved_op j; floor = sym agrees.reserved_floor j };
      outcome = sym agrees.outcome j;
      row = sym agrees.row j;
      column = sym agrees.column j;
      waited = sym agrees.waited j;
      stays = sym agrees.stays j;
    }

-- the task, where there is an operation
record Has (code : Code) (s : Session) (c : Option Task) : Type 0 where
  task : Task
  is : c ≡ Some task
  stands : StandsFor grid_worked.plan.grid 0 code (operation_with 1 s task)

busy_task : (floor : ℕ) (code : Code) (s : Session) (c : Option Task) → Sits grid_worked.plan.grid 0 floor (Some code) s.floor (option_map (operation_with 1 s) c) → Has code s c
busy_task floor code s None sits = absurd sits
busy_task floor code s (Some task) sits = record { task = task; is = refl; stands = sits }

-- one copy was collected, and it is the last
one_collected : (c : StoredCopy) (cs : List StoredCopy) → 1 ≡ length cs → c ≡ stored_copy cs → cs ≡ c ∷ []
one_collected c [] many last = absurd (omega arith)
one_collected c (x ∷ []) many last = ap (λ y. y ∷ []) (sym last)
one_collected c (x ∷ y ∷ cs) many last = absurd (omega arith)

record IsWriting (op : ℕ) (reserved : Reserved) (heard : ServerSet) (r : Resident) : Type 0 where
  is : r ≡ writing op op 2 r.session.heard (written op ∷ []) reserved None false
  heard_is : servers heard ≡ heard_servers r.session.heard

writing_is : (op : ℕ) (reserved : Reserved) (heard : ServerSet) (r : Resident) → SessionStateAgrees grid_worked.plan.grid 0 1 (busy_one op reserved heard) r → IsWriting op reserved heard r
writing_is op reserved heard r agrees =
    let has : Has (code_of op heard) r.session r.session.current = busy_task op (code_of op heard) r.session r.session.current agrees.sits in
    let collected : r.session.collected ≡ written op ∷ [] = one_collected (written op) r.session.collected has.stands.collected has.stands.stored in
    record {
      is = λ j. record {
        session = record { op = sym agrees.op j; current = (has.is ∙ ap Some (sym has.stands.task)) j; round = sym has.stands.round j; heard = r.session.heard; collected = collected j; floor = sym has.stands.floor j };
        reserved = record { op = sym agrees.reserved_op j; floor = sym agrees.reserved_floor j };
        outcome = sym agrees.outcome j;
        row = sym agrees.row j;
        column = sym agrees.column j;
        waited = sym agrees.waited j;
        stays = sym agrees.stays j;
      };
      heard_is = has.stands.heard;
    }

-- the write in its store round, where none was heard yet
none_stands : (op : ℕ) → StandsFor grid_worked.plan.grid 0 (code_of op (record { bits = 0 })) (record { session = 1; op = op; task = Writing file content; round = 2; heard = []; collected = written op ∷ []; floor = op })
unfolding ends_store
none_stands op = record {
  going = refl;
  its_grid = refl;
  some = omega arith;
  its_tenant = refl;
  session = refl;
  op = refl;
  task = refl;
  file = refl;
  round = refl;
  collected = refl;
  heard = no_set_is;
  goes_on = refl;
  best = refl;
  givers = no_set_is;
  stored = refl;
  rows = refl;
  floor = refl;
}

-- and where the home's own server was heard
abbrev own_reply : Reply
own_reply = record { server = 0; body = Stored }

one_stands : (op : ℕ) → StandsFor grid_worked.plan.grid 0 (code_of op (record { bits = 1 })) (record { session = 1; op = op; task = Writing file content; round = 2; heard = own_reply ∷ []; collected = written op ∷ []; floor = op })
unfolding ends_store
one_stands op = record {
  going = refl;
  its_grid = refl;
  some = omega arith;
  its_tenant = refl;
  session = refl;
  op = refl;
  task = refl;
  file = refl;
  round = refl;
  collected = refl;
  heard = first_set_is ∙ sym (heard_servers-hear [] own_reply);
  goes_on = refl;
  best = refl;
  givers = no_set_is;
  stored = refl;
  rows = refl;
  floor = refl;
}

-- none was heard
none_heard : (heard : List Reply) → no_servers ≡ heard_servers heard → heard ≡ []
none_heard [] is = refl
none_heard (reply ∷ heard) is =
    let one : heard_servers (reply ∷ heard) reply.server ≡ true = rw (eq-eqb reply.server reply.server refl) refl in
    let no : false ≡ heard_servers (reply ∷ heard) reply.server = ap (λ (set : Servers). set reply.server) is in
    absurd (cc)

-- ---- what is reserved

abbrev first_fact : (i : ℕ) → Reserved → Option OwnFact
first_fact i r = reserving 1 r (Began (i + 1) 0 1) i

abbrev next_fact : (i : ℕ) → Reserved → Option OwnFact
next_fact i r = reserving 1 r (Round 2 (Some (written (i + 1)).tag) 0 2) (i + 1)

abbrev begun_by : (i : ℕ) → Reserved → Reserved
begun_by i r = reserved_by (first_fact i r) r

abbrev pub reserved_behind : (i : ℕ) → Reserved → Reserved
reserved_behind i r = reserved_by (next_fact i (begun_by i r)) (begun_by i r)

abbrev pub asked_facts : (i : ℕ) → Reserved → List (Option OwnFact)
asked_facts i r = first_fact i r ∷ next_fact i (begun_by i r) ∷ []

first_fits : (i : ℕ) (r : Reserved) → i + 1 < 2 ^ 32 → OptionFits (first_fact i r)
first_fits i r low = elim (cases_Bool (nat_le (i + 1) r.op)) [ inl is ↦ (rw is tt) | inr is ↦ (rw is (omega arith, omega arith)) ]

next_fits : (i : ℕ) (r : Reserved) → i + 1 < 2 ^ 32 → OptionFits (next_fact i r)
next_fits i r low = elim (cases_Bool (nat_le (i + 1) r.floor)) [ inl is ↦ (rw is tt) | inr is ↦ (rw is (omega arith, omega arith)) ]

-- the numbers that are reserved stay within their bounds
pub reserved_fits : (i : ℕ) (r : Reserved) → i + 1 < 2 ^ 32 → r.op < 2 ^ 32 → r.floor < 2 ^ 64 → ((reserved_behind i r).op < 2 ^ 32) × ((reserved_behind i r).floor < 2 ^ 64)
reserved_fits i r low op floor = elim (cases_Bool (nat_le (i + 1) r.op)) [
  | inl within ↦ (elim (cases_Bool (nat_le (i + 1) r.floor)) [ inl also ↦ (rw (within, also) (op, floor)) | inr above ↦ (rw (within, above) (op, omega arith)) ])
  | inr over ↦ (elim (cases_Bool (nat_le (i + 1) r.floor)) [ inl also ↦ (rw (over, also) (omega arith, floor)) | inr above ↦ (rw (over, above) (omega arith, omega arith)) ])
]

-- ---- the tenant asks, and the home asks and stores

pub asked_steps : (i : ℕ) (s : Rest) → i + 1 < 2 ^ 32 → s.copy.tag.number ≡ i → copy_fits 64 s.copy ≡ true →
    Steps 0 3 (idle_view i s) (busy_view (i + 1) s.copy (reserved_behind i s.reserved) (record { bits = 0 }) s.two) (Request 0 (i + 1) (Write 1 0 0 content)) (map (fact_of 0) (flat_map option_to_list (asked_facts i s.reserved)))
asked_steps i s low number fits = record {
  told = told;
  own = [];
  leads = λ bytes. leads;
  own_is = λ parts sees. refl;
  fit = fits_options facts (first_fits i s.reserved low, (next_fits i (begun_by i s.reserved) low, tt));
}
  where
    facts : List (Option OwnFact)
    facts = asked_facts i s.reserved

    told : List ℕ
    told = ((short_line grid_worked.plan 0 0 (short_with 0 (short_as (store (i + 1) 0) (Confirm (written (i + 1)).tag))) ++ (sent_line grid_worked.plan (here_in grid_worked 3 0) (message_of 0 (store (i + 1) 1)) ++ [])) ++ []) ++ []

    w : View
    w = busy_view (i + 1) s.copy (reserved_behind i s.reserved) (record { bits = 0 }) s.two

    one : Input
    one = Asked (i + 1) (Write 1 0 0 content)

    leads : (local : Local) → Sees 0 3 (idle_view i s) local → Leads 0 3 (idle_view i s) w (one ∷ []) (map (fact_of 0) (flat_map option_to_list facts)) told local
    leads local sees =
        let q : Resident = local.residents 1 in
        let r : Resident = resting i q.session.round q.session.heard q.session.collected s.reserved s.outcome s.waited in
        let h : Local = home_with local r in
        let is : local ≡ h = home_is s.copy (idle_one i s.reserved s.outcome s.waited) s.two local r sees (resting_is i s.reserved s.outcome s.waited q sees.one) in
        let c : StoredCopy = greatest (first_copy ∷ local.brought file) in
        let state : State = state_for home_site h 1 in
        let a : Doing = goes_on h 1 (i + 1) false state (entry_of state (Own (Write 1 0 0 content)) (record { told = Began (i + 1) 0 1; new = ask (i + 1) ∷ [] })) in
        let b : Doing = serves home_site a.local (ask (i + 1)) in
        let d : Doing = storing i c b.local in
        let moves : List Move = record { input = one; plain = λ site local. (refl, refl); doing = a } ∷ record { input = Brought 0 (ask (i + 1)); plain = λ site local. (refl, refl); doing = b } ∷ record { input = Brought 0 (copy (i + 1) c); plain = λ site local. (refl, refl); doing = d } ∷ [] in
        let a_is : does one home_site h ≡ a = asked_step_is i q.session.round local.brought local.joined local.peer local.residents q.session.heard q.session.collected s.reserved s.outcome s.waited in
        let b_is : does (Brought 0 (ask (i + 1))) home_site a.local ≡ b = refl in
        let d_is : does (Brought 0 (copy (i + 1) c)) home_site b.local ≡ d =
        copy_step_is i c b.local.brought b.local.joined b.local.peer h.residents (b.local.residents 1).reserved None false low (ap (λ (x : StoredCopy). x.tag.number) (sym sees.copy) ∙ number) (ap (copy_fits 64) (sym sees.copy) ∙ fits) in
        let comes : Comes grid_worked.plan (here_in grid_worked 3 0) 0 h (one ∷ []) moves =
        comes_one grid_worked.plan (here_in grid_worked 3 0) 0 h one moves
        (within_three home_site h one (ask (i + 1)) (copy (i + 1) c) a b d (λ site local. (refl, refl)) a_is refl b_is refl d_is refl)
        (left_three home_site h one (ask (i + 1)) (copy (i + 1) c) a b d (λ site local. (refl, refl)) a_is refl b_is refl d_is refl) (a_is, (b_is, (d_is, tt))) in
        let at : Leads 0 3 (idle_view i s) w (one ∷ []) (map (fact_of 0) (flat_map option_to_list facts)) told h = record {
          after = subst (Sees 0 3 w) (sym comes.after) (record {
            volumes = refl;
            copy = sees.copy;
            others = sees.others;
            lacks = home_lacks;
            joined = sees.joined;
            peer = sees.peer;
            one = record { op = refl; reserved_op = refl; reserved_floor = refl; sits = none_stands (i + 1); outcome = refl; row = refl; column = refl; waited = refl; stays = refl };
            two = sees.two;
          });
          facts_are = comes.facts;
          told_is = comes.text;
        } in
        subst (λ l. Leads 0 3 (idle_view i s) w (one ∷ []) (map (fact_of 0) (flat_map option_to_list facts)) told l) (sym is) at

-- ---- both servers store it

-- what a letter of the file that a server stores makes of its copies, which are these of other files
grows : (c d : StoredCopy) (copies : List StoredCopy) → c ≡ greatest (first_copy ∷ copies) → newer_of c d ≡ greatest (first_copy ∷ copies ++ d ∷ [])
grows c d copies is = ap (λ x. newer_of x d) is ∙ sym (greatest-push first_copy d copies)

-- the copy that was written, where it replaces this one
abbrev pub kept_facts : (i : ℕ) → StoredCopy → List (Option OwnFact)
kept_facts i c = replaced_in c file (Store (written (i + 1))) ∷ []

kept_fits : (c : StoredCopy) (i : ℕ) → i + 1 < 2 ^ 32 → OptionFits (replaced_in c file (Store (written (i + 1))))
kept_fits c i low = elim (cases_Bool (is_less c.tag (written (i + 1)).tag)) [
  | inl is ↦ (rw is (omega arith, omega arith, (omega arith, omega arith, content_bytes)))
  | inr is ↦ (rw is tt)
]

pub kept_steps : (i : ℕ) (c : StoredCopy) (reserved : Reserved) (two : SessionState) → i + 1 < 2 ^ 32 →
    Steps 0 3 (busy_view (i + 1) c reserved (record { bits = 0 }) two) (busy_view (i + 1) (newer_of c (written (i + 1))) reserved (record { bits = 1 }) two) (Letter 0 (message_of 0 (store (i + 1) 0))) (map (fact_of 0) (flat_map option_to_list (kept_facts i c)))
kept_steps i c reserved two low = record {
  told = [];
  own = [];
  leads = λ bytes. leads;
  own_is = λ parts sees. refl;
  fit = fits_options facts (kept_fits c i low, tt);
}
  where
    facts : List (Option OwnFact)
    facts = kept_facts i c

    v : View
    v = busy_view (i + 1) c reserved (record { bits = 0 }) two

    w : View
    w = busy_view (i + 1) (newer_of c (written (i + 1))) reserved (record { bits = 1 }) two

    one : Input
    one = Brought 0 (store (i + 1) 0)

    leads : (local : Local) → Sees 0 3 v local → Leads 0 3 v w (one ∷ []) (map (fact_of 0) (flat_map option_to_list facts)) [] local
    leads local sees =
        let q : Resident = local.residents 1 in
        let r : Resident = writing (i + 1) (i + 1) 2 [] (written (i + 1) ∷ []) reserved None false in
        let its : IsWriting (i + 1) reserved (record { bits = 0 }) q = writing_is (i + 1) reserved (record { bits = 0 }) q sees.one in
        let none : q.session.heard ≡ [] = none_heard q.session.heard (sym no_set_is ∙ its.heard_is) in
        let h : Local = home_with local r in
        let is : local ≡ h = home_is c (busy_one (i + 1) reserved (record { bits = 0 })) two local r sees (its.is ∙ ap (λ heard. writing (i + 1) (i + 1) 2 heard (written (i + 1) ∷ []) reserved None false) none) in
        let a : Doing = serves home_site h (store (i + 1) 0) in
        let b : Doing = noted i a.local in
        let moves : List Move = record { input = one; plain = λ site local. (refl, refl); doing = a } ∷ record { input = Brought 0 (stored (i + 1) 0); plain = λ site local. (refl, refl); doing = b } ∷ [] in
        let a_is : does one home_site h ≡ a = home_stores i local.brought local.joined local.peer local.residents r low in
        let b_is : does (Brought 0 (stored (i + 1) 0)) home_site a.local ≡ b = own_stored i a.local.brought a.local.joined a.local.peer local.residents reserved None false low in
        let comes : Comes grid_worked.plan (here_in grid_worked 3 0) 0 h (one ∷ []) moves =
        comes_one grid_worked.plan (here_in grid_worked 3 0) 0 h one moves
        (within_two home_site h one (stored (i + 1) 0) a b (λ site local. (refl, refl)) a_is refl b_is refl) (left_two home_site h one (stored (i + 1) 0) a b (λ site local. (refl, refl)) a_is refl b_is refl) (a_is, (b_is, tt)) in
        let at : Leads 0 3 v w (one ∷ []) (map (fact_of 0) (flat_map option_to_list facts)) [] h = record {
          after = subst (Sees 0 3 w) (sym comes.after) (record {
            volumes = refl;
            copy = grows c (written (i + 1)) (local.brought file) sees.copy;
            others = λ f other. (let same : a.local.brought f ≡ local.brought f = rw other refl in sees.others f other ∙ ap (λ cs. greatest (first_copy ∷ cs)) (sym same));
            lacks = home_lacks;
            joined = sees.joined;
            peer = sees.peer;
            one = record { op = refl; reserved_op = refl; reserved_floor = refl; sits = one_stands (i + 1); outcome = refl; row = refl; column = refl; waited = refl; stays = refl };
            two = sees.two;
          });
          facts_are = comes.facts ∙ ap (λ x. map (fact_of 0) (flat_map option_to_list (replaced_in x file (Store (written (i + 1))) ∷ []))) (sym sees.copy);
          told_is = comes.text;
        } in
        subst (λ l. Leads 0 3 v w (one ∷ []) (map (fact_of 0) (flat_map option_to_list facts)) [] l) (sym is) at

-- the other node, which was given the file
other_is : (v : View) (local : Local) → v.given ≡ (true ∷ []) ∷ [] → Sees 193 3 v local → local ≡ other_local local.brought local.lacks local.joined local.peer local.residents
other_is v local given sees =
    let has : local.lacks file ≡ false = sym (sees.lacks file) ∙ ap (λ g. lacks_in g file) given in
    λ j. record local { volumes = sym sees.volumes j; lacks = λ f. lacks_no_more local.lacks f has j }

pub other_steps : (i : ℕ) (v : View) → i + 1 < 2 ^ 32 → v.given ≡ (true ∷ []) ∷ [] → Steps 193 3 v (record v { copy = newer_of v.copy (written (i + 1)) }) (Letter 0 (message_of 0 (store (i + 1) 1))) (map (fact_of 0) (flat_map option_to_list (kept_facts i v.copy)))
other_steps i v low given = record {
  told = told;
  own = [];
  leads = λ bytes. leads;
  own_is = λ parts sees. refl;
  fit = fits_options facts (kept_fits v.copy i low, tt);
}
  where
    facts : List (Option OwnFact)
    facts = kept_facts i v.copy

    told : List ℕ
    told = (flat_map (sent_line grid_worked.plan (here_in grid_worked 3 193)) (message_of 0 (stored (i + 1) 1) ∷ []) ++ []) ++ []

    w : View
    w = record v { copy = newer_of v.copy (written (i + 1)) }

    one : Input
    one = Brought 0 (store (i + 1) 1)

    leads : (local : Local) → Sees 193 3 v local → Leads 193 3 v w (one ∷ []) (map (fact_of 0) (flat_map option_to_list facts)) told local
    leads local sees =
        let h : Local = other_local local.brought local.lacks local.joined local.peer local.residents in
        let is : local ≡ h = other_is v local given sees in
        let a : Doing = serves other_site h (store (i + 1) 1) in
        let moves : List Move = record { input = one; plain = λ site local. (refl, refl); doing = a } ∷ [] in
        let a_is : does one other_site h ≡ a = other_stores i local.brought local.lacks local.joined local.peer local.residents low in
        let comes : Comes grid_worked.plan (here_in grid_worked 3 193) 0 h (one ∷ []) moves = comes_alone grid_worked.plan (here_in grid_worked 3 193) 0 h moves (a_is, tt) (refl, tt) in
        let at : Leads 193 3 v w (one ∷ []) (map (fact_of 0) (flat_map option_to_list facts)) told h = record {
          after = subst (Sees 193 3 w) (sym comes.after) (record {
            volumes = refl;
            copy = grows v.copy (written (i + 1)) (local.brought file) sees.copy;
            others = λ f other. (let same : a.local.brought f ≡ local.brought f = rw other refl in sees.others f other ∙ ap (λ cs. greatest (first_copy ∷ cs)) (sym same));
            lacks = λ f. sees.lacks f ∙ ap (λ (l : Local). l.lacks f) is;
            joined = sees.joined;
            peer = sees.peer;
            one = sees.one;
            two = sees.two;
          });
          facts_are = comes.facts ∙ ap (λ x. map (fact_of 0) (flat_map option_to_list (replaced_in x file (Store (written (i + 1))) ∷ []))) (sym sees.copy);
          told_is = comes.text;
        } in
        subst (λ l. Leads 193 3 v w (one ∷ []) (map (fact_of 0) (flat_map option_to_list facts)) told l) (sym is) at

-- ---- the write is done

-- the other server's reply ends the round, where the home's own was heard, whatever else was
ends_it : (heard : List Reply) → with_server 0 no_servers ≡ heard_servers heard → ends_store grid_worked.plan.grid (heard_servers (hear_reply heard (record { server = 1; body = Stored }))) ≡ true
unfolding ends_store
ends_it heard is =
    let set : heard_servers (hear_reply heard (record { server = 1; body = Stored })) ≡ with_server 1 (with_server 0 no_servers) = heard_servers-hear heard (record { server = 1; body = Stored }) ∙ ap (with_server 1) (sym is) in
    ap (λ (x : Servers). has_column grid_worked.plan.grid x) set

last_stored : (i : ℕ) (heard : List Reply) (copies : File → List StoredCopy) (joined : Servers) (peer : ℕ) (others : ℕ → Resident) (reserved : Reserved) →
    let local : Local = home_local copies joined peer others (writing (i + 1) (i + 1) 2 heard (written (i + 1) ∷ []) reserved None false) in
    i + 1 < 2 ^ 32 → with_server 0 no_servers ≡ heard_servers heard → does (Brought 193 (stored (i + 1) 1)) home_site local ≡ done i local
last_stored i heard copies joined peer others reserved low is = rw (above_yes (i + 1) low, same_yes (i + 1), ends_it heard is) refl

pub done_steps : (i : ℕ) (c : StoredCopy) (reserved : Reserved) (two : SessionState) → i + 1 < 2 ^ 32 →
    Steps 0 3 (busy_view (i + 1) c reserved (record { bits = 1 }) two) (idle_view (i + 1) (record { copy = c; reserved = reserved; outcome = Some (Wrote 1 (i + 1) (written (i + 1)).tag); waited = false; two = two })) (Letter 193 (message_of 0 (stored (i + 1) 1))) []
done_steps i c reserved two low = record {
  told = told;
  own = [];
  leads = λ bytes. leads;
  own_is = λ parts sees. refl;
  fit = fits_options [] tt;
}
  where
    outcome : Outcome
    outcome = Wrote 1 (i + 1) (written (i + 1)).tag

    told : List ℕ
    told = told_line grid_worked.plan 0 0 NoLine (Done outcome) ++ [] ++ []

    v : View
    v = busy_view (i + 1) c reserved (record { bits = 1 }) two

    w : View
    w = idle_view (i + 1) (record { copy = c; reserved = reserved; outcome = Some outcome; waited = false; two = two })

    one : Input
    one = Brought 193 (stored (i + 1) 1)

    leads : (local : Local) → Sees 0 3 v local → Leads 0 3 v w (one ∷ []) [] told local
    leads local sees =
        let q : Resident = local.residents 1 in
        let its : IsWriting (i + 1) reserved (record { bits = 1 }) q = writing_is (i + 1) reserved (record { bits = 1 }) q sees.one in
        let h : Local = home_with local (writing (i + 1) (i + 1) 2 q.session.heard (written (i + 1) ∷ []) reserved None false) in
        let is : local ≡ h = home_is c (busy_one (i + 1) reserved (record { bits = 1 })) two local (writing (i + 1) (i + 1) 2 q.session.heard (written (i + 1) ∷ []) reserved None false) sees its.is in
        let a : Doing = done i h in
        let moves : List Move = record { input = one; plain = λ site local. (refl, refl); doing = a } ∷ [] in
        let a_is : does one home_site h ≡ a = last_stored i q.session.heard local.brought local.joined local.peer local.residents reserved low (sym first_set_is ∙ its.heard_is) in
        let comes : Comes grid_worked.plan (here_in grid_worked 3 0) 0 h (one ∷ []) moves = comes_alone grid_worked.plan (here_in grid_worked 3 0) 0 h moves (a_is, tt) (refl, tt) in
        let at : Leads 0 3 v w (one ∷ []) [] told h = record {
          after = subst (Sees 0 3 w) (sym comes.after) (record {
            volumes = refl;
            copy = sees.copy;
            others = sees.others;
            lacks = home_lacks;
            joined = sees.joined;
            peer = sees.peer;
            one = record { op = refl; reserved_op = refl; reserved_floor = refl; sits = refl; outcome = refl; row = refl; column = refl; waited = refl; stays = refl };
            two = sees.two;
          });
          facts_are = comes.facts;
          told_is = comes.text;
        } in
        subst (λ l. Leads 0 3 v w (one ∷ []) [] told l) (sym is) at
