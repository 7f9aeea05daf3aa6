-- What a node does is an act of the law of clusters, or nothing.
use Rattle.std.proofs.Common.{◌≡◌, ◌∙◌, ℕ, Bool, true, false, List, [], ◌∷◌, length, refl, sym, ap, subst, Option, Some, None, inl, inr}
use Rattle.std.specs.Prelude.{option_map, is_some, is_none, ◌&&◌, ◌==◌, if◌then◌else◌}
use Rattle.std.proofs.lemmas.Bool.{cases_Bool, eqb-true, and_parts}
use Rattle.gq_grid.specs.Grid.{Grid, Servers}
use Rattle.gq_tag.specs.declared.StoredCopy.{StoredCopy}
use Rattle.gq_tag.specs.declared.Body.{Body}
use Rattle.gq_tag.specs.declared.Body.TheVariants.{Ask, Copy, Store, Stored}
use Rattle.gq_tag.specs.Tag.{File, OwnMessage, to_server}
use Rattle.gq_phase.specs.Phase.{Task, Operation, Heard, HeardStale, HeardNoted, HeardNext, HeardDone, hear, is_collect, round_quorum, resent, heard_servers}
use Rattle.gq_model.specs.declared.events.Line.{Line}
use Rattle.gq_model.specs.declared.events.Line.TheVariants.{Write, Read, List as ListFiles, Retry, Abandon}
use Rattle.gq_model.specs.declared.events.Refusal.{Refusal}
use Rattle.gq_model.specs.declared.events.Refusal.TheVariants.{Idle, NoQuorum}
use Rattle.gq_model.specs.Told.{Told, Resent, Refused}
use Rattle.gq_model.specs.Trace.{Own, Entry, State, Session, Deed, Elsewhere, changed, deed, session_by, operation, operation_with, limit_at, stored_by, serves as model_serves}
use Rattle.gq_model.specs.Lone.{Step, is_refusal, entry_of, asked_step, hear_step, serve_step, heard_step, retry_step, session_causes, first_cause, unless, quiet as quiet_step}
use Rattle.gq_cluster.specs.Facts.{OwnFact, Reserved, reserving, reserved_by, with_reserved, replaced_in}
use Rattle.gq_cluster.specs.Cluster.{Setting, Part, Act, Asks, Comes, everyone, copy_in, part_of, step_of, fact_in, fact_of, part_after, act_entry, aim_of, session_named, state_of as state_of_part}
use Rattle.gq_cluster.proofs.Parts.{refused_quiet}
use Rattle.gq_cluster.proofs.Reserving.{IsOfNumbers, reserves_numbers, reserved_is, replaced_none}
use Rattle.gq_node.specs.declared.output.Answer.{Answer}
use Rattle.gq_node.specs.declared.output.Answer.TheVariants.{Bad as IsBad}
use Rattle.gq_node.specs.declared.output.Admission.{Admission}
use Rattle.gq_node.specs.declared.output.Admission.TheVariants.{Tells, Passes, Goes}
use Rattle.gq_node.specs.Local.{Local, Resident, Doing, part_in, state_of, state_for, state_behind, aim_at, aim_behind, tries_next, answer_of, asker, begins, admission_in, asks, asked_by, goes_on, with_resident, tells, silently, session_fact, receives, serves, hears, brings, ticks, waits_on, outcome_after, waits_after, letter_fits, goes_between, has_above, of_round}
use Rattle.gq_node.specs.Shorts.{OwnShort, letter_with, column_of, takes_short}
use Rattle.gq_node.specs.Sites.{Site, has_session}
use Rattle.gq_node.specs.Columns.{stays_after}
use Rattle.gq_node.specs.Bridge.{setting_in, AtHome, request_act, request_answer, letter_act, waited_act, tick_act, hear_act, short_act, short_tell, Bridges, AllRequestsAct, AllQuestionsTell, AllLooksTell, AllLettersAct, AllTicksAct}
use Rattle.gq_node.proofs.Placing.{is_number}
use Rattle.gq_node.proofs.Asking.{goes_home}
use Rattle.gq_node.proofs.Ticking.{busy_is}
use Rattle.gq_node.proofs.Receiving.{Parts, parts, its_server, to_a_session}
use Rattle.gq_node.proofs.Shortening.{by_arms}

-- ---- the same with other words

bridged_as : (site : Site) (local : Local) (act act' : Option Act) (answer answer' : Option Answer) (tell : Told → Option Answer) (doing doing' : Doing) → act ≡ act' → answer ≡ answer' → doing ≡ doing' →
    Bridges site local act' answer' tell doing' → Bridges site local act answer tell doing
bridged_as site local act act' answer answer' tell doing doing' a n d h =
    subst (λ x. Bridges site local x answer tell doing) (sym a) (subst (λ x. Bridges site local act' x tell doing) (sym n) (subst (λ (x : Doing). Bridges site local act' answer' tell x) (sym d) h))

-- ---- the sessions

-- another resident of a session whose home is here
home_with : (site : Site) (local : Local) (k : ℕ) (r : Resident) → has_session site k ≡ true → site.home k ≡ site.here → AtHome site local → AtHome site (with_resident local k r)
home_with site local k r inside here home j some = elim (cases_Bool (k == j)) [
  | inl same ↦ (let is : k ≡ j = eqb-true k j same in (ap (has_session site) (sym is) ∙ inside, ap site.home (sym is) ∙ here))
  | inr other ↦ (home j (rw other at some))
]

-- a session goes on, and all else stays
goes_part : (local : Local) (k op n : ℕ) (heard_before : Bool) (up : Servers) (e : Entry) (fact : Option OwnFact) → fact ≡ session_fact local k (state_of up local) e →
    ((j : ℕ) → (k == j) ≡ false → (changed e (state_of up local)).session j ≡ (local.residents j).session) →
    ((file : File) → (changed e (state_of up local)).brought n file ≡ local.brought file) → ((file : File) → (changed e (state_of up local)).lacks n file ≡ local.lacks file) →
    part_in (goes_on local k op heard_before (state_of up local) e).local ≡ part_of n (with_reserved fact (part_in local).reserved) (changed e (state_of up local))
goes_part local k op n heard_before up e fact its others copies whole = λ i. record { brought = λ file. sym (copies file) i; lacks = λ file. sym (whole file) i; session = λ j. by j (k == j) refl i; reserved = λ j. reserved j i }
  where
    by : (j : ℕ) (b : Bool) → (k == j) ≡ b → (part_in (goes_on local k op heard_before (state_of up local) e).local).session j ≡ (changed e (state_of up local)).session j
    by j true is = rw is (ap (λ x. (changed e (state_of up local)).session x) (eqb-true k j is))
    by j false is = rw is (sym (others j is))

    numbers : IsOfNumbers k (session_fact local k (state_of up local) e)
    numbers = reserves_numbers k (local.residents k).reserved e.told ((changed e (state_of up local)).session k).floor

    resident : (j : ℕ) (b : Bool) → (k == j) ≡ b → (part_in (goes_on local k op heard_before (state_of up local) e).local).reserved j
        ≡ (if k == j then reserved_by (session_fact local k (state_of up local) e) (local.residents k).reserved else (local.residents j).reserved)
    resident j true is = rw is refl
    resident j false is = rw is refl

    reserved : (j : ℕ) → (part_in (goes_on local k op heard_before (state_of up local) e).local).reserved j ≡ with_reserved fact (part_in local).reserved j
    reserved j =
        resident j (k == j) refl
        ∙ sym (reserved_is (session_fact local k (state_of up local) e) k j (part_in local).reserved numbers)
        ∙ ap (λ (z : Option OwnFact). with_reserved z (part_in local).reserved j) (sym its)

-- the resident that goes on
abbrev went : Local → ℕ → Bool → State → Entry → Resident
went local k heard_before state e = record (local.residents k) {
  session = (changed e state).session k;
  reserved = reserved_by (session_fact local k state e) (local.residents k).reserved;
  outcome = outcome_after e.told (local.residents k).outcome;
  waited = waits_after e.told heard_before (local.residents k).waited;
  stays = stays_after e.told (local.residents k).stays;
}

accepted : (s : Setting) (n : ℕ) (part : Part) (act : Act) → is_refusal (step_of s part act).told ≡ false →
    part_after s n part act ≡ part_of n (with_reserved (fact_of s part act) part.reserved) (changed (act_entry act (step_of s part act)) (state_of_part s.volumes (aim_of act) part))
accepted s n part act is = rw is refl

refused : (s : Setting) (n : ℕ) (part : Part) (act : Act) → is_refusal (step_of s part act).told ≡ true → part_after s n part act ≡ part
refused s n part act is = rw is refl

-- ---- a request

-- the line is a request of its session
record IsRequestLine (line : Line) : Type 0 where
  its : asker line ≡ Some (session_named line)
  entry : (state : State) (aim : Servers) (step : Step) → entry_of state (Own line) step ≡ act_entry (Asks line aim) step
  others : (aim : Servers) (step : Step) (j : ℕ) → (session_named line == j) ≡ false → deed j (act_entry (Asks line aim) step) ≡ Elsewhere
  quiet : (up : Servers) (local : Local) (aim : Servers) (step : Step) (n : ℕ) (file : File) → (changed (act_entry (Asks line aim) step) (state_of up local)).brought n file ≡ local.brought file

asked_act : (op : ℕ) (line : Line) (site : Site) (local : Local) → IsRequestLine line → AtHome site local → has_session site (session_named line) ≡ true → site.home (session_named line) ≡ site.here →
    let k : ℕ = session_named line in
    let state : State = state_for site local k in
    Bridges site local (Some (Asks line (aim_at site.grid (local.residents k)))) None (answer_of k op (local.residents k).session.op) (asked_by local k op state line (asked_step site.grid site.row state line))
asked_act op line site local l home inside here = elim (cases_Bool (is_refusal step.told)) [
  | inl is ↦ (record {
    does = record {
      here = here;
      part = ap (λ (d : Doing). part_in d.local) (said_no is) ∙ sym (refused s site.place (part_in local) act is);
      letters = ap (λ (d : Doing). d.letters) (said_no is) ∙ sym (refused_quiet site.grid site.row state act is);
      told = ap (λ (d : Doing). d.answer) (said_no is);
    };
    volumes = ap (λ (d : Doing). d.local.volumes) (said_no is);
    transfer = ap (λ (d : Doing). d.transfer) (said_no is);
    home = subst (λ (d : Doing). AtHome site d.local) (sym (said_no is)) home;
  })
  | inr is ↦ (record {
    does = record {
      here = here;
      part = ap (λ (d : Doing). part_in d.local) (said_so is)
          ∙ goes_part local k op site.place false aim (act_entry act step) (fact_of s (part_in local) act) refl
          (λ j other. ap (λ d. session_by' j d) (l.others aim step j other)) (l.quiet aim local aim step site.place) (λ file. refl)
          ∙ sym (accepted s site.place (part_in local) act is);
      letters = ap (λ (d : Doing). d.letters) (said_so is);
      told = ap (λ (d : Doing). d.answer) (said_so is);
    };
    volumes = ap (λ (d : Doing). d.local.volumes) (said_so is);
    transfer = ap (λ (d : Doing). d.transfer) (said_so is);
    home = subst (λ (d : Doing). AtHome site d.local) (sym (said_so is)) (home_with site local k (went local k false state (act_entry act step)) inside here home);
  })
]
  where
    k : ℕ
    k = session_named line

    s : Setting
    s = setting_in site local

    aim : Servers
    aim = aim_at site.grid (local.residents k)

    act : Act
    act = Asks line aim

    state : State
    state = state_for site local k

    step : Step
    step = asked_step site.grid site.row state line

    session_by' : ℕ → Deed → Session
    session_by' j d = session_by local.volumes j d (local.residents j).session

    said_no : is_refusal step.told ≡ true → asked_by local k op state line step ≡ record { local = local; answer = answer_of k op (local.residents k).session.op step.told; letters = []; transfer = None; fact = None }
    said_no is = rw is refl

    said_so : is_refusal step.told ≡ false → asked_by local k op state line step ≡ goes_on local k op false state (act_entry act step)
    said_so is = (rw is refl) ∙ ap (goes_on local k op false state) (l.entry state aim step)

request_in : (op : ℕ) (line : Line) (site : Site) (local : Local) → IsRequestLine line → AtHome site local →
    Bridges site local (request_act op line site local) (request_answer op line site local) (answer_of (session_named line) op (local.residents (session_named line)).session.op) (asks op line site local)
request_in op line site local l home = by (admission_in site local k op (begins line)) refl
  where
    k : ℕ
    k = session_named line

    tell : Told → Option Answer
    tell = answer_of k op (local.residents k).session.op

    its : asker line ≡ Some k
    its = l.its

    by : (g : Admission) → admission_in site local k op (begins line) ≡ g → Bridges site local (request_act op line site local) (request_answer op line site local) tell (asks op line site local)
    by (Tells answer) is =
        let act : request_act op line site local ≡ None = rw (its, is) refl in
        let told : request_answer op line site local ≡ Some answer = rw (its, is) refl in
        let doing : asks op line site local ≡ tells local answer = rw (its, is) refl in
        bridged_as site local (request_act op line site local) None (request_answer op line site local) (Some answer) tell (asks op line site local) (tells local answer) act told doing
        (record { does = record { part = refl; letters = refl; told = refl }; volumes = refl; transfer = refl; home = home })
    by Passes is =
        let act : request_act op line site local ≡ None = rw (its, is) refl in
        let told : request_answer op line site local ≡ None = rw (its, is) refl in
        let doing : asks op line site local ≡ silently local = rw (its, is) refl in
        bridged_as site local (request_act op line site local) None (request_answer op line site local) None tell (asks op line site local) (silently local) act told doing
        (record { does = record { part = refl; letters = refl; told = refl }; volumes = refl; transfer = refl; home = home })
    by Goes is =
        let state : State = state_for site local k in
        let one : Act = Asks line (aim_at site.grid (local.residents k)) in
        let done : Doing = asked_by local k op state line (asked_step site.grid site.row state line) in
        let act : request_act op line site local ≡ Some one = rw (its, is) refl in
        let told : request_answer op line site local ≡ None = rw (its, is) refl in
        let doing : asks op line site local ≡ done = rw (its, is) refl in
        let there = goes_home site k op (local.residents k).session.op (begins line) (is_some (local.residents k).session.current) (local.residents k).outcome is in
        bridged_as site local (request_act op line site local) (Some one) (request_answer op line site local) None tell (asks op line site local) done act told doing
        (asked_act op line site local l home there.0 (eqb-true (site.home k) site.here there.1))

-- a line that is none
no_request : (op : ℕ) (line : Line) (site : Site) (local : Local) (tell : Told → Option Answer) → asker line ≡ None → AtHome site local →
    Bridges site local (request_act op line site local) (request_answer op line site local) tell (asks op line site local)
no_request op line site local tell none home =
    let act : request_act op line site local ≡ None = rw none refl in
    let told : request_answer op line site local ≡ Some IsBad = rw none refl in
    let doing : asks op line site local ≡ tells local IsBad = rw none refl in
    bridged_as site local (request_act op line site local) None (request_answer op line site local) (Some IsBad) tell (asks op line site local) (tells local IsBad) act told doing
    (record { does = record { part = refl; letters = refl; told = refl }; volumes = refl; transfer = refl; home = home })

pub all_requests_act : AllRequestsAct
all_requests_act op (Write k v f bytes) site local home =
    request_in op (Write k v f bytes) site local (record { its = refl; entry = λ state aim step. refl; others = λ aim step j other. rw other refl; quiet = λ up local aim step n file. refl }) home
all_requests_act op (Read k v f) site local home =
    request_in op (Read k v f) site local (record { its = refl; entry = λ state aim step. refl; others = λ aim step j other. rw other refl; quiet = λ up local aim step n file. refl }) home
all_requests_act op (ListFiles k v) site local home =
    request_in op (ListFiles k v) site local (record { its = refl; entry = λ state aim step. refl; others = λ aim step j other. rw other refl; quiet = λ up local aim step n file. refl }) home
all_requests_act op (Abandon k) site local home =
    request_in op (Abandon k) site local (record { its = refl; entry = λ state aim step. refl; others = λ aim step j other. rw other refl; quiet = λ up local aim step n file. refl }) home
all_requests_act op line site local home = no_request op line site local _ refl home

-- ---- a letter

passes : (site : Site) (local : Local) (act : Option Act) (tell : Told → Option Answer) (doing : Doing) → act ≡ None → doing ≡ silently local → AtHome site local → Bridges site local act None tell doing
passes site local act tell doing none is home =
    bridged_as site local act None None None tell doing (silently local) none refl is (record { does = record { part = refl; letters = refl; told = refl }; volumes = refl; transfer = refl; home = home })

-- to the server
served_act : (site : Site) (local : Local) (m : OwnMessage) (tell : Told → Option Answer) → to_server m.body ≡ true → m.server ≡ site.place → local.lacks m.file ≡ false → AtHome site local →
    Bridges site local (Some (Comes m everyone)) None (answer_of m.session (local.residents m.session).session.op (local.residents m.session).session.op) (serves site local m)
served_act site local m tell goes here has home = record {
  does = record {
    here = rw goes here;
    part = (λ i. record { brought = (changed (brings m step) state).brought site.place; lacks = local.lacks; session = λ k. sym (sessions k) i; reserved = λ k. sym (reserved k) i })
        ∙ sym (ap (λ (z : Step). part_of site.place (with_reserved (fact_of s (part_in local) act) (part_in local).reserved) (changed (act_entry act z) state)) law_step) ∙ sym law_part;
    letters = ap (λ (z : Step). z.new) (sym law_step);
    told = nothing ∙ ap (λ (z : Step). answer_of m.session (local.residents m.session).session.op (local.residents m.session).session.op z.told) (sym law_step);
  };
  volumes = refl;
  transfer = refl;
  home = home;
}
  where
    act : Act
    act = Comes m everyone

    s : Setting
    s = setting_in site local

    state : State
    state = state_of everyone local

    step : Step
    step = serve_step state m

    law_step : step_of s (part_in local) act ≡ step
    law_step = rw goes refl

    nothing : None ≡ answer_of m.session (local.residents m.session).session.op (local.residents m.session).session.op step.told
    nothing = rw has refl

    accepts : is_refusal (step_of s (part_in local) act).told ≡ false
    accepts = ap (λ (z : Step). is_refusal z.told) law_step ∙ (let h : is_refusal step.told ≡ false = rw has refl in h)

    law_part : part_after s site.place (part_in local) act ≡ part_of site.place (with_reserved (fact_of s (part_in local) act) (part_in local).reserved) (changed (act_entry act (step_of s (part_in local) act)) state)
    law_part = accepted s site.place (part_in local) act accepts
        ∙ ap (λ up. part_of site.place (with_reserved (fact_of s (part_in local) act) (part_in local).reserved) (changed (act_entry act (step_of s (part_in local) act)) (state_of up local))) aims
      where
        aims : aim_of act ≡ everyone
        aims = rw goes refl

    fact : Bool → Option OwnFact
    fact b = if b then (if local.lacks m.file then None else replaced_in (copy_in (part_in local) m.file) m.file m.body) else fact_in s (part_in local) act m.session

    reserved : (k : ℕ) → with_reserved (fact (to_server m.body)) (part_in local).reserved k ≡ (local.residents k).reserved
    reserved k = ap (λ b. with_reserved (fact b) (part_in local).reserved k) goes ∙ ap (λ b. with_reserved (if b then None else replaced_in (copy_in (part_in local) m.file) m.file m.body) (part_in local).reserved k) has ∙ replaced_none (copy_in (part_in local) m.file) m.file m.body (part_in local).reserved k

    sessions : (k : ℕ) → (changed (brings m step) state).session k ≡ (local.residents k).session
    sessions k = rw goes refl

-- to a session
heard_fine : (first : ℕ) (h : Heard) → is_refusal (heard_step first h).told ≡ false
heard_fine first HeardStale = refl
heard_fine first HeardNoted = refl
heard_fine first (HeardNext round tag messages) = refl
heard_fine first (HeardDone outcome) = refl

hear_fine : (grid : Grid) (state : State) (m : OwnMessage) (o : Option Operation) → is_refusal (hear_step grid state m o).told ≡ false
hear_fine grid state m None = refl
hear_fine grid state m (Some o) = heard_fine _ (hear grid state.up o m)

reply_brings : (serving : ℕ → File → Bool) (session op round server : ℕ) (file : File) (body : Body) (before : ℕ → File → List StoredCopy) (n : ℕ) (f : File) → to_server body ≡ false →
    stored_by serving (Some (record { session = session; op = op; round = round; server = server; file = file; body = body })) before n f ≡ before n f
reply_brings serving session op round server file Ask before n f goes = absurd (cc)
reply_brings serving session op round server file (Copy copy) before n f goes = refl
reply_brings serving session op round server file (Store copy) before n f goes = absurd (cc)
reply_brings serving session op round server file Stored before n f goes = refl

heard_act : (site : Site) (local : Local) (m : OwnMessage) → to_server m.body ≡ false → has_session site m.session ≡ true → site.home m.session ≡ site.here → AtHome site local →
    let k : ℕ = m.session in
    let state : State = state_behind site local m in
    Bridges site local (Some (Comes m (aim_behind site local m))) None (answer_of k (local.residents k).session.op (local.residents k).session.op)
    (goes_on local k (local.residents k).session.op (heard_servers (local.residents k).session.heard m.server) state (brings m (hear_step site.grid state m (operation state k))))
heard_act site local m goes inside here home = record {
  does = record {
    here = rw goes here;
    part = goes_part local k last site.place heard_before aim (brings m step) (fact_of s (part_in local) act) its_fact (λ j other. rw (goes, other) refl) (λ file. reply_brings (model_serves aim (λ server. local.lacks)) m.session m.op m.round m.server m.file m.body state.brought site.place file goes) (λ file. refl)
        ∙ sym (ap (λ (z : Step). part_of site.place (with_reserved (fact_of s (part_in local) act) (part_in local).reserved) (changed (act_entry act z) state)) law_step) ∙ sym law_part;
    letters = ap (λ (z : Step). z.new) (sym law_step);
    told = ap (λ (z : Step). answer_of k last last z.told) (sym law_step);
  };
  volumes = refl;
  transfer = refl;
  home = home_with site local k (went local k heard_before state (brings m step)) inside here home;
}
  where
    k : ℕ
    k = m.session

    last : ℕ
    last = (local.residents k).session.op

    heard_before : Bool
    heard_before = heard_servers (local.residents k).session.heard m.server

    aim : Servers
    aim = aim_behind site local m

    act : Act
    act = Comes m aim

    s : Setting
    s = setting_in site local

    state : State
    state = state_behind site local m

    step : Step
    step = hear_step site.grid state m (operation state k)

    law_step : step_of s (part_in local) act ≡ step
    law_step = rw goes refl

    accepts : is_refusal (step_of s (part_in local) act).told ≡ false
    accepts = ap (λ (z : Step). is_refusal z.told) law_step ∙ hear_fine site.grid state m (operation state k)

    fact : Bool → Option OwnFact
    fact b = if b then (if local.lacks m.file then None else replaced_in (copy_in (part_in local) m.file) m.file m.body) else fact_in s (part_in local) act k

    aims : aim_of act ≡ aim
    aims = rw goes refl

    fact_at : Servers → Step → Option OwnFact
    fact_at up z = reserving k (local.residents k).reserved z.told ((changed (act_entry act z) (state_of up local)).session k).floor

    its_fact : fact_of s (part_in local) act ≡ session_fact local k state (brings m step)
    its_fact = ap fact goes ∙ (λ i. fact_at (aims i) (law_step i))

    law_part : part_after s site.place (part_in local) act ≡ part_of site.place (with_reserved (fact_of s (part_in local) act) (part_in local).reserved) (changed (act_entry act (step_of s (part_in local) act)) state)
    law_part = accepted s site.place (part_in local) act accepts
        ∙ ap (λ up. part_of site.place (with_reserved (fact_of s (part_in local) act) (part_in local).reserved) (changed (act_entry act (step_of s (part_in local) act)) (state_of up local))) aims

pub all_letters_act : AllLettersAct
all_letters_act from m site local home = elim (cases_Bool (letter_fits site (limit_at (state_of everyone local) m.file.volume m.file.place) from m)) [
  | inr not ↦ (passes site local (letter_act from m site local) tell (receives from m site local) (rw not refl) (rw not refl) home)
  | inl fits ↦ (
      let p : Parts site (limit_at (state_of everyone local) m.file.volume m.file.place) from m = parts site (limit_at (state_of everyone local) m.file.volume m.file.place) from m fits in
      elim (cases_Bool (to_server m.body)) [
        | inl goes ↦ (elim (cases_Bool (local.lacks m.file)) [
          | inl lacks ↦ (passes site local (letter_act from m site local) tell (receives from m site local) (rw (fits, goes, lacks) refl) (rw (fits, goes, lacks) refl) home)
          | inr has ↦ (bridged_as site local (letter_act from m site local) (Some (Comes m everyone)) None None tell (receives from m site local) (serves site local m) (rw (fits, goes, has) refl) refl (rw (fits, goes, has) refl)
              (served_act site local m tell goes (its_server site from m goes p.between) has home))
        ])
        | inr goes ↦ (elim (cases_Bool (has_above (local.residents m.session).session.floor && of_round (operation (state_for site local m.session) m.session) m.file)) [
          | inr deaf ↦ (passes site local (letter_act from m site local) tell (receives from m site local) (rw (fits, goes, deaf) refl) (rw (fits, goes, deaf) refl) home)
          | inl hears' ↦ (
              let k : ℕ = m.session in
              let state : State = state_behind site local m in
              bridged_as site local (letter_act from m site local) (Some (Comes m (aim_behind site local m))) None None tell (receives from m site local)
              (goes_on local k (local.residents k).session.op (heard_servers (local.residents k).session.heard m.server) state (brings m (hear_step site.grid state m (operation state k))))
              (rw (fits, goes, hears') refl) refl (to_a_session from m site local fits goes ∙ hears_so hears')
              (heard_act site local m goes p.session (its_home site from m goes p.between) home))
        ])
      ])
]
  where
    tell : Told → Option Answer
    tell = answer_of m.session (local.residents m.session).session.op (local.residents m.session).session.op

    hears_so : (has_above (local.residents m.session).session.floor && of_round (operation (state_for site local m.session) m.session) m.file) ≡ true → hears site local m
        ≡ goes_on local m.session (local.residents m.session).session.op (heard_servers (local.residents m.session).session.heard m.server) (state_behind site local m) (brings m (hear_step site.grid (state_behind site local m) m (operation (state_for site local m.session) m.session)))
    hears_so is = rw is refl

    its_home : (site : Site) (from : ℕ) (m : OwnMessage) → to_server m.body ≡ false → goes_between site from m ≡ true → site.home m.session ≡ site.here
    its_home site from m goes is =
        let h : (site.home m.session == site.here && site.node_at m.server == from) ≡ true = rw goes at is in
        eqb-true (site.home m.session) site.here (and_parts (site.home m.session == site.here) (site.node_at m.server == from) h).0

-- ---- what a tenant has

pub all_looks_tell : AllLooksTell
all_looks_tell mark volume site local home = record { does = record { part = refl; letters = refl; told = refl }; volumes = refl; transfer = refl; home = home }

pub all_questions_tell : AllQuestionsTell
all_questions_tell site local home = record { does = record { part = refl; letters = refl; told = refl }; volumes = refl; transfer = refl; home = home }

-- ---- a tick

-- the resident that a tick leaves has the same session, and the same numbers are reserved
pub same_sessions : (local : Local) (k : ℕ) (r : Resident) → r.session ≡ (local.residents k).session → r.reserved ≡ (local.residents k).reserved → part_in (with_resident local k r) ≡ part_in local
same_sessions local k r same numbers = λ i. record { brought = local.brought; lacks = local.lacks; session = λ j. by j (k == j) refl i; reserved = λ j. reserved j (k == j) refl i }
  where
    by : (j : ℕ) (b : Bool) → (k == j) ≡ b → (part_in (with_resident local k r)).session j ≡ (local.residents j).session
    by j true is = rw is (same ∙ ap (λ x. (local.residents x).session) (eqb-true k j is))
    by j false is = rw is refl

    reserved : (j : ℕ) (b : Bool) → (k == j) ≡ b → (part_in (with_resident local k r)).reserved j ≡ (local.residents j).reserved
    reserved j true is = rw is (numbers ∙ ap (λ x. (local.residents x).reserved) (eqb-true k j is))
    reserved j false is = rw is refl

pub tried_session : (grid : Grid) (collects : Bool) (r : Resident) → (tries_next grid collects r).session ≡ r.session
tried_session grid true r = refl
tried_session grid false r = refl

pub tried_reserved : (grid : Grid) (collects : Bool) (r : Resident) → (tries_next grid collects r).reserved ≡ r.reserved
tried_reserved grid true r = refl
tried_reserved grid false r = refl

some_here : (current : Option Task) → is_some current ≡ true → is_none current ≡ false
some_here None is = absurd (cc)
some_here (Some task) is = refl

-- a retry sends what the round sends again
retries : (grid : Grid) (state : State) (k : ℕ) (current : Option Task) → (retry_step grid state (option_map (operation_with k (state.session k)) current)).new
    ≡ (unless (first_cause ((is_none current, Idle) ∷ (is_none (round_quorum grid state.up (state.session k).round), NoQuorum) ∷ [])) (retry_step grid state (option_map (operation_with k (state.session k)) current))).new
retries grid state k None = refl
retries grid state k (Some task) = by (round_quorum grid state.up (state.session k).round) refl
  where
    by : (q : Option Servers) → round_quorum grid state.up (state.session k).round ≡ q →
        (retry_step grid state (Some (operation_with k (state.session k) task))).new
        ≡ (unless (first_cause ((is_none (round_quorum grid state.up (state.session k).round), NoQuorum) ∷ [])) (retry_step grid state (Some (operation_with k (state.session k) task)))).new
    by None is = rw is refl
    by (Some set) is = rw is refl

retried : (site : Site) (local : Local) (k : ℕ) (aim : Servers) → has_session site k ≡ true →
    (retry_step site.grid (state_of aim local) (operation (state_of aim local) k)).new ≡ (asked_step site.grid site.row (state_of aim local) (Retry k)).new
retried site local k aim inside = retries site.grid (state_of aim local) k (local.residents k).session.current ∙ sym (ap (λ (z : Step). z.new) law)
  where
    state : State
    state = state_of aim local

    law : asked_step site.grid site.row state (Retry k)
        ≡ unless (first_cause ((is_none (local.residents k).session.current, Idle) ∷ (is_none (round_quorum site.grid aim (local.residents k).session.round), NoQuorum) ∷ [])) (retry_step site.grid state (operation state k))
    law = rw (is_number site k inside) refl

-- a retry uses no number
retry_none : (grid : Grid) (state : State) (k : ℕ) (reserved : Reserved) (floor : ℕ) (o : Option Operation) → reserving k reserved (retry_step grid state o).told floor ≡ None
retry_none grid state k reserved floor None = refl
retry_none grid state k reserved floor (Some o) = by (round_quorum grid state.up o.round) refl
  where
    none : Step → Option OwnFact
    none step = reserving k reserved step.told floor

    by : (q : Option Servers) → round_quorum grid state.up o.round ≡ q → none (retry_step grid state (Some o)) ≡ None
    by None is = let same : retry_step grid state (Some o) ≡ quiet_step (Refused NoQuorum) = rw is refl in ap none same
    by (Some set) is = let same : retry_step grid state (Some o) ≡ record { told = Resent (length state.sent) (length (resent grid o set)); new = resent grid o set } = rw is refl in ap none same

unless_none : (k : ℕ) (reserved : Reserved) (floor : ℕ) (word : Option Refusal) (step : Step) → reserving k reserved step.told floor ≡ None → reserving k reserved (unless word step).told floor ≡ None
unless_none k reserved floor None step none = none
unless_none k reserved floor (Some word) step none = refl

-- whatever it is told, a retry changes nothing
retry_stays : (s : Setting) (n : ℕ) (part : Part) (k : ℕ) (aim : Servers) → part_after s n part (Asks (Retry k) aim) ≡ part
retry_stays s n part k aim = elim (cases_Bool (is_refusal (step_of s part (Asks (Retry k) aim)).told)) [
  | inl is ↦ (refused s n part (Asks (Retry k) aim) is)
  | inr is ↦ (accepted s n part (Asks (Retry k) aim) is ∙ ap (λ (fact : Option OwnFact). record { brought = part.brought; lacks = part.lacks; session = part.session; reserved = with_reserved fact part.reserved }) none)
]
  where
    state : State
    state = state_of_part s.volumes aim part

    none : fact_of s part (Asks (Retry k) aim) ≡ None
    none = unless_none k (part.reserved k) (part.session k).floor (first_cause (session_causes s.grid s.row state (Retry k))) (retry_step s.grid state (operation state k)) (retry_none s.grid state k (part.reserved k) (part.session k).floor (operation state k))

retry_act : (site : Site) (local : Local) (k : ℕ) → has_session site k ≡ true → site.home k ≡ site.here → AtHome site local →
    Bridges site local (Some (Asks (Retry k) (aim_at site.grid (tries_next site.grid (is_collect (local.residents k).session.round) (local.residents k))))) None (λ told. None) (waits_on site local k true)
retry_act site local k inside here home = record {
  does = record {
    here = here;
    part = same_sessions local k r (tried_session site.grid (is_collect (local.residents k).session.round) (local.residents k)) (tried_reserved site.grid (is_collect (local.residents k).session.round) (local.residents k)) ∙ sym (retry_stays (setting_in site local) site.place (part_in local) k (aim_at site.grid r));
    letters = retried site local k (aim_at site.grid r) inside;
    told = refl;
  };
  volumes = refl;
  transfer = refl;
  home = home_with site local k r inside here home;
}
  where
    r : Resident
    r = tries_next site.grid (is_collect (local.residents k).session.round) (local.residents k)

pub tick_waits : (k : ℕ) (site : Site) (local : Local) → is_some (local.residents k).session.current ≡ true → tick_act k site local ≡ waited_act site local k (local.residents k).waited
tick_waits k site local is = rw is refl

pub all_ticks_act : AllTicksAct
all_ticks_act k site local home = elim (cases_Bool (is_some (local.residents k).session.current)) [
  | inr idle ↦ (passes site local (tick_act k site local) tell (ticks k site local) (rw idle refl) (rw idle refl) home)
  | inl busy ↦ (waits busy (local.residents k).waited refl)
]
  where
    tell : Told → Option Answer
    tell told = None

    waits : is_some (local.residents k).session.current ≡ true → (b : Bool) → (local.residents k).waited ≡ b → Bridges site local (tick_act k site local) None tell (ticks k site local)
    waits busy b is =
        let act : tick_act k site local ≡ waited_act site local k b = tick_waits k site local busy ∙ ap (waited_act site local k) is in
        let doing : ticks k site local ≡ waits_on site local k b = busy_is k site local busy ∙ ap (waits_on site local k) is in
        let there = home k busy in
        bridged_as site local (tick_act k site local) (waited_act site local k b) None None tell (ticks k site local) (waits_on site local k b) act refl doing (by b there.0 there.1)
      where
        by : (b : Bool) → has_session site k ≡ true → site.home k ≡ site.here → Bridges site local (waited_act site local k b) None tell (waits_on site local k b)
        by false inside here = record {
          does = record { part = same_sessions local k (record (local.residents k) { waited = true }) refl refl; letters = refl; told = refl };
          volumes = refl;
          transfer = refl;
          home = home_with site local k (record (local.residents k) { waited = true }) inside here home;
        }
        by true inside here = retry_act site local k inside here home

-- ---- a short letter

-- the same, where the same is told
retold : (site : Site) (local : Local) (act : Option Act) (tell other : Told → Option Answer) (doing : Doing) → ((told : Told) → tell told ≡ other told) → Bridges site local act None tell doing → Bridges site local act None other doing
retold site local None tell other doing same b = record { does = record { part = b.does.part; letters = b.does.letters; told = b.does.told }; volumes = b.volumes; transfer = b.transfer; home = b.home }
retold site local (Some act) tell other doing same b = record {
  does = record { here = b.does.here; part = b.does.part; letters = b.does.letters; told = b.does.told ∙ same _ };
  volumes = b.volumes;
  transfer = b.transfer;
  home = b.home;
}

hears_act : (site : Site) (local : Local) (m : OwnMessage) → to_server m.body ≡ false → has_session site m.session ≡ true → site.home m.session ≡ site.here → AtHome site local →
    Bridges site local (hear_act site local m) None (answer_of m.session (local.residents m.session).session.op (local.residents m.session).session.op) (hears site local m)
hears_act site local m goes inside here home = elim (cases_Bool (has_above (local.residents m.session).session.floor && of_round (operation (state_for site local m.session) m.session) m.file)) [
  | inr deaf ↦ (passes site local (hear_act site local m) tell (hears site local m) (rw deaf refl) (rw deaf refl) home)
  | inl hears' ↦ (
      let k : ℕ = m.session in
      let state : State = state_behind site local m in
      bridged_as site local (hear_act site local m) (Some (Comes m (aim_behind site local m))) None None tell (hears site local m)
      (goes_on local k (local.residents k).session.op (heard_servers (local.residents k).session.heard m.server) state (brings m (hear_step site.grid state m (operation state k))))
      (rw hears' refl) refl (rw hears' refl) (heard_act site local m goes inside here home))
]
  where
    tell : Told → Option Answer
    tell = answer_of m.session (local.residents m.session).session.op (local.residents m.session).session.op

pub shorts_act : (from : ℕ) (s : OwnShort) (bytes : List ℕ) (site : Site) (local : Local) → AtHome site local →
    Bridges site local (short_act from s bytes site local) None (short_tell s.body s.session (local.residents s.session).session.op) (takes_short from s bytes site local).doing
shorts_act from s bytes site local home = by_arms (λ act doing. Bridges site local act None tell doing) from s bytes site local (record {
  passed = passes site local None tell (silently local) refl refl home;
  served = λ h.
      let b = served_act site local m (λ told. None) h.goes h.server h.has home in
      record { does = record { here = b.does.here; part = b.does.part; letters = b.does.letters; told = sym (h.silent s.session last _) }; volumes = b.volumes; transfer = b.transfer; home = b.home };
  heard = λ h. retold site local (hear_act site local m) (answer_of s.session last last) tell (hears site local m) (λ told. sym (h.tells s.session last told)) (hears_act site local m h.goes h.session h.home home);
  again = λ h. record {
    does = record { here = h.home; part = sym (retry_stays (setting_in site local) site.place (part_in local) s.session its_aim); letters = retried site local s.session its_aim h.session; told = sym (h.silent s.session last _) };
    volumes = refl;
    transfer = refl;
    home = home;
  };
})
  where
    m : OwnMessage
    m = letter_with bytes s

    last : ℕ
    last = (local.residents s.session).session.op

    tell : Told → Option Answer
    tell = short_tell s.body s.session last

    its_aim : Servers
    its_aim = column_of site.grid s.server
