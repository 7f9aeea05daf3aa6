-- What the tables do by a short letter is what the tenant's part does.
use Rattle.std.proofs.Common.{◌≡◌, ◌∙◌, ℕ, Bool, true, false, ◌&&◌, List, [], ◌∷◌, refl, sym, ap, subst, Option, Some, None, inl, inr}
use Rattle.std.specs.Prelude.{◌||◌, ◌/◌, option_map, is_some, not, ◌==◌, if◌then◌else◌}
use Rattle.std.proofs.lemmas.Bool.{cases_Bool}
use Rattle.gq_grid.specs.Grid.{Grid, Servers}
use Rattle.gq_tag.specs.declared.Tag.{Tag}
use Rattle.gq_tag.specs.declared.StoredCopy.{StoredCopy}
use Rattle.gq_tag.specs.declared.FileId.{FileId}
use Rattle.gq_tag.specs.declared.Body.{Body}
use Rattle.gq_tag.specs.declared.Body.TheVariants.{Ask, Copy, Store, Stored}
use Rattle.gq_tag.specs.declared.Message.{Message}
use Rattle.gq_tag.specs.Tag.{File, OwnMessage, own_message, message_of, file_place, is_less, latest}
use Rattle.gq_desk.specs.Volumes.{limit_of}
use Rattle.gq_store.specs.Copies.{copy_at}
use Rattle.gq_replace.specs.Plans.{place_of}
use Rattle.gq_phase.specs.Best.{tag_in}
use Rattle.gq_phase.specs.Course.{round_of}
use Rattle.gq_phase.specs.declared.operation.Operation.{Operation as Code}
use Rattle.gq_phase.specs.declared.operation.Task.{Task as CodeTask}
use Rattle.gq_phase.specs.declared.operation.Task.TheVariants.{Write, Read, List as ListFiles}
use Rattle.gq_phase.specs.Phase.{Reply, Operation, is_collect, round_file, stored_copy, heard_servers, heard_copies}
use Rattle.gq_phase.specs.Standing.{StandsFor, SameFor, task_for, takes_by, takes_as, reads}
use Rattle.gq_phase.proofs.Saying.{collects_is}
use Rattle.gq_model.specs.Trace.{operation, limit_at}
use Rattle.gq_model.specs.Lone.{retry_step}
use Rattle.gq_cluster.specs.Cluster.{everyone}
use Rattle.gq_node.specs.declared.output.Output.{Output}
use Rattle.gq_node.specs.declared.shorts.Short.{Short}
use Rattle.gq_node.specs.declared.shorts.ShortBody.{ShortBody}
use Rattle.gq_node.specs.declared.shorts.ShortBody.TheVariants.{AskAbove, Tagged, Confirm, Want}
use Rattle.gq_node.specs.declared.shorts.ShortOutput.{ShortOutput}
use Rattle.gq_node.specs.Local.{Local, Doing, silently, state_of, state_for, serves, hears, letter_fits}
use Rattle.gq_node.specs.SessionStates.{GivesNothing}
use Rattle.gq_node.specs.Shorts.{OwnShort, ShortDoing, own_short, short_with, short_as, letter_as, letter_with, body_with, wholly, copy_of, goes_short, asks_above, says_as_much, takes_tag, hears_tag, is_of_store, store_in, column_of, stores_again, confirms, takes_short, any_tag, bound_by, is_beside, bound_from, body_from, short_body, short_form, goes_without, bound_for}
use Rattle.gq_node.specs.ShortSteps.{GivesOne, GivesShortly, ActsShortly, TakesContent, ShortFormIs, whole_of, reply_as, short_at, form_at, takes_in, stored_for, bound_in, is_beside_in, short_body_at, goes_without_at}
use Rattle.gq_node.specs.Sites.{Site, site_of, has_session}
use Rattle.gq_node.proofs.Choosing.{confirms_is}
use Rattle.gq_node.specs.Tables.{Tables, Agrees, Acts, Gives, IsOfPlan, Sits, lacks_at, session_state_at}
use Rattle.gq_node.proofs.Placing.{same_leads, session_state_of, placed}
use Rattle.gq_node.proofs.Serving.{serve_acts, limit_is}

-- ---- what is done by a whole letter, or not at all

-- nothing is changed, and nothing is given
pub nothing_shortly : (w : Tables) (t : ℕ) (step : Site → Local → ShortDoing) (given : ShortOutput) → ((local : Local) → Agrees w t local → step (site_of w.plan w.here t) local ≡ wholly (silently local)) →
    GivesNothing given.out → given.short ≡ None → ActsShortly w t step given w
nothing_shortly w t step given same none short = record {
  leads = same_leads w t (λ site local. (step site local).doing) (λ local agrees. ap (λ (x : ShortDoing). x.doing.local) (same local agrees));
  gives = λ local agrees. subst (λ (x : ShortDoing). GivesShortly t x given) (sym (same local agrees))
      (record { gives = record { answer = none.answer; letters = none.letters; transfer = none.transfer; fact = none.fact }; short = short });
}

-- what a whole letter does
pub wholly_shortly : (w new : Tables) (t : ℕ) (step : Site → Local → ShortDoing) (other : Site → Local → Doing) (given : ShortOutput) →
    ((local : Local) → Agrees w t local → step (site_of w.plan w.here t) local ≡ wholly (other (site_of w.plan w.here t) local)) → Acts w t other given.out new → given.short ≡ None → ActsShortly w t step given new
wholly_shortly w new t step other given same acts short = record {
  leads = record {
    plan = acts.leads.plan;
    here = acts.leads.here;
    own = λ local agrees. subst (λ (x : ShortDoing). Agrees new t x.doing.local) (sym (same local agrees)) (acts.leads.own local agrees);
    others = acts.leads.others;
  };
  gives = λ local agrees. subst (λ (x : ShortDoing). GivesShortly t x given) (sym (same local agrees))
      (let g : Gives t (other (site_of w.plan w.here t) local) given.out = acts.gives local agrees in
      record { gives = record { answer = g.answer; letters = g.letters; transfer = g.transfer; fact = g.fact }; short = short });
}

-- what the one step does the other does
pub shortly_as : (w new : Tables) (t : ℕ) (step other : Site → Local → ShortDoing) (given : ShortOutput) →
    ((local : Local) → Agrees w t local → step (site_of w.plan w.here t) local ≡ other (site_of w.plan w.here t) local) → ActsShortly w t other given new → ActsShortly w t step given new
shortly_as w new t step other given same acts = record {
  leads = record {
    plan = acts.leads.plan;
    here = acts.leads.here;
    own = λ local agrees. subst (λ (x : ShortDoing). Agrees new t x.doing.local) (sym (same local agrees)) (acts.leads.own local agrees);
    others = acts.leads.others;
  };
  gives = λ local agrees. subst (λ (x : ShortDoing). GivesShortly t x given) (sym (same local agrees)) (acts.gives local agrees);
}

-- ---- with the tenant in it

pub named : (s : Short) (body : Body) → s.file.tenant ≡ s.tenant → whole_of s body ≡ message_of s.tenant (letter_as (own_short s) body)
named s body own = λ i. record { tenant = s.tenant; session = s.session; op = s.op; round = s.round; server = s.server; file = record { tenant = own i; volume = s.file.volume; file = s.file.file }; body = body }

pub named_reply : (s : Short) (body : ShortBody) (m : Body) → s.file.tenant ≡ s.tenant → reply_as s body ≡ short_with s.tenant (short_as (letter_as (own_short s) m) body)
named_reply s body m own = λ i. record { tenant = s.tenant; session = s.session; op = s.op; round = s.round; server = s.server; file = record { tenant = own i; volume = s.file.volume; file = s.file.file }; body = body }

-- the copy that the tables have of the file is that of the part
pub copy_is : (w : Tables) (t : ℕ) (file : FileId) (local : Local) → file.tenant ≡ t → Agrees w t local → copy_at w.store file ≡ copy_of local (file_place file)
copy_is w t file local own agrees = (λ i. copy_at w.store (record { tenant = own i; volume = file.volume; file = file.file })) ∙ agrees.copies (file_place file)

-- ---- an ask

-- as it goes by whether the file is lacked, and whether the tag goes in place of the copy
abbrev goes_by : Site → Local → OwnMessage → (goes : Bool) → ShortDoing
goes_by site local m true = record { doing = serves site local m; whole = []; short = Some (short_as m (Tagged (copy_of local m.file).tag)) }
goes_by site local m false = wholly (serves site local m)

abbrev asks_by : Site → Local → OwnMessage → (lacks goes : Bool) → ShortDoing
asks_by site local m lacks goes = if lacks then wholly (silently local) else goes_by site local m goes

pub asks_lacked : (bound : Tag) (site : Site) (local : Local) (m : OwnMessage) → local.lacks m.file ≡ true → asks_above bound site local m ≡ wholly (silently local)
asks_lacked bound site local m lacks = rw lacks refl

pub asks_short : (bound : Tag) (site : Site) (local : Local) (m : OwnMessage) → local.lacks m.file ≡ false → goes_short bound (copy_of local m.file).tag ≡ true →
    asks_above bound site local m ≡ record { doing = serves site local m; whole = []; short = Some (short_as m (Tagged (copy_of local m.file).tag)) }
asks_short bound site local m has short = ap (λ b. asks_by site local m b (goes_short bound (copy_of local m.file).tag)) has ∙ ap (goes_by site local m) short

pub asks_whole : (bound : Tag) (site : Site) (local : Local) (m : OwnMessage) → local.lacks m.file ≡ false → goes_short bound (copy_of local m.file).tag ≡ false → asks_above bound site local m ≡ wholly (serves site local m)
asks_whole bound site local m has short = ap (λ b. asks_by site local m b (goes_short bound (copy_of local m.file).tag)) has ∙ ap (goes_by site local m) short

-- an ask changes nothing
ask_keeps : (w : Tables) (t : ℕ) (s : OwnShort) (local : Local) → Agrees w t local → Agrees w t (serves (site_of w.plan w.here t) local (letter_as s Ask)).local
ask_keeps w t s local agrees = record { account = agrees.account; copies = agrees.copies; lacks = agrees.lacks; joined = agrees.joined; peer = agrees.peer; session_states = agrees.session_states }

pub ask_lacked : (w : Tables) (s : Short) (bound : Tag) (given : ShortOutput) → lacks_at w s.tenant (file_place s.file) ≡ true → GivesNothing given.out → given.short ≡ None →
    ActsShortly w s.tenant (λ site local. asks_above bound site local (letter_as (own_short s) Ask)) given w
ask_lacked w s bound given lacks none short =
    nothing_shortly w s.tenant (λ site local. asks_above bound site local (letter_as (own_short s) Ask)) given
    (λ local agrees. asks_lacked bound (site_of w.plan w.here s.tenant) local (letter_as (own_short s) Ask) (sym (agrees.lacks (file_place s.file)) ∙ lacks)) none short

pub ask_short : (w : Tables) (s : Short) (bound tag : Tag) (given : ShortOutput) → s.file.tenant ≡ s.tenant → lacks_at w s.tenant (file_place s.file) ≡ false → tag ≡ (copy_at w.store s.file).tag → goes_short bound tag ≡ true →
    GivesNothing given.out → given.short ≡ Some (reply_as s (Tagged tag)) → ActsShortly w s.tenant (λ site local. asks_above bound site local (letter_as (own_short s) Ask)) given w
ask_short w s bound tag given own has tag_is goes none short =
    let t : ℕ = s.tenant in
    let site : Site = site_of w.plan w.here t in
    let m : OwnMessage = letter_as (own_short s) Ask in
    let X : Local → ShortDoing = λ local. record { doing = serves site local m; whole = []; short = Some (short_as m (Tagged (copy_of local m.file).tag)) } in
    let its_tag : (local : Local) → Agrees w t local → tag ≡ (copy_of local m.file).tag = λ local agrees. tag_is ∙ ap (λ (c : StoredCopy). c.tag) (copy_is w t s.file local own agrees) in
    let same : (local : Local) → Agrees w t local → asks_above bound site local m ≡ X local =
    λ local agrees. asks_short bound site local m (sym (agrees.lacks (file_place s.file)) ∙ has) (ap (goes_short bound) (sym (its_tag local agrees)) ∙ goes) in
    record {
      leads = record {
        plan = refl;
        here = refl;
        own = λ local agrees. subst (λ (x : ShortDoing). Agrees w t x.doing.local) (sym (same local agrees)) (ask_keeps w t (own_short s) local agrees);
        others = λ u other local agrees. agrees;
      };
      gives = λ local agrees. subst (λ (x : ShortDoing). GivesShortly t x given) (sym (same local agrees)) (record {
        gives = record { answer = none.answer; letters = none.letters; transfer = none.transfer; fact = none.fact };
        short = short ∙ ap (λ r. Some r) (named_reply s (Tagged tag) Ask own) ∙ ap (λ x. Some (short_with t (short_as m (Tagged x)))) (its_tag local agrees);
      });
    }

pub ask_whole : (w new : Tables) (s : Short) (bound tag : Tag) (given : ShortOutput) → s.file.tenant ≡ s.tenant → lacks_at w s.tenant (file_place s.file) ≡ false → tag ≡ (copy_at w.store s.file).tag → goes_short bound tag ≡ false →
    Acts w s.tenant (λ site local. serves site local (own_message (whole_of s Ask))) given.out new → given.short ≡ None → ActsShortly w s.tenant (λ site local. asks_above bound site local (letter_as (own_short s) Ask)) given new
ask_whole w new s bound tag given own has tag_is goes acts short =
    let t : ℕ = s.tenant in
    let m : OwnMessage = letter_as (own_short s) Ask in
    wholly_shortly w new t (λ site local. asks_above bound site local m) (λ site local. serves site local m) given
    (λ local agrees. asks_whole bound (site_of w.plan w.here t) local m (sym (agrees.lacks (file_place s.file)) ∙ has)
    (ap (goes_short bound) (sym (tag_is ∙ ap (λ (c : StoredCopy). c.tag) (copy_is w t s.file local own agrees))) ∙ goes)) acts short

-- ---- a tag

-- what the value takes the operation takes
takes_as_much : (task : CodeTask) (file : FileId) (files : ℕ) (best other : Option StoredCopy) (tag : Tag) → SameFor task best other → takes_by task best tag ≡ says_as_much (task_for task file files) other tag
takes_as_much (Write bytes) file files best other tag same = refl
takes_as_much Read file files None other tag same = ap (λ b. says_as_much (task_for Read file files) b tag) same
takes_as_much Read file files (Some best) other tag same = ap (λ b. says_as_much (task_for Read file files) b tag) same
takes_as_much ListFiles file files None other tag same = ap (λ b. says_as_much (task_for ListFiles file files) b tag) same
takes_as_much ListFiles file files (Some best) other tag same = ap (λ b. says_as_much (task_for ListFiles file files) b tag) same

takes_of : (grid : Grid) (t : ℕ) (code : Code) (o : Operation) (tag : Tag) → StandsFor grid t code o → takes_as code tag ≡ takes_tag (Some o) tag
takes_of grid t code o tag s =
    ap (λ b. b && takes_by code.task code.best tag) (collects_is code.course o.round s.round)
    ∙ ap (λ b. is_collect o.round && b) (takes_as_much code.task code.file code.course.files code.best (latest (heard_copies o.heard)) tag s.best ∙ ap (λ task. says_as_much task (latest (heard_copies o.heard)) tag) s.task)

takes_sat : (grid : Grid) (t floor last : ℕ) (code : Option Code) (o : Option Operation) (tag : Tag) → Sits grid t floor code last o → takes_in code tag ≡ takes_tag o tag
takes_sat grid t floor last None None tag sits = refl
takes_sat grid t floor last None (Some o) tag sits = absurd sits
takes_sat grid t floor last (Some code) None tag sits = absurd sits
takes_sat grid t floor last (Some code) (Some o) tag sits = takes_of grid t code o tag sits

pub takes_there : (w : Tables) (t k : ℕ) (local : Local) (tag : Tag) → Agrees w t local → IsOfPlan w t k → takes_in (session_state_at w t k).operation tag ≡ takes_tag (operation (state_for (site_of w.plan w.here t) local k) k) tag
takes_there w t k local tag agrees at =
    takes_sat w.plan.grid t (session_state_at w t k).floor _ (session_state_at w t k).operation _ tag (session_state_of w t k local agrees at).sits

-- and it takes each content
pub any_content : (code : Option Code) (tag : Tag) (bytes other : List ℕ) → takes_in code tag ≡ true → TakesContent code (Copy (record { tag = tag; bytes = bytes })) (record { tag = tag; bytes = other })
any_content None tag bytes other is = absurd (cc)
any_content (Some code) tag bytes other is = (refl, is)

heard_tag : (tag : Tag) (site : Site) (local : Local) (m : OwnMessage) → takes_tag (operation (state_for site local m.session) m.session) tag ≡ true → hears_tag tag site local m ≡ wholly (hears site local m)
heard_tag tag site local m is = rw is refl

lost_tag : (tag : Tag) (site : Site) (local : Local) (m : OwnMessage) → takes_tag (operation (state_for site local m.session) m.session) tag ≡ false → hears_tag tag site local m ≡ wholly (silently local)
lost_tag tag site local m is = rw is refl

pub tag_taken : (w new : Tables) (s : Short) (tag : Tag) (bytes : List ℕ) (given : ShortOutput) → IsOfPlan w s.tenant s.session → takes_in (session_state_at w s.tenant s.session).operation tag ≡ true →
    Acts w s.tenant (λ site local. hears site local (letter_as (own_short s) (Copy (record { tag = tag; bytes = bytes })))) given.out new → given.short ≡ None →
    ActsShortly w s.tenant (λ site local. hears_tag tag site local (letter_as (own_short s) (Copy (record { tag = tag; bytes = bytes })))) given new
tag_taken w new s tag bytes given at takes acts short =
    let m : OwnMessage = letter_as (own_short s) (Copy (record { tag = tag; bytes = bytes })) in
    wholly_shortly w new s.tenant (λ site local. hears_tag tag site local m) (λ site local. hears site local m) given
    (λ local agrees. heard_tag tag (site_of w.plan w.here s.tenant) local m (sym (takes_there w s.tenant s.session local tag agrees at) ∙ takes)) acts short

pub tag_lost : (w : Tables) (s : Short) (tag : Tag) (bytes : List ℕ) (given : ShortOutput) → IsOfPlan w s.tenant s.session → takes_in (session_state_at w s.tenant s.session).operation tag ≡ false →
    GivesNothing given.out → given.short ≡ None → ActsShortly w s.tenant (λ site local. hears_tag tag site local (letter_as (own_short s) (Copy (record { tag = tag; bytes = bytes })))) given w
tag_lost w s tag bytes given at takes none short =
    let m : OwnMessage = letter_as (own_short s) (Copy (record { tag = tag; bytes = bytes })) in
    nothing_shortly w s.tenant (λ site local. hears_tag tag site local m) given
    (λ local agrees. lost_tag tag (site_of w.plan w.here s.tenant) local m (sym (takes_there w s.tenant s.session local tag agrees at) ∙ takes)) none short

-- ---- the store once more

-- the letter with the copy in it
abbrev pub stored_in : OwnMessage → Option StoredCopy → Option OwnMessage
stored_in m copy = option_map (λ c. record m { body = Store c }) copy

through : (heard is : Bool) (copy : StoredCopy) (m : OwnMessage) →
    stored_in m (if heard then None else if is then Some copy else None) ≡ (if heard then None else if is then Some (record m { body = Store copy }) else None)
through true is copy m = refl
through false true copy m = refl
through false false copy m = refl

-- of the round's parts, the copy that it stores for the letter
abbrev by_parts : OwnMessage → Servers → (done collecting : Bool) → (op round volume place : ℕ) → StoredCopy → Option StoredCopy
by_parts m heard done collecting op round volume place copy =
    if heard m.server then None else if not done && (not collecting && ((m.op == op) && ((m.round == round) && ((m.file.volume == volume) && (m.file.place == place))))) then Some copy else None

stored_of : (grid : Grid) (t : ℕ) (code : Code) (o : Operation) (s : Short) (body : Body) → StandsFor grid t code o → stored_in (letter_as (own_short s) body) (stored_for (Some code) s) ≡ store_in (Some o) (letter_as (own_short s) body)
stored_of grid t code o s body h =
    let m : OwnMessage = letter_as (own_short s) body in
    let file : File = round_file o.task o.round in
    let parts : stored_for (Some code) s ≡ by_parts m (heard_servers o.heard) false (is_collect o.round) o.op o.round file.volume file.place (stored_copy o.collected) =
    ap (λ set. by_parts m set code.done code.course.collecting code.who.op (round_of code.course) code.file.volume code.file.file code.stored) h.heard
    ∙ ap (λ done. by_parts m (heard_servers o.heard) done code.course.collecting code.who.op (round_of code.course) code.file.volume code.file.file code.stored) h.going
    ∙ ap (λ b. by_parts m (heard_servers o.heard) false b code.who.op (round_of code.course) code.file.volume code.file.file code.stored) (collects_is code.course o.round h.round)
    ∙ ap (λ op. by_parts m (heard_servers o.heard) false (is_collect o.round) op (round_of code.course) code.file.volume code.file.file code.stored) h.op
    ∙ ap (λ round. by_parts m (heard_servers o.heard) false (is_collect o.round) o.op round code.file.volume code.file.file code.stored) h.round
    ∙ ap (λ (f : FileId). by_parts m (heard_servers o.heard) false (is_collect o.round) o.op o.round f.volume f.file code.stored) h.file
    ∙ ap (λ copy. by_parts m (heard_servers o.heard) false (is_collect o.round) o.op o.round file.volume file.place copy) h.stored in
    ap (stored_in m) parts ∙ through (heard_servers o.heard m.server) (is_of_store o m) (stored_copy o.collected) m

stored_sat : (grid : Grid) (t floor last : ℕ) (code : Option Code) (o : Option Operation) (s : Short) (body : Body) → Sits grid t floor code last o → stored_in (letter_as (own_short s) body) (stored_for code s) ≡ store_in o (letter_as (own_short s) body)
stored_sat grid t floor last None None s body sits = refl
stored_sat grid t floor last None (Some o) s body sits = absurd sits
stored_sat grid t floor last (Some code) None s body sits = absurd sits
stored_sat grid t floor last (Some code) (Some o) s body sits = stored_of grid t code o s body sits

pub stored_there : (w : Tables) (s : Short) (local : Local) (body : Body) → Agrees w s.tenant local → IsOfPlan w s.tenant s.session →
    stored_in (letter_as (own_short s) body) (stored_for (session_state_at w s.tenant s.session).operation s) ≡ store_in (operation (state_for (site_of w.plan w.here s.tenant) local s.session) s.session) (letter_as (own_short s) body)
stored_there w s local body agrees at =
    stored_sat w.plan.grid s.tenant (session_state_at w s.tenant s.session).floor _ (session_state_at w s.tenant s.session).operation _ s body (session_state_of w s.tenant s.session local agrees at).sits

abbrev retry_of : Site → Local → OwnMessage → List OwnMessage
retry_of site local m = (retry_step site.grid (state_of (column_of site.grid m.server) local) (operation (state_for site local m.session) m.session)).new

again_some : (site : Site) (local : Local) (m letter : OwnMessage) → store_in (operation (state_for site local m.session) m.session) m ≡ Some letter →
    stores_again site local m ≡ record { doing = record (silently local) { letters = retry_of site local m }; whole = letter ∷ []; short = None }
again_some site local m letter is = rw is refl

again_none : (site : Site) (local : Local) (m : OwnMessage) → store_in (operation (state_for site local m.session) m.session) m ≡ None → stores_again site local m ≡ wholly (silently local)
again_none site local m is = rw is refl

-- it goes by the heading of the short letter alone
store_as : (o : Option Operation) (s : OwnShort) (a b : Body) → store_in o (letter_as s a) ≡ store_in o (letter_as s b)
store_as None s a b = refl
store_as (Some o) s a b = refl

again_as : (site : Site) (local : Local) (s : OwnShort) (a b : Body) → stores_again site local (letter_as s a) ≡ stores_again site local (letter_as s b)
again_as site local s a b = by (store_in o (letter_as s a)) refl
  where
    o : Option Operation
    o = operation (state_for site local s.session) s.session

    by : (x : Option OwnMessage) → store_in o (letter_as s a) ≡ x → stores_again site local (letter_as s a) ≡ stores_again site local (letter_as s b)
    by None is = again_none site local (letter_as s a) is ∙ sym (again_none site local (letter_as s b) (sym (store_as o s a b) ∙ is))
    by (Some letter) is = again_some site local (letter_as s a) letter is ∙ sym (again_some site local (letter_as s b) letter (sym (store_as o s a b) ∙ is))

pub again_given : (w : Tables) (s : Short) (body : Body) (copy : StoredCopy) (given : ShortOutput) → s.file.tenant ≡ s.tenant → IsOfPlan w s.tenant s.session →
    stored_for (session_state_at w s.tenant s.session).operation s ≡ Some copy → GivesOne (whole_of s (Store copy)) given → ActsShortly w s.tenant (λ site local. stores_again site local (letter_as (own_short s) body)) given w
again_given w s body copy given own at is one =
    let t : ℕ = s.tenant in
    let site : Site = site_of w.plan w.here t in
    let m : OwnMessage = letter_as (own_short s) body in
    let letter : OwnMessage = letter_as (own_short s) (Store copy) in
    let X : Local → ShortDoing = λ local. record { doing = record (silently local) { letters = retry_of site local m }; whole = letter ∷ []; short = None } in
    let same : (local : Local) → Agrees w t local → stores_again site local m ≡ X local =
    λ local agrees. again_some site local m letter (sym (stored_there w s local body agrees at) ∙ ap (stored_in m) is) in
    record {
      leads = record {
        plan = refl;
        here = refl;
        own = λ local agrees. subst (λ (x : ShortDoing). Agrees w t x.doing.local) (sym (same local agrees)) agrees;
        others = λ u other local agrees. agrees;
      };
      gives = λ local agrees. subst (λ (x : ShortDoing). GivesShortly t x given) (sym (same local agrees)) (record {
        gives = record { answer = one.answer; letters = one.letters ∙ ap (λ l. l ∷ []) (named s (Store copy) own); transfer = one.transfer; fact = one.fact };
        short = one.short;
      });
    }

pub again_not : (w : Tables) (s : Short) (body : Body) (given : ShortOutput) → IsOfPlan w s.tenant s.session →
    stored_for (session_state_at w s.tenant s.session).operation s ≡ None → GivesNothing given.out → given.short ≡ None → ActsShortly w s.tenant (λ site local. stores_again site local (letter_as (own_short s) body)) given w
again_not w s body given at is none short =
    let m : OwnMessage = letter_as (own_short s) body in
    nothing_shortly w s.tenant (λ site local. stores_again site local m) given
    (λ local agrees. again_none (site_of w.plan w.here s.tenant) local m (sym (stored_there w s local body agrees at) ∙ ap (stored_in m) is)) none short

-- ---- a store without its content

abbrev has_by : Site → Local → OwnMessage → (has : Bool) → ShortDoing
has_by site local m true = wholly (serves site local m)
has_by site local m false = if site.home m.session == site.here then stores_again site local m else record { doing = silently local; whole = []; short = Some (short_as m Want) }

abbrev confirms_by : Site → Local → OwnMessage → (lacks less : Bool) → ShortDoing
confirms_by site local m lacks less = if lacks then wholly (silently local) else has_by site local m (not less)

confirm_lacked : (tag : Tag) (site : Site) (local : Local) (m : OwnMessage) → local.lacks m.file ≡ true → confirms tag site local m ≡ wholly (silently local)
confirm_lacked tag site local m lacks = rw lacks refl

pub confirm_held : (tag : Tag) (site : Site) (local : Local) (m : OwnMessage) → local.lacks m.file ≡ false → is_less (copy_of local m.file).tag tag ≡ false → confirms tag site local m ≡ wholly (serves site local m)
confirm_held tag site local m has held = ap (λ b. confirms_by site local m b (is_less (copy_of local m.file).tag tag)) has ∙ ap (λ b. has_by site local m (not b)) held

confirm_own : (tag : Tag) (site : Site) (local : Local) (m : OwnMessage) → local.lacks m.file ≡ false → is_less (copy_of local m.file).tag tag ≡ true → (site.home m.session == site.here) ≡ true → confirms tag site local m ≡ stores_again site local m
confirm_own tag site local m has less home = rw (has, less, home) refl

confirm_wants : (tag : Tag) (site : Site) (local : Local) (m : OwnMessage) → local.lacks m.file ≡ false → is_less (copy_of local m.file).tag tag ≡ true → (site.home m.session == site.here) ≡ false →
    confirms tag site local m ≡ record { doing = silently local; whole = []; short = Some (short_as m Want) }
confirm_wants tag site local m has less home = rw (has, less, home) refl

-- a store whose tag is not above that of the server's copy changes nothing, whatever its content is
held_acts : (w : Tables) (s : Short) (copy : StoredCopy) (out : Output) → s.file.tenant ≡ s.tenant → s.server ≡ place_of w.here.node → lacks_at w s.tenant (file_place s.file) ≡ false → is_less (copy_at w.store s.file).tag copy.tag ≡ false →
    out.answer ≡ None → out.letters.items ≡ whole_of s Stored ∷ [] → out.transfer ≡ None → out.fact ≡ None → Acts w s.tenant (λ site local. serves site local (letter_as (own_short s) (Store copy))) out w
held_acts w s copy out own server has older answer letters transfer fact =
    serve_acts w s.tenant (whole_of s (Store copy)) (whole_of s Stored) w.store out (record {
      tenant = refl;
      own = own;
      server = server;
      goes = refl;
      has = has;
      reply_is = refl;
      held = rw older refl;
      others = λ other apart. refl;
      answer = answer;
      letters = letters;
      transfer = transfer;
      fact = fact ∙ rw older refl;
    })

-- the tag of the server's copy is that of the part's
less_is : (w : Tables) (s : Short) (tag : Tag) (b : Bool) (local : Local) → s.file.tenant ≡ s.tenant → is_less (copy_at w.store s.file).tag tag ≡ b → Agrees w s.tenant local → is_less (copy_of local (file_place s.file)).tag tag ≡ b
less_is w s tag b local own is agrees = ap (λ (c : StoredCopy). is_less c.tag tag) (sym (copy_is w s.tenant s.file local own agrees)) ∙ is

abbrev pub confirm_step : Short → Tag → List ℕ → Site → Local → ShortDoing
confirm_step s tag bytes site local = confirms tag site local (letter_as (own_short s) (Store (record { tag = tag; bytes = bytes })))

pub lacked_confirm : (w : Tables) (s : Short) (tag : Tag) (bytes : List ℕ) (given : ShortOutput) → lacks_at w s.tenant (file_place s.file) ≡ true → GivesNothing given.out → given.short ≡ None → ActsShortly w s.tenant (confirm_step s tag bytes) given w
lacked_confirm w s tag bytes given lacks none short =
    nothing_shortly w s.tenant (confirm_step s tag bytes) given
    (λ local agrees. confirm_lacked tag (site_of w.plan w.here s.tenant) local (letter_as (own_short s) (Store (record { tag = tag; bytes = bytes }))) (sym (agrees.lacks (file_place s.file)) ∙ lacks)) none short

pub held_confirm : (w : Tables) (s : Short) (tag : Tag) (bytes : List ℕ) (given : ShortOutput) → s.file.tenant ≡ s.tenant → s.server ≡ place_of w.here.node → lacks_at w s.tenant (file_place s.file) ≡ false → is_less (copy_at w.store s.file).tag tag ≡ false →
    GivesOne (whole_of s Stored) given → ActsShortly w s.tenant (confirm_step s tag bytes) given w
held_confirm w s tag bytes given own server has less one =
    let copy : StoredCopy = record { tag = tag; bytes = bytes } in
    let m : OwnMessage = letter_as (own_short s) (Store copy) in
    wholly_shortly w w s.tenant (confirm_step s tag bytes) (λ site local. serves site local m) given
    (λ local agrees. confirm_held tag (site_of w.plan w.here s.tenant) local m (sym (agrees.lacks (file_place s.file)) ∙ has) (less_is w s tag false local own less agrees))
    (held_acts w s copy given.out own server has less one.answer one.letters one.transfer one.fact) one.short

pub own_confirm : (w : Tables) (s : Short) (tag : Tag) (bytes : List ℕ) (given : ShortOutput) → s.file.tenant ≡ s.tenant → lacks_at w s.tenant (file_place s.file) ≡ false → is_less (copy_at w.store s.file).tag tag ≡ true →
    ((site_of w.plan w.here s.tenant).home s.session == w.here.node) ≡ true → ActsShortly w s.tenant (λ site local. stores_again site local (letter_as (own_short s) Stored)) given w → ActsShortly w s.tenant (confirm_step s tag bytes) given w
own_confirm w s tag bytes given own has less home acts =
    let m : OwnMessage = letter_as (own_short s) (Store (record { tag = tag; bytes = bytes })) in
    shortly_as w w s.tenant (confirm_step s tag bytes) (λ site local. stores_again site local (letter_as (own_short s) Stored)) given
    (λ local agrees. confirm_own tag (site_of w.plan w.here s.tenant) local m (sym (agrees.lacks (file_place s.file)) ∙ has) (less_is w s tag true local own less agrees) home
    ∙ again_as (site_of w.plan w.here s.tenant) local (own_short s) (Store (record { tag = tag; bytes = bytes })) Stored) acts

pub other_confirm : (w : Tables) (s : Short) (tag : Tag) (bytes : List ℕ) (given : ShortOutput) → s.file.tenant ≡ s.tenant → lacks_at w s.tenant (file_place s.file) ≡ false → is_less (copy_at w.store s.file).tag tag ≡ true →
    ((site_of w.plan w.here s.tenant).home s.session == w.here.node) ≡ false → GivesNothing given.out → given.short ≡ Some (reply_as s Want) → ActsShortly w s.tenant (confirm_step s tag bytes) given w
other_confirm w s tag bytes given own has less home none short =
    let t : ℕ = s.tenant in
    let site : Site = site_of w.plan w.here t in
    let body : Body = Store (record { tag = tag; bytes = bytes }) in
    let m : OwnMessage = letter_as (own_short s) body in
    let X : Local → ShortDoing = λ local. record { doing = silently local; whole = []; short = Some (short_as m Want) } in
    let same : (local : Local) → Agrees w t local → confirms tag site local m ≡ X local =
    λ local agrees. confirm_wants tag site local m (sym (agrees.lacks (file_place s.file)) ∙ has) (less_is w s tag true local own less agrees) home in
    record {
      leads = record {
        plan = refl;
        here = refl;
        own = λ local agrees. subst (λ (x : ShortDoing). Agrees w t x.doing.local) (sym (same local agrees)) agrees;
        others = λ u other local agrees. agrees;
      };
      gives = λ local agrees. subst (λ (x : ShortDoing). GivesShortly t x given) (sym (same local agrees)) (record {
        gives = record { answer = none.answer; letters = none.letters; transfer = none.transfer; fact = none.fact };
        short = short ∙ ap (λ r. Some r) (named_reply s Want body own);
      });
    }

-- ---- each of them

passed : (from : ℕ) (s : OwnShort) (bytes : List ℕ) (site : Site) (local : Local) → letter_fits site (limit_at (state_of everyone local) s.file.volume s.file.place) from (letter_with [] s) ≡ false → takes_short from s bytes site local ≡ wholly (silently local)
passed from s bytes site local is = rw is refl

pub by_ask : (from : ℕ) (s : OwnShort) (bound : Tag) (bytes : List ℕ) (site : Site) (local : Local) → letter_fits site (limit_at (state_of everyone local) s.file.volume s.file.place) from (letter_as s Ask) ≡ true →
    takes_short from (record s { body = AskAbove bound }) bytes site local ≡ asks_above bound site local (letter_as s Ask)
by_ask from s bound bytes site local is = rw is refl

pub by_tag : (from : ℕ) (s : OwnShort) (tag : Tag) (bytes : List ℕ) (site : Site) (local : Local) → letter_fits site (limit_at (state_of everyone local) s.file.volume s.file.place) from (letter_as s (Copy (record { tag = tag; bytes = [] }))) ≡ true →
    takes_short from (record s { body = Tagged tag }) bytes site local ≡ hears_tag tag site local (letter_as s (Copy (record { tag = tag; bytes = bytes })))
by_tag from s tag bytes site local is = rw is refl

pub by_confirm : (from : ℕ) (s : OwnShort) (tag : Tag) (bytes : List ℕ) (site : Site) (local : Local) → letter_fits site (limit_at (state_of everyone local) s.file.volume s.file.place) from (letter_as s (Store (record { tag = tag; bytes = [] }))) ≡ true →
    takes_short from (record s { body = Confirm tag }) bytes site local ≡ confirms tag site local (letter_as s (Store (record { tag = tag; bytes = bytes })))
by_confirm from s tag bytes site local is = rw is refl

pub by_want : (from : ℕ) (s : OwnShort) (bytes : List ℕ) (site : Site) (local : Local) → letter_fits site (limit_at (state_of everyone local) s.file.volume s.file.place) from (letter_as s Stored) ≡ true →
    takes_short from (record s { body = Want }) bytes site local ≡ stores_again site local (letter_as s Stored)
by_want from s bytes site local is = rw is refl

-- whether it fits, for the part
abbrev pub plain_fits : Tables → ℕ → Short → Body → Bool
plain_fits w from s body = letter_fits (site_of w.plan w.here s.tenant) (limit_of w.desk s.file) from (letter_as (own_short s) body)

fits_there : (w : Tables) (from : ℕ) (s : Short) (body : Body) (b : Bool) (local : Local) → s.file.tenant ≡ s.tenant → plain_fits w from s body ≡ b → Agrees w s.tenant local →
    letter_fits (site_of w.plan w.here s.tenant) (limit_at (state_of everyone local) s.file.volume s.file.file) from (letter_as (own_short s) body) ≡ b
fits_there w from s body b local own is agrees =
    ap (λ limit. letter_fits (site_of w.plan w.here s.tenant) limit from (letter_as (own_short s) body)) (sym (limit_is w s.tenant s.file local own agrees)) ∙ is

pub short_passed : (w : Tables) (from : ℕ) (s : Short) (bytes : List ℕ) (given : ShortOutput) → s.file.tenant ≡ s.tenant → plain_fits w from s (body_with [] s.body) ≡ false → GivesNothing given.out → given.short ≡ None →
    ActsShortly w s.tenant (takes_short from (own_short s) bytes) given w
short_passed w from s bytes given own fits none short =
    nothing_shortly w s.tenant (takes_short from (own_short s) bytes) given
    (λ local agrees. passed from (own_short s) bytes (site_of w.plan w.here s.tenant) local (fits_there w from s (body_with [] s.body) false local own fits agrees)) none short

-- a short letter of this body that fits does what this step does
pub short_by : (w new : Tables) (from : ℕ) (s : Short) (body : ShortBody) (bytes : List ℕ) (other : Site → Local → ShortDoing) (given : ShortOutput) → s.file.tenant ≡ s.tenant → s.body ≡ body → plain_fits w from s (body_with [] s.body) ≡ true →
    ((site : Site) (local : Local) → letter_fits site (limit_at (state_of everyone local) s.file.volume s.file.file) from (letter_as (own_short s) (body_with [] body)) ≡ true → takes_short from (record (own_short s) { body = body }) bytes site local ≡ other site local) →
    ActsShortly w s.tenant other given new → ActsShortly w s.tenant (takes_short from (own_short s) bytes) given new
short_by w new from s body bytes other given own is fits does acts =
    let site : Site = site_of w.plan w.here s.tenant in
    let fits' : plain_fits w from s (body_with [] body) ≡ true = ap (λ b. plain_fits w from s (body_with [] b)) (sym is) ∙ fits in
    shortly_as w new s.tenant (takes_short from (own_short s) bytes) other given
    (λ local agrees. ap (λ b. takes_short from (record (own_short s) { body = b }) bytes site local) is ∙ does site local (fits_there w from s (body_with [] body) true local own fits' agrees)) acts

-- ---- which form a letter has

bounds_as : (task : CodeTask) (file : FileId) (files : ℕ) (best other : Option StoredCopy) (session op round : ℕ) (heard : List Reply) (collected : List StoredCopy) (floor : ℕ) → SameFor task best other → other ≡ latest (heard_copies heard) →
    (if not (reads task) then Some any_tag else tag_in best) ≡ bound_by (Some (record { session = session; op = op; task = task_for task file files; round = round; heard = heard; collected = collected; floor = floor }))
bounds_as (Write bytes) file files best other session op round heard collected floor same is = refl
bounds_as Read file files best other session op round heard collected floor same is = ap tag_in (same ∙ is)
bounds_as ListFiles file files best other session op round heard collected floor same is = ap tag_in (same ∙ is)

bound_of : (grid : Grid) (t : ℕ) (code : Code) (o : Operation) → StandsFor grid t code o → bound_in (Some code) ≡ bound_by (Some o)
bound_of grid t code o h =
    bounds_as code.task code.file code.course.files code.best (latest (heard_copies o.heard)) o.session o.op o.round o.heard o.collected o.floor h.best refl
    ∙ ap (λ task. bound_by (Some (record o { task = task }))) h.task

bound_sat : (grid : Grid) (t floor last : ℕ) (code : Option Code) (o : Option Operation) → Sits grid t floor code last o → bound_in code ≡ bound_by o
bound_sat grid t floor last None None sits = refl
bound_sat grid t floor last None (Some o) sits = absurd sits
bound_sat grid t floor last (Some code) None sits = absurd sits
bound_sat grid t floor last (Some code) (Some o) sits = bound_of grid t code o sits

body_there : (w : Tables) (m : Message) (local : Local) → m.file.tenant ≡ m.tenant → IsOfPlan w m.tenant m.session → Agrees w m.tenant local → short_body_at w m ≡ short_body (site_of w.plan w.here m.tenant) local (own_message m)
body_there w m local own at agrees =
    let t : ℕ = m.tenant in
    let site : Site = site_of w.plan w.here t in
    let f : File = file_place m.file in
    let rest : Bool = not (place_of w.here.node == m.server) && place_of w.here.node / w.plan.grid.cols == m.server / w.plan.grid.cols in
    let said : bound_in (session_state_at w t m.session).operation ≡ bound_by (operation (state_for site local m.session) m.session) =
    bound_sat w.plan.grid t (session_state_at w t m.session).floor _ (session_state_at w t m.session).operation _ (session_state_of w t m.session local agrees at).sits in
    let beside : is_beside_in w m ≡ is_beside site local (own_message m) =
    ap (λ limit. is_some limit && (not (lacks_at w t f) && rest)) (limit_is w t m.file local own agrees)
    ∙ ap (λ lacks. is_some (limit_at (state_of everyone local) m.file.volume m.file.file) && (not lacks && rest)) (agrees.lacks f) in
    let tag : (copy_at w.store m.file).tag ≡ (copy_of local f).tag = ap (λ (c : StoredCopy). c.tag) (copy_is w t m.file local own agrees) in
    let own_store : Bool = site.node_at m.server == site.here in
    let before = session_state_of w t m.session local agrees at in
    let without : goes_without_at w m ≡ goes_without site local (own_message m) = ap (λ b. own_store || b) (confirms_is w.plan.grid t m.session (session_state_at w t m.session) (local.residents m.session) before) in
    ap (λ b. body_from m.body (bound_from b (is_beside_in w m) (copy_at w.store m.file).tag) (goes_without_at w m)) said
    ∙ ap (λ b. body_from m.body (bound_from (bound_by (operation (state_for site local m.session) m.session)) b (copy_at w.store m.file).tag) (goes_without_at w m)) beside
    ∙ ap (λ x. body_from m.body (bound_from (bound_by (operation (state_for site local m.session) m.session)) (is_beside site local (own_message m)) x) (goes_without_at w m)) tag
    ∙ ap (body_from m.body (bound_for site local (own_message m))) without

named_at : (m : Message) (body : ShortBody) → m.file.tenant ≡ m.tenant → short_at m body ≡ short_with m.tenant (short_as (own_message m) body)
named_at m body own = λ i. record { tenant = m.tenant; session = m.session; op = m.op; round = m.round; server = m.server; file = record { tenant = own i; volume = m.file.volume; file = m.file.file }; body = body }

form_is : (site : Site) (local : Local) (m : OwnMessage) → has_session site m.session ≡ true → short_form site local m ≡ option_map (short_as m) (short_body site local m)
form_is site local m has = rw has refl

no_form : (site : Site) (local : Local) (m : OwnMessage) → has_session site m.session ≡ false → short_form site local m ≡ None
no_form site local m has = rw has refl

same_form : (m : Message) (b : Option ShortBody) → m.file.tenant ≡ m.tenant → option_map (short_at m) b ≡ option_map (short_with m.tenant) (option_map (short_as (own_message m)) b)
same_form m None own = refl
same_form m (Some b) own = ap (λ s. Some s) (named_at m b own)

-- the tables have each letter written in the form that the part has it written in
pub form_stands : (w : Tables) (m : Message) → m.file.tenant ≡ m.tenant → ShortFormIs w m (form_at w m)
form_stands w m own = λ local agrees. elim (cases_Bool (has_session (site_of w.plan w.here m.tenant) m.session)) [
  | inr outside ↦ (
      let e : form_at w m ≡ None = rw outside refl in
      e ∙ sym (ap (λ s. option_map (short_with m.tenant) s) (no_form (site_of w.plan w.here m.tenant) local (own_message m) outside)))
  | inl inside ↦ (
      let site : Site = site_of w.plan w.here m.tenant in
      let e : form_at w m ≡ option_map (short_at m) (short_body_at w m) = rw inside refl in
      e
      ∙ same_form m (short_body_at w m) own
      ∙ ap (λ b. option_map (short_with m.tenant) (option_map (short_as (own_message m)) b)) (body_there w m local own (placed w m.tenant m.session inside) agrees)
      ∙ sym (ap (λ s. option_map (short_with m.tenant) s) (form_is site local (own_message m) inside)))
]
