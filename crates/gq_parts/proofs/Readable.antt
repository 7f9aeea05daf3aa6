-- A start reads the facts of a node's steps, those that a start needs, and what another start read.
use Rattle.std.proofs.Common.{◌≡◌, ◌∙◌, ℕ, zero, suc, ◌+◌, ◌<◌, ◌≤◌, Bool, true, false, List, [], ◌∷◌, length, map, Option, Some, None, refl, sym, ap, subst, arith}
use Rattle.std.specs.Prelude.{◌&&◌, not, slice_get, nat_lt, All}
use Rattle.std.specs.List.{list_all, flat_map, range_with_len}
use Rattle.std.specs.Option.{option_and_then, option_to_list}
use Rattle.std.proofs.lemmas.Bool.{cases_Bool, and_parts}
use Rattle.std.proofs.lemmas.List.Folds.{list_all-append}
use Rattle.gq_desk.specs.CheckedPlan.{CheckedPlan}
use Rattle.gq_desk.specs.Volumes.{Account, limit_in}
use Rattle.gq_desk.specs.declared.volumes.VolumeRow.{VolumeRow}
use Rattle.gq_text.specs.Canonical.{IsPlan}
use Rattle.gq_model.specs.Trace.{limit_at}
use Rattle.gq_cluster.specs.Cluster.{Part, everyone}
use Rattle.gq_cluster.specs.Facts.{OwnFact, Begun, Numbered, Kept, Had}
use Rattle.gq_tag.specs.declared.Body.TheVariants.{Store}
use Rattle.gq_keeper.specs.Starting.{RecallsAll}
use Rattle.gq_node.specs.declared.output.Fact.{Fact}
use Rattle.gq_node.specs.Inputs.{Input, Asked, AskedPlan, AskedLook, Brought, Shortened, Ticked, Looked, Joined, Fetching, Fetched, does}
use Rattle.gq_node.specs.Joining.{hears_joined, all_joined, peer_for, looks, is_peer, has_file, gives, takes}
use Rattle.gq_node.specs.Local.{Local, Doing, asks, receives, ticks, fact_fits, file_fits, file_in, part_in, state_of}
use Rattle.gq_node.specs.Resting.{FirstPlan, begun_local}
use Rattle.gq_node.specs.Recalling.{tenant_of, own_fact, fits_in}
use Rattle.gq_node.specs.Shorts.{takes_short}
use Rattle.gq_node.specs.Sites.{Here, Site, site_of}
use Rattle.gq_node.specs.Tables.{Tables, Agrees, fact_of}
use Rattle.gq_node.proofs.Journal.{FactIn, KeepsBy, all_requests_keep, all_letters_keep, shorts_keep, all_ticks_keep, asked_peer}
use Rattle.gq_facts.specs.Facts.{fact_line, fact_of_line}
use Rattle.gq_facts.specs.Laws.{FitsFact}
use Rattle.gq_facts.proofs.FactsBack.{facts_read_back}
use Rattle.gq_parts.specs.Inputs.{line_inputs}
use Rattle.gq_parts.specs.Within.{taken}
use Rattle.gq_parts.specs.Texts.{own_facts, facts_for}
use Rattle.gq_parts.specs.Steps.{AllAgree, fact_lines, StepsTo}
use Rattle.gq_parts.specs.Recalls.{RecallsFact, RecallsTo, reads_fact, reads_line}
use Rattle.gq_parts.specs.Resting.{volumes_at, IsBlank}
use Rattle.gq_parts.proofs.Knowing.{takes_it, does_volumes}
use Rattle.gq_parts.proofs.Taking.{joined_silent}
use Rattle.gq_parts.proofs.Resting.{its_volumes, of_case, of_case_has}

-- ---- what fits depends on the plan, the number and the volumes alone

-- in a tenant of these volumes
abbrev fits_part : Site → List VolumeRow → OwnFact → Bool
fits_part site volumes fact = fact_fits site false (option_and_then (limit_in (file_in fact).place) (slice_get volumes (file_in fact).volume)) fact

fits_by : CheckedPlan → Here → List VolumeRow → Fact → Bool
fits_by plan here volumes fact = fits_part (site_of plan here (tenant_of fact)) volumes (own_fact fact)

its_fits : (w : Tables) (fact : Fact) → fits_in w fact ≡ fits_by w.plan w.here (volumes_at w (tenant_of fact)) fact
unfolding fits_by
its_fits w fact = refl

own_fits : (w : Tables) (t : ℕ) (fact : OwnFact) → fits_in w (fact_of t fact) ≡ fits_part (site_of w.plan w.here t) (volumes_at w t) fact
own_fits w t (Begun k op) = refl
own_fits w t (Numbered k number) = refl
own_fits w t (Kept file copy) = refl
own_fits w t (Had file copy) = refl

same_fits : (a b : Tables) (fact : Fact) → b.plan ≡ a.plan → b.here ≡ a.here → volumes_at b (tenant_of fact) ≡ volumes_at a (tenant_of fact) → fits_in b fact ≡ fits_in a fact
same_fits a b fact plan server volumes =
    its_fits b fact
    ∙ ap (λ p. fits_by p b.here (volumes_at b (tenant_of fact)) fact) plan
    ∙ ap (λ n. fits_by a.plan n (volumes_at b (tenant_of fact)) fact) server
    ∙ ap (λ v. fits_by a.plan a.here v fact) volumes
    ∙ sym (its_fits a fact)

-- so in a blank node the same fits
blank_fits : (lost : ℕ → FirstPlan) (a new : Tables) → IsBlank lost a new → (fact : Fact) → tenant_of fact < length a.plan.rows → fits_in new fact ≡ fits_in a fact
blank_fits lost a new blank fact within =
    let t : ℕ = tenant_of fact in
    same_fits a new fact blank.node.plan_is blank.node.here_is (its_volumes new t (begun_local (site_of a.plan a.here t) (volumes_at a t) (lost t)) (blank.parts t within))

-- ---- lines that were read

-- the same is read, whatever was read before
reads_same : (a b : Tables) (fact : Option Fact) → b.plan ≡ a.plan → b.here ≡ a.here → b.desk ≡ a.desk → reads_fact b fact ≡ reads_fact a fact
reads_same a b None plan server desk = refl
reads_same a b (Some fact) plan server desk = same_fits a b fact plan server (ap (λ (desk : List Account). volumes_at (record a { desk = desk }) (tenant_of fact)) desk)

reads_same_line : (a b : Tables) (line : List ℕ) → b.plan ≡ a.plan → b.here ≡ a.here → b.desk ≡ a.desk → reads_line b line ≡ reads_line a line
reads_same_line a b line plan server desk =
    ap (λ p. reads_fact b (fact_of_line p line)) plan ∙ reads_same a b (fact_of_line a.plan line) plan server desk

-- the node of the same plan, number and volumes
record IsSame (a b : Tables) : Type 0 where
  plan : b.plan ≡ a.plan
  here : b.here ≡ a.here
  desk : b.desk ≡ a.desk

one_same : (fact : Option Fact) (a b : Tables) → RecallsFact a fact b → IsSame a b
one_same None a b never = absurd never
one_same (Some fact) a b read = record { plan = read.leads.plan; here = read.leads.here; desk = read.desk }

pub reads_on : (old : Tables) (line : List ℕ) (new : Tables) (other : List ℕ) → RecallsTo old line new → reads_line new other ≡ reads_line old other
reads_on old line new other read =
    let same : IsSame old new = one_same (fact_of_line old.plan line) old new read in
    reads_same_line old new other same.plan same.here same.desk

all_same : (lines : List (List ℕ)) (a b : Tables) → RecallsAll RecallsTo a lines b → IsSame a b
all_same [] a b same = record { plan = ap (λ (w : Tables). w.plan) (sym same); here = ap (λ (w : Tables). w.here) (sym same); desk = ap (λ (w : Tables). w.desk) (sym same) }
all_same (line ∷ lines) a b r =
    let one : IsSame a r.0 = one_same (fact_of_line a.plan line) a r.0 r.1 in
    let more : IsSame r.0 b = all_same lines r.0 b r.2 in
    record { plan = more.plan ∙ one.plan; here = more.here ∙ one.here; desk = more.desk ∙ one.desk }

-- a fact that was read a blank node reads
fact_again : (lost : ℕ → FirstPlan) (a next last new : Tables) (fact : Option Fact) → RecallsFact a fact next → IsSame a last → IsBlank lost last new → reads_fact new fact ≡ true
fact_again lost a next last new None never same blank = absurd never
fact_again lost a next last new (Some fact) read same blank =
    blank_fits lost last new blank fact (subst (λ (p : CheckedPlan). tenant_of fact < length p.rows) (sym same.plan) read.within)
    ∙ reads_same a last (Some fact) same.plan same.here same.desk ∙ read.fits

reads_rest : (lost : ℕ → FirstPlan) (lines : List (List ℕ)) (a last new : Tables) → RecallsAll RecallsTo a lines last → IsBlank lost last new → list_all (reads_line new) lines ≡ true
reads_rest lost [] a last new r blank = refl
reads_rest lost (line ∷ lines) a last new r blank =
    let same : IsSame a last = all_same (line ∷ lines) a last r in
    let first : reads_line new line ≡ true =
    ap (λ p. reads_fact new (fact_of_line p line)) (blank.node.plan_is ∙ same.plan) ∙ fact_again lost a r.0 last new (fact_of_line a.plan line) r.1 same blank in
    rw (first, reads_rest lost lines r.0 last new r.2 blank) refl

pub reads_again : (lost : ℕ → FirstPlan) (first last new : Tables) (lines : List (List ℕ)) → RecallsAll RecallsTo first lines last → IsBlank lost last new → list_all (reads_line new) lines ≡ true
reads_again lost first last new lines r blank = reads_rest lost lines first last new r blank

-- ---- lines that are written

-- a blank node reads the lines of facts that fit
pub lines_read : (lost : ℕ → FirstPlan) (a new : Tables) → IsBlank lost a new → IsPlan a.plan → (facts : List Fact) → All (FitsFact a.plan) facts → list_all (fits_in a) facts ≡ true → list_all (reads_line new) (fact_lines a.plan facts) ≡ true
lines_read lost a new blank sound [] fit fits = refl
lines_read lost a new blank sound (fact ∷ facts) fit fits =
    let its : FitsFact a.plan fact = fit 0 fact (omega arith) in
    let parts = and_parts (fits_in a fact) (list_all (fits_in a) facts) fits in
    let said : reads_line new (fact_line a.plan fact) ≡ reads_fact new (Some fact) =
    ap (λ p. reads_fact new (fact_of_line p (fact_line a.plan fact))) blank.node.plan_is ∙ ap (reads_fact new) (facts_read_back a.plan fact sound its) in
    let first : reads_line new (fact_line a.plan fact) ≡ true = said ∙ blank_fits lost a new blank fact its.tenant ∙ parts.0 in
    rw (first, lines_read lost a new blank sound facts (λ i d below. fit (suc i) d (omega arith)) parts.1) refl

-- ---- the facts of a step

fact_is_in : (site : Site) (local : Local) (fact : OwnFact) → FactIn site local fact → fits_part site local.volumes fact ≡ true
fact_is_in site local (Begun k op) is = is.0
fact_is_in site local (Numbered k number) is = is.0
fact_is_in site local (Kept file copy) is = (and_parts (not (local.lacks file)) (file_fits (limit_at (state_of everyone local) file.volume file.place) (Store copy)) is.0).1
fact_is_in site local (Had file copy) is = is.0

kept_fits : (site : Site) (local : Local) (fact : Option OwnFact) (part : Part) → KeepsBy site local fact part → list_all (fits_part site local.volumes) (option_to_list fact) ≡ true
kept_fits site local None part keeps = refl
kept_fits site local (Some fact) part keeps = rw (fact_is_in site local fact keeps.1) refl

-- a question for a file, or none, is no fact
no_fact : (site : Site) (local : Local) (doing : Doing) → doing.fact ≡ None → list_all (fits_part site local.volumes) (option_to_list doing.fact) ≡ true
no_fact site local doing none = rw none refl

doing_fits : (input : Input) (site : Site) (local : Local) → list_all (fits_part site local.volumes) (option_to_list (does input site local).fact) ≡ true
doing_fits (Asked op line) site local = kept_fits site local (asks op line site local).fact (part_in (asks op line site local).local) (all_requests_keep op line site local)
doing_fits AskedPlan site local = refl
doing_fits (AskedLook mark volume) site local = refl
doing_fits (Brought from letter) site local = kept_fits site local (receives from letter site local).fact (part_in (receives from letter site local).local) (all_letters_keep from letter site local)
doing_fits (Shortened from short bytes) site local =
    kept_fits site local (takes_short from short bytes site local).doing.fact (part_in (takes_short from short bytes site local).doing.local) (shorts_keep from short bytes site local)
doing_fits (Ticked session) site local = kept_fits site local (ticks session site local).fact (part_in (ticks session site local).local) (all_ticks_keep session site local)
doing_fits (Looked lane) site local = no_fact site local (looks lane site local) (by (all_joined site local.joined) refl)
  where
    by : (b : Bool) → all_joined site local.joined ≡ b → (looks lane site local).fact ≡ None
    by true is = rw is (asked_peer site local lane (peer_for site lane local.peer)).1
    by false is = rw is refl
doing_fits (Joined from losses) site local = no_fact site local (hears_joined from losses site local) (joined_silent from losses site local).fact
doing_fits (Fetching from file) site local = no_fact site local (gives from file site local) (by (is_peer site from && has_file local file) refl)
  where
    by : (b : Bool) → (is_peer site from && has_file local file) ≡ b → (gives from file site local).fact ≡ None
    by true is = rw is refl
    by false is = rw is refl
doing_fits (Fetched from file copy) site local = by (takes_it site local from file copy) refl
  where
    by : (b : Bool) → takes_it site local from file copy ≡ b → list_all (fits_part site local.volumes) (option_to_list (takes from file copy site local).fact) ≡ true
    by true is = rw is (rw ((and_parts (is_peer site from && local.lacks file) (file_fits (limit_at (state_of everyone local) file.volume file.place) (Store copy)) is).1) refl)
    by false is = rw is refl

inputs_fit : (site : Site) (local : Local) (inputs : List Input) → list_all (fits_part site local.volumes) (own_facts site local inputs) ≡ true
inputs_fit site local [] = refl
inputs_fit site local (input ∷ inputs) =
    let doing : Doing = does input site local in
    let one : list_all (fits_part site local.volumes) (option_to_list doing.fact) ≡ true = doing_fits input site local in
    let more : list_all (fits_part site local.volumes) (own_facts site doing.local inputs) ≡ true =
    subst (λ v. list_all (fits_part site v) (own_facts site doing.local inputs) ≡ true) (does_volumes input site local) (inputs_fit site doing.local inputs) in
    rw (list_all-append (fits_part site local.volumes) (option_to_list doing.fact) (own_facts site doing.local inputs), one, more) refl

map_fits : (w : Tables) (t : ℕ) (facts : List OwnFact) → list_all (fits_part (site_of w.plan w.here t) (volumes_at w t)) facts ≡ true → list_all (fits_in w) (map (fact_of t) facts) ≡ true
map_fits w t [] fits = refl
map_fits w t (fact ∷ facts) fits =
    let parts = and_parts (fits_part (site_of w.plan w.here t) (volumes_at w t) fact) (list_all (fits_part (site_of w.plan w.here t) (volumes_at w t)) facts) fits in
    rw (own_fits w t fact ∙ parts.0, map_fits w t facts parts.1) refl

tenants_fit : (w : Tables) (g : ℕ → List Fact) (a n : ℕ) → ((t : ℕ) → a ≤ t → t < a + n → list_all (fits_in w) (g t) ≡ true) → list_all (fits_in w) (flat_map g (range_with_len a n)) ≡ true
tenants_fit w g a zero each = refl
tenants_fit w g a (suc n) each =
    rw (list_all-append (fits_in w) (g a) (flat_map g (range_with_len (a + 1) n)), each a (omega arith) (omega arith), tenants_fit w g (a + 1) n (λ t low high. each t (omega arith) (omega arith))) refl

step_fits : (old : Tables) (line : List ℕ) (facts : List (List ℕ)) (told : List ℕ) (new : Tables) (step : StepsTo old line facts told new) → list_all (fits_in old) step.facts ≡ true
step_fits old line facts told new step = ap (list_all (fits_in old)) ((step.takes []).gives parts agree) ∙ tenants_fit old (λ t. facts_for old.plan old.here t (parts t) (inputs t)) 0 n each
  where
    n : ℕ
    n = length old.plan.rows

    inputs : ℕ → List Input
    inputs = line_inputs old.plan old.here line

    parts : ℕ → Local
    parts t = of_case t n (λ within. (step.stand t within).local) (begun_local (site_of old.plan old.here t) [] (record { volumes = 0; losses = 0 })) (cases_Bool (nat_lt t n))

    agree : AllAgree old parts
    agree t within = of_case_has (Agrees old t) t n (λ h. (step.stand t h).local) (begun_local (site_of old.plan old.here t) [] (record { volumes = 0; losses = 0 })) (λ h. (step.stand t h).agrees) within (cases_Bool (nat_lt t n))

    each : (t : ℕ) → 0 ≤ t → t < 0 + n → list_all (fits_in old) (facts_for old.plan old.here t (parts t) (inputs t)) ≡ true
    each t low high =
        let site : Site = site_of old.plan old.here t in
        let all : List Input = taken site (parts t) (inputs t) in
        map_fits old t (own_facts site (parts t) all)
        (subst (λ v. list_all (fits_part site v) (own_facts site (parts t) all) ≡ true)
        (sym (its_volumes old t (parts t) (agree t (omega arith)))) (inputs_fit site (parts t) all))

pub gives_readable : (lost : ℕ → FirstPlan) (old : Tables) (line : List ℕ) (facts : List (List ℕ)) (told : List ℕ) (new other : Tables) → StepsTo old line facts told new → IsBlank lost old other → list_all (reads_line other) facts ≡ true
gives_readable lost old line facts told new other step blank =
    ap (list_all (reads_line other)) step.lines_are ∙ lines_read lost old other blank step.sound step.facts (step.takes []).fit (step_fits old line facts told new step)
