-- The picture of what a tenant sees is that of all lines.
use Rattle.std.proofs.Common.{◌≡◌, ◌∙◌, ℕ, suc, ◌+◌, List, [], ◌∷◌, ◌++◌, Bool, true, false, Option, Some, None, map, length, refl, sym, ap, subst, append-nil, arith}
use Rattle.std.specs.Prelude.{nat_lt, filter_map, if◌then◌else◌}
use Rattle.std.specs.List.{cons_option}
use Rattle.std.proofs.lemmas.List.{length-map}
use Rattle.std.proofs.lemmas.List.Elements.{filter_map-append}
use Rattle.gq_tag.specs.Tag.{File}
use Rattle.gq_desk.specs.CheckedPlan.{CheckedPlan, nobody}
use Rattle.gq_laws.specs.declared.ops.Op.{Op}
use Rattle.gq_laws.specs.Operations.{Legal, Tagged}
use Rattle.gq_laws.specs.Orders.{order}
use Rattle.gq_laws.specs.Tenants.{tenant_operations}
use Rattle.gq_laws.proofs.AllTenants.{all_tenants_tagged}
use Rattle.gq_model.specs.declared.events.Event.{Event}
use Rattle.gq_model.specs.declared.events.Event.TheVariants.{Tenant, Server as OfServer, Stray}
use Rattle.gq_model.specs.declared.events.ServerLine.{ServerLine}
use Rattle.gq_model.specs.declared.events.Answer.{Answer}
use Rattle.gq_model.specs.Shown.{shown}
use Rattle.gq_model.specs.Told.{Told}
use Rattle.gq_model.specs.Trace.{Serving}
use Rattle.gq_order.specs.Runs.{IsRun}
use Rattle.gq_script.proofs.Completing.{length-answers}
use Rattle.gq_model.specs.Lone.{said, past_of}
use Rattle.gq_model.specs.Events.{server_turn, server_lines, answer_to}
use Rattle.gq_picture.specs.declared.absences.Absence.{Absence}
use Rattle.gq_picture.specs.declared.absences.Effect.{Effect}
use Rattle.gq_picture.specs.declared.absences.Effect.TheVariants.{Nothing, GoesDown, ComesBack}
use Rattle.gq_picture.specs.Absences.{effect_of, effects, absence_at, absences, counted_from, is_return, return_place}
use Rattle.gq_picture.proofs.Outages.{effects_from, effects_are}
use Rattle.gq_picture.specs.Drawing.{IsDrawing}
use Rattle.gq_picture.specs.Laws.{TellsNoLie, all_effects}
use Rattle.gq_picture.specs.declared.drawing.Drawing.{Drawing}
use Rattle.gq_text.specs.Input.{event_of}
use Rattle.gq_script.specs.Seeing.{is_seen, seen_events, seen_places}
use Rattle.gq_svg.specs.Svg.{picture_text}
use Rattle.gq_svg.specs.declared.picture.Heading.{Heading}
use Rattle.gq_files.specs.Histories.{placed}
use Rattle.gq_script.specs.Linearizable.{operations_of}
use Rattle.gq_files.specs.Pictures.{IsPictureOf, TellsPicture, absences_of, heading_of, servers_of}
use Rattle.gq_files.proofs.Histories.{operations_kept}

-- ---- the tenant sees all lines of servers

-- there are as many places as events
pub as_many : (t n : ℕ) (events : List Event) → length (seen_places (Some t) n events) ≡ length (seen_events (Some t) events)
as_many t n [] = refl
as_many t n (e ∷ events) = by (is_seen (Some t) e) refl (as_many t (n + 1) events)
  where
    by : (b : Bool) → is_seen (Some t) e ≡ b → length (seen_places (Some t) (n + 1) events) ≡ length (seen_events (Some t) events) → length (seen_places (Some t) n (e ∷ events)) ≡ length (seen_events (Some t) (e ∷ events))
    by true is later = rw is (ap (λ (k : ℕ). suc k) later)
    by false is later = rw is later

-- a server line does the same behind the same server lines
line_same : (plan : CheckedPlan) (seen past : List Event) (line : ServerLine) → server_lines seen ≡ server_lines past → effect_of (OfServer line) (answer_to plan seen (OfServer line)) ≡ effect_of (OfServer line) (answer_to plan past (OfServer line))
line_same plan seen past line same = λ i. effect_of (OfServer line) (said plan.grid nobody (past_of plan.grid nobody (same i)) (Serving line))

lines_more : (seen past : List Event) (event : Event) → server_lines seen ≡ server_lines past → server_lines (seen ++ event ∷ []) ≡ server_lines (past ++ event ∷ [])
lines_more seen past event same = filter_map-append server_turn seen (event ∷ []) ∙ ap (λ z. z ++ filter_map server_turn (event ∷ [])) same ∙ sym (filter_map-append server_turn past (event ∷ []))

-- an event that is no server line
lines_passed : (seen past : List Event) (event : Event) → server_turn event ≡ None → server_lines seen ≡ server_lines past → server_lines seen ≡ server_lines (past ++ event ∷ [])
lines_passed seen past event none same = same ∙ sym (filter_map-append server_turn past (event ∷ []) ∙ ap (λ o. server_lines past ++ cons_option o []) none ∙ append-nil (server_lines past))

-- what an absence that begins here depends on
absence_same : (servers n : ℕ) (e : Effect) (ps qs : List ℕ) (es fs : List Effect) → ((s : ℕ) → return_place s ps es ≡ return_place s qs fs) → absence_at servers n e ps es ≡ absence_at servers n e qs fs
absence_same servers n (GoesDown s) ps qs es fs same = ap (λ (o : Option ℕ). if nat_lt s servers then record { server = s; from = n; until = o } ∷ [] else []) (same s)
absence_same servers n (ComesBack s) ps qs es fs same = refl
absence_same servers n Nothing ps qs es fs same = refl

return_seen : (plan : CheckedPlan) (t n s : ℕ) (seen past events : List Event) → server_lines seen ≡ server_lines past →
    return_place s (seen_places (Some t) n events) (effects_from plan seen (seen_events (Some t) events)) ≡ return_place s (counted_from n (effects_from plan past events)) (effects_from plan past events)
unfolding effects_from
return_seen plan t n s seen past [] same = refl
return_seen plan t n s seen past (OfServer line ∷ events) same =
    (λ i. if is_return s (line_same plan seen past line same i) then Some n else return_seen plan t (n + 1) s (seen ++ OfServer line ∷ []) (past ++ OfServer line ∷ []) events (lines_more seen past (OfServer line) same) i)
return_seen plan t n s seen past (Stray ∷ events) same = return_seen plan t (n + 1) s seen (past ++ Stray ∷ []) events (lines_passed seen past Stray refl same)
return_seen plan t n s seen past (Tenant tenant line ∷ events) same =
    by (is_seen (Some t) (Tenant tenant line)) refl
    (return_seen plan t (n + 1) s (seen ++ Tenant tenant line ∷ []) (past ++ Tenant tenant line ∷ []) events (lines_more seen past (Tenant tenant line) same))
    (return_seen plan t (n + 1) s seen (past ++ Tenant tenant line ∷ []) events (lines_passed seen past (Tenant tenant line) refl same))
  where
    T : List Event → Type 0
    T before = return_place s (seen_places (Some t) (n + 1) events) (effects_from plan before (seen_events (Some t) events)) ≡ return_place s (counted_from (n + 1) (effects_from plan (past ++ Tenant tenant line ∷ []) events)) (effects_from plan (past ++ Tenant tenant line ∷ []) events)

    by : (b : Bool) → is_seen (Some t) (Tenant tenant line) ≡ b → T (seen ++ Tenant tenant line ∷ []) → T seen → return_place s (seen_places (Some t) n (Tenant tenant line ∷ events)) (effects_from plan seen (seen_events (Some t) (Tenant tenant line ∷ events))) ≡ return_place s (counted_from (n + 1) (effects_from plan (past ++ Tenant tenant line ∷ []) events)) (effects_from plan (past ++ Tenant tenant line ∷ []) events)
    by true is its other = rw is its
    by false is its other = rw is other

absences_seen : (plan : CheckedPlan) (t n servers : ℕ) (seen past events : List Event) → server_lines seen ≡ server_lines past →
    absences servers (seen_places (Some t) n events) (effects_from plan seen (seen_events (Some t) events)) ≡ absences servers (counted_from n (effects_from plan past events)) (effects_from plan past events)
unfolding effects_from
absences_seen plan t n servers seen past [] same = refl
absences_seen plan t n servers seen past (OfServer line ∷ events) same =
    let more : server_lines (seen ++ OfServer line ∷ []) ≡ server_lines (past ++ OfServer line ∷ []) = lines_more seen past (OfServer line) same in
    let here : Effect = effect_of (OfServer line) (answer_to plan past (OfServer line)) in
    (λ i. absence_at servers n (line_same plan seen past line same i) (seen_places (Some t) (n + 1) events) (effects_from plan (seen ++ OfServer line ∷ []) (seen_events (Some t) events)) ++ absences_seen plan t (n + 1) servers (seen ++ OfServer line ∷ []) (past ++ OfServer line ∷ []) events more i)
    ∙ ap (λ first. first ++ absences servers (counted_from (n + 1) (effects_from plan (past ++ OfServer line ∷ []) events)) (effects_from plan (past ++ OfServer line ∷ []) events))
    (absence_same servers n here (seen_places (Some t) (n + 1) events) (counted_from (n + 1) (effects_from plan (past ++ OfServer line ∷ []) events)) (effects_from plan (seen ++ OfServer line ∷ []) (seen_events (Some t) events)) (effects_from plan (past ++ OfServer line ∷ []) events)
    (λ s. return_seen plan t (n + 1) s (seen ++ OfServer line ∷ []) (past ++ OfServer line ∷ []) events more))
absences_seen plan t n servers seen past (Stray ∷ events) same = absences_seen plan t (n + 1) servers seen (past ++ Stray ∷ []) events (lines_passed seen past Stray refl same)
absences_seen plan t n servers seen past (Tenant tenant line ∷ events) same =
    by (is_seen (Some t) (Tenant tenant line)) refl
    (absences_seen plan t (n + 1) servers (seen ++ Tenant tenant line ∷ []) (past ++ Tenant tenant line ∷ []) events (lines_more seen past (Tenant tenant line) same))
    (absences_seen plan t (n + 1) servers seen (past ++ Tenant tenant line ∷ []) events (lines_passed seen past (Tenant tenant line) refl same))
  where
    T : List Event → Type 0
    T before = absences servers (seen_places (Some t) (n + 1) events) (effects_from plan before (seen_events (Some t) events)) ≡ absences servers (counted_from (n + 1) (effects_from plan (past ++ Tenant tenant line ∷ []) events)) (effects_from plan (past ++ Tenant tenant line ∷ []) events)

    by : (b : Bool) → is_seen (Some t) (Tenant tenant line) ≡ b → T (seen ++ Tenant tenant line ∷ []) → T seen → absences servers (seen_places (Some t) n (Tenant tenant line ∷ events)) (effects_from plan seen (seen_events (Some t) (Tenant tenant line ∷ events))) ≡ absences servers (counted_from (n + 1) (effects_from plan (past ++ Tenant tenant line ∷ []) events)) (effects_from plan (past ++ Tenant tenant line ∷ []) events)
    by true is its other = rw is its
    by false is its other = rw is other

-- ---- the picture

-- the text of a drawing of operations that are tagged, in their order, tells their picture
pub picture_told : (name : List ℕ) (heading : Heading) (ops drawn : List Op) (places : List ℕ) (all absent : List Absence) (d : Drawing) (text : List ℕ) → drawn ≡ ops → absent ≡ all
    → (Tagged drawn → places ≡ order drawn) → (Tagged drawn → Legal drawn places) → IsDrawing drawn places absent d → (Legal drawn places → TellsNoLie drawn places absent d)
    → text ≡ picture_text name heading d → Tagged ops → TellsPicture name heading ops all text
picture_told name heading ops drawn places all absent d text same_ops same_all ordered legal is true_of told tagged =
    let tagged_drawn : Tagged drawn = subst Tagged (sym same_ops) tagged in
    let in_order : IsDrawing drawn (order drawn) absent d = subst (λ (p : List ℕ). IsDrawing drawn p absent d) (ordered tagged_drawn) is in
    let no_lie : TellsNoLie drawn (order drawn) absent d = subst (λ (p : List ℕ). TellsNoLie drawn p absent d) (ordered tagged_drawn) (true_of (legal tagged_drawn)) in
    record {
      drawing = d;
      is = subst (λ (o : List Op). IsDrawing o (order o) all d) same_ops (subst (λ (a : List Absence). IsDrawing drawn (order drawn) a d) same_all in_order);
      is_true = subst (λ (o : List Op). TellsNoLie o (order o) all d) same_ops (subst (λ (a : List Absence). TellsNoLie drawn (order drawn) a d) same_all no_lie);
      told = told;
    }

pub picture_written : (plan world_plan : CheckedPlan) (t : ℕ) (file : File) (lines : List (List ℕ)) (name : List ℕ) (kept : List Event) (places : List ℕ) (text : List ℕ)
    → world_plan ≡ plan → kept ≡ seen_events (Some t) (map (event_of plan) lines) → places ≡ seen_places (Some t) 0 (map (event_of plan) lines)
    → (Tagged (map (placed places) (tenant_operations world_plan kept t file)) → TellsPicture name (heading_of world_plan t file) (map (placed places) (tenant_operations world_plan kept t file)) (absences (servers_of world_plan) places (all_effects world_plan kept)) text)
    → IsPictureOf plan lines name t file text
picture_written plan world_plan t file lines name kept places text is seen stand told =
    subst (λ (all : List Absence). TellsPicture name (heading_of plan t file) (operations_of plan lines t file) all text) down
    (subst (λ (o : List Op). TellsPicture name (heading_of plan t file) o (absences (servers_of world_plan) places (all_effects world_plan kept)) text) ops
    (subst (λ (p : CheckedPlan). TellsPicture name (heading_of p t file) (map (placed places) (tenant_operations world_plan kept t file)) (absences (servers_of world_plan) places (all_effects world_plan kept)) text) is
    (told (subst Tagged (sym ops) (all_tenants_tagged plan events t file)))))
  where
    events : List Event
    events = map (event_of plan) lines

    ops : map (placed places) (tenant_operations world_plan kept t file) ≡ operations_of plan lines t file
    ops = operations_kept plan world_plan t file lines kept places is seen stand

    down : absences (servers_of world_plan) places (all_effects world_plan kept) ≡ absences_of plan events
    down = ap (λ (p : CheckedPlan). absences (servers_of p) places (all_effects p kept)) is
        ∙ (ap (λ (all : List Event). absences (servers_of plan) places (all_effects plan all)) seen
        ∙ (ap (λ (ps : List ℕ). absences (servers_of plan) ps (all_effects plan (seen_events (Some t) events))) stand
        ∙ (ap (λ (all : List Effect). absences (servers_of plan) (seen_places (Some t) 0 events) all) (effects_are plan [] (seen_events (Some t) events))
        ∙ (absences_seen plan t 0 (servers_of plan) [] [] events refl
        ∙ ap (λ (all : List Effect). absences (servers_of plan) (counted_from 0 all) all) (sym (effects_are plan [] events))))))

-- ---- as many effects as events

pub effects-length : (events : List Event) (told : List Told) → length told ≡ length events → length (effects events told) ≡ length events
effects-length [] told same = refl
effects-length (event ∷ events) [] same = absurd (omega arith)
effects-length (event ∷ events) (one ∷ more) same = ap suc (effects-length events more (omega arith))

pub run_count : (plan : CheckedPlan) (events : List Event) (given : List Answer) → IsRun plan events given → length given ≡ length events
run_count plan events given run = sym (length-map given shown) ∙ ap length run ∙ length-answers plan events []
