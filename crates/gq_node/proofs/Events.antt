-- All that comes to the nodes, in order.
use Rattle.std.proofs.Common.{◌≡◌, ◌∙◌, ℕ, Bool, true, false, List, [], ◌∷◌, ◌++◌, refl, sym, ap, subst, None, inl, inr, arith}
use Rattle.std.specs.Prelude.{Contains}
use Rattle.std.proofs.lemmas.Bool.{cases_Bool, true≢false}
use Rattle.std.proofs.lemmas.List.Sums.{fold-append}
use Rattle.gq_grid.specs.Grid.{with_server}
use Rattle.gq_replace.specs.Fleet.{Fleet, FleetStep, Hears, new_fleet, after_fleet_step, AllMayHappen}
use Rattle.gq_replace.specs.Keeping.{KeptFiles}
use Rattle.gq_replace.specs.Plans.{place_of}
use Rattle.gq_replace.proofs.Following.{all_follow, all_right}
use Rattle.gq_node.specs.Bridge.{request_act, request_answer, letter_act, short_act, tick_act}
use Rattle.gq_node.specs.Inputs.{Input, Asked, AskedPlan, AskedLook, Brought, Shortened, Ticked, Looked, Joined, Fetching, Fetched, does}
use Rattle.gq_node.specs.Joining.{hears_joined}
use Rattle.gq_node.specs.Local.{Local, Doing, silently, asks, tells_holding, receives, ticks}
use Rattle.gq_node.specs.Nodes.{NodeWorld, site_at, Nodes, new_nodes, Event, Started, Came, AskedToJoin, takes_word, after_doing, after_word, after_input, after_event, nodes_after, WasWritten, CanCome, AllCanCome, input_steps, steps_of, all_steps, fleet_behind, IsAlike, act_of, own_answer, answer_in, SaidBy, IsOwn, EventSaid, Follows, AllNodesFollow, nodes_of, AllNodesServe}
use Rattle.gq_node.specs.Shorts.{takes_short}
use Rattle.gq_node.specs.Sites.{Site}
use Rattle.gq_node.proofs.Arriving.{request_may, tick_may, letter_may, short_may}
use Rattle.gq_node.proofs.Beginnings.{begins_follow, restarts_follow, idle_is, ops_are, floors_are}
use Rattle.gq_node.proofs.Bridging.{all_requests_act, all_questions_tell, all_looks_tell, all_letters_act, shorts_act, all_ticks_act}
use Rattle.gq_node.specs.Looked.{tells_look}
use Rattle.gq_node.proofs.Fetching.{idle_follows, looks_follow, gives_follow, takes_follow}
use Rattle.gq_node.proofs.Following.{Sound, OneStep, does_follow, request_follows}
use Rattle.gq_node.proofs.Journal.{all_requests_keep, all_letters_keep, shorts_keep, all_ticks_keep}
use Rattle.gq_node.proofs.Later.{Grows}
use Rattle.gq_node.proofs.Staying.{asks_view, receives_view, shorts_view, ticks_view}
use Rattle.gq_node.proofs.Telling.{hears_follow, answers_follow}

-- ---- the word of another node

joined_follows : (w : NodeWorld) → Grows w → (nodes : Nodes) (u : Fleet) (n from losses : ℕ) → nodes.begun n ≡ true → nodes.gone n ≡ false → Sound w nodes → IsAlike w nodes u → Contains nodes.joined (record { from = from; to = n; losses = losses }) →
    OneStep w (after_input w nodes n (Joined from losses)) u (input_steps (site_at w nodes n) (nodes.local n) n (Joined from losses)) (IsOwn None (hears_joined from losses (site_at w nodes n) (nodes.local n)))
joined_follows w g nodes u n from losses begun stays sound alike was = by (takes_word site from losses) refl
  where
    site : Site
    site = site_at w nodes n

    local : Local
    local = nodes.local n

    Goal : Doing → Nodes → List FleetStep → Type 0
    Goal doing new steps = OneStep w new u steps (IsOwn None doing)

    by : (b : Bool) → takes_word site from losses ≡ b → Goal (hears_joined from losses site local) (after_input w nodes n (Joined from losses)) (input_steps site local n (Joined from losses))
    by false is =
        let d : hears_joined from losses site local ≡ silently local = rw is refl in
        let e : after_input w nodes n (Joined from losses) ≡ after_doing w nodes n (silently local) = (rw is refl) ∙ ap (after_doing w nodes n) d in
        let f : input_steps site local n (Joined from losses) ≡ [] = rw is refl in
        subst (λ x. Goal x (after_input w nodes n (Joined from losses)) (input_steps site local n (Joined from losses))) (sym d)
        (subst (λ x. Goal (silently local) x (input_steps site local n (Joined from losses))) (sym e) (subst (Goal (silently local) (after_doing w nodes n (silently local))) (sym f) (idle_follows w g nodes u n begun stays sound alike)))
    by true is =
        let new : Doing = silently (record local { joined = with_server (place_of from) local.joined }) in
        let d : hears_joined from losses site local ≡ new = rw is refl in
        let e : after_input w nodes n (Joined from losses) ≡ after_word w nodes n from losses (after_doing w nodes n new) = ap (λ x. after_word w nodes n from losses (after_doing w nodes n x)) d in
        let f : input_steps site local n (Joined from losses) ≡ Hears n from ∷ [] = rw is refl in
        let one = hears_follow w g nodes u n from losses begun stays sound alike was is in
        subst (λ x. Goal x (after_input w nodes n (Joined from losses)) (input_steps site local n (Joined from losses))) (sym d)
        (subst (λ x. Goal new x (input_steps site local n (Joined from losses))) (sym e) (subst (Goal new (after_word w nodes n from losses (after_doing w nodes n new))) (sym f)
        (record { may = one.may; said_is = record { told = refl; letters = refl }; alike = one.alike; sound = one.sound })))

-- ---- one event

one_input : (w : NodeWorld) → Grows w → (nodes : Nodes) (u : Fleet) (n : ℕ) (input : Input) → nodes.begun n ≡ true → nodes.gone n ≡ false → Sound w nodes → IsAlike w nodes u → WasWritten nodes n input →
    OneStep w (after_input w nodes n input) u (input_steps (site_at w nodes n) (nodes.local n) n input)
    (SaidBy w.world.setting u n (act_of input (site_at w nodes n) (nodes.local n)) (own_answer (site_at w nodes n) (nodes.local n) input) (answer_in (nodes.local n) input) (does input (site_at w nodes n) (nodes.local n)))
one_input w g nodes u n (Asked op line) begun stays sound alike was =
    let site : Site = site_at w nodes n in
    let local : Local = nodes.local n in
    request_follows w g nodes u n (request_act op line site local) (request_answer op line site local) (answer_in local (Asked op line)) (asks op line site local) begun stays sound alike
    (all_requests_act op line site local (sound.each n begun).home) (all_requests_keep op line site local) (asks_view op line site local) (request_may w.world u op line site local refl)
one_input w g nodes u n AskedPlan begun stays sound alike was =
    let site : Site = site_at w nodes n in
    let local : Local = nodes.local n in
    does_follow w g nodes u n None (own_answer site local AskedPlan) (λ told. None) (tells_holding site local) begun stays sound alike (all_questions_tell site local (sound.each n begun).home) refl refl tt
one_input w g nodes u n (AskedLook mark volume) begun stays sound alike was =
    let site : Site = site_at w nodes n in
    let local : Local = nodes.local n in
    does_follow w g nodes u n None (own_answer site local (AskedLook mark volume)) (λ told. None) (tells_look mark volume site local) begun stays sound alike (all_looks_tell mark volume site local (sound.each n begun).home) refl refl tt
one_input w g nodes u n (Brought from letter) begun stays sound alike was =
    let site : Site = site_at w nodes n in
    let local : Local = nodes.local n in
    does_follow w g nodes u n (letter_act from letter site local) None (answer_in local (Brought from letter)) (receives from letter site local) begun stays sound alike
    (all_letters_act from letter site local (sound.each n begun).home) (all_letters_keep from letter site local) (receives_view from letter site local) (letter_may w nodes u n from letter begun alike (sound.each n begun).volumes was)
one_input w g nodes u n (Shortened from short bytes) begun stays sound alike was =
    let site : Site = site_at w nodes n in
    let local : Local = nodes.local n in
    request_follows w g nodes u n (short_act from short bytes site local) None (answer_in local (Shortened from short bytes)) (takes_short from short bytes site local).doing begun stays sound alike
    (shorts_act from short bytes site local (sound.each n begun).home) (shorts_keep from short bytes site local) (shorts_view from short bytes site local)
    (short_may w nodes u n from short bytes begun alike (sound.each n begun).volumes was)
one_input w g nodes u n (Ticked k) begun stays sound alike was =
    let site : Site = site_at w nodes n in
    let local : Local = nodes.local n in
    request_follows w g nodes u n (tick_act k site local) None (λ told. None) (ticks k site local) begun stays sound alike
    (all_ticks_act k site local (sound.each n begun).home) (all_ticks_keep k site local) (ticks_view k site local) (tick_may w.world u k site local refl (sound.each n begun).home)
one_input w g nodes u n (Looked lane) begun stays sound alike was = looks_follow w g nodes u n lane begun stays sound alike
one_input w g nodes u n (Joined from losses) begun stays sound alike was = joined_follows w g nodes u n from losses begun stays sound alike was
one_input w g nodes u n (Fetching from file) begun stays sound alike was = gives_follow w g nodes u n from file begun stays sound alike was
one_input w g nodes u n (Fetched from file copy) begun stays sound alike was = takes_follow w g nodes u n from file copy begun stays sound alike was

one_event : (w : NodeWorld) → Grows w → (nodes : Nodes) (u : Fleet) (event : Event) → Sound w nodes → IsAlike w nodes u → CanCome w nodes event → OneStep w (after_event w nodes event) u (steps_of w nodes event) (EventSaid w nodes u event)
one_event w g nodes u (Started n plan) sound alike can = elim (cases_Bool (nodes.begun n)) [
  | inl begun ↦ (restarts_follow w g nodes u n plan sound alike can begun)
  | inr none ↦ (begins_follow w g nodes u n plan sound alike can none)
]
one_event w g nodes u (Came n input) sound alike can = one_input w g nodes u n input can.0 can.1 sound alike can.2
one_event w g nodes u (AskedToJoin n from losses) sound alike can =
    let one = answers_follow w g nodes u n from losses can.0 can.1 sound alike in
    record { may = one.may; said_is = record { told = refl; letters = refl }; alike = one.alike; sound = one.sound }

-- ---- all events

may_append : (w : NodeWorld) (u : Fleet) (xs ys : List FleetStep) → AllMayHappen w.world u xs → AllMayHappen w.world (fleet_behind w u xs) ys → AllMayHappen w.world u (xs ++ ys)
may_append w u [] ys may more = more
may_append w u (x ∷ xs) ys may more = (may.0, may_append w (after_fleet_step w.world u x) xs ys may.1 more)

follows : (w : NodeWorld) → Grows w → (events : List Event) (nodes : Nodes) (u : Fleet) → Sound w nodes → IsAlike w nodes u → AllCanCome w nodes events → Follows w nodes u events
follows w g [] nodes u sound alike can = record {
  may = tt;
  said = tt;
  alike = alike;
  again = λ n plan begun later has.
      let same = (sound.each n begun).journal plan later has in
      record {
        files = same;
        ops = λ k. ops_are w (nodes.first_plan n) plan n (nodes.facts n) k ∙ ap (λ (z : KeptFiles). z.kept.op k) same;
        floors = λ k. floors_are w (nodes.first_plan n) plan n (nodes.facts n) k ∙ ap (λ (z : KeptFiles). z.kept.floor k) same;
        idle = idle_is w (nodes.first_plan n) plan n (nodes.facts n);
      };
}
follows w g (event ∷ events) nodes u sound alike can =
    let one = one_event w g nodes u event sound alike can.0 in
    let steps : List FleetStep = steps_of w nodes event in
    let new : Nodes = after_event w nodes event in
    let rest : Follows w new (fleet_behind w u steps) events = follows w g events new (fleet_behind w u steps) one.sound one.alike can.1 in
    record {
      may = may_append w u steps (all_steps w new events) one.may rest.may;
      said = (one.said_is, rest.said);
      alike = subst (IsAlike w (nodes_after w new events)) (sym (fold-append (after_fleet_step w.world) u steps (all_steps w new events))) rest.alike;
      again = rest.again;
    }

new_sound : (w : NodeWorld) → Sound w (new_nodes w)
new_sound w = record {
  fresh = λ n none. refl;
  each = λ n begun. absurd (true≢false (sym begun));
  wanted = λ q c. let low = c.1 in absurd (omega (arith, low));
  fetched = λ f c. let low = c.1 in absurd (omega (arith, low));
}

new_alike : (w : NodeWorld) → IsAlike w (new_nodes w) new_fleet
new_alike w = record {
  begun = λ n. refl;
  first_plan = λ n begun. absurd (true≢false (sym begun));
  last_plan = λ n begun. absurd (true≢false (sym begun));
  parts = λ n begun. absurd (true≢false (sym begun));
  told = λ n place begun within. absurd (true≢false (sym begun));
  ready = λ n. refl;
  gone = λ n. refl;
  posted = refl;
  joined = refl;
  fetched = refl;
}

pub all_nodes_follow : AllNodesFollow
all_nodes_follow w events chain stay many small can = follows w (record { chain = chain; stay = stay; many = many; small = small }) events (new_nodes w) new_fleet (new_sound w) (new_alike w) can

pub all_nodes_serve : AllNodesServe
all_nodes_serve grid row home opens plans sessions is_of_plan first_home events stand chain stay many small can enough =
    let w : NodeWorld = nodes_of grid row home opens plans sessions is_of_plan first_home in
    let may = (all_nodes_follow w events chain stay many small can).may in
    (all_follow grid row home opens plans (all_steps w (new_nodes w) events) stand chain enough may, all_right grid row home opens plans (all_steps w (new_nodes w) events) stand chain enough may)
