-- What comes to a node of others and of its tenant, one by one.
use Rattle.std.proofs.Common.{◌≡◌, ◌∙◌, ℕ, ◌<◌, ◌≤◌, Bool, true, false, List, length, take, refl, sym, ap, subst, Option, Some, None, inl, inr, arith}
use Rattle.std.specs.Prelude.{is_some, ◌&&◌, ◌==◌, nat_lt, Contains, slice_get, unwrap_or}
use Rattle.std.specs.Option.{option_and_then}
use Rattle.std.proofs.lemmas.Bool.{cases_Bool, eqb-true, and_parts, true≢false}
use Rattle.std.proofs.lemmas.Bool.Decides.{nat_tests}
use Rattle.std.proofs.lemmas.List.{length-take}
use Rattle.std.proofs.lemmas.Option.{slice_get_within}
use Rattle.gq_grid.specs.Grid.{Servers}
use Rattle.gq_tag.specs.Tag.{File, OwnMessage, to_server}
use Rattle.gq_tag.specs.declared.Body.{Body}
use Rattle.gq_tag.specs.declared.Body.TheVariants.{Stored}
use Rattle.gq_desk.specs.declared.volumes.VolumeRow.{VolumeRow}
use Rattle.gq_desk.specs.Volumes.{limit_in}
use Rattle.gq_phase.specs.Phase.{is_collect, Operation, Heard, HeardStale, HeardNoted, HeardNext, HeardDone, hear}
use Rattle.gq_model.specs.declared.events.Line.{Line}
use Rattle.gq_model.specs.declared.events.Line.TheVariants.{Write, Read, List as ListFiles, Retry, Abandon}
use Rattle.gq_model.specs.Trace.{State, limit_at, operation, serves as model_serves}
use Rattle.gq_model.specs.Lone.{Step, is_refusal, hear_step, heard_step, serve_step}
use Rattle.gq_cluster.specs.Cluster.{Setting, Part, Act, Asks, Comes, everyone, step_of, state_of as state_of_part, aim_of, session_named, IsOfSession}
use Rattle.gq_replace.specs.Fleet.{World, Fleet, Posted, MayDo, MayCome, plan_of, has_file as fleet_has}
use Rattle.gq_node.specs.declared.output.Admission.{Admission}
use Rattle.gq_node.specs.declared.output.Admission.TheVariants.{Tells, Passes, Goes}
use Rattle.gq_node.specs.Bridge.{setting_in, AtHome, request_act, letter_act, hear_act, short_act, tick_act, waited_act}
use Rattle.gq_node.specs.Local.{Local, part_in, state_of, state_for, aim_at, aim_behind, tries_next, asker, begins, admission_in, letter_fits, goes_between, file_fits, has_above, of_round}
use Rattle.gq_node.specs.Nodes.{NodeWorld, site_at, plan_volumes, Nodes, StoodFor, IsAlike}
use Rattle.gq_node.specs.Shorts.{OwnShort, letter_with, column_of}
use Rattle.gq_node.specs.Sites.{Site}
use Rattle.gq_node.proofs.AlikeParts.{IsAct}
use Rattle.gq_node.proofs.Asking.{goes_home}
use Rattle.gq_node.proofs.Bridging.{tick_waits}
use Rattle.gq_node.proofs.Following.{MayIf}
use Rattle.gq_node.proofs.Receiving.{Parts, parts, session_here, its_server}
use Rattle.gq_node.proofs.Shortening.{IsHeard, by_arms}

-- ---- a request

some_act : (a act : Act) → Some act ≡ Some a → act ≡ a
some_act a act is = ap (λ o. unwrap_or o act) is

asked_may : (w : World) (u : Fleet) (op : ℕ) (line : Line) (site : Site) (local : Local) → site.home ≡ w.setting.home → asker line ≡ Some (session_named line) → IsOfSession line → (a : Act) → request_act op line site local ≡ Some a → MayDo w u site.here a × IsAct a
asked_may w u op line site local homes its of a is = by (admission_in site local k op (begins line)) refl
  where
    k : ℕ
    k = session_named line

    aim : Servers
    aim = aim_at site.grid (local.residents k)

    by : (g : Admission) → admission_in site local k op (begins line) ≡ g → MayDo w u site.here a × IsAct a
    by (Tells answer) says = let e : request_act op line site local ≡ None = rw (its, says) refl in let h : ◌≡◌ {A = Option Act} None (Some a) = sym e ∙ is in absurd (cc)
    by Passes says = let e : request_act op line site local ≡ None = rw (its, says) refl in let h : ◌≡◌ {A = Option Act} None (Some a) = sym e ∙ is in absurd (cc)
    by Goes says =
        let e : request_act op line site local ≡ Some (Asks line aim) = rw (its, says) refl in
        let there = goes_home site k op (local.residents k).session.op (begins line) (is_some (local.residents k).session.current) (local.residents k).outcome says in
        let home : w.setting.home k ≡ site.here = ap (λ h. h k) (sym homes) ∙ eqb-true (site.home k) site.here there.1 in
        subst (λ x. MayDo w u site.here x × IsAct x) (some_act a (Asks line aim) (sym e ∙ is)) ((of, home), of)

pub request_may : (w : World) (u : Fleet) (op : ℕ) (line : Line) (site : Site) (local : Local) → site.home ≡ w.setting.home → (a : Act) → request_act op line site local ≡ Some a → MayDo w u site.here a × IsAct a
request_may w u op (Write k v f bytes) site local homes a is = asked_may w u op (Write k v f bytes) site local homes refl tt a is
request_may w u op (Read k v f) site local homes a is = asked_may w u op (Read k v f) site local homes refl tt a is
request_may w u op (ListFiles k v) site local homes a is = asked_may w u op (ListFiles k v) site local homes refl tt a is
request_may w u op (Abandon k) site local homes a is = asked_may w u op (Abandon k) site local homes refl tt a is
request_may w u op line site local homes a is = let h : ◌≡◌ {A = Option Act} None (Some a) = is in absurd (cc)

-- ---- a tick

pub tick_may : (w : World) (u : Fleet) (k : ℕ) (site : Site) (local : Local) → site.home ≡ w.setting.home → AtHome site local → (a : Act) → tick_act k site local ≡ Some a → MayDo w u site.here a × IsAct a
tick_may w u k site local homes home a is = elim (cases_Bool (is_some (local.residents k).session.current)) [
  | inr idle ↦ (let e : tick_act k site local ≡ None = rw idle refl in let h : ◌≡◌ {A = Option Act} None (Some a) = sym e ∙ is in absurd (cc))
  | inl busy ↦ (by busy (local.residents k).waited refl)
]
  where
    by : is_some (local.residents k).session.current ≡ true → (b : Bool) → (local.residents k).waited ≡ b → MayDo w u site.here a × IsAct a
    by busy false waits = let e : waited_act site local k (local.residents k).waited ≡ None = ap (waited_act site local k) waits in let h : ◌≡◌ {A = Option Act} None (Some a) = sym e ∙ sym (tick_waits k site local busy) ∙ is in absurd (cc)
    by busy true waits =
        let act : Act = Asks (Retry k) (aim_at site.grid (tries_next site.grid (is_collect (local.residents k).session.round) (local.residents k))) in
        let e : waited_act site local k (local.residents k).waited ≡ Some act = ap (waited_act site local k) waits in
        let at : w.setting.home k ≡ site.here = ap (λ h. h k) (sym homes) ∙ (home k busy).1 in
        subst (λ x. MayDo w u site.here x × IsAct x) (some_act a act (sym e ∙ sym (tick_waits k site local busy) ∙ is)) ((tt, at), tt)

-- ---- a letter

-- no letter is refused
pub letter_goes : (s : Setting) (part : Part) (m : OwnMessage) (aim : Servers) → is_refusal (step_of s part (Comes m aim)).told ≡ false
letter_goes s part m aim = by (to_server m.body) refl
  where
    state : State
    state = state_of_part s.volumes (aim_of (Comes m aim)) part

    heard_goes : (first : ℕ) (h : Heard) → is_refusal (heard_step first h).told ≡ false
    heard_goes first HeardStale = refl
    heard_goes first HeardNoted = refl
    heard_goes first (HeardNext round tag messages) = refl
    heard_goes first (HeardDone outcome) = refl

    hears : (o : Option Operation) → is_refusal (hear_step s.grid state m o).told ≡ false
    hears None = refl
    hears (Some o) = heard_goes (length state.sent) (hear s.grid state.up o m)

    served : (b : Bool) → model_serves state.up state.lacks m.server m.file ≡ b → is_refusal (serve_step state m).told ≡ false
    served true is = rw is refl
    served false is = rw is refl

    by : (b : Bool) → to_server m.body ≡ b → is_refusal (step_of s part (Comes m aim)).told ≡ false
    by true goes = let e : step_of s part (Comes m aim) ≡ serve_step state m = rw goes refl in ap (λ (z : Step). is_refusal z.told) e ∙ served (model_serves state.up state.lacks m.server m.file) refl
    by false goes = let e : step_of s part (Comes m aim) ≡ hear_step s.grid state m (operation state m.session) = rw goes refl in ap (λ (z : Step). is_refusal z.told) e ∙ hears (operation state m.session)

-- a file that has room for the body is of an open volume
file_there : (volumes : List VolumeRow) (v f : ℕ) (body : Body) → file_fits (option_and_then (limit_in f) (slice_get volumes v)) body ≡ true → v < length volumes
file_there volumes v f body fits = by (slice_get volumes v) refl
  where
    by : (o : Option VolumeRow) → slice_get volumes v ≡ o → v < length volumes
    by None none = let e : file_fits (option_and_then (limit_in f) (slice_get volumes v)) body ≡ false = rw none refl in absurd (true≢false (sym fits ∙ e))
    by (Some row) some = slice_get_within volumes v row some

pub few_taken : (n : ℕ) (all : List VolumeRow) → length (take n all) ≤ n
few_taken n all = let e = length-take n all in grind (arith, nat_tests)

-- a node that serves a file has it
pub has_it_there : (w : NodeWorld) (nodes : Nodes) (u : Fleet) (n : ℕ) (file : File) (body : Body) → nodes.begun n ≡ true → IsAlike w nodes u → (nodes.local n).volumes ≡ plan_volumes w (nodes.last_plan n) →
    file_fits (limit_at (state_of everyone (nodes.local n)) file.volume file.place) body ≡ true → (nodes.local n).lacks file ≡ false → fleet_has w.world u n file ≡ true
has_it_there w nodes u n file body begun alike volumes fits has =
    let low : file.volume < length (nodes.local n).volumes = file_there (nodes.local n).volumes file.volume file.place body fits in
    let few : length (nodes.local n).volumes ≤ (w.world.plans (nodes.last_plan n)).volumes = subst (λ (vs : List VolumeRow). length vs ≤ (w.world.plans (nodes.last_plan n)).volumes) (sym volumes) (few_taken (w.world.plans (nodes.last_plan n)).volumes w.world.setting.volumes) in
    let own : file.volume < (plan_of w.world u n).volumes = subst (λ p. file.volume < (w.world.plans p).volumes) (alike.last_plan n begun) (omega (arith, low, few)) in
    let inside : nat_lt file.volume (plan_of w.world u n).volumes ≡ true = grind (arith, nat_tests) in
    let also : (u.part n).lacks file ≡ false = sym ((alike.parts n begun).lacks file) ∙ has in
    rw (sym (alike.begun n) ∙ begun, inside, also) refl

pub letter_may : (w : NodeWorld) (nodes : Nodes) (u : Fleet) (n from : ℕ) (m : OwnMessage) → nodes.begun n ≡ true → IsAlike w nodes u → (nodes.local n).volumes ≡ plan_volumes w (nodes.last_plan n) → Contains nodes.posted (record { from = from; to = n; letter = m }) →
    MayIf w u n (site_at w nodes n) (nodes.local n) (letter_act from m (site_at w nodes n) (nodes.local n))
letter_may w nodes u n from m begun alike volumes was = elim (cases_Bool (letter_fits site limit from m)) [
  | inr not' ↦ (let e : letter_act from m site local ≡ None = rw not' refl in subst (MayIf w u n site local) (sym e) tt)
  | inl fits ↦ (elim (cases_Bool (to_server m.body)) [
    | inl goes ↦ (elim (cases_Bool (local.lacks m.file)) [
      | inl lacks ↦ (let e : letter_act from m site local ≡ None = rw (fits, goes, lacks) refl in subst (MayIf w u n site local) (sym e) tt)
      | inr has ↦ (
          let p : Parts site limit from m = parts site limit from m fits in
          let e : letter_act from m site local ≡ Some (Comes m everyone) = rw (fits, goes, has) refl in
          let come : MayCome w.world u from n m = (rw goes (record { place = sym (its_server site from m goes p.between); home = from_home p.between goes; has = has_it_there w nodes u n m.file m.body begun alike volumes p.file has })) in
          subst (MayIf w u n site local) (sym e) ((from, posted, come), tt, letter_goes (setting_in site local) (part_in local) m everyone))
    ])
    | inr goes ↦ (elim (cases_Bool (has_above (local.residents m.session).session.floor && of_round (operation (state_for site local m.session) m.session) m.file)) [
      | inr deaf ↦ (let e : letter_act from m site local ≡ None = rw (fits, goes, deaf) refl in subst (MayIf w u n site local) (sym e) tt)
      | inl hears ↦ (
          let p : Parts site limit from m = parts site limit from m fits in
          let aim : Servers = aim_behind site local m in
          let e : letter_act from m site local ≡ Some (Comes m aim) = rw (fits, goes, hears) refl in
          let come : MayCome w.world u from n m = (rw goes (eqb-true (site.home m.session) n (session_here site from m goes p.between))) in
          subst (MayIf w u n site local) (sym e) ((from, posted, come), tt, letter_goes (setting_in site local) (part_in local) m aim))
    ])
  ])
]
  where
    site : Site
    site = site_at w nodes n

    local : Local
    local = nodes.local n

    limit : Option ℕ
    limit = limit_at (state_of everyone local) m.file.volume m.file.place

    posted : Contains u.posted (record { from = from; to = n; letter = m })
    posted = subst (λ (all : List Posted). Contains all (record { from = from; to = n; letter = m })) alike.posted was

    from_home : goes_between site from m ≡ true → to_server m.body ≡ true → w.world.setting.home m.session ≡ from
    from_home between goes =
        let h : (m.server == site.place && site.home m.session == from) ≡ true = rw goes at between in
        eqb-true (site.home m.session) from (and_parts (m.server == site.place) (site.home m.session == from) h).1

-- ---- a short letter

none_is_some : (a : Act) → None ≡ Some a → ⊥
none_is_some a is = cc

pub short_may : (w : NodeWorld) (nodes : Nodes) (u : Fleet) (n from : ℕ) (s : OwnShort) (bytes : List ℕ) → nodes.begun n ≡ true → IsAlike w nodes u → (nodes.local n).volumes ≡ plan_volumes w (nodes.last_plan n) → StoodFor nodes n from s.body (letter_with bytes s) →
    (a : Act) → short_act from s bytes (site_at w nodes n) (nodes.local n) ≡ Some a → MayDo w.world u n a × IsAct a
short_may w nodes u n from s bytes begun alike volumes stood = by_arms (λ act doing. (a : Act) → act ≡ Some a → May a) from s bytes site local (record {
  passed = λ a is. absurd (none_is_some a is);
  served = λ h a is.
      let come : MayCome w.world u from n m = (rw h.goes (record { place = sym h.server; home = h.home; has = has_it_there w nodes u n s.file Stored begun alike volumes h.there h.has })) in
      subst May (some_act a (Comes m everyone) is) ((from, posted (h.was nodes n stood), come), tt);
  heard = λ h. hears h (has_above (local.residents s.session).session.floor && of_round (operation (state_for site local s.session) s.session) s.file) refl;
  again = λ h a is. subst May (some_act a (Asks (Retry s.session) (column_of site.grid s.server)) is) ((tt, h.home), tt);
})
  where
    site : Site
    site = site_at w nodes n

    local : Local
    local = nodes.local n

    m : OwnMessage
    m = letter_with bytes s

    May : Act → Type 0
    May a = MayDo w.world u n a × IsAct a

    posted : Contains nodes.posted (record { from = from; to = n; letter = m }) → Contains u.posted (record { from = from; to = n; letter = m })
    posted was = subst (λ (all : List Posted). Contains all (record { from = from; to = n; letter = m })) alike.posted was

    hears : IsHeard site from s bytes → (b : Bool) → (has_above (local.residents s.session).session.floor && of_round (operation (state_for site local s.session) s.session) s.file) ≡ b → (a : Act) → hear_act site local m ≡ Some a → May a
    hears h false deaf a is = let e : hear_act site local m ≡ None = rw deaf refl in absurd (none_is_some a (sym e ∙ is))
    hears h true heard a is =
        let act : Act = Comes m (aim_behind site local m) in
        let e : hear_act site local m ≡ Some act = rw heard refl in
        let come : MayCome w.world u from n m = (rw h.goes h.home) in
        subst May (some_act a act (sym e ∙ is)) ((from, posted (h.was nodes n stood), come), tt)
