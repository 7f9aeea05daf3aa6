-- Whatever comes to the nodes is a list of steps of the law of nodes that are replaced.
use Rattle.std.proofs.Common.{◌≡◌, ◌≢◌, ◌∙◌, ℕ, ◌*◌, ◌<◌, ◌≤◌, Bool, true, false, List, [], ◌++◌, map, refl, sym, ap, subst, append-nil, Option, Some, None, inl, inr, arith}
use Rattle.std.specs.Prelude.{Contains, ⊤, if◌then◌else◌}
use Rattle.std.proofs.lemmas.Bool.{cases_eq, eq-eqb, ne_eqb, true≢false}
use Rattle.std.proofs.lemmas.List.Elements.{Contains-append_cases}
use Rattle.gq_tag.specs.Tag.{OwnMessage, to_server}
use Rattle.gq_desk.specs.declared.volumes.VolumeRow.{VolumeRow}
use Rattle.gq_model.specs.Told.{Told}
use Rattle.gq_model.specs.Lone.{Step, is_refusal}
use Rattle.gq_cluster.specs.Cluster.{Setting, Act, Asks, Comes, aim_of, state_of, step_of, part_after}
use Rattle.gq_cluster.specs.Facts.{OwnFact}
use Rattle.gq_cluster.proofs.Parts.{refused_quiet}
use Rattle.gq_replace.specs.Fleet.{Fleet, Fetched as HasFetched, FleetStep, Does, after_fleet_step, AllMayHappen, MayDo, posts as fleet_posts}
use Rattle.gq_replace.specs.Keeping.{files_of_part}
use Rattle.gq_replace.specs.Plans.{place_of, node_at, has_node as plan_has}
use Rattle.gq_node.specs.declared.output.Answer.{Answer}
use Rattle.gq_node.specs.Bridge.{setting_in, AtHome, IsHere, Bridges}
use Rattle.gq_node.specs.Joining.{all_joined}
use Rattle.gq_node.specs.Local.{Local, Doing, part_in}
use Rattle.gq_node.specs.Nodes.{NodeWorld, site_in, site_at, plan_volumes, started, Nodes, Question, fact_list, questions_in, copies_in, posts, after_doing, PartAlike, IsAlike, SaidBy, does_step, accepted, refusal_answer, fleet_behind}
use Rattle.gq_node.specs.Resting.{IsBare}
use Rattle.gq_node.specs.Sites.{Site}
use Rattle.gq_node.proofs.AlikeParts.{IsAct, HereAt, step_alike, part_alike}
use Rattle.gq_node.proofs.Journal.{Keeps, stays_bare}
use Rattle.gq_node.proofs.Later.{Grows, journal_by}
use Rattle.gq_node.proofs.Prefixes.{IsPrefix, take_prefix, opened_in, step_same, part_same}
use Rattle.gq_node.proofs.Staying.{SameView}
use Rattle.gq_node.proofs.Using.{AllUsed, bridged_used}

-- ---- what holds of a node that was started

pub record SoundAt (w : NodeWorld) (first last n : ℕ) (local : Local) (facts : List OwnFact) (ready : Bool) : Type 0 where
  pub home : AtHome (site_in w last n) local
  pub used : AllUsed local
  pub volumes : local.volumes ≡ plan_volumes w last
  pub bare : IsBare local
  pub has : plan_has (w.world.plans last) n ≡ true
  pub order : first ≤ last
  pub ready_is : all_joined (site_in w last n) local.joined ≡ true → ready ≡ true
  pub journal : (p : ℕ) → last ≤ p → plan_has (w.world.plans p) n ≡ true → files_of_part (part_in (started w first p n facts)) ≡ files_of_part (part_in local)

-- one that was not gave no fact; who asked for a file, or was given one, is ready
pub record Sound (w : NodeWorld) (nodes : Nodes) : Type 0 where
  pub fresh : (n : ℕ) → nodes.begun n ≡ false → nodes.facts n ≡ []
  pub each : (n : ℕ) → nodes.begun n ≡ true → SoundAt w (nodes.first_plan n) (nodes.last_plan n) n (nodes.local n) (nodes.facts n) (nodes.ready n)
  pub wanted : (q : Question) → Contains nodes.wanted q → nodes.ready q.from ≡ true
  pub fetched : (f : HasFetched) → Contains nodes.fetched f → nodes.ready f.node ≡ true

-- one step of the nodes
pub record OneStep (w : NodeWorld) (new : Nodes) (u : Fleet) (steps : List FleetStep) (said : Type 0) : Type 0 where
  pub may : AllMayHappen w.world u steps
  pub said_is : said
  pub alike : IsAlike w new (fleet_behind w u steps)
  pub sound : Sound w new

-- ---- a node does something

-- what holds of the node, and of the others, holds of all
pub at_nodes : (P : ℕ → Local → Type 0) (w : NodeWorld) (nodes : Nodes) (n : ℕ) (doing : Doing) → P n doing.local → ((m : ℕ) → m ≢ n → P m (nodes.local m)) → (m : ℕ) → P m ((after_doing w nodes n doing).local m)
at_nodes P w nodes n doing here there m = elim (cases_eq m n) [
  | inl same ↦ (rw (eq-eqb m n same) (subst (λ x. P x doing.local) (sym same) here))
  | inr away ↦ (rw (ne_eqb m n away) (there m away))
]

pub doing_sound : (w : NodeWorld) (nodes : Nodes) (n : ℕ) (doing : Doing) → Sound w nodes → nodes.begun n ≡ true →
    SoundAt w (nodes.first_plan n) (nodes.last_plan n) n doing.local (nodes.facts n ++ fact_list doing.fact) (nodes.ready n) →
    ((q : Question) → Contains (questions_in n doing.transfer) q → nodes.ready q.from ≡ true) → ((f : HasFetched) → Contains (copies_in n doing.transfer) f → nodes.ready f.node ≡ true) → Sound w (after_doing w nodes n doing)
doing_sound w nodes n doing sound begun here asks tells = record {
  fresh = λ m none. elim (cases_eq m n) [
    | inl same ↦ (absurd (true≢false (sym begun ∙ ap nodes.begun (sym same) ∙ none)))
    | inr away ↦ (rw (ne_eqb m n away) (sound.fresh m none))
  ];
  each = λ m started. elim (cases_eq m n) [
    | inl same ↦ (rw (eq-eqb m n same) (subst (λ x. SoundAt w (nodes.first_plan x) (nodes.last_plan x) x doing.local (nodes.facts x ++ fact_list doing.fact) (nodes.ready x)) (sym same) here))
    | inr away ↦ (rw (ne_eqb m n away) (sound.each m started))
  ];
  wanted = λ q c. elim (Contains-append_cases nodes.wanted (questions_in n doing.transfer) q c) [ inl before ↦ (sound.wanted q before) | inr now ↦ (asks q now) ];
  fetched = λ f c. elim (Contains-append_cases nodes.fetched (copies_in n doing.transfer) f c) [ inl before ↦ (sound.fetched f before) | inr now ↦ (tells f now) ];
}

-- by something that leaves the volumes and who joined
pub doing_at : (w : NodeWorld) → Grows w → (first last n : ℕ) (local : Local) (facts : List OwnFact) (ready : Bool) (doing : Doing) → SoundAt w first last n local facts ready → AtHome (site_in w last n) doing.local → AllUsed doing.local →
    SameView local doing → Keeps (site_in w last n) local doing → SoundAt w first last n doing.local (facts ++ fact_list doing.fact) ready
doing_at w g first last n local facts ready doing sound home used view keeps = record {
  home = home;
  used = used;
  volumes = (λ i. (view i).0) ∙ sound.volumes;
  bare = stays_bare (site_in w last n) local doing keeps sound.bare;
  has = sound.has;
  order = sound.order;
  ready_is = λ all. sound.ready_is (ap (all_joined (site_in w last n)) (λ i. (sym view i).1) ∙ all);
  journal = λ p later has. journal_by w g first last p n local facts doing.fact (part_in doing.local) later has (sound.journal p later has) sound.volumes keeps;
}

-- nothing of the tenant's part is changed, and no letter and no copy is written
pub still_alike : (w : NodeWorld) (nodes : Nodes) (u : Fleet) (n : ℕ) (doing : Doing) → IsAlike w nodes u → part_in doing.local ≡ part_in (nodes.local n) → doing.letters ≡ [] → doing.local.joined ≡ (nodes.local n).joined → copies_in n doing.transfer ≡ [] →
    IsAlike w (after_doing w nodes n doing) u
still_alike w nodes u n doing alike part none joined no_copy = record {
  begun = alike.begun;
  first_plan = alike.first_plan;
  last_plan = alike.last_plan;
  parts = at_nodes (λ m l. nodes.begun m ≡ true → PartAlike w.world.setting.home m (part_in l) (u.part m)) w nodes n doing (λ begun. subst (λ p. PartAlike w.world.setting.home n p (u.part n)) (sym part) (alike.parts n begun)) (λ m away. alike.parts m);
  told = λ m place. at_nodes (λ x l. nodes.begun x ≡ true → place < w.world.setting.grid.rows * w.world.setting.grid.cols → l.joined place ≡ u.heard x ((site_at w nodes x).node_at place)) w nodes n doing
      (λ begun within. ap (λ js. js place) joined ∙ alike.told n place begun within) (λ x away. alike.told x place) m;
  ready = alike.ready;
  gone = alike.gone;
  posted = ap (λ ls. nodes.posted ++ posts w nodes n ls) none ∙ append-nil nodes.posted ∙ alike.posted;
  joined = alike.joined;
  fetched = ap (λ cs. nodes.fetched ++ cs) no_copy ∙ append-nil nodes.fetched ∙ alike.fetched;
}

-- ---- a line, a letter or a tick

-- the act, if it is one, may be done, and is not refused
abbrev pub MayIf : NodeWorld → Fleet → ℕ → Site → Local → Option Act → Type 0
MayIf w u n site local None = ⊤
MayIf w u n site local (Some act) = MayDo w.world u n act × IsAct act × (is_refusal (step_of (setting_in site local) (part_in local) act).told ≡ false)

here_at : (site : Site) (act : Act) → IsHere site act → HereAt site.home site.here act
here_at site (Asks line aim) here = here
here_at site (Comes m aim) here = λ goes. (rw goes at here)

posts_same : (w : NodeWorld) (nodes : Nodes) (u : Fleet) (n : ℕ) (letters : List OwnMessage) → nodes.last_plan n ≡ u.last_plan n → posts w nodes n letters ≡ fleet_posts w.world u n letters
posts_same w nodes u n letters same =
    ap (λ p. map (λ (letter : OwnMessage). record { from = n; to = if to_server letter.body then node_at (w.world.plans p) letter.server else w.world.setting.home letter.session; letter = letter }) letters) same

pub does_follow : (w : NodeWorld) → Grows w → (nodes : Nodes) (u : Fleet) (n : ℕ) (act : Option Act) (answer : Option Answer) (tell : Told → Option Answer) (doing : Doing) → nodes.begun n ≡ true → nodes.gone n ≡ false → Sound w nodes → IsAlike w nodes u →
    Bridges (site_at w nodes n) (nodes.local n) act answer tell doing → Keeps (site_at w nodes n) (nodes.local n) doing → SameView (nodes.local n) doing → MayIf w u n (site_at w nodes n) (nodes.local n) act →
    OneStep w (after_doing w nodes n doing) u (does_step n act) (SaidBy w.world.setting u n act answer tell doing)
does_follow w g nodes u n act answer tell doing begun stays sound alike b keeps view may = by act b may
  where
    site : Site
    site = site_at w nodes n

    local : Local
    local = nodes.local n

    its : SoundAt w (nodes.first_plan n) (nodes.last_plan n) n local (nodes.facts n) (nodes.ready n)
    its = sound.each n begun

    no_questions : (a : Option Act) → Bridges site local a answer tell doing → (q : Question) → Contains (questions_in n doing.transfer) q → nodes.ready q.from ≡ true
    no_questions a b q c = let e : questions_in n doing.transfer ≡ [] = ap (questions_in n) b.transfer in nothing (subst (λ qs. Contains qs q) e c)
      where
        nothing : {X : Type 0} {x : X} → Contains [] x → nodes.ready q.from ≡ true
        nothing c = let low = c.1 in absurd (omega (arith, low))

    no_copies : (a : Option Act) → Bridges site local a answer tell doing → (f : HasFetched) → Contains (copies_in n doing.transfer) f → nodes.ready f.node ≡ true
    no_copies a b f c = let e : copies_in n doing.transfer ≡ [] = ap (copies_in n) b.transfer in nothing (subst (λ fs. Contains fs f) e c)
      where
        nothing : {X : Type 0} {x : X} → Contains [] x → nodes.ready f.node ≡ true
        nothing c = let low = c.1 in absurd (omega (arith, low))

    sound_after : (a : Option Act) → Bridges site local a answer tell doing → Sound w (after_doing w nodes n doing)
    sound_after a b =
        doing_sound w nodes n doing sound begun
        (doing_at w g (nodes.first_plan n) (nodes.last_plan n) n local (nodes.facts n) (nodes.ready n) doing its b.home (bridged_used site local a answer tell doing b its.used) view keeps)
        (no_questions a b) (no_copies a b)

    by : (a : Option Act) → Bridges site local a answer tell doing → MayIf w u n site local a → OneStep w (after_doing w nodes n doing) u (does_step n a) (SaidBy w.world.setting u n a answer tell doing)
    by None b may = record {
      may = tt;
      said_is = record { told = b.does.told; letters = b.does.letters };
      alike = still_alike w nodes u n doing alike b.does.part b.does.letters (λ i. (view i).1) (ap (copies_in n) b.transfer);
      sound = sound_after None b;
    }
    by (Some act) b may =
        let s : Setting = w.world.setting in
        let vs : List VolumeRow = plan_volumes w (nodes.last_plan n) in
        let here : HereAt s.home n act = here_at site act b.does.here in
        let set : setting_in site local ≡ opened_in vs s = (λ i. record { grid = s.grid; row = s.row; home = s.home; volumes = its.volumes i }) in
        let ok : is_refusal (step_of (opened_in vs s) (part_in local) act).told ≡ false = ap (λ z. is_refusal (step_of z (part_in local) act).told) (sym set) ∙ may.2 in
        let first : IsPrefix vs s.volumes = take_prefix (w.world.plans (nodes.last_plan n)).volumes s.volumes in
        let said : step_of (setting_in site local) (part_in local) act ≡ step_of s (u.part n) act =
        ap (λ z. step_of z (part_in local) act) set ∙ sym (step_same vs s (part_in local) act first ok) ∙ step_alike s n (part_in local) (u.part n) act may.1 here (alike.parts n begun) in
        let part : part_in doing.local ≡ part_after s (place_of n) (part_in local) act =
        b.does.part ∙ ap (λ z. part_after z (place_of n) (part_in local) act) set ∙ sym (part_same vs s (place_of n) (part_in local) act first ok) in
        let letters : doing.letters ≡ (step_of s (u.part n) act).new = b.does.letters ∙ ap (λ (z : Step). z.new) said in
        let new : Fleet = after_fleet_step w.world u (Does n act) in
        let own : new.part n ≡ part_after s (place_of n) (u.part n) act = rw (eq-eqb n n refl) refl in
        let others : (m : ℕ) → m ≢ n → new.part m ≡ u.part m = λ m away. rw (ne_eqb m n away) refl in
        record {
          may = (((sym (alike.begun n) ∙ begun, sym (alike.gone n) ∙ stays), may.0), tt);
          said_is = record { told = b.does.told ∙ ap (λ (z : Step). tell z.told) said; letters = letters };
          alike = record {
            begun = alike.begun;
            first_plan = alike.first_plan;
            last_plan = alike.last_plan;
            parts = at_nodes (λ m l. nodes.begun m ≡ true → PartAlike s.home m (part_in l) (new.part m)) w nodes n doing
                (λ started. subst (λ p. PartAlike s.home n p (new.part n)) (sym part) (subst (PartAlike s.home n (part_after s (place_of n) (part_in local) act)) (sym own) (part_alike s n (place_of n) (part_in local) (u.part n) act may.1 here (alike.parts n begun))))
                (λ m away started. subst (PartAlike s.home m (part_in (nodes.local m))) (sym (others m away)) (alike.parts m started));
            told = λ m place. at_nodes (λ x l. nodes.begun x ≡ true → place < s.grid.rows * s.grid.cols → l.joined place ≡ u.heard x ((site_at w nodes x).node_at place)) w nodes n doing
                (λ started within. (λ i. (view i).1 place) ∙ alike.told n place started within) (λ x away. alike.told x place) m;
            ready = alike.ready;
            gone = alike.gone;
            posted = ap (λ ls. nodes.posted ++ posts w nodes n ls) letters ∙ ap (λ ps. nodes.posted ++ ps) (posts_same w nodes u n (step_of s (u.part n) act).new (alike.last_plan n begun)) ∙ ap (λ ps. ps ++ fleet_posts w.world u n (step_of s (u.part n) act).new) alike.posted;
            joined = alike.joined;
            fetched = ap (λ cs. nodes.fetched ++ cs) (ap (copies_in n) b.transfer) ∙ append-nil nodes.fetched ∙ alike.fetched;
          };
          sound = sound_after (Some act) b;
        }

-- a request that the node refuses is no step
pub request_follows : (w : NodeWorld) → Grows w → (nodes : Nodes) (u : Fleet) (n : ℕ) (act : Option Act) (own : Option Answer) (tell : Told → Option Answer) (doing : Doing) → nodes.begun n ≡ true → nodes.gone n ≡ false → Sound w nodes → IsAlike w nodes u →
    Bridges (site_at w nodes n) (nodes.local n) act own tell doing → Keeps (site_at w nodes n) (nodes.local n) doing → SameView (nodes.local n) doing → ((a : Act) → act ≡ Some a → MayDo w.world u n a × IsAct a) →
    OneStep w (after_doing w nodes n doing) u (does_step n (accepted (site_at w nodes n) (nodes.local n) act)) (SaidBy w.world.setting u n (accepted (site_at w nodes n) (nodes.local n) act) (refusal_answer (site_at w nodes n) (nodes.local n) act own tell) tell doing)
request_follows w g nodes u n None own tell doing begun stays sound alike b keeps view may = does_follow w g nodes u n None own tell doing begun stays sound alike b keeps view tt
request_follows w g nodes u n (Some act) own tell doing begun stays sound alike b keeps view may = by (is_refusal step.told) refl
  where
    site : Site
    site = site_at w nodes n

    local : Local
    local = nodes.local n

    step : Step
    step = step_of (setting_in site local) (part_in local) act

    Goal : Option Act → Type 0
    Goal a = OneStep w (after_doing w nodes n doing) u (does_step n a) (SaidBy w.world.setting u n a (tell step.told) tell doing)

    by : (r : Bool) → is_refusal step.told ≡ r → Goal (accepted site local (Some act))
    by true refused =
        let e : accepted site local (Some act) ≡ None = rw refused refl in
        let same : part_after (setting_in site local) site.place (part_in local) act ≡ part_in local = rw refused refl in
        let nothing : Bridges site local None (tell step.told) tell doing = record {
          does = record { part = b.does.part ∙ same; letters = b.does.letters ∙ refused_quiet site.grid site.row (state_of local.volumes (aim_of act) (part_in local)) act refused; told = b.does.told };
          volumes = b.volumes;
          transfer = b.transfer;
          home = b.home;
        } in
        subst Goal (sym e) (does_follow w g nodes u n None (tell step.told) tell doing begun stays sound alike nothing keeps view tt)
    by false goes =
        let e : accepted site local (Some act) ≡ Some act = rw goes refl in
        let also : Bridges site local (Some act) (tell step.told) tell doing = record { does = b.does; volumes = b.volumes; transfer = b.transfer; home = b.home } in
        subst Goal (sym e) (does_follow w g nodes u n (Some act) (tell step.told) tell doing begun stays sound alike also keeps view ((may act refl).0, (may act refl).1, goes))
