-- What a node did with one plan it knows again with a later one.
use Rattle.std.proofs.Common.{◌≡◌, ◌∙◌, ℕ, ◌*◌, ◌<◌, ◌≤◌, Bool, true, false, List, [], ◌∷◌, ◌++◌, refl, sym, ap, subst, append-nil, Option, Some, None}
use Rattle.std.specs.Prelude.{not, slice_get}
use Rattle.std.specs.Option.{option_and_then}
use Rattle.std.proofs.lemmas.Bool.{and_parts, and_from, eqb-true}
use Rattle.std.proofs.lemmas.List.Sums.{fold-append}
use Rattle.gq_tag.specs.declared.Body.{Body}
use Rattle.gq_tag.specs.declared.Body.TheVariants.{Store}
use Rattle.gq_tag.specs.Tag.{is_less}
use Rattle.gq_desk.specs.declared.volumes.VolumeRow.{VolumeRow}
use Rattle.gq_desk.specs.Plans.{is_in}
use Rattle.gq_desk.specs.Volumes.{limit_in}
use Rattle.gq_cluster.specs.Cluster.{Part}
use Rattle.gq_cluster.specs.Facts.{OwnFact, Begun, Numbered, Kept, Had}
use Rattle.gq_replace.specs.Keeping.{KeptFiles, files_of_part, with_fleet_fact}
use Rattle.gq_replace.specs.Plans.{IsChain, has_node as plan_has, most_places}
use Rattle.gq_node.specs.Local.{Local, part_in, file_fits}
use Rattle.gq_node.specs.Nodes.{first_plan_in, NodeWorld, site_in, plan_volumes, started, fact_list, SessionsStay}
use Rattle.gq_node.specs.Resting.{begun_local, recall_one}
use Rattle.gq_node.specs.Sites.{Site}
use Rattle.gq_node.proofs.Journal.{IsHome, FactIn, KeepsBy, recall_keeps}
use Rattle.gq_node.proofs.Prefixes.{IsPrefix, take_less, limit_kept}
use Rattle.gq_node.proofs.Using.{recall_volumes}

-- what is asked of the plans
pub record Grows (w : NodeWorld) : Type 0 where
  pub chain : IsChain w.world.plans
  pub stay : SessionsStay w
  pub many : 1 < w.world.setting.grid.rows * w.world.setting.grid.cols
  pub small : w.world.setting.grid.rows * w.world.setting.grid.cols ≤ most_places

pub volumes_grow : (w : NodeWorld) → Grows w → (p q : ℕ) → p ≤ q → IsPrefix (plan_volumes w p) (plan_volumes w q)
volumes_grow w g p q later = take_less (w.world.plans p).volumes (w.world.plans q).volumes w.world.setting.volumes (g.chain p q later).volumes

-- a session of the node is one by the later plan too
home_later : (w : NodeWorld) → Grows w → (p q n k : ℕ) → p ≤ q → plan_has (w.world.plans q) n ≡ true → IsHome (site_in w p n) k → IsHome (site_in w q n) k
home_later w g p q n k later has home =
    let at : w.world.setting.home k ≡ n = eqb-true (w.world.setting.home k) n home.1 in
    let both = and_parts (is_in 1 w.world.setting.row.sessions k) (w.is_of_plan p k) home.0 in
    (and_from (is_in 1 w.world.setting.row.sessions k) (w.is_of_plan q k) both.0 (g.stay p q k later (subst (λ m. plan_has (w.world.plans q) m ≡ true) (sym at) has) both.1), home.1)

fits_more : (volumes all : List VolumeRow) (v f : ℕ) (body : Body) → IsPrefix volumes all → file_fits (option_and_then (limit_in f) (slice_get volumes v)) body ≡ true → file_fits (option_and_then (limit_in f) (slice_get all v)) body ≡ true
fits_more volumes all v f body is fits = by (option_and_then (limit_in f) (slice_get volumes v)) refl
  where
    by : (o : Option ℕ) → option_and_then (limit_in f) (slice_get volumes v) ≡ o → file_fits (option_and_then (limit_in f) (slice_get all v)) body ≡ true
    by None none = let e : ◌≡◌ {A = Bool} false true = (ap (λ o. file_fits o body) (sym none) ∙ fits) in absurd (cc)
    by (Some bytes) some = ap (λ o. file_fits o body) (limit_kept volumes all v f bytes is some) ∙ ap (λ o. file_fits o body) (sym some) ∙ fits

-- a fact of the node is one that a start with the later plan takes
fact_later : (w : NodeWorld) → Grows w → (p q n : ℕ) (l local : Local) (fact : OwnFact) → p ≤ q → plan_has (w.world.plans q) n ≡ true → local.volumes ≡ plan_volumes w p → l.volumes ≡ plan_volumes w q →
    files_of_part (part_in l) ≡ files_of_part (part_in local) → FactIn (site_in w p n) local fact → FactIn (site_in w q n) l fact
fact_later w g p q n l local (Begun k op) later has volumes more same fits = home_later w g p q n k later has fits
fact_later w g p q n l local (Numbered k number) later has volumes more same fits = home_later w g p q n k later has fits
fact_later w g p q n l local (Kept file copy) later has volumes more same fits =
    let limits : List VolumeRow → Bool = λ vs. file_fits (option_and_then (limit_in file.place) (slice_get vs file.volume)) (Store copy) in
    let both = and_parts (not (local.lacks file)) (limits local.volumes) fits.0 in
    let there : limits l.volumes ≡ true = ap limits more ∙ fits_more (plan_volumes w p) (plan_volumes w q) file.volume file.place (Store copy) (volumes_grow w g p q later) (ap limits (sym volumes) ∙ both.1) in
    (and_from (not (l.lacks file)) (limits l.volumes) (ap (λ (z : KeptFiles). not (z.lacks file)) same ∙ both.0) there, ap (λ (z : KeptFiles). is_less (z.kept.copy file).tag copy.tag) same ∙ fits.1)
fact_later w g p q n l local (Had file copy) later has volumes more same fits =
    let limits : List VolumeRow → Bool = λ vs. file_fits (option_and_then (limit_in file.place) (slice_get vs file.volume)) (Store copy) in
    (ap limits more ∙ fits_more (plan_volumes w p) (plan_volumes w q) file.volume file.place (Store copy) (volumes_grow w g p q later) (ap limits (sym volumes) ∙ fits.0), ap (λ (z : KeptFiles). z.kept.copy file) same ∙ fits.1)

-- with one fact more it knows what the step left
pub journal_by : (w : NodeWorld) → Grows w → (first last p n : ℕ) (local : Local) (facts : List OwnFact) (fact : Option OwnFact) (part : Part) → last ≤ p → plan_has (w.world.plans p) n ≡ true →
    files_of_part (part_in (started w first p n facts)) ≡ files_of_part (part_in local) → local.volumes ≡ plan_volumes w last → KeepsBy (site_in w last n) local fact part →
    files_of_part (part_in (started w first p n (facts ++ fact_list fact))) ≡ files_of_part part
journal_by w g first last p n local facts None part later has same volumes keeps = ap (λ fs. files_of_part (part_in (started w first p n fs))) (append-nil facts) ∙ same ∙ sym keeps
journal_by w g first last p n local facts (Some fact) part later has same volumes keeps =
    let site : Site = site_in w p n in
    let new : Local = begun_local site (plan_volumes w p) (first_plan_in (w.world.plans first)) in
    let l : Local = started w first p n facts in
    let fits : FactIn site l fact = fact_later w g last p n l local fact later has volumes (recall_volumes site facts new) same keeps.1 in
    ap (λ (x : Local). files_of_part (part_in x)) (fold-append (recall_one site) new facts (fact ∷ []))
    ∙ recall_keeps site l fact fits
    ∙ ap (λ z. with_fleet_fact z (Some fact)) same
    ∙ sym keeps.0
