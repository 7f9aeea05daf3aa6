-- No session uses a number that is not reserved for it, whatever comes to its node; and what a start makes of facts.
use Rattle.std.proofs.Common.{◌≡◌, ◌∙◌, ℕ, Bool, true, false, List, [], ◌∷◌, refl, sym, ap, subst, Option, Some, None, inl, inr, arith}
use Rattle.std.specs.Prelude.{is_some, ◌==◌}
use Rattle.std.proofs.lemmas.Bool.{cases_Bool, and_parts, eqb-true, true≢false}
use Rattle.gq_desk.specs.Plans.{is_in}
use Rattle.gq_desk.specs.declared.volumes.VolumeRow.{VolumeRow}
use Rattle.gq_model.specs.Told.{Told}
use Rattle.gq_cluster.specs.Cluster.{Part, Act}
use Rattle.gq_cluster.specs.Facts.{OwnFact, Begun, Numbered, Kept, Had, none_reserved}
use Rattle.gq_cluster.specs.Keeping.{IsReserved}
use Rattle.gq_cluster.proofs.Reserving.{act_within}
use Rattle.gq_node.specs.declared.output.Answer.{Answer}
use Rattle.gq_node.specs.Bridge.{setting_in, AtHome, Bridges}
use Rattle.gq_node.specs.Local.{Local, Doing, part_in, recalled, fits_local}
use Rattle.gq_node.specs.Resting.{GoesBehind, recall_one, recall_all}
use Rattle.gq_node.specs.Sites.{Site}
use Rattle.gq_node.proofs.Recalling.{recalls_fits, recalls_not}

-- ---- a step

abbrev pub AllUsed : Local → Type 0
AllUsed local = (k : ℕ) → IsReserved (part_in local) k

pub bridged_used : (site : Site) (local : Local) (act : Option Act) (answer : Option Answer) (tell : Told → Option Answer) (doing : Doing) → Bridges site local act answer tell doing → AllUsed local → AllUsed doing.local
bridged_used site local None answer tell doing b used k = subst (λ (p : Part). IsReserved p k) (sym b.does.part) (used k)
bridged_used site local (Some act) answer tell doing b used k = subst (λ (p : Part). IsReserved p k) (sym b.does.part) (act_within (setting_in site local) site.place (part_in local) act k (used k))

pub rests_used : (local : Local) → ((k : ℕ) → GoesBehind (local.residents k)) → AllUsed local
rests_used local rests k = let op = (rests k).op in let floor = (rests k).floor in record { op = omega (arith, op); floor = omega (arith, floor) }

-- ---- what holds of a part holds of it behind a fact

one_of : (P : Local → Type 0) → ((fact : OwnFact) (local : Local) → P local → P (recalled fact local)) → (site : Site) (fact : OwnFact) (local : Local) → P local → P (recall_one site local fact)
one_of P step site fact local holds = elim (cases_Bool (fits_local fact site local)) [
  | inl fits ↦ (subst (λ (d : Doing). P d.local) (sym (recalls_fits fact site local fits)) (step fact local holds))
  | inr not' ↦ (subst (λ (d : Doing). P d.local) (sym (recalls_not fact site local not')) holds)
]

pub all_of : (P : Local → Type 0) → ((fact : OwnFact) (local : Local) → P local → P (recalled fact local)) → (site : Site) (facts : List OwnFact) (local : Local) → P local → P (recall_all site local facts)
all_of P step site [] local holds = holds
all_of P step site (fact ∷ facts) local holds = all_of P step site facts (recall_one site local fact) (one_of P step site fact local holds)

-- ---- no operation, the same volumes, and nobody is heard

abbrev pub AllIdle : Local → Type 0
AllIdle local = (k : ℕ) → (local.residents k).session.current ≡ None

recalled_idle : (fact : OwnFact) (local : Local) → AllIdle local → AllIdle (recalled fact local)
recalled_idle (Begun k op) local idle j = by (k == j) refl
  where
    by : (b : Bool) → (k == j) ≡ b → ((recalled (Begun k op) local).residents j).session.current ≡ None
    by true is = rw is refl
    by false is = rw is (idle j)
recalled_idle (Numbered k number) local idle j = by (k == j) refl
  where
    by : (b : Bool) → (k == j) ≡ b → ((recalled (Numbered k number) local).residents j).session.current ≡ None
    by true is = rw is refl
    by false is = rw is (idle j)
recalled_idle (Kept file copy) local idle j = idle j
recalled_idle (Had file copy) local idle j = idle j

pub recall_idle : (site : Site) (facts : List OwnFact) (local : Local) → AllIdle local → AllIdle (recall_all site local facts)
recall_idle site facts local idle = all_of AllIdle recalled_idle site facts local idle

pub idle_home : (site : Site) (local : Local) → AllIdle local → AtHome site local
idle_home site local idle k some = let e = sym (ap is_some (idle k)) ∙ some in absurd (cc)

recalled_volumes : (volumes : List VolumeRow) (fact : OwnFact) (local : Local) → local.volumes ≡ volumes → (recalled fact local).volumes ≡ volumes
recalled_volumes volumes (Begun k op) local is = is
recalled_volumes volumes (Numbered k number) local is = is
recalled_volumes volumes (Kept file copy) local is = is
recalled_volumes volumes (Had file copy) local is = is

pub recall_volumes : (site : Site) (facts : List OwnFact) (local : Local) → (recall_all site local facts).volumes ≡ local.volumes
recall_volumes site facts local = all_of (λ l. l.volumes ≡ local.volumes) (recalled_volumes local.volumes) site facts local refl

recalled_joined : (joined : ℕ → Bool) (fact : OwnFact) (local : Local) → local.joined ≡ joined → (recalled fact local).joined ≡ joined
recalled_joined joined (Begun k op) local is = is
recalled_joined joined (Numbered k number) local is = is
recalled_joined joined (Kept file copy) local is = is
recalled_joined joined (Had file copy) local is = is

pub recall_joined : (site : Site) (facts : List OwnFact) (local : Local) → (recall_all site local facts).joined ≡ local.joined
recall_joined site facts local = all_of (λ l. l.joined ≡ local.joined) (recalled_joined local.joined) site facts local refl

-- ---- of a session that the tenant can't have nothing is recalled

abbrev pub NoneOutside : Site → Local → Type 0
NoneOutside site local = (k : ℕ) → is_in 1 site.row.sessions k ≡ false → (local.residents k).reserved ≡ none_reserved

recalled_outside : (fact : OwnFact) (site : Site) (local : Local) → fits_local fact site local ≡ true → NoneOutside site local → NoneOutside site (recalled fact local)
recalled_outside (Begun k op) site local fits none j out = by (k == j) refl
  where
    by : (b : Bool) → (k == j) ≡ b → ((recalled (Begun k op) local).residents j).reserved ≡ none_reserved
    by true is = absurd (true≢false (sym (and_parts (is_in 1 site.row.sessions k) (site.is_of_plan k) fits).0 ∙ ap (is_in 1 site.row.sessions) (eqb-true k j is) ∙ out))
    by false is = rw is (none j out)
recalled_outside (Numbered k number) site local fits none j out = by (k == j) refl
  where
    by : (b : Bool) → (k == j) ≡ b → ((recalled (Numbered k number) local).residents j).reserved ≡ none_reserved
    by true is = absurd (true≢false (sym (and_parts (is_in 1 site.row.sessions k) (site.is_of_plan k) fits).0 ∙ ap (is_in 1 site.row.sessions) (eqb-true k j is) ∙ out))
    by false is = rw is (none j out)
recalled_outside (Kept file copy) site local fits none j out = none j out
recalled_outside (Had file copy) site local fits none j out = none j out

pub recall_outside : (site : Site) (facts : List OwnFact) (local : Local) → NoneOutside site local → NoneOutside site (recall_all site local facts)
recall_outside site [] local none = none
recall_outside site (fact ∷ facts) local none = recall_outside site facts (recall_one site local fact) (one fact)
  where
    one : (fact : OwnFact) → NoneOutside site (recall_one site local fact)
    one fact = elim (cases_Bool (fits_local fact site local)) [
      | inl fits ↦ (subst (λ (d : Doing). NoneOutside site d.local) (sym (recalls_fits fact site local fits)) (recalled_outside fact site local fits none))
      | inr not' ↦ (subst (λ (d : Doing). NoneOutside site d.local) (sym (recalls_not fact site local not')) none)
    ]
