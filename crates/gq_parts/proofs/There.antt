-- The facts that a part gives, and those that a start needs, are of files that are there.
use Rattle.std.proofs.Common.{◌≡◌, ◌∙◌, ℕ, true, List, [], ◌∷◌, ◌++◌, refl, sym, ap, subst, Option, Some, None, inl, inr}
use Rattle.std.specs.Prelude.{◌==◌, not, is_some}
use Rattle.std.specs.List.{list_all}
use Rattle.std.specs.Option.{option_to_list}
use Rattle.std.proofs.lemmas.Bool.{cases_Bool, and_parts, eqb-true}
use Rattle.gq_tag.specs.declared.StoredCopy.{StoredCopy}
use Rattle.gq_tag.specs.declared.Body.TheVariants.{Store}
use Rattle.gq_tag.specs.Tag.{File}
use Rattle.gq_model.specs.Trace.{limit_at}
use Rattle.gq_cluster.specs.Cluster.{everyone, Part}
use Rattle.gq_cluster.specs.Facts.{OwnFact, Begun, Numbered, Kept, Had}
use Rattle.gq_node.specs.declared.output.Fact.{Fact}
use Rattle.gq_node.specs.declared.output.Fact.TheVariants.{Began, Numbered as HasNumber, Kept as IsKept, Had as WasGiven}
use Rattle.gq_node.specs.Inputs.{Input, does}
use Rattle.gq_node.specs.Local.{Local, Doing, part_in, state_of, file_fits}
use Rattle.gq_node.specs.Recalling.{tenant_of, own_fact, fits_in}
use Rattle.gq_node.specs.Resting.{IsBare, those_of}
use Rattle.gq_node.specs.Sites.{Site}
use Rattle.gq_node.specs.Tables.{Tables, Agrees}
use Rattle.gq_node.proofs.Journal.{FactIn, KeepsBy, Keeps, does_keep, stays_bare}
use Rattle.gq_node.proofs.Serving.{limit_is}
use Rattle.gq_parts.specs.Texts.{own_facts}
use Rattle.gq_parts.proofs.AlikeStarts.{IsThere, AllThere}
use Rattle.gq_parts.proofs.Knowing.{does_volumes}
use Rattle.gq_parts.proofs.LaterPlans.{limit_by}

pub none_there : (limit : File → Option ℕ) → AllThere limit []
unfolding AllThere
none_there limit = tt

one_there : (limit : File → Option ℕ) (fact : OwnFact) (facts : List OwnFact) → IsThere limit fact → AllThere limit facts → AllThere limit (fact ∷ facts)
unfolding AllThere
one_there limit fact facts one rest = (one, rest)

fits_there : (limit : Option ℕ) (copy : StoredCopy) → file_fits limit (Store copy) ≡ true → is_some limit ≡ true
fits_there None copy fits = fits
fits_there (Some limit) copy fits = refl

-- ---- what a part gives

given_there : (site : Site) (local : Local) (fact : OwnFact) → FactIn site local fact → IsThere (limit_by local.volumes) fact
unfolding IsThere
given_there site local (Begun k op) is = tt
given_there site local (Numbered k number) is = tt
given_there site local (Kept file copy) is = fits_there (limit_at (state_of everyone local) file.volume file.place) copy (and_parts (not (local.lacks file)) (file_fits (limit_at (state_of everyone local) file.volume file.place) (Store copy)) is.0).1
given_there site local (Had file copy) is = fits_there (limit_at (state_of everyone local) file.volume file.place) copy is.0

pub own_facts_there : (site : Site) (local : Local) (inputs : List Input) → IsBare local → AllThere (limit_by local.volumes) (own_facts site local inputs)
own_facts_there site local [] bare = none_there (limit_by local.volumes)
own_facts_there site local (input ∷ inputs) bare =
    let doing : Doing = does input site local in
    let keeps : Keeps site local doing = does_keep input site local bare in
    let rest : AllThere (limit_by local.volumes) (own_facts site doing.local inputs) =
    subst (λ vs. AllThere (limit_by vs) (own_facts site doing.local inputs)) (does_volumes input site local) (own_facts_there site doing.local inputs (stays_bare site local doing keeps bare)) in
    by doing.fact (part_in doing.local) keeps (own_facts site doing.local inputs) rest
  where
    by : (fact : Option OwnFact) (part : Part) → KeepsBy site local fact part → (facts : List OwnFact) → AllThere (limit_by local.volumes) facts → AllThere (limit_by local.volumes) (option_to_list fact ++ facts)
    by None part keeps facts rest = rest
    by (Some fact) part keeps facts rest = one_there (limit_by local.volumes) fact facts (given_there site local fact keeps.1) rest

-- ---- what a start needs

need_there : (w : Tables) (t : ℕ) (local : Local) (fact : Fact) → Agrees w t local → tenant_of fact ≡ t → fits_in w fact ≡ true → IsThere (limit_by local.volumes) (own_fact fact)
unfolding IsThere
need_there w t local (Began tenant k op) agrees its fits = tt
need_there w t local (HasNumber tenant k number) agrees its fits = tt
need_there w t local (IsKept file copy) agrees its fits = ap is_some (sym (limit_is w t file local its agrees)) ∙ fits_there _ copy fits
need_there w t local (WasGiven file copy) agrees its fits = ap is_some (sym (limit_is w t file local its agrees)) ∙ fits_there _ copy fits

pub needed_there : (w : Tables) (t : ℕ) (local : Local) (facts : List Fact) → Agrees w t local → list_all (fits_in w) facts ≡ true → AllThere (limit_by local.volumes) (those_of t facts)
needed_there w t local [] agrees fit = none_there (limit_by local.volumes)
needed_there w t local (fact ∷ facts) agrees fit =
    let two = and_parts (fits_in w fact) (list_all (fits_in w) facts) fit in
    elim (cases_Bool (tenant_of fact == t)) [
      | inl its ↦ (rw its (one_there (limit_by local.volumes) (own_fact fact) (those_of t facts) (need_there w t local fact agrees (eqb-true (tenant_of fact) t its) two.0) (needed_there w t local facts agrees two.1)))
      | inr other ↦ (rw other (needed_there w t local facts agrees two.1))
    ]
