-- Where a server lacks no file of a tenant, a tick does nothing at the lanes behind the first.
use Rattle.std.proofs.Common.{◌≡◌, ◌∙◌, ℕ, zero, suc, ◌+◌, ◌≤◌, Bool, true, false, List, [], ◌∷◌, map, Option, Some, None, refl, sym, ap, subst, arith}
use Rattle.std.specs.Prelude.{◌==◌, nat_lt, is_some, find}
use Rattle.std.specs.List.{range_with_len}
use Rattle.std.proofs.lemmas.Bool.{ne_eqb}
use Rattle.std.proofs.lemmas.List.Elements.{All-nil}
use Rattle.gq_tag.specs.Tag.{File}
use Rattle.gq_desk.specs.declared.volumes.VolumeRow.{VolumeRow}
use Rattle.gq_desk.specs.CheckedPlan.{CheckedPlan}
use Rattle.gq_desk.specs.Volumes.{account_at}
use Rattle.gq_facts.specs.Laws.{FitsFact}
use Rattle.gq_node.specs.Inputs.{Looked}
use Rattle.gq_node.specs.Joining.{all_files, lacked_files, all_joined, first_lacked, looks}
use Rattle.gq_node.specs.Local.{Local, silently}
use Rattle.gq_node.specs.Sites.{Here, Site, site_of}
use Rattle.gq_node.specs.Tables.{Tables, Agrees, lacks_at, fact_of}
use Rattle.gq_node.proofs.Counting.{some_found}
use Rattle.gq_node.proofs.Giving.{first_is, none_of_lane}
use Rattle.gq_parts.specs.Steps.{TookOf}
use Rattle.gq_parts.proofs.Chains.{Move, DoesAll, AllAlone, Comes, inputs_in, last_local, facts_in, text_in, comes_alone}
use Rattle.gq_parts.proofs.Taking.{appended_none}

-- the server lacks no file of the tenant at place t
abbrev pub LacksNone : Tables → ℕ → Type 0
LacksNone w t = nat_lt 0 (lacked_files (lacks_at w t) (account_at w.desk t).volumes) ≡ false

no_file : (w : Tables) (t lane : ℕ) (local : Local) → LacksNone w t → Agrees w t local → first_lacked local lane ≡ None
no_file w t lane local none agrees =
    let volumes : List VolumeRow = (account_at w.desk t).volumes in
    sym (first_is w t lane local agrees) ∙ none_of_lane (lacks_at w t) volumes lane (all_files volumes) (not_some (find (lacks_at w t) (all_files volumes)) (some_found (lacks_at w t) (all_files volumes) ∙ none))
  where
    not_some : (o : Option File) → is_some o ≡ false → o ≡ None
    not_some None is = refl
    not_some (Some file) is = absurd (cc)

idle : (w : Tables) (t lane : ℕ) (local : Local) → 1 ≤ lane → LacksNone w t → Agrees w t local → looks lane (site_of w.plan w.here t) local ≡ silently local
idle w t lane local behind none agrees = by (all_joined (site_of w.plan w.here t) local.joined) refl
  where
    later : (lane == 0) ≡ false
    later = ne_eqb lane 0 (omega (arith, behind))

    by : (b : Bool) → all_joined (site_of w.plan w.here t) local.joined ≡ b → looks lane (site_of w.plan w.here t) local ≡ silently local
    by true is = rw (is, no_file w t lane local none agrees, later) refl
    by false is = rw is refl

-- ---- one lane after another

abbrev still : Local → ℕ → Move
still local lane = record { input = Looked lane; plain = λ site l. (refl, refl); doing = silently local }

abbrev stills : Local → (lane many : ℕ) → List Move
stills local lane zero = []
stills local lane (suc many) = still local lane ∷ stills local (lane + 1) many

inputs_are : (local : Local) (lane many : ℕ) → inputs_in (stills local lane many) ≡ map Looked (range_with_len lane many)
inputs_are local lane zero = refl
inputs_are local lane (suc many) = ap (λ xs. Looked lane ∷ xs) (inputs_are local (lane + 1) many)

all_idle : (w : Tables) (t lane many : ℕ) (local : Local) → 1 ≤ lane → LacksNone w t → Agrees w t local → DoesAll (site_of w.plan w.here t) local (stills local lane many)
all_idle w t lane zero local behind none agrees = tt
all_idle w t lane (suc many) local behind none agrees = (idle w t lane local behind none agrees, all_idle w t (lane + 1) many local (omega (arith, behind)) none agrees)

all_alone : (site : Site) (local : Local) (lane many : ℕ) → AllAlone site (stills local lane many)
all_alone site local lane zero = tt
all_alone site local lane (suc many) = (refl, all_alone site local (lane + 1) many)

last_is : (local : Local) (lane many : ℕ) → last_local local (stills local lane many) ≡ local
last_is local lane zero = refl
last_is local lane (suc many) = last_is local (lane + 1) many

no_facts : (local : Local) (lane many : ℕ) → facts_in (stills local lane many) ≡ []
no_facts local lane zero = refl
no_facts local lane (suc many) = no_facts local (lane + 1) many

no_text : (plan : CheckedPlan) (here : Here) (t : ℕ) (local : Local) (lane many : ℕ) → text_in plan here t (stills local lane many) ≡ []
no_text plan here t local lane zero = refl
no_text plan here t local lane (suc many) = no_text plan here t local (lane + 1) many

comes : (w : Tables) (t lane many : ℕ) (local : Local) → 1 ≤ lane → LacksNone w t → Agrees w t local → Comes w.plan w.here t local (map Looked (range_with_len lane many)) (stills local lane many)
comes w t lane many local behind none agrees =
    subst (λ inputs. Comes w.plan w.here t local inputs (stills local lane many)) (inputs_are local lane many)
    (comes_alone w.plan w.here t local (stills local lane many) (all_idle w t lane many local behind none agrees) (all_alone (site_of w.plan w.here t) local lane many))

-- nothing is given, and nothing changes
pub idle_took : (w : Tables) (t lane many : ℕ) (f told : List ℕ) → 1 ≤ lane → LacksNone w t → TookOf w t (map Looked (range_with_len lane many)) f f told told w
idle_took w t lane many f told behind none = record {
  facts = [];
  told = [];
  takes = record {
    plan = refl;
    here = refl;
    own = λ local agrees. subst (Agrees w t) (sym ((comes w t lane many local behind none agrees).after ∙ last_is local lane many)) agrees;
    others = λ u other local agrees. agrees;
    gives = λ local agrees. sym ((comes w t lane many local behind none agrees).facts ∙ ap (map (fact_of t)) (no_facts local lane many));
    tells = λ local agrees. sym ((comes w t lane many local behind none agrees).text ∙ no_text w.plan w.here t local lane many);
    fit = All-nil (FitsFact w.plan);
  };
  appended = appended_none w.plan f told;
}
