-- The fact of a line's words, and whose it is.
use Rattle.std.proofs.Common.{◌≡◌, ℕ, ◌<◌, List, ◌∷◌, Option, Some, None, refl}
use Rattle.std.specs.Prelude.{IfSome, option_map}
use Rattle.gq_desk.specs.CheckedPlan.{CheckedPlan}
use Rattle.gq_lines.specs.Words.{Word}
use Rattle.gq_text.specs.Input.{place_named}
use Rattle.gq_cluster.specs.Facts.{OwnFact, Begun, Numbered, Kept, Had}
use Rattle.gq_node.specs.Recalling.{tenant_of}
use Rattle.gq_node.specs.Tables.{fact_of}
use Rattle.gq_facts.specs.Facts.{own_fact_by, fact_by, fact_of_words}

-- a verb, a tenant, and its fact
pub fact_arrives : (plan : CheckedPlan) (words rest : List Word) (verb name : Word) (t : ℕ) → words ≡ verb ∷ name ∷ rest → place_named plan name ≡ Some t → fact_by verb t rest ≡ fact_of_words plan words
unfolding fact_of_words
fact_arrives plan words rest verb name t is place = rw (is, place) refl

-- the fact is the tenant's
own_within : (tenants t : ℕ) (own : Option OwnFact) → t < tenants → IfSome (option_map (fact_of t) own) (λ fact. tenant_of fact < tenants)
own_within tenants t None within = tt
own_within tenants t (Some (Begun k op)) within = within
own_within tenants t (Some (Numbered k number)) within = within
own_within tenants t (Some (Kept file copy)) within = within
own_within tenants t (Some (Had file copy)) within = within

pub fact_within : (tenants t : ℕ) (verb : Word) (words : List Word) → t < tenants → IfSome (fact_by verb t words) (λ fact. tenant_of fact < tenants)
fact_within tenants t verb words within = own_within tenants t (own_fact_by verb words) within
