-- Tenants that are gone, one behind another.
use Rattle.std.proofs.Common.{◌≡◌, ℕ, List, [], ◌∷◌, ◌++◌, length, Option, Some, None, Bool, true, false, refl, sym, ap, ◌∙◌, subst, append_assoc, append-nil}
use Rattle.std.specs.Prelude.{is_none, not, nat_lt, ◌&&◌, ◌||◌}
use Rattle.std.specs.Str.{bytes_eq}
use Rattle.std.proofs.lemmas.Bool.{and_parts}
use Rattle.std.proofs.lemmas.Slice.Eq.{bytes_eq-Decides}
use Rattle.gq_desk.specs.CheckedPlan.{CheckedPlan}
use Rattle.gq_desk.specs.Names.{is_name}
use Rattle.gq_lines.specs.Words.{Word}
use Rattle.gq_text.specs.Input.{place_named}
use Rattle.gq_setup.specs.declared.openings.TheConstants.{MOST_GONE}
use Rattle.gq_setup.specs.Setups.{is_gone, can_go, CanGo}
use Rattle.gq_setup.specs.GoingOn.{same_name, gone_go_on}

-- behind those that may be gone another may be, where nothing speaks against it
pub one_gone : (plan : CheckedPlan) (before gone : List Word) (name : Word) → CanGo plan before gone → can_go plan (before ++ gone) name ≡ true → CanGo plan before (gone ++ name ∷ [])
one_gone plan before [] name can may = (subst (λ b. can_go plan b name ≡ true) (append-nil before) may, tt)
one_gone plan before (x ∷ gone) name can may =
    (can.0, one_gone plan (before ++ x ∷ []) gone name can.1 (subst (λ b. can_go plan b name ≡ true) (sym (append_assoc before (x ∷ []) gone)) may))

none_of : {A : Type 0} (o : Option A) → is_none o ≡ true → o ≡ None
none_of None is = refl
none_of (Some x) is = cc

-- one that may be gone is no tenant
no_tenant : (plan : CheckedPlan) (gone : List Word) (name : Word) → can_go plan gone name ≡ true → place_named plan name ≡ None
no_tenant plan gone name can =
    let behind = and_parts (is_name name) (is_none (place_named plan name) && (not (is_gone gone name) && nat_lt (length gone) MOST_GONE)) can in
    none_of (place_named plan name) (and_parts (is_none (place_named plan name)) (not (is_gone gone name) && nat_lt (length gone) MOST_GONE) behind.1).0

pub no_tenants : (plan : CheckedPlan) (before gone : List Word) (name : Word) → CanGo plan before gone → is_gone gone name ≡ true → place_named plan name ≡ None
no_tenants plan before [] name can is = cc
no_tenants plan before (x ∷ gone) name can is = by (bytes_eq name x) refl (λ later. no_tenants plan (before ++ x ∷ []) gone name can.1 later) is
  where
    by : (b : Bool) → bytes_eq name x ≡ b → (is_gone gone name ≡ true → place_named plan name ≡ None) → (b || is_gone gone name) ≡ true → place_named plan name ≡ None
    by true same rest one = ap (place_named plan) ((bytes_eq-Decides name x).0 same) ∙ no_tenant plan before x can.0
    by false other rest later = rest later

-- those who were gone come first
pub gone_first : (olds news : List Word) → gone_go_on olds news ≡ true → (more : List Word) × (news ≡ olds ++ more)
gone_first [] news first = (news, refl)
gone_first (old ∷ olds) [] first = cc
gone_first (old ∷ olds) (new ∷ news) first =
    let parts = and_parts (same_name old new) (gone_go_on olds news) first in
    let later = gone_first olds news parts.1 in
    (later.0, ap (λ name. name ∷ news) (sym ((bytes_eq-Decides old new).0 parts.0)) ∙ ap (λ names. old ∷ names) later.1)

-- and are still
pub still_gone : (gone more : List Word) (name : Word) → is_gone gone name ≡ true → is_gone (gone ++ more) name ≡ true
still_gone [] more name is = cc
still_gone (x ∷ gone) more name is = by (bytes_eq name x) (λ later. still_gone gone more name later) is
  where
    by : (b : Bool) → (is_gone gone name ≡ true → is_gone (gone ++ more) name ≡ true) → (b || is_gone gone name) ≡ true → (b || is_gone (gone ++ more) name) ≡ true
    by true rest one = refl
    by false rest later = rest later
