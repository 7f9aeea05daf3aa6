-- Who leaves where a plan follows an older one.
use Rattle.std.proofs.Common.{◌≡◌, ◌∙◌, ◌≢◌, ℕ, zero, suc, ◌<◌, List, [], ◌∷◌, length, get_or, Option, Some, None, Bool, true, false, refl, sym, ap, subst, arith}
use Rattle.std.specs.Prelude.{◌&&◌, ◌||◌, is_some, if◌then◌else◌}
use Rattle.std.specs.List.{list_any}
use Rattle.std.specs.Str.{bytes_eq}
use Rattle.std.proofs.lemmas.Bool.{and_parts}
use Rattle.std.proofs.lemmas.Option.{unwrap_or-slice_get}
use Rattle.std.proofs.lemmas.Slice.Eq.{bytes_eq-Decides}
use Rattle.gq_desk.specs.CheckedPlan.{CheckedPlan, nobody, row_at}
use Rattle.gq_desk.specs.Plans.{is_of}
use Rattle.gq_desk.specs.declared.plans.TenantRow.{TenantRow}
use Rattle.gq_desk.proofs.NamesOfRows.{is_found}
use Rattle.gq_lines.specs.Words.{Word}
use Rattle.gq_text.specs.Input.{place_named}
use Rattle.gq_setup.specs.Setups.{Setup, CanGo, holdings, kib_of, is_gone_at}
use Rattle.gq_setup.specs.GoingOn.{come_first, row_goes_on, same_servers, losses_go_on, gone_go_on, tenants_go_on, rooms_go_on, account_goes_on, holdings_left, goes_on}
use Rattle.gq_setup.proofs.Staying.{tenants_stay, gone_are_no_tenants}
use Rattle.gq_plan.specs.Leaving.{freed_line, freed_text, IsTold, LeaversAreTold}

-- ---- a tenant that stands at a place is found by its name

row_is_get : (plan : CheckedPlan) (t : ℕ) → row_at plan t ≡ get_or plan.rows t nobody
row_is_get plan t = unwrap_or-slice_get plan.rows t nobody

any_at : (p : TenantRow → Bool) (rows : List TenantRow) (t : ℕ) → t < length rows → p (get_or rows t nobody) ≡ true → list_any p rows ≡ true
any_at p [] t within is = absurd (omega arith)
any_at p (row ∷ rows) zero within is = rw is refl
any_at p (row ∷ rows) (suc t) within is = by (p row) (any_at p rows t (omega arith) is)
  where
    by : (b : Bool) → list_any p rows ≡ true → (b || list_any p rows) ≡ true
    by true later = refl
    by false later = later

not_none : {A : Type 0} (o : Option A) → is_some o ≡ true → o ≢ None
not_none None some = absurd (cc)
not_none (Some x) some = λ none. cc

found : (plan : CheckedPlan) (t : ℕ) (name : Word) → t < length plan.rows → name ≡ (row_at plan t).name → place_named plan name ≢ None
found plan t name within is =
    let same : bytes_eq name (get_or plan.rows t nobody).name ≡ true = (bytes_eq-Decides name (get_or plan.rows t nobody).name).1 (is ∙ ap (λ (row : TenantRow). row.name) (row_is_get plan t)) in
    not_none (place_named plan name) (is_found (is_of name) 0 plan.rows ∙ any_at (is_of name) plan.rows t within same)

-- ---- an old tenant's place is one of the newer plan

comes_within : {A : Type 0} (test : A → A → Bool) (olds news : List A) (i : ℕ) → come_first test olds news ≡ true → i < length olds → i < length news
comes_within test [] news i first within = absurd (omega arith)
comes_within test (old ∷ olds) [] i first within = cc
comes_within test (old ∷ olds) (new ∷ news) zero first within = omega arith
comes_within test (old ∷ olds) (new ∷ news) (suc i) first within =
    let rest = comes_within test olds news i (and_parts (test old new) (come_first test olds news) first).1 (omega arith) in
    omega (arith, rest)

rows_go_on : (old new : Setup) → goes_on old new ≡ true → come_first (row_goes_on new.gone) old.plan.rows new.plan.rows ≡ true
rows_go_on old new on =
    let rooms : Bool = rooms_go_on new.gone old.plan old.rooms new.rooms in
    let first = and_parts (same_servers old.plan new.plan) (losses_go_on old.lost new.lost && (gone_go_on old.gone new.gone && (tenants_go_on old new && rooms))) on in
    let second = and_parts (losses_go_on old.lost new.lost) (gone_go_on old.gone new.gone && (tenants_go_on old new && rooms)) first.1 in
    let third = and_parts (gone_go_on old.gone new.gone) (tenants_go_on old new && rooms) second.1 in
    let fourth = and_parts (tenants_go_on old new) rooms third.1 in
    (and_parts (come_first (row_goes_on new.gone) old.plan.rows new.plan.rows) (come_first account_goes_on (holdings_left new.gone old) (holdings new)) fourth.0).0

-- ---- the law

nothing_of : (old new : Setup) (t : ℕ) → is_gone_at new.gone old.plan t ≡ false → freed_text old new t ≡ []
nothing_of old new t stays = rw stays refl

all_of : (old new : Setup) (t : ℕ) → is_gone_at new.gone old.plan t ≡ true → freed_text old new t ≡ freed_line (row_at old.plan t) (kib_of old.rooms t)
all_of old new t gone = rw gone refl

pub leavers_told : LeaversAreTold
leavers_told old new t can on within = by (is_gone_at new.gone old.plan t) refl
  where
    by : (b : Bool) → is_gone_at new.gone old.plan t ≡ b → IsTold old new t
    by true gone = record {
      stays = λ there. absurd (there (gone_are_no_tenants new (row_at old.plan t).name can gone));
      leaves = λ none. all_of old new t gone;
    }
    by false stays = record {
      stays = λ there. nothing_of old new t stays;
      leaves = λ none. absurd (found new.plan t (row_at old.plan t).name (comes_within (row_goes_on new.gone) old.plan.rows new.plan.rows t (rows_go_on old new on) within) (sym (tenants_stay old new t on within stays)) none);
    }
