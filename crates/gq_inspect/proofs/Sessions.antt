-- The sessions of a plan: each is of one of its tenants, and no two places have the same one.
use Rattle.std.proofs.Common.{◌≡◌, ◌⊎◌, ℕ, zero, suc, ◌+◌, ◌<◌, [], ◌∷◌, Some, length, All, refl, subst, inl, inr, arith}
use Rattle.std.specs.Prelude.{slice_get}
use Rattle.std.proofs.lemmas.List.Elements.{All-append, All-cons, All-nil, All-weaker}
use Rattle.std.proofs.lemmas.Option.{get_or_from_slice_get, slice_get_within}
use Rattle.gq_desk.specs.CheckedPlan.{CheckedPlan, row_at}
use Rattle.gq_session.specs.Fitting.{numbered, sessions_below, plan_sessions}
use Rattle.gq_session.specs.declared.fitting.SessionId.{SessionId}
use Rattle.gq_inspect.proofs.Rising.{Rises, IsAsymmetric, rises-append, rising_once}

-- one of the first so many of the tenant
record IsNumbered (tenant count : ℕ) (id : SessionId) : Type 0 where
  tenant_is : id.tenant ≡ tenant
  low : id.number < count + 1

numbered_are : (tenant count : ℕ) → All (IsNumbered tenant count) (numbered tenant count)
numbered_are tenant zero = All-nil (IsNumbered tenant zero)
numbered_are tenant (suc n) =
    All-append (IsNumbered tenant (suc n)) (numbered tenant n) (record { tenant = tenant; number = n + 1 } ∷ [])
    (All-weaker (IsNumbered tenant n) (IsNumbered tenant (suc n)) (λ id is. record { tenant_is = is.tenant_is; low = let low = is.low in omega arith }) (numbered tenant n) (numbered_are tenant n))
    (All-cons (IsNumbered tenant (suc n)) (record { tenant = tenant; number = n + 1 }) [] (record { tenant_is = refl; low = omega arith }) (All-nil (IsNumbered tenant (suc n))))

abbrev IsBelow : ℕ → SessionId → Type 0
IsBelow n id = id.tenant < n

below_are : (plan : CheckedPlan) (n : ℕ) → All (IsBelow n) (sessions_below plan n)
below_are plan zero = All-nil (IsBelow zero)
below_are plan (suc n) =
    All-append (IsBelow (suc n)) (sessions_below plan n) (numbered n (row_at plan n).sessions)
    (All-weaker (IsBelow n) (IsBelow (suc n)) (λ id low. omega arith) (sessions_below plan n) (below_are plan n))
    (All-weaker (IsNumbered n (row_at plan n).sessions) (IsBelow (suc n)) (λ id is. let same = is.tenant_is in omega arith) (numbered n (row_at plan n).sessions) (numbered_are n (row_at plan n).sessions))

-- a session of the plan is of a tenant of the plan
pub session_within : (plan : CheckedPlan) (k : ℕ) (id : SessionId) → slice_get (plan_sessions plan) k ≡ Some id → id.tenant < length plan.rows
session_within plan k id at =
    let ids = plan_sessions plan in
    subst (IsBelow (length plan.rows)) (get_or_from_slice_get ids k id id at) (below_are plan (length plan.rows) k id (slice_get_within ids k id at))

-- ---- they rise

abbrev IsBefore : SessionId → SessionId → Type 0
IsBefore a b = (a.tenant < b.tenant) ⊎ ((a.tenant ≡ b.tenant) × (a.number < b.number))

asymmetric : IsAsymmetric IsBefore
asymmetric a b (inl low) (inl low') = omega arith
asymmetric a b (inl low) (inr (same', low')) = omega arith
asymmetric a b (inr (same, low)) (inl low') = omega arith
asymmetric a b (inr (same, low)) (inr (same', low')) = omega arith

numbered_rise : (tenant count : ℕ) → Rises IsBefore (numbered tenant count)
numbered_rise tenant zero = tt
numbered_rise tenant (suc n) =
    let last : SessionId = record { tenant = tenant; number = n + 1 } in
    rises-append IsBefore (numbered tenant n) (last ∷ []) (numbered_rise tenant n) (All-nil (IsBefore last), tt)
    (All-weaker (IsNumbered tenant n) (λ (a : SessionId). All (IsBefore a) (last ∷ [])) (λ a is. All-cons (IsBefore a) last [] (inr (is.tenant_is, is.low)) (All-nil (IsBefore a))) (numbered tenant n) (numbered_are tenant n))

below_rise : (plan : CheckedPlan) (n : ℕ) → Rises IsBefore (sessions_below plan n)
below_rise plan zero = tt
below_rise plan (suc n) =
    let count = (row_at plan n).sessions in
    rises-append IsBefore (sessions_below plan n) (numbered n count) (below_rise plan n) (numbered_rise n count)
    (All-weaker (IsBelow n) (λ (a : SessionId). All (IsBefore a) (numbered n count))
    (λ a low. All-weaker (IsNumbered n count) (IsBefore a) (λ b is. inl (let same = is.tenant_is in omega arith)) (numbered n count) (numbered_are n count)) (sessions_below plan n) (below_are plan n))

-- two places with one session are one place
pub session_once : (plan : CheckedPlan) (j k : ℕ) (a b : SessionId) → slice_get (plan_sessions plan) j ≡ Some a → slice_get (plan_sessions plan) k ≡ Some b → a ≡ b → j ≡ k
session_once plan j k a b at at' same = rising_once IsBefore asymmetric (plan_sessions plan) j k a b (below_rise plan (length plan.rows)) at at' same
