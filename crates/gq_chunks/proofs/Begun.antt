-- A machine that read no line yet.
use Rattle.std.proofs.Common.{◌≡◌, ◌+◌, ◌<◌, ℕ, zero, suc, List, [], ◌∷◌, ◌++◌, length, take, get_or, Some, None, refl, ap, subst, ◌∙◌, arith}
use Rattle.std.specs.Prelude.{slice_get, Result, Ok, Err, IfOk, Bool, true}
use Rattle.std.proofs.lemmas.List.Sums.{sum_by_more}
use Rattle.std.proofs.lemmas.Option.{same_Some}
use Rattle.gq_shelf.specs.Notes.{Noted}
use Rattle.gq_desk.specs.CheckedPlan.{CheckedPlan}
use Rattle.gq_depot.specs.Depots.{standing_of, bare, IsSame}
use Rattle.gq_depot.specs.Tenants.{LeadsOwn, ApartFrom}
use Rattle.gq_depot.specs.declared.depot.Depot.{Depot}
use Rattle.gq_depot.specs.declared.fact.ChunkFact.{ChunkFact}
use Rattle.gq_chunks.specs.Machines.{chunks, in_column, column_losses, lacks_at_first, IsBare, Recalled}

-- one place more
pub losses_more : (cols place : ℕ) (lost : List ℕ) (i d before one : ℕ) → i < length lost → before ≡ column_losses cols place (take i lost) → one ≡ in_column cols place (get_or lost i d) → before + one ≡ column_losses cols place (take (i + 1) lost)
losses_more cols place lost i d before one lt was its =
    let more : column_losses cols place (take (i + 1) lost) ≡ column_losses cols place (take i lost) + in_column cols place (get_or lost i d) = sum_by_more (in_column cols place) lost i d lt in
    omega (arith, more, was, its)

never : {X : Type 0} (x : X) {A : Type 0} → None ≡ Some x → A
never x e = absurd (bad e)
  where
    bad : None ≡ Some x → ⊥
    bad e = cc

-- what holds of each holds of each and one more
pub each_more : {X : Type 0} (P : ℕ → X → Type 0) (xs : List X) (x : X) → ((t : ℕ) (y : X) → slice_get xs t ≡ Some y → P t y) → P (length xs) x → (t : ℕ) (y : X) → slice_get (xs ++ x ∷ []) t ≡ Some y → P t y
each_more P [] x each one zero y is = subst (P 0) (same_Some x y is) one
each_more P [] x each one (suc t) y is = never y is
each_more P (z ∷ xs) x each one zero y is = each 0 y is
each_more P (z ∷ xs) x each one (suc t) y is = each_more (λ k. P (suc k)) xs x (λ k w at. each (suc k) w at) one t y is

pub recalled_ok : {E : Type 0} (r : Result Bool E) (plan : CheckedPlan) (node : ℕ) (lost : List ℕ) (losses after : ℕ) (olds news : List Depot) (noted now : Noted) (t : ℕ) (fact : ChunkFact) →
    IfOk r (λ is_read. is_read ≡ true → LeadsOwn olds t (Some fact) news) → ApartFrom t olds news → length news ≡ length olds → after ≡ losses → now ≡ noted →
    IfOk r (λ is_read. is_read ≡ true → Recalled (chunks plan node lost losses olds noted) t fact (chunks plan node lost after news now))
recalled_ok (Err e) plan node lost losses after olds news noted now t fact own apart tenants same shelf = tt
recalled_ok (Ok read) plan node lost losses after olds news noted now t fact own apart tenants same shelf = λ is. record {
  leads = own is;
  apart = apart;
  site = record { plan = refl; node = refl; lost = refl; losses = same; tenants = tenants };
  noted = shelf;
}

-- a depot that is new
pub bare_at : (node : ℕ) (depot : Depot) (sessions allowed room before first : ℕ) (lacks : Bool) → length depot.stock.sessions.items ≡ sessions → depot.stock.allowed ≡ allowed → allowed ≡ room → lacks ≡ lacks_at_first node before allowed → before ≡ first →
    IsSame (standing_of depot) (bare lacks) → IsBare sessions room (lacks_at_first node first room) depot
bare_at node depot sessions allowed room before first lacks long may as_room lacking as_first nothing = record {
  sessions_are = long;
  allowed_is = may ∙ as_room;
  nothing = subst (λ (b : Bool). IsSame (standing_of depot) (bare b)) (lacking ∙ (ap (λ (n : ℕ). lacks_at_first node n allowed) as_first ∙ ap (λ (n : ℕ). lacks_at_first node first n) as_room)) nothing;
}
