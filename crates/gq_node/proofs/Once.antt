-- A request that comes again leaves all as it is.
use Rattle.std.proofs.Common.{◌≡◌, ◌∙◌, ℕ, ◌+◌, ◌≤◌, Bool, true, false, List, [], ◌∷◌, refl, sym, ap, subst, Option, Some, None, arith}
use Rattle.std.specs.Prelude.{◌&&◌, nat_le, is_some}
use Rattle.std.proofs.lemmas.Bool.{and_parts, leb-true}
use Rattle.gq_model.specs.declared.events.Line.{Line}
use Rattle.gq_node.specs.declared.output.Admission.{Admission}
use Rattle.gq_node.specs.declared.output.Admission.TheVariants.{Tells, Passes, Goes}
use Rattle.gq_node.specs.Inputs.{Input, Asked, AskedPlan, AskedLook, Brought, Shortened, Ticked, Looked, Joined, Fetching, Fetched, does, after_one, after_all}
use Rattle.gq_node.specs.Local.{Local, asker, begins, admission_in, asks, asks_in, own_admission}
use Rattle.gq_node.specs.Once.{comes_again, LeavesAll, AllAgainLeave, TakesOnce, AllTakeOnce}
use Rattle.gq_node.specs.Sites.{Site}
use Rattle.gq_node.proofs.Asking.{goes_home, next_number}

-- ---- a request that comes again

quiet_by : (site : Site) (local : Local) (op : ℕ) (line : Line) (k : ℕ) (admission : Admission) → admission_in site local k op (begins line) ≡ admission → (admission ≡ Goes → ⊥) → LeavesAll local (asks_in site local op line k)
quiet_by site local op line k (Tells answer) is goes = rw is (record { part = refl; letters = refl; transfer = refl; fact = refl })
quiet_by site local op line k Passes is goes = rw is (record { part = refl; letters = refl; transfer = refl; fact = refl })
quiet_by site local op line k Goes is goes = absurd (goes refl)

pub never_goes : (site : Site) (local : Local) (op : ℕ) (line : Line) (k : ℕ) → begins line ≡ true → op ≤ (local.residents k).session.op → admission_in site local k op (begins line) ≡ Goes → ⊥
never_goes site local op line k begin low goes =
    let last : ℕ = (local.residents k).session.op in
    let going : Bool = is_some (local.residents k).session.current in
    let own = (goes_home site k op last (begins line) going (local.residents k).outcome goes).2 in
    let next : op ≡ last + 1 = next_number k op last going (local.residents k).outcome (subst (λ b. own_admission k op b last going (local.residents k).outcome ≡ Goes) begin own) in
    absurd (omega arith)

again_leaves : (site : Site) (local : Local) (op : ℕ) (line : Line) (o : Option ℕ) → asker line ≡ o → comes_again local (Asked op line) ≡ true → LeavesAll local (asks op line site local)
again_leaves site local op line None is again = let h = rw is at again in absurd (cc)
again_leaves site local op line (Some k) is again =
    let h : (begins line && nat_le op (local.residents k).session.op) ≡ true = rw is at again in
    let parts = and_parts (begins line) (nat_le op (local.residents k).session.op) h in
    let same : asks op line site local ≡ asks_in site local op line k = rw is refl in
    subst (LeavesAll local) (sym same) (quiet_by site local op line k (admission_in site local k op (begins line)) refl (never_goes site local op line k parts.0 (leb-true op (local.residents k).session.op parts.1)))

pub again_leave : AllAgainLeave
again_leave site local (Asked op line) again = again_leaves site local op line (asker line) refl again
again_leave site local AskedPlan again = absurd (cc)
again_leave site local (AskedLook mark volume) again = absurd (cc)
again_leave site local (Brought from letter) again = absurd (cc)
again_leave site local (Shortened from short bytes) again = absurd (cc)
again_leave site local (Ticked session) again = absurd (cc)
again_leave site local (Looked lane) again = absurd (cc)
again_leave site local (Joined from losses) again = absurd (cc)
again_leave site local (Fetching from file) again = absurd (cc)
again_leave site local (Fetched from file copy) again = absurd (cc)

-- ---- all that comes

once_more : (site : Site) (local : Local) (input : Input) (rest : List Input) → TakesOnce site local rest → TakesOnce site (after_one site local input) rest → TakesOnce site local (input ∷ rest)
once_more site local input rest here later = by (comes_again local input) refl
  where
    by : (b : Bool) → comes_again local input ≡ b → TakesOnce site local (input ∷ rest)
    by true again =
        let leaves : LeavesAll local (does input site local) = again_leave site local input again in
        record { doings_are = rw again here.doings_are; part = rw again (ap (λ (l : Local). after_all site l rest) leaves.part ∙ here.part) }
    by false new = record { doings_are = rw new (ap (λ ds. does input site local ∷ ds) later.doings_are); part = rw new later.part }

pub take_once : AllTakeOnce
take_once site local [] = record { doings_are = refl; part = refl }
take_once site local (input ∷ rest) = once_more site local input rest (take_once site local rest) (take_once site (after_one site local input) rest)
