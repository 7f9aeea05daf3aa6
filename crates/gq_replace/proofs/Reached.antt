-- What is known of each cluster that steps lead to.
use Rattle.std.proofs.Common.{◌≡◌, ℕ, ◌+◌, ◌*◌, ◌≤◌, true, List, [], ◌∷◌, ◌++◌, length, sym, ap, ◌∙◌, subst, inl, inr, Some, arith}
use Rattle.std.specs.Prelude.{Contains, fold, filter_map}
use Rattle.std.proofs.lemmas.List.Sums.{fold-append}
use Rattle.gq_grid.specs.Grid.{Grid}
use Rattle.gq_tag.specs.Tag.{OwnMessage}
use Rattle.gq_desk.specs.declared.plans.TenantRow.{TenantRow}
use Rattle.gq_desk.specs.declared.volumes.VolumeRow.{VolumeRow}
use Rattle.gq_desk.specs.Plans.{is_in}
use Rattle.gq_phase.specs.Phase.{Task}
use Rattle.gq_model.specs.Trace.{Turn, Past, session}
use Rattle.gq_model.specs.Lone.{past_of}
use Rattle.gq_laws.proofs.Going.{while_going}
use Rattle.gq_laws.proofs.Invariant.{Sound}
use Rattle.gq_laws.proofs.InvariantKept.{invariant_along}
use Rattle.gq_laws.proofs.Pasts.{past_run}
use Rattle.gq_cluster.specs.Cluster.{Setting, Cluster, NodeStep, new_cluster, after_step, cluster_after, CanFollow, exchanges}
use Rattle.gq_cluster.specs.Keeping.{IsReserved}
use Rattle.gq_cluster.specs.Laws.{openings, opened, setting_of, disk_step, StepsEnough}
use Rattle.gq_cluster.proofs.Clusters.{Runs, run_of, run_stands}
use Rattle.gq_cluster.proofs.Reserving.{all_used_reserved}
use Rattle.gq_cluster.proofs.Standing.{Stands}

-- ---- steps that lead to a cluster

pub record Reached (s : Setting) (c : Cluster) : Type 0 where
  pub steps : List NodeStep
  pub is : cluster_after s steps ≡ c

pub reached_more : (s : Setting) (c : Cluster) (step : NodeStep) → Reached s c → Reached s (after_step s c step)
reached_more s c step reached = record {
  steps = reached.steps ++ step ∷ [];
  is = fold-append (after_step s) new_cluster reached.steps (step ∷ []) ∙ ap (λ z. after_step s z step) reached.is;
}

pub used : (s : Setting) (c : Cluster) → Reached s c → (n k : ℕ) → IsReserved (c.part n) k
used s c reached n k = subst P reached.is (all_used_reserved s reached.steps n k)
  where
    P : Cluster → Type 0
    P z = IsReserved (z.part n) k

-- steps that may follow others
pub can_append : (s : Setting) (c : Cluster) (first second : List NodeStep) → CanFollow s c first → CanFollow s (fold (after_step s) c first) second → CanFollow s c (first ++ second)
can_append s c [] second can more = more
can_append s c (step ∷ steps) second can more = (can.0, can_append s (after_step s c step) steps second can.1 more)

-- ---- what a run of the service shows

-- no letter is of a later operation than its session's; and a session that has an operation is the tenant's
pub record IsBounded (s : Setting) (c : Cluster) : Type 0 where
  pub op : (letter : OwnMessage) → Contains c.written letter → letter.op ≤ ((c.part (s.home letter.session)).session letter.session).op
  pub inside : (k : ℕ) (task : Task) → ((c.part (s.home k)).session k).current ≡ Some task → is_in 1 s.row.sessions k ≡ true

pub bounded : (grid : Grid) (row : TenantRow) (home : ℕ → ℕ) (opens : List VolumeRow) (steps : List NodeStep) → StepsEnough row opens steps → CanFollow (setting_of grid row home opens) new_cluster steps →
    IsBounded (setting_of grid row home opens) (cluster_after (setting_of grid row home opens) steps)
bounded grid row home opens steps enough can = record { op = op; inside = inside }
  where
    c : Cluster
    c = cluster_after (setting_of grid row home opens) steps

    run : Runs (setting_of grid row home opens) (opened grid row opens) c (exchanges (setting_of grid row home opens) new_cluster steps) (filter_map disk_step steps) (length steps * (row.sessions + 1))
    run = run_of grid row home opens steps enough can

    turns : List Turn
    turns = openings opens ++ run.turns

    past : Past
    past = past_of grid row turns

    stands : Stands (setting_of grid row home opens) past c
    stands = run_stands grid row home opens steps (length steps * (row.sessions + 1)) run

    op : (letter : OwnMessage) → Contains c.written letter → letter.op ≤ ((c.part (home letter.session)).session letter.session).op
    op letter within =
        let P : List OwnMessage → Type 0 = λ z. Contains z letter in
        let sound : Sound grid past.trace letter = (invariant_along grid row past.trace (past_run grid row turns)).messages letter (subst P (sym stands.written) within) in
        let same : (session past.trace letter.session).op ≡ ((c.part (home letter.session)).session letter.session).op = ap (λ z. z.op) (stands.sessions letter.session) in
        elim sound.bounded [
          | inl less ↦ (omega (arith, less, same))
          | inr equal ↦ (let equal_op = equal.0 in omega (arith, equal_op, same))
        ]

    inside : (k : ℕ) (task : Task) → ((c.part (home k)).session k).current ≡ Some task → is_in 1 row.sessions k ≡ true
    inside k task busy = (while_going grid row past.trace (past_run grid row turns) k task (ap (λ z. z.current) (stands.sessions k) ∙ busy)).in_range
