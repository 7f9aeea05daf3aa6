-- Numbers of processes.
use Rattle.std.proofs.Common.{◌≡◌, ℕ, ◌+◌, ◌*◌, ◌≤◌, arith, leb}
use Rattle.std.proofs.lemmas.Bool.{and_parts, leb-true}
use Rattle.gq_desk.specs.CheckedPlan.{row_at}
use Rattle.gq_desk.proofs.SoundRows.{few_sessions}
use Rattle.gq_laws.proofs.InRange.{tenant_in_range}
use Rattle.gq_history.specs.Moments.{given_up}
use Rattle.gq_history.specs.Laws.{AllOfPlan, ProcessesDiffer}

pub all_of_plan : AllOfPlan
all_of_plan plan events t file place a sound at =
    let parts = and_parts (leb 1 a.session) (leb a.session (row_at plan t).sessions) (tenant_in_range plan events t file place a at) in
    let low = leb-true 1 a.session parts.0 in
    let high = leb-true a.session (row_at plan t).sessions parts.1 in
    let few = few_sessions plan sound t in
    record { least = low; most = omega (arith, high, few) }

numbers_differ : (k l m n : ℕ) → 1 ≤ k → k ≤ 16 → 1 ≤ l → l ≤ 16 → k + 16 * m ≡ l + 16 * n → (k ≡ l) × (m ≡ n)
numbers_differ k l m n low high least most same = (omega arith, omega arith)

pub processes_differ : ProcessesDiffer
processes_differ before behind a b of_a of_b same = numbers_differ a.session b.session (given_up a.session before) (given_up b.session behind) of_a.least of_a.most of_b.least of_b.most same
