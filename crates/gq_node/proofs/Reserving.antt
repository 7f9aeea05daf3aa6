-- What is reserved for a session state is what is reserved for the resident that it stands for.
use Rattle.std.proofs.Common.{◌≡◌, ◌∙◌, ℕ, Bool, true, false, Some, None, refl, ap}
use Rattle.std.specs.Prelude.{nat_le, option_map, unwrap_or, if◌then◌else◌}
use Rattle.gq_phase.specs.Phase.{Heard as Saying, HeardStale, HeardNoted, HeardNext, HeardDone}
use Rattle.gq_phase.specs.Standing.{heard_as}
use Rattle.gq_model.specs.Told.{Began}
use Rattle.gq_model.specs.Lone.{heard_step}
use Rattle.gq_cluster.specs.Facts.{Begun, Numbered, Reserved, reserving, reserved_by, greatest_op, greatest_number, last_of_run}
use Rattle.gq_node.specs.declared.output.Fact.TheVariants.{Began as FactBegan, Numbered as HasNumber}
use Rattle.gq_node.specs.Heard.{new_run, heard_run, heard_fact}
use Rattle.gq_node.specs.Tables.{fact_of}

pub same_reserved : (a b : Reserved) → a.op ≡ b.op → a.floor ≡ b.floor → a ≡ b
same_reserved a b op floor =
    let both : ℕ → ℕ → Reserved = λ x y. record { op = x; floor = y } in
    ap (λ x. both x a.floor) op ∙ ap (both b.op) floor

-- ---- a run that is reserved, where the test says that it has to be

run_of_ops : (k n : ℕ) (r : Reserved) (b : Bool) → unwrap_or (if b then None else Some n) r.op ≡ (reserved_by (if b then None else Some (Begun k n)) r).op
run_of_ops k n r true = refl
run_of_ops k n r false = refl

ops_alone : (k n : ℕ) (r : Reserved) (b : Bool) → r.floor ≡ (reserved_by (if b then None else Some (Begun k n)) r).floor
ops_alone k n r true = refl
ops_alone k n r false = refl

fact_of_ops : (t k n : ℕ) (b : Bool) → option_map (FactBegan t k) (if b then None else Some n) ≡ option_map (fact_of t) (if b then None else Some (Begun k n))
fact_of_ops t k n true = refl
fact_of_ops t k n false = refl

run_of_numbers : (k n : ℕ) (r : Reserved) (b : Bool) → unwrap_or (if b then None else Some n) r.floor ≡ (reserved_by (if b then None else Some (Numbered k n)) r).floor
run_of_numbers k n r true = refl
run_of_numbers k n r false = refl

numbers_alone : (k n : ℕ) (r : Reserved) (b : Bool) → r.op ≡ (reserved_by (if b then None else Some (Numbered k n)) r).op
numbers_alone k n r true = refl
numbers_alone k n r false = refl

fact_of_numbers : (t k n : ℕ) (b : Bool) → option_map (HasNumber t k) (if b then None else Some n) ≡ option_map (fact_of t) (if b then None else Some (Numbered k n))
fact_of_numbers t k n true = refl
fact_of_numbers t k n false = refl

-- ---- an operation begins

pub begun_reserves : (k op first count floor : ℕ) (r : Reserved) → unwrap_or (new_run greatest_op op r.op) r.op ≡ (reserved_by (reserving k r (Began op first count) floor) r).op
begun_reserves k op first count floor r = run_of_ops k (last_of_run greatest_op op) r (nat_le op r.op)

pub begun_keeps : (k op first count floor : ℕ) (r : Reserved) → r.floor ≡ (reserved_by (reserving k r (Began op first count) floor) r).floor
begun_keeps k op first count floor r = ops_alone k (last_of_run greatest_op op) r (nat_le op r.op)

pub begun_gives_fact : (t k op first count floor : ℕ) (r : Reserved) → option_map (FactBegan t k) (new_run greatest_op op r.op) ≡ option_map (fact_of t) (reserving k r (Began op first count) floor)
begun_gives_fact t k op first count floor r = fact_of_ops t k (last_of_run greatest_op op) (nat_le op r.op)

-- ---- a letter is heard

pub heard_keeps : (k floor : ℕ) (r : Reserved) (s : Saying) → r.op ≡ (reserved_by (reserving k r (heard_step 0 s).told floor) r).op
heard_keeps k floor r HeardStale = refl
heard_keeps k floor r HeardNoted = refl
heard_keeps k floor r (HeardNext round tag messages) = numbers_alone k (last_of_run greatest_number floor) r (nat_le floor r.floor)
heard_keeps k floor r (HeardDone outcome) = refl

pub heard_reserves : (t k floor : ℕ) (r : Reserved) (s : Saying) → unwrap_or (heard_run r.floor floor (heard_as t s)) r.floor ≡ (reserved_by (reserving k r (heard_step 0 s).told floor) r).floor
heard_reserves t k floor r HeardStale = refl
heard_reserves t k floor r HeardNoted = refl
heard_reserves t k floor r (HeardNext round tag messages) = run_of_numbers k (last_of_run greatest_number floor) r (nat_le floor r.floor)
heard_reserves t k floor r (HeardDone outcome) = refl

pub heard_gives_fact : (t k floor : ℕ) (r : Reserved) (s : Saying) → heard_fact t k (heard_run r.floor floor (heard_as t s)) (heard_as t s) ≡ option_map (fact_of t) (reserving k r (heard_step 0 s).told floor)
heard_gives_fact t k floor r HeardStale = refl
heard_gives_fact t k floor r HeardNoted = refl
heard_gives_fact t k floor r (HeardNext round tag messages) = fact_of_numbers t k (last_of_run greatest_number floor) (nat_le floor r.floor)
heard_gives_fact t k floor r (HeardDone outcome) = refl
