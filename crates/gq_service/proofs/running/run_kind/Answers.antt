-- What the machine that the plan asks for promises is promised.
use Rattle.std.proofs.Common.{◌≡◌, ◌<◌, [], length, subst, inl, inr, OnOk}
use Rattle.std.specs.Prelude.{◌⊎◌, Result, Ok, Err}
use Rattle.gq_setup.specs.Setups.{Setup}
use Rattle.gq_service.proofs.running.run_kind.Goals as goal

-- what is served where no room is given, or some
by_none : {T E P : Type 0} (N S : Type 0) (r : Result T E) → P → OnOk r N → OnOk r ((P × N) ⊎ S)
by_none N S (Err e) none serves = tt
by_none N S (Ok x) none serves = inl (none, serves)

by_some : {T E P : Type 0} (N S : Type 0) (r : Result T E) → P → OnOk r S → OnOk r (N ⊎ (P × S))
by_some N S (Err e) some serves = tt
by_some N S (Ok x) some serves = inr (some, serves)

pub run_with-requires : goal.run_with-requires
run_with-requires g c = record {
  durable = λ synced shown durable. c.requires.durable synced shown (inr (subst (λ (s : Setup). 0 < length s.rooms) c.setup.ensures (c.has_chunks.ensures.some c.if-has_chunks.true), durable));
}

pub run_with-requires-else-has_chunks : goal.run_with-requires-else-has_chunks
run_with-requires-else-has_chunks g c = record {
  durable = λ synced shown durable. c.requires.durable synced shown (inl (subst (λ (s : Setup). s.rooms ≡ []) c.setup.ensures (c.has_chunks.ensures.none c.if-has_chunks.false), durable));
}

pub returns-then-has_chunks : goal.returns-then-has_chunks
returns-then-has_chunks g c = record { served = by_some _ _ c.run_with.result (subst (λ (s : Setup). 0 < length s.rooms) c.setup.ensures (c.has_chunks.ensures.some c.if-has_chunks.true)) c.run_with.ensures.served }

pub returns-else-has_chunks : goal.returns-else-has_chunks
returns-else-has_chunks g c = record { served = by_none _ _ c.run_with-else-has_chunks.result (subst (λ (s : Setup). s.rooms ≡ []) c.setup.ensures (c.has_chunks.ensures.none c.if-has_chunks.false)) c.run_with-else-has_chunks.ensures.served }
