use Rattle.std.proofs.Common.{◌≡◌, ℕ, vec_len, slice_index}
use Rattle.gq_client.proofs.changing.trimmed.Given as goal

abbrev pub decreases-loop-numbers : goal.decreases-loop-numbers
decreases-loop-numbers l = vec_len l.numbers

abbrev pub invariant-loop-numbers : goal.invariant-loop-numbers
invariant-loop-numbers l = (t : ℕ) → slice_index l.numbers.items t ≡ slice_index l.fn.numbers.items t
