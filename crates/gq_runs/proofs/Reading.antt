-- What holds of an input that was read whole.
use Rattle.std.proofs.Common.{◌≡◌, ℕ, List, Option, Some, None, IfSome, subst}

-- what holds of the bytes that were read holds of all that the reader had, where that is known
pub of_whole : (Q : List ℕ → Type 0) (all : Option (List ℕ)) (read : List ℕ) → IfSome all (λ input. read ≡ input) → Q read → IfSome all Q
of_whole Q None read is holds = tt
of_whole Q (Some input) read is holds = subst Q is holds
