-- What is known of a reader and a writer from step to step.
use Rattle.std.proofs.Common.{◌≡◌, ℕ, ◌+◌, ◌<◌, List, ◌++◌, length, take, drop, Option, None, Some, IfSome, ◌∙◌, ◌-◌, length-append, append_assoc, length-drop}
use Rattle.std.proofs.Math.Seq.{take-length, take-add}
use Rattle.std.specs.Io.KnownBytes.{Appends, Keeps, prepend_known}

-- what is held and what is left are too much together
pub IfSome-of_rest : (all left : Option (List ℕ)) (held : List ℕ) (n most : ℕ) → n ≡ length held → Keeps all (prepend_known held left)
    → IfSome left (λ xs. most < n + length xs) → IfSome all (λ xs. most < length xs)
IfSome-of_rest None left held n most e kept big = tt
IfSome-of_rest (Some x) None held n most e kept big = absurd kept
IfSome-of_rest (Some x) (Some y) held n most e kept big = rw (← kept, length-append, ← e) big
