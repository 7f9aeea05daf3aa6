-- What was written by one write after the other.
use Rattle.std.proofs.Common.{◌≡◌, ℕ, ◌+◌, List, ◌++◌, length, take, drop, Option, None, Some, ◌∙◌, ◌-◌, append_assoc, length-drop}
use Rattle.std.proofs.Math.Seq.{take-length, take-add}
use Rattle.std.specs.Io.KnownBytes.{Appends}

-- two writes, one after the other, wrote a longer part of the text
pub Appends-take : (a b c : Option (List ℕ)) (text : List ℕ) (done n : ℕ) → Appends a b (take done text)
    → Appends b c (take n (take (length text - done) (drop done text))) → Appends a c (take (done + n) text)
Appends-take None b c text done n p q = tt
Appends-take (Some x) None c text done n p q = absurd p
Appends-take (Some x) (Some y) None text done n p q = absurd q
Appends-take (Some x) (Some y) (Some z) text done n p q =
    let rest : take (length text - done) (drop done text) ≡ drop done text = rw (← length-drop done text) (take-length (drop done text)) in
    let whole : take (done + n) text ≡ take done text ++ take n (drop done text) = take-add done n text in
    rw whole (q ∙ rw (rest, p) (append_assoc x (take done text) (take n (drop done text))))
