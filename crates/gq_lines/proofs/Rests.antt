-- What is left of a text.
use Rattle.std.proofs.Common.{◌≡◌, ℕ, ◌-◌, ◌≤◌, List, [], ◌++◌, length, drop, append_assoc, length-append, ap, sym, ◌∙◌, refl, arith}
use Rattle.std.proofs.lemmas.Grind.{common_steps}
use Rattle.gq_lines.specs.Lines.{IsRest}

pub rest_of_rest : (text mid rest : List ℕ) → IsRest text mid → IsRest mid rest → IsRest text rest
rest_of_rest text mid rest h k = record { front = h.front ++ k.front; is = h.is ∙ ap (λ x. h.front ++ x) k.is ∙ sym (append_assoc h.front k.front rest) }

pub rest_whole : (text : List ℕ) → IsRest text text
rest_whole text = record { front = []; is = refl }

pub rest_length : (text rest : List ℕ) → IsRest text rest → length rest ≤ length text
rest_length text rest h = omega (arith, length-append h.front rest, ap length h.is)

pub rest_at : (text rest : List ℕ) → IsRest text rest → drop (length text - length rest) text ≡ rest
rest_at text rest h =
    let count : length text - length rest ≡ length h.front = omega (arith, length-append h.front rest, ap length h.is) in
    rw count (ap (drop (length h.front)) h.is ∙ grind (arith, common_steps))
