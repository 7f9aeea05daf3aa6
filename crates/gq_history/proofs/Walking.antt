-- The moments so far, one operation on.
use Rattle.std.proofs.Common.{◌≡◌, ℕ, ◌+◌, ◌<◌, List, [], ◌∷◌, ◌++◌, append_assoc, length, take, drop, get_or, sym, ap, ◌∙◌, arith}
use Rattle.std.proofs.lemmas.List.{take_more, drop_more, length-take-le}
use Rattle.gq_laws.specs.declared.ops.Op.{Op}
use Rattle.gq_history.specs.declared.moments.Moment.{Moment}
use Rattle.gq_history.specs.Moments.{begins, ends, moments_after, process}

pub moments_more : (lines : ℕ) (ops : List Op) (i : ℕ) (a : Op) (all new whole : List Moment) (p : ℕ) → i < length ops → a ≡ get_or ops i a → p ≡ process (take i ops) a
    → new ≡ all ++ begins i a p ∷ ends lines i a p ∷ [] → all ++ moments_after lines (take i ops) (drop i ops) ≡ whole
    → new ++ moments_after lines (take (i + 1) ops) (drop (i + 1) ops) ≡ whole
moments_more lines ops i a all new whole p low is process_is put before =
    ap (λ z. z ++ moments_after lines (take (i + 1) ops) (drop (i + 1) ops)) put
    ∙ (append_assoc all (begins i a p ∷ ends lines i a p ∷ []) (moments_after lines (take (i + 1) ops) (drop (i + 1) ops))
    ∙ (ap (λ z. all ++ begins i a p ∷ ends lines i a p ∷ moments_after lines z (drop (i + 1) ops)) (take_more ops i a low ∙ ap (λ z. take i ops ++ z ∷ []) (sym is))
    ∙ (ap (λ q. all ++ begins i a q ∷ ends lines i a q ∷ moments_after lines (take i ops ++ a ∷ []) (drop (i + 1) ops)) process_is
    ∙ (ap (λ n. all ++ begins n a (process (take i ops) a) ∷ ends lines n a (process (take i ops) a) ∷ moments_after lines (take i ops ++ a ∷ []) (drop (i + 1) ops)) (sym (length-take-le i ops (omega arith)))
    ∙ (ap (λ rest. all ++ moments_after lines (take i ops) rest) (sym (drop_more ops i a low ∙ ap (λ z. z ∷ drop (i + 1) ops) (sym is)))
    ∙ before)))))
