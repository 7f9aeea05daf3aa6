-- Place by place.
use Rattle.std.proofs.Common.{◌≡◌, ◌∙◌, ℕ, suc, ◌+◌, List, [], ◌∷◌, ◌++◌, sym, ap, arith, append_assoc, append-nil}
use Rattle.std.specs.List.{flat_map, range_with_len}
use Rattle.std.proofs.lemmas.List.Concat.{flat_map-append}
use Rattle.gq_node.specs.Tables.{Tables}
use Rattle.gq_parts.specs.Texts.{greeting_at}
use Rattle.gq_grid.proofs.Same.{range_more}
use Rattle.gq_machine.proofs.machine.NodeMachine.greet.Goals as goal

-- the text of one place more
place_more : (f : ℕ → List ℕ) (n : ℕ) → flat_map f (range_with_len 0 (n + 1)) ≡ flat_map f (range_with_len 0 n) ++ f n
place_more f n =
    let next : n + 1 ≡ suc n = omega arith in
    ap (λ m. flat_map f (range_with_len 0 m)) next
    ∙ ap (flat_map f) (range_more 0 n n (omega arith))
    ∙ flat_map-append f (range_with_len 0 n) (n ∷ [])
    ∙ ap (λ text. flat_map f (range_with_len 0 n) ++ text) (append-nil (f n))

pub loop-place-preserved : goal.loop-place-preserved
loop-place-preserved c =
    let w : Tables = c.args.self.now.node.tables in
    let greets : ℕ → List ℕ = greeting_at w.plan w.here in
    let n : ℕ = c.loop-place.place in
    c.in_ok-greet_at.ensures
    ∙ ap (λ text. text ++ greets n) c.loop-place.invariant
    ∙ append_assoc c.args.told.now.items (flat_map greets (range_with_len 0 n)) (greets n)
    ∙ ap (λ text. c.args.told.now.items ++ text) (sym (place_more greets n))
