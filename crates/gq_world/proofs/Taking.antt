-- A server takes the copies of its peer, of the stores in two parts.
use Rattle.std.proofs.Common.{◌≡◌, ◌∙◌, ℕ, ◌-◌, ◌<◌, List, ◌++◌, length, get_or, sym, ap, arith}
use Rattle.std.specs.Prelude.{slice_set}
use Rattle.std.proofs.lemmas.List.{get_or_default, set-append_left, set-append_right, get_or-append_right, get_or_append_left}
use Rattle.gq_store.specs.Copies.{StoreCopies}
use Rattle.gq_world.specs.Tables.{no_store, store_at}

nothing : (n : ℕ) → n - n ≡ 0
nothing n = omega arith

pub from_above : (xs low high : List StoreCopies) (server peer : ℕ) (d : StoreCopies) → xs ≡ low ++ high → length low ≡ peer → server < peer → 0 < length high → slice_set low server (get_or high 0 d) ++ high ≡ slice_set xs server (store_at xs peer)
from_above xs low high server peer d is count below some =
    let value : get_or high 0 d ≡ store_at xs peer =
    get_or_default high 0 d no_store some
    ∙ ap (λ k. get_or high k no_store) (sym (nothing peer))
    ∙ sym (get_or-append_right low high peer peer no_store count (omega arith))
    ∙ ap (λ x. get_or x peer no_store) (sym is) in
    sym (set-append_left low high server (get_or high 0 d) (omega arith))
    ∙ ap (λ x. slice_set x server (get_or high 0 d)) (sym is)
    ∙ ap (slice_set xs server) value

pub from_below : (xs low high : List StoreCopies) (server peer : ℕ) (d : StoreCopies) → xs ≡ low ++ high → length low ≡ server → peer < server → low ++ slice_set high 0 (get_or low peer d) ≡ slice_set xs server (store_at xs peer)
from_below xs low high server peer d is count below =
    let value : get_or low peer d ≡ store_at xs peer =
    get_or_default low peer d no_store (omega arith)
    ∙ sym (get_or_append_left low high no_store peer (omega arith))
    ∙ ap (λ x. get_or x peer no_store) (sym is) in
    ap (λ k. low ++ slice_set high k (get_or low peer d)) (sym (nothing server))
    ∙ sym (set-append_right low high server server (get_or low peer d) count (omega arith))
    ∙ ap (λ x. slice_set x server (get_or low peer d)) (sym is)
    ∙ ap (slice_set xs server) value
