-- One hop more: what `hops` and `left_behind` say from the last hop on, as a loop goes.
use Rattle.std.proofs.Common.{◌≡◌, ◌∙◌, ℕ, zero, suc, List, ◌++◌, refl, sym, ap, append_assoc, append-nil}
use Rattle.gq_tag.specs.Tag.{OwnMessage}
use Rattle.gq_node.specs.Inputs.{after_all, doings}
use Rattle.gq_node.specs.Local.{Local}
use Rattle.gq_node.specs.Sites.{Site}
use Rattle.gq_parts.specs.Within.{own_letters, brought, hops, left_behind}
use Rattle.gq_parts.proofs.Taking.{after_more}

pub hops_more : (n : ℕ) (site : Site) (local : Local) (letters : List OwnMessage) → hops (suc n) site local letters ≡ hops n site local letters ++ brought site (left_behind n site local letters)
unfolding hops left_behind
hops_more zero site local letters = append-nil (brought site letters)
hops_more (suc n) site local letters =
    let next : Local = after_all site local (brought site letters) in
    let more : List OwnMessage = own_letters site (doings site local (brought site letters)) in
    ap (λ z. brought site letters ++ z) (hops_more n site next more)
    ∙ sym (append_assoc (brought site letters) (hops n site next more) (brought site (left_behind n site next more)))

pub left_more : (n : ℕ) (site : Site) (local : Local) (letters : List OwnMessage) →
    left_behind (suc n) site local letters ≡ own_letters site (doings site (after_all site local (hops n site local letters)) (brought site (left_behind n site local letters)))
unfolding hops left_behind
left_more zero site local letters = refl
left_more (suc n) site local letters =
    let next : Local = after_all site local (brought site letters) in
    let more : List OwnMessage = own_letters site (doings site local (brought site letters)) in
    left_more n site next more
    ∙ ap (λ l. own_letters site (doings site l (brought site (left_behind n site next more)))) (sym (after_more site local (brought site letters) (hops n site next more)))
