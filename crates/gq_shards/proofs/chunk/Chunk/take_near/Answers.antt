use Rattle.std.proofs.Common.{◌≡◌, ◌∙◌, ℕ, ◌+◌, ◌-◌, ◌≤◌, List, ◌++◌, length, take, drop, sym, ap, arith, length-append}
use Rattle.std.proofs.lemmas.List.{length-take-le, length-drop, with_items_is}
use Rattle.gq_shards.proofs.Passing.{waits_near}
use Rattle.gq_shards.proofs.chunk.Chunk.take_near.Goals as goal

pub copy_from_slice-requires : goal.copy_from_slice-requires
copy_from_slice-requires c =
    let at : ℕ = c.args.self.now.filled in
    let size : at + 64 - at ≡ 64 = omega arith in
    let room : 64 ≤ length (drop at c.deref_mut.result.now) = omega (arith, length-drop at c.deref_mut.result.now, c.deref_mut.ensures.len, c.requires.room) in
    ap (λ n. length (take n (drop at c.deref_mut.result.now))) size ∙ (length-take-le 64 (drop at c.deref_mut.result.now) room ∙ sym (length-take-le 64 c.args.text.now (omega (arith, c.requires.text))))

pub returns : goal.returns
returns c =
    let held = c.args.self.now in
    let at : ℕ = held.filled in
    let bytes : List ℕ = c.deref_mut.result.now in
    let copy : List ℕ = take 64 c.args.text.now in
    let behind : List ℕ = drop (at + 64 - at) (drop at bytes) in
    let near : length copy ≡ 64 = length-take-le 64 c.args.text.now (omega (arith, c.requires.text)) in
    let front : length (take at bytes) ≡ at = length-take-le at bytes (omega (arith, c.deref_mut.ensures.len, c.requires.room)) in
    let size : length (take at bytes ++ (copy ++ behind)) ≡ held.bytes.len = omega (arith, length-append (take at bytes) (copy ++ behind), length-append copy behind, near, front, length-drop (at + 64 - at) (drop at bytes), length-drop at bytes, c.deref_mut.ensures.len, c.requires.room) in
    rw (c.copy_from_slice.ensures.after)
    (ap (take (at + c.args.size)) (with_items_is held.bytes (take at bytes ++ (copy ++ behind)) size)
    ∙ (waits_near at c.args.size 64 bytes c.args.text.now behind (omega (arith, c.deref_mut.ensures.len, c.requires.room)) (omega (arith, c.requires.short)) (omega (arith, c.requires.text))
    ∙ ap (λ b. take at b ++ take c.args.size c.args.text.now) c.deref_mut.ensures.value))
