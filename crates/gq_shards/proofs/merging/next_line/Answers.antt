use Rattle.std.proofs.Common.{◌≡◌, ◌∙◌, ◌-◌, length, take, drop, map, ap, arith}
use Rattle.std.proofs.lemmas.List.{take_rest}
use Rattle.gq_shards.proofs.Lefts.{next_is, next_within}
use Rattle.gq_shards.proofs.merging.next_line.Goals as goal

pub next_length-size-requires : goal.next_length-size-requires
next_length-size-requires c = (_, _, c.requires.2.counts)

pub overflow_add-after : goal.overflow_add-after
overflow_add-after c =
    let left = c.requires.2 in
    let size = c.next_length-size.ensures _ _ left.counts in
    omega (arith, size.0, next_within c.args.told.now c.args.place _ _ left)

pub returns-clause-line : goal.returns-clause-line
returns-clause-line c = λ line lines left.
    let told = c.args.told.now in
    let place = c.args.place in
    let next = next_is told place c.next_length-size.result.1 c.next_length-size.result.0 line lines left (c.next_length-size.ensures (length line) (map length lines) left.counts) in
    let rest : take (length told.text.items - place.byte) (drop place.byte told.text.items) ≡ drop place.byte told.text.items = take_rest told.text.items place.byte in
    (rw (c.deref.ensures.value) (ap (take c.next_length-size.result.0) rest ∙ next.0), next.1)
