-- One file more.
use Rattle.std.proofs.Common.{sym, subst, arith, inl, inr}
use Rattle.std.proofs.lemmas.Bool.{cases_eq}
use Rattle.gq_node.specs.Needing.{place_facts, PlaceReadable}
use Rattle.gq_node.proofs.Needing.{put_more}
use Rattle.gq_node.proofs.tables.Core.put_files.Goals as goal

pub loop-place-preserved : goal.loop-place-preserved
loop-place-preserved c =
    let w = c.args.self.now in (
      put_more c.args.tenant (place_facts w c.args.tenant c.args.volume) 0 c.loop-place.place c.loop-place.place c.args.facts.now.items c.loop-place.facts.items c.put_place.new.facts.items (omega arith) c.loop-place.invariant.0 c.in_ok-put_place.ensures.facts,
      (λ p below. elim (cases_eq p c.loop-place.place) [
        | inl same ↦ (subst (PlaceReadable w c.args.tenant c.args.volume) (sym same) c.in_ok-put_place.ensures.readable)
        | inr other ↦ (c.loop-place.invariant.1 p (omega arith))
      ]),
    )
