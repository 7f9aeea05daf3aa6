-- One volume more.
use Rattle.std.proofs.Common.{◌≡◌, ◌∙◌, ◌<◌, ℕ, sym, subst, arith, inl, inr}
use Rattle.std.specs.Prelude.{map, ◌++◌}
use Rattle.std.specs.List.{flat_map, range_with_len}
use Rattle.std.proofs.lemmas.Bool.{cases_eq}
use Rattle.gq_node.specs.Tables.{fact_of}
use Rattle.gq_node.specs.Needing.{volume_facts, files_in, files_facts, PlaceReadable}
use Rattle.gq_node.proofs.Needing.{put_more}
use Rattle.gq_node.proofs.tables.Core.put_volumes.Goals as goal

pub loop-volume-preserved : goal.loop-volume-preserved
loop-volume-preserved c =
    let w = c.args.self.now in
    let t = c.args.tenant in
    let v = c.loop-volume.volume in
    let put = subst (λ files. c.put_files.new.facts.items ≡ c.loop-volume.facts.items ++ map (fact_of t) (files_facts w t v files)) c.files-files.ensures.value c.in_ok-put_files.ensures.facts in (
      put_more t (volume_facts w t) 0 v v c.args.facts.now.items c.loop-volume.facts.items c.put_files.new.facts.items (omega arith) c.loop-volume.invariant.0 put,
      (λ u below. elim (cases_eq u v) [
        | inl same ↦ (
            let here : (p : ℕ) → p < files_in w t v → PlaceReadable w t v p = λ p small. c.in_ok-put_files.ensures.readable p (subst (λ n. p < n) (sym c.files-files.ensures.value) small) in
            subst (λ x. (p : ℕ) → p < files_in w t x → PlaceReadable w t x p) (sym same) here)
        | inr other ↦ (c.loop-volume.invariant.1 u (omega arith))
      ]),
    )

pub returns-clause-facts : goal.returns-clause-facts
returns-clause-facts c =
    let w = c.args.self.now in
    let t = c.args.tenant in
    let end : c.loop-volume.volume ≡ c.count_volumes-count.result = omega arith in
    subst (λ n. c.loop-volume.facts.items ≡ c.args.facts.now.items ++ map (fact_of t) (flat_map (volume_facts w t) (range_with_len 0 n))) (end ∙ c.count_volumes-count.ensures.count) c.loop-volume.invariant.0

pub returns-clause-readable : goal.returns-clause-readable
returns-clause-readable c =
    let end : c.loop-volume.volume ≡ c.count_volumes-count.result = omega arith in
    λ volume low. c.loop-volume.invariant.1 volume (subst (λ n. volume < n) (sym (end ∙ c.count_volumes-count.ensures.count)) low)
