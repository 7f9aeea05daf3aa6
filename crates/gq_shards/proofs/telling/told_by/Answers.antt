use Rattle.std.proofs.Common.{◌≡◌, ◌∙◌, ℕ, ◌+◌, ◌<◌, List, [], ◌∷◌, ◌++◌, ap, sym, subst, arith, true, length, length-drop, get_or, drop}
use Rattle.std.proofs.lemmas.List.{drop_all, drop_more, take_rest}
use Rattle.std.proofs.lemmas.List.Elements.{All-get_or}
use Rattle.gq_desk.specs.CheckedPlan.{CheckedPlan}
use Rattle.gq_lines.specs.Words.{words_after}
use Rattle.gq_lines.specs.Lines.{lines_of}
use Rattle.gq_text.specs.Input.{event_cut, event_of, event_of_words}
use Rattle.gq_text.specs.QuorumText.{Held}
use Rattle.gq_shards.specs.declared.dealing.Section.{Section}
use Rattle.gq_shards.specs.declared.ways.Way.{Way}
use Rattle.gq_shards.specs.Shards.{marks_of, gaps_of, lines_of_sections, AreDealt, AreListed, HasWays}
use Rattle.gq_shards.proofs.Going.{Next, next_found, found_none}
use Rattle.gq_shards.proofs.Listing.{next_listed, none_listed}
use Rattle.gq_shards.proofs.PartPlans.{event_words_part}
use Rattle.gq_shards.proofs.Seeing.{sees_event, Tells, tells_first, tells_seen, tells_all}
use Rattle.gq_shards.proofs.telling.told_by.Goals as goal

pub loop-section-init : goal.loop-section-init
loop-section-init c =
    let start = c.in_ok-world.ensures in
    record {
      grid = ap (λ (held : Held). held.grid) c.new-quorum.ensures ∙ (c.grid.ensures ∙ sym start.part.grid);
      told = λ lines dealt.
          subst (λ left. Tells c.args.shards c.args.shard c.args.plan.now c.in_ok-world.world.tables c.in_ok-world.told.text.items c.in_ok-world.told.lengths left lines) (sym dealt.whole)
          (tells_first c.args.shards c.args.shard c.args.plan.now c.in_ok-world.world.tables c.in_ok-world.told.text.items c.in_ok-world.told.lengths lines start.part start.stands start.text start.lengths);
    }

pub next_length-gap-requires : goal.next_length-gap-requires
next_length-gap-requires c =
    next_listed c.index.result.now.gaps c.loop-place.place _ c.loop-place.invariant.left (omega (arith, c.loop-place-test.true))

pub loop-place-init : goal.loop-place-init
loop-place-init c =
    let sections : List Section = c.args.dealt.now.sections.items in
    let i = c.loop-section.section-index in
    let section : Section = c.section-item.result in
    let below : i < length sections = omega (arith, c.loop-section-test.true) in
    let is : section ≡ get_or sections i section = cc c.section-item.is in
    let ways : HasWays c.args.plan.now c.args.shards section = subst (HasWays c.args.plan.now c.args.shards) (sym is) (All-get_or (HasWays c.args.plan.now c.args.shards) sections i section below c.requires.dealt.1.ways) in
    let way : Way = c.index.result.now in
    let own : way ≡ get_or section.ways.items c.args.shard way = cc c.index.ensures in
    let gaps : List ℕ = gaps_of c.args.shard 0 (marks_of c.args.plan.now c.args.shards (lines_of section.lines.now)) (lines_of section.lines.now) in
    record {
      grid = c.loop-section.invariant.grid;
      left = subst (λ (w : Way). AreListed w.gaps gaps) (sym own) (ways.gaps c.args.shard way c.requires.shard);
      told = λ lines dealt. rw (drop_more sections i section below, ← is) at (c.loop-section.invariant.told lines dealt);
    }

pub slice_bounds-cut_line-count : goal.slice_bounds-cut_line-count
slice_bounds-cut_line-count c =
    let next = next_found {list = c.index.result.now.gaps} {bytes = c.loop-place.rest.now} c.loop-place.invariant.left (omega (arith, c.loop-place-test.true)) c.next_length-gap.ensures (c.loop-place.invariant.told c.requires.dealt.0 c.requires.dealt.1) in
    omega (arith, next.within)

pub slice_bounds-cut_line-start : goal.slice_bounds-cut_line-start
slice_bounds-cut_line-start c =
    let next = next_found {list = c.index.result.now.gaps} {bytes = c.loop-place.rest.now} c.loop-place.invariant.left (omega (arith, c.loop-place-test.true)) c.next_length-gap.ensures (c.loop-place.invariant.told c.requires.dealt.0 c.requires.dealt.1) in
    omega (arith, next.within)

pub cut_line-requires : goal.cut_line-requires
cut_line-requires c =
    let next = next_found {list = c.index.result.now.gaps} {bytes = c.loop-place.rest.now} c.loop-place.invariant.left (omega (arith, c.loop-place-test.true)) c.next_length-gap.ensures (c.loop-place.invariant.told c.requires.dealt.0 c.requires.dealt.1) in
    let bytes : List ℕ = c.loop-place.rest.now in
    rw (take_rest bytes c.next_length-gap.result.0) (omega (arith, next.within, length-drop c.next_length-gap.result.0 bytes))

pub loop-place-smaller : goal.loop-place-smaller
loop-place-smaller c =
    let next = next_found {list = c.index.result.now.gaps} {bytes = c.loop-place.rest.now} c.loop-place.invariant.left (omega (arith, c.loop-place-test.true)) c.next_length-gap.ensures (c.loop-place.invariant.told c.requires.dealt.0 c.requires.dealt.1) in
    omega (arith, next.smaller)

pub loop-section-preserved : goal.loop-section-preserved
loop-section-preserved c =
    let rest = lines_of c.loop-place.rest.now in
    let none : gaps_of c.args.shard 0 (marks_of c.args.plan.now c.args.shards rest) rest ≡ [] = none_listed c.index.result.now.gaps c.loop-place.place _ c.loop-place.invariant.left (omega (arith, c.loop-place-test.false)) in
    record {
      grid = c.loop-place.invariant.grid;
      told = λ lines dealt.
          found_none c.args.shards c.args.shard c.args.plan.now c.loop-place.world.tables c.loop-place.told.text.items c.loop-place.told.lengths 0 rest (lines_of_sections (drop (c.loop-section.section-index + 1) c.args.dealt.now.sections.items)) lines
          none (c.loop-place.invariant.told lines dealt);
    }

pub returns : goal.returns
returns c = λ lines dealt.
    let sections : List Section = c.args.dealt.now.sections.items in
    let none : drop c.loop-section.section-index sections ≡ [] = drop_all c.loop-section.section-index sections (omega (arith, c.loop-section-test.false)) in
    let end : Tells c.args.shards c.args.shard c.args.plan.now c.loop-section.world.tables c.loop-section.told.text.items c.loop-section.told.lengths [] lines = rw none at (c.loop-section.invariant.told lines dealt) in
    rw dealt.marks (tells_all c.args.shards c.args.shard c.args.plan.now c.loop-section.world.tables c.loop-section.told.text.items c.loop-section.told.lengths lines end)

pub loop-place-preserved : goal.loop-place-preserved
loop-place-preserved c =
    let n = c.args.shards in let k = c.args.shard in let plan = c.args.plan.now in
    let old = c.loop-place.world.tables in
    let bytes : List ℕ = c.loop-place.rest.now in
    let gap = c.next_length-gap.result.0 in
    let more = lines_of_sections (drop (c.loop-section.section-index + 1) c.args.dealt.now.sections.items) in
    let first : List ℕ = c.cut_line.result.0.now in
    let words : List ℕ = c.cut_line.result.1.now in
    let rest : List (List ℕ) = lines_of c.cut_line.result.2.now in
    let e = event_cut old.plan first words in
    let cut : lines_of (drop gap bytes) ≡ (first ++ words) ∷ rest = rw (take_rest bytes gap) at c.cut_line.ensures.lines in
    let next_of : (lines : List (List ℕ)) → AreDealt plan n lines c.args.dealt.now → Next n k plan old c.loop-place.told.text.items c.loop-place.told.lengths c.index.result.now.gaps c.loop-place.place c.next_length-gap.result.1 gap bytes more lines =
    λ lines dealt. next_found {list = c.index.result.now.gaps} {bytes = c.loop-place.rest.now} c.loop-place.invariant.left (omega (arith, c.loop-place-test.true)) c.next_length-gap.ensures (c.loop-place.invariant.told lines dealt) in
    let one = next_of c.requires.dealt.0 c.requires.dealt.1 in
    let both : one.line ∷ one.lines ≡ (first ++ words) ∷ rest = sym one.is ∙ cut in
    let others : one.lines ≡ rest = cc both in
    record {
      grid = c.next.ensures.grid ∙ c.loop-place.invariant.grid ∙ sym (ap (λ (p : CheckedPlan). p.grid) c.next.ensures.plan);
      left = rw others at one.left;
      told = λ lines dealt.
          let next = next_of lines dealt in
          let same : next.line ∷ next.lines ≡ (first ++ words) ∷ rest = sym next.is ∙ cut in
          let line_is : next.line ≡ first ++ words = cc same in
          let lines_are : next.lines ≡ rest = cc same in
          let now : Tells n k plan old c.loop-place.told.text.items c.loop-place.told.lengths ((first ++ words) ∷ (rest ++ more)) lines = rw (line_is, lines_are) at next.tells in
          let reads : e ≡ event_of plan (first ++ words) =
          event_words_part n k plan old.plan (first ∷ words_after words) now.part ∙ ap (event_of_words plan) (sym c.cut_line.ensures.words) in
          let seen : sees_event n k e ≡ true = ap (sees_event n k) (reads ∙ ap (event_of plan) (sym line_is)) ∙ next.seen in
          tells_seen n k plan old c.next.new.world.tables c.loop-place.told.text.items c.next.new.text.items c.loop-place.told.lengths c.next.new.lengths (first ++ words) (rest ++ more) lines e now
          c.next.ensures.plan reads seen
          c.in_ok-next.ensures.stands
          (c.in_ok-next.ensures.silent n)
          (λ told before stands. c.in_ok-next.ensures.text n before told stands)
          (λ told before held stands are. c.in_ok-next.ensures.lengths n before held told stands are);
    }
