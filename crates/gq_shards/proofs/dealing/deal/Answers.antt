use Rattle.std.proofs.Common.{◌≡◌, ◌∙◌, ℕ, ◌+◌, List, [], ◌∷◌, ◌++◌, ap, sym, arith, append_assoc, append-nil, length, length-append, get_or, take, drop}
use Rattle.std.proofs.Math.Seq.{take-append_seam}
use Rattle.std.proofs.lemmas.List.{drop_all, take_rest}
use Rattle.gq_lines.specs.Words.{words_after}
use Rattle.gq_lines.specs.Lines.{lines_of}
use Rattle.gq_text.specs.Input.{event_of, event_of_words}
use Rattle.gq_shards.specs.declared.dealing.Section.{Section}
use Rattle.gq_shards.specs.declared.ways.Way.{Way}
use Rattle.gq_shards.specs.Shards.{mark_of, marks_of, gaps_of, lines_of_sections}
use Rattle.gq_shards.proofs.Going.{Goes, goes_first, goes_more, goes_all, line_behind}
use Rattle.gq_shards.proofs.dealing.deal.Goals as goal

pub overflow_add-after-in-loop-place : goal.overflow_add-after-in-loop-place
overflow_add-after-in-loop-place c =
    let bytes : List ℕ = c.args.lines.now in
    let cut = rw (take_rest bytes c.loop-place.place) at c.cut_line.ensures.lines in
    let behind = line_behind bytes c.cut_line.result.0.now c.cut_line.result.1.now c.loop-place.place _ (omega (arith, c.loop-place-test.true)) cut in
    omega (arith, behind.0)

pub overflow_add-after-in-loop-place-2 : goal.overflow_add-after-in-loop-place-2
overflow_add-after-in-loop-place-2 c =
    let bytes : List ℕ = c.args.lines.now in
    let cut = rw (take_rest bytes c.loop-place.place) at c.cut_line.ensures.lines in
    let behind = line_behind bytes c.cut_line.result.0.now c.cut_line.result.1.now c.loop-place.place _ (omega (arith, c.loop-place-test.true)) cut in
    omega (arith, behind.0)

pub loop-place-preserved : goal.loop-place-preserved
loop-place-preserved c =
    let n = c.args.shards in let plan = c.args.plan.now in
    let bytes : List ℕ = c.args.lines.now in
    let place = c.loop-place.place in
    let first : List ℕ = c.cut_line.result.0.now in
    let words : List ℕ = c.cut_line.result.1.now in
    let line : List ℕ = first ++ words in
    let rest : List (List ℕ) = lines_of c.cut_line.result.2.now in
    let after : ℕ = place + length first + length words + 1 in
    let cut : lines_of (drop place bytes) ≡ line ∷ rest = rw (take_rest bytes place) at c.cut_line.ensures.lines in
    let behind : lines_of (drop after bytes) ≡ rest = (line_behind bytes first words place rest (omega (arith, c.loop-place-test.true)) cut).1 in
    let mark : ℕ = c.mark-mark.result in
    let mark_is : mark ≡ mark_of n (event_of plan line) = c.mark-mark.ensures (words_after words) ∙ ap (λ ws. mark_of n (event_of_words plan ws)) (sym c.cut_line.ensures.words) in
    let marks_were : marks_of plan n (lines_of (drop place bytes)) ≡ mark ∷ marks_of plan n rest = ap (marks_of plan n) cut ∙ ap (λ m. m ∷ marks_of plan n rest) (sym mark_is) in
    let slice : List Way = c.as_mut_slice.result.now in
    let new : List Way = c.stop_at.new.ways in
    let size : c.loop-place.ways.len ≡ length new = cc c.stop_at.ensures.size in
    let whole : take c.loop-place.ways.len (new ++ drop (length new) c.loop-place.ways.items) ≡ new = rw size (take-append_seam new (drop (length new) c.loop-place.ways.items)) in
    record {
      marks = rw behind (ap (λ z. z ++ marks_of plan n rest) c.in_ok-grow.ensures.items ∙ (append_assoc c.loop-place.marks.items (mark ∷ []) (marks_of plan n rest) ∙ (ap (λ z. c.loop-place.marks.items ++ z) (sym marks_were) ∙ c.loop-place.invariant.marks)));
      size = c.loop-place.invariant.size;
      ways = λ k d below.
          let now : Goes k (get_or c.loop-place.ways.items k d) place (mark ∷ marks_of plan n rest) (line ∷ rest) (gaps_of k 0 (marks_of plan n (lines_of bytes)) (lines_of bytes)) = rw (marks_were, cut) at (c.loop-place.invariant.ways k d below) in
          rw (whole, behind) (goes_more k (get_or c.loop-place.ways.items k d) (get_or new k d) place after mark (marks_of plan n rest) line rest (gaps_of k 0 (marks_of plan n (lines_of bytes)) (lines_of bytes)) now (omega (arith, length-append first words))
          (rw c.as_mut_slice.ensures.value at (c.in_ok-stop_at.ensures.stops k d (omega (arith, below, c.as_mut_slice.ensures.len, c.loop-place.invariant.size)))));
    }

pub loop-place-init : goal.loop-place-init
loop-place-init c =
    let lines : List (List ℕ) = lines_of c.args.lines.now in
    let marks : List ℕ = marks_of c.args.plan.now c.args.shards lines in
    record {
      marks = ap (λ z. z ++ marks) c.in_ok-marks.ensures.items;
      size = c.in_ok-ways.ensures.size;
      ways = λ k d below. goes_first k (get_or c.in_ok-ways.ways.items k d) marks lines (c.in_ok-ways.ensures.ways k d below);
    }

pub returns : goal.returns
returns c =
    let n = c.args.shards in let plan = c.args.plan.now in
    let bytes : List ℕ = c.args.lines.now in
    let place = c.loop-place.place in
    let ways : List Way = c.loop-place.ways.items in
    let none : lines_of (drop place bytes) ≡ [] = ap lines_of (drop_all place bytes (omega (arith, c.loop-place-test.false))) in
    let section : Section = record { lines = c.args.lines; ways = c.loop-place.ways } in
    let sections : c.grow-2.new.self.items ≡ section ∷ [] = c.in_ok-grow-2.ensures.items ∙ ap (λ z. z ++ section ∷ []) c.new-sections.ensures.items in
    record {
      whole = ap lines_of_sections sections ∙ append-nil (lines_of bytes);
      marks = sym (append-nil c.loop-place.marks.items) ∙ (ap (λ ls. c.loop-place.marks.items ++ marks_of plan n ls) (sym none) ∙ c.loop-place.invariant.marks);
      ways = λ i d below.
          let first : i ≡ 0 = omega (arith, below, ap length sections) in
          rw (sections, first) (record {
            size = omega (arith, c.loop-place.invariant.size, c.loop-place.ways.ok);
            gaps = λ k e inside.
                goes_all k (get_or ways k e) place (marks_of plan n (lines_of (drop place bytes))) (lines_of (drop place bytes)) (gaps_of k 0 (marks_of plan n (lines_of bytes)) (lines_of bytes))
                (c.loop-place.invariant.ways k e inside) (ap (marks_of plan n) none);
          });
    }
