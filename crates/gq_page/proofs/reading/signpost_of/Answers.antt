use Rattle.std.proofs.Common.{◌≡◌, ◌∙◌, ap, sym, true, take}
use Rattle.std.specs.Str.{bytes_eq}
use Rattle.gq_page.specs.Text.{sign}
use Rattle.gq_page.proofs.ReadingLemmas.{signpost_by}
use Rattle.gq_page.proofs.reading.signpost_of.Goals as goal

pub returns-then-eq : goal.returns-then-eq
returns-then-eq c =
    let same : bytes_eq (take 27 c.args.line.now) sign ≡ true = sym (c.if-eq.ensures ∙ ap (λ text. bytes_eq (take 27 c.args.line.now) text) c.as_slice.ensures) in
    signpost_by c.args.line.now _ c.if-line-lt27.false same c.long_number.ensures
