use Rattle.std.proofs.Common.{◌∙◌, ap, ap₂}
use Rattle.clap.specs.Simple.{with_rule}
use Rattle.gq_words.proofs.Subcommands.{neither, top_of}
use Rattle.gq_script_words.proofs.words.of_file.Goals as goal

pub returns : goal.returns
returns c =
    let one = neither _ _ _ c.in_ok-arg.ensures.globals c.subcommand.ensures.local c.name.ensures.local in
    let two = neither _ _ _ c.in_ok-arg-2.ensures.globals one c.number.ensures.local in
    let named = c.in_ok-arg.ensures.shape c.name.ensures.local ∙ ap₂ with_rule c.subcommand.ensures.app c.name.ensures.rule in
    let volumed = c.in_ok-arg-2.ensures.shape c.number.ensures.local ∙ ap₂ with_rule named c.number.ensures.rule in
    let whole = c.in_ok-whole.ensures.shape c.number-2.ensures.local ∙ ap₂ with_rule volumed c.number-2.ensures.rule in
    record {
      shape = ap top_of whole;
      local = neither _ _ _ c.in_ok-whole.ensures.globals two c.number-2.ensures.local;
    }
