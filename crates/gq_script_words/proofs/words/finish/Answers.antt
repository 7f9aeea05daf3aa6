use Rattle.std.proofs.Common.{◌∙◌, ap, ap₂}
use Rattle.clap.specs.Simple.{with_rule}
use Rattle.gq_words.proofs.Subcommands.{neither, top_of}
use Rattle.gq_script_words.proofs.words.finish.Goals as goal

pub returns : goal.returns
returns c =
    let one = neither _ _ _ c.in_ok-arg.ensures.globals c.subcommand.ensures.local c.name.ensures.local in
    let named = c.in_ok-arg.ensures.shape c.name.ensures.local ∙ ap₂ with_rule c.subcommand.ensures.app c.name.ensures.rule in
    let finish = c.in_ok-finish.ensures.shape c.number.ensures.local ∙ ap₂ with_rule named c.number.ensures.rule in
    record {
      shape = ap top_of finish;
      local = neither _ _ _ c.in_ok-finish.ensures.globals one c.number.ensures.local;
    }
