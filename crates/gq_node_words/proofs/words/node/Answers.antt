use Rattle.std.proofs.Common.{◌∙◌, ap, ap₂}
use Rattle.clap.specs.Simple.{with_rule}
use Rattle.gq_words.proofs.Subcommands.{neither, top_of}
use Rattle.gq_node_words.proofs.words.node.Goals as goal

pub returns : goal.returns
returns c =
    let one = neither _ _ _ c.in_ok-arg.ensures.globals c.subcommand.ensures.local c.number.ensures.local in
    let two = neither _ _ _ c.in_ok-arg-2.ensures.globals one c.file_option.ensures.local in
    let three = neither _ _ _ c.in_ok-arg-3.ensures.globals two c.file_option-2.ensures.local in
    let four = neither _ _ _ c.in_ok-arg-4.ensures.globals three c.begin.ensures.local in
    let numbered = c.in_ok-arg.ensures.shape c.number.ensures.local ∙ ap₂ with_rule c.subcommand.ensures.app c.number.ensures.rule in
    let planned = c.in_ok-arg-2.ensures.shape c.file_option.ensures.local ∙ ap₂ with_rule numbered c.file_option.ensures.rule in
    let kept = c.in_ok-arg-3.ensures.shape c.file_option-2.ensures.local ∙ ap₂ with_rule planned c.file_option-2.ensures.rule in
    let begun = c.in_ok-arg-4.ensures.shape c.begin.ensures.local ∙ ap₂ with_rule kept c.begin.ensures.rule in
    let five = neither _ _ _ c.in_ok-arg-5.ensures.globals four c.anew.ensures.local in
    let renewed = c.in_ok-arg-5.ensures.shape c.anew.ensures.local ∙ ap₂ with_rule begun c.anew.ensures.rule in
    let whole = c.in_ok-node.ensures.shape c.scrub.ensures.local ∙ ap₂ with_rule renewed c.scrub.ensures.rule in
    record {
      shape = ap top_of whole;
      local = neither _ _ _ c.in_ok-node.ensures.globals five c.scrub.ensures.local;
    }
