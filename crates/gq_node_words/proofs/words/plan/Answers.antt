use Rattle.std.proofs.Common.{◌∙◌, ap, ap₂}
use Rattle.clap.specs.Simple.{with_rule}
use Rattle.gq_words.proofs.Subcommands.{neither, top_of}
use Rattle.gq_node_words.proofs.words.plan.Goals as goal

pub returns : goal.returns
returns c =
    let one = neither _ _ _ c.in_ok-arg.ensures.globals c.subcommand.ensures.local c.path.ensures.local in
    let pathed = c.in_ok-arg.ensures.shape c.path.ensures.local ∙ ap₂ with_rule c.subcommand.ensures.app c.path.ensures.rule in
    let whole = c.in_ok-plan.ensures.shape c.next.ensures.local ∙ ap₂ with_rule pathed c.next.ensures.rule in
    record {
      shape = ap top_of whole;
      local = neither _ _ _ c.in_ok-plan.ensures.globals one c.next.ensures.local;
    }
