use Rattle.std.proofs.Common.{◌∙◌, ap, ap₂}
use Rattle.clap.specs.Simple.{with_rule}
use Rattle.gq_words.proofs.Subcommands.{neither, top_of}
use Rattle.gq_script_words.proofs.words.run.Goals as goal

pub returns : goal.returns
returns c = record {
  shape = ap top_of (c.in_ok-run.ensures.shape c.jobs.ensures.local ∙ ap₂ with_rule c.subcommand.ensures.app c.jobs.ensures.rule);
  local = neither _ _ _ c.in_ok-run.ensures.globals c.subcommand.ensures.local c.jobs.ensures.local;
}
