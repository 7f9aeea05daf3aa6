use Rattle.std.proofs.Common.{◌∙◌, Bool, ap}
use Rattle.clap.specs.Simple.{app_of_fields}
use Rattle.clap.specs.declared.builder.command.Command.{Command}
use Rattle.clap.specs.declared.builder.command.Command.TheOpen.{Command-F}
use Rattle.gq_words.proofs.arguments.subcommand.Goals as goal

abbrev globals : Command-F Command → Bool
globals f = f.has_globals

pub returns : goal.returns
returns c = record {
  app = ap app_of_fields c.after_help.ensures ∙ (ap app_of_fields c.about.ensures ∙ c.new.ensures.app);
  local = ap globals c.after_help.ensures ∙ (ap globals c.about.ensures ∙ c.new.ensures.local);
}
