use Rattle.std.proofs.Common.{◌∙◌, ap, true}
use Rattle.clap.specs.Simple.{App, app_of_fields, on_top}
use Rattle.gq_script_words.proofs.words.bare.Goals as goal

abbrev with_version : App → App
with_version a = on_top (λ s. record s { has_version = true }) a

abbrev with_need : App → App
with_need a = on_top (λ s. record s { subcommand_required = true }) a

pub returns : goal.returns
returns c =
    let with_help = ap app_of_fields c.after_help.ensures ∙ (ap app_of_fields c.version.ensures ∙ ap with_version (ap app_of_fields c.about.ensures ∙ c.new.ensures.app)) in
    record { app = ap app_of_fields c.subcommand_required.ensures ∙ ap with_need with_help }
