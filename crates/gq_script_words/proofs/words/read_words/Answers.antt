use Rattle.std.proofs.Common.{ap, sym, ◌∙◌, ◌≡◌, [], refl, true}
use Rattle.clap.specs.Faults.{fault_of}
use Rattle.clap.specs.Simple.{HasMatchesOf, is_simple}
use Rattle.clap.specs.Walk.{texts}
use Rattle.clap.specs.declared.error.kind.ErrorKind.TheVariants.{DisplayHelp, DisplayVersion}
use Rattle.gq_words.specs.Words.{ShownFor}
use Rattle.gq_words.proofs.Named.{found_is_named}
use Rattle.gq_words.proofs.Showing.{shows_none, shows_one}
use Rattle.gq_words.proofs.Values.{given_is}
use Rattle.gq_script_words.specs.Words.{gridfs}
use Rattle.gq_script_words.specs.Given.{HasValues}
use Rattle.gq_script_words.proofs.Asking.{asks}
use Rattle.gq_script_words.proofs.Naming.{asked_by, names_command, rules_are_exact}
use Rattle.gq_script_words.proofs.Faults.{asked_is_right, help_is_shown, live_is_right, version_is_shown}
use Rattle.gq_script_words.proofs.words.read_words.Goals as goal

simple : is_simple gridfs ≡ true
simple = refl

pub command_of-requires : goal.command_of-requires
command_of-requires c =
    let words = texts c.args.words.now in
    let right : fault_of gridfs words ≡ [] = c.in-Ok.ensures.right gridfs rules_are_exact c.command.ensures.app in
    let found : HasMatchesOf gridfs words c.in-Ok.matches = c.in-Ok.ensures.found gridfs rules_are_exact c.command.ensures.app in
    record { known = names_command words _ (asks words right) (found_is_named gridfs words _ simple found) }

-- clap found nothing wrong
right : (c : goal.Joined-matches) → fault_of gridfs (texts c.args.words.now) ≡ []
right c = c.in-Ok.ensures.right gridfs rules_are_exact c.command.ensures.app

-- clap found what the words name
found : (c : goal.Joined-matches) → HasMatchesOf gridfs (texts c.args.words.now) c.in-Ok.matches
found c = c.in-Ok.ensures.found gridfs rules_are_exact c.command.ensures.app

pub returns-in-Ok-clause-request : goal.returns-in-Ok-clause-request
returns-in-Ok-clause-request c =
    let words = texts c.args.words.now in
    asked_by words c.command_of.result (asks words (right c)) (sym (found_is_named gridfs words _ simple (found c)) ∙ c.command_of.ensures.name)

pub returns-in-Ok-clause-values : goal.returns-in-Ok-clause-values
returns-in-Ok-clause-values c =
    given_is gridfs (texts c.args.words.now) c.in-Ok.matches (λ rows. HasValues rows c.command_of.result) simple (found c) c.command_of.ensures.values

pub returns-in-Ok-clause-help : goal.returns-in-Ok-clause-help
returns-in-Ok-clause-help c program is =
    let wrong = sym (help_is_shown program) ∙ sym (ap (fault_of gridfs) is) ∙ right c in
    cc

pub returns-in-Ok-clause-version : goal.returns-in-Ok-clause-version
returns-in-Ok-clause-version c program is =
    let wrong = sym (version_is_shown program) ∙ sym (ap (fault_of gridfs) is) ∙ right c in
    cc

-- what is shown is about what is wrong with the words
shown : (c : goal.In-Err) → ShownFor gridfs (texts c.args.words.now) c.in-Err.usage
shown c = c.in-Err.ensures.shown gridfs rules_are_exact c.command.ensures.app

pub returns-in-Err-clause-run : goal.returns-in-Err-clause-run
returns-in-Err-clause-run c asked = shows_none gridfs (texts c.args.words.now) _ (shown c) (asked_is_right (texts c.args.words.now) asked)

pub returns-in-Err-clause-live : goal.returns-in-Err-clause-live
returns-in-Err-clause-live c asked = shows_none gridfs (texts c.args.words.now) _ (shown c) (live_is_right (texts c.args.words.now) asked)

pub returns-in-Err-clause-shown : goal.returns-in-Err-clause-shown
returns-in-Err-clause-shown c = shown c

pub returns-in-Err-clause-help : goal.returns-in-Err-clause-help
returns-in-Err-clause-help c program is = shows_one gridfs (texts c.args.words.now) DisplayHelp _ (shown c) (ap (fault_of gridfs) is ∙ help_is_shown program)

pub returns-in-Err-clause-version : goal.returns-in-Err-clause-version
returns-in-Err-clause-version c program is = shows_one gridfs (texts c.args.words.now) DisplayVersion _ (shown c) (ap (fault_of gridfs) is ∙ version_is_shown program)
