use Rattle.std.proofs.Common.{ap, sym, ◌∙◌, ◌≡◌, [], refl, true}
use Rattle.clap.specs.Faults.{fault_of}
use Rattle.clap.specs.Simple.{HasMatchesOf, is_simple}
use Rattle.clap.specs.Walk.{texts}
use Rattle.clap.specs.declared.error.kind.ErrorKind.TheVariants.{DisplayHelp, DisplayVersion}
use Rattle.gq_words.specs.Words.{ShownFor}
use Rattle.gq_words.proofs.Named.{found_is_named}
use Rattle.gq_words.proofs.Showing.{shows_one}
use Rattle.gq_words.proofs.Values.{given_is}
use Rattle.gq_node_words.specs.Words.{gridfs_node}
use Rattle.gq_node_words.specs.Given.{HasValues}
use Rattle.gq_node_words.proofs.Asking.{asks}
use Rattle.gq_node_words.proofs.Naming.{asked_by, names_command, rules_are_exact}
use Rattle.gq_node_words.proofs.Faults.{help_is_shown, version_is_shown}
use Rattle.gq_node_words.proofs.words.read_words.Goals as goal

simple : is_simple gridfs_node ≡ true
simple = refl

pub command_of-requires : goal.command_of-requires
command_of-requires c =
    let words = texts c.args.words.now in
    let right : fault_of gridfs_node words ≡ [] = c.in-Ok.ensures.right gridfs_node rules_are_exact c.command.ensures.app in
    let found : HasMatchesOf gridfs_node words c.in-Ok.matches = c.in-Ok.ensures.found gridfs_node rules_are_exact c.command.ensures.app in
    record { known = names_command words _ (asks words right) (found_is_named gridfs_node words _ simple found) }

-- clap found nothing wrong
right : (c : goal.Joined-matches) → fault_of gridfs_node (texts c.args.words.now) ≡ []
right c = c.in-Ok.ensures.right gridfs_node rules_are_exact c.command.ensures.app

-- clap found what the words name
found : (c : goal.Joined-matches) → HasMatchesOf gridfs_node (texts c.args.words.now) c.in-Ok.matches
found c = c.in-Ok.ensures.found gridfs_node rules_are_exact c.command.ensures.app

pub returns-in-Ok-clause-request : goal.returns-in-Ok-clause-request
returns-in-Ok-clause-request c =
    let words = texts c.args.words.now in
    asked_by words c.command_of.result (asks words (right c)) (sym (found_is_named gridfs_node words _ simple (found c)) ∙ c.command_of.ensures.name)

pub returns-in-Ok-clause-values : goal.returns-in-Ok-clause-values
returns-in-Ok-clause-values c =
    given_is gridfs_node (texts c.args.words.now) c.in-Ok.matches (λ rows. HasValues rows c.command_of.result) simple (found c) c.command_of.ensures.values

pub returns-in-Ok-clause-help : goal.returns-in-Ok-clause-help
returns-in-Ok-clause-help c program is =
    let wrong = sym (help_is_shown program) ∙ sym (ap (fault_of gridfs_node) is) ∙ right c in
    cc

pub returns-in-Ok-clause-version : goal.returns-in-Ok-clause-version
returns-in-Ok-clause-version c program is =
    let wrong = sym (version_is_shown program) ∙ sym (ap (fault_of gridfs_node) is) ∙ right c in
    cc

-- what is shown is about what is wrong with the words
shown : (c : goal.In-Err) → ShownFor gridfs_node (texts c.args.words.now) c.in-Err.usage
shown c = c.in-Err.ensures.shown gridfs_node rules_are_exact c.command.ensures.app

pub returns-in-Err-clause-shown : goal.returns-in-Err-clause-shown
returns-in-Err-clause-shown c = shown c

pub returns-in-Err-clause-help : goal.returns-in-Err-clause-help
returns-in-Err-clause-help c program is = shows_one gridfs_node (texts c.args.words.now) DisplayHelp _ (shown c) (ap (fault_of gridfs_node) is ∙ help_is_shown program)

pub returns-in-Err-clause-version : goal.returns-in-Err-clause-version
returns-in-Err-clause-version c program is = shows_one gridfs_node (texts c.args.words.now) DisplayVersion _ (shown c) (ap (fault_of gridfs_node) is ∙ version_is_shown program)
