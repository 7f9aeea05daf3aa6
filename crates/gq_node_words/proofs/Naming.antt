-- Which subcommand the words name.
use Rattle.std.proofs.Common.{refl, codes, true, subst, Option, Some, List, ◌≡◌, ◌∙◌, [], ◌∷◌, ap, inl, inr}
use Rattle.std.specs.Prelude.{drop, fold, option_map}
use Rattle.clap.specs.Faults.{is_simple_and_free}
use Rattle.clap.specs.Simple.{built, entered}
use Rattle.clap.specs.Walk.{Text, Walk, nothing_held, walk, walked}
use Rattle.clap.proofs.OnLiterals.{clap_on_literals}
use Rattle.gq_words.specs.Words.{IsFirst}
use Rattle.gq_words.proofs.Levels.{rest_is_kept, start}
use Rattle.gq_words.proofs.Named.{first_part, named, one_name}
use Rattle.gq_node_words.specs.declared.words.NodeCommand.{NodeCommand}
use Rattle.gq_node_words.specs.Words.{IsAskedBy, IsCommand, NamesCommand, command_name, gridfs_node}
use Rattle.gq_node_words.proofs.Asking.{Asks, command_is_met, names, top}

-- the rules that clap states are exact for this command line
pub rules_are_exact : is_simple_and_free gridfs_node ≡ true
rules_are_exact = refl

abbrev named_by : List Text → Option Text
named_by args = option_map first_part (entered (built gridfs_node) (walk top.rules names nothing_held args).stopped)

-- the subcommand of that name is the one that is entered
command_enters : (name : Text) → IsCommand name → (own : List Text) → option_map first_part (entered (built gridfs_node) (Some (name, own))) ≡ Some name
command_enters name (inl is) own = rw is refl
command_enters name (inr is) own = rw is refl

command_is_named : (words : List Text) (name : Text) → IsCommand name → IsFirst name words → named gridfs_node words ≡ Some name
command_is_named words name command (own, is) = ap named_by is ∙ (ap (λ stop. option_map first_part (entered (built gridfs_node) stop)) stops ∙ command_enters name command own)
  where
    stops : (walk top.rules names nothing_held (name ∷ own)).stopped ≡ Some (name, own)
    stops = ap (λ (w : Walk). (fold (walked top.rules names) w own).stopped) (command_is_met name command) ∙ rest_is_kept top.rules names own name [] start

-- words with nothing wrong name a subcommand
pub names_command : (words : List Text) (name : Option Text) → Asks (drop 1 words) → name ≡ named gridfs_node words → NamesCommand name
names_command words name (first, command, behind) is = rw (is ∙ command_is_named words first command behind) command

-- what is asked for, by what the words name
pub asked_by : (words : List Text) (asked : NodeCommand) → Asks (drop 1 words) → named gridfs_node words ≡ Some (command_name asked) → IsAskedBy words asked
asked_by words asked (first, command, behind) is =
    subst (λ (w : Text). IsFirst w words) (one_name gridfs_node words first (command_name asked) (command_is_named words first command behind) is) behind
