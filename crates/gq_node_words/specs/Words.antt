-- What the words of a node's command line ask for, by the rules that clap states for its commands.
use Rattle.std.specs.Prelude.{◌≡◌, ◌⊎◌, ◌∷◌, List, [], Option, Some, None, true, pos, codes}
use Rattle.clap.specs.Simple.{App, Shape, new_app, new_rule, new_shape, on_top, with_subcommand}
use Rattle.clap.specs.Walk.{Rule, Text}
use Rattle.clap.specs.declared.builder.action.ArgAction.TheVariants.{Set, SetTrue}
use Rattle.clap.specs.declared.builder.value_parser.ValueParser.TheVariants.{Signed}
use Rattle.gq_words.specs.Words.{IsFirst, number_rule}
use Rattle.gq_node_words.specs.declared.words.NodeCommand.{NodeCommand}
use Rattle.gq_node_words.specs.declared.words.NodeCommand.TheVariants.{Node, Plan}

-- the subcommand `node`, which takes a number below 2^32 and two files, each of which has to be given, and may be told to begin the journal, or to write it anew, and within how many days all contents are read
abbrev pub file_rule : Text → Text → Rule
file_rule id long = record (new_rule id) { long = Some long; required = true; action = Some Set; value_names = 1 }

abbrev pub begin_rule : Rule
begin_rule = record (new_rule (codes "NEW")) { long = Some (codes "new"); action = Some SetTrue }

abbrev pub anew_rule : Rule
anew_rule = record (new_rule (codes "ANEW")) { long = Some (codes "anew"); action = Some SetTrue }

abbrev pub scrub_rule : Rule
scrub_rule = record (new_rule (codes "SCRUB")) { long = Some (codes "scrub"); action = Some Set; parser = Some (Signed (pos 0) (pos 4294967295)); value_names = 1 }

abbrev pub node_shape : Shape
node_shape = record (new_shape (codes "node")) {
  rules = number_rule (codes "NUMBER") ∷ file_rule (codes "PLAN") (codes "plan") ∷ file_rule (codes "JOURNAL") (codes "journal") ∷ begin_rule ∷ anew_rule ∷ scrub_rule ∷ [];
}

-- the subcommand `plan`, which takes a file, which has to be given, and may be given another one
abbrev pub path_rule : Rule
path_rule = record (new_rule (codes "FILE")) { required = true; action = Some Set }

abbrev pub next_rule : Rule
next_rule = record (new_rule (codes "NEXT")) { long = Some (codes "next"); action = Some Set; value_names = 1 }

abbrev pub plan_shape : Shape
plan_shape = record (new_shape (codes "plan")) { rules = path_rule ∷ next_rule ∷ [] }

-- the command line without its subcommands: `gridfs-node`, which has a version and wants one of them
abbrev pub bare_gridfs_node : App
bare_gridfs_node = on_top (λ top. record top { has_version = true; subcommand_required = true }) (new_app (codes "gridfs-node"))

-- the whole command line
abbrev pub gridfs_node : App
gridfs_node = with_subcommand (with_subcommand bare_gridfs_node node_shape) plan_shape

-- the name of the subcommand by which it is asked for
abbrev pub command_name : NodeCommand → Text
command_name (Node node) = codes "node"
command_name (Plan plan) = codes "plan"

-- the words ask for it: the first is its name
abbrev pub IsAskedBy : List Text → NodeCommand → Type 0
IsAskedBy words asked = IsFirst (command_name asked) words

-- the name is that of a subcommand
abbrev pub IsCommand : Text → Type 0
IsCommand name = (name ≡ codes "node") ⊎ (name ≡ codes "plan")

-- some name is that of a subcommand
abbrev pub NamesCommand : Option Text → Type 0
NamesCommand None = ⊥
NamesCommand (Some name) = IsCommand name
