-- What the words of the reference's command line ask for, by the rules that clap states for its commands.
use Rattle.std.specs.Prelude.{◌≡◌, ◌⊎◌, ◌∷◌, List, [], Option, Some, None, true, pos, codes}
use Rattle.clap.specs.Simple.{App, Shape, new_app, new_rule, new_shape, on_top, with_subcommand}
use Rattle.clap.specs.Walk.{Rule, Text}
use Rattle.clap.specs.declared.builder.action.ArgAction.TheVariants.{Set}
use Rattle.clap.specs.declared.builder.value_parser.ValueParser.TheVariants.{Signed}
use Rattle.gq_words.specs.Words.{IsAlone, IsFirst, number_rule}
use Rattle.gq_script_words.specs.declared.words.Request.{Request}
use Rattle.gq_script_words.specs.declared.words.Request.TheVariants.{Run, Step, Order, History, Picture, Finish, Live}

-- the subcommand `run`, which may be given a number of threads below 2^32
abbrev pub jobs_rule : Rule
jobs_rule = record (new_rule (codes "JOBS")) { short = Some 106; long = Some (codes "jobs"); action = Some Set; parser = Some (Signed (pos 0) (pos 4294967295)) }

abbrev pub run_shape : Shape
run_shape = record (new_shape (codes "run")) { rules = jobs_rule ∷ [] }

-- the subcommands `order`, `history` and `picture`, which take a name and two numbers below 2^32, each of which has to be given
abbrev pub name_rule : Rule
name_rule = record (new_rule (codes "NAME")) { required = true; action = Some Set }

abbrev pub file_shape : Text → Shape
file_shape name = record (new_shape name) { rules = name_rule ∷ number_rule (codes "VOLUME") ∷ number_rule (codes "FILE") ∷ [] }

abbrev pub order_shape : Shape
order_shape = file_shape (codes "order")

abbrev pub history_shape : Shape
history_shape = file_shape (codes "history")

abbrev pub picture_shape : Shape
picture_shape = file_shape (codes "picture")

-- the subcommand `finish`, which takes a name and a number below 2^32, both of which have to be given
abbrev pub finish_shape : Shape
finish_shape = record (new_shape (codes "finish")) { rules = name_rule ∷ number_rule (codes "SESSION") ∷ [] }

-- the subcommand `live`, which takes no word
abbrev pub live_shape : Shape
live_shape = new_shape (codes "live")

-- the subcommand `step`, which takes no word
abbrev pub step_shape : Shape
step_shape = new_shape (codes "step")

-- the command line without its subcommands: `gridfs`, which has a version and wants one of them
abbrev pub bare_gridfs : App
bare_gridfs = on_top (λ top. record top { has_version = true; subcommand_required = true }) (new_app (codes "gridfs"))

-- the whole command line
abbrev pub gridfs : App
gridfs =
    let to_order = with_subcommand (with_subcommand bare_gridfs run_shape) order_shape in
    let to_live = with_subcommand (with_subcommand to_order finish_shape) live_shape in
    with_subcommand (with_subcommand (with_subcommand to_live step_shape) history_shape) picture_shape

-- they ask for a live run, which has no words of its own
abbrev pub AsksForLive : List Text → Type 0
AsksForLive words = IsAlone (codes "live") words

-- the name of the subcommand by which a request is asked for
abbrev pub command_name : Request → Text
command_name (Run jobs) = codes "run"
command_name Step = codes "step"
command_name (Order name volume file) = codes "order"
command_name (History name volume file) = codes "history"
command_name (Picture name volume file) = codes "picture"
command_name (Finish name session) = codes "finish"
command_name Live = codes "live"

-- the words ask for it: the first is its name
abbrev pub IsAskedBy : List Text → Request → Type 0
IsAskedBy words Live = AsksForLive words
IsAskedBy words asked = IsFirst (command_name asked) words

-- the name is that of a subcommand: `live`, or one of the others
abbrev pub IsOther : Text → Type 0
IsOther name =
    (name ≡ codes "run") ⊎ ((name ≡ codes "order") ⊎ ((name ≡ codes "finish") ⊎ ((name ≡ codes "step")
    ⊎ ((name ≡ codes "history") ⊎ (name ≡ codes "picture")))))

abbrev pub IsCommand : Text → Type 0
IsCommand name = (name ≡ codes "live") ⊎ IsOther name

-- some name is that of a subcommand
abbrev pub NamesCommand : Option Text → Type 0
NamesCommand None = ⊥
NamesCommand (Some name) = IsCommand name
