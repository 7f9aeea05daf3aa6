-- Only words that begin with the name of a subcommand have nothing wrong with them.
use Rattle.std.proofs.Common.{refl, codes, true, false, Bool, List, Some, ◌≡◌, [], ◌∷◌, sym, ap, ◌∙◌, inl, inr}
use Rattle.std.specs.Prelude.{drop}
use Rattle.std.specs.Str.{bytes_eq}
use Rattle.clap.specs.Faults.{built_fault, fault_of, turn_fault, walk_fault}
use Rattle.clap.specs.Simple.{Shape, built, names_of}
use Rattle.clap.specs.Walk.{Text, Walk, Names, nothing_held, walked}
use Rattle.clap.specs.declared.error.kind.ErrorKind.TheVariants.{DisplayHelp, InvalidSubcommand, MissingSubcommand}
use Rattle.clap.proofs.OnLiterals.{clap_on_literals}
use Rattle.gq_words.proofs.Levels.{TakesFlags, at_level, dashes_trail, nothing_trails, other_is_wrong, same_bytes, start, turns}
use Rattle.gq_node_words.specs.Words.{IsCommand, gridfs_node}

-- the command as it is built
abbrev pub top : Shape
top = (built gridfs_node).top

abbrev pub names : Names
names = names_of (built gridfs_node)

takes_flags : TakesFlags top
takes_flags = record {
  wrong = ((refl, λ none. cc), ((refl, λ none. cc), tt));
  stray = λ none. cc;
  apart = λ some word no_name no_dashes. rw (no_name, no_dashes) refl;
  trailing = λ some word none. cc;
}

-- the walk stops at a word that is the name of a subcommand
abbrev pub Meets : Text → Type 0
Meets name = walked top.rules names start name ≡ record start { stopped = Some (name, []) }

pub command_is_met : (name : Text) → IsCommand name → Meets name
unfolding walked
command_is_met name (inl is) = rw is refl
command_is_met name (inr is) = rw is refl

dashes_alone : (word : Text) → bytes_eq (codes "node") word ≡ false → bytes_eq (codes "plan") word ≡ false → bytes_eq (codes "help") word ≡ false → bytes_eq word (codes "--") ≡ true → built_fault (built gridfs_node) nothing_held (word ∷ []) ≡ MissingSubcommand ∷ []
unfolding clap_on_literals
dashes_alone word node plan help dashes = rw (node, plan, help, dashes) refl

-- what the words ask for, that come behind the program's name: they begin with the name of a subcommand
abbrev pub Asks : List Text → Type 0
Asks words = (name : Text) × IsCommand name × ((own : List Text) × (words ≡ name ∷ own))

-- words of which the first is that name
begins : (name word : Text) (words : List Text) → IsCommand name → bytes_eq name word ≡ true → Asks (word ∷ words)
begins name word words command is = (name, command, (words, ap (λ (w : Text). w ∷ words) (sym (same_bytes name word is))))

asks_by : (word : Text) (words : List Text) → built_fault (built gridfs_node) nothing_held (word ∷ words) ≡ [] → (is_node is_plan is_help is_dashes : Bool)
    → bytes_eq (codes "node") word ≡ is_node → bytes_eq (codes "plan") word ≡ is_plan → bytes_eq (codes "help") word ≡ is_help → bytes_eq word (codes "--") ≡ is_dashes → Asks (word ∷ words)
asks_by word words none true is_plan is_help is_dashes node plan help dashes = begins (codes "node") word words (inl refl) node
asks_by word words none false true is_help is_dashes node plan help dashes = begins (codes "plan") word words (inr refl) plan
asks_by word words none false false true is_dashes node plan help dashes =
    let told : turn_fault top names start word ≡ DisplayHelp ∷ InvalidSubcommand ∷ [] = rw (node, plan, help) refl in
    let nothing = sym told ∙ (turns top names start word words (at_level _ _ _ _ _ _ none).0).0 in
    absurd (cc)
asks_by word words none false false false false node plan help dashes =
    absurd (other_is_wrong top takes_flags names word (rw (node, plan, help) refl) dashes (turns top names start word words (at_level _ _ _ _ _ _ none).0).0)
asks_by word [] none false false false true node plan help dashes = let nothing = sym (dashes_alone word node plan help dashes) ∙ none in absurd (cc)
asks_by word (x ∷ words) none false false false true node plan help dashes =
    let trail = turns top names start word (x ∷ words) (at_level _ _ _ _ _ _ none).0 in
    let nothing : x ∷ words ≡ [] = nothing_trails top takes_flags names (x ∷ words) (ap (λ (w : Walk). walk_fault top names w (x ∷ words)) (sym (dashes_trail top names word (rw (node, plan, help) refl) dashes)) ∙ trail.1) in
    absurd (cc)

-- with no words there is no subcommand
nothing_is_wrong : built_fault (built gridfs_node) nothing_held [] ≡ MissingSubcommand ∷ []
unfolding clap_on_literals
nothing_is_wrong = refl

pub asks : (words : List Text) → fault_of gridfs_node words ≡ [] → Asks (drop 1 words)
asks words none = by (drop 1 words) none
  where
    by : (args : List Text) → built_fault (built gridfs_node) nothing_held args ≡ [] → Asks args
    by [] wrong = let nothing = sym nothing_is_wrong ∙ wrong in absurd (cc)
    by (word ∷ args) right = asks_by word args right (bytes_eq (codes "node") word) (bytes_eq (codes "plan") word) (bytes_eq (codes "help") word) (bytes_eq word (codes "--")) refl refl refl refl
