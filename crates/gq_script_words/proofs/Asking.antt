-- Only words that begin with the name of a subcommand have nothing wrong with them, and behind `live` none come.
use Rattle.std.proofs.Common.{refl, codes, true, false, Bool, List, Option, Some, ◌≡◌, [], ◌∷◌, sym, ap, ap₂, ◌∙◌, inl, inr, ◌⊎◌}
use Rattle.std.specs.Prelude.{drop, fold, slice_index_or}
use Rattle.std.specs.Str.{bytes_eq}
use Rattle.clap.specs.Faults.{built_fault, entered_fault, fault_of, level_fault, turn_fault, walk_fault}
use Rattle.clap.specs.Simple.{Shape, built, names_of}
use Rattle.clap.specs.Walk.{Text, Walk, Names, nothing_held, walk, walked}
use Rattle.clap.specs.declared.error.kind.ErrorKind.TheVariants.{DisplayHelp, InvalidSubcommand, MissingSubcommand}
use Rattle.clap.proofs.OnLiterals.{clap_on_literals}
use Rattle.gq_words.proofs.Levels.{TakesFlags, at_level, dashes_trail, nothing_trails, other_is_wrong, rest_is_kept, same_bytes, start, turns}
use Rattle.gq_script_words.specs.Words.{IsOther, gridfs}

-- the command as it is built, and its subcommand that takes no word
abbrev pub top : Shape
top = (built gridfs).top

abbrev live_built : Shape
live_built = slice_index_or (built gridfs).subs 3 top

top_takes_flags : TakesFlags top
top_takes_flags = record {
  wrong = ((refl, λ none. cc), ((refl, λ none. cc), tt));
  stray = λ none. cc;
  apart = λ some word no_name no_dashes. rw (no_name, no_dashes) refl;
  trailing = λ some word none. cc;
}

live_takes_flags : TakesFlags live_built
live_takes_flags = record {
  wrong = ((refl, λ none. cc), tt);
  stray = λ none. cc;
  apart = λ some word no_name no_dashes. rw (no_name, no_dashes) refl;
  trailing = λ some word none. cc;
}

-- the words behind `live`: none, or `--` alone
behind_live : (words : List Text) → walk_fault live_built [] start words ≡ [] → (words ≡ []) ⊎ (words ≡ codes "--" ∷ [])
behind_live [] none = inl refl
behind_live (word ∷ words) none = by (bytes_eq word (codes "--")) refl
  where
    by : (t : Bool) → bytes_eq word (codes "--") ≡ t → (word ∷ words ≡ []) ⊎ (word ∷ words ≡ codes "--" ∷ [])
    by false is = absurd (other_is_wrong live_built live_takes_flags [] word refl is (turns live_built [] start word words none).0)
    by true is =
        let rest : words ≡ [] = nothing_trails live_built live_takes_flags [] words (ap (λ (w : Walk). walk_fault live_built [] w words) (sym (dashes_trail live_built [] word refl is)) ∙ (turns live_built [] start word words none).1) in
        inr (ap (λ ws. word ∷ ws) rest ∙ ap (λ (w : Text). w ∷ []) (same_bytes word (codes "--") is))

-- ---- the whole command line

abbrev pub names : Names
names = names_of (built gridfs)

-- a first word that is `live`
live_is_met : (word : Text) → bytes_eq (codes "run") word ≡ false → bytes_eq (codes "order") word ≡ false → bytes_eq (codes "finish") word ≡ false → bytes_eq (codes "live") word ≡ true → walked top.rules names start word ≡ record start { stopped = Some (codes "live", []) }
unfolding walked
live_is_met word run order finish is = rw (run, order, finish, is) refl

-- the walk stops at a word that is the name of a subcommand
abbrev pub Meets : Text → Type 0
Meets name = walked top.rules names start name ≡ record start { stopped = Some (name, []) }

pub other_is_met : (name : Text) → IsOther name → Meets name
unfolding walked
other_is_met name (inl is) = rw is refl
other_is_met name (inr (inl is)) = rw is refl
other_is_met name (inr (inr (inl is))) = rw is refl
other_is_met name (inr (inr (inr (inl is)))) = rw is refl
other_is_met name (inr (inr (inr (inr (inl is))))) = rw is refl
other_is_met name (inr (inr (inr (inr (inr is))))) = rw is refl

-- what is wrong behind the place where the walk stopped
stopped_at : (stop : Option (Text × List Text)) (words : List Text) → stop ≡ Some (codes "live", words) → entered_fault (built gridfs) stop ≡ level_fault live_built [] nothing_held words false []
stopped_at stop words is = rw is refl

dashes_alone : (word : Text) → bytes_eq (codes "run") word ≡ false → bytes_eq (codes "order") word ≡ false → bytes_eq (codes "finish") word ≡ false → bytes_eq (codes "live") word ≡ false → bytes_eq (codes "step") word ≡ false → bytes_eq (codes "history") word ≡ false → bytes_eq (codes "picture") word ≡ false → bytes_eq (codes "help") word ≡ false → bytes_eq word (codes "--") ≡ true → built_fault (built gridfs) nothing_held (word ∷ []) ≡ MissingSubcommand ∷ []
unfolding clap_on_literals
dashes_alone word run order finish live step history picture help dashes = rw (run, order, finish, live, step, history, picture, help, dashes) refl

-- the words are that word, behind which `--` may stand
abbrev pub Alone : Text → List Text → Type 0
Alone word words = (words ≡ word ∷ []) ⊎ (words ≡ word ∷ codes "--" ∷ [])

-- behind the word come others
abbrev pub Behind : Text → List Text → Type 0
Behind word words = (own : List Text) × (words ≡ word ∷ own)

-- what the words ask for, that come behind the program's name
abbrev pub Asks : List Text → Type 0
Asks words = Alone (codes "live") words ⊎ ((name : Text) × IsOther name × Behind name words)

-- words of which the first is that name
begins : (name word : Text) (words : List Text) → IsOther name → bytes_eq name word ≡ true → Asks (word ∷ words)
begins name word words other is = inr (name, other, (words, ap (λ (w : Text). w ∷ words) (sym (same_bytes name word is))))

-- behind the word `live`
alone_by : (word : Text) (words : List Text) → built_fault (built gridfs) nothing_held (word ∷ words) ≡ [] → bytes_eq (codes "live") word ≡ true → walked top.rules names start word ≡ record start { stopped = Some (codes "live", []) } → Alone (codes "live") (word ∷ words)
alone_by word words none same met =
    let stop = (walk top.rules names nothing_held (word ∷ words)).stopped in
    let stops : stop ≡ Some (codes "live", words) = ap (λ (w : Walk). (fold (walked top.rules names) w words).stopped) met ∙ rest_is_kept top.rules names words (codes "live") [] start in
    let under : level_fault live_built [] nothing_held words false [] ≡ [] = sym (stopped_at stop words stops) ∙ (at_level _ _ _ _ _ _ none).1 in
    let named : word ≡ codes "live" = sym (same_bytes (codes "live") word same) in
    elim (behind_live words (at_level _ _ _ _ false [] under).0) [
      | inl no_more ↦ inl (ap₂ (λ w ws. w ∷ ws) named no_more)
      | inr dashed ↦ inr (ap₂ (λ w ws. w ∷ ws) named dashed)
    ]

asks_by : (word : Text) (words : List Text) → built_fault (built gridfs) nothing_held (word ∷ words) ≡ [] → (is_run is_order is_finish is_live is_step is_history is_picture is_help is_dashes : Bool)
    → bytes_eq (codes "run") word ≡ is_run → bytes_eq (codes "order") word ≡ is_order → bytes_eq (codes "finish") word ≡ is_finish
    → bytes_eq (codes "live") word ≡ is_live → bytes_eq (codes "step") word ≡ is_step → bytes_eq (codes "history") word ≡ is_history
    → bytes_eq (codes "picture") word ≡ is_picture → bytes_eq (codes "help") word ≡ is_help → bytes_eq word (codes "--") ≡ is_dashes → Asks (word ∷ words)
asks_by word words none true is_order is_finish is_live is_step is_history is_picture is_help is_dashes run order finish live step history picture help dashes =
    begins (codes "run") word words (inl refl) run
asks_by word words none false true is_finish is_live is_step is_history is_picture is_help is_dashes run order finish live step history picture help dashes =
    begins (codes "order") word words (inr (inl refl)) order
asks_by word words none false false true is_live is_step is_history is_picture is_help is_dashes run order finish live step history picture help dashes =
    begins (codes "finish") word words (inr (inr (inl refl))) finish
asks_by word words none false false false true is_step is_history is_picture is_help is_dashes run order finish live step history picture help dashes =
    inl (alone_by word words none live (live_is_met word run order finish live))
asks_by word words none false false false false true is_history is_picture is_help is_dashes run order finish live step history picture help dashes =
    begins (codes "step") word words (inr (inr (inr (inl refl)))) step
asks_by word words none false false false false false true is_picture is_help is_dashes run order finish live step history picture help dashes =
    begins (codes "history") word words (inr (inr (inr (inr (inl refl))))) history
asks_by word words none false false false false false false true is_help is_dashes run order finish live step history picture help dashes =
    begins (codes "picture") word words (inr (inr (inr (inr (inr refl))))) picture
asks_by word words none false false false false false false false true is_dashes run order finish live step history picture help dashes =
    let told : turn_fault top names start word ≡ DisplayHelp ∷ InvalidSubcommand ∷ [] = rw (run, order, finish, live, step, history, picture, help) refl in
    let nothing = sym told ∙ (turns top names start word words (at_level _ _ _ _ _ _ none).0).0 in
    absurd (cc)
asks_by word words none false false false false false false false false false run order finish live step history picture help dashes =
    absurd (other_is_wrong top top_takes_flags names word (rw (run, order, finish, live, step, history, picture, help) refl) dashes (turns top names start word words (at_level _ _ _ _ _ _ none).0).0)
asks_by word [] none false false false false false false false false true run order finish live step history picture help dashes = let nothing = sym (dashes_alone word run order finish live step history picture help dashes) ∙ none in absurd (cc)
asks_by word (x ∷ words) none false false false false false false false false true run order finish live step history picture help dashes =
    let trail = turns top names start word (x ∷ words) (at_level _ _ _ _ _ _ none).0 in
    let nothing : x ∷ words ≡ [] = nothing_trails top top_takes_flags names (x ∷ words) (ap (λ (w : Walk). walk_fault top names w (x ∷ words)) (sym (dashes_trail top names word (rw (run, order, finish, live, step, history, picture, help) refl) dashes)) ∙ trail.1) in
    absurd (cc)

-- with no words there is no subcommand
nothing_is_wrong : built_fault (built gridfs) nothing_held [] ≡ MissingSubcommand ∷ []
unfolding clap_on_literals
nothing_is_wrong = refl

pub asks : (words : List Text) → fault_of gridfs words ≡ [] → Asks (drop 1 words)
asks words none = by (drop 1 words) none
  where
    by : (args : List Text) → built_fault (built gridfs) nothing_held args ≡ [] → Asks args
    by [] wrong = let nothing = sym nothing_is_wrong ∙ wrong in absurd (cc)
    by (word ∷ args) right = asks_by word args right (bytes_eq (codes "run") word) (bytes_eq (codes "order") word) (bytes_eq (codes "finish") word) (bytes_eq (codes "live") word) (bytes_eq (codes "step") word) (bytes_eq (codes "history") word) (bytes_eq (codes "picture") word) (bytes_eq (codes "help") word) (bytes_eq word (codes "--")) refl refl refl refl refl refl refl refl refl
