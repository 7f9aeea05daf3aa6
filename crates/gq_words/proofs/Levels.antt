-- A command that takes no word of its own but flags for help and the version: any other word is wrong there, but `--`.
use Rattle.std.proofs.Common.{refl, codes, true, false, Bool, ℕ, suc, List, Option, Some, None, ◌≡◌, ◌≢◌, [], ◌∷◌, sym, ap, ◌∙◌, ◌++◌}
use Rattle.std.proofs.lemmas.List.{append-nil, append_assoc}
use Rattle.std.proofs.lemmas.Slice.Eq.{bytes_eq-Decides}
use Rattle.std.specs.Prelude.{IfSome, cond, find, fold, length, slice_get, ⊤}
use Rattle.std.specs.Option.{option_map_or}
use Rattle.std.specs.Str.{bytes_eq, chars}
use Rattle.clap.specs.Faults.{bundle_fault, bundle_step_fault, flag_word_fault, flags_fault, level_fault, long_fault, react_fault, short_fault, step_fault, turn_fault, walk_fault}
use Rattle.clap.specs.Kinds.{Kinds, or_else}
use Rattle.clap.specs.Lexer.{long_of, short_of}
use Rattle.clap.specs.Simple.{Shape}
use Rattle.clap.specs.Walk.{Held, Outcome, Rule, Text, Walk, Names, arg_by_long, arg_by_short, bundle_met, after_flag, idle, long_or_other, nothing_held, plain, reacted, short_or_plain, subcommand_met, takes_values, value, walk_from, walked}
use Rattle.clap.specs.declared.error.kind.ErrorKind.TheVariants.{TooManyValues}

pub both : (a b : Kinds) → or_else a b ≡ [] → (a ≡ []) × (b ≡ [])
both [] b none = (refl, none)
both (k ∷ ks) b none = absurd (cc)

-- the flag takes no value, and its use is wrong
abbrev pub IsWrong : List Rule → Rule → Type 0
IsWrong flags flag = (takes_values flag ≡ false) × (react_fault flags false flag [] nothing_held ≢ [])

abbrev pub EachIsWrong : List Rule → List Rule → Type 0
EachIsWrong flags [] = ⊤
EachIsWrong flags (flag ∷ rest) = IsWrong flags flag × EachIsWrong flags rest

abbrev pub start : Walk
start = walk_from nothing_held

-- after `--`
abbrev pub trailing_walk : Walk
trailing_walk = record start { is_trailing = true }

-- what a word comes to that names no subcommand and is not `--`, by how it is taken apart
abbrev of_short : Shape → Text → Option Text → Kinds
of_short s word flags = or_else (option_map_or (λ f. bundle_fault s.rules false f nothing_held) flags [])
    (step_fault s 1 (short_or_plain s.rules idle word flags nothing_held).0 (short_or_plain s.rules idle word flags nothing_held).1)

abbrev pub of_long : Shape → Text → Option (Text × Option Text) → Kinds
of_long s word found = or_else (flag_word_fault s.rules false found word nothing_held)
    (step_fault s 1 (long_or_other s.rules idle word found nothing_held).0 (long_or_other s.rules idle word found nothing_held).1)

-- the level's flags are all wrong, and so is a word that no positional takes, also behind `--`
pub record TakesFlags (s : Shape) : Type 0 where
  pub wrong : EachIsWrong s.rules s.rules
  pub stray : step_fault s 1 nothing_held value ≢ []
  pub apart : (names : Names) (word : Text) → subcommand_met names idle word ≡ None → bytes_eq word (codes "--") ≡ false → turn_fault s names start word ≡ of_long s word (long_of word)
  pub trailing : (names : Names) (word : Text) → turn_fault s names trailing_walk word ≢ []

found_is_wrong : (flags : List Rule) (test : Rule → Bool) (rest : List Rule) → EachIsWrong flags rest → IfSome (find test rest) (IsWrong flags)
found_is_wrong flags test [] each = tt
found_is_wrong flags test (flag ∷ rest) each = by (test flag) (found_is_wrong flags test rest each.1)
  where
    by : (t : Bool) → IfSome (find test rest) (IsWrong flags) → IfSome (cond t (Some flag) (find test rest)) (IsWrong flags)
    by true later = each.0
    by false later = later

flag_is_wrong : (s : Shape) → TakesFlags s → (test : Rule → Bool) → IfSome (find test s.rules) (IsWrong s.rules)
flag_is_wrong s takes test = found_is_wrong s.rules test s.rules takes.wrong

-- what `--name` comes to
long_is_wrong : (flags : List Rule) (found : Option Rule) (v : Option Text) → IfSome found (IsWrong flags) → long_fault flags false found v nothing_held ≢ []
long_is_wrong flags None v wrong none = cc
long_is_wrong flags (Some flag) None wrong none =
    let told : long_fault flags false (Some flag) None nothing_held ≡ react_fault flags false flag [] nothing_held = rw (wrong.0) refl in
    wrong.1 (sym told ∙ none)
long_is_wrong flags (Some flag) (Some v) wrong none =
    let told : long_fault flags false (Some flag) (Some v) nothing_held ≡ TooManyValues ∷ [] = rw (wrong.0) refl in
    let nothing = sym told ∙ none in
    absurd (cc)

-- what `-x` comes to
short_is_wrong : (flags : List Rule) (found : Option Rule) (rest : Text) (next : Held → Kinds) → IfSome found (IsWrong flags) → short_fault flags false found rest nothing_held next ≢ []
short_is_wrong flags None rest next wrong none = cc
short_is_wrong flags (Some flag) rest next wrong none =
    let told : short_fault flags false (Some flag) rest nothing_held next ≡ or_else (react_fault flags false flag [] nothing_held) (next (reacted flags flag [] nothing_held)) = rw (wrong.0) refl in
    wrong.1 (both _ _ (sym told ∙ none)).0

-- flags with nothing wrong have no first character
no_character : (s : Shape) → TakesFlags s → (first : Option ℕ) (flags : Text) (next : Text → ℕ → Held → Kinds) → bundle_step_fault s.rules false first flags 0 nothing_held next ≡ [] → first ≡ None
no_character s takes None flags next none = refl
no_character s takes (Some x) flags next none = absurd (short_is_wrong s.rules (arg_by_short s.rules x) _ _ (flag_is_wrong s takes _) none)

no_flag : (s : Shape) (k : ℕ) (flags : Text) → slice_get (chars flags) 0 ≡ None → bundle_met s.rules (suc k) flags 0 plain nothing_held ≡ (nothing_held, plain)
unfolding bundle_met
no_flag s k flags is = rw is refl

of_short_is_wrong : (s : Shape) → TakesFlags s → (word : Text) (flags : Option Text) → of_short s word flags ≢ []
unfolding flags_fault bundle_met
of_short_is_wrong s takes word None none = takes.stray none
of_short_is_wrong s takes word (Some []) none = takes.stray none
of_short_is_wrong s takes word (Some (x ∷ xs)) none =
    let parts = both _ _ none in
    let first : slice_get (chars (x ∷ xs)) 0 ≡ None = no_character s takes _ (x ∷ xs) _ parts.0 in
    takes.stray (sym (ap (λ (met : Held × Outcome). step_fault s 1 (after_flag s.rules idle word met.0 met.1).0 (after_flag s.rules idle word met.0 met.1).1)
    (no_flag s (length xs) (x ∷ xs) first)) ∙ parts.1)

of_long_is_wrong : (s : Shape) → TakesFlags s → (word : Text) (found : Option (Text × Option Text)) → of_long s word found ≢ []
of_long_is_wrong s takes word None none = of_short_is_wrong s takes word (short_of word) none
of_long_is_wrong s takes word (Some p) none =
    long_is_wrong s.rules (arg_by_long s.rules p.0) p.1 (flag_is_wrong s takes _) (both _ _ none).0

-- ---- words in turn

-- a word that names no subcommand and is not `--` is wrong
pub other_is_wrong : (s : Shape) → TakesFlags s → (names : Names) (word : Text) → subcommand_met names idle word ≡ None → bytes_eq word (codes "--") ≡ false → turn_fault s names start word ≢ []
other_is_wrong s takes names word no_name no_dashes none = of_long_is_wrong s takes word (long_of word) (sym (takes.apart names word no_name no_dashes) ∙ none)

-- `--` makes the words behind it values
pub dashes_trail : (s : Shape) (names : Names) (word : Text) → subcommand_met names idle word ≡ None → bytes_eq word (codes "--") ≡ true → walked s.rules names start word ≡ trailing_walk
unfolding walked
dashes_trail s names word no_name dashes = rw (no_name, dashes) refl

pub turns : (s : Shape) (names : Names) (w : Walk) (word : Text) (words : List Text) → walk_fault s names w (word ∷ words) ≡ [] → (turn_fault s names w word ≡ []) × (walk_fault s names (walked s.rules names w word) words ≡ [])
unfolding walk_fault
turns s names w word words none = both (turn_fault s names w word) (walk_fault s names (walked s.rules names w word) words) none

-- of which there may be none
pub nothing_trails : (s : Shape) → TakesFlags s → (names : Names) (words : List Text) → walk_fault s names trailing_walk words ≡ [] → words ≡ []
nothing_trails s takes names [] none = refl
nothing_trails s takes names (word ∷ words) none = absurd (takes.trailing names word (turns s names trailing_walk word words none).0)

pub same_bytes : (a b : Text) → bytes_eq a b ≡ true → a ≡ b
same_bytes a b is = (bytes_eq-Decides a b).0 is

-- words behind the name of a subcommand are its own
pub rest_is_kept : (rules : List Rule) (names : Names) (words : List Text) (name : Text) (own : List Text) (w : Walk) → (fold (walked rules names) (record w { stopped = Some (name, own) }) words).stopped ≡ Some (name, own ++ words)
unfolding walked
rest_is_kept rules names [] name own w = ap (λ ws. Some (name, ws)) (sym (append-nil own))
rest_is_kept rules names (word ∷ words) name own w = rest_is_kept rules names words name (own ++ word ∷ []) w ∙ ap (λ ws. Some (name, ws)) (append_assoc own (word ∷ []) words)

-- what is wrong at a level, in its words and below it
pub at_level : (s : Shape) (subs : Names) (h : Held) (words : List Text) (is_entered : Bool) (under : Kinds) → level_fault s subs h words is_entered under ≡ [] → (walk_fault s subs (walk_from h) words ≡ []) × (under ≡ [])
at_level s subs h words is_entered under none = let parts = both _ _ none in (parts.0, (both _ _ parts.1).0)
