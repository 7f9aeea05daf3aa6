-- Which subcommand the words name.
use Rattle.std.proofs.Common.{refl, codes, true, false, subst, Option, Some, None, List, ◌≡◌, ◌∙◌, [], ◌∷◌, ap, sym, inl, inr}
use Rattle.std.specs.Prelude.{drop, fold, option_map}
use Rattle.std.specs.Str.{bytes_eq}
use Rattle.clap.specs.Faults.{is_simple_and_free}
use Rattle.clap.specs.Simple.{built, entered}
use Rattle.clap.specs.Walk.{Text, Walk, nothing_held, walk, walked}
use Rattle.clap.proofs.OnLiterals.{clap_on_literals}
use Rattle.gq_words.specs.Words.{IsAlone, IsFirst}
use Rattle.gq_words.proofs.Levels.{rest_is_kept, start}
use Rattle.gq_words.proofs.Named.{first_part, named, one_name}
use Rattle.gq_script_words.specs.declared.words.Request.{Request}
use Rattle.gq_script_words.specs.declared.words.Request.TheVariants.{Run, Step, Order, History, Picture, Finish, Live}
use Rattle.gq_script_words.specs.Words.{AsksForLive, IsAskedBy, IsOther, NamesCommand, command_name, gridfs}
use Rattle.gq_script_words.proofs.Asking.{Alone, Asks, Behind, names, other_is_met, top}

abbrev named_by : List Text → Option Text
named_by args = option_map first_part (entered (built gridfs) (walk top.rules names nothing_held args).stopped)

-- the rules that clap states are exact for this command line
pub rules_are_exact : is_simple_and_free gridfs ≡ true
rules_are_exact = refl

pub live_is_named : (words : List Text) → AsksForLive words → named gridfs words ≡ Some (codes "live")
unfolding clap_on_literals
live_is_named words (inl is) = ap named_by is ∙ alone
  where
    alone : named_by (codes "live" ∷ []) ≡ Some (codes "live")
    alone = refl
live_is_named words (inr is) = ap named_by is ∙ dashed
  where
    dashed : named_by (codes "live" ∷ codes "--" ∷ []) ≡ Some (codes "live")
    dashed = refl

-- the subcommand of that name is the one that is entered
abbrev Enters : Text → Type 0
Enters name = (own : List Text) → option_map first_part (entered (built gridfs) (Some (name, own))) ≡ Some name

other_enters : (name : Text) → IsOther name → Enters name
other_enters name (inl is) own = rw is refl
other_enters name (inr (inl is)) own = rw is refl
other_enters name (inr (inr (inl is))) own = rw is refl
other_enters name (inr (inr (inr (inl is)))) own = rw is refl
other_enters name (inr (inr (inr (inr (inl is))))) own = rw is refl
other_enters name (inr (inr (inr (inr (inr is))))) own = rw is refl

other_is_named : (words : List Text) (name : Text) → IsOther name → IsFirst name words → named gridfs words ≡ Some name
other_is_named words name other (own, is) = ap named_by is ∙ (ap (λ stop. option_map first_part (entered (built gridfs) stop)) stops ∙ other_enters name other own)
  where
    stops : (walk top.rules names nothing_held (name ∷ own)).stopped ≡ Some (name, own)
    stops = ap (λ (w : Walk). (fold (walked top.rules names) w own).stopped) (other_is_met name other) ∙ rest_is_kept top.rules names own name [] start

-- another name than `live`
not_live : (name : Text) → IsOther name → name ≡ codes "live" → ⊥
not_live name other is = let same : bytes_eq name (codes "live") ≡ true = ap (λ (w : Text). bytes_eq w (codes "live")) is in let no : false ≡ true = sym (differs other) ∙ same in cc
  where
    differs : IsOther name → bytes_eq name (codes "live") ≡ false
    differs (inl x) = rw x refl
    differs (inr (inl x)) = rw x refl
    differs (inr (inr (inl x))) = rw x refl
    differs (inr (inr (inr (inl x)))) = rw x refl
    differs (inr (inr (inr (inr (inl x))))) = rw x refl
    differs (inr (inr (inr (inr (inr x))))) = rw x refl

-- a word alone is at the front
behind_alone : (word : Text) (words : List Text) → Alone word words → Behind word words
behind_alone word words (inl is) = ([], is)
behind_alone word words (inr is) = (codes "--" ∷ [], is)

-- the words begin with the name of the subcommand that they name
begins_so : (words : List Text) (name : Text) → Asks (drop 1 words) → named gridfs words ≡ Some name → IsFirst name words
begins_so words name (inl live) is = subst (λ (w : Text). IsFirst w words) (one_name gridfs words (codes "live") name (live_is_named words live) is) (behind_alone (codes "live") (drop 1 words) live)
begins_so words name (inr (first, other, behind)) is = subst (λ (w : Text). IsFirst w words) (one_name gridfs words first name (other_is_named words first other behind) is) behind

-- and where they name `live`, that is alone
is_alone : (words : List Text) → Asks (drop 1 words) → named gridfs words ≡ Some (codes "live") → IsAlone (codes "live") words
is_alone words (inl live) is = live
is_alone words (inr (first, other, behind)) is = absurd (not_live first other (one_name gridfs words first (codes "live") (other_is_named words first other behind) is))

-- words with nothing wrong name a subcommand
pub names_command : (words : List Text) (name : Option Text) → Asks (drop 1 words) → name ≡ named gridfs words → NamesCommand name
names_command words name (inl live) is = rw (is ∙ live_is_named words live) (inl refl)
names_command words name (inr (first, other, behind)) is = rw (is ∙ other_is_named words first other behind) (inr other)

-- what is asked for, by what the words name
pub asked_by : (words : List Text) (asked : Request) → Asks (drop 1 words) → named gridfs words ≡ Some (command_name asked) → IsAskedBy words asked
asked_by words (Run jobs) asks is = begins_so words _ asks is
asked_by words Step asks is = begins_so words _ asks is
asked_by words (Order tenant volume file) asks is = begins_so words _ asks is
asked_by words (History tenant volume file) asks is = begins_so words _ asks is
asked_by words (Picture tenant volume file) asks is = begins_so words _ asks is
asked_by words (Finish tenant session) asks is = begins_so words _ asks is
asked_by words Live asks is = is_alone words asks is
