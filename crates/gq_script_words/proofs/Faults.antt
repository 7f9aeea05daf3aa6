-- What is wrong with words that are written out but for the program's name.
use Rattle.std.proofs.Common.{refl, ap, inl, inr, codes, List, ◌≡◌, ◌∙◌, [], ◌∷◌}
use Rattle.clap.specs.Faults.{built_fault, fault_of}
use Rattle.clap.specs.Simple.{built}
use Rattle.clap.specs.Walk.{Text, nothing_held}
use Rattle.clap.specs.declared.error.kind.ErrorKind.TheVariants.{DisplayHelp, DisplayVersion}
use Rattle.clap.proofs.OnLiterals.{clap_on_literals}
use Rattle.gq_words.specs.Words.{IsAlone}
use Rattle.gq_script_words.specs.Words.{AsksForLive, gridfs}

pub asked_is_right : (words : List Text) → IsAlone (codes "run") words → fault_of gridfs words ≡ []
unfolding clap_on_literals
asked_is_right words (inl run) = ap (built_fault (built gridfs) nothing_held) run ∙ alone
  where
    alone : built_fault (built gridfs) nothing_held (codes "run" ∷ []) ≡ []
    alone = refl
asked_is_right words (inr run) = ap (built_fault (built gridfs) nothing_held) run ∙ dashed
  where
    dashed : built_fault (built gridfs) nothing_held (codes "run" ∷ codes "--" ∷ []) ≡ []
    dashed = refl

pub live_is_right : (words : List Text) → AsksForLive words → fault_of gridfs words ≡ []
unfolding clap_on_literals
live_is_right words (inl live) = ap (built_fault (built gridfs) nothing_held) live ∙ alone
  where
    alone : built_fault (built gridfs) nothing_held (codes "live" ∷ []) ≡ []
    alone = refl
live_is_right words (inr live) = ap (built_fault (built gridfs) nothing_held) live ∙ dashed
  where
    dashed : built_fault (built gridfs) nothing_held (codes "live" ∷ codes "--" ∷ []) ≡ []
    dashed = refl

pub help_is_shown : (program : Text) → fault_of gridfs (program ∷ codes "--help" ∷ []) ≡ DisplayHelp ∷ []
unfolding clap_on_literals
help_is_shown program = refl

pub version_is_shown : (program : Text) → fault_of gridfs (program ∷ codes "--version" ∷ []) ≡ DisplayVersion ∷ []
unfolding clap_on_literals
version_is_shown program = refl
