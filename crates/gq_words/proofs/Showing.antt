-- What is shown, where what is wrong with the words is known.
use Rattle.std.proofs.Common.{◌≡◌, List, [], ◌∷◌, subst, inl, inr}
use Rattle.clap.specs.Faults.{fault_of}
use Rattle.clap.specs.Kinds.{IsAmong}
use Rattle.clap.specs.Simple.{App}
use Rattle.clap.specs.Values.{kind_of}
use Rattle.clap.specs.Walk.{Text}
use Rattle.clap.specs.declared.error.kind.ErrorKind.{ErrorKind}
use Rattle.gq_words.specs.declared.reading.Usage.{Usage}
use Rattle.gq_words.specs.declared.reading.Usage.TheVariants.{Shown, Memory}
use Rattle.gq_words.specs.Words.{IsMemory, ShownFor, Shows}

-- one kind of text
pub shows_one : (app : App) (words : List Text) (kind : ErrorKind) (usage : Usage) → ShownFor app words usage → fault_of app words ≡ kind ∷ [] → Shows kind usage
shows_one app words kind (Shown error) shown is = elim (subst (IsAmong (kind_of error)) is shown) [
  | inl same ↦ same
  | inr none ↦ absurd none
]
shows_one app words kind Memory shown is = tt

-- none where nothing is wrong
pub shows_none : (app : App) (words : List Text) (usage : Usage) → ShownFor app words usage → fault_of app words ≡ [] → IsMemory usage
shows_none app words (Shown error) shown is = absurd (subst (IsAmong (kind_of error)) is shown)
shows_none app words Memory shown is = tt
