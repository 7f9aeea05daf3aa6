-- What is wrong with words that are written out but for the program's name.
use Rattle.std.proofs.Common.{refl, codes, ◌≡◌, [], ◌∷◌}
use Rattle.clap.specs.Faults.{fault_of}
use Rattle.clap.specs.Walk.{Text}
use Rattle.clap.specs.declared.error.kind.ErrorKind.TheVariants.{DisplayHelp, DisplayVersion}
use Rattle.clap.proofs.OnLiterals.{clap_on_literals}
use Rattle.gq_node_words.specs.Words.{gridfs_node}

pub help_is_shown : (program : Text) → fault_of gridfs_node (program ∷ codes "--help" ∷ []) ≡ DisplayHelp ∷ []
unfolding clap_on_literals
help_is_shown program = refl

pub version_is_shown : (program : Text) → fault_of gridfs_node (program ∷ codes "--version" ∷ []) ≡ DisplayVersion ∷ []
unfolding clap_on_literals
version_is_shown program = refl
