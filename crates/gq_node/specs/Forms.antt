-- What goes out in a short form stands for a letter that the law has as written.
use Rattle.std.specs.Prelude.{◌≡◌, ℕ, List, ⊤, Contains, Some}
use Rattle.gq_tag.specs.Tag.{OwnMessage}
use Rattle.gq_node.specs.declared.shorts.ShortBody.{ShortBody}
use Rattle.gq_node.specs.declared.shorts.ShortBody.TheVariants.{Want}
use Rattle.gq_node.specs.Local.{Local}
use Rattle.gq_node.specs.Shorts.{OwnShort, ShortDoing, letter_with, short_form, takes_short}
use Rattle.gq_node.specs.Sites.{Site}

-- the short letter is that one, where the copy that it stands for has some content
abbrev pub IsFormOf : OwnShort → OwnMessage → Type 0
IsFormOf s m = (bytes : List ℕ) × (letter_with bytes s ≡ m)

-- a letter of the part that is written in a short form is that one
abbrev pub AllFormsStand : Type 0
AllFormsStand = (site : Site) (local : Local) (m : OwnMessage) (s : OwnShort) → short_form site local m ≡ Some s → IsFormOf s m

-- it stands for one of these letters; that a server wants a store stands for none
abbrev pub StandsAmong : ShortBody → OwnShort → List OwnMessage → Type 0
StandsAmong Want s letters = ⊤
StandsAmong _ s letters = (m : OwnMessage) × Contains letters m × IsFormOf s m

-- what goes out, whole or in a short form, are letters that the part is said to write
pub record IsWritten (x : ShortDoing) : Type 0 where
  pub whole : (m : OwnMessage) → Contains x.whole m → Contains x.doing.letters m
  pub short : (s : OwnShort) → x.short ≡ Some s → StandsAmong s.body s x.doing.letters

-- so it is of all that a short letter gives
abbrev pub AllShortsAreWritten : Type 0
AllShortsAreWritten = (from : ℕ) (s : OwnShort) (bytes : List ℕ) (site : Site) (local : Local) → IsWritten (takes_short from s bytes site local)
