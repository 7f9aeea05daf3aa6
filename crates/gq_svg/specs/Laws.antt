-- What holds of every picture.
use Rattle.std.specs.Prelude.{◌≡◌, ◌<◌, ◌≤◌, ℕ, ◌+◌, ◌^◌, List, false, length}
use Rattle.hex.specs.Hex.{IsBytes}
use Rattle.gq_laws.specs.declared.ops.Op.{Op}
use Rattle.gq_picture.specs.Columns.{columns}
use Rattle.gq_svg.specs.declared.layout.TheConstants.{MOST_COLUMN}
use Rattle.gq_svg.specs.Contents.{content_text}
use Rattle.gq_svg.specs.Escaping.{escaped, has_mark, unescaped}
use Rattle.gq_svg.specs.Layout.{x_of}

-- ---- text

-- no byte of escaped text ends an element or an attribute
abbrev pub EndsNothing : Type 0
EndsNothing = (text : List ℕ) → has_mark (escaped text) ≡ false

-- who reads it as XML reads the text
abbrev pub IsReadBack : Type 0
IsReadBack = (text : List ℕ) → unescaped (escaped text) ≡ text

-- contents that are told alike are alike
abbrev pub ContentsDiffer : Type 0
ContentsDiffer = (one other : List ℕ) → IsBytes one → IsBytes other → content_text one ≡ content_text other → one ≡ other

-- ---- places

-- columns stand side by side
abbrev pub SideBySide : Type 0
SideBySide = (column : ℕ) → column < MOST_COLUMN → x_of (column + 1) ≡ x_of column + 21

-- each column of so many operations as memory can have stands there
abbrev pub HaveColumns : Type 0
HaveColumns = (ops : List Op) → length ops ≤ 2 ^ 64 → columns ops ≤ MOST_COLUMN
