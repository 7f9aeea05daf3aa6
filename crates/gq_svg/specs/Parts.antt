-- Parts of the text of an element.
use Rattle.std.specs.Prelude.{ℕ, List, decimal}
use Rattle.gq_svg.specs.Escaping.{escaped}
use Rattle.gq_svg.specs.Layout.{x_of}
use Rattle.gq_svg.specs.declared.parts.Part.{Part}
use Rattle.gq_svg.specs.declared.parts.Part.TheVariants.{Text, Number, Column, Escaped}

-- the text that a part stands for
abbrev pub text_of : Part → List ℕ
text_of (Text text) = text.now
text_of (Number n) = decimal n
text_of (Column column) = decimal (x_of column)
text_of (Escaped text) = escaped text.now
