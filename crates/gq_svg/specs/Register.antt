-- What the register holds.
use Rattle.std.specs.Prelude.{ℕ, List, [], ◌∷◌, ◌++◌, codes, decimal}
use Rattle.gq_laws.specs.declared.ops.Op.{Op}
use Rattle.gq_picture.specs.Register.{written_by}
use Rattle.gq_picture.specs.declared.drawing.Value.{Value}
use Rattle.gq_lines.specs.Lines.{joined}
use Rattle.gq_svg.specs.Contents.{content_label, content_text}
use Rattle.gq_svg.specs.Layout.{label_room, x_of}

-- the box of a value in the register's strip, and where its label begins
abbrev pub value_box : Value → List ℕ
value_box value =
    joined (codes "</title><path d=\"M" ∷ decimal (x_of value.left) ∷ codes " 84H" ∷ decimal (x_of value.right) ∷ codes "V112H" ∷ decimal (x_of value.left)
    ∷ codes "z\"/><text dx=\"5\" x=\"" ∷ decimal (x_of value.left) ∷ codes "\" y=\"102\">" ∷ [])

-- the value, where it is these bytes
abbrev pub bytes_text : List ℕ → Value → List ℕ
bytes_text bytes value =
    codes "<g class=\"value\"><title>Register: " ++ content_text bytes ++ value_box value
    ++ content_label (label_room value.left value.right) bytes ++ codes "</text></g>\n"

-- a value of the register
abbrev pub value_text : List Op → Value → List ℕ
value_text ops value = bytes_text (written_by ops value.write) value
