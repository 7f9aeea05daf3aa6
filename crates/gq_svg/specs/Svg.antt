-- The text of a picture, from its drawing alone.
use Rattle.std.specs.Prelude.{ℕ, ◌+◌, List, [], ◌∷◌, ◌++◌, codes, decimal, length}
use Rattle.std.specs.List.{flat_map}
use Rattle.gq_picture.specs.declared.drawing.Drawing.{Drawing}
use Rattle.gq_lines.specs.Lines.{joined}
use Rattle.gq_svg.specs.declared.picture.Heading.{Heading}
use Rattle.gq_svg.specs.declared.picture.TheConstants.{LEGEND, STYLE}
use Rattle.gq_svg.specs.Bars.{drop_in, operations_text}
use Rattle.gq_svg.specs.Escaping.{escaped}
use Rattle.gq_svg.specs.Lanes.{down_servers, server_lanes, session_lanes}
use Rattle.gq_svg.specs.Layout.{server_top, wide, x_of}
use Rattle.gq_svg.specs.Register.{value_text}

-- what the picture shows
abbrev pub subject : List ℕ → Heading → List ℕ
subject name heading = joined (codes "Operations on file " ∷ decimal heading.file ∷ codes " of volume " ∷ decimal heading.volume ∷ codes " of " ∷ escaped name ∷ [])

-- how wide it is, in pixels
abbrev pub width : Drawing → ℕ
width d = x_of (wide d.columns) + 16

-- how high it is
abbrev pub height : Heading → Drawing → ℕ
height heading d = server_top heading.sessions (length (down_servers d.outages.items heading.servers)) + 12

-- the element that holds all others, up to its title
abbrev pub beginning : ℕ → ℕ → List ℕ
beginning width height =
    joined (codes "<svg xmlns=\"http://www.w3.org/2000/svg\" width=\"" ∷ decimal width ∷ codes "\" height=\"" ∷ decimal height
    ∷ codes "\" viewBox=\"0 0 " ∷ decimal width ∷ codes " " ∷ decimal height ∷ codes "\" role=\"img\">\n<title>" ∷ [])

-- the beginning of the picture: its size, what it shows and how things look
abbrev pub head : List ℕ → Heading → ℕ → ℕ → List ℕ
head name heading width height = beginning width height ++ subject name heading ++ codes "</title>\n" ++ STYLE.now

-- its ground, up to the heading
abbrev pub ground : ℕ → ℕ → List ℕ
ground width height = joined (codes "<path class=\"ground\" d=\"M0 0H" ∷ decimal width ∷ codes "V" ∷ decimal height ∷ codes "H0z\"/>\n<text class=\"head\" x=\"16\" y=\"26\">" ∷ [])

-- the ground, and what the picture shows as its heading
abbrev pub top : List ℕ → Heading → ℕ → ℕ → List ℕ
top name heading width height = ground width height ++ subject name heading

-- the end of the heading, and the line below it: how many operations there are
abbrev pub caption : ℕ → List ℕ
caption count =
    joined (codes "</text>\n<text class=\"soft\" x=\"16\" y=\"46\">" ∷ decimal count
    ∷ codes " in all, in the order of a single register; each has its point between its beginning and its end</text>\n" ∷ [])

-- what stands in the picture: what the register holds, the lanes, and the operations above them
abbrev pub things : Heading → Drawing → List ℕ
things heading d =
    flat_map (value_text d.ops.items) d.values.items
    ++ session_lanes (wide d.columns) heading.sessions
    ++ server_lanes (wide d.columns) heading.sessions d.outages.items heading.servers
    ++ flat_map (drop_in d.ops.items) d.bars.items
    ++ operations_text heading.first_line d.ops.items d.bars.items

-- the whole text
unfoldable pub picture_text : List ℕ → Heading → Drawing → List ℕ
picture_text name heading d =
    head name heading (width d) (height heading d) ++ top name heading (width d) (height heading d) ++ caption (length d.bars.items)
    ++ LEGEND.now ++ things heading d ++ codes "</svg>\n"
