-- The bars of operations.
use Rattle.std.specs.Prelude.{ℕ, ◌+◌, List, [], ◌∷◌, ◌++◌, Bool, true, false, is_none, is_some, Option, Some, None, codes, decimal, slice_get, if◌then◌else◌}
use Rattle.gq_laws.specs.declared.ops.Kind.{Kind}
use Rattle.gq_laws.specs.declared.ops.Kind.TheVariants.{Write as Writes, Read as Reads, Row as Rows}
use Rattle.gq_laws.specs.declared.ops.Op.{Op}
use Rattle.gq_picture.specs.declared.drawing.Bar.{Bar}
use Rattle.gq_lines.specs.Lines.{joined}
use Rattle.gq_tag.specs.declared.Tag.{Tag}
use Rattle.gq_svg.specs.Contents.{content_label, content_text, length_label, length_text}
use Rattle.gq_svg.specs.Layout.{label_room, lane_top, x_of}

-- ---- its class, by which it has its colour

-- the word for its kind
abbrev pub kind_class : Kind → List ℕ
kind_class (Writes bytes) = codes "write"
kind_class (Reads given) = codes "read"
kind_class (Rows length) = codes "row"

-- the word for an operation without an end
abbrev pub open_class : Option ℕ → List ℕ
open_class (Some end) = []
open_class None = codes " open"

-- the words of its class
abbrev pub bar_class : Op → List ℕ
bar_class a = kind_class a.kind ++ open_class a.end

-- ---- the operation in words

-- which one it is in the order, and of which session
abbrev pub doer : ℕ → Op → List ℕ
doer index a = joined (decimal (index + 1) ∷ codes ". Session " ∷ decimal a.session ∷ codes ", operation " ∷ decimal a.op ∷ codes ": " ∷ [])

-- what it gave, where that is known
abbrev pub given : {A : Type 0} → (A → List ℕ) → Option A → List ℕ
given text None = []
given text (Some value) = text value

-- what it wrote or gave
abbrev pub deed : Kind → List ℕ
deed (Writes bytes) = codes "write " ++ content_text bytes
deed (Reads bytes) = codes "read" ++ given (λ b. codes " " ++ content_text b) bytes
deed (Rows length) = codes "row" ++ given (λ n. codes " of " ++ length_text n) length

-- its tag, where it is known
abbrev pub tag_text : Option Tag → List ℕ
tag_text None = []
tag_text (Some tag) = joined (codes ", tag " ∷ decimal tag.number ∷ codes " " ∷ decimal tag.session ∷ [])

-- the numbers of the lines of its beginning and its end, where that of place 0 has this number
abbrev pub lines_text : ℕ → ℕ → Option ℕ → List ℕ
lines_text first begin (Some end) = joined (codes ", lines " ∷ decimal (begin + first) ∷ codes " to " ∷ decimal (end + first) ∷ [])
lines_text first begin None = joined (codes ", from line " ∷ decimal (begin + first) ∷ codes " on, not completed" ∷ [])

-- the operation in words: which one it is, what it did, its tag and its lines
abbrev pub telling : ℕ → ℕ → Op → List ℕ
telling first index a = doer index a ++ deed a.kind ++ tag_text a.tag ++ lines_text first a.begin a.end

-- ---- the bar

-- its box in a lane with this upper side, and where its label begins
abbrev pub bar_box : Bar → ℕ → List ℕ
bar_box bar top =
    joined (codes "</title><path d=\"M" ∷ decimal (x_of bar.left) ∷ codes " " ∷ decimal top
    ∷ codes "H" ∷ decimal (x_of bar.right) ∷ codes "V" ∷ decimal (top + 34) ∷ codes "H" ∷ decimal (x_of bar.left)
    ∷ codes "z\"/><text dx=\"5\" x=\"" ∷ decimal (x_of bar.left) ∷ codes "\" y=\"" ∷ decimal (top + 15) ∷ codes "\">" ∷ [])

-- its label: what was written or given
abbrev pub label : ℕ → Kind → List ℕ
label room (Writes bytes) = content_label room bytes
label room (Reads bytes) = given (content_label room) bytes
label room (Rows length) = given (length_label room) length

-- its beginning, with the operation in words as its title
abbrev pub bar_head : ℕ → ℕ → Op → List ℕ
bar_head first index a = codes "<g class=\"" ++ bar_class a ++ codes "\"><title>" ++ telling first index a

-- what is seen of it: its box and its label
abbrev pub bar_body : Bar → ℕ → Kind → List ℕ
bar_body bar top kind = bar_box bar top ++ label (label_room bar.left bar.right) kind ++ codes "</text></g>\n"

-- the bar of the operation, which stands at this place in the order
abbrev pub bar_text : ℕ → ℕ → Bar → Op → List ℕ
bar_text first index bar a = bar_head first index a ++ bar_body bar (lane_top a.session) a.kind

-- the operation is one of those: the open ones, or those that ended
abbrev pub is_among : Bool → Op → Bool
is_among are_open a = if are_open then is_none a.end else is_some a.end

-- the bar, where its operation is there and one of those
abbrev pub bar_in : Bool → ℕ → List Op → ℕ → Bar → List ℕ
bar_in are_open first ops index bar = given (λ a. if is_among are_open a then bar_text first index bar a else []) (slice_get ops bar.place)

-- the bars of those operations; the first of all bars stands at this place in the order
abbrev pub bars_text : Bool → ℕ → List Op → ℕ → List Bar → List ℕ
bars_text are_open first ops index [] = []
bars_text are_open first ops index (bar ∷ bars) = bar_in are_open first ops index bar ++ bars_text are_open first ops (index + 1) bars

-- ---- the points

-- the circle of a point, in a lane with this upper side, with the operation as its title
abbrev pub circle : ℕ → Bar → Op → ℕ → List ℕ
circle index bar a top =
    joined (codes "\"><title>Point of " ∷ decimal (index + 1) ∷ codes ". Session " ∷ decimal a.session ∷ codes ", operation " ∷ decimal a.op
    ∷ codes "</title><circle cx=\"" ∷ decimal (x_of bar.point) ∷ codes "\" cy=\"" ∷ decimal (top + 26) ∷ codes "\" r=\"5\"/></g>\n" ∷ [])

-- the point of the operation, in the colour of its bar
abbrev pub point_text : ℕ → Bar → Op → ℕ → List ℕ
point_text index bar a top = codes "<g class=\"" ++ bar_class a ++ circle index bar a top

-- the point of a bar, where its operation is there
abbrev pub point_in : List Op → ℕ → Bar → List ℕ
point_in ops index bar = given (λ a. point_text index bar a (lane_top a.session)) (slice_get ops bar.place)

-- the points of the bars, of which the first stands at this place in the order
abbrev pub points_text : List Op → ℕ → List Bar → List ℕ
points_text ops index [] = []
points_text ops index (bar ∷ bars) = point_in ops index bar ++ points_text ops (index + 1) bars

-- the operations: the open ones below those that ended, and on top the points
abbrev pub operations_text : ℕ → List Op → List Bar → List ℕ
operations_text first ops bars = bars_text true first ops 0 bars ++ bars_text false first ops 0 bars ++ points_text ops 0 bars

-- ---- the line from the register down to its point

-- the line, in a lane with this upper side
abbrev pub drop_line : Bar → ℕ → List ℕ
drop_line bar top = joined (codes "<path class=\"drop\" d=\"M" ∷ decimal (x_of bar.point) ∷ codes " 112V" ∷ decimal (top + 26) ∷ codes "\"/>\n" ∷ [])

-- the line of a bar, where its operation is there
abbrev pub drop_in : List Op → Bar → List ℕ
drop_in ops bar = given (λ a. drop_line bar (lane_top a.session)) (slice_get ops bar.place)
