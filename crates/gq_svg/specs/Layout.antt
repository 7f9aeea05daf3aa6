-- Where things stand, in pixels from the left and from the top.
use Rattle.std.specs.Prelude.{ℕ, ◌+◌, ◌-◌, ◌*◌, max, min}
use Rattle.gq_svg.specs.declared.layout.TheConstants.{MOST_COLUMN, LEAST_COLUMNS, MOST_LABEL}

-- where a column stands; the names of the lanes stand left of column 0
abbrev pub x_of : ℕ → ℕ
x_of column = 96 + 21 * min column MOST_COLUMN

-- how many columns the picture is wide, where it has so many
abbrev pub wide : ℕ → ℕ
wide columns = max columns LEAST_COLUMNS

-- the upper side of the lane of session k, which are numbered from 1
abbrev pub lane_top : ℕ → ℕ
lane_top k = 76 + 46 * k

-- that of a server's lane, where so many of them stand before it, below the lanes of so many sessions
abbrev pub server_top : ℕ → ℕ → ℕ
server_top sessions before = 122 + 46 * sessions + 22 * before

-- how many letters of a label have room between two columns
abbrev pub label_room : ℕ → ℕ → ℕ
label_room left right = 3 * min (right - left) MOST_LABEL - 1
