-- Where operations stand in a picture, which has a column for each beginning, each end and each point.
--
-- The operations stand in the order of the register. Beginnings and ends stand from left to right by their places, of one place
-- the beginnings first. The points stand in the order of the operations, each as far to the left as it can: right behind the last
-- beginning of the operations up to its own.
use Rattle.std.specs.Prelude.{ℕ, ◌+◌, List, [], ◌∷◌, nat_lt, max, map, filter_map, length, sum_by, Option, Some, None, slice_get, if◌then◌else◌}
use Rattle.gq_laws.specs.declared.ops.Op.{Op}

-- the places at which they begin, and at which they end
abbrev pub begins : List Op → List ℕ
begins seq = map (λ a. a.begin) seq

abbrev pub ends : List Op → List ℕ
ends seq = filter_map (λ a. a.end) seq

-- the end of the operation at the place, where there is one that ended
abbrev pub end_at : List Op → ℕ → Option ℕ
end_at ops place = by (slice_get ops place)
  where
    by : Option Op → Option ℕ
    by None = None
    by (Some a) = a.end

-- for each operation of the order the last place at which it or one before it begins: its point stands right after that. Those before
-- these begin at `last` at the latest
abbrev pub latest_from : ℕ → List Op → List ℕ
latest_from last [] = []
latest_from last (a ∷ seq) = max last a.begin ∷ latest_from (max last a.begin) seq

abbrev pub latest : List Op → List ℕ
latest seq = latest_from 0 seq

-- how many of the numbers are below this one
abbrev pub below : ℕ → List ℕ → ℕ
below n numbers = sum_by (λ x. if nat_lt x n then 1 else 0) numbers

-- the column of what begins at the place: the beginnings, the ends and the points before it
abbrev pub begin_column : List Op → ℕ → ℕ
begin_column seq place = below place (begins seq) + below place (ends seq) + below place (latest seq)

-- the column of what ends there, where what begins there comes before it
abbrev pub end_column : List Op → ℕ → ℕ
end_column seq place = below (place + 1) (begins seq) + below place (ends seq) + below (place + 1) (latest seq)

-- the column of a point with so many before it, right behind this place
abbrev pub point_column : List Op → ℕ → ℕ → ℕ
point_column seq m place = below (place + 1) (begins seq) + below place (ends seq) + m

-- how many columns there are
abbrev pub columns : List Op → ℕ
columns seq = length (begins seq) + length (ends seq) + length (latest seq)

-- the column of an end, or that behind all others where there is none
abbrev pub last_column : List Op → Option ℕ → ℕ
last_column seq (Some place) = end_column seq place
last_column seq None = columns seq
