-- What follows from the tags that the nodes of a grid told of their copies of a file, place by place.
use Rattle.std.specs.Prelude.{ℕ, ◌+◌, List, [], ◌∷◌, Bool, ◌&&◌, Option, Some, None, if◌then◌else◌}
use Rattle.gq_tag.specs.declared.Tag.{Tag}
use Rattle.gq_tag.specs.Tag.{is_less}
use Rattle.gq_grid.specs.Grid.{Grid, Servers, no_servers, with_server, has_row, has_column}

-- the places from s on that told this tag or a lesser one, and those of before
abbrev pub most_from : (s : ℕ) → (tag : Tag) → List (Option Tag) → Servers → Servers
most_from s tag [] set = set
most_from s tag (None ∷ told) set = most_from (s + 1) tag told set
most_from s tag (Some here ∷ told) set = most_from (s + 1) tag told (if is_less tag here then set else with_server s set)

-- this tag or a greater one
abbrev pub least_from : (s : ℕ) → (tag : Tag) → List (Option Tag) → Servers → Servers
least_from s tag [] set = set
least_from s tag (None ∷ told) set = least_from (s + 1) tag told set
least_from s tag (Some here ∷ told) set = least_from (s + 1) tag told (if is_less here tag then set else with_server s set)

-- a whole row told no greater tag, and a whole column no lesser one
abbrev pub settles : Grid → List (Option Tag) → (tag : Tag) → Bool
settles grid told tag = has_row grid (most_from 0 tag told no_servers) && has_column grid (least_from 0 tag told no_servers)

-- the first of these tags that does
abbrev pub found_from : Grid → (told rest : List (Option Tag)) → Option Tag
found_from grid told [] = None
found_from grid told (None ∷ rest) = found_from grid told rest
found_from grid told (Some tag ∷ rest) = if settles grid told tag then Some tag else found_from grid told rest
