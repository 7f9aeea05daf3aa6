-- What the nodes of a grid told, place by place, as servers that were seen.
use Rattle.std.specs.Prelude.{◌≡◌, ℕ, ◌+◌, ◌≤◌, List, [], ◌∷◌, length, map, Option, Some, None, option_map, if◌then◌else◌}
use Rattle.gq_grid.specs.Grid.{Grid}
use Rattle.gq_tag.specs.declared.Tag.{Tag}
use Rattle.gq_tag.specs.Tag.{File, is_less}
use Rattle.gq_desk.specs.declared.plans.TenantRow.{TenantRow}
use Rattle.gq_model.specs.Trace.{Turn}
use Rattle.gq_looks.specs.Looks.{Seen, Look, WasSeen, IsLook, copy_of}
use Rattle.gq_look.specs.Look.{found_from}

-- the tags that were told
abbrev pub tags_of : List (Option Seen) → List (Option Tag)
tags_of heard = map (option_map (λ s. s.copy.tag)) heard

-- those that told no greater tag, and no lesser one
abbrev pub most_of : Tag → List (Option Seen) → List Seen
most_of tag [] = []
most_of tag (None ∷ heard) = most_of tag heard
most_of tag (Some s ∷ heard) = if is_less tag s.copy.tag then most_of tag heard else s ∷ most_of tag heard

abbrev pub least_of : Tag → List (Option Seen) → List Seen
least_of tag [] = []
least_of tag (None ∷ heard) = least_of tag heard
least_of tag (Some s ∷ heard) = if is_less s.copy.tag tag then least_of tag heard else s ∷ least_of tag heard

abbrev pub look_by : (begin end : ℕ) → Tag → List (Option Seen) → Look
look_by begin end tag heard = record { begin = begin; end = end; collected = most_of tag heard; confirmed = least_of tag heard }

-- each stands at its place, from k on, and was seen so
abbrev pub Stand : (Seen → Type 0) → (k : ℕ) → List (Option Seen) → Type 0
Stand P k [] = Unit {0}
Stand P k (None ∷ heard) = Stand P (k + 1) heard
Stand P k (Some s ∷ heard) = ((s.server ≡ k) × P s) × Stand P (k + 1) heard

abbrev pub AllSettledAreLooks : Type 0
AllSettledAreLooks = (grid : Grid) (row : TenantRow) (turns : List Turn) (file : File) (begin end : ℕ) (heard : List (Option Seen)) (tag : Tag) → begin ≤ end → end ≤ length turns →
    Stand (WasSeen grid row turns file begin end) 0 heard → found_from grid (tags_of heard) (tags_of heard) ≡ Some tag →
    IsLook grid row turns file (look_by begin end tag heard) × ((copy_of (look_by begin end tag heard)).tag ≡ tag)
