-- The greatest of the copies heard, and who told its tag, as replies come in.
use Rattle.std.specs.Prelude.{ℕ, ◌<◌, Bool, true, Option, Some, None, if◌then◌else◌}
use Rattle.gq_grid.specs.Grid.{Servers, no_servers, with_server}
use Rattle.gq_tag.specs.declared.Tag.{Tag}
use Rattle.gq_tag.specs.declared.StoredCopy.{StoredCopy}
use Rattle.gq_tag.specs.declared.Body.{Body}
use Rattle.gq_tag.specs.declared.Body.TheVariants.{Copy}
use Rattle.gq_tag.specs.Tag.{is_less, equal_tags, newer_of}

-- the greatest copy, if there is one, where one more reply says this
abbrev pub best_with : Option StoredCopy → Body → Option StoredCopy
best_with None (Copy copy) = Some copy
best_with (Some best) (Copy copy) = Some (newer_of best copy)
best_with best _ = best

-- the tag of the copy, if there is one
abbrev pub tag_in : Option StoredCopy → Option Tag
tag_in None = None
tag_in (Some copy) = Some copy.tag

-- the number of the copy that a reply tells
abbrev pub copied_number : Body → ℕ
copied_number (Copy copy) = copy.tag.number
copied_number _ = 0

-- a greater number is left
abbrev pub IsBelow : Option StoredCopy → Type 0
IsBelow None = Unit {0}
IsBelow (Some copy) = copy.tag.number < 18446744073709551615

-- whether the copy's tag is greater than that of the greatest, if there is one
abbrev pub exceeds : Option StoredCopy → StoredCopy → Bool
exceeds None copy = true
exceeds (Some best) copy = is_less best.tag copy.tag

-- the servers that told the greatest tag, where one more server says this
abbrev pub givers_with : Option StoredCopy → Servers → ℕ → Body → Servers
givers_with None givers server (Copy copy) = with_server server no_servers
givers_with (Some best) givers server (Copy copy) =
    if is_less best.tag copy.tag then with_server server no_servers else if equal_tags copy.tag best.tag then with_server server givers else givers
givers_with best givers server _ = givers
