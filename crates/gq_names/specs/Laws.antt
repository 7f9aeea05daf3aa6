-- The laws of names.
use Rattle.std.specs.Prelude.{◌≡◌, ◌⊎◌, ℕ, List, true}
use Rattle.gq_tag.specs.declared.StoredCopy.{StoredCopy}
use Rattle.gq_tag.specs.Tag.{is_less}
use Rattle.gq_laws.specs.Operations.{Tagged, Legal}
use Rattle.gq_laws.specs.Orders.{order}
use Rattle.gq_names.specs.Names.{Setting, Page, Step, after_step, is_closed, world_after, operations_of}

-- the line is the same, or has a greater version
abbrev pub IsRisen : StoredCopy → StoredCopy → Type 0
IsRisen old new = (old ≡ new) ⊎ (is_less old.tag new.tag ≡ true)

abbrev pub Rises : Page → Page → Type 0
Rises old new = (name : ℕ) → IsRisen (old.line name) (new.line name)

-- no step takes back what stands in a page, where somebody may have seen it: of no name, at no session
abbrev pub AllPagesRise : Type 0
AllPagesRise = (v : Setting) (steps : List Step) (step : Step) (s : ℕ) →
    Rises ((world_after v steps).session s).page ((after_step v (world_after v steps) step).session s).page

-- whatever the steps, the operations on the watched name are tagged, by version
abbrev pub AllNamesTagged : Type 0
AllNamesTagged = (v : Setting) (steps : List Step) → Tagged (operations_of (world_after v steps))

-- so in the order by version a single register, which is written by puts and removals and read by gets, gives the same answers, and what ended before
-- another began stands before it
abbrev pub AllNamesLegal : Type 0
AllNamesLegal = (v : Setting) (steps : List Step) → Legal (operations_of (world_after v steps)) (order (operations_of (world_after v steps)))

-- the pages as they stand ask for nothing more than there is
abbrev pub AllViewsClosed : Type 0
AllViewsClosed = (v : Setting) (steps : List Step) → is_closed v (λ s. ((world_after v steps).session s).page) ≡ true
