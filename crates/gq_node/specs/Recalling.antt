-- A fact that a start reads.
use Rattle.std.specs.Prelude.{ℕ, Bool, false}
use Rattle.gq_tag.specs.Tag.{file_place, file_of}
use Rattle.gq_desk.specs.Volumes.{limit_of}
use Rattle.gq_node.specs.declared.output.Fact.{Fact}
use Rattle.gq_node.specs.declared.output.Fact.TheVariants.{Began, Numbered as HasNumber, Kept as IsKept, Had as WasGiven}
use Rattle.gq_cluster.specs.Facts.{OwnFact, Begun, Numbered, Kept, Had}
use Rattle.gq_node.specs.Local.{fact_fits, file_in}
use Rattle.gq_node.specs.Sites.{site_of}
use Rattle.gq_node.specs.Tables.{Tables}

-- the tenant of a fact, and the fact without it
abbrev pub tenant_of : Fact → ℕ
tenant_of (Began tenant session op) = tenant
tenant_of (HasNumber tenant session number) = tenant
tenant_of (IsKept file copy) = file.tenant
tenant_of (WasGiven file copy) = file.tenant

abbrev pub own_fact : Fact → OwnFact
own_fact (Began tenant session op) = Begun session op
own_fact (HasNumber tenant session number) = Numbered session number
own_fact (IsKept file copy) = Kept (file_place file) copy
own_fact (WasGiven file copy) = Had (file_place file) copy

-- Whether a fact can be one of the node: of a session of its tenant's row, or of a file that is there, within its limit. One that says which copy a
-- file has which the server lacks can be one, and does nothing.
abbrev pub fits_in : Tables → Fact → Bool
fits_in w fact = fact_fits (site_of w.plan w.here (tenant_of fact)) false (limit_of w.desk (file_of (tenant_of fact) (file_in (own_fact fact)))) (own_fact fact)
