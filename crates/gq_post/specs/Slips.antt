-- Slips: an envelope as it lies in its channel, under a heading that it has in common with others.
use Rattle.std.specs.Prelude.{ℕ, ◌<◌, List, All, length, slice_index_or}
use Rattle.gq_post.specs.declared.envelopes.Envelope.{Envelope}
use Rattle.gq_post.specs.declared.envelopes.Heading.{Heading}
use Rattle.gq_post.specs.declared.envelopes.Slip.{Slip}

-- what an envelope has in common with others, and the slip with what is its own, its heading at the place
abbrev pub heading_of : Envelope → Heading
heading_of e = record { op = e.op; round = e.round; volume = e.volume; file = e.file; tenant = e.tenant; file_tenant = e.file_tenant; session = e.session }

abbrev pub slip_of : Envelope → ℕ → Slip
slip_of e heading = record { heading = heading; place = e.place; server = e.server; says = e.says }

-- the same slip to another server
abbrev pub slip_to : Slip → ℕ → Slip
slip_to slip server = record slip { server = server }

-- the envelope that the two make
abbrev pub under : Heading → Slip → Envelope
under h slip =
    record { op = h.op; round = h.round; volume = h.volume; file = h.file; place = slip.place; tenant = h.tenant; file_tenant = h.file_tenant; session = h.session; server = slip.server; says = slip.says }

abbrev pub no_heading : Heading
no_heading = record { op = 0; round = 0; volume = 0; file = 0; tenant = 0; file_tenant = 0; session = 0 }

-- the envelope of a slip, its heading looked up; one that is not there counts as `no_heading`
abbrev pub opened : List Heading → Slip → Envelope
opened headings slip = under (slice_index_or headings slip.heading no_heading) slip

-- each slip has its heading
abbrev pub HaveHeadings : List Heading → List Slip → Type 0
HaveHeadings headings slips = All (λ slip. slip.heading < length headings) slips
