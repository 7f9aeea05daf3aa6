-- What of a setup is left once tenants are gone.
use Rattle.std.specs.Prelude.{ℕ, List, Bool, not, filter}
use Rattle.gq_desk.specs.CheckedPlan.{CheckedPlan}
use Rattle.gq_lines.specs.Words.{Word}
use Rattle.gq_setup.specs.declared.openings.Opening.{Opening}
use Rattle.gq_setup.specs.declared.openings.ChunkRoom.{ChunkRoom}
use Rattle.gq_setup.specs.Setups.{Setup, is_gone_at}

-- what is opened for tenants that are not gone
abbrev pub openings_left : (gone : List Word) → CheckedPlan → List Opening → List Opening
openings_left gone plan openings = filter (λ opening. not (is_gone_at gone plan opening.tenant)) openings

-- and the room for chunks that they have
abbrev pub rooms_left : (gone : List Word) → CheckedPlan → List ChunkRoom → List ChunkRoom
rooms_left gone plan rooms = filter (λ room. not (is_gone_at gone plan room.tenant)) rooms

-- the setup, but that no volume is opened and no room for chunks given where these are gone
abbrev pub without : (gone : List Word) → Setup → Setup
without gone setup = record setup { openings = openings_left gone setup.plan setup.openings; rooms = rooms_left gone setup.plan setup.rooms }
