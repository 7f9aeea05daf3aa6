-- What a round sends.
use Rattle.std.specs.Prelude.{ℕ, List, [], Option, Some, None, map, ◌&&◌, not}
use Rattle.gq_grid.specs.Grid.{Grid, Servers, rising}
use Rattle.gq_tag.specs.declared.Message.{Message}
use Rattle.gq_round.specs.declared.RoundMessage.{RoundMessage}

-- the servers of the one set that the other has not
abbrev pub apart : Servers → Servers → Servers
apart set but server = set server && not (but server)

-- the round's message to a server
abbrev pub addressed : RoundMessage → ℕ → Message
addressed m server =
    record { tenant = m.who.tenant; session = m.who.session; op = m.who.op; round = m.round; server = server; file = m.file; body = m.body }

-- the message to each server of the quorum, rising; none where there is no quorum
abbrev pub sent_to : Grid → Option Servers → RoundMessage → List Message
sent_to grid None message = []
sent_to grid (Some quorum) message = map (addressed message) (rising grid quorum)
