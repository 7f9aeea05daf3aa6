-- The lanes of sessions, and of servers that were down.
use Rattle.std.specs.Prelude.{ℕ, ◌+◌, List, [], ◌∷◌, ◌++◌, Bool, ◌==◌, codes, decimal, filter, length, if◌then◌else◌}
use Rattle.std.specs.List.{flat_map, list_any, range_with_len}
use Rattle.gq_picture.specs.declared.drawing.Outage.{Outage}
use Rattle.gq_lines.specs.Lines.{joined}
use Rattle.gq_svg.specs.Layout.{lane_top, server_top, x_of}

-- ---- sessions

-- the name and the line of a session's lane, of which this is the upper side, and which ends at the column
abbrev pub session_lane : ℕ → ℕ → ℕ → List ℕ
session_lane edge top k =
    joined (codes "<text x=\"16\" y=\"" ∷ decimal (top + 21) ∷ codes "\">session " ∷ decimal k
    ∷ codes "</text><path class=\"lane\" d=\"M96 " ∷ decimal (top + 40) ∷ codes "H" ∷ decimal (x_of edge) ∷ codes "\"/>\n" ∷ [])

-- the lanes of so many sessions, which are numbered from 1
abbrev pub session_lanes : ℕ → ℕ → List ℕ
session_lanes edge sessions = flat_map (λ before. session_lane edge (lane_top (before + 1)) (before + 1)) (range_with_len 0 sessions)

-- ---- servers

-- the server was down at some time
abbrev pub is_down : List Outage → ℕ → Bool
is_down outages server = list_any (λ outage. outage.server == server) outages

-- those of so many servers that were down at some time, in rising number
abbrev pub down_servers : List Outage → ℕ → List ℕ
down_servers outages servers = filter (is_down outages) (range_with_len 0 servers)

-- the name and the line of a server's lane, of which this is the upper side
abbrev pub server_lane : ℕ → ℕ → ℕ → List ℕ
server_lane edge top server =
    joined (codes "<text x=\"16\" y=\"" ∷ decimal (top + 14) ∷ codes "\">server " ∷ decimal server
    ∷ codes "</text><path class=\"lane\" d=\"M96 " ∷ decimal (top + 18) ∷ codes "H" ∷ decimal (x_of edge) ∷ codes "\"/>\n" ∷ [])

-- the box of an outage in it
abbrev pub outage_box : ℕ → Outage → List ℕ
outage_box top outage =
    joined (codes "<g class=\"outage\"><title>Server " ∷ decimal outage.server ∷ codes " is down</title><path d=\"M" ∷ decimal (x_of outage.left) ∷ codes " " ∷ decimal (top + 4)
    ∷ codes "H" ∷ decimal (x_of outage.right) ∷ codes "V" ∷ decimal (top + 18) ∷ codes "H" ∷ decimal (x_of outage.left) ∷ codes "z\"/></g>\n" ∷ [])

-- the box of an outage, where it is one of this server
abbrev pub outage_in : ℕ → ℕ → Outage → List ℕ
outage_in top server outage = if outage.server == server then outage_box top outage else []

-- the lane of a server with its outages
abbrev pub server_text : ℕ → ℕ → List Outage → ℕ → List ℕ
server_text edge top outages server = server_lane edge top server ++ flat_map (outage_in top server) outages

-- the lanes of those of so many servers that were down, one below the other, below the lanes of so many sessions
abbrev pub server_lanes : ℕ → ℕ → List Outage → ℕ → List ℕ
server_lanes edge sessions outages servers =
    flat_map (λ server. server_text edge (server_top sessions (length (down_servers outages server))) outages server) (down_servers outages servers)
