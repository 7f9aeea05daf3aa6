-- What a line brings to each tenant's part of a node.
use Rattle.std.specs.Prelude.{ℕ, max, min, List, [], ◌∷◌, ◌++◌, Bool, true, ◌==◌, map, if◌then◌else◌}
use Rattle.std.specs.List.{flat_map, range_with_len}
use Rattle.gq_tag.specs.Tag.{own_message, file_place}
use Rattle.gq_desk.specs.CheckedPlan.{CheckedPlan, row_at}
use Rattle.gq_model.specs.declared.events.Line.{Line}
use Rattle.gq_model.specs.declared.events.Line.TheVariants.{Bad as NoLine}
use Rattle.gq_node.specs.declared.lanes.TheConstants.{LANES}
use Rattle.gq_node.specs.Inputs.{Input, Asked, AskedPlan, AskedLook, Brought, Shortened, Ticked, Looked, Joined as HeardJoined, Fetching, Fetched as WasFetched}
use Rattle.gq_node.specs.Shorts.{own_short}
use Rattle.gq_node.specs.Sites.{Here, session_at}
use Rattle.gq_wire.specs.declared.incoming.Incoming.{Incoming}
use Rattle.gq_wire.specs.declared.incoming.Incoming.TheVariants.{Request, Plan, Look, Bad, Letter, ShortLetter, Joins, Joined, Speaks, Fetch, Fetched, Tick, Greet, Nothing}
use Rattle.gq_wire.specs.Incoming.{incoming_of}

-- one input of that tenant, and none of any other
abbrev pub alone : (tenant : ℕ) → Input → ℕ → List Input
alone tenant input t = if t == tenant then input ∷ [] else []

-- a tick of the node is one for each session of the tenant, in order, and then one for each lane
abbrev pub session_ticks : CheckedPlan → Here → ℕ → List Input
session_ticks plan here t = map (λ place. Ticked (session_at plan here t place)) (range_with_len 0 (row_at plan t).sessions)

-- a tenant has no more lanes than it may have volumes
abbrev pub lanes_at : CheckedPlan → ℕ → ℕ
lanes_at plan t = max (min (row_at plan t).most_volumes LANES) 1

abbrev pub lane_ticks : CheckedPlan → ℕ → List Input
lane_ticks plan t = map Looked (range_with_len 0 (lanes_at plan t))

abbrev pub ticks_of : CheckedPlan → Here → ℕ → List Input
ticks_of plan here t = session_ticks plan here t ++ lane_ticks plan t

-- The inputs of the tenant at place t. A line without form is a request that none is. That a node has joined is told to each tenant's part; that one asks
-- whether it has is answered by the node, and is no tenant's. Nor is the form of lines that a node speaks. A letter in a short form is one whose copy
-- has this content, which did not come: what it does is so for each.
abbrev pub inputs_with : List ℕ → CheckedPlan → Here → Incoming → ℕ → List Input
inputs_with bytes plan here (Request tenant op line) t = alone tenant (Asked op line) t
inputs_with bytes plan here (Plan tenant) t = alone tenant AskedPlan t
inputs_with bytes plan here (Look tenant mark volume) t = alone tenant (AskedLook mark volume) t
inputs_with bytes plan here (Bad tenant) t = alone tenant (Asked 0 NoLine) t
inputs_with bytes plan here (Letter from m) t = alone m.tenant (Brought from (own_message m)) t
inputs_with bytes plan here (ShortLetter from s) t = alone s.tenant (Shortened from (own_short s) bytes) t
inputs_with bytes plan here (Joins from losses) t = []
inputs_with bytes plan here (Joined from losses) t = HeardJoined from losses ∷ []
inputs_with bytes plan here (Speaks from form) t = []
inputs_with bytes plan here (Fetch from file) t = alone file.tenant (Fetching from (file_place file)) t
inputs_with bytes plan here (Fetched from file copy) t = alone file.tenant (WasFetched from (file_place file) copy) t
inputs_with bytes plan here Tick t = ticks_of plan here t
inputs_with bytes plan here Greet t = []
inputs_with bytes plan here Nothing t = []

-- with what came alone: a copy of which the tag came is taken for an empty one
abbrev pub inputs_of : CheckedPlan → Here → Incoming → ℕ → List Input
inputs_of plan here incoming t = inputs_with [] plan here incoming t

-- whether the tenant at place t has to do with it: it is of this tenant, or of none
abbrev pub is_for : ℕ → Incoming → Bool
is_for t (Request tenant op line) = t == tenant
is_for t (Plan tenant) = t == tenant
is_for t (Look tenant mark volume) = t == tenant
is_for t (Bad tenant) = t == tenant
is_for t (Letter from m) = t == m.tenant
is_for t (ShortLetter from s) = t == s.tenant
is_for t (Fetch from file) = t == file.tenant
is_for t (Fetched from file copy) = t == file.tenant
is_for t _ = true

-- those of a line that comes to the node, and of lines
abbrev pub line_inputs_with : List ℕ → CheckedPlan → Here → List ℕ → ℕ → List Input
line_inputs_with bytes plan here line t = inputs_with bytes plan here (incoming_of plan here.node line) t

abbrev pub line_inputs : CheckedPlan → Here → List ℕ → ℕ → List Input
line_inputs plan here line t = line_inputs_with [] plan here line t

abbrev pub lines_inputs : CheckedPlan → Here → List (List ℕ) → ℕ → List Input
lines_inputs plan here lines t = flat_map (λ line. line_inputs plan here line t) lines

-- the request that an answer is to, if the input is one
abbrev pub asked_in : Input → Line
asked_in (Asked op line) = line
asked_in _ = NoLine
