-- A worked case: a run as long as one likes, of which the law of all nodes speaks.
--
-- Two servers in one column, and a tenant with two sessions and one file. Node 1 is lost, then the node in its place, and then the next one: each new one
-- is told by node 0 that its plan has it, and is given the file. Then session 1, whose home is node 0, writes the file, one write after another. Behind each
-- the tenant looks at the file at both nodes.
use Rattle.std.specs.Prelude.{◌≡◌, ℕ, zero, suc, ◌+◌, ◌^◌, ◌<◌, List, [], ◌∷◌, ◌++◌, true, false, None, Some, codes, decimal}
use Rattle.gq_tag.specs.declared.StoredCopy.{StoredCopy}
use Rattle.gq_tag.specs.declared.Body.{Body}
use Rattle.gq_tag.specs.declared.Body.TheVariants.{Store, Stored}
use Rattle.gq_tag.specs.Tag.{OwnMessage, message_of, first_copy}
use Rattle.gq_phase.specs.declared.Outcome.TheVariants.{Wrote}
use Rattle.gq_phase.specs.declared.Row.{Row}
use Rattle.gq_desk.specs.CheckedPlan.{row_at}
use Rattle.gq_desk.specs.declared.plans.TenantRow.{TenantRow}
use Rattle.gq_model.specs.declared.events.Line.TheVariants.{Write, Bad}
use Rattle.gq_lines.specs.Written.{spaced}
use Rattle.gq_cluster.specs.Cluster.{copy_in}
use Rattle.gq_node.specs.declared.output.Answer.TheVariants.{Looked}
use Rattle.gq_node.specs.declared.output.Transfer.TheVariants.{Wants, Brings}
use Rattle.gq_node.specs.Local.{part_in}
use Rattle.gq_node.specs.Nodes.{Nodes, new_nodes, AllOpen}
use Rattle.gq_tag.specs.declared.FileId.{FileId}
use Rattle.gq_keeper.specs.Runs.{Did}
use Rattle.gq_wire.specs.Laws.{letter_text, request_text, transfer_text, look_text}
use Rattle.gq_wire.specs.Texts.{told_line}
use Rattle.gq_parts.specs.AllNodes.{GridPlans, here_in, AreSound, Happening, Took, Starts, nodes_at, world_at, all_events, LinesCanCome, IsOneRegister}
use Rattle.gq_parts.specs.Inputs.{line_inputs}
use Rattle.gq_parts.specs.Steps.{fact_lines}
use Rattle.gq_parts.specs.Texts.{written_by, parts_after, facts_by, line_text_of}

-- ---- the plans

abbrev pub row : TenantRow
row = record { name = codes "ann"; share = 4; sessions = 2; steps = 1; most_blocks = 16; most_volumes = 1 }

-- the node at place 1 is lost by plan 1, the next one by plan 2, and the one after that by plan 3
abbrev pub lost_by : ℕ → List ℕ
lost_by zero = []
lost_by (suc zero) = 1 ∷ []
lost_by (suc (suc zero)) = 1 ∷ 1 ∷ []
lost_by (suc (suc (suc p))) = 1 ∷ 1 ∷ 1 ∷ []

abbrev pub grid_worked : GridPlans
grid_worked = record {
  plan = record { grid = record { rows = 2; cols = 1 }; blocks = 4; rows = row ∷ [] };
  opens = λ t. record { files = 1; blocks = 1 } ∷ [];
  lost = lost_by;
  count = λ p t. 1;
}

-- ---- what happens, by the lines that come

-- a node is started with that plan, or, having that plan, it is sent the line
pub data Sent : Type 0 where
  Starting : (node plan : ℕ) → Sent
  Sends : (node plan : ℕ) (line : List ℕ) → Sent

-- what the node does by the line, where all that happened before: its facts and what it tells are those of its parts
abbrev pub did_by : GridPlans → (before : List Happening) → (n p : ℕ) → List ℕ → Did
did_by g before n p line = record {
  line = line;
  facts = fact_lines g.plan (facts_by g.plan (here_in g p n) (λ t. (nodes_at g before t).local n) (line_inputs g.plan (here_in g p n) line));
  told = written_by g.plan (here_in g p n) (λ t. (nodes_at g before t).local n) (line_inputs g.plan (here_in g p n) line)
      ++ line_text_of g.plan (here_in g p n) line (parts_after g.plan (here_in g p n) (λ t. (nodes_at g before t).local n) (line_inputs g.plan (here_in g p n) line));
}

abbrev pub happened : GridPlans → (before : List Happening) → Sent → Happening
happened g before (Starting n p) = Starts n p
happened g before (Sends n p line) = Took n p [] (did_by g before n p line)

abbrev pub all_happened : GridPlans → (before : List Happening) → List Sent → List Happening
all_happened g before [] = []
all_happened g before (s ∷ sent) = happened g before s ∷ all_happened g (before ++ happened g before s ∷ []) sent

-- ---- the losses

abbrev pub file_worked : FileId
file_worked = record { tenant = 0; volume = 0; file = 0 }

-- the lines between nodes: the question to a node whether its plan has the new one, and the answer
abbrev pub joins_text : (to from losses : ℕ) → List ℕ
joins_text to from losses = decimal to ++ spaced (decimal from ∷ codes "joins" ∷ decimal losses ∷ [])

abbrev pub joined_text : (to from losses : ℕ) → List ℕ
joined_text to from losses = decimal to ++ spaced (decimal from ∷ codes "joined" ∷ decimal losses ∷ [])

-- Node 0 starts again with a plan of so many losses, and the new node with it for the first time. That one asks node 0, and is told; at a tick it asks for the
-- file, and is given it.
abbrev pub replaced_by : (new losses : ℕ) → (tick : List ℕ) → List Sent
replaced_by new losses tick =
    Starting 0 losses
    ∷ Starting new losses
    ∷ Sends 0 losses (joins_text 0 new losses)
    ∷ Sends new losses (joined_text new 0 losses)
    ∷ Sends new losses tick
    ∷ Sends 0 losses (transfer_text grid_worked.plan new (Wants 0 file_worked))
    ∷ Sends new losses (transfer_text grid_worked.plan 0 (Brings new file_worked first_copy))
    ∷ []

abbrev pub losses_worked : List Sent
losses_worked = Starting 0 0 ∷ Starting 1 0 ∷ replaced_by 65 1 (codes "65 65 tick") ++ replaced_by 129 2 (codes "129 129 tick") ++ replaced_by 193 3 (codes "193 193 tick")

-- ---- the writes

abbrev pub content : List ℕ
content = codes "hello"

-- the copy that the write of this number makes
abbrev pub written : (op : ℕ) → StoredCopy
written op = record { tag = record { number = op; session = 1 }; bytes = content }

-- its letter to a server, or from it
abbrev pub letter_worked : (op server : ℕ) → Body → OwnMessage
letter_worked op server body = record { session = 1; op = op; round = 2; server = server; file = record { volume = 0; place = 0 }; body = body }

abbrev pub line_worked : (to from op server : ℕ) → Body → List ℕ
line_worked to from op server body = letter_text grid_worked.plan to from (message_of 0 (letter_worked op server body))

-- The tenant asks its home, which asks its own server, and sends the copy to both. Each of them stores it, and the other one tells so.
abbrev pub write_worked : (op : ℕ) → List Sent
write_worked op =
    Sends 0 3 (request_text grid_worked.plan 0 0 op (Write 1 0 0 content))
    ∷ Sends 0 3 (line_worked 0 0 op 0 (Store (written op)))
    ∷ Sends 193 3 (line_worked 193 0 op 1 (Store (written op)))
    ∷ Sends 0 3 (line_worked 0 193 op 1 Stored)
    ∷ []

-- It asks both nodes what their servers have of the volume: a column of the grid, and two rows.
abbrev pub looks_worked : (op : ℕ) → List Sent
looks_worked op = Sends 0 3 (look_text grid_worked.plan 0 0 op 0) ∷ Sends 193 3 (look_text grid_worked.plan 193 0 op 0) ∷ []

-- so many writes, behind so many
abbrev pub writes_worked : (before many : ℕ) → List Sent
writes_worked before zero = []
writes_worked before (suc many) = write_worked (before + 1) ++ looks_worked (before + 1) ++ writes_worked (before + 1) many

abbrev pub run_worked : (many : ℕ) → List Happening
run_worked many = all_happened grid_worked [] (losses_worked ++ writes_worked 0 many)

-- ---- what is so of it

-- what the law has of all nodes in the end
abbrev pub end_worked : (many : ℕ) → Nodes
end_worked many = nodes_at grid_worked (run_worked many) 0

-- of the last write, where there was one: it is done, and both servers have its copy
pub record IsDone (nodes : Nodes) (op : ℕ) : Type 0 where
  pub last : ((nodes.local 0).residents 1).session.op ≡ op
  pub idle : ((nodes.local 0).residents 1).session.current ≡ None
  pub done : ((nodes.local 0).residents 1).outcome ≡ Some (Wrote 1 op (written op).tag)
  pub first : copy_in (part_in (nodes.local 0)) (record { volume = 0; place = 0 }) ≡ written op
  pub second : copy_in (part_in (nodes.local 193)) (record { volume = 0; place = 0 }) ≡ written op

-- what the node tells of the look behind the write of this number: the file has five bytes and the write's tag, and three nodes were lost; it keeps nothing
abbrev pub tells_look : (n op : ℕ) → Happening
tells_look n op = Took n 3 [] (record {
  line = look_text grid_worked.plan n 0 op 0;
  facts = [];
  told = told_line grid_worked.plan n 0 Bad (Looked (record { mark = op; volume = 0; losses = 3; rows = Some (record { length = 5; tag = (written op).tag }) ∷ [] }));
})

-- so the run ends: both nodes tell the last write, and as many losses
pub record EndsWithLooks (many : ℕ) : Type 0 where
  pub before : List Happening
  pub ends : run_worked many ≡ before ++ tells_look 0 many ∷ tells_look 193 many ∷ []

-- All that the law asks of the lines is so, and so the tenant's file is one register. The lost nodes are gone, and the two others are not.
pub record IsWorked (many : ℕ) : Type 0 where
  pub sound : AreSound grid_worked
  pub opens : AllOpen (row_at grid_worked.plan 0) [] (grid_worked.opens 0)
  pub can : LinesCanCome grid_worked 0 (new_nodes (world_at grid_worked 0)) (run_worked many)
  pub right : IsOneRegister grid_worked 0 (all_events grid_worked 0 (run_worked many))
  pub first_gone : (end_worked many).gone 1 ≡ true
  pub next_gone : (end_worked many).gone 65 ≡ true
  pub last_gone : (end_worked many).gone 129 ≡ true
  pub stays : (end_worked many).gone 0 ≡ false
  pub stays_there : (end_worked many).gone 193 ≡ false
  pub done : 0 < many → IsDone (end_worked many) many
  pub looks : 0 < many → EndsWithLooks many

-- however many writes there are: a session has no more than so many numbers
abbrev pub AllWorked : Type 0
AllWorked = (many : ℕ) → many < 2 ^ 32 → IsWorked many
