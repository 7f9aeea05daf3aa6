-- Traces that come from turns, and what holds along them.
use Rattle.std.proofs.Common.{◌≡◌, ◌⊎◌, ℕ, Bool, true, false, List, [], ◌∷◌, ◌++◌, Option, Some, None}
use Rattle.std.specs.Prelude.{Contains, ⊤}
use Rattle.gq_grid.specs.Grid.{Grid, Servers}
use Rattle.gq_tag.specs.declared.Tag.{Tag}
use Rattle.gq_tag.specs.declared.StoredCopy.{StoredCopy}
use Rattle.gq_tag.specs.Tag.{first_copy, File, OwnMessage}
use Rattle.gq_tag.proofs.Order.{IsAtMost}
use Rattle.gq_desk.specs.declared.plans.TenantRow.{TenantRow}
use Rattle.gq_phase.specs.Phase.{Task, Writing}
use Rattle.gq_phase.specs.Quorums.{ends_store, are_peers}
use Rattle.gq_model.specs.Trace.{Entry, Trace, Deed, Begins, Moves, is_loss, lacks}
use Rattle.gq_model.specs.Lone.{is_refusal}
use Rattle.gq_laws.proofs.Words.{delivered, step_on, deed_on, held, current}

-- ---- runs

-- the entry is what an accepted turn leaves
pub record Follows (grid : Grid) (row : TenantRow) (t : Trace) (e : Entry) : Type 0 where
  pub lines : ℕ
  pub message : e.message ≡ delivered t e.turn
  pub told : (step_on grid row lines t e.turn).told ≡ e.told
  pub new : (step_on grid row lines t e.turn).new ≡ e.new
  pub accepted : is_refusal e.told ≡ false

-- each entry is what an accepted turn leaves
abbrev pub IsRun : Grid → TenantRow → Trace → Type 0
IsRun grid row [] = ⊤
IsRun grid row (e ∷ t) = IsRun grid row t × Follows grid row t e

-- ---- moments

-- the trace when session k's operation began
abbrev pub op_start : Trace → ℕ → Trace
op_start [] k = []
op_start (e ∷ t) k = after (deed_on t k e) (op_start t k)
  where
    after : Deed → Trace → Trace
    after (Begins line) before = t
    after _ before = before

-- the trace with the entry that began the current round of session k's operation
abbrev pub round_start : Trace → ℕ → Trace
round_start [] k = []
round_start (e ∷ t) k = after (deed_on t k e) (round_start t k)
  where
    after : Deed → Trace → Trace
    after (Begins line) before = e ∷ t
    after (Moves message next tag) before = e ∷ t
    after _ before = before

-- when an operation and its current round began
pub record Starts : Type 0 where
  pub op : Trace
  pub round : Trace

-- those of session k
abbrev pub starts : Trace → ℕ → Starts
starts t k = record { op = op_start t k; round = round_start t k }

-- later is an earlier trace with more entries
abbrev pub Extends : Trace → Trace → Type 0
Extends later earlier = (more : Trace) × (more ++ earlier ≡ later)

-- ---- what a server keeps

-- The server keeps a tag of the file: where it has the file, it holds this tag or a greater one; where it lacks the file, all its peers
-- kept the tag when it lost its own, so that each of them can give it no less.
abbrev pub Keeps : Grid → Trace → ℕ → File → Tag → Type 0
Keeps grid [] server file tag = IsAtMost tag (held [] server file).tag
Keeps grid (e ∷ t) server file tag = by (is_loss e.turn server file) (lacks (e ∷ t) server file) (λ peer. Keeps grid t peer file tag)
  where
    by : Bool → Bool → (ℕ → Type 0) → Type 0
    by true lacking before = (peer : ℕ) → are_peers grid server peer ≡ true → before peer
    by false true before = before server
    by false false before = IsAtMost tag (held (e ∷ t) server file).tag

-- the server had the file and held this copy of it at a moment that is not before the earlier trace nor after the later one, and keeps
-- its tag
pub record HeldBetween (grid : Grid) (earlier later : Trace) (server : ℕ) (file : File) (copy : StoredCopy) : Type 0 where
  pub moment : Trace
  pub since : Extends moment earlier
  pub until : Extends later moment
  pub held_then : held moment server file ≡ copy
  pub had : lacks moment server file ≡ false
  pub kept : Keeps grid later server file copy.tag

-- ---- what writes made

-- a copy with which a write's store round began
pub record Made : Type 0 where
  pub file : File
  pub copy : StoredCopy

-- what a deed in a session makes that has this task
abbrev pub made_of : Deed → Option Task → List Made
made_of (Moves message next (Some tag)) (Some (Writing file bytes)) = record { file = file; copy = record { tag = tag; bytes = bytes } } ∷ []
made_of _ _ = []

-- all that the entries made, in order
abbrev pub made : Trace → List Made
made [] = []
made (e ∷ t) = made t ++ by e.message
  where
    by : Option OwnMessage → List Made
    by None = []
    by (Some m) = made_of (deed_on t m.session e) (current t m.session)

-- the first copy, or one that a write of the file made
abbrev pub IsKnown : Trace → File → StoredCopy → Type 0
IsKnown t file copy = (copy ≡ first_copy) ⊎ Contains (made t) (record { file = file; copy = copy })

-- the tag is kept by the servers of some set that ends a store round and has, with each of them, all its peers
pub record Settled (grid : Grid) (t : Trace) (file : File) (tag : Tag) : Type 0 where
  pub set : Servers
  pub ends : ends_store grid set ≡ true
  pub peers : (server peer : ℕ) → set server ≡ true → are_peers grid server peer ≡ true → set peer ≡ true
  pub kept_there : (server : ℕ) → set server ≡ true → Keeps grid t server file tag
