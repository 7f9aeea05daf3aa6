-- What a node's lines say of contents is what the law of a column (`gq_column`) takes its acts to be, and a new node lacks what it was not given.
use Rattle.std.specs.Prelude.{◌≡◌, ℕ, ◌%◌, ◌<◌, ◌*◌, List, [], ◌∷◌, Bool, true, false, not, ◌==◌, nat_le, nat_lt, codes, decimal, Option, Some, None, MatchBool, slice_get, ⊤}
use Rattle.std.specs.Str.{bytes_eq}
use Rattle.gq_desk.specs.CheckedPlan.{CheckedPlan}
use Rattle.gq_lines.specs.Words.{Word, number_of}
use Rattle.gq_text.specs.Input.{place_named}
use Rattle.gq_node.specs.Sites.{plan_in}
use Rattle.gq_replace.specs.Plans.{place_of, node_at}
use Rattle.gq_stock.specs.Deeds.{is_kept}
use Rattle.gq_stock.specs.declared.finding.Found.TheVariants as Finds
use Rattle.gq_stock.specs.declared.keeping.Keeping.{Keeping}
use Rattle.gq_depot.specs.declared.answer.ChunkAnswer.{ChunkAnswer}
use Rattle.gq_depot.specs.declared.answer.ChunkAnswer.TheVariants as Told
use Rattle.gq_depot.specs.declared.depot.Depot.{Depot}
use Rattle.gq_depot.specs.declared.request.ChunkRequest.{ChunkRequest}
use Rattle.gq_chunks.specs.Answers.{kept_words}
use Rattle.gq_chunks.specs.Coming.{Asked, coming_of_words}
use Rattle.gq_chunks.specs.Machines.{Chunks, may_answer, is_new, lacks_at_first}
use Rattle.gq_chunks.specs.PeerLines.{Saying, Gives, Misses, saying_of_answer}
use Rattle.gq_chunks.specs.Peers.{is_peer}

-- nothing was found; or these bytes
abbrev pub FindsNothing : ChunkAnswer → Type 0
FindsNothing (Told.Found s n from long Finds.Nothing lacks) = ⊤
FindsNothing _ = ⊥

abbrev pub FindsBytes : List ℕ → ChunkAnswer → Type 0
FindsBytes bytes (Told.Found s n from long (Finds.There found) lacks) = found ≡ bytes
FindsBytes bytes _ = ⊥

-- the first word is `kept`
abbrev pub says_kept : List Word → Bool
says_kept [] = false
says_kept (verb ∷ words) = bytes_eq verb (codes "kept")

-- the tenant is there, and none of its chunks is lacked
abbrev pub WholeAt : Option Depot → Type 0
WholeAt None = ⊥
WholeAt (Some depot) = depot.lacks ≡ false

-- the other stands in the plan, at another place of the same column
pub record StandsBeside (plan : CheckedPlan) (node : ℕ) (lost : List ℕ) (other : ℕ) : Type 0 where
  pub within : nat_lt (place_of other) (plan.grid.rows * plan.grid.cols) ≡ true
  pub other_place : (place_of other == place_of node) ≡ false
  pub column : (place_of other % plan.grid.cols == place_of node % plan.grid.cols) ≡ true
  pub stands : (node_at (plan_in lost) (place_of other) == other) ≡ true

pub record SaysAsColumn : Type 0 where
  -- who says that there is none has none, and who gives a content has it (`Answers`)
  pub misses : (answer : ChunkAnswer) (s n : ℕ) → saying_of_answer answer ≡ Some (Misses s n) → FindsNothing answer
  pub gives : (answer : ChunkAnswer) (s n : ℕ) (bytes : List ℕ) → saying_of_answer answer ≡ Some (Gives s n bytes) → FindsBytes bytes answer
  -- he lacks nothing, and his plan tells as many losses
  pub answers : (m : Chunks) (t losses : ℕ) → may_answer m t losses ≡ true → WholeAt (slice_get m.depots t) × (nat_le losses m.losses ≡ true)
  -- and he stands in the plan of who takes it (`Takes`, `Passes`)
  pub peers : (plan : CheckedPlan) (node : ℕ) (lost : List ℕ) (other : ℕ) → is_peer plan node lost other ≡ true → StandsBeside plan node lost other
  -- `kept` is told of what is kept, with the losses of the plan, and of nothing else (`Keeps`)
  pub kept : (s n p floor free : ℕ) (told : Keeping) → MatchBool (is_kept told) (kept_words s n p floor free told ≡ codes "kept" ∷ decimal s ∷ decimal n ∷ decimal p ∷ []) (says_kept (kept_words s n p floor free told) ≡ false)
  -- what the first plan gave room for a new node lacks at first (`first_world`)
  pub lacks : (node first allowed : ℕ) → is_new node ≡ true → nat_lt 0 first ≡ true → nat_lt 0 allowed ≡ true → lacks_at_first node first allowed ≡ true
  -- a tenant's line is of the chunks of the tenant whose name it has
  pub own : (plan : CheckedPlan) (node : ℕ) (lost : List ℕ) (tenants t : ℕ) (to from : Word) (body : List Word) (request : Option ChunkRequest) → coming_of_words plan node lost tenants (to ∷ from ∷ body) ≡ Asked t request → place_named plan from ≡ Some t
