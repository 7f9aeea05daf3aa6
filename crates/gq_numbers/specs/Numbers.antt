-- The sessions of a new node write with numbers of tags above all that a lost node used.
use Rattle.std.specs.Prelude.{◌≡◌, ℕ, ◌*◌, ◌<◌, ◌≤◌, List, [], ◌∷◌, length, true, false, Some, Contains, ⊤}
use Rattle.gq_grid.specs.Grid.{Servers}
use Rattle.gq_tag.specs.declared.Body.{Body}
use Rattle.gq_tag.specs.declared.Body.TheVariants.{Ask, Copy, Store, Stored}
use Rattle.gq_tag.specs.declared.StoredCopy.{StoredCopy}
use Rattle.gq_tag.specs.declared.Tag.{Tag}
use Rattle.gq_tag.specs.Tag.{File, OwnMessage, to_server}
use Rattle.gq_desk.specs.Plans.{is_in}
use Rattle.gq_phase.specs.Phase.{Writing}
use Rattle.gq_model.specs.Told.{Round}
use Rattle.gq_cluster.specs.Cluster.{Setting, Part, Comes, step_of}
use Rattle.gq_replace.specs.declared.numbers.TheConstants.{NUMBERS_OF_A_LOSS}
use Rattle.gq_replace.specs.Plans.{IsChain, generation, is_replaced}
use Rattle.gq_replace.specs.Fleet.{World, Fleet, Posted, FleetStep, Begins, StartsAgain, Does, Answers, Hears, Gives, Takes, new_fleet, plan_of, first_number, after_fleet_step, fleet_after, AllMayHappen}

-- ---- what a node used

-- a letter that brings a copy brings one of a number below this
abbrev pub BringsBelow : (bound : ℕ) → Body → Type 0
BringsBelow bound (Copy copy) = copy.tag.number < bound
BringsBelow bound (Store copy) = copy.tag.number < bound
BringsBelow bound Ask = ⊤
BringsBelow bound Stored = ⊤

-- so it is of all letters that the node wrote, of the copies that came to it, and of what is reserved for sessions there
pub record IsBelow (u : Fleet) (node bound : ℕ) : Type 0 where
  pub letters : (x : Posted) → Contains u.posted x → x.from ≡ node → BringsBelow bound x.letter.body
  pub copies : (file : File) (copy : StoredCopy) → Contains ((u.part node).brought file) copy → copy.tag.number < bound
  pub reserved : (k : ℕ) → ((u.part node).reserved k).floor < bound

-- ---- what is asked

-- no node that was started has a plan of so many losses
abbrev pub FewLosses : World → Fleet → (losses : ℕ) → Type 0
FewLosses w u losses = (node : ℕ) → u.begun node ≡ true → length (plan_of w u node).lost < losses

-- Fewer than NUMBERS_OF_A_LOSS numbers are used from one loss to the next: while no plan tells of so many losses, all numbers are below so many times
-- that.
abbrev pub NumbersLast : World → Fleet → Type 0
NumbersLast w u = (losses node : ℕ) → 0 < losses → FewLosses w u losses → IsBelow u node (losses * NUMBERS_OF_A_LOSS)

-- the node at which a step is done
abbrev pub node_of : FleetStep → ℕ
node_of (Begins node plan) = node
node_of (StartsAgain node plan) = node
node_of (Does node act) = node
node_of (Answers node new) = node
node_of (Hears node other) = node
node_of (Gives peer node file) = peer
node_of (Takes node peer file copy) = node

-- no node that was started has a plan which says that this one is replaced
abbrev pub IsNotSaid : World → Fleet → FleetStep → Type 0
IsNotSaid w u step = (node : ℕ) → u.begun node ≡ true → is_replaced (plan_of w u node) (node_of step) ≡ false

-- at each step, from this fleet on
abbrev pub AllAsked : World → Fleet → List FleetStep → Type 0
AllAsked w u [] = NumbersLast w u
AllAsked w u (step ∷ steps) = NumbersLast w u × IsNotSaid w u step × AllAsked w (after_fleet_step w u step) steps

-- ---- the law

-- by the letter a write of its session goes on to store, with this tag
pub record Stores (s : Setting) (part : Part) (letter : OwnMessage) (aim : Servers) (tag : Tag) : Type 0 where
  pub reply : to_server letter.body ≡ false
  pub file : File
  pub bytes : List ℕ
  pub writes : (part.session letter.session).current ≡ Some (Writing file bytes)
  pub round : ℕ
  pub first : ℕ
  pub count : ℕ
  pub told : (step_of s part (Comes letter aim)).told ≡ Round round (Some tag) first count

-- all numbers of the lost node are below this; those of the new one's sessions are not, and the tags of their writes are above it
pub record IsAbove (w : World) (u : Fleet) (new lost bound : ℕ) : Type 0 where
  pub below : IsBelow u lost bound
  pub floors : (k : ℕ) → w.setting.home k ≡ new → is_in 1 w.setting.row.sessions k ≡ true → bound ≤ ((u.part new).session k).floor
  pub writes : (letter : OwnMessage) (aim : Servers) (tag : Tag) → w.setting.home letter.session ≡ new → is_in 1 w.setting.row.sessions letter.session ≡ true → Stores w.setting (u.part new) letter aim tag → bound < tag.number

-- so it is at any time of a node that was begun, and one that its first plan says is replaced
abbrev pub AllAbove : Type 0
AllAbove = (w : World) (steps : List FleetStep) (new lost : ℕ) → IsChain w.plans → AllMayHappen w new_fleet steps → AllAsked w new_fleet steps →
    let u : Fleet = fleet_after w steps in
    u.begun new ≡ true → 0 < generation new → is_replaced (w.plans (u.first_plan new)) lost ≡ true → IsAbove w u new lost (first_number w new (u.first_plan new))
