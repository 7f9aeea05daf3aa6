-- The facts that a start needs, one by one.
use Rattle.std.specs.Prelude.{◌≡◌, ℕ, ◌<◌, List, [], ◌∷◌, ◌++◌, true, false, ◌==◌, ◌&&◌, not, Bool, Some, length, map, if◌then◌else◌}
use Rattle.std.specs.List.{flat_map, range_with_len}
use Rattle.gq_tag.specs.declared.StoredCopy.{StoredCopy}
use Rattle.gq_tag.specs.Tag.{File, file_of, is_less, first_tag, first_copy}
use Rattle.gq_desk.specs.CheckedPlan.{row_at}
use Rattle.gq_desk.specs.Volumes.{account_at, limit_of}
use Rattle.gq_model.specs.Trace.{files_of}
use Rattle.gq_store.specs.Copies.{copy_at}
use Rattle.gq_node.specs.declared.output.Fact.{Fact}
use Rattle.gq_node.specs.declared.output.NeedRefused.{NeedRefused}
use Rattle.gq_node.specs.declared.output.NeedRefused.TheVariants.{Memory, Unreadable}
use Rattle.gq_cluster.specs.Facts.{OwnFact, Begun, Numbered, Kept, Had}
use Rattle.gq_node.specs.Local.{copy_fits}
use Rattle.gq_node.specs.Sites.{session_at, home_of}
use Rattle.gq_node.specs.Tables.{Tables, session_state_at, fact_of, lacks_at, is_new_node}

-- Whether the session's home is this node, and this is a new one. What is reserved for its tags is then told even where it is 0, since without
-- it a start would begin where the journal's first plan says.
abbrev pub is_own : Tables → (t k : ℕ) → Bool
is_own w t k = is_new_node w && (home_of w.plan t k == w.here.node)

-- the last numbers that are reserved for the session, of its operations and of its tags, where they are not 0
abbrev pub begun_facts : (k op : ℕ) → List OwnFact
begun_facts k op = if op == 0 then [] else Begun k op ∷ []

abbrev pub number_facts : (own : Bool) → (k number : ℕ) → List OwnFact
number_facts own k number = if (number == 0) && not own then [] else Numbered k number ∷ []

abbrev pub numbers_facts : (own : Bool) → (k op number : ℕ) → List OwnFact
numbers_facts own k op number = begun_facts k op ++ number_facts own k number

abbrev pub session_state_facts : Tables → (t k : ℕ) → List OwnFact
session_state_facts w t k = numbers_facts (is_own w t k) k (session_state_at w t k).reserved_op (session_state_at w t k).reserved_floor

-- of so many sessions
abbrev pub place_numbers : Tables → (t place : ℕ) → List OwnFact
place_numbers w t place = session_state_facts w t (session_at w.plan w.here t place)

abbrev pub session_states_facts : Tables → (t places : ℕ) → List OwnFact
session_states_facts w t places = flat_map (place_numbers w t) (range_with_len 0 places)

-- the copy of a file, where it is above the first one
abbrev pub copy_facts : File → StoredCopy → List OwnFact
copy_facts file copy = if is_less first_tag copy.tag then Kept file copy ∷ [] else []

-- of a new node, which has the file or lacks it: it was given it, whatever the copy
abbrev pub given_facts : (lacks : Bool) → File → StoredCopy → List OwnFact
given_facts lacks file copy = if lacks then [] else Had file copy ∷ []

abbrev pub file_facts : (new lacks : Bool) → File → StoredCopy → List OwnFact
file_facts new lacks file copy = if new then given_facts lacks file copy else copy_facts file copy

abbrev pub file_at : (volume place : ℕ) → File
file_at volume place = record { volume = volume; place = place }

abbrev pub place_facts : Tables → (t volume place : ℕ) → List OwnFact
place_facts w t volume place =
    file_facts (is_new_node w) (lacks_at w t (file_at volume place)) (file_at volume place) (copy_at w.store (file_of t (file_at volume place)))

-- of so many files of the volume
abbrev pub files_facts : Tables → (t volume files : ℕ) → List OwnFact
files_facts w t volume files = flat_map (place_facts w t volume) (range_with_len 0 files)

-- how many files the volume of that number has
abbrev pub files_in : Tables → (t volume : ℕ) → ℕ
files_in w t volume = files_of (account_at w.desk t).volumes volume

abbrev pub volume_facts : Tables → (t volume : ℕ) → List OwnFact
volume_facts w t volume = files_facts w t volume (files_in w t volume)

-- of all volumes
abbrev pub volumes_facts : Tables → ℕ → List OwnFact
volumes_facts w t = flat_map (volume_facts w t) (range_with_len 0 (length (account_at w.desk t).volumes))

-- of the tenant at place t
abbrev pub tenant_facts : Tables → ℕ → List OwnFact
tenant_facts w t = session_states_facts w t (row_at w.plan t).sessions ++ volumes_facts w t

-- of all tenants
abbrev pub all_facts : Tables → List Fact
all_facts w = flat_map (λ t. map (fact_of t) (tenant_facts w t)) (range_with_len 0 (length w.plan.rows))

-- a start takes the copy again: it is the first one, or it fits the limit and a number is above that of its tag
pub record IsReadable (limit : ℕ) (copy : StoredCopy) : Type 0 where
  pub above : is_less first_tag copy.tag ≡ true → copy_fits limit copy ≡ true
  pub first : is_less first_tag copy.tag ≡ false → copy ≡ first_copy

abbrev pub PlaceReadable : Tables → (t volume place : ℕ) → Type 0
PlaceReadable w t volume place = (limit : ℕ) → limit_of w.desk (file_of t (file_at volume place)) ≡ Some limit → IsReadable limit (copy_at w.store (file_of t (file_at volume place)))

-- so is each copy of the tenant's files
abbrev pub AllReadable : Tables → ℕ → Type 0
AllReadable w t = (file : File) (limit : ℕ) → limit_of w.desk (file_of t file) ≡ Some limit → IsReadable limit (copy_at w.store (file_of t file))

-- ---- why it can't be told what a start needs

-- of one copy: memory was wanting, or a start would not take it again
abbrev pub IsRefusedOf : (limit : ℕ) → StoredCopy → NeedRefused → Type 0
IsRefusedOf limit copy (Memory refused) = Unit {0}
IsRefusedOf limit copy Unreadable = IsReadable limit copy → ⊥

-- a file of a tenant of the plan has a copy that a start would not take again
pub record HasUnreadable (w : Tables) : Type 0 where
  pub tenant : ℕ
  pub within : tenant < length w.plan.rows
  pub file : File
  pub limit : ℕ
  pub there : limit_of w.desk (file_of tenant file) ≡ Some limit
  pub unreadable : IsReadable limit (copy_at w.store (file_of tenant file)) → ⊥

-- of all copies
abbrev pub IsRefusedIn : Tables → NeedRefused → Type 0
IsRefusedIn w (Memory refused) = Unit {0}
IsRefusedIn w Unreadable = HasUnreadable w
