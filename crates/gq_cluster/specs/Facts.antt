-- What must not be forgotten of a node's part, fact by fact.
--
-- A session uses the numbers of its operations in order, and so the numbers of its tags. Before it uses one that is not reserved yet, a
-- *run* of numbers is reserved by one fact, so that the numbers behind it need none. A start can't know which of a run were used: it goes
-- on behind all of them.
use Rattle.std.specs.Prelude.{ℕ, ◌+◌, ◌-◌, ◌==◌, nat_le, min, max, Option, Some, None, if◌then◌else◌}
use Rattle.gq_tag.specs.declared.StoredCopy.{StoredCopy}
use Rattle.gq_tag.specs.declared.Body.{Body}
use Rattle.gq_tag.specs.declared.Body.TheVariants.{Store}
use Rattle.gq_tag.specs.Tag.{File, is_less}
use Rattle.gq_model.specs.Told.{Told, Began, Round}
use Rattle.gq_cluster.specs.declared.runs.TheConstants.{NUMBERS_IN_A_RUN}

-- what must not be forgotten
pub data OwnFact : Type 0 where
  -- the session's operations may have the numbers up to this one
  Begun : (session op : ℕ) → OwnFact
  -- and the tags of its writes those up to this one
  Numbered : (session number : ℕ) → OwnFact
  -- a store replaced the copy of the file
  Kept : (file : File) (copy : StoredCopy) → OwnFact
  -- the server was given this copy of the file, which it lacked
  Had : (file : File) (copy : StoredCopy) → OwnFact

-- ---- numbers

-- the last numbers that are reserved for a session, of its operations and of its tags
pub record Reserved : Type 0 where
  pub op : ℕ
  pub floor : ℕ

abbrev pub none_reserved : Reserved
none_reserved = record { op = 0; floor = 0 }

-- the greatest numbers that there are
abbrev pub greatest_op : ℕ
greatest_op = 4294967295

abbrev pub greatest_number : ℕ
greatest_number = 18446744073709551615

-- the last number of the run that begins with this number: a run has NUMBERS_IN_A_RUN of them, and ends at the greatest one at the latest
abbrev pub last_of_run : (greatest number : ℕ) → ℕ
last_of_run greatest number = max number (min (number + (NUMBERS_IN_A_RUN - 1)) greatest)

-- the fact that session k, for which these are reserved, gives where it is told this, and `floor` is its own last number then: none where the
-- number that it uses is reserved
abbrev pub reserving : (k : ℕ) → Reserved → Told → (floor : ℕ) → Option OwnFact
reserving k reserved (Began op first count) floor = if nat_le op reserved.op then None else Some (Begun k (last_of_run greatest_op op))
reserving k reserved (Round round tag first count) floor = if nat_le floor reserved.floor then None else Some (Numbered k (last_of_run greatest_number floor))
reserving k reserved _ floor = None

-- what is reserved for the session behind its fact
abbrev pub reserved_by : Option OwnFact → Reserved → Reserved
reserved_by (Some (Begun k op)) reserved = record reserved { op = op }
reserved_by (Some (Numbered k number)) reserved = record reserved { floor = number }
reserved_by _ reserved = reserved

-- what is reserved for all sessions behind a fact of one of them
abbrev pub with_reserved : Option OwnFact → (ℕ → Reserved) → ℕ → Reserved
with_reserved (Some (Begun k op)) reserved j = if k == j then reserved_by (Some (Begun k op)) (reserved j) else reserved j
with_reserved (Some (Numbered k number)) reserved j = if k == j then reserved_by (Some (Numbered k number)) (reserved j) else reserved j
with_reserved _ reserved j = reserved j

-- ---- copies

-- the fact where a letter that says this of the file came to a server which held this copy
abbrev pub replaced_in : StoredCopy → File → Body → Option OwnFact
replaced_in held file (Store copy) = if is_less held.tag copy.tag then Some (Kept file copy) else None
replaced_in held file _ = None
