-- A request takes effect once, however often it comes.
use Rattle.std.specs.Prelude.{◌≡◌, ℕ, ◌+◌, List, [], ◌∷◌, length, Bool, true, false, ◌&&◌, ◌==◌, nat_le, Option, Some, None, if◌then◌else◌}
use Rattle.std.specs.List.{range_with_len}
use Rattle.gq_model.specs.declared.events.Line.{Line}
use Rattle.gq_node.specs.Inputs.{Input, Asked, does, after_one, after_all, doings}
use Rattle.gq_node.specs.Local.{Local, Doing, asker, begins}
use Rattle.gq_node.specs.Sites.{Site}

-- ---- a request that comes again

-- it would begin an operation of its session, and its number is not above that of the session's last one
abbrev pub comes_again : Local → Input → Bool
comes_again local (Asked op line) = by (asker line)
  where
    by : Option ℕ → Bool
    by None = false
    by (Some k) = begins line && nat_le op (local.residents k).session.op
comes_again local _ = false

-- all stays as it is, nothing is sent, and nothing is to be kept
pub record LeavesAll (local : Local) (doing : Doing) : Type 0 where
  pub part : doing.local ≡ local
  pub letters : doing.letters ≡ []
  pub transfer : doing.transfer ≡ None
  pub fact : doing.fact ≡ None

-- so it is at each request that comes again
abbrev pub AllAgainLeave : Type 0
AllAgainLeave = (site : Site) (local : Local) (input : Input) → comes_again local input ≡ true → LeavesAll local (does input site local)

-- ---- what comes, without the requests that come again

-- only those come that did not come before
abbrev pub first_inputs : Site → Local → List Input → List Input
first_inputs site local [] = []
first_inputs site local (input ∷ rest) =
    if comes_again local input then first_inputs site local rest
    else input ∷ first_inputs site (after_one site local input) rest

-- all inputs come; what is listed is what those do that did not come before
abbrev pub first_doings : Site → Local → List Input → List Doing
first_doings site local [] = []
first_doings site local (input ∷ rest) =
    if comes_again local input then first_doings site local rest
    else does input site local ∷ first_doings site (after_one site local input) rest

-- requests that come again change nothing of what is done by all others, nor of the part in the end
pub record TakesOnce (site : Site) (local : Local) (inputs : List Input) : Type 0 where
  pub doings_are : first_doings site local inputs ≡ doings site local (first_inputs site local inputs)
  pub part : after_all site local inputs ≡ after_all site local (first_inputs site local inputs)

abbrev pub AllTakeOnce : Type 0
AllTakeOnce = (site : Site) (local : Local) (inputs : List Input) → TakesOnce site local inputs

-- ---- each number begins once

-- the number of the operation of session k that began where the second part comes of the first, if one did: the session has another
-- last number
abbrev pub begun_by : ℕ → (before after : Local) → Option ℕ
begun_by k before after = if (after.residents k).session.op == (before.residents k).session.op then None else Some (after.residents k).session.op

-- and the numbers of those that began, in order
abbrev pub with_number : Option ℕ → List ℕ → List ℕ
with_number None numbers = numbers
with_number (Some op) numbers = op ∷ numbers

abbrev pub numbers_begun : ℕ → Local → List Doing → List ℕ
numbers_begun k before [] = []
numbers_begun k before (doing ∷ rest) = with_number (begun_by k before doing.local) (numbers_begun k doing.local rest)

-- they are those that follow the number of the session's last operation, each one once
abbrev pub AllBeginOnce : Type 0
AllBeginOnce = (site : Site) (local : Local) (inputs : List Input) (k : ℕ) →
    let numbers : List ℕ = numbers_begun k local (doings site local inputs) in
    numbers ≡ range_with_len ((local.residents k).session.op + 1) (length numbers)

-- and it is the number of the request by which it begins
abbrev pub AllBeginNamed : Type 0
AllBeginNamed = (site : Site) (local : Local) (op : ℕ) (line : Line) (k n : ℕ) → begins line ≡ true → begun_by k local (does (Asked op line) site local).local ≡ Some n → n ≡ op
