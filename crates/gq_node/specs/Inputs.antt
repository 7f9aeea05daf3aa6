-- What comes to one tenant's part of a node, and what the part does by it.
use Rattle.std.specs.Prelude.{ℕ, List, [], ◌∷◌, fold}
use Rattle.gq_tag.specs.declared.StoredCopy.{StoredCopy}
use Rattle.gq_tag.specs.Tag.{File, OwnMessage}
use Rattle.gq_model.specs.declared.events.Line.{Line}
use Rattle.gq_node.specs.Joining.{hears_joined, looks, gives, takes}
use Rattle.gq_node.specs.Local.{Local, Doing, asks, tells_holding, receives, ticks}
use Rattle.gq_node.specs.Looked.{tells_look}
use Rattle.gq_node.specs.Shorts.{OwnShort, takes_short}
use Rattle.gq_node.specs.Sites.{Site}

pub data Input : Type 0 where
  -- a line of the tenant, with the number that its operation is to have
  Asked : (op : ℕ) (line : Line) → Input
  -- the tenant asks what it has
  AskedPlan : Input
  -- the tenant asks, with that number, what the server has of the volume
  AskedLook : (mark volume : ℕ) → Input
  -- a letter from that node
  Brought : (from : ℕ) (letter : OwnMessage) → Input
  -- a letter in a short form from that node, where the copy that it stands for has this content
  Shortened : (from : ℕ) (short : OwnShort) (bytes : List ℕ) → Input
  -- a tick for this session
  Ticked : (session : ℕ) → Input
  -- a tick for this lane, behind those of the sessions
  Looked : (lane : ℕ) → Input
  -- that node tells that its plan has this one, and so many losses
  Joined : (from losses : ℕ) → Input
  -- that node asks for this one's copy of the file
  Fetching : (from : ℕ) (file : File) → Input
  -- that node gives its own
  Fetched : (from : ℕ) (file : File) (copy : StoredCopy) → Input

-- what the part does by it
abbrev pub does : Input → Site → Local → Doing
does (Asked op line) site local = asks op line site local
does AskedPlan site local = tells_holding site local
does (AskedLook mark volume) site local = tells_look mark volume site local
does (Brought from letter) site local = receives from letter site local
does (Shortened from short bytes) site local = (takes_short from short bytes site local).doing
does (Ticked session) site local = ticks session site local
does (Looked lane) site local = looks lane site local
does (Joined from losses) site local = hears_joined from losses site local
does (Fetching from file) site local = gives from file site local
does (Fetched from file copy) site local = takes from file copy site local

-- the part after it, and after several, in order
abbrev pub after_one : Site → Local → Input → Local
after_one site local input = (does input site local).local

abbrev pub after_all : Site → Local → List Input → Local
after_all site local inputs = fold (after_one site) local inputs

-- what it does by each of several
abbrev pub doings : Site → Local → List Input → List Doing
doings site local [] = []
doings site local (input ∷ rest) = does input site local ∷ doings site (after_one site local input) rest
