-- Tags, copies, the greatest of several copies, and messages.
use Rattle.std.specs.Prelude.{ℕ, List, [], Bool, true, false, ◌||◌, ◌&&◌, ◌==◌, not, nat_lt, find, Option, unwrap_or, if◌then◌else◌}
use Rattle.std.specs.List.{list_all}
use Rattle.std.specs.declared.cmp.Ordering.{Ordering}
use Rattle.std.specs.declared.cmp.Ordering.TheVariants.{Less, Equal, Greater}
use Rattle.gq_tag.specs.declared.Tag.{Tag}
use Rattle.gq_tag.specs.declared.StoredCopy.{StoredCopy}
use Rattle.gq_tag.specs.declared.FileId.{FileId}
use Rattle.gq_tag.specs.declared.Body.{Body}
use Rattle.gq_tag.specs.declared.Body.TheVariants.{Ask, Copy, Store, Stored}
use Rattle.gq_tag.specs.declared.Message.{Message}

-- ---- the order of tags

-- tags are ordered by number, then by session
abbrev pub is_less : Tag → Tag → Bool
is_less a b = nat_lt a.number b.number || (a.number == b.number && nat_lt a.session b.session)

-- how two tags compare in this order
abbrev pub tag_cmp : Tag → Tag → Ordering
tag_cmp a b = if is_less a b then Less else if is_less b a then Greater else Equal

-- two tags are the same
abbrev pub equal_tags : Tag → Tag → Bool
equal_tags a b = (a.number == b.number) && (a.session == b.session)

-- ---- copies

-- a file's first copy: tag (0,0), and empty
abbrev pub first_tag : Tag
first_tag = record { number = 0; session = 0 }

abbrev pub first_copy : StoredCopy
first_copy = record { tag = first_tag; bytes = [] }

-- no copy of the list has a greater tag
abbrev pub is_unexceeded : List StoredCopy → StoredCopy → Bool
is_unexceeded copies copy = list_all (λ other. not (is_less copy.tag other.tag)) copies

-- the greatest copy of a list: the earliest of those whose tag no other exceeds, none where the
-- list is empty
abbrev pub latest : List StoredCopy → Option StoredCopy
latest copies = find (is_unexceeded copies) copies

-- the same, with the first copy in place of none
abbrev pub greatest : List StoredCopy → StoredCopy
greatest copies = unwrap_or (latest copies) first_copy

-- the second copy where its tag is greater, else the first
abbrev pub newer_of : StoredCopy → StoredCopy → StoredCopy
newer_of a b = if is_less a.tag b.tag then b else a

-- ---- one tenant's files and messages

-- a file of one tenant
pub record File : Type 0 where
  pub volume : ℕ
  pub place : ℕ

abbrev pub is_file : File → File → Bool
is_file a b = (a.volume == b.volume) && (a.place == b.place)

-- a message of one tenant, which does not name the tenant
pub record OwnMessage : Type 0 where
  pub session : ℕ
  pub op : ℕ
  pub round : ℕ
  pub server : ℕ
  pub file : File
  pub body : Body

-- the file without its tenant, and with the tenant in that place of the plan
abbrev pub file_place : FileId → File
file_place file = record { volume = file.volume; place = file.file }

abbrev pub file_of : ℕ → File → FileId
file_of tenant f = record { tenant = tenant; volume = f.volume; file = f.place }

-- the message without its tenant, and with the tenant in that place of the plan
abbrev pub own_message : Message → OwnMessage
own_message m =
    record { session = m.session; op = m.op; round = m.round; server = m.server; file = file_place m.file; body = m.body }

abbrev pub message_of : ℕ → OwnMessage → Message
message_of tenant m =
    record { tenant = tenant; session = m.session; op = m.op; round = m.round; server = m.server; file = file_of tenant m.file; body = m.body }

-- asks and stores go to a server
abbrev pub to_server : Body → Bool
to_server Ask = true
to_server (Copy copy) = false
to_server (Store copy) = true
to_server Stored = false

-- what a server that holds the copy answers: stored to a store, its copy to an ask
abbrev pub answer_body : StoredCopy → Body → Body
answer_body copy (Store stored) = Stored
answer_body copy _ = Copy copy
