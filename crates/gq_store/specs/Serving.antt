-- What a server answers to a message, and what it then holds.
use Rattle.std.specs.Prelude.{ℕ, Option, Some, None, nat_lt, length, if◌then◌else◌}
use Rattle.gq_tag.specs.declared.StoredCopy.{StoredCopy}
use Rattle.gq_tag.specs.declared.Body.{Body}
use Rattle.gq_tag.specs.declared.Body.TheVariants.{Store}
use Rattle.gq_tag.specs.declared.Message.{Message}
use Rattle.gq_tag.specs.Tag.{newer_of, answer_body}
use Rattle.gq_store.specs.Copies.{StoreCopies, file_limit}
use Rattle.gq_store.specs.declared.store.ServeRefused.{ServeRefused}
use Rattle.gq_store.specs.declared.store.ServeRefused.TheVariants.{File, Long}

-- the answer to a message, in the same round
abbrev pub server_reply : StoredCopy → Message → Message
server_reply held m = record m { body = answer_body held m.body }

-- the copy that is held after a message of that body came
abbrev pub held_after : StoredCopy → Body → StoredCopy
held_after held (Store copy) = newer_of held copy
held_after held _ = held

-- why a body isn't served, in a file of that limit in bytes
abbrev pub body_fault : ℕ → Body → Option ServeRefused
body_fault limit (Store copy) = if nat_lt limit (length copy.bytes) then Some Long else None
body_fault limit _ = None

abbrev pub fault_in : Option ℕ → Body → Option ServeRefused
fault_in None body = Some File
fault_in (Some limit) body = body_fault limit body

-- why the message isn't served, want of memory apart
abbrev pub serve_fault : StoreCopies → Message → Option ServeRefused
serve_fault store m = fault_in (file_limit store m.file) m.body
