-- The four facts of a tenant's run on which its law of tags stands.
--
-- 1. `settled_stays`: a tag that is settled stays settled. A server's tag of a file falls only where its copy is lost, and then its peers
--    keep the tag, one of which gives it what it has when it has the file again.
-- 2. `held_was_made`: what a server holds of a file is the first copy, or a copy with which the store round of a write of
--    the file began; `made_tags_differ`: the tags of these rounds differ.
-- 3. `store_round_settles`: once a store round of a copy has ended, its tag is settled: servers that end it keep the tag, and all their
--    peers are among them; `skip_settles`: so is the tag that servers told where the store round of the copy is left out.
-- 4. `heard_was_held`: a copy heard in a collect round was held at its server, which had the file, at a moment since the round began.
--
-- A set that ends a store round and one that ends a collect round share a server, and a server that has the file holds what it keeps. So
-- by 1, 3 and 4 the greatest copy that a collect round hears is at least each whose store round ended, or was left out, before the operation began
-- (`greatest_least` in Sessions).
use Rattle.std.proofs.Common.{◌≡◌, ℕ, true, false, Some}
use Rattle.std.specs.Prelude.{Contains, slice_get}
use Rattle.gq_grid.specs.Grid.{Grid}
use Rattle.gq_tag.specs.declared.Tag.{Tag}
use Rattle.gq_tag.specs.declared.StoredCopy.{StoredCopy}
use Rattle.gq_tag.specs.declared.Body.TheVariants.{Copy}
use Rattle.gq_tag.specs.Tag.{File, OwnMessage}
use Rattle.gq_desk.specs.declared.plans.TenantRow.{TenantRow}
use Rattle.gq_phase.specs.Phase.{Task, Reply, heard_servers, hear_reply, is_collect, reply_of, round_file, stored_copy, with_reply, with_decided, decided_copy, skips_store}
use Rattle.gq_phase.specs.Quorums.{ends_store}
use Rattle.gq_model.specs.Trace.{Trace}
use Rattle.gq_laws.proofs.Words.{current, round, heard, collected, held}
use Rattle.gq_laws.proofs.Runs.{IsRun, IsKnown, Settled, Extends, HeldBetween, Made, made, round_start, starts}
use Rattle.gq_laws.proofs.Acts.{Comes, going}
use Rattle.gq_laws.proofs.Making as making
use Rattle.gq_laws.proofs.Sessions.{stored_settled, settled_since}
use Rattle.gq_laws.proofs.Invariant as invariant
use Rattle.gq_laws.proofs.Invariant.{holds_with}
use Rattle.gq_laws.proofs.InvariantKept.{invariant_along}

pub settled_stays : (grid : Grid) (row : TenantRow) (later t : Trace) (file : File) (tag : Tag) → IsRun grid row later → Extends later t → Settled grid t file tag → Settled grid later file tag
settled_stays = settled_since

pub held_was_made : (grid : Grid) (row : TenantRow) (t : Trace) → IsRun grid row t → (server : ℕ) (file : File) → IsKnown t file (held t server file)
held_was_made grid row t run = (invariant_along grid row t run).held_known

pub made_tags_differ : (grid : Grid) (row : TenantRow) (t : Trace) → IsRun grid row t → (i j : ℕ) (x y : Made) → slice_get (made t) i ≡ Some x → slice_get (made t) j ≡ Some y → x.copy.tag ≡ y.copy.tag → i ≡ j
made_tags_differ = making.made_tags_differ

pub store_round_settles : (grid : Grid) (row : TenantRow) (t : Trace) → IsRun grid row t → (k : ℕ) (m : OwnMessage) (task : Task) → Comes t k m task → is_collect (round t k) ≡ false → ends_store grid (heard_servers (hear_reply (heard t k) (reply_of m))) ≡ true →
    Settled grid t (round_file task (round t k)) (stored_copy (collected t k)).tag
store_round_settles grid row t run k m task comes even ends =
    let all = hear_reply (heard t k) (reply_of m) in
    stored_settled grid t task (round t k) all (collected t k) (starts t k) (holds_with grid row t k m task run (invariant_along grid row t run) comes) even ends

pub skip_settles : (grid : Grid) (row : TenantRow) (t : Trace) → IsRun grid row t → (k : ℕ) (m : OwnMessage) (task : Task) → Comes t k m task → skips_store grid (with_decided (with_reply (going t k task) m)) ≡ true →
    Settled grid t (round_file task (round t k)) (decided_copy (with_reply (going t k task) m)).tag
skip_settles grid row t run k m task comes skips =
    invariant.skip_settles grid t (with_reply (going t k task) m) (starts t k) (holds_with grid row t k m task run (invariant_along grid row t run) comes) skips

pub heard_was_held : (grid : Grid) (row : TenantRow) (t : Trace) → IsRun grid row t → (k : ℕ) (task : Task) → current t k ≡ Some task → (x : Reply) (c : StoredCopy) → Contains (heard t k) x → x.body ≡ Copy c →
    HeldBetween grid (round_start t k) t x.server (round_file task (round t k)) c
heard_was_held grid row t run k task busy = ((invariant_along grid row t run).sessions k task busy).heard_held
