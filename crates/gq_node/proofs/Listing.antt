-- A listing begins with the files of its volume.
use Rattle.std.proofs.Common.{◌≡◌, ℕ, zero, suc, ◌<◌, ◌≤◌, List, [], ◌∷◌, length, None, true, false, arith, refl}
use Rattle.std.specs.Prelude.{not, nat_lt, is_some, slice_index_or}
use Rattle.std.specs.List.{list_all}
use Rattle.std.proofs.lemmas.Bool.{and_parts}
use Rattle.std.proofs.lemmas.Bool.Decides.{nat_tests}
use Rattle.gq_tag.specs.declared.TheConstants.{MOST_FILES}
use Rattle.gq_desk.specs.declared.volumes.VolumeRow.{VolumeRow}
use Rattle.gq_desk.specs.Plans.{is_in}
use Rattle.gq_desk.specs.Volumes.{account_at, is_sized}
use Rattle.gq_model.specs.declared.events.Refusal.TheVariants.{NoSession, Busy, NoVolume}
use Rattle.gq_model.specs.Trace.{files_of}
use Rattle.gq_model.specs.Lone.{Cause, first_cause}
use Rattle.gq_node.specs.Asking.{volume_causes}
use Rattle.gq_node.specs.Lanes.{blocks_of}
use Rattle.gq_node.specs.Sites.{site_of, has_session}
use Rattle.gq_node.specs.Tables.{Tables, session_state_at}
use Rattle.gq_node.proofs.Placing.{in_range}
use Rattle.gq_node.proofs.Asking.{first_none}

volume_there : (volumes : List VolumeRow) (v : ℕ) → not (nat_lt v (length volumes)) ≡ false → v < length volumes
volume_there volumes v is = grind (arith, nat_tests)

-- where no cause holds there is the volume
pub listed_there : (w : Tables) (t k v : ℕ) → first_cause (volume_causes w t k v) ≡ None → v < length (account_at w.desk t).volumes
listed_there w t k v is =
    let volumes : List VolumeRow = (account_at w.desk t).volumes in
    let c2 : List Cause = (not (nat_lt v (length volumes)), NoVolume) ∷ [] in
    let c1 : List Cause = (is_some (session_state_at w t k).operation, Busy) ∷ c2 in
    let a = first_none (not (has_session (site_of w.plan w.here t) k), NoSession) c1 is in
    let b = first_none (is_some (session_state_at w t k).operation, Busy) c2 a.1 in
    let c = first_none (not (nat_lt v (length volumes)), NoVolume) [] b.1 in
    volume_there volumes v c.0

-- the volume that is read has the files of its number
pub files_at : (volumes : List VolumeRow) (v : ℕ) (none : VolumeRow) → v < length volumes → (slice_index_or volumes v none).files ≡ files_of volumes v
files_at [] v none within = absurd (omega arith)
files_at (x ∷ xs) zero none within = refl
files_at (x ∷ xs) (suc v) none within = files_at xs v none (omega arith)

-- and the blocks
pub blocks_at : (volumes : List VolumeRow) (v : ℕ) (none : VolumeRow) → v < length volumes → (slice_index_or volumes v none).blocks ≡ blocks_of volumes v
blocks_at [] v none within = absurd (omega arith)
blocks_at (x ∷ xs) zero none within = refl
blocks_at (x ∷ xs) (suc v) none within = blocks_at xs v none (omega arith)

-- each volume has a file, and no more than it may
pub sized_files : (most : ℕ) (volumes : List VolumeRow) (v : ℕ) → list_all (is_sized most) volumes ≡ true → v < length volumes → (1 ≤ files_of volumes v) × (files_of volumes v ≤ MOST_FILES)
sized_files most [] v sized within = absurd (omega arith)
sized_files most (volume ∷ volumes) zero sized within =
    let parts = and_parts (is_sized most volume) (list_all (is_sized most) volumes) sized in
    let size = and_parts (is_in 1 MOST_FILES volume.files) (is_in 1 most volume.blocks) parts.0 in
    in_range MOST_FILES volume.files size.0
sized_files most (volume ∷ volumes) (suc v) sized within = sized_files most volumes v (and_parts (is_sized most volume) (list_all (is_sized most) volumes) sized).1 (omega arith)
