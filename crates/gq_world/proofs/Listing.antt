-- A listing begins with the files of its volume.
use Rattle.std.proofs.Common.{◌≡◌, ◌∙◌, ℕ, zero, suc, ◌-◌, ◌<◌, ◌≤◌, List, [], ◌∷◌, length, ap, sym, subst, None, arith, refl}
use Rattle.std.specs.Prelude.{not, nat_lt, is_some, slice_index_or}
use Rattle.gq_tag.specs.declared.TheConstants.{MOST_FILES}
use Rattle.gq_desk.specs.CheckedPlan.{row_at}
use Rattle.gq_desk.specs.declared.volumes.VolumeRow.{VolumeRow}
use Rattle.gq_desk.specs.Plans.{is_in}
use Rattle.gq_desk.specs.Volumes.{Account, account_at}
use Rattle.gq_model.specs.declared.events.Refusal.TheVariants.{NoSession, Busy, NoVolume}
use Rattle.gq_model.specs.Trace.{files_of}
use Rattle.gq_model.specs.Lone.{Cause, first_cause}
use Rattle.gq_world.specs.Tables.{Tables, IsReady, session_states_at, session_state_in}
use Rattle.gq_world.specs.Asking.{volume_causes}
use Rattle.gq_world.proofs.AllLines.{sized_files, volume_there}
use Rattle.gq_world.proofs.Requests.{first_none}

-- where no cause holds there is the volume
listed_there : (w : Tables) (t k v : ℕ) → first_cause (volume_causes w t k v) ≡ None → v < length (account_at w.desk t).volumes
listed_there w t k v is =
    let volumes : List VolumeRow = (account_at w.desk t).volumes in
    let c2 : List Cause = (not (nat_lt v (length volumes)), NoVolume) ∷ [] in
    let c1 : List Cause = (is_some (session_state_in (session_states_at w.session_states t) (k - 1)).operation, Busy) ∷ c2 in
    let a = first_none (not (is_in 1 (row_at w.plan t).sessions k), NoSession) c1 is in
    let b = first_none (is_some (session_state_in (session_states_at w.session_states t) (k - 1)).operation, Busy) c2 a.1 in
    let c = first_none (not (nat_lt v (length volumes)), NoVolume) [] b.1 in
    volume_there volumes v c.0

-- the volume that is read has the files of its number
files_at : (volumes : List VolumeRow) (v : ℕ) (none : VolumeRow) → v < length volumes → (slice_index_or volumes v none).files ≡ files_of volumes v
files_at [] v none within = absurd (omega arith)
files_at (x ∷ xs) zero none within = refl
files_at (x ∷ xs) (suc v) none within = files_at xs v none (omega arith)

-- how many files the code reads that the volume has
pub files_read : (w : Tables) (t k v : ℕ) (desk : List Account) (volumes : List VolumeRow) (none : VolumeRow) → first_cause (volume_causes w t k v) ≡ None → desk ≡ w.desk → volumes ≡ (account_at desk t).volumes →
    (slice_index_or volumes v none).files ≡ files_of (account_at w.desk t).volumes v
files_read w t k v desk volumes none asked desk_is volumes_is =
    let there : volumes ≡ (account_at w.desk t).volumes = volumes_is ∙ ap (λ x. (account_at x t).volumes) desk_is in
    ap (λ x. (slice_index_or x v none).files) there ∙ files_at (account_at w.desk t).volumes v none (listed_there w t k v asked)

-- it has a file, and no more than it may
pub files_few : (w : Tables) (t k v : ℕ) → IsReady w t → first_cause (volume_causes w t k v) ≡ None → (1 ≤ files_of (account_at w.desk t).volumes v) × (files_of (account_at w.desk t).volumes v ≤ MOST_FILES)
files_few w t k v ready asked =
    let same : (account_at w.desk t).volumes ≡ ready.known.state.volumes = ap (λ (a : Account). a.volumes) ready.agrees.account in
    let there : v < length ready.known.state.volumes = subst (λ volumes. v < length volumes) same (listed_there w t k v asked) in
    subst (λ volumes. (1 ≤ files_of volumes v) × (files_of volumes v ≤ MOST_FILES)) (sym same) (sized_files (row_at w.plan t).most_blocks ready.known.state.volumes v ready.bounded.sized there)
