-- What is known of a run stays bounded, whatever line comes.
use Rattle.std.proofs.Common.{◌≡◌, ℕ, zero, suc, ◌+◌, ◌<◌, ◌≤◌, Bool, true, false, List, [], ◌∷◌, length, refl, sym, subst, Option, Some, None, arith, append-nil}
use Rattle.std.specs.Prelude.{option_map, not, nat_lt, if◌then◌else◌}
use Rattle.std.specs.List.{list_all}
use Rattle.std.proofs.lemmas.Bool.{and_parts}
use Rattle.std.proofs.lemmas.Bool.Decides.{nat_tests}
use Rattle.gq_grid.specs.Grid.{Grid, Servers, choose}
use Rattle.gq_tag.specs.declared.TheConstants.{MOST_FILES}
use Rattle.gq_tag.specs.Tag.{OwnMessage}
use Rattle.gq_desk.specs.declared.plans.TenantRow.{TenantRow}
use Rattle.gq_desk.specs.declared.volumes.VolumeRow.{VolumeRow}
use Rattle.gq_desk.specs.Plans.{is_in}
use Rattle.gq_desk.specs.Volumes.{is_sized, free_of}
use Rattle.gq_phase.specs.Phase.{Task, Listing, Operation, round_file, round_quorum, resent}
use Rattle.gq_model.specs.declared.events.Line.{Line}
use Rattle.gq_model.specs.declared.events.Line.TheVariants.{Bad, Quorum, NewVolume, Volumes, Write, Read, List as ListFiles, Deliver, Lose, Retry, Abandon}
use Rattle.gq_model.specs.declared.events.Refusal.{Refusal}
use Rattle.gq_model.specs.declared.events.Refusal.TheVariants.{NoQuorum}
use Rattle.gq_model.specs.Told.{Told, Refused, Resent, VolumesAre}
use Rattle.gq_model.specs.Trace.{Own, State, changed, account_of, files_of, operation, operation_with}
use Rattle.gq_model.specs.Lone.{Step, Cause, first_cause, session_causes, session_step, asked_step, unless, no_session, busy, idle, no_volume, no_file, too_long, no_quorum, quiet, entry_of, retry_step, choice_told, is_refusal}
use Rattle.gq_world.specs.Bounds.{room, TaskFits, volume_of, IsBounded}
use Rattle.gq_world.specs.Machine.{state_after_turn}
use Rattle.gq_world.proofs.Composing.{KeepsBounds}
use Rattle.gq_world.proofs.Keeping.{bounded_more, begun_bounded}
use Rattle.gq_world.proofs.BoundedSteps.{open_bounded, lose_bounded, retried_bounded, abandoned_bounded}
use Rattle.gq_world.proofs.Steps.{same_bounded, deliver_bounded, file_there, has_room}
use Rattle.gq_world.proofs.Requests.{in_range, not_false, first_none, write_task, read_task, begun_state, first_messages, own_begins, other_stays, writes, reads, lists}

-- ---- a line that leaves every question as it was

-- what holds of the old and of the new holds after it, whether it is refused or not
pub either_state : (P : State → Type 0) (b : Bool) (old new : State) → P old → P new → P (if b then old else new)
either_state P true old new before after = before
either_state P false old new before after = after

pub keeps_bad : KeepsBounds Bad
keeps_bad grid row n known h = bounded_more grid row n known.state h

pub keeps_quorum : KeepsBounds Quorum
keeps_quorum grid row n known h =
    let state : State = known.state in
    let told : Told = choice_told grid (choose grid state.up) in
    let more : IsBounded grid row (n + 1) state = bounded_more grid row n state h in
    let after : State = changed (entry_of state (Own Quorum) (quiet told)) state in
    either_state (IsBounded grid row (n + 1)) (is_refusal told) state after more
    (same_bounded grid row (n + 1) state after more refl (append-nil state.sent) (λ server file. refl) (λ k. refl))

pub keeps_volumes : KeepsBounds Volumes
keeps_volumes grid row n known h =
    let state : State = known.state in
    let after : State = changed (entry_of state (Own Volumes) (quiet (VolumesAre (free_of (account_of row state)) state.volumes))) state in
    same_bounded grid row (n + 1) state after (bounded_more grid row n state h) refl (append-nil state.sent) (λ server file. refl) (λ k. refl)

-- ---- a session's line

-- where it is refused nothing changes
asks_bounded : (grid : Grid) (row : TenantRow) (n : ℕ) (state : State) (line : Line) → IsBounded grid row n state →
    (first_cause (session_causes grid row state line) ≡ None → IsBounded grid row (n + 1) (state_after_turn state (Own line) (session_step grid state line))) →
    IsBounded grid row (n + 1) (state_after_turn state (Own line) (asked_step grid row state line))
asks_bounded grid row n state line h goes = by (first_cause (session_causes grid row state line)) refl
  where
    S : Option Refusal → Type 0
    S o = IsBounded grid row (n + 1) (state_after_turn state (Own line) (unless o (session_step grid state line)))

    by : (o : Option Refusal) → first_cause (session_causes grid row state line) ≡ o → S (first_cause (session_causes grid row state line))
    by (Some word) is = subst S (sym is) (bounded_more grid row n state h)
    by None is = subst S (sym is) (goes is)

-- the session is one of the tenant's
session_there : (row : TenantRow) (k : ℕ) → not (is_in 1 row.sessions k) ≡ false → (1 ≤ k) × (k ≤ row.sessions)
session_there row k is = in_range row.sessions k (not_false (is_in 1 row.sessions k) is)

-- ---- a request

-- it begins its task
begins_bounded : (grid : Grid) (row : TenantRow) (n : ℕ) (state : State) (k : ℕ) (task : Task) → IsBounded grid row n state → 1 ≤ k → k ≤ row.sessions → TaskFits state.volumes task → (round_file task 1).place < files_of state.volumes (volume_of task) →
    IsBounded grid row (n + 1) (begun_state state k task (first_messages grid state k task))
begins_bounded grid row n state k task h low high fits first =
    let new : List OwnMessage = first_messages grid state k task in
    begun_bounded grid row n k state (begun_state state k task new) task h low high fits first refl refl (λ server file. refl) (own_begins state k task new) (λ j other. other_stays state k j task new other)

pub keeps_write : (k v f : ℕ) (bytes : List ℕ) → KeepsBounds (Write k v f bytes)
keeps_write k v f bytes grid row n known h = asks_bounded grid row n known.state (Write k v f bytes) h (λ is.
    let state : State = known.state in
    let c5 : List Cause = no_quorum grid state 1 ∷ [] in
    let c4 : List Cause = too_long state v f bytes ∷ c5 in
    let c3 : List Cause = no_file state v f ∷ c4 in
    let c2 : List Cause = no_volume state v ∷ c3 in
    let c1 : List Cause = busy state k ∷ c2 in
    let a = first_none (no_session row k) c1 is in
    let b = first_none (busy state k) c2 a.1 in
    let c = first_none (no_volume state v) c3 b.1 in
    let d = first_none (no_file state v f) c4 c.1 in
    let e = first_none (too_long state v f bytes) c5 d.1 in
    let range = session_there row k a.0 in
    let there : f < files_of state.volumes v = file_there state.volumes v f d.0 in
    let long : length bytes ≤ room state.volumes v = has_room state.volumes v f (length bytes) there e.0 in
    subst (IsBounded grid row (n + 1)) (sym (writes state k v f bytes (session_step grid state (Write k v f bytes))))
    (begins_bounded grid row n state k (write_task v f bytes) h range.0 range.1 (there, long) there))

pub keeps_read : (k v f : ℕ) → KeepsBounds (Read k v f)
keeps_read k v f grid row n known h = asks_bounded grid row n known.state (Read k v f) h (λ is.
    let state : State = known.state in
    let c4 : List Cause = no_quorum grid state 1 ∷ [] in
    let c3 : List Cause = no_file state v f ∷ c4 in
    let c2 : List Cause = no_volume state v ∷ c3 in
    let c1 : List Cause = busy state k ∷ c2 in
    let a = first_none (no_session row k) c1 is in
    let b = first_none (busy state k) c2 a.1 in
    let c = first_none (no_volume state v) c3 b.1 in
    let d = first_none (no_file state v f) c4 c.1 in
    let range = session_there row k a.0 in
    let there : f < files_of state.volumes v = file_there state.volumes v f d.0 in
    subst (IsBounded grid row (n + 1)) (sym (reads state k v f (session_step grid state (Read k v f))))
    (begins_bounded grid row n state k (read_task v f) h range.0 range.1 there there))

-- each volume has a file, and no more than it may
pub sized_files : (most : ℕ) (volumes : List VolumeRow) (v : ℕ) → list_all (is_sized most) volumes ≡ true → v < length volumes → (1 ≤ files_of volumes v) × (files_of volumes v ≤ MOST_FILES)
sized_files most [] v sized within = absurd (omega arith)
sized_files most (volume ∷ volumes) zero sized within =
    let parts = and_parts (is_sized most volume) (list_all (is_sized most) volumes) sized in
    let size = and_parts (is_in 1 MOST_FILES volume.files) (is_in 1 most volume.blocks) parts.0 in
    in_range MOST_FILES volume.files size.0
sized_files most (volume ∷ volumes) (suc v) sized within = sized_files most volumes v (and_parts (is_sized most volume) (list_all (is_sized most) volumes) sized).1 (omega arith)

pub volume_there : (volumes : List VolumeRow) (v : ℕ) → not (nat_lt v (length volumes)) ≡ false → v < length volumes
volume_there volumes v is = grind (arith, nat_tests)

pub keeps_list : (k v : ℕ) → KeepsBounds (ListFiles k v)
keeps_list k v grid row n known h = asks_bounded grid row n known.state (ListFiles k v) h (λ is.
    let state : State = known.state in
    let c3 : List Cause = no_quorum grid state 1 ∷ [] in
    let c2 : List Cause = no_volume state v ∷ c3 in
    let c1 : List Cause = busy state k ∷ c2 in
    let a = first_none (no_session row k) c1 is in
    let b = first_none (busy state k) c2 a.1 in
    let c = first_none (no_volume state v) c3 b.1 in
    let range = session_there row k a.0 in
    let files : ℕ = files_of state.volumes v in
    let first : (round_file (Listing v files) 1).place < files = (sized_files row.most_blocks state.volumes v h.sized (volume_there state.volumes v c.0)).0 in
    subst (IsBounded grid row (n + 1)) (sym (lists state k v files (session_step grid state (ListFiles k v)) refl))
    (begins_bounded grid row n state k (Listing v files) h range.0 range.1 (omega arith) first))

-- ---- a retry

no_retry : (grid : Grid) (state : State) (o : Operation) → round_quorum grid state.up o.round ≡ None → retry_step grid state (Some o) ≡ quiet (Refused NoQuorum)
no_retry grid state o is = rw is refl

retries : (grid : Grid) (state : State) (o : Operation) (quorum : Servers) → round_quorum grid state.up o.round ≡ Some quorum →
    retry_step grid state (Some o) ≡ record { told = Resent (length state.sent) (length (resent grid o quorum)); new = resent grid o quorum }
retries grid state o quorum is = rw is refl

pub keeps_retry : (k : ℕ) → KeepsBounds (Retry k)
keeps_retry k grid row n known h = asks_bounded grid row n known.state (Retry k) h (λ is.
    let state : State = known.state in
    let c2 : List Cause = no_quorum grid state (state.session k).round ∷ [] in
    let c1 : List Cause = idle state k ∷ c2 in
    let range = session_there row k (first_none (no_session row k) c1 is).0 in
    again range.0 range.1 (state.session k).current refl)
  where
    S : Step → Type 0
    S s = IsBounded grid row (n + 1) (state_after_turn known.state (Own (Retry k)) s)

    more : IsBounded grid row (n + 1) known.state
    more = bounded_more grid row n known.state h

    of_task : 1 ≤ k → k ≤ row.sessions → (task : Task) → (known.state.session k).current ≡ Some task → (q : Option Servers) → round_quorum grid known.state.up (known.state.session k).round ≡ q →
        S (retry_step grid known.state (Some (operation_with k (known.state.session k) task)))
    of_task low high task is None e = subst S (sym (no_retry grid known.state (operation_with k (known.state.session k) task) e)) more
    of_task low high task is (Some quorum) e =
        let o : Operation = operation_with k (known.state.session k) task in
        subst S (sym (retries grid known.state o quorum e))
        (retried_bounded grid row n known.state k task quorum (Resent (length known.state.sent) (length (resent grid o quorum))) h low high is)

    again : 1 ≤ k → k ≤ row.sessions → (current : Option Task) → (known.state.session k).current ≡ current → S (retry_step grid known.state (operation known.state k))
    again low high None is = subst (λ c. S (retry_step grid known.state (option_map (operation_with k (known.state.session k)) c))) (sym is) more
    again low high (Some task) is = subst (λ c. S (retry_step grid known.state (option_map (operation_with k (known.state.session k)) c))) (sym is)
        (of_task low high task is (round_quorum grid known.state.up (known.state.session k).round) refl)

-- ---- an abandonment

pub keeps_abandon : (k : ℕ) → KeepsBounds (Abandon k)
keeps_abandon k grid row n known h = asks_bounded grid row n known.state (Abandon k) h (λ is. abandoned_bounded grid row n known.state k h)

-- ---- any line

pub keeps_bounds : (line : Line) → KeepsBounds line
keeps_bounds Bad = keeps_bad
keeps_bounds Quorum = keeps_quorum
keeps_bounds Volumes = keeps_volumes
keeps_bounds (NewVolume files blocks) = λ grid row n known h. open_bounded grid row n known files blocks h
keeps_bounds (Write k v f bytes) = keeps_write k v f bytes
keeps_bounds (Read k v f) = keeps_read k v f
keeps_bounds (ListFiles k v) = keeps_list k v
keeps_bounds (Deliver number) = λ grid row n known h. deliver_bounded grid row n known number h
keeps_bounds (Lose number) = λ grid row n known h. lose_bounded grid row n known number h
keeps_bounds (Retry k) = keeps_retry k
keeps_bounds (Abandon k) = keeps_abandon k
