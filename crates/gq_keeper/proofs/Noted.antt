-- What a crash may leave of a file over notes of it.
use Rattle.std.proofs.Common.{◌≡◌, ◌⊎◌, ℕ, suc, ◌+◌, ◌-◌, ◌≤◌, List, ◌∷◌, ◌++◌, length, take, drop, refl, sym, ap, ◌∙◌, subst, arith, append_assoc, inl, inr, ⊎_elim}
use Rattle.std.proofs.lemmas.List.{take-append-drop}
use Rattle.gq_keeper.specs.Crashes.{Leaves, LeavesSyncing, LeavesReplacing, Elapses}
use Rattle.gq_keeper.specs.Notes.{Instant, synced_in, seen_in, appended, made_sure, may_be_cut, is_cut, may_be_replaced, is_replaced}
use Rattle.gq_keeper.specs.Instants.{LeftIn, LeftSince}
use Rattle.gq_keeper.proofs.Instants.{elapses_then}
use Rattle.gq_keeper.proofs.Mended.{leaves_longer}
use Rattle.gq_keeper.proofs.Crashing.{leaves_all}

since_more : (instant : Instant) (instants : List Instant) (t : ℕ) (left : List ℕ) → t ≤ length instants → LeftSince (instant ∷ instants) t left → LeftSince instants t left ⊎ Leaves instant.0 instant.1 left
since_more instant instants t left early may =
    let e : 1 + suc (length instants) - t ≡ suc (1 + length instants - t) = omega arith in
    ⊎_elim (λ it. inr it) (λ old. inl old) (subst (λ n. LeftIn n (instant ∷ instants) left) e may)

one_more : (instant : Instant) (instants : List Instant) (P : List ℕ → Type 0) → ((left : List ℕ) → Leaves instant.0 instant.1 left → P left) → Elapses (length instants) (length (instant ∷ instants)) (LeftSince instants) (LeftSince (instant ∷ instants)) P
one_more instant instants P leaves = record {
  later = omega arith;
  nothing_else = λ t left early may. ⊎_elim (λ old. inl old) (λ it. inr (leaves left it)) (since_more instant instants t left early may);
}

-- one instant was noted
pub one_noted : (instants new : List Instant) (instant : Instant) (P : List ℕ → Type 0) → new ≡ instant ∷ instants → ((left : List ℕ) → Leaves instant.0 instant.1 left → P left) → Elapses (length instants) (length new) (LeftSince instants) (LeftSince new) P
one_noted instants new instant P is leaves = subst (λ (ms : List Instant). Elapses (length instants) (length ms) (LeftSince instants) (LeftSince ms) P) (sym is) (one_more instant instants P leaves)

pub note_append : (instants new : List Instant) (bytes : List ℕ) → new ≡ appended bytes instants → Elapses (length instants) (length new) (LeftSince instants) (LeftSince new) (Leaves (synced_in instants) (seen_in instants ++ bytes))
note_append instants new bytes is = one_noted instants new (synced_in instants, seen_in instants ++ bytes) (Leaves (synced_in instants) (seen_in instants ++ bytes)) is (λ left l. l)

pub note_sync : (instants new : List Instant) → new ≡ made_sure instants → Elapses (length instants) (length new) (LeftSince instants) (LeftSince new) (LeavesSyncing (synced_in instants) (seen_in instants))
note_sync instants new is = one_noted instants new (seen_in instants, seen_in instants) (LeavesSyncing (synced_in instants) (seen_in instants)) is (λ left l. inr l)

pub note_cutting : (instants new : List Instant) (len : ℕ) → new ≡ may_be_cut len instants → Elapses (length instants) (length new) (LeftSince instants) (LeftSince new) (Leaves (take len (synced_in instants)) (seen_in instants))
note_cutting instants new len is = one_noted instants new (take len (synced_in instants), seen_in instants) (Leaves (take len (synced_in instants)) (seen_in instants)) is (λ left l. l)

synced_cutting : (instants new : List Instant) (len : ℕ) → new ≡ may_be_cut len instants → synced_in new ≡ take len (synced_in instants)
synced_cutting instants new len is = ap synced_in is

seen_cutting : (instants new : List Instant) (len : ℕ) → new ≡ may_be_cut len instants → seen_in new ≡ seen_in instants
seen_cutting instants new len is = ap seen_in is

pub note_cut : (instants mid new : List Instant) (len : ℕ) → mid ≡ may_be_cut len instants → new ≡ is_cut len mid → Elapses (length instants) (length new) (LeftSince instants) (LeftSince new) (Leaves (take len (synced_in instants)) (seen_in instants))
note_cut instants mid new len first second =
    elapses_then (length instants) (length mid) (length new) (LeftSince instants) (LeftSince mid) (LeftSince new) (Leaves (take len (synced_in instants)) (seen_in instants)) (Leaves (synced_in mid) (take len (seen_in mid))) (Leaves (take len (synced_in instants)) (seen_in instants))
    (note_cutting instants mid len first)
    (one_noted mid new (synced_in mid, take len (seen_in mid)) (Leaves (synced_in mid) (take len (seen_in mid))) second (λ left l. l))
    (λ left l. l)
    (λ left l. leaves_longer (take len (synced_in instants)) (take len (seen_in instants)) (seen_in instants) (drop len (seen_in instants)) left (sym (take-append-drop len (seen_in instants)))
    (subst (λ (s : List ℕ). Leaves s (take len (seen_in instants)) left) (synced_cutting instants mid len first) (subst (λ (s : List ℕ). Leaves (synced_in mid) (take len s) left) (seen_cutting instants mid len first) l)))

pub note_replacing : (instants new : List Instant) (bytes : List ℕ) → new ≡ may_be_replaced bytes instants → Elapses (length instants) (length new) (LeftSince instants) (LeftSince new) (LeavesReplacing (synced_in instants) (seen_in instants) bytes)
note_replacing instants new bytes is =
    elapses_then (length instants) (length ((bytes, bytes) ∷ instants)) (length new) (LeftSince instants) (LeftSince ((bytes, bytes) ∷ instants)) (LeftSince new) (Leaves bytes bytes) (Leaves (synced_in instants) (seen_in instants)) (LeavesReplacing (synced_in instants) (seen_in instants) bytes)
    (one_noted instants ((bytes, bytes) ∷ instants) (bytes, bytes) (Leaves bytes bytes) refl (λ left l. l))
    (one_noted ((bytes, bytes) ∷ instants) new (synced_in instants, seen_in instants) (Leaves (synced_in instants) (seen_in instants)) is (λ left l. l))
    (λ left l. inr (leaves_all bytes left l))
    (λ left l. inl l)

pub note_replaced : (instants mid new : List Instant) (bytes : List ℕ) → mid ≡ may_be_replaced bytes instants → new ≡ is_replaced bytes mid → Elapses (length instants) (length new) (LeftSince instants) (LeftSince new) (LeavesReplacing (synced_in instants) (seen_in instants) bytes)
note_replaced instants mid new bytes first second =
    elapses_then (length instants) (length mid) (length new) (LeftSince instants) (LeftSince mid) (LeftSince new) (LeavesReplacing (synced_in instants) (seen_in instants) bytes) (Leaves bytes bytes) (LeavesReplacing (synced_in instants) (seen_in instants) bytes)
    (note_replacing instants mid bytes first)
    (one_noted mid new (bytes, bytes) (Leaves bytes bytes) second (λ left l. l))
    (λ left l. l)
    (λ left l. inr (leaves_all bytes left l))

-- a part of the bytes stands there
pub note_part : (instants new : List Instant) (bytes part rest : List ℕ) → new ≡ appended part instants → bytes ≡ part ++ rest → Elapses (length instants) (length new) (LeftSince instants) (LeftSince new) (Leaves (synced_in instants) (seen_in instants ++ bytes))
note_part instants new bytes part rest is whole = one_noted instants new (synced_in instants, seen_in instants ++ part) (Leaves (synced_in instants) (seen_in instants ++ bytes)) is
    (λ left l. leaves_longer (synced_in instants) (seen_in instants ++ part) (seen_in instants ++ bytes) rest left (ap (λ b. seen_in instants ++ b) whole ∙ sym (append_assoc (seen_in instants) part rest)) l)
