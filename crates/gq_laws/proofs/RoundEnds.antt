-- What an operation does at the end of a round.
use Rattle.std.proofs.Common.{◌≡◌, ◌≢◌, ℕ, ◌+◌, ◌*◌, ◌≤◌, Bool, true, false, ◌++◌, List, [], ◌∷◌, length, map, refl, sym, ap, ◌∙◌, Option, Some, None, nat_lt}
use Rattle.std.proofs.lemmas.Bool.{ltb-false, true≢false}
use Rattle.gq_grid.specs.Grid.{Grid, Servers}
use Rattle.gq_tag.specs.declared.Tag.{Tag}
use Rattle.gq_tag.specs.declared.StoredCopy.{StoredCopy}
use Rattle.gq_tag.specs.Tag.{File, OwnMessage, greatest}
use Rattle.gq_phase.specs.Phase.{Task, Reply, Writing, Reading, Listing, Operation, HeardNoted, HeardNext, HeardDone, hear_current, ends_round, heard_servers, heard_copies, is_collect, with_decided, file_done, decided_copy, round_messages, in_round, stored_copy, listed_row, givers, skips_store}
use Rattle.gq_phase.specs.declared.Outcome.{Outcome}
use Rattle.gq_phase.specs.declared.Outcome.TheVariants.{Wrote, Gave, Listed}
use Rattle.gq_phase.specs.Quorums.{ends_collect, ends_store}
use Rattle.gq_laws.proofs.Found.{stored-push}

-- the round that follows
pub data Next (grid : Grid) (up : Servers) (o : Operation) (r : ℕ) (tag : Option Tag) (new : List OwnMessage) : Type 0 where
  -- a collect round is followed by the store round of what it decided
  ToStore : is_collect o.round ≡ true → ends_collect grid (heard_servers o.heard) ≡ true → r ≡ 2 * length (o.collected ++ decided_copy o ∷ []) → tag ≡ Some (decided_copy o).tag → new ≡ round_messages grid up (in_round (with_decided o) r) → Next grid up o r tag new
  -- a store round of a listing by the collect round of its next file
  ToCollect : (v f : ℕ) → o.task ≡ Listing v f → is_collect o.round ≡ false → ends_store grid (heard_servers o.heard) ≡ true → r ≡ 2 * length o.collected + 1 → tag ≡ None → new ≡ round_messages grid up (in_round o r) → Next grid up o r tag new
  -- a collect round of a listing whose store round is left out by the collect round of its next file
  Skips : (v f : ℕ) → o.task ≡ Listing v f → is_collect o.round ≡ true → ends_collect grid (heard_servers o.heard) ≡ true → skips_store grid (with_decided o) ≡ true → r ≡ 2 * length (o.collected ++ decided_copy o ∷ []) + 1 → tag ≡ None → new ≡ round_messages grid up (in_round (with_decided o) r) → Next grid up o r tag new

next_parts : (r next : ℕ) (t tag : Option Tag) (ms new : List OwnMessage) → HeardNext r t ms ≡ HeardNext next tag new → (next ≡ r) × (tag ≡ t) × (new ≡ ms)
next_parts r next t tag ms new h =
    let a : r ≡ next = cc in
    let b : t ≡ tag = cc in
    let c : ms ≡ new = cc in
    (sym a, sym b, sym c)

file_next_by : (grid : Grid) (up : Servers) (task : Task) (k n r floor : ℕ) (heard : List Reply) (collected : List StoredCopy) (next : ℕ) (tag : Option Tag) (new : List OwnMessage) →
    file_done grid up (record { session = k; op = n; task = task; round = r; heard = heard; collected = collected; floor = floor }) ≡ HeardNext next tag new →
    (v : ℕ) × (f : ℕ) × (task ≡ Listing v f) × (next ≡ 2 * length collected + 1) × (tag ≡ None) × (new ≡ round_messages grid up (in_round (record { session = k; op = n; task = task; round = r; heard = heard; collected = collected; floor = floor }) next))
file_next_by grid up (Writing file bytes) k n r floor heard collected next tag new h =
    absurd (let bad : HeardDone (Wrote k n (stored_copy collected).tag) ≡ HeardNext next tag new = h in cc)
file_next_by grid up (Reading file) k n r floor heard collected next tag new h =
    absurd (let bad : HeardDone (Gave k n (stored_copy collected)) ≡ HeardNext next tag new = h in cc)
file_next_by grid up (Listing v f) k n r floor heard collected next tag new h = go (nat_lt (length collected) f) refl
  where
    o : Operation
    o = record { session = k; op = n; task = Listing v f; round = r; heard = heard; collected = collected; floor = floor }

    go : (b : Bool) → nat_lt (length collected) f ≡ b → (v' : ℕ) × (f' : ℕ) × (Listing v f ≡ Listing v' f') × (next ≡ 2 * length collected + 1) × (tag ≡ None) × (new ≡ round_messages grid up (in_round o next))
    go true more =
        let parts = next_parts (2 * length collected + 1) next None tag (round_messages grid up (in_round o (2 * length collected + 1))) new (rw more at h) in
        (v, f, refl, parts.0, parts.1, parts.2 ∙ ap (λ z. round_messages grid up (in_round o z)) (sym parts.0))
    go false more = absurd (let bad : HeardDone (Listed k n (map listed_row collected)) ≡ HeardNext next tag new = rw more at h in cc)

file_next : (grid : Grid) (up : Servers) (o : Operation) (r : ℕ) (tag : Option Tag) (new : List OwnMessage) → file_done grid up o ≡ HeardNext r tag new → (v : ℕ) × (f : ℕ) × (o.task ≡ Listing v f) × (r ≡ 2 * length o.collected + 1) × (tag ≡ None) × (new ≡ round_messages grid up (in_round o r))
file_next grid up o r tag new h = file_next_by grid up o.task o.session o.op o.round o.floor o.heard o.collected r tag new h

pub next_of : (grid : Grid) (up : Servers) (o : Operation) (r : ℕ) (tag : Option Tag) (new : List OwnMessage) → hear_current grid up o ≡ HeardNext r tag new → Next grid up o r tag new
next_of grid up o r tag new h = go (is_collect o.round) refl (ends_round grid o.round o.heard) refl
  where
    go : (odd : Bool) → is_collect o.round ≡ odd → (b : Bool) → ends_round grid o.round o.heard ≡ b → Next grid up o r tag new
    go odd g false e = absurd (let bad : HeardNoted ≡ HeardNext r tag new = rw e at h in cc)
    go true g true e = by (skips_store grid (with_decided o)) refl
      where
        by : (skips : Bool) → skips_store grid (with_decided o) ≡ skips → Next grid up o r tag new
        by true s =
            let parts = file_next grid up (with_decided o) r tag new (rw (e, g, s) at h) in
            Skips parts.0 parts.1 parts.2 g (rw g at e) s parts.3 parts.4 parts.5
        by false s =
            let parts = next_parts (2 * length (o.collected ++ decided_copy o ∷ [])) r (Some (stored_copy (o.collected ++ decided_copy o ∷ [])).tag) tag (round_messages grid up (in_round (with_decided o) (2 * length (o.collected ++ decided_copy o ∷ [])))) new (rw (e, g, s) at h) in
            ToStore g (rw g at e) parts.0 (parts.1 ∙ ap (λ z. Some z.tag) (stored-push o.collected (decided_copy o))) (parts.2 ∙ ap (λ z. round_messages grid up (in_round (with_decided o) z)) (sym parts.0))
    go false g true e =
        let parts = file_next grid up o r tag new (rw (e, g) at h) in
        ToCollect parts.0 parts.1 parts.2 g (rw g at e) parts.3 parts.4 parts.5

-- how an operation is done
pub data IsDone (o : Operation) (outcome : Outcome) : Type 0 where
  DoneWrite : (file : File) (bytes : List ℕ) → o.task ≡ Writing file bytes → outcome ≡ Wrote o.session o.op (stored_copy o.collected).tag → IsDone o outcome
  DoneRead : (file : File) → o.task ≡ Reading file → outcome ≡ Gave o.session o.op (stored_copy o.collected) → IsDone o outcome
  DoneList : (v f : ℕ) → o.task ≡ Listing v f → f ≤ length o.collected → outcome ≡ Listed o.session o.op (map listed_row o.collected) → IsDone o outcome

-- its last round is a store round, or a collect round whose store round is left out
pub data DoneBy (grid : Grid) (o : Operation) (outcome : Outcome) : Type 0 where
  ByStore : is_collect o.round ≡ false → ends_store grid (heard_servers o.heard) ≡ true → IsDone o outcome → DoneBy grid o outcome
  BySkip : is_collect o.round ≡ true → ends_collect grid (heard_servers o.heard) ≡ true → skips_store grid (with_decided o) ≡ true → IsDone (with_decided o) outcome → DoneBy grid o outcome

finish_by : (grid : Grid) (up : Servers) (task : Task) (k n r floor : ℕ) (heard : List Reply) (collected : List StoredCopy) (outcome : Outcome) →
    file_done grid up (record { session = k; op = n; task = task; round = r; heard = heard; collected = collected; floor = floor }) ≡ HeardDone outcome →
    IsDone (record { session = k; op = n; task = task; round = r; heard = heard; collected = collected; floor = floor }) outcome
finish_by grid up (Writing file bytes) k n r floor heard collected outcome h =
    let same : HeardDone (Wrote k n (stored_copy collected).tag) ≡ HeardDone outcome = h in
    DoneWrite file bytes refl (let outcomes : outcome ≡ Wrote k n (stored_copy collected).tag = cc in outcomes)
finish_by grid up (Reading file) k n r floor heard collected outcome h =
    let same : HeardDone (Gave k n (stored_copy collected)) ≡ HeardDone outcome = h in
    DoneRead file refl (let outcomes : outcome ≡ Gave k n (stored_copy collected) = cc in outcomes)
finish_by grid up (Listing v f) k n r floor heard collected outcome h = go (nat_lt (length collected) f) refl
  where
    go : (b : Bool) → nat_lt (length collected) f ≡ b → IsDone (record { session = k; op = n; task = Listing v f; round = r; heard = heard; collected = collected; floor = floor }) outcome
    go true more = absurd (let bad : HeardNext _ _ _ ≡ HeardDone outcome = rw more at h in cc)
    go false more =
        let low : f ≤ length collected = ltb-false (length collected) f more in
        let same : HeardDone (Listed k n (map listed_row collected)) ≡ HeardDone outcome = rw more at h in
        let outcomes : outcome ≡ Listed k n (map listed_row collected) = cc in
        DoneList v f refl low outcomes

file_finish : (grid : Grid) (up : Servers) (o : Operation) (outcome : Outcome) → file_done grid up o ≡ HeardDone outcome → IsDone o outcome
file_finish grid up o outcome h = finish_by grid up o.task o.session o.op o.round o.floor o.heard o.collected outcome h

pub done_of : (grid : Grid) (up : Servers) (o : Operation) (outcome : Outcome) → hear_current grid up o ≡ HeardDone outcome → DoneBy grid o outcome
done_of grid up o outcome h = go (is_collect o.round) refl (ends_round grid o.round o.heard) refl
  where
    go : (odd : Bool) → is_collect o.round ≡ odd → (b : Bool) → ends_round grid o.round o.heard ≡ b → DoneBy grid o outcome
    go odd g false e = absurd (let bad : HeardNoted ≡ HeardDone outcome = rw e at h in cc)
    go true g true e = by (skips_store grid (with_decided o)) refl
      where
        by : (skips : Bool) → skips_store grid (with_decided o) ≡ skips → DoneBy grid o outcome
        by true s = BySkip g (rw g at e) s (file_finish grid up (with_decided o) outcome (rw (e, g, s) at h))
        by false s = absurd (let bad : HeardNext _ _ _ ≡ HeardDone outcome = rw (e, g, s) at h in cc)
    go false g true e = ByStore g (rw g at e) (file_finish grid up o outcome (rw (e, g) at h))

-- ---- a store round that is left out

-- it is not a write's
pub write_stores : (grid : Grid) (o : Operation) (file : File) (bytes : List ℕ) → o.task ≡ Writing file bytes → skips_store grid o ≢ true
write_stores grid o file bytes is skips = true≢false (sym (rw is at skips))

-- the servers that told the tag of its copy would end it
pub skip_ends : (grid : Grid) (o : Operation) → skips_store grid o ≡ true → ends_store grid (givers (stored_copy o.collected).tag o.heard) ≡ true
skip_ends grid o skips = by o.task refl
  where
    by : (task : Task) → o.task ≡ task → ends_store grid (givers (stored_copy o.collected).tag o.heard) ≡ true
    by (Writing file bytes) is = absurd (write_stores grid o file bytes is skips)
    by (Reading file) is = rw is at skips
    by (Listing v f) is = rw is at skips

-- its copy is the greatest that was heard
pub skip_greatest : (grid : Grid) (o : Operation) → skips_store grid (with_decided o) ≡ true → decided_copy o ≡ greatest (heard_copies o.heard)
skip_greatest grid o skips = by o.task refl
  where
    by : (task : Task) → o.task ≡ task → decided_copy o ≡ greatest (heard_copies o.heard)
    by (Writing file bytes) is = absurd (write_stores grid (with_decided o) file bytes is skips)
    by (Reading file) is = rw is refl
    by (Listing v f) is = rw is refl
