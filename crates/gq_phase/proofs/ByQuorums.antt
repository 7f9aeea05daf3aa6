-- What an operation sends and says depends on the quorums of the servers that are up, and on nothing else of them.
use Rattle.std.proofs.Common.{◌≡◌, ℕ, ◌+◌, ◌*◌, Bool, true, false, List, length, refl, ap, Some, None}
use Rattle.std.specs.Prelude.{nat_lt}
use Rattle.gq_grid.specs.Grid.{Grid, Servers}
use Rattle.gq_tag.specs.declared.StoredCopy.{StoredCopy}
use Rattle.gq_tag.specs.Tag.{OwnMessage}
use Rattle.gq_phase.specs.Laws.{SameQuorums}
use Rattle.gq_phase.specs.Phase.{Task, Writing, Reading, Listing, Reply, Operation, HeardNext, is_collect, ends_round, round_quorum, round_messages, stored_copy, in_round, begin_store, begin_collect, file_done, skips_store, collect_done, with_decided, round_done, is_current, with_reply, hear_current, hear}

pub round_quorum_up : (grid : Grid) (up also : Servers) (round : ℕ) → SameQuorums grid up also → round_quorum grid up round ≡ round_quorum grid also round
round_quorum_up grid up also round same = by (is_collect round) refl
  where
    by : (b : Bool) → is_collect round ≡ b → round_quorum grid up round ≡ round_quorum grid also round
    by true is = rw is same.0
    by false is = rw is same.1

pub round_messages_up : (grid : Grid) (up also : Servers) (o : Operation) → SameQuorums grid up also → round_messages grid up o ≡ round_messages grid also o
round_messages_up grid up also o same = by (is_collect o.round) refl
  where
    by : (b : Bool) → is_collect o.round ≡ b → round_messages grid up o ≡ round_messages grid also o
    by true is = rw (is, same.0) refl
    by false is = rw (is, same.1) refl

-- ---- the rounds that begin

begin_store_up : (grid : Grid) (up also : Servers) (o : Operation) → SameQuorums grid up also → begin_store grid up o ≡ begin_store grid also o
begin_store_up grid up also o same = ap (λ messages. HeardNext (2 * length o.collected) (Some (stored_copy o.collected).tag) messages) (round_messages_up grid up also (in_round o (2 * length o.collected)) same)

begin_collect_up : (grid : Grid) (up also : Servers) (o : Operation) → SameQuorums grid up also → begin_collect grid up o ≡ begin_collect grid also o
begin_collect_up grid up also o same = ap (λ messages. HeardNext (2 * length o.collected + 1) None messages) (round_messages_up grid up also (in_round o (2 * length o.collected + 1)) same)

-- ---- a round that ends

file_done_by : (grid : Grid) (up also : Servers) (session op : ℕ) (task : Task) (round : ℕ) (heard : List Reply) (collected : List StoredCopy) (floor : ℕ) → SameQuorums grid up also →
    let o : Operation = record { session = session; op = op; task = task; round = round; heard = heard; collected = collected; floor = floor } in
    file_done grid up o ≡ file_done grid also o
file_done_by grid up also session op (Writing file bytes) round heard collected floor same = refl
file_done_by grid up also session op (Reading file) round heard collected floor same = refl
file_done_by grid up also session op (Listing volume files) round heard collected floor same = by (nat_lt (length collected) files) refl
  where
    o : Operation
    o = record { session = session; op = op; task = Listing volume files; round = round; heard = heard; collected = collected; floor = floor }

    by : (b : Bool) → nat_lt (length collected) files ≡ b → file_done grid up o ≡ file_done grid also o
    by true more = rw more (begin_collect_up grid up also o same)
    by false all = rw all refl

file_done_up : (grid : Grid) (up also : Servers) (o : Operation) → SameQuorums grid up also → file_done grid up o ≡ file_done grid also o
file_done_up grid up also o same = file_done_by grid up also o.session o.op o.task o.round o.heard o.collected o.floor same

collect_done_up : (grid : Grid) (up also : Servers) (o : Operation) → SameQuorums grid up also → collect_done grid up o ≡ collect_done grid also o
collect_done_up grid up also o same = by (skips_store grid o) refl
  where
    by : (b : Bool) → skips_store grid o ≡ b → collect_done grid up o ≡ collect_done grid also o
    by true skips = rw skips (file_done_up grid up also o same)
    by false stores = rw stores (begin_store_up grid up also o same)

round_done_up : (grid : Grid) (up also : Servers) (o : Operation) → SameQuorums grid up also → round_done grid up o ≡ round_done grid also o
round_done_up grid up also o same = by (is_collect o.round) refl
  where
    by : (b : Bool) → is_collect o.round ≡ b → round_done grid up o ≡ round_done grid also o
    by true odd = rw odd (collect_done_up grid up also (with_decided o) same)
    by false even = rw even (file_done_up grid up also o same)

-- ---- a message

hear_current_up : (grid : Grid) (up also : Servers) (o : Operation) → SameQuorums grid up also → hear_current grid up o ≡ hear_current grid also o
hear_current_up grid up also o same = by (ends_round grid o.round o.heard) refl
  where
    by : (b : Bool) → ends_round grid o.round o.heard ≡ b → hear_current grid up o ≡ hear_current grid also o
    by true ends = rw ends (round_done_up grid up also o same)
    by false goes = rw goes refl

pub hear_up : (grid : Grid) (up also : Servers) (o : Operation) (m : OwnMessage) → SameQuorums grid up also → hear grid up o m ≡ hear grid also o m
hear_up grid up also o m same = by (is_current o m) refl
  where
    by : (b : Bool) → is_current o m ≡ b → hear grid up o m ≡ hear grid also o m
    by true now = rw now (hear_current_up grid up also (with_reply o m) same)
    by false stale = rw stale refl
