-- The servers so far have the files, and the others are as they were.
use Rattle.std.proofs.Common.{◌≡◌, ℕ, ◌<◌, ◌≤◌, length}
use Rattle.gq_world.specs.Adding.{IsAdded, IsKept}
use Rattle.gq_world.specs.Tables.{store_at}
use Rattle.gq_world.proofs.new_files.add_everywhere.Given as goal

abbrev pub invariant-loop-server : goal.invariant-loop-server
invariant-loop-server l = record {
  count : length l.stores.items ≡ length l.initial.stores.items;
  added : (s : ℕ) → s < l.server → IsAdded l.tenant l.files l.blocks (store_at l.initial.stores.items s) (store_at l.stores.items s);
  rest : (s : ℕ) → l.server ≤ s → store_at l.stores.items s ≡ store_at l.initial.stores.items s;
  kept : (s : ℕ) → IsKept (store_at l.initial.stores.items s) (store_at l.stores.items s);
}
