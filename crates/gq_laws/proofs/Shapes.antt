-- The messages of a round.
use Rattle.std.proofs.Common.{◌≡◌, ℕ, zero, suc, List, [], ◌∷◌, map, refl, sym, ap, Option, Some, None, arith}
use Rattle.std.specs.Prelude.{Contains}
use Rattle.gq_grid.specs.Grid.{Grid, Servers, rising}
use Rattle.gq_tag.specs.declared.StoredCopy.{StoredCopy}
use Rattle.gq_tag.specs.Tag.{OwnMessage}
use Rattle.gq_phase.specs.Phase.{Task, Operation, round_file, round_body, round_quorum, round_messages, messages_to}

-- the only message
pub only : (x m : OwnMessage) → Contains (x ∷ []) m → x ≡ m
only x m (zero, low, is) = is
only x m (suc i, low, is) = absurd (omega arith)

in_map : (f : ℕ → OwnMessage) (xs : List ℕ) (m : OwnMessage) → Contains (map f xs) m → (x : ℕ) × (f x ≡ m)
in_map f [] m within = absurd (omega (arith, within.1))
in_map f (x ∷ xs) m (zero, low, is) = (x, is)
in_map f (x ∷ xs) m (suc i, low, is) = in_map f xs m (i, omega arith, is)

-- a message of the round of session k's operation
pub record Shape (k n r : ℕ) (task : Task) (cs : List StoredCopy) (m : OwnMessage) : Type 0 where
  pub session : m.session ≡ k
  pub op : m.op ≡ n
  pub round : m.round ≡ r
  pub file : m.file ≡ round_file task r
  pub body : m.body ≡ round_body r cs

pub shape_of : (grid : Grid) (o : Operation) (set : Servers) (m : OwnMessage) → Contains (messages_to grid o set) m → Shape o.session o.op o.round o.task o.collected m
shape_of grid o set m within =
    let x = in_map (λ server. record { session = o.session; op = o.op; round = o.round; server = server; file = round_file o.task o.round; body = round_body o.round o.collected }) (rising grid set) m within in
    record { session = ap (λ y. y.session) (sym x.1); op = ap (λ y. y.op) (sym x.1); round = ap (λ y. y.round) (sym x.1); file = ap (λ y. y.file) (sym x.1); body = ap (λ y. y.body) (sym x.1) }

pub shape_round : (grid : Grid) (up : Servers) (o : Operation) (m : OwnMessage) → Contains (round_messages grid up o) m → Shape o.session o.op o.round o.task o.collected m
shape_round grid up o m within = go (round_quorum grid up o.round) refl
  where
    go : (q : Option Servers) → round_quorum grid up o.round ≡ q → Shape o.session o.op o.round o.task o.collected m
    go None e = absurd (let none : Contains [] m = rw e at within in omega (arith, none.1))
    go (Some set) e = shape_of grid o set m (rw e at within)
