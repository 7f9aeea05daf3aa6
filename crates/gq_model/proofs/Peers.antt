-- Who gives a repaired server its copies is up, and stands in its column.
use Rattle.std.proofs.Common.{◌≡◌, ℕ, ◌*◌, ◌<◌, ◌&&◌, Bool, true, false, not, Option, Some, None, refl, ap, eqb, nat_lt, arith}
use Rattle.std.specs.Prelude.{unwrap_or}
use Rattle.std.proofs.lemmas.Bool.{true≢false, and_parts, not-true}
use Rattle.gq_grid.specs.Grid.{Grid, Servers}
use Rattle.gq_grid.proofs.Meeting.{found_passes}
use Rattle.gq_phase.specs.Quorums.{are_peers}
use Rattle.gq_model.specs.declared.events.ServerLine.TheVariants.{Up, Lost as ServerLost, Repaired as ServerRepaired}
use Rattle.gq_model.specs.Told.{ServerOk, Repaired}
use Rattle.gq_model.specs.Lone.{peer_among, outside, server_told, is_refusal}

-- the peer that is found
pub record IsPeer (grid : Grid) (set : Servers) (n peer : ℕ) : Type 0 where
  pub within : peer < grid.rows * grid.cols
  pub inside : set peer ≡ true
  pub apart : eqb peer n ≡ false
  pub peers : are_peers grid n peer ≡ true

pub peer_is : (grid : Grid) (set : Servers) (n peer : ℕ) → peer_among grid set n ≡ Some peer → IsPeer grid set n peer
peer_is grid set n peer h =
    let passes = found_passes (λ m. set m && (not (eqb m n) && are_peers grid n m)) 0 (grid.rows * grid.cols) peer h in
    let both = and_parts (set peer) (not (eqb peer n) && are_peers grid n peer) passes.2 in
    let rest = and_parts (not (eqb peer n)) (are_peers grid n peer) both.1 in
    record { within = omega (arith, passes.1); inside = both.0; apart = not-true (eqb peer n) rest.0; peers = rest.1 }

-- ---- what an accepted server line says of the servers before it

-- a server that is repaired was lost, and a peer of it is up
pub record Repair (grid : Grid) (up gone : Servers) (n : ℕ) : Type 0 where
  pub peer : ℕ
  pub told : server_told grid up gone (ServerRepaired n) ≡ Repaired peer
  pub lost : gone n ≡ true
  pub is_peer : IsPeer grid up n peer

pub repair : (grid : Grid) (up gone : Servers) (n : ℕ) → is_refusal (server_told grid up gone (ServerRepaired n)) ≡ false → Repair grid up gone n
repair grid up gone n fine = go (nat_lt n (grid.rows * grid.cols)) refl (gone n) refl (peer_among grid up n) refl
  where
    go : (b : Bool) → nat_lt n (grid.rows * grid.cols) ≡ b → (c : Bool) → gone n ≡ c → (m : Option ℕ) → peer_among grid up n ≡ m → Repair grid up gone n
    go false out c is m found = absurd (true≢false (rw out at fine))
    go true within false back m found = absurd (true≢false (rw (within, back) at fine))
    go true within true lost None none = absurd (true≢false (rw (within, lost, none) at fine))
    go true within true lost (Some peer) found = record { peer = peer; told = rw (within, lost, found) (ap Repaired (ap (λ o. unwrap_or o n) found)); lost = lost; is_peer = peer_is grid up n peer found }

-- a server that comes back was not lost
pub comes_kept : (grid : Grid) (up gone : Servers) (n : ℕ) → is_refusal (server_told grid up gone (Up n)) ≡ false → gone n ≡ false
comes_kept grid up gone n fine = go (nat_lt n (grid.rows * grid.cols)) refl (gone n) refl
  where
    go : (b : Bool) → nat_lt n (grid.rows * grid.cols) ≡ b → (c : Bool) → gone n ≡ c → gone n ≡ false
    go false out c is = absurd (true≢false (rw out at fine))
    go true within false back = back
    go true within true lost = absurd (true≢false (rw (within, lost) at fine))

-- what is told where a server is lost
pub loss_is_told : (grid : Grid) (up gone : Servers) (n : ℕ) → is_refusal (server_told grid up gone (ServerLost n)) ≡ false → server_told grid up gone (ServerLost n) ≡ ServerOk
loss_is_told grid up gone n fine = go (nat_lt n (grid.rows * grid.cols)) refl (gone n) refl (peer_among grid (outside gone) n) refl
  where
    go : (b : Bool) → nat_lt n (grid.rows * grid.cols) ≡ b → (c : Bool) → gone n ≡ c → (m : Option ℕ) → peer_among grid (outside gone) n ≡ m → server_told grid up gone (ServerLost n) ≡ ServerOk
    go false out c is m found = absurd (true≢false (rw out at fine))
    go true within true lost m found = absurd (true≢false (rw (within, lost) at fine))
    go true within false here None none = absurd (true≢false (rw (within, here, none) at fine))
    go true within false here (Some peer) found = rw (within, here, found) refl
