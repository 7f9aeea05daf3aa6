-- Servers that stand in one column: each server of the grid stands in one alone, and a set with a full column has, with each of these
-- servers, all that stand in its column.
use Rattle.std.proofs.Common.{◌≡◌, ℕ, ◌+◌, ◌*◌, ◌%◌, ◌<◌, ◌&&◌, true, sym, ◌∙◌, ap, arith, eqb}
use Rattle.std.proofs.lemmas.Bool.{and_parts, and_from, eqb-true}
use native.Mathlib.Nat.{add-mul-mod_self_right, mod-eq_of_lt}
use Rattle.gq_grid.specs.Grid.{Grid, server_at, is_full_column, column_servers, share_column}
use Rattle.gq_grid.specs.Laws.{ColumnsHavePeers, PeersOfPeers}
use Rattle.gq_grid.proofs.Meeting.{all_at, found, any_from, column_servers-column}
use Rattle.gq_grid.proofs.Inside.{one_of}

-- the place in its row of a server of column c
column_of : (cols r c : ℕ) → c < cols → (r * cols + c) % cols ≡ c
column_of cols r c within =
    let turned : r * cols + c ≡ c + r * cols = omega arith in
    ap (λ n. n % cols) turned ∙ add-mul-mod_self_right c r cols ∙ mod-eq_of_lt within

pub is_in_column : (grid : Grid) (c server : ℕ) → c < grid.cols → column_servers grid c server ≡ true → server % grid.cols ≡ c
is_in_column grid c server within inside =
    let at = one_of (λ r. eqb (server_at grid r c) server) 0 grid.rows inside in
    let same : server_at grid at.0 c ≡ server = eqb-true (server_at grid at.0 c) server at.3 in
    ap (λ n. n % grid.cols) (sym same) ∙ column_of grid.cols at.0 c within

-- the column in which both stand
pub shared : (grid : Grid) (server peer : ℕ) → share_column grid server peer ≡ true → (c : ℕ) × (c < grid.cols) × (column_servers grid c server ≡ true) × (column_servers grid c peer ≡ true)
shared grid server peer h =
    let at = one_of (λ c. column_servers grid c server && column_servers grid c peer) 0 grid.cols h in
    let both = and_parts (column_servers grid at.0 server) (column_servers grid at.0 peer) at.3 in
    (at.0, omega (arith, at.2), both.0, both.1)

-- of a server of column c, its peers stand there too
peer_there : (grid : Grid) (c server peer : ℕ) → c < grid.cols → column_servers grid c server ≡ true → share_column grid server peer ≡ true → column_servers grid c peer ≡ true
peer_there grid c server peer within inside h =
    let s = shared grid server peer h in
    let same : s.0 ≡ c = sym (is_in_column grid s.0 server s.1 s.2) ∙ is_in_column grid c server within inside in
    ap (λ z. column_servers grid z peer) (sym same) ∙ s.3

pub peers_of_peers : PeersOfPeers
peers_of_peers grid server peer other first second =
    let s = shared grid server peer first in
    any_from (λ c. column_servers grid c server && column_servers grid c other) 0 grid.cols s.0 (omega arith) (omega (arith, s.1))
    (and_from (column_servers grid s.0 server) (column_servers grid s.0 other) s.2 (peer_there grid s.0 peer other s.1 s.3 second))

pub columns_have_peers : ColumnsHavePeers
columns_have_peers grid set h =
    let c = found (is_full_column grid set) 0 grid.cols h in
    let within : c.0 < grid.cols = omega (arith, c.2) in (
      column_servers grid c.0,
      column_servers-column grid c.0 within,
      (λ server inside.
          let at = one_of (λ r. eqb (server_at grid r c.0) server) 0 grid.rows inside in
          let same : server_at grid at.0 c.0 ≡ server = eqb-true (server_at grid at.0 c.0) server at.3 in
          rw (← same) (all_at (λ r. set (server_at grid r c.0)) 0 grid.rows at.0 c.3 at.1 at.2)),
      (λ server peer inside peers. peer_there grid c.0 server peer within inside peers),
    )
