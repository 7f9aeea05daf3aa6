-- Who can give a server its copies back has the same place in its row.
use Rattle.std.proofs.Common.{◌≡◌, ℕ, zero, suc, ◌*◌, ◌%◌, ◌/◌, ◌<◌, ◌&&◌, Bool, true, false, refl, sym, ◌∙◌, eqb, arith, mul-zero}
use Rattle.std.proofs.lemmas.Bool.{true≢false, and_from, eq-eqb, eqb-true}
use Rattle.std.proofs.lemmas.Nat.{div_below, mod_below, div-add-mod'}
use Rattle.gq_grid.specs.Grid.{Grid, server_at, column_servers, share_column}
use Rattle.gq_grid.proofs.Meeting.{any_from}
use Rattle.gq_grid.proofs.Columns.{is_in_column, shared}
use Rattle.gq_phase.specs.Quorums.{are_peers}

some_column : (rows cols server : ℕ) → server < rows * cols → 0 < cols
some_column rows zero server within = absurd (omega (arith, within, mul-zero rows))
some_column rows (suc cols) server within = omega arith

-- a server of the grid stands in the column of its place
own_column : (grid : Grid) (server : ℕ) → server < grid.rows * grid.cols → column_servers grid (server % grid.cols) server ≡ true
own_column grid server within =
    let some : 0 < grid.cols = some_column grid.rows grid.cols server within in
    let low : server / grid.cols < grid.rows = div_below server grid.cols grid.rows some within in
    any_from (λ r. eqb (server_at grid r (server % grid.cols)) server) 0 grid.rows (server / grid.cols) (omega arith) (omega (arith, low)) (eq-eqb _ _ (div-add-mod' server grid.cols))

pub peers_by_place : (grid : Grid) (server peer : ℕ) → server < grid.rows * grid.cols → peer < grid.rows * grid.cols → eqb (server % grid.cols) (peer % grid.cols) ≡ are_peers grid server peer
unfolding are_peers
peers_by_place grid server peer server_in peer_in = go (eqb (server % grid.cols) (peer % grid.cols)) refl (share_column grid server peer) refl
  where
    c : ℕ
    c = server % grid.cols

    go : (b : Bool) → eqb (server % grid.cols) (peer % grid.cols) ≡ b → (share : Bool) → share_column grid server peer ≡ share → b ≡ share
    go true same true is = refl
    go false other false is = refl
    go false other true is = absurd (
        let s = shared grid server peer is in
        let places : server % grid.cols ≡ peer % grid.cols = is_in_column grid s.0 server s.1 s.2 ∙ sym (is_in_column grid s.0 peer s.1 s.3) in
        true≢false (sym (eq-eqb _ _ places) ∙ other))
    go true same false is = absurd (
        let places : server % grid.cols ≡ peer % grid.cols = eqb-true _ _ same in
        let some : 0 < grid.cols = some_column grid.rows grid.cols server server_in in
        let within : c < grid.cols = mod_below server grid.cols some in
        let there : column_servers grid c peer ≡ true = rw places (own_column grid peer peer_in) in
        let both : share_column grid server peer ≡ true =
        any_from (λ x. column_servers grid x server && column_servers grid x peer) 0 grid.cols c (omega arith) (omega (arith, within)) (and_from (column_servers grid c server) (column_servers grid c peer) (own_column grid server server_in) there) in
        true≢false (sym both ∙ is))
