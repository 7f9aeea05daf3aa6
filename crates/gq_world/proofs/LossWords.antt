-- Why a line is refused by which a server is lost or repaired, in the tables; a peer's store has the same accounts.
use Rattle.std.proofs.Common.{◌≡◌, ◌∙◌, ℕ, ◌*◌, ◌<◌, true, false, not, length, get_or, Option, Some, None, refl, sym, ap, subst, arith}
use Rattle.std.specs.Prelude.{is_none, unwrap_or, nat_lt, if◌then◌else◌}
use Rattle.std.proofs.lemmas.Bool.Decides.{nat_tests}
use Rattle.std.proofs.lemmas.Bool.{eqb-false}
use Rattle.std.proofs.lemmas.Option.{unwrap_or-slice_get}
use Rattle.std.proofs.lemmas.List.{same_lists, get_or_default}
use Rattle.gq_grid.specs.Grid.{Grid, Servers}
use Rattle.gq_grid.specs.Sets.{servers}
use Rattle.gq_grid.specs.declared.ServerSet.{ServerSet}
use Rattle.gq_desk.specs.Volumes.{account_at, no_account}
use Rattle.gq_store.specs.Copies.{store_accounts}
use Rattle.gq_model.specs.declared.events.ServerRefusal.{ServerRefusal}
use Rattle.gq_model.specs.declared.events.ServerRefusal.TheVariants.{Last, NoPeer}
use Rattle.gq_model.specs.declared.events.ServerLine.TheVariants.{Lost as ServerLost, Repaired as ServerRepaired}
use Rattle.gq_model.specs.Told.{ServerOk, Repaired}
use Rattle.gq_model.specs.Lone.{loss_refusal, repair_refusal, peer_among, outside, server_told, is_refusal}
use Rattle.gq_model.proofs.Peers.{IsPeer, peer_is}
use Rattle.gq_world.specs.Tables.{Tables, IsShaped, IsOfPlan, up_in, gone_in, store_at, no_store}
use Rattle.gq_world.specs.Whole.{AllSound}
use Rattle.gq_world.specs.Losses.{HasPeer}
use Rattle.gq_world.proofs.ServerLines.{kept_peer, up_peer, gone_here}

-- ---- in any sets

loss_of : (grid : Grid) (gone : Servers) (n : ℕ) (o : Option ℕ) → nat_lt n (grid.rows * grid.cols) ≡ true → gone n ≡ false → peer_among grid (outside gone) n ≡ o → loss_refusal grid gone n ≡ (if is_none o then Some Last else None)
loss_of grid gone n o within kept is = rw (within, kept, is) refl

repair_of : (grid : Grid) (up gone : Servers) (n : ℕ) (o : Option ℕ) → nat_lt n (grid.rows * grid.cols) ≡ true → gone n ≡ true → peer_among grid up n ≡ o → repair_refusal grid up gone n ≡ (if is_none o then Some NoPeer else None)
repair_of grid up gone n o within lost is = rw (within, lost, is) refl

told_of : (grid : Grid) (up gone : Servers) (n peer : ℕ) → nat_lt n (grid.rows * grid.cols) ≡ true → gone n ≡ true → peer_among grid up n ≡ Some peer → server_told grid up gone (ServerRepaired n) ≡ Repaired peer
told_of grid up gone n peer within lost found = rw (within, lost, found) (ap Repaired (ap (λ o. unwrap_or o n) found))

pub lost_told : (grid : Grid) (up gone : Servers) (n : ℕ) → None ≡ loss_refusal grid gone n → server_told grid up gone (ServerLost n) ≡ ServerOk
lost_told grid up gone n word = rw (← word) refl

pub loss_refused : (grid : Grid) (up gone : Servers) (n : ℕ) (word : ServerRefusal) → Some word ≡ loss_refusal grid gone n → is_refusal (server_told grid up gone (ServerLost n)) ≡ true
loss_refused grid up gone n word is = rw (← is) refl

-- ---- in the tables

inside : (n most : ℕ) → n < most → nat_lt n most ≡ true
inside n most within = grind (arith, nat_tests)

pub loss_word : (w : Tables) (grid : Grid) (kept : ServerSet) (n : ℕ) (o : Option ℕ) → grid ≡ w.plan.grid → kept ≡ w.kept → n < grid.rows * grid.cols → servers kept n ≡ true → o ≡ peer_among grid (servers kept) n →
    (if is_none o then Some Last else None) ≡ loss_refusal w.plan.grid (gone_in w.plan.grid w.kept) n
loss_word w grid kept n o grid_is kept_is within here found =
    let P : Grid → ServerSet → Type 0 = λ g k. ◌≡◌ {A = Option ServerRefusal} (if is_none o then Some Last else None) (loss_refusal g (gone_in g k) n) in
    let still : gone_in grid kept n ≡ false = gone_here grid kept n within ∙ ap not here in
    let peer : peer_among grid (outside (gone_in grid kept)) n ≡ o = sym (kept_peer grid kept n) ∙ sym found in
    subst (λ g. P g w.kept) grid_is (subst (P grid) kept_is (sym (loss_of grid (gone_in grid kept) n o (inside n (grid.rows * grid.cols) within) still peer)))

pub repair_word : (w : Tables) (grid : Grid) (up kept : ServerSet) (n : ℕ) (o : Option ℕ) → grid ≡ w.plan.grid → up ≡ w.up → kept ≡ w.kept → n < grid.rows * grid.cols → servers kept n ≡ false → o ≡ peer_among grid (servers up) n →
    (if is_none o then Some NoPeer else None) ≡ repair_refusal w.plan.grid (up_in w.plan.grid w.up) (gone_in w.plan.grid w.kept) n
repair_word w grid up kept n o grid_is up_is kept_is within lost found =
    let P : Grid → ServerSet → ServerSet → Type 0 = λ g u k. ◌≡◌ {A = Option ServerRefusal} (if is_none o then Some NoPeer else None) (repair_refusal g (up_in g u) (gone_in g k) n) in
    let gone : gone_in grid kept n ≡ true = gone_here grid kept n within ∙ ap not lost in
    let peer : peer_among grid (up_in grid up) n ≡ o = sym (up_peer grid up n) ∙ sym found in
    subst (λ g. P g w.up w.kept) grid_is (subst (λ u. P grid u w.kept) up_is (subst (P grid up) kept_is (sym (repair_of grid (up_in grid up) (gone_in grid kept) n o (inside n (grid.rows * grid.cols) within) gone peer))))

-- the peer that is found
pub peer_found : (w : Tables) (grid : Grid) (up kept : ServerSet) (n peer : ℕ) → grid ≡ w.plan.grid → up ≡ w.up → kept ≡ w.kept → n < grid.rows * grid.cols → servers kept n ≡ false → Some peer ≡ peer_among grid (servers up) n → HasPeer w n peer
peer_found w grid up kept n peer grid_is up_is kept_is within lost found =
    let n_in : n < w.plan.grid.rows * w.plan.grid.cols = subst (λ (g : Grid). n < g.rows * g.cols) grid_is within in
    let gone : gone_in w.plan.grid w.kept n ≡ true = gone_here w.plan.grid w.kept n n_in ∙ ap not (ap (λ (k : ServerSet). servers k n) (sym kept_is) ∙ lost) in
    let is : peer_among w.plan.grid (up_in w.plan.grid w.up) n ≡ Some peer =
    sym (up_peer w.plan.grid w.up n) ∙ ap (λ (u : ServerSet). peer_among w.plan.grid (servers u) n) (sym up_is) ∙ ap (λ (g : Grid). peer_among g (servers up) n) (sym grid_is) ∙ sym found in
    let m : IsPeer w.plan.grid (up_in w.plan.grid w.up) n peer = peer_is w.plan.grid (up_in w.plan.grid w.up) n peer is in
    record {
      server = n_in;
      lost = gone;
      within = m.within;
      up = m.inside;
      apart = eqb-false peer n m.apart;
      told = told_of w.plan.grid (up_in w.plan.grid w.up) (gone_in w.plan.grid w.kept) n peer (inside n (w.plan.grid.rows * w.plan.grid.cols) n_in) gone is;
    }

-- ---- the accounts of the stores

store_there : (w : Tables) (s : ℕ) → IsShaped w → s < w.plan.grid.rows * w.plan.grid.cols → IsOfPlan w.plan (store_at w.stores s)
store_there w s shaped within = shaped.stores s no_store (let count = shaped.servers in omega arith)

pub same_accounts : (w : Tables) (s also : ℕ) → IsShaped w → AllSound w → s < w.plan.grid.rows * w.plan.grid.cols → also < w.plan.grid.rows * w.plan.grid.cols → store_accounts (store_at w.stores s) ≡ store_accounts (store_at w.stores also)
same_accounts w s also shaped sound within there =
    let one = (store_there w s shaped within).tenants in
    let other = (store_there w also shaped there).tenants in
    same_lists (store_accounts (store_at w.stores s)) (store_accounts (store_at w.stores also)) (one ∙ sym other) (λ t d low.
    let low' : t < length w.plan.rows = omega arith in
    let known = sound t low' in
    let at : (x : ℕ) → t < length (store_accounts (store_at w.stores x)) → get_or (store_accounts (store_at w.stores x)) t d ≡ account_at (store_accounts (store_at w.stores x)) t = λ x has.
    get_or_default (store_accounts (store_at w.stores x)) t d no_account has ∙ sym (unwrap_or-slice_get (store_accounts (store_at w.stores x)) t no_account) in
    at s low ∙ known.agrees.accounts s within ∙ sym (known.agrees.accounts also there) ∙ sym (at also (omega arith)))
