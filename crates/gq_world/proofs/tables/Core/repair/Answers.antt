-- All stores have the accounts of the desk.
use Rattle.std.proofs.Common.{◌≡◌, List, ap, sym, subst}
use Rattle.gq_store.specs.Copies.{StoreCopies, store_accounts}
use Rattle.gq_world.specs.Tables.{Tables, IsShaped, store_at}
use Rattle.gq_world.proofs.LossWords.{same_accounts}
use Rattle.gq_world.proofs.tables.Core.repair.Goals as goal

pub take_copies-requires-clause-accounts : goal.take_copies-requires-clause-accounts
take_copies-requires-clause-accounts c =
    let w : Tables = c.args.self.now in
    let shaped : IsShaped w = subst IsShaped c.self.view_is c.self.invariant.1 in
    let P : List StoreCopies → Type 0 = λ stores. store_accounts (store_at stores c.args.server) ≡ store_accounts (store_at stores c.args.peer) in
    subst P (sym (ap (λ (x : Tables). x.stores) c.self.view_is)) (same_accounts w c.args.server c.args.peer shaped c.requires.sound c.requires.peer.server c.requires.peer.within)
