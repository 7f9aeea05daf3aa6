use Rattle.std.proofs.Common.{◌≡◌, true, sym, ap, ◌∙◌, refl}
use Rattle.gq_tag.specs.declared.StoredCopy.{StoredCopy}
use Rattle.gq_tag.specs.Tag.{is_less}
use Rattle.gq_store.specs.Copies.{StoreCopies, copy_at, store_accounts}
use Rattle.gq_store.proofs.There.{is_there, limit_or_zero}
use Rattle.gq_store.proofs.Changed.{copy_of-same, copy_of-other, accounts-tenants_with}
use Rattle.gq_store.proofs.store.ServerStore.put.Goals as goal

pub returns-then-is_newer-clause-copy : goal.returns-then-is_newer-clause-copy
returns-then-is_newer-clause-copy c =
    let store = c.args.self.now in let id = c.args.file in let copy : StoredCopy = record { tag = c.args.tag; bytes = c.args.bytes.now } in
    let less : is_less (copy_at store id).tag c.args.tag ≡ true = sym c.is_newer.ensures ∙ c.if-is_newer.true in
    ap (λ (s : StoreCopies). copy_at s id) c.replace.ensures ∙ (copy_of-same store id (limit_or_zero store id) copy (is_there store id c.requires.there) ∙ rw less refl)

pub returns-then-is_newer-clause-others : goal.returns-then-is_newer-clause-others
returns-then-is_newer-clause-others c other differs =
    let store = c.args.self.now in let id = c.args.file in let copy : StoredCopy = record { tag = c.args.tag; bytes = c.args.bytes.now } in
    ap (λ (s : StoreCopies). copy_at s other) c.replace.ensures ∙ copy_of-other store id other (limit_or_zero store id) copy (is_there store id c.requires.there) differs

pub returns-then-is_newer-clause-accounts : goal.returns-then-is_newer-clause-accounts
returns-then-is_newer-clause-accounts c =
    let copy : StoredCopy = record { tag = c.args.tag; bytes = c.args.bytes.now } in
    ap store_accounts c.replace.ensures ∙ accounts-tenants_with c.args.self.now.tenants c.args.file copy
