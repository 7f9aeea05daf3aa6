use Rattle.std.proofs.Common.{◌≡◌, ◌+◌, List, max, subst, arith, rules}
use Rattle.gq_page.specs.Page.{sheet_of}
use Rattle.gq_client.specs.declared.view.Known.{Known}
use Rattle.gq_client.specs.Changing.{said_in, highest_seen, IsChanged}
use Rattle.gq_client.proofs.client.Client.change.Goals as goal

pub returns-clause-ok : goal.returns-clause-ok
returns-clause-ok c =
    let seen_is = c.as_slice-seen.ensures.value in
    let number_is : c.in-Some-new_number.number ≡ max (highest_seen c.args.self.now.seen.items c.args.self.now.session (sheet_of c.in-Some.journal) + 1) c.args.least =
    subst (λ (xs : List Known). c.in-Some-new_number.number ≡ max (highest_seen xs c.args.self.now.session (sheet_of c.in-Some.journal) + 1) c.args.least) seen_is c.in-Some-new_number.ensures.above in
    record {
      journal = c.in-Some.journal;
      number = c.in-Some-new_number.number;
      knows = c.in-Some.is;
      looked = search rules;
      above = omega arith;
      least_is = omega arith;
      is = subst (λ (xs : List Known). IsChanged xs c.args.self.now.session (sheet_of c.in-Some.journal) c.in-Some-new_number.number (said_in c.args.change.now.line) c.args.change.now.besides.items (sheet_of c.in_ok-page.page)) seen_is c.in_ok-page.ensures;
    }
