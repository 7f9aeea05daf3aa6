-- Only a node that the plan has is answered.
use Rattle.std.proofs.Common.{◌≡◌, ◌++◌, ◌∙◌, true, false, cond, [], sym, ap, append-nil}
use Rattle.gq_node.specs.Joining.{tells_joined}
use Rattle.gq_node.specs.Sites.{site_of}
use Rattle.gq_node.specs.Tables.{Tables}
use Rattle.gq_wire.specs.Texts.{joined_line}
use Rattle.gq_machine.proofs.machine.NodeMachine.asked_to_join.Goals as goal

pub returns-then-not-tells_joined : goal.returns-then-not-tells_joined
returns-then-not-tells_joined c =
    let w : Tables = c.args.self.now.node.tables in
    let is : tells_joined c.args.from c.args.losses (site_of w.plan w.here 0) ≡ false = sym (c.tells_joined.ensures 0) ∙ c.if-not-tells_joined.true in
    sym (append-nil c.args.told.now.items) ∙ sym (ap (λ b. c.args.told.now.items ++ cond b (joined_line c.args.from w.here.node c.args.losses) []) is)

pub returns : goal.returns
returns c =
    let w : Tables = c.args.self.now.node.tables in
    let is : tells_joined c.args.from c.args.losses (site_of w.plan w.here 0) ≡ true = sym (c.tells_joined.ensures 0) ∙ c.if-not-tells_joined.false in
    c.in_ok-put_joined.ensures.ok ∙ ap (λ n. c.args.told.now.items ++ joined_line c.args.from n c.args.losses) c.number.ensures
    ∙ sym (ap (λ b. c.args.told.now.items ++ cond b (joined_line c.args.from w.here.node c.args.losses) []) is)
