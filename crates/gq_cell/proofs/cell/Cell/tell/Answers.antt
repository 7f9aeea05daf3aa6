use Rattle.std.proofs.Common.{rules, ap₂, ◌≡◌, ◌<◌, ◌∷◌, ◌++◌, [], sym, ap, ◌∙◌, arith, true}
use Rattle.gq_tag.specs.Tag.{to_server}
use Rattle.gq_store.specs.Serving.{server_reply}
use Rattle.gq_cell.specs.declared.letter.CellEntry.TheVariants.{Served}
use Rattle.gq_cell.specs.Keeping.{Journaled}
use Rattle.gq_cell.specs.Journal.{is_up, last_stamp_of, answer_at}
use Rattle.gq_cell.proofs.Growing.{replied, letter_with}
use Rattle.gq_cell.proofs.cell.Cell.tell.Goals as goal

pub invariant_of-self-2 : goal.invariant_of-self-2
invariant_of-self-2 g c =
    let old = c.self.inside in let l = c.args.letter.now in
    let letter : c.in_ok-letter_kept.letter_kept ≡ l = search rules in
    let kept : c.in_ok-reply_kept.reply_kept ≡ c.answer-told.result = search rules in
    let reply : c.answer-told.result ≡ answer_at old.server old.journal.items c.args.stamp l = c.answer-told.ensures ∙ ap (letter_with old.server c.args.stamp) (c.in-Ok.ensures.reply ∙ ap (λ h. server_reply h l.message) (c.self.invariant.copies l.message.file)) in
    let items : c.push_reserved.new.self.items ≡ old.journal.items ++ Served c.in_ok-letter_kept.letter_kept c.in_ok-reply_kept.reply_kept ∷ [] = search rules in
    let same : c.push_reserved.new.self.items ≡ old.journal.items ++ Served l (answer_at old.server old.journal.items c.args.stamp l) ∷ [] = items ∙ ap₂ (λ a b. old.journal.items ++ Served a b ∷ []) letter (kept ∙ reply) in
    let above : old.last < c.args.stamp = omega (arith, c.self.invariant.stamp, ap (λ (v : Journaled). last_stamp_of v.journal) c.self.view_is, c.requires.stamp.0) in
    let running : is_up old.journal.items ≡ true = ap (λ (v : Journaled). is_up v.journal) c.self.view_is ∙ c.requires.up in
    let here : l.message.server ≡ old.server = c.requires.here ∙ sym (ap (λ (v : Journaled). v.server) c.self.view_is) in
    let asks : to_server l.message.body ≡ true = ap to_server c.requires.ask in
    let t = replied old.server old.up old.last old.served.total old.store c.serve.new.self old.journal.items c.push_reserved.new.self.items l c.args.stamp c.self.invariant same above c.requires.stamp.1 running here asks c.in-Ok.ensures.held c.in-Ok.ensures.others in
    record { lawful = t.lawful; copies = t.copies; flag = t.flag; stamp = t.stamp; counted = omega (arith, t.counted, c.count_one.ensures.total); few = omega (arith, t.few, c.count_one.ensures.total) }
