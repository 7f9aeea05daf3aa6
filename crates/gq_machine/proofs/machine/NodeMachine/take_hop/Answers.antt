-- One letter after another.
use Rattle.std.proofs.Common.{◌≡◌, ◌∙◌, ◌++◌, ◌∷◌, [], List, ap, sym, subst, map, take, ◌+◌}
use Rattle.std.proofs.lemmas.List.{map-append, take_more}
use Rattle.gq_tag.specs.declared.Message.{Message}
use Rattle.gq_tag.specs.Tag.{OwnMessage, own_message}
use Rattle.gq_node.specs.Tables.{Tables}
use Rattle.gq_parts.specs.Steps.{TookHop}
use Rattle.gq_parts.proofs.Own.{took_no_letter, took_letters}
use Rattle.gq_machine.proofs.machine.NodeMachine.take_hop.Goals as goal

pub loop-letter-init : goal.loop-letter-init
loop-letter-init c = took_no_letter c.args.self.now.node.tables c.args.tenant c.args.own.now.items c.args.facts.now.items c.args.told.now.items

pub loop-letter-preserved : goal.loop-letter-preserved
loop-letter-preserved c =
    let w : Tables = c.args.self.now.node.tables in
    let m : Tables = c.loop-letter.self.node.tables in
    let i = c.loop-letter.letter-index in
    let letter : Message = c.letter-item.result in
    let before : List Message = take i c.args.letters.now in
    let more : map own_message (take (i + 1) c.args.letters.now) ≡ map own_message before ++ own_message letter ∷ [] =
    ap (map own_message) (take_more c.args.letters.now i letter c.loop-letter-test.true ∙ ap (λ (y : Message). before ++ y ∷ []) (sym c.letter-item.is)) ∙ map-append own_message before (letter ∷ []) in
    let P : List OwnMessage → Type 0 = λ ms. TookHop w c.args.tenant ms c.args.own.now.items c.take_letter.new.own.items c.args.facts.now.items c.take_letter.new.facts.items c.args.told.now.items c.take_letter.new.told.items c.take_letter.new.self.node.tables in
    subst P (sym more) (took_letters w m c.take_letter.new.self.node.tables c.args.tenant (map own_message before) (own_message letter ∷ []) _ _ _ _ _ _ _ _ _ c.loop-letter.invariant c.in_ok-take_letter.ensures)
