-- The copy is told, or its tag.
use Rattle.std.proofs.Common.{◌≡◌, ◌∙◌, true, false, ap, sym, subst, refl, Some, None}
use Rattle.gq_tag.specs.declared.Message.{Message}
use Rattle.gq_tag.specs.Tag.{own_message, file_place}
use Rattle.gq_store.specs.Copies.{copy_at}
use Rattle.gq_node.specs.declared.shorts.Short.{Short}
use Rattle.gq_node.specs.Local.{serves}
use Rattle.gq_node.specs.Tables.{Tables, Acts, lacks_at}
use Rattle.gq_node.proofs.Shortly.{ask_lacked, ask_short, ask_whole}
use Rattle.gq_node.proofs.tables.Core.ask_above.Goals as goal

pub returns-then-lacks : goal.returns-then-lacks
returns-then-lacks c =
    let w : Tables = c.args.self.now in
    let s : Short = c.args.short.now in
    let lacks : lacks_at w s.tenant (file_place s.file) ≡ true = ap (λ t. lacks_at w t (file_place s.file)) (sym c.requires.own) ∙ sym c.lacks.ensures ∙ c.if-lacks.true in
    record { acts = ask_lacked w s c.args.bound c.nothing.result lacks (record { answer = c.nothing.ensures.answer; letters = c.nothing.ensures.letters; transfer = c.nothing.ensures.transfer; fact = c.nothing.ensures.fact }) c.nothing.ensures.short }

pub returns-then-goes_short : goal.returns-then-goes_short
returns-then-goes_short c =
    let w : Tables = c.args.self.now in
    let s : Short = c.args.short.now in
    let has : lacks_at w s.tenant (file_place s.file) ≡ false = ap (λ t. lacks_at w t (file_place s.file)) (sym c.requires.own) ∙ sym c.lacks.ensures ∙ c.if-lacks.false in
    record {
      acts = ask_short w s c.args.bound c.tag-tag.result c.replied.result c.requires.own has (c.tag-tag.ensures ∙ ap (λ (x : Tables). (copy_at x.store s.file).tag) c.self.view_is) (sym c.goes_short.ensures ∙ c.if-goes_short.true)
          (record { answer = c.replied.ensures.answer; letters = c.replied.ensures.letters; transfer = c.replied.ensures.transfer; fact = c.replied.ensures.fact }) (c.replied.ensures.short ∙ ap (λ r. Some r) c.reply.ensures);
    }

pub returns : goal.returns
returns c =
    let w : Tables = c.args.self.now in
    let s : Short = c.args.short.now in
    let has : lacks_at w s.tenant (file_place s.file) ≡ false = ap (λ t. lacks_at w t (file_place s.file)) (sym c.requires.own) ∙ sym c.lacks.ensures ∙ c.if-lacks.false in
    record {
      acts = ask_whole w c.serve.new.self s c.args.bound c.tag-tag.result (record { out = c.in_ok-out.out; short = None }) c.requires.own has (c.tag-tag.ensures ∙ ap (λ (x : Tables). (copy_at x.store s.file).tag) c.self.view_is) (sym c.goes_short.ensures ∙ c.if-goes_short.false)
          (subst (λ (m : Message). Acts w m.tenant (λ site local. serves site local (own_message m)) c.in_ok-out.out c.serve.new.self) c.whole-ask.ensures c.in_ok-out.ensures.acts) refl;
    }
