-- The session hears the copy, whatever its content is, or the tag is lost.
use Rattle.std.proofs.Common.{◌≡◌, ◌∙◌, true, false, [], ap, sym, subst, refl, None}
use Rattle.gq_tag.specs.declared.Message.{Message}
use Rattle.gq_tag.specs.declared.Body.TheVariants.{Copy}
use Rattle.gq_node.specs.declared.shorts.Short.{Short}
use Rattle.gq_node.specs.ShortSteps.{HearsAnyContent, whole_of, takes_in}
use Rattle.gq_node.specs.Tables.{Tables, session_state_at}
use Rattle.gq_node.proofs.Placing.{placed}
use Rattle.gq_node.proofs.Shortly.{any_content, tag_taken, tag_lost}
use Rattle.gq_node.proofs.tables.Core.tagged.Goals as goal

pub returns-then-not-takes_tag : goal.returns-then-not-takes_tag
returns-then-not-takes_tag c =
    let w : Tables = c.args.self.now in
    let s : Short = c.args.short.now in
    let takes : takes_in (session_state_at w s.tenant s.session).operation c.args.tag ≡ false = ap (λ k. takes_in (session_state_at w s.tenant k).operation c.args.tag) (sym c.from.ensures) ∙ sym c.takes_tag.ensures ∙ c.if-not-takes_tag.true in
    record {
      acts = λ bytes. tag_lost w s c.args.tag bytes c.nothing.result (placed w s.tenant s.session c.requires.has) takes
          (record { answer = c.nothing.ensures.answer; letters = c.nothing.ensures.letters; transfer = c.nothing.ensures.transfer; fact = c.nothing.ensures.fact }) c.nothing.ensures.short;
    }

pub returns : goal.returns
returns c =
    let w : Tables = c.args.self.now in
    let s : Short = c.args.short.now in
    let takes : takes_in (session_state_at w s.tenant s.session).operation c.args.tag ≡ true = ap (λ k. takes_in (session_state_at w s.tenant k).operation c.args.tag) (sym c.from.ensures) ∙ sym c.takes_tag.ensures ∙ c.if-not-takes_tag.false in
    let bare : c.whole-copy.result ≡ whole_of s (Copy (record { tag = c.args.tag; bytes = [] })) = c.whole-copy.ensures ∙ ap (λ copy. whole_of s (Copy copy)) c.bare.ensures in
    let hears : HearsAnyContent w (whole_of s (Copy (record { tag = c.args.tag; bytes = [] }))) c.in_ok-out.out c.hear.new.self = subst (λ (m : Message). HearsAnyContent w m c.in_ok-out.out c.hear.new.self) bare c.in_ok-out.ensures.tags in
    record {
      acts = λ bytes. tag_taken w c.hear.new.self s c.args.tag bytes (record { out = c.in_ok-out.out; short = None }) (placed w s.tenant s.session c.requires.has) takes
          (hears (record { tag = c.args.tag; bytes = bytes }) (any_content (session_state_at w s.tenant s.session).operation c.args.tag [] bytes takes)) refl;
    }
