-- The session's store goes out whole, to the server of the short letter.
use Rattle.std.proofs.Common.{◌≡◌, ◌∙◌, ap, sym, subst, Some, None}
use Rattle.std.proofs.lemmas.Result.{IfOk-weaker}
use Rattle.gq_tag.specs.declared.Message.{Message}
use Rattle.gq_tag.specs.declared.Body.TheVariants.{Stored}
use Rattle.gq_node.specs.declared.shorts.Short.{Short}
use Rattle.gq_node.specs.Shorts.{own_short, letter_as, stores_again}
use Rattle.gq_node.specs.ShortSteps.{GivesOne, ActsShortly, stored_for}
use Rattle.gq_node.specs.Tables.{Tables, session_state_at}
use Rattle.gq_node.proofs.Placing.{placed}
use Rattle.gq_node.proofs.Shortly.{again_given, again_not}
use Rattle.gq_node.proofs.tables.Core.store_again.Goals as goal

pub returns-in-Some : goal.returns-in-Some
returns-in-Some c =
    let w : Tables = c.args.self.now in
    let s : Short = c.args.short.now in
    let is : stored_for (session_state_at w s.tenant s.session).operation s ≡ Some c.in-Some.copy = ap (λ k. stored_for (session_state_at w s.tenant k).operation s) (sym c.from.ensures) ∙ sym c.in_ok-copy.ensures ∙ c.in-Some.is in
    record {
      acts = IfOk-weaker c.one.result (λ given. GivesOne c.whole.result given) (λ given. ActsShortly w s.tenant (λ site local. stores_again site local (letter_as (own_short s) Stored)) given w)
          (λ given one. again_given w s Stored c.in-Some.copy given c.requires.own (placed w s.tenant s.session c.requires.has) is (subst (λ (m : Message). GivesOne m given) c.whole.ensures one)) c.one.ensures;
    }

pub returns-in-None : goal.returns-in-None
returns-in-None c =
    let w : Tables = c.args.self.now in
    let s : Short = c.args.short.now in
    let is : stored_for (session_state_at w s.tenant s.session).operation s ≡ None = ap (λ k. stored_for (session_state_at w s.tenant k).operation s) (sym c.from.ensures) ∙ sym c.in_ok-copy.ensures ∙ c.in-None.is in
    record {
      acts = again_not w s Stored c.nothing.result (placed w s.tenant s.session c.requires.has) is
          (record { answer = c.nothing.ensures.answer; letters = c.nothing.ensures.letters; transfer = c.nothing.ensures.transfer; fact = c.nothing.ensures.fact }) c.nothing.ensures.short;
    }
