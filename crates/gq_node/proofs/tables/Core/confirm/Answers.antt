-- Stored is what the server gives by the store, or it wants the store whole.
use Rattle.std.proofs.Common.{◌≡◌, ◌∙◌, ℕ, true, false, List, ap, sym, subst, Some}
use Rattle.std.specs.Prelude.{◌==◌}
use Rattle.std.proofs.lemmas.Bool.{eq-eqb, ne_eqb}
use Rattle.std.proofs.lemmas.Result.{IfOk-weaker}
use Rattle.gq_tag.specs.declared.Message.{Message}
use Rattle.gq_tag.specs.declared.Body.TheVariants.{Stored}
use Rattle.gq_tag.specs.Tag.{is_less, file_place}
use Rattle.gq_store.specs.Copies.{copy_at}
use Rattle.gq_store.proofs.Changed.{lt_is_less}
use Rattle.gq_node.specs.declared.shorts.Short.{Short}
use Rattle.gq_node.specs.Shorts.{own_short, letter_as, stores_again}
use Rattle.gq_node.specs.ShortSteps.{GivesOne, ActsShortly}
use Rattle.gq_node.specs.Sites.{site_of}
use Rattle.gq_node.specs.Tables.{Tables, lacks_at}
use Rattle.gq_node.proofs.Shortly.{confirm_step, lacked_confirm, held_confirm, own_confirm, other_confirm}
use Rattle.gq_node.proofs.tables.Core.confirm.Goals as goal

pub returns-then-lacks : goal.returns-then-lacks
returns-then-lacks c =
    let w : Tables = c.args.self.now in
    let s : Short = c.args.short.now in
    let lacks : lacks_at w s.tenant (file_place s.file) ≡ true = ap (λ t. lacks_at w t (file_place s.file)) (sym c.requires.own) ∙ sym c.lacks.ensures ∙ c.if-lacks.true in
    record { acts = λ bytes. lacked_confirm w s c.args.tag bytes c.nothing.result lacks (record { answer = c.nothing.ensures.answer; letters = c.nothing.ensures.letters; transfer = c.nothing.ensures.transfer; fact = c.nothing.ensures.fact }) c.nothing.ensures.short }

pub returns-then-not-lt : goal.returns-then-not-lt
returns-then-not-lt c =
    let w : Tables = c.args.self.now in
    let s : Short = c.args.short.now in
    let has : lacks_at w s.tenant (file_place s.file) ≡ false = ap (λ t. lacks_at w t (file_place s.file)) (sym c.requires.own) ∙ sym c.lacks.ensures ∙ c.if-lacks.false in
    let tag : c.tag.result ≡ (copy_at w.store s.file).tag = c.tag.ensures ∙ ap (λ (x : Tables). (copy_at x.store s.file).tag) c.self.view_is in
    let older : is_less (copy_at w.store s.file).tag c.args.tag ≡ false = ap (λ t. is_less t c.args.tag) (sym tag) ∙ sym (lt_is_less c.tag.result c.args.tag) ∙ sym c.lt.ensures ∙ c.if-not-lt.true in
    record {
      acts = IfOk-weaker c.one.result (λ given. GivesOne c.whole.result given) (λ given. (bytes : List ℕ) → ActsShortly w s.tenant (confirm_step s c.args.tag bytes) given w)
          (λ given one bytes. held_confirm w s c.args.tag bytes given c.requires.own c.requires.server has older (subst (λ (m : Message). GivesOne m given) c.whole.ensures one)) c.one.ensures;
    }

pub returns-then-home-self : goal.returns-then-home-self
returns-then-home-self c =
    let w : Tables = c.args.self.now in
    let s : Short = c.args.short.now in
    let has : lacks_at w s.tenant (file_place s.file) ≡ false = ap (λ t. lacks_at w t (file_place s.file)) (sym c.requires.own) ∙ sym c.lacks.ensures ∙ c.if-lacks.false in
    let tag : c.tag.result ≡ (copy_at w.store s.file).tag = c.tag.ensures ∙ ap (λ (x : Tables). (copy_at x.store s.file).tag) c.self.view_is in
    let less : is_less (copy_at w.store s.file).tag c.args.tag ≡ true = ap (λ t. is_less t c.args.tag) (sym tag) ∙ sym (lt_is_less c.tag.result c.args.tag) ∙ sym c.lt.ensures ∙ c.if-not-lt.false in
    let home : c.home.result ≡ (site_of w.plan w.here s.tenant).home s.session = c.home.ensures.home ∙ ap (λ (x : Tables). (site_of x.plan x.here s.tenant).home s.session) c.self.view_is in
    let node : c.self.inside.node ≡ w.here.node = ap (λ (x : Tables). x.here.node) c.self.view_is in
    let here : ((site_of w.plan w.here s.tenant).home s.session == w.here.node) ≡ true = eq-eqb _ _ (sym home ∙ c.if-home-self.true ∙ node) in
    record {
      acts = IfOk-weaker c.store_again.result (λ given. ActsShortly w s.tenant (λ site local. stores_again site local (letter_as (own_short s) Stored)) given w)
          (λ given. (bytes : List ℕ) → ActsShortly w s.tenant (confirm_step s c.args.tag bytes) given w)
          (λ given acts bytes. own_confirm w s c.args.tag bytes given c.requires.own has less here acts) c.store_again.ensures.acts;
    }

pub returns : goal.returns
returns c =
    let w : Tables = c.args.self.now in
    let s : Short = c.args.short.now in
    let has : lacks_at w s.tenant (file_place s.file) ≡ false = ap (λ t. lacks_at w t (file_place s.file)) (sym c.requires.own) ∙ sym c.lacks.ensures ∙ c.if-lacks.false in
    let tag : c.tag.result ≡ (copy_at w.store s.file).tag = c.tag.ensures ∙ ap (λ (x : Tables). (copy_at x.store s.file).tag) c.self.view_is in
    let less : is_less (copy_at w.store s.file).tag c.args.tag ≡ true = ap (λ t. is_less t c.args.tag) (sym tag) ∙ sym (lt_is_less c.tag.result c.args.tag) ∙ sym c.lt.ensures ∙ c.if-not-lt.false in
    let home : c.home.result ≡ (site_of w.plan w.here s.tenant).home s.session = c.home.ensures.home ∙ ap (λ (x : Tables). (site_of x.plan x.here s.tenant).home s.session) c.self.view_is in
    let node : c.self.inside.node ≡ w.here.node = ap (λ (x : Tables). x.here.node) c.self.view_is in
    let away : ((site_of w.plan w.here s.tenant).home s.session == w.here.node) ≡ false = ne_eqb _ _ (λ same. c.if-home-self.false (home ∙ same ∙ sym node)) in
    record {
      acts = λ bytes. other_confirm w s c.args.tag bytes c.replied.result c.requires.own has less away
          (record { answer = c.replied.ensures.answer; letters = c.replied.ensures.letters; transfer = c.replied.ensures.transfer; fact = c.replied.ensures.fact }) (c.replied.ensures.short ∙ ap (λ r. Some r) c.reply.ensures);
    }
