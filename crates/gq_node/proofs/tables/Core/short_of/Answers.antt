-- The form of a letter is the one that the part has it written in.
use Rattle.std.proofs.Common.{◌≡◌, ◌∙◌, true, false, ap, sym, subst, refl, Some, None}
use Rattle.std.specs.Prelude.{option_map}
use Rattle.gq_tag.specs.declared.Message.{Message}
use Rattle.gq_node.specs.ShortSteps.{ShortFormIs, form_at, short_at, short_body_at}
use Rattle.gq_node.specs.Sites.{site_of, has_session}
use Rattle.gq_node.specs.Tables.{Tables}
use Rattle.gq_node.proofs.Shortly.{form_stands}
use Rattle.gq_node.proofs.tables.Core.short_of.Goals as goal

pub returns-then-not-has : goal.returns-then-not-has
returns-then-not-has c =
    let w : Tables = c.args.self.now in
    let m : Message = c.args.message.now in
    let outside : has_session (site_of w.plan w.here m.tenant) m.session ≡ false = ap (has_session (site_of w.plan w.here m.tenant)) (sym c.from.ensures) ∙ sym c.has.ensures.has ∙ c.if-not-has.true in
    let is : None ≡ form_at w m = rw outside refl in
    record { is = is; stands = subst (ShortFormIs w m) (sym is) (form_stands w m c.requires.own) }

form_in : (w : Tables) (m : Message) → has_session (site_of w.plan w.here m.tenant) m.session ≡ true → form_at w m ≡ option_map (short_at m) (short_body_at w m)
form_in w m inside = rw inside refl

pub returns-in_err-body-clause-stands : goal.returns-in_err-body-clause-stands
returns-in_err-body-clause-stands c =
    let w : Tables = c.args.self.now in
    let m : Message = c.args.message.now in
    let inside : has_session (site_of w.plan w.here m.tenant) m.session ≡ true = ap (has_session (site_of w.plan w.here m.tenant)) (sym c.from.ensures) ∙ sym c.has.ensures.has ∙ c.if-not-has.false in
    let is : form_at w m ≡ None = form_in w m inside ∙ ap (option_map (short_at m)) (sym c.short_body.ensures ∙ c.in_err-body.was) in
    subst (ShortFormIs w m) (is ∙ sym c.from_residual.ensures) (form_stands w m c.requires.own)

pub returns-clause-stands : goal.returns-clause-stands
returns-clause-stands c =
    let w : Tables = c.args.self.now in
    let m : Message = c.args.message.now in
    let inside : has_session (site_of w.plan w.here m.tenant) m.session ≡ true = ap (has_session (site_of w.plan w.here m.tenant)) (sym c.from.ensures) ∙ sym c.has.ensures.has ∙ c.if-not-has.false in
    let is : form_at w m ≡ Some (short_at m c.in_ok-body.body) = form_in w m inside ∙ ap (option_map (short_at m)) (sym c.short_body.ensures ∙ c.in_ok-body.was) in
    subst (ShortFormIs w m) (is ∙ sym (ap (λ s. Some s) c.head_of.ensures)) (form_stands w m c.requires.own)
