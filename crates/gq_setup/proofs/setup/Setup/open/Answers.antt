use Rattle.std.proofs.Common.{◌≡◌, ◌<◌, ◌++◌, ◌∷◌, [], List, length, sym, ap, ◌∙◌, subst}
use Rattle.gq_setup.specs.declared.openings.Opening.{Opening}
use Rattle.gq_setup.specs.Setups.{Setup, accounts_of, CanOpen}
use Rattle.gq_setup.proofs.LineByLine.{holdings-length, opened_desk, more_can}
use Rattle.gq_setup.proofs.setup.Setup.open.Goals as goal

pub open_volume-requires : goal.open_volume-requires
open_volume-requires c =
    subst (λ n. c.args.opening.tenant < n) (sym (ap length c.self.invariant.0 ∙ holdings-length c.self.inside.plan c.self.inside.openings.items))
    (subst (λ (s : Setup). c.args.opening.tenant < length s.plan.rows) (sym c.self.view_is) c.requires)

pub invariant_of-self-2 : goal.invariant_of-self-2
invariant_of-self-2 c =
    let before : List Opening = c.self.inside.openings.items in
    let grown : c.push_reserved.new.self.items ≡ before ++ c.args.opening ∷ [] = c.push_reserved.ensures.items ∙ ap (λ os. os ++ c.args.opening ∷ []) c.in_ok-make_room.ensures.items in
    let within : c.args.opening.tenant < length c.self.inside.plan.rows = subst (λ (s : Setup). c.args.opening.tenant < length s.plan.rows) (sym c.self.view_is) c.requires in (
      opened_desk c.self.inside.plan before c.push_reserved.new.self.items c.self.inside.desk c.open_volume.new.self c.args.opening c.self.invariant.0 c.in-Ok.ensures.opened grown,
      subst (CanOpen (accounts_of c.self.inside.plan)) (sym grown) (more_can c.self.inside.plan before c.self.inside.desk c.args.opening c.self.invariant.0 c.self.invariant.1 within c.in-Ok.ensures.sound),
      c.self.invariant.2,
      c.self.invariant.3,
      c.self.invariant.4,
    )
