-- The tenant may be gone behind those before it.
use Rattle.std.proofs.Common.{◌≡◌, ◌++◌, ◌∷◌, [], List, true, sym, ap, ◌∙◌, subst}
use Rattle.gq_lines.specs.Words.{Word}
use Rattle.gq_setup.specs.Setups.{Setup, can_go, CanGo}
use Rattle.gq_setup.proofs.Going.{one_gone}
use Rattle.gq_setup.proofs.setup.Setup.let_go.Goals as goal

pub invariant_of-self-2 : goal.invariant_of-self-2
invariant_of-self-2 c =
    let name : Word = c.in-Some.name in
    let before : List Word = c.self.inside.gone.items in
    let grown : c.push_reserved.new.self.items ≡ before ++ name ∷ [] = c.push_reserved.ensures.items ∙ ap (λ ns. ns ++ name ∷ []) c.in_ok-make_room.ensures.items in
    let can : can_go c.self.inside.plan before name ≡ true =
    ap (λ (s : Setup). can_go s.plan s.gone name) c.self.view_is ∙ ap (can_go c.args.self.now.plan c.args.self.now.gone) c.in-Some.ensures.name ∙ sym c.in-Some.ensures.can in
    (c.self.invariant.0, c.self.invariant.1, c.self.invariant.2, c.self.invariant.3, subst (CanGo c.self.inside.plan []) (sym grown) (one_gone c.self.inside.plan [] before name c.self.invariant.4 can))
