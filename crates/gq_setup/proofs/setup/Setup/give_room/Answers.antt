-- The room may be had behind those before it.
use Rattle.std.proofs.Common.{◌≡◌, ◌<◌, ◌++◌, ◌∷◌, [], List, Option, length, true, sym, ap, ◌∙◌, subst}
use Rattle.std.specs.Prelude.{IfSome}
use Rattle.gq_setup.specs.declared.openings.ChunkRoom.{ChunkRoom}
use Rattle.gq_setup.specs.Setups.{Setup, can_have, CanHave}
use Rattle.gq_setup.proofs.Rooms.{one_had}
use Rattle.gq_setup.proofs.setup.Setup.give_room.Goals as goal

pub invariant_of-self-2 : goal.invariant_of-self-2
invariant_of-self-2 c =
    let room : ChunkRoom = c.in-Some.room in
    let before : List ChunkRoom = c.self.inside.rooms.items in
    let grown : c.push_reserved.new.self.items ≡ before ++ room ∷ [] = c.push_reserved.ensures.items ∙ ap (λ rs. rs ++ room ∷ []) c.in_ok-make_room.ensures.items in
    let can : can_have before room ≡ true = ap (λ (s : Setup). can_have s.rooms room) c.self.view_is ∙ sym c.can_have.ensures.can ∙ c.if-not-can_have.false in
    let there : room.tenant < length c.args.self.now.plan.rows = subst (λ (o : Option ChunkRoom). IfSome o (λ room. room.tenant < length c.args.self.now.plan.rows)) c.in-Some.is c.requires in
    let within : room.tenant < length c.self.inside.plan.rows = subst (λ (s : Setup). room.tenant < length s.plan.rows) (sym c.self.view_is) there in
    (c.self.invariant.0, c.self.invariant.1, subst (CanHave c.self.inside.plan []) (sym grown) (one_had c.self.inside.plan [] before room c.self.invariant.2 within c.can_have.ensures.low can), c.self.invariant.3, c.self.invariant.4)
