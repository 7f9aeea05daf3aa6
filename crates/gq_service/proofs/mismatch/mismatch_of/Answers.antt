use Rattle.std.proofs.Common.{◌≡◌, List, ℕ, Ok, Option, sym, subst}
use Rattle.std.specs.Prelude.{MatchOption, IsErr}
use Rattle.gq_setup.specs.NotKept.{IsNotKept}
use Rattle.gq_setup.specs.Setups.{Setup, SetupReading}
use Rattle.gq_setup.specs.Texts.{setup_of_node_text}
use Rattle.gq_service.specs.Serving.{WasInPlan}
use Rattle.gq_service.proofs.mismatch.mismatch_of.Goals as goal

pub returns-in-Some-not_kept : goal.returns-in-Some-not_kept
returns-in-Some-not_kept c =
    let read : setup_of_node_text c.in_ok-last.last.now ≡ Ok c.in-Some.old =
    subst (λ (o : Option Setup). MatchOption o (IsErr (setup_of_node_text c.in_ok-last.last.now)) (λ s. setup_of_node_text c.in_ok-last.last.now ≡ Ok s)) c.in-Some.is c.in_ok-old.ensures.setup in
    let told : IsNotKept c.in-Some.old c.args.node.now.plan.setup c.in-Some-not_kept.what =
    subst (λ (s : Setup). IsNotKept c.in-Some.old s c.in-Some-not_kept.what) c.setup.ensures c.in-Some-not_kept.ensures.told in
    subst (λ (text : List ℕ). WasInPlan c.args.node.now.plan.setup (setup_of_node_text text) c.in-Some-not_kept.what) c.in_ok-last.ensures
    (subst (λ (r : SetupReading Setup). WasInPlan c.args.node.now.plan.setup r c.in-Some-not_kept.what) (sym read) told)
