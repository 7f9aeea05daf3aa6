-- The session state stands for what the message leaves of the operation.
use Rattle.std.proofs.Common.{Some, sym, subst}
use Rattle.gq_grid.specs.Sets.{servers}
use Rattle.gq_grid.specs.declared.ServerSet.{ServerSet}
use Rattle.gq_phase.specs.declared.Heard.{Heard}
use Rattle.gq_phase.specs.declared.Heard.TheVariants.{Next, Done}
use Rattle.gq_phase.specs.Standing.{HearsAs}
use Rattle.gq_world.specs.declared.sessions.SessionState.{SessionState}
use Rattle.gq_world.specs.SessionStates.{SessionStateHears}
use Rattle.gq_world.proofs.Sitting.{session_state_hears, session_state_ends, answered_still}
use Rattle.gq_world.proofs.sessions.SessionState.hear.Goals as goal

pub returns-in-Done : goal.returns-in-Done
returns-in-Done c =
    let P : Heard → Type 0 = λ heard. HearsAs c.in-Some.operation c.hear_view.new.self (servers c.args.up) c.args.message.now heard in
    let Q : SessionState → Type 0 = λ session_state. SessionStateHears c.args.self.now session_state (servers c.args.up) c.args.message.now (Done c.in-Done.outcome) in
    record {
      hears = subst Q (sym c.rest.ensures) (session_state_ends c.args.self.now c.in-Some.operation c.hear_view.new.self c.floor-floor.result (servers c.args.up) c.args.message.now c.in-Done.outcome
          c.in-Some.is (subst P c.in-Done.is c.in_ok-heard.ensures.hears) c.floor-floor.ensures);
    }

pub returns-in-Next : goal.returns-in-Next
returns-in-Next c =
    let P : Heard → Type 0 = λ heard. HearsAs c.in-Some.operation c.hear_view.new.self (servers c.args.up) c.args.message.now heard in
    let heard : Heard = Next c.in-Next.round c.in-Next.tag c.in-Next.messages in
    let A : ServerSet → Type 0 = λ set. SessionStateHears c.args.self.now (record { op = c.args.self.now.op; floor = c.args.self.now.floor; operation = Some c.hear_view.new.self; answered = set }) (servers c.args.up) c.args.message.now heard in
    record {
      hears = subst A (sym c.empty-self.ensures.value) (session_state_hears c.args.self.now c.in-Some.operation c.hear_view.new.self (servers c.args.up) c.args.message.now heard
          c.in-Some.is (subst P c.in-Next.is c.in_ok-heard.ensures.hears) (λ x e. cc));
    }

pub returns-in_default-heard : goal.returns-in_default-heard
returns-in_default-heard c =
    let heard : Heard = c.in_ok-heard.heard in
    let A : ServerSet → Type 0 = λ set. SessionStateHears c.args.self.now (record { op = c.args.self.now.op; floor = c.args.self.now.floor; operation = Some c.hear_view.new.self; answered = set }) (servers c.args.up) c.args.message.now heard in
    record {
      hears = subst A (answered_still heard c.args.self.now.answered c.in_default-heard.not-Next) (session_state_hears c.args.self.now c.in-Some.operation c.hear_view.new.self (servers c.args.up) c.args.message.now heard
          c.in-Some.is c.in_ok-heard.ensures.hears c.in_default-heard.not-Done);
    }
