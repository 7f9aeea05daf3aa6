-- The session state stands for what the letter leaves of the operation.
use Rattle.std.proofs.Common.{Bool, false, Some, None, refl, sym, ap, subst}
use Rattle.std.specs.Prelude.{◌&&◌}
use Rattle.gq_grid.specs.Sets.{servers}
use Rattle.gq_tag.specs.declared.Message.{Message}
use Rattle.gq_phase.specs.declared.Outcome.{Outcome}
use Rattle.gq_phase.specs.declared.Heard.{Heard}
use Rattle.gq_phase.specs.declared.Heard.TheVariants.{Stale, Noted, Done}
use Rattle.gq_phase.specs.Standing.{HearsAs, HearsTag}
use Rattle.gq_node.specs.declared.session_states.SessionState.{SessionState}
use Rattle.gq_node.specs.SessionStates.{SessionStateHears}
use Rattle.gq_node.proofs.Sitting.{session_state_hears, session_state_moves, session_state_ends, taken}
use Rattle.gq_node.proofs.session_states.SessionState.hear.Goals as goal

pub returns-in-Stale : goal.returns-in-Stale
returns-in-Stale c =
    let P : Heard → Type 0 = λ heard. HearsAs c.in-Some.operation c.hear.new.self (servers c.args.up) c.args.message.now heard in
    record {
      hears = session_state_hears c.args.self.now c.in-Some.operation c.hear.new.self c.args.self.now.waited c.args.self.now.stays (servers c.args.up) c.args.message.now Stale
          c.in-Some.is (subst P c.in-Stale.is c.in_ok-heard.ensures.hears) (λ x e. cc) refl refl;
      tags = λ m d. session_state_hears c.args.self.now c.in-Some.operation c.hear.new.self c.args.self.now.waited c.args.self.now.stays (servers c.args.up) m Stale
          c.in-Some.is (subst (λ heard. HearsTag c.in-Some.operation c.hear.new.self (servers c.args.up) c.args.message.now heard) c.in-Stale.is c.in_ok-heard.ensures.tags m (taken c.args.self.now.operation c.in-Some.operation c.args.message.now m c.in-Some.is d)) (λ x e. cc) refl refl;
      reserved = refl;
    }

pub returns-in-Noted : goal.returns-in-Noted
returns-in-Noted c =
    let P : Heard → Type 0 = λ heard. HearsAs c.in-Some.operation c.hear.new.self (servers c.args.up) c.args.message.now heard in
    let Q : SessionState → Type 0 = λ session_state. SessionStateHears c.args.self.now session_state (servers c.args.up) c.args.message.now Noted in
    let R : Bool → Type 0 = λ heard_before. Q (record c.args.self.now { operation = Some c.hear.new.self; waited = heard_before && c.args.self.now.waited }) in
    record {
      hears = subst Q (sym c.note.ensures) (subst R (sym c.has_heard-heard_before.ensures) (session_state_hears c.args.self.now c.in-Some.operation c.hear.new.self (servers c.in-Some.operation.heard c.args.message.now.server && c.args.self.now.waited) c.args.self.now.stays (servers c.args.up) c.args.message.now Noted
          c.in-Some.is (subst P c.in-Noted.is c.in_ok-heard.ensures.hears) (λ x e. cc) refl refl));
      tags = λ m d.
          let differ = taken c.args.self.now.operation c.in-Some.operation c.args.message.now m c.in-Some.is d in
          let S : SessionState → Type 0 = λ session_state. SessionStateHears c.args.self.now session_state (servers c.args.up) m Noted in
          let T : Bool → Type 0 = λ heard_before. S (record c.args.self.now { operation = Some c.hear.new.self; waited = heard_before && c.args.self.now.waited }) in
          subst S (sym c.note.ensures) (subst T (sym c.has_heard-heard_before.ensures) (session_state_hears c.args.self.now c.in-Some.operation c.hear.new.self (servers c.in-Some.operation.heard c.args.message.now.server && c.args.self.now.waited) c.args.self.now.stays (servers c.args.up) m Noted
          c.in-Some.is (subst (λ heard. HearsTag c.in-Some.operation c.hear.new.self (servers c.args.up) c.args.message.now heard) c.in-Noted.is c.in_ok-heard.ensures.tags m differ) (λ x e. cc)
          (ap (λ s. servers c.in-Some.operation.heard s && c.args.self.now.waited) (sym differ.server)) refl));
      reserved = ap (λ (session_state : SessionState). session_state.reserved_floor) c.note.ensures;
    }

pub returns-in_ok-share-in-Done : goal.returns-in_ok-share-in-Done
returns-in_ok-share-in-Done c =
    let P : Heard → Type 0 = λ heard. HearsAs c.in-Some.operation c.hear.new.self (servers c.args.up) c.args.message.now heard in
    let Q : SessionState → Type 0 = λ session_state. SessionStateHears c.args.self.now session_state (servers c.args.up) c.args.message.now (Done c.in-Done.outcome) in
    let R : Outcome → Type 0 = λ outcome. Q (record c.args.self.now { floor = c.floor-floor.result; operation = None; outcome = Some outcome; waited = false }) in
    record {
      hears = subst Q (sym c.rest.ensures) (subst R (sym c.in_ok-share-in-Done.ensures) (session_state_ends c.args.self.now c.in-Some.operation c.hear.new.self c.floor-floor.result (servers c.args.up) c.args.message.now c.in-Done.outcome
          c.in-Some.is (subst P c.in-Done.is c.in_ok-heard.ensures.hears) c.floor-floor.ensures));
      tags = λ m d.
          let S : SessionState → Type 0 = λ session_state. SessionStateHears c.args.self.now session_state (servers c.args.up) m (Done c.in-Done.outcome) in
          let T : Outcome → Type 0 = λ outcome. S (record c.args.self.now { floor = c.floor-floor.result; operation = None; outcome = Some outcome; waited = false }) in
          subst S (sym c.rest.ensures) (subst T (sym c.in_ok-share-in-Done.ensures) (session_state_ends c.args.self.now c.in-Some.operation c.hear.new.self c.floor-floor.result (servers c.args.up) m c.in-Done.outcome
          c.in-Some.is (subst (λ heard. HearsTag c.in-Some.operation c.hear.new.self (servers c.args.up) c.args.message.now heard) c.in-Done.is c.in_ok-heard.ensures.tags m (taken c.args.self.now.operation c.in-Some.operation c.args.message.now m c.in-Some.is d)) c.floor-floor.ensures));
      reserved = ap (λ (session_state : SessionState). session_state.reserved_floor) c.rest.ensures;
    }

pub returns-in_default-heard : goal.returns-in_default-heard
returns-in_default-heard c =
    let P : Message → SessionState → Type 0 = λ m session_state. SessionStateHears c.args.self.now session_state (servers c.args.up) m c.in_ok-heard.heard in
    record {
      hears = subst (P c.args.message.now) (sym c.move_on.ensures) (session_state_moves c.args.self.now c.in-Some.operation c.hear.new.self (servers c.args.up) c.args.message.now c.in_ok-heard.heard
          c.in-Some.is c.in_ok-heard.ensures.hears c.in_default-heard.not-Done c.in_default-heard.not-Stale c.in_default-heard.not-Noted);
      tags = λ m d. subst (P m) (sym c.move_on.ensures) (session_state_moves c.args.self.now c.in-Some.operation c.hear.new.self (servers c.args.up) m c.in_ok-heard.heard
          c.in-Some.is (c.in_ok-heard.ensures.tags m (taken c.args.self.now.operation c.in-Some.operation c.args.message.now m c.in-Some.is d)) c.in_default-heard.not-Done c.in_default-heard.not-Stale c.in_default-heard.not-Noted);
      reserved = ap (λ (session_state : SessionState). session_state.reserved_floor) c.move_on.ensures;
    }
