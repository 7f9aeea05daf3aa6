use Rattle.std.proofs.Common.{rules, ◌≡◌, [], ◌∷◌, ◌++◌, ap, sym, ◌∙◌, arith, length, ◌<◌}
use Rattle.gq_session.specs.declared.records.Did.TheVariants.{Asked}
use Rattle.gq_session.specs.declared.records.SessionEntry.{SessionEntry}
use Rattle.gq_session.specs.Asked.{asked_of}
use Rattle.gq_session.proofs.Asking.{asked_of-push, low-next, take-next}
use Rattle.gq_session.proofs.event_log.EventLog.ask.Goals as goal

pub invariant_of-self : goal.invariant_of-self
invariant_of-self c =
    let old = c.args.self.now in
    let line = c.args.line in
    let e : SessionEntry = record { stamp = c.args.stamp; did = Asked line; said = c.args.said } in
    let low : old.asked < length old.lines.items = low-next old.lines.items line old.asked c.requires.next in
    let is : c.push_reserved.new.self.items ≡ old.entries.items ++ e ∷ [] = search rules in
    record {
      requests = old.requests;
      within = omega arith;
      prefix = ap asked_of is ∙ asked_of-push old.entries.items e ∙ ap (λ r. r ++ line ∷ []) old.prefix ∙ sym (take-next old.lines.items line old.asked c.requires.next);
    }

pub overflow_add-asked : goal.overflow_add-asked
overflow_add-asked c =
    let old = c.args.self.now in
    let low : old.asked < length old.lines.items = low-next old.lines.items c.args.line old.asked c.requires.next in
    grind arith
