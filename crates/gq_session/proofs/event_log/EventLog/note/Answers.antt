use Rattle.std.proofs.Common.{rules, ◌≡◌, [], ◌∷◌, ◌++◌, ap, ◌∙◌}
use Rattle.gq_session.specs.declared.records.SessionEntry.{SessionEntry}
use Rattle.gq_session.specs.Asked.{asked_of}
use Rattle.gq_session.proofs.Asking.{asked_of-push, append-none}
use Rattle.gq_session.proofs.event_log.EventLog.note.Goals as goal

pub invariant_of-self : goal.invariant_of-self
invariant_of-self c =
    let old = c.args.self.now in
    let e : SessionEntry = record { stamp = c.args.stamp; did = c.args.did; said = c.args.said } in
    let more : asked_of (old.entries.items ++ e ∷ []) ≡ asked_of old.entries.items = asked_of-push old.entries.items e ∙ ap (λ r. asked_of old.entries.items ++ r) c.requires.asks ∙ append-none (asked_of old.entries.items) in
    let is : c.push_reserved.new.self.items ≡ old.entries.items ++ e ∷ [] = search rules in
    record { requests = old.requests; within = old.within; prefix = ap asked_of is ∙ more ∙ old.prefix }
