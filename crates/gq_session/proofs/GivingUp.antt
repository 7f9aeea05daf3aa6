-- A session that asks, and that does with each note what it has to, gives an operation up exactly where it waits for nothing.
use Rattle.std.proofs.Common.{◌≡◌, ◌∙◌, ℕ, List, [], ◌∷◌, ◌++◌, Bool, true, false, MatchBool, refl, sym, ap, subst}
use Rattle.gq_cell.specs.declared.letter.Letter.{Letter}
use Rattle.gq_tag.specs.declared.Message.{Message}
use Rattle.gq_session.specs.Attending.{Asks, GoesOn, TakesReply, TriesAgain, TakesNotice, gives_up, leaves_stuck, GivesUpAfter, GivesUpWhereStuck}
use Rattle.gq_session.specs.Sessions.{Sitting}
use Rattle.gq_session.specs.Works.{is_of_work, said_ending}
use Rattle.gq_session.specs.declared.records.Did.TheVariants.{Asked, Heard, Retried, GaveUp}
use Rattle.gq_session.specs.declared.records.SessionEntry.{SessionEntry}

-- a step more, that does not give up
pub push-waits : (stuck : Bool) (es : List SessionEntry) (e : SessionEntry) → GivesUpAfter stuck es → gives_up e.did ≡ false → leaves_stuck e ≡ false →
    GivesUpAfter stuck (es ++ e ∷ [])
push-waits stuck [] e kept goes waits = (goes ∙ sym kept, waits)
push-waits stuck (x ∷ es) e kept goes waits = (kept.0, push-waits (leaves_stuck x) es e kept.1 goes waits)

-- a step that leaves it waiting for nothing, and the one that gives up
pub push-stuck : (stuck : Bool) (es : List SessionEntry) (e last : SessionEntry) → GivesUpAfter stuck es → gives_up e.did ≡ false → leaves_stuck e ≡ true →
    gives_up last.did ≡ true → leaves_stuck last ≡ false → GivesUpAfter stuck ((es ++ e ∷ []) ++ last ∷ [])
push-stuck stuck [] e last kept goes sticks ends waits = (goes ∙ sym kept, (ends ∙ sym sticks, waits))
push-stuck stuck (x ∷ es) e last kept goes sticks ends waits = (kept.0, push-stuck (leaves_stuck x) es e last kept.1 goes sticks ends waits)

-- a reply or a retry, and what follows it
goes-on : (es : List SessionEntry) (e : SessionEntry) (stuck : Bool) (tried new : Sitting) → tried.entries ≡ es ++ e ∷ [] → gives_up e.did ≡ false →
    stuck ≡ leaves_stuck e → GoesOn stuck tried new → GivesUpWhereStuck es → GivesUpWhereStuck new.entries
goes-on es e true tried new is goes sticks on kept =
    let last : SessionEntry = record { stamp = on.0; did = GaveUp; said = said_ending tried.work.operation } in
    let more : new.entries ≡ (es ++ e ∷ []) ++ last ∷ [] = ap (λ (s : Sitting). s.entries) on.1 ∙ ap (λ (xs : List SessionEntry). xs ++ last ∷ []) is in
    subst GivesUpWhereStuck (sym more) (push-stuck false es e last kept goes (sym sticks) refl refl)
goes-on es e false tried new is goes sticks on kept =
    let more : new.entries ≡ es ++ e ∷ [] = ap (λ (s : Sitting). s.entries) on ∙ is in
    subst GivesUpWhereStuck (sym more) (push-waits false es e kept goes (sym sticks))

pub asks-keep : (old new : Sitting) (stamp : ℕ) (messages : List Message) → Asks old new stamp messages → GivesUpWhereStuck old.entries → GivesUpWhereStuck new.entries
asks-keep old new stamp messages asked kept =
    let e : SessionEntry = record { stamp = stamp; did = Asked asked.asks.line; said = asked.asks.said } in
    let more : new.entries ≡ old.entries ++ e ∷ [] = ap (λ (s : Sitting). s.entries) asked.asks.left in
    subst GivesUpWhereStuck (sym more) (push-waits false old.entries e kept refl refl)

pub reply-keeps : (letter : Letter) (old new : Sitting) → TakesReply letter old new → GivesUpWhereStuck old.entries → GivesUpWhereStuck new.entries
reply-keeps letter old new took kept =
    let step = took.hears.hears in
    let e : SessionEntry = record { stamp = took.stamp; did = Heard letter; said = step.said } in
    goes-on old.entries e took.stuck took.heard new (ap (λ (s : Sitting). s.entries) step.left) refl step.waits took.goes_on kept

pub retry-keeps : (old new : Sitting) → TriesAgain old new → GivesUpWhereStuck old.entries → GivesUpWhereStuck new.entries
retry-keeps old new took kept =
    let step = took.tries.retries in
    let e : SessionEntry = record { stamp = took.stamp; did = Retried; said = step.said } in
    goes-on old.entries e took.stuck took.tried new (ap (λ (s : Sitting). s.entries) step.left) refl step.waits took.goes_on kept

-- the notice is of this round, or not
notice-by : (current : Bool) (old new : Sitting) → MatchBool current (TriesAgain old new) (new ≡ old) → GivesUpWhereStuck old.entries → GivesUpWhereStuck new.entries
notice-by true old new took kept = retry-keeps old new took kept
notice-by false old new same kept = subst (λ (s : Sitting). GivesUpWhereStuck s.entries) (sym same) kept

pub notice-keeps : (letter : Letter) (old new : Sitting) → TakesNotice letter old new → GivesUpWhereStuck old.entries → GivesUpWhereStuck new.entries
notice-keeps letter old new took kept = notice-by (is_of_work old.work letter.message) old new took kept
