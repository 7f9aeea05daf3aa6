-- What a session does with a note keeps that it gives up exactly where it waits for nothing.
use Rattle.std.proofs.Common.{◌≡◌, Option, Some, None, MatchOption, sym, subst}
use Rattle.gq_session.specs.Attending.{Asks, GivesUpWhereStuck}
use Rattle.gq_session.specs.Sessions.{Sitting}
use Rattle.gq_session.proofs.GivingUp.{asks-keep, reply-keeps, notice-keeps}
use Rattle.gq_session.specs.declared.session.Outbox.{Outbox}
use Rattle.gq_live.specs.Notes.{TakesNote}
use Rattle.gq_live.specs.declared.starts.Note.{Note}
use Rattle.gq_live.specs.declared.starts.Note.TheVariants.{Letter, Returned, Quit}

pub note-keeps : (note : Note) (old new : Sitting) → TakesNote note old new → GivesUpWhereStuck old.entries → GivesUpWhereStuck new.entries
note-keeps (Letter letter) old new took kept = reply-keeps letter old new took kept
note-keeps (Returned letter) old new took kept = notice-keeps letter old new took kept
note-keeps Quit old new same kept = subst (λ (s : Sitting). GivesUpWhereStuck s.entries) (sym same) kept

-- so does a request, if one is left
pub asked-keep : (asked : Option Outbox) (old new : Sitting) → MatchOption asked (new ≡ old) (λ outbox. Asks old new outbox.stamp outbox.messages) →
    GivesUpWhereStuck old.entries → GivesUpWhereStuck new.entries
asked-keep None old new same kept = subst (λ (s : Sitting). GivesUpWhereStuck s.entries) (sym same) kept
asked-keep (Some outbox) old new asked kept = asks-keep old new outbox.stamp outbox.messages asked kept
