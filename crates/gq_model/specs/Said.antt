-- What a session is told, without the numbers of messages.
use Rattle.std.specs.Prelude.{Option, Some, None}
use Rattle.gq_model.specs.Told.{Told, Began, Stale, Noted, Round, Done, Resent, Abandoned, Refused}
use Rattle.gq_model.specs.declared.said.Said.{Said}
use Rattle.gq_model.specs.declared.said.Said.TheVariants.{Began as SaidBegan, Stale as SaidStale, Noted as SaidNoted, Round as SaidRound, Done as SaidDone, Resent as SaidResent, Abandoned as SaidAbandoned, Refused as SaidRefused}

-- what is told as its session is told it, none of what is told to no session
abbrev pub said_in : Told → Option Said
said_in (Began op first count) = Some (SaidBegan op count)
said_in Stale = Some SaidStale
said_in Noted = Some SaidNoted
said_in (Round round tag first count) = Some (SaidRound round tag count)
said_in (Done outcome) = Some (SaidDone outcome)
said_in (Resent first count) = Some (SaidResent count)
said_in Abandoned = Some SaidAbandoned
said_in (Refused refusal) = Some (SaidRefused refusal)
said_in _ = None
