-- An answer of the code as the model tells it.
use Rattle.gq_grid.specs.Sets.{servers, shown_choice}
use Rattle.gq_model.specs.declared.events.Answer.{Answer}
use Rattle.gq_model.specs.declared.events.Answer.TheVariants.{Quorum, Volume, Volumes, Began as HasBegun, Reply, Down, Stale as IsStale, Noted as IsNoted, Round as IsRound, Done as IsDone, Lost as IsLost, Resent as IsResent, Abandoned as IsAbandoned, Refused as IsRefused, ServerOk as IsServerOk, Repaired as IsRepaired, ServerRefused as IsServerRefused, StrayBad as IsStrayBad}
use Rattle.gq_model.specs.Told.{Told, Chosen, Opened, VolumesAre, Began, Replied, IsDown, Stale, Noted, Round, Done, Lost, Resent, Abandoned, Refused, ServerOk, Repaired, ServerRefused, StrayBad}

-- a choice names its row and column, and its servers
abbrev pub shown : Answer → Told
shown (Quorum choice) = Chosen (shown_choice choice) (servers choice.servers)
shown (Volume number) = Opened number
shown (Volumes free rows) = VolumesAre free rows
shown (HasBegun op first count) = Began op first count
shown (Reply number) = Replied number
shown Down = IsDown
shown IsStale = Stale
shown IsNoted = Noted
shown (IsRound round tag first count) = Round round tag first count
shown (IsDone outcome) = Done outcome
shown IsLost = Lost
shown (IsResent first count) = Resent first count
shown IsAbandoned = Abandoned
shown (IsRefused refusal) = Refused refusal
shown IsServerOk = ServerOk
shown (IsRepaired peer) = Repaired peer
shown (IsServerRefused refusal) = ServerRefused refusal
shown IsStrayBad = StrayBad
