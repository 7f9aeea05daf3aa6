-- The text of an answer.
use Rattle.std.specs.Prelude.{ℕ, zero, suc, ◌+◌, List, [], ◌∷◌, ◌++◌, map, codes, decimal, Option, Some, None}
use Rattle.gq_grid.specs.Grid.{Grid, rising}
use Rattle.gq_tag.specs.declared.Tag.{Tag}
use Rattle.gq_desk.specs.declared.volumes.VolumeRow.{VolumeRow}
use Rattle.gq_desk.specs.CheckedPlan.{CheckedPlan, row_at}
use Rattle.gq_phase.specs.declared.Row.{Row}
use Rattle.gq_phase.specs.declared.Outcome.{Outcome}
use Rattle.gq_phase.specs.declared.Outcome.TheVariants.{Wrote, Gave, Listed}
use Rattle.gq_model.specs.declared.events.Event.{Event}
use Rattle.gq_model.specs.declared.events.Event.TheVariants.{Tenant, Server, Stray}
use Rattle.gq_model.specs.declared.events.Refusal.{Refusal}
use Rattle.gq_model.specs.declared.events.Refusal.TheVariants.{Spent, Bad, NoSession, Busy, Idle, NoVolume, NoFile, TooLong, NoQuorum, NoMessage, Size, Volumes, Share}
use Rattle.gq_model.specs.declared.events.ServerRefusal.{ServerRefusal}
use Rattle.gq_model.specs.declared.events.ServerRefusal.TheVariants.{Bad as ServerBad, NoServer, Lost as IsGone, Same, Last, NoPeer}
use Rattle.gq_model.specs.Told.{Told, Chosen, Opened, VolumesAre, Began, Replied, IsDown, Stale, Noted, Round, Done, Lost, Resent, Abandoned, Refused, ServerOk, Repaired, ServerRefused, StrayBad}
use Rattle.gq_lines.specs.Words.{Word}
use Rattle.gq_lines.specs.Written.{content_word, line_text}

abbrev pub volume_word : VolumeRow → Word
volume_word volume = decimal volume.files ++ codes "x" ++ decimal volume.blocks

-- a file of a listing: the length of its content in bytes, and its tag
abbrev pub file_word : Row → Word
file_word file = decimal file.length ++ codes ":" ++ decimal file.tag.number ++ codes "." ++ decimal file.tag.session

abbrev pub tag_words : Tag → List Word
tag_words tag = codes "tag" ∷ decimal tag.number ∷ decimal tag.session ∷ []

-- the tag of a round, where it has one
abbrev pub round_words : Option Tag → List Word
round_words None = []
round_words (Some tag) = tag_words tag

-- the numbers of the first and the last of so many messages
abbrev pub range_words : ℕ → ℕ → List Word
range_words first zero = codes "none" ∷ []
range_words first (suc more) = decimal first ∷ codes "to" ∷ decimal (first + more) ∷ []

-- the words of how an operation ended
abbrev pub outcome_words : Outcome → List Word
outcome_words (Wrote session op tag) = codes "write" ∷ decimal session ∷ decimal op ∷ tag_words tag
outcome_words (Gave session op copy) = codes "read" ∷ decimal session ∷ decimal op ∷ tag_words copy.tag ++ content_word copy.bytes ∷ []
outcome_words (Listed session op files) = codes "list" ∷ decimal session ∷ decimal op ∷ map file_word files

-- the words of a refusal; that of the share is followed by the blocks that are free
abbrev pub refusal_words : Refusal → List Word
refusal_words Spent = codes "spent" ∷ []
refusal_words Bad = codes "bad" ∷ []
refusal_words NoSession = codes "nosession" ∷ []
refusal_words Busy = codes "busy" ∷ []
refusal_words Idle = codes "idle" ∷ []
refusal_words NoVolume = codes "novolume" ∷ []
refusal_words NoFile = codes "nofile" ∷ []
refusal_words TooLong = codes "toolong" ∷ []
refusal_words NoQuorum = codes "noquorum" ∷ []
refusal_words NoMessage = codes "nomessage" ∷ []
refusal_words Size = codes "size" ∷ []
refusal_words Volumes = codes "volumes" ∷ []
refusal_words (Share free) = codes "share" ∷ decimal free ∷ []

abbrev pub server_refusal_word : ServerRefusal → Word
server_refusal_word ServerBad = codes "bad"
server_refusal_word NoServer = codes "noserver"
server_refusal_word IsGone = codes "lost"
server_refusal_word Same = codes "same"
server_refusal_word Last = codes "last"
server_refusal_word NoPeer = codes "nomate"

-- the words of what is told, after the one that says to whom; servers of the grid are told in rising number
unfoldable pub told_words : Grid → Told → List Word
told_words grid (Chosen choice servers) = codes "quorum" ∷ decimal choice.row ∷ decimal choice.col ∷ codes "servers" ∷ map decimal (rising grid servers)
told_words grid (Opened volume) = codes "volume" ∷ decimal volume ∷ []
told_words grid (VolumesAre free volumes) = codes "volumes" ∷ codes "free" ∷ decimal free ∷ map volume_word volumes
told_words grid (Began op first count) = codes "op" ∷ decimal op ∷ codes "sent" ∷ range_words first count
told_words grid (Replied number) = codes "reply" ∷ decimal number ∷ []
told_words grid IsDown = codes "down" ∷ []
told_words grid Stale = codes "stale" ∷ []
told_words grid Noted = codes "noted" ∷ []
told_words grid (Round round tag first count) = codes "round" ∷ decimal round ∷ round_words tag ++ codes "sent" ∷ range_words first count
told_words grid (Done outcome) = codes "done" ∷ outcome_words outcome
told_words grid Lost = codes "lost" ∷ []
told_words grid (Resent first count) = codes "resent" ∷ range_words first count
told_words grid Abandoned = codes "abandoned" ∷ []
told_words grid (Refused refusal) = codes "refused" ∷ refusal_words refusal
told_words grid ServerOk = codes "ok" ∷ []
told_words grid (Repaired peer) = codes "ok" ∷ []
told_words grid (ServerRefused refusal) = codes "refused" ∷ server_refusal_word refusal ∷ []
told_words grid StrayBad = codes "refused" ∷ codes "bad" ∷ []

-- whose line the event is: the tenant's name, `server` or `?`
abbrev pub who : CheckedPlan → Event → Word
who plan (Tenant tenant line) = (row_at plan tenant).name
who plan (Server line) = codes "server"
who plan Stray = codes "?"

-- the line of what is told to an event
abbrev pub answer_line : CheckedPlan → Event → Told → List ℕ
answer_line plan event told = line_text (who plan event) (told_words plan.grid told)
