-- Which event a line of the input is.
use Rattle.std.specs.Prelude.{ℕ, List, [], ◌∷◌, if◌then◌else◌, codes, Option, Some, None}
use Rattle.std.specs.List.{position_from}
use Rattle.std.specs.Str.{bytes_eq}
use Rattle.gq_desk.specs.Plans.{is_of}
use Rattle.gq_desk.specs.CheckedPlan.{CheckedPlan}
use Rattle.gq_model.specs.declared.events.Event.{Event}
use Rattle.gq_model.specs.declared.events.Event.TheVariants.{Tenant, Server, Stray}
use Rattle.gq_model.specs.declared.events.Line.{Line}
use Rattle.gq_model.specs.declared.events.Line.TheVariants.{Bad, Quorum, NewVolume, Volumes, Write, Read, List as ListFiles, Deliver, Lose, Retry, Abandon}
use Rattle.gq_model.specs.declared.events.ServerLine.{ServerLine}
use Rattle.gq_model.specs.declared.events.ServerLine.TheVariants.{Bad as ServerBad, Down, Up, Lost as ServerLost, Repaired as ServerRepaired}
use Rattle.gq_lines.specs.Words.{Word, words_of, words_after, number_of, content_of}

-- the second value, where the first is there
infixl 10 ◌>>=◌
abbrev pub ◌>>=◌ : {A B : Type 0} → Option A → (A → Option B) → Option B
(Some x) >>= next = next x
None >>= next = None

-- the words are this many numbers, and no more
unfoldable pub one_number_of : List Word → Option ℕ
one_number_of (a ∷ []) = number_of a
one_number_of _ = None

unfoldable pub two_numbers_of : List Word → Option (ℕ × ℕ)
two_numbers_of (a ∷ b ∷ []) = do
  x ← number_of a
  y ← number_of b
  Some (x, y)
two_numbers_of _ = None

unfoldable pub three_numbers_of : List Word → Option (ℕ × ℕ × ℕ)
three_numbers_of (a ∷ b ∷ c ∷ []) = do
  x ← number_of a
  y ← number_of b
  z ← number_of c
  Some (x, y, z)
three_numbers_of _ = None

-- the words are three numbers and a content, and no more
unfoldable pub file_content_of : List Word → Option (ℕ × ℕ × ℕ × List ℕ)
file_content_of (a ∷ b ∷ c ∷ d ∷ []) = do
  x ← number_of a
  y ← number_of b
  z ← number_of c
  bytes ← content_of d
  Some (x, y, z, bytes)
file_content_of _ = None

-- a line of these values, bad where they aren't there
abbrev pub line_from : {A : Type 0} → Option A → (A → Line) → Line
line_from (Some x) line = line x
line_from None line = Bad

-- a line that ends here
abbrev pub line_alone : List Word → Line → Line
line_alone [] line = line
line_alone (a ∷ words) line = Bad

-- the line of a tenant that has these words after the name
unfoldable pub line_of : List Word → Line
line_of [] = Bad
line_of (verb ∷ words) =
    if bytes_eq verb (codes "quorum") then line_alone words Quorum
    else if bytes_eq verb (codes "open") then line_from (two_numbers_of words) (λ (files, blocks). NewVolume files blocks)
    else if bytes_eq verb (codes "volumes") then line_alone words Volumes
    else if bytes_eq verb (codes "write") then line_from (file_content_of words) (λ (session, volume, file, bytes). Write session volume file bytes)
    else if bytes_eq verb (codes "read") then line_from (three_numbers_of words) (λ (session, volume, file). Read session volume file)
    else if bytes_eq verb (codes "list") then line_from (two_numbers_of words) (λ (session, volume). ListFiles session volume)
    else if bytes_eq verb (codes "deliver") then line_from (one_number_of words) (λ n. Deliver n)
    else if bytes_eq verb (codes "lose") then line_from (one_number_of words) (λ n. Lose n)
    else if bytes_eq verb (codes "retry") then line_from (one_number_of words) (λ session. Retry session)
    else if bytes_eq verb (codes "abandon") then line_from (one_number_of words) (λ session. Abandon session)
    else Bad

-- what becomes of a server
abbrev pub change_of : Option ℕ → Word → ServerLine
change_of None way = ServerBad
change_of (Some n) way =
    if bytes_eq way (codes "down") then Down n
    else if bytes_eq way (codes "up") then Up n
    else if bytes_eq way (codes "lost") then ServerLost n
    else if bytes_eq way (codes "repaired") then ServerRepaired n
    else ServerBad

-- the server line that has these words after `server`
unfoldable pub server_line_of : List Word → ServerLine
server_line_of (a ∷ way ∷ []) = change_of (number_of a) way
server_line_of _ = ServerBad

-- the place of the tenant of which the word is the name
abbrev pub place_named : CheckedPlan → Word → Option ℕ
place_named plan word = position_from (is_of word) 0 plan.rows

-- a tenant's line, or a stray one
abbrev pub tenant_event : Option ℕ → List Word → Event
tenant_event (Some tenant) words = Tenant tenant (line_of words)
tenant_event None words = Stray

-- the event of a line's words; the first word says whose it is
unfoldable pub event_of_words : CheckedPlan → List Word → Event
event_of_words plan [] = Stray
event_of_words plan (first ∷ words) =
    if bytes_eq first (codes "server") then Server (server_line_of words)
    else tenant_event (place_named plan first) words

-- the event of a line
abbrev pub event_of : CheckedPlan → List ℕ → Event
event_of plan line = event_of_words plan (words_of line)

-- the event of a line that is cut behind its first word
abbrev pub event_cut : CheckedPlan → List ℕ → List ℕ → Event
event_cut plan first rest = event_of_words plan (first ∷ words_after rest)
