-- What a line `TO FROM BODY` is to a node.
use Rattle.std.specs.Prelude.{◌≡◌, ℕ, ◌+◌, ◌*◌, ◌<◌, max, length, List, [], ◌∷◌, Bool, false, ◌&&◌, ◌==◌, nat_lt, codes, Option, Some, None, if◌then◌else◌}
use Rattle.std.specs.Str.{bytes_eq}
use Rattle.gq_tag.specs.declared.FileId.{FileId}
use Rattle.gq_tag.specs.declared.Message.{Message}
use Rattle.gq_tag.specs.declared.StoredCopy.{StoredCopy}
use Rattle.gq_tag.specs.declared.TheConstants.{BLOCK_BYTES}
use Rattle.gq_desk.specs.declared.plans.TenantRow.{TenantRow}
use Rattle.gq_desk.specs.CheckedPlan.{CheckedPlan}
use Rattle.gq_model.specs.declared.events.Line.{Line}
use Rattle.gq_node.specs.declared.lost.TheConstants.{NODE_NUMBERS}
use Rattle.gq_node.specs.declared.shorts.Short.{Short}
use Rattle.gq_lines.specs.Words.{Word, words_of, number_of}
use Rattle.gq_text.specs.Input.{place_named}
use Rattle.gq_wire.specs.declared.incoming.TheConstants.{MOST_LINE, BESIDE_CONTENT}
use Rattle.gq_wire.specs.declared.incoming.Incoming.{Incoming}
use Rattle.gq_wire.specs.declared.incoming.Incoming.TheVariants.{Request, Plan, Look, Bad, Letter, ShortLetter, Joins, Joined, Speaks, Fetch, Fetched, Tick, Greet, Nothing}
use Rattle.gq_wire.specs.Questions.{look_of}
use Rattle.gq_wire.specs.Requests.{request_of}
use Rattle.gq_wire.specs.Letters.{letter_of_words, short_letter_of}
use Rattle.gq_wire.specs.Fetching.{number_behind, fetch_of, fetched_of}

-- ---- from a tenant

abbrev pub request_or_bad : ℕ → Option (ℕ × Line) → Incoming
request_or_bad t (Some request) = Request t request.0 request.1
request_or_bad t None = Bad t

-- it asks what the server has of a volume; or else the line is another
abbrev pub look_or : ℕ → Option (ℕ × ℕ) → Incoming → Incoming
look_or t (Some asked) other = Look t asked.0 asked.1
look_or t None other = other

-- the words are this one, and no more
abbrev pub is_only : Word → List Word → Bool
is_only word (w ∷ []) = bytes_eq w word
is_only word _ = false

-- from the tenant at that place of the plan; nobody else is one
abbrev pub from_tenant : Option ℕ → List Word → Incoming
from_tenant (Some t) body = if is_only (codes "plan") body then Plan t else look_or t (look_of body) (request_or_bad t (request_of body))
from_tenant None body = Nothing

-- ---- from a node

-- a new node asks whether the plan here has it, and so many losses or more; a node tells that its own has; or else the line is another
abbrev pub joins_or : ℕ → Option ℕ → Incoming → Incoming
joins_or from (Some losses) other = Joins from losses
joins_or from None other = other

abbrev pub joined_or : ℕ → Option ℕ → Incoming → Incoming
joined_or from (Some losses) other = Joined from losses
joined_or from None other = other

-- a node tells up to which form it speaks all forms of lines between nodes; or else the line is another
abbrev pub speaks_or : ℕ → Option ℕ → Incoming → Incoming
speaks_or from (Some form) other = Speaks from form
speaks_or from None other = other

-- a copy is asked for; one is given; or else the line is another
abbrev pub fetch_or : ℕ → Option FileId → Incoming → Incoming
fetch_or from (Some file) other = Fetch from file
fetch_or from None other = other

abbrev pub fetched_or : ℕ → Option (FileId × StoredCopy) → Incoming → Incoming
fetched_or from (Some x) other = Fetched from x.0 x.1
fetched_or from None other = other

-- a letter comes, or a short one
abbrev pub letter_or : ℕ → Option Message → Incoming → Incoming
letter_or from (Some message) other = Letter from message
letter_or from None other = other

abbrev pub short_or_nothing : ℕ → Option Short → Incoming
short_or_nothing from (Some short) = ShortLetter from short
short_or_nothing from None = Nothing

-- behind the name of the tenant at that place of the plan, if there is one
abbrev pub behind_name : (here from : ℕ) → Option ℕ → List Word → Incoming
behind_name here from None words = Nothing
behind_name here from (Some t) words = fetch_or from (fetch_of t words) (fetched_or from (fetched_of t words) (letter_or from (letter_of_words here from t words) (short_or_nothing from (short_letter_of here from t words))))

abbrev pub node_words : CheckedPlan → (here from : ℕ) → List Word → Incoming
node_words plan here from [] = Nothing
node_words plan here from (word ∷ words) =
    joins_or from (number_behind (codes "joins") word words) (joined_or from (number_behind (codes "joined") word words)
    (speaks_or from (number_behind (codes "speaks") word words) (behind_name here from (place_named plan word) words)))

abbrev pub is_tick : List Word → Bool
is_tick body = is_only (codes "tick") body

abbrev pub is_greet : List Word → Bool
is_greet body = is_only (codes "greet") body

-- from the node of that number, if one may have it; a node's tick is from itself, and so is the word that it is to greet the others
abbrev pub from_node : CheckedPlan → (here from : ℕ) → List Word → Incoming
from_node plan here from body = if nat_lt from NODE_NUMBERS then (if from == here && is_tick body then Tick else if from == here && is_greet body then Greet else node_words plan here from body) else Nothing

-- ---- the line

-- a number says which node it is from, another word which tenant
abbrev pub incoming_from : CheckedPlan → ℕ → Option ℕ → Word → List Word → Incoming
incoming_from plan here (Some from) word body = from_node plan here from body
incoming_from plan here None word body = from_tenant (place_named plan word) body

abbrev pub is_to : ℕ → Option ℕ → Bool
is_to here None = false
is_to here (Some n) = n == here

unfoldable pub incoming_of_words : CheckedPlan → ℕ → List Word → Incoming
incoming_of_words plan here (to ∷ from ∷ body) = if is_to here (number_of to) then incoming_from plan here (number_of from) from body else Nothing
incoming_of_words plan here _ = Nothing

-- the most blocks that a file of these tenants may have
abbrev pub most_blocks_of : List TenantRow → ℕ
most_blocks_of [] = 0
most_blocks_of (row ∷ rows) = max row.most_blocks (most_blocks_of rows)

-- the most bytes of a line: so many whatever the plan, and enough for a content with two digits for each byte
abbrev pub longest_line : CheckedPlan → ℕ
longest_line plan = max MOST_LINE (2 * BLOCK_BYTES * most_blocks_of plan.rows + BESIDE_CONTENT)

-- what a line without its newline is to the node of that number; one that is too long is nothing
abbrev pub incoming_of : CheckedPlan → ℕ → List ℕ → Incoming
incoming_of plan here line = if nat_lt (longest_line plan) (length line) then Nothing else incoming_of_words plan here (words_of line)

-- ---- what it names

-- a line that is acted on names a tenant of the plan
abbrev pub FitsPlan : CheckedPlan → Incoming → Type 0
FitsPlan plan (Request tenant op line) = tenant < length plan.rows
FitsPlan plan (Plan tenant) = tenant < length plan.rows
FitsPlan plan (Look tenant mark volume) = tenant < length plan.rows
FitsPlan plan (Bad tenant) = tenant < length plan.rows
FitsPlan plan (Letter from m) = (m.tenant < length plan.rows) × (m.file.tenant ≡ m.tenant)
FitsPlan plan (ShortLetter from s) = (s.tenant < length plan.rows) × (s.file.tenant ≡ s.tenant)
FitsPlan plan (Joins from losses) = Unit {0}
FitsPlan plan (Joined from losses) = Unit {0}
FitsPlan plan (Speaks from form) = Unit {0}
FitsPlan plan (Fetch from file) = file.tenant < length plan.rows
FitsPlan plan (Fetched from file copy) = file.tenant < length plan.rows
FitsPlan plan Tick = Unit {0}
FitsPlan plan Greet = Unit {0}
FitsPlan plan Nothing = Unit {0}
