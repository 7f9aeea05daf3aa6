-- What a node says to a node: `T S OP ROUND V F BODY`.
use Rattle.std.specs.Prelude.{ℕ, List, [], ◌∷◌, Bool, not, codes, Option, Some, None, if◌then◌else◌}
use Rattle.std.specs.Str.{bytes_eq}
use Rattle.gq_tag.specs.declared.Tag.{Tag}
use Rattle.gq_tag.specs.declared.StoredCopy.{StoredCopy}
use Rattle.gq_tag.specs.declared.Body.{Body}
use Rattle.gq_tag.specs.declared.Body.TheVariants.{Ask, Copy, Store, Stored}
use Rattle.gq_tag.specs.declared.Message.{Message}
use Rattle.gq_tag.specs.Tag.{to_server}
use Rattle.gq_phase.specs.Phase.{is_collect}
use Rattle.gq_replace.specs.Plans.{place_of}
use Rattle.gq_node.specs.declared.shorts.Short.{Short}
use Rattle.gq_node.specs.declared.shorts.ShortBody.{ShortBody}
use Rattle.gq_node.specs.declared.shorts.ShortBody.TheVariants.{AskAbove, Tagged, Confirm, Want}
use Rattle.gq_node.specs.Shorts.{body_with}
use Rattle.gq_lines.specs.Words.{Word}
use Rattle.gq_text.specs.Input.{◌>>=◌}
use Rattle.gq_wire.specs.Values.{number_then, byte_then, long_then, copy_of, alone}
use Rattle.gq_wire.specs.declared.letters.Heading.{Heading}

-- ---- the body

abbrev pub with_copy : (StoredCopy → Body) → Option StoredCopy → Option Body
with_copy body None = None
with_copy body (Some copy) = Some (body copy)

-- the words are those of a body, and no more
unfoldable pub body_of_words : List Word → Option Body
body_of_words [] = None
body_of_words (verb ∷ words) =
    if bytes_eq verb (codes "ask") then alone words Ask
    else if bytes_eq verb (codes "store") then with_copy (λ copy. Store copy) (copy_of words)
    else if bytes_eq verb (codes "copy") then with_copy (λ copy. Copy copy) (copy_of words)
    else if bytes_eq verb (codes "stored") then alone words Stored
    else None

-- whether the body is of a round of that number: one that collects asks and is replied to by copies, one that stores stores
abbrev pub is_of_round : ℕ → Body → Bool
is_of_round round Ask = is_collect round
is_of_round round (Copy copy) = is_collect round
is_of_round round (Store copy) = not (is_collect round)
is_of_round round Stored = not (is_collect round)

-- ---- the letter

-- its session, operation, round, volume and file, and the words behind
unfoldable pub heading_then : List Word → Option (Heading × List Word)
heading_then words = do
  s ← byte_then words
  o ← number_then s.1
  r ← number_then o.1
  v ← number_then r.1
  f ← number_then v.1
  Some (record { session = s.0; op = o.0; round = r.0; volume = v.0; file = f.0 }, f.1)

-- the message of the tenant at place t between these two nodes: the server is that of the one that the body is for, or that it is from
abbrev pub message_from : (here from t : ℕ) → Heading → Body → Message
message_from here from t h body = record {
  tenant = t;
  session = h.session;
  op = h.op;
  round = h.round;
  server = place_of (if to_server body then here else from);
  file = record { tenant = t; volume = h.volume; file = h.file };
  body = body;
}

abbrev pub in_round : Message → Option Message
in_round m = if is_of_round m.round m.body then Some m else None

-- the letter about the tenant at place t, of the words behind its name, to this node from that
unfoldable pub letter_of_words : (here from t : ℕ) → List Word → Option Message
letter_of_words here from t words = do
  h ← heading_then words
  body ← body_of_words h.1
  in_round (message_from here from t h.0 body)

-- ---- a short letter

-- the words are a tag's number and session, and no more
unfoldable pub tag_of : List Word → Option Tag
tag_of words = do
  n ← long_then words
  s ← byte_then n.1
  alone s.1 (record { number = n.0; session = s.0 })

abbrev pub with_tag : (Tag → ShortBody) → Option Tag → Option ShortBody
with_tag body None = None
with_tag body (Some tag) = Some (body tag)

-- the words are those of a short body, and no more
unfoldable pub short_of_words : List Word → Option ShortBody
short_of_words [] = None
short_of_words (verb ∷ words) =
    if bytes_eq verb (codes "ask") then with_tag (λ tag. AskAbove tag) (tag_of words)
    else if bytes_eq verb (codes "tag") then with_tag (λ tag. Tagged tag) (tag_of words)
    else if bytes_eq verb (codes "confirm") then with_tag (λ tag. Confirm tag) (tag_of words)
    else if bytes_eq verb (codes "want") then alone words Want
    else None

-- the short letter of the tenant at place t between these two nodes: it goes the way that the body goes for which it stands
abbrev pub short_from : (here from t : ℕ) → Heading → ShortBody → Short
short_from here from t h body = record {
  tenant = t;
  session = h.session;
  op = h.op;
  round = h.round;
  server = place_of (if to_server (body_with [] body) then here else from);
  file = record { tenant = t; volume = h.volume; file = h.file };
  body = body;
}

abbrev pub short_in_round : Short → Option Short
short_in_round s = if is_of_round s.round (body_with [] s.body) then Some s else None

-- the short letter about the tenant at place t, of the words behind its name, to this node from that
unfoldable pub short_letter_of : (here from t : ℕ) → List Word → Option Short
short_letter_of here from t words = do
  h ← heading_then words
  body ← short_of_words h.1
  short_in_round (short_from here from t h.0 body)
