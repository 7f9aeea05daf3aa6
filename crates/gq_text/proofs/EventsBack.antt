-- The lines of events are read as these events.
use Rattle.std.proofs.Common.{◌≡◌, ℕ, zero, suc, ◌+◌, ◌<◌, List, [], ◌∷◌, ◌++◌, length, map, Some, None, Bool, true, false, cond, refl, sym, ap, ap₂, ◌∙◌, arith}
use Rattle.std.specs.Prelude.{codes, decimal, slice_get, unwrap_or}
use Rattle.std.specs.List.{All, flat_map, list_all, position_from}
use Rattle.std.specs.Str.{bytes_eq}
use Rattle.std.proofs.lemmas.Bool.{and_parts}
use Rattle.std.proofs.lemmas.Option.{slice_get-get_or, unwrap_or-slice_get}
use Rattle.std.proofs.lemmas.List.Elements.{All-head, All-tail}
use Rattle.gq_desk.specs.Names.{is_name}
use Rattle.gq_desk.specs.Plans.{is_of, is_named, rows_fault, table_fault}
use Rattle.gq_desk.proofs.SoundRows.{or_none}
use Rattle.gq_desk.specs.CheckedPlan.{CheckedPlan, nobody, row_at}
use Rattle.gq_desk.specs.declared.plans.TenantRow.{TenantRow}
use Rattle.gq_model.specs.declared.events.Event.{Event}
use Rattle.gq_model.specs.declared.events.Event.TheVariants.{Tenant, Server, Stray}
use Rattle.gq_model.specs.declared.events.Line.{Line}
use Rattle.gq_model.specs.declared.events.Line.TheVariants.{Bad, Quorum, NewVolume, Volumes, Write, Read, List as ListFiles, Deliver, Lose, Retry, Abandon}
use Rattle.gq_model.specs.declared.events.ServerLine.{ServerLine}
use Rattle.gq_model.specs.declared.events.ServerLine.TheVariants.{Bad as ServerBad, Down, Up, Lost as ServerLost, Repaired as ServerRepaired}
use Rattle.gq_lines.specs.Words.{Word}
use Rattle.gq_lines.specs.Lines.{lines_of}
use Rattle.gq_text.specs.Input.{line_of, server_line_of, place_named, tenant_event, event_of, event_of_words, one_number_of, two_numbers_of, three_numbers_of, file_content_of}
use Rattle.gq_lines.specs.Written.{bytes_word, spaced}
use Rattle.gq_text.specs.Canonical.{line_words, server_line_words, event_line, IsPlan, IsNumber, FitsLine, FitsServerLine, Fits}
use Rattle.gq_lines.proofs.Numbers.{numbers_read_back}
use Rattle.gq_lines.proofs.Plain.{is_plain, are_plain, decimal_plain, content_plain}
use Rattle.gq_text.proofs.Plain.{name_plain}
use Rattle.gq_lines.proofs.LinesBack.{words_back, line_back}
use Rattle.gq_text.proofs.PlanNames.{HasPlace, place_of_row}
use Rattle.gq_lines.proofs.Contents.{bytes_back, content_back}

-- ---- the words of a line

pub line_of-words : (line : Line) → FitsLine line → line_of (line_words line) ≡ line
unfolding line_of one_number_of two_numbers_of three_numbers_of file_content_of
line_of-words Bad fits = refl
line_of-words Quorum fits = refl
line_of-words (NewVolume files blocks) fits = rw (numbers_read_back files fits.0, numbers_read_back blocks fits.1) refl
line_of-words Volumes fits = refl
line_of-words (Write session volume file bytes) fits = rw (numbers_read_back session fits.0, numbers_read_back volume fits.1, numbers_read_back file fits.2, content_back bytes fits.3) refl
line_of-words (Read session volume file) fits = rw (numbers_read_back session fits.0, numbers_read_back volume fits.1, numbers_read_back file fits.2) refl
line_of-words (ListFiles session volume) fits = rw (numbers_read_back session fits.0, numbers_read_back volume fits.1) refl
line_of-words (Deliver n) fits = rw (numbers_read_back n fits) refl
line_of-words (Lose n) fits = rw (numbers_read_back n fits) refl
line_of-words (Retry session) fits = rw (numbers_read_back session fits) refl
line_of-words (Abandon session) fits = rw (numbers_read_back session fits) refl

-- a write is read from the bytes of its content too
pub line_of-bytes : (session volume file : ℕ) (bytes : List ℕ) → IsNumber session → IsNumber volume → IsNumber file → line_of (codes "write" ∷ decimal session ∷ decimal volume ∷ decimal file ∷ bytes_word bytes ∷ []) ≡ Write session volume file bytes
unfolding line_of one_number_of two_numbers_of three_numbers_of file_content_of
line_of-bytes session volume file bytes k v f = rw (numbers_read_back session k, numbers_read_back volume v, numbers_read_back file f, bytes_back bytes) refl

server_line_of-words : (line : ServerLine) → FitsServerLine line → server_line_of (server_line_words line) ≡ line
unfolding server_line_of
server_line_of-words ServerBad fits = refl
server_line_of-words (Down server) fits = rw (numbers_read_back server fits) refl
server_line_of-words (Up server) fits = rw (numbers_read_back server fits) refl
server_line_of-words (ServerLost server) fits = rw (numbers_read_back server fits) refl
server_line_of-words (ServerRepaired server) fits = rw (numbers_read_back server fits) refl

line_words_plain : (line : Line) → FitsLine line → are_plain (line_words line) ≡ true
line_words_plain Bad fits = refl
line_words_plain Quorum fits = refl
line_words_plain (NewVolume files blocks) fits = rw (decimal_plain files fits.0, decimal_plain blocks fits.1) refl
line_words_plain Volumes fits = refl
line_words_plain (Write session volume file bytes) fits = rw (decimal_plain session fits.0, decimal_plain volume fits.1, decimal_plain file fits.2, content_plain bytes fits.3) refl
line_words_plain (Read session volume file) fits = rw (decimal_plain session fits.0, decimal_plain volume fits.1, decimal_plain file fits.2) refl
line_words_plain (ListFiles session volume) fits = rw (decimal_plain session fits.0, decimal_plain volume fits.1) refl
line_words_plain (Deliver n) fits = rw (decimal_plain n fits) refl
line_words_plain (Lose n) fits = rw (decimal_plain n fits) refl
line_words_plain (Retry session) fits = rw (decimal_plain session fits) refl
line_words_plain (Abandon session) fits = rw (decimal_plain session fits) refl

server_words_plain : (line : ServerLine) → FitsServerLine line → are_plain (server_line_words line) ≡ true
server_words_plain ServerBad fits = refl
server_words_plain (Down server) fits = rw (decimal_plain server fits) refl
server_words_plain (Up server) fits = rw (decimal_plain server fits) refl
server_words_plain (ServerLost server) fits = rw (decimal_plain server fits) refl
server_words_plain (ServerRepaired server) fits = rw (decimal_plain server fits) refl

-- ---- the tenant of a name

named_at : (rows : List TenantRow) (t : ℕ) → t < length rows → list_all is_named rows ≡ true → is_name (unwrap_or (slice_get rows t) nobody).name ≡ true
named_at [] t within named = absurd (omega arith)
named_at (row ∷ rows) zero within named = (and_parts (is_named row) (list_all is_named rows) named).0
named_at (row ∷ rows) (suc t) within named = named_at rows t (omega arith) (and_parts (is_named row) (list_all is_named rows) named).1

place_back : (plan : CheckedPlan) → IsPlan plan → (t : ℕ) → t < length plan.rows → HasPlace plan t (row_at plan t)
place_back plan is t within =
    place_of_row plan (or_none (rows_fault [] plan.rows) (table_fault plan.blocks plan.rows) is.sound.fault).0 t (row_at plan t) (slice_get-get_or plan.rows t nobody within ∙ ap Some (sym (unwrap_or-slice_get plan.rows t nobody))) (named_at plan.rows t within is.sound.named)

-- ---- the line of an event

-- the line of an event, and the lines after it; that line is read as the event
pub record Back (plan : CheckedPlan) (event : Event) : Type 0 where
  pub line : List ℕ
  pub first : (rest : List ℕ) → lines_of (event_line plan event ++ rest) ≡ line ∷ lines_of rest
  pub tells : event_of plan line ≡ event

otherwise : (b : Bool) (x y : Event) → b ≡ false → cond b x y ≡ y
otherwise true x y is = cc
otherwise false x y is = refl

named_words : (plan : CheckedPlan) (name : Word) (t : ℕ) (words : List Word) → bytes_eq name (codes "server") ≡ false → place_named plan name ≡ Some t → event_of_words plan (name ∷ words) ≡ Tenant t (line_of words)
unfolding event_of_words
named_words plan name t words other place =
    otherwise (bytes_eq name (codes "server")) (Server (server_line_of words)) (tenant_event (place_named plan name) words) other
    ∙ ap (λ o. tenant_event o words) place

tenant_words : (plan : CheckedPlan) → IsPlan plan → (t : ℕ) → t < length plan.rows → (line : Line) → FitsLine line → event_of_words plan ((row_at plan t).name ∷ line_words line) ≡ Tenant t line
tenant_words plan is t within line fits =
    let place : HasPlace plan t (row_at plan t) = place_back plan is t within in
    named_words plan (row_at plan t).name t (line_words line) place.not_server place.found
    ∙ ap (Tenant t) (line_of-words line fits)

server_words : (plan : CheckedPlan) (line : ServerLine) → FitsServerLine line → event_of_words plan (codes "server" ∷ server_line_words line) ≡ Server line
unfolding event_of_words
server_words plan line fits = ap Server (server_line_of-words line fits)

some_letter : (name : Word) → is_name name ≡ true → bytes_eq [] name ≡ false
some_letter [] named = cc
some_letter (c ∷ name) named = refl

-- no tenant's name is the empty word
nobody_there : (from : ℕ) (rows : List TenantRow) → list_all is_named rows ≡ true → position_from (is_of []) from rows ≡ None
nobody_there from [] named = refl
nobody_there from (row ∷ rows) named =
    let names = and_parts (is_named row) (list_all is_named rows) named in
    rw (some_letter row.name names.0) (nobody_there (from + 1) rows names.1)

stray_words : (plan : CheckedPlan) → IsPlan plan → event_of_words plan ([] ∷ []) ≡ Stray
unfolding event_of_words
stray_words plan is = ap (λ o. tenant_event o []) (nobody_there 0 plan.rows is.sound.named)

back : (plan : CheckedPlan) → IsPlan plan → (event : Event) → Fits plan event → Back plan event
back plan is (Tenant t line) fits =
    let name : is_plain (row_at plan t).name ≡ true = name_plain (row_at plan t).name (named_at plan.rows t fits.0 is.sound.named) in
    let words : are_plain (line_words line) ≡ true = line_words_plain line fits.1 in
    record {
      line = (row_at plan t).name ++ spaced (line_words line);
      first = λ rest. line_back (row_at plan t).name (line_words line) rest name words;
      tells = ap (event_of_words plan) (words_back (row_at plan t).name (line_words line) name words) ∙ tenant_words plan is t fits.0 line fits.1;
    }
back plan is (Server line) fits =
    let words : are_plain (server_line_words line) ≡ true = server_words_plain line fits in
    record {
      line = codes "server" ++ spaced (server_line_words line);
      first = λ rest. line_back (codes "server") (server_line_words line) rest refl words;
      tells = ap (event_of_words plan) (words_back (codes "server") (server_line_words line) refl words) ∙ server_words plan line fits;
    }
back plan is Stray fits = record {
  line = [];
  first = λ rest. line_back [] [] rest refl refl;
  tells = ap (event_of_words plan) (words_back [] [] refl refl) ∙ stray_words plan is;
}

-- the lines of events are read as these events
pub events_back : (plan : CheckedPlan) → IsPlan plan → (events : List Event) → All (Fits plan) events → map (event_of plan) (lines_of (flat_map (event_line plan) events)) ≡ events
events_back plan is [] fits = refl
events_back plan is (event ∷ events) fits =
    let one = back plan is event (All-head (Fits plan) event events fits) in
    let more = events_back plan is events (All-tail (Fits plan) event events fits) in
    rw (one.first (flat_map (event_line plan) events)) (ap₂ (λ e es. e ∷ es) one.tells more)
