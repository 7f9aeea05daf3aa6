-- Texts that end a line, and what is behind them.
use Rattle.std.proofs.Common.{◌≡◌, ℕ, List, [], ◌∷◌, ◌++◌, Bool, true, false, refl, sym, ap, ◌∙◌, subst, append_assoc, append-nil}
use Rattle.std.specs.Prelude.{◌==◌, codes}
use Rattle.std.specs.List.{flat_map}
use Rattle.gq_desk.specs.CheckedPlan.{CheckedPlan, row_at}
use Rattle.gq_model.specs.declared.events.Event.{Event}
use Rattle.gq_model.specs.declared.events.Event.TheVariants.{Tenant, Server, Stray}
use Rattle.gq_lines.specs.Words.{Word}
use Rattle.gq_lines.specs.Lines.{lines_of, before_first}
use Rattle.gq_lines.specs.Written.{spaced, line_text}
use Rattle.gq_text.specs.Canonical.{line_words, server_line_words, event_line}
use Rattle.gq_lines.proofs.Plain.{is_inner, inner_parts}
use Rattle.gq_setup.specs.Texts.{behind_first}

-- the lines of what is behind it come behind its own
abbrev pub IsWhole : List ℕ → Type 0
IsWhole text = (rest : List ℕ) → lines_of (text ++ rest) ≡ lines_of text ++ lines_of rest

-- a text up to the end of a line has a first line, and perhaps more
record Ended (text : List ℕ) : Type 0 where
  line : List ℕ
  lines : List (List ℕ)
  are : (rest : List ℕ) → lines_of (text ++ 10 ∷ rest) ≡ line ∷ (lines ++ lines_of rest)

ended_text : (text : List ℕ) → Ended text
ended_text [] = record { line = []; lines = []; are = λ rest. refl }
ended_text (c ∷ text) = by (ended_text text) (c == 10) refl
  where
    by : Ended text → (b : Bool) → (c == 10) ≡ b → Ended (c ∷ text)
    by later true here = record { line = []; lines = later.line ∷ later.lines; are = λ rest. rw here (ap (λ ls. [] ∷ ls) (later.are rest)) }
    by later false other = record { line = c ∷ later.line; lines = later.lines; are = λ rest. rw other (ap (before_first c) (later.are rest)) }

ended_whole : (text : List ℕ) → IsWhole (text ++ 10 ∷ [])
ended_whole text rest =
    let ended = ended_text text in
    ap lines_of (append_assoc text (10 ∷ []) rest)
    ∙ ended.are rest
    ∙ ap (λ ls. ended.line ∷ (ls ++ lines_of rest)) (sym (append-nil ended.lines))
    ∙ ap (λ ls. ls ++ lines_of rest) (sym (ended.are []))

line_whole : (first : Word) (words : List Word) → IsWhole (line_text first words)
line_whole first words = subst IsWhole (append_assoc first (spaced words) (10 ∷ [])) (ended_whole (first ++ spaced words))

event_whole : (plan : CheckedPlan) (event : Event) → IsWhole (event_line plan event)
event_whole plan (Tenant t line) = line_whole (row_at plan t).name (line_words line)
event_whole plan (Server line) = line_whole (codes "server") (server_line_words line)
event_whole plan Stray = line_whole [] []

pub events_whole : (plan : CheckedPlan) (events : List Event) → IsWhole (flat_map (event_line plan) events)
events_whole plan [] rest = refl
events_whole plan (event ∷ events) rest =
    let one : List ℕ = event_line plan event in
    let more : List ℕ = flat_map (event_line plan) events in
    ap lines_of (append_assoc one more rest)
    ∙ event_whole plan event (more ++ rest)
    ∙ ap (λ ls. lines_of one ++ ls) (events_whole plan events rest)
    ∙ sym (append_assoc (lines_of one) (lines_of more) (lines_of rest))
    ∙ ap (λ ls. ls ++ lines_of rest) (sym (event_whole plan event more))

-- what follows a first line
pub behind_line : (line rest : List ℕ) → is_inner line ≡ true → behind_first (line ++ 10 ∷ rest) ≡ rest
behind_line [] rest inner = refl
behind_line (c ∷ line) rest inner =
    let parts = inner_parts c line inner in
    rw (parts.0, behind_line line rest parts.1) refl
