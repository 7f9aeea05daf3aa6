-- Which lines tell a tenant no refusal.
use Rattle.std.proofs.Common.{◌≡◌, ◌∙◌, ℕ, List, [], ◌∷◌, ◌++◌, get_or, append_assoc, true, false, ap, arith, All}
use Rattle.std.specs.Prelude.{codes}
use Rattle.std.proofs.lemmas.List.{append_cancel_left}
use Rattle.std.proofs.lemmas.List.Elements.{All-nil, All-cons, All-head, All-tail}
use Rattle.gq_grid.specs.Grid.{Grid}
use Rattle.gq_model.specs.Told.{Told, Chosen, Opened, VolumesAre, Began, Replied, IsDown, Stale, Noted, Round, Done, Lost, Resent, Abandoned, Refused, ServerOk, Repaired, ServerRefused, StrayBad}
use Rattle.gq_model.specs.Lone.{is_refusal}
use Rattle.gq_lines.specs.Words.{Word}
use Rattle.gq_lines.specs.Written.{ended, line_text}
use Rattle.gq_text.specs.AnswerText.{told_words}
use Rattle.gq_script.specs.Completing.{told_line, IsRefusal}
use Rattle.gq_script.proofs.FewMessages.{is_stray}

-- the bytes after the name, where a line tells a refusal
byte_is : (name : Word) (words : List Word) (rest : List ℕ) → line_text name words ≡ name ++ codes " refused" ++ rest → (i : ℕ) → get_or (ended words) i 0 ≡ get_or (codes " refused" ++ rest) i 0
byte_is name words rest is i = ap (λ text. get_or text i 0) (append_cancel_left name (ended words) (codes " refused" ++ rest) (is ∙ append_assoc name (codes " refused") rest))

-- what is told, where it is no refusal and not to nobody: by its first byte that differs from those of `refused`
not_refused : (grid : Grid) (name : Word) (told : Told) → is_refusal told ≡ false → is_stray told ≡ false → IsRefusal name (told_line grid name told) → ⊥
unfolding told_words
not_refused grid name (Chosen choice servers) fine own h = let bad : 113 ≡ 114 = byte_is name (told_words grid (Chosen choice servers)) h.0 h.1 1 in omega (arith, bad)
not_refused grid name (Opened volume) fine own h = let bad : 118 ≡ 114 = byte_is name (told_words grid (Opened volume)) h.0 h.1 1 in omega (arith, bad)
not_refused grid name (VolumesAre free volumes) fine own h = let bad : 118 ≡ 114 = byte_is name (told_words grid (VolumesAre free volumes)) h.0 h.1 1 in omega (arith, bad)
not_refused grid name (Began op first count) fine own h = let bad : 111 ≡ 114 = byte_is name (told_words grid (Began op first count)) h.0 h.1 1 in omega (arith, bad)
not_refused grid name (Replied number) fine own h = let bad : 112 ≡ 102 = byte_is name (told_words grid (Replied number)) h.0 h.1 3 in omega (arith, bad)
not_refused grid name IsDown fine own h = let bad : 100 ≡ 114 = byte_is name (told_words grid IsDown) h.0 h.1 1 in omega (arith, bad)
not_refused grid name Stale fine own h = let bad : 115 ≡ 114 = byte_is name (told_words grid Stale) h.0 h.1 1 in omega (arith, bad)
not_refused grid name Noted fine own h = let bad : 110 ≡ 114 = byte_is name (told_words grid Noted) h.0 h.1 1 in omega (arith, bad)
not_refused grid name (Round round tag first count) fine own h = let bad : 111 ≡ 101 = byte_is name (told_words grid (Round round tag first count)) h.0 h.1 2 in omega (arith, bad)
not_refused grid name (Done outcome) fine own h = let bad : 100 ≡ 114 = byte_is name (told_words grid (Done outcome)) h.0 h.1 1 in omega (arith, bad)
not_refused grid name Lost fine own h = let bad : 108 ≡ 114 = byte_is name (told_words grid Lost) h.0 h.1 1 in omega (arith, bad)
not_refused grid name (Resent first count) fine own h = let bad : 115 ≡ 102 = byte_is name (told_words grid (Resent first count)) h.0 h.1 3 in omega (arith, bad)
not_refused grid name Abandoned fine own h = let bad : 97 ≡ 114 = byte_is name (told_words grid Abandoned) h.0 h.1 1 in omega (arith, bad)
not_refused grid name (Refused word) fine own h = let bad : true ≡ false = fine in cc
not_refused grid name ServerOk fine own h = let bad : 111 ≡ 114 = byte_is name (told_words grid ServerOk) h.0 h.1 1 in omega (arith, bad)
not_refused grid name (Repaired peer) fine own h = let bad : 111 ≡ 114 = byte_is name (told_words grid (Repaired peer)) h.0 h.1 1 in omega (arith, bad)
not_refused grid name (ServerRefused word) fine own h = let bad : true ≡ false = fine in cc
not_refused grid name StrayBad fine own h = let bad : true ≡ false = own in cc

-- and so of all that is told
pub none_refused : (grid : Grid) (name : Word) (tolds : List Told) → All (λ told. is_refusal told ≡ false) tolds → All (λ told. is_stray told ≡ false) tolds → All (λ told. IsRefusal name (told_line grid name told) → ⊥) tolds
none_refused grid name [] fine own = All-nil (λ told. IsRefusal name (told_line grid name told) → ⊥)
none_refused grid name (told ∷ tolds) fine own =
    All-cons (λ told. IsRefusal name (told_line grid name told) → ⊥) told tolds
    (not_refused grid name told (All-head (λ told. is_refusal told ≡ false) told tolds fine) (All-head (λ told. is_stray told ≡ false) told tolds own))
    (none_refused grid name tolds (All-tail (λ told. is_refusal told ≡ false) told tolds fine) (All-tail (λ told. is_stray told ≡ false) told tolds own))
