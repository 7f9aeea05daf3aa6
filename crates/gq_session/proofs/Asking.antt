-- Entries with one more.
use Rattle.std.proofs.Common.{◌≡◌, ℕ, ◌+◌, ◌-◌, ◌<◌, List, [], ◌∷◌, ◌++◌, length, get_or, take, drop, length-drop, drop-cons, refl, sym, ap, ◌∙◌, append_assoc, arith}
use Rattle.std.proofs.lemmas.List.{take_more}
use Rattle.gq_model.specs.declared.events.Line.{Line}
use Rattle.gq_session.specs.declared.records.SessionEntry.{SessionEntry}
use Rattle.gq_session.specs.Asked.{asks, asked_of}

pub append-none : {A : Type 0} (xs : List A) → xs ++ [] ≡ xs
append-none [] = refl
append-none (x ∷ xs) = ap (λ r. x ∷ r) (append-none xs)

pub asked_of-push : (es : List SessionEntry) (e : SessionEntry) → asked_of (es ++ e ∷ []) ≡ asked_of es ++ asks e.did
asked_of-push [] e = append-none (asks e.did)
asked_of-push (x ∷ es) e = ap (λ r. asks x.did ++ r) (asked_of-push es e) ∙ sym (append_assoc (asks x.did) (asked_of es) (asks e.did))

-- a request is left: there are more than were asked
pub low-next : (lines : List Line) (line : Line) (n : ℕ) → drop n lines ≡ line ∷ drop (n + 1) lines → n < length lines
low-next lines line n is =
    let more : length lines - n ≡ length (line ∷ drop (n + 1) lines) = sym (length-drop n lines) ∙ ap length is in
    omega (arith, more)

-- the requests asked, with the one that is next
pub take-next : (lines : List Line) (line : Line) (n : ℕ) → drop n lines ≡ line ∷ drop (n + 1) lines → take (n + 1) lines ≡ take n lines ++ line ∷ []
take-next lines line n is =
    let low : n < length lines = low-next lines line n is in
    let here : line ≡ get_or lines n line = ap (λ (xs : List Line). get_or xs 0 line) (sym is ∙ drop-cons lines n line low) in
    take_more lines n line low ∙ ap (λ (x : Line). take n lines ++ x ∷ []) (sym here)
