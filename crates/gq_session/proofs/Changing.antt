-- One change more.
use Rattle.std.proofs.Common.{◌≡◌, ◌<◌, List, [], ◌∷◌, ◌++◌, Bool, true, false, length, get_or, refl, sym, ap, arith}
use Rattle.gq_cell.specs.declared.board.BoardEntry.{BoardEntry}
use Rattle.gq_model.specs.declared.events.ServerLine.{ServerLine}
use Rattle.gq_session.specs.Changed.{picked, entry_line, changes_of}

-- a change that is passed by
pub picked-skip : (bs : List Bool) (cs : List ServerLine) → picked (bs ++ false ∷ []) cs ≡ picked bs cs
picked-skip [] [] = refl
picked-skip [] (c ∷ cs) = refl
picked-skip (b ∷ bs) [] = refl
picked-skip (true ∷ bs) (c ∷ cs) = ap (λ r. c ∷ r) (picked-skip bs cs)
picked-skip (false ∷ bs) (c ∷ cs) = picked-skip bs cs

-- a change that is done
pub picked-take : (bs : List Bool) (cs : List ServerLine) (c : ServerLine) → length bs < length cs → c ≡ get_or cs (length bs) c → picked (bs ++ true ∷ []) cs ≡ picked bs cs ++ c ∷ []
picked-take [] [] c low at = absurd (omega arith)
picked-take [] (x ∷ cs) c low at = ap (λ y. y ∷ []) (sym at)
picked-take (b ∷ bs) [] c low at = absurd (omega arith)
picked-take (true ∷ bs) (x ∷ cs) c low at = ap (λ r. x ∷ r) (picked-take bs cs c (omega arith) at)
picked-take (false ∷ bs) (x ∷ cs) c low at = picked-take bs cs c (omega arith) at

pub changes_of-push : (es : List BoardEntry) (e : BoardEntry) → changes_of (es ++ e ∷ []) ≡ changes_of es ++ entry_line e ∷ []
changes_of-push [] e = refl
changes_of-push (x ∷ es) e = ap (λ r. entry_line x ∷ r) (changes_of-push es e)
