-- What is read of a journal that is cut.
use Rattle.std.proofs.Common.{ℕ, ◌+◌, List, [], ◌∷◌, ◌++◌, take, Bool, true, false, refl, ap, ◌∙◌, cond}
use Rattle.std.specs.Str.{bytes_eq}
use Rattle.gq_journal.specs.Batches.{Line, whole_lines, lines_text, is_sealing, seal, batches_from}
use Rattle.gq_journal.specs.Laws.{Begins, CutsKeepBatches}
use Rattle.gq_journal.proofs.Lines.{lines_cut}

Begins-cons : {A : Type 0} (x : A) (first whole : List A) → Begins first whole → Begins (x ∷ first) (x ∷ whole)
Begins-cons x first whole b = (b.0, ap (λ xs. x ∷ xs) b.1)

step : (sealing right : Bool) (before : List Line) (a b c d : List (List Line)) → Begins a b → Begins c d →
    Begins (cond sealing (cond right (before ∷ a) []) c) (cond sealing (cond right (before ∷ b) []) d)
step true true before a b c d x y = Begins-cons before a b x
step true false before a b c d x y = ([], refl)
step false right before a b c d x y = y

pub more_lines : (n : ℕ) (before lines more : List Line) → Begins (batches_from n before lines) (batches_from n before (lines ++ more))
more_lines n before [] more = (batches_from n before more, refl)
more_lines n before (line ∷ lines) more =
    step (is_sealing line) (bytes_eq line (seal n (lines_text before))) before
    (batches_from (n + 1) [] lines) (batches_from (n + 1) [] (lines ++ more))
    (batches_from n (before ++ line ∷ []) lines) (batches_from n (before ++ line ∷ []) (lines ++ more))
    (more_lines (n + 1) [] lines more) (more_lines n (before ++ line ∷ []) lines more)

pub cuts_keep_batches : CutsKeepBatches
cuts_keep_batches n k text =
    let cut = lines_cut k text in
    let more = more_lines n [] (whole_lines (take k text)) cut.0 in
    (more.0, ap (batches_from n []) cut.1 ∙ more.1)
