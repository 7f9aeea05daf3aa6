-- Later replies are no older.
use Rattle.std.proofs.Common.{◌≡◌, ℕ, List, [], ◌∷◌, ◌++◌, true, sym, ap, ◌∙◌, subst, append_assoc, append-nil}
use Rattle.std.specs.Prelude.{fold}
use Rattle.gq_tag.specs.declared.FileId.{FileId}
use Rattle.gq_tag.specs.declared.StoredCopy.{StoredCopy}
use Rattle.gq_tag.specs.declared.Body.{Body}
use Rattle.gq_tag.specs.declared.Body.TheVariants.{Ask, Copy, Store, Stored}
use Rattle.gq_tag.specs.Tag.{newer_of, to_server, answer_body}
use Rattle.gq_tag.proofs.Order.{IsAtMost, at_most_refl, at_most_trans, newer_of-left, newer_of-right}
use Rattle.gq_cell.specs.declared.letter.Letter.{Letter}
use Rattle.gq_cell.specs.declared.letter.CellEntry.{CellEntry}
use Rattle.gq_cell.specs.declared.letter.CellEntry.TheVariants.{Served}
use Rattle.gq_cell.specs.Journal.{is_file_id, stored_by_body, stored_by_journal, copy_after, Follows, LawfulAfter, IsLawful, IsServed}
use Rattle.gq_cell.specs.Laws.{LaterRepliesNoOlder}
use Rattle.gq_cell.proofs.Growing.{copy_after-append, is_file_id-refl}

-- what stores brought makes a copy no older
grows : (c : StoredCopy) (xs : List StoredCopy) → IsAtMost c.tag (fold newer_of c xs).tag
grows c [] = at_most_refl c.tag
grows c (x ∷ xs) = at_most_trans c.tag (newer_of c x).tag (fold newer_of (newer_of c x) xs).tag (newer_of-left c x) (grows (newer_of c x) xs)

-- after a store the copy held is no older than the one that it brought
copy_after-no_older : (j k : List CellEntry) (l r : Letter) (file : FileId) (c : StoredCopy) → l.message.body ≡ Store c → file ≡ l.message.file → IsAtMost c.tag (copy_after (j ++ Served l r ∷ k) file).tag
copy_after-no_older j k l r file c is same =
    let there : is_file_id l.message.file file ≡ true = ap (is_file_id l.message.file) same ∙ is_file_id-refl l.message.file in
    let first : stored_by_journal file (Served l r ∷ k) ≡ c ∷ stored_by_journal file k = rw there (ap (λ b. stored_by_body b ++ stored_by_journal file k) is) in
    let all : copy_after (j ++ Served l r ∷ k) file ≡ fold newer_of (newer_of (copy_after j file) c) (stored_by_journal file k) = copy_after-append j (Served l r ∷ k) file ∙ ap (fold newer_of (copy_after j file)) first in
    subst (λ (d : StoredCopy). IsAtMost c.tag d.tag) (sym all)
    (at_most_trans c.tag (newer_of (copy_after j file) c).tag (fold newer_of (newer_of (copy_after j file) c) (stored_by_journal file k)).tag (newer_of-right (copy_after j file) c) (grows (newer_of (copy_after j file) c) (stored_by_journal file k)))

-- an entry of a lawful journal may follow those before it
pub follows : (server : ℕ) (before es fs : List CellEntry) (e : CellEntry) → LawfulAfter server before (es ++ e ∷ fs) → Follows server (before ++ es) e
follows server before [] fs e lawful = subst (λ b. Follows server b e) (sym (append-nil before)) lawful.1
follows server before (x ∷ es) fs e lawful = subst (λ b. Follows server b e) (append_assoc before (x ∷ []) es) (follows server (before ++ x ∷ []) es fs e lawful.2)

-- what a copy in a reply is
given_copy : (held given : StoredCopy) (b : Body) → to_server b ≡ true → answer_body held b ≡ Copy given → given ≡ held
given_copy held given Ask asks is = cc
given_copy held given (Copy c) asks is = cc
given_copy held given (Store c) asks is = cc
given_copy held given Stored asks is = cc

pub later_no_older : LaterRepliesNoOlder
later_no_older server journal lawful store stored ask given copy reply at is_store same is_copy =
    let j = at.0 in let k = at.1 in let rest = at.2 in
    let split : journal ≡ (j ++ Served store stored ∷ k) ++ Served ask given ∷ rest = at.3 ∙ sym (append_assoc j (Served store stored ∷ k) (Served ask given ∷ rest)) in
    let served : IsServed server (j ++ Served store stored ∷ k) ask given = follows server [] (j ++ Served store stored ∷ k) rest (Served ask given) (subst (IsLawful server) split lawful) in
    let body : answer_body (copy_after (j ++ Served store stored ∷ k) ask.message.file) ask.message.body ≡ Copy reply = sym (ap (λ (l : Letter). l.message.body) served.answer) ∙ is_copy in
    subst (λ (d : StoredCopy). IsAtMost copy.tag d.tag) (sym (given_copy (copy_after (j ++ Served store stored ∷ k) ask.message.file) reply ask.message.body served.asks body))
    (copy_after-no_older j k store stored ask.message.file copy is_store same)
