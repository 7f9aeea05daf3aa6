-- What is read of what a crash left.
use Rattle.std.proofs.Common.{◌≡◌, ◌⊎◌, ℕ, ◌+◌, ◌^◌, ◌<◌, ◌≤◌, List, [], ◌∷◌, ◌++◌, length, take, drop, false, refl, sym, ap, ◌∙◌, subst, append_assoc, append-nil, arith, length-append, inl, inr, ⊎_elim}
use Rattle.std.proofs.lemmas.Bool.{cases_lt}
use Rattle.std.proofs.lemmas.List.{append_cancel_left}
use Rattle.std.proofs.Math.Seq.{take-append_seam, drop-append_seam}
use Rattle.gq_journal.specs.Batches.{Line, batches_of, batches_at, batch_text, journal_text, has_right_batch}
use Rattle.gq_journal.specs.Laws.{FitBatches, Begins}
use Rattle.gq_journal.proofs.ReadBack.{batches_read_back, torn_is_none}
use Rattle.gq_journal.proofs.NoneRight.{none_is_read, torn_has_none, cuts_have_none}
use Rattle.gq_keeper.specs.Starting.{behind}
use Rattle.gq_keeper.specs.Crashes.{Leaves}
use Rattle.gq_keeper.proofs.Planning.{batches_for}
use Rattle.gq_keeper.proofs.Journals.{journal_append, fit_append}

-- these are the right batches of the journal, and no right one is behind them
pub record Found (batches : List (List Line)) (journal : List ℕ) : Type 0 where
  pub read : batches_of journal ≡ batches
  pub mends : has_right_batch (behind journal) ≡ false

pub found_none : (bs : List (List Line)) (journal rest : List ℕ) → FitBatches 1 bs → journal ≡ journal_text 1 bs ++ rest → batches_at (1 + length bs) rest ≡ [] → has_right_batch rest ≡ false → Found bs journal
found_none bs journal rest fit is none right = record { read = read; mends = ap has_right_batch at_end ∙ right }
  where
    read : batches_of journal ≡ bs
    read = ap batches_of is ∙ batches_read_back 1 bs rest fit ∙ ap (λ x. bs ++ x) none ∙ append-nil bs

    at_end : behind journal ≡ rest
    at_end = ap (λ b. drop (length (journal_text 1 b)) journal) read ∙ ap (drop (length (journal_text 1 bs))) is ∙ drop-append_seam (journal_text 1 bs) rest

pub found_whole : (bs : List (List Line)) (journal : List ℕ) → FitBatches 1 bs → journal ≡ journal_text 1 bs → Found bs journal
found_whole bs journal fit is = found_none bs journal [] fit (is ∙ sym (append-nil (journal_text 1 bs))) refl refl

empty_of : (xs : List ℕ) → length xs ≡ 0 → xs ≡ []
empty_of [] none = refl
empty_of (x ∷ xs) none = absurd (omega arith)

-- of what was synced whole nothing else is left
pub leaves_all : (synced left : List ℕ) → Leaves synced synced left → left ≡ synced
leaves_all synced left l =
    let none : length l.behind ≡ 0 = omega (arith, l.within, ap length l.front, length-append synced l.behind) in
    l.front ∙ ap (λ b. synced ++ b) (empty_of l.behind none) ∙ append-nil synced

-- where less is left than a batch that was appended, none is read of it
front_of : (text part more : List ℕ) → text ≡ part ++ more → take (length part) text ≡ part
front_of text part more is = ap (take (length part)) is ∙ take-append_seam part more

whole_of : (text part more : List ℕ) → text ≡ part ++ more → length text ≤ length part → part ≡ text
whole_of text part more is all =
    let none : length more ≡ 0 = omega (arith, ap length is, length-append part more) in
    sym (is ∙ ap (λ m. part ++ m) (empty_of more none) ∙ append-nil part)

behind_front : (synced text left part more : List ℕ) → left ≡ synced ++ part → synced ++ text ≡ left ++ more → text ≡ part ++ more
behind_front synced text left part more front whole =
    append_cancel_left synced text (part ++ more) (whole ∙ ap (λ l. l ++ more) front ∙ append_assoc synced part more)

-- a batch that was appended to whole ones is left, or it is not
pub leaves_batch : (bs : List (List Line)) (ls : List Line) (left : List ℕ) → FitBatches 1 bs → FitBatches (1 + length bs) (ls ∷ []) →
    Leaves (journal_text 1 bs) (journal_text 1 bs ++ batch_text (1 + length bs) ls) left → Found bs left ⊎ Found (bs ++ ls ∷ []) left
leaves_batch bs ls left fit own l = ⊎_elim grown strange l.part
  where
    n : ℕ
    n = 1 + length bs

    J : List ℕ
    J = journal_text 1 bs

    T : List ℕ
    T = batch_text (1 + length bs) ls

    small : length l.behind < 2 ^ 64
    small = omega (arith, l.short, ap length l.front, length-append (journal_text 1 bs) l.behind)

    strange : has_right_batch l.behind ≡ false → Found bs left ⊎ Found (bs ++ ls ∷ []) left
    strange none = inl (found_none bs left l.behind fit l.front (none_is_read (1 + length bs) l.behind own.0.0 small none) none)

    torn : (more : List ℕ) → T ≡ l.behind ++ more → length l.behind < length T → Found bs left
    torn more is less =
        let same : take (length l.behind) T ≡ l.behind = front_of T l.behind more is in
        found_none bs left l.behind fit l.front
        (ap (batches_at (1 + length bs)) (sym same) ∙ torn_is_none (1 + length bs) (length l.behind) ls own.0 less)
        (ap has_right_batch (sym same) ∙ torn_has_none (1 + length bs) (length l.behind) ls own.0 less)

    whole : (more : List ℕ) → T ≡ l.behind ++ more → length T ≤ length l.behind → Found (bs ++ ls ∷ []) left
    whole more is all =
        found_whole (bs ++ ls ∷ []) left (fit_append 1 bs (ls ∷ []) fit own)
        (l.front ∙ ap (λ b. journal_text 1 bs ++ b) (whole_of T l.behind more is all ∙ sym (append-nil T)) ∙ sym (journal_append 1 bs (ls ∷ [])))

    grown : Begins left (journal_text 1 bs ++ batch_text (1 + length bs) ls) → Found bs left ⊎ Found (bs ++ ls ∷ []) left
    grown b =
        let is = behind_front J T left l.behind b.0 l.front b.1 in
        elim (cases_lt (length l.behind) (length T)) [
          | inl less ↦ inl (torn b.0 is less)
          | inr all ↦ inr (whole b.0 is all)
        ]

-- the same of lines of which there may be none
pub leaves_for : (bs : List (List Line)) (ls : List Line) (left : List ℕ) → FitBatches 1 bs → FitBatches (1 + length bs) (batches_for ls) →
    Leaves (journal_text 1 bs) (journal_text 1 bs ++ journal_text (1 + length bs) (batches_for ls)) left → Found bs left ⊎ Found (bs ++ batches_for ls) left
leaves_for bs [] left fit own l = inl (found_whole bs left fit (leaves_all (journal_text 1 bs) left (subst (λ t. Leaves (journal_text 1 bs) t left) (append-nil (journal_text 1 bs)) l)))
leaves_for bs (x ∷ ls) left fit own l = leaves_batch bs (x ∷ ls) left fit own (subst (λ t. Leaves (journal_text 1 bs) (journal_text 1 bs ++ t) left) (append-nil (batch_text (1 + length bs) (x ∷ ls))) l)

-- while a wrong end is cut off
pub leaves_cut : (bs : List (List Line)) (text left : List ℕ) (at : ℕ) → FitBatches 1 bs → 1 + length bs < 2 ^ 64 → take at text ≡ journal_text 1 bs → text ≡ take at text ++ drop at text → has_right_batch (drop at text) ≡ false →
    Leaves (take at text) text left → Found bs left
leaves_cut bs text left at fit fits is parts none l =
    found_none bs left l.behind fit (l.front ∙ ap (λ t. t ++ l.behind) is) (none_is_read (1 + length bs) l.behind fits small right) right
  where
    small : length l.behind < 2 ^ 64
    small = omega (arith, l.short, ap length l.front, length-append (take at text) l.behind)

    of_front : Begins left text → has_right_batch l.behind ≡ false
    of_front b =
        let is_part = behind_front (take at text) (drop at text) left l.behind b.0 l.front (sym parts ∙ b.1) in
        ap has_right_batch (sym (front_of (drop at text) l.behind b.0 is_part)) ∙ cuts_have_none (length l.behind) (drop at text) none

    right : has_right_batch l.behind ≡ false
    right = ⊎_elim of_front (λ strange. strange) l.part
