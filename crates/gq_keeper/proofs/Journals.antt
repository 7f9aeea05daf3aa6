-- Journals of batches, put together and read.
use Rattle.std.proofs.Common.{◌≡◌, ℕ, suc, ◌+◌, ◌^◌, ◌<◌, List, [], ◌∷◌, ◌++◌, length, true, refl, sym, ap, ◌∙◌, subst, append_assoc, append-nil, arith, length-append}
use Rattle.gq_journal.specs.Batches.{Line, lines_text, batches_of, batches_at, batch_text, journal_text, are_batch_lines}
use Rattle.gq_journal.specs.Laws.{FitBatches}
use Rattle.gq_journal.proofs.ReadBack.{batches_read_back}
use Rattle.gq_keeper.specs.Durable.{AllSealed, kept_text, number_after, SyncedIsRead}
use Rattle.gq_keeper.proofs.Planning.{batches_for}

pub journal_append : (n : ℕ) (a b : List (List Line)) → journal_text n (a ++ b) ≡ journal_text n a ++ journal_text (n + length a) b
journal_append n [] b = ap (λ m. journal_text m b) (let e : n ≡ n + 0 = omega arith in e)
journal_append n (x ∷ a) b =
    ap (λ t. batch_text n x ++ t) (journal_append (n + 1) a b ∙ ap (λ m. journal_text (n + 1) a ++ journal_text m b) (let e : n + 1 + length a ≡ n + suc (length a) = omega arith in e))
    ∙ sym (append_assoc (batch_text n x) (journal_text (n + 1) a) (journal_text (n + suc (length a)) b))

pub fit_append : (n : ℕ) (a b : List (List Line)) → FitBatches n a → FitBatches (n + length a) b → FitBatches n (a ++ b)
fit_append n [] b x y = subst (λ m. FitBatches m b) (let e : n + 0 ≡ n = omega arith in e) y
fit_append n (l ∷ a) b x y = (x.0, fit_append (n + 1) a b x.1 (subst (λ m. FitBatches m b) (let e : n + suc (length a) ≡ n + 1 + length a = omega arith in e) y))

pub read_whole : (bs : List (List Line)) → FitBatches 1 bs → batches_of (journal_text 1 bs) ≡ bs
read_whole bs fit = ap batches_of (sym (append-nil (journal_text 1 bs))) ∙ batches_read_back 1 bs [] fit ∙ append-nil bs

pub sealed_of : (bs : List (List Line)) (seen synced : List ℕ) (number : ℕ) → seen ≡ synced → synced ≡ journal_text 1 bs → FitBatches 1 bs → number ≡ 1 + length bs → AllSealed seen synced number
sealed_of bs seen synced number all kept fit next = record {
  all = all;
  whole = kept ∙ ap (journal_text 1) (sym same);
  fit = subst (FitBatches 1) (sym same) fit;
  next = next ∙ ap (λ x. 1 + length x) (sym same);
}
  where
    same : batches_of synced ≡ bs
    same = ap batches_of kept ∙ read_whole bs fit

pub synced_is_read : SyncedIsRead
synced_is_read seen synced number rest s =
    (batches_at (1 + length (batches_of synced)) rest, ap (λ t. batches_of (t ++ rest)) s.whole ∙ batches_read_back 1 (batches_of synced) rest s.fit)

-- ---- what is appended for some lines

pub kept_is : (n : ℕ) (ls : List Line) → kept_text n (lines_text ls) ≡ journal_text n (batches_for ls)
kept_is n [] = refl
kept_is n ([] ∷ ls) = sym (append-nil (batch_text n ([] ∷ ls)))
kept_is n ((x ∷ l) ∷ ls) = sym (append-nil (batch_text n ((x ∷ l) ∷ ls)))

pub next_is : (n : ℕ) (ls : List Line) → number_after n (lines_text ls) ≡ n + length (batches_for ls)
next_is n [] = omega arith
next_is n ([] ∷ ls) = refl
next_is n ((x ∷ l) ∷ ls) = refl

pub fit_for : (n : ℕ) (ls : List Line) → n < 2 ^ 64 → length (lines_text ls) < 2 ^ 64 → are_batch_lines ls ≡ true → FitBatches n (batches_for ls)
fit_for n [] a b c = tt
fit_for n (l ∷ ls) a b c = ((a, b, c), tt)

-- the journal with the batch of these lines behind it, if there are any
pub grown_is : (seen synced : List ℕ) (number : ℕ) (ls : List Line) (text : List ℕ) → AllSealed seen synced number → text ≡ lines_text ls → synced ++ kept_text number text ≡ journal_text 1 (batches_of synced ++ batches_for ls)
grown_is seen synced number ls text s is =
    ap (λ x. synced ++ kept_text number x) is ∙ ap (λ x. synced ++ x) (kept_is number ls)
    ∙ ap (λ n. synced ++ journal_text n (batches_for ls)) s.next
    ∙ ap (λ x. x ++ journal_text (1 + length (batches_of synced)) (batches_for ls)) s.whole
    ∙ sym (journal_append 1 (batches_of synced) (batches_for ls))

pub grown_fit : (seen synced : List ℕ) (number : ℕ) (ls : List Line) (text : List ℕ) → AllSealed seen synced number → text ≡ lines_text ls → number < 2 ^ 64 → length text < 2 ^ 64 → are_batch_lines ls ≡ true →
    FitBatches 1 (batches_of synced ++ batches_for ls)
grown_fit seen synced number ls text s is fits short are =
    fit_append 1 (batches_of synced) (batches_for ls) s.fit (subst (λ n. FitBatches n (batches_for ls)) s.next (fit_for number ls fits (subst (λ x. length x < 2 ^ 64) is short) are))

pub grown_sealed : (seen synced : List ℕ) (number : ℕ) (ls : List Line) (text : List ℕ) (new_seen new_synced : List ℕ) (next : ℕ) → AllSealed seen synced number → text ≡ lines_text ls → number < 2 ^ 64 → length text < 2 ^ 64 → are_batch_lines ls ≡ true →
    new_seen ≡ new_synced → new_synced ≡ synced ++ kept_text number text → next ≡ number_after number text → AllSealed new_seen new_synced next
grown_sealed seen synced number ls text new_seen new_synced next s is fits short are all kept after =
    sealed_of (batches_of synced ++ batches_for ls) new_seen new_synced next all (kept ∙ grown_is seen synced number ls text s is) (grown_fit seen synced number ls text s is fits short are)
    (after ∙ ap (number_after number) is ∙ next_is number ls ∙ ap (λ m. m + length (batches_for ls)) s.next ∙ sum)
  where
    sum : 1 + length (batches_of synced) + length (batches_for ls) ≡ 1 + length (batches_of synced ++ batches_for ls)
    sum = omega (arith, length-append (batches_of synced) (batches_for ls))

-- where nothing was appended there were no lines
pub nothing_in : (n : ℕ) (text : List ℕ) → kept_text n text ≡ [] → text ≡ []
nothing_in n [] none = refl
nothing_in n (x ∷ text) none = cc
