-- A batch that is kept, and what a crash leaves meanwhile.
use Rattle.std.proofs.lemmas.List.{take-append-drop, length-drop}
use Rattle.std.proofs.Common.{◌≡◌, ℕ, ◌+◌, ◌-◌, ◌≤◌, take, drop, append_assoc, sym, arith, List, [], ◌∷◌, ◌++◌, length, false, refl, ap, ◌∙◌, subst, inl}
use Rattle.std.specs.Prelude.{◌==◌}
use Rattle.gq_journal.specs.Batches.{ended_line, seal}
use Rattle.gq_keeper.specs.Crashes.{Leaves, LeavesSyncing}
use Rattle.gq_keeper.specs.Durable.{kept_text, number_after}

-- of lines that are there
pub some_kept : (n : ℕ) (text : List ℕ) → (length text == 0) ≡ false → text ++ ended_line (seal n text) ≡ kept_text n text
some_kept n [] some = cc
some_kept n (x ∷ text) some = refl

pub some_number : (n : ℕ) (text : List ℕ) → (length text == 0) ≡ false → n + 1 ≡ number_after n text
some_number n [] some = cc
some_number n (x ∷ text) some = refl

-- of lines that stand behind others
pub kept_behind : (n at : ℕ) (text : List ℕ) → (length (drop at text) == 0) ≡ false → text ++ ended_line (seal n (drop at text)) ≡ take at text ++ kept_text n (drop at text)
kept_behind n at text some =
    ap (λ t. t ++ ended_line (seal n (drop at text))) (sym (take-append-drop at text)) ∙ append_assoc (take at text) (drop at text) (ended_line (seal n (drop at text)))
    ∙ ap (λ t. take at text ++ t) (some_kept n (drop at text) some)

pub not_all : (at : ℕ) (text : List ℕ) → at ≤ length text → ¬ (length text ≡ at) → (length (drop at text) == 0) ≡ false
not_all at text within some = let long : length (drop at text) ≡ length text - at = length-drop at text in grind (arith)

pub some_idle : {A : Type 0} (text : List ℕ) (a b : A) → (length text == 0) ≡ false → text ≡ [] → a ≡ b
some_idle [] a b some none = cc
some_idle (x ∷ text) a b some none = cc

pub appending : (synced seen bytes kept left : List ℕ) → seen ≡ synced → bytes ≡ kept → Leaves synced (seen ++ bytes) left → LeavesSyncing synced (synced ++ kept) left
appending synced seen bytes kept left all is l = inl (subst (λ t. Leaves synced t left) (ap (λ s. s ++ bytes) all ∙ ap (λ b. synced ++ b) is) l)

pub syncing : (synced now_synced now_seen seen bytes kept left : List ℕ) → now_synced ≡ synced → now_seen ≡ seen ++ bytes → seen ≡ synced → bytes ≡ kept → LeavesSyncing now_synced now_seen left → LeavesSyncing synced (synced ++ kept) left
syncing synced now_synced now_seen seen bytes kept left same grown all is l =
    subst (λ s. LeavesSyncing s (synced ++ kept) left) same (subst (λ t. LeavesSyncing now_synced t left) (grown ∙ ap (λ s. s ++ bytes) all ∙ ap (λ b. synced ++ b) is) l)
