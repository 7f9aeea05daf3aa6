-- A wrong end that is cut off, and what a crash leaves meanwhile.
use Rattle.std.proofs.Common.{◌≡◌, ℕ, List, [], ◌++◌, length, take, drop, sym, ap, ◌∙◌, subst, arith, append_assoc, length-append, inl, inr, ⊎_elim}
use Rattle.std.proofs.lemmas.List.{take-append-drop}
use Rattle.std.proofs.Math.Seq.{take-length}
use Rattle.std.proofs.Math.ListN.{drop_of_length-le}
use Rattle.gq_keeper.specs.Crashes.{Leaves, LeavesSyncing}

pub taken_all : (text : List ℕ) (at : ℕ) → at ≡ length text → text ≡ take at text
taken_all text at all = sym (ap (λ k. take k text) all ∙ take-length text)

pub none_left : (text : List ℕ) (at : ℕ) → at ≡ length text → drop at text ≡ []
none_left text at all = drop_of_length-le text {i = at} (omega arith)

-- what a crash leaves of less it may leave of more
pub leaves_longer : (synced part seen more left : List ℕ) → seen ≡ part ++ more → Leaves synced part left → Leaves synced seen left
leaves_longer synced part seen more left is l = record {
  behind = l.behind;
  front = l.front;
  within = omega (arith, l.within, ap length is, length-append part more);
  short = l.short;
  part = ⊎_elim (λ b. inl (b.0 ++ more, is ∙ ap (λ p. p ++ more) b.1 ∙ append_assoc left b.0 more)) (λ strange. inr strange) l.part;
}

pub while_cut : (seen synced text left : List ℕ) (at : ℕ) → seen ≡ text → synced ≡ text → Leaves (take at synced) seen left → Leaves (take at text) text left
while_cut seen synced text left at a b l = subst (λ s. Leaves (take at s) text left) b (subst (λ s. Leaves (take at synced) s left) a l)

pub while_synced : (seen synced text left : List ℕ) (at : ℕ) → seen ≡ take at text → synced ≡ take at text → LeavesSyncing synced seen left → Leaves (take at text) text left
while_synced seen synced text left at a b l = ⊎_elim (λ x. longer (subst (λ s. Leaves s (take at text) left) b (subst (λ s. Leaves synced s left) a x))) (λ x. longer (subst (λ s. Leaves s s left) a x)) l
  where
    longer : Leaves (take at text) (take at text) left → Leaves (take at text) text left
    longer x = leaves_longer (take at text) (take at text) text (drop at text) left (sym (take-append-drop at text)) x
