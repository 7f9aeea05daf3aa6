-- What a start needs of a register.
use Rattle.std.proofs.Common.{◌≡◌, List, ℕ, [], ◌∷◌, ◌++◌, Bool, true, false, refl, sym, ap, ◌∙◌, append-nil, ⊎_elim, cond}
use Rattle.std.specs.Prelude.{◌&&◌}
use Rattle.gq_journal.specs.Batches.{Line, ended_line}
use Rattle.gq_keeper.specs.Restarting.{Needs}
use Rattle.gq_keeper_tests.specs.Registers.{is_fact, IsHeld, RecallsTo}

held_by : (line : Line) (old : List ℕ) (b : Bool) → is_fact line ≡ b → b ≡ true → cond b (ended_line line) old ≡ ended_line line
held_by line old true is fact = refl
held_by line old false is fact = cc

none_needed : (text before after : List ℕ) → text ≡ [] → after ≡ before ++ text → Needs RecallsTo (λ machine line. is_fact line) (λ machine first. first ≡ []) (λ machine again. again ≡ machine) text before after
none_needed text before after none is = record {
  lines = [];
  text = is ∙ ap (λ t. before ++ t) none;
  facts = refl;
  stands = record { read = λ new begins. refl; again = λ new last begins all. sym all ∙ begins ∙ sym none };
}

one_needed : (text before after : List ℕ) (line : Line) → is_fact line ≡ true → text ≡ ended_line line → after ≡ before ++ text → Needs RecallsTo (λ machine line. is_fact line) (λ machine first. first ≡ []) (λ machine again. again ≡ machine) text before after
one_needed text before after line fact held is = record {
  lines = line ∷ [];
  text = is ∙ ap (λ t. before ++ t) (held ∙ sym (append-nil (ended_line line)));
  facts = ap (λ x. x && true) fact;
  stands = record { read = λ new begins. ap (λ x. x && true) fact; again = λ new last begins all. sym all.2 ∙ all.1.1 ∙ held_by line new (is_fact line) refl fact ∙ sym held };
}

pub needed : (text before after : List ℕ) → IsHeld text → after ≡ before ++ text → Needs RecallsTo (λ machine line. is_fact line) (λ machine first. first ≡ []) (λ machine again. again ≡ machine) text before after
needed text before after held is = ⊎_elim (λ none. none_needed text before after none is) (λ one. one_needed text before after one.0 one.1 one.2 is) held
