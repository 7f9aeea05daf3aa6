-- Texts that are appended one after another.
use Rattle.std.proofs.Common.{◌≡◌, ◌∙◌, ℕ, List, ◌++◌, append_assoc, ap}

pub two : (old s new a b : List ℕ) → s ≡ old ++ a → new ≡ s ++ b → new ≡ old ++ (a ++ b)
two old s new a b before now = now ∙ (ap (λ t. t ++ b) before ∙ append_assoc old a b)

pub three : (old s t new a b c : List ℕ) → s ≡ old ++ a → t ≡ s ++ b → new ≡ t ++ c → new ≡ old ++ (a ++ b ++ c)
three old s t new a b c first second now = two old t new (a ++ b) c (two old s t a b first second) now

pub four : (old s t u new a b c d : List ℕ) → s ≡ old ++ a → t ≡ s ++ b → u ≡ t ++ c → new ≡ u ++ d → new ≡ old ++ (a ++ b ++ c ++ d)
four old s t u new a b c d first second third now = two old u new (a ++ b ++ c) d (three old s t u a b c first second third) now

pub five : (old s t u v new a b c d e : List ℕ) → s ≡ old ++ a → t ≡ s ++ b → u ≡ t ++ c → v ≡ u ++ d → new ≡ v ++ e → new ≡ old ++ (a ++ b ++ c ++ d ++ e)
five old s t u v new a b c d e first second third fourth now = two old v new (a ++ b ++ c ++ d) e (four old s t u v a b c d first second third fourth) now

pub six : (old s t u v w new a b c d e f : List ℕ) → s ≡ old ++ a → t ≡ s ++ b → u ≡ t ++ c → v ≡ u ++ d → w ≡ v ++ e → new ≡ w ++ f → new ≡ old ++ (a ++ b ++ c ++ d ++ e ++ f)
six old s t u v w new a b c d e f first second third fourth fifth now = two old w new (a ++ b ++ c ++ d ++ e) f (five old s t u v w a b c d e first second third fourth fifth) now
