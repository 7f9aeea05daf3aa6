-- A padded name gives its text back.
use Rattle.std.specs.Prelude.{◌≡◌, ℕ, ◌+◌, ◌-◌, ◌≤◌, true, List, ◌++◌, take, drop, length, replicate, refl}
use Rattle.std.proofs.Common.{ap, ap₂, ◌∙◌, sym, arith}
use Rattle.std.proofs.lemmas.List.{take-append-drop, length-take-le}
use Rattle.gq_desk.specs.declared.limits.TheConstants.{MOST_LETTERS}
use Rattle.gq_desk.specs.Names.{padded, is_name}
use Rattle.gq_desk.specs.declared.names.Name.TheInside.{Inside}

pub padded-take : (bytes : List ℕ) (len : ℕ) → len ≤ MOST_LETTERS → length bytes ≡ MOST_LETTERS → drop len bytes ≡ replicate (MOST_LETTERS - len) 0 → padded (take len bytes) ≡ bytes
padded-take bytes len low size rest =
    let within : len ≤ length bytes = omega arith in
    rw (length-take-le len bytes within, ← rest) (take-append-drop len bytes)

abbrev pub record_of : List ℕ → ℕ → Inside
record_of bytes len = record { bytes = bytes; len = len }

pub unpadded : (bytes : List ℕ) (len : ℕ) → (len ≤ MOST_LETTERS) × (length bytes ≡ MOST_LETTERS) × (drop len bytes ≡ replicate (MOST_LETTERS - len) 0) × (is_name (take len bytes) ≡ true) → record_of (padded (take len bytes)) (length (take len bytes)) ≡ record_of bytes len
unpadded bytes len known =
    let within : len ≤ length bytes = let low = known.0 in let size = known.1 in omega arith in
    ap₂ record_of (padded-take bytes len known.0 known.1 known.2) (length-take-le len bytes within)
