-- Texts that pass through a chunk.
use Rattle.std.proofs.Common.{◌≡◌, ◌∙◌, ℕ, ◌+◌, ◌≤◌, List, [], ◌++◌, length, take, drop, sym, ap, subst, arith, append_assoc, append-nil, take-append-drop, Option, Result, Ok, Err, OnErr, refl}
use Rattle.std.proofs.Math.Seq.{take-append_seam, take-append-add}
use Rattle.std.proofs.lemmas.List.{length-take-le, take-take, take-append-le}
use Rattle.std.specs.Io.KnownBytes.{Appends}
use Rattle.std.proofs.KnownBytes.{Appends-nil, Appends-trans}
use Rattle.gq_streams.specs.Watched.{AppendsPrefix}
use Rattle.gq_shards.specs.Shards.{Passes}

-- what holds of an error holds where there is one
pub on_err : {T E P : Type 0} (r : Result T E) → P → OnErr r P
on_err (Ok x) p = tt
on_err (Err e) p = p

-- a prefix of a text is one of a longer text
pub prefix_longer : (a b : Option (List ℕ)) (text more : List ℕ) → AppendsPrefix a b text → AppendsPrefix a b (text ++ more)
prefix_longer a b text more (n, appends) =
    let front = take n text in
    let whole : text ++ more ≡ front ++ (drop n text ++ more) = ap (λ t. t ++ more) (sym (take-append-drop n text)) ∙ append_assoc front (drop n text) more in
    let is : take (length front) (text ++ more) ≡ front = ap (take (length front)) whole ∙ take-append_seam front (drop n text ++ more) in
    (length front, subst (Appends a b) (sym is) appends)

-- a text, and then a prefix of another
pub prefix_after : (a b c : Option (List ℕ)) (text next : List ℕ) → Appends a b text → AppendsPrefix b c next → AppendsPrefix a c (text ++ next)
prefix_after a b c text next first (n, second) =
    let front = text ++ take n next in
    let whole : text ++ next ≡ front ++ drop n next = ap (λ t. text ++ t) (sym (take-append-drop n next)) ∙ sym (append_assoc text (take n next) (drop n next)) in
    let is : take (length front) (text ++ next) ≡ front = ap (take (length front)) whole ∙ take-append_seam front (drop n next) in
    (length front, subst (Appends a c) (sym is) (Appends-trans a b c text (take n next) first second))

-- nothing was written yet
pub passes_none : (a : Option (List ℕ)) (text : List ℕ) → Passes a a text text
passes_none a text = ([], Appends-nil a, refl)

-- a text was written, and the next too
pub passes_both : (a b c : Option (List ℕ)) (text next held : List ℕ) → Appends a b text → held ≡ [] → Appends b c next → Passes a c (text ++ next) held
passes_both a b c text next held first none second = (text ++ next, Appends-trans a b c text next first second, sym (ap (λ t. (text ++ next) ++ t) none ∙ append-nil (text ++ next)))

-- more passes
pub passes_more : (a b c : Option (List ℕ)) (text held next held' : List ℕ) → Passes a b text held → Passes b c (held ++ next) held' → Passes a c (text ++ next) held'
passes_more a b c text held next held' (sent, appends, is) (sent', appends', is') = (
  sent ++ sent',
  Appends-trans a b c sent sent' appends appends',
  ap (λ t. t ++ next) is ∙ (append_assoc sent held next ∙ (ap (λ t. sent ++ t) is' ∙ sym (append_assoc sent sent' held'))),
)

-- what waits is written
pub passes_all : (a b c : Option (List ℕ)) (text held : List ℕ) → Passes a b text held → Appends b c held → Appends a c text
passes_all a b c text held (sent, appends, is) last = subst (Appends a c) (sym is) (Appends-trans a b c sent held appends last)

-- a prefix of it is
pub passes_part : (a b c : Option (List ℕ)) (text held next : List ℕ) → Passes a b text held → AppendsPrefix b c (held ++ next) → AppendsPrefix a c (text ++ next)
passes_part a b c text held next (sent, appends, is) part =
    let whole : text ++ next ≡ sent ++ (held ++ next) = ap (λ t. t ++ next) is ∙ append_assoc sent held next in
    subst (AppendsPrefix a c) (sym whole) (prefix_after a b c sent (held ++ next) appends part)

-- behind the bytes that wait come those of a text, and what is copied with them
pub waits_near : (n size k : ℕ) (held text rest : List ℕ) → n ≤ length held → size ≤ k → k ≤ length text → take (n + size) (take n held ++ (take k text ++ rest)) ≡ take n held ++ take size text
waits_near n size k held text rest here short within =
    let front : length (take n held) ≡ n = length-take-le n held here in
    let copied : length (take k text) ≡ k = length-take-le k text within in
    ap (λ m. take (m + size) (take n held ++ (take k text ++ rest))) (sym front)
    ∙ take-append-add (take n held) (take k text ++ rest) size
    ∙ ap (λ t. take n held ++ t) (take-append-le size (take k text) rest (omega (arith, copied, short)) ∙ near size k text short)
  where
    near : (m k : ℕ) (t : List ℕ) → m ≤ k → take m (take k t) ≡ take m t
    near m k t less = take-take m k t less
