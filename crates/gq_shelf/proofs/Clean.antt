-- What is clean now was clean before.
use Rattle.std.proofs.Common.{◌≡◌, ℕ, Bool, true, false, List, subst, refl}
use Rattle.std.proofs.lemmas.List.Elements.{All-head, All-tail}
use Rattle.gq_shelf.specs.declared.extent.Extent.{Extent}
use Rattle.gq_shelf.specs.Notes.{Note, Noted, after_put, after_read, after_sync, IsClean, GoesOn}

pub stays : (old new : Noted) → new ≡ old → GoesOn old new
stays old new e written clean = subst (λ (n : Noted). IsClean written n) e clean

pub sync_goes_on : (old new : Noted) → new ≡ after_sync old → GoesOn old new
sync_goes_on old new e written clean = subst (λ (n : Noted). IsClean written n) e clean

pub goes_on : (old mid new : Noted) → GoesOn old mid → GoesOn mid new → GoesOn old new
goes_on old mid new first second written clean = first written (second written clean)

abbrev Is : (Extent → List ℕ) → Note → Type 0
Is written note = written note.0 ≡ note.1

-- what was put lies there, where no read was wrong
pub put_lies : (old new : Noted) (extent : Extent) (bytes : List ℕ) (written : Extent → List ℕ) → new ≡ after_put extent bytes old → IsClean written new → written extent ≡ bytes
put_lies old new extent bytes written e clean = All-head (Is written) (extent, bytes) old.all (subst (λ (n : Noted). IsClean written n) e clean)

pub put_goes_on : (old new : Noted) (extent : Extent) (bytes : List ℕ) → new ≡ after_put extent bytes old → GoesOn old new
put_goes_on old new extent bytes e written clean = All-tail (Is written) (extent, bytes) old.all (subst (λ (n : Noted). IsClean written n) e clean)

-- what was read lies there
pub read_lies : (old new : Noted) (extent : Extent) (bytes : List ℕ) (written : Extent → List ℕ) → new ≡ after_read extent bytes old → IsClean written new → written extent ≡ bytes
read_lies old new extent bytes written e clean = All-head (Is written) (extent, bytes) old.all (subst (λ (n : Noted). IsClean written n) e clean)

pub read_goes_on : (old new : Noted) (extent : Extent) (bytes : List ℕ) → new ≡ after_read extent bytes old → GoesOn old new
read_goes_on old new extent bytes e written clean = All-tail (Is written) (extent, bytes) old.all (subst (λ (n : Noted). IsClean written n) e clean)

-- what was vouched for counts as read, and what was not changes nothing
pub vouched_goes_on : (is : Bool) (old new : Noted) (extent : Extent) (bytes : List ℕ) → (is ≡ true → new ≡ after_read extent bytes old) → (is ≡ false → new ≡ old) → GoesOn old new
vouched_goes_on true old new extent bytes read other = read_goes_on old new extent bytes (read refl)
vouched_goes_on false old new extent bytes read other = stays old new (other refl)
