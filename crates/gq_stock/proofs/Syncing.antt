-- What a shelf made sure of.
use Rattle.std.proofs.Common.{◌≡◌, ◌≢◌, ◌≤◌, ℕ, List, [], ◌∷◌, ap, subst, sym, refl, arith, ◌∙◌}
use Rattle.std.specs.Prelude.{Contains, Result, Ok, Err, IfOk}
use Rattle.gq_shelf.specs.declared.place.Place.{Place}
use Rattle.gq_shelf.specs.declared.place.Place.TheVariants.{Fresh, Shelved}
use Rattle.std.proofs.lemmas.List.Elements.{Contains-append_right}
use Rattle.gq_shelf.specs.declared.extent.Extent.{Extent}
use Rattle.gq_shelf.specs.declared.fault.ShelfFault.{ShelfFault}
use Rattle.gq_shelf.specs.declared.fault.ShelfFault.TheVariants.{Memory, Read, Write, Full, Damaged}
use Rattle.gq_shelf.specs.Notes.{Note, Noted, after_put, after_read, after_sync, after_damage, after_failure, after_refusal, IsClean, GoesOn}
use Rattle.gq_shelf.specs.Places.{extent_in, PutBehind, ReadAt, ReadFailed, NotedAt}
use Rattle.gq_stock.specs.Sure.{PlaceIsSure, PlaceIsPut, PutsStay}
use Rattle.gq_stock.specs.declared.keeping.Keeping.{Keeping}
use Rattle.gq_stock.specs.declared.keeping.Keeping.TheVariants.{New}

-- a refusal changes nothing of what was put or read
pub refusal_goes_on : (old new : Noted) → new ≡ after_refusal old → GoesOn old new
refusal_goes_on old new e written clean = subst (λ (n : Noted). IsClean written n) e clean

-- what was put is sure once all is
pub put_sure : (place : Place) (end : ℕ) (content : List ℕ) (old mid new : Noted) → PutBehind end content old mid place → new ≡ after_sync mid → PlaceIsSure place new
put_sure (Fresh bytes) end content old mid new put e = absurd put
put_sure (Shelved extent) end content old mid new put e = (content, subst (λ (notes : List Note). Contains notes (extent, content)) (sym (ap (λ (n : Noted). n.sure) e ∙ ap (λ (n : Noted). n.put) put.1)) (0, omega arith, refl))

-- nothing is owed of a new content where none is told
pub never_new : {E : Type 0} (r : Result Keeping E) (X : Type 0) → IfOk r (λ told. told ≢ New) → IfOk r (λ told. told ≡ New → X)
never_new (Err e) X never = tt
never_new (Ok told) X never = λ is. absurd (never is)

-- ---- what was put stays

pub puts_on : (old mid new : Noted) → PutsStay old mid → PutsStay mid new → PutsStay old new
puts_on old mid new one two = record { put = λ place its. two.put place (one.put place its); refused = le old.refused mid.refused new.refused one.refused two.refused }
  where
    le : (a b c : ℕ) → a ≤ b → b ≤ c → a ≤ c
    le a b c first second = omega (arith, first, second)

puts_back : (old new : Noted) → new.put ≡ old.put → old.refused ≤ new.refused → PutsStay old new
puts_back old new same refused = record { put = λ place its. by place its; refused = refused }
  where
    by : (place : Place) → PlaceIsPut place old → PlaceIsPut place new
    by (Fresh bytes) its = tt
    by (Shelved extent) its = (its.0, subst (λ (notes : List Note). Contains notes (extent, its.0)) (sym same) its.1)

puts_same : (old new it : Noted) → new ≡ it → it.put ≡ old.put → old.refused ≤ it.refused → PutsStay old new
puts_same old new it e same refused = subst (λ (n : Noted). PutsStay old n) (sym e) (puts_back old it same refused)

pub puts_itself : (old : Noted) → PutsStay old old
puts_itself old = puts_back old old refl (omega arith)

pub refusal_puts : (old new : Noted) → new ≡ after_refusal old → PutsStay old new
refusal_puts old new e = puts_same old new (after_refusal old) e refl (omega arith)

pub sync_puts : (old new : Noted) → new ≡ after_sync old → PutsStay old new
sync_puts old new e = puts_same old new (after_sync old) e refl (omega arith)

pub read_puts : (place : Place) (bytes : List ℕ) (old new : Noted) → ReadAt place bytes old new → PutsStay old new
read_puts (Fresh own) bytes old new e = puts_same old new old e refl (omega arith)
read_puts (Shelved extent) bytes old new e = puts_same old new (after_read extent bytes old) e refl (omega arith)

failure_puts : (fault : ShelfFault) (extent : Extent) (old : Noted) → PutsStay old (after_failure fault extent old)
failure_puts (Memory refused) extent old = refusal_puts old (after_refusal old) refl
failure_puts Read extent old = refusal_puts old (after_refusal old) refl
failure_puts Write extent old = refusal_puts old (after_refusal old) refl
failure_puts Full extent old = refusal_puts old (after_refusal old) refl
failure_puts (Damaged segment) extent old = puts_same old (after_damage extent old) (after_damage extent old) refl refl (omega arith)

pub failed_puts : (place : Place) (fault : ShelfFault) (old new : Noted) → ReadFailed place fault old new → PutsStay old new
failed_puts (Fresh own) fault old new failed = puts_same old new old failed.1 refl (omega arith)
failed_puts (Shelved extent) fault old new e = subst (λ (n : Noted). PutsStay old n) (sym e) (failure_puts fault extent old)

put_puts : (old new : Noted) (extent : Extent) (bytes : List ℕ) → new ≡ after_put extent bytes old → PutsStay old new
put_puts old new extent bytes e = subst (λ (n : Noted). PutsStay old n) (sym e) (record { put = λ place its. by place its; refused = omega arith })
  where
    by : (place : Place) → PlaceIsPut place old → PlaceIsPut place (after_put extent bytes old)
    by (Fresh own) its = tt
    by (Shelved other) its = (its.0, Contains-append_right ((extent, bytes) ∷ []) old.put (other, its.0) its.1)

pub behind_puts : (place : Place) (end : ℕ) (content : List ℕ) (old new : Noted) → PutBehind end content old new place → PutsStay old new
behind_puts (Fresh bytes) end content old new put = absurd put
behind_puts (Shelved extent) end content old new put = put_puts old new extent content put.1

-- what was put there was put
pub behind_put : (place : Place) (end : ℕ) (content : List ℕ) (old new : Noted) → PutBehind end content old new place → PlaceIsPut place new
behind_put (Fresh bytes) end content old new put = absurd put
behind_put (Shelved extent) end content old new put = (content, subst (λ (notes : List Note). Contains notes (extent, content)) (sym (ap (λ (n : Noted). n.put) put.1)) (0, omega arith, refl))

-- and is sure once all is
pub sync_sure : (place : Place) (old new : Noted) → new ≡ after_sync old → PlaceIsPut place old → PlaceIsSure place new
sync_sure (Fresh bytes) old new e its = tt
sync_sure (Shelved extent) old new e its = (its.0, subst (λ (notes : List Note). Contains notes (extent, its.0)) (sym (ap (λ (n : Noted). n.sure) e)) its.1)

-- what was vouched for was there before
pub vouched_puts : (place : Place) (bytes : List ℕ) (old new : Noted) → NotedAt (extent_in place) bytes old new → PutsStay old new
vouched_puts (Fresh own) bytes old new noted = absurd noted
vouched_puts (Shelved extent) bytes old new e = puts_same old new (after_read extent bytes old) e refl (omega arith)
