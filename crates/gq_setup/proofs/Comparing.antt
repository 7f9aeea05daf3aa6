-- Lists compared one by one.
use Rattle.std.proofs.Common.{◌≡◌, ℕ, suc, ◌+◌, ◌<◌, ◌≤◌, List, [], ◌∷◌, length, get_or, drop, Bool, true, false, refl, ap, add-one, drop-cons, arith}
use Rattle.std.specs.Prelude.{◌&&◌}
use Rattle.std.proofs.lemmas.Bool.{and_parts}
use Rattle.std.proofs.Math.ListN.{drop_of_length-le}
use Rattle.std.proofs.lemmas.Option.{slice_get-get_or, slice_get_past}
use Rattle.gq_setup.specs.GoingOn.{come_first}
use Rattle.gq_setup.specs.NotKept.{is_kept_at}

-- no new one is left
pub none_new : {A : Type 0} (test : A → A → Bool) (olds news : List A) (i : ℕ) (d : A) → i < length olds → length news ≤ i → come_first test (drop i olds) (drop i news) ≡ false
none_new test olds news i d old new = rw (drop_of_length-le news {i = i} new, drop-cons olds i d) refl

by_test : {A : Type 0} (test : A → A → Bool) (old new : A) (olds news : List A) (b : Bool) → test old new ≡ b → come_first test (old ∷ olds) (new ∷ news) ≡ (b && come_first test olds news)
by_test test old new olds news b is = ap (λ x. x && come_first test olds news) is

step : {A : Type 0} (test : A → A → Bool) (olds news : List A) (i : ℕ) (d e : A) (b : Bool) → i < length olds → i < length news → test (get_or olds i d) (get_or news i e) ≡ b →
    come_first test (drop i olds) (drop i news) ≡ (b && come_first test (drop (i + 1) olds) (drop (i + 1) news))
step test olds news i d e b old new is = rw (add-one, drop-cons olds i d, drop-cons news i e) (by_test test (get_or olds i d) (get_or news i e) (drop (suc i) olds) (drop (suc i) news) b is)

pub differs : {A : Type 0} (test : A → A → Bool) (olds news : List A) (i : ℕ) (d e : A) → i < length olds → i < length news → test (get_or olds i d) (get_or news i e) ≡ false → come_first test (drop i olds) (drop i news) ≡ false
differs test olds news i d e old new is = step test olds news i d e false old new is

pub goes : {A : Type 0} (test : A → A → Bool) (olds news : List A) (i : ℕ) (d e : A) → i < length olds → i < length news → test (get_or olds i d) (get_or news i e) ≡ true → come_first test (drop i olds) (drop i news) ≡ come_first test (drop (i + 1) olds) (drop (i + 1) news)
goes test olds news i d e old new is = step test olds news i d e true old new is

pub none_old : {A : Type 0} (test : A → A → Bool) (olds news : List A) (i : ℕ) → length olds ≤ i → come_first test (drop i olds) (drop i news) ≡ true
none_old test olds news i old = rw (drop_of_length-le olds {i = i} old) refl

-- ---- what is not kept at a place

pub not_there : {A : Type 0} (test : A → A → Bool) (olds news : List A) (i : ℕ) (d : A) → i < length olds → length news ≤ i → is_kept_at test olds news i ≡ false
not_there test olds news i d old new = rw (slice_get-get_or olds i d old, slice_get_past news i new) refl

pub not_as_wanted : {A : Type 0} (test : A → A → Bool) (olds news : List A) (i : ℕ) (d e : A) → i < length olds → i < length news → test (get_or olds i d) (get_or news i e) ≡ false → is_kept_at test olds news i ≡ false
not_as_wanted test olds news i d e old new is = rw (slice_get-get_or olds i d old, slice_get-get_or news i e new) is

-- where the old ones come first there are no fewer new ones
pub no_fewer : {A : Type 0} (test : A → A → Bool) (olds news : List A) → come_first test olds news ≡ true → length olds ≤ length news
no_fewer test [] news first = omega arith
no_fewer test (old ∷ olds) [] first = cc
no_fewer test (old ∷ olds) (new ∷ news) first = let more = no_fewer test olds news (and_parts (test old new) (come_first test olds news) first).1 in omega (arith, more)
