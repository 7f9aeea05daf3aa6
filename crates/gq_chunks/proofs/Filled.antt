-- Whose chunks are not lacked any more was given all of them.
use Rattle.std.proofs.Common.{◌≡◌, ◌≢◌, ◌∙◌, ℕ, List, Bool, true, false, refl, sym, ap, subst}
use Rattle.std.specs.Prelude.{◌==◌, slice_get}
use Rattle.std.proofs.lemmas.Bool.{eqb-true, eq-eqb, true≢false}
use Rattle.gq_depot.specs.Tenants.{ApartFrom}
use Rattle.gq_depot.specs.declared.depot.Depot.{Depot}
use Rattle.gq_chunks.specs.Search.{lacks_in, IsGiven, OnlyGivenAreFilled}
use Rattle.gq_chunks.specs.declared.search.Search.{Search}

pub same_filled : (olds news : List Depot) (search : Search) → news ≡ olds → OnlyGivenAreFilled olds news search
same_filled olds news search same t lacks whole = absurd (true≢false (sym lacks ∙ ap (λ (ds : List Depot). lacks_in (slice_get ds t)) (sym same) ∙ whole))

pub ends_filled : (olds mids news : List Depot) (k : ℕ) (search search' : Search) → mids ≡ olds → search' ≡ search → search.tenant ≡ k → IsGiven mids search → ApartFrom k mids news → OnlyGivenAreFilled olds news search'
ends_filled olds mids news k search search' first same is given apart t lacks whole = by (t == k) refl
  where
    by : (b : Bool) → (t == k) ≡ b → (search'.tenant ≡ t) × IsGiven olds search'
    by true e = (ap (λ (s : Search). s.tenant) same ∙ is ∙ sym (eqb-true t k e), subst (λ (ds : List Depot). IsGiven ds search') first (subst (λ (s : Search). IsGiven mids s) (sym same) given))
    by false e =
        let differs : t ≢ k = λ s. true≢false (sym (eq-eqb t k s) ∙ e) in
        let stays : slice_get news t ≡ slice_get olds t = apart t differs ∙ ap (λ (ds : List Depot). slice_get ds t) first in
        absurd (true≢false (sym lacks ∙ ap lacks_in (sym stays) ∙ whole))
