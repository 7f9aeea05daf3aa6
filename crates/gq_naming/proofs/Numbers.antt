-- The highest number that was seen.
use Rattle.std.proofs.Common.{◌≡◌, ◌≢◌, ◌⊎◌, ◌∙◌, ℕ, zero, suc, ◌+◌, List, [], ◌∷◌, length, max, Option, Some, None, Bool, true, false, refl, sym, ap, inl, inr, arith, eqb}
use Rattle.std.specs.Prelude.{slice_get, ◌==◌, if◌then◌else◌}
use Rattle.std.proofs.lemmas.Bool.{eqb-true, eqb-false}
use Rattle.gq_names.specs.Names.{Setting, Page, greatest_number, highest}
use Rattle.gq_page.specs.Page.{Sheet, sheet_of}
use Rattle.gq_client.specs.declared.view.Known.{Known}
use Rattle.gq_client.specs.Changing.{highest_from}
use Rattle.gq_naming.specs.Standing.{Naming, HasSeen}
use Rattle.gq_naming.specs.Laws.{AllNumbersAbove}

-- the pass over the pages from session k on
passes : (own : ℕ) (numbers : ℕ → ℕ) (k : ℕ) (seen : List Known) (high : ℕ) → high ≡ max (numbers own) (greatest_number k numbers)
    → ((place : ℕ) (known : Known) → slice_get seen place ≡ Some known → k + place ≢ own → numbers (k + place) ≡ known.page.number)
    → highest_from k own seen high ≡ max (numbers own) (greatest_number (k + length seen) numbers)
passes own numbers k [] high is each = let same : k + 0 ≡ k = omega arith in is ∙ ap (λ n. max (numbers own) (greatest_number n numbers)) (sym same)
passes own numbers k (known ∷ seen) high is each =
    passes own numbers (k + 1) seen (if k == own then high else max known.page.number high) (step (k == own) refl) later ∙ ap (λ n. max (numbers own) (greatest_number n numbers)) count
  where
    count : k + 1 + length seen ≡ k + suc (length seen)
    count = omega arith

    next : greatest_number (k + 1) numbers ≡ max (greatest_number k numbers) (numbers k)
    next = let one : k + 1 ≡ suc k = omega arith in ap (λ n. greatest_number n numbers) one

    step : (b : Bool) → (k == own) ≡ b → (if b then high else max known.page.number high) ≡ max (numbers own) (greatest_number (k + 1) numbers)
    step true e = let here : numbers k ≡ numbers own = ap numbers (eqb-true k own e) in let n : greatest_number (k + 1) numbers ≡ max (greatest_number k numbers) (numbers k) = next in omega arith
    step false e =
        let at_k : k + 0 ≡ k = omega arith in
        let here : numbers k ≡ known.page.number = ap numbers (sym at_k) ∙ each 0 known refl (λ same. eqb-false k own e (sym at_k ∙ same)) in
        let n : greatest_number (k + 1) numbers ≡ max (greatest_number k numbers) (numbers k) = next in
        omega arith

    later : (place : ℕ) (z : Known) → slice_get seen place ≡ Some z → k + 1 + place ≢ own → numbers (k + 1 + place) ≡ z.page.number
    later place z at other =
        let same : k + 1 + place ≡ k + suc place = omega arith in
        ap numbers same ∙ each (suc place) z at (λ e. other (same ∙ e))

pub numbers_are_above : AllNumbersAbove
numbers_are_above names v s seen journal pages has =
    let numbers : ℕ → ℕ = λ t. (pages t).number in
    let first : journal.number ≡ max (pages s).number 0 = (let own : (pages s).number ≡ journal.number = has.own.number in omega arith) in
    let all : 0 + length seen ≡ v.sessions = (let many : length seen ≡ v.sessions = has.many in omega arith) in
    passes s numbers 0 seen journal.number first (λ place known at other. let same : 0 + place ≡ place = omega arith in ap numbers same ∙ (has.others place known at (λ e. other (same ∙ e))).number)
    ∙ ap (λ n. max (pages s).number (greatest_number n numbers)) all
