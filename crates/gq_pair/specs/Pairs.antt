-- What two machines do as one.
use Rattle.std.specs.Prelude.{◌≡◌, ℕ, List, ◌++◌, Bool, true, false}
use Rattle.gq_pair.specs.declared.pair.Taker.{Taker}
use Rattle.gq_pair.specs.declared.pair.Taker.TheVariants.{First, Second, Both}

-- both take the line, the first one first
pub record BothStep {M N : Type 0} (first : M → List ℕ → List (List ℕ) → List ℕ → M → Type 0) (second : N → List ℕ → List (List ℕ) → List ℕ → N → Type 0) (m : M) (n : N) (line : List ℕ) (facts : List (List ℕ)) (told : List ℕ) (m' : M) (n' : N) : Type 0 where
  pub first_facts : List (List ℕ)
  pub second_facts : List (List ℕ)
  pub first_told : List ℕ
  pub second_told : List ℕ
  pub first_step : first m line first_facts first_told m'
  pub second_step : second n line second_facts second_told n'
  pub all_facts : facts ≡ first_facts ++ second_facts
  pub all_told : told ≡ first_told ++ second_told

-- the one whose line it is takes it, and the other stays
abbrev pub StepsBy : {M N : Type 0} → (M → List ℕ → List (List ℕ) → List ℕ → M → Type 0) → (N → List ℕ → List (List ℕ) → List ℕ → N → Type 0) → Taker → M → N → List ℕ → List (List ℕ) → List ℕ → M → N → Type 0
StepsBy first second First m n line facts told m' n' = first m line facts told m' × (n' ≡ n)
StepsBy first second Second m n line facts told m' n' = second n line facts told n' × (m' ≡ m)
StepsBy first second Both m n line facts told m' n' = BothStep first second m n line facts told m' n'

-- the one whose fact it is reads it
abbrev pub RecallsBy : {M N : Type 0} → (M → List ℕ → M → Type 0) → (N → List ℕ → N → Type 0) → (is_second : Bool) → M → N → List ℕ → M → N → Type 0
RecallsBy first second true m n line m' n' = second n line n' × (m' ≡ m)
RecallsBy first second false m n line m' n' = first m line m' × (n' ≡ n)

abbrev pub readable_by : (is_second first second : Bool) → Bool
readable_by true first second = second
readable_by false first second = first
