-- Each put and each get can be completed, whatever happened before, with nobody else's help: a put by its session's next client.
use Rattle.std.specs.Prelude.{◌≡◌, ◌<◌, ℕ, zero, suc, List, [], ◌∷◌, ◌++◌, true, false, IsSome}
use Rattle.gq_laws.specs.declared.ops.Kind.TheVariants.{Write as Writes}
use Rattle.gq_laws.specs.Operations.{is_write}
use Rattle.gq_names.specs.Names.{Setting, World, Step, Enters, Begins, Sees, Chooses, ClientWrites, Asks, Finds, Tells, world_after}

-- it looks at the pages of the first n sessions
abbrev pub looks_at : (s n : ℕ) → List Step
looks_at s zero = []
looks_at s (suc n) = looks_at s n ++ Sees s n ∷ []

-- a new client of the session reads the journal, looks at each page once, and has two writes answered
abbrev pub putting : Setting → (s : ℕ) → List ℕ → List Step
putting v s bytes = Enters s ∷ Begins s v.name bytes ∷ (looks_at s v.sessions ++ Chooses s 0 (λ n. false) (λ t. false) ∷ ClientWrites s true ∷ ClientWrites s true ∷ [])

pub record PutEnded (w : World) (k s : ℕ) (bytes : List ℕ) : Type 0 where
  pub low : k < w.begun
  pub kind : (w.op k).kind ≡ Writes bytes
  pub session : (w.op k).session ≡ s
  pub ended : IsSome (w.op k).end

-- the put that these steps begin has ended behind them
abbrev pub AllPutsComplete : Type 0
AllPutsComplete = (v : Setting) (steps : List Step) (s : ℕ) (bytes : List ℕ) → s < v.sessions → PutEnded (world_after v (steps ++ putting v s bytes)) (world_after v steps).begun s bytes

-- a reader looks at each page once
abbrev pub finds_at : (r n : ℕ) → List Step
finds_at r zero = []
finds_at r (suc n) = finds_at r n ++ Finds r n ∷ []

abbrev pub getting : Setting → (r : ℕ) → List Step
getting v r = Asks r ∷ (finds_at r v.sessions ++ Tells r ∷ [])

pub record GetEnded (w : World) (k r : ℕ) : Type 0 where
  pub low : k < w.begun
  pub reads : is_write (w.op k) ≡ false
  pub session : (w.op k).session ≡ r
  pub ended : IsSome (w.op k).end

abbrev pub AllGetsComplete : Type 0
AllGetsComplete = (v : Setting) (steps : List Step) (r : ℕ) → GetEnded (world_after v (steps ++ getting v r)) (world_after v steps).begun r
