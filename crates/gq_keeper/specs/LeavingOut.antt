-- A start that leaves out lines of facts.
--
-- Who left is known by a fact's second word, where each fact names its tenant. So a start leaves lines out before it asks
-- what they say, and needs no plan in which he still is.
use Rattle.std.specs.Prelude.{◌≡◌, ℕ, List, Bool, false, ◌||◌, not, filter, MatchBool}
use Rattle.gq_journal.specs.Batches.{Line}
use Rattle.gq_keeper.specs.Starting.{facts_read}

-- a line that is left out changes nothing; any other one is read
abbrev pub RecallsBut : {M : Type 0} → (left_out : List ℕ → Bool) → (M → List ℕ → M → Type 0) → M → List ℕ → M → Type 0
RecallsBut left_out recalls old line new = MatchBool (left_out line) (old ≡ new) (recalls old line new)

-- and is never strange
abbrev pub readable_but : {M : Type 0} → (left_out : List ℕ → Bool) → (M → List ℕ → Bool) → M → List ℕ → Bool
readable_but left_out readable m line = left_out line || readable m line

-- the lines of the facts in a journal but for those that are left out
abbrev pub facts_but : (left_out : List ℕ → Bool) → List ℕ → List Line
facts_but left_out journal = filter (λ line. not (left_out line)) (facts_read journal)

-- no line
abbrev pub none_left_out : List ℕ → Bool
none_left_out line = false
