-- The history of a file's operations: each one's beginning and its end, in the order of the lines.
use Rattle.std.specs.Prelude.{ℕ, ◌+◌, ◌*◌, List, [], ◌∷◌, ◌++◌, Bool, ◌&&◌, ◌==◌, is_none, Option, Some, None, length, fold, if◌then◌else◌}
use Rattle.std.specs.List.Sorted.{IsPermutation, IsSorted}
use Rattle.std.specs.declared.cmp.Ordering.{Ordering}
use Rattle.std.specs.Ordering.{nat_cmp, on, then_cmp}
use Rattle.gq_desk.specs.declared.limits.TheConstants.{MOST_SESSIONS}
use Rattle.gq_laws.specs.declared.ops.Op.{Op}
use Rattle.gq_history.specs.declared.moments.Moment.{Moment}
use Rattle.gq_history.specs.declared.moments.Stage.{Stage}
use Rattle.gq_history.specs.declared.moments.Stage.TheVariants.{Begins, Ends, StaysOpen}

-- ---- which process a session is

-- the operation is one of session k that did not end; where a later one of the session follows, it was given up
abbrev pub gives_up : ℕ → Op → Bool
gives_up k a = (a.session == k) && is_none a.end

-- the number of the last of these operations that session k gave up, 0 where it gave none up
abbrev pub given_up : ℕ → List Op → ℕ
given_up k ops = fold (λ last a. if gives_up k a then a.op else last) 0 ops

-- the process that the operation's session is after these operations
abbrev pub process : List Op → Op → ℕ
process before a = a.session + MOST_SESSIONS * given_up a.session before

-- ---- what becomes of an operation

-- the operation at the place begins
abbrev pub begins : ℕ → Op → ℕ → Moment
begins place a process = record { line = a.begin; place = place; stage = Begins; process = process }

-- it ends, or stays open behind the last of so many lines
abbrev pub ends : ℕ → ℕ → Op → ℕ → Moment
ends lines place a process = by a.end
  where
    by : Option ℕ → Moment
    by (Some line) = record { line = line; place = place; stage = Ends; process = process }
    by None = record { line = lines; place = place; stage = StaysOpen; process = process }

-- the beginning and the end of each operation that comes after these
abbrev pub moments_after : ℕ → List Op → List Op → List Moment
moments_after lines before [] = []
moments_after lines before (a ∷ ops) =
    begins (length before) a (process before a) ∷ ends lines (length before) a (process before a) ∷ moments_after lines (before ++ a ∷ []) ops

-- the beginning and the end of each operation
abbrev pub moments : ℕ → List Op → List Moment
moments lines ops = moments_after lines [] ops

-- ---- their order

-- an operation begins before it ends
abbrev pub rank : Stage → ℕ
rank Begins = 0
rank Ends = 1
rank StaysOpen = 2

-- by the line; of one line by the operation, and of one operation its beginning first
abbrev pub by_line : Moment → Moment → Ordering
by_line = then_cmp (on (λ m. m.line) nat_cmp) (then_cmp (on (λ m. m.place) nat_cmp) (then_cmp (on (λ m. rank m.stage) nat_cmp) (on (λ m. m.process) nat_cmp)))

-- the beginning and the end of each operation, each once and nothing else, in the order of the lines
pub record IsHistory (lines : ℕ) (ops : List Op) (all : List Moment) : Type 0 where
  pub each : IsPermutation (moments lines ops) all
  pub in_order : IsSorted by_line all
