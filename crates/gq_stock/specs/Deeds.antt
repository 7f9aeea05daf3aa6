-- What is done with a session's chunks at a server.
use Rattle.std.specs.Prelude.{◌≡◌, ℕ, Bool, true, false, not, ◌==◌, List, [], ◌∷◌, Option, Some, None, if◌then◌else◌}
use Rattle.gq_ledger.specs.Steps.{Book, Gives, Leads}
use Rattle.gq_stock.specs.Held.{Held}
use Rattle.gq_stock.specs.Finding.{FoundAs}
use Rattle.gq_stock.specs.Keeping.{KeptAs}
use Rattle.gq_stock.specs.Forgetting.{is_in_any, ForgotAs}
use Rattle.gq_stock.specs.Moving.{MovedAs}
use Rattle.gq_stock.specs.declared.run.Run.{Run}
use Rattle.gq_stock.specs.declared.finding.Found.{Found}
use Rattle.gq_stock.specs.declared.keeping.Keeping.{Keeping}
use Rattle.gq_stock.specs.declared.keeping.Keeping.TheVariants.{New, Same, Differs, Damaged, Below, Full, NoSpace}

-- A content is to be kept under a number, told from then on or not, where so many bytes are free, and this is told of it. A number is looked for, and this is found.
-- The numbers of runs are forgotten, with a floor. A peer gives a content. Contents are moved.
pub data Deed : Type 0 where
  IsKept : ℕ → List ℕ → Bool → ℕ → Keeping → Deed
  IsFound : ℕ → Found → Deed
  AreForgotten : ℕ → List Run → Deed
  IsGiven : ℕ → List ℕ → Deed
  AreMoved : Deed

-- The deed makes of the one book the other, where no read is wrong: what `keep`, `find`, `forget`, `give` and `shelve` ensure.
abbrev pub Does : Book Held → Deed → Book Held → Type 0
Does old (IsKept n bytes is_sure free told) new = KeptAs old n bytes is_sure free told new
Does old (IsFound n found) new = FoundAs (Unit {0}) (old.at n) found × (new ≡ old)
Does old (AreForgotten floor runs) new = ForgotAs old floor runs new
Does old (IsGiven n bytes) new = Leads old (Gives n (record { bytes = bytes; is_sure = true })) new
Does old AreMoved new = MovedAs old new

-- So do all of them, the newest first.
abbrev pub Ran : Book Held → List Deed → Book Held → Type 0
Ran first [] now = now ≡ first
Ran first (deed ∷ before) now = (b : Book Held) × Ran first before b × Does b deed now

-- whether the content is there then
abbrev pub is_kept : Keeping → Bool
is_kept New = true
is_kept Same = true
is_kept Differs = false
is_kept Damaged = false
is_kept Below = false
is_kept Full = false
is_kept NoSpace = false

-- whether the deed gives nothing under the number
abbrev pub gives_none : ℕ → Deed → Bool
gives_none n (IsKept m bytes is_sure free told) = true
gives_none n (IsFound m found) = true
gives_none n (AreForgotten floor runs) = true
gives_none n (IsGiven m bytes) = not (n == m)
gives_none n AreMoved = true

-- whether it gives nothing under the number, and does not forget it
abbrev pub leaves : ℕ → Deed → Bool
leaves n (IsKept m bytes is_sure free told) = true
leaves n (IsFound m found) = true
leaves n (AreForgotten floor runs) = not (is_in_any n runs)
leaves n (IsGiven m bytes) = not (n == m)
leaves n AreMoved = true

-- such are all of them
abbrev pub all_are : (Deed → Bool) → List Deed → Type 0
all_are p [] = Unit {0}
all_are p (deed ∷ deeds) = (p deed ≡ true) × all_are p deeds

-- what is under the number where this was told of a content under another one, or the same, and that was there before
abbrev pub kept_now : Keeping → (is_its : Bool) → List ℕ → Option (List ℕ) → Option (List ℕ)
kept_now New true bytes before = Some bytes
kept_now New false bytes before = before
kept_now Same is_its bytes before = before
kept_now Differs is_its bytes before = before
kept_now Damaged is_its bytes before = before
kept_now Below is_its bytes before = before
kept_now Full is_its bytes before = before
kept_now NoSpace is_its bytes before = before

-- The content of a number, by what was done, the newest first: the one that was kept last as a new one, or was given last, if the number was not forgotten since.
abbrev pub content_now : ℕ → List Deed → Option (List ℕ)
content_now n [] = None
content_now n (IsKept m bytes is_sure free told ∷ before) = kept_now told (n == m) bytes (content_now n before)
content_now n (IsFound m found ∷ before) = content_now n before
content_now n (AreForgotten floor runs ∷ before) = if is_in_any n runs then None else content_now n before
content_now n (IsGiven m bytes ∷ before) = if n == m then Some bytes else content_now n before
content_now n (AreMoved ∷ before) = content_now n before
