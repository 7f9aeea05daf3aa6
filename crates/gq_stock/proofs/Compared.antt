-- A content that is to be kept where a chunk is.
use Rattle.std.proofs.Common.{ℕ, Bool, List, refl}
use Rattle.std.specs.Prelude.{Result, Ok, Err, IfOk}
use Rattle.gq_ledger.specs.Steps.{Book}
use Rattle.gq_stock.specs.Held.{Held}
use Rattle.gq_stock.specs.Keeping.{ComparesAs, KeptAs}
use Rattle.gq_stock.specs.declared.keeping.Keeping.{Keeping}
use Rattle.gq_stock.specs.declared.keeping.Keeping.TheVariants.{New, Same, Differs, Damaged, Below, Full, NoSpace}
use Rattle.gq_stock.proofs.Deeds.{same≢new, differs≢new, damaged≢new}

-- nothing changes, and what is told is what comparing told
pub compared : {E : Type 0} (r : Result Keeping E) (C : Type 0) (b : Book Held) (n : ℕ) (bytes : List ℕ) (is_sure : Bool) (free : ℕ) → IfOk r (λ told. C → ComparesAs (b.at n) bytes told) → IfOk r (λ told. C → KeptAs b n bytes is_sure free told b)
compared (Err e) C b n bytes is_sure free told = tt
compared (Ok told) C b n bytes is_sure free so = λ clean. by told (so clean)
  where
    by : (told : Keeping) → ComparesAs (b.at n) bytes told → KeptAs b n bytes is_sure free told b
    by New is = absurd is
    by Same is = record { told_so = is; leads = λ e. absurd (same≢new e); same = λ _. refl }
    by Differs is = record { told_so = is; leads = λ e. absurd (differs≢new e); same = λ _. refl }
    by Damaged is = record { told_so = is; leads = λ e. absurd (damaged≢new e); same = λ _. refl }
    by Below is = absurd is
    by Full is = absurd is
    by NoSpace is = absurd is
