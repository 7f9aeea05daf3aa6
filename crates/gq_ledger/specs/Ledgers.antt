-- What a ledger holds, as a book.
use Rattle.std.specs.Prelude.{ℕ, nat_le, nat_lt, is_some, option_map, unwrap_or, if◌then◌else◌}
use Rattle.std.specs.Ordering.{nat_cmp}
use Rattle.std.specs.BTreeMap.{get}
use Rattle.gq_ledger.specs.declared.long.Long.{Ghosts}
use Rattle.gq_ledger.specs.declared.ledger.Ledger.{Ledger}
use Rattle.gq_ledger.specs.declared.verdict.Verdict.{Verdict}
use Rattle.gq_ledger.specs.declared.verdict.Verdict.TheVariants.{There, Below, Full, Kept}
use Rattle.gq_ledger.specs.Steps.{Book}
use Rattle.gq_ledger.specs.Used.{used_of}

abbrev pub book_of : {T : Type 0} {long : Ghosts T} → Ledger T long → Book T
book_of l = record { at = get nat_cmp l.chunks; floor = l.floor }

-- what comes of a content of so many bytes that is to be kept, where so many are free
abbrev pub verdict_of : {T : Type 0} → Book T → (number long free : ℕ) → Verdict
verdict_of b n long free = if is_some (b.at n) then There else if nat_le n b.floor then Below else if nat_lt free long then Full else Kept

-- how many bytes all chunks have
abbrev pub all_bytes : {T : Type 0} {long : Ghosts T} → Ledger T long → ℕ
all_bytes {T} {long} l = used_of long.length l.chunks.entries

-- how many of these the chunk of the number has
abbrev pub bytes_under : {T : Type 0} {long : Ghosts T} → Ledger T long → ℕ → ℕ
bytes_under {T} {long} l n = unwrap_or (option_map long.length ((book_of l).at n)) 0

-- how many bytes of all chunks are in memory
abbrev pub all_fresh : {T : Type 0} {long : Ghosts T} → Ledger T long → ℕ
all_fresh {T} {long} l = used_of long.fresh_length l.chunks.entries

-- how many of these are of the chunk of the number
abbrev pub fresh_under : {T : Type 0} {long : Ghosts T} → Ledger T long → ℕ → ℕ
fresh_under {T} {long} l n = unwrap_or (option_map long.fresh_length ((book_of l).at n)) 0

-- how many bytes a content of so many takes
abbrev pub taken_by : Verdict → (long : ℕ) → ℕ
taken_by There long = 0
taken_by Below long = 0
taken_by Full long = 0
taken_by Kept long = long
