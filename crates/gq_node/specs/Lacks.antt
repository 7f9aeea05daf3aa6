-- Which files of a tenant a server lacks, by the volumes that it lost and what it was given since.
use Rattle.std.specs.Prelude.{◌≡◌, ℕ, ◌<◌, ◌≤◌, List, [], length, map, replicate, slice_index_or, Bool, true, false, ◌&&◌, not, nat_lt, if◌then◌else◌}
use Rattle.std.specs.List.{range_with_len}
use Rattle.gq_tag.specs.declared.TheConstants.{MOST_FILES}
use Rattle.gq_tag.specs.Tag.{File}
use Rattle.gq_desk.specs.declared.volumes.VolumeRow.{VolumeRow}
use Rattle.gq_model.specs.Trace.{files_of}

-- of each volume that it lost, in order, whether it was given the file of each number that is marked
abbrev pub Given : Type 0
Given = List (List Bool)

abbrev pub is_given : Given → File → Bool
is_given given file = slice_index_or (slice_index_or given file.volume []) file.place false

-- it lacks all others of these volumes
abbrev pub lacks_in : Given → File → Bool
lacks_in given file = nat_lt file.volume (length given) && not (is_given given file)

-- no more files of a volume are marked than there are at most
abbrev pub HasRoom : Given → Type 0
HasRoom given = (volume : ℕ) → volume < length given → length (slice_index_or given volume []) ≤ MOST_FILES

-- how many are marked of a volume that was lost: its files, where it is open, else as many as a volume may have
abbrev pub marks_for : (rows : List VolumeRow) → (volume : ℕ) → ℕ
marks_for rows volume = if nat_lt volume (length rows) then files_of rows volume else MOST_FILES

-- so many volumes were lost, and nothing was given
abbrev pub all_lost : (rows : List VolumeRow) → (lost : ℕ) → Given
all_lost rows lost = map (λ volume. replicate (marks_for rows volume) false) (range_with_len 0 lost)

-- of these files each before that one was given
abbrev pub AllGiven : List Bool → ℕ → Type 0
AllGiven files first = (place : ℕ) → place < first → slice_index_or files place false ≡ true

-- of these volumes each file that is marked was given in those before that one
abbrev pub AllWhole : Given → ℕ → Type 0
AllWhole given first = (volume : ℕ) → volume < first → AllGiven (slice_index_or given volume []) (length (slice_index_or given volume []))
