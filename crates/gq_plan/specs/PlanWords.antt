-- What is told of a plan: lines of words NAME=VALUE. The first word of a line tells what the line is of.
use Rattle.std.specs.Prelude.{◌≡◌, ℕ, ◌+◌, ◌*◌, max, min, List, [], ◌∷◌, ◌++◌, length, map, sum_by, codes, decimal, Bool, ◌&&◌, ◌==◌, Ok, Err, if◌then◌else◌}
use Rattle.std.specs.List.{flat_map, range_with_len}
use Rattle.gq_desk.specs.CheckedPlan.{CheckedPlan, row_at}
use Rattle.gq_desk.specs.Volumes.{account_at, free_of}
use Rattle.gq_desk.specs.declared.plans.TenantRow.{TenantRow}
use Rattle.gq_desk.specs.declared.volumes.VolumeRow.{VolumeRow}
use Rattle.gq_lines.specs.Words.{Word}
use Rattle.gq_lines.specs.Written.{line_text}
use Rattle.gq_replace.specs.Plans.{node_at}
use Rattle.gq_node.specs.Sites.{home_place, plan_in}
use Rattle.gq_chunks.specs.Longest.{longest_of}
use Rattle.gq_stock.specs.declared.limits.TheConstants.{MOST_FRESH_BYTES}
use Rattle.gq_setup.specs.Setups.{Setup, SetupReading, holdings, kib_of}
use Rattle.gq_plan.specs.declared.line.Named.{Named}
use Rattle.gq_plan.specs.declared.line.Named.TheVariants.{Number, Word as Text}
use Rattle.gq_plan.specs.declared.runs.Run.{Run}
use Rattle.gq_plan.specs.declared.sums.TheConstants.{BLOCK_MEMORY, FILE_MEMORY, PEAK_BLOCK_MEMORY, PEAK_FILE_MEMORY, PEAK_SHORT_MEMORY, PEAK_SPARE, ANSWER_BYTES, RUN_BYTES}

-- ---- words

-- NAME=VALUE, where `=` has the code 61
abbrev pub named : (name value : Word) → Word
named name value = name ++ 61 ∷ value

abbrev pub number : (name : Word) → ℕ → Word
number name n = named name (decimal n)

abbrev pub word_of : Named → Word
word_of (Number name n) = number name.now n
word_of (Text name value) = named name.now value.now

-- ---- volumes that are alike and follow one another

abbrev pub one_run : VolumeRow → Run
one_run volume = record { files = volume.files; blocks = volume.blocks; times = 1 }

abbrev pub is_more : Run → VolumeRow → Bool
is_more run volume = run.files == volume.files && run.blocks == volume.blocks

-- a run that may go on, and the runs behind it
abbrev pub runs_from : Run → List VolumeRow → List Run
runs_from run [] = run ∷ []
runs_from run (volume ∷ volumes) =
    if is_more run volume then runs_from (record run { times = run.times + 1 }) volumes else run ∷ runs_from (one_run volume) volumes

abbrev pub runs_of : List VolumeRow → List Run
runs_of [] = []
runs_of (volume ∷ volumes) = runs_from (one_run volume) volumes

-- ---- how much a node has, and takes

abbrev pub tenants_of : Setup → List ℕ
tenants_of setup = range_with_len 0 (length setup.plan.rows)

abbrev pub volumes_of : Setup → (t : ℕ) → List VolumeRow
volumes_of setup t = (account_at (holdings setup) t).volumes

abbrev pub files_of : List VolumeRow → ℕ
files_of volumes = sum_by (λ volume. volume.files) volumes

-- the files that are open
abbrev pub files_in : Setup → ℕ
files_in setup = sum_by (λ t. files_of (volumes_of setup t)) (tenants_of setup)

-- how many bytes of short chunks may be in memory, of the tenant, and of all
abbrev pub short_of : Setup → (t : ℕ) → ℕ
short_of setup t = min (kib_of setup.rooms t * 1024) MOST_FRESH_BYTES

abbrev pub short_in : Setup → ℕ
short_in setup = sum_by (λ t. short_of setup t) (tenants_of setup)

-- the greatest of these numbers, 0 where there is none
abbrev pub greatest : List ℕ → ℕ
greatest [] = 0
greatest (n ∷ ns) = max n (greatest ns)

-- how many runs the volumes of a tenant are, at most
abbrev pub most_runs : Setup → ℕ
most_runs setup = greatest (map (λ t. length (runs_of (volumes_of setup t))) (tenants_of setup))

-- the most bytes of the answer that tells what a tenant has
abbrev pub answer : Setup → ℕ
answer setup = ANSWER_BYTES + RUN_BYTES * most_runs setup

-- the bytes of memory that a node takes as it starts, and the most that it takes, with servers of so many blocks, so many files, and so many bytes of short
-- chunks in memory
abbrev pub memory : (blocks files : ℕ) → ℕ
memory blocks files = BLOCK_MEMORY * blocks + FILE_MEMORY * files

abbrev pub peak : (blocks files short : ℕ) → ℕ
peak blocks files short = PEAK_BLOCK_MEMORY * blocks + PEAK_FILE_MEMORY * files + PEAK_SHORT_MEMORY * short + PEAK_SPARE

-- ---- lines

abbrev pub grid_line : Setup → List ℕ
grid_line setup =
    line_text (number (codes "rows") setup.plan.grid.rows)
    (number (codes "columns") setup.plan.grid.cols
    ∷ number (codes "nodes") (setup.plan.grid.rows * setup.plan.grid.cols)
    ∷ number (codes "room") setup.plan.blocks
    ∷ number (codes "tenants") (length setup.plan.rows)
    ∷ number (codes "losses") (length setup.lost)
    ∷ number (codes "line") (longest_of setup)
    ∷ number (codes "answer") (answer setup)
    ∷ number (codes "memory") (memory setup.plan.blocks (files_in setup))
    ∷ number (codes "peak") (peak setup.plan.blocks (files_in setup) (short_in setup))
    ∷ [])

-- a place of the grid, and the node that stands there
abbrev pub place_line : Setup → (place : ℕ) → List ℕ
place_line setup place = line_text (number (codes "place") place) (number (codes "node") (node_at (plan_in setup.lost) place) ∷ [])

abbrev pub places_text : Setup → List ℕ
places_text setup = flat_map (place_line setup) (range_with_len 0 (setup.plan.grid.rows * setup.plan.grid.cols))

-- the place of a node that was lost
abbrev pub loss_line : (place : ℕ) → List ℕ
loss_line place = line_text (number (codes "replace") place) []

abbrev pub losses_text : List ℕ → List ℕ
losses_text lost = flat_map loss_line lost

-- the name of a tenant that is gone
abbrev pub gone_line : (name : Word) → List ℕ
gone_line name = line_text (named (codes "gone") name) []

abbrev pub gone_text : (gone : List Word) → List ℕ
gone_text gone = flat_map gone_line gone

-- a tenant of this row, with so many blocks of its share that no volume takes, so many volumes and files that are open, and so many KiB of
-- chunks that it may have at each server
abbrev pub tenant_line : TenantRow → (free volumes files chunks : ℕ) → List ℕ
tenant_line row free volumes files chunks =
    line_text (named (codes "tenant") row.name)
    (number (codes "share") row.share
    ∷ number (codes "free") free
    ∷ number (codes "sessions") row.sessions
    ∷ number (codes "steps") row.steps
    ∷ number (codes "most") row.most_blocks
    ∷ number (codes "volumes") row.most_volumes
    ∷ number (codes "open") volumes
    ∷ number (codes "files") files
    ∷ number (codes "chunks") chunks
    ∷ [])

-- a session by its place among its tenant's, and the place of its home
abbrev pub session_line : (name : Word) → (place home : ℕ) → List ℕ
session_line name place home =
    line_text (number (codes "session") (place + 1)) (named (codes "tenant") name ∷ number (codes "home") home ∷ [])

abbrev pub sessions_text : CheckedPlan → (t : ℕ) → List ℕ
sessions_text plan t = flat_map (λ place. session_line (row_at plan t).name place (home_place plan t place)) (range_with_len 0 (row_at plan t).sessions)

-- how many sessions the tenants of these rows have
abbrev pub first_session : List TenantRow → ℕ
first_session rows = sum_by (λ row. row.sessions) rows

abbrev pub run_line : (name : Word) → Run → List ℕ
run_line name run =
    line_text (named (codes "open") name)
    (number (codes "files") run.files ∷ number (codes "blocks") run.blocks ∷ number (codes "times") run.times ∷ [])

abbrev pub runs_text : (name : Word) → List Run → List ℕ
runs_text name runs = flat_map (run_line name) runs

-- the lines of the tenant at place t
abbrev pub tenant_text : Setup → (t : ℕ) → List ℕ
tenant_text setup t =
    tenant_line (row_at setup.plan t) (free_of (account_at (holdings setup) t)) (length (volumes_of setup t)) (files_of (volumes_of setup t)) (kib_of setup.rooms t)
    ++ sessions_text setup.plan t
    ++ runs_text (row_at setup.plan t).name (runs_of (volumes_of setup t))

abbrev pub tenants_text : Setup → List ℕ
tenants_text setup = flat_map (tenant_text setup) (tenants_of setup)

-- what the setup says
abbrev pub plan_text : Setup → List ℕ
plan_text setup = grid_line setup ++ places_text setup ++ losses_text setup.lost ++ gone_text setup.gone ++ tenants_text setup

-- the text is what the plan says that was read
abbrev pub Tells : SetupReading Setup → List ℕ → Type 0
Tells (Ok setup) text = text ≡ plan_text setup
Tells (Err fault) text = ⊥
