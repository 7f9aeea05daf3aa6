-- Runs of volumes.
use Rattle.std.proofs.Common.{◌≡◌, ◌∙◌, ℕ, ◌+◌, ◌<◌, List, [], ◌∷◌, ◌++◌, Bool, true, false, drop, length, refl, sym, ap, append_assoc}
use Rattle.std.specs.Prelude.{slice_index_or, ◌==◌}
use Rattle.std.specs.List.{flat_map}
use Rattle.std.proofs.Math.ListN.{replicate}
use Rattle.std.proofs.lemmas.Bool.{and_parts, eqb-true}
use Rattle.std.proofs.lemmas.List.{drop_more, replicate-append-replicate}
use Rattle.gq_desk.specs.declared.volumes.VolumeRow.{VolumeRow}
use Rattle.gq_plan.specs.declared.runs.Run.{Run}
use Rattle.gq_plan.specs.PlanWords.{is_more, one_run, runs_from}
use Rattle.gq_plan.specs.Laws.{volumes_in, RunsTellVolumes}

abbrev pub longer : Run → Run
longer run = record run { times = run.times + 1 }

pub goes_on : (run : Run) (volume : VolumeRow) (volumes : List VolumeRow) → is_more run volume ≡ true → runs_from run (volume ∷ volumes) ≡ runs_from (longer run) volumes
goes_on run volume volumes more = rw more refl

pub ends : (run : Run) (volume : VolumeRow) (volumes : List VolumeRow) → is_more run volume ≡ false → runs_from run (volume ∷ volumes) ≡ run ∷ runs_from (one_run volume) volumes
ends run volume volumes other = rw other refl

-- ---- a loop over the volumes behind the first

abbrev pub no_volume : VolumeRow
no_volume = record { files = 0; blocks = 0 }

-- one volume more of the run
pub run_on : (first run now : Run) (runs : List Run) (volumes : List VolumeRow) (i : ℕ) → i < length volumes → is_more run (slice_index_or volumes i no_volume) ≡ true → now ≡ longer run →
    runs ++ runs_from run (drop i volumes) ≡ runs_from first volumes → runs ++ runs_from now (drop (i + 1) volumes) ≡ runs_from first volumes
run_on first run now runs volumes i less more is told =
    ap (λ (r : Run). runs ++ runs_from r (drop (i + 1) volumes)) is
    ∙ ap (λ rs. runs ++ rs) (sym (goes_on run (slice_index_or volumes i no_volume) (drop (i + 1) volumes) more))
    ∙ ap (λ vs. runs ++ runs_from run vs) (sym (drop_more volumes i no_volume less))
    ∙ told

-- the run ends, and another begins
pub run_ends : (first run now : Run) (runs next : List Run) (volumes : List VolumeRow) (i : ℕ) → i < length volumes → is_more run (slice_index_or volumes i no_volume) ≡ false → next ≡ runs ++ run ∷ [] → now ≡ one_run (slice_index_or volumes i no_volume) →
    runs ++ runs_from run (drop i volumes) ≡ runs_from first volumes → next ++ runs_from now (drop (i + 1) volumes) ≡ runs_from first volumes
run_ends first run now runs next volumes i less other grown is told =
    ap (λ (r : Run). next ++ runs_from r (drop (i + 1) volumes)) is
    ∙ ap (λ rs. rs ++ runs_from (one_run (slice_index_or volumes i no_volume)) (drop (i + 1) volumes)) grown
    ∙ append_assoc runs (run ∷ []) (runs_from (one_run (slice_index_or volumes i no_volume)) (drop (i + 1) volumes))
    ∙ ap (λ rs. runs ++ rs) (sym (ends run (slice_index_or volumes i no_volume) (drop (i + 1) volumes) other))
    ∙ ap (λ vs. runs ++ runs_from run vs) (sym (drop_more volumes i no_volume less))
    ∙ told

-- ---- what runs tell

like_run : (run : Run) (volume : VolumeRow) → is_more run volume ≡ true → volumes_in (longer run) ≡ volumes_in run ++ volume ∷ []
like_run run volume more =
    let parts = and_parts (run.files == volume.files) (run.blocks == volume.blocks) more in
    let row : VolumeRow = record { files = run.files; blocks = run.blocks } in
    let same : row ≡ volume =
    ap (λ n. let r : VolumeRow = record { files = n; blocks = run.blocks } in r) (eqb-true run.files volume.files parts.0)
    ∙ ap (λ n. let r : VolumeRow = record { files = volume.files; blocks = n } in r) (eqb-true run.blocks volume.blocks parts.1) in
    sym (replicate-append-replicate run.times 1 row) ∙ ap (λ (v : VolumeRow). replicate run.times row ++ v ∷ []) same

tell_from : (run : Run) (volumes : List VolumeRow) → flat_map volumes_in (runs_from run volumes) ≡ volumes_in run ++ volumes
tell_from run [] = refl
tell_from run (volume ∷ volumes) = by (is_more run volume) refl (tell_from (longer run) volumes) (tell_from (one_run volume) volumes)
  where
    by : (b : Bool) → is_more run volume ≡ b → flat_map volumes_in (runs_from (longer run) volumes) ≡ volumes_in (longer run) ++ volumes → flat_map volumes_in (runs_from (one_run volume) volumes) ≡ volumes_in (one_run volume) ++ volumes → flat_map volumes_in (runs_from run (volume ∷ volumes)) ≡ volumes_in run ++ volume ∷ volumes
    by true more on other =
        ap (flat_map volumes_in) (goes_on run volume volumes more)
        ∙ on
        ∙ ap (λ vs. vs ++ volumes) (like_run run volume more)
        ∙ append_assoc (volumes_in run) (volume ∷ []) volumes
    by false ended on other =
        ap (flat_map volumes_in) (ends run volume volumes ended)
        ∙ ap (λ vs. volumes_in run ++ vs) other

pub runs_tell : RunsTellVolumes
runs_tell [] = refl
runs_tell (volume ∷ volumes) = tell_from (one_run volume) volumes
