-- Who leaves where a plan follows an older one, and what is free again.
use Rattle.std.specs.Prelude.{◌≡◌, ℕ, ◌<◌, List, [], ◌∷◌, ◌++◌, length, None, ◌≢◌, true, codes, if◌then◌else◌}
use Rattle.std.specs.List.{flat_map}
use Rattle.gq_desk.specs.CheckedPlan.{row_at}
use Rattle.gq_desk.specs.declared.plans.TenantRow.{TenantRow}
use Rattle.gq_lines.specs.Written.{line_text}
use Rattle.gq_text.specs.Input.{place_named}
use Rattle.gq_setup.specs.Setups.{Setup, CanGo, kib_of, is_gone_at}
use Rattle.gq_setup.specs.GoingOn.{goes_on}
use Rattle.gq_plan.specs.PlanWords.{named, number, tenants_of}

-- the tenant of this row is gone: its share is free again, and so many KiB of chunks at each server
abbrev pub freed_line : TenantRow → (chunks : ℕ) → List ℕ
freed_line row chunks = line_text (named (codes "gone") row.name) (number (codes "freed") row.share ∷ number (codes "chunks") chunks ∷ [])

-- what is told of the tenant at place t of the older plan: nothing, unless it is gone by the newer one
abbrev pub freed_text : (old new : Setup) (t : ℕ) → List ℕ
freed_text old new t = if is_gone_at new.gone old.plan t then freed_line (row_at old.plan t) (kib_of old.rooms t) else []

-- that the newer plan follows, and who leaves by it
abbrev pub next_text : (old new : Setup) → List ℕ
next_text old new = codes "follows=yes" ++ 10 ∷ flat_map (freed_text old new) (tenants_of old)

-- of a tenant of the older plan nothing is told where the newer one has it too; and where it has none of that name, what it had is told
pub record IsTold (old new : Setup) (t : ℕ) : Type 0 where
  pub stays : place_named new.plan (row_at old.plan t).name ≢ None → freed_text old new t ≡ []
  pub leaves : place_named new.plan (row_at old.plan t).name ≡ None → freed_text old new t ≡ freed_line (row_at old.plan t) (kib_of old.rooms t)

abbrev pub LeaversAreTold : Type 0
LeaversAreTold =
    (old new : Setup) (t : ℕ) → CanGo new.plan [] new.gone → goes_on old new ≡ true → t < length old.plan.rows → IsTold old new t
