-- Names, numbers of 8 bits and copies are read as they were written, and their words have no space.
use Rattle.std.proofs.Common.{◌≡◌, ℕ, zero, suc, ◌<◌, List, [], ◌∷◌, length, Some, true, refl, sym, ap, ◌∙◌, arith}
use Rattle.std.specs.Prelude.{slice_get, unwrap_or}
use Rattle.std.specs.List.{list_all}
use Rattle.std.proofs.lemmas.Bool.{and_parts, le-leb}
use Rattle.std.proofs.lemmas.Option.{slice_get-get_or, unwrap_or-slice_get}
use Rattle.gq_tag.specs.declared.StoredCopy.{StoredCopy}
use Rattle.gq_desk.specs.Names.{is_name}
use Rattle.gq_desk.specs.Plans.{is_named, rows_fault, table_fault}
use Rattle.gq_desk.proofs.SoundRows.{or_none}
use Rattle.gq_desk.specs.CheckedPlan.{CheckedPlan, nobody, row_at}
use Rattle.gq_desk.specs.declared.plans.TenantRow.{TenantRow}
use Rattle.gq_text.specs.Input.{place_named}
use Rattle.gq_text.specs.Canonical.{IsPlan}
use Rattle.gq_lines.proofs.Numbers.{numbers_read_back, long_numbers_read_back}
use Rattle.gq_lines.proofs.Plain.{is_plain, are_plain, decimal_plain, long_plain, bytes_plain}
use Rattle.gq_text.proofs.Plain.{name_plain}
use Rattle.gq_text.proofs.PlanNames.{place_of_row}
use Rattle.gq_lines.proofs.Contents.{bytes_back, content_back}
use Rattle.gq_wire.specs.Values.{within_byte, copy_of}
use Rattle.gq_wire.specs.Texts.{copy_words}
use Rattle.gq_wire.specs.Laws.{FitsCopy, CopiesInDigitsReadBack}

-- ---- names

named_at : (rows : List TenantRow) (t : ℕ) → t < length rows → list_all is_named rows ≡ true → is_name (unwrap_or (slice_get rows t) nobody).name ≡ true
named_at [] t within named = absurd (omega arith)
named_at (row ∷ rows) zero within named = (and_parts (is_named row) (list_all is_named rows) named).0
named_at (row ∷ rows) (suc t) within named = named_at rows t (omega arith) (and_parts (is_named row) (list_all is_named rows) named).1

-- a tenant of the plan has a name
pub name_at : (plan : CheckedPlan) (t : ℕ) → IsPlan plan → t < length plan.rows → is_name (row_at plan t).name ≡ true
name_at plan t is within = named_at plan.rows t within is.sound.named

pub name_is_plain : (plan : CheckedPlan) (t : ℕ) → IsPlan plan → t < length plan.rows → is_plain (row_at plan t).name ≡ true
name_is_plain plan t is within = name_plain (row_at plan t).name (name_at plan t is within)

-- by which it is found
pub place_back : (plan : CheckedPlan) (t : ℕ) → IsPlan plan → t < length plan.rows → place_named plan (row_at plan t).name ≡ Some t
place_back plan t is within =
    (place_of_row plan (or_none (rows_fault [] plan.rows) (table_fault plan.blocks plan.rows) is.sound.fault).0 t (row_at plan t) (slice_get-get_or plan.rows t nobody within ∙ ap Some (sym (unwrap_or-slice_get plan.rows t nobody))) (name_at plan t is within)).found

-- ---- numbers and copies

pub byte_back : (n : ℕ) → n < 256 → within_byte n ≡ Some n
byte_back n small = rw (le-leb n 255 (omega arith)) refl

pub copy_plain : (copy : StoredCopy) → FitsCopy copy → are_plain (copy_words copy) ≡ true
copy_plain copy fits = rw (long_plain copy.tag.number fits.0, decimal_plain copy.tag.session (omega (arith, fits.1)), bytes_plain copy.bytes) refl

pub copy_back : (copy : StoredCopy) → FitsCopy copy → copy_of (copy_words copy) ≡ Some copy
unfolding copy_of
copy_back copy fits =
    rw (long_numbers_read_back copy.tag.number fits.0, numbers_read_back copy.tag.session (omega (arith, fits.1)), byte_back copy.tag.session fits.1, bytes_back copy.bytes) refl

pub copies_in_digits_read_back : CopiesInDigitsReadBack
unfolding copy_of
copies_in_digits_read_back copy fits =
    rw (long_numbers_read_back copy.tag.number fits.0, numbers_read_back copy.tag.session (omega (arith, fits.1)), byte_back copy.tag.session fits.1, content_back copy.bytes fits.2) refl
