-- What the server has of a volume, read off the tables.
use Rattle.std.proofs.Common.{◌≡◌, ◌∙◌, ℕ, suc, ◌+◌, ◌<◌, Bool, true, false, List, [], ◌∷◌, ◌++◌, map, length, Option, Some, None, refl, sym, ap, subst, arith}
use Rattle.std.specs.Prelude.{nat_lt, if◌then◌else◌}
use Rattle.std.specs.List.{range_with_len}
use Rattle.std.proofs.lemmas.List.{map-append}
use Rattle.gq_grid.proofs.Same.{range_more}
use Rattle.gq_tag.specs.declared.StoredCopy.{StoredCopy}
use Rattle.gq_tag.specs.Tag.{File, file_of}
use Rattle.gq_desk.specs.Volumes.{Account, account_at}
use Rattle.gq_desk.specs.declared.volumes.VolumeRow.{VolumeRow}
use Rattle.gq_phase.specs.declared.Row.{Row}
use Rattle.gq_phase.specs.Phase.{listed_row}
use Rattle.gq_store.specs.Copies.{copy_at}
use Rattle.gq_model.specs.Trace.{files_of}
use Rattle.gq_node.specs.declared.output.Answer.{Answer}
use Rattle.gq_node.specs.declared.output.Answer.TheVariants.{Looked, NotLooked}
use Rattle.gq_node.specs.declared.output.Look.{Look}
use Rattle.gq_node.specs.declared.output.Output.{Output}
use Rattle.gq_node.specs.Joining.{files_in_volume}
use Rattle.gq_node.specs.Local.{Local}
use Rattle.gq_node.specs.Looked.{held_row, look_of, look_answer, tells_look}
use Rattle.gq_node.specs.Sites.{site_of}
use Rattle.gq_node.specs.Tables.{Tables, Agrees, Acts, row_at_server}
use Rattle.gq_node.proofs.Giving.{at_place}

-- ---- file by file

pub rows_more : {X : Type 0} (row : File → X) (v n : ℕ) → map row (map (at_place v) (range_with_len 0 (n + 1))) ≡ map row (map (at_place v) (range_with_len 0 n)) ++ row (at_place v n) ∷ []
rows_more row v n =
    let next : n + 1 ≡ suc n = omega arith in
    let none : 0 + n ≡ n = omega arith in
    ap (λ m. map row (map (at_place v) (range_with_len 0 m))) next
    ∙ ap (λ ns. map row (map (at_place v) ns)) (range_more 0 n n none)
    ∙ ap (map row) (map-append (at_place v) (range_with_len 0 n) (n ∷ []))
    ∙ map-append row (map (at_place v) (range_with_len 0 n)) (at_place v n ∷ [])

-- ---- by the tenant's part

row_same : (w : Tables) (t : ℕ) (local : Local) → Agrees w t local → (file : File) → row_at_server w t file ≡ held_row local file
row_same w t local agrees file =
    ap (λ b. if b then None else Some (listed_row (copy_at w.store (file_of t file)))) (agrees.lacks file)
    ∙ ap (λ (c : StoredCopy). if local.lacks file then None else Some (listed_row c)) (agrees.copies file)

rows_same : (w : Tables) (t volume : ℕ) (local : Local) → Agrees w t local →
    map (row_at_server w t) (files_in_volume volume (files_of (account_at w.desk t).volumes volume)) ≡ map (held_row local) (files_in_volume volume (files_of local.volumes volume))
rows_same w t volume local agrees =
    ap (λ (a : Account). map (row_at_server w t) (files_in_volume volume (files_of a.volumes volume))) agrees.account
    ∙ (λ i. map (λ file. row_same w t local agrees file i) (files_in_volume volume (files_of local.volumes volume)))

-- what the tables have of the volume
abbrev pub look_at : Tables → (t mark volume : ℕ) → Look
look_at w t mark volume = record {
  mark = mark;
  volume = volume;
  losses = length w.here.lost;
  rows = map (row_at_server w t) (files_in_volume volume (files_of (account_at w.desk t).volumes volume));
}

look_same : (w : Tables) (t mark volume : ℕ) (local : Local) → Agrees w t local → look_at w t mark volume ≡ look_of mark volume (site_of w.plan w.here t) local
look_same w t mark volume local agrees = λ i. record { mark = mark; volume = volume; losses = length w.here.lost; rows = rows_same w t volume local agrees i }

there_same : (w : Tables) (t volume : ℕ) (local : Local) → Agrees w t local → nat_lt volume (length (account_at w.desk t).volumes) ≡ nat_lt volume (length local.volumes)
there_same w t volume local agrees = ap (λ (a : Account). nat_lt volume (length a.volumes)) agrees.account

-- what is told, where the volume is there or not
pub tells_it : (w : Tables) (t mark volume : ℕ) (out : Output) (there : Bool) → nat_lt volume (length (account_at w.desk t).volumes) ≡ there →
    out.answer ≡ Some (if there then Looked (look_at w t mark volume) else NotLooked mark volume) → out.letters.items ≡ [] → out.transfer ≡ None → out.fact ≡ None → Acts w t (tells_look mark volume) out w
tells_it w t mark volume out there is answer letters transfer fact = record {
  leads = record { plan = refl; here = refl; own = λ local agrees. agrees; others = λ u other local agrees. agrees };
  gives = λ local agrees. record {
    answer = answer ∙ ap (λ (a : Answer). Some a) (ap (λ (l : Look). if there then Looked l else NotLooked mark volume) (look_same w t mark volume local agrees) ∙ ap (λ b. if b then Looked (look_of mark volume (site_of w.plan w.here t) local) else NotLooked mark volume) (sym is ∙ there_same w t volume local agrees));
    letters = letters;
    transfer = transfer;
    fact = fact;
  };
}
