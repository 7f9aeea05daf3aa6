-- The worked case in tables: the facts with which the journal of the home may be written anew between writes.
use Rattle.std.proofs.Common.{◌≡◌, ◌∙◌, ℕ, zero, suc, ◌<◌, ◌^◌, Bool, true, false, List, [], ◌∷◌, length, map, refl, sym, ap, subst, arith, Some}
use Rattle.std.specs.Prelude.{All}
use Rattle.gq_tag.specs.Tag.{File, is_file, first_copy, newer_of}
use Rattle.gq_desk.specs.declared.volumes.VolumeRow.{VolumeRow}
use Rattle.gq_laws.proofs.OperationMoments.{same_file}
use Rattle.gq_cluster.specs.Cluster.{copy_in}
use Rattle.gq_cluster.specs.Facts.{OwnFact, Begun, Numbered, Kept}
use Rattle.gq_facts.specs.Laws.{FitsFact, FitsOwn}
use Rattle.gq_node.specs.Local.{Local, part_in, copy_fits}
use Rattle.gq_node.specs.Resting.{IsAtRest, IsBare, Needed, begun_local, recall_all, those_of, first_in as first_by}
use Rattle.gq_node.specs.Sites.{site_of, session_state_place}
use Rattle.gq_node.specs.Tables.{Tables, Agrees, IsOfPlan, fact_of}
use Rattle.gq_node.proofs.Placing.{placed}
use Rattle.gq_node.proofs.Recalling.{all_behind}
use Rattle.gq_parts.specs.AllNodes.{first_in}
use Rattle.gq_parts.specs.Worked.{grid_worked}
use Rattle.gq_parts.proofs.Journals.{AllRead, all_recalled_view, all_seen, begun_reads, numbered_reads, kept_reads}
use Rattle.gq_parts.proofs.Knowing.{all_idle}
use Rattle.gq_parts.proofs.WorkedSteps.{fits_options}
use Rattle.gq_parts.proofs.WorkedTables.{file, volume, site, session, tables_of, Sees, sees_of, begun_view, begun_sees}
use Rattle.gq_parts.proofs.WorkedWrites.{Rest, home_lacks, idle_view}

-- the facts that the home needs
abbrev pub home_facts : Rest → List OwnFact
home_facts s = Begun 1 s.reserved.op ∷ Numbered 1 s.reserved.floor ∷ Kept file s.copy ∷ []

-- they fit, and no number of another session is reserved
pub record IsFit (s : Rest) : Type 0 where
  pub op : s.reserved.op < 2 ^ 32
  pub floor : s.reserved.floor < 2 ^ 64
  pub said : FitsOwn (Kept file s.copy)
  pub fits : copy_fits 64 s.copy ≡ true
  pub newest : newer_of first_copy s.copy ≡ s.copy
  pub two : s.two ≡ (begun_view 0 0 3).two

pub home_reads : (s : Rest) (first : ℕ) → IsFit s → AllRead 0 3 (begun_view 0 first 3) (home_facts s)
home_reads s first fit = (
  begun_reads s.reserved.op (begun_view 0 first 3) (omega arith, fit.op),
  (
    numbered_reads s.reserved.floor (all_recalled_view (Begun 1 s.reserved.op ∷ []) (begun_view 0 first 3)) (omega arith, fit.floor),
    (kept_reads 0 3 (all_recalled_view (Begun 1 s.reserved.op ∷ Numbered 1 s.reserved.floor ∷ []) (begun_view 0 first 3)) s.copy fit.said fit.fits refl, tt),
  ),
)

pub home_fit : (s : Rest) → IsFit s → All (FitsFact grid_worked.plan) (map (fact_of 0) (home_facts s))
home_fit s fit = fits_options (Some (Begun 1 s.reserved.op) ∷ Some (Numbered 1 s.reserved.floor) ∷ Some (Kept file s.copy) ∷ []) ((omega arith, fit.op), ((omega arith, fit.floor), (fit.said, tt)))

-- what a start makes of them is the node at rest
made : (i : ℕ) (s : Rest) (local : Local) → IsFit s → Sees 0 3 (idle_view i s) local → IsAtRest (site 0 3) (recall_all (site 0 3) (begun_local (site 0 3) (volume ∷ []) (first_in grid_worked 3 0)) (home_facts s)) local
made i s local fit sees = record {
  volumes = sym seen.volumes ∙ sees.volumes;
  copies = λ f. copies f (is_file file f) refl;
  lacks = λ f there. sym (seen.lacks f) ∙ sees.lacks f;
  reserved = λ k has. (let at : IsOfPlan (tables_of 0 3 (idle_view i s)) 0 k = placed (tables_of 0 3 (idle_view i s)) 0 k has in reserved k (session_state_place k) at.within at.number);
  behind = all_behind (site 0 3) fresh (home_facts s) (λ k. record { op = refl; floor = refl });
  idle = all_idle (site 0 3) fresh (home_facts s) (λ k. refl);
}
  where
    fresh : Local
    fresh = begun_local (site 0 3) (volume ∷ []) (first_in grid_worked 3 0)

    rest : Local
    rest = recall_all (site 0 3) fresh (home_facts s)

    seen : Sees 0 3 (all_recalled_view (home_facts s) (begun_view 0 3 3)) rest
    seen = all_seen 0 3 (home_facts s) (begun_view 0 3 3) fresh (home_reads s 3 fit) (begun_sees 0 3 3)

    copies : (f : File) (b : Bool) → is_file file f ≡ b → copy_in (part_in rest) f ≡ copy_in (part_in local) f
    copies f true is = subst (λ g. copy_in (part_in rest) g ≡ copy_in (part_in local) g) (same_file file f is) (sym seen.copy ∙ fit.newest ∙ sees.copy)
    copies f false is = sym (seen.others f is) ∙ sees.others f is

    reserved : (k place : ℕ) → place < 2 → session 0 3 place ≡ k → (rest.residents k).reserved ≡ (local.residents k).reserved
    reserved k zero low is = subst (λ j. (rest.residents j).reserved ≡ (local.residents j).reserved) is (λ x. record {
      op = (sym seen.one.reserved_op ∙ sees.one.reserved_op) x;
      floor = (sym seen.one.reserved_floor ∙ sees.one.reserved_floor) x;
    })
    reserved k (suc zero) low is = subst (λ j. (rest.residents j).reserved ≡ (local.residents j).reserved) is (λ x. record {
      op = (sym seen.two.reserved_op ∙ ap (λ o. o.reserved_op) (sym fit.two) ∙ sees.two.reserved_op) x;
      floor = (sym seen.two.reserved_floor ∙ ap (λ o. o.reserved_floor) (sym fit.two) ∙ sees.two.reserved_floor) x;
    })
    reserved k (suc (suc place)) low is = absurd (omega arith)

pub home_needs : (i : ℕ) (s : Rest) → IsFit s → Needed (tables_of 0 3 (idle_view i s)) (map (fact_of 0) (home_facts s))
home_needs i s fit = record {
  within = (omega arith, (omega arith, (omega arith, tt)));
  fit = rw fit.fits refl;
  bare = bare;
  makes = makes;
}
  where
    w : Tables
    w = tables_of 0 3 (idle_view i s)

    bare : (t : ℕ) (local : Local) → Agrees w t local → IsBare local
    bare zero local agrees f lacks = absurd (let has : local.lacks f ≡ false = sym (agrees.lacks f) ∙ home_lacks f in cc)
    bare (suc t) local agrees f lacks = absurd (let has : local.lacks f ≡ false = sym (agrees.lacks f) ∙ home_lacks f in cc)

    makes : (t : ℕ) → t < length w.plan.rows → (local : Local) → Agrees w t local →
        IsAtRest (site_of w.plan w.here t) (recall_all (site_of w.plan w.here t) (begun_local (site_of w.plan w.here t) local.volumes (first_by w local)) (those_of t (map (fact_of 0) (home_facts s)))) local
    makes zero within local agrees =
        let sees : Sees 0 3 (idle_view i s) local = sees_of 0 3 (idle_view i s) local agrees in
        let P : List VolumeRow → Type 0 = λ vs. IsAtRest (site 0 3) (recall_all (site 0 3) (begun_local (site 0 3) vs (record { volumes = length vs; losses = 3 })) (home_facts s)) local in
        subst P sees.volumes (made i s local fit sees)
    makes (suc t) within local agrees = absurd (omega arith)
