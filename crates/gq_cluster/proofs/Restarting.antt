-- A restart gives up what its node's sessions did not do, takes them behind their reserved numbers, and changes nothing else.
use Rattle.std.proofs.Common.{◌≡◌, ◌≢◌, ℕ, ◌+◌, ◌*◌, ◌≤◌, Bool, true, false, ◌&&◌, ◌++◌, length, refl, sym, ap, ◌∙◌, subst, Option, Some, None, arith, eqb}
use Rattle.std.specs.Prelude.{max, if◌then◌else◌}
use Rattle.std.proofs.lemmas.Bool.{eq-eqb, ne_eqb, true≢false}
use Rattle.gq_tag.specs.Tag.{File}
use Rattle.gq_desk.specs.Plans.{is_in}
use Rattle.gq_phase.specs.Phase.{Task}
use Rattle.gq_model.specs.Trace.{Session, Leaps, session, session_by}
use Rattle.gq_model.specs.Lone.{past_of}
use Rattle.gq_laws.proofs.Pasts.{past_run}
use Rattle.gq_laws.proofs.Going.{while_going}
use Rattle.gq_cluster.specs.Facts.{Reserved}
use Rattle.gq_cluster.specs.Cluster.{Setting, Cluster, Part, Restarts, leapt_part, after_step, cluster_after}
use Rattle.gq_cluster.specs.Keeping.{IsReserved}
use Rattle.gq_cluster.specs.Laws.{openings, setting_of}
use Rattle.gq_cluster.specs.Restarts.{begun_anew, GivesUp, AllRestartsGiveUp}
use Rattle.gq_cluster.proofs.Abandoning.{at_home, without_operation, given_up, Abandons, all_given}
use Rattle.gq_cluster.proofs.Clusters.{run_of, run_stands}
use Rattle.gq_cluster.proofs.Reserving.{all_used_reserved}
use Rattle.gq_cluster.proofs.Standing.{Stands}

-- a session that has no operation, and used no number that is not reserved, begins anew by the leap
anew : (reserved : Reserved) (z : Session) → z.op ≤ reserved.op → z.floor ≤ reserved.floor →
    record { op = max z.op reserved.op; current = None; round = z.round; heard = z.heard; collected = z.collected; floor = max z.floor reserved.floor } ≡ begun_anew reserved z
anew reserved z low floor_low = λ i. record { op = op i; current = None; round = z.round; heard = z.heard; collected = z.collected; floor = floor i }
  where
    op : max z.op reserved.op ≡ reserved.op
    op = omega arith

    floor : max z.floor reserved.floor ≡ reserved.floor
    floor = omega arith

pub node_gives : (s : Setting) (c : Cluster) (node : ℕ) → ((k : ℕ) → s.home k ≡ node → IsReserved (c.part node) k) → GivesUp s node c (after_step s c (Restarts node))
node_gives s c node used = record {
  own = own;
  outside = outside;
  others = others;
  reserved = λ n k. reserved_stay n k (eqb n node) ∙ given.reserved n k;
  lacks = λ n file. lacks_stay n file (eqb n node) ∙ given.lacks n file;
  copies = λ n file. copies_stay n file (eqb n node) ∙ given.copies n file;
  written = given.written;
}
  where
    mid : Cluster
    mid = given_up s c node

    given : Abandons s node c mid
    given = all_given s c node

    part : ℕ → Bool → Part
    part n b = if b then leapt_part s node (mid.part n) else mid.part n

    reserved_stay : (n k : ℕ) (b : Bool) → (part n b).reserved k ≡ (mid.part n).reserved k
    reserved_stay n k true = refl
    reserved_stay n k false = refl

    lacks_stay : (n : ℕ) (file : File) (b : Bool) → (part n b).lacks file ≡ (mid.part n).lacks file
    lacks_stay n file true = refl
    lacks_stay n file false = refl

    copies_stay : (n : ℕ) (file : File) (b : Bool) → (part n b).brought file ≡ (mid.part n).brought file
    copies_stay n file true = refl
    copies_stay n file false = refl

    others : (k : ℕ) → s.home k ≢ node → (part (s.home k) (eqb (s.home k) node)).session k ≡ at_home s c k
    others k away = ap (λ b. (part (s.home k) b).session k) (ne_eqb (s.home k) node away) ∙ given.others k away

    -- the session at the node, where this is whether it leaps
    at : ℕ → Bool → Session
    at k b = if b then session_by s.volumes k (Leaps ((mid.part node).reserved k).op ((mid.part node).reserved k).floor) ((mid.part node).session k) else (mid.part node).session k

    mine : (k : ℕ) → s.home k ≡ node → is_in 1 s.row.sessions k ≡ true → (mid.part node).session k ≡ without_operation ((c.part node).session k)
    mine k same inside =
        let P : ℕ → Type 0 = λ n. (mid.part n).session k ≡ without_operation ((c.part n).session k) in
        subst P same (given.own k same inside)

    own : (k : ℕ) → s.home k ≡ node → is_in 1 s.row.sessions k ≡ true → (part node (eqb node node)).session k ≡ begun_anew ((c.part node).reserved k) ((c.part node).session k)
    own k same inside =
        ap (λ b. (part node b).session k) (eq-eqb node node refl)
        ∙ (λ i. at k (eq-eqb (s.home k) node same i && inside i))
        ∙ (λ i. session_by s.volumes k (Leaps (given.reserved node k i).op (given.reserved node k i).floor) (mine k same inside i))
        ∙ anew ((c.part node).reserved k) ((c.part node).session k) (used k same).op (used k same).floor

    outside : (k : ℕ) → s.home k ≡ node → is_in 1 s.row.sessions k ≡ false → (part node (eqb node node)).session k ≡ (c.part node).session k
    outside k same out =
        let P : ℕ → Type 0 = λ n. (mid.part n).session k ≡ (c.part n).session k in
        ap (λ b. (part node b).session k) (eq-eqb node node refl)
        ∙ (λ i. at k (eq-eqb (s.home k) node same i && out i))
        ∙ subst P same (given.outside k out)

-- ---- the law

pub all_restarts_give_up : AllRestartsGiveUp
all_restarts_give_up grid row home opens steps node enough can = (gives, λ k same. idle k same (is_in 1 row.sessions k) refl)
  where
    s : Setting
    s = setting_of grid row home opens

    c : Cluster
    c = cluster_after s steps

    gives : GivesUp s node c (after_step s c (Restarts node))
    gives = node_gives s c node (λ k same. all_used_reserved s steps node k)

    -- a session that goes on is the tenant's
    going : (k : ℕ) (task : Task) → (at_home s c k).current ≡ Some task → is_in 1 row.sessions k ≡ true
    going k task busy =
        let run = run_of grid row home opens steps enough can in
        let stands : Stands s (past_of grid row (openings opens ++ run.turns)) c = run_stands grid row home opens steps (length steps * (row.sessions + 1)) run in
        let its : (session (past_of grid row (openings opens ++ run.turns)).trace k).current ≡ Some task = ap (λ z. z.current) (stands.sessions k) ∙ busy in
        (while_going grid row (past_of grid row (openings opens ++ run.turns)).trace (past_run grid row (openings opens ++ run.turns)) k task its).in_range

    idle : (k : ℕ) → s.home k ≡ node → (b : Bool) → is_in 1 row.sessions k ≡ b → (((after_step s c (Restarts node)).part node).session k).current ≡ None
    idle k same true inside = ap (λ z. z.current) (gives.own k same inside)
    idle k same false out = ap (λ z. z.current) (gives.outside k same out) ∙ by ((c.part node).session k).current refl
      where
        by : (task : Option Task) → ((c.part node).session k).current ≡ task → ((c.part node).session k).current ≡ None
        by None is = is
        by (Some task) busy = absurd (true≢false (sym (going k task (ap (λ n. ((c.part n).session k).current) same ∙ busy)) ∙ out))
