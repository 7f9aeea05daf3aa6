-- When a past of the model stands for a cluster: it has the same copies, sessions and messages. Server lines change nothing of it.
use Rattle.std.proofs.Common.{◌≡◌, ◌⊎◌, ℕ, ◌*◌, ◌≤◌, Bool, true, false, List, [], ◌∷◌, ◌++◌, refl, sym, ap, ◌∙◌, subst, inl, inr, arith}
use Rattle.std.specs.Prelude.{Contains, filter_map, fold, if◌then◌else◌}
use Rattle.std.proofs.lemmas.List.Elements.{Contains-append_left, Contains-append_right, Contains-append_cases}
use Rattle.gq_grid.specs.Grid.{Grid, Servers}
use Rattle.gq_tag.specs.declared.StoredCopy.{StoredCopy}
use Rattle.gq_tag.specs.Tag.{File, first_copy, greatest}
use Rattle.gq_desk.specs.declared.plans.TenantRow.{TenantRow}
use Rattle.gq_model.specs.Trace.{Turn, Serving, Past, Trace, up, volumes, sent, is_lost, lacks, brought, copy_of, offered, session}
use Rattle.gq_model.specs.Lone.{after}
use Rattle.gq_cluster.specs.Cluster.{Setting, Cluster, Part, copy_in}
use Rattle.gq_cluster.specs.Laws.{disk_turn, exchanges_from}
use Rattle.gq_cluster.proofs.ServerLines.{NoneGone, SetsAll, change, lines_for}

-- the past has what the cluster has; no message is lost, no server by a line, and none is down that the grid does not have
pub record Stands (s : Setting) (p : Past) (c : Cluster) : Type 0 where
  pub opened : volumes p.trace ≡ s.volumes
  pub written : sent p.trace ≡ c.written
  pub kept : (n : ℕ) → is_lost p.trace n ≡ false
  pub beyond : (n : ℕ) → s.grid.rows * s.grid.cols ≤ n → up p.trace n ≡ true
  pub none_gone : NoneGone p
  pub lacking : (n : ℕ) (file : File) → lacks p.trace n file ≡ (c.part n).lacks file
  pub copies : (n : ℕ) (file : File) → brought p.trace n file ≡ (c.part n).brought file
  pub sessions : (k : ℕ) → session p.trace k ≡ (c.part (s.home k)).session k
  pub offers : (server : ℕ) (file : File) (peer : ℕ) (copy : StoredCopy) → Contains (c.offered server file peer) copy → Contains (offered p.trace server file peer) copy

-- what the peer holds, where it has the file, is what its part has
pub holds_as : (t : Trace) (parts : ℕ → Part) → ((n : ℕ) (file : File) → lacks t n file ≡ (parts n).lacks file) → ((n : ℕ) (file : File) → brought t n file ≡ (parts n).brought file) → (file : File) (peer : ℕ) →
    ◌≡◌ {A = List StoredCopy} (if lacks t peer file then [] else copy_of (brought t peer file) ∷ []) (if (parts peer).lacks file then [] else copy_in (parts peer) file ∷ [])
holds_as t parts lacking copies file peer = λ i. if lacking peer file i then [] else greatest (first_copy ∷ copies peer file i) ∷ []

-- so what a server could be given before, and what peers hold then, it could be given in the model too
pub offers_on : (before now : List StoredCopy) (held had : List StoredCopy) (copy : StoredCopy) → (Contains before copy → Contains now copy) → held ≡ had → Contains (before ++ had) copy → Contains (now ++ held) copy
offers_on before now held had copy more same within = by (Contains-append_cases before had copy within)
  where
    by : Contains before copy ⊎ Contains had copy → Contains (now ++ held) copy
    by (inl old) = Contains-append_left now held copy (more old)
    by (inr new) = let P : List StoredCopy → Type 0 = λ z. Contains z copy in Contains-append_right now held copy (subst P (sym same) new)

-- behind server lines too
pub stands_on : (s : Setting) (p q : Past) (c : Cluster) (aim : Servers) → SetsAll p q aim 0 (s.grid.rows * s.grid.cols) → Stands s p c → Stands s q c
stands_on s p q c aim all stands = record {
  opened = ap (λ z. z.volumes) all.rest ∙ stands.opened;
  written = ap (λ z. z.sent) all.rest ∙ stands.written;
  kept = λ n. ap (λ z. z.is_lost n) all.rest ∙ stands.kept n;
  beyond = λ n out. all.apart n (inr (omega arith)) ∙ stands.beyond n out;
  none_gone = λ n. ap (λ z. z.gone n) all.rest ∙ stands.none_gone n;
  lacking = λ n file. ap (λ z. z.lacks n file) all.rest ∙ stands.lacking n file;
  copies = λ n file. ap (λ z. z.brought n file) all.rest ∙ stands.copies n file;
  sessions = λ k. ap (λ z. z.session k) all.rest ∙ stands.sessions k;
  offers = λ server file peer copy within. all.offers server file peer copy (stands.offers server file peer copy within);
}

-- by them no disk is lost
pub lines_of_disks : (aim : Servers) (servers : List ℕ) → filter_map disk_turn (lines_for aim servers) ≡ []
lines_of_disks aim [] = refl
lines_of_disks aim (n ∷ servers) = by (aim n) (lines_of_disks aim servers)
  where
    by : (b : Bool) → filter_map disk_turn (lines_for aim servers) ≡ [] → filter_map disk_turn (Serving (change b n) ∷ lines_for aim servers) ≡ []
    by true later = later
    by false later = later

-- they do nothing to a session or to a server
pub exchanges_behind : (grid : Grid) (row : TenantRow) (aim : Servers) (servers : List ℕ) (turns : List Turn) (p : Past) →
    exchanges_from grid row p (lines_for aim servers ++ turns) ≡ exchanges_from grid row (fold (after grid row) p (lines_for aim servers)) turns
exchanges_behind grid row aim [] turns p = refl
exchanges_behind grid row aim (n ∷ servers) turns p = exchanges_behind grid row aim servers turns (fold (after grid row) p (lines_for aim (n ∷ [])))
