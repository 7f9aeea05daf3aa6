-- What a node must not forget of its part, and that an act changes it by one fact at most.
use Rattle.std.specs.Prelude.{◌≡◌, ℕ, ◌≤◌, List, [], ◌∷◌, ◌++◌, ◌==◌, Option, Some, None, All, ⊤, fold, if◌then◌else◌}
use Rattle.gq_tag.specs.declared.StoredCopy.{StoredCopy}
use Rattle.gq_tag.specs.Tag.{File, is_file, first_copy, newer_of}
use Rattle.gq_cluster.specs.Cluster.{Setting, Part, Act, Cluster, NodeStep, Reserves, Loses, Returns, new_part, copy_in, node_of, fact_of, part_after, new_cluster, after_act, after_step, acts_of, cluster_after}
use Rattle.gq_cluster.specs.Facts.{OwnFact, Begun, Numbered, Kept, Had}

-- what is kept of a part: of each file the copy; of each session the last numbers that are reserved, of its operations and of its tags
pub record KeptPart : Type 0 where
  pub copy : File → StoredCopy
  pub op : ℕ → ℕ
  pub floor : ℕ → ℕ

abbrev pub kept_of : Part → KeptPart
kept_of part = record { copy = copy_in part; op = λ k. (part.reserved k).op; floor = λ k. (part.reserved k).floor }

-- what is kept after one fact more, if there is one
abbrev pub with_fact : KeptPart → Option OwnFact → KeptPart
with_fact kept None = kept
with_fact kept (Some (Begun k op)) = record kept { op = λ j. if k == j then op else kept.op j }
with_fact kept (Some (Numbered k number)) = record kept { floor = λ j. if k == j then number else kept.floor j }
with_fact kept (Some (Kept file copy)) = record kept { copy = λ f. if is_file file f then copy else kept.copy f }
with_fact kept (Some (Had file copy)) = record kept { copy = λ f. if is_file file f then newer_of first_copy copy else kept.copy f }

-- whatever a node has, an act changes what is kept of it by the act's fact, and by nothing else
abbrev pub AllActsKeep : Type 0
AllActsKeep = (s : Setting) (n : ℕ) (part : Part) (act : Act) → node_of s.home act ≡ n → kept_of (part_after s n part act) ≡ with_fact (kept_of part) (fact_of s part act)

-- ---- all facts of a node

-- the fact of an act at node n, none where the act is done at another
abbrev pub fact_at : Setting → Cluster → ℕ → Act → Option OwnFact
fact_at s c n act = if n == node_of s.home act then fact_of s (c.part n) act else None

-- the facts of acts at node n, in order, and of node steps
abbrev pub facts_of : Setting → Cluster → ℕ → List Act → List (Option OwnFact)
facts_of s c n [] = []
facts_of s c n (act ∷ acts) = fact_at s c n act ∷ facts_of s (after_act s c act) n acts

abbrev pub facts_at : Setting → Cluster → ℕ → List NodeStep → List (Option OwnFact)
facts_at s c n [] = []
facts_at s c n (step ∷ steps) = facts_of s c n (acts_of s c step) ++ facts_at s (after_step s c step) n steps

-- no disk is lost by the step, and nothing is reserved but by the fact of an act
abbrev pub IsKept : NodeStep → Type 0
IsKept (Reserves node number) = ⊥
IsKept (Loses server volumes) = ⊥
IsKept (Returns server file peer copy) = ⊥
IsKept _ = ⊤

-- from its facts alone, in order, each node knows again what must not be forgotten, whatever happened, while no disk is lost, and numbers are reserved by facts alone
abbrev pub AllFactsSuffice : Type 0
AllFactsSuffice = (s : Setting) (n : ℕ) (steps : List NodeStep) → All IsKept steps → kept_of ((cluster_after s steps).part n) ≡ fold with_fact (kept_of new_part) (facts_at s new_cluster n steps)

-- ---- what is reserved

-- no number that the session has used is above those that are reserved
pub record IsReserved (part : Part) (k : ℕ) : Type 0 where
  pub op : (part.session k).op ≤ (part.reserved k).op
  pub floor : (part.session k).floor ≤ (part.reserved k).floor

-- so it is of each session at each node, whatever happened: no number is used before the fact that reserves it
abbrev pub AllUsedReserved : Type 0
AllUsedReserved = (s : Setting) (steps : List NodeStep) (n k : ℕ) → IsReserved ((cluster_after s steps).part n) k
