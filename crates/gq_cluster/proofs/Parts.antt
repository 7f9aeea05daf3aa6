-- What an act leaves of the parts, and that what is refused sends nothing.
use Rattle.std.proofs.Common.{◌≡◌, ◌≢◌, ◌⊎◌, ℕ, Bool, true, false, List, [], length, refl, sym, ap, ◌∙◌, subst, inl, inr, Option, Some, None}
use Rattle.std.specs.Prelude.{◌==◌, if◌then◌else◌}
use Rattle.std.proofs.lemmas.Bool.{cases_eq, eq-eqb, ne_eqb, true≢false}
use Rattle.gq_grid.specs.Grid.{Grid, Servers}
use Rattle.gq_tag.specs.Tag.{File, OwnMessage, to_server}
use Rattle.gq_desk.specs.declared.plans.TenantRow.{TenantRow}
use Rattle.gq_phase.specs.Phase.{Operation, Heard, HeardStale, HeardNoted, HeardNext, HeardDone, hear, resent, round_quorum}
use Rattle.gq_model.specs.declared.events.Line.{Line}
use Rattle.gq_model.specs.declared.events.Line.TheVariants.{Write, Read, List as ListFiles, Retry}
use Rattle.gq_model.specs.declared.events.Refusal.{Refusal}
use Rattle.gq_model.specs.declared.events.Refusal.TheVariants.{NoQuorum}
use Rattle.gq_model.specs.Told.{Resent, Refused}
use Rattle.gq_model.specs.Trace.{State, Session, serves, operation, changed, deed, deed_in}
use Rattle.gq_model.specs.Lone.{Step, asked_step, deliver_step, first_cause, session_causes, session_step, retry_step, hear_step, heard_step, serve_step, is_refusal, unless, quiet}
use Rattle.gq_cluster.specs.Facts.{Reserved, with_reserved}
use Rattle.gq_cluster.specs.Cluster.{Setting, Cluster, Part, Act, Asks, Comes, aim_of, node_of, part_of, state_of, act_step, act_entry, step_in, fact_of, part_after, parts_after}

-- ---- what an act leaves

-- the part of the act's node, as the model's state
abbrev pub state_at : Setting → Cluster → Act → State
state_at s c act = state_of s.volumes (aim_of act) (c.part (node_of s.home act))

-- what is reserved behind the act for the sessions of its node
abbrev pub reserved_then : Setting → Cluster → Act → ℕ → Reserved
reserved_then s c act = with_reserved (fact_of s (c.part (node_of s.home act)) act) (c.part (node_of s.home act)).reserved

-- by an act no operation is given up
pub act_deed : (sent : List OwnMessage) (k : ℕ) (z : Session) (act : Act) (step : Step) → deed_in sent k z (act_entry act step) ≡ deed k (act_entry act step)
act_deed sent k z (Asks line aim) step = refl
act_deed sent k z (Comes letter aim) step = refl

-- the part of that node, as number n, after an act that is not refused
abbrev pub part_then : Setting → Cluster → Act → ℕ → Part
part_then s c act n = part_of n (reserved_then s c act) (changed (act_entry act (step_in s c act)) (state_at s c act))

-- the parts after an act that is not refused
abbrev pub parts_then : Setting → Cluster → Act → ℕ → Part
parts_then s c act n = if n == node_of s.home act then part_then s c act n else c.part n

pub parts_here : (s : Setting) (c : Cluster) (act : Act) (n : ℕ) → n ≡ node_of s.home act → parts_then s c act n ≡ part_then s c act n
parts_here s c act n same = rw (eq-eqb n (node_of s.home act) same) refl

pub parts_away : (s : Setting) (c : Cluster) (act : Act) (n : ℕ) → n ≢ node_of s.home act → parts_then s c act n ≡ c.part n
parts_away s c act n ne = rw (ne_eqb n (node_of s.home act) ne) refl

-- an act takes no file from a server, and gives it none back
pub parts_lack : (s : Setting) (c : Cluster) (act : Act) (n : ℕ) (file : File) → (parts_then s c act n).lacks file ≡ (c.part n).lacks file
parts_lack s c act n file = elim (cases_eq n (node_of s.home act)) [
  | inl same ↦ (ap (λ z. z.lacks file) (parts_here s c act n same) ∙ of_node act n ∙ ap (λ z. (c.part z).lacks file) (sym same))
  | inr away ↦ (ap (λ z. z.lacks file) (parts_away s c act n away))
]
  where
    of_node : (act : Act) (n : ℕ) → (part_then s c act n).lacks file ≡ (c.part (node_of s.home act)).lacks file
    of_node (Asks line aim) n = refl
    of_node (Comes letter aim) n = refl

pub refused_part : (s : Setting) (c : Cluster) (act : Act) → is_refusal (step_in s c act).told ≡ true → (n : ℕ) → parts_after s c act n ≡ c.part n
refused_part s c act refused n = by (cases_eq n (node_of s.home act))
  where
    by : (n ≡ node_of s.home act) ⊎ (n ≢ node_of s.home act) → parts_after s c act n ≡ c.part n
    by (inr ne) = rw (ne_eqb n (node_of s.home act) ne) refl
    by (inl same) =
        let P : ℕ → Type 0 = λ z. part_after s z (c.part z) act ≡ c.part z in
        let there : part_after s (node_of s.home act) (c.part (node_of s.home act)) act ≡ c.part (node_of s.home act) = rw refused refl in
        rw (eq-eqb n (node_of s.home act) same) (subst P (sym same) there)

pub accepted_part : (s : Setting) (c : Cluster) (act : Act) → is_refusal (step_in s c act).told ≡ false → (n : ℕ) → parts_after s c act n ≡ parts_then s c act n
accepted_part s c act accepted n = by (cases_eq n (node_of s.home act))
  where
    by : (n ≡ node_of s.home act) ⊎ (n ≢ node_of s.home act) → parts_after s c act n ≡ parts_then s c act n
    by (inr ne) = rw (ne_eqb n (node_of s.home act) ne) refl
    by (inl same) =
        let P : ℕ → Type 0 = λ z. part_after s z (c.part z) act ≡ part_then s c act z in
        let there : part_after s (node_of s.home act) (c.part (node_of s.home act)) act ≡ part_then s c act (node_of s.home act) = rw accepted refl in
        rw (eq-eqb n (node_of s.home act) same) (subst P (sym same) there)

-- what is refused sends nothing
unless_quiet : (word : Option Refusal) (step : Step) → (is_refusal step.told ≡ true → step.new ≡ []) → is_refusal (unless word step).told ≡ true → (unless word step).new ≡ []
unless_quiet None step quiet refused = quiet refused
unless_quiet (Some word) step quiet refused = refl

retry_quiet : (grid : Grid) (state : State) (o : Option Operation) → is_refusal (retry_step grid state o).told ≡ true → (retry_step grid state o).new ≡ []
retry_quiet grid state None refused = refl
retry_quiet grid state (Some o) refused = by (round_quorum grid state.up o.round) refl
  where
    by : (quorum : Option Servers) → round_quorum grid state.up o.round ≡ quorum → (retry_step grid state (Some o)).new ≡ []
    by None is = let same : retry_step grid state (Some o) ≡ quiet (Refused NoQuorum) = rw is refl in ap (λ z. z.new) same
    by (Some quorum) is =
        let same : retry_step grid state (Some o) ≡ record { told = Resent (length state.sent) (length (resent grid o quorum)); new = resent grid o quorum } = rw is refl in
        absurd (true≢false (sym refused ∙ ap (λ z. is_refusal z.told) same))

heard_quiet : (grid : Grid) (state : State) (m : OwnMessage) (o : Option Operation) → is_refusal (hear_step grid state m o).told ≡ true → (hear_step grid state m o).new ≡ []
heard_quiet grid state m None refused = refl
heard_quiet grid state m (Some o) refused = by (hear grid state.up o m) refused
  where
    by : (h : Heard) → is_refusal (heard_step (length state.sent) h).told ≡ true → (heard_step (length state.sent) h).new ≡ []
    by HeardStale refused = refl
    by HeardNoted refused = refl
    by (HeardNext round tag messages) refused = absurd (true≢false (sym refused))
    by (HeardDone outcome) refused = refl

pub refused_quiet : (grid : Grid) (row : TenantRow) (state : State) (act : Act) → is_refusal (act_step grid row state act).told ≡ true → (act_step grid row state act).new ≡ []
refused_quiet grid row state (Asks line aim) refused = by line refused
  where
    by : (line : Line) → is_refusal (asked_step grid row state line).told ≡ true → (asked_step grid row state line).new ≡ []
    by (Write k v f bytes) refused = unless_quiet (first_cause (session_causes grid row state (Write k v f bytes))) (session_step grid state (Write k v f bytes)) (λ no_refusal. absurd (true≢false (sym no_refusal))) refused
    by (Read k v f) refused = unless_quiet (first_cause (session_causes grid row state (Read k v f))) (session_step grid state (Read k v f)) (λ no_refusal. absurd (true≢false (sym no_refusal))) refused
    by (ListFiles k v) refused = unless_quiet (first_cause (session_causes grid row state (ListFiles k v))) (session_step grid state (ListFiles k v)) (λ no_refusal. absurd (true≢false (sym no_refusal))) refused
    by (Retry k) refused = unless_quiet (first_cause (session_causes grid row state (Retry k))) (session_step grid state (Retry k)) (retry_quiet grid state (operation state k)) refused
    by other refused = unless_quiet (first_cause (session_causes grid row state other)) (session_step grid state other) (λ refused. refl) refused
refused_quiet grid row state (Comes m aim) refused = by (to_server m.body) refl
  where
    served : (b : Bool) → serves state.up state.lacks m.server m.file ≡ b → (serve_step state m).new ≡ [] ⊎ (is_refusal (serve_step state m).told ≡ false)
    served true is = inr (rw is refl)
    served false is = inl (rw is refl)

    by : (b : Bool) → to_server m.body ≡ b → (deliver_step grid state (Some m)).new ≡ []
    by true ask =
        let same : deliver_step grid state (Some m) ≡ serve_step state m = rw ask refl in
        ap (λ z. z.new) same ∙ elim (served (serves state.up state.lacks m.server m.file) refl) [
          | inl none ↦ none
          | inr fine ↦ (absurd (true≢false (sym refused ∙ ap (λ z. is_refusal z.told) same ∙ fine)))
        ]
    by false reply =
        let same : deliver_step grid state (Some m) ≡ hear_step grid state m (operation state m.session) = rw reply refl in
        ap (λ z. z.new) same ∙ heard_quiet grid state m (operation state m.session) (sym (ap (λ z. is_refusal z.told) same) ∙ refused)
