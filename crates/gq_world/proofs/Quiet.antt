-- Lines that leave all answers to questions as they were but one: what each server holds, another could be given once more.
use Rattle.std.proofs.Common.{◌≡◌, ℕ, List, [], ◌∷◌, ◌++◌, Bool, true, false, refl, sym, ap, subst, append-nil}
use Rattle.std.specs.Prelude.{if◌then◌else◌}
use Rattle.gq_grid.specs.Grid.{Grid}
use Rattle.gq_tag.specs.declared.StoredCopy.{StoredCopy}
use Rattle.gq_tag.specs.Tag.{File}
use Rattle.gq_desk.specs.CheckedPlan.{row_at}
use Rattle.gq_desk.specs.declared.plans.TenantRow.{TenantRow}
use Rattle.gq_model.specs.declared.events.Line.{Line}
use Rattle.gq_model.specs.declared.events.Line.TheVariants.{Bad, Quorum, Volumes}
use Rattle.gq_model.specs.declared.events.Refusal.{Refusal}
use Rattle.gq_model.specs.Told.{Told, Refused}
use Rattle.gq_model.specs.Trace.{Turn, Own, State, Known, changed, copy_of}
use Rattle.gq_model.specs.Lone.{Step, quiet, entry_of, line_step, is_refusal}
use Rattle.gq_world.specs.Tables.{Tables, Agrees}
use Rattle.gq_world.specs.Machine.{state_after_turn, Acts, TellsLine}

-- what servers could be given after a turn that brings none a copy
abbrev pub offered_on : State → ℕ → File → ℕ → List StoredCopy
offered_on state = λ server file peer. state.offered server file peer ++ (if state.lacks peer file then [] else copy_of (state.brought peer file) ∷ [])

-- whatever could be given, the tables know nothing of it
abbrev pub with_offered : State → (ℕ → File → ℕ → List StoredCopy) → State
with_offered state offered = record state { offered = offered }

pub agrees_offered : (w : Tables) (t : ℕ) (known : Known) (offered : ℕ → File → ℕ → List StoredCopy) → Agrees w t known → Agrees w t (record known { state = with_offered known.state offered })
agrees_offered w t known offered agrees = record {
  lines = agrees.lines;
  up = agrees.up;
  gone = agrees.gone;
  account = agrees.account;
  sent = agrees.sent;
  lost = agrees.lost;
  messages = agrees.messages;
  accounts = agrees.accounts;
  copies = agrees.copies;
  lacking = agrees.lacking;
  down = agrees.down;
  session_states = λ place within. let session_state = agrees.session_states place within in record { op = session_state.op; answered = session_state.answered; sits = session_state.sits };
}

-- nothing more was sent
sends_nothing : (state : State) → record state { sent = state.sent ++ []; offered = offered_on state } ≡ with_offered state (offered_on state)
sends_nothing state = ap (λ messages. record state { sent = messages; offered = offered_on state }) (append-nil state.sent)

-- what could be given after a turn that sends nothing and answers no question otherwise, whatever is told
abbrev offered_after : State → Told → ℕ → File → ℕ → List StoredCopy
offered_after state told = if is_refusal told then state.offered else offered_on state

quiet_after : (state : State) (turn : Turn) (told : Told) → changed (entry_of state turn (quiet told)) state ≡ with_offered state (offered_on state) → state_after_turn state turn (quiet told) ≡ with_offered state (offered_after state told)
quiet_after state turn told same = by (is_refusal told)
  where
    by : (b : Bool) → (if b then state else changed (entry_of state turn (quiet told)) state) ≡ with_offered state (if b then state.offered else offered_on state)
    by true = refl
    by false = same

-- such a line
abbrev IsQuiet : Line → Type 0
IsQuiet line = (grid : Grid) (row : TenantRow) (state : State) → state_after_turn state (Own line) (line_step grid row state line) ≡ with_offered state (offered_after state (line_step grid row state line).told)

quorum_after : IsQuiet Quorum
quorum_after grid row state = quiet_after state (Own Quorum) (line_step grid row state Quorum).told (sends_nothing state)

volumes_after : IsQuiet Volumes
volumes_after grid row state = quiet_after state (Own Volumes) (line_step grid row state Volumes).told (sends_nothing state)

-- the tables stay
quiet_acts : (w : Tables) (t : ℕ) (line : Line) → IsQuiet line → Acts w t line w
quiet_acts w t line same = record {
  plan = refl;
  own = λ known most bounded agrees.
      let told : Told = (line_step w.plan.grid (row_at w.plan t) known.state line).told in
      subst (Agrees w t) (ap (λ state. record known { state = state }) (sym (same w.plan.grid (row_at w.plan t) known.state))) (agrees_offered w t known (offered_after known.state told) agrees);
  others = λ u other known agrees. agrees;
  servers = refl;
  gone = refl;
}

pub quorum_acts : (w : Tables) (t : ℕ) → Acts w t Quorum w
quorum_acts w t = quiet_acts w t Quorum quorum_after

pub volumes_acts : (w : Tables) (t : ℕ) → Acts w t Volumes w
volumes_acts w t = quiet_acts w t Volumes volumes_after

pub bad_acts : (w : Tables) (t : ℕ) → Acts w t Bad w
bad_acts w t = quiet_acts w t Bad (λ grid row state. refl)

-- ---- a line that is refused

pub refused_acts : (w : Tables) (t : ℕ) (line : Line) (word : Refusal) → ((known : Known) → Agrees w t known → line_step w.plan.grid (row_at w.plan t) known.state line ≡ quiet (Refused word)) → Acts w t line w
refused_acts w t line word refuses = record {
  plan = refl;
  own = λ known most bounded agrees. subst (Agrees w t) (ap (λ step. record known { state = state_after_turn known.state (Own line) step }) (sym (refuses known agrees))) agrees;
  others = λ u other known agrees. agrees;
  servers = refl;
  gone = refl;
}

pub refused_tells : (w : Tables) (t : ℕ) (line : Line) (word : Refusal) → ((known : Known) → Agrees w t known → line_step w.plan.grid (row_at w.plan t) known.state line ≡ quiet (Refused word)) → TellsLine w t line (Refused word)
refused_tells w t line word refuses known agrees = sym (ap (λ (step : Step). step.told) (refuses known agrees))
