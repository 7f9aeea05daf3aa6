-- The column that a session stores in is that of the model, whatever the content of the copy is.
use Rattle.std.proofs.Common.{◌≡◌, ◌∙◌, ℕ, Bool, true, false, Option, Some, None, refl, sym, ap, inl, inr}
use Rattle.std.specs.Prelude.{◌&&◌, ◌==◌, not, option_map, if◌then◌else◌}
use Rattle.std.proofs.lemmas.Bool.{cases_Bool}
use Rattle.gq_grid.specs.Grid.{Grid, Servers}
use Rattle.gq_grid.specs.Sets.{servers}
use Rattle.gq_tag.specs.declared.StoredCopy.{StoredCopy}
use Rattle.gq_tag.specs.declared.FileId.{FileId}
use Rattle.gq_tag.specs.declared.Message.{Message}
use Rattle.gq_tag.specs.Tag.{own_message, latest}
use Rattle.gq_phase.specs.Best.{givers_with}
use Rattle.gq_phase.specs.Course.{round_of}
use Rattle.gq_phase.specs.declared.operation.Operation.{Operation as Code}
use Rattle.gq_phase.specs.declared.operation.Task.{Task as CodeTask}
use Rattle.gq_phase.specs.declared.operation.Task.TheVariants.{Write, Read, List as ListFiles}
use Rattle.gq_phase.specs.Phase.{Operation, is_current, with_reply, heard_copies}
use Rattle.gq_phase.specs.Standing.{StandsFor, SameFor, DifferInContent, task_for, reads, is_current_as}
use Rattle.gq_phase.proofs.Givers.{givers-hear}
use Rattle.gq_phase.proofs.Saying.{says_given}
use Rattle.gq_model.specs.Trace.{operation_with}
use Rattle.gq_node.specs.declared.session_states.SessionState.{SessionState}
use Rattle.gq_node.specs.Columns.{column_among, heard_with, gave, passes_on, asks_to_confirm, column_behind}
use Rattle.gq_node.specs.Local.{Resident}
use Rattle.gq_node.specs.SessionStates.{TakenIn, confirms_by, confirms_in, givers_behind, column_by, session_state_column, session_state_aim_behind}
use Rattle.gq_node.specs.Sites.{aim}
use Rattle.gq_node.specs.Tables.{SessionStateAgrees, Sits}

-- ---- who gave the copy

passes_there : (task : CodeTask) (file : FileId) (files : ℕ) → passes_on (task_for task file files) ≡ reads task
passes_there (Write bytes) file files = refl
passes_there Read file files = refl
passes_there ListFiles file files = refl

pub reads_is : (grid : Grid) (t : ℕ) (code : Code) (o : Operation) → StandsFor grid t code o → reads code.task ≡ passes_on o.task
reads_is grid t code o s = sym (passes_there code.task code.file code.course.files) ∙ ap passes_on s.task

same_copy : (task : CodeTask) (a b : Option StoredCopy) → SameFor task a b → reads task ≡ true → a ≡ b
same_copy (Write bytes) a b same is = absurd (cc)
same_copy Read a b same is = same
same_copy ListFiles a b same is = same

current_is : (grid : Grid) (t : ℕ) (code : Code) (o : Operation) (m : Message) → StandsFor grid t code o → is_current_as code m ≡ is_current o (own_message m)
current_is grid t code o m s = λ i. not (s.going i) && ((m.op == s.op i) && (m.round == s.round i))

givers_are : (grid : Grid) (t : ℕ) (code : Code) (o : Operation) (m : Message) → StandsFor grid t code o → reads code.task ≡ true → givers_behind code m ≡ gave (heard_with o (own_message m))
givers_are grid t code o m s is = elim (cases_Bool (is_current o (own_message m))) [
  | inl now ↦ (
      let also : is_current_as code m ≡ true = current_is grid t code o m s ∙ now in
      let told : givers_behind code m ≡ givers_with code.best (servers code.givers) m.server m.body = rw also refl in
      let heard : gave (heard_with o (own_message m)) ≡ gave (with_reply o (own_message m)).heard = rw now refl in
      told
      ∙ ap (λ best. givers_with best (servers code.givers) m.server m.body) (same_copy code.task code.best (latest (heard_copies o.heard)) s.best is)
      ∙ ap (λ set. givers_with (latest (heard_copies o.heard)) set m.server m.body) s.givers
      ∙ sym (givers-hear o.heard m.server m.body)
      ∙ sym heard)
  | inr other ↦ (
      let also : is_current_as code m ≡ false = current_is grid t code o m s ∙ other in
      let told : givers_behind code m ≡ servers code.givers = rw also refl in
      let heard : gave (heard_with o (own_message m)) ≡ gave o.heard = rw other refl in
      told ∙ s.givers ∙ sym heard)
]

-- ---- the column

column_is : (grid : Grid) (t floor last stays column : ℕ) (code : Option Code) (o : Option Operation) (m : Message) → Sits grid t floor code last o → column_by grid stays column code m ≡ column_behind grid stays column o (own_message m)
column_is grid t floor last stays column None None m sits = refl
column_is grid t floor last stays column None (Some o) m sits = absurd sits
column_is grid t floor last stays column (Some code) None m sits = absurd sits
column_is grid t floor last stays column (Some code) (Some o) m sits = elim (cases_Bool (reads code.task)) [
  | inr writes ↦ (let also : passes_on o.task ≡ false = sym (reads_is grid t code o sits) ∙ writes in rw (writes, also) refl)
  | inl reads' ↦ (
      let also : passes_on o.task ≡ true = sym (reads_is grid t code o sits) ∙ reads' in
      rw (reads', also) (ap (λ set. if stays == 0 then column_among grid set column else column) (givers_are grid t code o m sits reads')))
]

-- whom the session asks behind the letter
pub aim_behind_is : (grid : Grid) (t k : ℕ) (session_state : SessionState) (r : Resident) (m : Message) → SessionStateAgrees grid t k session_state r →
    session_state_aim_behind grid session_state m ≡ aim grid r.row (column_behind grid r.stays r.column (option_map (operation_with k r.session) r.session.current) (own_message m))
aim_behind_is grid t k session_state r m a =
    ap (λ row. aim grid row (session_state_column grid session_state m)) a.row
    ∙ ap (aim grid r.row) (
    (λ i. column_by grid (a.stays i) (a.column i) session_state.operation m)
    ∙ column_is grid t session_state.floor r.session.floor r.stays r.column session_state.operation (option_map (operation_with k r.session) r.session.current) m a.sits)

-- whether others are asked to confirm
asked_is : (grid : Grid) (t floor last stays : ℕ) (code : Option Code) (o : Option Operation) → Sits grid t floor code last o → confirms_by stays code ≡ asks_to_confirm stays o
asked_is grid t floor last stays None None sits = refl
asked_is grid t floor last stays None (Some o) sits = absurd sits
asked_is grid t floor last stays (Some code) None sits = absurd sits
asked_is grid t floor last stays (Some code) (Some o) sits = ap (λ b. b && stays == 0) (reads_is grid t code o sits)

pub confirms_is : (grid : Grid) (t k : ℕ) (session_state : SessionState) (r : Resident) → SessionStateAgrees grid t k session_state r →
    confirms_in session_state ≡ asks_to_confirm r.stays (option_map (operation_with k r.session) r.session.current)
confirms_is grid t k session_state r a =
    ap (λ stays. confirms_by stays session_state.operation) a.stays
    ∙ asked_is grid t session_state.floor r.session.floor r.stays session_state.operation (option_map (operation_with k r.session) r.session.current) a.sits

-- ---- whatever the content is

givers_same : (code : Code) (a b : Message) → DifferInContent code a b → givers_behind code a ≡ givers_behind code b
givers_same code a b d =
    let current : is_current_as code a ≡ is_current_as code b = (λ i. not code.done && ((sym d.op i == code.who.op) && (sym d.round i == round_of code.course))) in
    λ i. if current i then says_given code (servers code.givers) a b d i else servers code.givers

column_same : (grid : Grid) (stays column : ℕ) (code : Option Code) (a b : Message) → TakenIn code a b → column_by grid stays column code a ≡ column_by grid stays column code b
column_same grid stays column None a b d = absurd d
column_same grid stays column (Some code) a b d = ap (λ set. if reads code.task && stays == 0 then column_among grid set column else column) (givers_same code a b d.1)

pub aims_same : (grid : Grid) (session_state : SessionState) (a b : Message) → TakenIn session_state.operation a b → session_state_aim_behind grid session_state a ≡ session_state_aim_behind grid session_state b
aims_same grid session_state a b d = ap (aim grid session_state.row) (column_same grid session_state.stays session_state.column session_state.operation a b d)
