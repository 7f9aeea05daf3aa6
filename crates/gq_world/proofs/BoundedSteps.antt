-- What is known of a run stays bounded after the lines that open a volume, retry, abandon and lose.
use Rattle.std.proofs.Common.{◌≡◌, ◌≢◌, ◌∙◌, ℕ, zero, suc, ◌+◌, ◌≤◌, Bool, true, false, ◌&&◌, List, [], ◌∷◌, ◌++◌, length, refl, sym, ap, subst, Option, Some, None, arith, All, append-nil}
use Rattle.std.specs.Prelude.{not}
use Rattle.std.proofs.lemmas.Bool.{eq-eqb, ne_eqb}
use Rattle.std.proofs.lemmas.List.Folds.{list_all-append}
use Rattle.std.proofs.lemmas.List.Elements.{All-nil, All-weaker}
use Rattle.gq_grid.specs.Grid.{Grid, Servers}
use Rattle.gq_tag.specs.declared.StoredCopy.{StoredCopy}
use Rattle.gq_tag.specs.declared.Body.{Body}
use Rattle.gq_tag.specs.declared.Body.TheVariants.{Ask, Copy, Store, Stored}
use Rattle.gq_tag.specs.Tag.{OwnMessage}
use Rattle.gq_desk.specs.declared.plans.TenantRow.{TenantRow}
use Rattle.gq_desk.specs.declared.volumes.VolumeRow.{VolumeRow}
use Rattle.gq_desk.specs.Volumes.{OpenFault, WrongSize, NoVolumeLeft, OverShare, open_fault, is_sized}
use Rattle.gq_phase.specs.Phase.{Task, Writing, Reading, Listing, Operation, resent, heard_copies, heard_servers, stored_copy}
use Rattle.gq_model.specs.declared.events.Line.{Line}
use Rattle.gq_model.specs.declared.events.Line.TheVariants.{NewVolume, Retry, Abandon, Lose}
use Rattle.gq_model.specs.Told.{Told, Opened, Abandoned}
use Rattle.gq_model.specs.Trace.{Own, Entry, State, Session, Known, changed, account_of, files_of, own_message_at, operation_with}
use Rattle.gq_model.specs.Lone.{Step, quiet, line_step, is_refusal, open_told, lose_told}
use Rattle.gq_world.specs.Bounds.{CopyFits, BodyFits, room, volume_of, TaskFits, OperationFits, MessageFits, IsOfSession, IsBounded}
use Rattle.gq_world.specs.Machine.{acted, state_after_turn}
use Rattle.gq_world.proofs.Bounding.{fits_more, IsOfRound, sent_to_fits}
use Rattle.gq_world.proofs.Keeping.{bounded_more, session_more, round_message, acts_in}
use Rattle.gq_world.proofs.Steps.{same_bounded}

-- ---- a volume more

more_files : (vs : List VolumeRow) (v : VolumeRow) (u : ℕ) → files_of vs u ≤ files_of (vs ++ v ∷ []) u
more_files [] v u = omega arith
more_files (x ∷ vs) v zero = omega arith
more_files (x ∷ vs) v (suc u) = more_files vs v u

more_room : (vs : List VolumeRow) (v : VolumeRow) (u : ℕ) → room vs u ≤ room (vs ++ v ∷ []) u
more_room [] v u = omega arith
more_room (x ∷ vs) v zero = omega arith
more_room (x ∷ vs) v (suc u) = more_room vs v u

wider : (n small large : ℕ) (copy : StoredCopy) → small ≤ large → CopyFits n small copy → CopyFits n large copy
wider n small large copy le h = record { number = h.number; long = let long = h.long in omega arith }

wider_body : (n small large : ℕ) (body : Body) → small ≤ large → BodyFits n small body → BodyFits n large body
wider_body n small large Ask le h = tt
wider_body n small large (Copy copy) le h = wider n small large copy le h
wider_body n small large (Store copy) le h = wider n small large copy le h
wider_body n small large Stored le h = tt

task_grown : (vs : List VolumeRow) (v : VolumeRow) (task : Task) → TaskFits vs task → TaskFits (vs ++ v ∷ []) task
task_grown vs v (Writing file bytes) h =
    let there = h.0 in
    let long = h.1 in
    let files = more_files vs v file.volume in
    let bytes' = more_room vs v file.volume in
    (omega arith, omega arith)
task_grown vs v (Reading file) h = let files = more_files vs v file.volume in omega arith
task_grown vs v (Listing volume files) h = let more = more_files vs v volume in omega arith

operation_grown : (n : ℕ) (vs : List VolumeRow) (v : VolumeRow) (o : Operation) → OperationFits n vs o → OperationFits n (vs ++ v ∷ []) o
operation_grown n vs v o h =
    let u : ℕ = volume_of o.task in
    let files = more_files vs v u in
    let bytes = more_room vs v u in
    record {
      op = h.op;
      floor = h.floor;
      task = task_grown vs v o.task h.task;
      file = let there = h.file in omega arith;
      collects = h.collects;
      stores = h.stores;
      heard = All-weaker (CopyFits n (room vs u)) (CopyFits n (room (vs ++ v ∷ []) u)) (λ copy fits. wider n (room vs u) (room (vs ++ v ∷ []) u) copy bytes fits) (heard_copies o.heard) h.heard;
      stored = wider n (room vs u) (room (vs ++ v ∷ []) u) (stored_copy o.collected) bytes h.stored;
    }

message_grown : (grid : Grid) (row : TenantRow) (n : ℕ) (vs : List VolumeRow) (v : VolumeRow) (l : OwnMessage) → MessageFits grid row n vs l → MessageFits grid row n (vs ++ v ∷ []) l
message_grown grid row n vs v l h = record {
  server = h.server;
  first = h.first;
  last = h.last;
  file = let there = h.file in let files = more_files vs v l.file.volume in omega arith;
  body = wider_body n (room vs l.file.volume) (room (vs ++ v ∷ []) l.file.volume) l.body (more_room vs v l.file.volume) h.body;
}

-- an opened volume has a size that is allowed
sized_volume : (share : ℕ) (row : TenantRow) (state : State) (v : VolumeRow) → open_fault (account_of row state) v ≡ None → is_sized row.most_blocks v ≡ true
sized_volume share row state v is = by (is_sized row.most_blocks v) refl
  where
    by : (b : Bool) → is_sized row.most_blocks v ≡ b → is_sized row.most_blocks v ≡ true
    by true e = e
    by false e = let h = rw e at is in absurd (cc)

grown_bounded : (grid : Grid) (row : TenantRow) (n : ℕ) (state : State) (v : VolumeRow) → IsBounded grid row n state → is_sized row.most_blocks v ≡ true → IsBounded grid row n (record state { volumes = state.volumes ++ v ∷ [] })
grown_bounded grid row n state v h sized = record {
  messages = All-weaker (MessageFits grid row n state.volumes) (MessageFits grid row n (state.volumes ++ v ∷ [])) (message_grown grid row n state.volumes v) state.sent h.messages;
  owners = h.owners;
  brought = λ server file. All-weaker (CopyFits n (room state.volumes file.volume)) (CopyFits n (room (state.volumes ++ v ∷ []) file.volume))
      (λ copy fits. wider n (room state.volumes file.volume) (room (state.volumes ++ v ∷ []) file.volume) copy (more_room state.volumes v file.volume) fits) (state.brought server file) (h.brought server file);
  sessions = λ k. record {
    op = (h.sessions k).op;
    floor = (h.sessions k).floor;
    works = λ task is. operation_grown n state.volumes v (operation_with k (state.session k) task) ((h.sessions k).works task is);
  };
  sized = rw (list_all-append (is_sized row.most_blocks) state.volumes (v ∷ []), h.sized, sized) refl;
}

pub open_refused : (number : ℕ) (word : OpenFault) → is_refusal (open_told number (Some word)) ≡ true
open_refused number WrongSize = refl
open_refused number NoVolumeLeft = refl
open_refused number (OverShare free) = refl

pub refused_state : (state : State) (line : Line) (s : Step) → is_refusal s.told ≡ true → state_after_turn state (Own line) s ≡ state
refused_state state line s is = rw is refl

pub open_step : (grid : Grid) (row : TenantRow) (known : Known) (v : VolumeRow) (o : Option OpenFault) → open_fault (account_of row known.state) v ≡ o → line_step grid row known.state (NewVolume v.files v.blocks) ≡ quiet (open_told (length known.state.volumes) o)
open_step grid row known v o is = ap (λ x. quiet (open_told (length known.state.volumes) x)) is

pub open_bounded : (grid : Grid) (row : TenantRow) (n : ℕ) (known : Known) (files blocks : ℕ) → IsBounded grid row n known.state → IsBounded grid row (n + 1) (acted grid row known (NewVolume files blocks)).state
open_bounded grid row n known files blocks h = by (open_fault (account_of row known.state) v) refl
  where
    v : VolumeRow
    v = record { files = files; blocks = blocks }

    by : (o : Option OpenFault) → open_fault (account_of row known.state) v ≡ o → IsBounded grid row (n + 1) (acted grid row known (NewVolume files blocks)).state
    by (Some word) is =
        let same : (acted grid row known (NewVolume files blocks)).state ≡ known.state =
        ap (state_after_turn known.state (Own (NewVolume files blocks))) (open_step grid row known v (Some word) is) ∙ refused_state known.state (NewVolume files blocks) (quiet (open_told (length known.state.volumes) (Some word))) (open_refused (length known.state.volumes) word) in
        subst (IsBounded grid row (n + 1)) (sym same) (bounded_more grid row n known.state h)
    by None is =
        let grown : State = record known.state { volumes = known.state.volumes ++ v ∷ [] } in
        let after : State = state_after_turn known.state (Own (NewVolume files blocks)) (quiet (Opened (length known.state.volumes))) in
        let good : IsBounded grid row (n + 1) grown = bounded_more grid row n grown (grown_bounded grid row n known.state v h (sized_volume 0 row known.state v is)) in
        subst (IsBounded grid row (n + 1)) (sym (ap (state_after_turn known.state (Own (NewVolume files blocks))) (open_step grid row known v None is)))
        (same_bounded grid row (n + 1) grown after good refl (append-nil known.state.sent) (λ server file. refl) (λ k. refl))

-- ---- a retry

again_fits : (grid : Grid) (row : TenantRow) (n : ℕ) (state : State) (k : ℕ) (task : Task) (quorum : Servers) → IsBounded grid row n state → 1 ≤ k → k ≤ row.sessions → (state.session k).current ≡ Some task →
    All (λ l. MessageFits grid row (n + 1) state.volumes l × (l.session ≡ k) × IsOfSession (state.session k) l) (resent grid (operation_with k (state.session k) task) quorum)
again_fits grid row n state k task quorum h low high is =
    let o : Operation = operation_with k (state.session k) task in
    let fits : OperationFits n state.volumes o = (h.sessions k).works task is in
    let set : Servers = λ server. quorum server && not (heard_servers o.heard server) in
    All-weaker (IsOfRound grid (n + 1) state.volumes o o.round) (λ l. MessageFits grid row (n + 1) state.volumes l × (l.session ≡ k) × IsOfSession (state.session k) l)
    (λ l r. (
      round_message grid row (n + 1) state.volumes o o.round l low high r,
      r.session,
      record {
        begun = let e = r.op in omega arith;
        round = λ same. let e = r.round_is in omega arith;
        volume = λ also there same. let t : ◌≡◌ {A = Option Task} (Some task) (Some also) = sym is ∙ there in let u : task ≡ also = cc in r.volume ∙ ap volume_of u;
      },
    )) (resent grid o quorum)
    (sent_to_fits grid (n + 1) state.volumes o set fits.file (fits_more n (room state.volumes (volume_of task)) (stored_copy o.collected) fits.stored))

abbrev pub retrying : ℕ → Told → List OwnMessage → Entry
retrying k told new = record { turn = Own (Retry k); message = None; told = told; new = new }

pub retried_bounded : (grid : Grid) (row : TenantRow) (n : ℕ) (state : State) (k : ℕ) (task : Task) (quorum : Servers) (told : Told) → IsBounded grid row n state → 1 ≤ k → k ≤ row.sessions → (state.session k).current ≡ Some task →
    IsBounded grid row (n + 1) (changed (retrying k told (resent grid (operation_with k (state.session k) task) quorum)) state)
retried_bounded grid row n state k task quorum told h low high is =
    let new : List OwnMessage = resent grid (operation_with k (state.session k) task) quorum in
    acts_in grid row n k state (changed (retrying k told new) state) (state.session k) new h (record {
      volumes = refl;
      sent = refl;
      brought = λ server file. refl;
      own = refl;
      others = λ j other. refl;
      fits = session_more n state.volumes k (state.session k) (h.sessions k);
      keeps = λ l of. of;
      these = again_fits grid row n state k task quorum h low high is;
    })

-- ---- an abandonment

pub abandoned_bounded : (grid : Grid) (row : TenantRow) (n : ℕ) (state : State) (k : ℕ) → IsBounded grid row n state → IsBounded grid row (n + 1) (changed (record { turn = Own (Abandon k); message = None; told = Abandoned; new = [] }) state)
abandoned_bounded grid row n state k h =
    let s : Session = state.session k in
    let after : Session = record { op = s.op; current = None; round = s.round; heard = s.heard; collected = s.collected; floor = s.floor } in
    let new : State = changed (record { turn = Own (Abandon k); message = None; told = Abandoned; new = [] }) state in
    acts_in grid row n k state new after [] h (record {
      volumes = refl;
      sent = refl;
      brought = λ server file. refl;
      own = ends state k;
      others = λ j other. stays state k j other;
      fits = record {
        op = let e = (h.sessions k).op in omega arith;
        floor = let e = (h.sessions k).floor in omega arith;
        works = λ task is. absurd (cc);
      };
      keeps = λ l of. record { begun = of.begun; round = of.round; volume = λ task is. absurd (cc) };
      these = All-nil (λ l. MessageFits grid row (n + 1) state.volumes l × (l.session ≡ k) × IsOfSession after l);
    })
  where
    ends : (state : State) (k : ℕ) → (changed (record { turn = Own (Abandon k); message = None; told = Abandoned; new = [] }) state).session k ≡ record { op = (state.session k).op; current = None; round = (state.session k).round; heard = (state.session k).heard; collected = (state.session k).collected; floor = (state.session k).floor }
    ends state k = rw (eq-eqb k k refl) refl

    stays : (state : State) (k j : ℕ) → k ≢ j → (changed (record { turn = Own (Abandon k); message = None; told = Abandoned; new = [] }) state).session j ≡ state.session j
    stays state k j other = rw (ne_eqb k j other) refl

-- ---- a loss

pub lose_bounded : (grid : Grid) (row : TenantRow) (n : ℕ) (known : Known) (number : ℕ) → IsBounded grid row n known.state → IsBounded grid row (n + 1) (acted grid row known (Lose number)).state
lose_bounded grid row n known number h = by (own_message_at known.state number) refl
  where
    S : State → Type 0
    S = IsBounded grid row (n + 1)

    more : S known.state
    more = bounded_more grid row n known.state h

    after : Option OwnMessage → State
    after o = state_after_turn known.state (Own (Lose number)) (quiet (lose_told o))

    by : (o : Option OwnMessage) → own_message_at known.state number ≡ o → S (acted grid row known (Lose number)).state
    by None is = subst (λ o. S (after o)) (sym is) more
    by (Some message) is = subst (λ o. S (after o)) (sym is) (same_bounded grid row (n + 1) known.state (after (Some message)) more refl (append-nil known.state.sent) (λ server file. refl) (λ k. refl))
