-- What is known of a run stays bounded, one step more: one lemma for each line that acts in one session, and the lines.
use Rattle.std.proofs.Common.{◌≡◌, ◌≢◌, ◌∙◌, ℕ, ◌+◌, ◌<◌, ◌≤◌, false, List, [], ◌++◌, length, refl, sym, ap, subst, Option, Some, None, arith, All, inl, inr}
use Rattle.std.proofs.lemmas.Bool.{cases_eq}
use Rattle.std.proofs.lemmas.List.Elements.{All-nil, All-append, All-weaker}
use Rattle.gq_grid.specs.Grid.{Grid}
use Rattle.gq_tag.specs.declared.StoredCopy.{StoredCopy}
use Rattle.gq_tag.specs.declared.Body.{Body}
use Rattle.gq_tag.specs.declared.Body.TheVariants.{Ask, Copy, Store, Stored}
use Rattle.gq_tag.specs.Tag.{File, OwnMessage, to_server}
use Rattle.gq_desk.specs.declared.plans.TenantRow.{TenantRow}
use Rattle.gq_desk.specs.declared.volumes.VolumeRow.{VolumeRow}
use Rattle.gq_phase.specs.Phase.{Task, Reply, Operation, Heard as Saying, HeardStale, HeardNoted, HeardNext, HeardDone, stored_copy, heard_copies, begun, round_file, round_messages}
use Rattle.gq_model.specs.Trace.{State, Session, changed, serves, own_message_at, operation, operation_with, session_by, heard_deed, files_of}
use Rattle.gq_model.specs.Lone.{heard_step}
use Rattle.gq_world.specs.Bounds.{CopyFits, BodyFits, room, volume_of, TaskFits, OperationFits, SessionFits, MessageFits, IsOfSession, IsBounded}
use Rattle.gq_world.specs.SessionStates.{said_by}
use Rattle.gq_world.proofs.Ready.{all_at, sent_at}
use Rattle.gq_world.proofs.Bounding.{fits_more, IsOfRound, HeardFits, round_fits}
use Rattle.gq_world.proofs.Delivering.{delivery, own_session, other_session, same_brought, session_of, says_stale, RisesTo, rises, saying_fits}

-- ---- one number more

pub body_more : (n size : ℕ) (body : Body) → BodyFits n size body → BodyFits (n + 1) size body
body_more n size Ask h = tt
body_more n size (Copy copy) h = fits_more n size copy h
body_more n size (Store copy) h = fits_more n size copy h
body_more n size Stored h = tt

pub message_more : (grid : Grid) (row : TenantRow) (n : ℕ) (volumes : List VolumeRow) (l : OwnMessage) → MessageFits grid row n volumes l → MessageFits grid row (n + 1) volumes l
message_more grid row n volumes l h = record { server = h.server; first = h.first; last = h.last; file = h.file; body = body_more n (room volumes l.file.volume) l.body h.body }

operation_more : (n : ℕ) (volumes : List VolumeRow) (o : Operation) → OperationFits n volumes o → OperationFits (n + 1) volumes o
operation_more n volumes o h = record {
  op = let k = h.op in omega arith;
  floor = let k = h.floor in omega arith;
  task = h.task;
  file = h.file;
  collects = h.collects;
  stores = h.stores;
  heard = All-weaker (CopyFits n (room volumes (volume_of o.task))) (CopyFits (n + 1) (room volumes (volume_of o.task))) (fits_more n (room volumes (volume_of o.task))) (heard_copies o.heard) h.heard;
  stored = fits_more n (room volumes (volume_of o.task)) (stored_copy o.collected) h.stored;
}

pub session_more : (n : ℕ) (volumes : List VolumeRow) (k : ℕ) (s : Session) → SessionFits n volumes k s → SessionFits (n + 1) volumes k s
session_more n volumes k s h = record {
  op = let e = h.op in omega arith;
  floor = let e = h.floor in omega arith;
  works = λ task is. operation_more n volumes (operation_with k s task) (h.works task is);
}

pub bounded_more : (grid : Grid) (row : TenantRow) (n : ℕ) (state : State) → IsBounded grid row n state → IsBounded grid row (n + 1) state
bounded_more grid row n state h = record {
  messages = All-weaker (MessageFits grid row n state.volumes) (MessageFits grid row (n + 1) state.volumes) (message_more grid row n state.volumes) state.sent h.messages;
  owners = h.owners;
  brought = λ server file. All-weaker (CopyFits n (room state.volumes file.volume)) (CopyFits (n + 1) (room state.volumes file.volume)) (fits_more n (room state.volumes file.volume)) (state.brought server file) (h.brought server file);
  sessions = λ k. session_more n state.volumes k (state.session k) (h.sessions k);
  sized = h.sized;
}

-- ---- what acts in one session alone

-- session k is so afterwards, and these messages of it are sent
pub record ActsIn (grid : Grid) (row : TenantRow) (n k : ℕ) (old new : State) (after : Session) (messages : List OwnMessage) : Type 0 where
  pub volumes : new.volumes ≡ old.volumes
  pub sent : new.sent ≡ old.sent ++ messages
  pub brought : (server : ℕ) (file : File) → new.brought server file ≡ old.brought server file
  pub own : new.session k ≡ after
  pub others : (j : ℕ) → k ≢ j → new.session j ≡ old.session j
  pub fits : SessionFits (n + 1) old.volumes k after
  pub keeps : (l : OwnMessage) → IsOfSession (old.session k) l → IsOfSession after l
  pub these : All (λ l. MessageFits grid row (n + 1) old.volumes l × (l.session ≡ k) × IsOfSession after l) messages

pub acts_in : (grid : Grid) (row : TenantRow) (n k : ℕ) (old new : State) (after : Session) (messages : List OwnMessage) → IsBounded grid row n old → ActsIn grid row n k old new after messages → IsBounded grid row (n + 1) new
acts_in grid row n k old new after messages h a =
    let L : OwnMessage → Type 0 = MessageFits grid row (n + 1) old.volumes in
    let O : OwnMessage → Type 0 = λ l. IsOfSession (new.session l.session) l in
    let T : OwnMessage → Type 0 = λ l. L l × (l.session ≡ k) × IsOfSession after l in
    let all : All L (old.sent ++ messages) =
    All-append L old.sent messages (All-weaker (MessageFits grid row n old.volumes) L (message_more grid row n old.volumes) old.sent h.messages) (All-weaker T L (λ l t. t.0) messages a.these) in
    let olds : All O old.sent = All-weaker (λ l. IsOfSession (old.session l.session) l) O (λ l is. elim (cases_eq k l.session) [
      | inl same ↦ (
          let before : IsOfSession (old.session k) l = subst (λ j. IsOfSession (old.session j) l) (sym same) is in
          let now : IsOfSession (new.session k) l = subst (λ s. IsOfSession s l) (sym a.own) (a.keeps l before) in
          subst (λ j. IsOfSession (new.session j) l) same now)
      | inr other ↦ (subst (λ s. IsOfSession s l) (sym (a.others l.session other)) is)
    ]) old.sent h.owners in
    let news : All O messages = All-weaker T O (λ l t. subst (λ j. IsOfSession (new.session j) l) (sym t.1) (subst (λ s. IsOfSession s l) (sym a.own) t.2)) messages a.these in
    record {
      messages = subst (λ vs. All (MessageFits grid row (n + 1) vs) new.sent) (sym a.volumes) (subst (All L) (sym a.sent) all);
      owners = subst (All O) (sym a.sent) (All-append O old.sent messages olds news);
      brought = λ server file. subst (λ vs. All (CopyFits (n + 1) (room vs file.volume)) (new.brought server file)) (sym a.volumes)
          (subst (All (CopyFits (n + 1) (room old.volumes file.volume))) (sym (a.brought server file))
          (All-weaker (CopyFits n (room old.volumes file.volume)) (CopyFits (n + 1) (room old.volumes file.volume)) (fits_more n (room old.volumes file.volume)) (old.brought server file) (h.brought server file)));
      sessions = λ j. subst (λ vs. SessionFits (n + 1) vs j (new.session j)) (sym a.volumes) (elim (cases_eq k j) [
        | inl same ↦ (subst (λ i. SessionFits (n + 1) old.volumes i (new.session i)) same (subst (SessionFits (n + 1) old.volumes k) (sym a.own) a.fits))
        | inr other ↦ (subst (SessionFits (n + 1) old.volumes j) (sym (a.others j other)) (session_more n old.volumes j (old.session j) (h.sessions j)))
      ]);
      sized = rw (a.volumes) h.sized;
    }

-- a message of a round of the session's operation fits
pub round_message : (grid : Grid) (row : TenantRow) (n : ℕ) (volumes : List VolumeRow) (o : Operation) (round : ℕ) (l : OwnMessage) → 1 ≤ o.session → o.session ≤ row.sessions → IsOfRound grid n volumes o round l → MessageFits grid row n volumes l
round_message grid row n volumes o round l first last h = record {
  server = h.server;
  first = rw h.session first;
  last = rw h.session last;
  file = rw h.volume h.file;
  body = rw h.volume h.body;
}

-- ---- a reply comes to its session

after_fits : (grid : Grid) (n : ℕ) (volumes : List VolumeRow) (k first : ℕ) (message : OwnMessage) (op : ℕ) (current : Option Task) (round : ℕ) (heard : List Reply) (collected : List StoredCopy) (floor : ℕ) (s : Saying) →
    SessionFits n volumes k (session_of op current round heard collected floor) → (current ≡ None → s ≡ HeardStale) →
    ((task : Task) → current ≡ Some task → HeardFits grid n volumes (operation_with k (session_of op current round heard collected floor) task) message s) →
    SessionFits (n + 1) volumes k (session_by volumes k (heard_deed message (heard_step first s).told) (session_of op current round heard collected floor))
after_fits grid n volumes k first message op current round heard collected floor HeardStale h none fits = session_more n volumes k (session_of op current round heard collected floor) h
after_fits grid n volumes k first message op None round heard collected floor HeardNoted h none fits = let e = none refl in absurd (cc)
after_fits grid n volumes k first message op None round heard collected floor (HeardNext r tag messages) h none fits = let e = none refl in absurd (cc)
after_fits grid n volumes k first message op None round heard collected floor (HeardDone outcome) h none fits = let e = none refl in absurd (cc)
after_fits grid n volumes k first message op (Some task) round heard collected floor HeardNoted h none fits =
    let f = fits task refl in
    let A : Session = session_by volumes k (heard_deed message (heard_step first HeardNoted).told) (session_of op (Some task) round heard collected floor) in
    record {
      op = f.op;
      floor = f.floor;
      works = λ also is. let same : task ≡ also = cc in subst (λ q. OperationFits (n + 1) volumes (operation_with k A q)) same f;
    }
after_fits grid n volumes k first message op (Some task) round heard collected floor (HeardNext r tag messages) h none fits =
    let f = (fits task refl).0 in
    let A : Session = session_by volumes k (heard_deed message (heard_step first (HeardNext r tag messages)).told) (session_of op (Some task) round heard collected floor) in
    record {
      op = f.op;
      floor = f.floor;
      works = λ also is. let same : task ≡ also = cc in subst (λ q. OperationFits (n + 1) volumes (operation_with k A q)) same f;
    }
after_fits grid n volumes k first message op (Some task) round heard collected floor (HeardDone outcome) h none fits = record {
  op = let e = h.op in omega arith;
  floor = let e = h.floor in omega arith;
  works = λ also is. absurd (cc);
}

-- the session's messages are of it as before
heard_keeps : (volumes : List VolumeRow) (k first : ℕ) (message : OwnMessage) (s : Saying) (session : Session) → RisesTo s session.round → (l : OwnMessage) → IsOfSession session l → IsOfSession (session_by volumes k (heard_deed message (heard_step first s).told) session) l
heard_keeps volumes k first message HeardStale session rises l is = is
heard_keeps volumes k first message HeardNoted session rises l is = record { begun = is.begun; round = is.round; volume = is.volume }
heard_keeps volumes k first message (HeardNext r tag messages) session rises l is = record { begun = is.begun; round = λ same. let low = is.round same in omega arith; volume = is.volume }
heard_keeps volumes k first message (HeardDone outcome) session rises l is = record { begun = is.begun; round = is.round; volume = λ task e. absurd (cc) }

these_fit : (grid : Grid) (row : TenantRow) (n : ℕ) (volumes : List VolumeRow) (k first : ℕ) (message : OwnMessage) (op : ℕ) (current : Option Task) (round : ℕ) (heard : List Reply) (collected : List StoredCopy) (floor : ℕ) (s : Saying) →
    1 ≤ k → k ≤ row.sessions → (current ≡ None → s ≡ HeardStale) →
    ((task : Task) → current ≡ Some task → HeardFits grid n volumes (operation_with k (session_of op current round heard collected floor) task) message s) →
    All (λ l. MessageFits grid row (n + 1) volumes l × (l.session ≡ k) × IsOfSession (session_by volumes k (heard_deed message (heard_step first s).told) (session_of op current round heard collected floor)) l) (heard_step first s).new
these_fit grid row n volumes k first message op current round heard collected floor HeardStale low high none fits = All-nil _
these_fit grid row n volumes k first message op current round heard collected floor HeardNoted low high none fits = All-nil _
these_fit grid row n volumes k first message op current round heard collected floor (HeardDone outcome) low high none fits = All-nil _
these_fit grid row n volumes k first message op None round heard collected floor (HeardNext r tag messages) low high none fits = let e = none refl in absurd (cc)
these_fit grid row n volumes k first message op (Some task) round heard collected floor (HeardNext r tag messages) low high none fits =
    let o : Operation = operation_with k (session_of op (Some task) round heard collected floor) task in
    All-weaker (IsOfRound grid (n + 1) volumes o r) (λ l. MessageFits grid row (n + 1) volumes l × (l.session ≡ k) × IsOfSession (session_by volumes k (heard_deed message (heard_step first (HeardNext r tag messages)).told) (session_of op (Some task) round heard collected floor)) l)
    (λ l h. (
      round_message grid row (n + 1) volumes o r l low high h,
      h.session,
      record {
        begun = let e = h.op in omega arith;
        round = λ same. let e = h.round_is in omega arith;
        volume = λ also is same. let t : task ≡ also = cc in h.volume ∙ ap volume_of t;
      },
    )) messages (fits task refl).1

-- the law of a delivery to a session
pub heard_bounded : (grid : Grid) (row : TenantRow) (n : ℕ) (state : State) (number : ℕ) (message : OwnMessage) → IsBounded grid row n state → own_message_at state number ≡ Some message → to_server message.body ≡ false →
    IsBounded grid row (n + 1) (changed (delivery number message (length state.sent) (said_by grid state.up (operation state message.session) message)) state)
heard_bounded grid row n state number message h there goes =
    let k : ℕ = message.session in
    let session : Session = state.session k in
    let first : ℕ = length state.sent in
    let s : Saying = said_by grid state.up (operation state k) message in
    let fits : MessageFits grid row n state.volumes message = all_at (MessageFits grid row n state.volumes) state.sent number message h.messages (sent_at state number message there) in
    let none : session.current ≡ None → s ≡ HeardStale = says_stale grid state.up k session message s refl in
    let says : (task : Task) → session.current ≡ Some task → HeardFits grid n state.volumes (operation_with k session task) message s = saying_fits grid row n state number message h there in
    acts_in grid row n k state (changed (delivery number message first s) state) (session_by state.volumes k (heard_deed message (heard_step first s).told) session) (heard_step first s).new h (record {
      volumes = refl;
      sent = refl;
      brought = λ server file. same_brought (serves state.up state.lacks) message.session message.op message.round message.server message.file message.body state.brought server file goes;
      own = own_session state number first message s goes;
      others = λ j other. other_session state number first j message s goes other;
      fits = after_fits grid n state.volumes k first message session.op session.current session.round session.heard session.collected session.floor s (h.sessions k) none says;
      keeps = heard_keeps state.volumes k first message s session (rises grid n state.volumes k message session s none says);
      these = these_fit grid row n state.volumes k first message session.op session.current session.round session.heard session.collected session.floor s fits.first fits.last none says;
    })

-- ---- an operation begins

begun_fits : (n : ℕ) (volumes : List VolumeRow) (k : ℕ) (s : Session) (task : Task) → SessionFits n volumes k s → TaskFits volumes task → (round_file task 1).place < files_of volumes (volume_of task) →
    OperationFits (n + 1) volumes (begun k (s.op + 1) task s.floor)
begun_fits n volumes k s task h fits file = record {
  op = let e = h.op in omega arith;
  floor = let e = h.floor in omega arith;
  task = fits;
  file = file;
  collects = λ odd. refl;
  stores = λ even. absurd (cc);
  heard = All-nil (CopyFits (n + 1) (room volumes (volume_of task)));
  stored = record { number = omega arith; long = omega arith };
}

-- the law of a request that is accepted: whatever else the new state is, session k has begun the task
pub begun_bounded : (grid : Grid) (row : TenantRow) (n k : ℕ) (old new : State) (task : Task) → IsBounded grid row n old → 1 ≤ k → k ≤ row.sessions → TaskFits old.volumes task → (round_file task 1).place < files_of old.volumes (volume_of task) →
    new.volumes ≡ old.volumes → new.sent ≡ old.sent ++ round_messages grid old.up (begun k ((old.session k).op + 1) task (old.session k).floor) →
    ((server : ℕ) (file : File) → new.brought server file ≡ old.brought server file) →
    new.session k ≡ record { op = (old.session k).op + 1; current = Some task; round = 1; heard = []; collected = []; floor = (old.session k).floor } → ((j : ℕ) → k ≢ j → new.session j ≡ old.session j) →
    IsBounded grid row (n + 1) new
begun_bounded grid row n k old new task h low high task_fits file volumes sent brought own others =
    let s : Session = old.session k in
    let o : Operation = begun k (s.op + 1) task s.floor in
    let after : Session = record { op = s.op + 1; current = Some task; round = 1; heard = []; collected = []; floor = s.floor } in
    let fits : OperationFits (n + 1) old.volumes o = begun_fits n old.volumes k s task (h.sessions k) task_fits file in
    let messages : List OwnMessage = round_messages grid old.up o in
    acts_in grid row n k old new after messages h (record {
      volumes = volumes;
      sent = sent;
      brought = brought;
      own = own;
      others = others;
      fits = record {
        op = fits.op;
        floor = fits.floor;
        works = λ also is. let same : task ≡ also = cc in subst (λ q. OperationFits (n + 1) old.volumes (operation_with k after q)) same fits;
      };
      keeps = λ l is. record {
        begun = let e = is.begun in omega arith;
        round = λ same. let low' = is.begun in absurd (omega arith);
        volume = λ also e same. let low' = is.begun in absurd (omega arith);
      };
      these = All-weaker (IsOfRound grid (n + 1) old.volumes o 1) (λ l. MessageFits grid row (n + 1) old.volumes l × (l.session ≡ k) × IsOfSession after l)
          (λ l r. (
            round_message grid row (n + 1) old.volumes o 1 l low high r,
            r.session,
            record {
              begun = let e = r.op in omega arith;
              round = λ same. let e = r.round_is in omega arith;
              volume = λ also is same. let t : task ≡ also = cc in r.volume ∙ ap volume_of t;
            },
          )) messages (round_fits grid old.up (n + 1) old.volumes o fits.file fits.stored);
    })
