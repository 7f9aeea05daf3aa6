-- What is known of a run stays bounded after a delivery, whatever is answered; it is so at the start.
use Rattle.std.proofs.Common.{◌≡◌, ℕ, ◌+◌, ◌*◌, ◌<◌, ◌≤◌, Bool, true, false, ◌&&◌, List, [], ◌∷◌, ◌++◌, length, refl, sym, subst, Option, Some, None, arith, All, inl, inr, append-nil}
use Rattle.std.specs.Prelude.{slice_get, nat_lt, is_none, unwrap_or, ◌==◌, if◌then◌else◌}
use Rattle.std.specs.Option.{option_and_then}
use Rattle.std.proofs.lemmas.Bool.{cases_Bool, and_parts, eqb-true}
use Rattle.std.proofs.lemmas.Bool.Decides.{nat_tests}
use Rattle.std.proofs.lemmas.List.Elements.{All-nil, All-cons, All-append, All-weaker}
use Rattle.gq_tag.specs.declared.TheConstants.{BLOCK_BYTES}
use Rattle.gq_grid.specs.Grid.{Grid}
use Rattle.gq_tag.specs.declared.StoredCopy.{StoredCopy}
use Rattle.gq_tag.specs.declared.Body.{Body}
use Rattle.gq_tag.specs.declared.Body.TheVariants.{Ask, Copy, Store, Stored}
use Rattle.gq_tag.specs.Tag.{File, is_file, OwnMessage, to_server, greatest, first_copy, answer_body}
use Rattle.gq_desk.specs.declared.plans.TenantRow.{TenantRow}
use Rattle.gq_desk.specs.declared.volumes.VolumeRow.{VolumeRow}
use Rattle.gq_desk.specs.Volumes.{limit_in}
use Rattle.gq_model.specs.declared.events.Line.TheVariants.{Deliver}
use Rattle.gq_model.specs.Told.{IsDown}
use Rattle.gq_model.specs.Trace.{Own, State, Known, changed, own_message_at, held, serves, stored_by, files_of, questions}
use Rattle.gq_model.specs.Lone.{reply_to}
use Rattle.gq_world.specs.Bounds.{CopyFits, BodyFits, room, SessionFits, MessageFits, IsOfSession, IsBounded}
use Rattle.gq_world.specs.Machine.{acted}
use Rattle.gq_world.proofs.Ready.{all_at, sent_at}
use Rattle.gq_world.proofs.Bounding.{greatest_fits, first_fits}
use Rattle.gq_world.proofs.Keeping.{bounded_more, heard_bounded}
use Rattle.gq_world.proofs.Delivering.{heard_known}
use Rattle.gq_world.proofs.Serving.{serving, served_known, down_known, no_deed}

-- ---- a step that leaves all questions but the messages' loss as they were

-- the same volumes and messages, copies that fit, and sessions that do and have their messages still
pub kept_bounded : (grid : Grid) (row : TenantRow) (n : ℕ) (old new : State) → IsBounded grid row n old → new.volumes ≡ old.volumes → new.sent ≡ old.sent → ((server : ℕ) (file : File) → All (CopyFits n (room old.volumes file.volume)) (new.brought server file)) →
    ((k : ℕ) → SessionFits n old.volumes k (new.session k)) → ((k : ℕ) (l : OwnMessage) → IsOfSession (old.session k) l → IsOfSession (new.session k) l) → IsBounded grid row n new
kept_bounded grid row n old new h volumes sent brought sessions keeps = record {
  messages = subst (λ vs. All (MessageFits grid row n vs) new.sent) (sym volumes) (subst (All (MessageFits grid row n old.volumes)) (sym sent) h.messages);
  owners = subst (All (λ l. IsOfSession (new.session l.session) l)) (sym sent) (All-weaker (λ l. IsOfSession (old.session l.session) l) (λ l. IsOfSession (new.session l.session) l) (λ l is. keeps l.session l is) old.sent h.owners);
  brought = λ server file. subst (λ vs. All (CopyFits n (room vs file.volume)) (new.brought server file)) (sym volumes) (brought server file);
  sessions = λ k. subst (λ vs. SessionFits n vs k (new.session k)) (sym volumes) (sessions k);
  sized = rw volumes h.sized;
}

-- the same answers to what a bound asks
pub same_bounded : (grid : Grid) (row : TenantRow) (n : ℕ) (old new : State) → IsBounded grid row n old → new.volumes ≡ old.volumes → new.sent ≡ old.sent → ((server : ℕ) (file : File) → new.brought server file ≡ old.brought server file) →
    ((k : ℕ) → new.session k ≡ old.session k) → IsBounded grid row n new
same_bounded grid row n old new h volumes sent brought session = kept_bounded grid row n old new h volumes sent
    (λ server file. subst (All (CopyFits n (room old.volumes file.volume))) (sym (brought server file)) (h.brought server file))
    (λ k. subst (SessionFits n old.volumes k) (sym (session k)) (h.sessions k))
    (λ k l is. subst (λ s. IsOfSession s l) (sym (session k)) is)

-- ---- a delivery to a server

body_answer : (n size : ℕ) (copy : StoredCopy) (body : Body) → CopyFits n size copy → BodyFits n size (answer_body copy body)
body_answer n size copy Ask fits = fits
body_answer n size copy (Copy other) fits = fits
body_answer n size copy (Store other) fits = tt
body_answer n size copy Stored fits = fits

pub held_fits : (n size : ℕ) (copies : List StoredCopy) → All (CopyFits n size) copies → CopyFits n size (greatest (first_copy ∷ copies))
held_fits n size copies all = greatest_fits n size (first_copy ∷ copies) (All-cons (CopyFits n size) first_copy copies (first_fits n size) all)

brought_fits : (n : ℕ) (volumes : List VolumeRow) (takes : ℕ → File → Bool) (session op round server : ℕ) (file : File) (body : Body) (before : ℕ → File → List StoredCopy) (s : ℕ) (f : File) →
    BodyFits n (room volumes file.volume) body → All (CopyFits n (room volumes f.volume)) (before s f) → (is_file file f ≡ true → file.volume ≡ f.volume) →
    All (CopyFits n (room volumes f.volume)) (stored_by takes (Some (record { session = session; op = op; round = round; server = server; file = file; body = body })) before s f)
brought_fits n volumes takes session op round server file Ask before s f fits all same = all
brought_fits n volumes takes session op round server file (Copy copy) before s f fits all same = all
brought_fits n volumes takes session op round server file Stored before s f fits all same = all
brought_fits n volumes takes session op round server file (Store copy) before s f fits all same = by (server == s) (is_file file f) refl (takes s f)
  where
    F : StoredCopy → Type 0
    F = CopyFits n (room volumes f.volume)

    by : (a b : Bool) → is_file file f ≡ b → (c : Bool) → All (CopyFits n (room volumes f.volume)) (if a && b && c then before s f ++ copy ∷ [] else before s f)
    by false b is c = all
    by true false is c = all
    by true true is false = all
    by true true is true = All-append F (before s f) (copy ∷ []) all (All-cons F copy [] (subst (λ v. CopyFits n (room volumes v) copy) (same is) fits) (All-nil F))

file_volume : (a b : File) → is_file a b ≡ true → a.volume ≡ b.volume
file_volume a b is = let parts = and_parts (a.volume == b.volume) (a.place == b.place) is in eqb-true a.volume b.volume parts.0

served_bounded : (grid : Grid) (row : TenantRow) (n : ℕ) (state : State) (number : ℕ) (message : OwnMessage) → IsBounded grid row n state → own_message_at state number ≡ Some message → to_server message.body ≡ true →
    IsBounded grid row n (changed (serving number message (length state.sent) (held state message.server message.file)) state)
served_bounded grid row n state number message h there goes =
    let sent = sent_at state number message there in
    let fits : MessageFits grid row n state.volumes message = all_at (MessageFits grid row n state.volumes) state.sent number message h.messages sent in
    let owner : IsOfSession (state.session message.session) message = all_at (λ l. IsOfSession (state.session l.session) l) state.sent number message h.owners sent in
    let copy : StoredCopy = held state message.server message.file in
    let size : ℕ = room state.volumes message.file.volume in
    let answer : OwnMessage = reply_to copy message in
    let new : State = changed (serving number message (length state.sent) copy) state in
    let good : CopyFits n size copy = held_fits n size (state.brought message.server message.file) (h.brought message.server message.file) in
    let O : OwnMessage → Type 0 = λ l. IsOfSession (new.session l.session) l in
    record {
      messages = All-append (MessageFits grid row n state.volumes) state.sent (answer ∷ []) h.messages (All-cons (MessageFits grid row n state.volumes) answer [] (record {
        server = fits.server;
        first = fits.first;
        last = fits.last;
        file = fits.file;
        body = body_answer n size copy message.body good;
      }) (All-nil (MessageFits grid row n state.volumes)));
      owners = All-append O state.sent (answer ∷ [])
          (All-weaker (λ l. IsOfSession (state.session l.session) l) O (λ l is. subst (λ s. IsOfSession s l) (sym (no_deed state number (length state.sent) l.session message copy goes)) is) state.sent h.owners)
          (All-cons O answer [] (subst (λ s. IsOfSession s answer) (sym (no_deed state number (length state.sent) message.session message copy goes)) (record { begun = owner.begun; round = owner.round; volume = owner.volume })) (All-nil O));
      brought = λ server file. brought_fits n state.volumes (serves state.up state.lacks) message.session message.op message.round message.server message.file message.body state.brought server file fits.body (h.brought server file) (file_volume message.file file);
      sessions = λ k. subst (SessionFits n state.volumes k) (sym (no_deed state number (length state.sent) k message copy goes)) (h.sessions k);
      sized = h.sized;
    }

down_bounded : (grid : Grid) (row : TenantRow) (n : ℕ) (state : State) (number : ℕ) (message : OwnMessage) → IsBounded grid row n state → own_message_at state number ≡ Some message → to_server message.body ≡ true →
    IsBounded grid row n (changed (record { turn = Own (Deliver number); message = Some message; told = IsDown; new = [] }) state)
down_bounded grid row n state number message h there goes =
    let fits : MessageFits grid row n state.volumes message = all_at (MessageFits grid row n state.volumes) state.sent number message h.messages (sent_at state number message there) in
    let new : State = changed (record { turn = Own (Deliver number); message = Some message; told = IsDown; new = [] }) state in
    let same : (k : ℕ) → new.session k ≡ state.session k = λ k. quiet_deed state number k message goes in
    record {
      messages = subst (All (MessageFits grid row n state.volumes)) (sym (append-nil state.sent)) h.messages;
      owners = subst (All (λ l. IsOfSession (new.session l.session) l)) (sym (append-nil state.sent)) (All-weaker (λ l. IsOfSession (state.session l.session) l) (λ l. IsOfSession (new.session l.session) l) (λ l is. subst (λ s. IsOfSession s l) (sym (same l.session)) is) state.sent h.owners);
      brought = λ server file. brought_fits n state.volumes (serves state.up state.lacks) message.session message.op message.round message.server message.file message.body state.brought server file fits.body (h.brought server file) (file_volume message.file file);
      sessions = λ k. subst (SessionFits n state.volumes k) (sym (same k)) (h.sessions k);
      sized = h.sized;
    }
  where
    quiet_deed : (state : State) (number k : ℕ) (message : OwnMessage) → to_server message.body ≡ true → (changed (record { turn = Own (Deliver number); message = Some message; told = IsDown; new = [] }) state).session k ≡ state.session k
    quiet_deed state number k message goes = rw goes refl

-- ---- a delivery

nothing_known : (grid : Grid) (row : TenantRow) (known : Known) (number : ℕ) → own_message_at known.state number ≡ None → acted grid row known (Deliver number) ≡ known
nothing_known grid row known number none = rw none refl

pub deliver_bounded : (grid : Grid) (row : TenantRow) (n : ℕ) (known : Known) (number : ℕ) → IsBounded grid row n known.state → IsBounded grid row (n + 1) (acted grid row known (Deliver number)).state
deliver_bounded grid row n known number h = by (own_message_at known.state number) refl
  where
    S : Known → Type 0
    S k = IsBounded grid row (n + 1) k.state

    to : (message : OwnMessage) → own_message_at known.state number ≡ Some message → S (acted grid row known (Deliver number))
    to message there = elim (cases_Bool (to_server message.body)) [
      | inr goes ↦ (subst S (sym (heard_known grid row known number message _ there goes refl)) (heard_bounded grid row n known.state number message h there goes))
      | inl goes ↦ (elim (cases_Bool (serves known.state.up known.state.lacks message.server message.file)) [
        | inl up ↦ (subst S (sym (served_known grid row known number message there goes up)) (bounded_more grid row n (changed (serving number message (length known.state.sent) (held known.state message.server message.file)) known.state) (served_bounded grid row n known.state number message h there goes)))
        | inr down ↦ (subst S (sym (down_known grid row known number message there goes down)) (bounded_more grid row n (changed (record { turn = Own (Deliver number); message = Some message; told = IsDown; new = [] }) known.state) (down_bounded grid row n known.state number message h there goes)))
      ])
    ]

    by : (o : Option OwnMessage) → own_message_at known.state number ≡ o → S (acted grid row known (Deliver number))
    by None none = subst S (sym (nothing_known grid row known number none)) (bounded_more grid row n known.state h)
    by (Some message) there = to message there

-- ---- the file of a request

-- the file is there, and has room
pub file_there : (volumes : List VolumeRow) (v f : ℕ) → is_none (option_and_then (limit_in f) (slice_get volumes v)) ≡ false → f < files_of volumes v
file_there volumes v f is = by (slice_get volumes v) refl
  where
    by : (o : Option VolumeRow) → slice_get volumes v ≡ o → f < files_of volumes v
    by None e = let h = rw e at is in absurd (cc)
    by (Some volume) e = rw e (elim (cases_Bool (nat_lt f volume.files)) [
      | inl low ↦ (grind (arith, nat_tests))
      | inr high ↦ (let h = rw (e, high) at is in absurd (cc))
    ])

pub has_room : (volumes : List VolumeRow) (v f size : ℕ) → f < files_of volumes v → nat_lt (unwrap_or (option_and_then (limit_in f) (slice_get volumes v)) 0) size ≡ false → size ≤ room volumes v
has_room volumes v f size there is = by (slice_get volumes v) refl
  where
    by : (o : Option VolumeRow) → slice_get volumes v ≡ o → size ≤ room volumes v
    by None e = let h : f < 0 = rw e at there in absurd (omega arith)
    by (Some volume) e =
        let low : f < volume.files = rw e at there in
        let b : nat_lt f volume.files ≡ true = grind (arith, nat_tests) in
        let h : nat_lt (BLOCK_BYTES * volume.blocks) size ≡ false = rw (e, b) at is in
        rw e (grind (arith, nat_tests))

-- ---- the start

pub start_bounded : (grid : Grid) (row : TenantRow) → IsBounded grid row 0 (questions [])
start_bounded grid row = record {
  messages = All-nil (MessageFits grid row 0 []);
  owners = All-nil (λ l. IsOfSession ((questions []).session l.session) l);
  brought = λ server file. All-nil (CopyFits 0 (room [] file.volume));
  sessions = λ k. record { op = omega arith; floor = omega arith; works = λ task is. absurd (cc) };
  sized = refl;
}
