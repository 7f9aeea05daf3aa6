-- An act of a node is a line of the model's run, behind server lines that bring up those of the act's aim.
use Rattle.std.proofs.Common.{◌≡◌, ◌≢◌, ◌⊎◌, ℕ, ◌+◌, ◌*◌, ◌<◌, Bool, true, false, List, [], ◌∷◌, ◌++◌, length, refl, sym, ap, ◌∙◌, subst, inl, inr, Option, Some, None, arith, min, append-nil}
use Rattle.std.specs.Prelude.{Contains, nat_le, slice_get, filter_map, fold, not, ◌&&◌, if◌then◌else◌}
use Rattle.std.proofs.lemmas.Bool.{cases_eq, cases_lt, ne_eqb, lt-leb, true≢false}
use Rattle.std.proofs.lemmas.List.Elements.{filter_map-append}
use Rattle.std.proofs.lemmas.List.Sums.{fold-append}
use Rattle.gq_grid.specs.Grid.{Grid, Servers, below}
use Rattle.gq_tag.specs.declared.StoredCopy.{StoredCopy}
use Rattle.gq_tag.specs.declared.Body.{Body}
use Rattle.gq_tag.specs.declared.Body.TheVariants.{Ask, Copy, Store, Stored}
use Rattle.gq_tag.specs.Tag.{File, OwnMessage, to_server}
use Rattle.gq_desk.specs.declared.plans.TenantRow.{TenantRow}
use Rattle.gq_desk.specs.declared.volumes.VolumeRow.{VolumeRow}
use Rattle.gq_phase.proofs.Meeting.{quorums_in_grid}
use Rattle.gq_model.specs.declared.events.Line.{Line}
use Rattle.gq_model.specs.declared.events.Line.TheVariants.{Write, Read, List as ListFiles, Deliver, Retry, Abandon}
use Rattle.gq_model.specs.Told.{Told}
use Rattle.gq_model.specs.Said.{said_in}
use Rattle.gq_model.specs.Trace.{Turn, Own, Entry, State, Past, Elsewhere, questions, up, volumes, volumes_by, sent, is_lost, lost_by, lacks, serves, brought, offered, stored_by, session, session_by, deed}
use Rattle.gq_model.specs.Lone.{Step, after, step_at, line_step, asked_step, deliver_step, is_refusal, message_of_turn, trace_after}
use Rattle.gq_laws.proofs.Found.{position_of}
use Rattle.gq_cluster.specs.Cluster.{Setting, Cluster, Act, Asks, Comes, session_named, IsOfSession, CanAct, everyone, aim_of, node_of, step_in, act_entry, parts_after, with_held, after_act, arrival_of, exchange_of}
use Rattle.gq_cluster.specs.Laws.{arrival_by, turn_exchanges, exchanges_from, disk_turn}
use Rattle.gq_cluster.proofs.ServerLines.{NoneGone, as_aimed, SetsAll, all_set}
use Rattle.gq_cluster.proofs.Numbers.{numbered, numbered_step, refusal_is, said_is, delivered_deed_is}
use Rattle.gq_cluster.proofs.Alike.{asked_alike, heard_alike, served_alike}
use Rattle.gq_cluster.proofs.Parts.{state_at, act_deed, part_then, parts_then, parts_lack, parts_here, parts_away, refused_part, accepted_part, refused_quiet}
use Rattle.gq_cluster.proofs.Standing.{Stands, stands_on, lines_of_disks, holds_as, offers_on, exchanges_behind}

-- whether the server serves the file, at this past; and as the act's node has it
abbrev serving : Past → ℕ → File → Bool
serving q = serves (up q.trace) (lacks q.trace)

abbrev serving_at : Setting → Cluster → Act → ℕ → File → Bool
serving_at s c act = serves (state_at s c act).up (state_at s c act).lacks

-- ---- a line that plays an act

-- the entry that the line leaves where it is accepted
abbrev played : Past → Line → Option OwnMessage → Step → Entry
played q line letter step = record { turn = Own line; message = letter; told = numbered (length (sent q.trace)) step.told; new = step.new }

-- after this past the line says and sends what the act does, and changes what it changes
pub record Plays (s : Setting) (q : Past) (c : Cluster) (act : Act) : Type 0 where
  line : Line
  letter : Option OwnMessage
  step : line_step s.grid s.row (questions q.trace) line ≡ numbered_step (length (sent q.trace)) (step_in s c act)
  brings : message_of_turn (questions q.trace) (Own line) ≡ letter
  came : arrival_by line letter ≡ arrival_of act
  opens : (vs : List VolumeRow) → volumes_by (Own line) vs ≡ vs
  loses : (before : ℕ → Bool) (n : ℕ) → lost_by (Own line) before n ≡ before n
  copies : (n : ℕ) (file : File) → stored_by (serving q) letter (brought q.trace) n file ≡ (parts_then s c act n).brought file
  sessions : (k : ℕ) → session_by (volumes q.trace) k (deed k (played q line letter (step_in s c act))) (session q.trace k) ≡ (parts_then s c act (s.home k)).session k

-- the line does what the act does, and the past after it stands for the cluster after the act
pub record IsPlayed (s : Setting) (q : Past) (c : Cluster) (act : Act) : Type 0 where
  pub line : Line
  pub did : turn_exchanges (questions q.trace) (Own line) (step_at s.grid s.row q (Own line)) ≡ exchange_of act (step_in s c act) ∷ []
  pub stands : Stands s (after s.grid s.row q (Own line)) (after_act s c act)

plays : (s : Setting) (q : Past) (c : Cluster) (act : Act) → Stands s q c → q.lines < s.row.steps → Plays s q c act → IsPlayed s q c act
plays s q c act stands steps p = record { line = p.line; did = did; stands = on (is_refusal mine.told) refl }
  where
    n : ℕ
    n = length (sent q.trace)

    mine : Step
    mine = step_in s c act

    same : step_at s.grid s.row q (Own p.line) ≡ numbered_step n mine
    same = let unspent : nat_le s.row.steps (min s.row.steps q.lines) ≡ false = lt-leb s.row.steps (min s.row.steps q.lines) (omega arith) in rw unspent p.step

    did : turn_exchanges (questions q.trace) (Own p.line) (step_at s.grid s.row q (Own p.line)) ≡ exchange_of act mine ∷ []
    did =
        let came : arrival_by p.line (message_of_turn (questions q.trace) (Own p.line)) ≡ arrival_of act = ap (arrival_by p.line) p.brings ∙ p.came in
        let said : said_in (step_at s.grid s.row q (Own p.line)).told ≡ said_in mine.told = ap (λ z. said_in z.told) same ∙ said_is n mine.told in
        λ i. record { came = came i; said = said i; new = (same i).new } ∷ []

    then_is : after s.grid s.row q (Own p.line) ≡ record { lines = q.lines + 1; trace = trace_after q.trace (Own p.line) (numbered_step n mine) }
    then_is = λ i. record { lines = q.lines + 1; trace = trace_after q.trace (Own p.line) (same i) }

    refused_is : is_refusal (numbered n mine.told) ≡ is_refusal mine.told
    refused_is = refusal_is n mine.told

    P : Past → Type 0
    P z = Stands s z (after_act s c act)

    more : Past
    more = record { lines = q.lines + 1; trace = played q p.line p.letter mine ∷ q.trace }

    -- what a server could be given behind the act, by whether that is refused
    Offers : ℕ → File → ℕ → StoredCopy → Bool → Type 0
    Offers server file peer copy b = Contains ((if b then c.offered else with_held (parts_after s c act) c.offered) server file peer) copy

    lacking : is_refusal mine.told ≡ false → (m : ℕ) (file : File) → lacks more.trace m file ≡ (parts_after s c act m).lacks file
    lacking e m file = stands.lacking m file ∙ sym (parts_lack s c act m file) ∙ ap (λ z. z.lacks file) (sym (accepted_part s c act e m))

    copies : is_refusal mine.told ≡ false → (m : ℕ) (file : File) → brought more.trace m file ≡ (parts_after s c act m).brought file
    copies e m file = p.copies m file ∙ ap (λ z. z.brought file) (sym (accepted_part s c act e m))

    on : (b : Bool) → is_refusal mine.told ≡ b → Stands s (after s.grid s.row q (Own p.line)) (after_act s c act)
    on true e =
        let told : is_refusal (numbered n mine.told) ≡ true = refused_is ∙ e in
        let now : record { lines = q.lines + 1; trace = trace_after q.trace (Own p.line) (numbered_step n mine) } ≡ record { lines = q.lines + 1; trace = q.trace } = rw told refl in
        let none : mine.new ≡ [] = refused_quiet s.grid s.row (state_at s c act) act e in
        subst P (sym (then_is ∙ now)) (record {
          opened = stands.opened;
          written = stands.written ∙ sym (append-nil c.written) ∙ ap (λ z. c.written ++ z) (sym none);
          kept = stands.kept;
          beyond = stands.beyond;
          none_gone = stands.none_gone;
          lacking = λ m file. stands.lacking m file ∙ ap (λ z. z.lacks file) (sym (refused_part s c act e m));
          copies = λ m file. stands.copies m file ∙ ap (λ z. z.brought file) (sym (refused_part s c act e m));
          sessions = λ k. stands.sessions k ∙ ap (λ z. z.session k) (sym (refused_part s c act e (s.home k)));
          offers = λ server file peer copy within. stands.offers server file peer copy (subst (Offers server file peer copy) e within);
        })
    on false e =
        let told : is_refusal (numbered n mine.told) ≡ false = refused_is ∙ e in
        let now : record { lines = q.lines + 1; trace = trace_after q.trace (Own p.line) (numbered_step n mine) } ≡ more = rw (told, p.brings) refl in
        subst P (sym (then_is ∙ now)) (record {
          opened = p.opens (volumes q.trace) ∙ stands.opened;
          written = ap (λ z. z ++ mine.new) stands.written;
          kept = λ m. p.loses (is_lost q.trace) m ∙ stands.kept m;
          beyond = stands.beyond;
          none_gone = stands.none_gone;
          lacking = lacking e;
          copies = copies e;
          sessions = λ k. p.sessions k ∙ ap (λ z. z.session k) (sym (accepted_part s c act e (s.home k)));
          offers = λ server file peer copy within. offers_on (c.offered server file peer) (offered q.trace server file peer) _ _ copy (stands.offers server file peer copy) (holds_as more.trace (parts_after s c act) (lacking e) (copies e) file peer) (subst (Offers server file peer copy) e within);
        })

-- ---- what goes on alike

-- a session goes on at its home alike, and elsewhere does nothing
sessions_go : (s : Setting) (q : Past) (c : Cluster) (act : Act) → Stands s q c → (e : Entry) → ((k : ℕ) → deed k e ≡ deed k (act_entry act (step_in s c act))) → ((k : ℕ) → s.home k ≢ node_of s.home act → deed k e ≡ Elsewhere) →
    (k : ℕ) → session_by (volumes q.trace) k (deed k e) (session q.trace k) ≡ (parts_then s c act (s.home k)).session k
sessions_go s q c act stands e deeds elsewhere k = by (cases_eq (s.home k) (node_of s.home act))
  where
    by : (s.home k ≡ node_of s.home act) ⊎ (s.home k ≢ node_of s.home act) → session_by (volumes q.trace) k (deed k e) (session q.trace k) ≡ (parts_then s c act (s.home k)).session k
    by (inl same) =
        let its : session q.trace k ≡ (c.part (node_of s.home act)).session k = stands.sessions k ∙ ap (λ z. (c.part z).session k) same in
        (λ i. session_by (stands.opened i) k (deeds k i) (its i))
        ∙ ap (λ d. session_by s.volumes k d ((c.part (node_of s.home act)).session k)) (sym (act_deed [] k ((c.part (node_of s.home act)).session k) act (step_in s c act)))
        ∙ ap (λ z. z.session k) (sym (parts_here s c act (s.home k) same))
    by (inr ne) =
        (λ i. session_by (volumes q.trace) k (elsewhere k ne i) (session q.trace k)) ∙ stands.sessions k ∙ ap (λ z. z.session k) (sym (parts_away s c act (s.home k) ne))

-- a server's copies go on alike at its node, and elsewhere stay
copies_go : (s : Setting) (q : Past) (c : Cluster) (act : Act) (letter : Option OwnMessage) → Stands s q c →
    ((n : ℕ) (file : File) → n ≡ node_of s.home act → brought q.trace n file ≡ (c.part (node_of s.home act)).brought file → stored_by (serving q) letter (brought q.trace) n file ≡ (part_then s c act n).brought file) →
    ((n : ℕ) (file : File) → n ≢ node_of s.home act → stored_by (serving q) letter (brought q.trace) n file ≡ brought q.trace n file) →
    (n : ℕ) (file : File) → stored_by (serving q) letter (brought q.trace) n file ≡ (parts_then s c act n).brought file
copies_go s q c act letter stands here away n file = by (cases_eq n (node_of s.home act))
  where
    by : (n ≡ node_of s.home act) ⊎ (n ≢ node_of s.home act) → stored_by (serving q) letter (brought q.trace) n file ≡ (parts_then s c act n).brought file
    by (inl same) =
        let its : brought q.trace n file ≡ (c.part (node_of s.home act)).brought file = stands.copies n file ∙ ap (λ z. (c.part z).brought file) same in
        here n file same its ∙ ap (λ z. z.brought file) (sym (parts_here s c act n same))
    by (inr ne) = away n file ne ∙ stands.copies n file ∙ ap (λ z. z.brought file) (sym (parts_away s c act n ne))

-- ---- a line of a session

asks_deed : (k : ℕ) (line : Line) (a b : Told) (new : List OwnMessage) → IsOfSession line →
    deed k (record { turn = Own line; message = None; told = a; new = new }) ≡ deed k (record { turn = Own line; message = None; told = b; new = new })
asks_deed k (Write s v f bytes) a b new its = refl
asks_deed k (Read s v f) a b new its = refl
asks_deed k (ListFiles s v) a b new its = refl
asks_deed k (Retry s) a b new its = refl
asks_deed k (Abandon s) a b new its = refl
asks_deed k other a b new its = absurd its

asks_elsewhere : (k : ℕ) (line : Line) (told : Told) (new : List OwnMessage) → IsOfSession line → session_named line ≢ k → deed k (record { turn = Own line; message = None; told = told; new = new }) ≡ Elsewhere
asks_elsewhere k (Write s v f bytes) told new its ne = rw (ne_eqb s k ne) refl
asks_elsewhere k (Read s v f) told new its ne = rw (ne_eqb s k ne) refl
asks_elsewhere k (ListFiles s v) told new its ne = rw (ne_eqb s k ne) refl
asks_elsewhere k (Retry s) told new its ne = refl
asks_elsewhere k (Abandon s) told new its ne = rw (ne_eqb s k ne) refl
asks_elsewhere k other told new its ne = absurd its

-- a line of a session is judged as such, brings no message, opens no volume and loses nothing
own_line : (grid : Grid) (row : TenantRow) (state : State) (line : Line) → IsOfSession line → line_step grid row state line ≡ asked_step grid row state line
own_line grid row state (Write k v f bytes) its = refl
own_line grid row state (Read k v f) its = refl
own_line grid row state (ListFiles k v) its = refl
own_line grid row state (Retry k) its = refl
own_line grid row state (Abandon k) its = refl
own_line grid row state other its = absurd its

brings_none : (state : State) (line : Line) → IsOfSession line → message_of_turn state (Own line) ≡ None
brings_none state (Write k v f bytes) its = refl
brings_none state (Read k v f) its = refl
brings_none state (ListFiles k v) its = refl
brings_none state (Retry k) its = refl
brings_none state (Abandon k) its = refl
brings_none state other its = absurd its

opens_none : (line : Line) → IsOfSession line → (vs : List VolumeRow) → volumes_by (Own line) vs ≡ vs
opens_none (Write k v f bytes) its vs = refl
opens_none (Read k v f) its vs = refl
opens_none (ListFiles k v) its vs = refl
opens_none (Retry k) its vs = refl
opens_none (Abandon k) its vs = refl
opens_none other its vs = absurd its

loses_none : (line : Line) → IsOfSession line → (before : ℕ → Bool) (n : ℕ) → lost_by (Own line) before n ≡ before n
loses_none (Write k v f bytes) its before n = refl
loses_none (Read k v f) its before n = refl
loses_none (ListFiles k v) its before n = refl
loses_none (Retry k) its before n = refl
loses_none (Abandon k) its before n = refl
loses_none other its before n = absurd its

-- exactly the servers of the aim are up, of those of the grid
abbrev Aimed : Setting → Past → Servers → Type 0
Aimed s q aim = (n : ℕ) → n < s.grid.rows * s.grid.cols → up q.trace n ≡ aim n

asks : (s : Setting) (q : Past) (c : Cluster) (line : Line) (aim : Servers) → Stands s q c → Aimed s q aim → IsOfSession line → Plays s q c (Asks line aim)
asks s q c line aim stands aimed its = record {
  line = line;
  letter = None;
  step = own_line s.grid s.row (questions q.trace) line its ∙ asked_alike s.grid s.row (questions q.trace) (state_at s c act) line its (record { volumes = stands.opened; session = stands.sessions (session_named line); quorums = quorums_in_grid s.grid (up q.trace) aim aimed });
  brings = brings_none (questions q.trace) line its;
  came = refl;
  opens = opens_none line its;
  loses = loses_none line its;
  copies = copies_go s q c act None stands (λ n file same is. is) (λ n file ne. refl);
  sessions = sessions_go s q c act stands e (λ k. asks_deed k line e.told mine.told mine.new its) (λ k ne. asks_elsewhere k line e.told mine.new its (λ same. ne (ap s.home (sym same))));
}
  where
    act : Act
    act = Asks line aim

    mine : Step
    mine = step_in s c act

    e : Entry
    e = played q line None mine

-- ---- a letter

-- a letter that brings no copy to the server changes none there
pub brings_nothing : (serving : ℕ → File → Bool) (m : OwnMessage) (before : ℕ → File → List StoredCopy) (n : ℕ) (file : File) → (m.server ≢ n) ⊎ (to_server m.body ≡ false) → stored_by serving (Some m) before n file ≡ before n file
brings_nothing serving m before n file why = by m.body why
  where
    with_body : Body → OwnMessage
    with_body body = record { session = m.session; op = m.op; round = m.round; server = m.server; file = m.file; body = body }

    by : (body : Body) → (m.server ≢ n) ⊎ (to_server body ≡ false) → stored_by serving (Some (with_body body)) before n file ≡ before n file
    by Ask why = refl
    by (Copy copy) why = refl
    by (Store copy) (inl ne) = rw (ne_eqb m.server n ne) refl
    by (Store copy) (inr no_store) = absurd (true≢false no_store)
    by Stored why = refl

-- a letter that comes to a server which serves its file changes the same copies alike
brings_alike : (here there : ℕ → File → Bool) (m : OwnMessage) (before after : ℕ → File → List StoredCopy) (n : ℕ) (file : File) → here n file ≡ there n file → before n file ≡ after n file → stored_by here (Some m) before n file ≡ stored_by there (Some m) after n file
brings_alike here there m before after n file ups copies = by m.body
  where
    with_body : Body → OwnMessage
    with_body body = record { session = m.session; op = m.op; round = m.round; server = m.server; file = m.file; body = body }

    by : (body : Body) → stored_by here (Some (with_body body)) before n file ≡ stored_by there (Some (with_body body)) after n file
    by Ask = copies
    by (Copy copy) = copies
    by (Store copy) = rw (ups, copies) refl
    by Stored = copies

-- the letter stands among the model's messages
found : (s : Setting) (q : Past) (c : Cluster) (m : OwnMessage) (n : ℕ) → Stands s q c → slice_get c.written n ≡ Some m → message_of_turn (questions q.trace) (Own (Deliver n)) ≡ Some m
found s q c m n stands at = rw (stands.kept n) (ap (λ z. slice_get z n) stands.written ∙ at)

comes_to_server : (s : Setting) (q : Past) (c : Cluster) (m : OwnMessage) (aim : Servers) (n : ℕ) → Stands s q c → to_server m.body ≡ true → up q.trace m.server ≡ true → slice_get c.written n ≡ Some m → Plays s q c (Comes m aim)
comes_to_server s q c m aim n stands ask alive at = record {
  line = Deliver n;
  letter = Some m;
  step = ap (λ z. deliver_step s.grid (questions q.trace) z) (found s q c m n stands at) ∙ served_alike s.grid (questions q.trace) (state_at s c act) m ask (ups m.server m.file refl) (stands.copies m.server m.file ∙ ap (λ z. (c.part z).brought m.file) (sym place));
  brings = found s q c m n stands at;
  came = refl;
  opens = λ vs. refl;
  loses = λ before k. refl;
  copies = copies_go s q c act (Some m) stands
      (λ x file same is. brings_alike (serving q) (serving_at s c act) m (brought q.trace) (state_at s c act).brought x file (ups x file (same ∙ place)) is)
      (λ x file ne. brings_nothing (serving q) m (brought q.trace) x file (inl (λ its. ne (sym its ∙ sym place))));
  sessions = sessions_go s q c act stands e (λ k. delivered_deed_is k (length (sent q.trace)) m mine.told) (λ k ne. rw ask refl);
}
  where
    act : Act
    act = Comes m aim

    mine : Step
    mine = step_in s c act

    e : Entry
    e = played q (Deliver n) (Some m) mine

    place : node_of s.home act ≡ m.server
    place = rw ask refl

    mine_up : aim_of act m.server ≡ true
    mine_up = rw ask refl

    ups : (x : ℕ) (file : File) → x ≡ m.server → serving q x file ≡ serving_at s c act x file
    ups x file same = λ i. not (lack i) && alive_there i
      where
        lack : lacks q.trace x file ≡ (c.part (node_of s.home act)).lacks file
        lack = stands.lacking x file ∙ ap (λ z. (c.part z).lacks file) (same ∙ sym place)

        alive_there : up q.trace x ≡ aim_of act x
        alive_there = ap (up q.trace) same ∙ alive ∙ sym mine_up ∙ ap (aim_of act) (sym same)

comes_to_session : (s : Setting) (q : Past) (c : Cluster) (m : OwnMessage) (aim : Servers) (n : ℕ) → Stands s q c → to_server m.body ≡ false → Aimed s q aim → slice_get c.written n ≡ Some m → Plays s q c (Comes m aim)
comes_to_session s q c m aim n stands reply aimed at = record {
  line = Deliver n;
  letter = Some m;
  step = ap (λ z. deliver_step s.grid (questions q.trace) z) (found s q c m n stands at) ∙ heard_alike s.grid (questions q.trace) (state_at s c act) m reply (record { volumes = stands.opened; session = its; quorums = quorums_in_grid s.grid (up q.trace) (aim_of act) (λ x within. aimed x within ∙ sym (ap (λ f. f x) mine_aim)) });
  brings = found s q c m n stands at;
  came = refl;
  opens = λ vs. refl;
  loses = λ before k. refl;
  copies = copies_go s q c act (Some m) stands
      (λ x file same is. brings_nothing (serving q) m (brought q.trace) x file (inr reply) ∙ is ∙ sym (brings_nothing (serving_at s c act) m (state_at s c act).brought x file (inr reply)))
      (λ x file ne. brings_nothing (serving q) m (brought q.trace) x file (inr reply));
  sessions = sessions_go s q c act stands e (λ k. delivered_deed_is k (length (sent q.trace)) m mine.told) (λ k ne. rw (reply, ne_eqb m.session k (λ same. ne (ap s.home (sym same) ∙ sym place))) refl);
}
  where
    act : Act
    act = Comes m aim

    mine : Step
    mine = step_in s c act

    e : Entry
    e = played q (Deliver n) (Some m) mine

    place : node_of s.home act ≡ s.home m.session
    place = rw reply refl

    mine_aim : aim_of act ≡ aim
    mine_aim = rw reply refl

    its : session q.trace m.session ≡ (c.part (node_of s.home act)).session m.session
    its = stands.sessions m.session ∙ ap (λ z. (c.part z).session m.session) (sym place)

-- ---- an act

-- an act is done by these turns
pub record IsActed (s : Setting) (p : Past) (c : Cluster) (act : Act) : Type 0 where
  pub turns : List Turn
  pub disks : filter_map disk_turn turns ≡ []
  pub did : exchanges_from s.grid s.row p turns ≡ exchange_of act (step_in s c act) ∷ []
  pub stands : Stands s (fold (after s.grid s.row) p turns) (after_act s c act)
  pub lines : (fold (after s.grid s.row) p turns).lines ≡ p.lines + 1

behind : (s : Setting) (p : Past) (c : Cluster) (act : Act) → NoneGone p → IsPlayed s (fold (after s.grid s.row) p (as_aimed s.grid (aim_of act))) c act → IsActed s p c act
behind s p c act none_gone played = record {
  turns = set ++ Own played.line ∷ [];
  disks = filter_map-append disk_turn set (Own played.line ∷ []) ∙ ap (λ z. z ++ []) (lines_of_disks (aim_of act) (below (s.grid.rows * s.grid.cols)));
  did = exchanges_behind s.grid s.row (aim_of act) (below (s.grid.rows * s.grid.cols)) (Own played.line ∷ []) p ∙ ap (λ z. z ++ []) played.did;
  stands = subst P (sym grown) played.stands;
  lines = ap (λ z. z.lines) grown ∙ ap (λ n. n + 1) (all_set s.grid s.row (aim_of act) p none_gone).lines;
}
  where
    set : List Turn
    set = as_aimed s.grid (aim_of act)

    P : Past → Type 0
    P z = Stands s z (after_act s c act)

    grown : fold (after s.grid s.row) p (set ++ Own played.line ∷ []) ≡ after s.grid s.row (fold (after s.grid s.row) p set) (Own played.line)
    grown = fold-append (after s.grid s.row) p set (Own played.line ∷ [])

plays_act : (s : Setting) (q : Past) (c : Cluster) (act : Act) → Stands s q c → Aimed s q (aim_of act) → CanAct c act → Plays s q c act
plays_act s q c (Asks line aim) stands aimed can = asks s q c line aim stands aimed can
plays_act s q c (Comes m aim) stands aimed can = by (to_server m.body) refl
  where
    place : (n : ℕ) × (slice_get c.written n ≡ Some m)
    place = position_of c.written m can

    by : (b : Bool) → to_server m.body ≡ b → Plays s q c (Comes m aim)
    by true ask = comes_to_server s q c m aim place.0 stands ask alive place.1
      where
        aim_is : aim_of (Comes m aim) ≡ everyone
        aim_is = rw ask refl

        alive : up q.trace m.server ≡ true
        alive = elim (cases_lt m.server (s.grid.rows * s.grid.cols)) [
          | inl within ↦ (aimed m.server within ∙ ap (λ f. f m.server) aim_is)
          | inr out ↦ (stands.beyond m.server out)
        ]
    by false reply = comes_to_session s q c m aim place.0 stands reply (λ n within. aimed n within ∙ ap (λ f. f n) aim_is) place.1
      where
        aim_is : aim_of (Comes m aim) ≡ aim
        aim_is = rw reply refl

pub one_act : (s : Setting) (p : Past) (c : Cluster) (act : Act) → Stands s p c → p.lines < s.row.steps → CanAct c act → IsActed s p c act
one_act s p c act stands steps can =
    let q : Past = fold (after s.grid s.row) p (as_aimed s.grid (aim_of act)) in
    let set : SetsAll p q (aim_of act) 0 (s.grid.rows * s.grid.cols) = all_set s.grid s.row (aim_of act) p stands.none_gone in
    let now : Stands s q c = stands_on s p q c (aim_of act) set stands in
    let aimed : Aimed s q (aim_of act) = λ n within. set.these n (omega arith) (omega arith) in
    let lines = set.lines in
    behind s p c act stands.none_gone (plays s q c act now (omega arith) (plays_act s q c act now aimed can))
