-- What is known of all sessions and all messages of a run, and how an entry keeps it for the sessions.
use Rattle.std.proofs.Common.{◌≡◌, ◌≢◌, ◌⊎◌, ℕ, ◌+◌, ◌*◌, ◌<◌, ◌≤◌, Bool, true, false, ◌++◌, List, [], ◌∷◌, length, refl, sym, ap, ◌∙◌, subst, inl, inr, Option, Some, None, arith}
use Rattle.std.specs.Prelude.{Contains}
use Rattle.std.proofs.lemmas.Bool.{cases_eq, true≢false}
use Rattle.std.proofs.lemmas.List.Elements.{Contains-push, Contains-append_left}
use Rattle.gq_grid.specs.Grid.{Grid}
use Rattle.gq_tag.specs.declared.Tag.{Tag}
use Rattle.gq_tag.specs.declared.StoredCopy.{StoredCopy}
use Rattle.gq_tag.specs.Tag.{File, OwnMessage, greatest, to_server}
use Rattle.gq_tag.specs.declared.Body.{Body}
use Rattle.gq_tag.specs.declared.Body.TheVariants.{Ask, Copy, Store, Stored}
use Rattle.gq_tag.proofs.Order.{less_at_most}
use Rattle.gq_desk.specs.declared.plans.TenantRow.{TenantRow}
use Rattle.gq_phase.specs.Phase.{Task, Reply, Writing, Reading, Listing, Operation, HeardNext, is_collect, round_file, stored_copy, heard_servers, heard_copies, hear_reply, reply_of, with_reply, with_decided, decided_copy, hear_current, givers, skips_store}
use Rattle.gq_phase.specs.Quorums.{ends_collect, ends_store}
use Rattle.gq_phase.proofs.Saying.{even_is}
use Rattle.gq_model.specs.declared.events.Line.{Line}
use Rattle.gq_model.specs.Trace.{Turn, Entry, Trace, Deed, Elsewhere, Begins, Hears, Moves, Ends, Leaps, is_loss, sent, offered, up, volumes, task_of}
use Rattle.gq_model.specs.Told.{Told}
use Rattle.gq_laws.proofs.Words.{deed_on, held, current, round, heard, collected, op}
use Rattle.gq_laws.proofs.Runs.{Follows, IsRun, IsKnown, Keeps, Settled, made, made_of, Made, Extends, Starts, HeldBetween, op_start, round_start, starts}
use Rattle.gq_laws.proofs.Holding.{extends_more}
use Rattle.gq_laws.proofs.Acts.{Act, Doing, Requests, Serves, Notes, Turns, Finishes, Resends, Abandons, GivesUp, Jumps, Silent, Comes, act, awaited_kept, going}
use Rattle.gq_laws.proofs.RoundEnds.{Next, ToStore, ToCollect, Skips, next_of, write_stores, skip_ends, skip_greatest}
use Rattle.gq_laws.proofs.SessionTurns.{Unmoved, elsewhere_unmoved, hears_unmoved}
use Rattle.gq_laws.proofs.Found.{stored-push, hear_in}
use Rattle.gq_laws.proofs.Sessions.{Holds, Shown, Steady, holds_grow, holds_hear, holds_begin, holds_store, holds_greatest, holds_next, collect_number, stored_settled, told_settled, skip_settled, greatest_least, number_above}

-- ---- the invariant

-- asks and copies are of collect rounds, stores and receipts of store rounds
abbrev pub IsBodyOf : Body → Bool → Type 0
IsBodyOf Ask odd = odd ≡ true
IsBodyOf (Copy c) odd = odd ≡ true
IsBodyOf (Store c) odd = odd ≡ false
IsBodyOf Stored odd = odd ≡ false

-- what is known of a message that was sent
pub record Sound (grid : Grid) (t : Trace) (m : OwnMessage) : Type 0 where
  pub parity : IsBodyOf m.body (is_collect m.round)
  pub store_known : (c : StoredCopy) → m.body ≡ Store c → IsKnown t m.file c
  pub copied_known : (c : StoredCopy) → m.body ≡ Copy c → IsKnown t m.file c
  -- it is of no later operation or round than its session
  pub bounded : (m.op < op t m.session) ⊎ ((m.op ≡ op t m.session) × (m.round ≤ round t m.session))
  -- where it is of the session's current operation and round
  pub was_held : (task : Task) (c : StoredCopy) → current t m.session ≡ Some task → m.op ≡ op t m.session → m.round ≡ round t m.session → m.body ≡ Copy c → HeldBetween grid (round_start t m.session) t m.server m.file c
  pub file : (task : Task) → current t m.session ≡ Some task → m.op ≡ op t m.session → m.round ≡ round t m.session → m.file ≡ round_file task m.round
  pub store : (task : Task) (c : StoredCopy) → current t m.session ≡ Some task → m.op ≡ op t m.session → m.round ≡ round t m.session → m.body ≡ Store c → c ≡ stored_copy (collected t m.session)
  pub stored : (task : Task) → current t m.session ≡ Some task → m.op ≡ op t m.session → m.round ≡ round t m.session → m.body ≡ Stored → Keeps grid t m.server m.file (stored_copy (collected t m.session)).tag

-- the reply that session k heard was sent, of its operation and round
pub record WasSent (t : Trace) (k : ℕ) (task : Task) (x : Reply) : Type 0 where
  pub l : OwnMessage
  pub comes : Comes t k l task
  pub server : l.server ≡ x.server
  pub file : l.file ≡ round_file task (round t k)

-- what is known of all sessions, messages and servers
pub record Invariant (grid : Grid) (t : Trace) : Type 0 where
  pub sessions : (k : ℕ) (task : Task) → current t k ≡ Some task → Holds grid t task (round t k) (heard t k) (collected t k) (starts t k)
  pub heard_sent : (k : ℕ) (task : Task) (x : Reply) → current t k ≡ Some task → Contains (heard t k) x → WasSent t k task x
  pub messages : (m : OwnMessage) → Contains (sent t) m → Sound grid t m
  pub held_known : (server : ℕ) (file : File) → IsKnown t file (held t server file)
  pub offered_known : (server peer : ℕ) (file : File) (c : StoredCopy) → Contains (offered t server file peer) c → IsKnown t file c

-- ---- when operations began

-- the operation, and its current round
pub starts_along : (t : Trace) (k : ℕ) → Extends t (op_start t k) × Extends t (round_start t k)
starts_along [] k = (([], refl), ([], refl))
starts_along (e ∷ t) k = go (deed_on t k e) refl (starts_along t k)
  where
    go : (d : Deed) → deed_on t k e ≡ d → Extends t (op_start t k) × Extends t (round_start t k) → Extends (e ∷ t) (op_start (e ∷ t) k) × Extends (e ∷ t) (round_start (e ∷ t) k)
    go (Begins line) is before = rw is ((e ∷ [], refl), ([], refl))
    go (Moves m r tag) is before = rw is (extends_more e t (op_start t k) before.0, ([], refl))
    go (Hears m) is before = rw is (extends_more e t (op_start t k) before.0, extends_more e t (round_start t k) before.1)
    go Ends is before = rw is (extends_more e t (op_start t k) before.0, extends_more e t (round_start t k) before.1)
    go (Leaps last number) is before = rw is (extends_more e t (op_start t k) before.0, extends_more e t (round_start t k) before.1)
    go Elsewhere is before = rw is (extends_more e t (op_start t k) before.0, extends_more e t (round_start t k) before.1)

-- ---- what an entry is to session k

-- what becomes of session k
pub data Change (grid : Grid) (t : Trace) (e : Entry) (k : ℕ) : Type 0 where
  Stays : Unmoved (e ∷ t) t k → heard (e ∷ t) k ≡ heard t k → Change grid t e k
  Hearing : (l : OwnMessage) (task : Task) → Comes t k l task → deed_on t k e ≡ Hears l → Change grid t e k
  Moving : (l : OwnMessage) (task : Task) (r : ℕ) (tag : Option Tag) → Comes t k l task → e.message ≡ Some l → deed_on t k e ≡ Moves l r tag → hear_current grid (up t) (with_reply (going t k task) l) ≡ HeardNext r tag e.new → Change grid t e k
  Starting : (line : Line) (task : Task) → deed_on t k e ≡ Begins line → task_of (volumes t) line ≡ Some task → Change grid t e k
  Stopping : deed_on t k e ≡ Ends → Change grid t e k
  Jumping : (last number : ℕ) → deed_on t k e ≡ Leaps last number → Change grid t e k

pub change : (grid : Grid) (t : Trace) (e : Entry) (k : ℕ) → Act grid t e → Change grid t e k
change grid t e k a = go (cases_eq a.k k)
  where
    still : (s : ℕ) → deed_on t s e ≡ Elsewhere → Change grid t e s
    still s is = Stays (elsewhere_unmoved t e s is) (rw (is, heard))

    by : (s : ℕ) → Doing grid t e s → Change grid t e s
    by s (Requests line task first turn does is said new) = Starting line task is does
    by s (Serves l n within its to up message is said new) = still s is
    by s (Notes l task comes is said new) = Hearing l task comes is
    by s (Turns l task r tag first comes message is said heard) = Moving l task r tag comes message is heard
    by s (Finishes l task outcome comes is said new heard) = Stopping is
    by s (Resends task set first busy is said new) = still s is
    by s (Abandons is said new) = Stopping is
    by s (GivesUp is passive new) = Stopping is
    by s (Jumps last number idle is passive new) = Jumping last number is
    by s (Silent is passive new) = still s is

    go : (a.k ≡ k) ⊎ (a.k ≢ k) → Change grid t e k
    go (inl same) = let P : ℕ → Type 0 = λ z. Doing grid t e z in by k (subst P same a.what)
    go (inr ne) = aside (a.others k ne)
      where
        aside : (deed_on t k e ≡ Elsewhere) ⊎ (deed_on t k e ≡ Ends) → Change grid t e k
        aside (inl is) = still k is
        aside (inr is) = Stopping is

-- ---- what a reply shows

shown_at : (grid : Grid) (row : TenantRow) (t : Trace) (l : OwnMessage) (task : Task) → IsRun grid row t → Invariant grid t → Comes t l.session l task → Shown grid t task (round t l.session) (collected t l.session) (starts t l.session) (reply_of l)
shown_at grid row t l task run inv comes = record {
  known = λ c is. at_file (λ f. IsKnown t f c) (message.copied_known c is);
  was_held = λ c is. at_file (λ f. HeldBetween grid (round_start t l.session) t l.server f c) (message.was_held task c comes.busy comes.same_op comes.same_round is);
  copied = λ odd. copied odd l.body refl;
  stored = λ even. stored even l.body refl;
}
  where
    message : Sound grid t l
    message = inv.messages l comes.inside

    file : l.file ≡ round_file task (round t l.session)
    file = message.file task comes.busy comes.same_op comes.same_round ∙ ap (round_file task) comes.same_round

    at_file : (P : File → Type 0) → P l.file → P (round_file task (round t l.session))
    at_file P h = subst P file h

    same_parity : is_collect l.round ≡ is_collect (round t l.session)
    same_parity = ap is_collect comes.same_round

    copied : is_collect (round t l.session) ≡ true → (b : Body) → l.body ≡ b → (c : StoredCopy) × (l.body ≡ Copy c)
    copied odd Ask is = absurd (true≢false (ap to_server (sym is) ∙ comes.reply))
    copied odd (Store c) is = absurd (true≢false (ap to_server (sym is) ∙ comes.reply))
    copied odd (Copy c) is = (c, is)
    copied odd Stored is = absurd (let P : Body → Type 0 = λ b. IsBodyOf b (is_collect l.round) in true≢false (sym odd ∙ sym same_parity ∙ subst P is message.parity))

    stored : is_collect (round t l.session) ≡ false → (b : Body) → l.body ≡ b → Keeps grid t l.server (round_file task (round t l.session)) (stored_copy (collected t l.session)).tag
    stored even Ask is = absurd (true≢false (ap to_server (sym is) ∙ comes.reply))
    stored even (Store c) is = absurd (true≢false (ap to_server (sym is) ∙ comes.reply))
    stored even (Copy c) is = absurd (let P : Body → Type 0 = λ b. IsBodyOf b (is_collect l.round) in true≢false (sym (subst P is message.parity) ∙ same_parity ∙ even))
    stored even Stored is = at_file (λ f. Keeps grid t l.server f (stored_copy (collected t l.session)).tag) (message.stored task comes.busy comes.same_op comes.same_round is)

pub shown_by : (grid : Grid) (row : TenantRow) (t : Trace) (k : ℕ) (l : OwnMessage) (task : Task) → IsRun grid row t → Invariant grid t → Comes t k l task → Shown grid t task (round t k) (collected t k) (starts t k) (reply_of l)
shown_by grid row t k l task run inv comes =
    let P : ℕ → Type 0 = λ z. Shown grid t task (round t z) (collected t z) (starts t z) (reply_of l) in
    let Q : ℕ → Type 0 = λ z. Comes t z l task in
    subst P comes.its (shown_at grid row t l task run inv (subst Q (sym comes.its) comes))

-- the operation with the reply that came
pub holds_with : (grid : Grid) (row : TenantRow) (t : Trace) (k : ℕ) (l : OwnMessage) (task : Task) → IsRun grid row t → Invariant grid t → Comes t k l task →
    Holds grid t task (round t k) (hear_reply (heard t k) (reply_of l)) (collected t k) (starts t k)
holds_with grid row t k l task run inv comes =
    holds_hear grid t task (round t k) (heard t k) (collected t k) (starts t k) (reply_of l) (inv.sessions k task comes.busy) (shown_by grid row t k l task run inv comes)

-- ---- the sessions after an entry

-- the entry loses no copy at a server that session k heard in its round, nor at one of which a reply comes to it, where its operation
-- goes on
pub steady : (grid : Grid) (row : TenantRow) (t : Trace) (e : Entry) (k : ℕ) (task next : Task) → Follows grid row t e → Invariant grid t → current t k ≡ Some task → current (e ∷ t) k ≡ Some next → Steady e (round_file task (round t k)) (heard t k)
steady grid row t e k task next follows inv busy goes_on x within =
    let was = inv.heard_sent k task x busy within in
    let P : ℕ → File → Type 0 = λ server file. is_loss e.turn server file ≡ false in
    subst (λ server. P server (round_file task (round t k))) was.server (subst (λ file. P was.l.server file) was.file (awaited_kept grid row t e k was.l task next follows was.comes goes_on))

-- a message of session k's operation and round is of its round's file
comes_file : (grid : Grid) (t : Trace) (k : ℕ) (l : OwnMessage) (task : Task) → Invariant grid t → Comes t k l task → l.file ≡ round_file task (round t k)
comes_file grid t k l task inv comes =
    let busy : current t l.session ≡ Some task = ap (current t) comes.its ∙ comes.busy in
    let same_op : l.op ≡ op t l.session = comes.same_op ∙ ap (op t) (sym comes.its) in
    let same_round : l.round ≡ round t l.session = comes.same_round ∙ ap (round t) (sym comes.its) in
    (inv.messages l comes.inside).file task busy same_op same_round ∙ ap (round_file task) comes.same_round

steady_with : (grid : Grid) (row : TenantRow) (t : Trace) (e : Entry) (k : ℕ) (l : OwnMessage) (task next : Task) → Follows grid row t e → Invariant grid t → Comes t k l task → current (e ∷ t) k ≡ Some next → Steady e (round_file task (round t k)) (hear_reply (heard t k) (reply_of l))
steady_with grid row t e k l task next follows inv comes goes_on x within = go (hear_in (heard t k) (reply_of l) x within)
  where
    go : Contains (heard t k) x ⊎ (reply_of l ≡ x) → is_loss e.turn x.server (round_file task (round t k)) ≡ false
    go (inl old) = steady grid row t e k task next follows inv comes.busy goes_on x old
    go (inr new) =
        let P : ℕ → File → Type 0 = λ server file. is_loss e.turn server file ≡ false in
        subst (λ server. P server (round_file task (round t k))) (ap (λ y. y.server) new) (subst (λ file. P l.server file) (comes_file grid t k l task inv comes) (awaited_kept grid row t e k l task next follows comes goes_on))

-- what a session heard after an entry was sent
pub heard_step : (grid : Grid) (row : TenantRow) (t : Trace) (e : Entry) → Follows grid row t e → Invariant grid t → (k : ℕ) (task : Task) (x : Reply) → current (e ∷ t) k ≡ Some task → Contains (heard (e ∷ t) k) x → WasSent (e ∷ t) k task x
heard_step grid row t e follows inv k task x busy within = go (change grid t e k (act grid row t e follows))
  where
    -- a reply sent before, where the entry leaves the operation in its round
    kept : Unmoved (e ∷ t) t k → WasSent t k task x → WasSent (e ∷ t) k task x
    kept u was = record {
      l = was.l;
      comes = record {
        inside = Contains-append_left (sent t) e.new was.l was.comes.inside;
        its = was.comes.its;
        reply = was.comes.reply;
        busy = busy;
        same_op = was.comes.same_op ∙ sym u.op;
        same_round = was.comes.same_round ∙ sym u.round;
      };
      server = was.server;
      file = was.file ∙ ap (round_file task) (sym u.round);
    }

    nothing : heard (e ∷ t) k ≡ [] → WasSent (e ∷ t) k task x
    nothing none = absurd (let P : List Reply → Type 0 = λ z. Contains z x in let empty : Contains [] x = subst P none within in omega (arith, empty.1))

    go : Change grid t e k → WasSent (e ∷ t) k task x
    go (Stays u hs) = let P : List Reply → Type 0 = λ z. Contains z x in kept u (inv.heard_sent k task x (sym u.current ∙ busy) (subst P hs within))
    go (Hearing l task' comes is) =
        let u = hears_unmoved t e k l is in
        let both : Some task' ≡ Some task = sym comes.busy ∙ sym u.current ∙ busy in
        let same : task' ≡ task = cc in
        let P : Task → Type 0 = λ z. Comes t k l z in
        let Q : List Reply → Type 0 = λ z. Contains z x in
        let heard_now : Contains (hear_reply (heard t k) (reply_of l)) x = subst Q (rw (is, heard)) within in
        by l u (subst P same comes) (hear_in (heard t k) (reply_of l) x heard_now)
      where
        by : (l : OwnMessage) → Unmoved (e ∷ t) t k → Comes t k l task → Contains (heard t k) x ⊎ (reply_of l ≡ x) → WasSent (e ∷ t) k task x
        by l u comes (inl old) = kept u (inv.heard_sent k task x comes.busy old)
        by l u comes (inr new) = kept u (record { l = l; comes = comes; server = ap (λ y. y.server) new; file = comes_file grid t k l task inv comes })
    go (Moving l task' r tag comes message is heard') = nothing (rw (is, heard))
    go (Starting line task' is does) = nothing (rw (is, heard))
    go (Stopping is) = absurd (let bad : None ≡ Some task = rw (is, current) at busy in cc)
    go (Jumping last number is) = absurd (let bad : None ≡ Some task = rw (is, current) at busy in cc)

holds_at : (grid : Grid) (t : Trace) (task : Task) (r r' : ℕ) (hs hs' : List Reply) (cs cs' : List StoredCopy) (st st' : Starts) → r ≡ r' → hs ≡ hs' → cs ≡ cs' → st ≡ st' → Holds grid t task r hs cs st → Holds grid t task r' hs' cs' st'
holds_at grid t task r r' hs hs' cs cs' st st' a b c d h =
    let P : ℕ → List Reply → List StoredCopy → Starts → Type 0 = λ w x y z. Holds grid t task w x y z in
    subst (λ w. P w hs' cs' st') a (subst (λ x. P r x cs' st') b (subst (λ y. P r hs y st') c (subst (λ z. P r hs cs z) d h)))

-- a write's new copy is one that a write made
made_now : (t : Trace) (turn : Turn) (message : Option OwnMessage) (said : Told) (new : List OwnMessage) (k : ℕ) (l : OwnMessage) (r : ℕ) (tag : Option Tag) (made_tag : Tag) (file : File) (bytes : List ℕ) →
    message ≡ Some l → l.session ≡ k → deed_on t k (record { turn = turn; message = message; told = said; new = new }) ≡ Moves l r tag → tag ≡ Some made_tag → current t k ≡ Some (Writing file bytes) →
    Contains (made (record { turn = turn; message = message; told = said; new = new } ∷ t)) (record { file = file; copy = record { tag = made_tag; bytes = bytes } })
made_now t turn message said new k l r tag made_tag file bytes is its does tag_is busy =
    let x : Made = record { file = file; copy = record { tag = made_tag; bytes = bytes } } in
    let here : deed_on t l.session (record { turn = turn; message = message; told = said; new = new }) ≡ Moves l r (Some made_tag) = ap (λ z. deed_on t z (record { turn = turn; message = message; told = said; new = new })) its ∙ does ∙ ap (Moves l r) tag_is in
    let there : current t l.session ≡ Some (Writing file bytes) = ap (current t) its ∙ busy in
    let list : made (record { turn = turn; message = message; told = said; new = new } ∷ t) ≡ made t ++ made_of (deed_on t l.session (record { turn = turn; message = message; told = said; new = new })) (current t l.session) = rw is in
    let all : made (record { turn = turn; message = message; told = said; new = new } ∷ t) ≡ made t ++ x ∷ [] = list ∙ ap (λ z. made t ++ z) (ap (λ d. made_of d (current t l.session)) here ∙ ap (made_of (Moves l r (Some made_tag))) there) in
    let P : List Made → Type 0 = λ z. Contains z x in
    subst P (sym all) (Contains-push (made t) x)

made_here : (t : Trace) (e : Entry) (k : ℕ) (l : OwnMessage) (r : ℕ) (tag : Option Tag) (made_tag : Tag) (file : File) (bytes : List ℕ) →
    e.message ≡ Some l → l.session ≡ k → deed_on t k e ≡ Moves l r tag → tag ≡ Some made_tag → current t k ≡ Some (Writing file bytes) →
    Contains (made (e ∷ t)) (record { file = file; copy = record { tag = made_tag; bytes = bytes } })
made_here t e = made_now t e.turn e.message e.told e.new

-- a collect round ends, and the store round of what was decided begins
begin_store_holds : (grid : Grid) (row : TenantRow) (t : Trace) (e : Entry) (k : ℕ) (l : OwnMessage) (task : Task) (r : ℕ) (tag : Option Tag) → IsRun grid row t → Follows grid row t e → Steady e (round_file task (round t k)) (hear_reply (heard t k) (reply_of l)) → Comes t k l task → e.message ≡ Some l → deed_on t k e ≡ Moves l r tag →
    Holds grid t task (round t k) (hear_reply (heard t k) (reply_of l)) (collected t k) (starts t k) → is_collect (round t k) ≡ true → ends_collect grid (heard_servers (hear_reply (heard t k) (reply_of l))) ≡ true →
    tag ≡ Some (decided_copy (with_reply (going t k task) l)).tag →
    Holds grid (e ∷ t) task (2 * length (collected t k ++ decided_copy (with_reply (going t k task) l) ∷ [])) [] (collected t k ++ decided_copy (with_reply (going t k task) l) ∷ []) (record { op = op_start t k; round = e ∷ t })
begin_store_holds grid row t e k l (Writing file bytes) r tag run follows calm comes message does h odd ends tag_is =
    let o = with_reply (going t k (Writing file bytes)) l in
    let since = extends_more e t (op_start t k) (starts_along t k).0 in
    holds_store grid (e ∷ t) (Writing file bytes) (round t k) o.heard (collected t k) (starts t k) (e ∷ t) (decided_copy o)
    (holds_grow grid row e t (Writing file bytes) (round t k) o.heard (collected t k) (starts t k) run follows calm h) odd since
    (inr (made_here t e k l r tag (decided_copy o).tag file bytes message comes.its does tag_is comes.busy))
    (λ x s. less_at_most x (decided_copy o).tag (number_above x (greatest (heard_copies o.heard)).tag k o.floor (greatest_least grid row t (Writing file bytes) (round t k) o.heard (collected t k) (starts t k) x run h odd ends s)))
    (λ f b x is s. number_above x (greatest (heard_copies o.heard)).tag k o.floor (greatest_least grid row t (Writing file bytes) (round t k) o.heard (collected t k) (starts t k) x run h odd ends s))
begin_store_holds grid row t e k l (Reading file) r tag run follows calm comes message does h odd ends tag_is =
    let o = with_reply (going t k (Reading file)) l in
    let since = extends_more e t (op_start t k) (starts_along t k).0 in
    holds_greatest grid row (e ∷ t) (Reading file) (round t k) o.heard (collected t k) (starts t k) (e ∷ t) (run, follows)
    (holds_grow grid row e t (Reading file) (round t k) o.heard (collected t k) (starts t k) run follows calm h) odd ends since
    (λ f b is. let bad : Reading file ≡ Writing f b = is in cc)
begin_store_holds grid row t e k l (Listing v n) r tag run follows calm comes message does h odd ends tag_is =
    let o = with_reply (going t k (Listing v n)) l in
    let since = extends_more e t (op_start t k) (starts_along t k).0 in
    holds_greatest grid row (e ∷ t) (Listing v n) (round t k) o.heard (collected t k) (starts t k) (e ∷ t) (run, follows)
    (holds_grow grid row e t (Listing v n) (round t k) o.heard (collected t k) (starts t k) run follows calm h) odd ends since
    (λ f b is. let bad : Listing v n ≡ Writing f b = is in cc)

-- a collect round ends, and its store round is left out: the operation has what the store round would begin with, ..
pub skip_holds : (grid : Grid) (row : TenantRow) (t : Trace) (o : Operation) (start : Starts) (now : Trace) → IsRun grid row t → Holds grid t o.task o.round o.heard o.collected start → is_collect o.round ≡ true → ends_collect grid (heard_servers o.heard) ≡ true → skips_store grid (with_decided o) ≡ true → Extends now start.op →
    Holds grid t o.task (2 * length (o.collected ++ decided_copy o ∷ [])) [] (o.collected ++ decided_copy o ∷ []) (record { op = start.op; round = now })
skip_holds grid row t o start now run h odd ends skips later =
    let P : StoredCopy → Type 0 = λ c. Holds grid t o.task (2 * length (o.collected ++ c ∷ [])) [] (o.collected ++ c ∷ []) (record { op = start.op; round = now }) in
    subst P (sym (skip_greatest grid o skips)) (holds_greatest grid row t o.task o.round o.heard o.collected start now run h odd ends later (λ f b is. write_stores grid (with_decided o) f b is skips))

-- .. and its copy is settled
pub skip_settles : (grid : Grid) (t : Trace) (o : Operation) (start : Starts) → Holds grid t o.task o.round o.heard o.collected start → skips_store grid (with_decided o) ≡ true → Settled grid t (round_file o.task o.round) (decided_copy o).tag
skip_settles grid t o start h skips =
    let P : StoredCopy → Type 0 = λ c. ends_store grid (givers c.tag o.heard) ≡ true in
    told_settled grid t o.task o.round o.heard o.collected start (decided_copy o).tag h (subst P (stored-push o.collected (decided_copy o)) (skip_ends grid (with_decided o) skips))

pub sessions_step : (grid : Grid) (row : TenantRow) (t : Trace) (e : Entry) → IsRun grid row t → Follows grid row t e → Invariant grid t → (k : ℕ) (task : Task) → current (e ∷ t) k ≡ Some task → Holds grid (e ∷ t) task (round (e ∷ t) k) (heard (e ∷ t) k) (collected (e ∷ t) k) (starts (e ∷ t) k)
sessions_step grid row t e run follows inv k task busy = go (change grid t e k (act grid row t e follows))
  where
    Result : Type 0
    Result = Holds grid (e ∷ t) task (round (e ∷ t) k) (heard (e ∷ t) k) (collected (e ∷ t) k) (starts (e ∷ t) k)

    at : (r : ℕ) (hs : List Reply) (cs : List StoredCopy) (st : Starts) → r ≡ round (e ∷ t) k → hs ≡ heard (e ∷ t) k → cs ≡ collected (e ∷ t) k → st ≡ starts (e ∷ t) k → Holds grid (e ∷ t) task r hs cs st → Result
    at r hs cs st = holds_at grid (e ∷ t) task r (round (e ∷ t) k) hs (heard (e ∷ t) k) cs (collected (e ∷ t) k) st (starts (e ∷ t) k)

    one : (task' : Task) → current t k ≡ Some task' → current (e ∷ t) k ≡ current t k → task' ≡ task
    one task' was same = let both : Some task' ≡ Some task = sym was ∙ sym same ∙ busy in cc

    next : (l : OwnMessage) (r : ℕ) (tag : Option Tag) → Comes t k l task → e.message ≡ Some l → deed_on t k e ≡ Moves l r tag → Next grid (up t) (with_reply (going t k task) l) r tag e.new → Result
    next l r tag comes message does (ToStore odd ends r_is tag_is new_is) =
        at (2 * length (collected t k ++ decided_copy (with_reply (going t k task) l) ∷ [])) [] (collected t k ++ decided_copy (with_reply (going t k task) l) ∷ []) (record { op = op_start t k; round = e ∷ t })
        (sym r_is ∙ (rw (does, round))) (rw (does, heard)) (rw (does, collected, comes.busy, odd)) (rw does)
        (begin_store_holds grid row t e k l task r tag run follows (steady_with grid row t e k l task task follows inv comes busy) comes message does (holds_with grid row t k l task run inv comes) odd ends tag_is)
    next l r tag comes message does (Skips v f lists odd ends skips r_is tag_is new_is) =
        let o : Operation = with_reply (going t k task) l in
        let cs : List StoredCopy = collected t k ++ decided_copy o ∷ [] in
        let since = extends_more e t (op_start t k) (starts_along t k).0 in
        let h = holds_grow grid row e t task (round t k) o.heard (collected t k) (starts t k) run follows (steady_with grid row t e k l task task follows inv comes busy) (holds_with grid row t k l task run inv comes) in
        let settled = skip_settled grid (e ∷ t) task (round t k) (collected t k) (decided_copy o) (collect_number (round t k) (length (collected t k)) odd h.standing) (skip_settles grid (e ∷ t) o (starts t k) h skips) in
        at (2 * length cs + 1) [] cs (record { op = op_start t k; round = e ∷ t })
        (sym r_is ∙ (rw (does, round))) (rw (does, heard)) (rw (does, collected, comes.busy, odd)) (rw does)
        (holds_next grid (e ∷ t) task (2 * length cs) [] cs (record { op = op_start t k; round = e ∷ t }) (e ∷ t) (skip_holds grid row (e ∷ t) o (starts t k) (e ∷ t) (run, follows) h odd ends skips since) (even_is (length cs)) since settled)
    next l r tag comes message does (ToCollect v f lists even ends r_is tag_is new_is) =
        let hs : List Reply = hear_reply (heard t k) (reply_of l) in
        let h = holds_grow grid row e t task (round t k) hs (collected t k) (starts t k) run follows (steady_with grid row t e k l task task follows inv comes busy) (holds_with grid row t k l task run inv comes) in
        at (2 * length (collected t k) + 1) [] (collected t k) (record { op = op_start t k; round = e ∷ t })
        (sym r_is ∙ (rw (does, round))) (rw (does, heard)) (rw (does, collected, comes.busy, even)) (rw does)
        (holds_next grid (e ∷ t) task (round t k) hs (collected t k) (starts t k) (e ∷ t) h even (extends_more e t (op_start t k) (starts_along t k).0) (stored_settled grid (e ∷ t) task (round t k) hs (collected t k) (starts t k) h even ends))

    go : Change grid t e k → Result
    go (Stays u hs) = at (round t k) (heard t k) (collected t k) (starts t k) (sym u.round) (sym hs) (sym u.collected) (λ i. record { op = sym u.op_start i; round = sym u.round_start i })
        (holds_grow grid row e t task (round t k) (heard t k) (collected t k) (starts t k) run follows (steady grid row t e k task task follows inv (sym u.current ∙ busy) busy) (inv.sessions k task (sym u.current ∙ busy)))
    go (Hearing l task' comes is) =
        let u = hears_unmoved t e k l is in
        let same = one task' comes.busy u.current in
        let P : Task → Type 0 = λ z. Comes t k l z in
        at (round t k) (hear_reply (heard t k) (reply_of l)) (collected t k) (starts t k) (sym u.round) (rw (is, heard)) (sym u.collected) (λ i. record { op = sym u.op_start i; round = sym u.round_start i })
        (holds_grow grid row e t task (round t k) (hear_reply (heard t k) (reply_of l)) (collected t k) (starts t k) run follows (steady_with grid row t e k l task task follows inv (subst P same comes) busy) (holds_with grid row t k l task run inv (subst P same comes)))
    go (Moving l task' r tag comes message is heard) =
        let same = one task' comes.busy (rw (is, current)) in
        let P : Task → Type 0 = λ z. Comes t k l z in
        let Q : Task → Type 0 = λ z. hear_current grid (up t) (with_reply (going t k z) l) ≡ HeardNext r tag e.new in
        next l r tag (subst P same comes) message is (next_of grid (up t) (with_reply (going t k task) l) r tag e.new (subst Q same heard))
    go (Starting line task' is does) =
        at 1 [] [] (record { op = t; round = e ∷ t }) (rw (is, round)) (rw (is, heard)) (rw (is, collected)) (rw is) (holds_begin grid (e ∷ t) task (record { op = t; round = e ∷ t }) (e ∷ [], refl))
    go (Stopping is) = absurd (let bad : None ≡ Some task = rw (is, current) at busy in cc)
    go (Jumping last number is) = absurd (let bad : None ≡ Some task = rw (is, current) at busy in cc)
