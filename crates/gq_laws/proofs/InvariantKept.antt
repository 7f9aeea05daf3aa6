-- The invariant holds along every run.
use Rattle.std.proofs.Common.{◌≡◌, ◌⊎◌, ℕ, ◌+◌, ◌<◌, ◌≤◌, Bool, true, false, ◌&&◌, ◌++◌, List, [], ◌∷◌, length, refl, sym, ap, ◌∙◌, subst, inl, inr, Option, Some, None, arith, eqb, not}
use Rattle.std.specs.Prelude.{Contains, nat_le, if◌then◌else◌}
use Rattle.std.proofs.lemmas.Bool.{true≢false, eq-eqb, eqb-true, and_parts, leb-true, leb-false, not-true}
use Rattle.std.proofs.lemmas.List.{length_push}
use Rattle.std.proofs.lemmas.List.Elements.{Contains-append_cases}
use Rattle.gq_grid.specs.Grid.{Grid}
use Rattle.gq_tag.specs.declared.Tag.{Tag}
use Rattle.gq_tag.specs.declared.StoredCopy.{StoredCopy}
use Rattle.gq_tag.specs.Tag.{File, is_file, OwnMessage, first_copy, greatest, newer_of, is_less, to_server}
use Rattle.gq_tag.specs.declared.Body.{Body}
use Rattle.gq_tag.specs.declared.Body.TheVariants.{Ask, Copy, Store, Stored}
use Rattle.gq_tag.proofs.Order.{IsAtMost, at_most_refl, newer_of-right}
use Rattle.gq_desk.specs.declared.plans.TenantRow.{TenantRow}
use Rattle.gq_phase.specs.Phase.{Task, Reply, is_collect, round_file, round_body, stored_copy, with_reply, with_decided, in_round, decided_copy}
use Rattle.gq_model.specs.Trace.{Turn, Own, Serving, Leaping, Losing, Returning, Entry, Trace, Moves, is_loss, lacks, lacks_by, serves, stored_by, brought, copy_of, offered, sent, up}
use Rattle.gq_model.specs.declared.events.Line.TheVariants.{Deliver}
use Rattle.gq_model.specs.declared.events.ServerLine.TheVariants.{Bad as BadServer, Down, Up, Lost as ServerLost, Repaired as ServerRepaired}
use Rattle.gq_model.specs.Told.{Told}
use Rattle.gq_laws.proofs.Words.{deed_on, held, current, round, heard, collected, op, delivered}
use Rattle.gq_laws.proofs.Holding.{Copying, Loses, Gains, Leaves, copying, giver, gift, given_offered, held_given, greatest-push, one_is, keeps_step, had_keeps, held_between_more}
use Rattle.gq_laws.proofs.Runs.{Follows, IsRun, IsKnown, Keeps, Extends, Starts, HeldBetween, round_start, starts}
use Rattle.gq_laws.proofs.Shapes.{Shape, shape_of, shape_round, only}
use Rattle.gq_laws.proofs.Acts.{Act, Doing, Requests, Serves, Notes, Turns, Finishes, Resends, Abandons, GivesUp, Jumps, Silent, Comes, act, awaited_kept, delivers_by, going, first_round, back, back_to_ask, back_to_store, message_sent}
use Rattle.gq_laws.proofs.RoundEnds.{Next, ToStore, ToCollect, Skips, next_of}
use Rattle.gq_laws.proofs.SessionTurns.{Unmoved, elsewhere_unmoved, hears_unmoved}
use Rattle.gq_laws.proofs.Found.{contains_at, last_at}
use Rattle.gq_laws.proofs.Sessions.{Holds, known_grows, store_number, collect_number, store_file, last_number}
use Rattle.gq_laws.proofs.Invariant.{IsBodyOf, Sound, Invariant, Change, Stays, Hearing, Moving, Starting, Stopping, Jumping, change, heard_step, sessions_step, starts_along}

-- ---- messages that were sent before

-- a round is followed by one of a greater number
rises : (grid : Grid) (row : TenantRow) (t : Trace) (e : Entry) (k : ℕ) (l : OwnMessage) (task : Task) (r : ℕ) (tag : Option Tag) → Invariant grid t → Comes t k l task → Next grid (up t) (with_reply (going t k task) l) r tag e.new → round t k < r
rises grid row t e k l task r tag inv comes (ToStore odd ends r_is tag_is new_is) =
    let number = collect_number (round t k) (length (collected t k)) odd (inv.sessions k task comes.busy).standing in
    omega (arith, r_is, number, length_push (collected t k) (decided_copy (with_reply (going t k task) l)))
rises grid row t e k l task r tag inv comes (Skips v f lists odd ends skips r_is tag_is new_is) =
    let number = collect_number (round t k) (length (collected t k)) odd (inv.sessions k task comes.busy).standing in
    omega (arith, r_is, number, length_push (collected t k) (decided_copy (with_reply (going t k task) l)))
rises grid row t e k l task r tag inv comes (ToCollect v f lists even ends r_is tag_is new_is) =
    let number = (store_number (round t k) (length (collected t k)) even (inv.sessions k task comes.busy).standing).0 in
    omega (arith, r_is, number)

-- the operation and round are the session's, or earlier ones
abbrev IsUpTo : Trace → ℕ → ℕ → ℕ → Type 0
IsUpTo t k n r = (n < op t k) ⊎ ((n ≡ op t k) × (r ≤ round t k))

up_to_step : (grid : Grid) (row : TenantRow) (t : Trace) (e : Entry) (k n r : ℕ) → Follows grid row t e → Invariant grid t → IsUpTo t k n r → IsUpTo (e ∷ t) k n r
up_to_step grid row t e k n r follows inv before = go (change grid t e k (act grid row t e follows)) before
  where
    same : op (e ∷ t) k ≡ op t k → round (e ∷ t) k ≡ round t k → IsUpTo t k n r → IsUpTo (e ∷ t) k n r
    same ops rounds (inl below) = inl (omega (arith, ops))
    same ops rounds (inr here) = inr (here.0 ∙ sym ops, omega (arith, rounds, here.1))

    go : Change grid t e k → IsUpTo t k n r → IsUpTo (e ∷ t) k n r
    go (Stays u hs) h = same u.op u.round h
    go (Hearing l task comes is) h = let u = hears_unmoved t e k l is in same u.op u.round h
    go (Moving l task r' tag comes message is heard) (inl below) = rw (is, op, round) (inl below)
    go (Moving l task r' tag comes message is heard) (inr here) =
        let more = rises grid row t e k l task r' tag inv comes (next_of grid (up t) (with_reply (going t k task) l) r' tag e.new heard) in
        rw (is, op, round) (inr (here.0, omega (arith, here.1)))
    go (Starting line task is does) (inl below) = rw (is, op, round) (inl (omega arith))
    go (Starting line task is does) (inr here) = rw (is, op, round) (inl (omega (arith, here.0)))
    go (Stopping is) h = same (rw (is, op)) (rw (is, round)) h
    go (Jumping last number is) (inl below) = rw (is, op, round) (inl (omega arith))
    go (Jumping last number is) (inr here) = by (nat_le last (op t k)) refl
      where
        by : (b : Bool) → nat_le last (op t k) ≡ b → IsUpTo (e ∷ t) k n r
        by true low = let at_most = leb-true last (op t k) low in rw (is, op, round) (inr (omega (arith, here.0), here.1))
        by false high = let more = leb-false last (op t k) high in rw (is, op, round) (inl (omega (arith, here.0)))

-- where a message sent before is of the current operation and round after the entry, the entry has not moved its session
stays_for : (grid : Grid) (row : TenantRow) (t : Trace) (e : Entry) (m : OwnMessage) (task : Task) → Follows grid row t e → Invariant grid t → Sound grid t m →
    current (e ∷ t) m.session ≡ Some task → m.op ≡ op (e ∷ t) m.session → m.round ≡ round (e ∷ t) m.session → Unmoved (e ∷ t) t m.session
stays_for grid row t e m task follows inv message busy its_op its_round = go (change grid t e m.session (act grid row t e follows)) message.bounded
  where
    k : ℕ
    k = m.session

    go : Change grid t e k → IsUpTo t k m.op m.round → Unmoved (e ∷ t) t k
    go (Stays u hs) up_to = u
    go (Hearing l task' comes is) up_to = hears_unmoved t e k l is
    go (Moving l task' r tag comes message is heard) (inl below) = absurd (let now : m.op ≡ op t k = rw (is, op) at its_op in omega arith)
    go (Moving l task' r tag comes message is heard) (inr here) = absurd (
        let now : m.round ≡ r = rw (is, round) at its_round in
        let more = rises grid row t e k l task' r tag inv comes (next_of grid (up t) (with_reply (going t k task') l) r tag e.new heard) in
        omega (arith, here.1))
    go (Starting line task' is does) (inl below) = absurd (let now : m.op ≡ op t k + 1 = rw (is, op) at its_op in omega arith)
    go (Starting line task' is does) (inr here) = absurd (let now : m.op ≡ op t k + 1 = rw (is, op) at its_op in omega (arith, here.0))
    go (Stopping is) up_to = absurd (let bad : None ≡ Some task = rw (is, current) at busy in cc)
    go (Jumping last number is) up_to = absurd (let bad : None ≡ Some task = rw (is, current) at busy in cc)

old_message_sound : (grid : Grid) (row : TenantRow) (t : Trace) (e : Entry) (m : OwnMessage) → IsRun grid row t → Follows grid row t e → Invariant grid t → Contains (sent t) m → Sound grid t m → Sound grid (e ∷ t) m
old_message_sound grid row t e m run follows inv within l = record {
  bounded = up_to_step grid row t e m.session m.op m.round follows inv l.bounded;
  was_held = λ task c busy its_op its_round is.
      let u = stays_for grid row t e m task follows inv l busy its_op its_round in
      let P : Trace → Type 0 = λ z. HeldBetween grid z (e ∷ t) m.server m.file c in
      let none = kept task busy its_op its_round u (ap to_server is) in
      subst P (sym u.round_start) (held_between_more grid row e (round_start t m.session) t m.server m.file c run follows none (l.was_held task c (sym u.current ∙ busy) (its_op ∙ u.op) (its_round ∙ u.round) is));
  parity = l.parity;
  store_known = λ c is. known_grows e t m.file c (l.store_known c is);
  copied_known = λ c is. known_grows e t m.file c (l.copied_known c is);
  file = λ task busy its_op its_round.
      let u = stays_for grid row t e m task follows inv l busy its_op its_round in
      l.file task (sym u.current ∙ busy) (its_op ∙ u.op) (its_round ∙ u.round);
  store = λ task c busy its_op its_round is.
      let u = stays_for grid row t e m task follows inv l busy its_op its_round in
      l.store task c (sym u.current ∙ busy) (its_op ∙ u.op) (its_round ∙ u.round) is ∙ ap stored_copy (sym u.collected);
  stored = λ task busy its_op its_round is.
      let u = stays_for grid row t e m task follows inv l busy its_op its_round in
      let before = l.stored task (sym u.current ∙ busy) (its_op ∙ u.op) (its_round ∙ u.round) is in
      let P : List StoredCopy → Type 0 = λ z. Keeps grid (e ∷ t) m.server m.file (stored_copy z).tag in
      subst P (sym u.collected) (keeps_step grid row t e run follows m.server m.file (stored_copy (collected t m.session)).tag (kept task busy its_op its_round u (ap to_server is)) before);
}
  where
    -- a reply of the operation and round that go on was sent, so that its server's copy is not lost
    kept : (task : Task) → current (e ∷ t) m.session ≡ Some task → m.op ≡ op (e ∷ t) m.session → m.round ≡ round (e ∷ t) m.session → Unmoved (e ∷ t) t m.session → to_server m.body ≡ false → is_loss e.turn m.server m.file ≡ false
    kept task busy its_op its_round u reply =
        awaited_kept grid row t e m.session m task task follows (record { inside = within; its = refl; reply = reply; busy = sym u.current ∙ busy; same_op = its_op ∙ u.op; same_round = its_round ∙ u.round }) busy

-- ---- messages of a round

-- what its body is
body_cases : (r : ℕ) (cs : List StoredCopy) (b : Body) → b ≡ round_body r cs → ((is_collect r ≡ true) × (b ≡ Ask)) ⊎ ((is_collect r ≡ false) × (b ≡ Store (stored_copy cs)))
body_cases r cs b is = go (is_collect r) refl
  where
    go : (odd : Bool) → is_collect r ≡ odd → ((is_collect r ≡ true) × (b ≡ Ask)) ⊎ ((is_collect r ≡ false) × (b ≡ Store (stored_copy cs)))
    go true e = inl (e, is ∙ (rw e))
    go false e = inr (e, is ∙ (rw e))

-- it is as the invariant has it, where that operation is the session's own
round_message_sound : (grid : Grid) (t : Trace) (k n r : ℕ) (task : Task) (cs : List StoredCopy) (m : OwnMessage) (hs : List Reply) (start : Starts) → Shape k n r task cs m → current t k ≡ Some task → op t k ≡ n → round t k ≡ r → collected t k ≡ cs → Holds grid t task r hs cs start → Sound grid t m
round_message_sound grid t k n r task cs m hs start shape busy op_is round_is collected_is h = go (body_cases r cs m.body shape.body)
  where
    own : (task' : Task) → current t m.session ≡ Some task' → task ≡ task'
    own task' is = let both : Some task ≡ Some task' = sym busy ∙ ap (current t) (sym shape.session) ∙ is in cc

    file : (task' : Task) → current t m.session ≡ Some task' → m.file ≡ round_file task' m.round
    file task' is = shape.file ∙ ap (λ z. round_file z r) (own task' is) ∙ ap (round_file task') (sym shape.round)

    bounded : IsUpTo t m.session m.op m.round
    bounded = inr (shape.op ∙ sym op_is ∙ ap (op t) (sym shape.session), omega (arith, shape.round, round_is, ap (round t) shape.session))

    cs_is : stored_copy cs ≡ stored_copy (collected t m.session)
    cs_is = ap stored_copy (sym collected_is ∙ ap (collected t) (sym shape.session))

    last : is_collect r ≡ false → IsKnown t m.file (stored_copy cs)
    last even =
        let number = store_number r (length cs) even h.standing in
        let place = last_at cs number.1 in
        let P : File → Type 0 = λ f. IsKnown t f (stored_copy cs) in
        subst P (sym (shape.file ∙ store_file task r place.0 (last_number r (length cs) place.0 number.0 place.1))) (h.known place.0 (stored_copy cs) place.2)

    go : ((is_collect r ≡ true) × (m.body ≡ Ask)) ⊎ ((is_collect r ≡ false) × (m.body ≡ Store (stored_copy cs))) → Sound grid t m
    go (inl ask) = record {
      bounded = bounded;
      was_held = λ task' c is its_op its_round body. absurd (let bad : Ask ≡ Copy c = sym ask.1 ∙ body in cc);
      parity = let P : Body → Type 0 = λ b. IsBodyOf b (is_collect m.round) in subst P (sym ask.1) (ap is_collect shape.round ∙ ask.0);
      store_known = λ c is. absurd (let bad : Ask ≡ Store c = sym ask.1 ∙ is in cc);
      copied_known = λ c is. absurd (let bad : Ask ≡ Copy c = sym ask.1 ∙ is in cc);
      file = λ task' is its_op its_round. file task' is;
      store = λ task' c is its_op its_round body. absurd (let bad : Ask ≡ Store c = sym ask.1 ∙ body in cc);
      stored = λ task' is its_op its_round body. absurd (let bad : Ask ≡ Stored = sym ask.1 ∙ body in cc);
    }
    go (inr store) = record {
      bounded = bounded;
      was_held = λ task' c is its_op its_round body. absurd (let bad : Store (stored_copy cs) ≡ Copy c = sym store.1 ∙ body in cc);
      parity = let P : Body → Type 0 = λ b. IsBodyOf b (is_collect m.round) in subst P (sym store.1) (ap is_collect shape.round ∙ store.0);
      store_known = λ c is. let both : Store (stored_copy cs) ≡ Store c = sym store.1 ∙ is in let same : stored_copy cs ≡ c = cc in let P : StoredCopy → Type 0 = λ z. IsKnown t m.file z in subst P same (last store.0);
      copied_known = λ c is. absurd (let bad : Store (stored_copy cs) ≡ Copy c = sym store.1 ∙ is in cc);
      file = λ task' is its_op its_round. file task' is;
      store = λ task' c is its_op its_round body. let both : Store (stored_copy cs) ≡ Store c = sym store.1 ∙ body in let same : stored_copy cs ≡ c = cc in sym same ∙ cs_is;
      stored = λ task' is its_op its_round body. absurd (let bad : Store (stored_copy cs) ≡ Stored = sym store.1 ∙ body in cc);
    }

-- ---- what a store leaves

held_store : (t : Trace) (n : ℕ) (message : Option OwnMessage) (said : Told) (new : List OwnMessage) (l : OwnMessage) (c : StoredCopy) → message ≡ Some l → l.body ≡ Store c → serves (up t) (lacks t) l.server l.file ≡ true →
    held (record { turn = Own (Deliver n); message = message; told = said; new = new } ∷ t) l.server l.file ≡ newer_of (held t l.server l.file) c
held_store t n message said new l c is body serving =
    let list : brought (record { turn = Own (Deliver n); message = message; told = said; new = new } ∷ t) l.server l.file ≡ brought t l.server l.file ++ c ∷ [] =
    rw (is, body, serving, eq-eqb l.server l.server refl, eq-eqb l.file.volume l.file.volume refl, eq-eqb l.file.place l.file.place refl) in
    ap (λ z. greatest (first_copy ∷ z)) list ∙ greatest-push first_copy c (brought t l.server l.file)

held_stored : (grid : Grid) (row : TenantRow) (t : Trace) (e : Entry) (l : OwnMessage) (c : StoredCopy) → Follows grid row t e → e.message ≡ Some l → l.body ≡ Store c → serves (up t) (lacks t) l.server l.file ≡ true → held (e ∷ t) l.server l.file ≡ newer_of (held t l.server l.file) c
held_stored grid row t e l c follows is body serving =
    let by = delivers_by grid row t e.turn e.message l follows.message is in
    let P : Turn → Type 0 = λ z. held (record { turn = z; message = e.message; told = e.told; new = e.new } ∷ t) l.server l.file ≡ newer_of (held t l.server l.file) c in
    subst P (sym by.1) (held_store t by.0 e.message e.told e.new l c is body serving)

-- what a server holds of a file to which a store may have come: what it held, or a copy that the store brought
stored_from : (t : Trace) (message : Option OwnMessage) (s : ℕ) (file : File) → let now : StoredCopy = copy_of (stored_by (serves (up t) (lacks t)) message (brought t) s file) in
    (now ≡ held t s file) ⊎ ((l : OwnMessage) × (c : StoredCopy) × (message ≡ Some l) × (l.body ≡ Store c) × (l.file ≡ file) × (now ≡ newer_of (held t s file) c))
stored_from t message s file = go message refl
  where
    now : Option OwnMessage → List StoredCopy
    now w = stored_by (serves (up t) (lacks t)) w (brought t) s file

    Result : Type 0
    Result = (copy_of (now message) ≡ held t s file) ⊎ ((l : OwnMessage) × (c : StoredCopy) × (message ≡ Some l) × (l.body ≡ Store c) × (l.file ≡ file) × (copy_of (now message) ≡ newer_of (held t s file) c))

    same : now message ≡ brought t s file → Result
    same list = inl (ap copy_of list)

    by_test : (l : OwnMessage) (c : StoredCopy) → message ≡ Some l → l.body ≡ Store c → (b : Bool) → (eqb l.server s && is_file l.file file && serves (up t) (lacks t) s file) ≡ b → Result
    by_test l c is body false fails = same (rw (is, body, fails))
    by_test l c is body true holds =
        let first = and_parts (eqb l.server s && is_file l.file file) (serves (up t) (lacks t) s file) holds in
        let second = and_parts (eqb l.server s) (is_file l.file file) first.0 in
        let files = and_parts (eqb l.file.volume file.volume) (eqb l.file.place file.place) second.1 in
        let file_is : l.file ≡ file = λ i. record { volume = eqb-true l.file.volume file.volume files.0 i; place = eqb-true l.file.place file.place files.1 i } in
        let list : now message ≡ brought t s file ++ c ∷ [] = rw (is, body, holds) in
        inr (l, c, is, body, file_is, ap copy_of list ∙ greatest-push first_copy c (brought t s file))

    by_body : (l : OwnMessage) → message ≡ Some l → (b : Body) → l.body ≡ b → Result
    by_body l is Ask body = same (rw (is, body))
    by_body l is (Copy c) body = same (rw (is, body))
    by_body l is Stored body = same (rw (is, body))
    by_body l is (Store c) body = by_test l c is body (eqb l.server s && is_file l.file file && serves (up t) (lacks t) s file) refl

    go : (w : Option OwnMessage) → message ≡ w → Result
    go None is = same (rw is)
    go (Some l) is = by_body l is l.body refl

-- and of one whose copy is lost: the first copy
held_lost : (turn : Turn) (message : Option OwnMessage) (said : Told) (new : List OwnMessage) (t : Trace) (s : ℕ) (file : File) → is_loss turn s file ≡ true → held (record { turn = turn; message = message; told = said; new = new } ∷ t) s file ≡ first_copy
held_lost (Losing server volumes) message said new t s file lost =
    let none : brought (record { turn = Losing server volumes; message = message; told = said; new = new } ∷ t) s file ≡ [] = rw lost in
    ap copy_of none
held_lost (Serving (ServerLost n)) message said new t s file lost =
    let none : brought (record { turn = Serving (ServerLost n); message = message; told = said; new = new } ∷ t) s file ≡ [] = rw lost in
    ap copy_of none
held_lost (Serving (ServerRepaired n)) message said new t s file lost = absurd (true≢false (sym lost))
held_lost (Serving (Down n)) message said new t s file lost = absurd (true≢false (sym lost))
held_lost (Serving (Up n)) message said new t s file lost = absurd (true≢false (sym lost))
held_lost (Serving BadServer) message said new t s file lost = absurd (true≢false (sym lost))
held_lost (Own line) message said new t s file lost = absurd (true≢false (sym lost))
held_lost (Leaping k last number) message said new t s file lost = absurd (true≢false (sym lost))
held_lost (Returning server f peer copy) message said new t s file lost = absurd (true≢false (sym lost))

-- a message that is delivered was sent
delivered_sent : (t : Trace) (turn : Turn) (l : OwnMessage) → delivered t turn ≡ Some l → Contains (sent t) l
delivered_sent t (Own (Deliver n)) l is = contains_at (sent t) n l (message_sent t n l is)
delivered_sent t _ l is = absurd (let bad : None ≡ Some l = is in cc)

held_step : (grid : Grid) (row : TenantRow) (t : Trace) (e : Entry) → Follows grid row t e → Invariant grid t → (s : ℕ) (file : File) → IsKnown (e ∷ t) file (held (e ∷ t) s file)
held_step grid row t e follows inv s file = by (copying e.turn e.told t s file)
  where
    P : StoredCopy → Type 0
    P z = IsKnown (e ∷ t) file z

    old : P (held t s file)
    old = known_grows e t file (held t s file) (inv.held_known s file)

    pick : (before c : StoredCopy) → P before → P c → (b : Bool) → is_less before.tag c.tag ≡ b → P (newer_of before c)
    pick before c was is true less = rw less is
    pick before c was is false less = rw less was

    stored : StoredCopy
    stored = copy_of (stored_by (serves (up t) (lacks t)) e.message (brought t) s file)

    go : (stored ≡ held t s file) ⊎ ((l : OwnMessage) × (c : StoredCopy) × (e.message ≡ Some l) × (l.body ≡ Store c) × (l.file ≡ file) × (stored ≡ newer_of (held t s file) c)) → P stored
    go (inl same) = subst P (sym same) old
    go (inr (l, c, message, body, file_is, is)) =
        let within = delivered_sent t e.turn l (sym follows.message ∙ message) in
        let Q : File → Type 0 = λ f. IsKnown (e ∷ t) f c in
        let known : P c = subst Q file_is (known_grows e t l.file c ((inv.messages l within).store_known c body)) in
        subst P (sym is) (pick (held t s file) c old known (is_less (held t s file).tag c.tag) refl)

    by : Copying e.turn e.told t s file → P (held (e ∷ t) s file)
    by (Loses lost) = subst P (sym (held_lost e.turn e.message e.told e.new t s file lost)) (inl refl)
    by (Gains g) =
        let seen = given_offered grid row t e s file follows g in
        let known : P (gift g) = known_grows e t file (gift g) (inv.offered_known s (giver g) file (gift g) seen.among) in
        subst P (sym (held_given e.turn e.message e.told e.new t s file follows.message g)) (pick first_copy (gift g) (inl refl) known (is_less first_copy.tag (gift g).tag) refl)
    by (Leaves none lack left) = subst P (sym (ap copy_of (left (stored_by (serves (up t) (lacks t)) e.message (brought t))))) (go (stored_from t e.message s file))

-- what peers have offered since a loss
offered_step : (grid : Grid) (row : TenantRow) (t : Trace) (e : Entry) → Follows grid row t e → Invariant grid t → (s peer : ℕ) (file : File) (c : StoredCopy) → Contains (offered (e ∷ t) s file peer) c → IsKnown (e ∷ t) file c
offered_step grid row t e follows inv s peer file c within = go (Contains-append_cases _ _ c within)
  where
    go : Contains (if is_loss e.turn s file then [] else offered t s file peer) c ⊎ Contains (if lacks (e ∷ t) peer file then [] else held (e ∷ t) peer file ∷ []) c → IsKnown (e ∷ t) file c
    go (inl old) = by (is_loss e.turn s file) refl
      where
        by : (b : Bool) → is_loss e.turn s file ≡ b → IsKnown (e ∷ t) file c
        by true lost = absurd (let empty : Contains [] c = rw lost at old in omega (arith, empty.1))
        by false none = let inside : Contains (offered t s file peer) c = rw none at old in known_grows e t file c (inv.offered_known s peer file c inside)
    go (inr new) = by (lacks (e ∷ t) peer file) refl
      where
        by : (b : Bool) → lacks (e ∷ t) peer file ≡ b → IsKnown (e ∷ t) file c
        by true none = absurd (let empty : Contains [] c = rw none at new in omega (arith, empty.1))
        by false had =
            let one : Contains (held (e ∷ t) peer file ∷ []) c = rw had at new in
            let P : StoredCopy → Type 0 = λ z. IsKnown (e ∷ t) file z in
            subst P (one_is (held (e ∷ t) peer file) c one) (held_step grid row t e follows inv peer file)

-- ---- messages that a server sends back

reply_sound : (grid : Grid) (row : TenantRow) (t : Trace) (e : Entry) (l : OwnMessage) → IsRun grid row t → Follows grid row t e → Invariant grid t → Contains (sent t) l → to_server l.body ≡ true → serves (up t) (lacks t) l.server l.file ≡ true → e.message ≡ Some l → Sound grid (e ∷ t) (back t l)
reply_sound grid row t e l run follows inv within asks serving message = go l.body refl
  where
    old : Sound grid t l
    old = inv.messages l within

    copy : StoredCopy
    copy = held t l.server l.file

    -- the server has the file, before the entry and behind it
    had : lacks t l.server l.file ≡ false
    had = not-true (lacks t l.server l.file) (and_parts (not (lacks t l.server l.file)) (up t l.server) serving).0

    had_now : lacks (e ∷ t) l.server l.file ≡ false
    had_now = ap (λ z. lacks_by z e.told (lacks t) l.server l.file) (delivers_by grid row t e.turn e.message l follows.message message).1 ∙ had

    none : is_loss e.turn l.server l.file ≡ false
    none = ap (λ z. is_loss z l.server l.file) (delivers_by grid row t e.turn e.message l follows.message message).1

    file : (task : Task) → current (e ∷ t) l.session ≡ Some task → l.op ≡ op (e ∷ t) l.session → l.round ≡ round (e ∷ t) l.session → l.file ≡ round_file task l.round
    file task busy its_op its_round =
        let u = stays_for grid row t e l task follows inv old busy its_op its_round in
        old.file task (sym u.current ∙ busy) (its_op ∙ u.op) (its_round ∙ u.round)

    kept : (task : Task) (c : StoredCopy) → l.body ≡ Store c → current (e ∷ t) l.session ≡ Some task → l.op ≡ op (e ∷ t) l.session → l.round ≡ round (e ∷ t) l.session → Keeps grid (e ∷ t) l.server l.file (stored_copy (collected (e ∷ t) l.session)).tag
    kept task c body busy its_op its_round =
        let u = stays_for grid row t e l task follows inv old busy its_op its_round in
        let same : c ≡ stored_copy (collected (e ∷ t) l.session) = old.store task c (sym u.current ∙ busy) (its_op ∙ u.op) (its_round ∙ u.round) body ∙ ap stored_copy (sym u.collected) in
        let now : held (e ∷ t) l.server l.file ≡ newer_of copy c = held_stored grid row t e l c follows message body serving in
        let P : StoredCopy → StoredCopy → Type 0 = λ a b. IsAtMost a.tag b.tag in
        had_keeps grid (e ∷ t) l.server l.file (stored_copy (collected (e ∷ t) l.session)).tag had_now (subst (λ a. P a (held (e ∷ t) l.server l.file)) same (subst (λ b. P c b) (sym now) (newer_of-right copy c)))

    bounded : IsUpTo (e ∷ t) l.session l.op l.round
    bounded = up_to_step grid row t e l.session l.op l.round follows inv old.bounded

    now_held : (task : Task) → current (e ∷ t) l.session ≡ Some task → l.op ≡ op (e ∷ t) l.session → l.round ≡ round (e ∷ t) l.session → HeldBetween grid (round_start (e ∷ t) l.session) (e ∷ t) l.server l.file copy
    now_held task busy its_op its_round =
        let u = stays_for grid row t e l task follows inv old busy its_op its_round in
        let P : Trace → Type 0 = λ z. Extends t z in
        record {
          moment = t;
          since = subst P (sym u.round_start) (starts_along t l.session).1;
          until = (e ∷ [], refl);
          held_then = refl;
          had = had;
          kept = keeps_step grid row t e run follows l.server l.file copy.tag none (had_keeps grid t l.server l.file copy.tag had (at_most_refl copy.tag));
        }

    go : (b : Body) → l.body ≡ b → Sound grid (e ∷ t) (back t l)
    go (Copy c) body = absurd (true≢false (sym asks ∙ ap to_server body))
    go Stored body = absurd (true≢false (sym asks ∙ ap to_server body))
    go Ask body =
        let is : (back t l).body ≡ Copy copy = back_to_ask t l body in
        let B : Body → Type 0 = λ b. IsBodyOf b (is_collect l.round) in
        record {
          bounded = bounded;
          was_held = λ task c busy its_op its_round h. let both : Copy copy ≡ Copy c = sym is ∙ h in let same : copy ≡ c = cc in let P : StoredCopy → Type 0 = λ z. HeldBetween grid (round_start (e ∷ t) l.session) (e ∷ t) l.server l.file z in subst P same (now_held task busy its_op its_round);
          parity = subst B (sym is) (let asked : IsBodyOf Ask (is_collect l.round) = subst B body old.parity in asked);
          store_known = λ c h. absurd (let bad : Copy copy ≡ Store c = sym is ∙ h in cc);
          copied_known = λ c h. let both : Copy copy ≡ Copy c = sym is ∙ h in let same : copy ≡ c = cc in let P : StoredCopy → Type 0 = λ z. IsKnown (e ∷ t) l.file z in subst P same (known_grows e t l.file copy (inv.held_known l.server l.file));
          file = file;
          store = λ task c busy its_op its_round h. absurd (let bad : Copy copy ≡ Store c = sym is ∙ h in cc);
          stored = λ task busy its_op its_round h. absurd (let bad : Copy copy ≡ Stored = sym is ∙ h in cc);
        }
    go (Store d) body =
        let is : (back t l).body ≡ Stored = back_to_store t l d body in
        let B : Body → Type 0 = λ b. IsBodyOf b (is_collect l.round) in
        record {
          bounded = bounded;
          was_held = λ task c busy its_op its_round h. absurd (let bad : Stored ≡ Copy c = sym is ∙ h in cc);
          parity = subst B (sym is) (let stores : IsBodyOf (Store d) (is_collect l.round) = subst B body old.parity in stores);
          store_known = λ c h. absurd (let bad : Stored ≡ Store c = sym is ∙ h in cc);
          copied_known = λ c h. absurd (let bad : Stored ≡ Copy c = sym is ∙ h in cc);
          file = file;
          store = λ task c busy its_op its_round h. absurd (let bad : Stored ≡ Store c = sym is ∙ h in cc);
          stored = λ task busy its_op its_round h. kept task d body busy its_op its_round;
        }

-- ---- the messages after an entry

new_messages_sound : (grid : Grid) (row : TenantRow) (t : Trace) (e : Entry) → IsRun grid row t → Follows grid row t e → Invariant grid t → (m : OwnMessage) → Contains e.new m → Sound grid (e ∷ t) m
new_messages_sound grid row t e run follows inv m within = go (act grid row t e follows)
  where
    none : e.new ≡ [] → Sound grid (e ∷ t) m
    none is = absurd (let inside : Contains [] m = rw is at within in omega (arith, inside.1))

    sessions : (k : ℕ) (task : Task) → current (e ∷ t) k ≡ Some task → Holds grid (e ∷ t) task (round (e ∷ t) k) (heard (e ∷ t) k) (collected (e ∷ t) k) (starts (e ∷ t) k)
    sessions = sessions_step grid row t e run follows inv

    -- a message of the session's operation as the entry leaves it
    ours : (k n r : ℕ) (task : Task) (cs : List StoredCopy) → Shape k n r task cs m → current (e ∷ t) k ≡ Some task → op (e ∷ t) k ≡ n → round (e ∷ t) k ≡ r → collected (e ∷ t) k ≡ cs → Sound grid (e ∷ t) m
    ours k n r task cs shape busy op_is round_is collected_is =
        let P : ℕ → List StoredCopy → Type 0 = λ x y. Holds grid (e ∷ t) task x (heard (e ∷ t) k) y (starts (e ∷ t) k) in
        round_message_sound grid (e ∷ t) k n r task cs m (heard (e ∷ t) k) (starts (e ∷ t) k) shape busy op_is round_is collected_is (subst (λ y. P r y) collected_is (subst (λ x. P x (collected (e ∷ t) k)) round_is (sessions k task busy)))

    in_new : (ms : List OwnMessage) → e.new ≡ ms → Contains ms m
    in_new ms is = let P : List OwnMessage → Type 0 = λ z. Contains z m in subst P is within

    turned : (k : ℕ) (l : OwnMessage) (task : Task) (r : ℕ) (tag : Option Tag) → Comes t k l task → deed_on t k e ≡ Moves l r tag → Next grid (up t) (with_reply (going t k task) l) r tag e.new → Sound grid (e ∷ t) m
    turned k l task r tag comes is (ToStore odd ends r_is tag_is new_is) =
        ours k (op t k) r task (collected t k ++ decided_copy (with_reply (going t k task) l) ∷ []) (shape_round grid (up t) (in_round (with_decided (with_reply (going t k task) l)) r) m (in_new _ new_is)) (rw (is, current) comes.busy) (rw (is, op)) (rw (is, round)) (rw (is, collected, comes.busy, odd))
    turned k l task r tag comes is (Skips v f lists odd ends skips r_is tag_is new_is) =
        ours k (op t k) r task (collected t k ++ decided_copy (with_reply (going t k task) l) ∷ []) (shape_round grid (up t) (in_round (with_decided (with_reply (going t k task) l)) r) m (in_new _ new_is)) (rw (is, current) comes.busy) (rw (is, op)) (rw (is, round)) (rw (is, collected, comes.busy, odd))
    turned k l task r tag comes is (ToCollect v f lists even ends r_is tag_is new_is) =
        ours k (op t k) r task (collected t k) (shape_round grid (up t) (in_round (with_reply (going t k task) l) r) m (in_new _ new_is)) (rw (is, current) comes.busy) (rw (is, op)) (rw (is, round)) (rw (is, collected, comes.busy, even))

    by : (k : ℕ) → Doing grid t e k → Sound grid (e ∷ t) m
    by k (Requests line task first turn does is said new) = ours k (op t k + 1) 1 task [] (shape_round grid (up t) (first_round t k task) m (in_new _ new)) (rw (is, current) does) (rw (is, op)) (rw (is, round)) (rw (is, collected))
    by k (Serves l n inside its asks serving message is said new) =
        let same : back t l ≡ m = only (back t l) m (in_new _ new) in
        let P : OwnMessage → Type 0 = λ z. Sound grid (e ∷ t) z in
        subst P same (reply_sound grid row t e l run follows inv inside asks serving message)
    by k (Notes l task comes is said new) = none new
    by k (Turns l task r tag first comes message is said heard) = turned k l task r tag comes is (next_of grid (up t) (with_reply (going t k task) l) r tag e.new heard)
    by k (Finishes l task outcome comes is said new heard) = none new
    by k (Resends task set first busy is said new) =
        let u = elsewhere_unmoved t e k is in
        ours k (op t k) (round t k) task (collected t k) (shape_of grid (going t k task) set m (in_new _ new)) (u.current ∙ busy) u.op u.round u.collected
    by k (Abandons is said new) = none new
    by k (GivesUp is passive new) = none new
    by k (Jumps last number idle is passive new) = none new
    by k (Silent is passive new) = none new

    go : Act grid t e → Sound grid (e ∷ t) m
    go a = by a.k a.what

pub invariant_step : (grid : Grid) (row : TenantRow) (t : Trace) (e : Entry) → IsRun grid row t → Follows grid row t e → Invariant grid t → Invariant grid (e ∷ t)
invariant_step grid row t e run follows inv = record {
  sessions = sessions_step grid row t e run follows inv;
  heard_sent = heard_step grid row t e follows inv;
  messages = λ m within. message m (Contains-append_cases (sent t) e.new m within);
  held_known = held_step grid row t e follows inv;
  offered_known = offered_step grid row t e follows inv;
}
  where
    message : (m : OwnMessage) → Contains (sent t) m ⊎ Contains e.new m → Sound grid (e ∷ t) m
    message m (inl old) = old_message_sound grid row t e m run follows inv old (inv.messages m old)
    message m (inr new) = new_messages_sound grid row t e run follows inv m new

pub invariant_along : (grid : Grid) (row : TenantRow) (t : Trace) → IsRun grid row t → Invariant grid t
invariant_along grid row [] run = record {
  sessions = λ k task busy. absurd (let bad : None ≡ Some task = busy in cc);
  heard_sent = λ k task x busy within. absurd (let bad : None ≡ Some task = busy in cc);
  messages = λ m within. absurd (omega (arith, within.1));
  held_known = λ s file. inl refl;
  offered_known = λ s peer file c within. absurd (omega (arith, within.1));
}
invariant_along grid row (e ∷ t) run = invariant_step grid row t e run.0 run.1 (invariant_along grid row t run.0)
