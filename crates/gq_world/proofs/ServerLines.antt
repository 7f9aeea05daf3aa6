-- What a server line does to the tables.
use Rattle.std.proofs.Common.{◌≡◌, ◌≢◌, ◌∙◌, ℕ, ◌+◌, ◌*◌, ◌<◌, ◌≤◌, Bool, true, false, ◌&&◌, ◌||◌, not, List, [], ◌∷◌, ◌++◌, length, Option, Some, None, refl, sym, ap, subst, arith, inl, inr, append-nil, All}
use Rattle.std.proofs.Math.Path.{fun_ext}
use Rattle.std.specs.Prelude.{IsSome, is_some, if◌then◌else◌, nat_lt, ◌==◌, find, fold, option_map}
use Rattle.std.proofs.lemmas.Bool.{cases_Bool, cases_eq, true≢false, eq-eqb, ne_eqb, eqb-true}
use Rattle.std.proofs.lemmas.Bool.Decides.{nat_tests}
use Rattle.std.proofs.lemmas.List.Elements.{All-head, All-tail, All-weaker}
use Rattle.gq_grid.specs.Grid.{Grid, Servers, below, with_server, without_server}
use Rattle.gq_grid.specs.Sets.{servers}
use Rattle.gq_grid.specs.declared.ServerSet.{ServerSet}
use Rattle.gq_tag.specs.declared.StoredCopy.{StoredCopy}
use Rattle.gq_tag.specs.Tag.{File, OwnMessage, file_of, message_of, first_copy, newer_of, is_less}
use Rattle.gq_tag.proofs.Order.{IsAtMost, at_most_refl, at_most_trans, at_most_less, newer_of-left, newer_of-at_most}
use Rattle.gq_desk.specs.CheckedPlan.{row_at}
use Rattle.gq_desk.specs.Volumes.{Account, account_at}
use Rattle.gq_phase.specs.declared.operation.Operation.{Operation as Code}
use Rattle.gq_phase.specs.Phase.{Task}
use Rattle.gq_phase.specs.Quorums.{are_peers}
use Rattle.gq_store.specs.Copies.{StoreCopies, store_accounts, copy_at}
use Rattle.gq_model.specs.declared.events.Event.TheVariants.{Server}
use Rattle.gq_model.specs.declared.events.ServerLine.{ServerLine}
use Rattle.gq_model.specs.declared.events.ServerLine.TheVariants.{Down, Up, Lost as ServerLost, Repaired as ServerRepaired}
use Rattle.gq_model.specs.Told.{Told, ServerOk, Repaired}
use Rattle.gq_model.specs.Trace.{Serving, State, Session, Known, Ends, Elsewhere, changed, up_by, gone_by, session_by, operation_with, own_message_at, held, counts_on, copy_of}
use Rattle.gq_model.specs.Lone.{quiet, entry_of, change_refusal, peer_among, outside, server_told, is_refusal}
use Rattle.gq_model.proofs.Peers.{comes_kept}
use Rattle.gq_laws.proofs.Holding.{greatest-cons}
use Rattle.gq_world.specs.declared.sessions.SessionState.{SessionState}
use Rattle.gq_world.specs.Tables.{Tables, Agrees, SessionStateAgrees, Sits, up_in, gone_in, store_at, session_states_at, session_state_in}
use Rattle.gq_world.specs.Asking.{rested_session_state}
use Rattle.gq_world.specs.SessionStates.{left_session_state}
use Rattle.gq_world.specs.Losses.{Loses, Repairs, HasPeer}
use Rattle.gq_world.specs.Machine.{state_after_turn, Advances}
use Rattle.gq_world.proofs.Bounding.{below_all}
use Rattle.gq_world.proofs.RetriesAndAbandons.{rests_at}
use Rattle.gq_world.proofs.Serving.{up_here, session_state_same}

-- ---- any line

-- what is told to the line
abbrev pub told_in : Tables → ServerLine → Told
told_in w line = server_told w.plan.grid (up_in w.plan.grid w.up) (gone_in w.plan.grid w.kept) line

-- what is known after it, where it is accepted
abbrev pub served_state : State → ServerLine → Told → State
served_state state line told = changed (entry_of state (Serving line) (quiet told)) state

told_same : (w : Tables) (u : ℕ) (line : ServerLine) (known : Known) → Agrees w u known → server_told w.plan.grid known.state.up known.state.gone line ≡ told_in w line
told_same w u line known agrees =
    ap (λ s. server_told w.plan.grid s known.state.gone line) (sym agrees.up) ∙ ap (λ s. server_told w.plan.grid (up_in w.plan.grid w.up) s line) (sym agrees.gone)

-- it is accepted
accepted_advances : (w new : Tables) (line : ServerLine) → is_refusal (told_in w line) ≡ false → new.plan ≡ w.plan →
    up_in new.plan.grid new.up ≡ up_by (Serving line) (up_in w.plan.grid w.up) → gone_in new.plan.grid new.kept ≡ gone_by (Serving line) (gone_in w.plan.grid w.kept) →
    ((u : ℕ) (known : Known) → Agrees w u known → Agrees new u (record known { state = served_state known.state line (told_in w line) })) → Advances w (Server line) new
accepted_advances w new line fine plan up gone agree = record {
  plan = plan;
  servers = rw fine up;
  gone = rw fine gone;
  tenants = λ u within known most bounded agrees.
      let K : Told → Known = λ told. record known { state = state_after_turn known.state (Serving line) (quiet told) } in
      let after : K (told_in w line) ≡ record known { state = served_state known.state line (told_in w line) } = rw fine refl in
      subst (Agrees new u) (sym (ap K (told_same w u line known agrees) ∙ after)) (agree u known agrees);
}

-- it is refused
pub still_advances : (w : Tables) (line : ServerLine) → is_refusal (told_in w line) ≡ true → Advances w (Server line) w
still_advances w line refused = record {
  plan = refl;
  servers = rw refused refl;
  gone = rw refused refl;
  tenants = λ u within known most bounded agrees.
      let K : Told → Known = λ told. record known { state = state_after_turn known.state (Serving line) (quiet told) } in
      let after : K (told_in w line) ≡ known = rw refused refl in
      subst (Agrees w u) (sym (ap K (told_same w u line known agrees) ∙ after)) agrees;
}

-- what the tables have after it, where they have what differs
served_agrees : (w : Tables) (up kept : ServerSet) (stores : List StoreCopies) (session_states : List (List SessionState)) (u : ℕ) (known : Known) (line : ServerLine) (told : Told) → Agrees w u known →
    up_in w.plan.grid up ≡ up_by (Serving line) known.state.up → gone_in w.plan.grid kept ≡ gone_by (Serving line) known.state.gone →
    ((s : ℕ) → s < w.plan.grid.rows * w.plan.grid.cols → account_at (store_accounts (store_at stores s)) u ≡ account_at w.desk u) →
    ((s : ℕ) → s < w.plan.grid.rows * w.plan.grid.cols → (file : File) → copy_at (store_at stores s) (file_of u file) ≡ held (served_state known.state line told) s file) →
    ((s : ℕ) (file : File) → (served_state known.state line told).lacks s file ≡ (served_state known.state line told).gone s) →
    ((s : ℕ) → (served_state known.state line told).gone s ≡ true → (served_state known.state line told).up s ≡ false) →
    ((place : ℕ) → place < (row_at w.plan u).sessions → SessionStateAgrees w.plan.grid u (place + 1) (session_state_in (session_states_at session_states u) place) (served_state known.state line told)) →
    Agrees (record w { up = up; kept = kept; stores = stores; session_states = session_states }) u (record known { state = served_state known.state line told })
served_agrees w up kept stores session_states u known line told agrees ups gones accounts copies lacking down sits =
    let nothing : known.state.sent ++ [] ≡ known.state.sent = append-nil known.state.sent in
    record {
      lines = agrees.lines;
      up = ups;
      gone = gones;
      account = agrees.account;
      sent = agrees.sent ∙ ap length (sym nothing);
      lost = λ k past. agrees.lost k (subst (λ (l : List OwnMessage). length l ≤ k) nothing past);
      messages = λ k. agrees.messages k ∙ ap (λ l. option_map (message_of u) (own_message_at (record known.state { sent = l }) k)) (sym nothing);
      accounts = accounts;
      copies = copies;
      lacking = lacking;
      down = down;
      session_states = sits;
    }

-- a session that it leaves as it was
session_state_left : (grid : Grid) (t k : ℕ) (session_state : SessionState) (state : State) (line : ServerLine) (told : Told) → (served_state state line told).session k ≡ state.session k → SessionStateAgrees grid t k session_state state → SessionStateAgrees grid t k session_state (served_state state line told)
session_state_left grid t k session_state state line told same agrees = session_state_same grid t k session_state state (served_state state line told) same (λ server. ap (λ l. counts_on l k (state.session k) server) (append-nil state.sent)) agrees

-- ---- the sets of the tables

without : (was b : Bool) → ((was && not b) ≡ (if b then false else was)) × (not (was && not b) ≡ (if b then true else not was))
without true true = (refl, refl)
without true false = (refl, refl)
without false true = (refl, refl)
without false false = (refl, refl)

with_one : (was b : Bool) → ((was || b) ≡ (if b then true else was)) × (not (was || b) ≡ (if b then false else not was))
with_one true true = (refl, refl)
with_one true false = (refl, refl)
with_one false true = (refl, refl)
with_one false false = (refl, refl)

-- a server of the grid is taken out of the set
out_at : (grid : Grid) (old new : ServerSet) (n : ℕ) → servers new ≡ without_server n (servers old) → n < grid.rows * grid.cols → (s : ℕ) →
    (up_in grid new s ≡ (if n == s then false else up_in grid old s)) × (gone_in grid new s ≡ (if n == s then true else gone_in grid old s))
out_at grid old new n removed within s = elim (cases_Bool (nat_lt s (grid.rows * grid.cols))) [
  | inl is ↦ (
      let now : servers new s ≡ (servers old s && not (n == s)) = ap (λ (f : Servers). f s) removed in
      rw (is, now) (without (servers old s) (n == s)))
  | inr is ↦ (
      let other : (n == s) ≡ false = ne_eqb n s (λ e. let low : nat_lt s (grid.rows * grid.cols) ≡ true = grind (arith, nat_tests) in absurd (true≢false (sym low ∙ is))) in
      rw (is, other) (refl, refl))
]

-- it is put into it
in_at : (grid : Grid) (old new : ServerSet) (n : ℕ) → servers new ≡ with_server n (servers old) → n < grid.rows * grid.cols → (s : ℕ) →
    (up_in grid new s ≡ (if n == s then true else up_in grid old s)) × (gone_in grid new s ≡ (if n == s then false else gone_in grid old s))
in_at grid old new n added within s = elim (cases_Bool (nat_lt s (grid.rows * grid.cols))) [
  | inl is ↦ (
      let now : servers new s ≡ (servers old s || (n == s)) = ap (λ (f : Servers). f s) added in
      rw (is, now) (with_one (servers old s) (n == s)))
  | inr is ↦ (
      let other : (n == s) ≡ false = ne_eqb n s (λ e. let low : nat_lt s (grid.rows * grid.cols) ≡ true = grind (arith, nat_tests) in absurd (true≢false (sym low ∙ is))) in
      rw (is, other) (refl, refl))
]

pub down_in : (grid : Grid) (old new : ServerSet) (n : ℕ) → servers new ≡ without_server n (servers old) → n < grid.rows * grid.cols → up_in grid new ≡ up_by (Serving (Down n)) (up_in grid old)
down_in grid old new n removed within = fun_ext (λ s. (out_at grid old new n removed within s).0)

pub lost_in : (grid : Grid) (old new : ServerSet) (n : ℕ) → servers new ≡ without_server n (servers old) → n < grid.rows * grid.cols → gone_in grid new ≡ gone_by (Serving (ServerLost n)) (gone_in grid old)
lost_in grid old new n removed within = fun_ext (λ s. (out_at grid old new n removed within s).1)

pub up_again : (grid : Grid) (old new : ServerSet) (n : ℕ) → servers new ≡ with_server n (servers old) → n < grid.rows * grid.cols → up_in grid new ≡ up_by (Serving (Up n)) (up_in grid old)
up_again grid old new n added within = fun_ext (λ s. (in_at grid old new n added within s).0)

pub kept_again : (grid : Grid) (old new : ServerSet) (n : ℕ) → servers new ≡ with_server n (servers old) → n < grid.rows * grid.cols → gone_in grid new ≡ gone_by (Serving (ServerRepaired n)) (gone_in grid old)
kept_again grid old new n added within = fun_ext (λ s. (in_at grid old new n added within s).1)

-- ---- a server goes down; comes back

-- what is told where nothing forbids it
change_is_told : (w : Tables) (n : ℕ) → (None ≡ change_refusal w.plan.grid (up_in w.plan.grid w.up) (gone_in w.plan.grid w.kept) n false → told_in w (Down n) ≡ ServerOk) ×
    (None ≡ change_refusal w.plan.grid (up_in w.plan.grid w.up) (gone_in w.plan.grid w.kept) n true → told_in w (Up n) ≡ ServerOk)
change_is_told w n = ((λ word. rw (← word) refl), (λ word. rw (← word) refl))

-- a server that is lost is down
kept_up : (w : Tables) (u : ℕ) (known : Known) → Agrees w u known → (s : ℕ) → known.state.up s ≡ true → known.state.gone s ≡ false
kept_up w u known agrees s is = elim (cases_Bool (known.state.gone s)) [
  | inr kept ↦ kept
  | inl lost ↦ (absurd (true≢false (sym is ∙ agrees.down s lost)))
]

down_agrees : (w : Tables) (set : ServerSet) (n u : ℕ) (known : Known) (told : Told) → up_in w.plan.grid set ≡ up_by (Serving (Down n)) (up_in w.plan.grid w.up) → Agrees w u known → Agrees (record w { up = set }) u (record known { state = served_state known.state (Down n) told })
down_agrees w set n u known told is agrees =
    served_agrees w set w.kept w.stores w.session_states u known (Down n) told agrees (is ∙ ap (λ s. up_by (Serving (Down n)) s) agrees.up) agrees.gone agrees.accounts agrees.copies agrees.lacking
    (λ s lost. by (n == s) (agrees.down s lost))
    (λ place within. session_state_left w.plan.grid u (place + 1) (session_state_in (session_states_at w.session_states u) place) known.state (Down n) told refl (agrees.session_states place within))
  where
    by : {was : Bool} (b : Bool) → was ≡ false → (if b then false else was) ≡ false
    by true is = refl
    by false is = is

pub down_advances : (w : Tables) (set : ServerSet) (n : ℕ) → servers set ≡ without_server n (servers w.up) → n < w.plan.grid.rows * w.plan.grid.cols → None ≡ change_refusal w.plan.grid (up_in w.plan.grid w.up) (gone_in w.plan.grid w.kept) n false → Advances w (Server (Down n)) (record w { up = set })
down_advances w set n removed within word =
    let told : told_in w (Down n) ≡ ServerOk = (change_is_told w n).0 word in
    let is = down_in w.plan.grid w.up set n removed within in
    accepted_advances w (record w { up = set }) (Down n) (ap is_refusal told) refl is refl (λ u known agrees. down_agrees w set n u known (told_in w (Down n)) is agrees)

up_agrees : (w : Tables) (set : ServerSet) (n u : ℕ) (known : Known) (told : Told) → gone_in w.plan.grid w.kept n ≡ false → up_in w.plan.grid set ≡ up_by (Serving (Up n)) (up_in w.plan.grid w.up) → Agrees w u known →
    Agrees (record w { up = set }) u (record known { state = served_state known.state (Up n) told })
up_agrees w set n u known told kept is agrees =
    served_agrees w set w.kept w.stores w.session_states u known (Up n) told agrees (is ∙ ap (λ s. up_by (Serving (Up n)) s) agrees.up) agrees.gone agrees.accounts agrees.copies agrees.lacking
    (λ s lost. by s lost (n == s) refl)
    (λ place within. session_state_left w.plan.grid u (place + 1) (session_state_in (session_states_at w.session_states u) place) known.state (Up n) told refl (agrees.session_states place within))
  where
    by : (s : ℕ) → known.state.gone s ≡ true → (b : Bool) → (n == s) ≡ b → (if b then true else known.state.up s) ≡ false
    by s lost false other = agrees.down s lost
    by s lost true same = absurd (true≢false (sym lost ∙ ap known.state.gone (sym (eqb-true n s same)) ∙ ap (λ (f : Servers). f n) (sym agrees.gone) ∙ kept))

pub up_advances : (w : Tables) (set : ServerSet) (n : ℕ) → servers set ≡ with_server n (servers w.up) → n < w.plan.grid.rows * w.plan.grid.cols → None ≡ change_refusal w.plan.grid (up_in w.plan.grid w.up) (gone_in w.plan.grid w.kept) n true → Advances w (Server (Up n)) (record w { up = set })
up_advances w set n added within word =
    let told : told_in w (Up n) ≡ ServerOk = (change_is_told w n).1 word in
    let is = up_again w.plan.grid w.up set n added within in
    let kept : gone_in w.plan.grid w.kept n ≡ false = comes_kept w.plan.grid (up_in w.plan.grid w.up) (gone_in w.plan.grid w.kept) n (ap is_refusal told) in
    accepted_advances w (record w { up = set }) (Up n) (ap is_refusal told) refl is refl (λ u known agrees. up_agrees w set n u known (told_in w (Up n)) kept is agrees)

-- ---- a server is lost

-- a session state that may have been given up
lost_session_state : (grid : Grid) (t k : ℕ) (session_state : SessionState) (state : State) (n : ℕ) (told : Told) → SessionStateAgrees grid t k session_state state → SessionStateAgrees grid t k (left_session_state n session_state) (served_state state (ServerLost n) told)
lost_session_state grid t k session_state state n told agrees = by session_state.operation refl
  where
    now : Session
    now = state.session k

    after : State
    after = served_state state (ServerLost n) told

    Has : SessionState → Session → Type 0
    Has x s = (x.op ≡ s.op) × (IsSome x.operation → (server : ℕ) → servers x.answered server ≡ counts_on after.sent k s server) × Sits grid t x.floor x.operation s.floor (option_map (operation_with k s) s.current)

    same : Has session_state now
    same = (agrees.op, (λ busy server. agrees.answered busy server ∙ ap (λ l. counts_on l k now server) (sym (append-nil state.sent))), agrees.sits)

    is_busy : (o : Option Code) → o ≡ None → IsSome o → ⊥
    is_busy None e busy = absurd (cc)
    is_busy (Some code) e busy = absurd (cc)

    at_rest : (code : Option Code) (current : Option Task) → code ≡ None → Sits grid t session_state.floor code now.floor (option_map (operation_with k now) current) → Sits grid t session_state.floor code now.floor None
    at_rest None None e sits = sits
    at_rest None (Some task) e sits = absurd sits
    at_rest (Some code) current e sits = absurd (cc)

    -- a session at rest stays so
    rests : session_state.operation ≡ None → (b : Bool) → Has session_state (session_by state.volumes k (if b then Ends else Elsewhere) now)
    rests none false = same
    rests none true = (agrees.op, (λ busy. absurd (is_busy session_state.operation none busy)), at_rest session_state.operation now.current none agrees.sits)

    works : (b : Bool) → Has (if b then rested_session_state session_state else session_state) (session_by state.volumes k (if b then Ends else Elsewhere) now)
    works false = same
    works true = (agrees.op, (λ busy. absurd (cc)), rests_at grid t session_state.floor now.floor session_state.operation k now now.current refl agrees.sits)

    done : (x : SessionState) → Has x (after.session k) → SessionStateAgrees grid t k x after
    done x h = record { op = h.0; answered = h.1; sits = h.2 }

    by : (o : Option Code) → session_state.operation ≡ o → SessionStateAgrees grid t k (left_session_state n session_state) after
    by None is =
        let still : left_session_state n session_state ≡ session_state = rw is refl in
        subst (λ x. SessionStateAgrees grid t k x after) (sym still) (done session_state (rests is (counts_on state.sent k now n)))
    by (Some code) is =
        let counts : servers session_state.answered n ≡ counts_on state.sent k now n = agrees.answered (rw is refl) n in
        let left : left_session_state n session_state ≡ (if servers session_state.answered n then rested_session_state session_state else session_state) = ap (λ o. if is_some o && servers session_state.answered n then rested_session_state session_state else session_state) is in
        subst (λ x. SessionStateAgrees grid t k x after) (sym left) (done (if servers session_state.answered n then rested_session_state session_state else session_state)
        (subst (λ b. Has (if servers session_state.answered n then rested_session_state session_state else session_state) (session_by state.volumes k (if b then Ends else Elsewhere) now)) counts (works (servers session_state.answered n))))

lost_agrees : (w new : Tables) (n u : ℕ) (known : Known) (told : Told) → Loses w n new → n < w.plan.grid.rows * w.plan.grid.cols → Agrees w u known →
    Agrees (record w { up = new.up; kept = new.kept; stores = new.stores; session_states = new.session_states }) u (record known { state = served_state known.state (ServerLost n) told })
lost_agrees w new n u known told h within agrees =
    served_agrees w new.up new.kept new.stores new.session_states u known (ServerLost n) told agrees
    (down_in w.plan.grid w.up new.up n h.up within ∙ ap (λ s. up_by (Serving (ServerLost n)) s) agrees.up)
    (lost_in w.plan.grid w.kept new.kept n h.kept within ∙ ap (λ s. gone_by (Serving (ServerLost n)) s) agrees.gone)
    (λ s inside. elim (cases_eq s n) [
      | inl same ↦ (subst (λ x. account_at (store_accounts (store_at new.stores x)) u ≡ account_at w.desk u) (sym same) (ap (λ (accounts : List Account). account_at accounts u) h.accounts ∙ agrees.accounts n within))
      | inr other ↦ (ap (λ (x : StoreCopies). account_at (store_accounts x) u) (h.others s other) ∙ agrees.accounts s inside)
    ])
    (λ s inside file. elim (cases_eq s n) [
      | inl same ↦ (
          let none : held (served_state known.state (ServerLost n) told) n file ≡ first_copy = ap copy_of (emptied n file) in
          subst (λ x. copy_at (store_at new.stores x) (file_of u file) ≡ held (served_state known.state (ServerLost n) told) x file) (sym same) (h.lost (file_of u file) ∙ sym none))
      | inr other ↦ (ap (λ (x : StoreCopies). copy_at x (file_of u file)) (h.others s other) ∙ agrees.copies s inside file ∙ sym (ap copy_of (left_there s file (λ e. other (sym e)))))
    ])
    (λ s file. lacks_now (n == s) (agrees.lacking s file))
    (λ s. down_now (n == s) (agrees.down s))
    (λ place inside. subst (λ (x : SessionState). SessionStateAgrees w.plan.grid u (place + 1) x (served_state known.state (ServerLost n) told)) (sym (h.session_states u place)) (lost_session_state w.plan.grid u (place + 1) (session_state_in (session_states_at w.session_states u) place) known.state n told (agrees.session_states place inside)))
  where
    emptied : (n : ℕ) (file : File) → (served_state known.state (ServerLost n) told).brought n file ≡ []
    emptied n file = rw (eq-eqb n n refl) refl

    left_there : (s : ℕ) (file : File) → n ≢ s → (served_state known.state (ServerLost n) told).brought s file ≡ known.state.brought s file
    left_there s file other = rw (ne_eqb n s other) refl

    lacks_now : {a g : Bool} (b : Bool) → a ≡ g → (b || a) ≡ (if b then true else g)
    lacks_now true same = refl
    lacks_now false same = same

    down_now : {g up : Bool} (b : Bool) → (g ≡ true → up ≡ false) → (if b then true else g) ≡ true → (if b then false else up) ≡ false
    down_now true down is = refl
    down_now false down is = down is

pub lost_advances : (w new : Tables) (n : ℕ) → Loses w n new → n < w.plan.grid.rows * w.plan.grid.cols → told_in w (ServerLost n) ≡ ServerOk → Advances w (Server (ServerLost n)) new
lost_advances w new n h within told =
    let v : Tables = record w { up = new.up; kept = new.kept; stores = new.stores; session_states = new.session_states } in
    subst (Advances w (Server (ServerLost n))) (sym h.new_is) (accepted_advances w v (ServerLost n) (ap is_refusal told) refl (down_in w.plan.grid w.up new.up n h.up within) (lost_in w.plan.grid w.kept new.kept n h.kept within)
    (λ u known agrees. lost_agrees w new n u known (told_in w (ServerLost n)) h within agrees))

-- ---- a server is repaired

-- the copy that is given is the one that is held then
fold_again : (a : StoredCopy) (copies : List StoredCopy) → newer_of first_copy a ≡ a → IsAtMost first_copy.tag a.tag → newer_of first_copy (fold newer_of a copies) ≡ fold newer_of a copies
fold_again a [] same low = same
fold_again a (d ∷ copies) same low = fold_again (newer_of a d) copies (by (is_less a.tag d.tag) refl) (at_most_trans first_copy.tag a.tag (newer_of a d).tag low (newer_of-left a d))
  where
    pick : (b : Bool) → b ≡ true → (if b then d else first_copy) ≡ d
    pick true e = refl
    pick false e = absurd (cc)

    by : (b : Bool) → is_less a.tag d.tag ≡ b → newer_of first_copy (newer_of a d) ≡ newer_of a d
    by true is = rw is (pick (is_less first_copy.tag d.tag) (at_most_less first_copy.tag a.tag d.tag low is))
    by false is = rw is same

copy_again : (copies : List StoredCopy) → copy_of (copy_of copies ∷ []) ≡ copy_of copies
copy_again copies =
    greatest-cons first_copy (copy_of copies ∷ [])
    ∙ ap (newer_of first_copy) (greatest-cons first_copy copies)
    ∙ fold_again first_copy copies (newer_of-at_most first_copy first_copy (at_most_refl first_copy.tag)) (at_most_refl first_copy.tag)
    ∙ sym (greatest-cons first_copy copies)

repaired_agrees : (w new : Tables) (n peer u : ℕ) (known : Known) → Repairs w n peer new → n < w.plan.grid.rows * w.plan.grid.cols → HasPeer w n peer → Agrees w u known →
    Agrees (record w { up = new.up; kept = new.kept; stores = new.stores }) u (record known { state = served_state known.state (ServerRepaired n) (Repaired peer) })
repaired_agrees w new n peer u known h within is_peer agrees =
    served_agrees w new.up new.kept new.stores w.session_states u known (ServerRepaired n) (Repaired peer) agrees
    (up_again w.plan.grid w.up new.up n h.up within ∙ ap (λ s. up_by (Serving (ServerRepaired n)) s) agrees.up)
    (kept_again w.plan.grid w.kept new.kept n h.kept within ∙ ap (λ s. gone_by (Serving (ServerRepaired n)) s) agrees.gone)
    (λ s inside. elim (cases_eq s n) [
      | inl same ↦ (subst (λ x. account_at (store_accounts (store_at new.stores x)) u ≡ account_at w.desk u) (sym same) (ap (λ (x : StoreCopies). account_at (store_accounts x) u) h.given ∙ agrees.accounts peer is_peer.within))
      | inr other ↦ (ap (λ (x : StoreCopies). account_at (store_accounts x) u) (h.others s other) ∙ agrees.accounts s inside)
    ])
    (λ s inside file. elim (cases_eq s n) [
      | inl same ↦ (
          let given : held (served_state known.state (ServerRepaired n) (Repaired peer)) n file ≡ copy_of (known.state.brought peer file) = ap copy_of (given_here file) ∙ copy_again (known.state.brought peer file) in
          subst (λ x. copy_at (store_at new.stores x) (file_of u file) ≡ held (served_state known.state (ServerRepaired n) (Repaired peer)) x file) (sym same)
          (ap (λ (x : StoreCopies). copy_at x (file_of u file)) h.given ∙ agrees.copies peer is_peer.within file ∙ sym given))
      | inr other ↦ (ap (λ (x : StoreCopies). copy_at x (file_of u file)) (h.others s other) ∙ agrees.copies s inside file ∙ sym (ap copy_of (left_there s file (λ e. other (sym e)))))
    ])
    (λ s file. lacks_now s file (n == s))
    (λ s. down_now (n == s) (agrees.down s))
    (λ place inside. session_state_left w.plan.grid u (place + 1) (session_state_in (session_states_at w.session_states u) place) known.state (ServerRepaired n) (Repaired peer) refl (agrees.session_states place inside))
  where
    has : (file : File) → known.state.lacks peer file ≡ false
    has file =
        let up : known.state.up peer ≡ true = ap (λ (f : Servers). f peer) (sym agrees.up) ∙ is_peer.up in
        agrees.lacking peer file ∙ kept_up w u known agrees peer up

    wants : (file : File) → known.state.lacks n file ≡ true
    wants file = agrees.lacking n file ∙ ap (λ (f : Servers). f n) (sym agrees.gone) ∙ is_peer.lost

    given_here : (file : File) → (served_state known.state (ServerRepaired n) (Repaired peer)).brought n file ≡ copy_of (known.state.brought peer file) ∷ []
    given_here file = rw (eq-eqb n n refl, wants file, has file) refl

    left_there : (s : ℕ) (file : File) → n ≢ s → (served_state known.state (ServerRepaired n) (Repaired peer)).brought s file ≡ known.state.brought s file
    left_there s file other = rw (ne_eqb n s other) refl

    repaired_lacks : (b c : Bool) → (c && not (b && (c && not false))) ≡ (if b then false else c)
    repaired_lacks true true = refl
    repaired_lacks true false = refl
    repaired_lacks false true = refl
    repaired_lacks false false = refl

    lacks_now : (s : ℕ) (file : File) (b : Bool) → (known.state.lacks s file && not (b && (known.state.lacks s file && not (known.state.lacks peer file)))) ≡ (if b then false else known.state.gone s)
    lacks_now s file b = ap (λ x. known.state.lacks s file && not (b && (known.state.lacks s file && not x))) (has file) ∙ repaired_lacks b (known.state.lacks s file) ∙ ap (λ x. if b then false else x) (agrees.lacking s file)

    down_now : {g up : Bool} (b : Bool) → (g ≡ true → up ≡ false) → (if b then false else g) ≡ true → (if b then true else up) ≡ false
    down_now true down is = absurd (true≢false (sym is))
    down_now false down is = down is

pub repaired_advances : (w new : Tables) (n peer : ℕ) → Repairs w n peer new → HasPeer w n peer → Advances w (Server (ServerRepaired n)) new
repaired_advances w new n peer h m =
    let within = m.server in
    let told : told_in w (ServerRepaired n) ≡ Repaired peer = m.told in
    let v : Tables = record w { up = new.up; kept = new.kept; stores = new.stores } in
    subst (Advances w (Server (ServerRepaired n))) (sym h.new_is) (accepted_advances w v (ServerRepaired n) (ap is_refusal told) refl (up_again w.plan.grid w.up new.up n h.up within) (kept_again w.plan.grid w.kept new.kept n h.kept within)
    (λ u known agrees. subst (λ x. Agrees v u (record known { state = served_state known.state (ServerRepaired n) x })) (sym told) (repaired_agrees w new n peer u known h within m agrees)))

-- ---- the peer that is found in the tables

find_same : (p q : ℕ → Bool) (xs : List ℕ) → All (λ x. p x ≡ q x) xs → find p xs ≡ find q xs
find_same p q [] all = refl
find_same p q (x ∷ xs) all = ap (λ b. if b then Some x else find p xs) (All-head (λ x. p x ≡ q x) x xs all) ∙ ap (λ rest. if q x then Some x else rest) (find_same p q xs (All-tail (λ x. p x ≡ q x) x xs all))

peer_same : (grid : Grid) (a b : Servers) (n : ℕ) → ((s : ℕ) → s < grid.rows * grid.cols → a s ≡ b s) → peer_among grid a n ≡ peer_among grid b n
peer_same grid a b n same = find_same (λ m. a m && (not (m == n) && are_peers grid n m)) (λ m. b m && (not (m == n) && are_peers grid n m)) (below (grid.rows * grid.cols))
    (All-weaker (λ s. s < grid.rows * grid.cols) (λ m. (a m && (not (m == n) && are_peers grid n m)) ≡ (b m && (not (m == n) && are_peers grid n m))) (λ m within. ap (λ x. x && (not (m == n) && are_peers grid n m)) (same m within)) (below (grid.rows * grid.cols)) (below_all (grid.rows * grid.cols)))

pub kept_peer : (grid : Grid) (kept : ServerSet) (n : ℕ) → peer_among grid (servers kept) n ≡ peer_among grid (outside (gone_in grid kept)) n
kept_peer grid kept n = peer_same grid (servers kept) (outside (gone_in grid kept)) n (λ s within. let is : nat_lt s (grid.rows * grid.cols) ≡ true = grind (arith, nat_tests) in rw is (twice (servers kept s)))
  where
    twice : (b : Bool) → b ≡ not (not b)
    twice true = refl
    twice false = refl

pub up_peer : (grid : Grid) (up : ServerSet) (n : ℕ) → peer_among grid (servers up) n ≡ peer_among grid (up_in grid up) n
up_peer grid up n = peer_same grid (servers up) (up_in grid up) n (λ s within. sym (up_here grid up s within))

pub gone_here : (grid : Grid) (kept : ServerSet) (s : ℕ) → s < grid.rows * grid.cols → gone_in grid kept s ≡ not (servers kept s)
gone_here grid kept s within = by (nat_lt s (grid.rows * grid.cols)) (grind (arith, nat_tests))
  where
    by : (b : Bool) → b ≡ true → (b && not (servers kept s)) ≡ not (servers kept s)
    by b is = rw is refl
