-- What goes out in a short form stands for a letter that the law has as written.
use Rattle.std.proofs.Common.{◌≡◌, ◌∙◌, ℕ, zero, suc, ◌+◌, ◌*◌, ◌<◌, ◌≤◌, Bool, true, false, List, [], ◌∷◌, refl, sym, ap, subst, Option, Some, None, inl, inr, arith, eqb, mul-zero, zero-mul}
use Rattle.std.specs.Prelude.{option_map, filter, is_some, not, ◌==◌, ◌&&◌, ◌/◌, ◌%◌, Contains}
use Rattle.std.specs.List.{range_with_len}
use Rattle.std.proofs.lemmas.Bool.{cases_Bool, cases_eq, and_parts, eqb-true, eq-eqb, not-true}
use Rattle.std.proofs.lemmas.Nat.{div_below, div-add-mod', mod-mul-add}
use Rattle.std.proofs.Math.Nat.{mod-lt}
use Rattle.gq_grid.specs.Grid.{Grid, Servers, server_at, is_full_column, least_column, column_servers, rising}
use Rattle.gq_grid.proofs.Inside.{one_of}
use Rattle.gq_grid.proofs.Meeting.{all_at, any_from, found_passes, column_servers-column}
use Rattle.gq_tag.specs.declared.Tag.{Tag}
use Rattle.gq_tag.specs.declared.Body.{Body}
use Rattle.gq_tag.specs.declared.Body.TheVariants.{Ask, Copy, Store, Stored}
use Rattle.gq_tag.specs.Tag.{File, is_file, OwnMessage, is_less}
use Rattle.gq_phase.specs.Phase.{Task, Operation, is_collect, round_file, round_body, stored_copy, round_quorum, resent, heard_servers}
use Rattle.gq_phase.specs.Quorums.{store_quorum}
use Rattle.gq_laws.proofs.OperationMoments.{same_file}
use Rattle.gq_model.specs.Trace.{State, operation, operation_with, limit_at}
use Rattle.gq_model.specs.Lone.{retry_step, reply_to}
use Rattle.gq_cluster.specs.Cluster.{everyone}
use Rattle.gq_node.specs.declared.shorts.ShortBody.{ShortBody}
use Rattle.gq_node.specs.declared.shorts.ShortBody.TheVariants.{AskAbove, Tagged, Confirm, Want}
use Rattle.gq_node.specs.Forms.{IsFormOf, AllFormsStand, StandsAmong, IsWritten, AllShortsAreWritten}
use Rattle.gq_node.specs.Local.{Local, Doing, silently, state_of, state_for, serves, hears, letter_fits}
use Rattle.gq_node.specs.Shorts.{OwnShort, letter_as, short_as, wholly, copy_of, goes_short, takes_tag, asks_above, hears_tag, is_of_store, store_in, column_of, stores_again, confirms, takes_short, body_from, bound_for, short_form, goes_without}
use Rattle.gq_node.specs.Sites.{Site, has_session}
use Rattle.gq_node.proofs.Receiving.{parts}
use Rattle.gq_node.proofs.Shortly.{asks_short, asks_whole}
use Rattle.gq_node.proofs.Telling.{contains_map}

-- ---- the form of a letter

none_is_some : {X : Type 0} (x : X) → None ≡ Some x → ⊥
none_is_some x is = cc

same_some : {X : Type 0} (x y : X) → Some x ≡ Some y → x ≡ y
same_some x y is = cc

form_of : (session op round server : ℕ) (file : File) (body : Body) (bound : Option Tag) (own : Bool) (s : OwnShort) →
    option_map (short_as (record { session = session; op = op; round = round; server = server; file = file; body = body })) (body_from body bound own) ≡ Some s →
    IsFormOf s (record { session = session; op = op; round = round; server = server; file = file; body = body })
form_of session op round server file Ask None own s is = absurd (none_is_some s is)
form_of session op round server file Ask (Some tag) own s is =
    let m : OwnMessage = record { session = session; op = op; round = round; server = server; file = file; body = Ask } in
    subst (λ (x : OwnShort). IsFormOf x m) (same_some (short_as m (AskAbove tag)) s is) ([], refl)
form_of session op round server file (Copy copy) bound own s is = absurd (none_is_some s is)
form_of session op round server file Stored bound own s is = absurd (none_is_some s is)
form_of session op round server file (Store copy) bound false s is = absurd (none_is_some s is)
form_of session op round server file (Store copy) bound true s is =
    let m : OwnMessage = record { session = session; op = op; round = round; server = server; file = file; body = Store copy } in
    subst (λ (x : OwnShort). IsFormOf x m) (same_some (short_as m (Confirm copy.tag)) s is) (copy.bytes, refl)

pub forms_stand : AllFormsStand
forms_stand site local m s is = elim (cases_Bool (has_session site m.session)) [
  | inr outside ↦ (let e : short_form site local m ≡ None = rw outside refl in absurd (none_is_some s (sym e ∙ is)))
  | inl inside ↦ (
      let e : short_form site local m ≡ option_map (short_as m) (body_from m.body (bound_for site local m) (goes_without site local m)) = rw inside refl in
      form_of m.session m.op m.round m.server m.file m.body (bound_for site local m) (goes_without site local m) s (sym e ∙ is))
]

-- ---- the quorum of a column is that column

-- a server stands in its column
in_column : (grid : Grid) (server : ℕ) → 0 < grid.cols → server < grid.rows * grid.cols → column_of grid server server ≡ true
in_column grid server some within =
    let low : server / grid.cols < grid.rows = div_below server grid.cols grid.rows some within in
    any_from (λ r. eqb (server_at grid r (server % grid.cols)) server) 0 grid.rows (server / grid.cols) (omega arith) (omega (arith, low)) (eq-eqb _ _ (div-add-mod' server grid.cols))

-- no other column lies in it
same_column : (grid : Grid) (c other : ℕ) → c < grid.cols → other < grid.cols → 0 < grid.rows → is_full_column grid (column_servers grid c) other ≡ true → other ≡ c
same_column grid c other within also some full =
    let first : column_servers grid c (server_at grid 0 other) ≡ true = all_at (λ r. column_servers grid c (server_at grid r other)) 0 grid.rows 0 full (omega arith) (omega arith) in
    let at = one_of (λ r. eqb (server_at grid r c) (server_at grid 0 other)) 0 grid.rows first in
    let same : server_at grid at.0 c ≡ server_at grid 0 other = eqb-true (server_at grid at.0 c) (server_at grid 0 other) at.3 in
    sym (sym (mod-mul-add at.0 grid.cols c within) ∙ ap (λ n. n % grid.cols) same ∙ mod-mul-add 0 grid.cols other also)

some_is : (o : Option ℕ) → is_some o ≡ true → (n : ℕ) × (o ≡ Some n)
some_is None is = absurd (cc)
some_is (Some n) is = (n, refl)

column_quorum : (grid : Grid) (server : ℕ) → 0 < grid.rows → 0 < grid.cols → server < grid.rows * grid.cols → (q : Servers) × (store_quorum grid (column_of grid server) ≡ Some q) × (q server ≡ true)
unfolding store_quorum
column_quorum grid server rows cols within =
    let c : ℕ = server % grid.cols in
    let low : c < grid.cols = mod-lt server cols in
    let found = some_is (least_column grid (column_servers grid c)) (column_servers-column grid c low) in
    let passes = found_passes (is_full_column grid (column_servers grid c)) 0 grid.cols found.0 found.1 in
    let same : found.0 ≡ c = same_column grid c found.0 low (omega (arith, passes.1)) rows passes.2 in
    (column_servers grid c, ap (option_map (column_servers grid)) (found.1 ∙ ap (λ n. Some n) same), in_column grid server cols within)

-- ---- a retry at that column sends the store

filter_has : (p : ℕ → Bool) (a n x : ℕ) → a ≤ x → x < a + n → p x ≡ true → Contains (filter p (range_with_len a n)) x
filter_has p a zero x low high is = absurd (omega arith)
filter_has p a (suc n) x low high is = elim (cases_eq a x) [
  | inl same ↦ (let here : p a ≡ true = ap p same ∙ is in rw here (0, omega arith, same))
  | inr other ↦ (
      let rest : Contains (filter p (range_with_len (a + 1) n)) x = filter_has p (a + 1) n x (omega arith) (omega arith) is in
      elim (cases_Bool (p a)) [
        | inl here ↦ (rw here (suc rest.0, omega (arith, rest.1), rest.2))
        | inr none ↦ (rw none rest)
      ])
]

-- the server of the store is one of those that it goes to
resent_has : (grid : Grid) (o : Operation) (q : Servers) (session op round server : ℕ) (file : File) (body : Body) → session ≡ o.session → server < grid.rows * grid.cols → q server ≡ true → heard_servers o.heard server ≡ false →
    is_of_store o (record { session = session; op = op; round = round; server = server; file = file; body = body }) ≡ true →
    Contains (resent grid o q) (record { session = session; op = op; round = round; server = server; file = file; body = Store (stored_copy o.collected) })
resent_has grid o q session op round server file body own within inside unheard store =
    let stores = and_parts (not (is_collect o.round)) ((op == o.op) && ((round == o.round) && is_file file (round_file o.task o.round))) store in
    let its_op = and_parts (op == o.op) ((round == o.round) && is_file file (round_file o.task o.round)) stores.1 in
    let its_round = and_parts (round == o.round) (is_file file (round_file o.task o.round)) its_op.1 in
    let set : Servers = λ s. q s && not (heard_servers o.heard s) in
    let goes : set server ≡ true = rw (inside, unheard) refl in
    let f : ℕ → OwnMessage = λ s. record { session = o.session; op = o.op; round = o.round; server = s; file = round_file o.task o.round; body = round_body o.round o.collected } in
    let there : Contains (resent grid o q) (f server) = contains_map f (rising grid set) server (filter_has set 0 (grid.rows * grid.cols) server (omega arith) (omega (arith, within)) goes) in
    let storing : round_body o.round o.collected ≡ Store (stored_copy o.collected) = (let e : is_collect o.round ≡ false = not-true (is_collect o.round) stores.0 in rw e refl) in
    let M : ℕ → ℕ → ℕ → File → Body → OwnMessage = λ k n r g b. record { session = k; op = n; round = r; server = server; file = g; body = b } in
    let is : f server ≡ M session op round file (Store (stored_copy o.collected)) =
    λ i. M (sym own i) (sym (eqb-true op o.op its_op.0) i) (sym (eqb-true round o.round its_round.0) i) (sym (same_file file (round_file o.task o.round) its_round.1) i) (storing i) in
    subst (λ (m : OwnMessage). Contains (resent grid o q) m) is there

retry_has : (site : Site) (local : Local) (s : OwnShort) (body : Body) (letter : OwnMessage) → 0 < site.grid.rows → 0 < site.grid.cols → s.server < site.grid.rows * site.grid.cols →
    store_in (operation (state_for site local s.session) s.session) (letter_as s body) ≡ Some letter →
    Contains (retry_step site.grid (state_of (column_of site.grid s.server) local) (operation (state_for site local s.session) s.session)).new letter
retry_has site local s body letter rows cols within is = by (local.residents s.session).session.current refl
  where
    k : ℕ
    k = s.session

    m : OwnMessage
    m = letter_as s body

    state : State
    state = state_of (column_of site.grid s.server) local

    found : (o : Operation) → o.session ≡ k → store_in (Some o) m ≡ Some letter → Contains (retry_step site.grid state (Some o)).new letter
    found o own is = elim (cases_Bool (heard_servers o.heard s.server)) [
      | inl heard ↦ (let e : store_in (Some o) m ≡ None = rw heard refl in absurd (none_is_some letter (sym e ∙ is)))
      | inr unheard ↦ (elim (cases_Bool (is_of_store o m)) [
        | inr other ↦ (let e : store_in (Some o) m ≡ None = rw (unheard, other) refl in absurd (none_is_some letter (sym e ∙ is)))
        | inl store ↦ (
            let e : store_in (Some o) m ≡ Some (record m { body = Store (stored_copy o.collected) }) = rw (unheard, store) refl in
            let same : record m { body = Store (stored_copy o.collected) } ≡ letter = same_some (record m { body = Store (stored_copy o.collected) }) letter (sym e ∙ is) in
            let stores = and_parts (not (is_collect o.round)) ((m.op == o.op) && ((m.round == o.round) && is_file m.file (round_file o.task o.round))) store in
            let storing : is_collect o.round ≡ false = not-true (is_collect o.round) stores.0 in
            let q = column_quorum site.grid s.server rows cols within in
            let quorum : round_quorum site.grid state.up o.round ≡ Some q.0 = (rw storing q.1) in
            let sends : (retry_step site.grid state (Some o)).new ≡ resent site.grid o q.0 = rw quorum refl in
            let has : Contains (resent site.grid o q.0) (record m { body = Store (stored_copy o.collected) }) = resent_has site.grid o q.0 s.session s.op s.round s.server s.file body (sym own) within q.2 unheard store in
            subst (λ (l : OwnMessage). Contains (retry_step site.grid state (Some o)).new l) same (subst (λ (ls : List OwnMessage). Contains ls (record m { body = Store (stored_copy o.collected) })) (sym sends) has))
      ])
    ]

    at : Option Task → Option Operation
    at current = option_map (operation_with k (local.residents k).session) current

    by : (current : Option Task) → (local.residents k).session.current ≡ current → Contains (retry_step site.grid state (operation (state_for site local k) k)).new letter
    by None none = let e : store_in (at (local.residents k).session.current) m ≡ None = ap (λ c. store_in (at c) m) none in absurd (none_is_some letter (sym e ∙ is))
    by (Some task) some =
        let P : Option Task → Type 0 = λ c. Contains (retry_step site.grid state (at c)).new letter in
        subst P (sym some) (found (operation_with k (local.residents k).session task) refl (sym (ap (λ c. store_in (at c) m) some) ∙ is))

-- ---- what goes out

all_whole : (d : Doing) → IsWritten (wholly d)
all_whole d = record { whole = λ m within. within; short = λ s is. absurd (none_is_some s is) }

-- a tag stands for the server's copy
ask_written : (site : Site) (local : Local) (bound : Tag) (s : OwnShort) → IsWritten (asks_above bound site local (letter_as s Ask))
ask_written site local bound s = elim (cases_Bool (local.lacks s.file)) [
  | inl lacks ↦ (rw lacks (all_whole (silently local)))
  | inr has ↦ (elim (cases_Bool (goes_short bound (copy_of local s.file).tag)) [
    | inr whole ↦ (subst IsWritten (sym (asks_whole bound site local m has whole)) (all_whole (serves site local m)))
    | inl short ↦ (
        let reply : OwnMessage = reply_to (copy_of local s.file) m in
        let is : asks_above bound site local m ≡ record { doing = serves site local m; whole = []; short = Some (short_as m (Tagged (copy_of local s.file).tag)) } = asks_short bound site local m has short in
        let letters : (serves site local m).letters ≡ reply ∷ [] = rw has refl in
        let there : Contains (serves site local m).letters reply = subst (λ (ls : List OwnMessage). Contains ls reply) (sym letters) (0, omega arith, refl) in
        subst IsWritten (sym is) (record {
          whole = λ l within. let low = within.1 in absurd (omega (arith, low));
          short = λ x its. subst (λ (y : OwnShort). StandsAmong y.body y (serves site local m).letters) (same_some (short_as m (Tagged (copy_of local s.file).tag)) x its) (reply, there, ((copy_of local s.file).bytes, refl));
        }))
  ])
]
  where
    m : OwnMessage
    m = letter_as s Ask

tag_written : (site : Site) (local : Local) (tag : Tag) (m : OwnMessage) → IsWritten (hears_tag tag site local m)
tag_written site local tag m = elim (cases_Bool (takes_tag (operation (state_for site local m.session) m.session) tag)) [
  | inl takes ↦ (rw takes (all_whole (hears site local m)))
  | inr lost ↦ (rw lost (all_whole (silently local)))
]

again_written : (site : Site) (local : Local) (s : OwnShort) (body : Body) → 0 < site.grid.rows → 0 < site.grid.cols → s.server < site.grid.rows * site.grid.cols → IsWritten (stores_again site local (letter_as s body))
again_written site local s body rows cols within = by (store_in (operation (state_for site local s.session) s.session) (letter_as s body)) refl
  where
    by : (o : Option OwnMessage) → store_in (operation (state_for site local s.session) s.session) (letter_as s body) ≡ o → IsWritten (stores_again site local (letter_as s body))
    by None is = rw is (all_whole (silently local))
    by (Some letter) is = rw is (record {
      whole = λ l one. subst (λ (x : OwnMessage). Contains (retry_step site.grid (state_of (column_of site.grid s.server) local) (operation (state_for site local s.session) s.session)).new x) (only letter l one) (retry_has site local s body letter rows cols within is);
      short = λ x its. absurd (none_is_some x its);
    })
      where
        only : (a b : OwnMessage) → Contains (a ∷ []) b → a ≡ b
        only a b (zero, low, is) = is
        only a b (suc i, low, is) = absurd (omega (arith, low))

confirm_written : (site : Site) (local : Local) (tag : Tag) (s : OwnShort) (body : Body) → 0 < site.grid.rows → 0 < site.grid.cols → s.server < site.grid.rows * site.grid.cols → IsWritten (confirms tag site local (letter_as s body))
confirm_written site local tag s body rows cols within = elim (cases_Bool (local.lacks s.file)) [
  | inl lacks ↦ (rw lacks (all_whole (silently local)))
  | inr has ↦ (elim (cases_Bool (is_less (copy_of local s.file).tag tag)) [
    | inr held ↦ (rw (has, held) (all_whole (serves site local (letter_as s body))))
    | inl less ↦ (elim (cases_Bool (site.home s.session == site.here)) [
      | inl here ↦ (rw (has, less, here) (again_written site local s body rows cols within))
      | inr away ↦ (rw (has, less, away) (record {
        whole = λ l none. let low = none.1 in absurd (omega (arith, low));
        short = λ x its. subst (λ (y : OwnShort). StandsAmong y.body y []) (same_some (short_as (letter_as s body) Want) x its) tt;
      }))
    ])
  ])
]

-- a grid with a server has rows and columns
sides : (rows cols server : ℕ) → server < rows * cols → (0 < rows) × (0 < cols)
sides zero cols server within = absurd (omega (arith, zero-mul cols))
sides (suc rows) zero server within = absurd (omega (arith, mul-zero (suc rows)))
sides (suc rows) (suc cols) server within = (omega arith, omega arith)

pub shorts_are_written : AllShortsAreWritten
shorts_are_written from s bytes site local = by s.body
  where
    limit : Option ℕ
    limit = limit_at (state_of everyone local) s.file.volume s.file.place

    Goal : ShortBody → Type 0
    Goal b = IsWritten (takes_short from (record s { body = b }) bytes site local)

    in_grid : (body : Body) → letter_fits site limit from (letter_as s body) ≡ true → s.server < site.grid.rows * site.grid.cols
    in_grid body fits = (parts site limit from (letter_as s body) fits).server

    by : (b : ShortBody) → Goal b
    by (AskAbove bound) = elim (cases_Bool (letter_fits site limit from (letter_as s Ask))) [
      | inr not' ↦ (rw not' (all_whole (silently local)))
      | inl fits ↦ (rw fits (ask_written site local bound s))
    ]
    by (Tagged tag) = elim (cases_Bool (letter_fits site limit from (letter_as s (Copy (record { tag = tag; bytes = [] }))))) [
      | inr not' ↦ (rw not' (all_whole (silently local)))
      | inl fits ↦ (rw fits (tag_written site local tag (letter_as s (Copy (record { tag = tag; bytes = bytes })))))
    ]
    by (Confirm tag) = elim (cases_Bool (letter_fits site limit from (letter_as s (Store (record { tag = tag; bytes = [] }))))) [
      | inr not' ↦ (rw not' (all_whole (silently local)))
      | inl fits ↦ (
          let within = in_grid (Store (record { tag = tag; bytes = [] })) fits in
          let some = sides site.grid.rows site.grid.cols s.server within in
          rw fits (confirm_written site local tag s (Store (record { tag = tag; bytes = bytes })) some.0 some.1 within))
    ]
    by Want = elim (cases_Bool (letter_fits site limit from (letter_as s Stored))) [
      | inr not' ↦ (rw not' (all_whole (silently local)))
      | inl fits ↦ (
          let within = in_grid Stored fits in
          let some = sides site.grid.rows site.grid.cols s.server within in
          rw fits (again_written site local s Stored some.0 some.1 within))
    ]
