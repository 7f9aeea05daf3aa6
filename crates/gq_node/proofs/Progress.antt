-- Ticks lead a session from row to row, and from column to column.
use Rattle.std.proofs.Common.{◌≡◌, ◌∙◌, ℕ, zero, suc, ◌+◌, ◌-◌, ◌<◌, ◌≤◌, Bool, true, false, Option, Some, None, refl, sym, ap, subst, arith, inl, inr}
use Rattle.std.specs.Prelude.{is_some, nat_lt, option_map}
use Rattle.std.proofs.lemmas.Bool.{cases_Bool, cases_lt, eq-eqb, lt-ltb, le-ltb}
use Rattle.gq_grid.specs.Grid.{Grid, Servers}
use Rattle.gq_phase.specs.Phase.{Operation, is_collect, round_quorum}
use Rattle.gq_model.specs.Trace.{Session, operation, operation_with}
use Rattle.gq_model.specs.Lone.{retry_step}
use Rattle.gq_node.specs.Inputs.{Ticked, after_one}
use Rattle.gq_node.specs.Local.{Local, Resident, Doing, state_of, ticks, waits_on, tries_next, aim_at, with_resident}
use Rattle.gq_node.specs.Progress.{after_ticks, sent_then, resent_to, AllRowsAreTried, AllColumnsAreTried}
use Rattle.gq_node.specs.Sites.{Site, aim, next_of}
use Rattle.gq_node.proofs.Ticking.{busy_is}

-- ---- from number to number

-- the number that so many steps lead to
abbrev walk : (many from : ℕ) → ℕ → ℕ
walk many from zero = from
walk many from (suc j) = next_of many (walk many from j)

walk_up : (many from j : ℕ) → from + j < many → walk many from j ≡ from + j
walk_up many from zero less = omega arith
walk_up many from (suc j) less =
    let before : walk many from j ≡ from + j = walk_up many from j (omega arith) in
    let room : nat_lt (from + j + 1) many ≡ true = lt-ltb (from + j + 1) many (omega arith) in
    let sum : from + j + 1 ≡ from + suc j = omega arith in
    ap (next_of many) before ∙ (rw room sum)

walk_more : (many from i j : ℕ) → walk many from (i + j) ≡ walk many (walk many from i) j
walk_more many from i zero = let same : i + zero ≡ i = omega arith in ap (walk many from) same
walk_more many from i (suc j) =
    let same : i + suc j ≡ suc (i + j) = omega arith in
    ap (walk many from) same ∙ ap (next_of many) (walk_more many from i j)

-- behind the last one the first follows
turns : (many n : ℕ) → many ≤ n + 1 → next_of many n ≡ 0
turns many n past = let over : nat_lt (n + 1) many ≡ false = le-ltb (n + 1) many past in rw over refl

-- some steps, no more than there are numbers, lead there
record Leads (many from to : ℕ) : Type 0 where
  before : ℕ
  few : suc before ≤ many
  there : walk many from (suc before) ≡ to

from_first : (many from i to : ℕ) → walk many from (suc i) ≡ 0 → to < many → suc (i + to) ≤ many → Leads many from to
from_first many from i to first within few =
    let sum : suc (i + to) ≡ suc i + to = omega arith in
    let rise : walk many 0 to ≡ 0 + to = walk_up many 0 to (omega arith) in
    let zero_more : 0 + to ≡ to = omega arith in
    record {
      before = i + to;
      few = few;
      there = ap (walk many from) sum ∙ walk_more many from (suc i) to ∙ ap (λ n. walk many n to) first ∙ rise ∙ zero_more;
    }

leads_to : (many from to : ℕ) → to < many → Leads many from to
leads_to many from to within = elim (cases_lt from to) [
  | inl below ↦ (
      let i : ℕ = to - from - 1 in
      let sum : from + suc i ≡ to = omega arith in
      record { before = i; few = omega arith; there = walk_up many from (suc i) (omega arith) ∙ sum })
  | inr not_below ↦ (elim (cases_lt (from + 1) many) [
    | inl inside ↦ (
        let i : ℕ = many - from - 1 in
        let last : walk many from i ≡ from + i = walk_up many from i (omega arith) in
        from_first many from i to (ap (next_of many) last ∙ turns many (from + i) (omega arith)) within (omega arith))
    | inr outside ↦ (from_first many from zero to (turns many from outside) within (omega arith))
  ])
]

-- ---- a tick

resident_there : (local : Local) (k : ℕ) (r : Resident) → (with_resident local k r).residents k ≡ r
resident_there local k r = rw (eq-eqb k k refl) refl

waited_tick : (site : Site) (local : Local) (k : ℕ) (waited : Bool) → is_some (local.residents k).session.current ≡ true → (local.residents k).waited ≡ waited → ticks k site local ≡ waits_on site local k waited
waited_tick site local k waited busy is = busy_is k site local busy ∙ ap (waits_on site local k) is

-- what goes out looks at the servers and the operation alone
resent_as : (grid : Grid) (up : Servers) (one two : Local) (o : Option Operation) → (retry_step grid (state_of up one) o).new ≡ (retry_step grid (state_of up two) o).new
resent_as grid up one two None = refl
resent_as grid up one two (Some o) = by (round_quorum grid up o.round) refl
  where
    by : (q : Option Servers) → round_quorum grid up o.round ≡ q → (retry_step grid (state_of up one) (Some o)).new ≡ (retry_step grid (state_of up two) (Some o)).new
    by None is = rw is refl
    by (Some set) is = rw is refl

resent_same : (site : Site) (one two : Local) (k : ℕ) (up : Servers) → (one.residents k).session ≡ (two.residents k).session → resent_to site one k up ≡ resent_to site two k up
resent_same site one two k up same =
    ap (λ (s : Session). (retry_step site.grid (state_of up one) (option_map (operation_with k s) s.current)).new) same
    ∙ resent_as site.grid up one two (operation (state_of up two) k)

-- ---- so many ticks, of a session that has waited

abbrev row_after : Site → Resident → Bool → ℕ → ℕ
row_after site r true j = walk site.grid.rows r.row j
row_after site r false j = r.row

abbrev column_after : Site → Resident → Bool → ℕ → ℕ
column_after site r true j = r.column
column_after site r false j = walk site.grid.cols r.column j

record Walked (site : Site) (first : Resident) (collects : Bool) (j : ℕ) (r : Resident) : Type 0 where
  session : r.session ≡ first.session
  row : r.row ≡ row_after site first collects j
  column : r.column ≡ column_after site first collects j
  waited : r.waited ≡ true

one_more : (site : Site) (first r : Resident) (collects : Bool) (j : ℕ) → Walked site first collects j r → Walked site first collects (suc j) (tries_next site.grid collects r)
one_more site first r true j w = record { session = w.session; row = ap (next_of site.grid.rows) w.row; column = w.column; waited = w.waited }
one_more site first r false j w = record { session = w.session; row = w.row; column = ap (next_of site.grid.cols) w.column; waited = w.waited }

not_walked : (site : Site) (r : Resident) (collects : Bool) → r.waited ≡ true → Walked site r collects zero r
not_walked site r true waited = record { session = refl; row = refl; column = refl; waited = waited }
not_walked site r false waited = record { session = refl; row = refl; column = refl; waited = waited }

walked : (site : Site) (local : Local) (k : ℕ) (collects : Bool) → is_some (local.residents k).session.current ≡ true → is_collect (local.residents k).session.round ≡ collects → (local.residents k).waited ≡ true → (j : ℕ) →
    Walked site (local.residents k) collects j ((after_ticks site local k j).residents k)
walked site local k collects busy is waited zero = not_walked site (local.residents k) collects waited
walked site local k collects busy is waited (suc j) =
    let now : Local = after_ticks site local k j in
    let w : Walked site (local.residents k) collects j (now.residents k) = walked site local k collects busy is waited j in
    let there : is_some (now.residents k).session.current ≡ true = ap (λ (s : Session). is_some s.current) w.session ∙ busy in
    let same : is_collect (now.residents k).session.round ≡ collects = ap (λ (s : Session). is_collect s.round) w.session ∙ is in
    let next : (after_ticks site local k (suc j)).residents k ≡ tries_next site.grid collects (now.residents k) =
    ap (λ (d : Doing). d.local.residents k) (waited_tick site now k true there w.waited)
    ∙ resident_there now k (tries_next site.grid (is_collect (now.residents k).session.round) (now.residents k))
    ∙ ap (λ c. tries_next site.grid c (now.residents k)) same in
    subst (Walked site (local.residents k) collects (suc j)) (sym next) (one_more site (local.residents k) (now.residents k) collects j w)

-- what the tick behind these sends
sent_behind : (site : Site) (local : Local) (k : ℕ) (collects : Bool) → is_some (local.residents k).session.current ≡ true → is_collect (local.residents k).session.round ≡ collects → (local.residents k).waited ≡ true → (j : ℕ) →
    sent_then site local k j ≡ resent_to site local k (aim site.grid (row_after site (local.residents k) collects (suc j)) (column_after site (local.residents k) collects (suc j)))
sent_behind site local k collects busy is waited j =
    let first : Resident = local.residents k in
    let now : Local = after_ticks site local k j in
    let w : Walked site first collects j (now.residents k) = walked site local k collects busy is waited j in
    let there : is_some (now.residents k).session.current ≡ true = ap (λ (s : Session). is_some s.current) w.session ∙ busy in
    let same : is_collect (now.residents k).session.round ≡ collects = ap (λ (s : Session). is_collect s.round) w.session ∙ is in
    let next : Walked site first collects (suc j) (tries_next site.grid collects (now.residents k)) = one_more site first (now.residents k) collects j w in
    ap (λ (d : Doing). d.letters) (waited_tick site now k true there w.waited)
    ∙ ap (λ c. resent_to site now k (aim_at site.grid (tries_next site.grid c (now.residents k)))) same
    ∙ ap (λ row. resent_to site now k (aim site.grid row (tries_next site.grid collects (now.residents k)).column)) next.row
    ∙ ap (λ column. resent_to site now k (aim site.grid (row_after site first collects (suc j)) column)) next.column
    ∙ resent_same site now local k (aim site.grid (row_after site first collects (suc j)) (column_after site first collects (suc j))) w.session

-- ---- of one that has waited or not

shifted : (site : Site) (local : Local) (k n : ℕ) → after_ticks site local k (suc n) ≡ after_ticks site (after_one site local (Ticked k)) k n
shifted site local k zero = refl
shifted site local k (suc n) = ap (λ (l : Local). after_one site l (Ticked k)) (shifted site local k n)

-- the first tick lets a session wait
record Waits (site : Site) (local : Local) (k : ℕ) (r : Resident) : Type 0 where
  is : (after_one site local (Ticked k)).residents k ≡ record r { waited = true }

waits : (site : Site) (local : Local) (k : ℕ) → is_some (local.residents k).session.current ≡ true → (local.residents k).waited ≡ false → Waits site local k (local.residents k)
waits site local k busy not = record { is = ap (λ (d : Doing). d.local.residents k) (waited_tick site local k false busy not) ∙ resident_there local k (record (local.residents k) { waited = true }) }

-- where a walk of a session that has waited leads to whom is to be asked, so do these ticks
abbrev Asks : Site → Local → (k many : ℕ) → Servers → Type 0
Asks site local k many up = (n : ℕ) × (n ≤ many) × (sent_then site local k n ≡ resent_to site local k up)

asks_then : (site : Site) (local : Local) (k many : ℕ) (collects : Bool) (up : Servers) → is_some (local.residents k).session.current ≡ true → is_collect (local.residents k).session.round ≡ collects → (j : ℕ) → suc j ≤ many →
    aim site.grid (row_after site (local.residents k) collects (suc j)) (column_after site (local.residents k) collects (suc j)) ≡ up → Asks site local k many up
asks_then site local k many collects up busy is j few there = elim (cases_Bool (local.residents k).waited) [
  | inl waited ↦ (j, omega arith, sent_behind site local k collects busy is waited j ∙ ap (resent_to site local k) there)
  | inr not ↦ (
      let after : Local = after_one site local (Ticked k) in
      let first : Resident = local.residents k in
      let now : after.residents k ≡ record first { waited = true } = (waits site local k busy not).is in
      let session : (after.residents k).session ≡ first.session = ap (λ (r : Resident). r.session) now in
      let busy' : is_some (after.residents k).session.current ≡ true = ap (λ (s : Session). is_some s.current) session ∙ busy in
      let is' : is_collect (after.residents k).session.round ≡ collects = ap (λ (s : Session). is_collect s.round) session ∙ is in
      let waited : (after.residents k).waited ≡ true = ap (λ (r : Resident). r.waited) now in
      let up' : Resident → Servers = λ r. aim site.grid (row_after site r collects (suc j)) (column_after site r collects (suc j)) in
      let same : up' (record first { waited = true }) ≡ up' first = same_walk site first collects (suc j) in (
        suc j,
        few,
        ap (λ (l : Local). (ticks k site l).letters) (shifted site local k j)
            ∙ sent_behind site after k collects busy' is' waited j
            ∙ ap (λ (r : Resident). resent_to site after k (up' r)) now
            ∙ ap (resent_to site after k) (same ∙ there)
            ∙ resent_same site after local k up session,
      ))
]
  where
    same_walk : (site : Site) (r : Resident) (collects : Bool) (j : ℕ) →
        aim site.grid (row_after site (record r { waited = true }) collects j) (column_after site (record r { waited = true }) collects j) ≡ aim site.grid (row_after site r collects j) (column_after site r collects j)
    same_walk site r true j = refl
    same_walk site r false j = refl

pub all_rows_are_tried : AllRowsAreTried
all_rows_are_tried site local k row busy collects within =
    let r : Resident = local.residents k in
    let way : Leads site.grid.rows r.row row = leads_to site.grid.rows r.row row within in
    asks_then site local k site.grid.rows true (aim site.grid row r.column) busy collects way.before way.few (ap (λ n. aim site.grid n r.column) way.there)

pub all_columns_are_tried : AllColumnsAreTried
all_columns_are_tried site local k column busy stores within =
    let r : Resident = local.residents k in
    let way : Leads site.grid.cols r.column column = leads_to site.grid.cols r.column column within in
    asks_then site local k site.grid.cols false (aim site.grid r.row column) busy stores way.before way.few (ap (aim site.grid r.row) way.there)
