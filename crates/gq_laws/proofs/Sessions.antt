-- What is known of a session's operation: of what it heard in its round, and of what it collected.
use Rattle.std.proofs.Common.{◌≡◌, ◌≢◌, ◌⊎◌, ℕ, ◌+◌, ◌-◌, ◌*◌, ◌/◌, ◌<◌, ◌≤◌, max, Bool, true, false, ◌++◌, List, [], ◌∷◌, length, refl, sym, ap, ◌∙◌, subst, inl, inr, Some, None, arith}
use Rattle.std.specs.Prelude.{Contains, slice_get}
use Rattle.std.proofs.lemmas.Bool.{cases_eq, true≢false}
use Rattle.std.proofs.lemmas.List.{length_push}
use Rattle.std.proofs.lemmas.Option.{slice_get_within}
use Rattle.std.proofs.lemmas.List.Elements.{Contains-append_left}
use Rattle.gq_grid.specs.Grid.{Grid, Servers}
use Rattle.gq_tag.specs.declared.Tag.{Tag}
use Rattle.gq_tag.specs.declared.StoredCopy.{StoredCopy}
use Rattle.gq_tag.specs.Tag.{File, greatest, is_less}
use Rattle.gq_tag.specs.declared.Body.TheVariants.{Copy}
use Rattle.gq_tag.proofs.Order.{IsAtMost, at_most_trans, less_from, at_most-parts}
use Rattle.gq_phase.specs.Phase.{Task, Reply, Writing, Reading, Listing, is_collect, round_file, stored_copy, heard_servers, heard_copies, hear_reply, givers}
use Rattle.gq_phase.specs.Quorums.{ends_collect, ends_store}
use Rattle.gq_phase.proofs.Meeting.{rounds_meet, stores_have_peers}
use Rattle.gq_desk.specs.declared.plans.TenantRow.{TenantRow}
use Rattle.gq_model.specs.Trace.{Entry, Trace, is_loss}
use Rattle.gq_laws.proofs.Holding.{keeps_step, keeps_had, run_before, extends_join, held_between_more}
use Rattle.gq_laws.proofs.Runs.{Follows, IsRun, IsKnown, Keeps, Settled, made, Extends, Starts, HeldBetween}
use Rattle.gq_phase.proofs.Saying.{odd_is, even_is}
use Rattle.gq_laws.proofs.Found.{push_at, stored-push, last_at, greatest_in, greatest_bound, hear_in, server_in, giver_in, copies_in, copies_to, position_of}

-- all that is used of quorums: a set that ends a store round and one that ends a collect round share a server; and among the servers
-- of the first are some that end it with all their peers
quorums_meet : (grid : Grid) (left right : Servers) → ends_store grid left ≡ true → ends_collect grid right ≡ true → (server : ℕ) × (left server ≡ true) × (right server ≡ true)
quorums_meet grid left right stored ends = let both = rounds_meet grid right left ends stored in (both.0, both.3, both.2)

-- the file of the i-th copy that an operation collects
abbrev pub file_at : Task → ℕ → File
file_at task i = round_file task (2 * i + 1)

-- session's operation is to do the task, is in round r, heard hs in it, collected cs, and began at start
pub record Holds (grid : Grid) (t : Trace) (task : Task) (r : ℕ) (hs : List Reply) (cs : List StoredCopy) (start : Starts) : Type 0 where
  pub standing : (r ≡ 2 * length cs + 1) ⊎ ((r ≡ 2 * length cs) × (0 < length cs))
  -- its round began no sooner than the operation
  pub later : Extends start.round start.op
  -- copies that it heard are known, and were held at their servers since the round began, which keep their tags
  pub heard_known : (x : Reply) (c : StoredCopy) → Contains hs x → x.body ≡ Copy c → IsKnown t (round_file task r) c
  pub heard_held : (x : Reply) (c : StoredCopy) → Contains hs x → x.body ≡ Copy c → HeldBetween grid start.round t x.server (round_file task r) c
  -- a collect round hears copies, a store round receipts of servers that keep the tag of its copy
  pub heard_copied : is_collect r ≡ true → (x : Reply) → Contains hs x → (c : StoredCopy) × (x.body ≡ Copy c)
  pub heard_stored : is_collect r ≡ false → (x : Reply) → Contains hs x → Keeps grid t x.server (round_file task r) (stored_copy cs).tag
  -- copies that it collected are known, at least what was settled at the start, and settled once their file is done
  pub known : (i : ℕ) (c : StoredCopy) → slice_get cs i ≡ Some c → IsKnown t (file_at task i) c
  pub at_least : (i : ℕ) (c : StoredCopy) (tag : Tag) → slice_get cs i ≡ Some c → Settled grid start.op (file_at task i) tag → IsAtMost tag c.tag
  pub above : (file : File) (bytes : List ℕ) (i : ℕ) (c : StoredCopy) (tag : Tag) → task ≡ Writing file bytes → slice_get cs i ≡ Some c → Settled grid start.op (file_at task i) tag → is_less tag c.tag ≡ true
  pub settled : (i : ℕ) (c : StoredCopy) → slice_get cs i ≡ Some c → 2 * i + 2 < r → Settled grid t (file_at task i) c.tag

-- ---- with one more entry

pub known_grows : (e : Entry) (t : Trace) (file : File) (c : StoredCopy) → IsKnown t file c → IsKnown (e ∷ t) file c
known_grows e t file c (inl first) = inl first
known_grows e t file c (inr within) = inr (Contains-append_left (made t) _ (record { file = file; copy = c }) within)

-- the servers of a set, and all their peers in it, keep a tag
abbrev KeepAll : Grid → Trace → File → Tag → Servers → Type 0
KeepAll grid t file tag set = (server : ℕ) → set server ≡ true → Keeps grid t server file tag

keep_all_step : (grid : Grid) (row : TenantRow) (e : Entry) (t : Trace) (file : File) (tag : Tag) (s : Settled grid t file tag) (later : Trace) → IsRun grid row later → Follows grid row later e → KeepAll grid later file tag s.set → KeepAll grid (e ∷ later) file tag s.set
keep_all_step grid row e t file tag s later run follows all server inside = by (is_loss e.turn server file) refl
  where
    by : (b : Bool) → is_loss e.turn server file ≡ b → Keeps grid (e ∷ later) server file tag
    by true lost = rw lost (λ peer are. all peer (s.peers server peer inside are))
    by false none = keeps_step grid row later e run follows server file tag none (all server inside)

pub settled_grows : (grid : Grid) (row : TenantRow) (e : Entry) (t : Trace) (file : File) (tag : Tag) → IsRun grid row t → Follows grid row t e → Settled grid t file tag → Settled grid (e ∷ t) file tag
settled_grows grid row e t file tag run follows s = record { set = s.set; ends = s.ends; peers = s.peers; kept_there = keep_all_step grid row e t file tag s t run follows s.kept_there }

-- what was settled is kept later by the same servers
pub kept_since : (grid : Grid) (row : TenantRow) (later t : Trace) (file : File) (tag : Tag) → IsRun grid row later → Extends later t → (s : Settled grid t file tag) → (server : ℕ) → s.set server ≡ true → Keeps grid later server file tag
kept_since grid row later t file tag run extends s =
    let P : Trace → Type 0 = λ z. KeepAll grid z file tag s.set in
    let Q : Trace → Type 0 = λ z. IsRun grid row z in
    subst P extends.1 (along extends.0 (subst Q (sym extends.1) run))
  where
    along : (more : Trace) → IsRun grid row (more ++ t) → KeepAll grid (more ++ t) file tag s.set
    along [] run = s.kept_there
    along (e ∷ more) run = keep_all_step grid row e t file tag s (more ++ t) run.0 run.1 (along more run.0)

pub settled_since : (grid : Grid) (row : TenantRow) (later t : Trace) (file : File) (tag : Tag) → IsRun grid row later → Extends later t → Settled grid t file tag → Settled grid later file tag
settled_since grid row later t file tag run extends s = record { set = s.set; ends = s.ends; peers = s.peers; kept_there = kept_since grid row later t file tag run extends s }

-- the entry loses no copy of the file at a server that was heard
abbrev pub Steady : Entry → File → List Reply → Type 0
Steady e file hs = (x : Reply) → Contains hs x → is_loss e.turn x.server file ≡ false

pub holds_grow : (grid : Grid) (row : TenantRow) (e : Entry) (t : Trace) (task : Task) (r : ℕ) (hs : List Reply) (cs : List StoredCopy) (start : Starts) → IsRun grid row t → Follows grid row t e → Steady e (round_file task r) hs → Holds grid t task r hs cs start → Holds grid (e ∷ t) task r hs cs start
holds_grow grid row e t task r hs cs start run follows steady h = record {
  standing = h.standing;
  later = h.later;
  heard_known = λ x c within is. known_grows e t (round_file task r) c (h.heard_known x c within is);
  heard_held = λ x c within is. held_between_more grid row e start.round t x.server (round_file task r) c run follows (steady x within) (h.heard_held x c within is);
  heard_copied = h.heard_copied;
  heard_stored = λ even x within. keeps_step grid row t e run follows x.server (round_file task r) (stored_copy cs).tag (steady x within) (h.heard_stored even x within);
  known = λ i c at. known_grows e t (file_at task i) c (h.known i c at);
  at_least = h.at_least;
  above = h.above;
  settled = λ i c at low. settled_grows grid row e t (file_at task i) c.tag run follows (h.settled i c at low);
}

-- ---- one more reply

-- what a reply shows
pub record Shown (grid : Grid) (t : Trace) (task : Task) (r : ℕ) (cs : List StoredCopy) (start : Starts) (x : Reply) : Type 0 where
  pub known : (c : StoredCopy) → x.body ≡ Copy c → IsKnown t (round_file task r) c
  pub was_held : (c : StoredCopy) → x.body ≡ Copy c → HeldBetween grid start.round t x.server (round_file task r) c
  pub copied : is_collect r ≡ true → (c : StoredCopy) × (x.body ≡ Copy c)
  pub stored : is_collect r ≡ false → Keeps grid t x.server (round_file task r) (stored_copy cs).tag

pub holds_hear : (grid : Grid) (t : Trace) (task : Task) (r : ℕ) (hs : List Reply) (cs : List StoredCopy) (start : Starts) (y : Reply) → Holds grid t task r hs cs start → Shown grid t task r cs start y → Holds grid t task r (hear_reply hs y) cs start
holds_hear grid t task r hs cs start y h s = record {
  standing = h.standing;
  later = h.later;
  heard_known = λ x c within is. known x c is (hear_in hs y x within);
  heard_held = λ x c within is. was_held x c is (hear_in hs y x within);
  heard_copied = λ odd x within. copied odd x (hear_in hs y x within);
  heard_stored = λ even x within. stored even x (hear_in hs y x within);
  known = h.known;
  at_least = h.at_least;
  above = h.above;
  settled = h.settled;
}
  where
    known : (x : Reply) (c : StoredCopy) → x.body ≡ Copy c → Contains hs x ⊎ (y ≡ x) → IsKnown t (round_file task r) c
    known x c is (inl old) = h.heard_known x c old is
    known x c is (inr new) = s.known c (ap (λ z. z.body) new ∙ is)

    was_held : (x : Reply) (c : StoredCopy) → x.body ≡ Copy c → Contains hs x ⊎ (y ≡ x) → HeldBetween grid start.round t x.server (round_file task r) c
    was_held x c is (inl old) = h.heard_held x c old is
    was_held x c is (inr new) = let P : Reply → Type 0 = λ z. HeldBetween grid start.round t z.server (round_file task r) c in subst P new (s.was_held c (ap (λ z. z.body) new ∙ is))

    copied : is_collect r ≡ true → (x : Reply) → Contains hs x ⊎ (y ≡ x) → (c : StoredCopy) × (x.body ≡ Copy c)
    copied odd x (inl old) = h.heard_copied odd x old
    copied odd x (inr new) = let P : Reply → Type 0 = λ z. (c : StoredCopy) × (z.body ≡ Copy c) in subst P new (s.copied odd)

    stored : is_collect r ≡ false → (x : Reply) → Contains hs x ⊎ (y ≡ x) → Keeps grid t x.server (round_file task r) (stored_copy cs).tag
    stored even x (inl old) = h.heard_stored even x old
    stored even x (inr new) = let P : Reply → Type 0 = λ z. Keeps grid t z.server (round_file task r) (stored_copy cs).tag in subst P new (s.stored even)

-- ---- an operation begins

empty_has : {X : Type 0} (x : X) → Contains [] x → ⊥
empty_has x within = omega (arith, within.1)

pub holds_begin : (grid : Grid) (t : Trace) (task : Task) (start : Starts) → Extends start.round start.op → Holds grid t task 1 [] [] start
holds_begin grid t task start later = record {
  standing = inl refl;
  later = later;
  heard_known = λ x c within is. absurd (empty_has x within);
  heard_held = λ x c within is. absurd (empty_has x within);
  heard_copied = λ odd x within. absurd (empty_has x within);
  heard_stored = λ even x within. absurd (empty_has x within);
  known = λ i c at. absurd (let bad : None ≡ Some c = at in cc);
  at_least = λ i c tag at s. absurd (let bad : None ≡ Some c = at in cc);
  above = λ file bytes i c tag is at s. absurd (let bad : None ≡ Some c = at in cc);
  settled = λ i c at low. absurd (let bad : None ≡ Some c = at in cc);
}

-- ---- a store round begins

-- a collect round has the number of the file that it collects
pub collect_number : (r n : ℕ) → is_collect r ≡ true → (r ≡ 2 * n + 1) ⊎ ((r ≡ 2 * n) × (0 < n)) → r ≡ 2 * n + 1
collect_number r n odd (inl is) = is
collect_number r n odd (inr is) = absurd (true≢false (sym odd ∙ ap is_collect is.0 ∙ even_is n))

pub store_number : (r n : ℕ) → is_collect r ≡ false → (r ≡ 2 * n + 1) ⊎ ((r ≡ 2 * n) × (0 < n)) → (r ≡ 2 * n) × (0 < n)
store_number r n even (inl is) = absurd (true≢false (sym (odd_is n) ∙ sym (ap is_collect is) ∙ even))
store_number r n even (inr is) = is

pub holds_store : (grid : Grid) (t : Trace) (task : Task) (r : ℕ) (hs : List Reply) (cs : List StoredCopy) (start : Starts) (now : Trace) (c : StoredCopy) → Holds grid t task r hs cs start → is_collect r ≡ true → Extends now start.op →
    IsKnown t (round_file task r) c → ((tag : Tag) → Settled grid start.op (round_file task r) tag → IsAtMost tag c.tag) →
    ((file : File) (bytes : List ℕ) (tag : Tag) → task ≡ Writing file bytes → Settled grid start.op (round_file task r) tag → is_less tag c.tag ≡ true) →
    Holds grid t task (2 * length (cs ++ c ∷ [])) [] (cs ++ c ∷ []) (record { op = start.op; round = now })
holds_store grid t task r hs cs start now c h odd later is_known least more = record {
  standing = inr (refl, omega (arith, length_push cs c));
  later = later;
  heard_known = λ x d within is. absurd (empty_has x within);
  heard_held = λ x d within is. absurd (empty_has x within);
  heard_copied = λ o x within. absurd (empty_has x within);
  heard_stored = λ even x within. absurd (empty_has x within);
  known = λ i d at. known i d (push_at cs c i d at);
  at_least = λ i d tag at s. at_least i d tag s (push_at cs c i d at);
  above = λ file bytes i d tag is at s. above file bytes i d tag is s (push_at cs c i d at);
  settled = λ i d at low. settled i d low (push_at cs c i d at);
}
  where
    number : r ≡ 2 * length cs + 1
    number = collect_number r (length cs) odd h.standing

    files : (i : ℕ) → i ≡ length cs → round_file task r ≡ file_at task i
    files i is = ap (round_file task) (number ∙ ap (λ z. 2 * z + 1) (sym is))

    known : (i : ℕ) (d : StoredCopy) → (slice_get cs i ≡ Some d) ⊎ ((i ≡ length cs) × (c ≡ d)) → IsKnown t (file_at task i) d
    known i d (inl old) = h.known i d old
    known i d (inr new) = let P : File → StoredCopy → Type 0 = λ f x. IsKnown t f x in subst (λ x. P (file_at task i) x) new.1 (subst (λ f. P f c) (files i new.0) is_known)

    at_least : (i : ℕ) (d : StoredCopy) (tag : Tag) → Settled grid start.op (file_at task i) tag → (slice_get cs i ≡ Some d) ⊎ ((i ≡ length cs) × (c ≡ d)) → IsAtMost tag d.tag
    at_least i d tag s (inl old) = h.at_least i d tag old s
    at_least i d tag s (inr new) = let P : StoredCopy → Type 0 = λ x. IsAtMost tag x.tag in let Q : File → Type 0 = λ f. Settled grid start.op f tag in subst P new.1 (least tag (subst Q (sym (files i new.0)) s))

    above : (file : File) (bytes : List ℕ) (i : ℕ) (d : StoredCopy) (tag : Tag) → task ≡ Writing file bytes → Settled grid start.op (file_at task i) tag → (slice_get cs i ≡ Some d) ⊎ ((i ≡ length cs) × (c ≡ d)) → is_less tag d.tag ≡ true
    above file bytes i d tag is s (inl old) = h.above file bytes i d tag is old s
    above file bytes i d tag is s (inr new) = let P : StoredCopy → Type 0 = λ x. is_less tag x.tag ≡ true in let Q : File → Type 0 = λ f. Settled grid start.op f tag in subst P new.1 (more file bytes tag is (subst Q (sym (files i new.0)) s))

    settled : (i : ℕ) (d : StoredCopy) → 2 * i + 2 < 2 * length (cs ++ c ∷ []) → (slice_get cs i ≡ Some d) ⊎ ((i ≡ length cs) × (c ≡ d)) → Settled grid t (file_at task i) d.tag
    settled i d low (inl old) = h.settled i d old (let below = slice_get_within cs i d old in omega (arith, number, length_push cs c))
    settled i d low (inr new) = absurd (omega (arith, new.0, length_push cs c))

-- ---- the next file's collect round begins

-- the file of a store round is that of the last copy collected
pub store_file : (task : Task) (r j : ℕ) → r ≡ 2 * (j + 1) → round_file task r ≡ file_at task j
store_file (Writing file bytes) r j is = refl
store_file (Reading file) r j is = refl
store_file (Listing v f) r j is = ap (λ z. record { volume = v; place = z }) (places r j is)
  where
    places : (r j : ℕ) → r ≡ 2 * (j + 1) → (r - 1) / 2 ≡ (2 * j + 1 - 1) / 2
    places r j is = omega arith

pub last_number : (r : ℕ) (n j : ℕ) → r ≡ 2 * n → n ≡ j + 1 → r ≡ 2 * (j + 1)
last_number r n j is last = is ∙ ap (λ z. 2 * z) last

-- once the last file's store round has ended, all files are done
pub all_settled : (grid : Grid) (t : Trace) (task : Task) (r : ℕ) (hs : List Reply) (cs : List StoredCopy) (start : Starts) → Holds grid t task r hs cs start → is_collect r ≡ false →
    Settled grid t (round_file task r) (stored_copy cs).tag → (i : ℕ) (c : StoredCopy) → slice_get cs i ≡ Some c → Settled grid t (file_at task i) c.tag
all_settled grid t task r hs cs start h even settled i c at = go (cases_eq i last.0)
  where
    number : (r ≡ 2 * length cs) × (0 < length cs)
    number = store_number r (length cs) even h.standing

    last : (j : ℕ) × (length cs ≡ j + 1) × (slice_get cs j ≡ Some (stored_copy cs))
    last = last_at cs number.1

    go : (i ≡ last.0) ⊎ (i ≢ last.0) → Settled grid t (file_at task i) c.tag
    go (inl same) =
        let both : Some (stored_copy cs) ≡ Some c = sym last.2 ∙ ap (slice_get cs) (sym same) ∙ at in
        let copies : stored_copy cs ≡ c = cc in
        let files : round_file task r ≡ file_at task i = store_file task r last.0 (last_number r (length cs) last.0 number.0 last.1) ∙ ap (file_at task) (sym same) in
        let P : File → StoredCopy → Type 0 = λ f x. Settled grid t f x.tag in
        subst (λ x. P (file_at task i) x) copies (subst (λ f. P f (stored_copy cs)) files settled)
    go (inr ne) = h.settled i c at (omega (arith, slice_get_within cs i c at, last.1, number.0, ne))

pub holds_next : (grid : Grid) (t : Trace) (task : Task) (r : ℕ) (hs : List Reply) (cs : List StoredCopy) (start : Starts) (now : Trace) → Holds grid t task r hs cs start → is_collect r ≡ false → Extends now start.op →
    Settled grid t (round_file task r) (stored_copy cs).tag → Holds grid t task (2 * length cs + 1) [] cs (record { op = start.op; round = now })
holds_next grid t task r hs cs start now h even later last = record {
  standing = inl refl;
  later = later;
  heard_known = λ x d within is. absurd (empty_has x within);
  heard_held = λ x d within is. absurd (empty_has x within);
  heard_copied = λ o x within. absurd (empty_has x within);
  heard_stored = λ ev x within. absurd (empty_has x within);
  known = h.known;
  at_least = h.at_least;
  above = h.above;
  settled = λ i c at low. all_settled grid t task r hs cs start h even last i c at;
}

-- ---- the end of a round

-- where the servers of a set that ends a store round keep the tag, it is settled
settled_by : (grid : Grid) (t : Trace) (file : File) (tag : Tag) (set : Servers) → ends_store grid set ≡ true → ((server : ℕ) → set server ≡ true → Keeps grid t server file tag) → Settled grid t file tag
settled_by grid t file tag set ends keeps =
    let some = stores_have_peers grid set ends in
    record { set = some.0; ends = some.1; peers = some.3; kept_there = λ server inside. keeps server (some.2 server inside) }

-- where the servers heard end a store round, its copy is settled
pub stored_settled : (grid : Grid) (t : Trace) (task : Task) (r : ℕ) (hs : List Reply) (cs : List StoredCopy) (start : Starts) → Holds grid t task r hs cs start → is_collect r ≡ false → ends_store grid (heard_servers hs) ≡ true →
    Settled grid t (round_file task r) (stored_copy cs).tag
stored_settled grid t task r hs cs start h even ends = settled_by grid t (round_file task r) (stored_copy cs).tag (heard_servers hs) ends there
  where
    there : (s : ℕ) → heard_servers hs s ≡ true → Keeps grid t s (round_file task r) (stored_copy cs).tag
    there s inside =
        let x = server_in hs s inside in
        let P : ℕ → Type 0 = λ z. Keeps grid t z (round_file task r) (stored_copy cs).tag in
        subst P x.2 (h.heard_stored even x.0 x.1)

-- where the servers heard end a collect round, the greatest copy heard is at least what was settled when the operation began
pub greatest_least : (grid : Grid) (row : TenantRow) (t : Trace) (task : Task) (r : ℕ) (hs : List Reply) (cs : List StoredCopy) (start : Starts) (tag : Tag) → IsRun grid row t → Holds grid t task r hs cs start → is_collect r ≡ true → ends_collect grid (heard_servers hs) ≡ true →
    Settled grid start.op (round_file task r) tag → IsAtMost tag (greatest (heard_copies hs)).tag
greatest_least grid row t task r hs cs start tag run h odd ends s =
    let meet = quorums_meet grid s.set (heard_servers hs) s.ends ends in
    let x = server_in hs meet.0 meet.2 in
    let copied = h.heard_copied odd x.0 x.1 in
    let was = h.heard_held x.0 copied.0 x.1 copied.1 in
    let then_kept : Keeps grid was.moment meet.0 (round_file task r) tag = kept_since grid row was.moment start.op (round_file task r) tag (run_before grid row t was.moment was.until run) (extends_join was.moment start.round start.op was.since h.later) s meet.0 meet.1 in
    let P : ℕ → Type 0 = λ z. Keeps grid was.moment z (round_file task r) tag in
    let there : Keeps grid was.moment x.0.server (round_file task r) tag = subst P (sym x.2) then_kept in
    let Q : StoredCopy → Type 0 = λ c. IsAtMost tag c.tag in
    let fresh : IsAtMost tag copied.0.tag = subst Q was.held_then (keeps_had grid was.moment x.0.server (round_file task r) tag was.had there) in
    let place = position_of hs x.0 x.1 in
    let among = copies_to hs x.0 copied.0 place.0 place.1 copied.1 in
    let most : IsAtMost copied.0.tag (greatest (heard_copies hs)).tag = greatest_bound (heard_copies hs) copied.0 among.0 among.1 in
    at_most_trans tag copied.0.tag (greatest (heard_copies hs)).tag fresh most

-- the greatest copy heard is known
pub greatest_known : (grid : Grid) (t : Trace) (task : Task) (r : ℕ) (hs : List Reply) (cs : List StoredCopy) (start : Starts) → Holds grid t task r hs cs start → IsKnown t (round_file task r) (greatest (heard_copies hs))
greatest_known grid t task r hs cs start h = greatest_in (IsKnown t (round_file task r)) (heard_copies hs) (inl refl) (λ c within. let x = copies_in hs c within in h.heard_known x.0 c x.1 x.2)

-- an operation that is no write collects the greatest copy heard
pub holds_greatest : (grid : Grid) (row : TenantRow) (t : Trace) (task : Task) (r : ℕ) (hs : List Reply) (cs : List StoredCopy) (start : Starts) (now : Trace) → IsRun grid row t → Holds grid t task r hs cs start → is_collect r ≡ true → ends_collect grid (heard_servers hs) ≡ true → Extends now start.op →
    ((file : File) (bytes : List ℕ) → task ≢ Writing file bytes) → Holds grid t task (2 * length (cs ++ greatest (heard_copies hs) ∷ [])) [] (cs ++ greatest (heard_copies hs) ∷ []) (record { op = start.op; round = now })
holds_greatest grid row t task r hs cs start now run h odd ends later no_write =
    holds_store grid t task r hs cs start now (greatest (heard_copies hs)) h odd later
    (greatest_known grid t task r hs cs start h)
    (λ tag s. greatest_least grid row t task r hs cs start tag run h odd ends s)
    (λ file bytes tag is s. absurd (no_write file bytes is))

-- ---- a store round is left out

-- where the servers that told copies of a tag end a store round, the tag is settled
pub told_settled : (grid : Grid) (t : Trace) (task : Task) (r : ℕ) (hs : List Reply) (cs : List StoredCopy) (start : Starts) (tag : Tag) → Holds grid t task r hs cs start → ends_store grid (givers tag hs) ≡ true →
    Settled grid t (round_file task r) tag
told_settled grid t task r hs cs start tag h ends = settled_by grid t (round_file task r) tag (givers tag hs) ends there
  where
    there : (s : ℕ) → givers tag hs s ≡ true → Keeps grid t s (round_file task r) tag
    there s inside =
        let found = giver_in tag hs s inside in
        let x = found.0 in
        let c = found.1 in
        let was = h.heard_held x c found.2 found.4 in
        let P : ℕ → Tag → Type 0 = λ server least. Keeps grid t server (round_file task r) least in
        subst (λ least. P s least) found.5 (subst (λ server. P server c.tag) found.3 was.kept)

-- the copy collected is as settled as after its store round
pub skip_settled : (grid : Grid) (t : Trace) (task : Task) (r : ℕ) (cs : List StoredCopy) (c : StoredCopy) → r ≡ 2 * length cs + 1 → Settled grid t (round_file task r) c.tag → Settled grid t (round_file task (2 * length (cs ++ c ∷ []))) (stored_copy (cs ++ c ∷ [])).tag
skip_settled grid t task r cs c number s =
    let files : round_file task r ≡ round_file task (2 * length (cs ++ c ∷ [])) = ap (round_file task) number ∙ sym (store_file task (2 * length (cs ++ c ∷ [])) (length cs) (ap (λ z. 2 * z) (length_push cs c))) in
    let P : File → StoredCopy → Type 0 = λ f x. Settled grid t f x.tag in
    subst (λ x. P (round_file task (2 * length (cs ++ c ∷ []))) x) (sym (stored-push cs c)) (subst (λ f. P f c) files s)

-- a tag with a greater number is greater
pub number_above : (a b : Tag) (s n : ℕ) → IsAtMost a b → is_less a (record { number = max b.number n + 1; session = s }) ≡ true
number_above a b s n h = go (at_most-parts b a h)
  where
    go : (a.number < b.number) ⊎ ((b.number ≡ a.number) × (a.session ≤ b.session)) → is_less a (record { number = max b.number n + 1; session = s }) ≡ true
    go (inl low) = less_from a (record { number = max b.number n + 1; session = s }) (inl (omega arith))
    go (inr same) = less_from a (record { number = max b.number n + 1; session = s }) (inl (omega (arith, same.0)))
