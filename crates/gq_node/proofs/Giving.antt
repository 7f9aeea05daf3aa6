-- A new node's files: what it lacks, what it is given, and whom it asks.
use Rattle.std.proofs.Common.{◌≡◌, ◌≢◌, ◌∙◌, ℕ, zero, suc, ◌+◌, ◌-◌, ◌*◌, ◌<◌, ◌≤◌, Bool, true, false, List, [], ◌∷◌, ◌++◌, length, map, Option, Some, None, refl, sym, ap, subst, arith, inl, inr}
use Rattle.std.specs.Prelude.{◌==◌, ◌&&◌, not, is_some, find, slice_set, slice_index_or}
use Rattle.std.specs.List.{range_with_len, flat_map}
use Rattle.std.proofs.lemmas.Bool.{cases_eq, cases_lt, eq-eqb, ne_eqb, and_parts, and_from, true≢false}
use Rattle.std.proofs.lemmas.List.{get_or-set_same, get_or-set_other, length-set}
use Rattle.gq_grid.specs.Grid.{with_server}
use Rattle.gq_grid.specs.Sets.{servers}
use Rattle.gq_grid.specs.declared.ServerSet.{ServerSet}
use Rattle.gq_tag.specs.declared.FileId.{FileId}
use Rattle.gq_tag.specs.declared.StoredCopy.{StoredCopy}
use Rattle.gq_tag.specs.declared.Body.{Body}
use Rattle.gq_tag.specs.declared.Body.TheVariants.{Store}
use Rattle.gq_tag.specs.Tag.{File, is_file, file_of, file_place, message_of, newer_of}
use Rattle.gq_desk.specs.declared.limits.TheConstants.{MOST_VOLUMES}
use Rattle.gq_desk.specs.declared.volumes.VolumeRow.{VolumeRow}
use Rattle.gq_desk.specs.Volumes.{Account, account_at, limit_of}
use Rattle.gq_store.specs.Copies.{StoreCopies, copy_at, store_accounts}
use Rattle.gq_model.specs.Trace.{files_of, limit_at}
use Rattle.gq_cluster.specs.Cluster.{everyone, copy_in}
use Rattle.gq_cluster.specs.Facts.{Had}
use Rattle.gq_replace.specs.Plans.{place_of, node_at}
use Rattle.gq_node.specs.declared.output.Fact.TheVariants.{Had as WasGiven}
use Rattle.gq_node.specs.declared.output.Output.{Output}
use Rattle.gq_node.specs.declared.output.Transfer.{Transfer as Code}
use Rattle.gq_node.specs.declared.output.Transfer.TheVariants.{Wants as CodeWants, Brings as CodeBrings}
use Rattle.gq_node.specs.Deciding.{joins_it, gives_it, takes_it}
use Rattle.gq_node.specs.Lanes.{lane_of, lacks_of_lane}
use Rattle.gq_node.specs.Joining.{hears_joined, all_joined, peer_for, files_in_volume, first_in_lane, first_lacked, asks_peer, looks, is_peer, has_file, gives, takes}
use Rattle.gq_node.specs.Lacks.{Given, lacks_in, marks_for, AllGiven}
use Rattle.gq_node.specs.Local.{Local, Doing, Wants, Brings, part_in, state_of, silently, file_fits, recalls, given as given_local}
use Rattle.gq_node.specs.SessionStates.{GivesNothing}
use Rattle.gq_node.specs.Shape.{IsShaped}
use Rattle.gq_node.specs.Sites.{Site, plan_in, site_of}
use Rattle.gq_node.specs.Tables.{Tables, Agrees, Leads, LeadsAll, Acts, Gives, given_at, lacks_at, peer_at}
use Rattle.gq_node.proofs.Lacking.{none_lacked, none_lacked_past, marks_there}
use Rattle.gq_node.proofs.Recalling.{copies_put, copies_elsewhere}
use Rattle.gq_node.proofs.Placing.{same_leads}
use Rattle.gq_node.proofs.Serving.{limit_is}

-- ---- the server is given a file

abbrev pub with_given : Tables → ℕ → StoreCopies → Given → Tables
with_given w t store given = record w { store = store; given = slice_set w.given t given }

-- what it lacks then
pub record IsGiven (w : Tables) (file : FileId) (copy : StoredCopy) (store : StoreCopies) (given : Given) : Type 0 where
  pub held : copy_at store file ≡ newer_of (copy_at w.store file) copy
  pub others : (other : FileId) → other ≢ file → copy_at store other ≡ copy_at w.store other
  pub lacks : (f : File) → lacks_in given f ≡ (lacks_at w file.tenant f && not (is_file (file_place file) f))

lacks_here : (w : Tables) (t : ℕ) (store : StoreCopies) (given : Given) (f : File) → t < length w.given → lacks_at (with_given w t store given) t f ≡ lacks_in given f
lacks_here w t store given f within = ap (λ g. lacks_in g f) (get_or-set_same w.given t given [] within)

lacks_there : (w : Tables) (t u : ℕ) (store : StoreCopies) (given : Given) (f : File) → u ≢ t → lacks_at (with_given w t store given) u f ≡ lacks_at w u f
lacks_there w t u store given f other = ap (λ g. lacks_in g f) (get_or-set_other w.given t u given [] other)

pub given_leads : (w : Tables) (file : FileId) (copy : StoredCopy) (store : StoreCopies) (given : Given) → file.tenant < length w.given → IsGiven w file copy store given →
    Leads w file.tenant (λ site local. silently (given_local (file_place file) copy local)) (with_given w file.tenant store given)
given_leads w file copy store given within h =
    let t : ℕ = file.tenant in
    record {
      plan = refl;
      here = refl;
      own = λ local agrees. record {
        account = agrees.account;
        copies = copies_put w file copy store local h.held h.others agrees;
        lacks = λ f. lacks_here w t store given f within ∙ h.lacks f ∙ ap (λ b. b && not (is_file (file_place file) f)) (agrees.lacks f);
        joined = agrees.joined;
        peer = agrees.peer;
        session_states = agrees.session_states;
      };
      others = λ u other local agrees. record {
        account = agrees.account;
        copies = copies_elsewhere w file store u local other h.others agrees;
        lacks = λ f. lacks_there w t u store given f other ∙ agrees.lacks f;
        joined = agrees.joined;
        peer = agrees.peer;
        session_states = agrees.session_states;
      };
    }

pub given_shaped : (w : Tables) (file : FileId) (copy : StoredCopy) (store : StoreCopies) (given : Given) → IsShaped w → file.tenant < length w.given → IsGiven w file copy store given → length given ≡ length (given_at w file.tenant) → ((v : ℕ) → length (slice_index_or given v []) ≡ length (slice_index_or (given_at w file.tenant) v [])) → store_accounts store ≡ store_accounts w.store →
    IsShaped (with_given w file.tenant store given)
given_shaped w file copy store given shaped within h long marks accounts = record {
  place = shaped.place;
  few = shaped.few;
  grid = shaped.grid;
  desk = shaped.desk;
  accounts = accounts ∙ shaped.accounts;
  volumes = shaped.volumes;
  given = length-set w.given t given ∙ shaped.given;
  whole = λ old u f. elim (cases_eq u t) [
    | inl same ↦ (ap (λ n. lacks_at new n f) same ∙ lacks_here w t store given f within ∙ h.lacks f ∙ ap (λ b. b && not (is_file (file_place file) f)) (shaped.whole old t f))
    | inr other ↦ (lacks_there w t u store given f other ∙ shaped.whole old u f)
  ];
  bare = λ u f lacks. elim (cases_eq u t) [
    | inl same ↦ (
        let its : (lacks_at w t f && not (is_file (file_place file) f)) ≡ true = sym (h.lacks f) ∙ sym (lacks_here w t store given f within) ∙ ap (λ n. lacks_at new n f) (sym same) ∙ lacks in
        let parts = and_parts (lacks_at w t f) (not (is_file (file_place file) f)) its in
        let apart : file_of t f ≢ file = λ e. is_not (is_file (file_place file) f) (ap (is_file (file_place file)) (ap file_place e) ∙ same_here (file_place file)) parts.1 in
        ap (λ n. copy_at store (file_of n f)) same ∙ h.others (file_of t f) apart ∙ shaped.bare t f parts.0)
    | inr other ↦ (
        let its : lacks_at w u f ≡ true = sym (lacks_there w t u store given f other) ∙ lacks in
        h.others (file_of u f) (λ e. other (ap (λ (x : FileId). x.tenant) e)) ∙ shaped.bare u f its)
  ];
  few_given = λ u. elim (cases_eq u t) [
    | inl same ↦ (subst (λ n. length (given_at new n) ≤ MOST_VOLUMES) (sym same) (subst (λ (g : Given). length g ≤ MOST_VOLUMES) (sym (get_or-set_same w.given t given [] within)) (subst (λ n. n ≤ MOST_VOLUMES) (sym long) (shaped.few_given t))))
    | inr other ↦ (subst (λ (g : Given). length g ≤ MOST_VOLUMES) (sym (get_or-set_other w.given t u given [] other)) (shaped.few_given u))
  ];
  marks = λ u. elim (cases_eq u t) [
    | inl same ↦ (subst (λ n. Marked (given_at new n) n) (sym same) (subst (λ g. Marked g t) (sym (get_or-set_same w.given t given [] within)) marked))
    | inr other ↦ (subst (λ g. Marked g u) (sym (get_or-set_other w.given t u given [] other)) (shaped.marks u))
  ];
  peers = shaped.peers;
  grid_peers = shaped.grid_peers;
  tenants = shaped.tenants;
  session_states = shaped.session_states;
  sessions = shaped.sessions;
}
  where
    t : ℕ
    t = file.tenant

    new : Tables
    new = with_given w file.tenant store given

    Marked : Given → ℕ → Type 0
    Marked g u = (v : ℕ) → v < length g → marks_for (account_at w.desk u).volumes v ≤ length (slice_index_or g v [])

    marked : Marked given t
    marked v below = subst (λ n. marks_for (account_at w.desk t).volumes v ≤ n) (sym (marks v)) (shaped.marks t v (subst (λ n. v < n) long below))

    same_here : (f : File) → is_file f f ≡ true
    same_here f = and_from (f.volume == f.volume) (f.place == f.place) (eq-eqb f.volume f.volume refl) (eq-eqb f.place f.place refl)

    is_not : (b : Bool) → b ≡ true → not b ≡ true → ⊥
    is_not true is not' = cc
    is_not false is not' = cc

-- ---- the first file that the server lacks

abbrev pub at_place : (volume : ℕ) → ℕ → File
at_place volume place = record { volume = volume; place = place }

-- what is left of a volume's files, and of all volumes
pub first_in_more : (lacks : File → Bool) (v i n : ℕ) → i < n → lacks (at_place v i) ≡ false → find lacks (map (at_place v) (range_with_len (i + 1) (n - (i + 1)))) ≡ find lacks (map (at_place v) (range_with_len i (n - i)))
first_in_more lacks v i n less none = let s : n - i ≡ suc (n - (i + 1)) = omega arith in rw (s, none) refl

pub first_in_here : (lacks : File → Bool) (v i n : ℕ) → i < n → lacks (at_place v i) ≡ true → Some (at_place v i) ≡ find lacks (map (at_place v) (range_with_len i (n - i)))
first_in_here lacks v i n less some = let s : n - i ≡ suc (n - (i + 1)) = omega arith in rw (s, some) refl

pub first_in_none : (lacks : File → Bool) (v i n : ℕ) → n ≤ i → find lacks (map (at_place v) (range_with_len i (n - i))) ≡ None
first_in_none lacks v i n past = let s : n - i ≡ 0 = omega arith in rw s refl

-- from a place on before which none is lacked
pub first_in_from : (lacks : File → Bool) (v i n : ℕ) → ((place : ℕ) → place < i → lacks (at_place v place) ≡ false) → find lacks (map (at_place v) (range_with_len i (n - i))) ≡ find lacks (map (at_place v) (range_with_len 0 n))
first_in_from lacks v zero n none = let all : n - 0 ≡ n = omega arith in ap (λ m. find lacks (map (at_place v) (range_with_len 0 m))) all
first_in_from lacks v (suc i) n none = elim (cases_lt i n) [
  | inl less ↦ (
      let next : i + 1 ≡ suc i = omega arith in
      ap (λ m. find lacks (map (at_place v) (range_with_len m (n - m)))) (sym next)
      ∙ first_in_more lacks v i n less (none i (omega arith))
      ∙ first_in_from lacks v i n before)
  | inr past ↦ (first_in_none lacks v (suc i) n (omega (arith, past)) ∙ sym (first_in_none lacks v i n past) ∙ first_in_from lacks v i n before)
]
  where
    before : (place : ℕ) → place < i → lacks (at_place v place) ≡ false
    before place low = none place (omega (arith, low))

find_behind : (lacks : File → Bool) (xs ys : List File) → find lacks xs ≡ None → find lacks (xs ++ ys) ≡ find lacks ys
find_behind lacks [] ys none = refl
find_behind lacks (x ∷ xs) ys none = by (lacks x) refl (find_behind lacks xs ys)
  where
    by : (b : Bool) → lacks x ≡ b → (find lacks xs ≡ None → find lacks (xs ++ ys) ≡ find lacks ys) → find lacks (x ∷ xs ++ ys) ≡ find lacks ys
    by true is rest = let e : find lacks (x ∷ xs) ≡ Some x = rw is refl in let h : ◌≡◌ {A = Option File} (Some x) None = sym e ∙ none in absurd (cc)
    by false is rest =
        let e : find lacks (x ∷ xs) ≡ find lacks xs = rw is refl in
        let f : find lacks (x ∷ xs ++ ys) ≡ find lacks (xs ++ ys) = rw is refl in
        f ∙ rest (sym e ∙ none)

find_before : (lacks : File → Bool) (xs ys : List File) (x : File) → find lacks xs ≡ Some x → find lacks (xs ++ ys) ≡ Some x
find_before lacks [] ys x some = absurd (cc)
find_before lacks (y ∷ xs) ys x some = by (lacks y) refl (find_before lacks xs ys x)
  where
    by : (b : Bool) → lacks y ≡ b → (find lacks xs ≡ Some x → find lacks (xs ++ ys) ≡ Some x) → find lacks (y ∷ xs ++ ys) ≡ Some x
    by true is rest =
        let e : find lacks (y ∷ xs) ≡ Some y = rw is refl in
        let f : find lacks (y ∷ xs ++ ys) ≡ Some y = rw is refl in
        f ∙ sym e ∙ some
    by false is rest =
        let e : find lacks (y ∷ xs) ≡ find lacks xs = rw is refl in
        let f : find lacks (y ∷ xs ++ ys) ≡ find lacks (xs ++ ys) = rw is refl in
        f ∙ rest (sym e ∙ some)

pub first_more : (lacks : File → Bool) (g : ℕ → List File) (v n : ℕ) → v < n → find lacks (g v) ≡ None → find lacks (flat_map g (range_with_len (v + 1) (n - (v + 1)))) ≡ find lacks (flat_map g (range_with_len v (n - v)))
first_more lacks g v n less none =
    let s : n - v ≡ suc (n - (v + 1)) = omega arith in
    sym (ap (λ m. find lacks (flat_map g (range_with_len v m))) s ∙ find_behind lacks (g v) (flat_map g (range_with_len (v + 1) (n - (v + 1)))) none)

pub first_here : (lacks : File → Bool) (g : ℕ → List File) (v n : ℕ) (x : File) → v < n → find lacks (g v) ≡ Some x → find lacks (flat_map g (range_with_len v (n - v))) ≡ Some x
first_here lacks g v n x less some =
    let s : n - v ≡ suc (n - (v + 1)) = omega arith in
    ap (λ m. find lacks (flat_map g (range_with_len v m))) s ∙ find_before lacks (g v) (flat_map g (range_with_len (v + 1) (n - (v + 1)))) x some

pub first_none : (lacks : File → Bool) (g : ℕ → List File) (v n : ℕ) → n ≤ v → find lacks (flat_map g (range_with_len v (n - v))) ≡ None
first_none lacks g v n past = let s : n - v ≡ 0 = omega arith in rw s refl

-- from a volume on before which none is lacked
pub first_from : (lacks : File → Bool) (f : ℕ → List File) (i n : ℕ) → ((v : ℕ) → v < i → v < n → find lacks (f v) ≡ None) → find lacks (flat_map f (range_with_len i (n - i))) ≡ find lacks (flat_map f (range_with_len 0 n))
first_from lacks f zero n none = let all : n - 0 ≡ n = omega arith in ap (λ m. find lacks (flat_map f (range_with_len 0 m))) all
first_from lacks f (suc i) n none = elim (cases_lt i n) [
  | inl less ↦ (
      let next : i + 1 ≡ suc i = omega arith in
      ap (λ m. find lacks (flat_map f (range_with_len m (n - m)))) (sym next)
      ∙ first_more lacks f i n less (none i (omega arith) less)
      ∙ first_from lacks f i n before)
  | inr past ↦ (first_none lacks f (suc i) n (omega (arith, past)) ∙ sym (first_none lacks f i n past) ∙ first_from lacks f i n before)
]
  where
    before : (v : ℕ) → v < i → v < n → find lacks (f v) ≡ None
    before v low there = none v (omega (arith, low)) there

-- the files of a volume of these
abbrev pub volume_files : List VolumeRow → ℕ → List File
volume_files volumes v = files_in_volume v (files_of volumes v)

-- of a volume of which each file that is marked was given
pub whole_none : (w : Tables) (t v : ℕ) → IsShaped w → AllGiven (slice_index_or (given_at w t) v []) (length (slice_index_or (given_at w t) v [])) → v < length (account_at w.desk t).volumes →
    find (lacks_at w t) (volume_files (account_at w.desk t).volumes v) ≡ None
whole_none w t v shaped all there = sym (first_in_from (lacks_at w t) v n n none) ∙ first_in_none (lacks_at w t) v n n (omega arith)
  where
    n : ℕ
    n = files_of (account_at w.desk t).volumes v

    marked : marks_for (account_at w.desk t).volumes v ≡ n
    marked = marks_there (account_at w.desk t).volumes v there

    none : (place : ℕ) → place < n → lacks_at w t (at_place v place) ≡ false
    none place below = elim (cases_lt v (length (given_at w t))) [
      | inl lost ↦ (none_lacked (given_at w t) v (length (slice_index_or (given_at w t) v [])) all place (omega (arith, below, marked, shaped.marks t v lost)))
      | inr kept ↦ (none_lacked_past (given_at w t) v kept place)
    ]

-- of the files of a volume all are in its lane, or none
pub first_of_lane : (lacks : File → Bool) (volumes : List VolumeRow) (lane v : ℕ) (places : List ℕ) → lane_of volumes v ≡ lane → find (lacks_of_lane lacks volumes lane) (map (at_place v) places) ≡ find lacks (map (at_place v) places)
first_of_lane lacks volumes lane v [] same = refl
first_of_lane lacks volumes lane v (p ∷ places) same = by (lacks (at_place v p)) refl (first_of_lane lacks volumes lane v places same)
  where
    by : (b : Bool) → lacks (at_place v p) ≡ b → find (lacks_of_lane lacks volumes lane) (map (at_place v) places) ≡ find lacks (map (at_place v) places) → find (lacks_of_lane lacks volumes lane) (map (at_place v) (p ∷ places)) ≡ find lacks (map (at_place v) (p ∷ places))
    by true is rest = rw (is, eq-eqb (lane_of volumes v) lane same) refl
    by false is rest = rw is rest

pub first_of_others : (lacks : File → Bool) (volumes : List VolumeRow) (lane v : ℕ) (places : List ℕ) → lane_of volumes v ≢ lane → find (lacks_of_lane lacks volumes lane) (map (at_place v) places) ≡ None
first_of_others lacks volumes lane v [] other = refl
first_of_others lacks volumes lane v (p ∷ places) other = by (lacks (at_place v p)) refl (first_of_others lacks volumes lane v places other)
  where
    by : (b : Bool) → lacks (at_place v p) ≡ b → find (lacks_of_lane lacks volumes lane) (map (at_place v) places) ≡ None → find (lacks_of_lane lacks volumes lane) (map (at_place v) (p ∷ places)) ≡ None
    by true is rest = rw (is, ne_eqb (lane_of volumes v) lane other) rest
    by false is rest = rw is rest

-- and where none is lacked, none of a lane is
pub none_of_lane : (lacks : File → Bool) (volumes : List VolumeRow) (lane : ℕ) (files : List File) → find lacks files ≡ None → find (lacks_of_lane lacks volumes lane) files ≡ None
none_of_lane lacks volumes lane [] none = refl
none_of_lane lacks volumes lane (f ∷ files) none = by (lacks f) refl (none_of_lane lacks volumes lane files)
  where
    by : (b : Bool) → lacks f ≡ b → (find lacks files ≡ None → find (lacks_of_lane lacks volumes lane) files ≡ None) → find (lacks_of_lane lacks volumes lane) (f ∷ files) ≡ None
    by true is rest = let h = rw is at none in absurd (cc)
    by false is rest = let h = rw is at none in rw is (rest h)

-- ---- whom it asks

-- the tables in which the tenant's files were asked of that place last
abbrev pub with_peer : Tables → (t place : ℕ) → Tables
with_peer w t place = record w { peers = slice_set w.peers t place }

pub mated_shaped : (w : Tables) (t place : ℕ) → IsShaped w → t < length w.peers → place < w.plan.grid.rows * w.plan.grid.cols → IsShaped (with_peer w t place)
mated_shaped w t place shaped within inside = record {
  place = shaped.place;
  few = shaped.few;
  grid = shaped.grid;
  desk = shaped.desk;
  accounts = shaped.accounts;
  volumes = shaped.volumes;
  given = shaped.given;
  whole = shaped.whole;
  bare = shaped.bare;
  few_given = shaped.few_given;
  marks = shaped.marks;
  peers = length-set w.peers t place ∙ shaped.peers;
  grid_peers = λ u there. elim (cases_eq u t) [
    | inl same ↦ (subst (λ n. peer_at (with_peer w t place) n < w.plan.grid.rows * w.plan.grid.cols) (sym same) (subst (λ n. n < w.plan.grid.rows * w.plan.grid.cols) (sym (get_or-set_same w.peers t place 0 within)) inside))
    | inr other ↦ (subst (λ n. n < w.plan.grid.rows * w.plan.grid.cols) (sym (get_or-set_other w.peers t u place 0 other)) (shaped.grid_peers u there))
  ];
  tenants = shaped.tenants;
  session_states = shaped.session_states;
  sessions = shaped.sessions;
}

-- what the tables say of the first file that is lacked is what the part says
pub first_is : (w : Tables) (t lane : ℕ) (local : Local) → Agrees w t local → first_in_lane (lacks_at w t) (account_at w.desk t).volumes lane ≡ first_lacked local lane
first_is w t lane local agrees = (λ i. first_in_lane (λ f. agrees.lacks f i) (account_at w.desk t).volumes lane) ∙ ap (λ (a : Account). first_in_lane local.lacks a.volumes lane) agrees.account

asks_none : (site : Site) (local : Local) (lane place : ℕ) → first_lacked local lane ≡ None → asks_peer site local lane place ≡ silently (record local { peer = place })
asks_none site local lane place is = rw is refl

asks_some : (site : Site) (local : Local) (lane place : ℕ) (file : File) → first_lacked local lane ≡ Some file → asks_peer site local lane place ≡ record (silently (record local { peer = place })) { transfer = Some (Wants (site.node_at place) file) }
asks_some site local lane place file is = rw is refl

-- whom it asks next is another
asked_leads : (w : Tables) (t place : ℕ) (step : Site → Local → Doing) → t < length w.peers → ((local : Local) → Agrees w t local → (step (site_of w.plan w.here t) local).local ≡ record local { peer = place }) → Leads w t step (with_peer w t place)
asked_leads w t place step within same = record {
  plan = refl;
  here = refl;
  own = λ local agrees. subst (Agrees (with_peer w t place) t) (sym (same local agrees)) (record {
    account = agrees.account;
    copies = agrees.copies;
    lacks = agrees.lacks;
    joined = agrees.joined;
    peer = get_or-set_same w.peers t place 0 within;
    session_states = agrees.session_states;
  });
  others = λ u other local agrees. record {
    account = agrees.account;
    copies = agrees.copies;
    lacks = agrees.lacks;
    joined = agrees.joined;
    peer = get_or-set_other w.peers t u place 0 other ∙ agrees.peer;
    session_states = agrees.session_states;
  };
}

pub none_asked : (w : Tables) (t lane place : ℕ) (out : Output) → t < length w.peers → first_in_lane (lacks_at w t) (account_at w.desk t).volumes lane ≡ None → GivesNothing out → Acts w t (λ site local. asks_peer site local lane place) out (with_peer w t place)
none_asked w t lane place out within is none =
    let same : (local : Local) → Agrees w t local → asks_peer (site_of w.plan w.here t) local lane place ≡ silently (record local { peer = place }) =
    λ local agrees. asks_none (site_of w.plan w.here t) local lane place (sym (first_is w t lane local agrees) ∙ is) in
    record {
      leads = asked_leads w t place (λ site local. asks_peer site local lane place) within (λ local agrees. ap (λ (d : Doing). d.local) (same local agrees));
      gives = λ local agrees. subst (λ (d : Doing). Gives t d out) (sym (same local agrees)) (record { answer = none.answer; letters = none.letters; transfer = none.transfer; fact = none.fact });
    }

-- the transfer alone is given
pub record GivesTransfer (transfer : Code) (out : Output) : Type 0 where
  pub answer : out.answer ≡ None
  pub letters : out.letters.items ≡ []
  pub transfer_is : out.transfer ≡ Some transfer
  pub fact : out.fact ≡ None

pub some_asked : (w : Tables) (t lane place : ℕ) (file : FileId) (out : Output) → t < length w.peers → file.tenant ≡ t → first_in_lane (lacks_at w t) (account_at w.desk t).volumes lane ≡ Some (file_place file) →
    GivesTransfer (CodeWants (node_at (plan_in w.here.lost) place) file) out → Acts w t (λ site local. asks_peer site local lane place) out (with_peer w t place)
some_asked w t lane place file out within own is given =
    let same : (local : Local) → Agrees w t local → asks_peer (site_of w.plan w.here t) local lane place ≡ record (silently (record local { peer = place })) { transfer = Some (Wants (node_at (plan_in w.here.lost) place) (file_place file)) } =
    λ local agrees. asks_some (site_of w.plan w.here t) local lane place (file_place file) (sym (first_is w t lane local agrees) ∙ is) in
    let its : file ≡ file_of t (file_place file) = λ i. record { tenant = own i; volume = file.volume; file = file.file } in
    record {
      leads = asked_leads w t place (λ site local. asks_peer site local lane place) within (λ local agrees. ap (λ (d : Doing). d.local) (same local agrees));
      gives = λ local agrees. subst (λ (d : Doing). Gives t d out) (sym (same local agrees)) (record {
        answer = given.answer;
        letters = given.letters;
        transfer = given.transfer_is ∙ ap (λ (f : FileId). Some (CodeWants (node_at (plan_in w.here.lost) place) f)) its;
        fact = given.fact;
      });
    }

-- ---- a step that the tables decide

-- nothing is done where this is so
pub quiet_acts : (w : Tables) (t : ℕ) (step : Site → Local → Doing) (out : Output) → ((local : Local) → Agrees w t local → step (site_of w.plan w.here t) local ≡ silently local) → GivesNothing out → Acts w t step out w
quiet_acts w t step out same none = record {
  leads = same_leads w t step (λ local agrees. ap (λ (d : Doing). d.local) (same local agrees));
  gives = λ local agrees. subst (λ (d : Doing). Gives t d out) (sym (same local agrees)) (record { answer = none.answer; letters = none.letters; transfer = none.transfer; fact = none.fact });
}

-- what the one step does the other does
pub same_acts : (w new : Tables) (t : ℕ) (step other : Site → Local → Doing) (out : Output) → ((local : Local) → Agrees w t local → step (site_of w.plan w.here t) local ≡ other (site_of w.plan w.here t) local) → Acts w t other out new → Acts w t step out new
same_acts w new t step other out same acts = record {
  leads = record {
    plan = acts.leads.plan;
    here = acts.leads.here;
    own = λ local agrees. subst (λ (d : Doing). Agrees new t d.local) (sym (same local agrees)) (acts.leads.own local agrees);
    others = acts.leads.others;
  };
  gives = λ local agrees. subst (λ (d : Doing). Gives t d out) (sym (same local agrees)) (acts.gives local agrees);
}

-- ---- a tick, behind those of the sessions

pub looks_not : (w : Tables) (t lane : ℕ) (out : Output) → ((u : ℕ) → all_joined (site_of w.plan w.here u) (servers w.joined) ≡ false) → GivesNothing out → Acts w t (looks lane) out w
looks_not w t lane out not' none = quiet_acts w t (looks lane) out (λ local agrees. by local (ap (all_joined (site_of w.plan w.here t)) (sym agrees.joined) ∙ not' t)) none
  where
    by : (local : Local) → all_joined (site_of w.plan w.here t) local.joined ≡ false → looks lane (site_of w.plan w.here t) local ≡ silently local
    by local is = rw is refl

pub looks_on : (w new : Tables) (t lane place : ℕ) (out : Output) → ((u : ℕ) → all_joined (site_of w.plan w.here u) (servers w.joined) ≡ true) → ((u : ℕ) → place ≡ peer_for (site_of w.plan w.here u) lane (peer_at w t)) →
    Acts w t (λ site local. asks_peer site local lane place) out new → Acts w t (looks lane) out new
looks_on w new t lane place out all next acts =
    same_acts w new t (looks lane) (λ site local. asks_peer site local lane place) out (λ local agrees. by local (ap (all_joined site) (sym agrees.joined) ∙ all t) ∙ ap (asks_peer site local lane) (ap (peer_for site lane) (sym agrees.peer) ∙ sym (next t))) acts
  where
    site : Site
    site = site_of w.plan w.here t

    by : (local : Local) → all_joined site local.joined ≡ true → looks lane site local ≡ asks_peer site local lane (peer_for site lane local.peer)
    by local is = rw is refl

-- ---- a peer asks for a file

-- whether the file is there
pub there_is : (w : Tables) (file : FileId) (local : Local) → Agrees w file.tenant local → is_some (limit_of w.desk file) ≡ is_some (limit_at (state_of everyone local) file.volume file.file)
there_is w file local agrees = ap is_some (limit_is w file.tenant file local refl agrees)

pub file_is : (w : Tables) (file : FileId) (local : Local) → Agrees w file.tenant local → has_file local (file_place file) ≡ (is_some (limit_of w.desk file) && not (lacks_at w file.tenant (file_place file)))
file_is w file local agrees =
    ap (λ b. b && not (local.lacks (file_place file))) (sym (there_is w file local agrees))
    ∙ ap (λ b. is_some (limit_of w.desk file) && not b) (sym (agrees.lacks (file_place file)))

given_by : (w : Tables) (from : ℕ) (file : FileId) (local : Local) → Agrees w file.tenant local → (b : Bool) → gives_it w from file ≡ b → (is_peer (site_of w.plan w.here file.tenant) from && has_file local (file_place file)) ≡ b
given_by w from file local agrees b is = ap (λ h. is_peer (site_of w.plan w.here file.tenant) from && h) (file_is w file local agrees) ∙ is

pub gives_not : (w : Tables) (from : ℕ) (file : FileId) (out : Output) → gives_it w from file ≡ false → GivesNothing out → Acts w file.tenant (gives from (file_place file)) out w
gives_not w from file out not' none = quiet_acts w file.tenant (gives from (file_place file)) out (λ local agrees. by local (given_by w from file local agrees false not')) none
  where
    by : (local : Local) → (is_peer (site_of w.plan w.here file.tenant) from && has_file local (file_place file)) ≡ false → gives from (file_place file) (site_of w.plan w.here file.tenant) local ≡ silently local
    by local is = rw is refl

pub gives_so : (w : Tables) (from : ℕ) (file : FileId) (copy : StoredCopy) (out : Output) → gives_it w from file ≡ true → copy ≡ copy_at w.store file → GivesTransfer (CodeBrings from file copy) out → Acts w file.tenant (gives from (file_place file)) out w
gives_so w from file copy out is its given = record {
  leads = same_leads w t (gives from (file_place file)) (λ local agrees. ap (λ (d : Doing). d.local) (same local agrees));
  gives = λ local agrees. subst (λ (d : Doing). Gives t d out) (sym (same local agrees)) (record {
    answer = given.answer;
    letters = given.letters;
    transfer = given.transfer_is ∙ ap (λ c. Some (CodeBrings from file c)) (its ∙ agrees.copies (file_place file));
    fact = given.fact;
  });
}
  where
    t : ℕ
    t = file.tenant

    by : (local : Local) → (is_peer (site_of w.plan w.here t) from && has_file local (file_place file)) ≡ true →
        gives from (file_place file) (site_of w.plan w.here t) local ≡ record (silently local) { transfer = Some (Brings from (file_place file) (copy_in (part_in local) (file_place file))) }
    by local is = rw is refl

    same : (local : Local) → Agrees w t local → gives from (file_place file) (site_of w.plan w.here t) local ≡ record (silently local) { transfer = Some (Brings from (file_place file) (copy_in (part_in local) (file_place file))) }
    same local agrees = by local (given_by w from file local agrees true is)

-- ---- a peer gives a file

taken_by : (w : Tables) (from : ℕ) (file : FileId) (copy : StoredCopy) (local : Local) → Agrees w file.tenant local → (b : Bool) → takes_it w from file copy ≡ b →
    (is_peer (site_of w.plan w.here file.tenant) from && local.lacks (file_place file) && file_fits (limit_at (state_of everyone local) file.volume file.file) (Store copy)) ≡ b
taken_by w from file copy local agrees b is =
    ap (λ l. is_peer (site_of w.plan w.here file.tenant) from && l && file_fits (limit_at (state_of everyone local) file.volume file.file) (Store copy)) (sym (agrees.lacks (file_place file)))
    ∙ ap (λ o. is_peer (site_of w.plan w.here file.tenant) from && lacks_at w file.tenant (file_place file) && file_fits o (Store copy)) (sym (limit_is w file.tenant file local refl agrees))
    ∙ is

pub takes_not : (w : Tables) (from : ℕ) (file : FileId) (copy : StoredCopy) (out : Output) → takes_it w from file copy ≡ false → GivesNothing out → Acts w file.tenant (takes from (file_place file) copy) out w
takes_not w from file copy out not' none = quiet_acts w file.tenant (takes from (file_place file) copy) out (λ local agrees. by local (taken_by w from file copy local agrees false not')) none
  where
    by : (local : Local) → (is_peer (site_of w.plan w.here file.tenant) from && local.lacks (file_place file) && file_fits (limit_at (state_of everyone local) file.volume file.file) (Store copy)) ≡ false →
        takes from (file_place file) copy (site_of w.plan w.here file.tenant) local ≡ silently local
    by local is = rw is refl

-- the server has the file, and the next one is asked for
pub takes_so : (w mid new : Tables) (from lane : ℕ) (file : FileId) (copy : StoredCopy) (asked out : Output) → takes_it w from file copy ≡ true → lane ≡ lane_of (account_at w.desk file.tenant).volumes file.volume → Leads w file.tenant (λ site local. silently (given_local (file_place file) copy local)) mid →
    Acts mid file.tenant (λ site local. asks_peer site local lane (place_of from)) asked new → out.answer ≡ None → out.letters.items ≡ [] → out.transfer ≡ asked.transfer → out.fact ≡ Some (WasGiven file copy) → Acts w file.tenant (takes from (file_place file) copy) out new
takes_so w mid new from lane file copy asked out is lane_is gets asks answer letters transfer fact = record {
  leads = record {
    plan = asks.leads.plan ∙ gets.plan;
    here = asks.leads.here ∙ gets.here;
    own = λ local agrees.
        subst (λ (d : Doing). Agrees new t d.local) (sym (same local agrees))
        (subst (λ (s : Site). Agrees new t (asks_peer s (after local) lane (place_of from)).local) site_is (asks.leads.own (after local) (gets.own local agrees)));
    others = λ u other local agrees. asks.leads.others u other local (gets.others u other local agrees);
  };
  gives = λ local agrees.
      let next : Gives t (asks_peer site (after local) lane (place_of from)) asked = subst (λ (s : Site). Gives t (asks_peer s (after local) lane (place_of from)) asked) site_is (asks.gives (after local) (gets.own local agrees)) in
      subst (λ (d : Doing). Gives t d out) (sym (same local agrees)) (record {
        answer = answer ∙ sym (asked_quiet (after local)).0;
        letters = letters ∙ sym (ap (map (message_of t)) (asked_quiet (after local)).1);
        transfer = transfer ∙ next.transfer;
        fact = fact;
      });
}
  where
    t : ℕ
    t = file.tenant

    site : Site
    site = site_of w.plan w.here t

    after : Local → Local
    after local = given_local (file_place file) copy local

    site_is : site_of mid.plan mid.here t ≡ site
    site_is = ap (λ p. site_of p mid.here t) gets.plan ∙ ap (λ x. site_of w.plan x t) gets.here

    asked_quiet : (local : Local) → ((asks_peer site local lane (place_of from)).answer ≡ None) × ((asks_peer site local lane (place_of from)).letters ≡ [])
    asked_quiet local = by (first_lacked local lane) refl
      where
        by : (o : Option File) → first_lacked local lane ≡ o → ((asks_peer site local lane (place_of from)).answer ≡ None) × ((asks_peer site local lane (place_of from)).letters ≡ [])
        by None is = rw is (refl, refl)
        by (Some f) is = rw is (refl, refl)

    by : (local : Local) → (is_peer site from && local.lacks (file_place file) && file_fits (limit_at (state_of everyone local) file.volume file.file) (Store copy)) ≡ true →
        takes from (file_place file) copy site local ≡ record (asks_peer site (after local) (lane_of local.volumes file.volume) (place_of from)) { fact = Some (Had (file_place file) copy) }
    by local is = rw is refl

    own_lane : (local : Local) → Agrees w t local → lane_of local.volumes file.volume ≡ lane
    own_lane local agrees = sym (lane_is ∙ ap (λ (a : Account). lane_of a.volumes file.volume) agrees.account)

    same : (local : Local) → Agrees w t local → takes from (file_place file) copy site local ≡ record (asks_peer site (after local) lane (place_of from)) { fact = Some (Had (file_place file) copy) }
    same local agrees = by local (taken_by w from file copy local agrees true is) ∙ ap (λ n. record (asks_peer site (after local) n (place_of from)) { fact = Some (Had (file_place file) copy) }) (own_lane local agrees)

-- ---- another node joins

abbrev pub with_joined : Tables → ServerSet → Tables
with_joined w set = record w { joined = set }

pub joins_not : (w : Tables) (from losses : ℕ) → ((t : ℕ) → joins_it w from losses t ≡ false) → LeadsAll w (hears_joined from losses) w
joins_not w from losses not' = record { plan = refl; here = refl; parts = λ t within local agrees. subst (Agrees w t) (sym (ap (λ (d : Doing). d.local) (by t local (not' t)))) agrees }
  where
    by : (t : ℕ) (local : Local) → joins_it w from losses t ≡ false → hears_joined from losses (site_of w.plan w.here t) local ≡ silently local
    by t local is = rw is refl

pub joins_so : (w : Tables) (from losses : ℕ) (set : ServerSet) → ((t : ℕ) → joins_it w from losses t ≡ true) → servers set ≡ with_server (place_of from) (servers w.joined) → LeadsAll w (hears_joined from losses) (with_joined w set)
joins_so w from losses set is more = record {
  plan = refl;
  here = refl;
  parts = λ t within local agrees. subst (Agrees (with_joined w set) t) (sym (ap (λ (d : Doing). d.local) (by t local (is t)))) (record {
    account = agrees.account;
    copies = agrees.copies;
    lacks = agrees.lacks;
    joined = more ∙ ap (with_server (place_of from)) agrees.joined;
    peer = agrees.peer;
    session_states = agrees.session_states;
  });
}
  where
    by : (t : ℕ) (local : Local) → joins_it w from losses t ≡ true → hears_joined from losses (site_of w.plan w.here t) local ≡ silently (record local { joined = with_server (place_of from) local.joined })
    by t local is = rw is refl

-- a file that is not there takes no copy
pub fits_nowhere : (o : Option ℕ) (body : Body) → is_some o ≡ false → file_fits o body ≡ false
fits_nowhere None body none = refl
fits_nowhere (Some limit) body none = absurd (cc)

-- what a start makes of the fact that the file was given
pub recalls_given : (w new : Tables) (file : FileId) (copy : StoredCopy) → file_fits (limit_of w.desk file) (Store copy) ≡ true → Leads w file.tenant (λ site local. silently (given_local (file_place file) copy local)) new → Leads w file.tenant (recalls (Had (file_place file) copy)) new
recalls_given w new file copy is gets = record {
  plan = gets.plan;
  here = gets.here;
  own = λ local agrees. subst (λ (d : Doing). Agrees new file.tenant d.local) (sym (by local (ap (λ o. file_fits o (Store copy)) (sym (limit_is w file.tenant file local refl agrees)) ∙ is))) (gets.own local agrees);
  others = gets.others;
}
  where
    by : (local : Local) → file_fits (limit_at (state_of everyone local) file.volume file.file) (Store copy) ≡ true → recalls (Had (file_place file) copy) (site_of w.plan w.here file.tenant) local ≡ silently (given_local (file_place file) copy local)
    by local fits = rw fits refl

-- ---- what the server served leaves the files that it lacks

pub stored_shaped : (w : Tables) (file : FileId) (store : StoreCopies) → IsShaped w → lacks_at w file.tenant (file_place file) ≡ false → ((other : FileId) → other ≢ file → copy_at store other ≡ copy_at w.store other) → store_accounts store ≡ store_accounts w.store →
    IsShaped (record w { store = store })
stored_shaped w file store shaped has others accounts = record {
  place = shaped.place;
  few = shaped.few;
  grid = shaped.grid;
  desk = shaped.desk;
  accounts = accounts ∙ shaped.accounts;
  volumes = shaped.volumes;
  given = shaped.given;
  whole = shaped.whole;
  bare = λ u f lacks.
      let apart : file_of u f ≢ file = λ e. true≢false (sym lacks ∙ (λ i. lacks_at w (e i).tenant (file_place (e i))) ∙ has) in
      others (file_of u f) apart ∙ shaped.bare u f lacks;
  few_given = shaped.few_given;
  marks = shaped.marks;
  peers = shaped.peers;
  grid_peers = shaped.grid_peers;
  tenants = shaped.tenants;
  session_states = shaped.session_states;
  sessions = shaped.sessions;
}
