-- The facts that a start needs make of a node that was never started the node at rest.
use Rattle.std.proofs.Common.{◌≡◌, ◌≢◌, ◌∙◌, ℕ, zero, suc, ◌+◌, ◌*◌, ◌<◌, ◌≤◌, Bool, true, false, List, [], ◌∷◌, ◌++◌, length, map, Option, Some, None, refl, sym, ap, subst, arith, inl, inr, append_assoc, append-nil}
use Rattle.std.specs.Prelude.{nat_lt, nat_le, ◌==◌, ◌&&◌, not, is_some, slice_get, slice_index_or, if◌then◌else◌}
use Rattle.std.specs.List.{list_all, flat_map, range_with_len}
use Rattle.std.specs.Option.{option_and_then, option_map}
use Rattle.std.proofs.lemmas.Bool.{cases_eq, cases_lt, cases_Bool, eq-eqb, ne_eqb, eqb-true, lt-ltb, ltb-true, le-leb, and_parts, true≢false}
use Rattle.std.proofs.lemmas.List.{map-append}
use Rattle.std.proofs.lemmas.List.Folds.{list_all-append}
use Rattle.std.proofs.lemmas.Option.{slice_get-get_or, slice_get_past, slice_get-map}
use Rattle.std.proofs.Math.ListN.{get_or-eq_default}
use Rattle.gq_tag.specs.declared.StoredCopy.{StoredCopy}
use Rattle.gq_tag.specs.declared.Body.TheVariants.{Store}
use Rattle.gq_tag.specs.Tag.{File, file_of, is_file, is_less, first_tag, first_copy, greatest}
use Rattle.gq_tag.specs.declared.TheConstants.{BLOCK_BYTES}
use Rattle.gq_desk.specs.CheckedPlan.{row_at}
use Rattle.gq_desk.specs.Plans.{is_in}
use Rattle.gq_replace.specs.declared.numbers.TheConstants.{NUMBERS_OF_A_LOSS}
use Rattle.gq_desk.specs.Volumes.{Account, account_at, limit_of, limit_in}
use Rattle.gq_desk.specs.declared.volumes.VolumeRow.{VolumeRow}
use Rattle.gq_store.specs.Copies.{TenantCopies, VolumeCopies, copy_at, copies_account, volume_size, volume_copy, tenant_in, empty_volume}
use Rattle.gq_model.specs.Trace.{files_of, limit_at}
use Rattle.gq_cluster.specs.Cluster.{everyone}
use Rattle.gq_laws.proofs.Holding.{greatest-push}
use Rattle.gq_node.specs.declared.output.Fact.{Fact}
use Rattle.gq_node.specs.declared.output.NeedRefused.{NeedRefused}
use Rattle.gq_node.specs.declared.output.NeedRefused.TheVariants.{Memory, Unreadable}
use Rattle.gq_cluster.specs.Facts.{OwnFact, Begun, Numbered, Kept, Had}
use Rattle.gq_node.specs.Local.{Local, state_of, recalled, fact_fits, fits_local, file_fits, file_in}
use Rattle.gq_node.specs.Recalling.{tenant_of, own_fact, fits_in}
use Rattle.gq_node.specs.Resting.{begun_floor, first_in, begun_local, recall_one, recall_all, those_of, IsAtRest, AllOfPlan, Needed}
use Rattle.gq_node.specs.Needing.{is_own, begun_facts, number_facts, numbers_facts, session_state_facts, place_numbers, session_states_facts, copy_facts, file_facts, file_at, place_facts, files_in, volume_facts, volumes_facts, tenant_facts, all_facts, IsReadable, PlaceReadable, AllReadable, IsRefusedOf, IsRefusedIn}
use Rattle.gq_node.specs.Shape.{IsShaped}
use Rattle.gq_desk.specs.declared.limits.TheConstants.{MOST_SESSIONS}
use Rattle.gq_node.specs.Sites.{Site, session_state_place, session_at, home_place, home_of, site_of, has_session}
use Rattle.gq_node.specs.Tables.{Tables, Agrees, IsOfPlan, session_state_at, fact_of, lacks_at, is_new_node}
use Rattle.gq_node.proofs.Listing.{files_at}
use Rattle.gq_node.proofs.Recalling.{recalls_fits, all_behind}
use Rattle.gq_node.proofs.Serving.{limit_is, is_same_file}
use Rattle.gq_node.proofs.Reserving.{same_reserved}
use Rattle.gq_node.proofs.Placing.{placed, has_placed, place_again, session_state_of}

-- ---- lists of lists

pub flat_suc : {A : Type 0} (f : ℕ → List A) (a n : ℕ) → flat_map f (range_with_len a (suc n)) ≡ flat_map f (range_with_len a n) ++ f (a + n)
flat_suc f a zero = append-nil (f a) ∙ ap f (let e : a ≡ a + 0 = omega arith in e)
flat_suc f a (suc n) =
    ap (λ z. f a ++ z) (flat_suc f (a + 1) n)
    ∙ sym (append_assoc (f a) (flat_map f (range_with_len (a + 1) n)) (f (a + 1 + n)))
    ∙ ap (λ m. (f a ++ flat_map f (range_with_len (a + 1) n)) ++ f m) (let e : a + 1 + n ≡ a + suc n = omega arith in e)

-- a loop over the places from a on has put what each gives
pub put_more : (t : ℕ) (f : ℕ → List OwnFact) (a n j : ℕ) (old mid new : List Fact) → a + n ≡ j → mid ≡ old ++ map (fact_of t) (flat_map f (range_with_len a n)) → new ≡ mid ++ map (fact_of t) (f j) →
    new ≡ old ++ map (fact_of t) (flat_map f (range_with_len a (n + 1)))
put_more t f a n j old mid new at before last =
    last
    ∙ ap (λ z. z ++ map (fact_of t) (f j)) before
    ∙ append_assoc old (map (fact_of t) (flat_map f (range_with_len a n))) (map (fact_of t) (f j))
    ∙ ap (λ z. old ++ z) (sym (map-append (fact_of t) (flat_map f (range_with_len a n)) (f j)))
    ∙ ap (λ z. old ++ map (fact_of t) z) (ap (λ m. flat_map f (range_with_len a n) ++ f m) (sym at) ∙ sym (flat_suc f a n))
    ∙ ap (λ m. old ++ map (fact_of t) (flat_map f (range_with_len a m))) (let e : suc n ≡ n + 1 = omega arith in e)

pub put_one_more : (f : ℕ → List Fact) (n : ℕ) (mid new : List Fact) → mid ≡ flat_map f (range_with_len 0 n) → new ≡ mid ++ f n → new ≡ flat_map f (range_with_len 0 (n + 1))
put_one_more f n mid new before last =
    last
    ∙ ap (λ z. z ++ f n) before
    ∙ ap (λ m. flat_map f (range_with_len 0 n) ++ f m) (let e : n ≡ 0 + n = omega arith in e)
    ∙ sym (flat_suc f 0 n)
    ∙ ap (λ m. flat_map f (range_with_len 0 m)) (let e : suc n ≡ n + 1 = omega arith in e)

-- what is taken of a list of lists
record Splits {A B : Type 0} (take_of : List A → List B) : Type 0 where
  none : take_of [] ≡ []
  join : (a b : List A) → take_of (a ++ b) ≡ take_of a ++ take_of b

flat_none : {A B : Type 0} (take_of : List A → List B) → Splits take_of → (g : ℕ → List A) (a n : ℕ) → ((u : ℕ) → a ≤ u → u < a + n → take_of (g u) ≡ []) → take_of (flat_map g (range_with_len a n)) ≡ []
flat_none take_of s g a zero none = s.none
flat_none take_of s g a (suc n) none =
    s.join (g a) (flat_map g (range_with_len (a + 1) n))
    ∙ ap (λ z. z ++ take_of (flat_map g (range_with_len (a + 1) n))) (none a (omega arith) (omega arith))
    ∙ flat_none take_of s g (a + 1) n (λ u low high. none u (omega arith) (omega arith))

flat_one : {A B : Type 0} (take_of : List A → List B) → Splits take_of → (g : ℕ → List A) (t a n : ℕ) → a ≤ t → t < a + n → ((u : ℕ) → a ≤ u → u < a + n → u ≢ t → take_of (g u) ≡ []) → take_of (flat_map g (range_with_len a n)) ≡ take_of (g t)
flat_one take_of s g t a zero low high none = absurd (omega arith)
flat_one take_of s g t a (suc n) low high none = elim (cases_eq a t) [
  | inl here ↦ (
      s.join (g a) (flat_map g (range_with_len (a + 1) n))
      ∙ ap (λ z. take_of (g a) ++ z) (flat_none take_of s g (a + 1) n (λ u above below. none u (omega arith) (omega arith) (λ e. omega arith)))
      ∙ append-nil (take_of (g a))
      ∙ ap (λ z. take_of (g z)) here)
  | inr other ↦ (
      s.join (g a) (flat_map g (range_with_len (a + 1) n))
      ∙ ap (λ z. z ++ take_of (flat_map g (range_with_len (a + 1) n))) (none a (omega arith) (omega arith) other)
      ∙ flat_one take_of s g t (a + 1) n (omega arith) (omega arith) (λ u above below apart. none u (omega arith) (omega arith) apart))
]

-- ---- what facts say of one session, and of one file

abbrev pub ops_of : ℕ → List OwnFact → List ℕ
ops_of j [] = []
ops_of j (Begun k op ∷ facts) = if k == j then op ∷ ops_of j facts else ops_of j facts
ops_of j (Numbered k number ∷ facts) = ops_of j facts
ops_of j (Kept file copy ∷ facts) = ops_of j facts
ops_of j (Had file copy ∷ facts) = ops_of j facts

abbrev pub numbers_of : ℕ → List OwnFact → List ℕ
numbers_of j [] = []
numbers_of j (Begun k op ∷ facts) = numbers_of j facts
numbers_of j (Numbered k number ∷ facts) = if k == j then number ∷ numbers_of j facts else numbers_of j facts
numbers_of j (Kept file copy ∷ facts) = numbers_of j facts
numbers_of j (Had file copy ∷ facts) = numbers_of j facts

abbrev pub copies_of : File → List OwnFact → List StoredCopy
copies_of f [] = []
copies_of f (Begun k op ∷ facts) = copies_of f facts
copies_of f (Numbered k number ∷ facts) = copies_of f facts
copies_of f (Kept file copy ∷ facts) = if is_file file f then copy ∷ copies_of f facts else copies_of f facts
copies_of f (Had file copy ∷ facts) = if is_file file f then copy ∷ copies_of f facts else copies_of f facts

-- the copies that were given
abbrev pub given_of : File → List OwnFact → List StoredCopy
given_of f [] = []
given_of f (Begun k op ∷ facts) = given_of f facts
given_of f (Numbered k number ∷ facts) = given_of f facts
given_of f (Kept file copy ∷ facts) = given_of f facts
given_of f (Had file copy ∷ facts) = if is_file file f then copy ∷ given_of f facts else given_of f facts

abbrev is_none_of : List StoredCopy → Bool
is_none_of [] = true
is_none_of (copy ∷ copies) = false

ops_split : (j : ℕ) → Splits (ops_of j)
ops_split j = record { none = refl; join = joined }
  where
    joined : (a b : List OwnFact) → ops_of j (a ++ b) ≡ ops_of j a ++ ops_of j b
    joined [] b = refl
    joined (Begun k op ∷ a) b = elim (cases_Bool (k == j)) [
      | inl same ↦ (rw same (ap (λ z. op ∷ z) (joined a b)))
      | inr other ↦ (rw other (joined a b))
    ]
    joined (Numbered k number ∷ a) b = joined a b
    joined (Kept file copy ∷ a) b = joined a b
    joined (Had file copy ∷ a) b = joined a b

numbers_split : (j : ℕ) → Splits (numbers_of j)
numbers_split j = record { none = refl; join = joined }
  where
    joined : (a b : List OwnFact) → numbers_of j (a ++ b) ≡ numbers_of j a ++ numbers_of j b
    joined [] b = refl
    joined (Begun k op ∷ a) b = joined a b
    joined (Numbered k number ∷ a) b = elim (cases_Bool (k == j)) [
      | inl same ↦ (rw same (ap (λ z. number ∷ z) (joined a b)))
      | inr other ↦ (rw other (joined a b))
    ]
    joined (Kept file copy ∷ a) b = joined a b
    joined (Had file copy ∷ a) b = joined a b

copies_split : (f : File) → Splits (copies_of f)
copies_split f = record { none = refl; join = joined }
  where
    joined : (a b : List OwnFact) → copies_of f (a ++ b) ≡ copies_of f a ++ copies_of f b
    joined [] b = refl
    joined (Begun k op ∷ a) b = joined a b
    joined (Numbered k number ∷ a) b = joined a b
    joined (Kept file copy ∷ a) b = elim (cases_Bool (is_file file f)) [
      | inl same ↦ (rw same (ap (λ z. copy ∷ z) (joined a b)))
      | inr other ↦ (rw other (joined a b))
    ]
    joined (Had file copy ∷ a) b = elim (cases_Bool (is_file file f)) [
      | inl same ↦ (rw same (ap (λ z. copy ∷ z) (joined a b)))
      | inr other ↦ (rw other (joined a b))
    ]

given_split : (f : File) → Splits (given_of f)
given_split f = record { none = refl; join = joined }
  where
    joined : (a b : List OwnFact) → given_of f (a ++ b) ≡ given_of f a ++ given_of f b
    joined [] b = refl
    joined (Begun k op ∷ a) b = joined a b
    joined (Numbered k number ∷ a) b = joined a b
    joined (Kept file copy ∷ a) b = joined a b
    joined (Had file copy ∷ a) b = elim (cases_Bool (is_file file f)) [
      | inl same ↦ (rw same (ap (λ z. copy ∷ z) (joined a b)))
      | inr other ↦ (rw other (joined a b))
    ]

those_split : (t : ℕ) → Splits (those_of t)
those_split t = record { none = refl; join = joined }
  where
    joined : (a b : List Fact) → those_of t (a ++ b) ≡ those_of t a ++ those_of t b
    joined [] b = refl
    joined (fact ∷ a) b = elim (cases_Bool (tenant_of fact == t)) [
      | inl same ↦ (rw same (ap (λ z. own_fact fact ∷ z) (joined a b)))
      | inr other ↦ (rw other (joined a b))
    ]

-- the last of some numbers
abbrev pub last_of : ℕ → List ℕ → ℕ
last_of d [] = d
last_of d (x ∷ xs) = last_of x xs

-- ---- what recalling facts makes

-- each fact fits, in files of these limits, of which the server lacks these
abbrev pub FactsFit : Site → (File → Bool) → (File → Option ℕ) → List OwnFact → Type 0
FactsFit site lacks limit [] = Unit {0}
FactsFit site lacks limit (fact ∷ facts) = (fact_fits site (lacks (file_in fact)) (limit (file_in fact)) fact ≡ true) × FactsFit site lacks limit facts

fit_append : (site : Site) (lacks : File → Bool) (limit : File → Option ℕ) (a b : List OwnFact) → FactsFit site lacks limit a → FactsFit site lacks limit b → FactsFit site lacks limit (a ++ b)
fit_append site lacks limit [] b x y = y
fit_append site lacks limit (fact ∷ a) b x y = (x.0, fit_append site lacks limit a b x.1 y)

fit_flat : (site : Site) (lacks : File → Bool) (limit : File → Option ℕ) (g : ℕ → List OwnFact) (a n : ℕ) → ((u : ℕ) → a ≤ u → u < a + n → FactsFit site lacks limit (g u)) → FactsFit site lacks limit (flat_map g (range_with_len a n))
fit_flat site lacks limit g a zero fit = tt
fit_flat site lacks limit g a (suc n) fit = fit_append site lacks limit (g a) (flat_map g (range_with_len (a + 1) n)) (fit a (omega arith) (omega arith)) (fit_flat site lacks limit g (a + 1) n (λ u low high. fit u (omega arith) (omega arith)))

record Makes (local : Local) (facts : List OwnFact) (made : Local) : Type 0 where
  volumes : made.volumes ≡ local.volumes
  brought : (f : File) → made.brought f ≡ local.brought f ++ copies_of f facts
  lacks : (f : File) → made.lacks f ≡ (local.lacks f && is_none_of (given_of f facts))
  ops : (j : ℕ) → (made.residents j).reserved.op ≡ last_of (local.residents j).reserved.op (ops_of j facts)
  floors : (j : ℕ) → (made.residents j).reserved.floor ≡ last_of (local.residents j).reserved.floor (numbers_of j facts)
  idle : (j : ℕ) → (local.residents j).session.current ≡ None → (made.residents j).session.current ≡ None

-- by one fact first
makes_first : (fact : OwnFact) (local : Local) (facts : List OwnFact) (made : Local) → Makes (recalled fact local) facts made → Makes local (fact ∷ facts) made
makes_first (Begun k op) local facts made m = record {
  volumes = m.volumes;
  brought = m.brought;
  lacks = m.lacks;
  ops = λ j. m.ops j ∙ op_is j (k == j) refl;
  floors = λ j. m.floors j ∙ ap (λ z. last_of z (numbers_of j facts)) (floor_is j (k == j) refl);
  idle = λ j idle. m.idle j (rest_is j idle (k == j) refl);
}
  where
    op_is : (j : ℕ) (b : Bool) → (k == j) ≡ b → last_of ((recalled (Begun k op) local).residents j).reserved.op (ops_of j facts) ≡ last_of (local.residents j).reserved.op (ops_of j (Begun k op ∷ facts))
    op_is j true is = rw is refl
    op_is j false is = rw is refl

    floor_is : (j : ℕ) (b : Bool) → (k == j) ≡ b → ((recalled (Begun k op) local).residents j).reserved.floor ≡ (local.residents j).reserved.floor
    floor_is j true is = rw is (ap (λ x. (local.residents x).reserved.floor) (eqb-true k j is))
    floor_is j false is = rw is refl

    rest_is : (j : ℕ) → (local.residents j).session.current ≡ None → (b : Bool) → (k == j) ≡ b → ((recalled (Begun k op) local).residents j).session.current ≡ None
    rest_is j idle true is = rw is refl
    rest_is j idle false is = rw is idle
makes_first (Numbered k number) local facts made m = record {
  volumes = m.volumes;
  brought = m.brought;
  lacks = m.lacks;
  ops = λ j. m.ops j ∙ ap (λ z. last_of z (ops_of j facts)) (op_is j (k == j) refl);
  floors = λ j. m.floors j ∙ floor_is j (k == j) refl;
  idle = λ j idle. m.idle j (rest_is j idle (k == j) refl);
}
  where
    op_is : (j : ℕ) (b : Bool) → (k == j) ≡ b → ((recalled (Numbered k number) local).residents j).reserved.op ≡ (local.residents j).reserved.op
    op_is j true is = rw is (ap (λ x. (local.residents x).reserved.op) (eqb-true k j is))
    op_is j false is = rw is refl

    floor_is : (j : ℕ) (b : Bool) → (k == j) ≡ b → last_of ((recalled (Numbered k number) local).residents j).reserved.floor (numbers_of j facts) ≡ last_of (local.residents j).reserved.floor (numbers_of j (Numbered k number ∷ facts))
    floor_is j true is = rw is refl
    floor_is j false is = rw is refl

    rest_is : (j : ℕ) → (local.residents j).session.current ≡ None → (b : Bool) → (k == j) ≡ b → ((recalled (Numbered k number) local).residents j).session.current ≡ None
    rest_is j idle true is = rw is refl
    rest_is j idle false is = rw is idle
makes_first (Kept file copy) local facts made m = record {
  volumes = m.volumes;
  brought = λ f. m.brought f ∙ more f (is_file file f) refl;
  lacks = m.lacks;
  ops = m.ops;
  floors = m.floors;
  idle = m.idle;
}
  where
    more : (f : File) (b : Bool) → is_file file f ≡ b → (recalled (Kept file copy) local).brought f ++ copies_of f facts ≡ local.brought f ++ copies_of f (Kept file copy ∷ facts)
    more f true is = rw is (append_assoc (local.brought f) (copy ∷ []) (copies_of f facts))
    more f false is = rw is refl
makes_first (Had file copy) local facts made m = record {
  volumes = m.volumes;
  brought = λ f. m.brought f ∙ more f (is_file file f) refl;
  lacks = λ f. m.lacks f ∙ less f (is_file file f) refl (local.lacks f);
  ops = m.ops;
  floors = m.floors;
  idle = m.idle;
}
  where
    more : (f : File) (b : Bool) → is_file file f ≡ b → (recalled (Had file copy) local).brought f ++ copies_of f facts ≡ local.brought f ++ copies_of f (Had file copy ∷ facts)
    more f true is = rw is (append_assoc (local.brought f) (copy ∷ []) (copies_of f facts))
    more f false is = rw is refl

    less : (f : File) (b : Bool) → is_file file f ≡ b → (l : Bool) → (l && not (is_file file f) && is_none_of (given_of f facts)) ≡ (l && is_none_of (given_of f (Had file copy ∷ facts)))
    less f true is true = rw is refl
    less f true is false = refl
    less f false is true = rw is refl
    less f false is false = refl

-- a fact that fits where the server lacks some files fits where it lacks fewer
fits_fewer : (site : Site) (fact : OwnFact) (limit : Option ℕ) (lacks fewer : Bool) → (lacks ≡ false → fewer ≡ false) → fact_fits site lacks limit fact ≡ true → fact_fits site fewer limit fact ≡ true
fits_fewer site (Begun k op) limit lacks fewer less fits = fits
fits_fewer site (Numbered k number) limit lacks fewer less fits = fits
fits_fewer site (Kept file copy) limit true fewer less fits = absurd (cc)
fits_fewer site (Kept file copy) limit false fewer less fits = rw (less refl) fits
fits_fewer site (Had file copy) limit lacks fewer less fits = fits

all_make : (site : Site) (lacks : File → Bool) (limit : File → Option ℕ) (facts : List OwnFact) (local : Local) → ((f : File) → limit_at (state_of everyone local) f.volume f.place ≡ limit f) → ((f : File) → lacks f ≡ false → local.lacks f ≡ false) → FactsFit site lacks limit facts →
    Makes local facts (recall_all site local facts)
all_make site lacks limit [] local limits fewer fit = record { volumes = refl; brought = λ f. sym (append-nil (local.brought f)); lacks = λ f. by (local.lacks f); ops = λ j. refl; floors = λ j. refl; idle = λ j idle. idle }
  where
    by : (b : Bool) → b ≡ (b && true)
    by true = refl
    by false = refl
all_make site lacks limit (fact ∷ facts) local limits fewer fit =
    let f : File = file_in fact in
    let at : fact_fits site (lacks f) (limit_at (state_of everyone local) f.volume f.place) fact ≡ true = ap (λ l. fact_fits site (lacks f) l fact) (limits f) ∙ fit.0 in
    let fits : fits_local fact site local ≡ true = fits_fewer site fact (limit_at (state_of everyone local) f.volume f.place) (lacks f) (local.lacks f) (fewer f) at in
    let one : recall_one site local fact ≡ recalled fact local = ap (λ d. d.local) (recalls_fits fact site local fits) in
    let rest : Makes (recalled fact local) facts (recall_all site (recalled fact local) facts) = all_make site lacks limit facts (recalled fact local) (still fact) (less fact) fit.1 in
    subst (λ z. Makes local (fact ∷ facts) (recall_all site z facts)) (sym one) (makes_first fact local facts (recall_all site (recalled fact local) facts) rest)
  where
    still : (fact : OwnFact) (f : File) → limit_at (state_of everyone (recalled fact local)) f.volume f.place ≡ limit f
    still (Begun k op) f = limits f
    still (Numbered k number) f = limits f
    still (Kept file copy) f = limits f
    still (Had file copy) f = limits f

    less : (fact : OwnFact) (f : File) → lacks f ≡ false → (recalled fact local).lacks f ≡ false
    less (Begun k op) f none = fewer f none
    less (Numbered k number) f none = fewer f none
    less (Kept file copy) f none = fewer f none
    less (Had file copy) f none = ap (λ b. b && not (is_file file f)) (fewer f none)

-- ---- of one session

begun_ops : (j k op : ℕ) → k ≢ j → ops_of j (begun_facts k op) ≡ []
begun_ops j k op other = elim (cases_Bool (op == 0)) [
  | inl is ↦ (rw is refl)
  | inr is ↦ (rw (is, ne_eqb k j other) refl)
]

number_ops : (own : Bool) (j k number : ℕ) → ops_of j (number_facts own k number) ≡ []
number_ops own j k number = elim (cases_Bool ((number == 0) && not own)) [
  | inl is ↦ (rw is refl)
  | inr is ↦ (rw is refl)
]

begun_numbers : (j k op : ℕ) → numbers_of j (begun_facts k op) ≡ []
begun_numbers j k op = elim (cases_Bool (op == 0)) [
  | inl is ↦ (rw is refl)
  | inr is ↦ (rw is refl)
]

number_numbers : (own : Bool) (j k number : ℕ) → k ≢ j → numbers_of j (number_facts own k number) ≡ []
number_numbers own j k number other = elim (cases_Bool ((number == 0) && not own)) [
  | inl is ↦ (rw is refl)
  | inr is ↦ (rw (is, ne_eqb k j other) refl)
]

other_ops : (own : Bool) (j k op number : ℕ) → k ≢ j → ops_of j (numbers_facts own k op number) ≡ []
other_ops own j k op number other = (ops_split j).join (begun_facts k op) (number_facts own k number) ∙ ap (λ z. z ++ ops_of j (number_facts own k number)) (begun_ops j k op other) ∙ number_ops own j k number

other_numbers : (own : Bool) (j k op number : ℕ) → k ≢ j → numbers_of j (numbers_facts own k op number) ≡ []
other_numbers own j k op number other =
    (numbers_split j).join (begun_facts k op) (number_facts own k number) ∙ ap (λ z. z ++ numbers_of j (number_facts own k number)) (begun_numbers j k op) ∙ number_numbers own j k number other

own_op : (own : Bool) (k op number : ℕ) → last_of 0 (ops_of k (numbers_facts own k op number)) ≡ op
own_op own k op number =
    ap (last_of 0) ((ops_split k).join (begun_facts k op) (number_facts own k number) ∙ ap (λ z. ops_of k (begun_facts k op) ++ z) (number_ops own k k number) ∙ append-nil (ops_of k (begun_facts k op)))
    ∙ (elim (cases_Bool (op == 0)) [
      | inl is ↦ (rw is (sym (eqb-true op 0 is)))
      | inr is ↦ (rw (is, eq-eqb k k refl) refl)
    ])

-- a session of which nothing is told began with 0
own_number : (own : Bool) (k op number start : ℕ) → (own ≡ false → start ≡ 0) → last_of start (numbers_of k (numbers_facts own k op number)) ≡ number
own_number own k op number start first =
    ap (last_of start) ((numbers_split k).join (begun_facts k op) (number_facts own k number) ∙ ap (λ z. z ++ numbers_of k (number_facts own k number)) (begun_numbers k k op))
    ∙ (elim (cases_Bool ((number == 0) && not own)) [
      | inl is ↦ (let parts = and_parts (number == 0) (not own) is in rw is (first (not-true own parts.1) ∙ sym (eqb-true number 0 parts.0)))
      | inr is ↦ (rw (is, eq-eqb k k refl) refl)
    ])
  where
    not-true : (b : Bool) → not b ≡ true → b ≡ false
    not-true true e = sym e
    not-true false e = refl

session_state_copies : (own : Bool) (f : File) (k op number : ℕ) → copies_of f (numbers_facts own k op number) ≡ []
session_state_copies own f k op number = (copies_split f).join (begun_facts k op) (number_facts own k number) ∙ ap (λ z. z ++ copies_of f (number_facts own k number)) left ∙ right
  where
    left : copies_of f (begun_facts k op) ≡ []
    left = elim (cases_Bool (op == 0)) [
      | inl is ↦ (rw is refl)
      | inr is ↦ (rw is refl)
    ]

    right : copies_of f (number_facts own k number) ≡ []
    right = elim (cases_Bool ((number == 0) && not own)) [
      | inl is ↦ (rw is refl)
      | inr is ↦ (rw is refl)
    ]

session_state_fit : (own : Bool) (site : Site) (lacks : File → Bool) (limit : File → Option ℕ) (k op number : ℕ) → has_session site k ≡ true → FactsFit site lacks limit (numbers_facts own k op number)
session_state_fit own site lacks limit k op number inside = fit_append site lacks limit (begun_facts k op) (number_facts own k number) left right
  where
    left : FactsFit site lacks limit (begun_facts k op)
    left = elim (cases_Bool (op == 0)) [
      | inl is ↦ (rw is tt)
      | inr is ↦ (rw is (inside, tt))
    ]

    right : FactsFit site lacks limit (number_facts own k number)
    right = elim (cases_Bool ((number == 0) && not own)) [
      | inl is ↦ (rw is tt)
      | inr is ↦ (rw is (inside, tt))
    ]

session_state_given : (own : Bool) (f : File) (k op number : ℕ) → given_of f (numbers_facts own k op number) ≡ []
session_state_given own f k op number = (given_split f).join (begun_facts k op) (number_facts own k number) ∙ ap (λ z. z ++ given_of f (number_facts own k number)) left ∙ right
  where
    left : given_of f (begun_facts k op) ≡ []
    left = elim (cases_Bool (op == 0)) [
      | inl is ↦ (rw is refl)
      | inr is ↦ (rw is refl)
    ]

    right : given_of f (number_facts own k number) ≡ []
    right = elim (cases_Bool ((number == 0) && not own)) [
      | inl is ↦ (rw is refl)
      | inr is ↦ (rw is refl)
    ]

-- ---- of one file

file_ops : (j : ℕ) (new lacks : Bool) (file : File) (copy : StoredCopy) → ops_of j (file_facts new lacks file copy) ≡ []
file_ops j true true file copy = refl
file_ops j true false file copy = refl
file_ops j false lacks file copy = elim (cases_Bool (is_less first_tag copy.tag)) [
  | inl is ↦ (rw is refl)
  | inr is ↦ (rw is refl)
]

file_numbers : (j : ℕ) (new lacks : Bool) (file : File) (copy : StoredCopy) → numbers_of j (file_facts new lacks file copy) ≡ []
file_numbers j true true file copy = refl
file_numbers j true false file copy = refl
file_numbers j false lacks file copy = elim (cases_Bool (is_less first_tag copy.tag)) [
  | inl is ↦ (rw is refl)
  | inr is ↦ (rw is refl)
]

other_copies : (f file : File) (new lacks : Bool) (copy : StoredCopy) → is_file file f ≡ false → copies_of f (file_facts new lacks file copy) ≡ []
other_copies f file true true copy other = refl
other_copies f file true false copy other = rw other refl
other_copies f file false lacks copy other = elim (cases_Bool (is_less first_tag copy.tag)) [
  | inl is ↦ (rw (is, other) refl)
  | inr is ↦ (rw is refl)
]

other_given : (f file : File) (new lacks : Bool) (copy : StoredCopy) → is_file file f ≡ false → given_of f (file_facts new lacks file copy) ≡ []
other_given f file true true copy other = refl
other_given f file true false copy other = rw other refl
other_given f file false lacks copy other = elim (cases_Bool (is_less first_tag copy.tag)) [
  | inl is ↦ (rw is refl)
  | inr is ↦ (rw is refl)
]

-- a start has the copy again; where the server lacks the file, it has the first one
own_copy : (file : File) (new lacks : Bool) (copy : StoredCopy) (limit : ℕ) → (lacks ≡ true → copy ≡ first_copy) → IsReadable limit copy → greatest (first_copy ∷ copies_of file (file_facts new lacks file copy)) ≡ copy
own_copy file true true copy limit bare readable = sym (bare refl)
own_copy file true false copy limit bare readable =
    let one : copies_of file (Had file copy ∷ []) ≡ copy ∷ [] = rw (is_same_file file) refl in
    ap (λ xs. greatest (first_copy ∷ xs)) one ∙ greatest-push first_copy copy []
    ∙ (elim (cases_Bool (is_less first_tag copy.tag)) [
      | inl is ↦ (rw is refl)
      | inr is ↦ (rw is (sym (readable.first is)))
    ])
own_copy file false lacks copy limit bare readable = elim (cases_Bool (is_less first_tag copy.tag)) [
  | inl is ↦ (
      let one : copies_of file (copy_facts file copy) ≡ copy ∷ [] = rw (is, is_same_file file) refl in
      ap (λ xs. greatest (first_copy ∷ xs)) one ∙ greatest-push first_copy copy [] ∙ (rw is refl))
  | inr is ↦ (
      let none : copies_of file (copy_facts file copy) ≡ [] = rw is refl in
      ap (λ xs. greatest (first_copy ∷ xs)) none ∙ sym (readable.first is))
]

-- and of a new node it lacks the file again, or has it
own_given : (file : File) (lacks : Bool) (copy : StoredCopy) → is_none_of (given_of file (file_facts true lacks file copy)) ≡ lacks
own_given file true copy = refl
own_given file false copy = rw (is_same_file file) refl

-- a start takes the copy, whichever it is
takes_again : (bytes : ℕ) (copy : StoredCopy) → IsReadable bytes copy → file_fits (Some bytes) (Store copy) ≡ true
takes_again bytes copy readable = elim (cases_Bool (is_less first_tag copy.tag)) [
  | inl is ↦ (readable.above is)
  | inr is ↦ (subst (λ (c : StoredCopy). file_fits (Some bytes) (Store c) ≡ true) (sym (readable.first is)) (le_zero bytes))
]
  where
    le_zero : (n : ℕ) → (nat_le 0 n && true) ≡ true
    le_zero n = rw (le-leb 0 n (omega arith)) refl

file_fit : (site : Site) (lacks : File → Bool) (limit : File → Option ℕ) (file : File) (new b : Bool) (copy : StoredCopy) (bytes : ℕ) → limit file ≡ Some bytes → (new ≡ false → lacks file ≡ false) → IsReadable bytes copy → FactsFit site lacks limit (file_facts new b file copy)
file_fit site lacks limit file true true copy bytes there old readable = tt
file_fit site lacks limit file true false copy bytes there old readable = (ap (λ l. file_fits l (Store copy)) there ∙ takes_again bytes copy readable, tt)
file_fit site lacks limit file false b copy bytes there old readable = elim (cases_Bool (is_less first_tag copy.tag)) [
  | inl is ↦ (rw is (rw (old refl) (ap (λ l. file_fits l (Store copy)) there ∙ readable.above is), tt))
  | inr is ↦ (rw is tt)
]

-- ---- which files are there

abbrev no_volume : VolumeRow
no_volume = record { files = 0; blocks = 0 }

there_limit : (volumes : List VolumeRow) (v p : ℕ) → v < length volumes → p < files_of volumes v → option_and_then (limit_in p) (slice_get volumes v) ≡ Some (BLOCK_BYTES * (slice_index_or volumes v no_volume).blocks)
there_limit volumes v p low small =
    let within : p < (slice_index_or volumes v no_volume).files = subst (λ n. p < n) (sym (files_at volumes v no_volume low)) small in
    ap (option_and_then (limit_in p)) (slice_get-get_or volumes v no_volume low) ∙ (rw (lt-ltb p (slice_index_or volumes v no_volume).files within) refl)

-- where a file is there, its volume and its place are
limit_there : (volumes : List VolumeRow) (v p bytes : ℕ) → option_and_then (limit_in p) (slice_get volumes v) ≡ Some bytes → (v < length volumes) × (p < files_of volumes v)
limit_there volumes v p bytes is = elim (cases_lt v (length volumes)) [
  | inr past ↦ (let e : option_and_then (limit_in p) (slice_get volumes v) ≡ None = ap (option_and_then (limit_in p)) (slice_get_past volumes v past) in absurd (cc))
  | inl low ↦ (
      let row : VolumeRow = slice_index_or volumes v no_volume in
      let e : limit_in p row ≡ Some bytes = ap (option_and_then (limit_in p)) (sym (slice_get-get_or volumes v no_volume low)) ∙ is in
      elim (cases_Bool (nat_lt p row.files)) [
        | inl small ↦ ((low, subst (λ n. p < n) (files_at volumes v no_volume low) (ltb-true p row.files small)))
        | inr large ↦ (let f : limit_in p row ≡ None = rw large refl in absurd (cc))
      ])
]

account_is : (tenants : List TenantCopies) (t : ℕ) → account_at (map copies_account tenants) t ≡ copies_account (tenant_in tenants t)
account_is [] t = refl
account_is (x ∷ xs) zero = refl
account_is (x ∷ xs) (suc t) = account_is xs t

-- the desk and the store have the same volumes
pub volumes_are : (w : Tables) (t : ℕ) → IsShaped w → (account_at w.desk t).volumes ≡ map volume_size (tenant_in w.store.tenants t).volumes
volumes_are w t shaped = ap (λ (desk : List Account). (account_at desk t).volumes) (sym shaped.accounts) ∙ ap (λ (a : Account). a.volumes) (account_is w.store.tenants t)

-- a file that is not there has its first copy
absent_in : (volumes : List VolumeCopies) (v p : ℕ) → option_and_then (limit_in p) (slice_get (map volume_size volumes) v) ≡ None → volume_copy (slice_index_or volumes v empty_volume) p ≡ first_copy
absent_in volumes v p none = elim (cases_lt v (length volumes)) [
  | inr past ↦ (ap (λ (z : VolumeCopies). volume_copy z p) (get_or-eq_default volumes empty_volume past))
  | inl low ↦ (
      let volume : VolumeCopies = slice_index_or volumes v empty_volume in
      let e : limit_in p (volume_size volume) ≡ None = ap (option_and_then (limit_in p)) (ap (option_map volume_size) (sym (slice_get-get_or volumes v empty_volume low)) ∙ sym (slice_get-map volume_size volumes v)) ∙ none in
      elim (cases_lt p (length volume.copies)) [
        | inr past ↦ (get_or-eq_default volume.copies first_copy past)
        | inl small ↦ (let f : limit_in p (volume_size volume) ≡ Some (BLOCK_BYTES * volume.blocks) = rw (lt-ltb p (length volume.copies) small) refl in absurd (cc))
      ])
]

absent_copy : (w : Tables) (t : ℕ) (f : File) → IsShaped w → limit_of w.desk (file_of t f) ≡ None → copy_at w.store (file_of t f) ≡ first_copy
absent_copy w t f shaped none =
    absent_in (tenant_in w.store.tenants t).volumes f.volume f.place (ap (λ (vs : List VolumeRow). option_and_then (limit_in f.place) (slice_get vs f.volume)) (sym (volumes_are w t shaped)) ∙ none)

-- a copy that is refused is one of the tables
pub refused_in : (w : Tables) (t v p limit : ℕ) (copy : StoredCopy) (e : NeedRefused) → t < length w.plan.rows → limit_of w.desk (file_of t (file_at v p)) ≡ Some limit → copy ≡ copy_at w.store (file_of t (file_at v p)) →
    IsRefusedOf limit copy e → IsRefusedIn w e
refused_in w t v p limit copy (Memory wanting) within there is refused = tt
refused_in w t v p limit copy Unreadable within there is refused = record {
  tenant = t;
  within = within;
  file = file_at v p;
  limit = limit;
  there = there;
  unreadable = λ readable. refused (subst (IsReadable limit) (sym is) readable);
}

-- ---- all facts of a tenant

volume_ops : (w : Tables) (t j : ℕ) → ops_of j (volumes_facts w t) ≡ []
volume_ops w t j = flat_none (ops_of j) (ops_split j) (volume_facts w t) 0 (length (account_at w.desk t).volumes)
    (λ v low high. flat_none (ops_of j) (ops_split j) (place_facts w t v) 0 (files_in w t v) (λ p a b. file_ops j (is_new_node w) (lacks_at w t (file_at v p)) (file_at v p) (copy_at w.store (file_of t (file_at v p)))))

volume_numbers : (w : Tables) (t j : ℕ) → numbers_of j (volumes_facts w t) ≡ []
volume_numbers w t j = flat_none (numbers_of j) (numbers_split j) (volume_facts w t) 0 (length (account_at w.desk t).volumes)
    (λ v low high. flat_none (numbers_of j) (numbers_split j) (place_facts w t v) 0 (files_in w t v) (λ p a b. file_numbers j (is_new_node w) (lacks_at w t (file_at v p)) (file_at v p) (copy_at w.store (file_of t (file_at v p)))))

-- of another volume, and of another place of its own volume, nothing is of the file
other_volume : (w : Tables) (t : ℕ) (f : File) (u : ℕ) → u ≢ f.volume → (copies_of f (volume_facts w t u) ≡ []) × (given_of f (volume_facts w t u) ≡ [])
other_volume w t f u other = (
  flat_none (copies_of f) (copies_split f) (place_facts w t u) 0 (files_in w t u) (λ p a b. other_copies f (file_at u p) (is_new_node w) (lacks_at w t (file_at u p)) (copy_at w.store (file_of t (file_at u p))) (apart p)),
  flat_none (given_of f) (given_split f) (place_facts w t u) 0 (files_in w t u) (λ p a b. other_given f (file_at u p) (is_new_node w) (lacks_at w t (file_at u p)) (copy_at w.store (file_of t (file_at u p))) (apart p)),
)
  where
    apart : (p : ℕ) → is_file (file_at u p) f ≡ false
    apart p = rw (ne_eqb u f.volume other) refl

other_place : (w : Tables) (t : ℕ) (f : File) (p : ℕ) → p ≢ f.place → (copies_of f (place_facts w t f.volume p) ≡ []) × (given_of f (place_facts w t f.volume p) ≡ [])
other_place w t f p other = (
  other_copies f (file_at f.volume p) (is_new_node w) (lacks_at w t (file_at f.volume p)) (copy_at w.store (file_of t (file_at f.volume p))) apart,
  other_given f (file_at f.volume p) (is_new_node w) (lacks_at w t (file_at f.volume p)) (copy_at w.store (file_of t (file_at f.volume p))) apart,
)
  where
    apart : is_file (file_at f.volume p) f ≡ false
    apart = rw (eq-eqb f.volume f.volume refl, ne_eqb p f.place other) refl

-- the facts of a file
abbrev own_facts_of : Tables → ℕ → File → List OwnFact
own_facts_of w t f = file_facts (is_new_node w) (lacks_at w t f) f (copy_at w.store (file_of t f))

there_copies : (w : Tables) (t : ℕ) (f : File) → f.volume < length (account_at w.desk t).volumes → f.place < files_in w t f.volume →
    (copies_of f (volumes_facts w t) ≡ copies_of f (own_facts_of w t f)) × (given_of f (volumes_facts w t) ≡ given_of f (own_facts_of w t f))
there_copies w t f low small = (
  flat_one (copies_of f) (copies_split f) (volume_facts w t) f.volume 0 (length (account_at w.desk t).volumes) (omega arith) (omega arith) (λ u above below other. (other_volume w t f u other).0)
      ∙ flat_one (copies_of f) (copies_split f) (place_facts w t f.volume) f.place 0 (files_in w t f.volume) (omega arith) (omega arith) (λ p above below other. (other_place w t f p other).0),
  flat_one (given_of f) (given_split f) (volume_facts w t) f.volume 0 (length (account_at w.desk t).volumes) (omega arith) (omega arith) (λ u above below other. (other_volume w t f u other).1)
      ∙ flat_one (given_of f) (given_split f) (place_facts w t f.volume) f.place 0 (files_in w t f.volume) (omega arith) (omega arith) (λ p above below other. (other_place w t f p other).1),
)

absent_copies : (w : Tables) (t : ℕ) (f : File) → limit_of w.desk (file_of t f) ≡ None → copies_of f (volumes_facts w t) ≡ []
absent_copies w t f none = elim (cases_lt f.volume (length (account_at w.desk t).volumes)) [
  | inr past ↦ (flat_none (copies_of f) (copies_split f) (volume_facts w t) 0 (length (account_at w.desk t).volumes) (λ u a b. (other_volume w t f u (λ e. omega arith)).0))
  | inl low ↦ (
      flat_one (copies_of f) (copies_split f) (volume_facts w t) f.volume 0 (length (account_at w.desk t).volumes) (omega arith) (omega arith) (λ u above below other. (other_volume w t f u other).0)
      ∙ (elim (cases_lt f.place (files_in w t f.volume)) [
        | inr past ↦ (flat_none (copies_of f) (copies_split f) (place_facts w t f.volume) 0 (files_in w t f.volume) (λ p a b. (other_place w t f p (λ e. omega arith)).0))
        | inl small ↦ (let e : limit_of w.desk (file_of t f) ≡ Some (BLOCK_BYTES * (slice_index_or (account_at w.desk t).volumes f.volume no_volume).blocks) = there_limit (account_at w.desk t).volumes f.volume f.place low small in absurd (cc))
      ]))
]

copies_again : (w : Tables) (t : ℕ) (f : File) → IsShaped w → AllReadable w t → greatest (first_copy ∷ copies_of f (volumes_facts w t)) ≡ copy_at w.store (file_of t f)
copies_again w t f shaped readable = by (limit_of w.desk (file_of t f)) refl
  where
    copy : StoredCopy
    copy = copy_at w.store (file_of t f)

    by : (o : Option ℕ) → limit_of w.desk (file_of t f) ≡ o → greatest (first_copy ∷ copies_of f (volumes_facts w t)) ≡ copy
    by None none = ap (λ xs. greatest (first_copy ∷ xs)) (absent_copies w t f none) ∙ sym (absent_copy w t f shaped none)
    by (Some bytes) is =
        let there = limit_there (account_at w.desk t).volumes f.volume f.place bytes is in
        ap (λ xs. greatest (first_copy ∷ xs)) (there_copies w t f there.0 there.1).0 ∙ own_copy f (is_new_node w) (lacks_at w t f) copy bytes (shaped.bare t f) (readable f bytes is)

-- and lacks again what it lacked of the files that are there
lacks_again : (w : Tables) (t : ℕ) (f : File) (lacks : File → Bool) → IsShaped w → is_some (limit_of w.desk (file_of t f)) ≡ true → lacks f ≡ (is_new_node w && nat_lt f.volume (length (account_at w.desk t).volumes)) →
    (lacks f && is_none_of (given_of f (volumes_facts w t))) ≡ lacks_at w t f
lacks_again w t f lacks shaped some is = by (is_new_node w) refl
  where
    there : (o : Option ℕ) → limit_of w.desk (file_of t f) ≡ o → is_some o ≡ true → (f.volume < length (account_at w.desk t).volumes) × (f.place < files_in w t f.volume)
    there None none e = absurd (cc)
    there (Some bytes) its e = limit_there (account_at w.desk t).volumes f.volume f.place bytes its

    by : (b : Bool) → is_new_node w ≡ b → (lacks f && is_none_of (given_of f (volumes_facts w t))) ≡ lacks_at w t f
    by true new =
        let at = there (limit_of w.desk (file_of t f)) refl some in
        let all : lacks f ≡ true = is ∙ ap (λ b. b && nat_lt f.volume (length (account_at w.desk t).volumes)) new ∙ lt-ltb f.volume (length (account_at w.desk t).volumes) at.0 in
        let own : given_of f (volumes_facts w t) ≡ given_of f (file_facts true (lacks_at w t f) f (copy_at w.store (file_of t f))) =
        (there_copies w t f at.0 at.1).1 ∙ ap (λ b. given_of f (file_facts b (lacks_at w t f) f (copy_at w.store (file_of t f)))) new in
        ap (λ b. b && is_none_of (given_of f (volumes_facts w t))) all ∙ ap is_none_of own ∙ own_given f (lacks_at w t f) (copy_at w.store (file_of t f))
    by false old =
        let none : lacks f ≡ false = is ∙ ap (λ b. b && nat_lt f.volume (length (account_at w.desk t).volumes)) old in
        ap (λ b. b && is_none_of (given_of f (volumes_facts w t))) none ∙ sym (shaped.whole old t f)

-- ---- the facts fit

-- how many bytes each file of the tenant may hold
abbrev tenant_limit : Tables → ℕ → File → Option ℕ
tenant_limit w t f = limit_of w.desk (file_of t f)

tenant_fit : (w : Tables) (t : ℕ) (lacks : File → Bool) → IsShaped w → t < length w.plan.rows → AllReadable w t → (is_new_node w ≡ false → (f : File) → lacks f ≡ false) → FactsFit (site_of w.plan w.here t) lacks (tenant_limit w t) (tenant_facts w t)
tenant_fit w t lacks shaped inside readable old = fit_append site lacks limit (session_states_facts w t n) (volumes_facts w t)
    (fit_flat site lacks limit (place_numbers w t) 0 n (λ p low high. session_state_fit (is_own w t (session_at w.plan w.here t p)) site lacks limit (session_at w.plan w.here t p) (session_state_at w t (session_at w.plan w.here t p)).reserved_op (session_state_at w t (session_at w.plan w.here t p)).reserved_floor
    (has_placed w t p (omega (arith, high)) (shaped.sessions t inside) (shaped.few (home_place w.plan t p)))))
    (fit_flat site lacks limit (volume_facts w t) 0 (length (account_at w.desk t).volumes) (λ u a b. fit_flat site lacks limit (place_facts w t u) 0 (files_in w t u) (λ p c d. there u p (omega arith) (omega arith))))
  where
    n : ℕ
    n = (row_at w.plan t).sessions

    site : Site
    site = site_of w.plan w.here t

    limit : File → Option ℕ
    limit = tenant_limit w t

    there : (u p : ℕ) → u < length (account_at w.desk t).volumes → p < files_in w t u → FactsFit site lacks limit (place_facts w t u p)
    there u p low small =
        let bytes : ℕ = BLOCK_BYTES * (slice_index_or (account_at w.desk t).volumes u no_volume).blocks in
        let is : limit_of w.desk (file_of t (file_at u p)) ≡ Some bytes = there_limit (account_at w.desk t).volumes u p low small in
        file_fit site lacks limit (file_at u p) (is_new_node w) (lacks_at w t (file_at u p)) (copy_at w.store (file_of t (file_at u p))) bytes is (λ e. old e (file_at u p)) (readable (file_at u p) bytes is)

-- ---- the node at rest

pub at_rest : (w : Tables) (t : ℕ) (local : Local) → IsShaped w → t < length w.plan.rows → AllReadable w t → Agrees w t local →
    IsAtRest (site_of w.plan w.here t) (recall_all (site_of w.plan w.here t) (begun_local (site_of w.plan w.here t) local.volumes (first_in w local)) (tenant_facts w t)) local
at_rest w t local shaped within readable agrees = record {
  volumes = made.volumes;
  copies = λ f.
      ap (λ xs. greatest (first_copy ∷ xs)) (made.brought f ∙ (copies_split f).join s v ∙ ap (λ z. z ++ copies_of f v) (session_states_copies f))
      ∙ copies_again w t f shaped readable ∙ agrees.copies f;
  lacks = λ f some.
      let volumes : local.volumes ≡ (account_at w.desk t).volumes = ap (λ (a : Account). a.volumes) (sym agrees.account) in
      let there : is_some (limit_of w.desk (file_of t f)) ≡ true = ap is_some (limit_is w t (file_of t f) local refl agrees) ∙ some in
      let first : fresh.lacks f ≡ (is_new_node w && nat_lt f.volume (length (account_at w.desk t).volumes)) = ap (λ (vs : List VolumeRow). is_new_node w && nat_lt f.volume (length vs)) volumes in
      made.lacks f ∙ ap (λ z. fresh.lacks f && is_none_of z) ((given_split f).join s v ∙ ap (λ z. z ++ given_of f v) (session_states_given f))
      ∙ lacks_again w t f fresh.lacks shaped there first ∙ agrees.lacks f;
  reserved = λ k inside. same_reserved ((recall_all site fresh (s ++ v)).residents k).reserved (local.residents k).reserved (op_is k inside) (floor_is k inside);
  behind = all_behind site fresh (s ++ v) (λ k. record { op = refl; floor = refl });
  idle = λ k. made.idle k refl;
}
  where
    n : ℕ
    n = (row_at w.plan t).sessions

    s : List OwnFact
    s = session_states_facts w t n

    v : List OwnFact
    v = volumes_facts w t

    site : Site
    site = site_of w.plan w.here t

    fresh : Local
    fresh = begun_local site local.volumes (first_in w local)

    session_states_copies : (f : File) → copies_of f s ≡ []
    session_states_copies f = flat_none (copies_of f) (copies_split f) (place_numbers w t) 0 n (λ p a b. session_state_copies (is_own w t (session_at w.plan w.here t p)) f (session_at w.plan w.here t p) (session_state_at w t (session_at w.plan w.here t p)).reserved_op (session_state_at w t (session_at w.plan w.here t p)).reserved_floor)

    session_states_given : (f : File) → given_of f s ≡ []
    session_states_given f = flat_none (given_of f) (given_split f) (place_numbers w t) 0 n (λ p a b. session_state_given (is_own w t (session_at w.plan w.here t p)) f (session_at w.plan w.here t p) (session_state_at w t (session_at w.plan w.here t p)).reserved_op (session_state_at w t (session_at w.plan w.here t p)).reserved_floor)

    old_has : is_new_node w ≡ false → (f : File) → fresh.lacks f ≡ false
    old_has old f = rw old refl

    made : Makes fresh (s ++ v) (recall_all site fresh (s ++ v))
    made = all_make site fresh.lacks (tenant_limit w t) (s ++ v) fresh (λ f. sym (limit_is w t (file_of t f) local refl agrees)) (λ f none. none) (tenant_fit w t fresh.lacks shaped within readable old_has)

    few : n ≤ MOST_SESSIONS
    few = shaped.sessions t within

    at_place : ℕ → ℕ
    at_place p = session_at w.plan w.here t p

    -- the facts of a session of the plan are those of its place
    own_place : (take_of : List OwnFact → List ℕ) (k : ℕ) → Splits take_of → ((own : Bool) (j op number : ℕ) → j ≢ k → take_of (numbers_facts own j op number) ≡ []) → IsOfPlan w t k → take_of s ≡ take_of (session_state_facts w t k)
    own_place take_of k splits other at =
        flat_one take_of splits (place_numbers w t) (session_state_place k) 0 n (omega arith) (let h = at.within in omega arith)
        (λ u above below apart. other (is_own w t (at_place u)) (at_place u) (session_state_at w t (at_place u)).reserved_op (session_state_at w t (at_place u)).reserved_floor
        (λ e. apart (sym (place_again w.plan w.here t u (let h = few in omega arith)) ∙ ap session_state_place e)))
        ∙ ap (λ j. take_of (session_state_facts w t j)) at.number

    -- a session of another node began with 0, and so does one of a node that is no new one
    no_floor : (k : ℕ) → is_own w t k ≡ false → begun_floor site (length w.here.lost) k ≡ 0
    no_floor k not_own = by (is_new_node w) (home_of w.plan t k == w.here.node) (is_in 1 site.row.sessions k) not_own
      where
        by : (new home within : Bool) → (new && home) ≡ false → (if home && within then (if new then length w.here.lost * NUMBERS_OF_A_LOSS else 0) else 0) ≡ 0
        by true true within e = absurd (true≢false e)
        by false true true e = refl
        by false true false e = refl
        by new false within e = refl

    op_is : (k : ℕ) → has_session site k ≡ true → ((recall_all site fresh (s ++ v)).residents k).reserved.op ≡ (local.residents k).reserved.op
    op_is k has =
        let at : IsOfPlan w t k = placed w t k has in
        made.ops k ∙ ap (last_of 0) ((ops_split k).join s v ∙ ap (λ z. ops_of k s ++ z) (volume_ops w t k) ∙ append-nil (ops_of k s)
        ∙ own_place (ops_of k) k (ops_split k) (λ own j op number other. other_ops own k j op number other) at)
        ∙ own_op (is_own w t k) k (session_state_at w t k).reserved_op (session_state_at w t k).reserved_floor ∙ (session_state_of w t k local agrees at).reserved_op

    floor_is : (k : ℕ) → has_session site k ≡ true → ((recall_all site fresh (s ++ v)).residents k).reserved.floor ≡ (local.residents k).reserved.floor
    floor_is k has =
        let at : IsOfPlan w t k = placed w t k has in
        made.floors k ∙ ap (last_of (begun_floor site (length w.here.lost) k)) ((numbers_split k).join s v ∙ ap (λ z. numbers_of k s ++ z) (volume_numbers w t k) ∙ append-nil (numbers_of k s)
        ∙ own_place (numbers_of k) k (numbers_split k) (λ own j op number other. other_numbers own k j op number other) at)
        ∙ own_number (is_own w t k) k (session_state_at w t k).reserved_op (session_state_at w t k).reserved_floor (begun_floor site (length w.here.lost) k) (λ not_own. no_floor k not_own) ∙ (session_state_of w t k local agrees at).reserved_floor

-- ---- all tenants

its_place : (t : ℕ) (fact : OwnFact) → tenant_of (fact_of t fact) ≡ t
its_place t (Begun k op) = refl
its_place t (Numbered k number) = refl
its_place t (Kept file copy) = refl
its_place t (Had file copy) = refl

its_fact : (t : ℕ) (fact : OwnFact) → own_fact (fact_of t fact) ≡ fact
its_fact t (Begun k op) = refl
its_fact t (Numbered k number) = refl
its_fact t (Kept file copy) = refl
its_fact t (Had file copy) = refl

own_facts_are : (t : ℕ) (facts : List OwnFact) → those_of t (map (fact_of t) facts) ≡ facts
own_facts_are t [] = refl
own_facts_are t (fact ∷ facts) = rw (eq-eqb (tenant_of (fact_of t fact)) t (its_place t fact)) (ap (λ z. z ∷ those_of t (map (fact_of t) facts)) (its_fact t fact) ∙ ap (λ z. fact ∷ z) (own_facts_are t facts))

other_facts_are : (t u : ℕ) (facts : List OwnFact) → u ≢ t → those_of t (map (fact_of u) facts) ≡ []
other_facts_are t u [] other = refl
other_facts_are t u (fact ∷ facts) other = rw (ne_eqb (tenant_of (fact_of u fact)) t (λ e. other (sym (its_place u fact) ∙ e))) (other_facts_are t u facts other)

plan_append : (w : Tables) (a b : List Fact) → AllOfPlan w a → AllOfPlan w b → AllOfPlan w (a ++ b)
plan_append w [] b x y = y
plan_append w (fact ∷ a) b x y = (x.0, plan_append w a b x.1 y)

plan_map : (w : Tables) (t : ℕ) (facts : List OwnFact) → t < length w.plan.rows → AllOfPlan w (map (fact_of t) facts)
plan_map w t [] within = tt
plan_map w t (fact ∷ facts) within = (subst (λ n. n < length w.plan.rows) (sym (its_place t fact)) within, plan_map w t facts within)

plan_flat : (w : Tables) (a n : ℕ) → a + n ≤ length w.plan.rows → AllOfPlan w (flat_map (λ t. map (fact_of t) (tenant_facts w t)) (range_with_len a n))
plan_flat w a zero within = tt
plan_flat w a (suc n) within = plan_append w (map (fact_of a) (tenant_facts w a)) (flat_map (λ t. map (fact_of t) (tenant_facts w t)) (range_with_len (a + 1) n)) (plan_map w a (tenant_facts w a) (omega arith)) (plan_flat w (a + 1) n (omega arith))

fits_itself : (w : Tables) (t : ℕ) (fact : OwnFact) → fact_fits (site_of w.plan w.here t) false (tenant_limit w t (file_in fact)) fact ≡ true → fits_in w (fact_of t fact) ≡ true
fits_itself w t (Begun k op) fits = fits
fits_itself w t (Numbered k number) fits = fits
fits_itself w t (Kept file copy) fits = fits
fits_itself w t (Had file copy) fits = fits

fits_map : (w : Tables) (t : ℕ) (facts : List OwnFact) → FactsFit (site_of w.plan w.here t) (λ f. false) (tenant_limit w t) facts → list_all (fits_in w) (map (fact_of t) facts) ≡ true
fits_map w t [] fit = refl
fits_map w t (fact ∷ facts) fit = rw (fits_itself w t fact fit.0, fits_map w t facts fit.1) refl

fits_flat : (w : Tables) (a n : ℕ) → IsShaped w → ((t : ℕ) → t < length w.plan.rows → AllReadable w t) → a + n ≤ length w.plan.rows → list_all (fits_in w) (flat_map (λ t. map (fact_of t) (tenant_facts w t)) (range_with_len a n)) ≡ true
fits_flat w a zero shaped readable within = refl
fits_flat w a (suc n) shaped readable within =
    let first : list_all (fits_in w) (map (fact_of a) (tenant_facts w a)) ≡ true = fits_map w a (tenant_facts w a) (tenant_fit w a (λ f. false) shaped (omega arith) (readable a (omega arith)) (λ old f. refl)) in
    let more : list_all (fits_in w) (flat_map (λ t. map (fact_of t) (tenant_facts w t)) (range_with_len (a + 1) n)) ≡ true = fits_flat w (a + 1) n shaped readable (omega arith) in
    rw (list_all-append (fits_in w) (map (fact_of a) (tenant_facts w a)) (flat_map (λ t. map (fact_of t) (tenant_facts w t)) (range_with_len (a + 1) n)), first, more) refl

pub all_needed : (w : Tables) → IsShaped w → ((t : ℕ) → t < length w.plan.rows → AllReadable w t) → Needed w (all_facts w)
all_needed w shaped readable = record {
  within = plan_flat w 0 (length w.plan.rows) (omega arith);
  fit = fits_flat w 0 (length w.plan.rows) shaped readable (omega arith);
  bare = λ t local agrees f lacks. sym (agrees.copies f) ∙ shaped.bare t f (agrees.lacks f ∙ lacks);
  makes = λ t within local agrees. (
      let are : those_of t (all_facts w) ≡ tenant_facts w t =
      flat_one (those_of t) (those_split t) (λ u. map (fact_of u) (tenant_facts w u)) t 0 (length w.plan.rows) (omega arith) (omega arith) (λ u above below other. other_facts_are t u (tenant_facts w u) other)
      ∙ own_facts_are t (tenant_facts w t) in
      subst (λ facts. IsAtRest (site_of w.plan w.here t) (recall_all (site_of w.plan w.here t) (begun_local (site_of w.plan w.here t) local.volumes (first_in w local)) facts) local) (sym are) (at_rest w t local shaped within (readable t within) agrees));
}

-- the copies are readable, volume by volume
pub all_readable : (w : Tables) (t : ℕ) → ((v : ℕ) → v < length (account_at w.desk t).volumes → (p : ℕ) → p < files_in w t v → PlaceReadable w t v p) → AllReadable w t
all_readable w t by_place f bytes is =
    let there = limit_there (account_at w.desk t).volumes f.volume f.place bytes is in
    by_place f.volume there.0 f.place there.1 bytes is

-- ---- a file that was never written

first_facts : (f : File) → copy_facts f first_copy ≡ []
first_facts f = refl

first_readable : (limit : ℕ) → IsReadable limit first_copy
first_readable limit = record { above = λ is. cc; first = λ is. refl }

pub nothing_needed : (w : Tables) (t volume place : ℕ) → is_new_node w ≡ false → copy_at w.store (file_of t (file_at volume place)) ≡ first_copy → place_facts w t volume place ≡ []
nothing_needed w t volume place old first =
    ap (λ b. file_facts b (lacks_at w t (file_at volume place)) (file_at volume place) (copy_at w.store (file_of t (file_at volume place)))) old
    ∙ ap (copy_facts (file_at volume place)) first
    ∙ first_facts (file_at volume place)

pub nothing_readable : (w : Tables) (t volume place limit : ℕ) → copy_at w.store (file_of t (file_at volume place)) ≡ first_copy → IsReadable limit (copy_at w.store (file_of t (file_at volume place)))
nothing_readable w t volume place limit first = subst (IsReadable limit) (sym first) (first_readable limit)
