-- Starts that read the same facts from parts that are alike make parts that are alike; and so do starts with a later plan, and from parts at rest.
use Rattle.std.proofs.Common.{◌≡◌, ◌∙◌, ℕ, Bool, true, false, List, [], ◌∷◌, ◌++◌, refl, sym, ap, subst, Option, Some, None, inl, inr}
use Rattle.std.specs.Prelude.{◌==◌, ◌&&◌, not, is_some, ⊤, if◌then◌else◌}
use Rattle.std.proofs.lemmas.Bool.{cases_Bool, eqb-true, true≢false}
use Rattle.gq_tag.specs.declared.StoredCopy.{StoredCopy}
use Rattle.gq_tag.specs.declared.Body.TheVariants.{Store}
use Rattle.gq_tag.specs.Tag.{File, is_file}
use Rattle.gq_desk.specs.declared.volumes.VolumeRow.{VolumeRow}
use Rattle.gq_model.specs.Trace.{limit_at}
use Rattle.gq_laws.proofs.OperationMoments.{same_file}
use Rattle.gq_cluster.specs.Cluster.{everyone}
use Rattle.gq_cluster.specs.Facts.{OwnFact, Begun, Numbered, Kept, Had, reserved_by}
use Rattle.gq_node.specs.Local.{Local, Resident, Doing, state_of, with_resident, rested, recalled, file_fits, fits_local, new_resident}
use Rattle.gq_node.specs.Resting.{recall_one, recall_all, begun_resident}
use Rattle.gq_node.specs.Sites.{Site, has_session}
use Rattle.gq_node.proofs.Recalling.{recalls_fits, recalls_not}
use Rattle.gq_node.proofs.Using.{recall_volumes}
use Rattle.gq_parts.specs.Alike.{is_own_session, is_file_in, AreAlike}
use Rattle.gq_parts.proofs.Alike.{same_limits, copied_same, given_same}

-- ---- a fact more

-- a session in both that goes on without an operation
rest_same : (site : Site) (a b : Local) (k : ℕ) (rest : Resident → Resident) → ((r : Resident) → (rest r).session.current ≡ None) → AreAlike site a b → AreAlike site (with_resident a k (rest (a.residents k))) (with_resident b k (rest (b.residents k)))
rest_same site a b k rest none alike = record {
  volumes = alike.volumes;
  copies = alike.copies;
  lacks = alike.lacks;
  joined = alike.joined;
  peer = alike.peer;
  residents = λ j its. here j its (k == j) refl;
  idle = λ j not. there j not (k == j) refl;
}
  where
    here : (j : ℕ) → is_own_session site j ≡ true → (c : Bool) → (k == j) ≡ c → (with_resident a k (rest (a.residents k))).residents j ≡ (with_resident b k (rest (b.residents k))).residents j
    here j its true is = rw is (ap rest (alike.residents k (ap (is_own_session site) (eqb-true k j is) ∙ its)))
    here j its false is = rw is (alike.residents j its)

    there : (j : ℕ) → is_own_session site j ≡ false → (c : Bool) → (k == j) ≡ c →
        (((with_resident a k (rest (a.residents k))).residents j).session.current ≡ None) × (((with_resident b k (rest (b.residents k))).residents j).session.current ≡ None)
    there j not' true is = rw is (none (a.residents k), none (b.residents k))
    there j not' false is = rw is (alike.idle j not')

fit_same : (fact : OwnFact) (site : Site) (a b : Local) → AreAlike site a b → fits_local fact site a ≡ fits_local fact site b
fit_same (Begun k op) site a b alike = refl
fit_same (Numbered k number) site a b alike = refl
fit_same (Had file copy) site a b alike = ap (λ l. file_fits l (Store copy)) (same_limits site a b file alike)
fit_same (Kept file copy) site a b alike = elim (cases_Bool (is_file_in b file)) [
  | inl there ↦ (
      ap (λ l. not l && file_fits (limit_at (state_of everyone a) file.volume file.place) (Store copy)) (alike.lacks file there)
      ∙ ap (λ l. not (b.lacks file) && file_fits l (Store copy)) (same_limits site a b file alike))
  | inr none ↦ (
      let also : is_file_in a file ≡ false = ap is_some (same_limits site a b file alike) ∙ none in
      no_file (limit_at (state_of everyone a) file.volume file.place) (a.lacks file) also ∙ sym (no_file (limit_at (state_of everyone b) file.volume file.place) (b.lacks file) none))
]
  where
    no_file : (limit : Option ℕ) (lacks : Bool) → is_some limit ≡ false → (not lacks && file_fits limit (Store copy)) ≡ false
    no_file None true is = refl
    no_file None false is = refl
    no_file (Some limit) lacks is = absurd (cc)

recalled_same : (fact : OwnFact) (site : Site) (a b : Local) → AreAlike site a b → AreAlike site (recalled fact a) (recalled fact b)
recalled_same (Begun k op) site a b alike = rest_same site a b k (λ r. rested r (reserved_by (Some (Begun k op)) r.reserved)) (λ r. refl) alike
recalled_same (Numbered k number) site a b alike = rest_same site a b k (λ r. rested r (reserved_by (Some (Numbered k number)) r.reserved)) (λ r. refl) alike
recalled_same (Kept file copy) site a b alike = copied_same site a b file copy alike
recalled_same (Had file copy) site a b alike = given_same site a b file copy alike

-- a start reads the fact, or passes it over
reads_it : (fact : OwnFact) (site : Site) (local : Local) → fits_local fact site local ≡ true → recall_one site local fact ≡ recalled fact local
reads_it fact site local fits = ap (λ (d : Doing). d.local) (recalls_fits fact site local fits)

passes_it : (fact : OwnFact) (site : Site) (local : Local) → fits_local fact site local ≡ false → recall_one site local fact ≡ local
passes_it fact site local not' = ap (λ (d : Doing). d.local) (recalls_not fact site local not')

one_same : (fact : OwnFact) (site : Site) (a b : Local) → AreAlike site a b → AreAlike site (recall_one site a fact) (recall_one site b fact)
one_same fact site a b alike = elim (cases_Bool (fits_local fact site b)) [
  | inl fits ↦ (
      let also : fits_local fact site a ≡ true = fit_same fact site a b alike ∙ fits in
      subst (λ x. AreAlike site x (recall_one site b fact)) (sym (reads_it fact site a also)) (subst (AreAlike site (recalled fact a)) (sym (reads_it fact site b fits)) (recalled_same fact site a b alike)))
  | inr not' ↦ (
      let also : fits_local fact site a ≡ false = fit_same fact site a b alike ∙ not' in
      subst (λ x. AreAlike site x (recall_one site b fact)) (sym (passes_it fact site a also)) (subst (AreAlike site a) (sym (passes_it fact site b not')) alike))
]

pub recalls_same : (site : Site) (a b : Local) (facts : List OwnFact) → AreAlike site a b → AreAlike site (recall_all site a facts) (recall_all site b facts)
recalls_same site a b [] alike = alike
recalls_same site a b (fact ∷ facts) alike = recalls_same site (recall_one site a fact) (recall_one site b fact) facts (one_same fact site a b alike)

-- ---- of one file

-- the limit of the file
abbrev limit_in : Local → File → Option ℕ
limit_in local f = limit_at (state_of everyone local) f.volume f.place

-- the copies that a start has of the file behind the fact, and whether it lacks it, by the limit of the file alone
copies_behind : OwnFact → (f : File) → Option ℕ → (lacks : Bool) → List StoredCopy → List StoredCopy
copies_behind (Kept file copy) f limit lacks copies = if is_file file f && (not lacks && file_fits limit (Store copy)) then copies ++ copy ∷ [] else copies
copies_behind (Had file copy) f limit lacks copies = if is_file file f && file_fits limit (Store copy) then copies ++ copy ∷ [] else copies
copies_behind _ f limit lacks copies = copies

lacks_behind : OwnFact → (f : File) → Option ℕ → (lacks : Bool) → Bool
lacks_behind (Had file copy) f limit lacks = if is_file file f && file_fits limit (Store copy) then false else lacks
lacks_behind _ f limit lacks = lacks

record IsBehind (site : Site) (local : Local) (f : File) (fact : OwnFact) : Type 0 where
  copies : (recall_one site local fact).brought f ≡ copies_behind fact f (limit_in local f) (local.lacks f) (local.brought f)
  lacks : (recall_one site local fact).lacks f ≡ lacks_behind fact f (limit_in local f) (local.lacks f)

-- of the file itself, and of another one
kept_behind : (site : Site) (local : Local) (f : File) (copy : StoredCopy) → is_file f f ≡ true → IsBehind site local f (Kept f copy)
unfolding copies_behind lacks_behind
kept_behind site local f copy its = elim (cases_Bool (fits_local (Kept f copy) site local)) [
  | inl fits ↦ (record {
    copies = ap (λ (l : Local). l.brought f) (reads_it (Kept f copy) site local fits) ∙ (rw (its, fits) refl);
    lacks = ap (λ (l : Local). l.lacks f) (reads_it (Kept f copy) site local fits);
  })
  | inr not' ↦ (record {
    copies = ap (λ (l : Local). l.brought f) (passes_it (Kept f copy) site local not') ∙ (rw (its, not') refl);
    lacks = ap (λ (l : Local). l.lacks f) (passes_it (Kept f copy) site local not');
  })
]

had_behind : (site : Site) (local : Local) (f : File) (copy : StoredCopy) → is_file f f ≡ true → IsBehind site local f (Had f copy)
unfolding copies_behind lacks_behind
had_behind site local f copy its = elim (cases_Bool (fits_local (Had f copy) site local)) [
  | inl fits ↦ (record {
    copies = ap (λ (l : Local). l.brought f) (reads_it (Had f copy) site local fits) ∙ (rw (its, fits) refl);
    lacks = ap (λ (l : Local). l.lacks f) (reads_it (Had f copy) site local fits) ∙ (rw (its, fits) (none (local.lacks f)));
  })
  | inr not' ↦ (record {
    copies = ap (λ (l : Local). l.brought f) (passes_it (Had f copy) site local not') ∙ (rw (its, not') refl);
    lacks = ap (λ (l : Local). l.lacks f) (passes_it (Had f copy) site local not') ∙ (rw (its, not') refl);
  })
]
  where
    none : (c : Bool) → (c && not true) ≡ false
    none true = refl
    none false = refl

others_behind : (site : Site) (local : Local) (f file : File) (copy : StoredCopy) → is_file file f ≡ false → IsBehind site local f (Kept file copy) × IsBehind site local f (Had file copy)
unfolding copies_behind lacks_behind
others_behind site local f file copy other = (kept, had)
  where
    kept : IsBehind site local f (Kept file copy)
    kept = elim (cases_Bool (fits_local (Kept file copy) site local)) [
      | inl fits ↦ (record {
        copies = ap (λ (l : Local). l.brought f) (reads_it (Kept file copy) site local fits) ∙ (rw other refl);
        lacks = ap (λ (l : Local). l.lacks f) (reads_it (Kept file copy) site local fits);
      })
      | inr not' ↦ (record {
        copies = ap (λ (l : Local). l.brought f) (passes_it (Kept file copy) site local not') ∙ (rw other refl);
        lacks = ap (λ (l : Local). l.lacks f) (passes_it (Kept file copy) site local not');
      })
    ]

    still : (c : Bool) → (c && not false) ≡ c
    still true = refl
    still false = refl

    had : IsBehind site local f (Had file copy)
    had = elim (cases_Bool (fits_local (Had file copy) site local)) [
      | inl fits ↦ (record {
        copies = ap (λ (l : Local). l.brought f) (reads_it (Had file copy) site local fits) ∙ (rw other refl);
        lacks = ap (λ (l : Local). l.lacks f) (reads_it (Had file copy) site local fits) ∙ (rw other (still (local.lacks f)));
      })
      | inr not' ↦ (record {
        copies = ap (λ (l : Local). l.brought f) (passes_it (Had file copy) site local not') ∙ (rw other refl);
        lacks = ap (λ (l : Local). l.lacks f) (passes_it (Had file copy) site local not') ∙ (rw other refl);
      })
    ]

session_behind : (site : Site) (local : Local) (f : File) (k n : ℕ) → IsBehind site local f (Begun k n) × IsBehind site local f (Numbered k n)
unfolding copies_behind lacks_behind
session_behind site local f k n = elim (cases_Bool (has_session site k)) [
  | inl has ↦ (
    (record { copies = ap (λ (l : Local). l.brought f) (reads_it (Begun k n) site local has); lacks = ap (λ (l : Local). l.lacks f) (reads_it (Begun k n) site local has) }),
    (record { copies = ap (λ (l : Local). l.brought f) (reads_it (Numbered k n) site local has); lacks = ap (λ (l : Local). l.lacks f) (reads_it (Numbered k n) site local has) }),
  )
  | inr not' ↦ (
    (record { copies = ap (λ (l : Local). l.brought f) (passes_it (Begun k n) site local not'); lacks = ap (λ (l : Local). l.lacks f) (passes_it (Begun k n) site local not') }),
    (record { copies = ap (λ (l : Local). l.brought f) (passes_it (Numbered k n) site local not'); lacks = ap (λ (l : Local). l.lacks f) (passes_it (Numbered k n) site local not') }),
  )
]

behind : (site : Site) (local : Local) (f : File) (fact : OwnFact) → IsBehind site local f fact
behind site local f (Begun k op) = (session_behind site local f k op).0
behind site local f (Numbered k number) = (session_behind site local f k number).1
behind site local f (Kept file copy) = elim (cases_Bool (is_file file f)) [
  | inl its ↦ (
      let same : file ≡ f = same_file file f its in
      subst (λ z. IsBehind site local f (Kept z copy)) (sym same) (kept_behind site local f copy (subst (λ z. is_file z f ≡ true) same its)))
  | inr other ↦ ((others_behind site local f file copy other).0)
]
behind site local f (Had file copy) = elim (cases_Bool (is_file file f)) [
  | inl its ↦ (
      let same : file ≡ f = same_file file f its in
      subst (λ z. IsBehind site local f (Had z copy)) (sym same) (had_behind site local f copy (subst (λ z. is_file z f ≡ true) same its)))
  | inr other ↦ ((others_behind site local f file copy other).1)
]

-- the two parts have the same of the file
pub record HaveFile (f : File) (a b : Local) : Type 0 where
  pub copies : a.brought f ≡ b.brought f
  pub lacks : a.lacks f ≡ b.lacks f

-- so they do behind the same facts, whatever the plans, where the file has the same limit in both
pub file_behind : (one two : Site) (facts : List OwnFact) (a b : Local) (f : File) → limit_in a f ≡ limit_in b f → HaveFile f a b → HaveFile f (recall_all one a facts) (recall_all two b facts)
file_behind one two [] a b f limit have = have
file_behind one two (fact ∷ facts) a b f limit have =
    let x : IsBehind one a f fact = behind one a f fact in
    let y : IsBehind two b f fact = behind two b f fact in
    file_behind one two facts (recall_one one a fact) (recall_one two b fact) f
    (still one a fact ∙ limit ∙ sym (still two b fact))
    (record {
      copies = x.copies ∙ (λ i. copies_behind fact f (limit i) (have.lacks i) (have.copies i)) ∙ sym y.copies;
      lacks = x.lacks ∙ (λ i. lacks_behind fact f (limit i) (have.lacks i)) ∙ sym y.lacks;
    })
  where
    still : (site : Site) (local : Local) (fact : OwnFact) → limit_in (recall_one site local fact) f ≡ limit_in local f
    still site local fact = ap (λ (vs : List VolumeRow). limit_at (state_of everyone (record local { volumes = vs })) f.volume f.place) (recall_volumes site (fact ∷ []) local)

-- ---- of files that are there

-- the facts are of files that have a limit
unfoldable pub IsThere : (limit : File → Option ℕ) → OwnFact → Type 0
IsThere limit (Kept file copy) = is_some (limit file) ≡ true
IsThere limit (Had file copy) = is_some (limit file) ≡ true
IsThere limit _ = ⊤

unfoldable pub AllThere : (limit : File → Option ℕ) → List OwnFact → Type 0
AllThere limit [] = ⊤
AllThere limit (fact ∷ facts) = IsThere limit fact × AllThere limit facts

pub there_append : (limit : File → Option ℕ) (a b : List OwnFact) → AllThere limit a → AllThere limit b → AllThere limit (a ++ b)
unfolding AllThere
there_append limit [] b one two = two
there_append limit (fact ∷ a) b one two = (one.0, there_append limit a b one.1 two)

pub there_later : (limit later : File → Option ℕ) (facts : List OwnFact) → ((f : File) → is_some (limit f) ≡ true → is_some (later f) ≡ true) → AllThere limit facts → AllThere later facts
unfolding AllThere IsThere
there_later limit later [] more all = tt
there_later limit later (Begun k op ∷ facts) more all = (tt, there_later limit later facts more all.1)
there_later limit later (Numbered k number ∷ facts) more all = (tt, there_later limit later facts more all.1)
there_later limit later (Kept file copy ∷ facts) more all = (more file all.0, there_later limit later facts more all.1)
there_later limit later (Had file copy ∷ facts) more all = (more file all.0, there_later limit later facts more all.1)

-- of a file that is not there they say nothing
not_said : (limit : File → Option ℕ) (fact : OwnFact) (f : File) (l : Option ℕ) (lacks : Bool) (copies : List StoredCopy) → IsThere limit fact → is_some (limit f) ≡ false →
    (copies_behind fact f l lacks copies ≡ copies) × (lacks_behind fact f l lacks ≡ lacks)
unfolding IsThere copies_behind lacks_behind
not_said limit (Begun k op) f l lacks copies is none = (refl, refl)
not_said limit (Numbered k number) f l lacks copies is none = (refl, refl)
not_said limit (Kept file copy) f l lacks copies is none = elim (cases_Bool (is_file file f)) [
  | inl same ↦ (absurd (true≢false (sym is ∙ ap (λ z. is_some (limit z)) (same_file file f same) ∙ none)))
  | inr other ↦ ((rw other refl, refl))
]
not_said limit (Had file copy) f l lacks copies is none = elim (cases_Bool (is_file file f)) [
  | inl same ↦ (absurd (true≢false (sym is ∙ ap (λ z. is_some (limit z)) (same_file file f same) ∙ none)))
  | inr other ↦ ((rw other refl, rw other refl))
]

pub file_untold : (limit : File → Option ℕ) (site : Site) (facts : List OwnFact) (local : Local) (f : File) → AllThere limit facts → is_some (limit f) ≡ false → HaveFile f (recall_all site local facts) local
unfolding AllThere
file_untold limit site [] local f all none = record { copies = refl; lacks = refl }
file_untold limit site (fact ∷ facts) local f all none =
    let x : IsBehind site local f fact = behind site local f fact in
    let one = not_said limit fact f (limit_in local f) (local.lacks f) (local.brought f) all.0 none in
    let rest : HaveFile f (recall_all site (recall_one site local fact) facts) (recall_one site local fact) = file_untold limit site facts (recall_one site local fact) f all.1 none in
    record { copies = rest.copies ∙ x.copies ∙ one.0; lacks = rest.lacks ∙ x.lacks ∙ one.1 }

-- ---- of one session

resident_behind : OwnFact → (k : ℕ) → Resident → Resident
resident_behind (Begun j op) k r = if j == k then rested r (reserved_by (Some (Begun j op)) r.reserved) else r
resident_behind (Numbered j number) k r = if j == k then rested r (reserved_by (Some (Numbered j number)) r.reserved) else r
resident_behind _ k r = r

told_behind : (site : Site) (local : Local) (k : ℕ) (fact : OwnFact) → has_session site k ≡ true → (recall_one site local fact).residents k ≡ resident_behind fact k (local.residents k)
unfolding resident_behind
told_behind site local k (Kept file copy) has = elim (cases_Bool (fits_local (Kept file copy) site local)) [
  | inl fits ↦ (ap (λ (l : Local). l.residents k) (reads_it (Kept file copy) site local fits))
  | inr not' ↦ (ap (λ (l : Local). l.residents k) (passes_it (Kept file copy) site local not'))
]
told_behind site local k (Had file copy) has = elim (cases_Bool (fits_local (Had file copy) site local)) [
  | inl fits ↦ (ap (λ (l : Local). l.residents k) (reads_it (Had file copy) site local fits))
  | inr not' ↦ (ap (λ (l : Local). l.residents k) (passes_it (Had file copy) site local not'))
]
told_behind site local k (Begun j op) has = elim (cases_Bool (j == k)) [
  | inl same ↦ (
      let fits : has_session site j ≡ true = ap (has_session site) (eqb-true j k same) ∙ has in
      ap (λ (l : Local). l.residents k) (reads_it (Begun j op) site local fits) ∙ (rw same (ap (λ n. rested (local.residents n) (reserved_by (Some (Begun j op)) (local.residents n).reserved)) (eqb-true j k same))))
  | inr other ↦ (elim (cases_Bool (has_session site j)) [
    | inl fits ↦ (ap (λ (l : Local). l.residents k) (reads_it (Begun j op) site local fits) ∙ (rw other refl))
    | inr not' ↦ (ap (λ (l : Local). l.residents k) (passes_it (Begun j op) site local not') ∙ (rw other refl))
  ])
]
told_behind site local k (Numbered j number) has = elim (cases_Bool (j == k)) [
  | inl same ↦ (
      let fits : has_session site j ≡ true = ap (has_session site) (eqb-true j k same) ∙ has in
      ap (λ (l : Local). l.residents k) (reads_it (Numbered j number) site local fits) ∙ (rw same (ap (λ n. rested (local.residents n) (reserved_by (Some (Numbered j number)) (local.residents n).reserved)) (eqb-true j k same))))
  | inr other ↦ (elim (cases_Bool (has_session site j)) [
    | inl fits ↦ (ap (λ (l : Local). l.residents k) (reads_it (Numbered j number) site local fits) ∙ (rw other refl))
    | inr not' ↦ (ap (λ (l : Local). l.residents k) (passes_it (Numbered j number) site local not') ∙ (rw other refl))
  ])
]

-- a session that both plans have is the same behind the same facts
pub session_same : (one two : Site) (facts : List OwnFact) (a b : Local) (k : ℕ) → has_session one k ≡ true → has_session two k ≡ true → a.residents k ≡ b.residents k → (recall_all one a facts).residents k ≡ (recall_all two b facts).residents k
session_same one two [] a b k has also same = same
session_same one two (fact ∷ facts) a b k has also same =
    session_same one two facts (recall_one one a fact) (recall_one two b fact) k has also (told_behind one a k fact has ∙ ap (resident_behind fact k) same ∙ sym (told_behind two b k fact also))

-- ---- at rest

-- a session of a start is as it was begun, but for what is reserved for it
pub RestsOn : Site → Resident → Type 0
RestsOn site r = r ≡ rested (new_resident site.grid site.place) r.reserved

one_rests : (site : Site) (local : Local) (k : ℕ) (fact : OwnFact) → has_session site k ≡ true → RestsOn site (local.residents k) → RestsOn site ((recall_one site local fact).residents k)
unfolding RestsOn resident_behind
one_rests site local k fact has rests = subst (RestsOn site) (sym (told_behind site local k fact has)) (of fact)
  where
    of : (fact : OwnFact) → RestsOn site (resident_behind fact k (local.residents k))
    of (Kept file copy) = rests
    of (Had file copy) = rests
    of (Begun j op) = by (j == k) refl
      where
        by : (c : Bool) → (j == k) ≡ c → RestsOn site (resident_behind (Begun j op) k (local.residents k))
        by true is = rw is (λ i. rested (rests i) (reserved_by (Some (Begun j op)) (local.residents k).reserved))
        by false is = rw is rests
    of (Numbered j number) = by (j == k) refl
      where
        by : (c : Bool) → (j == k) ≡ c → RestsOn site (resident_behind (Numbered j number) k (local.residents k))
        by true is = rw is (λ i. rested (rests i) (reserved_by (Some (Numbered j number)) (local.residents k).reserved))
        by false is = rw is rests

pub all_rest_on : (site : Site) (facts : List OwnFact) (local : Local) (k : ℕ) → has_session site k ≡ true → RestsOn site (local.residents k) → RestsOn site ((recall_all site local facts).residents k)
all_rest_on site [] local k has rests = rests
all_rest_on site (fact ∷ facts) local k has rests = all_rest_on site facts (recall_one site local fact) k has (one_rests site local k fact has rests)

-- so two of which the same is reserved are the same
pub rests_on_by : (site : Site) (r q : Resident) → RestsOn site r → RestsOn site q → r.reserved ≡ q.reserved → r ≡ q
unfolding RestsOn
rests_on_by site r q one two same = one ∙ ap (rested (new_resident site.grid site.place)) same ∙ sym two

pub rests_begun : (site : Site) (losses k : ℕ) → RestsOn site (begun_resident site losses k)
unfolding RestsOn
rests_begun site losses k = refl

-- nobody is asked yet
pub recall_peer : (site : Site) (facts : List OwnFact) (local : Local) → (recall_all site local facts).peer ≡ local.peer
recall_peer site [] local = refl
recall_peer site (fact ∷ facts) local = recall_peer site facts (recall_one site local fact) ∙ one fact
  where
    same : (fact : OwnFact) → (recalled fact local).peer ≡ local.peer
    same (Begun k op) = refl
    same (Numbered k number) = refl
    same (Kept file copy) = refl
    same (Had file copy) = refl

    one : (fact : OwnFact) → (recall_one site local fact).peer ≡ local.peer
    one fact = elim (cases_Bool (fits_local fact site local)) [
      | inl fits ↦ (ap (λ (l : Local). l.peer) (reads_it fact site local fits) ∙ same fact)
      | inr not' ↦ (ap (λ (l : Local). l.peer) (passes_it fact site local not'))
    ]
