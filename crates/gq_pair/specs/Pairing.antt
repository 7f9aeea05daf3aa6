-- What two machines that last owe as one.
use Rattle.std.proofs.Common.{◌≡◌, ℕ, List, ◌++◌, Bool, true, false, refl, sym, ap, subst, ◌∙◌}
use Rattle.std.specs.List.{list_all}
use Rattle.std.proofs.lemmas.Bool.{and_from}
use Rattle.std.proofs.lemmas.List.{append_assoc}
use Rattle.std.proofs.lemmas.List.Concat.{flat_map-append}
use Rattle.std.proofs.lemmas.List.Folds.{list_all-append}
use Rattle.gq_journal.specs.Batches.{ended_line, lines_text, is_batch_line}
use Rattle.gq_keeper.specs.Plans.{are_facts}
use Rattle.gq_keeper.specs.Runs.{Takes}
use Rattle.gq_keeper.specs.Starting.{RecallsAll}
use Rattle.gq_keeper.specs.Restarting.{Needs}
use Rattle.gq_pair.specs.declared.pair.Taker.{Taker}
use Rattle.gq_pair.specs.declared.pair.Taker.TheVariants.{First, Second, Both}
use Rattle.gq_pair.specs.Pairs.{BothStep, StepsBy, RecallsBy, readable_by}
use Rattle.gq_pair.specs.Parting.{Lines, firsts, seconds, none_second, firsts_all, seconds_none, firsts_none, seconds_all, firsts_both, seconds_both, split, read_both, none_second_read, all_second_read}

all_both : {X : Type 0} (p : X → Bool) (xs ys : List X) → list_all p xs ≡ true → list_all p ys ≡ true → list_all p (xs ++ ys) ≡ true
all_both p xs ys a b = list_all-append p xs ys ∙ and_from (list_all p xs) (list_all p ys) a b

module _ {M N : Type 0} (first : M → List ℕ → Lines → List ℕ → M → Type 0) (other : N → List ℕ → Lines → List ℕ → N → Type 0) where
  -- ---- of a step

  pub gives_facts : (t : Taker) (m : M) (n : N) (line : List ℕ) (facts : Lines) (told : List ℕ) (m' : M) (n' : N) →
      ((facts : Lines) (told : List ℕ) → first m line facts told m' → are_facts facts ≡ true) → ((facts : Lines) (told : List ℕ) → other n line facts told n' → are_facts facts ≡ true) →
      StepsBy first other t m n line facts told m' n' → are_facts facts ≡ true
  gives_facts First m n line facts told m' n' a b step = a facts told step.0
  gives_facts Second m n line facts told m' n' a b step = b facts told step.0
  gives_facts Both m n line facts told m' n' a b step =
      subst (λ (z : Lines). are_facts z ≡ true) (sym step.all_facts) (all_both _ step.first_facts step.second_facts (a step.first_facts step.first_told step.first_step) (b step.second_facts step.second_told step.second_step))

  -- facts that the first one reads, and that are not the second one's
  first_read : (second ra rb : List ℕ → Bool) (facts : Lines) → list_all ra facts ≡ true → none_second second facts ≡ true → list_all (λ line. readable_by (second line) (ra line) (rb line)) facts ≡ true
  first_read second ra rb facts read none =
      read_both second ra rb facts (subst (λ (z : Lines). list_all ra z ≡ true) (sym (firsts_all second facts none)) read) (subst (λ (z : Lines). list_all rb z ≡ true) (sym (seconds_none second facts none)) refl)

  second_read : (second ra rb : List ℕ → Bool) (facts : Lines) → list_all rb facts ≡ true → list_all second facts ≡ true → list_all (λ line. readable_by (second line) (ra line) (rb line)) facts ≡ true
  second_read second ra rb facts read all =
      read_both second ra rb facts (subst (λ (z : Lines). list_all ra z ≡ true) (sym (firsts_none second facts all)) refl) (subst (λ (z : Lines). list_all rb z ≡ true) (sym (seconds_all second facts all)) read)

  pub gives_readable : (second ra rb : List ℕ → Bool) (t : Taker) (m : M) (n : N) (line : List ℕ) (facts : Lines) (told : List ℕ) (m' : M) (n' : N) →
      ((facts : Lines) (told : List ℕ) → first m line facts told m' → (list_all ra facts ≡ true) × (none_second second facts ≡ true)) →
      ((facts : Lines) (told : List ℕ) → other n line facts told n' → (list_all rb facts ≡ true) × (list_all second facts ≡ true)) →
      StepsBy first other t m n line facts told m' n' → list_all (λ line. readable_by (second line) (ra line) (rb line)) facts ≡ true
  gives_readable second ra rb First m n line facts told m' n' a b step = first_read second ra rb facts (a facts told step.0).0 (a facts told step.0).1
  gives_readable second ra rb Second m n line facts told m' n' a b step = second_read second ra rb facts (b facts told step.0).0 (b facts told step.0).1
  gives_readable second ra rb Both m n line facts told m' n' a b step =
      let x : (list_all ra step.first_facts ≡ true) × (none_second second step.first_facts ≡ true) = a step.first_facts step.first_told step.first_step in
      let y : (list_all rb step.second_facts ≡ true) × (list_all second step.second_facts ≡ true) = b step.second_facts step.second_told step.second_step in
      subst (λ (z : Lines). list_all (λ line. readable_by (second line) (ra line) (rb line)) z ≡ true) (sym step.all_facts)
      (all_both _ step.first_facts step.second_facts (first_read second ra rb step.first_facts x.0 x.1) (second_read second ra rb step.second_facts y.0 y.1))

  pub keeps_back : (X : M → Type 0) (Y : N → Type 0) (t : Taker) (m : M) (n : N) (line : List ℕ) (facts : Lines) (told : List ℕ) (m' : M) (n' : N) →
      ((facts : Lines) (told : List ℕ) → first m line facts told m' → X m' → X m) → ((facts : Lines) (told : List ℕ) → other n line facts told n' → Y n' → Y n) →
      StepsBy first other t m n line facts told m' n' → X m' × Y n' → X m × Y n
  keeps_back X Y First m n line facts told m' n' a b step was = (a facts told step.0 was.0, subst Y step.1 was.1)
  keeps_back X Y Second m n line facts told m' n' a b step was = (subst X step.1 was.0, b facts told step.0 was.1)
  keeps_back X Y Both m n line facts told m' n' a b step was = (a step.first_facts step.first_told step.first_step was.0, b step.second_facts step.second_told step.second_step was.1)

  pub keeps_on : (X : M → Type 0) (Y : N → Type 0) (t : Taker) (m : M) (n : N) (line : List ℕ) (facts : Lines) (told : List ℕ) (m' : M) (n' : N) →
      ((facts : Lines) (told : List ℕ) → first m line facts told m' → X m → X m') → ((facts : Lines) (told : List ℕ) → other n line facts told n' → Y n → Y n') →
      StepsBy first other t m n line facts told m' n' → X m × Y n → X m' × Y n'
  keeps_on X Y First m n line facts told m' n' a b step was = (a facts told step.0 was.0, subst Y (sym step.1) was.1)
  keeps_on X Y Second m n line facts told m' n' a b step was = (subst X (sym step.1) was.0, b facts told step.0 was.1)
  keeps_on X Y Both m n line facts told m' n' a b step was = (a step.first_facts step.first_told step.first_step was.0, b step.second_facts step.second_told step.second_step was.1)

  -- the facts of the step were read: by each machine its own
  pub keeps_rest : (second : List ℕ → Bool) (fr : M → List ℕ → M → Type 0) (sr : N → List ℕ → N → Type 0) (restsM : M → M → Type 0) (restsN : N → N → Type 0) (t : Taker) (m : M) (n : N) (line : List ℕ) (facts : Lines) (told : List ℕ) (m' : M) (n' : N) (bm am : M) (bn an : N) →
      ((facts : Lines) (told : List ℕ) → first m line facts told m' → none_second second facts ≡ true) → ((facts : Lines) (told : List ℕ) → other n line facts told n' → list_all second facts ≡ true) →
      ((facts : Lines) (told : List ℕ) → first m line facts told m' → restsM m bm → RecallsAll fr bm facts am → restsM m' am) →
      ((facts : Lines) (told : List ℕ) → other n line facts told n' → restsN n bn → RecallsAll sr bn facts an → restsN n' an) →
      StepsBy first other t m n line facts told m' n' → restsM m bm × restsN n bn → RecallsAll fr bm (firsts second facts) am × RecallsAll sr bn (seconds second facts) an → restsM m' am × restsN n' an
  keeps_rest second fr sr restsM restsN First m n line facts told m' n' bm am bn an fa sa a b step rest r =
      let none : none_second second facts ≡ true = fa facts told step.0 in
      let mine : RecallsAll fr bm facts am = subst (λ (z : Lines). RecallsAll fr bm z am) (firsts_all second facts none) r.0 in
      let same : bn ≡ an = subst (λ (z : Lines). RecallsAll sr bn z an) (seconds_none second facts none) r.1 in
      (a facts told step.0 rest.0 mine, subst (λ z. restsN z an) (sym step.1) (subst (λ z. restsN n z) same rest.1))
  keeps_rest second fr sr restsM restsN Second m n line facts told m' n' bm am bn an fa sa a b step rest r =
      let all : list_all second facts ≡ true = sa facts told step.0 in
      let its : RecallsAll sr bn facts an = subst (λ (z : Lines). RecallsAll sr bn z an) (seconds_all second facts all) r.1 in
      let same : bm ≡ am = subst (λ (z : Lines). RecallsAll fr bm z am) (firsts_none second facts all) r.0 in
      (subst (λ z. restsM z am) (sym step.1) (subst (λ z. restsM m z) same rest.0), b facts told step.0 rest.1 its)
  keeps_rest second fr sr restsM restsN Both m n line facts told m' n' bm am bn an fa sa a b step rest r =
      let none : none_second second step.first_facts ≡ true = fa step.first_facts step.first_told step.first_step in
      let all : list_all second step.second_facts ≡ true = sa step.second_facts step.second_told step.second_step in
      let mine : RecallsAll fr bm step.first_facts am = subst (λ (z : Lines). RecallsAll fr bm z am) (ap (firsts second) step.all_facts ∙ firsts_both second step.first_facts step.second_facts none all) r.0 in
      let its : RecallsAll sr bn step.second_facts an = subst (λ (z : Lines). RecallsAll sr bn z an) (ap (seconds second) step.all_facts ∙ seconds_both second step.first_facts step.second_facts none all) r.1 in
      (a step.first_facts step.first_told step.first_step rest.0 mine, b step.second_facts step.second_told step.second_step rest.1 its)

module _ {M N : Type 0} (fr : M → List ℕ → M → Type 0) (sr : N → List ℕ → N → Type 0) where
  -- ---- of a line that was read

  pub recalls_on : (X : M → Type 0) (Y : N → Type 0) (s : Bool) (m : M) (n : N) (line : List ℕ) (m' : M) (n' : N) → (fr m line m' → X m → X m') → (sr n line n' → Y n → Y n') → RecallsBy fr sr s m n line m' n' → X m × Y n → X m' × Y n'
  recalls_on X Y true m n line m' n' a b step was = (subst X (sym step.1) was.0, b step.0 was.1)
  recalls_on X Y false m n line m' n' a b step was = (a step.0 was.0, subst Y (sym step.1) was.1)

  pub reads_on : (ra : M → Bool) (rb : N → Bool) (t s : Bool) (m : M) (n : N) (line : List ℕ) (m' : M) (n' : N) → (fr m line m' → ra m' ≡ ra m) → (sr n line n' → rb n' ≡ rb n) → RecallsBy fr sr s m n line m' n' → readable_by t (ra m') (rb n') ≡ readable_by t (ra m) (rb n)
  reads_on ra rb true true m n line m' n' a b step = b step.0
  reads_on ra rb true false m n line m' n' a b step = ap rb step.1
  reads_on ra rb false true m n line m' n' a b step = ap ra step.1
  reads_on ra rb false false m n line m' n' a b step = a step.0

-- ---- both take a line

takes_text : (before middle after : List ℕ) (xs ys : Lines) → middle ≡ before ++ lines_text xs → after ≡ middle ++ lines_text ys → after ≡ before ++ lines_text (xs ++ ys)
takes_text before middle after xs ys one two = two ∙ ap (λ z. z ++ lines_text ys) one ∙ append_assoc before (lines_text xs) (lines_text ys) ∙ ap (λ z. before ++ z) (sym (flat_map-append ended_line xs ys))

takes_told : (before middle after xs ys : List ℕ) → middle ≡ before ++ xs → after ≡ middle ++ ys → after ≡ before ++ (xs ++ ys)
takes_told before middle after xs ys one two = two ∙ ap (λ z. z ++ ys) one ∙ append_assoc before xs ys

pub takes_both : {P M N : Type 0} (f : P → M) (g : P → N) (first : M → List ℕ → Lines → List ℕ → M → Type 0) (other : N → List ℕ → Lines → List ℕ → N → Type 0) (taker : List ℕ → Taker) (old new : P) (line f0 f1 f2 t0 t1 t2 : List ℕ) → taker line ≡ Both →
    Takes first (f old) line f0 f1 t0 t1 (f new) → Takes other (g old) line f1 f2 t1 t2 (g new) →
    Takes (λ (a : P) (line : List ℕ) (facts : Lines) (told : List ℕ) (b : P). StepsBy first other (taker line) (f a) (g a) line facts told (f b) (g b)) old line f0 f2 t0 t2 new
takes_both {P} {M} {N} f g first other taker old new line f0 f1 f2 t0 t1 t2 both one two =
    let step : BothStep first other (f old) (g old) line (one.lines ++ two.lines) (one.text ++ two.text) (f new) (g new) = record { first_facts = one.lines; second_facts = two.lines; first_told = one.text; second_told = two.text; first_step = one.step; second_step = two.step; all_facts = refl; all_told = refl } in
    record {
      lines = one.lines ++ two.lines;
      text = one.text ++ two.text;
      step = subst (λ (z : Taker). StepsBy first other z (f old) (g old) line (one.lines ++ two.lines) (one.text ++ two.text) (f new) (g new)) (sym both) step;
      facts = takes_text f0 f1 f2 one.lines two.lines one.facts two.facts;
      told = takes_told t0 t1 t2 one.text two.text one.told two.told;
      opened = all_both is_batch_line one.lines two.lines one.opened two.opened;
    }

-- ---- what a start needs of both

pub needs_both : {P M N : Type 0} (f : P → M) (g : P → N) (fr : M → List ℕ → M → Type 0) (sr : N → List ℕ → N → Type 0) (second : List ℕ → Bool) (ra : M → List ℕ → Bool) (rb : N → List ℕ → Bool) (blankM restsM : M → M → Type 0) (blankN restsN : N → N → Type 0) (p : P) (before middle after : List ℕ) →
    ((m : M) (line : List ℕ) → ra m line ≡ true → second line ≡ false) → ((n : N) (line : List ℕ) → rb n line ≡ true → second line ≡ true) →
    Needs fr ra blankM restsM (f p) before middle → Needs sr rb blankN restsN (g p) middle after →
    Needs (λ (old : P) (line : List ℕ) (new : P). RecallsBy fr sr (second line) (f old) (g old) line (f new) (g new)) (λ (q : P) (line : List ℕ). readable_by (second line) (ra (f q) line) (rb (g q) line)) (λ (q new : P). blankM (f q) (f new) × blankN (g q) (g new)) (λ (q again : P). restsM (f q) (f again) × restsN (g q) (g again)) p before after
needs_both {P} {M} {N} f g fr sr second ra rb blankM restsM blankN restsN p before middle after apartM apartN one two =
    record { lines = one.lines ++ two.lines; text = takes_text before middle after one.lines two.lines one.text two.text; facts = all_both _ one.lines two.lines one.facts two.facts; stands = record { read = read; again = again } }
  where
    none : (new : P) → blankM (f p) (f new) → none_second second one.lines ≡ true
    none new blank = none_second_read second (ra (f new)) (apartM (f new)) one.lines (one.stands.read (f new) blank)

    all : (new : P) → blankN (g p) (g new) → list_all second two.lines ≡ true
    all new blank = all_second_read second (rb (g new)) (apartN (g new)) two.lines (two.stands.read (g new) blank)

    read : (new : P) → blankM (f p) (f new) × blankN (g p) (g new) → list_all (λ line. readable_by (second line) (ra (f new) line) (rb (g new) line)) (one.lines ++ two.lines) ≡ true
    read new blank =
        read_both second (ra (f new)) (rb (g new)) (one.lines ++ two.lines)
        (subst (λ (z : Lines). list_all (ra (f new)) z ≡ true) (sym (firsts_both second one.lines two.lines (none new blank.0) (all new blank.1))) (one.stands.read (f new) blank.0))
        (subst (λ (z : Lines). list_all (rb (g new)) z ≡ true) (sym (seconds_both second one.lines two.lines (none new blank.0) (all new blank.1))) (two.stands.read (g new) blank.1))

    again : (new last : P) → blankM (f p) (f new) × blankN (g p) (g new) → RecallsAll (λ (old : P) (line : List ℕ) (now : P). RecallsBy fr sr (second line) (f old) (g old) line (f now) (g now)) new (one.lines ++ two.lines) last → restsM (f p) (f last) × restsN (g p) (g last)
    again new last blank r =
        let parts = split f g fr sr second (one.lines ++ two.lines) new last r in (
          one.stands.again (f new) (f last) blank.0 (subst (λ (z : Lines). RecallsAll fr (f new) z (f last)) (firsts_both second one.lines two.lines (none new blank.0) (all new blank.1)) parts.0),
          two.stands.again (g new) (g last) blank.1 (subst (λ (z : Lines). RecallsAll sr (g new) z (g last)) (seconds_both second one.lines two.lines (none new blank.0) (all new blank.1)) parts.1),
        )
