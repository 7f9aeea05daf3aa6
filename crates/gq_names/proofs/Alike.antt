-- Pages that say the same of the names inside: what is chosen beside them says the same too.
use Rattle.std.proofs.Common.{◌≡◌, ◌⊎◌, ℕ, zero, suc, ◌+◌, Bool, true, false, List, [], ◌∷◌, ◌++◌, refl, sym, ap, ◌∙◌, subst, inl, inr, Option, Some, None, max, eqb, ltb}
use Rattle.std.specs.Prelude.{not, ◌||◌, slice_get, if◌then◌else◌, ⊤}
use Rattle.gq_tag.specs.declared.StoredCopy.{StoredCopy}
use Rattle.gq_tag.specs.Tag.{first_copy}
use Rattle.std.proofs.lemmas.Bool.{ne_eqb, true≢false}
use Rattle.gq_names.specs.Names.{Setting, tidying, Page, Journal, Change, Client, Knows, Looks, Announces, Carries, Reader, Idle, Searches, shown, all_below, greatest_of, greatest_number, greatest_shown, greatest_line, greatest_asked, is_beaten, is_past, is_forgotten, goes_now, is_of, changed_page, changed, latest_op, new_line, highest, is_closed, has_seen, version_told, and_page, and_seen, behind}
use Rattle.gq_names.specs.Contents.{Each}
use Rattle.gq_names.specs.Splitting.{part_of, part_of_journal}

-- ---- of all sessions

greatest_alike : (n : ℕ) (f g : ℕ → StoredCopy) → ((t : ℕ) → f t ≡ g t) → greatest_of n f ≡ greatest_of n g
greatest_alike zero f g same = refl
greatest_alike (suc n) f g same = rw (greatest_alike n f g same) (rw (same n) refl)

number_alike : (n : ℕ) (f g : ℕ → ℕ) → ((t : ℕ) → f t ≡ g t) → greatest_number n f ≡ greatest_number n g
number_alike zero f g same = refl
number_alike (suc n) f g same = rw (number_alike n f g same) (rw (same n) refl)

all_alike : (n : ℕ) (f g : ℕ → Bool) → ((t : ℕ) → f t ≡ g t) → all_below n f ≡ all_below n g
all_alike zero f g same = refl
all_alike (suc n) f g same = rw (all_alike n f g same) (rw (same n) refl)

-- ---- pages

pub record AlikePage (inside : ℕ → Bool) (p q : Page) : Type 0 where
  pub line : (name : ℕ) → inside name ≡ true → p.line name ≡ q.line name
  pub gone : (name : ℕ) → inside name ≡ true → p.gone name ≡ q.gone name
  pub after : (t : ℕ) → p.after t ≡ q.after t
  pub number : p.number ≡ q.number

pub record AlikeJournal (inside : ℕ → Bool) (i j : Journal) : Type 0 where
  pub page : AlikePage inside i.page j.page
  pub op : i.op ≡ j.op

module _ (inside : ℕ → Bool) where
  pub page_self : (p : Page) → AlikePage inside p p
  page_self p = record { line = λ n is. refl; gone = λ n is. refl; after = λ t. refl; number = refl }

  -- two that are like a third one
  pub page_turns : (p q r : Page) → AlikePage inside p q → AlikePage inside p r → AlikePage inside q r
  page_turns p q r one two = record {
    line = λ n is. sym (one.line n is) ∙ two.line n is;
    gone = λ n is. sym (one.gone n is) ∙ two.gone n is;
    after = λ t. sym (one.after t) ∙ two.after t;
    number = sym one.number ∙ two.number;
  }

  pub page_back : (p q : Page) → AlikePage inside p q → AlikePage inside q p
  page_back p q one = page_turns p q p one (page_self p)

  pub page_on : (p q r : Page) → AlikePage inside p q → AlikePage inside q r → AlikePage inside p r
  page_on p q r one two = page_turns q p r (page_back p q one) two

  pub journal_self : (i : Journal) → AlikeJournal inside i i
  journal_self i = record { page = page_self i.page; op = refl }

  pub journal_turns : (i j k : Journal) → AlikeJournal inside i j → AlikeJournal inside i k → AlikeJournal inside j k
  journal_turns i j k one two = record { page = page_turns i.page j.page k.page one.page two.page; op = sym one.op ∙ two.op }

  pub journal_back : (i j : Journal) → AlikeJournal inside i j → AlikeJournal inside j i
  journal_back i j one = journal_turns i j i one (journal_self i)

  pub journal_on : (i j k : Journal) → AlikeJournal inside i j → AlikeJournal inside j k → AlikeJournal inside i k
  journal_on i j k one two = journal_turns j i k (journal_back i j one) two

  -- what is of a level stays, where all names here are inside there
  pub part_alike : (level : ℕ → Bool) → ((n : ℕ) → inside n ≡ true → level n ≡ true) → (p q : Page) → AlikePage inside p q → AlikePage inside p (part_of level q)
  part_alike level within p q one = record {
    line = λ n is. one.line n is ∙ sym (rw (within n is) refl);
    gone = λ n is. one.gone n is ∙ sym (rw (within n is) refl);
    after = one.after;
    number = one.number;
  }

  pub part_journal : (level : ℕ → Bool) → ((n : ℕ) → inside n ≡ true → level n ≡ true) → (i j : Journal) → AlikeJournal inside i j → AlikeJournal inside i (part_of_journal level j)
  part_journal level within i j one = record { page = part_alike level within i.page j.page one.page; op = one.op }

  pub shown_alike : (p q : Page) (name : ℕ) → inside name ≡ true → AlikePage inside p q → shown p name ≡ shown q name
  shown_alike p q name is one = rw (one.gone name is) (rw (one.line name is) refl)

  -- ---- what is chosen

  module _ (v : Setting) (seen more : ℕ → Page) (all : (t : ℕ) → AlikePage inside (seen t) (more t)) where
    pub closed_alike : is_closed v seen ≡ is_closed v more
    closed_alike = all_alike v.sessions (λ s. all_below v.sessions (λ t. not (ltb (seen t).number ((seen s).after t)))) (λ s. all_below v.sessions (λ t. not (ltb (more t).number ((more s).after t))))
        (λ s. all_alike v.sessions (λ t. not (ltb (seen t).number ((seen s).after t))) (λ t. not (ltb (more t).number ((more s).after t))) (λ t. rw (all t).number (rw ((all s).after t) refl)))

    pub has_alike : (looked did : ℕ → Bool) → ((t : ℕ) → looked t ≡ did t) → has_seen v looked seen ≡ has_seen v did more
    has_alike looked did same = rw (all_alike v.sessions looked did same) (rw closed_alike refl)

    pub greatest_shown_alike : (name : ℕ) → inside name ≡ true → greatest_shown v seen name ≡ greatest_shown v more name
    greatest_shown_alike name is = greatest_alike v.sessions (λ s. shown (seen s) name) (λ s. shown (more s) name) (λ t. shown_alike (seen t) (more t) name is (all t))

    greatest_line_alike : (name : ℕ) → inside name ≡ true → greatest_line v seen name ≡ greatest_line v more name
    greatest_line_alike name is = greatest_alike v.sessions (λ s. (seen s).line name) (λ s. (more s).line name) (λ t. (all t).line name is)

    pub version_alike : inside v.name ≡ true → version_told v seen ≡ version_told v more
    version_alike is = rw (greatest_shown_alike v.name is) (rw (greatest_line_alike v.name is) refl)

    pub highest_alike : (p q : Page) → AlikePage inside p q → highest v p seen ≡ highest v q more
    highest_alike p q one = rw one.number (rw (number_alike v.sessions (λ t. (seen t).number) (λ t. (more t).number) (λ t. (all t).number)) refl)

    module _ (goes asks : ℕ → Bool) (s : ℕ) (p q : Page) (one : AlikePage inside p q) where
      asked_at : (name t : ℕ) → inside name ≡ true → (b : Bool) → (if b then shown (seen t) name else first_copy) ≡ (if b then shown (more t) name else first_copy)
      asked_at name t is true = shown_alike (seen t) (more t) name is (all t)
      asked_at name t is false = refl

      asked_alike : (name : ℕ) → inside name ≡ true → greatest_asked v asks seen name ≡ greatest_asked v asks more name
      asked_alike name is = greatest_alike v.sessions (λ t. if asks t then shown (seen t) name else first_copy) (λ t. if asks t then shown (more t) name else first_copy) (λ t. asked_at name t is (asks t))

      beaten_alike : (name : ℕ) → inside name ≡ true → is_beaten v asks seen p name ≡ is_beaten v asks more q name
      beaten_alike name is = rw (asked_alike name is) (rw (one.line name is) refl)

      past_alike : (name t : ℕ) → inside name ≡ true → is_past asks seen s p name t ≡ is_past asks more s q name t
      past_alike name t is = rw ((all t).after s) (rw (one.line name is) (rw (shown_alike (seen t) (more t) name is (all t)) refl))

      forgotten_alike : (name : ℕ) → inside name ≡ true → is_forgotten v asks seen s p name ≡ is_forgotten v asks more s q name
      forgotten_alike name is = rw (all_alike v.sessions (λ t. eqb t s || is_past asks seen s p name t) (λ t. eqb t s || is_past asks more s q name t) (λ t. rw (past_alike name t is) refl)) (rw (one.line name is) refl)

      goes_alike : (name : ℕ) → inside name ≡ true → goes_now v goes asks seen s p name ≡ goes_now v goes asks more s q name
      goes_alike name is = rw (beaten_alike name is) (rw (forgotten_alike name is) refl)

      after_alike : (t : ℕ) (b : Bool) → (if b then max (p.after t) (seen t).number else p.after t) ≡ (if b then max (q.after t) (more t).number else q.after t)
      after_alike t true = rw (one.after t) (rw (all t).number refl)
      after_alike t false = one.after t

      line_at : (n : ℕ) (line : StoredCopy) → inside n ≡ true → (b : Bool) → (if b then line else p.line n) ≡ (if b then line else q.line n)
      line_at n line is true = refl
      line_at n line is false = one.line n is

      gone_at : (n : ℕ) → inside n ≡ true → (b : Bool) → (if b then false else p.gone n || goes_now v goes asks seen s p n) ≡ (if b then false else q.gone n || goes_now v goes asks more s q n)
      gone_at n is true = refl
      gone_at n is false = rw (one.gone n is) (rw (goes_alike n is) refl)

      pub changed_alike : (name : Option ℕ) (line : StoredCopy) → AlikePage inside (changed_page v goes asks seen s p name line) (changed_page v goes asks more s q name line)
      changed_alike name line = record {
        line = λ n is. line_at n line is (is_of name n);
        gone = λ n is. gone_at n is (is_of name n);
        after = λ t. after_alike t (asks t);
        number = refl;
      }

      -- a change of a name that is not inside says nothing of those that are
      nameless_at : (n name : ℕ) (line also : StoredCopy) → inside n ≡ true → inside name ≡ false → p.line n ≡ (if eqb n name then line else q.line n)
      nameless_at n name line also is out = rw (ne_eqb n name (λ same. true≢false (sym is ∙ ap inside same ∙ out))) (one.line n is)

      nameless_gone : (n name : ℕ) → inside n ≡ true → inside name ≡ false → (p.gone n || goes_now v goes asks seen s p n) ≡ (if eqb n name then false else q.gone n || goes_now v goes asks more s q n)
      nameless_gone n name is out = rw (ne_eqb n name (λ same. true≢false (sym is ∙ ap inside same ∙ out))) (gone_at n is false)

      pub nameless_alike : (name : ℕ) (line also : StoredCopy) → inside name ≡ false → line.tag.number ≡ also.tag.number → AlikePage inside (changed_page v goes asks seen s p None line) (changed_page v goes asks more s q (Some name) also)
      nameless_alike name line also out number = record {
        line = λ n is. nameless_at n name also line is out;
        gone = λ n is. nameless_gone n name is out;
        after = λ t. after_alike t (asks t);
        number = number;
      }

    -- the journal that is announced
    pub chosen_alike : (goes asks : ℕ → Bool) (s more_by : ℕ) (change : Change) (i j : Journal) → AlikeJournal inside i j →
        AlikeJournal inside (changed v goes asks seen s i change (new_line s more_by change (highest v i.page seen))) (changed v goes asks more s j change (new_line s more_by change (highest v j.page more)))
    chosen_alike goes asks s more_by change i j one = record {
      page = rw (highest_alike i.page j.page one.page) (changed_alike goes asks s i.page j.page one.page change.name (new_line s more_by change (highest v j.page more)));
      op = latest change.op;
    }
      where
        latest : (op : Option ℕ) → latest_op op i.op ≡ latest_op op j.op
        latest None = one.op
        latest (Some k) = refl

    -- by a change of no name in place of one of a name that is not inside
    pub chosen_nameless : (goes asks : ℕ → Bool) (s more_by name : ℕ) (bytes : List ℕ) (i j : Journal) → inside name ≡ false → AlikeJournal inside i j →
        AlikeJournal inside (changed v goes asks seen s i tidying (new_line s more_by tidying (highest v i.page seen)))
        (changed v goes asks more s j (record { name = Some name; bytes = bytes; op = None }) (new_line s more_by (record { name = Some name; bytes = bytes; op = None }) (highest v j.page more)))
    chosen_nameless goes asks s more_by name bytes i j out one = record {
      page = nameless_alike goes asks s i.page j.page one.page name (new_line s more_by tidying (highest v i.page seen)) (new_line s more_by (record { name = Some name; bytes = bytes; op = None }) (highest v j.page more)) out
          (ap (λ z. z + 1 + more_by) (highest_alike i.page j.page one.page));
      op = one.op;
    }

-- ---- clients and readers

-- a change of a name that is not inside is like one of no name
pub record Nameless (inside : ℕ → Bool) (c d : Change) : Type 0 where
  pub name : ℕ
  pub bytes : List ℕ
  pub out : inside name ≡ false
  pub none : c ≡ tidying
  pub other : d ≡ record { name = Some name; bytes = bytes; op = None }

abbrev pub AlikeChange : (inside : ℕ → Bool) → Change → Change → Type 0
AlikeChange inside c d = (c ≡ d) ⊎ Nameless inside c d

abbrev pub AlikeClient : (inside : ℕ → Bool) → Client → Client → Type 0
AlikeClient inside (Knows i) (Knows j) = AlikeJournal inside i j
AlikeClient inside (Looks i change looked seen) (Looks j other did more) = AlikeJournal inside i j × AlikeChange inside change other × ((t : ℕ) → looked t ≡ did t) × ((t : ℕ) → AlikePage inside (seen t) (more t))
AlikeClient inside (Announces i op) (Announces j other) = AlikeJournal inside i j × (op ≡ other)
AlikeClient inside (Carries i op) (Carries j other) = AlikeJournal inside i j × (op ≡ other)
AlikeClient inside _ _ = ⊥

abbrev pub AlikeReader : (inside : ℕ → Bool) → Reader → Reader → Type 0
AlikeReader inside Idle Idle = ⊤
AlikeReader inside (Searches op looked seen) (Searches other did more) = (op ≡ other) × ((t : ℕ) → looked t ≡ did t) × ((t : ℕ) → AlikePage inside (seen t) (more t))
AlikeReader inside _ _ = ⊥

-- one page more
pub looked_alike : (t : ℕ) (looked did : ℕ → Bool) → ((s : ℕ) → looked s ≡ did s) → (s : ℕ) → and_page t looked s ≡ and_page t did s
looked_alike t looked did same s = by (eqb s t)
  where
    by : (b : Bool) → (if b then true else looked s) ≡ (if b then true else did s)
    by true = refl
    by false = same s

pub seen_alike : (inside : ℕ → Bool) (t : ℕ) (p q : Page) (seen more : ℕ → Page) → AlikePage inside p q → ((s : ℕ) → AlikePage inside (seen s) (more s)) → (s : ℕ) → AlikePage inside (and_seen t p seen s) (and_seen t q more s)
seen_alike inside t p q seen more one all s = by (eqb s t)
  where
    by : (b : Bool) → AlikePage inside (if b then p else seen s) (if b then q else more s)
    by true = one
    by false = all s

-- ---- pending writes, one for one

abbrev pub Paired : {A B : Type 0} → (A → B → Type 0) → List A → List B → Type 0
Paired R [] [] = ⊤
Paired R (x ∷ xs) (y ∷ ys) = R x y × Paired R xs ys
Paired R _ _ = ⊥

-- the last ones are, and those before them are such
abbrev pub PairedLast : {A B : Type 0} → (G : A → Type 0) → (A → B → Type 0) → List A → List B → Type 0
PairedLast G R [] ys = Paired R [] ys
PairedLast G R (x ∷ xs) ys = Paired R (x ∷ xs) ys ⊎ (G x × PairedLast G R xs ys)

-- the one at a place, with those behind
pub record AtPlace {A B : Type 0} (R : A → B → Type 0) (xs : List A) (y : B) (ys : List B) : Type 0 where
  pub place : ℕ
  pub x : A
  pub at : slice_get xs place ≡ Some x
  pub fits : R x y
  pub rest : Paired R (behind xs place) ys

pub paired_at : {A B : Type 0} (R : A → B → Type 0) (xs : List A) (ys : List B) (i : ℕ) (y : B) → Paired R xs ys → slice_get ys i ≡ Some y → AtPlace R xs y (behind ys i)
paired_at R [] [] i y all at = absurd (let bad : None ≡ Some y = at in cc)
paired_at R (x ∷ xs) (z ∷ ys) zero y all at = let is : z ≡ y = cc in record { place = 0; x = x; at = refl; fits = subst (λ b. R x b) is all.0; rest = all.1 }
paired_at R (x ∷ xs) (z ∷ ys) (suc i) y all at = let r = paired_at R xs ys i y all.1 at in record { place = suc r.place; x = r.x; at = r.at; fits = r.fits; rest = r.rest }
paired_at R [] (y ∷ ys) i z all at = absurd all
paired_at R (x ∷ xs) [] i y all at = absurd all

pub paired_push : {A B : Type 0} (R : A → B → Type 0) (xs : List A) (ys : List B) (x : A) (y : B) → Paired R xs ys → R x y → Paired R (xs ++ x ∷ []) (ys ++ y ∷ [])
paired_push R [] [] x y all one = (one, tt)
paired_push R (a ∷ xs) (b ∷ ys) x y all one = (all.0, paired_push R xs ys x y all.1 one)
paired_push R [] (b ∷ ys) x y all one = absurd all
paired_push R (a ∷ xs) [] x y all one = absurd all

pub last_at : {A B : Type 0} (G : A → Type 0) (R : A → B → Type 0) (xs : List A) (ys : List B) (i : ℕ) (y : B) → PairedLast G R xs ys → slice_get ys i ≡ Some y → AtPlace R xs y (behind ys i)
last_at G R [] ys i y all at = paired_at R [] ys i y all at
last_at G R (x ∷ xs) ys i y (inl all) at = paired_at R (x ∷ xs) ys i y all at
last_at G R (x ∷ xs) ys i y (inr all) at = let r = last_at G R xs ys i y all.1 at in record { place = suc r.place; x = r.x; at = r.at; fits = r.fits; rest = r.rest }

pub last_push : {A B : Type 0} (G : A → Type 0) (R : A → B → Type 0) (xs : List A) (ys : List B) (x : A) (y : B) → PairedLast G R xs ys → R x y → PairedLast G R (xs ++ x ∷ []) (ys ++ y ∷ [])
last_push G R [] ys x y all one = inl (paired_push R [] ys x y all one)
last_push G R (a ∷ xs) ys x y (inl all) one = inl (paired_push R (a ∷ xs) ys x y all one)
last_push G R (a ∷ xs) ys x y (inr all) one = inr (all.0, last_push G R xs ys x y all.1 one)

pub last_all : {A B : Type 0} (G : A → Type 0) (R : A → B → Type 0) (xs : List A) (ys : List B) → Paired R xs ys → PairedLast G R xs ys
last_all G R [] ys all = all
last_all G R (x ∷ xs) ys all = inl all

pub last_none : {A B : Type 0} (G : A → Type 0) (R : A → B → Type 0) (xs : List A) → Each G xs → PairedLast G R xs []
last_none G R [] each = tt
last_none G R (x ∷ xs) each = inr (each.0, last_none G R xs each.1)

-- what is so of each of them, by that of the other
pub paired_each : {A B : Type 0} (R : A → B → Type 0) (P : B → Type 0) (Q : A → Type 0) (xs : List A) (ys : List B) → ((x : A) (y : B) → R x y → P y → Q x) → Paired R xs ys → Each P ys → Each Q xs
paired_each R P Q [] [] f all each = tt
paired_each R P Q (x ∷ xs) (y ∷ ys) f all each = (f x y all.0 each.0, paired_each R P Q xs ys f all.1 each.1)
paired_each R P Q [] (y ∷ ys) f all each = absurd all
paired_each R P Q (x ∷ xs) [] f all each = absurd all

pub last_each : {A B : Type 0} (G : A → Type 0) (R : A → B → Type 0) (P : B → Type 0) (Q : A → Type 0) (xs : List A) (ys : List B) → ((x : A) (y : B) → R x y → P y → Q x) → ((x : A) → G x → Q x) → PairedLast G R xs ys → Each P ys → Each Q xs
last_each G R P Q [] ys f g all each = paired_each R P Q [] ys f all each
last_each G R P Q (x ∷ xs) ys f g (inl all) each = paired_each R P Q (x ∷ xs) ys f all each
last_each G R P Q (x ∷ xs) ys f g (inr all) each = (g x all.0, last_each G R P Q xs ys f g all.1 each)
