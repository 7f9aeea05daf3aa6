-- The journal of a change is the law's.
use Rattle.std.proofs.Common.{◌≡◌, ◌≢◌, ◌⊎◌, ◌∙◌, ℕ, zero, suc, ◌+◌, ◌-◌, ◌<◌, ◌≤◌, List, [], ◌∷◌, ◌++◌, length, get_or, max, Option, Some, None, Bool, true, false, refl, sym, ap, subst, inl, inr, arith, cond, eqb, eq-eqb}
use Rattle.std.specs.Prelude.{slice_get, map, ◌==◌, ◌&&◌, ◌||◌, not, nat_lt, nat_le, if◌then◌else◌, option_map}
use Rattle.std.specs.List.{list_any}
use Rattle.std.specs.Option.{option_to_list, option_or}
use Rattle.std.specs.Str.{bytes_eq}
use Rattle.std.proofs.lemmas.Bool.{and_parts, or_cases, cases_eq, cases_lt, ne_eqb, eqb-true, eqb-false, lt-ltb, ltb-true}
use Rattle.std.proofs.lemmas.Slice.Eq.{bytes_eq-Decides}
use Rattle.std.proofs.lemmas.List.Folds.{find-append}
use Rattle.gq_tag.specs.declared.Tag.{Tag}
use Rattle.gq_tag.specs.declared.StoredCopy.{StoredCopy}
use Rattle.gq_tag.specs.Tag.{first_copy, first_tag, is_less}
use Rattle.gq_tag.proofs.Order.{IsAtMost, less-parts, less_from, at_most-parts}
use Rattle.gq_names.specs.Names.{Setting, Page, Change, shown, all_below, greatest_of, highest, is_nothing, new_line, greatest_asked, is_beaten, is_past, is_forgotten, goes_now, is_of, changed_after, changed_page}
use Rattle.std.proofs.Math.Nat.{max_comm}
use Rattle.gq_names.proofs.Lists.{greatest_least, greatest_is, Chosen, all_at}
use Rattle.gq_names.proofs.Views.{not_less_first, not_less_self, shown_is}
use Rattle.gq_names.specs.Sweeping.{every_page, can_go, AsksForAll}
use Rattle.gq_page.specs.declared.page.Line.{Line}
use Rattle.gq_page.specs.Page.{Sheet, sheet_of, line_of, after_of, is_named, is_removal, says_nothing}
use Rattle.gq_client.specs.declared.view.Known.{Known}
use Rattle.gq_client.specs.declared.changing.Fate.{Fate}
use Rattle.gq_client.specs.declared.changing.Fate.TheVariants.{Stays, Goes, Beaten, Forgotten}
use Rattle.gq_client.specs.Changing.{version_of, greatest_from, all_know_from, fate_by, fate_beside, stays, asks_for, is_changed, is_among, fate_of, kept_by, latest_removal, unknown, asked_after, after_from, new_line as line_said, name_said, IsChanged}
use Rattle.gq_naming.specs.Standing.{Naming, copy_of, Shows, IsAmong, IsPage, HasSeen, HaveNone, is_number, went, goes_of, asks_at, asks_of, change_of}
use Rattle.gq_naming.specs.Laws.{AllChangesStep, AllChangesSweep}
use Rattle.gq_naming.proofs.Found.{FoundIn, found_from, none_from, known_from, none_all, know_all, each_most, latest_each, after_at, after_past, place_is, past_end}
use Rattle.gq_naming.proofs.Kept.{line_found, line_there, kept_none, kept_some, any_fate, no_fate, goes_there, Gone, goes_which}

no : {A : Type 0} → true ≡ false → A
no h = absurd (none h)
  where
    none : true ≡ false → ⊥
    none k = cc

-- ---- what is shown of a name of a changed page

abbrev shown_of : (of gone goes : Bool) (new old : StoredCopy) → StoredCopy
shown_of of gone goes new old = if (if of then false else gone || goes) then first_copy else (if of then new else old)

shows_new : (of gone goes : Bool) (new old : StoredCopy) → of ≡ true → shown_of of gone goes new old ≡ new
shows_new true gone goes new old is = refl
shows_new false gone goes new old is = no (sym is)

shows_old : (of gone goes : Bool) (new old : StoredCopy) → of ≡ false → gone ≡ false → goes ≡ false → shown_of of gone goes new old ≡ old
shows_old true gone goes new old is still stays = no is
shows_old false true goes new old is still stays = no still
shows_old false false true new old is still stays = no stays
shows_old false false false new old is still stays = refl

shows_none : (of gone goes : Bool) (new old : StoredCopy) → of ≡ false → goes ≡ true → shown_of of gone goes new old ≡ first_copy
shows_none true gone goes new old is went = no is
shows_none false true goes new old is went = refl
shows_none false false true new old is went = refl
shows_none false false false new old is went = no (sym went)

shows_nothing : (of gone goes : Bool) (new old : StoredCopy) → of ≡ false → (if gone then first_copy else old) ≡ first_copy → shown_of of gone goes new old ≡ first_copy
shows_nothing true gone goes new old is before = no is
shows_nothing false true goes new old is before = refl
shows_nothing false false true new old is before = refl
shows_nothing false false false new old is before = before

-- ---- the name of a change

-- a line of another name than that of the change
changed_number : (names : Naming) (w : Option (List ℕ × List ℕ)) (l : Line) (n : ℕ) → names.number l.name ≡ Some n → is_of (change_of names w).name n ≡ false → is_changed (name_said w) l ≡ true → ⊥
changed_number names None l n number off is = no (sym is)
changed_number names (Some parts) l n number off is =
    let name : l.name ≡ parts.0 = (bytes_eq-Decides l.name parts.0).0 is in
    let same : names.number parts.0 ≡ Some n = ap names.number (sym name) ∙ number in
    no (sym (eq-eqb n n refl) ∙ sym (ap (λ m. is_of m n) same) ∙ off)

of_true : (names : Naming) (w : Option (List ℕ × List ℕ)) (n : ℕ) (a : List ℕ) → names.number a ≡ Some n → is_of (change_of names w).name n ≡ true → name_said w ≡ Some a
of_true names None n a number is = no (sym is)
of_true names (Some parts) n a number is = by (names.number parts.0) refl is
  where
    by : (m : Option ℕ) → names.number parts.0 ≡ m → is_of m n ≡ true → name_said (Some parts) ≡ Some a
    by None e h = no (sym h)
    by (Some m) e h =
        let same : n ≡ m = eqb-true n m h in
        ap (λ b. Some b) (names.apart parts.0 a n (e ∙ ap (λ k. Some k) (sym same)) number)

abbrev made : (number : ℕ) → List ℕ → List ℕ → Line
made number name said = record { version = number; said = said; name = name }

new_other : (names : Naming) (w : Option (List ℕ × List ℕ)) (number n : ℕ) (a : List ℕ) → names.number a ≡ Some n → is_of (change_of names w).name n ≡ false → line_of a (option_to_list (line_said number w)) ≡ None
new_other names None number n a is off = refl
new_other names (Some parts) number n a is off = by (bytes_eq parts.0 a) refl
  where
    by : (b : Bool) → bytes_eq parts.0 a ≡ b → cond b (Some (made number parts.0 parts.1)) None ≡ None
    by true e =
        let same : names.number parts.0 ≡ Some n = ap names.number ((bytes_eq-Decides parts.0 a).0 e) ∙ is in
        no (sym (eq-eqb n n refl) ∙ sym (ap (λ m. is_of m n) same) ∙ off)
    by false e = refl

parts_of : (w : Option (List ℕ × List ℕ)) (a : List ℕ) → name_said w ≡ Some a → (said : List ℕ) × (w ≡ Some (a, said))
parts_of None a is = absurd (none is)
  where
    none : None ≡ Some a → ⊥
    none h = cc
parts_of (Some parts) a is = (parts.1, ap (λ b. Some (b, parts.1)) (the is))
  where
    the : Some parts.0 ≡ Some a → parts.0 ≡ a
    the h = cc

or_none : (x y : Option Line) → y ≡ None → option_or x y ≡ x
or_none None y is = is
or_none (Some l) y is = refl

less_most : (a b c : Tag) → is_less a b ≡ true → IsAtMost b c → is_less a c ≡ true
less_most a b c less most = less_from a c (by (less-parts a b less) (at_most-parts c b most))
  where
    by : (a.number < b.number) ⊎ ((a.number ≡ b.number) × (a.session < b.session)) → (b.number < c.number) ⊎ ((c.number ≡ b.number) × (b.session ≤ c.session)) → (a.number < c.number) ⊎ ((a.number ≡ c.number) × (a.session < c.session))
    by (inl x) (inl y) = inl (omega arith)
    by (inl x) (inr y) = inl (let e = y.0 in omega arith)
    by (inr x) (inl y) = inl (let e = x.0 in omega arith)
    by (inr x) (inr y) = inr (x.0 ∙ sym y.0, (let lt = x.1 in let le = y.1 in omega arith))

-- ---- one client that has looked

module _ (names : Naming) (v : Setting) (s : ℕ) (seen : List Known) (journal : Sheet) (line : Option (List ℕ × List ℕ)) (besides : List (List ℕ)) (pages : ℕ → Page)
    (has : HasSeen names v s seen journal pages) (ok : IsPage journal) (few : length journal.after ≤ v.sessions) (apart : HaveNone names besides) where
  abbrev fate : Line → Fate
  fate = fate_of seen s (name_said line) besides

  abbrev fates : List Fate
  fates = map fate journal.lines

  abbrev goes : ℕ → Bool
  goes = goes_of names journal.lines fates

  abbrev asks : ℕ → Bool
  asks = asks_of s seen journal fates

  abbrev own : Page
  own = pages s

  -- why a line has that fate
  data Why (l : Line) : Fate → Type 0 where
    changed : is_changed (name_said line) l ≡ true → Why l Goes
    part : is_among besides l ≡ true → Why l Goes
    beaten : (version : Tag) → FoundIn 0 s l.name seen version → is_less (version_of s l) version ≡ true → Why l (Beaten version.session)
    forgotten : greatest_from 0 s l.name seen None ≡ None → is_removal l ≡ true → all_know_from 0 s l.version seen ≡ true → Why l Forgotten
    best : is_changed (name_said line) l ≡ false → (version : Tag) → greatest_from 0 s l.name seen None ≡ Some version → is_less (version_of s l) version ≡ false → Why l Stays
    alone : is_changed (name_said line) l ≡ false → greatest_from 0 s l.name seen None ≡ None → (is_removal l && all_know_from 0 s l.version seen) ≡ false → Why l Stays

  why_beside : (l : Line) → is_changed (name_said line) l ≡ false → Why l (fate_beside seen s l)
  why_beside l other = by (greatest_from 0 s l.name seen None) refl
    where
      not_none : (version : Tag) → (None ≡ Some version) ⊎ FoundIn 0 s l.name seen version → FoundIn 0 s l.name seen version
      not_none version (inl bad) = absurd (none bad)
        where
          none : None ≡ Some version → ⊥
          none k = cc
      not_none version (inr f) = f

      less : (version : Tag) → greatest_from 0 s l.name seen None ≡ Some version → FoundIn 0 s l.name seen version → (b : Bool) → is_less (version_of s l) version ≡ b → Why l (if b then Beaten version.session else Stays)
      less version g f true e = beaten version f e
      less version g f false e = best other version g e

      gone : greatest_from 0 s l.name seen None ≡ None → (b : Bool) → (is_removal l && all_know_from 0 s l.version seen) ≡ b → Why l (if b then Forgotten else Stays)
      gone none true e = let parts = and_parts (is_removal l) (all_know_from 0 s l.version seen) e in forgotten none parts.0 parts.1
      gone none false e = alone other none e

      by : (best : Option Tag) → greatest_from 0 s l.name seen None ≡ best → Why l (fate_by seen s l best)
      by (Some version) e = less version e (not_none version (found_from 0 s l.name seen None version e)) (is_less (version_of s l) version) refl
      by None e = gone e (is_removal l && all_know_from 0 s l.version seen) refl

  why : (l : Line) → Why l (fate l)
  why l = by (is_changed (name_said line) l) refl
    where
      besides_or : is_changed (name_said line) l ≡ false → (b : Bool) → (stays (fate_beside seen s l) && is_among besides l) ≡ b → Why l (if b then Goes else fate_beside seen s l)
      besides_or other true e = part (and_parts (stays (fate_beside seen s l)) (is_among besides l) e).1
      besides_or other false e = why_beside l other

      by : (b : Bool) → is_changed (name_said line) l ≡ b → Why l (if b then Goes else if stays (fate_beside seen s l) && is_among besides l then Goes else fate_beside seen s l)
      by true e = changed e
      by false e = besides_or e (stays (fate_beside seen s l) && is_among besides l) refl

  -- ---- pages that are asked for

  -- not the own one
  asks_other : (l : Line) → asks_for s s (fate l) ≡ false
  asks_other l = by (fate l) (why l)
    where
      by : (f : Fate) → Why l f → asks_for s s f ≡ false
      by f (changed is) = refl
      by f (part is) = refl
      by f (best is version g less) = refl
      by f (alone is none e) = refl
      by f (beaten version g less) = ne_eqb s _ (λ e. g.other (sym (e ∙ ap (λ t. t.session) g.is)))
      by f (forgotten none removed all) = rw (eq-eqb s s refl) refl

  asks_own : asks s ≡ false
  asks_own = by (slice_get seen s)
    where
      by : (known : Option Known) → asks_at s journal fates s known ≡ false
      by None = refl
      by (Some known) = rw (no_fate fate (asks_for s s) journal.lines (λ l among. asks_other l), eq-eqb s s refl) refl

  -- a line that goes because of that page asks for it
  asks_there : (l : Line) (t : ℕ) (known : Known) → IsAmong l journal.lines → slice_get seen t ≡ Some known → asks_for s t (fate l) ≡ true → asks t ≡ true
  asks_there l t known among at is = ap (asks_at s journal fates t) at ∙ rw (any_fate fate (asks_for s t) journal.lines l among is) refl

  -- ---- lines of the law's own page

  own_line : (a : List ℕ) (n : ℕ) (l : Line) → names.number a ≡ Some n → line_of a journal.lines ≡ Some l → (own.gone n ≡ false) × (own.line n ≡ copy_of names s (Some l))
  own_line a n l number is = by (own.gone n) refl
    where
      found : IsAmong l journal.lines × (l.name ≡ a)
      found = line_found a journal.lines l is

      shows : shown own n ≡ copy_of names s (Some l)
      shows = has.own.lines a n number ∙ ap (copy_of names s) is

      version_some : 0 < l.version
      version_some = ok.some l found.0

      by : (b : Bool) → own.gone n ≡ b → (own.gone n ≡ false) × (own.line n ≡ copy_of names s (Some l))
      by true e =
          let bad : first_copy ≡ copy_of names s (Some l) = subst (λ b. (if b then first_copy else own.line n) ≡ copy_of names s (Some l)) e shows in
          let zero_is : 0 ≡ l.version = ap (λ c. c.tag.number) bad in
          let some : 0 < l.version = version_some in
          absurd (omega arith)
      by false e = (e, subst (λ b. (if b then first_copy else own.line n) ≡ copy_of names s (Some l)) e shows)

  -- what another page shows, as it was seen
  other_line : (a : List ℕ) (n t : ℕ) (known : Known) → names.number a ≡ Some n → slice_get seen t ≡ Some known → t ≢ s → shown (pages t) n ≡ copy_of names t (line_of a known.page.lines.items)
  other_line a n t known number at other = (has.others t known at other).lines a n number

  -- ---- a line that was beaten, and one that is forgotten

  is_below : (t : ℕ) (known : Known) → slice_get seen t ≡ Some known → t < v.sessions
  is_below t known at = by (place_is seen t)
    where
      many : length seen ≡ v.sessions
      many = has.many

      by : (slice_get seen t ≡ None) × (length seen ≤ t) ⊎ ((x : Known) × (slice_get seen t ≡ Some x) × (t < length seen)) → t < v.sessions
      by (inl past) = absurd (none (sym at ∙ past.0))
        where
          none : Some known ≡ None → ⊥
          none k = cc
      by (inr here) = let low : t < length seen = here.2 in omega arith

  is_there : (t : ℕ) → t < v.sessions → (known : Known) × (slice_get seen t ≡ Some known)
  is_there t low = by (place_is seen t)
    where
      many : length seen ≡ v.sessions
      many = has.many

      by : (slice_get seen t ≡ None) × (length seen ≤ t) ⊎ ((x : Known) × (slice_get seen t ≡ Some x) × (t < length seen)) → (known : Known) × (slice_get seen t ≡ Some known)
      by (inl past) = absurd (let le : length seen ≤ t = past.1 in omega arith)
      by (inr here) = (here.0, here.1)

  beaten_now : (n : ℕ) (l : Line) (version : Tag) → IsAmong l journal.lines → names.number l.name ≡ Some n → own.line n ≡ copy_of names s (Some l) → fate l ≡ Beaten version.session → FoundIn 0 s l.name seen version → is_less (version_of s l) version ≡ true
      → is_beaten v asks pages own n ≡ true
  beaten_now n l version among number is gone f less = rw is final
    where
      t : ℕ
      t = f.place

      at_t : 0 + t ≡ t
      at_t = omega arith

      there : slice_get seen t ≡ Some f.known
      there = f.at

      version_is : version ≡ version_of t f.line
      version_is = f.is ∙ ap (λ j. version_of j f.line) at_t

      other : t ≢ s
      other e = f.other (at_t ∙ e)

      session_is : version.session ≡ t
      session_is = ap (λ z. z.session) version_is

      asked : asks t ≡ true
      asked = asks_there l t f.known among there (ap (asks_for s t) gone ∙ eq-eqb t version.session (sym session_is))

      line_at : (if asks t then shown (pages t) n else first_copy) ≡ copy_of names t (Some f.line)
      line_at = rw asked (other_line l.name n t f.known number there other ∙ ap (copy_of names t) f.has)

      most : IsAtMost (if asks t then shown (pages t) n else first_copy).tag (greatest_asked v asks pages n).tag
      most = greatest_least v.sessions (λ u. if asks u then shown (pages u) n else first_copy) t (is_below t f.known there)

      at_most : IsAtMost version (greatest_asked v asks pages n).tag
      at_most = subst (λ z. IsAtMost z (greatest_asked v asks pages n).tag) (ap (λ c. c.tag) line_at ∙ sym version_is) most

      final : is_less (version_of s l) (greatest_asked v asks pages n).tag ≡ true
      final = less_from (version_of s l) (greatest_asked v asks pages n).tag (by (less-parts (version_of s l) version less) (at_most-parts (greatest_asked v asks pages n).tag version at_most))
        where
          big : Tag
          big = (greatest_asked v asks pages n).tag

          by : (l.version < version.number) ⊎ ((l.version ≡ version.number) × (s < version.session)) → (version.number < big.number) ⊎ ((big.number ≡ version.number) × (version.session ≤ big.session))
              → (l.version < big.number) ⊎ ((l.version ≡ big.number) × (s < big.session))
          by (inl a) (inl b) = inl (omega arith)
          by (inl a) (inr b) = inl (let e = b.0 in omega arith)
          by (inr a) (inl b) = inl (let e = a.0 in omega arith)
          by (inr a) (inr b) = inr (a.0 ∙ sym b.0, (let lt = a.1 in let le = b.1 in omega arith))

  all_from : (n : ℕ) (test : ℕ → Bool) → ((t : ℕ) → t < n → test t ≡ true) → all_below n test ≡ true
  all_from zero test each = refl
  all_from (suc n) test each = rw (each n (omega arith)) (all_from n test (λ t low. each t (omega arith)))

  forgotten_now : (n : ℕ) (l : Line) → IsAmong l journal.lines → names.number l.name ≡ Some n → own.line n ≡ copy_of names s (Some l) → fate l ≡ Forgotten → greatest_from 0 s l.name seen None ≡ None → is_removal l ≡ true → all_know_from 0 s l.version seen ≡ true
      → is_forgotten v asks pages s own n ≡ true
  forgotten_now n l among number is gone none removed all =
      both (is_nothing (own.line n).bytes) (all_below v.sessions (λ t. t == s || is_past asks pages s own n t)) (ap (λ c. is_nothing c.bytes) is ∙ names.nothing l.said ∙ removed) others
    where
      both : (a b : Bool) → a ≡ true → b ≡ true → (a && b) ≡ true
      both a b first second = rw (first, second) refl

      past : (t : ℕ) → t < v.sessions → (t == s || (asks t && (not (nat_lt ((pages t).after s) l.version) && not (is_less first_tag (shown (pages t) n).tag)))) ≡ true
      past t low = by (cases_eq t s)
        where
          known : Known
          known = (is_there t low).0

          at : slice_get seen t ≡ Some known
          at = (is_there t low).1

          by : (t ≡ s) ⊎ (t ≡ s → ⊥) → (t == s || (asks t && (not (nat_lt ((pages t).after s) l.version) && not (is_less first_tag (shown (pages t) n).tag)))) ≡ true
          by (inl same) = rw (eq-eqb t s same) refl
          by (inr other) =
              let off : (t == s) ≡ false = ne_eqb t s other in
              let at_t : 0 + t ≡ t = omega arith in
              let not_own : 0 + t ≢ s = λ e. other (sym at_t ∙ e) in
              let asked : asks t ≡ true = asks_there l t known among at (ap (asks_for s t) gone ∙ rw off refl) in
              let late : l.version ≤ after_of (sheet_of known.page) s = known_from 0 s l.version seen all t known at not_own in
              let after : (pages t).after s ≡ after_of (sheet_of known.page) s = (has.others t known at other).after s in
              let not_less : nat_lt ((pages t).after s) l.version ≡ false = not_lt ((pages t).after s) l.version (omega arith) in
              let nothing : shown (pages t) n ≡ first_copy = other_line l.name n t known number at other ∙ ap (copy_of names t) (none_from 0 s l.name seen None none t known at not_own) in
              rw (off, asked, not_less, nothing) refl
            where
              not_lt : (a b : ℕ) → b ≤ a → nat_lt a b ≡ false
              not_lt a b le = cases (nat_lt a b) refl
                where
                  cases : (c : Bool) → nat_lt a b ≡ c → c ≡ false
                  cases true e = absurd (let lt : a < b = ltb-true a b e in omega arith)
                  cases false e = refl

      others : all_below v.sessions (λ t. t == s || is_past asks pages s own n t) ≡ true
      others = all_from v.sessions (λ t. t == s || is_past asks pages s own n t) (λ t low. subst (λ c. (t == s || (asks t && (not (nat_lt ((pages t).after s) c.tag.number) && not (is_less first_tag (shown (pages t) n).tag)))) ≡ true) (sym is) (past t low))

  -- ---- each name

  module _ (number : ℕ) (page : Sheet) (above : highest v (pages s) pages < number) (is : IsChanged seen s journal number line besides page) where
    abbrev high : ℕ
    high = highest v (pages s) pages

    abbrev new_copy : StoredCopy
    new_copy = new_line s (number - high - 1) (change_of names line) high

    abbrev next : Page
    next = changed_page v goes asks pages s own (change_of names line).name new_copy

    new_number : new_copy.tag.number ≡ number
    new_number = omega arith

    kept : List Line
    kept = kept_by journal.lines fates

    lines_are : (a : List ℕ) → line_of a page.lines ≡ option_or (line_of a (kept_by journal.lines fates)) (line_of a (option_to_list (line_said number line)))
    lines_are a = ap (line_of a) is.lines ∙ find-append (is_named a) (kept_by journal.lines fates) (option_to_list (line_said number line))

    -- the one that is changed
    of_changed : (a : List ℕ) (n : ℕ) → names.number a ≡ Some n → name_said line ≡ Some a → shown next n ≡ copy_of names s (line_of a page.lines)
    of_changed a n number_is named = shows_new (is_of (change_of names line).name n) (own.gone n) (goes_now v goes asks pages s own n) new_copy (own.line n) on ∙ copy_is ∙ sym (ap (copy_of names s) found)
      where
        parts : (said : List ℕ) × (line ≡ Some (a, said))
        parts = parts_of line a named

        on : is_of (change_of names line).name n ≡ true
        on = ap (λ w. is_of (change_of names w).name n) parts.1 ∙ ap (λ m. is_of m n) number_is ∙ eq-eqb n n refl

        bytes_are : (change_of names line).bytes ≡ names.holds parts.0
        bytes_are = ap (λ w. (change_of names w).bytes) parts.1

        copy_is : new_copy ≡ copy_of names s (Some (made number a parts.0))
        copy_is = λ z. record { tag = record { number = new_number z; session = s }; bytes = bytes_are z }

        all_go : (y : Line) → IsAmong y journal.lines → y.name ≡ a → stays (fate y) ≡ false
        all_go y among name =
            let changed_too : is_changed (name_said line) y ≡ true = ap (λ w. is_changed w y) named ∙ (bytes_eq-Decides y.name a).1 name in
            rw changed_too refl

        named_so : bytes_eq a a ≡ true
        named_so = (bytes_eq-Decides a a).1 refl

        alone : line_of a (option_to_list (line_said number line)) ≡ Some (made number a parts.0)
        alone = ap (λ w. line_of a (option_to_list (line_said number w))) parts.1 ∙ ap (λ b. cond b (Some (made number a parts.0)) None) named_so

        found : line_of a page.lines ≡ Some (made number a parts.0)
        found = lines_are a ∙ ap (λ x. option_or x (line_of a (option_to_list (line_said number line)))) (kept_none fate a journal.lines all_go) ∙ alone

    -- another one, of which the journal has a line, or none
    of_line : (a : List ℕ) (n : ℕ) (l : Line) → names.number a ≡ Some n → is_of (change_of names line).name n ≡ false → line_of a page.lines ≡ line_of a (kept_by journal.lines fates) → line_of a journal.lines ≡ Some l → shown next n ≡ copy_of names s (line_of a page.lines)
    of_line a n l number_is off rest found = by (fate l) refl (why l)
      where
        there : IsAmong l journal.lines × (l.name ≡ a)
        there = line_found a journal.lines l found

        own_is : (own.gone n ≡ false) × (own.line n ≡ copy_of names s (Some l))
        own_is = own_line a n l number_is found

        l_number : names.number l.name ≡ Some n
        l_number = ap names.number there.1 ∙ number_is

        -- all lines of the name are this one
        only : (y : Line) → IsAmong y journal.lines → y.name ≡ a → y ≡ l
        only y among name = the (sym (ok.once y among) ∙ ap (λ b. line_of b journal.lines) name ∙ found)
          where
            the : Some y ≡ Some l → y ≡ l
            the h = cc

        gone_line : stays (fate l) ≡ false → line_of a page.lines ≡ None
        gone_line goes_off = rest ∙ kept_none fate a journal.lines (λ y among name. ap (λ z. stays (fate z)) (only y among name) ∙ goes_off)

        goes_is : went (fate l) ≡ true → goes n ≡ true
        goes_is gone = goes_there fate names n journal.lines l there.0 gone l_number

        stays_is : stays (fate l) ≡ true → goes n ≡ false
        stays_is stay = by (goes n) refl
          where
            both : (f : Fate) → stays f ≡ true → went f ≡ true → ⊥
            both Stays a b = no (sym b)
            both Goes a b = no (sym a)
            both (Beaten t) a b = no (sym a)
            both Forgotten a b = no (sym a)

            by : (b : Bool) → goes n ≡ b → goes n ≡ false
            by true e =
                let g = goes_which fate names n journal.lines e in
                let same : g.line ≡ l = only g.line g.among (names.apart g.line.name a n g.is number_is) in
                absurd (both (fate l) stay (sym (ap (λ z. went (fate z)) same) ∙ g.gone))
            by false e = e

        shows_gone : went (fate l) ≡ true → stays (fate l) ≡ false → goes_now v goes asks pages s own n ≡ true → shown next n ≡ copy_of names s (line_of a page.lines)
        shows_gone gone off_too now = shows_none (is_of (change_of names line).name n) (own.gone n) (goes_now v goes asks pages s own n) new_copy (own.line n) off now ∙ sym (ap (copy_of names s) (gone_line off_too))

        shows_still : stays (fate l) ≡ true → shown next n ≡ copy_of names s (line_of a page.lines)
        shows_still stay =
            let now : goes_now v goes asks pages s own n ≡ false = rw (stays_is stay) refl in
            shows_old (is_of (change_of names line).name n) (own.gone n) (goes_now v goes asks pages s own n) new_copy (own.line n) off own_is.0 now ∙ own_is.1
            ∙ sym (ap (copy_of names s) (rest ∙ kept_some fate a journal.lines l found stay))

        not_changed : is_changed (name_said line) l ≡ true → ⊥
        not_changed = changed_number names line l n l_number off

        not_part : is_among besides l ≡ true → ⊥
        not_part among = none (sym l_number ∙ apart l.name among)
          where
            none : Some n ≡ None → ⊥
            none h = cc

        by : (f : Fate) → fate l ≡ f → Why l f → shown next n ≡ copy_of names s (line_of a page.lines)
        by f e (changed c) = absurd (not_changed c)
        by f e (part p) = absurd (not_part p)
        by f e (best c version g less) = shows_still (ap stays e)
        by f e (alone c none some) = shows_still (ap stays e)
        by f e (beaten version g less) =
            let beats : is_beaten v asks pages own n ≡ true = beaten_now n l version there.0 l_number own_is.1 e g less in
            let now : goes_now v goes asks pages s own n ≡ true = rw (goes_is (ap went e), beats) refl in
            shows_gone (ap went e) (ap stays e) now
        by f e (forgotten none removed all) =
            let past : is_forgotten v asks pages s own n ≡ true = forgotten_now n l there.0 l_number own_is.1 e none removed all in
            let now : goes_now v goes asks pages s own n ≡ true = rw (goes_is (ap went e), past) (or_true (is_beaten v asks pages own n)) in
            shows_gone (ap went e) (ap stays e) now
          where
            or_true : (b : Bool) → (b || true) ≡ true
            or_true true = refl
            or_true false = refl

    of_none : (a : List ℕ) (n : ℕ) → names.number a ≡ Some n → is_of (change_of names line).name n ≡ false → line_of a page.lines ≡ line_of a (kept_by journal.lines fates) → line_of a journal.lines ≡ None → shown next n ≡ copy_of names s (line_of a page.lines)
    of_none a n number_is off rest found =
        shows_nothing (is_of (change_of names line).name n) (own.gone n) (goes_now v goes asks pages s own n) new_copy (own.line n) off (has.own.lines a n number_is ∙ ap (copy_of names s) found)
        ∙ sym (ap (copy_of names s) (rest ∙ kept_none fate a journal.lines (λ y among name. absurd (line_there journal.lines y among (ap (λ b. line_of b journal.lines) name ∙ found)))))

    -- ---- after which numbers

    after_is : (t : ℕ) → next.after t ≡ after_of page t
    after_is t = by (place_is seen t) ∙ sym (is.after t)
      where
        own_after : own.after t ≡ after_of journal t
        own_after = has.own.after t

        many : length seen ≡ v.sessions
        many = has.many

        number_at : (known : Known) → slice_get seen t ≡ Some known → asks t ≡ true → max (own.after t) (pages t).number ≡ max known.page.number (after_of journal t)
        number_at known at asked = cases (cases_eq t s)
          where
            cases : (t ≡ s) ⊎ (t ≡ s → ⊥) → max (own.after t) (pages t).number ≡ max known.page.number (after_of journal t)
            cases (inl same) = no (sym asked ∙ ap asks same ∙ asks_own)
            cases (inr other) = ap (λ z. max (own.after t) z) (has.others t known at other).number ∙ max_comm (own.after t) known.page.number ∙ ap (λ z. max known.page.number z) own_after

        here : (known : Known) → slice_get seen t ≡ Some known → (b : Bool) → asks t ≡ b → (if asks t then max (own.after t) (pages t).number else own.after t) ≡ asked_after s journal fates t known
        here known at true e =
            let test : (list_any (asks_for s t) fates || unknown t s journal known) ≡ true = sym (ap (asks_at s journal fates t) at) ∙ e in
            rw (e, test) (number_at known at e)
        here known at false e =
            let test : (list_any (asks_for s t) fates || unknown t s journal known) ≡ false = sym (ap (asks_at s journal fates t) at) ∙ e in
            rw (e, test) own_after

        by : (slice_get seen t ≡ None) × (length seen ≤ t) ⊎ ((known : Known) × (slice_get seen t ≡ Some known) × (t < length seen)) → next.after t ≡ get_or (after_from 0 s journal fates seen) t 0
        by (inl past) =
            let off : asks t ≡ false = ap (asks_at s journal fates t) past.0 in
            let le : length journal.after ≤ t = (let end : length seen ≤ t = past.1 in omega arith) in
            rw off (own_after ∙ past_end journal.after t le) ∙ sym (after_past 0 s journal fates seen t past.0)
        by (inr there) =
            let at_t : 0 + t ≡ t = omega arith in
            here there.0 there.1 (asks t) refl ∙ sym (after_at 0 s journal fates seen t there.0 there.1 ∙ ap (λ j. asked_after s journal fates j there.0) at_t)

    each_name : (a : List ℕ) (n : ℕ) → names.number a ≡ Some n → shown next n ≡ copy_of names s (line_of a page.lines)
    each_name a n number_is = by (is_of (change_of names line).name n) refl
      where
        other : is_of (change_of names line).name n ≡ false → (found : Option Line) → line_of a journal.lines ≡ found → shown next n ≡ copy_of names s (line_of a page.lines)
        other off None e = of_none a n number_is off (lines_are a ∙ or_none (line_of a (kept_by journal.lines fates)) (line_of a (option_to_list (line_said number line))) (new_other names line number n a number_is off)) e
        other off (Some l) e = of_line a n l number_is off (lines_are a ∙ or_none (line_of a (kept_by journal.lines fates)) (line_of a (option_to_list (line_said number line))) (new_other names line number n a number_is off)) e

        by : (b : Bool) → is_of (change_of names line).name n ≡ b → shown next n ≡ copy_of names s (line_of a page.lines)
        by true e = of_changed a n number_is (of_true names line n a number_is e)
        by false e = other e (line_of a journal.lines) refl

    shows_next : Shows names s page next
    shows_next = record {
      lines = each_name;
      after = after_is;
      number = new_number ∙ sym is.number_is;
    }

  -- ---- all that can go goes

  module _ (others_ok : (t : ℕ) (known : Known) → slice_get seen t ≡ Some known → IsPage (sheet_of known.page)) where
    -- a line that stays can't go
    no_better : (n : ℕ) (l : Line) → names.number l.name ≡ Some n → own.line n ≡ copy_of names s (Some l) → own.gone n ≡ false → IsAmong l journal.lines → is_beaten v every_page pages own n ≡ true → (t : ℕ) × (known : Known) × (other : Line) × (slice_get seen t ≡ Some known) × (0 + t ≢ s) × (line_of l.name known.page.lines.items ≡ Some other) × (is_less (version_of s l) (version_of (0 + t) other) ≡ true)
    no_better n l number is still among beats = by (greatest_is v.sessions (λ t. shown (pages t) n))
      where
        big : StoredCopy
        big = greatest_of v.sessions (λ t. shown (pages t) n)

        less : is_less (version_of s l) big.tag ≡ true
        less = subst (λ c. is_less c.tag big.tag ≡ true) is beats

        by : (big ≡ first_copy) ⊎ Chosen v.sessions (λ t. shown (pages t) n) big → (t : ℕ) × (known : Known) × (other : Line) × (slice_get seen t ≡ Some known) × (0 + t ≢ s) × (line_of l.name known.page.lines.items ≡ Some other) × (is_less (version_of s l) (version_of (0 + t) other) ≡ true)
        by (inl none) = absurd (not_less_first (version_of s l) (subst (λ c. is_less (version_of s l) c.tag ≡ true) none less))
        by (inr chosen) = cases (cases_eq chosen.session s)
          where
            t : ℕ
            t = chosen.session

            at_t : 0 + t ≡ t
            at_t = omega arith

            above : is_less (version_of s l) (shown (pages t) n).tag ≡ true
            above = subst (λ c. is_less (version_of s l) c.tag ≡ true) chosen.is less

            there : (known : Known) × (slice_get seen t ≡ Some known)
            there = is_there t chosen.low

            found : (other : t ≢ s) → (o : Option Line) → line_of l.name there.0.page.lines.items ≡ o → (u : ℕ) × (known : Known) × (line' : Line) × (slice_get seen u ≡ Some known) × (0 + u ≢ s) × (line_of l.name known.page.lines.items ≡ Some line') × (is_less (version_of s l) (version_of (0 + u) line') ≡ true)
            found other None e =
                let nothing : shown (pages t) n ≡ first_copy = other_line l.name n t there.0 number there.1 other ∙ ap (copy_of names t) e in
                absurd (not_less_first (version_of s l) (subst (λ c. is_less (version_of s l) c.tag ≡ true) nothing above))
            found other (Some o) e =
                let copy : shown (pages t) n ≡ copy_of names t (Some o) = other_line l.name n t there.0 number there.1 other ∙ ap (copy_of names t) e in
                (t, there.0, o, there.1, (λ x. other (sym at_t ∙ x)), e, subst (λ j. is_less (version_of s l) (version_of j o) ≡ true) (sym at_t) (subst (λ c. is_less (version_of s l) c.tag ≡ true) copy above))

            cases : (t ≡ s) ⊎ (t ≡ s → ⊥) → (u : ℕ) × (known : Known) × (line' : Line) × (slice_get seen u ≡ Some known) × (0 + u ≢ s) × (line_of l.name known.page.lines.items ≡ Some line') × (is_less (version_of s l) (version_of (0 + u) line') ≡ true)
            cases (inl same) =
                let own_shown : shown (pages t) n ≡ copy_of names s (Some l) = ap (λ u. shown (pages u) n) same ∙ shown_is own n still ∙ is in
                absurd (not_less_self (version_of s l) (subst (λ c. is_less (version_of s l) c.tag ≡ true) own_shown above))
            cases (inr other) = found other (line_of l.name there.0.page.lines.items) refl

    -- nor one that is no removal which all know
    past_all : (n : ℕ) (l : Line) → names.number l.name ≡ Some n → own.line n ≡ copy_of names s (Some l) → is_forgotten v every_page pages s own n ≡ true
        → (is_removal l ≡ true) × ((t : ℕ) (known : Known) → slice_get seen t ≡ Some known → 0 + t ≢ s → (l.version ≤ after_of (sheet_of known.page) s) × (line_of l.name known.page.lines.items ≡ None))
    past_all n l number is gone = (sym (names.nothing l.said) ∙ sym (ap (λ c. is_nothing c.bytes) is) ∙ parts.0, each)
      where
        parts : (is_nothing (own.line n).bytes ≡ true) × (all_below v.sessions (λ t. t == s || is_past every_page pages s own n t) ≡ true)
        parts = and_parts (is_nothing (own.line n).bytes) (all_below v.sessions (λ t. t == s || is_past every_page pages s own n t)) gone

        each : (t : ℕ) (known : Known) → slice_get seen t ≡ Some known → 0 + t ≢ s → (l.version ≤ after_of (sheet_of known.page) s) × (line_of l.name known.page.lines.items ≡ None)
        each t known at not_own = (late, none (line_of l.name known.page.lines.items) refl)
          where
            at_t : 0 + t ≡ t
            at_t = omega arith

            other : t ≢ s
            other e = not_own (at_t ∙ e)

            test : is_past every_page pages s own n t ≡ true
            test = rw (ne_eqb t s other) at (all_at v.sessions (λ u. u == s || is_past every_page pages s own n u) t parts.1 (is_below t known at))

            both : (not (nat_lt ((pages t).after s) (own.line n).tag.number) ≡ true) × (not (is_less first_tag (shown (pages t) n).tag) ≡ true)
            both = and_parts (not (nat_lt ((pages t).after s) (own.line n).tag.number)) (not (is_less first_tag (shown (pages t) n).tag)) test

            late : l.version ≤ after_of (sheet_of known.page) s
            late =
                let le : (own.line n).tag.number ≤ (pages t).after s = not_lt ((pages t).after s) (own.line n).tag.number both.0 in
                let number_is : (own.line n).tag.number ≡ l.version = ap (λ c. c.tag.number) is in
                let after : (pages t).after s ≡ after_of (sheet_of known.page) s = (has.others t known at other).after s in
                omega arith
              where
                not_lt : (a b : ℕ) → not (nat_lt a b) ≡ true → b ≤ a
                not_lt a b h = by (cases_lt a b)
                  where
                    by : (a < b) ⊎ (b ≤ a) → b ≤ a
                    by (inl low) = no (sym h ∙ ap not (lt-ltb a b low))
                    by (inr high) = high

            none : (o : Option Line) → line_of l.name known.page.lines.items ≡ o → o ≡ None
            none None e = refl
            none (Some o) e =
                let copy : shown (pages t) n ≡ copy_of names t (Some o) = other_line l.name n t known number at other ∙ ap (copy_of names t) e in
                let some : 0 < o.version = (others_ok t known at).some o (line_found l.name known.page.lines.items o e).0 in
                let less : is_less first_tag (version_of t o) ≡ true = less_from first_tag (version_of t o) (inl some) in
                no (sym both.1 ∙ ap not (ap (λ c. is_less first_tag c.tag) copy ∙ less))

    sweeps_lines : (onto : (n : ℕ) → (a : List ℕ) × (names.number a ≡ Some n)) (n : ℕ) → is_of (change_of names line).name n ≡ false → can_go v pages s own n ≡ true → goes_now v goes asks pages s own n ≡ true
    sweeps_lines onto n off can = cases (line_of a journal.lines) refl
      where
        a : List ℕ
        a = (onto n).0

        number_is : names.number a ≡ Some n
        number_is = (onto n).1

        parts : (is_less first_tag (shown own n).tag ≡ true) × ((is_beaten v every_page pages own n || is_forgotten v every_page pages s own n) ≡ true)
        parts = and_parts (is_less first_tag (shown own n).tag) (is_beaten v every_page pages own n || is_forgotten v every_page pages s own n) can

        cases : (o : Option Line) → line_of a journal.lines ≡ o → goes_now v goes asks pages s own n ≡ true
        cases None e = absurd (not_less_first first_tag (subst (λ c. is_less first_tag c.tag ≡ true) (has.own.lines a n number_is ∙ ap (copy_of names s) e) parts.0))
        cases (Some l) e = by (fate l) refl (why l)
          where
            there : IsAmong l journal.lines × (l.name ≡ a)
            there = line_found a journal.lines l e

            own_is : (own.gone n ≡ false) × (own.line n ≡ copy_of names s (Some l))
            own_is = own_line a n l number_is e

            l_number : names.number l.name ≡ Some n
            l_number = ap names.number there.1 ∙ number_is

            goes_is : went (fate l) ≡ true → goes n ≡ true
            goes_is gone = goes_there fate names n journal.lines l there.0 gone l_number

            or_true : (b : Bool) → (b || true) ≡ true
            or_true true = refl
            or_true false = refl

            better : is_beaten v every_page pages own n ≡ true → (t : ℕ) × (known : Known) × (other : Line) × (slice_get seen t ≡ Some known) × (0 + t ≢ s) × (line_of l.name known.page.lines.items ≡ Some other) × (is_less (version_of s l) (version_of (0 + t) other) ≡ true)
            better = no_better n l l_number own_is.1 own_is.0 there.0

            gone_all : is_forgotten v every_page pages s own n ≡ true → (is_removal l ≡ true) × ((t : ℕ) (known : Known) → slice_get seen t ≡ Some known → 0 + t ≢ s → (l.version ≤ after_of (sheet_of known.page) s) × (line_of l.name known.page.lines.items ≡ None))
            gone_all = past_all n l l_number own_is.1

            none_some : {version : Tag} → None ≡ Some version → ⊥
            none_some h = cc

            not_best : (version : Tag) → greatest_from 0 s l.name seen None ≡ Some version → is_less (version_of s l) version ≡ false → (is_beaten v every_page pages own n ≡ true) ⊎ (is_forgotten v every_page pages s own n ≡ true) → ⊥
            not_best version g less (inl beats) =
                let b = better beats in
                let most : IsAtMost (version_of (0 + b.0) b.2) version = each_most 0 s l.name seen None version g b.0 b.1 b.2 b.3 b.4 b.5 in
                no (sym (less_most (version_of s l) (version_of (0 + b.0) b.2) version b.6 most) ∙ less)
            not_best version g less (inr gone) =
                let all = gone_all gone in
                none_some (sym (none_all 0 s l.name seen (λ t known at other. (all.1 t known at other).1)) ∙ g)

            not_alone : greatest_from 0 s l.name seen None ≡ None → (is_removal l && all_know_from 0 s l.version seen) ≡ false → (is_beaten v every_page pages own n ≡ true) ⊎ (is_forgotten v every_page pages s own n ≡ true) → ⊥
            not_alone none some (inl beats) =
                let b = better beats in
                none_line (sym (none_from 0 s l.name seen None none b.0 b.1 b.3 b.4) ∙ b.5)
              where
                none_line : {o : Line} → None ≡ Some o → ⊥
                none_line h = cc
            not_alone none some (inr gone) =
                let all = gone_all gone in
                let known : all_know_from 0 s l.version seen ≡ true = know_all 0 s l.version seen (λ t k at other. (all.1 t k at other).0) in
                no (sym (both (is_removal l) (all_know_from 0 s l.version seen) all.0 known) ∙ some)
              where
                both : (x y : Bool) → x ≡ true → y ≡ true → (x && y) ≡ true
                both x y first second = rw (first, second) refl

            by : (f : Fate) → fate l ≡ f → Why l f → goes_now v goes asks pages s own n ≡ true
            by f f_is (changed c) = absurd (changed_number names line l n l_number off c)
            by f f_is (part p) = absurd (none (sym l_number ∙ apart l.name p))
              where
                none : Some n ≡ None → ⊥
                none h = cc
            by f f_is (best c version g less) = absurd (not_best version g less (or_cases (is_beaten v every_page pages own n) (is_forgotten v every_page pages s own n) parts.1))
            by f f_is (alone c none some) = absurd (not_alone none some (or_cases (is_beaten v every_page pages own n) (is_forgotten v every_page pages s own n) parts.1))
            by f f_is (beaten version g less) =
                let beats : is_beaten v asks pages own n ≡ true = beaten_now n l version there.0 l_number own_is.1 f_is g less in
                rw (goes_is (ap went f_is), beats) refl
            by f f_is (forgotten none removed all) =
                let past : is_forgotten v asks pages s own n ≡ true = forgotten_now n l there.0 l_number own_is.1 f_is none removed all in
                rw (goes_is (ap went f_is), past) (or_true (is_beaten v asks pages own n))

    sweeps_removals : (onto : (n : ℕ) → (a : List ℕ) × (names.number a ≡ Some n)) → AsksForAll v s pages (changed_after asks pages own)
    sweeps_removals onto t n low other removal = cases (line_of a there.0.page.lines.items) refl
      where
        a : List ℕ
        a = (onto n).0

        number_is : names.number a ≡ Some n
        number_is = (onto n).1

        there : (known : Known) × (slice_get seen t ≡ Some known)
        there = is_there t low

        cases : (o : Option Line) → line_of a there.0.page.lines.items ≡ o → (shown (pages t) n).tag.number ≤ changed_after asks pages own t
        cases None e =
            let nothing : shown (pages t) n ≡ first_copy = other_line a n t there.0 number_is there.1 other ∙ ap (copy_of names t) e in
            absurd (not_less_first first_tag (subst (λ c. is_less first_tag c.tag ≡ true) nothing removal.0))
        cases (Some l) e = by (asks t) refl
          where
            copy : shown (pages t) n ≡ copy_of names t (Some l)
            copy = other_line a n t there.0 number_is there.1 other ∙ ap (copy_of names t) e

            removed : is_removal l ≡ true
            removed = sym (names.nothing l.said) ∙ ap is_nothing (sym (ap (λ c. c.bytes) copy) ∙ removal.1)

            among : IsAmong l there.0.page.lines.items
            among = (line_found a there.0.page.lines.items l e).0

            number : (shown (pages t) n).tag.number ≡ l.version
            number = ap (λ c. c.tag.number) copy

            page_number : (pages t).number ≡ there.0.page.number
            page_number = (has.others t there.0 there.1 other).number

            most : l.version ≤ there.0.page.number
            most = (others_ok t there.0 there.1).most l among

            latest : l.version ≤ latest_removal 0 there.0.page.lines.items
            latest = latest_each 0 there.0.page.lines.items l among removed

            by : (b : Bool) → asks t ≡ b → (shown (pages t) n).tag.number ≤ (if b then max (own.after t) (pages t).number else own.after t)
            by true asked =
                let n_is : (shown (pages t) n).tag.number ≡ l.version = number in
                let p_is : (pages t).number ≡ there.0.page.number = page_number in
                let le : l.version ≤ there.0.page.number = most in
                omega arith
            by false off =
                let parts = or_false (list_any (asks_for s t) fates) (unknown t s journal there.0) (sym (ap (asks_at s journal fates t) there.1) ∙ off) in
                let not_less : nat_lt (after_of journal t) (latest_removal 0 there.0.page.lines.items) ≡ false = rw (ne_eqb t s other) at parts in
                let n_is : (shown (pages t) n).tag.number ≡ l.version = number in
                let le : l.version ≤ latest_removal 0 there.0.page.lines.items = latest in
                let high : latest_removal 0 there.0.page.lines.items ≤ after_of journal t = at_least (after_of journal t) (latest_removal 0 there.0.page.lines.items) not_less in
                let after : own.after t ≡ after_of journal t = has.own.after t in
                omega arith
              where
                or_false : (x y : Bool) → (x || y) ≡ false → y ≡ false
                or_false true y h = no h
                or_false false y h = h

                at_least : (x y : ℕ) → nat_lt x y ≡ false → y ≤ x
                at_least x y h = which (cases_lt x y)
                  where
                    which : (x < y) ⊎ (y ≤ x) → y ≤ x
                    which (inl lt) = no (sym (lt-ltb x y lt) ∙ h)
                    which (inr le) = le

pub changes_step : AllChangesStep
changes_step names v s seen journal page number line besides pages has ok few none high is = shows_next names v s seen journal line besides pages has ok few none number page high is

pub changes_sweep : AllChangesSweep
changes_sweep names v s seen journal line besides pages has ok others few none onto = record {
  lines = sweeps_lines names v s seen journal line besides pages has ok few none others onto;
  removals = sweeps_removals names v s seen journal line besides pages has ok few none others onto;
}
