-- A journal read batch after batch.
use Rattle.std.proofs.Common.{◌≡◌, ℕ, ◌+◌, ◌-◌, ◌^◌, ◌<◌, ◌≤◌, List, [], ◌∷◌, ◌++◌, length, take, Bool, true, false, refl, sym, ap, ◌∙◌, subst, append_assoc, append-nil, arith, length-append}
use Rattle.std.specs.Prelude.{◌&&◌, if◌then◌else◌}
use Rattle.std.specs.List.{list_all}
use Rattle.std.proofs.lemmas.List.Folds.{list_all-append}
use Rattle.std.proofs.Math.Seq.{take-append_seam}
use Rattle.gq_journal.specs.Batches.{Line, ended_line, seal, lines_text, whole_lines, batches_of, batches_at, batch_text, journal_text, CanBeSealed}
use Rattle.gq_journal.specs.Laws.{FitBatches}
use Rattle.gq_keeper.specs.Plans.{is_plan, facts_in, last_plan, begins_with_plan}
use Rattle.gq_keeper.specs.Starting.{facts_read, RecallsAll, RefusesLines, EndsAt}
use Rattle.gq_keeper.specs.declared.machine.Unread.{Unread}
use Rattle.gq_keeper.specs.declared.machine.Unread.TheVariants.{Memory, Strange}
use Rattle.gq_keeper.proofs.Planning.{facts_in-append, last_plan-append}
use Rattle.gq_keeper.proofs.Journals.{journal_append, fit_append}

pub recalls_append : {M : Type 0} (recalls : M → List ℕ → M → Type 0) (a b c : M) (ls ks : List Line) → RecallsAll recalls a ls b → RecallsAll recalls b ks c → RecallsAll recalls a (ls ++ ks) c
recalls_append recalls a b c [] ks x y = subst (λ m. RecallsAll recalls m ks c) (sym x) y
recalls_append recalls a b c (l ∷ ls) ks x y = (x.0, x.1, recalls_append recalls x.0 b c ls ks x.2 y)

-- what each line keeps lines keep
pub recalls_keep : {M : Type 0} (recalls : M → List ℕ → M → Type 0) (P : M → Type 0) → ((old : M) (line : List ℕ) (new : M) → recalls old line new → P old → P new) → (first last : M) (lines : List Line) → RecallsAll recalls first lines last → P first → P last
recalls_keep recalls P keeps first last [] all is = subst P all is
recalls_keep recalls P keeps first last (line ∷ lines) all is = recalls_keep recalls P keeps all.0 last lines all.2 (keeps first line all.0 all.1 is)

-- ---- what is readable

-- what is readable doesn't change with lines that were read
abbrev pub ReadsOn : {M : Type 0} → (M → List ℕ → M → Type 0) → (M → List ℕ → Bool) → Type 0
ReadsOn {M} recalls readable = (old : M) (line : List ℕ) (new : M) (other : List ℕ) → recalls old line new → readable new other ≡ readable old other

same_reading : {M : Type 0} (recalls : M → List ℕ → M → Type 0) (readable : M → List ℕ → Bool) → ReadsOn recalls readable → (first now : M) (lines : List Line) (other : List ℕ) → RecallsAll recalls first lines now → readable now other ≡ readable first other
same_reading recalls readable on first now [] other all = ap (λ m. readable m other) (sym all)
same_reading recalls readable on first now (line ∷ lines) other all = same_reading recalls readable on all.0 now lines other all.2 ∙ on first line all.0 other all.1

same_readings : {M : Type 0} (readable : M → List ℕ → Bool) (first now : M) → ((other : List ℕ) → readable now other ≡ readable first other) → (lines : List Line) → list_all (readable now) lines ≡ list_all (readable first) lines
same_readings readable first now same [] = refl
same_readings readable first now same (line ∷ lines) = rw (same line, same_readings readable first now same lines) refl

-- what refuses some of the lines refuses all
refuses_part : (reads : List ℕ → Bool) (before part after : List Line) (e : Unread) → RefusesLines (list_all reads part) e → RefusesLines (list_all reads (before ++ (part ++ after))) e
refuses_part reads before part after (Memory refused) is = tt
refuses_part reads before part after Strange is = rw (list_all-append reads before (part ++ after), list_all-append reads part after, is) (and_false (list_all reads before))
  where
    and_false : (b : Bool) → (b && false) ≡ false
    and_false true = refl
    and_false false = refl

refuses_first : {M : Type 0} (recalls : M → List ℕ → M → Type 0) (readable : M → List ℕ → Bool) → ReadsOn recalls readable → (first now : M) (before part after : List Line) (e : Unread) → RecallsAll recalls first before now →
    RefusesLines (list_all (readable now) part) e → RefusesLines (list_all (readable first) (before ++ (part ++ after))) e
refuses_first recalls readable on first now before part after e all is =
    refuses_part (readable first) before part after e
    (subst (λ b. RefusesLines b e) (same_readings readable first now (λ other. same_reading recalls readable on first now before other all) part) is)

-- ---- the lines of a batch

-- these lines of the text were read, and the rest is left
pub record Recovered {M : Type 0} (recalls : M → List ℕ → M → Type 0) (first : M) (text rest : List ℕ) (now : M) : Type 0 where
  pub lines : List Line
  pub read : whole_lines text ≡ lines ++ whole_lines rest
  pub recalled : RecallsAll recalls first lines now

pub reading_none : {M : Type 0} (recalls : M → List ℕ → M → Type 0) (first : M) (text : List ℕ) → Recovered recalls first text text first
reading_none recalls first text = record { lines = []; read = refl; recalled = refl }

pub reading_more : {M : Type 0} (recalls : M → List ℕ → M → Type 0) (first now next : M) (text rest line after : List ℕ) → Recovered recalls first text rest now → whole_lines rest ≡ line ∷ whole_lines after → recalls now line next → Recovered recalls first text after next
reading_more recalls first now next text rest line after r is one = record {
  lines = r.lines ++ line ∷ [];
  read = r.read ∙ ap (λ x. r.lines ++ x) is ∙ sym (append_assoc r.lines (line ∷ []) (whole_lines after));
  recalled = recalls_append recalls first now next r.lines (line ∷ []) r.recalled (next, one, refl);
}

pub reading_end : {M : Type 0} (recalls : M → List ℕ → M → Type 0) (first now : M) (text rest : List ℕ) → Recovered recalls first text rest now → whole_lines rest ≡ [] → RecallsAll recalls first (whole_lines text) now
reading_end recalls first now text rest r none = subst (λ ls. RecallsAll recalls first ls now) (sym (r.read ∙ ap (λ x. r.lines ++ x) none ∙ append-nil r.lines)) r.recalled

facts_of_plan : (lines : List Line) → is_plan lines ≡ true → [] ≡ (if is_plan lines then [] else lines)
facts_of_plan lines is = rw is refl

facts_of_facts : (lines : List Line) → is_plan lines ≡ false → lines ≡ (if is_plan lines then [] else lines)
facts_of_facts lines is = rw is refl

-- a line that is refused is one of the text
pub line_refused : {M : Type 0} (recalls : M → List ℕ → M → Type 0) (readable : M → List ℕ → Bool) → ReadsOn recalls readable → (first now : M) (text rest line after : List ℕ) (e : Unread) → is_plan (whole_lines text) ≡ false →
    Recovered recalls first text rest now → whole_lines rest ≡ line ∷ whole_lines after → RefusesLines (readable now line) e →
    RefusesLines (list_all (readable first) (if is_plan (whole_lines text) then [] else whole_lines text)) e
line_refused recalls readable on first now text rest line after e no_plan r is refused =
    subst (λ ls. RefusesLines (list_all (readable first) ls) e) (sym (r.read ∙ ap (λ x. r.lines ++ x) is) ∙ facts_of_facts (whole_lines text) no_plan)
    (refuses_first recalls readable on first now r.lines (line ∷ []) (whole_lines after) e r.recalled (subst (λ b. RefusesLines b e) (sym (and_true (readable now line))) refused))
  where
    and_true : (b : Bool) → (b && true) ≡ b
    and_true true = refl
    and_true false = refl

pub recalls_plan : {M : Type 0} (recalls : M → List ℕ → M → Type 0) (first : M) (lines : List Line) → is_plan lines ≡ true → RecallsAll recalls first (if is_plan lines then [] else lines) first
recalls_plan recalls first lines is = subst (λ ls. RecallsAll recalls first ls first) (facts_of_plan lines is) refl

pub recalls_facts : {M : Type 0} (recalls : M → List ℕ → M → Type 0) (first last : M) (lines : List Line) → is_plan lines ≡ false → RecallsAll recalls first lines last → RecallsAll recalls first (if is_plan lines then [] else lines) last
recalls_facts recalls first last lines is all = subst (λ ls. RecallsAll recalls first ls last) (facts_of_facts lines is) all

-- ---- batches

-- these batches of the text were taken, and the rest is left
pub record Taking (text rest : List ℕ) (number : ℕ) : Type 0 where
  pub batches : List (List Line)
  pub is : text ≡ journal_text 1 batches ++ rest
  pub read : batches_of text ≡ batches ++ batches_at number rest
  pub fit : FitBatches 1 batches
  pub next : number ≡ 1 + length batches
  pub count : length batches + length rest ≤ length text

pub taking_none : (text : List ℕ) → Taking text text 1
taking_none text = record { batches = []; is = refl; read = refl; fit = tt; next = refl; count = omega arith }

batch_is : (n : ℕ) (body : List ℕ) → CanBeSealed body → batch_text n (whole_lines body) ≡ body ++ ended_line (seal n body)
batch_is n body b = ap (λ x. x ++ ended_line (seal n x)) b.is

longer : (n : ℕ) (body after : List ℕ) → length after < length ((body ++ ended_line (seal n body)) ++ after)
longer n body after = omega (arith, length-append (body ++ ended_line (seal n body)) after, length-append body (ended_line (seal n body)), length-append (seal n body) (10 ∷ []))

pub shorter_batch : (n : ℕ) (rest body after : List ℕ) → rest ≡ (body ++ ended_line (seal n body)) ++ after → length after < length rest
shorter_batch n rest body after is = subst (λ x. length after < length x) (sym is) (longer n body after)

pub short_body : (n : ℕ) (rest body after : List ℕ) → rest ≡ (body ++ ended_line (seal n body)) ++ after → length body ≤ length rest
short_body n rest body after is = subst (λ x. length body ≤ length x) (sym is) (omega (arith, length-append (body ++ ended_line (seal n body)) after, length-append body (ended_line (seal n body))))

-- a batch was found at the front of the rest
pub record Next (rest body after : List ℕ) (n : ℕ) : Type 0 where
  pub read : batches_at n rest ≡ whole_lines body ∷ batches_at (n + 1) after
  pub is : rest ≡ (body ++ ended_line (seal n body)) ++ after
  pub batch : CanBeSealed body

pub taking_more : (text rest body after : List ℕ) (n : ℕ) → Taking text rest n → Next rest body after n → n < 2 ^ 64 → length text < 2 ^ 64 → Taking text after (n + 1)
taking_more text rest body after n t next fits short = record {
  batches = t.batches ++ whole_lines body ∷ [];
  is = t.is ∙ ap (λ x. journal_text 1 t.batches ++ x) (next.is ∙ ap (λ x. x ++ after) (sym (batch_is n body next.batch) ∙ sym (append-nil (batch_text n (whole_lines body)))))
      ∙ sym (append_assoc (journal_text 1 t.batches) (journal_text n (whole_lines body ∷ [])) after)
      ∙ ap (λ m. (journal_text 1 t.batches ++ journal_text m (whole_lines body ∷ [])) ++ after) t.next
      ∙ ap (λ x. x ++ after) (sym (journal_append 1 t.batches (whole_lines body ∷ [])));
  read = t.read ∙ ap (λ x. t.batches ++ x) next.read ∙ sym (append_assoc t.batches (whole_lines body ∷ []) (batches_at (n + 1) after));
  fit = fit_append 1 t.batches (whole_lines body ∷ []) t.fit (subst (λ m. FitBatches m (whole_lines body ∷ [])) t.next ((fits, subst (λ x. length x < 2 ^ 64) (sym next.batch.is) small, next.batch.fit), tt));
  next = omega (arith, t.next, length-append t.batches (whole_lines body ∷ []));
  count = omega (arith, t.count, shorter_batch n rest body after next.is, length-append t.batches (whole_lines body ∷ []));
}
  where
    small : length body < 2 ^ 64
    small = omega (arith, t.count, short_body n rest body after next.is)

pub all_taken : (text rest : List ℕ) (n : ℕ) (t : Taking text rest n) → batches_at n rest ≡ [] → batches_of text ≡ t.batches
all_taken text rest n t none = t.read ∙ ap (λ x. t.batches ++ x) none ∙ append-nil t.batches

front_length : (front rest : List ℕ) → length (front ++ rest) - length rest ≡ length front
front_length front rest = omega (arith, length-append front rest)

pub ends_at : (text rest : List ℕ) (n : ℕ) → Taking text rest n → batches_at n rest ≡ [] → EndsAt text (length text - length rest) n
ends_at text rest n t none = record {
  within = omega arith;
  front = ap (λ x. take (length x - length rest) x) t.is ∙ ap (λ k. take k (journal_text 1 t.batches ++ rest)) (front_length (journal_text 1 t.batches) rest) ∙ take-append_seam (journal_text 1 t.batches) rest ∙ ap (journal_text 1) (sym same);
  fit = subst (FitBatches 1) (sym same) t.fit;
  next = t.next ∙ ap (λ x. 1 + length x) (sym same);
}
  where
    same : batches_of text ≡ t.batches
    same = all_taken text rest n t none

-- ---- what was found of plans

pub record Looking (text rest : List ℕ) (number : ℕ) (begins : Bool) (last : List ℕ) : Type 0 where
  pub taking : Taking text rest number
  pub begins_is : begins ≡ begins_with_plan taking.batches
  pub last_is : last ≡ lines_text (last_plan [] taking.batches)

pub looking_none : (text last : List ℕ) → last ≡ [] → Looking text text 1 false last
unfolding taking_none
looking_none text last none = record { taking = taking_none text; begins_is = refl; last_is = none }

begins_more : (bs : List (List Line)) (b : List Line) (number : ℕ) (begins later : Bool) → number ≡ 1 + length bs → begins ≡ begins_with_plan bs → (number ≡ 1 → later ≡ is_plan b) → (¬ (number ≡ 1) → later ≡ begins) → later ≡ begins_with_plan (bs ++ b ∷ [])
begins_more [] b number begins later next is first more = first next
begins_more (x ∷ bs) b number begins later next is first more = more (λ one. omega (arith, next, one)) ∙ is

last_text : (b before : List Line) (body last : List ℕ) → lines_text b ≡ body → last ≡ lines_text before → (if is_plan b then body else last) ≡ lines_text (if is_plan b then b else before)
last_text b before body last is same = by (is_plan b)
  where
    by : (p : Bool) → (if p then body else last) ≡ lines_text (if p then b else before)
    by true = sym is
    by false = same

pub looking_more : (text rest body after : List ℕ) (n : ℕ) (begins begins_later : Bool) (last last_later : List ℕ) → Looking text rest n begins last → Next rest body after n → n < 2 ^ 64 → length text < 2 ^ 64 →
    (n ≡ 1 → begins_later ≡ is_plan (whole_lines body)) → (¬ (n ≡ 1) → begins_later ≡ begins) → last_later ≡ (if is_plan (whole_lines body) then body else last) →
    Looking text after (n + 1) begins_later last_later
unfolding taking_more
looking_more text rest body after n begins begins_later last last_later l next fits short first later is = record {
  taking = taking_more text rest body after n l.taking next fits short;
  begins_is = begins_more l.taking.batches (whole_lines body) n begins begins_later l.taking.next l.begins_is first later;
  last_is = is ∙ last_text (whole_lines body) (last_plan [] l.taking.batches) body last next.batch.is l.last_is ∙ ap lines_text (sym (last_plan-append [] l.taking.batches (whole_lines body ∷ [])));
}

pub looked_begins : (text rest : List ℕ) (n : ℕ) (begins : Bool) (last : List ℕ) (l : Looking text rest n begins last) → batches_at n rest ≡ [] → begins ≡ begins_with_plan (batches_of text)
looked_begins text rest n begins last l none = l.begins_is ∙ ap begins_with_plan (sym (all_taken text rest n l.taking none))

pub looked_last : (text rest : List ℕ) (n : ℕ) (begins : Bool) (last : List ℕ) (l : Looking text rest n begins last) → batches_at n rest ≡ [] → last ≡ lines_text (last_plan [] (batches_of text))
looked_last text rest n begins last l none = l.last_is ∙ ap (λ b. lines_text (last_plan [] b)) (sym (all_taken text rest n l.taking none))

-- ---- facts that are read

pub record Recalling {M : Type 0} (recalls : M → List ℕ → M → Type 0) (first : M) (text rest : List ℕ) (number : ℕ) (now : M) : Type 0 where
  pub taking : Taking text rest number
  pub recalled : RecallsAll recalls first (facts_in taking.batches) now

pub recalling_none : {M : Type 0} (recalls : M → List ℕ → M → Type 0) (first : M) (text : List ℕ) → Recalling recalls first text text 1 first
unfolding taking_none
recalling_none recalls first text = record { taking = taking_none text; recalled = refl }

pub recalling_more : {M : Type 0} (recalls : M → List ℕ → M → Type 0) (first now next : M) (text rest body after : List ℕ) (n : ℕ) → Recalling recalls first text rest n now → Next rest body after n → n < 2 ^ 64 → length text < 2 ^ 64 →
    RecallsAll recalls now (if is_plan (whole_lines body) then [] else whole_lines body) next → Recalling recalls first text after (n + 1) next
unfolding taking_more
recalling_more recalls first now next text rest body after n r found fits short all = record {
  taking = taking_more text rest body after n r.taking found fits short;
  recalled = subst (λ ls. RecallsAll recalls first ls next) (sym more) (recalls_append recalls first now next (facts_in r.taking.batches) (if is_plan (whole_lines body) then [] else whole_lines body) r.recalled all);
}
  where
    more : facts_in (r.taking.batches ++ whole_lines body ∷ []) ≡ facts_in r.taking.batches ++ (if is_plan (whole_lines body) then [] else whole_lines body)
    more = facts_in-append r.taking.batches (whole_lines body ∷ []) ∙ ap (λ x. facts_in r.taking.batches ++ x) (append-nil (if is_plan (whole_lines body) then [] else whole_lines body))

-- a batch that is refused is one of the journal
pub batch_refused : {M : Type 0} (recalls : M → List ℕ → M → Type 0) (readable : M → List ℕ → Bool) → ReadsOn recalls readable → (first now : M) (text rest body after : List ℕ) (n : ℕ) (e : Unread) → Recalling recalls first text rest n now →
    Next rest body after n → RefusesLines (list_all (readable now) (if is_plan (whole_lines body) then [] else whole_lines body)) e → RefusesLines (list_all (readable first) (facts_read text)) e
batch_refused recalls readable on first now text rest body after n e r found refused =
    subst (λ ls. RefusesLines (list_all (readable first) ls) e) (sym all)
    (refuses_first recalls readable on first now (facts_in r.taking.batches) (if is_plan (whole_lines body) then [] else whole_lines body) (facts_in (batches_at (n + 1) after)) e r.recalled refused)
  where
    all : facts_read text ≡ facts_in r.taking.batches ++ ((if is_plan (whole_lines body) then [] else whole_lines body) ++ facts_in (batches_at (n + 1) after))
    all = ap facts_in (r.taking.read ∙ ap (λ x. r.taking.batches ++ x) found.read) ∙ facts_in-append r.taking.batches (whole_lines body ∷ batches_at (n + 1) after)

pub recalled_all : {M : Type 0} (recalls : M → List ℕ → M → Type 0) (first now : M) (text rest : List ℕ) (n : ℕ) → Recalling recalls first text rest n now → batches_at n rest ≡ [] → RecallsAll recalls first (facts_read text) now
recalled_all recalls first now text rest n r none = subst (λ x. RecallsAll recalls first (facts_in x) now) (sym (all_taken text rest n r.taking none)) r.recalled
