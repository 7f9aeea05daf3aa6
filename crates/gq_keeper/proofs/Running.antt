-- Steps one after another.
use Rattle.std.proofs.Common.{◌≡◌, ◌⊎◌, ◌<◌, ℕ, List, [], ◌∷◌, ◌++◌, length, true, false, refl, sym, ap, ◌∙◌, subst, append_assoc, append-nil, arith, inl, inr, ⊎_elim, length-append}
use Rattle.std.specs.Prelude.{filter}
use Rattle.std.proofs.lemmas.Bool.{cases_lt}
use Rattle.std.proofs.lemmas.Grind.{flat_map-append}
use Rattle.std.proofs.lemmas.List.{length_push, take_at, take-append-le}
use Rattle.gq_journal.specs.Batches.{Line, ended_line, lines_text, whole_lines, is_one_line}
use Rattle.gq_journal.proofs.Lines.{ended_then}
use Rattle.gq_keeper.specs.Lines.{is_short, short_lines}
use Rattle.gq_keeper.specs.Runs.{Did, lines_of, facts_of, told_of, Runs, StopsAt, Takes, Took}

pub runs_append : {M : Type 0} (steps : M → List ℕ → List (List ℕ) → List ℕ → M → Type 0) (a b c : M) (ds es : List Did) → Runs steps a ds b → Runs steps b es c → Runs steps a (ds ++ es) c
runs_append steps a b c [] es x y = subst (λ m. Runs steps m es c) (sym x) y
runs_append steps a b c (d ∷ ds) es x y = (x.0, x.1, runs_append steps x.0 b c ds es x.2 y)

pub lines_append : (ds es : List Did) → lines_of (ds ++ es) ≡ lines_of ds ++ lines_of es
lines_append [] es = refl
lines_append (d ∷ ds) es = ap (λ ls. d.line ∷ ls) (lines_append ds es)

pub facts_append : (ds es : List Did) → facts_of (ds ++ es) ≡ facts_of ds ++ facts_of es
facts_append ds es = flat_map-append (λ (did : Did). did.facts) ds es

pub told_append : (ds es : List Did) → told_of (ds ++ es) ≡ told_of ds ++ told_of es
told_append ds es = flat_map-append (λ (did : Did). did.told) ds es

pub text_append : (a b : List Line) → lines_text (a ++ b) ≡ lines_text a ++ lines_text b
text_append a b = flat_map-append ended_line a b

-- what each step keeps steps keep
pub runs_keep : {M : Type 0} (steps : M → List ℕ → List (List ℕ) → List ℕ → M → Type 0) (P : M → Type 0) → ((old : M) (line : List ℕ) (facts : List (List ℕ)) (told : List ℕ) (new : M) → steps old line facts told new → P old → P new) →
    (first last : M) (dids : List Did) → Runs steps first dids last → P first → P last
runs_keep steps P keeps first last [] runs is = subst P runs is
runs_keep steps P keeps first last (did ∷ dids) runs is = runs_keep steps P keeps runs.0 last dids runs.2 (keeps first did.line did.facts did.told runs.0 runs.1 is)

-- ---- lines that are taken, and lines that are too long

kept : (longest : ℕ) (line : Line) (lines : List Line) → is_short longest line ≡ true → filter (is_short longest) (line ∷ lines) ≡ line ∷ filter (is_short longest) lines
kept longest line lines short = rw short refl

passed : (longest : ℕ) (line : Line) (lines : List Line) → is_short longest line ≡ false → filter (is_short longest) (line ∷ lines) ≡ filter (is_short longest) lines
passed longest line lines long = rw long refl

stops_none : (most : ℕ) → StopsAt most []
stops_none most = record { facts = λ n before. absurd (omega arith); told = λ n before. absurd (omega arith) }

stops_more : (most : ℕ) (dids : List Did) (did : Did) → StopsAt most dids → length (lines_text (facts_of dids)) < most → length (told_of dids) < most → StopsAt most (dids ++ did ∷ [])
stops_more most dids did few facts told = record {
  facts = λ n before. elim (cases_lt n (length dids)) [
    | inl early ↦ subst (λ (ds : List Did). length (lines_text (facts_of ds)) < most) (sym (take-append-le n dids (did ∷ []) (omega arith))) (few.facts n early)
    | inr late ↦ subst (λ (ds : List Did). length (lines_text (facts_of ds)) < most) (sym (take_at dids (did ∷ []) n (omega (arith, length_push dids did)))) facts
  ];
  told = λ n before. elim (cases_lt n (length dids)) [
    | inl early ↦ subst (λ (ds : List Did). length (told_of ds) < most) (sym (take-append-le n dids (did ∷ []) (omega arith))) (few.told n early)
    | inr late ↦ subst (λ (ds : List Did). length (told_of ds) < most) (sym (take_at dids (did ∷ []) n (omega (arith, length_push dids did)))) told
  ];
}

pub took_none : {M : Type 0} (longest most : ℕ) (steps : M → List ℕ → List (List ℕ) → List ℕ → M → Type 0) (old : M) (text given shown : List ℕ) → given ≡ [] → shown ≡ [] → Took longest most steps old text text given shown old
took_none longest most steps old text given shown no_facts untold = record { dids = []; runs = refl; front = []; cut = refl; took = λ more. refl; facts = no_facts; told = untold; few = stops_none most }

front_more : (front rest line after text : List ℕ) → text ≡ front ++ rest → rest ≡ ended_line line ++ after → text ≡ (front ++ ended_line line) ++ after
front_more front rest line after text is cut = is ∙ ap (λ r. front ++ r) cut ∙ sym (append_assoc front (ended_line line) after)

-- a line that is too long was passed over
pub took_past : {M : Type 0} (longest most : ℕ) (steps : M → List ℕ → List (List ℕ) → List ℕ → M → Type 0) (old m : M) (text rest line after given shown : List ℕ) →
    Took longest most steps old text rest given shown m → rest ≡ ended_line line ++ after → is_one_line line ≡ true → is_short longest line ≡ false → Took longest most steps old text after given shown m
took_past longest most steps old m text rest line after given shown so cut one long = record {
  dids = so.dids;
  runs = so.runs;
  front = so.front ++ ended_line line;
  cut = front_more so.front rest line after text so.cut cut;
  took = λ more. ap (short_lines longest) (append_assoc so.front (ended_line line) more) ∙ so.took (ended_line line ++ more)
      ∙ ap (λ ls. lines_of so.dids ++ ls) (ap (filter (is_short longest)) (ended_then line more one) ∙ passed longest line (whole_lines more) long);
  facts = so.facts;
  told = so.told;
  few = so.few;
}

pub took_more : {M : Type 0} (longest most : ℕ) (steps : M → List ℕ → List (List ℕ) → List ℕ → M → Type 0) (old m n : M) (text rest line after f1 f2 t1 t2 : List ℕ) →
    Took longest most steps old text rest f1 t1 m → length f1 < most → length t1 < most → rest ≡ ended_line line ++ after → is_one_line line ≡ true → is_short longest line ≡ true → Takes steps m line f1 f2 t1 t2 n → Took longest most steps old text after f2 t2 n
took_more {M} longest most steps old m n text rest line after f1 f2 t1 t2 so few_facts few_told cut one short takes = record {
  dids = so.dids ++ did ∷ [];
  runs = runs_append steps old m n so.dids (did ∷ []) so.runs (n, takes.step, refl);
  front = so.front ++ ended_line line;
  cut = front_more so.front rest line after text so.cut cut;
  took = λ more. ap (short_lines longest) (append_assoc so.front (ended_line line) more) ∙ so.took (ended_line line ++ more)
      ∙ ap (λ ls. lines_of so.dids ++ ls) (ap (filter (is_short longest)) (ended_then line more one) ∙ kept longest line (whole_lines more) short)
      ∙ sym (append_assoc (lines_of so.dids) (line ∷ []) (short_lines longest more)) ∙ ap (λ ls. ls ++ short_lines longest more) (sym (lines_append so.dids (did ∷ [])));
  facts = takes.facts ∙ ap (λ x. x ++ lines_text takes.lines) so.facts
      ∙ sym (text_append (facts_of so.dids) takes.lines) ∙ ap lines_text (ap (λ x. facts_of so.dids ++ x) (sym (append-nil takes.lines)) ∙ sym (facts_append so.dids (did ∷ [])));
  told = takes.told ∙ ap (λ x. x ++ takes.text) so.told
      ∙ ap (λ x. told_of so.dids ++ x) (sym (append-nil takes.text)) ∙ sym (told_append so.dids (did ∷ []));
  few = stops_more most so.dids did so.few (subst (λ x. length x < most) so.facts few_facts) (subst (λ x. length x < most) so.told few_told);
}
  where
    did : Did
    did = record { line = line; facts = takes.lines; told = takes.text }

-- what is behind a line is less than the text
pub less_behind : (text rest line after : List ℕ) → (rest ≡ text) ⊎ (length rest < length text) → rest ≡ ended_line line ++ after → length after < length text
less_behind text rest line after so cut =
    let less : length after < length rest = omega (arith, ap length cut, length-append (ended_line line) after, length_push line 10) in
    ⊎_elim (λ same. omega (arith, less, ap length same)) (λ fewer. omega (arith, less, fewer)) so

-- ---- the lines in front of the rest

pub took_front : {M : Type 0} (longest most : ℕ) (steps : M → List ℕ → List (List ℕ) → List ℕ → M → Type 0) (old new : M) (text rest given shown : List ℕ) (t : Took longest most steps old text rest given shown new) → lines_of t.dids ≡ short_lines longest t.front
took_front longest most steps old new text rest given shown t = sym (ap (short_lines longest) (sym (append-nil t.front)) ∙ t.took [] ∙ append-nil (lines_of t.dids))

pub took_apart : {M : Type 0} (longest most : ℕ) (steps : M → List ℕ → List (List ℕ) → List ℕ → M → Type 0) (old new : M) (text rest given shown : List ℕ) (t : Took longest most steps old text rest given shown new) → (more : List ℕ) → short_lines longest (t.front ++ more) ≡ short_lines longest t.front ++ short_lines longest more
took_apart longest most steps old new text rest given shown t more = t.took more ∙ ap (λ ls. ls ++ short_lines longest more) (took_front longest most steps old new text rest given shown t)
