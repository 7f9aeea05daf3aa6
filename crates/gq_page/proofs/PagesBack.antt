-- The text of a page is read as that page.
use Rattle.std.proofs.Common.{◌≡◌, ◌∙◌, ℕ, suc, ◌+◌, ◌%◌, ◌<◌, ◌≤◌, ◌^◌, List, [], ◌∷◌, ◌++◌, length, map, Option, Some, None, true, false, refl, ap, sym, subst, arith, append_assoc, append-nil}
use Rattle.std.specs.Prelude.{◌==◌, ◌&&◌, not, nat_lt, decimal, codes, All, IfSome, if◌then◌else◌}
use Rattle.std.specs.List.{flat_map}
use Rattle.std.proofs.lemmas.Bool.{and_parts, ne_eqb, le-ltb}
use Rattle.std.proofs.lemmas.List.{length-append}
use Rattle.std.proofs.lemmas.List.Folds.{list_all-append}
use Rattle.gq_lines.specs.Words.{Word, words_of}
use Rattle.gq_lines.specs.Lines.{lines_of}
use Rattle.gq_lines.specs.Written.{spaced, ended}
use Rattle.gq_lines.proofs.Numbers.{long_numbers_read_back}
use Rattle.gq_lines.proofs.Plain.{is_plain, are_plain, is_inner, is_inner_byte, plain_parts, inner_parts, long_plain}
use Rattle.gq_lines.proofs.LinesBack.{words_back, line_back}
use Rattle.gq_page.specs.declared.form.Form.{Form}
use Rattle.gq_page.specs.declared.form.Form.TheVariants.{Begin, Brace, Words, Braced, Content, Removed, Inline, Part, Size, Digest, Where, WhereDigits, Column, ColumnDigits, Owner, OwnerDigits, Chunk, ChunkDigits, More, MoreDigits, Session, SessionDigits, First, FirstDigits, Last, LastDigits}
use Rattle.gq_page.specs.declared.form.TheConstants.{DIGEST}
use Rattle.gq_page.specs.declared.page.Line.{Line}
use Rattle.gq_page.specs.Form.{is_letter, is_end, next_form, cut_word, ends_well}
use Rattle.gq_page.specs.Page.{Sheet}
use Rattle.std.proofs.lemmas.Fmt.{decimal_by_steps}
use Rattle.gq_page.specs.Text.{sign, signpost_text, is_signpost, signpost_of, signpost_cut, with_others, line_text, head_words, page_text, numbers_of, line_of_text, lines_said, page_headed, page_by, ends_a_line}
use Rattle.gq_page.specs.Laws.{FitsLine, FitsPage, PagesReadBack}
use Rattle.gq_page.proofs.Cuts.{said_then}
use Rattle.gq_page.proofs.ReadingLemmas.{page_by_lines}

-- a word without spaces is what stands before the first space
word_then : (word rest : List ℕ) → is_plain word ≡ true → cut_word (word ++ 32 ∷ rest) ≡ Some (word, rest)
word_then [] rest plain = refl
word_then (c ∷ word) rest plain =
    let parts = plain_parts c word plain in
    rw (parts.0.1, word_then word rest parts.1) refl

-- the line of a name, without its newline
abbrev pub text_of : Line → List ℕ
text_of line = decimal line.version ++ 32 ∷ (line.said ++ 32 ∷ line.name)

-- it is read as it was written
line_again : (line : Line) → FitsLine line → line_of_text (text_of line) ≡ Some line
line_again line fits =
    let cut : cut_word (text_of line) ≡ Some (decimal line.version, line.said ++ 32 ∷ line.name) = word_then (decimal line.version) (line.said ++ 32 ∷ line.name) (long_plain line.version fits.fits) in
    rw (cut, long_numbers_read_back line.version fits.fits, ne_eqb line.version 0 (λ e. omega (arith, fits.some)), said_then (Some Begin) line.said line.name fits.said, fits.named) refl

numbers_back : (numbers : List ℕ) → All (λ n. n < 2 ^ 64) numbers → numbers_of (map decimal numbers) ≡ Some numbers
numbers_back [] fits = refl
numbers_back (n ∷ numbers) fits =
    let here : n < 2 ^ 64 = fits 0 n (omega arith) in
    rw (long_numbers_read_back n here, numbers_back numbers (λ k d low. fits (suc k) d (omega arith))) refl

-- no newline goes on a form
no_newline : (form : Form) → next_form form 10 ≡ None
no_newline Begin = refl
no_newline Brace = refl
no_newline Words = refl
no_newline Braced = refl
no_newline Content = refl
no_newline Removed = refl
no_newline (Inline letters) = refl
no_newline Part = refl
no_newline Size = refl
no_newline (Digest letters) = elim (nat_lt letters DIGEST) as (λ b. (if b then (if is_letter 10 then Some (Digest (letters + 1)) else None) else if 10 == 32 then Some Where else None) ≡ None) [ true ↦ refl | false ↦ refl ]
no_newline Where = refl
no_newline (WhereDigits true) = refl
no_newline (WhereDigits false) = refl
no_newline Column = refl
no_newline (ColumnDigits true) = refl
no_newline (ColumnDigits false) = refl
no_newline Owner = refl
no_newline (OwnerDigits true) = refl
no_newline (OwnerDigits false) = refl
no_newline Chunk = refl
no_newline (ChunkDigits true) = refl
no_newline (ChunkDigits false) = refl
no_newline More = refl
no_newline (MoreDigits true) = refl
no_newline (MoreDigits false) = refl
no_newline Session = refl
no_newline (SessionDigits true) = refl
no_newline (SessionDigits false) = refl
no_newline First = refl
no_newline (FirstDigits true) = refl
no_newline (FirstDigits false) = refl
no_newline Last = refl
no_newline (LastDigits true) = refl
no_newline (LastDigits false) = refl

-- so there is none before a name
said_inner : (form : Option Form) (said : List ℕ) → ends_well form said ≡ true → is_inner said ≡ true
said_inner None said well = absurd (none well)
  where
    none : false ≡ true → ⊥
    none h = cc
said_inner (Some form) [] well = refl
said_inner (Some form) (c ∷ said) well =
    let parts = and_parts (not (c == 32 && is_end form)) (ends_well (next_form form c) said) well in
    rw (ne_eqb c 10 (other parts.1)) (said_inner (next_form form c) said parts.1)
  where
    no_end : ends_well None said ≡ true → ⊥
    no_end h = cc

    other : ends_well (next_form form c) said ≡ true → c ≡ 10 → ⊥
    other goes is = no_end (subst (λ f. ends_well f said ≡ true) (ap (next_form form) is ∙ no_newline form) goes)

plain_inner : (word : Word) → is_plain word ≡ true → is_inner word ≡ true
plain_inner [] plain = refl
plain_inner (c ∷ word) plain =
    let parts = plain_parts c word plain in
    rw (parts.0.0) (plain_inner word parts.1)

-- the line of a name, and the lines after it
line_then : (line rest : List ℕ) → is_inner line ≡ true → lines_of (line ++ 10 ∷ rest) ≡ line ∷ lines_of rest
line_then [] rest inner = refl
line_then (c ∷ line) rest inner =
    let parts = inner_parts c line inner in
    rw (parts.0, line_then line rest parts.1) refl

text_inner : (line : Line) → FitsLine line → is_inner (text_of line) ≡ true
text_inner line fits =
    let said : is_inner (line.said ++ 32 ∷ line.name) ≡ true = rw (list_all-append is_inner_byte line.said (32 ∷ line.name), said_inner (Some Begin) line.said fits.said) fits.one in
    rw (list_all-append is_inner_byte (decimal line.version) (32 ∷ (line.said ++ 32 ∷ line.name)), plain_inner (decimal line.version) (long_plain line.version fits.fits)) said

text_then : (line : Line) (rest : List ℕ) → line_text line ++ rest ≡ text_of line ++ 10 ∷ rest
text_then line rest = simp append_assoc

lines_again : (lines : List Line) → All FitsLine lines → lines_said (lines_of (flat_map line_text lines)) ≡ Some lines
lines_again [] fits = refl
lines_again (line ∷ lines) fits =
    let here : FitsLine line = fits 0 line (omega arith) in
    let rest : lines_said (lines_of (flat_map line_text lines)) ≡ Some lines = lines_again lines (λ k d low. fits (suc k) d (omega arith)) in
    rw (text_then line (flat_map line_text lines), line_then (text_of line) (flat_map line_text lines) (text_inner line here), line_again line here, rest) refl

-- each of them ends a line
ends-cons : (c : ℕ) (text : List ℕ) → ends_a_line text ≡ true → ends_a_line (c ∷ text) ≡ true
ends-cons c [] ended = absurd (none ended)
  where
    none : false ≡ true → ⊥
    none h = cc
ends-cons c (d ∷ text) ended = ended

ends-append : (front text : List ℕ) → ends_a_line text ≡ true → ends_a_line (front ++ text) ≡ true
ends-append [] text ended = ended
ends-append (c ∷ front) text ended = ends-cons c (front ++ text) (ends-append front text ended)

line_ends : (line : Line) → ends_a_line (line_text line) ≡ true
line_ends line =
    let name : List ℕ = line.name ++ 10 ∷ [] in
    let said : List ℕ = line.said ++ 32 ∷ name in
    ends-append (decimal line.version) (32 ∷ said) (ends-cons 32 said (ends-append line.said (32 ∷ name) (ends-cons 32 name (ends-append line.name (10 ∷ []) refl))))

lines_end : (front : List ℕ) (lines : List Line) → ends_a_line front ≡ true → ends_a_line (front ++ flat_map line_text lines) ≡ true
lines_end front [] ended = rw append-nil ended
lines_end front (line ∷ lines) ended =
    rw (sym (append_assoc front (line_text line) (flat_map line_text lines))) (lines_end (front ++ line_text line) lines (ends-append front (line_text line) (line_ends line)))

signpost_ends : (front : List ℕ) (signpost : Option ℕ) → ends_a_line front ≡ true → ends_a_line (front ++ signpost_text signpost) ≡ true
signpost_ends front None ended = rw append-nil ended
signpost_ends front (Some level) ended = ends-append front ((sign ++ decimal level) ++ 10 ∷ []) (ends-append (sign ++ decimal level) (10 ∷ []) refl)

-- a number is no signpost
number_is_none : (n : ℕ) → n < 2 ^ 64 → (rest : List ℕ) → is_signpost (decimal n ++ rest) ≡ false
number_is_none n fits = decimal_by_steps (λ m ds. (rest : List ℕ) → is_signpost (ds ++ rest) ≡ false)
    (λ m small rest. ne_eqb (48 + m) 62 (λ e. omega (arith, small, e)))
    (λ m ds ten before rest. ap is_signpost (append_assoc ds ((48 + m % 10) ∷ []) rest) ∙ before ((48 + m % 10) ∷ rest))
    n fits

-- so no line is
line_is_none : (line : Line) → FitsLine line → is_signpost (text_of line) ≡ false
line_is_none line fits = number_is_none line.version fits.fits (32 ∷ (line.said ++ 32 ∷ line.name))

signpost_again : (level : ℕ) → level < 2 ^ 64 → signpost_of (sign ++ decimal level) ≡ Some level
signpost_again level fits =
    let long : 27 ≤ length (sign ++ decimal level) = subst (λ n. 27 ≤ n) (sym (length-append sign (decimal level))) (omega arith) in
    rw (le-ltb (length (sign ++ decimal level)) 27 long) (long_numbers_read_back level fits)

sign_inner : (level : ℕ) → level < 2 ^ 64 → is_inner (sign ++ decimal level) ≡ true
sign_inner level fits = plain_inner (decimal level) (long_plain level fits)

cut_again : (signpost : Option ℕ) (lines : List Line) → IfSome signpost (λ level. level < 2 ^ 64) → All FitsLine lines
    → signpost_cut (lines_of (signpost_text signpost ++ flat_map line_text lines)) ≡ Some (signpost, lines_of (flat_map line_text lines))
cut_again None [] fits each = refl
cut_again None (line ∷ lines) fits each =
    let here : FitsLine line = each 0 line (omega arith) in
    rw (text_then line (flat_map line_text lines), line_then (text_of line) (flat_map line_text lines) (text_inner line here), line_is_none line here) refl
cut_again (Some level) lines fits each =
    let line : List ℕ = sign ++ decimal level in
    let rest : List ℕ = flat_map line_text lines in
    let text : signpost_text (Some level) ++ rest ≡ line ++ 10 ∷ rest = append_assoc line (10 ∷ []) rest in
    ap (λ t. signpost_cut (lines_of t)) text ∙ ap signpost_cut (line_then line rest (sign_inner level fits)) ∙ ap (with_others (lines_of rest)) (signpost_again level fits)

decimals_plain : (numbers : List ℕ) → All (λ n. n < 2 ^ 64) numbers → are_plain (map decimal numbers) ≡ true
decimals_plain [] fits = refl
decimals_plain (n ∷ numbers) fits =
    let here : n < 2 ^ 64 = fits 0 n (omega arith) in
    rw (long_plain n here) (decimals_plain numbers (λ k d low. fits (suc k) d (omega arith)))

head_plain : (page : Sheet) → FitsPage page → are_plain (head_words page) ≡ true
head_plain page fits = rw (long_plain page.number fits.number) (decimals_plain page.after fits.after)

head_ends : (words : List Word) → ends_a_line (codes "names" ++ ended words) ≡ true
head_ends words = ends-append (codes "names") (ended words) (ends-append (spaced words) (10 ∷ []) refl)

head_again : (page : Sheet) (texts others : List (List ℕ)) → FitsPage page → signpost_cut texts ≡ Some (page.signpost, others) → lines_said others ≡ Some page.lines
    → page_headed (codes "names" ∷ head_words page) texts ≡ Some page
unfolding page_headed
head_again page texts others fits cut lines = rw (long_numbers_read_back page.number fits.number, numbers_back page.after fits.after, cut, lines) refl

pub pages_read_back : PagesReadBack
pages_read_back page fits =
    let head : List ℕ = codes "names" ++ ended (head_words page) in
    let others : List ℕ = signpost_text page.signpost ++ flat_map line_text page.lines in
    let ended : ends_a_line (page_text page) ≡ true =
    rw (sym (append_assoc head (signpost_text page.signpost) (flat_map line_text page.lines))) (lines_end (head ++ signpost_text page.signpost) page.lines (signpost_ends head page.signpost (head_ends (head_words page)))) in
    let cut : lines_of (page_text page) ≡ (codes "names" ++ spaced (head_words page)) ∷ lines_of others = line_back (codes "names") (head_words page) others refl (head_plain page fits) in
    let words : words_of (codes "names" ++ spaced (head_words page)) ≡ codes "names" ∷ head_words page = words_back (codes "names") (head_words page) refl (head_plain page fits) in
    page_by_lines (page_text page) ended ∙ ap page_by cut ∙ ap (λ ws. page_headed ws (lines_of others)) words
    ∙ head_again page (lines_of others) (lines_of (flat_map line_text page.lines)) fits (cut_again page.signpost page.lines fits.signpost fits.lines) (lines_again page.lines fits.lines)
