-- A journal with one entry more.
use Rattle.std.proofs.Common.{◌≡◌, ◌≢◌, ℕ, ◌+◌, ◌<◌, ◌≤◌, List, [], ◌∷◌, ◌++◌, Bool, true, false, ◌==◌, ◌&&◌, refl, sym, ap, ◌∙◌, subst, arith, append_assoc, append-nil, inl, inr}
use Rattle.std.specs.Prelude.{fold, unwrap_or, if◌then◌else◌}
use Rattle.std.proofs.lemmas.List.Sums.{fold-append}
use Rattle.std.proofs.lemmas.Bool.{cases_Bool, and_parts, eqb-true, true≢false}
use Rattle.std.proofs.lemmas.Bool.Decides.{nat_tests}
use Rattle.gq_tag.specs.declared.FileId.{FileId}
use Rattle.gq_tag.specs.declared.StoredCopy.{StoredCopy}
use Rattle.gq_tag.specs.declared.Body.{Body}
use Rattle.gq_tag.specs.declared.Body.TheVariants.{Ask, Copy, Store, Stored}
use Rattle.gq_tag.specs.declared.Message.{Message}
use Rattle.gq_tag.specs.Tag.{first_copy, newer_of, to_server, answer_body}
use Rattle.gq_tag.proofs.Greatest.{latest-cons}
use Rattle.gq_store.specs.Copies.{StoreCopies, copy_at}
use Rattle.gq_store.specs.Serving.{held_after, server_reply}
use Rattle.gq_cell.specs.declared.letter.Letter.{Letter}
use Rattle.gq_cell.specs.declared.letter.CellEntry.{CellEntry}
use Rattle.gq_cell.specs.declared.letter.CellEntry.TheVariants.{Served, Stop, Back}
use Rattle.gq_cell.specs.Journal.{stamp_of, last_from, last_stamp_of, up_after, up_from, is_up, served_by, served, is_file_id, stored_by_body, stored_by_entry, stored_by_journal, copy_after, Follows, LawfulAfter, answer_at}
use Rattle.gq_cell.specs.Keeping.{Replays}

-- ---- the questions

pub last_from-push : (n : ℕ) (es : List CellEntry) (e : CellEntry) → last_from n (es ++ e ∷ []) ≡ stamp_of e
last_from-push n [] e = refl
last_from-push n (x ∷ es) e = last_from-push (stamp_of x) es e

pub up_from-push : (up : Bool) (es : List CellEntry) (e : CellEntry) → up_from up (es ++ e ∷ []) ≡ up_after (up_from up es) e
up_from-push up [] e = refl
up_from-push up (x ∷ es) e = up_from-push (up_after up x) es e

pub served-push : (es : List CellEntry) (e : CellEntry) → served (es ++ e ∷ []) ≡ served es + served_by e
served-push [] e = omega arith
served-push (x ∷ es) e = let h = served-push es e in omega arith

pub stored_by_journal-append : (file : FileId) (es fs : List CellEntry) → stored_by_journal file (es ++ fs) ≡ stored_by_journal file es ++ stored_by_journal file fs
stored_by_journal-append file [] fs = refl
stored_by_journal-append file (x ∷ es) fs = ap (λ r. stored_by_entry file x ++ r) (stored_by_journal-append file es fs) ∙ sym (append_assoc (stored_by_entry file x) (stored_by_journal file es) (stored_by_journal file fs))

pub stored_by_journal-push : (file : FileId) (es : List CellEntry) (e : CellEntry) → stored_by_journal file (es ++ e ∷ []) ≡ stored_by_journal file es ++ stored_by_entry file e
stored_by_journal-push file es e = stored_by_journal-append file es (e ∷ []) ∙ ap (λ r. stored_by_journal file es ++ r) (append-nil (stored_by_entry file e))

-- ---- the copy held

-- it is found by going through what stores brought
pub copy_after-fold : (j : List CellEntry) (file : FileId) → copy_after j file ≡ fold newer_of first_copy (stored_by_journal file j)
copy_after-fold j file = ap (λ o. unwrap_or o first_copy) (latest-cons first_copy (stored_by_journal file j))

pub copy_after-append : (j k : List CellEntry) (file : FileId) → copy_after (j ++ k) file ≡ fold newer_of (copy_after j file) (stored_by_journal file k)
copy_after-append j k file =
    copy_after-fold (j ++ k) file ∙ (ap (fold newer_of first_copy) (stored_by_journal-append file j k) ∙ (fold-append newer_of first_copy (stored_by_journal file j) (stored_by_journal file k)
    ∙ ap (λ c. fold newer_of c (stored_by_journal file k)) (sym (copy_after-fold j file))))

same_file : (a b : FileId) → is_file_id a b ≡ true → a ≡ b
same_file a b h =
    let p = and_parts (a.tenant == b.tenant) ((a.volume == b.volume) && (a.file == b.file)) h in
    let q = and_parts (a.volume == b.volume) (a.file == b.file) p.1 in
    let tenant = eqb-true a.tenant b.tenant p.0 in
    let volume = eqb-true a.volume b.volume q.0 in
    let file = eqb-true a.file b.file q.1 in
    λ i. record { tenant = tenant i; volume = volume i; file = file i }

pub is_file_id-refl : (a : FileId) → is_file_id a a ≡ true
is_file_id-refl a = grind (arith, nat_tests)

other_file : (a b : FileId) → is_file_id a b ≡ false → b ≢ a
other_file a b h same = true≢false (sym (subst (λ c. is_file_id a c ≡ true) (sym same) (is_file_id-refl a)) ∙ h)

-- of an entry that brings nothing, and of a letter that was served
copy_after-quiet : (j : List CellEntry) (e : CellEntry) (file : FileId) → stored_by_entry file e ≡ [] → copy_after (j ++ e ∷ []) file ≡ copy_after j file
copy_after-quiet j e file none =
    copy_after-append j (e ∷ []) file ∙ ap (fold newer_of (copy_after j file)) (append-nil (stored_by_entry file e) ∙ none)

brought_held : (c : StoredCopy) (b : Body) → fold newer_of c (stored_by_body b) ≡ held_after c b
brought_held c Ask = refl
brought_held c (Copy d) = refl
brought_held c (Store d) = refl
brought_held c Stored = refl

copy_after-served : (j : List CellEntry) (l r : Letter) (file : FileId) → copy_after (j ++ Served l r ∷ []) file ≡ (if is_file_id l.message.file file then held_after (copy_after j file) l.message.body else copy_after j file)
copy_after-served j l r file =
    elim (cases_Bool (is_file_id l.message.file file)) [
      | inl e ↦
          copy_after-append j (Served l r ∷ []) file ∙ (ap (fold newer_of (copy_after j file)) (append-nil (stored_by_entry file (Served l r)))
          ∙ rw e (brought_held (copy_after j file) l.message.body))
      | inr e ↦ rw e (copy_after-quiet j (Served l r) file (rw e refl))
    ]

-- ---- what a cell keeps

pub lawful-push : (server : ℕ) (before es : List CellEntry) (e : CellEntry) → LawfulAfter server before es → last_stamp_of (before ++ es) < stamp_of e → Follows server (before ++ es) e → LawfulAfter server before (es ++ e ∷ [])
lawful-push server before [] e h above follows =
    let P : List CellEntry → Type 0 = λ b. (last_stamp_of b < stamp_of e) × Follows server b e in
    let here : P before = subst P (append-nil before) (above, follows) in
    (here.0, here.1, tt)
lawful-push server before (x ∷ es) e h above follows =
    let P : List CellEntry → Type 0 = λ b. (last_stamp_of b < stamp_of e) × Follows server b e in
    let there : P ((before ++ x ∷ []) ++ es) = subst P (sym (append_assoc before (x ∷ []) es)) (above, follows) in
    (h.0, h.1, lawful-push server (before ++ x ∷ []) es e h.2 there.0 there.1)

few_more : (e : CellEntry) (last total : ℕ) → total ≤ last → last < stamp_of e → total + served_by e ≤ stamp_of e
few_more (Served l r) last total low above = omega arith
few_more (Stop t) last total low above = omega arith
few_more (Back t) last total low above = omega arith

-- one entry more
pub grown : (server : ℕ) (up : Bool) (last total : ℕ) (store store' : StoreCopies) (j j' : List CellEntry) (e : CellEntry) → Replays server up last total store j
    → j' ≡ j ++ e ∷ [] → last < stamp_of e → Follows server j e → ((file : FileId) → copy_at store' file ≡ copy_after (j ++ e ∷ []) file)
    → Replays server (up_after up e) (stamp_of e) (total + served_by e) store' j'
grown server up last total store store' j j' e is same above follows copies =
    subst (Replays server (up_after up e) (stamp_of e) (total + served_by e) store') (sym same) (record {
      lawful = lawful-push server [] j e is.lawful (subst (λ (n : ℕ). n < stamp_of e) is.stamp above) follows;
      copies = copies;
      flag = ap (λ (b : Bool). up_after b e) is.flag ∙ sym (up_from-push true j e);
      stamp = sym (last_from-push 0 j e);
      counted = ap (λ (n : ℕ). n + served_by e) is.counted ∙ sym (served-push j e);
      few = few_more e last total is.few above;
    })

-- a stop or a return
pub quiet : (server : ℕ) (up : Bool) (last total : ℕ) (store : StoreCopies) (j j' : List CellEntry) (e : CellEntry) → Replays server up last total store j
    → j' ≡ j ++ e ∷ [] → last < stamp_of e → Follows server j e → ((file : FileId) → stored_by_entry file e ≡ [])
    → Replays server (up_after up e) (stamp_of e) (total + served_by e) store j'
quiet server up last total store j j' e is same above follows none =
    grown server up last total store store j j' e is same above follows (λ file. is.copies file ∙ sym (copy_after-quiet j e file (none file)))

-- a letter that the store served
pub replied : (server : ℕ) (up : Bool) (last total : ℕ) (store store' : StoreCopies) (j j' : List CellEntry) (l : Letter) (stamp : ℕ) → Replays server up last total store j
    → j' ≡ j ++ Served l (answer_at server j stamp l) ∷ [] → last < stamp → l.stamp < stamp → is_up j ≡ true → l.message.server ≡ server → to_server l.message.body ≡ true
    → copy_at store' l.message.file ≡ held_after (copy_at store l.message.file) l.message.body
    → ((file : FileId) → file ≢ l.message.file → copy_at store' file ≡ copy_at store file)
    → Replays server up stamp (total + 1) store' j'
replied server up last total store store' j j' l stamp is same above seen up_is here asks put others =
    grown server up last total store store' j j' e is same above (record { here = here; asks = asks; up = up_is; answer = refl; above = seen }) at
  where
    e : CellEntry
    e = Served l (answer_at server j stamp l)

    at : (file : FileId) → copy_at store' file ≡ copy_after (j ++ e ∷ []) file
    at file =
        elim (cases_Bool (is_file_id l.message.file file)) [
          | inl q ↦
              let equal = same_file l.message.file file q in
              let stored : copy_at store' file ≡ held_after (copy_at store file) l.message.body = subst (λ f. copy_at store' f ≡ held_after (copy_at store f) l.message.body) equal put in
              stored ∙ (ap (λ c. held_after c l.message.body) (is.copies file) ∙ sym (copy_after-served j l (answer_at server j stamp l) file ∙ rw q refl))
          | inr q ↦ others file (other_file l.message.file file q) ∙ (is.copies file ∙ sym (copy_after-served j l (answer_at server j stamp l) file ∙ rw q refl))
        ]

-- ---- replies

-- a letter of the server at the stamp
abbrev pub letter_with : ℕ → ℕ → Message → Letter
letter_with server stamp message = record { place = server + 1; stamp = stamp; index = 0; message = message }

-- a store is acknowledged, whatever is held
pub server_reply-store : (held : StoredCopy) (m : Message) (c : StoredCopy) → m.body ≡ Store c → server_reply held m ≡ record m { body = Stored }
server_reply-store held m c is = ap (λ b. record m { body = answer_body held b }) is

-- ---- flags that differ

pub turned_on : (a b : Bool) → a ≢ b → b ≡ true → a ≡ false
turned_on true true apart is = absurd (apart refl)
turned_on false true apart is = refl
turned_on true false apart is = cc
turned_on false false apart is = refl

pub turned_off : (a b : Bool) → a ≢ b → b ≡ false → a ≡ true
turned_off true true apart is = refl
turned_off false true apart is = cc
turned_off true false apart is = refl
turned_off false false apart is = absurd (apart refl)
