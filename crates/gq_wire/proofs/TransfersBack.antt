-- The lines between a new node and others are read as they were written.
use Rattle.std.proofs.Common.{◌≡◌, ℕ, ◌+◌, ◌*◌, ◌^◌, ◌<◌, ◌≤◌, List, [], ◌∷◌, ◌++◌, length, Some, true, false, refl, sym, ap, ◌∙◌, arith, append_assoc, length-append}
use Rattle.std.specs.Prelude.{decimal, codes, nat_lt}
use Rattle.std.proofs.lemmas.Bool.{eq-eqb, lt-ltb, le-ltb}
use Rattle.gq_tag.specs.declared.FileId.{FileId}
use Rattle.gq_tag.specs.declared.TheConstants.{BLOCK_BYTES}
use Rattle.gq_desk.specs.CheckedPlan.{CheckedPlan, row_at}
use Rattle.gq_node.specs.declared.lost.TheConstants.{NODE_NUMBERS}
use Rattle.gq_node.specs.declared.output.Transfer.{Transfer}
use Rattle.gq_node.specs.declared.output.Transfer.TheVariants.{Wants, Brings}
use Rattle.gq_lines.specs.Words.{Word}
use Rattle.gq_lines.specs.Written.{spaced}
use Rattle.gq_text.specs.Canonical.{IsPlan, IsNumber}
use Rattle.gq_lines.proofs.Numbers.{numbers_read_back}
use Rattle.gq_lines.proofs.Plain.{is_plain, are_plain, decimal_plain, line_inner}
use Rattle.gq_lines.proofs.LinesBack.{words_back}
use Rattle.gq_wire.specs.Incoming.{longest_line, from_node, incoming_of_words}
use Rattle.gq_wire.specs.declared.incoming.Incoming.TheVariants.{Joins, Joined, Speaks}
use Rattle.gq_wire.specs.Fetching.{file_then}
use Rattle.gq_wire.specs.Texts.{copy_words, transfer_file, transfer_to, transfer_words}
use Rattle.gq_wire.specs.Laws.{FitsGiven, FitsTransfer, transfer_text, transfer_incoming, TransfersReadBack, AllJoinsReadBack, FormsReadBack}
use Rattle.gq_wire.proofs.ValuesBack.{copy_plain, copy_back, name_at, name_is_plain, place_back}
use Rattle.gq_wire.proofs.Lengths.{short_number, short_name, one_more, number_more, copy_short, fits_longest}
use Rattle.gq_wire.proofs.LettersBack.{no_tick, no_number}

-- ---- a line about a file

abbrev row_of : CheckedPlan → Transfer → ℕ
row_of plan transfer = (row_at plan (transfer_file transfer).tenant).most_blocks

words_plain : (blocks : ℕ) (transfer : Transfer) → (transfer_file transfer).volume < 2 ^ 32 → (transfer_file transfer).file < 2 ^ 32 → FitsGiven blocks transfer → are_plain (transfer_words transfer) ≡ true
words_plain blocks (Wants to file) v f given = rw (decimal_plain file.volume v, decimal_plain file.file f) refl
words_plain blocks (Brings to file copy) v f given = rw (decimal_plain file.volume v, decimal_plain file.file f) (copy_plain copy given.0)

words_short : (blocks : ℕ) (transfer : Transfer) → (transfer_file transfer).volume < 2 ^ 32 → (transfer_file transfer).file < 2 ^ 32 → FitsGiven blocks transfer →
    length (spaced (transfer_words transfer)) ≤ 64 + 2 * (BLOCK_BYTES * blocks)
words_short blocks (Wants to file) v f given =
    omega (arith, one_more (codes "fetch") (decimal file.volume ∷ decimal file.file ∷ []) 5 22 (omega arith) (number_more file.volume (decimal file.file ∷ []) 11 v (number_more file.file [] 0 f (omega arith))))
words_short blocks (Brings to file copy) v f given =
    let n : ℕ = BLOCK_BYTES * blocks in
    let content = copy_short n copy given.0 given.1 in
    let named = number_more file.volume (decimal file.file ∷ copy_words copy) (45 + 2 * n) v (omega (arith, number_more file.file (copy_words copy) (34 + 2 * n) f content)) in
    omega (arith, one_more (codes "fetched") (decimal file.volume ∷ decimal file.file ∷ copy_words copy) 7 (56 + 2 * n) (omega arith) (omega (arith, named)))

file_back : (t : ℕ) (file : FileId) (words : List Word) → file.tenant ≡ t → file.volume < 2 ^ 32 → file.file < 2 ^ 32 → file_then t (decimal file.volume ∷ decimal file.file ∷ words) ≡ Some (file, words)
unfolding file_then
file_back t file words own v f = rw (numbers_read_back file.volume v, numbers_read_back file.file f) (ap (λ x. Some (record { tenant = x; volume = file.volume; file = file.file }, words)) (sym own))

from_back : (plan : CheckedPlan) (from : ℕ) (transfer : Transfer) → IsPlan plan → FitsTransfer plan from transfer →
    from_node plan (transfer_to transfer) from ((row_at plan (transfer_file transfer).tenant).name ∷ transfer_words transfer) ≡ transfer_incoming from transfer
from_back plan from (Wants to file) is fits =
    rw (
      lt-ltb from NODE_NUMBERS fits.from_fits,
      no_tick to from,
      no_number (codes "joins") (row_at plan file.tenant).name (codes "fetch") (decimal file.volume) (decimal file.file ∷ []),
      no_number (codes "joined") (row_at plan file.tenant).name (codes "fetch") (decimal file.volume) (decimal file.file ∷ []),
      no_number (codes "speaks") (row_at plan file.tenant).name (codes "fetch") (decimal file.volume) (decimal file.file ∷ []),
      place_back plan file.tenant is fits.tenant,
      file_back file.tenant file [] refl fits.volume fits.file,
    ) refl
from_back plan from (Brings to file copy) is fits =
    rw (
      lt-ltb from NODE_NUMBERS fits.from_fits,
      no_tick to from,
      no_number (codes "joins") (row_at plan file.tenant).name (codes "fetched") (decimal file.volume) (decimal file.file ∷ copy_words copy),
      no_number (codes "joined") (row_at plan file.tenant).name (codes "fetched") (decimal file.volume) (decimal file.file ∷ copy_words copy),
      no_number (codes "speaks") (row_at plan file.tenant).name (codes "fetched") (decimal file.volume) (decimal file.file ∷ copy_words copy),
      place_back plan file.tenant is fits.tenant,
      file_back file.tenant file (copy_words copy) refl fits.volume fits.file,
      copy_back copy fits.given.0,
    ) refl

line_back : (plan : CheckedPlan) (from : ℕ) (transfer : Transfer) → IsPlan plan → FitsTransfer plan from transfer →
    incoming_of_words plan (transfer_to transfer) (decimal (transfer_to transfer) ∷ decimal from ∷ (row_at plan (transfer_file transfer).tenant).name ∷ transfer_words transfer) ≡ transfer_incoming from transfer
unfolding incoming_of_words
line_back plan from transfer is fits =
    rw (numbers_read_back (transfer_to transfer) fits.to_fits, eq-eqb (transfer_to transfer) (transfer_to transfer) refl, numbers_read_back from (omega (arith, fits.from_fits))) (from_back plan from transfer is fits)

others_plain : (plan : CheckedPlan) (from : ℕ) (transfer : Transfer) → IsPlan plan → FitsTransfer plan from transfer → are_plain (decimal from ∷ (row_at plan (transfer_file transfer).tenant).name ∷ transfer_words transfer) ≡ true
others_plain plan from transfer is fits =
    rw (decimal_plain from (omega (arith, fits.from_fits)), name_is_plain plan (transfer_file transfer).tenant is fits.tenant) (words_plain (row_of plan transfer) transfer fits.volume fits.file fits.given)

text_short : (plan : CheckedPlan) (from : ℕ) (transfer : Transfer) → IsPlan plan → FitsTransfer plan from transfer → length (transfer_text plan from transfer) ≤ longest_line plan
text_short plan from transfer is fits =
    let n : ℕ = BLOCK_BYTES * row_of plan transfer in
    let name : Word = (row_at plan (transfer_file transfer).tenant).name in
    let named = one_more name (transfer_words transfer) 16 (64 + 2 * n) (short_name name (name_at plan (transfer_file transfer).tenant is fits.tenant)) (words_short (row_of plan transfer) transfer fits.volume fits.file fits.given) in
    let sent = number_more from (name ∷ transfer_words transfer) (81 + 2 * n) (omega (arith, fits.from_fits)) (omega (arith, named)) in
    fits_longest plan (transfer_file transfer).tenant (length (transfer_text plan from transfer))
    (omega (arith, length-append (decimal (transfer_to transfer)) (spaced (decimal from ∷ name ∷ transfer_words transfer)), short_number (transfer_to transfer) fits.to_fits, sent))

pub transfers_read_back : TransfersReadBack
transfers_read_back plan from transfer is fits =
    let to : Word = decimal (transfer_to transfer) in
    let words : List Word = decimal from ∷ (row_at plan (transfer_file transfer).tenant).name ∷ transfer_words transfer in
    let first : is_plain to ≡ true = decimal_plain (transfer_to transfer) fits.to_fits in
    let others : are_plain words ≡ true = others_plain plan from transfer is fits in
    let short : nat_lt (longest_line plan) (length (transfer_text plan from transfer)) ≡ false = le-ltb (longest_line plan) (length (transfer_text plan from transfer)) (text_short plan from transfer is fits) in (
      sym (append_assoc to (spaced words) (10 ∷ [])),
      line_inner to words first others,
      rw short (ap (incoming_of_words plan (transfer_to transfer)) (words_back to words first others) ∙ line_back plan from transfer is fits),
    )

-- ---- whether a plan has the node

number_short : (plan : CheckedPlan) (to from losses : ℕ) (verb : Word) → length verb ≤ 6 → IsNumber to → from < NODE_NUMBERS → IsNumber losses → length (decimal to ++ spaced (decimal from ∷ verb ∷ decimal losses ∷ [])) ≤ longest_line plan
number_short plan to from losses verb few to_fits from_fits fits =
    let behind = one_more verb (decimal losses ∷ []) 6 11 few (number_more losses [] 0 fits (omega arith)) in
    omega (arith, length-append (decimal to) (spaced (decimal from ∷ verb ∷ decimal losses ∷ [])), short_number to to_fits, number_more from (verb ∷ decimal losses ∷ []) 18 (omega (arith, from_fits)) behind)

joins_back : (plan : CheckedPlan) (to from losses : ℕ) → IsNumber to → from < NODE_NUMBERS → IsNumber losses → incoming_of_words plan to (decimal to ∷ decimal from ∷ codes "joins" ∷ decimal losses ∷ []) ≡ Joins from losses
unfolding incoming_of_words
joins_back plan to from losses to_fits from_fits fits =
    rw (numbers_read_back to to_fits, eq-eqb to to refl, numbers_read_back from (omega (arith, from_fits)), lt-ltb from NODE_NUMBERS from_fits, no_tick to from, numbers_read_back losses fits) refl

joined_back : (plan : CheckedPlan) (to from losses : ℕ) → IsNumber to → from < NODE_NUMBERS → IsNumber losses → incoming_of_words plan to (decimal to ∷ decimal from ∷ codes "joined" ∷ decimal losses ∷ []) ≡ Joined from losses
unfolding incoming_of_words
joined_back plan to from losses to_fits from_fits fits =
    rw (numbers_read_back to to_fits, eq-eqb to to refl, numbers_read_back from (omega (arith, from_fits)), lt-ltb from NODE_NUMBERS from_fits, no_tick to from, numbers_read_back losses fits) refl

number_plain : (from losses : ℕ) (verb : Word) → is_plain verb ≡ true → from < NODE_NUMBERS → IsNumber losses → are_plain (decimal from ∷ verb ∷ decimal losses ∷ []) ≡ true
number_plain from losses verb plain from_fits fits = rw (decimal_plain from (omega (arith, from_fits)), plain, decimal_plain losses fits) refl

pub joins_read_back : AllJoinsReadBack
joins_read_back plan to from losses to_fits from_fits fits = record {
  asked =
      let line : List ℕ = decimal to ++ spaced (decimal from ∷ codes "joins" ∷ decimal losses ∷ []) in
      let short : nat_lt (longest_line plan) (length line) ≡ false = le-ltb (longest_line plan) (length line) (number_short plan to from losses (codes "joins") (omega arith) to_fits from_fits fits) in
      rw short (ap (incoming_of_words plan to) (words_back (decimal to) (decimal from ∷ codes "joins" ∷ decimal losses ∷ []) (decimal_plain to to_fits) (number_plain from losses (codes "joins") refl from_fits fits)) ∙ joins_back plan to from losses to_fits from_fits fits);
  answered =
      let line : List ℕ = decimal to ++ spaced (decimal from ∷ codes "joined" ∷ decimal losses ∷ []) in
      let short : nat_lt (longest_line plan) (length line) ≡ false = le-ltb (longest_line plan) (length line) (number_short plan to from losses (codes "joined") (omega arith) to_fits from_fits fits) in
      rw short (ap (incoming_of_words plan to) (words_back (decimal to) (decimal from ∷ codes "joined" ∷ decimal losses ∷ []) (decimal_plain to to_fits) (number_plain from losses (codes "joined") refl from_fits fits)) ∙ joined_back plan to from losses to_fits from_fits fits);
}

-- ---- the form of lines that a node speaks

speaks_back : (plan : CheckedPlan) (to from form : ℕ) → IsNumber to → from < NODE_NUMBERS → IsNumber form → incoming_of_words plan to (decimal to ∷ decimal from ∷ codes "speaks" ∷ decimal form ∷ []) ≡ Speaks from form
unfolding incoming_of_words
speaks_back plan to from form to_fits from_fits fits =
    rw (numbers_read_back to to_fits, eq-eqb to to refl, numbers_read_back from (omega (arith, from_fits)), lt-ltb from NODE_NUMBERS from_fits, no_tick to from, numbers_read_back form fits) refl

pub forms_read_back : FormsReadBack
forms_read_back plan to from form to_fits from_fits fits =
    let line : List ℕ = decimal to ++ spaced (decimal from ∷ codes "speaks" ∷ decimal form ∷ []) in
    let short : nat_lt (longest_line plan) (length line) ≡ false = le-ltb (longest_line plan) (length line) (number_short plan to from form (codes "speaks") (omega arith) to_fits from_fits fits) in
    rw short (ap (incoming_of_words plan to) (words_back (decimal to) (decimal from ∷ codes "speaks" ∷ decimal form ∷ []) (decimal_plain to to_fits) (number_plain from form (codes "speaks") refl from_fits fits)) ∙ speaks_back plan to from form to_fits from_fits fits)
