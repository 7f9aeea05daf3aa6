-- A volume is opened.
use Rattle.std.proofs.Common.{◌≡◌, ◌≢◌, ◌∙◌, ℕ, zero, suc, ◌+◌, ◌<◌, ◌≤◌, List, [], ◌∷◌, ◌++◌, length, refl, sym, ap, subst, None, arith, inl, inr}
use Rattle.std.specs.Prelude.{slice_get, slice_set, slice_index_or, nat_lt, nat_le}
use Rattle.std.proofs.lemmas.Bool.{cases_Bool, cases_eq, cases_lt, and_parts, leb-true}
use Rattle.std.proofs.lemmas.Bool.Decides.{nat_tests}
use Rattle.std.proofs.lemmas.Option.{unwrap_or-slice_get}
use Rattle.std.proofs.lemmas.List.{get_or-set_same, get_or-set_other, length-set, length-append}
use Rattle.gq_tag.specs.declared.FileId.{FileId}
use Rattle.gq_tag.specs.declared.TheConstants.{MOST_FILES}
use Rattle.gq_desk.specs.Plans.{is_in}
use Rattle.gq_tag.specs.Tag.{file_of}
use Rattle.gq_desk.specs.declared.volumes.VolumeRow.{VolumeRow}
use Rattle.gq_desk.specs.declared.limits.TheConstants.{MOST_VOLUMES}
use Rattle.gq_desk.specs.Volumes.{Account, no_account, account_at, with_volume, open_fault, is_sized, blocks_of, free_of}
use Rattle.gq_store.specs.Copies.{StoreCopies, store_accounts, tenant_account, copy_at}
use Rattle.gq_node.specs.Opening.{Opens}
use Rattle.gq_node.specs.Shape.{IsShaped}
use Rattle.gq_node.proofs.Lacking.{marks_there, marks_past}
use Rattle.gq_model.specs.Trace.{files_of}
use Rattle.gq_node.specs.Lacks.{marks_for}
use Rattle.gq_node.specs.Tables.{Tables, given_at}

set_here : (xs : List Account) (t : ℕ) (x : Account) → t < length xs → account_at (slice_set xs t x) t ≡ x
set_here xs t x within = unwrap_or-slice_get (slice_set xs t x) t no_account ∙ get_or-set_same xs t x no_account within

set_there : (xs : List Account) (t u : ℕ) (x : Account) → u ≢ t → account_at (slice_set xs t x) u ≡ account_at xs u
set_there xs t u x other = unwrap_or-slice_get (slice_set xs t x) u no_account ∙ get_or-set_other xs t u x no_account other ∙ sym (unwrap_or-slice_get xs u no_account)

-- the tables with the volume
abbrev pub opened_tables : Tables → ℕ → VolumeRow → StoreCopies → Tables
opened_tables w t row store = record w { desk = slice_set w.desk t (with_volume row (account_at w.desk t)); store = store }

pub open_opens : (w : Tables) (t : ℕ) (row : VolumeRow) (store : StoreCopies) → t < length w.desk → open_fault (account_at w.desk t) row ≡ None → ((file : FileId) → copy_at store file ≡ copy_at w.store file) →
    Opens w t row (opened_tables w t row store)
open_opens w t row store within sound copies = record {
  plan = refl;
  here = refl;
  sound = sound;
  own = λ local agrees. record {
    account = set_here w.desk t (with_volume row (account_at w.desk t)) within ∙ ap (with_volume row) agrees.account;
    copies = λ file. copies (file_of t file) ∙ agrees.copies file;
    lacks = agrees.lacks;
    joined = agrees.joined;
    peer = agrees.peer;
    session_states = agrees.session_states;
  };
  others = λ u other local agrees. record {
    account = set_there w.desk t u (with_volume row (account_at w.desk t)) other ∙ agrees.account;
    copies = λ file. copies (file_of u file) ∙ agrees.copies file;
    lacks = agrees.lacks;
    joined = agrees.joined;
    peer = agrees.peer;
    session_states = agrees.session_states;
  };
}

-- the volume fits
pub fits_free : (a : Account) (v : VolumeRow) → open_fault a v ≡ None → blocks_of v ≤ free_of a
fits_free a v is = elim (cases_Bool (is_sized a.most_blocks v)) [
  | inr not_sized ↦ (let h = rw not_sized at is in absurd (cc))
  | inl sized ↦ (elim (cases_Bool (nat_le a.most_volumes (length a.volumes))) [
    | inl many ↦ (let h = rw (sized, many) at is in absurd (cc))
    | inr few ↦ (elim (cases_Bool (nat_lt (free_of a) (blocks_of v))) [
      | inl short ↦ (let h = rw (sized, few, short) at is in absurd (cc))
      | inr enough ↦ (grind (arith, nat_tests))
    ])
  ])
]

-- with the volume a tenant has no more than it may
opened_few : (desk : List Account) (t : ℕ) (row : VolumeRow) → t < length desk → length (account_at desk t).volumes < MOST_VOLUMES → ((u : ℕ) → length (account_at desk u).volumes ≤ MOST_VOLUMES) →
    (u : ℕ) → length (account_at (slice_set desk t (with_volume row (account_at desk t))) u).volumes ≤ MOST_VOLUMES
opened_few desk t row within room few u = elim (cases_eq u t) [
  | inr other ↦ (subst (λ (a : Account). length a.volumes ≤ MOST_VOLUMES) (sym (set_there desk t u (with_volume row (account_at desk t)) other)) (few u))
  | inl same ↦ (
      let here : length (with_volume row (account_at desk t)).volumes ≤ MOST_VOLUMES = omega (arith, length-append (account_at desk t).volumes (row ∷ []), room) in
      let there : length (account_at (slice_set desk t (with_volume row (account_at desk t))) t).volumes ≤ MOST_VOLUMES = subst (λ (a : Account). length a.volumes ≤ MOST_VOLUMES) (sym (set_here desk t (with_volume row (account_at desk t)) within)) here in
      subst (λ x. length (account_at (slice_set desk t (with_volume row (account_at desk t))) x).volumes ≤ MOST_VOLUMES) (sym same) there)
]

-- it has no more files than it may
files_few : (a : Account) (v : VolumeRow) → open_fault a v ≡ None → v.files ≤ MOST_FILES
files_few a v is = elim (cases_Bool (is_sized a.most_blocks v)) [
  | inr not_sized ↦ (let h = rw not_sized at is in absurd (cc))
  | inl sized ↦ (
      let files = and_parts (is_in 1 MOST_FILES v.files) (is_in 1 a.most_blocks v.blocks) sized in
      leb-true v.files MOST_FILES (and_parts (nat_le 1 v.files) (nat_le v.files MOST_FILES) files.0).1)
]

-- so that of no volume more files have to be marked than before
slice_front : (rows : List VolumeRow) (row : VolumeRow) (v : ℕ) → v < length rows → slice_get (rows ++ row ∷ []) v ≡ slice_get rows v
slice_front [] row v low = absurd (omega (arith, low))
slice_front (first ∷ rows) row zero low = refl
slice_front (first ∷ rows) row (suc v) low = slice_front rows row v (omega (arith, low))

files_front : (rows : List VolumeRow) (row : VolumeRow) (v : ℕ) → v < length rows → files_of (rows ++ row ∷ []) v ≡ files_of rows v
files_front rows row v low = rw (slice_front rows row v low) refl

files_last : (rows : List VolumeRow) (row : VolumeRow) → files_of (rows ++ row ∷ []) (length rows) ≡ row.files
files_last [] row = refl
files_last (first ∷ rows) row = files_last rows row

marks_grow : (rows : List VolumeRow) (row : VolumeRow) (v : ℕ) → row.files ≤ MOST_FILES → marks_for (rows ++ row ∷ []) v ≤ marks_for rows v
marks_grow rows row v few = elim (cases_lt v (length rows)) [
  | inl low ↦ (omega (arith, marks_there rows v low, marks_there (rows ++ row ∷ []) v (omega (arith, low, long)), files_front rows row v low))
  | inr past ↦ (elim (cases_eq v (length rows)) [
    | inl last ↦ (
        let its : marks_for (rows ++ row ∷ []) v ≡ row.files = marks_there (rows ++ row ∷ []) v (omega (arith, last, long)) ∙ ap (files_of (rows ++ row ∷ [])) last ∙ files_last rows row in
        omega (arith, its, few, marks_past rows v past))
    | inr beyond ↦ (omega (arith, marks_past rows v past, marks_past (rows ++ row ∷ []) v (omega (arith, past, beyond, long))))
  ])
]
  where
    long : length (rows ++ row ∷ []) ≡ length rows + 1
    long = length-append rows (row ∷ [])

pub opened_shaped : (w : Tables) (t : ℕ) (row : VolumeRow) (store : StoreCopies) → IsShaped w → t < length w.desk → open_fault (account_at w.desk t) row ≡ None → length (account_at w.desk t).volumes < MOST_VOLUMES →
    store_accounts store ≡ slice_set (store_accounts w.store) t (with_volume row (tenant_account w.store t)) → ((file : FileId) → copy_at store file ≡ copy_at w.store file) → IsShaped (opened_tables w t row store)
opened_shaped w t row store h within sound room added copies = record {
  place = h.place;
  few = h.few;
  grid = h.grid;
  desk = length-set w.desk t (with_volume row (account_at w.desk t)) ∙ h.desk;
  accounts = added ∙ ap (λ accounts. slice_set accounts t (with_volume row (account_at accounts t))) h.accounts;
  volumes = opened_few w.desk t row within room h.volumes;
  given = h.given;
  whole = h.whole;
  bare = λ u f lacks. copies (file_of u f) ∙ h.bare u f lacks;
  few_given = h.few_given;
  marks = λ u v below. elim (cases_eq u t) [
    | inl same ↦ (
        let before = h.marks t v (subst (λ n. v < length (given_at w n)) same below) in
        let now : marks_for ((account_at w.desk t).volumes ++ row ∷ []) v ≤ length (slice_index_or (given_at w t) v []) = omega (arith, before, marks_grow (account_at w.desk t).volumes row v (files_few (account_at w.desk t) row sound)) in
        subst (λ n. marks_for (account_at (slice_set w.desk t (with_volume row (account_at w.desk t))) n).volumes v ≤ length (slice_index_or (given_at w n) v [])) (sym same)
        (subst (λ (a : Account). marks_for a.volumes v ≤ length (slice_index_or (given_at w t) v [])) (sym (set_here w.desk t (with_volume row (account_at w.desk t)) within)) now))
    | inr other ↦ (subst (λ (a : Account). marks_for a.volumes v ≤ length (slice_index_or (given_at w u) v [])) (sym (set_there w.desk t u (with_volume row (account_at w.desk t)) other)) (h.marks u v below))
  ];
  peers = h.peers;
  grid_peers = h.grid_peers;
  tenants = h.tenants;
  session_states = h.session_states;
  sessions = h.sessions;
}
