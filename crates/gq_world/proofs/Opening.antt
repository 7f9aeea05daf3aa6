-- A volume is opened, with its files at every server.
use Rattle.std.proofs.Common.{◌≡◌, ◌≢◌, ◌∙◌, ℕ, zero, suc, ◌+◌, ◌*◌, ◌<◌, ◌≤◌, List, [], ◌∷◌, length, refl, sym, ap, subst, Option, Some, None, arith, inl, inr, All, get_or, append-nil}
use Rattle.std.specs.Prelude.{slice_set, option_map, nat_lt, nat_le}
use Rattle.std.proofs.lemmas.Bool.{cases_Bool}
use Rattle.std.proofs.lemmas.Bool.Decides.{nat_tests}
use Rattle.std.proofs.lemmas.Option.{unwrap_or-slice_get}
use Rattle.std.proofs.lemmas.List.{get_or-set_same, get_or-set_other}
use Rattle.gq_tag.specs.Tag.{file_of, message_of}
use Rattle.gq_desk.specs.CheckedPlan.{row_at}
use Rattle.gq_desk.specs.declared.volumes.VolumeRow.{VolumeRow}
use Rattle.gq_desk.specs.Volumes.{OpenFault, Account, no_account, account_at, with_volume, open_fault, is_sized, blocks_of, free_of}
use Rattle.gq_store.specs.Copies.{StoreCopies, store_accounts, tenant_account}
use Rattle.gq_model.specs.declared.events.Line.TheVariants.{NewVolume}
use Rattle.gq_model.specs.Told.{Opened}
use Rattle.gq_model.specs.Trace.{Own, Known, own_message_at, counts_on}
use Rattle.gq_model.specs.Lone.{quiet, open_told}
use Rattle.gq_world.specs.Tables.{Tables, Agrees, IsReady, IsShaped, IsOfPlan, no_store, store_at}
use Rattle.gq_world.specs.Adding.{HasRoomForFiles, IsAdded, IsKept}
use Rattle.gq_world.specs.Machine.{Acts, TellsLine, acted, state_after_turn}
use Rattle.gq_world.proofs.BoundedSteps.{open_step, open_refused, refused_state}

-- ---- accounts with another one

set_here : (xs : List Account) (t : ℕ) (x : Account) → t < length xs → account_at (slice_set xs t x) t ≡ x
set_here xs t x within = unwrap_or-slice_get (slice_set xs t x) t no_account ∙ get_or-set_same xs t x no_account within

set_there : (xs : List Account) (t u : ℕ) (x : Account) → u ≢ t → account_at (slice_set xs t x) u ≡ account_at xs u
set_there xs t u x other = unwrap_or-slice_get (slice_set xs t x) u no_account ∙ get_or-set_other xs t u x no_account other ∙ sym (unwrap_or-slice_get xs u no_account)

-- ---- the tables

-- what opening the volume did to the desk and the stores
pub record Opens (w : Tables) (t files blocks : ℕ) (stores : List StoreCopies) : Type 0 where
  pub sound : open_fault (account_at w.desk t) (record { files = files; blocks = blocks }) ≡ None
  pub desk : t < length w.desk
  pub count : length w.stores ≡ w.plan.grid.rows * w.plan.grid.cols
  pub tenants : (s : ℕ) → s < length w.stores → t < length (store_accounts (store_at w.stores s))
  pub added : (s : ℕ) → s < length w.stores → IsAdded t files blocks (store_at w.stores s) (store_at stores s)

abbrev pub opened_tables : Tables → ℕ → ℕ → ℕ → List StoreCopies → Tables
opened_tables w t files blocks stores = record w { desk = slice_set w.desk t (with_volume (record { files = files; blocks = blocks }) (account_at w.desk t)); stores = stores }

opened_known : (w : Tables) (t files blocks : ℕ) (known : Known) → Agrees w t known → open_fault (account_at w.desk t) (record { files = files; blocks = blocks }) ≡ None →
    acted w.plan.grid (row_at w.plan t) known (NewVolume files blocks) ≡ record known { state = state_after_turn known.state (Own (NewVolume files blocks)) (quiet (Opened (length known.state.volumes))) }
opened_known w t files blocks known agrees sound =
    ap (λ step. record known { state = state_after_turn known.state (Own (NewVolume files blocks)) step }) (open_step w.plan.grid (row_at w.plan t) known (record { files = files; blocks = blocks }) None (rw agrees.account at sound))

opened_own : (w : Tables) (t files blocks : ℕ) (stores : List StoreCopies) (known : Known) → Opens w t files blocks stores → Agrees w t known →
    Agrees (opened_tables w t files blocks stores) t (record known { state = state_after_turn known.state (Own (NewVolume files blocks)) (quiet (Opened (length known.state.volumes))) })
opened_own w t files blocks stores known h agrees =
    let v : VolumeRow = record { files = files; blocks = blocks } in
    let a : Account = account_at w.desk t in
    let nothing = append-nil known.state.sent in
    record {
      lines = agrees.lines;
      up = agrees.up;
      gone = agrees.gone;
      account = set_here w.desk t (with_volume v a) h.desk ∙ ap (with_volume v) agrees.account;
      sent = agrees.sent ∙ ap length (sym nothing);
      lost = λ n past'. agrees.lost n (subst (λ l. length l ≤ n) nothing past');
      messages = λ n. agrees.messages n ∙ ap (λ l. option_map (message_of t) (own_message_at (record known.state { sent = l }) n)) (sym nothing);
      accounts = λ s within.
          let inside : s < length w.stores = let count = h.count in omega arith in
          let before : tenant_account (store_at w.stores s) t ≡ a = agrees.accounts s within in
          ap (λ accounts. account_at accounts t) (h.added s inside).accounts
          ∙ set_here (store_accounts (store_at w.stores s)) t (with_volume v (tenant_account (store_at w.stores s) t)) (h.tenants s inside)
          ∙ ap (with_volume v) before
          ∙ sym (set_here w.desk t (with_volume v a) h.desk);
      copies = λ s within file.
          let inside : s < length w.stores = let count = h.count in omega arith in
          (h.added s inside).copies (file_of t file) ∙ agrees.copies s within file;
      lacking = agrees.lacking;
      down = agrees.down;
      session_states = λ place within. let before = agrees.session_states place within in record { op = before.op; answered = λ busy server. before.answered busy server ∙ ap (λ l. counts_on l (place + 1) (known.state.session (place + 1)) server) (sym nothing); sits = before.sits };
    }

opened_other : (w : Tables) (t u files blocks : ℕ) (stores : List StoreCopies) (known : Known) → u ≢ t → Opens w t files blocks stores → Agrees w u known → Agrees (opened_tables w t files blocks stores) u known
opened_other w t u files blocks stores known other h agrees =
    let v : VolumeRow = record { files = files; blocks = blocks } in
    record {
      lines = agrees.lines;
      up = agrees.up;
      gone = agrees.gone;
      account = set_there w.desk t u (with_volume v (account_at w.desk t)) other ∙ agrees.account;
      sent = agrees.sent;
      lost = agrees.lost;
      messages = agrees.messages;
      accounts = λ s within.
          let inside : s < length w.stores = let count = h.count in omega arith in
          ap (λ accounts. account_at accounts u) (h.added s inside).accounts
          ∙ set_there (store_accounts (store_at w.stores s)) t u (with_volume v (tenant_account (store_at w.stores s) t)) other
          ∙ agrees.accounts s within
          ∙ sym (set_there w.desk t u (with_volume v (account_at w.desk t)) other);
      copies = λ s within file.
          let inside : s < length w.stores = let count = h.count in omega arith in
          (h.added s inside).copies (file_of u file) ∙ agrees.copies s within file;
      lacking = agrees.lacking;
      down = agrees.down;
      session_states = agrees.session_states;
    }

pub opened_acts : (w : Tables) (t files blocks : ℕ) (stores : List StoreCopies) → Opens w t files blocks stores → Acts w t (NewVolume files blocks) (opened_tables w t files blocks stores)
opened_acts w t files blocks stores h = record {
  plan = refl;
  own = λ known most bounded agrees. subst (Agrees (opened_tables w t files blocks stores) t) (sym (opened_known w t files blocks known agrees h.sound)) (opened_own w t files blocks stores known h agrees);
  others = λ u other known agrees. opened_other w t u files blocks stores known other h agrees;
  servers = refl;
  gone = refl;
}

pub open_tells : (w : Tables) (t files blocks : ℕ) (fault : Option OpenFault) → open_fault (account_at w.desk t) (record { files = files; blocks = blocks }) ≡ fault → TellsLine w t (NewVolume files blocks) (open_told (length (account_at w.desk t).volumes) fault)
open_tells w t files blocks fault is known agrees = rw (← is, agrees.account) refl

pub refused_acts : (w : Tables) (t files blocks : ℕ) (word : OpenFault) → open_fault (account_at w.desk t) (record { files = files; blocks = blocks }) ≡ Some word → Acts w t (NewVolume files blocks) w
refused_acts w t files blocks word is = record {
  plan = refl;
  own = λ known most bounded agrees.
      let v : VolumeRow = record { files = files; blocks = blocks } in
      let same : acted w.plan.grid (row_at w.plan t) known (NewVolume files blocks) ≡ known =
      ap (λ step. record known { state = state_after_turn known.state (Own (NewVolume files blocks)) step }) (open_step w.plan.grid (row_at w.plan t) known v (Some word) (rw agrees.account at is))
      ∙ ap (λ state. record known { state = state }) (refused_state known.state (NewVolume files blocks) (quiet (open_told (length known.state.volumes) (Some word))) (open_refused (length known.state.volumes) word)) in
      subst (Agrees w t) (sym same) agrees;
  others = λ u other known agrees. agrees;
  servers = refl;
  gone = refl;
}

-- ---- the conditions

fits_free : (a : Account) (v : VolumeRow) → open_fault a v ≡ None → blocks_of v ≤ free_of a
fits_free a v is = elim (cases_Bool (is_sized a.most_blocks v)) [
  | inr not_sized ↦ (let h = rw not_sized at is in absurd (cc))
  | inl sized ↦ (elim (cases_Bool (nat_le a.most_volumes (length a.volumes))) [
    | inl many ↦ (let h = rw (sized, many) at is in absurd (cc))
    | inr few ↦ (elim (cases_Bool (nat_lt (free_of a) (blocks_of v))) [
      | inl short ↦ (let h = rw (sized, few, short) at is in absurd (cc))
      | inr enough ↦ (grind (arith, nat_tests))
    ])
  ])
]

pub room_everywhere : (w : Tables) (t files blocks : ℕ) → IsReady w t → IsShaped w → t < length w.plan.rows → open_fault (account_at w.desk t) (record { files = files; blocks = blocks }) ≡ None → All (HasRoomForFiles t files blocks) w.stores
room_everywhere w t files blocks r shaped within sound s d inside =
    let v : VolumeRow = record { files = files; blocks = blocks } in
    let server : s < w.plan.grid.rows * w.plan.grid.cols = let count = shaped.servers in omega arith in
    let store : get_or w.stores s d ≡ store_at w.stores s = default w.stores s d _ inside in
    let count : length (store_accounts (store_at w.stores s)) ≡ length w.plan.rows = (shaped.stores s no_store inside).tenants in
    let tenants : t < length (store_accounts (store_at w.stores s)) = rw count within in
    subst (HasRoomForFiles t files blocks) (sym store) (record {
      tenant = tenants;
      share = subst (λ (a : Account). files * blocks ≤ free_of a) (sym (r.agrees.accounts s server)) (fits_free (account_at w.desk t) v sound);
    })
  where
    default : (xs : List StoreCopies) (i : ℕ) (d e : StoreCopies) → i < length xs → get_or xs i d ≡ get_or xs i e
    default [] i d e h = absurd (omega arith)
    default (x ∷ xs) zero d e h = refl
    default (x ∷ xs) (suc i) d e h = default xs i d e (omega arith)

pub opened_shaped : (old : Tables) (desk : List Account) (stores : List StoreCopies) → IsShaped old → length desk ≡ length old.desk → length stores ≡ length old.stores → ((s : ℕ) → IsKept (store_at old.stores s) (store_at stores s)) → IsShaped (record old { desk = desk; stores = stores })
opened_shaped old desk stores h same count kept = record {
  lines = h.lines;
  desk = same ∙ h.desk;
  channels = h.channels;
  servers = count ∙ h.servers;
  stores = λ k d inside.
      let before : k < length old.stores = omega arith in
      let was : IsOfPlan old.plan (store_at old.stores k) = h.stores k no_store before in
      let now : IsOfPlan old.plan (store_at stores k) = record { blocks = (kept k).blocks ∙ was.blocks; tenants = (kept k).tenants ∙ was.tenants } in
      subst (IsOfPlan old.plan) (All-default stores k d inside) now;
  tenants = h.tenants;
  session_states = h.session_states;
  sessions = h.sessions;
  grid = h.grid;
}
  where
    All-default : (xs : List StoreCopies) (i : ℕ) (d : StoreCopies) → i < length xs → get_or xs i no_store ≡ get_or xs i d
    All-default [] i d h = absurd (omega arith)
    All-default (x ∷ xs) zero d h = refl
    All-default (x ∷ xs) (suc i) d h = All-default xs i d (omega arith)
