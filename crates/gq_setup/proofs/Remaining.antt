-- What is left once tenants are gone can be opened and had as before.
use Rattle.std.proofs.Common.{◌≡◌, ◌≢◌, ℕ, zero, suc, ◌+◌, ◌<◌, drop, add-one, drop-cons, List, [], ◌∷◌, ◌++◌, length, get_or, Option, None, Bool, true, false, cond, refl, sym, ap, ◌∙◌, subst, arith, inl, inr, append-nil}
use Rattle.std.specs.Prelude.{◌==◌, ◌&&◌, not, nat_lt, filter, map, slice_set}
use Rattle.std.specs.List.{All}
use Rattle.std.proofs.lemmas.Bool.{eqb-true, cases_eq}
use Rattle.std.proofs.lemmas.List.{length-set, get_or-set_same, get_or-set_other}
use Rattle.std.proofs.lemmas.Option.{unwrap_or-slice_get}
use Rattle.gq_desk.specs.CheckedPlan.{CheckedPlan}
use Rattle.gq_desk.specs.declared.plans.TenantRow.{TenantRow}
use Rattle.gq_desk.specs.Volumes.{Account, account_at, new_account, no_account, open_fault, with_volume}
use Rattle.gq_lines.specs.Words.{Word}
use Rattle.gq_setup.specs.declared.openings.Opening.{Opening}
use Rattle.gq_setup.specs.declared.openings.ChunkRoom.{ChunkRoom}
use Rattle.gq_setup.specs.Laws.{WhatIsLeft}
use Rattle.gq_setup.specs.Setups.{accounts_of, volume_of, opening_fault, after_opening, after_openings, CanOpen, kib_of, can_have, CanHave, is_gone_at}

-- ---- volumes

other_account : (accounts : List Account) (place t : ℕ) (a : Account) → place ≢ t → account_at (slice_set accounts place a) t ≡ account_at accounts t
other_account accounts place t a other =
    unwrap_or-slice_get (slice_set accounts place a) t no_account ∙ get_or-set_other accounts place t a no_account (λ e. other (sym e)) ∙ sym (unwrap_or-slice_get accounts t no_account)

its_account : (accounts : List Account) (t : ℕ) (a : Account) → t < length accounts → account_at (slice_set accounts t a) t ≡ a
its_account accounts t a within = unwrap_or-slice_get (slice_set accounts t a) t no_account ∙ get_or-set_same accounts t a no_account within

-- the tenants that stay have the same by both
record Alike (stays : ℕ → Bool) (olds news : List Account) : Type 0 where
  count : length olds ≡ length news
  same : (t : ℕ) → stays t ≡ true → account_at olds t ≡ account_at news t

differ : (stays : ℕ → Bool) (o t : ℕ) → stays o ≡ false → stays t ≡ true → o ≢ t
differ stays o t gone there same = (let e : true ≡ false = sym there ∙ ap stays (sym same) ∙ gone in cc)

-- one more is open for a tenant that stays, in both
one_alike : (stays : ℕ → Bool) (olds news : List Account) (o : Opening) → Alike stays olds news → stays o.tenant ≡ true → o.tenant < length olds → Alike stays (after_opening olds o) (after_opening news o)
one_alike stays olds news o alike keeps within =
    let one : Account = with_volume (volume_of o) (account_at olds o.tenant) in
    let other : Account = with_volume (volume_of o) (account_at news o.tenant) in
    record {
      count = length-set olds o.tenant one ∙ alike.count ∙ sym (length-set news o.tenant other);
      same = λ t there. elim (cases_eq o.tenant t) [
        | inl is ↦ subst (λ u. account_at (after_opening olds o) u ≡ account_at (after_opening news o) u) is
            (its_account olds o.tenant one within ∙ ap (with_volume (volume_of o)) (alike.same o.tenant keeps) ∙ sym (its_account news o.tenant other (subst (λ n. o.tenant < n) alike.count within)))
        | inr not ↦ (other_account olds o.tenant t one not ∙ alike.same t there ∙ sym (other_account news o.tenant t other not))
      ];
    }

-- one more is open for a tenant that is gone, in the first
none_alike : (stays : ℕ → Bool) (olds news : List Account) (o : Opening) → Alike stays olds news → stays o.tenant ≡ false → Alike stays (after_opening olds o) news
none_alike stays olds news o alike gone =
    let one : Account = with_volume (volume_of o) (account_at olds o.tenant) in
    record {
      count = length-set olds o.tenant one ∙ alike.count;
      same = λ t there. other_account olds o.tenant t one (differ stays o.tenant t gone there) ∙ alike.same t there;
    }

can_left : (stays : ℕ → Bool) (olds news : List Account) (openings : List Opening) → Alike stays olds news → CanOpen olds openings → CanOpen news (filter (λ (o : Opening). stays o.tenant) openings)
can_left stays olds news [] alike can = tt
can_left stays olds news (o ∷ openings) alike can = by (stays o.tenant) refl (λ (others : List Account) (next : Alike stays (after_opening olds o) others). can_left stays (after_opening olds o) others openings next can.2)
  where
    more : List Opening
    more = filter (λ (o : Opening). stays o.tenant) openings

    by : (b : Bool) → stays o.tenant ≡ b → ((others : List Account) → Alike stays (after_opening olds o) others → CanOpen others more) → CanOpen news (cond b (o ∷ more) more)
    by true keeps rest = (
      subst (λ n. o.tenant < n) alike.count can.0,
      ap (λ a. open_fault a (volume_of o)) (sym (alike.same o.tenant keeps)) ∙ can.1,
      rest (after_opening news o) (one_alike stays olds news o alike keeps can.0),
    )
    by false gone rest = rest news (none_alike stays olds news o alike gone)

pub open_left : (gone : List Word) (plan : CheckedPlan) (accounts : List Account) (openings : List Opening) → CanOpen accounts openings → CanOpen accounts (filter (λ (o : Opening). not (is_gone_at gone plan o.tenant)) openings)
open_left gone plan accounts openings can = can_left (λ t. not (is_gone_at gone plan t)) accounts accounts openings (record { count = refl; same = λ t there. refl }) can

-- ---- what is left

after_alike : (stays : ℕ → Bool) (olds news : List Account) (openings : List Opening) → Alike stays olds news → CanOpen olds openings → Alike stays (after_openings olds openings) (after_openings news (filter (λ (o : Opening). stays o.tenant) openings))
after_alike stays olds news [] alike can = alike
after_alike stays olds news (o ∷ openings) alike can = by (stays o.tenant) refl (λ (others : List Account) (next : Alike stays (after_opening olds o) others). after_alike stays (after_opening olds o) others openings next can.2)
  where
    more : List Opening
    more = filter (λ (o : Opening). stays o.tenant) openings

    by : (b : Bool) → stays o.tenant ≡ b → ((others : List Account) → Alike stays (after_opening olds o) others → Alike stays (after_openings (after_opening olds o) openings) (after_openings others more)) →
        Alike stays (after_openings (after_opening olds o) openings) (after_openings news (cond b (o ∷ more) more))
    by true keeps rest = rest (after_opening news o) (one_alike stays olds news o alike keeps can.0)
    by false gone rest = rest news (none_alike stays olds news o alike gone)

-- nothing is opened for a tenant that is gone
untouched : (stays : ℕ → Bool) (t : ℕ) (accounts : List Account) (openings : List Opening) → stays t ≡ false → account_at (after_openings accounts (filter (λ (o : Opening). stays o.tenant) openings)) t ≡ account_at accounts t
untouched stays t accounts [] gone = refl
untouched stays t accounts (o ∷ openings) gone = by (stays o.tenant) refl (λ (others : List Account). untouched stays t others openings gone)
  where
    more : List Opening
    more = filter (λ (o : Opening). stays o.tenant) openings

    by : (b : Bool) → stays o.tenant ≡ b → ((others : List Account) → account_at (after_openings others more) t ≡ account_at others t) → account_at (after_openings accounts (cond b (o ∷ more) more)) t ≡ account_at accounts t
    by true keeps rest =
        rest (after_opening accounts o)
        ∙ other_account accounts o.tenant t (with_volume (volume_of o) (account_at accounts o.tenant)) (λ same. differ stays t o.tenant gone keeps (sym same))
    by false other rest = rest accounts

none_yet : (rows : List TenantRow) (t : ℕ) → (get_or (map new_account rows) t no_account).volumes ≡ []
none_yet [] t = refl
none_yet (row ∷ rows) zero = refl
none_yet (row ∷ rows) (suc t) = none_yet rows t

-- of volumes that can be opened one behind another the first so many are open
pub record OpensRest (start : List Account) (openings : List Opening) (done : ℕ) (desk : List Account) : Type 0 where
  pub can : CanOpen desk (drop done openings)
  pub rest : after_openings desk (drop done openings) ≡ after_openings start openings

pub next_opens : (start : List Account) (openings : List Opening) (done : ℕ) (desk next : List Account) (d : Opening) → OpensRest start openings done desk → done < length openings → next ≡ after_opening desk (get_or openings done d) →
    OpensRest start openings (done + 1) next
next_opens start openings done desk next d opens less is =
    let cut : drop done openings ≡ get_or openings done d ∷ drop (done + 1) openings = rw (add-one) (drop-cons openings done d less) in
    record {
      can = subst (λ a. CanOpen a (drop (done + 1) openings)) (sym is) (subst (CanOpen desk) cut opens.can).2;
      rest = ap (λ a. after_openings a (drop (done + 1) openings)) is ∙ sym (ap (after_openings desk) cut) ∙ opens.rest;
    }

-- the next one can be opened
pub next_can : (start : List Account) (openings : List Opening) (done : ℕ) (desk : List Account) (d : Opening) → OpensRest start openings done desk → done < length openings → CanOpen desk (get_or openings done d ∷ drop (done + 1) openings)
next_can start openings done desk d opens less =
    let cut : drop done openings ≡ get_or openings done d ∷ drop (done + 1) openings = rw (add-one) (drop-cons openings done d less) in
    subst (CanOpen desk) cut opens.can

-- each is of a tenant that is there
there_from : (n : ℕ) (accounts : List Account) (openings : List Opening) → length accounts ≡ n → CanOpen accounts openings → (k : ℕ) (d : Opening) → k < length openings → (get_or openings k d).tenant < n
there_from n accounts [] same can k d less = absurd (omega arith)
there_from n accounts (o ∷ openings) same can zero d less = subst (λ m. o.tenant < m) same can.0
there_from n accounts (o ∷ openings) same can (suc k) d less =
    there_from n (after_opening accounts o) openings (length-set accounts o.tenant (with_volume (volume_of o) (account_at accounts o.tenant)) ∙ same) can.2 k d (omega arith)

pub all_open_there : (n : ℕ) (accounts : List Account) (openings : List Opening) → length accounts ≡ n → CanOpen accounts openings → All (λ (o : Opening). o.tenant < n) openings
all_open_there n accounts openings same can = there_from n accounts openings same can

-- ---- room for chunks

abbrev of_those : (stays : ℕ → Bool) → List ChunkRoom → List ChunkRoom
of_those stays rooms = filter (λ (room : ChunkRoom). stays room.tenant) rooms

-- a tenant that stays has what it had
kib_left : (stays : ℕ → Bool) (rooms : List ChunkRoom) (t : ℕ) → stays t ≡ true → kib_of (of_those stays rooms) t ≡ kib_of rooms t
kib_left stays [] t there = refl
kib_left stays (room ∷ rooms) t there = by (stays room.tenant) refl (room.tenant == t) refl (kib_left stays rooms t there)
  where
    more : List ChunkRoom
    more = of_those stays rooms

    by : (k : Bool) → stays room.tenant ≡ k → (its : Bool) → (room.tenant == t) ≡ its → kib_of more t ≡ kib_of rooms t → kib_of (cond k (room ∷ more) more) t ≡ cond its room.kib (kib_of rooms t)
    by true keeps true is rest = ap (λ b. cond b room.kib (kib_of more t)) is
    by true keeps false is rest = ap (λ b. cond b room.kib (kib_of more t)) is ∙ rest
    by false gone true is rest = absurd (differ stays room.tenant t gone there (eqb-true room.tenant t is))
    by false gone false is rest = rest

-- and who went has none
kib_gone : (stays : ℕ → Bool) (rooms : List ChunkRoom) (t : ℕ) → stays t ≡ false → kib_of (of_those stays rooms) t ≡ 0
kib_gone stays [] t went = refl
kib_gone stays (room ∷ rooms) t went = by (stays room.tenant) refl (room.tenant == t) refl (kib_gone stays rooms t went)
  where
    more : List ChunkRoom
    more = of_those stays rooms

    by : (k : Bool) → stays room.tenant ≡ k → (its : Bool) → (room.tenant == t) ≡ its → kib_of more t ≡ 0 → kib_of (cond k (room ∷ more) more) t ≡ 0
    by true keeps true is rest = absurd (differ stays t room.tenant went keeps (sym (eqb-true room.tenant t is)))
    by true keeps false is rest = ap (λ b. cond b room.kib (kib_of more t)) is ∙ rest
    by false left its is rest = rest

one_kept : (stays : ℕ → Bool) (before : List ChunkRoom) (room : ChunkRoom) → of_those stays (before ++ room ∷ []) ≡ of_those stays before ++ of_those stays (room ∷ [])
one_kept stays [] room = refl
one_kept stays (x ∷ before) room = by (stays x.tenant) (one_kept stays before room)
  where
    by : (k : Bool) → of_those stays (before ++ room ∷ []) ≡ of_those stays before ++ of_those stays (room ∷ []) →
        cond k (x ∷ of_those stays (before ++ room ∷ [])) (of_those stays (before ++ room ∷ [])) ≡ cond k (x ∷ of_those stays before) (of_those stays before) ++ of_those stays (room ∷ [])
    by true rest = ap (λ rooms. x ∷ rooms) rest
    by false rest = rest

had_of_those : (stays : ℕ → Bool) (plan : CheckedPlan) (before rooms : List ChunkRoom) → CanHave plan before rooms → CanHave plan (of_those stays before) (of_those stays rooms)
had_of_those stays plan before [] can = tt
had_of_those stays plan before (room ∷ rooms) can = by (stays room.tenant) refl (had_of_those stays plan (before ++ room ∷ []) rooms can.3)
  where
    more : List ChunkRoom
    more = of_those stays rooms

    behind : (k : Bool) → stays room.tenant ≡ k → of_those stays (before ++ room ∷ []) ≡ of_those stays before ++ cond k (room ∷ []) []
    behind k is = one_kept stays before room ∙ ap (λ b. of_those stays before ++ cond b (room ∷ []) []) is

    by : (k : Bool) → stays room.tenant ≡ k → CanHave plan (of_those stays (before ++ room ∷ [])) more → CanHave plan (of_those stays before) (cond k (room ∷ more) more)
    by true keeps later = (can.0, can.1, ap (λ n. nat_lt 0 room.kib && n == 0) (kib_left stays before room.tenant keeps) ∙ can.2, subst (λ b. CanHave plan b more) (behind true keeps) later)
    by false gone later = subst (λ b. CanHave plan b more) (behind false gone ∙ append-nil (of_those stays before)) later

pub had_left : (gone : List Word) (plan : CheckedPlan) (rooms : List ChunkRoom) → CanHave plan [] rooms → CanHave plan [] (filter (λ (room : ChunkRoom). not (is_gone_at gone plan room.tenant)) rooms)
had_left gone plan rooms can = had_of_those (λ t. not (is_gone_at gone plan t)) plan [] rooms can

-- ---- the law

pub what_is_left : WhatIsLeft
what_is_left setup gone t can = record {
  stays = λ stays. sym ((after_alike (λ u. not (is_gone_at gone setup.plan u)) (accounts_of setup.plan) (accounts_of setup.plan) setup.openings (record { count = refl; same = λ u there. refl }) can).same t (ap not stays));
  goes = λ is.
      ap (λ (a : Account). a.volumes) (untouched (λ u. not (is_gone_at gone setup.plan u)) t (accounts_of setup.plan) setup.openings (ap not is) ∙ unwrap_or-slice_get (accounts_of setup.plan) t no_account)
      ∙ none_yet setup.plan.rows t;
  room_stays = λ stays. kib_left (λ u. not (is_gone_at gone setup.plan u)) setup.rooms t (ap not stays);
  room_goes = λ is. kib_gone (λ u. not (is_gone_at gone setup.plan u)) setup.rooms t (ap not is);
}
