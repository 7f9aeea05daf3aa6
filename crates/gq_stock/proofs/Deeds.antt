-- Deed by deed.
use Rattle.std.proofs.Common.{◌≡◌, ◌≢◌, ◌≤◌, ◌<◌, ℕ, Bool, true, false, List, [], ◌∷◌, Option, Some, None, refl, sym, ap, subst, ◌∙◌, arith, length}
use Rattle.std.specs.Prelude.{◌==◌, is_some, if◌then◌else◌, max, IsSome}
use Rattle.std.proofs.lemmas.Bool.{not-true, true≢false, eqb-true, eq-eqb}
use Rattle.std.proofs.lemmas.Option.{none-some, same_Some}
use Rattle.gq_ledger.specs.Steps.{Book, Keeps, Leads, may_keep}
use Rattle.gq_stock.specs.Held.{Held, content_of}
use Rattle.gq_stock.specs.Finding.{FoundAs}
use Rattle.gq_stock.specs.Keeping.{KeptAs, ToldAs}
use Rattle.gq_stock.specs.Forgetting.{is_in_any}
use Rattle.gq_stock.specs.Deeds.{Deed, IsKept, IsFound, AreForgotten, IsGiven, AreMoved, Does, Ran, is_kept, gives_none, leaves, all_are, kept_now, content_now}
use Rattle.gq_stock.specs.Charge.{charge_of}
use Rattle.gq_stock.specs.Laws.{IsThese, IsEmpty, ToldIsKept, KeptUntilForgotten, Once, BelowTheFloor, RoomIsExact}
use Rattle.gq_stock.specs.declared.finding.Found.{Found}
use Rattle.gq_stock.specs.declared.finding.Found.TheVariants.{Nothing, There, Damaged as Spoilt}
use Rattle.gq_stock.specs.declared.keeping.Keeping.{Keeping}
use Rattle.gq_stock.specs.declared.keeping.Keeping.TheVariants.{New, Same, Differs, Damaged, Below, Full, NoSpace}

-- ---- a book in which something is new

-- these bytes, told or not
abbrev pub held_of : List ℕ → Bool → Held
held_of bytes is_sure = record { bytes = bytes; is_sure = is_sure }

-- what is there behind a new content
pub new_there : (old new : Book Held) (m n : ℕ) (held : Held) → old.at m ≡ None → old.floor < m → Leads old (Keeps m held) new → new.at n ≡ (if n == m then Some held else old.at n)
new_there old new m n held none above leads =
    let may : may_keep old m ≡ true = grind (arith, none) in
    leads.at n ∙ ap (λ (b : Bool). (if b then record { at = λ k. if k == m then Some held else old.at k; floor = old.floor } else old).at n) may

pub new_floor : (old new : Book Held) (m : ℕ) (held : Held) → Leads old (Keeps m held) new → new.floor ≡ old.floor
new_floor old new m held leads = leads.floor ∙ by (may_keep old m)
  where
    by : (b : Bool) → (if b then record { at = λ k. if k == m then Some held else old.at k; floor = old.floor } else old).floor ≡ old.floor
    by true = refl
    by false = refl

pub content_if : (b : Bool) (held : Held) (o : Option Held) → content_of (if b then Some held else o) ≡ (if b then Some held.bytes else content_of o)
content_if true held o = refl
content_if false held o = refl

forgot_if : (b : Bool) (o : Option Held) → content_of (if b then None else o) ≡ (if b then None else content_of o)
forgot_if true o = refl
forgot_if false o = refl

kept_new : (b : Bool) (bytes : List ℕ) (o : Option (List ℕ)) → (if b then Some bytes else o) ≡ kept_now New b bytes o
kept_new true bytes o = refl
kept_new false bytes o = refl

-- what is none is no content
pub no_content : (o : Option Held) (bytes : List ℕ) → o ≡ None → content_of o ≡ Some bytes → ⊥
no_content o bytes none is = none-some bytes (sym (ap content_of none) ∙ is)

pub no_some : (o : Option Held) → o ≡ None → IsSome o → ⊥
no_some o none is = true≢false (sym is ∙ ap is_some none)

pub same≢new : Same ≢ New
same≢new e = cc

pub differs≢new : Differs ≢ New
differs≢new e = cc

pub damaged≢new : Damaged ≢ New
damaged≢new e = cc

pub below≢new : Below ≢ New
below≢new e = cc

pub full≢new : Full ≢ New
full≢new e = cc

pub space≢new : NoSpace ≢ New
space≢new e = cc

-- the content under a number in a book that is another one
pub content_in : (n : ℕ) (new old : Book Held) (o : Option (List ℕ)) → new ≡ old → content_of (old.at n) ≡ o → content_of (new.at n) ≡ o
content_in n new old o same is = ap (λ (b : Book Held). content_of (b.at n)) same ∙ is

-- ---- what is told is what was kept

one : (deed : Deed) (b now : Book Held) (n : ℕ) (before : List Deed) → Does b deed now → content_of (b.at n) ≡ content_now n before → content_of (now.at n) ≡ content_now n (deed ∷ before)
one (IsKept m bytes is_sure free told) b now n before does rest = by told does
  where
    by : (t : Keeping) → KeptAs b m bytes is_sure free t now → content_of (now.at n) ≡ kept_now t (n == m) bytes (content_now n before)
    by New k =
        ap content_of (new_there b now m n (held_of bytes is_sure) k.told_so.0 k.told_so.1 (k.leads refl))
        ∙ (content_if (n == m) (held_of bytes is_sure) (b.at n)
        ∙ (ap (λ (o : Option (List ℕ)). if n == m then Some bytes else o) rest ∙ kept_new (n == m) bytes (content_now n before)))
    by Same k = content_in n now b (content_now n before) (k.same same≢new) rest
    by Differs k = content_in n now b (content_now n before) (k.same differs≢new) rest
    by Damaged k = content_in n now b (content_now n before) (k.same damaged≢new) rest
    by Below k = content_in n now b (content_now n before) (k.same below≢new) rest
    by Full k = content_in n now b (content_now n before) (k.same full≢new) rest
    by NoSpace k = content_in n now b (content_now n before) (k.same space≢new) rest
one (IsFound m found) b now n before does rest = content_in n now b (content_now n before) does.1 rest
one (AreForgotten floor runs) b now n before does rest = ap content_of (does.at n) ∙ (forgot_if (is_in_any n runs) (b.at n) ∙ ap (λ (o : Option (List ℕ)). if is_in_any n runs then None else o) rest)
one (IsGiven m bytes) b now n before does rest = ap content_of (does.at n) ∙ (content_if (n == m) (held_of bytes true) (b.at n) ∙ ap (λ (o : Option (List ℕ)). if n == m then Some bytes else o) rest)
one AreMoved b now n before does rest = ap content_of (does.at n) ∙ rest

all : (deeds : List Deed) (first now : Book Held) (n : ℕ) → IsEmpty first → Ran first deeds now → content_of (now.at n) ≡ content_now n deeds
all [] first now n empty ran = ap (λ (b : Book Held). content_of (b.at n)) ran ∙ ap content_of (empty n)
all (deed ∷ before) first now n empty (b, ran, does) = one deed b now n before does (all before first b n empty ran)

pub told_is_kept : ToldIsKept
told_is_kept first now after deeds n bytes empty ran does = sym (all deeds first now n empty ran) ∙ does.0 tt

-- ---- what is kept stays

stay : (deed : Deed) (b now : Book Held) (n : ℕ) (bytes : List ℕ) → leaves n deed ≡ true → content_of (b.at n) ≡ Some bytes → Does b deed now → content_of (now.at n) ≡ Some bytes
stay (IsKept m others is_sure free told) b now n bytes leave is does = by told does
  where
    over : (k : KeptAs b m others is_sure free New now) (t : Bool) → (n == m) ≡ t → content_of (if t then Some (held_of others is_sure) else b.at n) ≡ Some bytes
    over k true e = absurd (no_content (b.at n) bytes (subst (λ (i : ℕ). b.at i ≡ None) (sym (eqb-true n m e)) k.told_so.0) is)
    over k false e = is

    by : (t : Keeping) → KeptAs b m others is_sure free t now → content_of (now.at n) ≡ Some bytes
    by New k = ap content_of (new_there b now m n (held_of others is_sure) k.told_so.0 k.told_so.1 (k.leads refl)) ∙ over k (n == m) refl
    by Same k = content_in n now b (Some bytes) (k.same same≢new) is
    by Differs k = content_in n now b (Some bytes) (k.same differs≢new) is
    by Damaged k = content_in n now b (Some bytes) (k.same damaged≢new) is
    by Below k = content_in n now b (Some bytes) (k.same below≢new) is
    by Full k = content_in n now b (Some bytes) (k.same full≢new) is
    by NoSpace k = content_in n now b (Some bytes) (k.same space≢new) is
stay (IsFound m found) b now n bytes leave is does = content_in n now b (Some bytes) does.1 is
stay (AreForgotten floor runs) b now n bytes leave is does = ap content_of (does.at n ∙ ap (λ (t : Bool). if t then None else b.at n) (not-true (is_in_any n runs) leave)) ∙ is
stay (IsGiven m others) b now n bytes leave is does = ap content_of (does.at n ∙ ap (λ (t : Bool). if t then Some (held_of others true) else b.at n) (not-true (n == m) leave)) ∙ is
stay AreMoved b now n bytes leave is does = ap content_of (does.at n) ∙ is

stays : (deeds : List Deed) (b now : Book Held) (n : ℕ) (bytes : List ℕ) → all_are (leaves n) deeds → content_of (b.at n) ≡ Some bytes → Ran b deeds now → content_of (now.at n) ≡ Some bytes
stays [] b now n bytes leave is ran = content_in n now b (Some bytes) ran is
stays (deed ∷ before) b now n bytes leave is (mid, ran, does) = stay deed mid now n bytes leave.0 (stays before b mid n bytes leave.1 is ran) does

then_there : (told : Keeping) (old new : Book Held) (n : ℕ) (bytes : List ℕ) (is_sure : Bool) (free : ℕ) → is_kept told ≡ true → KeptAs old n bytes is_sure free told new → content_of (new.at n) ≡ Some bytes
then_there New old new n bytes is_sure free is k =
    ap content_of (new_there old new n n (held_of bytes is_sure) k.told_so.0 k.told_so.1 (k.leads refl)) ∙ ap (λ (t : Bool). content_of (if t then Some (held_of bytes is_sure) else old.at n)) (eq-eqb n n refl)
then_there Same old new n bytes is_sure free is k = content_in n new old (Some bytes) (k.same same≢new) k.told_so
then_there Differs old new n bytes is_sure free is k = absurd (true≢false (sym is))
then_there Damaged old new n bytes is_sure free is k = absurd (true≢false (sym is))
then_there Below old new n bytes is_sure free is k = absurd (true≢false (sym is))
then_there Full old new n bytes is_sure free is k = absurd (true≢false (sym is))
then_there NoSpace old new n bytes is_sure free is k = absurd (true≢false (sym is))

these : (found : Found) (has : Option Held) (bytes : List ℕ) → content_of has ≡ Some bytes → FoundAs (Unit {0}) has found → IsThese bytes found
these Nothing has bytes is none = no_content has bytes none is
these Spoilt has bytes is there = tt
these (There got) has bytes is there = same_Some got bytes (sym (there tt) ∙ is)

pub kept_until_forgotten : KeptUntilForgotten
kept_until_forgotten old new now after deeds n bytes is_sure free told found is kept ran leave does =
    these found (now.at n) bytes (stays deeds new now n bytes leave (then_there told old new n bytes is_sure free is kept) ran) does.0

pub once : Once
once old new now after deeds n bytes others is_sure is_other_sure free other_free told other_told is kept ran leave other_is does = by other_told other_is does
  where
    there : content_of (now.at n) ≡ Some bytes
    there = stays deeds new now n bytes leave (then_there told old new n bytes is_sure free is kept) ran

    by : (t : Keeping) → is_kept t ≡ true → KeptAs now n others is_other_sure other_free t after → others ≡ bytes
    by New e k = absurd (no_content (now.at n) bytes k.told_so.0 there)
    by Same e k = same_Some others bytes (sym k.told_so ∙ there)
    by Differs e k = absurd (true≢false (sym e))
    by Damaged e k = absurd (true≢false (sym e))
    by Below e k = absurd (true≢false (sym e))
    by Full e k = absurd (true≢false (sym e))
    by NoSpace e k = absurd (true≢false (sym e))

-- ---- what is absent and not above the floor

abbrev IsGone : ℕ → Book Held → Type 0
IsGone n b = (b.at n ≡ None) × (n ≤ b.floor)

gone_in : (n : ℕ) (new old : Book Held) → new ≡ old → IsGone n old → IsGone n new
gone_in n new old same gone = subst (λ (b : Book Held). IsGone n b) (sym same) gone

gone_one : (deed : Deed) (b now : Book Held) (n : ℕ) → gives_none n deed ≡ true → IsGone n b → Does b deed now → IsGone n now
gone_one (IsKept m bytes is_sure free told) b now n none gone does = by told does
  where
    over : (k : KeptAs b m bytes is_sure free New now) (t : Bool) → (n == m) ≡ t → (if t then Some (held_of bytes is_sure) else b.at n) ≡ None
    over k true e = let same : n ≡ m = eqb-true n m e in let below : n ≤ b.floor = gone.1 in let above : b.floor < m = k.told_so.1 in absurd (omega arith)
    over k false e = gone.0

    by : (t : Keeping) → KeptAs b m bytes is_sure free t now → IsGone n now
    by New k =
        let floor : now.floor ≡ b.floor = new_floor b now m (held_of bytes is_sure) (k.leads refl) in
        let below : n ≤ b.floor = gone.1 in
        (new_there b now m n (held_of bytes is_sure) k.told_so.0 k.told_so.1 (k.leads refl) ∙ over k (n == m) refl, omega arith)
    by Same k = gone_in n now b (k.same same≢new) gone
    by Differs k = gone_in n now b (k.same differs≢new) gone
    by Damaged k = gone_in n now b (k.same damaged≢new) gone
    by Below k = gone_in n now b (k.same below≢new) gone
    by Full k = gone_in n now b (k.same full≢new) gone
    by NoSpace k = gone_in n now b (k.same space≢new) gone
gone_one (IsFound m found) b now n none gone does = gone_in n now b does.1 gone
gone_one (AreForgotten floor runs) b now n none gone does =
    let risen : now.floor ≡ max b.floor floor = does.risen in
    let below : n ≤ b.floor = gone.1 in
    (does.at n ∙ by (is_in_any n runs), omega arith)
  where
    by : (t : Bool) → (if t then None else b.at n) ≡ None
    by true = refl
    by false = gone.0
gone_one (IsGiven m bytes) b now n none gone does =
    let floor : now.floor ≡ b.floor = does.floor in
    let below : n ≤ b.floor = gone.1 in
    (does.at n ∙ (ap (λ (t : Bool). if t then Some (held_of bytes true) else b.at n) (not-true (n == m) none) ∙ gone.0), omega arith)
gone_one AreMoved b now n none gone does =
    let floor : now.floor ≡ b.floor = does.floor in
    let below : n ≤ b.floor = gone.1 in
    (does.at n ∙ gone.0, omega arith)

gone_all : (deeds : List Deed) (b now : Book Held) (n : ℕ) → all_are (gives_none n) deeds → IsGone n b → Ran b deeds now → IsGone n now
gone_all [] b now n none gone ran = gone_in n now b ran gone
gone_all (deed ∷ before) b now n none gone (mid, ran, does) = gone_one deed mid now n none.0 (gone_all before b mid n none.1 gone ran) does

told_below : (told : Keeping) (has : Option Held) (n floor : ℕ) (bytes : List ℕ) (free : ℕ) → has ≡ None → n ≤ floor → ToldAs has n floor bytes free told → told ≡ Below
told_below New has n floor bytes free none below told = let above : floor < n = told.1 in absurd (omega arith)
told_below Same has n floor bytes free none below told = absurd (no_content has bytes none told)
told_below Differs has n floor bytes free none below told = absurd (no_some has none told.0)
told_below Damaged has n floor bytes free none below told = absurd (no_some has none told)
told_below Below has n floor bytes free none below told = refl
told_below Full has n floor bytes free none below told = let above : floor < n = told.1 in absurd (omega arith)
told_below NoSpace has n floor bytes free none below told = let above : floor < n = told.1 in absurd (omega arith)

pub below_the_floor : BelowTheFloor
below_the_floor old now after deeds n bytes is_sure free told none below ran gives does =
    let gone : IsGone n now = gone_all deeds old now n gives (none, below) ran in
    told_below told (now.at n) n now.floor bytes free gone.0 gone.1 does.told_so

-- ---- room

room : (told : Keeping) (has : Option Held) (n floor : ℕ) (bytes : List ℕ) (free : ℕ) → has ≡ None → floor < n → ToldAs has n floor bytes free told → (charge_of (length bytes) ≤ free → told ≢ NoSpace → told ≡ New) × (free < charge_of (length bytes) → told ≡ Full)
room New has n floor bytes free none above told = let fits : charge_of (length bytes) ≤ free = told.2 in (λ le roomy. refl, λ lt. absurd (omega (arith, lt, fits)))
room Same has n floor bytes free none above told = absurd (no_content has bytes none told)
room Differs has n floor bytes free none above told = absurd (no_some has none told.0)
room Damaged has n floor bytes free none above told = absurd (no_some has none told)
room Below has n floor bytes free none above told = let below : n ≤ floor = told.1 in absurd (omega arith)
room Full has n floor bytes free none above told = let over : free < charge_of (length bytes) = told.2 in (λ le roomy. absurd (omega (arith, le, over)), λ lt. refl)
room NoSpace has n floor bytes free none above told = let fits : charge_of (length bytes) ≤ free = told.2 in (λ le roomy. absurd (roomy refl), λ lt. absurd (omega (arith, lt, fits)))

pub room_is_exact : RoomIsExact
room_is_exact old new n bytes is_sure free told none above does = room told (old.at n) n old.floor bytes free none above does.told_so
