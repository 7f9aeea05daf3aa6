-- What lines behind a plan tell, one behind another.
use Rattle.std.proofs.Common.{◌≡◌, ℕ, suc, ◌+◌, ◌-◌, ◌<◌, ◌≤◌, List, [], ◌∷◌, ◌++◌, length, Option, Some, None, Ok, Err, refl, sym, ap, ◌∙◌, subst, arith}
use Rattle.std.specs.Prelude.{map}
use Rattle.std.proofs.Math.ListN.{length-set}
use Rattle.gq_desk.specs.CheckedPlan.{CheckedPlan}
use Rattle.gq_desk.specs.declared.plans.TenantRow.{TenantRow}
use Rattle.gq_desk.specs.Volumes.{Account, OpenFault, new_account}
use Rattle.gq_lines.specs.Lines.{lines_of}
use Rattle.gq_setup.specs.declared.openings.Opening.{Opening}
use Rattle.gq_setup.specs.declared.openings.SetupFault.{SetupFault}
use Rattle.gq_setup.specs.declared.openings.SetupFault.TheVariants.{Plan, Live, OpenSize, OpenVolumes, OpenShare, Chunks, Replace, Gone, Memory}
use Rattle.gq_setup.specs.Setups.{Setup, SetupReading, accounts_of, after_opening, after_openings, opening_fault, holdings, CanOpen, with_opening, opened, after_opens, after_opens_many, after_line, then_told, after_lines}
use Rattle.gq_setup.specs.Faults.{IsFirstFault}

-- ---- accounts

pub after_openings-length : (accounts : List Account) (openings : List Opening) → length (after_openings accounts openings) ≡ length accounts
after_openings-length accounts [] = refl
after_openings-length accounts (o ∷ openings) = after_openings-length (after_opening accounts o) openings ∙ length-set accounts _ _

rows-length : (rows : List TenantRow) → length (map new_account rows) ≡ length rows
rows-length [] = refl
rows-length (row ∷ rows) = ap suc (rows-length rows)

pub accounts-length : (plan : CheckedPlan) → length (accounts_of plan) ≡ length plan.rows
accounts-length plan = rows-length plan.rows

pub holdings-length : (plan : CheckedPlan) (openings : List Opening) → length (after_openings (accounts_of plan) openings) ≡ length plan.rows
holdings-length plan openings = after_openings-length (accounts_of plan) openings ∙ accounts-length plan

-- ---- one volume more

pub one_opened : (accounts : List Account) (openings : List Opening) (o : Opening) → after_openings accounts (openings ++ o ∷ []) ≡ after_opening (after_openings accounts openings) o
one_opened accounts [] o = refl
one_opened accounts (x ∷ openings) o = one_opened (after_opening accounts x) openings o

one_can : (accounts : List Account) (openings : List Opening) (o : Opening) → CanOpen accounts openings → o.tenant < length (after_openings accounts openings) → opening_fault (after_openings accounts openings) o ≡ None → CanOpen accounts (openings ++ o ∷ [])
one_can accounts [] o can within sound = (within, sound, tt)
one_can accounts (x ∷ openings) o can within sound = (can.0, can.1, one_can (after_opening accounts x) openings o can.2 within sound)

-- behind what may be open another may be, where no cause refuses it
pub more_can : (plan : CheckedPlan) (openings : List Opening) (desk : List Account) (o : Opening) → desk ≡ after_openings (accounts_of plan) openings → CanOpen (accounts_of plan) openings → o.tenant < length plan.rows → opening_fault desk o ≡ None →
    CanOpen (accounts_of plan) (openings ++ o ∷ [])
more_can plan openings desk o is can within sound =
    one_can (accounts_of plan) openings o can (subst (λ n. o.tenant < n) (sym (holdings-length plan openings)) within) (ap (λ a. opening_fault a o) (sym is) ∙ sound)

-- what the tenants have then
pub opened_desk : (plan : CheckedPlan) (openings now : List Opening) (desk next : List Account) (o : Opening) → desk ≡ after_openings (accounts_of plan) openings → next ≡ after_opening desk o → now ≡ openings ++ o ∷ [] → next ≡ after_openings (accounts_of plan) now
opened_desk plan openings now desk next o is opens grown =
    opens ∙ ap (λ a. after_opening a o) is ∙ sym (one_opened (accounts_of plan) openings o) ∙ ap (after_openings (accounts_of plan)) (sym grown)

pub opens_is : (n : ℕ) (setup : Setup) (desk : List Account) (o : Opening) → desk ≡ holdings setup → opening_fault desk o ≡ None → after_opens n setup (Some o) ≡ Ok (with_opening setup o)
opens_is n setup desk o is sound = ap (opened n setup o) (ap (λ a. opening_fault a o) (sym is) ∙ sound)

pub fault_first : (fault : SetupFault) (told : SetupReading Setup) (next : Setup → SetupReading Setup) → IsFirstFault fault told → IsFirstFault fault (then_told told next)
fault_first (Plan n fault) told next is = ap (λ r. then_told r next) is
fault_first (Live n) told next is = ap (λ r. then_told r next) is
fault_first (OpenSize n) told next is = ap (λ r. then_told r next) is
fault_first (OpenVolumes n) told next is = ap (λ r. then_told r next) is
fault_first (OpenShare n free) told next is = ap (λ r. then_told r next) is
fault_first (Chunks n) told next is = ap (λ r. then_told r next) is
fault_first (Replace n) told next is = ap (λ r. then_told r next) is
fault_first (Gone n) told next is = ap (λ r. then_told r next) is
fault_first (Memory refused) told next is = tt

opened_plan : (n : ℕ) (setup next : Setup) (o : Opening) (fault : Option OpenFault) → opened n setup o fault ≡ Ok next → next.plan ≡ setup.plan
opened_plan n setup next o None is = ap (λ (r : SetupReading Setup). plan_in r) (sym is)
  where
    plan_in : SetupReading Setup → CheckedPlan
    plan_in (Ok s) = s.plan
    plan_in (Err fault) = setup.plan
opened_plan n setup next o (Some fault) is = cc

-- ---- several volumes alike, by one line

-- so many of them are open, and the rest is left
pub record OpensSome (n : ℕ) (start : Setup) (o : Opening) (times done : ℕ) (setup : Setup) : Type 0 where
  pub told : after_opens_many n start o times ≡ after_opens_many n setup o (times - done)
  pub plan : setup.plan ≡ start.plan

pub none_open : (n : ℕ) (start : Setup) (o : Opening) (times : ℕ) → OpensSome n start o times 0 start
none_open n start o times = record { told = (let all : times ≡ times - 0 = omega arith in ap (after_opens_many n start o) all); plan = refl }

one_less : (n : ℕ) (setup : Setup) (o : Opening) (times done : ℕ) → done < times → after_opens_many n setup o (times - done) ≡ then_told (after_opens n setup (Some o)) (λ next. after_opens_many n next o (times - (done + 1)))
one_less n setup o times done less = let s : times - done ≡ suc (times - (done + 1)) = omega arith in rw s refl

pub one_open : (n : ℕ) (start : Setup) (o : Opening) (times done : ℕ) (setup next : Setup) → OpensSome n start o times done setup → done < times → after_opens n setup (Some o) ≡ Ok next → OpensSome n start o times (done + 1) next
one_open n start o times done setup next some less is = record {
  told = some.told ∙ one_less n setup o times done less ∙ ap (λ r. then_told r (λ x. after_opens_many n x o (times - (done + 1)))) is;
  plan = opened_plan n setup next o (opening_fault (holdings setup) o) is ∙ some.plan;
}

pub all_open : (n : ℕ) (start : Setup) (o : Opening) (times done : ℕ) (setup : Setup) → OpensSome n start o times done setup → times ≤ done → after_opens_many n start o times ≡ Ok setup
all_open n start o times done setup some past = some.told ∙ (let s : times - done ≡ 0 = omega arith in rw s refl)

pub open_fault_first : (n : ℕ) (start : Setup) (o : Opening) (times done : ℕ) (setup : Setup) (fault : SetupFault) → OpensSome n start o times done setup → done < times → IsFirstFault fault (after_opens n setup (Some o)) → IsFirstFault fault (after_opens_many n start o times)
open_fault_first n start o times done setup fault some less is =
    subst (IsFirstFault fault) (sym (some.told ∙ one_less n setup o times done less))
    (fault_first fault (after_opens n setup (Some o)) (λ x. after_opens_many n x o (times - (done + 1))) is)

-- ---- one line more

-- of the text this was taken, and the rest is left
pub record Takes (first : ℕ) (start : Setup) (text rest : List ℕ) (number : ℕ) (setup : Setup) : Type 0 where
  pub told : after_lines first start (lines_of text) ≡ after_lines number setup (lines_of rest)
  pub count : number + length rest ≤ first + length text

pub takes_line : (first : ℕ) (start : Setup) (text rest line after : List ℕ) (number : ℕ) (setup next : Setup) → Takes first start text rest number setup → lines_of rest ≡ line ∷ lines_of after → length after < length rest →
    after_line number setup line ≡ Ok next → Takes first start text after (number + 1) next
takes_line first start text rest line after number setup next s lines less is = record {
  told = s.told ∙ ap (after_lines number setup) lines ∙ ap (λ r. then_told r (λ x. after_lines (number + 1) x (lines_of after))) is;
  count = omega (arith, s.count, less);
}

empty_of : (xs : List ℕ) → length xs ≡ 0 → xs ≡ []
empty_of [] none = refl
empty_of (x ∷ xs) none = absurd (omega arith)

pub takes_all : (first : ℕ) (start : Setup) (text rest : List ℕ) (number : ℕ) (setup : Setup) → Takes first start text rest number setup → length rest ≡ 0 → after_lines first start (lines_of text) ≡ Ok setup
takes_all first start text rest number setup s none = s.told ∙ ap (λ r. after_lines number setup (lines_of r)) (empty_of rest none)

pub takes_fault : (first : ℕ) (start : Setup) (text rest line after : List ℕ) (number : ℕ) (setup : Setup) (fault : SetupFault) → Takes first start text rest number setup → lines_of rest ≡ line ∷ lines_of after →
    IsFirstFault fault (after_line number setup line) → IsFirstFault fault (after_lines first start (lines_of text))
takes_fault first start text rest line after number setup fault s lines is =
    subst (IsFirstFault fault) (sym (s.told ∙ ap (after_lines number setup) lines))
    (fault_first fault (after_line number setup line) (λ x. after_lines (number + 1) x (lines_of after)) is)
