-- A start, fact by fact.
use Rattle.std.proofs.Common.{◌≡◌, ℕ, true, [], ◌∷◌, Option, Some, None, refl, sym, ap, ◌∙◌}
use Rattle.std.specs.Prelude.{◌==◌, max, if◌then◌else◌}
use Rattle.gq_ledger.specs.Steps.{Book}
use Rattle.gq_stock.specs.Held.{Held}
use Rattle.gq_stock.specs.Forgetting.{is_in_any}
use Rattle.gq_stock.specs.Keeping.{KeptAs}
use Rattle.gq_stock.specs.Deeds.{Deed, IsKept, IsFound, AreForgotten, IsGiven, AreMoved, Does}
use Rattle.gq_stock.specs.Facts.{after_fact, kept_fact, fact_of, restarted, IsSameBook, StartsAgain}
use Rattle.gq_stock.proofs.Deeds.{held_of, new_there, new_floor, same≢new, differs≢new, damaged≢new, below≢new, full≢new, space≢new}
use Rattle.gq_stock.specs.declared.keeping.Keeping.{Keeping}
use Rattle.gq_stock.specs.declared.keeping.Keeping.TheVariants.{New, Same, Differs, Damaged, Below, Full, NoSpace}

stays : (again b now : Book Held) → IsSameBook again b → now ≡ b → IsSameBook again now
stays again b now same is = record { at = λ n. same.at n ∙ sym (ap (λ (x : Book Held). x.at n) is); floor = same.floor ∙ sym (ap (λ (x : Book Held). x.floor) is) }

one : (deed : Deed) (again b now : Book Held) → IsSameBook again b → Does b deed now → IsSameBook (after_fact (fact_of deed) again) now
one (IsKept m bytes is_sure free told) again b now same does = by told does
  where
    by : (t : Keeping) → KeptAs b m bytes is_sure free t now → IsSameBook (after_fact (kept_fact t m (held_of bytes is_sure)) again) now
    by New k = record {
      at = λ n. ap (λ (o : Option Held). if n == m then Some (held_of bytes is_sure) else o) (same.at n) ∙ sym (new_there b now m n (held_of bytes is_sure) k.told_so.0 k.told_so.1 (k.leads refl));
      floor = same.floor ∙ sym (new_floor b now m (held_of bytes is_sure) (k.leads refl));
    }
    by Same k = stays again b now same (k.same same≢new)
    by Differs k = stays again b now same (k.same differs≢new)
    by Damaged k = stays again b now same (k.same damaged≢new)
    by Below k = stays again b now same (k.same below≢new)
    by Full k = stays again b now same (k.same full≢new)
    by NoSpace k = stays again b now same (k.same space≢new)
one (IsFound m found) again b now same does = stays again b now same does.1
one (AreForgotten floor runs) again b now same does = record {
  at = λ n. ap (λ (o : Option Held). if is_in_any n runs then None else o) (same.at n) ∙ sym (does.at n);
  floor = ap (λ (f : ℕ). max f floor) same.floor ∙ sym does.risen;
}
one (IsGiven m bytes) again b now same does = record {
  at = λ n. ap (λ (o : Option Held). if n == m then Some (held_of bytes true) else o) (same.at n) ∙ sym (does.at n);
  floor = same.floor ∙ sym does.floor;
}
one AreMoved again b now same does = record { at = λ n. same.at n ∙ sym (does.at n); floor = same.floor ∙ sym does.floor }

pub starts_again : StartsAgain
starts_again first now [] ran = record { at = λ n. sym (ap (λ (x : Book Held). x.at n) ran); floor = sym (ap (λ (x : Book Held). x.floor) ran) }
starts_again first now (deed ∷ before) (b, ran, does) = one deed (restarted first before) b now (starts_again first b before ran) does
