-- Tags are totally ordered.
use Rattle.std.specs.Prelude.{◌≡◌}
use Rattle.std.proofs.Common.{arith, sym, subst, rules}
use Rattle.std.specs.declared.cmp.Ordering.{Ordering}
use Rattle.std.specs.Cmp.{IsTotalOrder, IsPartialOrder, po}
use Rattle.std.specs.Cmp.Rules.{comparing}
use Rattle.std.specs.Ordering.{nat_cmp, on, then_cmp, as_partial_cmp, eq_by_cmp}
use Rattle.std.proofs.lemmas.Bool.Decides.{nat_tests}
use Rattle.gq_tag.specs.declared.Tag.{Tag}
use Rattle.gq_tag.specs.Tag.{tag_cmp, equal_tags}

-- by number, then by session, in std's words
abbrev pub by_parts : Tag → Tag → Ordering
by_parts = then_cmp (on (λ t. t.number) nat_cmp) (on (λ t. t.session) nat_cmp)

pub tag_cmp-parts : (a b : Tag) → tag_cmp a b ≡ by_parts a b
tag_cmp-parts a b = grind (arith, nat_tests)

pub by_parts_total : IsTotalOrder by_parts
by_parts_total = search (comparing, rules)

pub tag_cmp_total : IsTotalOrder tag_cmp
tag_cmp_total = subst IsTotalOrder (λ i a b. sym (tag_cmp-parts a b) i) by_parts_total

pub tag_cmp_eq : (a b : Tag) → equal_tags a b ≡ eq_by_cmp tag_cmp a b
tag_cmp_eq a b = grind (arith, nat_tests)

pub tag_partial_cmp_laws : IsPartialOrder equal_tags (as_partial_cmp tag_cmp)
tag_partial_cmp_laws = po tag_cmp_total tag_cmp_eq
