-- Whether a node lacks a file of some tenant, by its tables and by its parts.
use Rattle.std.proofs.Common.{◌≡◌, ◌∙◌, ℕ, zero, suc, ◌+◌, ◌<◌, Bool, true, false, List, [], ◌∷◌, length, cond, refl, sym, ap, arith, inl, inr}
use Rattle.std.specs.Prelude.{◌||◌, nat_lt, fold}
use Rattle.std.proofs.lemmas.Bool.{cases_eq}
use Rattle.std.specs.List.{count_by, list_any, sum_by, range_with_len}
use Rattle.std.proofs.lemmas.List.Sums.{sum_by-append}
use Rattle.gq_grid.specs.Sets.{servers}
use Rattle.gq_grid.proofs.Same.{list_any_range_more, range_more}
use Rattle.gq_tag.specs.Tag.{File}
use Rattle.gq_desk.specs.Volumes.{Account, account_at}
use Rattle.gq_node.specs.Joining.{all_files, awaited, lacked_files}
use Rattle.gq_node.specs.Local.{Local}
use Rattle.gq_node.specs.Sites.{site_of}
use Rattle.gq_node.specs.Tables.{Tables, Agrees, lacks_at}
use Rattle.gq_wire.specs.declared.incoming.Incoming.TheVariants.{Tick}
use Rattle.gq_parts.specs.Texts.{lacks_some, joins_text, node_text}
use Rattle.gq_parts.specs.Steps.{AllAgree, some_lacks}

fold_same : (f g : ℕ → File → ℕ) → ((n : ℕ) (x : File) → f n x ≡ g n x) → (files : List File) (n : ℕ) → fold f n files ≡ fold g n files
fold_same f g same [] n = refl
fold_same f g same (x ∷ files) n = ap (λ m. fold f m files) (same n x) ∙ fold_same f g same files (g n x)

counted_same : (p q : File → Bool) (files : List File) → ((f : File) → p f ≡ q f) → count_by p files ≡ count_by q files
counted_same p q files same = fold_same (λ n x. n + cond (p x) 1 0) (λ n x. n + cond (q x) 1 0) (λ n x. ap (λ b. n + cond b 1 0) (same x)) files 0

lacked_is : (w : Tables) (t : ℕ) (local : Local) → Agrees w t local → lacked_files (lacks_at w t) (account_at w.desk t).volumes ≡ lacked_files local.lacks local.volumes
lacked_is w t local agrees =
    ap (λ (a : Account). lacked_files (lacks_at w t) a.volumes) agrees.account ∙ counted_same (lacks_at w t) local.lacks (all_files local.volumes) agrees.lacks

pub any_same : (f g : ℕ → Bool) (a n : ℕ) → ((t : ℕ) → t < a + n → f t ≡ g t) → list_any f (range_with_len a n) ≡ list_any g (range_with_len a n)
any_same f g a zero same = refl
any_same f g a (suc n) same = rw (same a (omega arith), any_same f g (a + 1) n (λ t below. same t (omega arith))) refl

pub some_lacks_is : (w : Tables) (parts : ℕ → Local) → AllAgree w parts → some_lacks w ≡ lacks_some w.plan parts
some_lacks_is w parts agree = any_same _ _ 0 (length w.plan.rows) (λ t below. ap (nat_lt 0) (lacked_is w t (parts t) (agree t (omega arith))))

-- nobody lacks where there is no tenant
pub some_tenant : (f : ℕ → Bool) (n : ℕ) → list_any f (range_with_len 0 n) ≡ true → 0 < n
some_tenant f zero some = cc
some_tenant f (suc n) some = omega arith

-- what is written to other nodes at a tick: nothing where no file is lacked, else the question to these
pub asks_nobody : (w : Tables) (parts : ℕ → Local) → some_lacks w ≡ false → AllAgree w parts → [] ≡ node_text w.plan w.here Tick parts
asks_nobody w parts none agree = let is : lacks_some w.plan parts ≡ false = sym (some_lacks_is w parts agree) ∙ none in rw is refl

pub asks_these : (w : Tables) (parts : ℕ → Local) (nodes : List ℕ) → some_lacks w ≡ true → AllAgree w parts → nodes ≡ awaited (site_of w.plan w.here 0) (servers w.joined) →
    joins_text w.plan w.here nodes ≡ node_text w.plan w.here Tick parts
asks_these w parts nodes some agree are =
    let is : lacks_some w.plan parts ≡ true = sym (some_lacks_is w parts agree) ∙ some in
    let there : 0 < length w.plan.rows = some_tenant _ (length w.plan.rows) some in
    ap (joins_text w.plan w.here) (are ∙ ap (awaited (site_of w.plan w.here 0)) (agree 0 there).joined) ∙ (rw is refl)

-- ---- one tenant after another

-- one that lacks a file is found
pub one_lacks : (p : ℕ → Bool) (n t : ℕ) → t < n → p t ≡ true → list_any p (range_with_len 0 n) ≡ true
one_lacks p zero t below is = absurd (omega arith)
one_lacks p (suc n) t below is = elim (cases_eq t n) [
  | inl last ↦ (next ∙ list_any_range_more p n ∙ ap (λ b. list_any p (range_with_len 0 n) || b) (ap p (sym last) ∙ is) ∙ or-true (list_any p (range_with_len 0 n)))
  | inr other ↦ (next ∙ list_any_range_more p n ∙ ap (λ b. b || p n) (one_lacks p n t (omega arith) is))
]
  where
    next : list_any p (range_with_len 0 (suc n)) ≡ list_any p (range_with_len 0 (n + 1))
    next = let e : suc n ≡ n + 1 = omega arith in ap (λ j. list_any p (range_with_len 0 j)) e

    or-true : (b : Bool) → (b || true) ≡ true
    or-true true = refl
    or-true false = refl

-- none of those so far, and not the next
pub none_more : (p : ℕ → Bool) (n : ℕ) → list_any p (range_with_len 0 n) ≡ false → p n ≡ false → list_any p (range_with_len 0 (n + 1)) ≡ false
none_more p n before is = list_any_range_more p n ∙ (rw (before, is) refl)

-- what is counted of one more is added
pub sum_more : (f : ℕ → ℕ) (n : ℕ) → sum_by f (range_with_len 0 (n + 1)) ≡ sum_by f (range_with_len 0 n) + f n
sum_more f n =
    let next : n + 1 ≡ suc n = omega arith in
    let last : sum_by f (n ∷ []) ≡ 0 + f n = refl in
    ap (λ m. sum_by f (range_with_len 0 m)) next
    ∙ ap (sum_by f) (range_more 0 n n (plus_none n))
    ∙ sum_by-append f (range_with_len 0 n) (n ∷ [])
    ∙ ap (λ m. sum_by f (range_with_len 0 n) + m) (last ∙ plus_none (f n))
  where
    plus_none : (m : ℕ) → 0 + m ≡ m
    plus_none m = omega arith
