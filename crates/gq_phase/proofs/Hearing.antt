-- What is known of a list of replies with one more.
use Rattle.std.proofs.Common.{◌≡◌, ◌⊎◌, ℕ, Bool, true, false, ◌||◌, List, [], ◌∷◌, ◌++◌, refl, sym, ap, ◌∙◌, inl, inr, Option, Some, None, eqb, append-nil}
use Rattle.std.specs.Prelude.{fold}
use Rattle.std.specs.List.{list_any}
use Rattle.std.proofs.lemmas.List.Elements.{filter_map-append}
use Rattle.std.proofs.lemmas.List.Folds.{list_any-append}
use Rattle.std.proofs.lemmas.Bool.{and_parts, true≢false, eqb-true, eq-eqb, or_cases, not-true}
use Rattle.gq_grid.specs.Grid.{with_server}
use Rattle.gq_grid.proofs.Same.{or-false, or-true}
use Rattle.gq_tag.specs.declared.Tag.{Tag}
use Rattle.gq_tag.specs.declared.StoredCopy.{StoredCopy}
use Rattle.gq_tag.specs.declared.Body.{Body}
use Rattle.gq_tag.specs.declared.Body.TheVariants.{Ask, Copy, Store, Stored}
use Rattle.gq_tag.specs.Tag.{is_less, equal_tags, newer_of, latest, is_unexceeded}
use Rattle.gq_tag.proofs.Order.{IsAtMost, newer_of-at_most}
use Rattle.gq_tag.proofs.Greatest.{latest-append, latest-single, latest-cons, latest-unexceeded}
use Rattle.gq_phase.specs.Best.{best_with}
use Rattle.gq_phase.specs.Phase.{Reply, heard_servers, heard_copies, hear_reply, equal_replies, equal_bodies, equal_copies}

pub or-same : (a b : Bool) → (b ≡ true → a ≡ true) → (a || b) ≡ a
or-same true b h = refl
or-same false true h = sym (h refl)
or-same false false h = refl

-- ---- a reply that was heard before

-- its server was heard
repeats_server : (r : Reply) (heard : List Reply) → list_any (equal_replies r) heard ≡ true → heard_servers heard r.server ≡ true
repeats_server r [] h = absurd (true≢false (sym h))
repeats_server r (x ∷ xs) h = by (repeats_server r xs) (or_cases (equal_replies r x) (list_any (equal_replies r) xs) h)
  where
    by : (list_any (equal_replies r) xs ≡ true → heard_servers xs r.server ≡ true) → (equal_replies r x ≡ true) ⊎ (list_any (equal_replies r) xs ≡ true) → heard_servers (x ∷ xs) r.server ≡ true
    by rest (inl here) =
        let parts = and_parts (eqb r.server x.server) (equal_bodies r.body x.body) here in
        rw (eq-eqb x.server r.server (sym (eqb-true r.server x.server parts.0))) refl
    by rest (inr there) = rw (rest there) (or-true (eqb x.server r.server))

pub tags_same : (a b : Tag) → equal_tags a b ≡ true → a ≡ b
tags_same a b h =
    let parts = and_parts (eqb a.number b.number) (eqb a.session b.session) h in
    let numbers = eqb-true a.number b.number parts.0 in
    let sessions = eqb-true a.session b.session parts.1 in
    λ i. record { number = numbers i; session = sessions i }

pub same_tag : (a b : StoredCopy) → equal_copies a b ≡ true → a.tag ≡ b.tag
same_tag a b h = tags_same a.tag b.tag (and_parts (equal_tags a.tag b.tag) _ h).0

-- a copy that was heard before is at most one that no copy exceeds
pub repeats_at_most : (server : ℕ) (c b : StoredCopy) (heard : List Reply) → list_any (equal_replies (record { server = server; body = Copy c })) heard ≡ true → is_unexceeded (heard_copies heard) b ≡ true → IsAtMost c.tag b.tag
repeats_at_most server c b [] h k = absurd (true≢false (sym h))
repeats_at_most server c b (x ∷ xs) h k = go x.body refl (repeats_at_most server c b xs) (or_cases (equal_replies r x) (list_any (equal_replies r) xs) h)
  where
    r : Reply
    r = record { server = server; body = Copy c }

    go : (body : Body) → x.body ≡ body → (list_any (equal_replies r) xs ≡ true → is_unexceeded (heard_copies xs) b ≡ true → IsAtMost c.tag b.tag) → (equal_replies r x ≡ true) ⊎ (list_any (equal_replies r) xs ≡ true) → IsAtMost c.tag b.tag
    go (Copy d) e rest (inl here) =
        let same : equal_copies c d ≡ true = (and_parts (eqb server x.server) (equal_copies c d) (rw e at here)).1 in
        let unexceeded : is_unexceeded (d ∷ heard_copies xs) b ≡ true = rw e at k in
        rw (same_tag c d same) (not-true (is_less b.tag d.tag) (and_parts _ (is_unexceeded (heard_copies xs) b) unexceeded).0)
    go (Copy d) e rest (inr there) =
        let unexceeded : is_unexceeded (d ∷ heard_copies xs) b ≡ true = rw e at k in
        rest there (and_parts _ (is_unexceeded (heard_copies xs) b) unexceeded).1
    go Ask e rest (inl here) = absurd (true≢false (sym (and_parts (eqb server x.server) false (rw e at here)).1))
    go (Store d) e rest (inl here) = absurd (true≢false (sym (and_parts (eqb server x.server) false (rw e at here)).1))
    go Stored e rest (inl here) = absurd (true≢false (sym (and_parts (eqb server x.server) false (rw e at here)).1))
    go Ask e rest (inr there) = rest there (rw e at k)
    go (Store d) e rest (inr there) = rest there (rw e at k)
    go Stored e rest (inr there) = rest there (rw e at k)

-- there is a copy among those heard
repeats_some : (server : ℕ) (c : StoredCopy) (heard : List Reply) → list_any (equal_replies (record { server = server; body = Copy c })) heard ≡ true →
    (first : StoredCopy) × (others : List StoredCopy) × (heard_copies heard ≡ first ∷ others)
repeats_some server c [] h = absurd (true≢false (sym h))
repeats_some server c (x ∷ xs) h = go x.body refl (repeats_some server c xs) (or_cases (equal_replies r x) (list_any (equal_replies r) xs) h)
  where
    r : Reply
    r = record { server = server; body = Copy c }

    go : (body : Body) → x.body ≡ body → (list_any (equal_replies r) xs ≡ true → (first : StoredCopy) × (others : List StoredCopy) × (heard_copies xs ≡ first ∷ others)) → (equal_replies r x ≡ true) ⊎ (list_any (equal_replies r) xs ≡ true) → (first : StoredCopy) × (others : List StoredCopy) × (heard_copies (x ∷ xs) ≡ first ∷ others)
    go (Copy d) e rest either = (d, heard_copies xs, rw e refl)
    go Ask e rest (inl here) = absurd (true≢false (sym (and_parts (eqb server x.server) false (rw e at here)).1))
    go (Store d) e rest (inl here) = absurd (true≢false (sym (and_parts (eqb server x.server) false (rw e at here)).1))
    go Stored e rest (inl here) = absurd (true≢false (sym (and_parts (eqb server x.server) false (rw e at here)).1))
    go Ask e rest (inr there) = rw e (rest there)
    go (Store d) e rest (inr there) = rw e (rest there)
    go Stored e rest (inr there) = rw e (rest there)

-- a copy heard before changes nothing
pub repeats_latest : (server : ℕ) (c : StoredCopy) (heard : List Reply) → list_any (equal_replies (record { server = server; body = Copy c })) heard ≡ true →
    best_with (latest (heard_copies heard)) (Copy c) ≡ latest (heard_copies heard)
repeats_latest server c heard h =
    let some = repeats_some server c heard h in
    let best : StoredCopy = fold newer_of some.0 some.1 in
    let is_best : latest (heard_copies heard) ≡ Some best = ap latest some.2 ∙ latest-cons some.0 some.1 in
    let below : IsAtMost c.tag best.tag = repeats_at_most server c best heard h (latest-unexceeded (heard_copies heard) best is_best) in
    rw is_best (ap Some (newer_of-at_most best c below))

pub best_with-other : (o : Option StoredCopy) (b : Body) → ((c : StoredCopy) → b ≡ Copy c → best_with o (Copy c) ≡ o) → best_with o b ≡ o
best_with-other o (Copy c) h = h c refl
best_with-other None Ask h = refl
best_with-other None (Store c) h = refl
best_with-other None Stored h = refl
best_with-other (Some g) Ask h = refl
best_with-other (Some g) (Store c) h = refl
best_with-other (Some g) Stored h = refl

-- ---- one more reply

latest-push : (copies : List StoredCopy) (c : StoredCopy) → latest (copies ++ c ∷ []) ≡ best_with (latest copies) (Copy c)
latest-push [] c = latest-single c
latest-push (x ∷ xs) c =
    let best : latest (x ∷ xs) ≡ Some (fold newer_of x xs) = latest-cons x xs in
    latest-append (x ∷ xs) c (fold newer_of x xs) best ∙ sym (ap (λ b. best_with b (Copy c)) best)

latest-more : (heard : List Reply) (server : ℕ) (b : Body) → latest (heard_copies (heard ++ record { server = server; body = b } ∷ [])) ≡ best_with (latest (heard_copies heard)) b
latest-more heard server b = ap latest (filter_map-append _ heard (record { server = server; body = b } ∷ [])) ∙ by b
  where
    by : (b : Body) → latest (heard_copies heard ++ heard_copies (record { server = server; body = b } ∷ [])) ≡ best_with (latest (heard_copies heard)) b
    by (Copy c) = latest-push (heard_copies heard) c
    by Ask = ap latest (append-nil (heard_copies heard)) ∙ sym (best_with-other (latest (heard_copies heard)) Ask (λ c e. cc))
    by (Store d) = ap latest (append-nil (heard_copies heard)) ∙ sym (best_with-other (latest (heard_copies heard)) (Store d) (λ c e. cc))
    by Stored = ap latest (append-nil (heard_copies heard)) ∙ sym (best_with-other (latest (heard_copies heard)) Stored (λ c e. cc))

-- the servers heard, with one more reply
pub heard_servers-hear : (heard : List Reply) (r : Reply) → heard_servers (hear_reply heard r) ≡ with_server r.server (heard_servers heard)
heard_servers-hear heard r = go (list_any (equal_replies r) heard) refl
  where
    go : (b : Bool) → list_any (equal_replies r) heard ≡ b → heard_servers (hear_reply heard r) ≡ with_server r.server (heard_servers heard)
    go true e = rw e (λ i k. sym (or-same (heard_servers heard k) (eqb r.server k) (λ same. rw (← eqb-true r.server k same) (repeats_server r heard e))) i)
    go false e = rw e (λ i k. (list_any-append (λ x. eqb x.server k) heard (r ∷ []) ∙ ap (λ b. heard_servers heard k || b) (or-false (eqb r.server k))) i)

-- the greatest copy heard, with one more reply
pub latest-hear : (heard : List Reply) (server : ℕ) (body : Body) → latest (heard_copies (hear_reply heard (record { server = server; body = body }))) ≡ best_with (latest (heard_copies heard)) body
latest-hear heard server body = go (list_any (equal_replies r) heard) refl
  where
    r : Reply
    r = record { server = server; body = body }

    go : (b : Bool) → list_any (equal_replies r) heard ≡ b → latest (heard_copies (hear_reply heard r)) ≡ best_with (latest (heard_copies heard)) body
    go true e = rw e (sym (best_with-other (latest (heard_copies heard)) body (λ c is. repeats_latest server c heard (rw is at e))))
    go false e = rw e (latest-more heard server body)
