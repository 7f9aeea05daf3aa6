-- The servers that told the greatest tag, with one more reply.
use Rattle.std.proofs.Common.{◌≡◌, ◌⊎◌, ℕ, Bool, true, false, ◌||◌, List, [], ◌∷◌, ◌++◌, refl, sym, ap, ◌∙◌, inl, inr, Option, Some, None, eqb, append-nil}
use Rattle.std.specs.Prelude.{filter, fold, unwrap_or, if◌then◌else◌}
use Rattle.std.specs.List.{list_any}
use Rattle.std.proofs.lemmas.List.Elements.{filter-append}
use Rattle.std.proofs.lemmas.List.Folds.{list_any-append}
use Rattle.std.proofs.lemmas.Bool.{and_parts, and_from, cases_Bool, not-true, true≢false, eqb-true, eq-eqb, or_cases}
use Rattle.gq_grid.specs.Grid.{Servers, with_server, no_servers}
use Rattle.gq_grid.proofs.Same.{or-false, or-true}
use Rattle.gq_tag.specs.declared.Tag.{Tag}
use Rattle.gq_tag.specs.declared.StoredCopy.{StoredCopy}
use Rattle.gq_tag.specs.declared.Body.{Body}
use Rattle.gq_tag.specs.declared.Body.TheVariants.{Ask, Copy, Store, Stored}
use Rattle.gq_tag.specs.Tag.{is_less, equal_tags, newer_of, latest, greatest, first_copy, is_unexceeded}
use Rattle.gq_tag.proofs.Greatest.{latest-cons, latest-unexceeded}
use Rattle.gq_phase.specs.Best.{best_with, givers_with}
use Rattle.gq_phase.specs.Phase.{Reply, heard_servers, heard_copies, hear_reply, equal_replies, equal_copies, has_tag, givers}
use Rattle.gq_phase.proofs.Hearing.{or-same, tags_same, same_tag, repeats_latest, repeats_at_most, best_with-other, latest-hear}

-- ---- a tag that nobody told

filter-false : (p : Reply → Bool) (x : Reply) (xs : List Reply) → p x ≡ false → filter p xs ≡ [] → filter p (x ∷ xs) ≡ []
filter-false p x xs e rest = rw e rest

-- where no copy was told
nothing_told : (t : Tag) (heard : List Reply) → heard_copies heard ≡ [] → filter (λ reply. has_tag t reply.body) heard ≡ []
nothing_told t [] h = refl
nothing_told t (x ∷ xs) h = go x.body refl (nothing_told t xs)
  where
    go : (body : Body) → x.body ≡ body → (heard_copies xs ≡ [] → filter (λ reply. has_tag t reply.body) xs ≡ []) → filter (λ reply. has_tag t reply.body) (x ∷ xs) ≡ []
    go (Copy d) e rest = absurd (let none : d ∷ heard_copies xs ≡ [] = rw e at h in cc)
    go Ask e rest = filter-false (λ reply. has_tag t reply.body) x xs (rw e refl) (rest (rw e at h))
    go (Store d) e rest = filter-false (λ reply. has_tag t reply.body) x xs (rw e refl) (rest (rw e at h))
    go Stored e rest = filter-false (λ reply. has_tag t reply.body) x xs (rw e refl) (rest (rw e at h))

-- a copy that is not above another has not a tag that is
other_tag : (d b : StoredCopy) (t : Tag) → is_less b.tag d.tag ≡ false → is_less b.tag t ≡ true → equal_tags d.tag t ≡ false
other_tag d b t at_most less =
    elim (cases_Bool (equal_tags d.tag t)) [
      | inl e ↦ absurd (true≢false (sym less ∙ rw (tags_same d.tag t e) at at_most))
      | inr e ↦ e
    ]

-- where the tag is above all copies told
nobody_above : (t : Tag) (b : StoredCopy) (heard : List Reply) → is_unexceeded (heard_copies heard) b ≡ true → is_less b.tag t ≡ true → filter (λ reply. has_tag t reply.body) heard ≡ []
nobody_above t b [] h less = refl
nobody_above t b (x ∷ xs) h less = go x.body refl (λ k. nobody_above t b xs k less)
  where
    go : (body : Body) → x.body ≡ body → (is_unexceeded (heard_copies xs) b ≡ true → filter (λ reply. has_tag t reply.body) xs ≡ []) → filter (λ reply. has_tag t reply.body) (x ∷ xs) ≡ []
    go (Copy d) e rest =
        let unexceeded : is_unexceeded (d ∷ heard_copies xs) b ≡ true = rw e at h in
        let parts = and_parts _ (is_unexceeded (heard_copies xs) b) unexceeded in
        filter-false (λ reply. has_tag t reply.body) x xs (rw e (other_tag d b t (not-true (is_less b.tag d.tag) parts.0) less)) (rest parts.1)
    go Ask e rest = filter-false (λ reply. has_tag t reply.body) x xs (rw e refl) (rest (rw e at h))
    go (Store d) e rest = filter-false (λ reply. has_tag t reply.body) x xs (rw e refl) (rest (rw e at h))
    go Stored e rest = filter-false (λ reply. has_tag t reply.body) x xs (rw e refl) (rest (rw e at h))

-- ---- one more reply

-- at the end
givers-more : (t : Tag) (heard : List Reply) (r : Reply) → givers t (heard ++ r ∷ []) ≡ (if has_tag t r.body then with_server r.server (givers t heard) else givers t heard)
givers-more t heard r = go (has_tag t r.body) refl
  where
    go : (b : Bool) → has_tag t r.body ≡ b → givers t (heard ++ r ∷ []) ≡ (if b then with_server r.server (givers t heard) else givers t heard)
    go true e = λ i k. (ap (λ l. heard_servers l k) (filter-append (λ reply. has_tag t reply.body) heard (r ∷ []) ∙ rw e refl) ∙
        list_any-append (λ x. eqb x.server k) (filter (λ reply. has_tag t reply.body) heard) (r ∷ []) ∙ ap (λ b. heard_servers (filter (λ reply. has_tag t reply.body) heard) k || b) (or-false (eqb r.server k))) i
    go false e = ap heard_servers (filter-append (λ reply. has_tag t reply.body) heard (r ∷ []) ∙ rw e (append-nil (filter (λ reply. has_tag t reply.body) heard)))

-- a repeated copy of the tag is one of a giver
repeats_gave : (server : ℕ) (c : StoredCopy) (t : Tag) (heard : List Reply) → list_any (equal_replies (record { server = server; body = Copy c })) heard ≡ true → equal_tags c.tag t ≡ true → givers t heard server ≡ true
repeats_gave server c t [] h same = absurd (true≢false (sym h))
repeats_gave server c t (x ∷ xs) h same = go (has_tag t x.body) refl (repeats_gave server c t xs) (or_cases (equal_replies r x) (list_any (equal_replies r) xs) h)
  where
    r : Reply
    r = record { server = server; body = Copy c }

    here_tag : (b : Body) → x.body ≡ b → equal_replies r x ≡ true → has_tag t x.body ≡ true
    here_tag (Copy d) e h =
        let copies : equal_copies c d ≡ true = (and_parts (eqb server x.server) (equal_copies c d) (rw e at h)).1 in
        rw e (rw (← same_tag c d copies) same)
    here_tag Ask e h = absurd (true≢false (sym (and_parts (eqb server x.server) false (rw e at h)).1))
    here_tag (Store d) e h = absurd (true≢false (sym (and_parts (eqb server x.server) false (rw e at h)).1))
    here_tag Stored e h = absurd (true≢false (sym (and_parts (eqb server x.server) false (rw e at h)).1))

    go : (b : Bool) → has_tag t x.body ≡ b → (list_any (equal_replies r) xs ≡ true → equal_tags c.tag t ≡ true → givers t xs server ≡ true) →
        (equal_replies r x ≡ true) ⊎ (list_any (equal_replies r) xs ≡ true) → givers t (x ∷ xs) server ≡ true
    go true e rest (inl here) = rw e (rw (eq-eqb x.server server (sym (eqb-true server x.server (and_parts (eqb server x.server) _ here).0))) refl)
    go true e rest (inr there) = rw e (rw (rest there same) (or-true (eqb x.server server)))
    go false e rest (inl here) = absurd (true≢false (sym (here_tag x.body refl here) ∙ e))
    go false e rest (inr there) = rw e (rest there same)

tag_refl : (t : Tag) → equal_tags t t ≡ true
tag_refl t = and_from (eqb t.number t.number) (eqb t.session t.session) (eq-eqb t.number t.number refl) (eq-eqb t.session t.session refl)

-- the first to tell a tag is alone
alone : (heard : List Reply) (server : ℕ) (c : StoredCopy) → filter (λ reply. has_tag c.tag reply.body) heard ≡ [] →
    givers c.tag (heard ++ record { server = server; body = Copy c } ∷ []) ≡ with_server server no_servers
alone heard server c nobody =
    givers-more c.tag heard (record { server = server; body = Copy c }) ∙ rw (tag_refl c.tag) (ap (λ l. with_server server (heard_servers l)) nobody)

-- the servers that told the greatest copy's tag; nobody where there is none
abbrev givers_of : Option StoredCopy → List Reply → Servers
givers_of None heard = no_servers
givers_of (Some best) heard = givers best.tag heard

no_copies : (copies : List StoredCopy) → latest copies ≡ None → copies ≡ []
no_copies [] h = refl
no_copies (c ∷ cs) h = absurd (let none : Some (fold newer_of c cs) ≡ None = sym (latest-cons c cs) ∙ h in cc)

givers-greatest : (heard : List Reply) (best : Option StoredCopy) → latest (heard_copies heard) ≡ best → givers (greatest (heard_copies heard)).tag heard ≡ givers_of best heard
givers-greatest heard None f = ap heard_servers (nothing_told (greatest (heard_copies heard)).tag heard (no_copies (heard_copies heard) f))
givers-greatest heard (Some b) f = ap (λ o. givers (unwrap_or o first_copy).tag heard) f

-- one more copy
givers-copy : (heard : List Reply) (server : ℕ) (c : StoredCopy) (best : Option StoredCopy) → latest (heard_copies heard) ≡ best → (again : Bool) → list_any (equal_replies (record { server = server; body = Copy c })) heard ≡ again →
    givers_of (best_with best (Copy c)) (hear_reply heard (record { server = server; body = Copy c })) ≡ givers_with best (givers_of best heard) server (Copy c)
givers-copy heard server c None f true g =
    absurd (let none : Some c ≡ None = rw f at (repeats_latest server c heard g) in cc)
givers-copy heard server c None f false g = rw g (alone heard server c (nothing_told c.tag heard (no_copies (heard_copies heard) f)))
givers-copy heard server c (Some b) f true g =
    let at_most : is_less b.tag c.tag ≡ false = repeats_at_most server c b heard g (latest-unexceeded (heard_copies heard) b f) in
    rw (g, at_most) (go (equal_tags c.tag b.tag) refl)
  where
    go : (same : Bool) → equal_tags c.tag b.tag ≡ same → givers b.tag heard ≡ (if same then with_server server (givers b.tag heard) else givers b.tag heard)
    go true e = λ i k. sym (or-same (givers b.tag heard k) (eqb server k) (λ is. rw (← eqb-true server k is) (repeats_gave server c b.tag heard g e))) i
    go false e = refl
givers-copy heard server c (Some b) f false g = go (is_less b.tag c.tag) refl
  where
    r : Reply
    r = record { server = server; body = Copy c }

    go : (less : Bool) → is_less b.tag c.tag ≡ less → givers_of (best_with (Some b) (Copy c)) (hear_reply heard (record { server = server; body = Copy c })) ≡ givers_with (Some b) (givers b.tag heard) server (Copy c)
    go true e = rw (g, e) (alone heard server c (nobody_above c.tag b heard (latest-unexceeded (heard_copies heard) b f) e))
    go false e = rw (g, e) (givers-more b.tag heard r)

-- one more reply that tells no copy
givers-same : (heard : List Reply) (server : ℕ) (body : Body) → ((t : Tag) → has_tag t body ≡ false) → (best : Option StoredCopy) → (again : Bool) → list_any (equal_replies (record { server = server; body = body })) heard ≡ again →
    givers_of best (hear_reply heard (record { server = server; body = body })) ≡ givers_of best heard
givers-same heard server body no_tag None again g = refl
givers-same heard server body no_tag (Some b) true g = rw g refl
givers-same heard server body no_tag (Some b) false g = rw g (givers-more b.tag heard (record { server = server; body = body }) ∙ rw (no_tag b.tag) refl)

givers_with-same : (best : Option StoredCopy) (set : Servers) (server : ℕ) (body : Body) → ((c : StoredCopy) → body ≡ Copy c → ⊥) → givers_with best set server body ≡ set
givers_with-same best set server (Copy c) h = absurd (h c refl)
givers_with-same None set server Ask h = refl
givers_with-same None set server (Store d) h = refl
givers_with-same None set server Stored h = refl
givers_with-same (Some b) set server Ask h = refl
givers_with-same (Some b) set server (Store d) h = refl
givers_with-same (Some b) set server Stored h = refl

givers-other : (heard : List Reply) (server : ℕ) (body : Body) (best : Option StoredCopy) → ((t : Tag) → has_tag t body ≡ false) → ((c : StoredCopy) → body ≡ Copy c → ⊥) →
    givers_of (best_with best body) (hear_reply heard (record { server = server; body = body })) ≡ givers_with best (givers_of best heard) server body
givers-other heard server body best no_tag no_copy =
    ap (λ b. givers_of b (hear_reply heard (record { server = server; body = body }))) (best_with-other best body (λ c e. absurd (no_copy c e))) ∙
    givers-same heard server body no_tag best (list_any (equal_replies (record { server = server; body = body })) heard) refl ∙
    sym (givers_with-same best (givers_of best heard) server body no_copy)

givers_of-hear : (heard : List Reply) (server : ℕ) (body : Body) (best : Option StoredCopy) → latest (heard_copies heard) ≡ best →
    givers_of (best_with best body) (hear_reply heard (record { server = server; body = body })) ≡ givers_with best (givers_of best heard) server body
givers_of-hear heard server (Copy c) best f = givers-copy heard server c best f (list_any (equal_replies (record { server = server; body = Copy c })) heard) refl
givers_of-hear heard server Ask best f = givers-other heard server Ask best (λ t. refl) (λ c e. cc)
givers_of-hear heard server (Store d) best f = givers-other heard server (Store d) best (λ t. refl) (λ c e. cc)
givers_of-hear heard server Stored best f = givers-other heard server Stored best (λ t. refl) (λ c e. cc)

-- the servers that told the greatest tag, with one more reply
pub givers-hear : (heard : List Reply) (server : ℕ) (body : Body) →
    givers (greatest (heard_copies (hear_reply heard (record { server = server; body = body })))).tag (hear_reply heard (record { server = server; body = body })) ≡
    givers_with (latest (heard_copies heard)) (givers (greatest (heard_copies heard)).tag heard) server body
givers-hear heard server body =
    givers-greatest (hear_reply heard (record { server = server; body = body })) (best_with (latest (heard_copies heard)) body) (latest-hear heard server body) ∙
    givers_of-hear heard server body (latest (heard_copies heard)) refl ∙
    ap (λ set. givers_with (latest (heard_copies heard)) set server body) (sym (givers-greatest heard (latest (heard_copies heard)) refl))
