-- What a server holds goes back only where it is lost, and what it keeps never does.
use Rattle.std.proofs.Common.{◌≡◌, ◌⊎◌, ℕ, zero, suc, Bool, true, false, ◌&&◌, not, List, [], ◌∷◌, ◌++◌, Option, Some, None, refl, sym, ap, ◌∙◌, subst, inl, inr, append_assoc, eqb, arith}
use Rattle.std.specs.Prelude.{Contains, fold, unwrap_or, ◌==◌, if◌then◌else◌}
use Rattle.std.specs.List.{list_any}
use Rattle.std.specs.Str.{bytes_eq}
use Rattle.std.proofs.lemmas.Bool.{true≢false, and_parts, eq-eqb, eqb-true}
use Rattle.std.proofs.lemmas.List.{append-nil}
use Rattle.std.proofs.lemmas.List.Elements.{Contains-append_cases, Contains-push}
use Rattle.std.proofs.lemmas.Slice.Eq.{bytes_eq-Decides}
use Rattle.std.proofs.lemmas.List.Sums.{fold-append}
use Rattle.gq_grid.specs.Grid.{Grid}
use Rattle.gq_tag.specs.declared.Tag.{Tag}
use Rattle.gq_tag.specs.declared.StoredCopy.{StoredCopy}
use Rattle.gq_tag.specs.declared.Body.{Body}
use Rattle.gq_tag.specs.declared.Body.TheVariants.{Ask, Copy, Store, Stored}
use Rattle.gq_tag.specs.Tag.{File, is_file, OwnMessage, newer_of, greatest, first_copy}
use Rattle.gq_tag.proofs.Order.{IsAtMost, at_most_refl, at_most_trans, newer_of-left, newer_of-right}
use Rattle.gq_tag.proofs.Greatest.{latest-cons}
use Rattle.gq_desk.specs.declared.plans.TenantRow.{TenantRow}
use Rattle.gq_phase.specs.Quorums.{are_peers}
use Rattle.gq_phase.proofs.Meeting.{peers_of_peers}
use Rattle.gq_model.specs.declared.events.ServerLine.TheVariants.{Bad as BadServer, Down, Up, Lost as ServerLost, Repaired as ServerRepaired}
use Rattle.gq_model.specs.Told.{Told, Refused, Repaired, ServerRefused}
use Rattle.gq_model.specs.declared.events.Refusal.TheVariants.{NoMessage}
use Rattle.gq_model.specs.declared.events.ServerRefusal.TheVariants.{Same}
use Rattle.gq_model.specs.Trace.{Turn, Own, Serving, Leaping, Losing, Returning, Entry, Trace, up, gone, is_loss, is_given, lacks, lacks_by, serves, stored_by, left_by, brought, copy_of, offered, questions}
use Rattle.gq_model.specs.Lone.{equal_copies, return_told, server_told, is_refusal}
use Rattle.gq_model.proofs.Peers.{repair}
use Rattle.gq_laws.proofs.Words.{delivered, held, step_on}
use Rattle.gq_laws.proofs.Runs.{Extends, Follows, IsRun, Keeps, HeldBetween}

-- ---- the greatest of some copies

pub greatest-cons : (c : StoredCopy) (copies : List StoredCopy) → greatest (c ∷ copies) ≡ fold newer_of c copies
greatest-cons c copies = ap (λ o. unwrap_or o first_copy) (latest-cons c copies)

-- one more copy at the end
pub greatest-push : (c d : StoredCopy) (copies : List StoredCopy) → greatest ((c ∷ copies) ++ d ∷ []) ≡ newer_of (greatest (c ∷ copies)) d
greatest-push c d copies = greatest-cons c (copies ++ d ∷ []) ∙ fold-append newer_of c copies (d ∷ []) ∙ ap (λ z. newer_of z d) (sym (greatest-cons c copies))

pub fold_grows : (c : StoredCopy) (copies : List StoredCopy) → IsAtMost c.tag (fold newer_of c copies).tag
fold_grows c [] = at_most_refl c.tag
fold_grows c (d ∷ copies) = at_most_trans c.tag (newer_of c d).tag (fold newer_of (newer_of c d) copies).tag (newer_of-left c d) (fold_grows (newer_of c d) copies)

-- more copies at the end
pub greatest_more : (c : StoredCopy) (copies more : List StoredCopy) → IsAtMost (greatest (c ∷ copies)).tag (greatest (c ∷ copies ++ more)).tag
greatest_more c copies more =
    let P : StoredCopy → StoredCopy → Type 0 = λ a b. IsAtMost a.tag b.tag in
    let whole : fold newer_of (fold newer_of c copies) more ≡ greatest (c ∷ copies ++ more) = sym (fold-append newer_of c copies more) ∙ sym (greatest-cons c (copies ++ more)) in
    subst (λ a. P a (greatest (c ∷ copies ++ more))) (sym (greatest-cons c copies)) (subst (λ b. P (fold newer_of c copies) b) whole (fold_grows (fold newer_of c copies) more))

-- ---- what an entry does to a server's copy of a file

-- the entry gives the server, which lacks the file, a copy again: one that a peer held since the loss, or at a repair the one that a peer
-- holds
pub data Gift (turn : Turn) (told : Told) (t : Trace) (server : ℕ) (file : File) : Type 0 where
  Returned : (peer : ℕ) (copy : StoredCopy) → turn ≡ Returning server file peer copy → Gift turn told t server file
  Given : (peer : ℕ) → turn ≡ Serving (ServerRepaired server) → told ≡ Repaired peer → lacks t server file ≡ true → lacks t peer file ≡ false → Gift turn told t server file

abbrev pub giver : {turn : Turn} {told : Told} {t : Trace} {server : ℕ} {file : File} → Gift turn told t server file → ℕ
giver (Returned peer copy is) = peer
giver (Given peer is told lack had) = peer

abbrev pub gift : {turn : Turn} {told : Told} {t : Trace} {server : ℕ} {file : File} → Gift turn told t server file → StoredCopy
gift (Returned peer copy is) = copy
gift {t = t} {file = file} (Given peer is told lack had) = held t peer file

-- the copy is lost, or given, or it is as it was
pub data Copying (turn : Turn) (told : Told) (t : Trace) (server : ℕ) (file : File) : Type 0 where
  Loses : is_loss turn server file ≡ true → Copying turn told t server file
  Gains : Gift turn told t server file → Copying turn told t server file
  Leaves : is_loss turn server file ≡ false → lacks_by turn told (lacks t) server file ≡ lacks t server file → ((before : ℕ → File → List StoredCopy) → left_by (lacks t) turn told before server file ≡ before server file) → Copying turn told t server file

and_true : (b : Bool) → b && true ≡ b
and_true true = refl
and_true false = refl

pub copying : (turn : Turn) (told : Told) (t : Trace) (server : ℕ) (file : File) → Copying turn told t server file
copying (Own line) told t server file = Leaves refl refl (λ before. refl)
copying (Serving BadServer) told t server file = Leaves refl refl (λ before. refl)
copying (Serving (Down n)) told t server file = Leaves refl refl (λ before. refl)
copying (Serving (Up n)) told t server file = Leaves refl refl (λ before. refl)
copying (Serving (ServerLost n)) told t server file = by (eqb n server) refl
  where
    by : (b : Bool) → eqb n server ≡ b → Copying (Serving (ServerLost n)) told t server file
    by true is = Loses is
    by false is = Leaves is (rw is refl) (λ before. rw is refl)
copying (Serving (ServerRepaired n)) told t server file = go told refl
  where
    Result : Type 0
    Result = Copying (Serving (ServerRepaired n)) told t server file

    nothing : is_given told n (lacks t) server file ≡ false → Result
    nothing none = Leaves refl (rw none (and_true (lacks t server file))) (λ before. rw none refl)

    by : (peer : ℕ) → told ≡ Repaired peer → (b : Bool) → eqb n server ≡ b → (c : Bool) → lacks t server file ≡ c → (d : Bool) → lacks t peer file ≡ d → Result
    by peer is true same true lack false had = Gains (Given peer (ap (λ z. Serving (ServerRepaired z)) (eqb-true n server same)) is lack had)
    by peer is true same true lack true also = nothing (rw (is, same, lack, also) refl)
    by peer is true same false has d e = nothing (rw (is, same, has) refl)
    by peer is false other c lack d e = nothing (rw (is, other) refl)

    go : (w : Told) → told ≡ w → Result
    go (Repaired peer) is = by peer is (eqb n server) refl (lacks t server file) refl (lacks t peer file) refl
    go w is = nothing (rw is refl)
copying (Leaping k op number) told t server file = Leaves refl refl (λ before. refl)
copying (Losing s volumes) told t server file = by (is_loss (Losing s volumes) server file) refl
  where
    by : (b : Bool) → is_loss (Losing s volumes) server file ≡ b → Copying (Losing s volumes) told t server file
    by true is = Loses is
    by false is = Leaves is (rw is) (λ before. rw is)
copying (Returning s f peer copy) told t server file = by (eqb s server && is_file f file) refl
  where
    given : eqb s server && is_file f file ≡ true → Gift (Returning s f peer copy) told t server file
    given h =
        let both = and_parts (eqb s server) (is_file f file) h in
        let files = and_parts (eqb f.volume file.volume) (eqb f.place file.place) both.1 in
        Returned peer copy (λ i. Returning (eqb-true s server both.0 i) (record { volume = eqb-true f.volume file.volume files.0 i; place = eqb-true f.place file.place files.1 i }) peer copy)

    by : (b : Bool) → eqb s server && is_file f file ≡ b → Copying (Returning s f peer copy) told t server file
    by true h = Gains (given h)
    by false h = Leaves refl (rw h (and_true (lacks t server file))) (λ before. rw h)

-- a server whose copy is lost lacks the file
pub loss_lacks : (turn : Turn) (told : Told) (before : ℕ → File → Bool) (server : ℕ) (file : File) → is_loss turn server file ≡ true → lacks_by turn told before server file ≡ true
loss_lacks (Losing s volumes) told before server file is = rw is
loss_lacks (Serving (ServerLost n)) told before server file is = rw is
loss_lacks (Serving (ServerRepaired n)) told before server file is = absurd (true≢false (sym is))
loss_lacks (Serving (Down n)) told before server file is = absurd (true≢false (sym is))
loss_lacks (Serving (Up n)) told before server file is = absurd (true≢false (sym is))
loss_lacks (Serving BadServer) told before server file is = absurd (true≢false (sym is))
loss_lacks (Own line) told before server file is = absurd (true≢false (sym is))
loss_lacks (Leaping k op number) told before server file is = absurd (true≢false (sym is))
loss_lacks (Returning s f peer copy) told before server file is = absurd (true≢false (sym is))

-- a server that lacks the file lacked it before, or its copy is lost now
pub lacked : (turn : Turn) (told : Told) (before : ℕ → File → Bool) (server : ℕ) (file : File) → is_loss turn server file ≡ false → lacks_by turn told before server file ≡ true → before server file ≡ true
lacked (Own line) told before server file is h = h
lacked (Serving BadServer) told before server file is h = h
lacked (Serving (Down n)) told before server file is h = h
lacked (Serving (Up n)) told before server file is h = h
lacked (Serving (ServerLost n)) told before server file is h = rw is at h
lacked (Serving (ServerRepaired n)) told before server file is h = (and_parts (before server file) (not (is_given told n before server file)) h).0
lacked (Leaping k op number) told before server file is h = h
lacked (Losing s volumes) told before server file is h = rw is at h
lacked (Returning s f peer copy) told before server file is h = (and_parts (before server file) (not (eqb s server && is_file f file)) h).0

-- ---- a copy that is given

same_copy : (a b : StoredCopy) → equal_copies a b ≡ true → a ≡ b
same_copy a b h =
    let parts = and_parts (eqb a.tag.number b.tag.number && eqb a.tag.session b.tag.session) (bytes_eq a.bytes b.bytes) h in
    let tags = and_parts (eqb a.tag.number b.tag.number) (eqb a.tag.session b.tag.session) parts.0 in
    let bytes : a.bytes ≡ b.bytes = (bytes_eq-Decides a.bytes b.bytes).0 parts.1 in
    λ i. record { tag = record { number = eqb-true a.tag.number b.tag.number tags.0 i; session = eqb-true a.tag.session b.tag.session tags.1 i }; bytes = bytes i }

is_among : (copy : StoredCopy) (copies : List StoredCopy) → list_any (equal_copies copy) copies ≡ true → Contains copies copy
is_among copy [] h = absurd (true≢false (sym h))
is_among copy (c ∷ copies) h = by (equal_copies copy c) refl (λ rest. is_among copy copies rest)
  where
    by : (b : Bool) → equal_copies copy c ≡ b → (list_any (equal_copies copy) copies ≡ true → Contains copies copy) → Contains (c ∷ copies) copy
    by true same among = (0, omega arith, sym (same_copy copy c same))
    by false other among = let later = among (rw other at h) in (suc later.0, omega (arith, later.1), later.2)

-- the server lacked the file, and a peer could give it the copy
pub record IsOffered (grid : Grid) (t : Trace) (server : ℕ) (file : File) (peer : ℕ) (copy : StoredCopy) : Type 0 where
  pub lacked : lacks t server file ≡ true
  pub peers : are_peers grid server peer ≡ true
  pub among : Contains (offered t server file peer) copy

returned_offered : (grid : Grid) (row : TenantRow) (t : Trace) (e : Entry) (server : ℕ) (file : File) (peer : ℕ) (copy : StoredCopy) → Follows grid row t e → e.turn ≡ Returning server file peer copy → IsOffered grid t server file peer copy
returned_offered grid row t e server file peer copy follows turn_is = by (lacks t server file) refl (are_peers grid server peer && list_any (equal_copies copy) (offered t server file peer)) refl
  where
    told : return_told grid (questions t) server file peer copy ≡ e.told
    told = sym (ap (λ z. (step_on grid row follows.lines t z).told) turn_is) ∙ follows.told

    refused : (word : Told) → is_refusal word ≡ true → return_told grid (questions t) server file peer copy ≡ word → ⊥
    refused word bad is = true≢false (sym bad ∙ ap is_refusal (sym is ∙ told) ∙ follows.accepted)

    by : (b : Bool) → lacks t server file ≡ b → (c : Bool) → (are_peers grid server peer && list_any (equal_copies copy) (offered t server file peer)) ≡ c → IsOffered grid t server file peer copy
    by false has c h = absurd (refused (ServerRefused Same) refl (rw has))
    by true lack false h = absurd (refused (Refused NoMessage) refl (rw (lack, h)))
    by true lack true h =
        let both = and_parts (are_peers grid server peer) (list_any (equal_copies copy) (offered t server file peer)) h in
        record { lacked = lack; peers = both.0; among = is_among copy (offered t server file peer) both.1 }

-- what a peer holds that has the file it could give, where some server lacks the file
now_offered : (t : Trace) (server : ℕ) (file : File) (peer : ℕ) → lacks t server file ≡ true → lacks t peer file ≡ false → Contains (offered t server file peer) (held t peer file)
now_offered [] server file peer lack had = absurd (true≢false (sym lack))
now_offered (e ∷ t) server file peer lack had = rw had (Contains-push (if is_loss e.turn server file then [] else offered t server file peer) (held (e ∷ t) peer file))

-- at a repair
repaired_offered : (grid : Grid) (row : TenantRow) (t : Trace) (e : Entry) (server : ℕ) (file : File) (peer : ℕ) → Follows grid row t e → e.turn ≡ Serving (ServerRepaired server) → e.told ≡ Repaired peer → lacks t server file ≡ true → lacks t peer file ≡ false → IsOffered grid t server file peer (held t peer file)
repaired_offered grid row t e server file peer follows turn_is told_is lack had =
    let said : server_told grid (up t) (gone t) (ServerRepaired server) ≡ e.told = sym (ap (λ z. (step_on grid row follows.lines t z).told) turn_is) ∙ follows.told in
    let r = repair grid (up t) (gone t) server (ap is_refusal said ∙ follows.accepted) in
    let both : Repaired r.peer ≡ Repaired peer = sym r.told ∙ said ∙ told_is in
    let same : r.peer ≡ peer = cc in
    let P : ℕ → Type 0 = λ z. are_peers grid server z ≡ true in
    record { lacked = lack; peers = subst P same r.is_peer.peers; among = now_offered t server file peer lack had }

pub given_offered : (grid : Grid) (row : TenantRow) (t : Trace) (e : Entry) (server : ℕ) (file : File) → Follows grid row t e → (g : Gift e.turn e.told t server file) → IsOffered grid t server file (giver g) (gift g)
given_offered grid row t e server file follows (Returned peer copy turn_is) = returned_offered grid row t e server file peer copy follows turn_is
given_offered grid row t e server file follows (Given peer turn_is told_is lack had) = repaired_offered grid row t e server file peer follows turn_is told_is lack had

-- ---- what a server holds

-- a store brings some copies or none
stored_more : (serving : ℕ → File → Bool) (message : Option OwnMessage) (before : ℕ → File → List StoredCopy) (server : ℕ) (file : File) → (more : List StoredCopy) × (stored_by serving message before server file ≡ before server file ++ more)
stored_more serving None before server file = ([], sym (append-nil (before server file)))
stored_more serving (Some m) before server file = go m.body refl
  where
    Result : Type 0
    Result = (more : List StoredCopy) × (stored_by serving (Some m) before server file ≡ before server file ++ more)

    by : (c : StoredCopy) → m.body ≡ Store c → (b : Bool) → ((m.server == server) && is_file m.file file && serving server file) ≡ b → Result
    by c is true e = (c ∷ [], rw (is, e) refl)
    by c is false e = ([], rw (is, e) (sym (append-nil (before server file))))

    go : (b : Body) → m.body ≡ b → Result
    go Ask is = ([], rw is (sym (append-nil (before server file))))
    go (Copy c) is = ([], rw is (sym (append-nil (before server file))))
    go (Store c) is = by c is ((m.server == server) && is_file m.file file && serving server file) refl
    go Stored is = ([], rw is (sym (append-nil (before server file))))

-- with one more entry that leaves the copy
held_left : (e : Entry) (t : Trace) (server : ℕ) (file : File) → ((before : ℕ → File → List StoredCopy) → left_by (lacks t) e.turn e.told before server file ≡ before server file) → IsAtMost (held t server file).tag (held (e ∷ t) server file).tag
held_left e t server file left =
    let more = stored_more (serves (up t) (lacks t)) e.message (brought t) server file in
    let is : brought (e ∷ t) server file ≡ brought t server file ++ more.0 = left (stored_by (serves (up t) (lacks t)) e.message (brought t)) ∙ more.1 in
    let P : List StoredCopy → Type 0 = λ z. IsAtMost (held t server file).tag (greatest (first_copy ∷ z)).tag in
    subst P (sym is) (greatest_more first_copy (brought t server file) more.0)

-- what a server holds that was given a copy
pub held_given : (turn : Turn) (message : Option OwnMessage) (said : Told) (new : List OwnMessage) (t : Trace) (server : ℕ) (file : File) → message ≡ delivered t turn → (g : Gift turn said t server file) → held (record { turn = turn; message = message; told = said; new = new } ∷ t) server file ≡ newer_of first_copy (gift g)
held_given turn message said new t server file comes (Returned peer copy turn_is) =
    let is : brought (record { turn = turn; message = message; told = said; new = new } ∷ t) server file ≡ copy ∷ [] = ap (λ z. left_by (lacks t) z said (stored_by (serves (up t) (lacks t)) message (brought t)) server file) turn_is ∙ rw (eq-eqb server server refl, eq-eqb file.volume file.volume refl, eq-eqb file.place file.place refl) in
    ap copy_of is ∙ greatest-push first_copy copy []
held_given turn message said new t server file comes (Given peer turn_is told_is lack had) =
    let none : message ≡ None = comes ∙ ap (delivered t) turn_is in
    let is : brought (record { turn = turn; message = message; told = said; new = new } ∷ t) server file ≡ held t peer file ∷ [] = ap (λ z. left_by (lacks t) z said (stored_by (serves (up t) (lacks t)) message (brought t)) server file) turn_is ∙ rw (none, told_is, eq-eqb server server refl, lack, had) refl in
    ap copy_of is ∙ greatest-push first_copy (held t peer file) []

-- ---- what a server keeps

-- a server that has the file keeps what it holds, or less
pub keeps_had : (grid : Grid) (t : Trace) (server : ℕ) (file : File) (tag : Tag) → lacks t server file ≡ false → Keeps grid t server file tag → IsAtMost tag (held t server file).tag
keeps_had grid [] server file tag had k = k
keeps_had grid (e ∷ t) server file tag had k = by (is_loss e.turn server file) refl
  where
    by : (b : Bool) → is_loss e.turn server file ≡ b → IsAtMost tag (held (e ∷ t) server file).tag
    by true lost = absurd (true≢false (sym (loss_lacks e.turn e.told (lacks t) server file lost) ∙ had))
    by false is = rw (is, had) at k

pub had_keeps : (grid : Grid) (t : Trace) (server : ℕ) (file : File) (tag : Tag) → lacks t server file ≡ false → IsAtMost tag (held t server file).tag → Keeps grid t server file tag
had_keeps grid [] server file tag had k = k
had_keeps grid (e ∷ t) server file tag had k = by (is_loss e.turn server file) refl
  where
    by : (b : Bool) → is_loss e.turn server file ≡ b → Keeps grid (e ∷ t) server file tag
    by true lost = absurd (true≢false (sym (loss_lacks e.turn e.told (lacks t) server file lost) ∙ had))
    by false is = rw (is, had) k

pub one_is : (x y : StoredCopy) → Contains (x ∷ []) y → x ≡ y
one_is x y (zero, low, is) = is
one_is x y (suc i, low, is) = absurd (omega arith)

-- what a server keeps that lacks the file, its peers keep, and the copies have it that they could give since the loss
abbrev pub PeersKeep : Grid → Trace → Type 0
PeersKeep grid t = (server : ℕ) (file : File) (tag : Tag) → lacks t server file ≡ true → Keeps grid t server file tag → (peer : ℕ) → are_peers grid server peer ≡ true →
    Keeps grid t peer file tag × ((copy : StoredCopy) → Contains (offered t server file peer) copy → IsAtMost tag copy.tag)

-- with one more entry, but a loss of it
keeps_more : (grid : Grid) (row : TenantRow) (t : Trace) (e : Entry) → PeersKeep grid t → Follows grid row t e → (server : ℕ) (file : File) (tag : Tag) → is_loss e.turn server file ≡ false → Keeps grid t server file tag → Keeps grid (e ∷ t) server file tag
keeps_more grid row t e peers follows server file tag none k = go (lacks (e ∷ t) server file) refl (copying e.turn e.told t server file)
  where
    go : (b : Bool) → lacks (e ∷ t) server file ≡ b → Copying e.turn e.told t server file → Keeps grid (e ∷ t) server file tag
    go true lack c = rw (none, lack) k
    go false had (Loses is) = absurd (true≢false (sym is ∙ none))
    go false had (Gains g) =
        let s = given_offered grid row t e server file follows g in
        let low : IsAtMost tag (gift g).tag = (peers server file tag s.lacked k (giver g) s.peers).1 (gift g) s.among in
        let P : StoredCopy → Type 0 = λ z. IsAtMost tag z.tag in
        rw (none, had) (subst P (sym (held_given e.turn e.message e.told e.new t server file follows.message g)) (at_most_trans tag (gift g).tag (newer_of first_copy (gift g)).tag low (newer_of-right first_copy (gift g))))
    go false had (Leaves is lack left) =
        let before : IsAtMost tag (held t server file).tag = keeps_had grid t server file tag (sym lack ∙ had) k in
        rw (none, had) (at_most_trans tag (held t server file).tag (held (e ∷ t) server file).tag before (held_left e t server file left))

peers_more : (grid : Grid) (row : TenantRow) (t : Trace) (e : Entry) → PeersKeep grid t → Follows grid row t e → PeersKeep grid (e ∷ t)
peers_more grid row t e peers follows server file tag lack k peer are = (now peer are, λ copy within. shows copy (Contains-append_cases _ _ copy within))
  where
    Kept : ℕ → Type 0
    Kept m = Keeps grid t m file tag

    -- all peers kept it before
    before : (m : ℕ) → are_peers grid server m ≡ true → Kept m
    before m is = by (is_loss e.turn server file) refl
      where
        by : (b : Bool) → is_loss e.turn server file ≡ b → Kept m
        by true lost = (rw lost at k) m is
        by false none = let kept : Kept server = rw (none, lack) at k in (peers server file tag (lacked e.turn e.told (lacks t) server file none lack) kept m is).0

    now : (m : ℕ) → are_peers grid server m ≡ true → Keeps grid (e ∷ t) m file tag
    now m is = by (is_loss e.turn m file) refl
      where
        by : (b : Bool) → is_loss e.turn m file ≡ b → Keeps grid (e ∷ t) m file tag
        by true lost = rw lost (λ other also. before other (peers_of_peers grid server m other is also))
        by false none = keeps_more grid row t e peers follows m file tag none (before m is)

    shows : (copy : StoredCopy) → Contains (if is_loss e.turn server file then [] else offered t server file peer) copy ⊎ Contains (if lacks (e ∷ t) peer file then [] else held (e ∷ t) peer file ∷ []) copy → IsAtMost tag copy.tag
    shows copy (inl old) = by (is_loss e.turn server file) refl
      where
        by : (b : Bool) → is_loss e.turn server file ≡ b → IsAtMost tag copy.tag
        by true lost = absurd (let none : Contains [] copy = rw lost at old in omega (arith, none.1))
        by false none =
            let kept : Kept server = rw (none, lack) at k in
            let within : Contains (offered t server file peer) copy = rw none at old in
            (peers server file tag (lacked e.turn e.told (lacks t) server file none lack) kept peer are).1 copy within
    shows copy (inr new) = by (lacks (e ∷ t) peer file) refl
      where
        by : (b : Bool) → lacks (e ∷ t) peer file ≡ b → IsAtMost tag copy.tag
        by true none = absurd (let empty : Contains [] copy = rw none at new in omega (arith, empty.1))
        by false had =
            let one : Contains (held (e ∷ t) peer file ∷ []) copy = rw had at new in
            let same : held (e ∷ t) peer file ≡ copy = one_is (held (e ∷ t) peer file) copy one in
            let P : StoredCopy → Type 0 = λ z. IsAtMost tag z.tag in
            subst P same (keeps_had grid (e ∷ t) peer file tag had (now peer are))

pub peers_keep : (grid : Grid) (row : TenantRow) (t : Trace) → IsRun grid row t → PeersKeep grid t
peers_keep grid row [] run = λ server file tag lack k peer are. absurd (true≢false (sym lack))
peers_keep grid row (e ∷ t) run = peers_more grid row t e (peers_keep grid row t run.0) run.1

pub keeps_step : (grid : Grid) (row : TenantRow) (t : Trace) (e : Entry) → IsRun grid row t → Follows grid row t e → (server : ℕ) (file : File) (tag : Tag) → is_loss e.turn server file ≡ false → Keeps grid t server file tag → Keeps grid (e ∷ t) server file tag
keeps_step grid row t e run follows = keeps_more grid row t e (peers_keep grid row t run) follows

-- ---- moments

pub extends_join : (a b c : Trace) → Extends a b → Extends b c → Extends a c
extends_join a b c x y = (x.0 ++ y.0, rw append_assoc (ap (λ z. x.0 ++ z) y.1 ∙ x.1))

pub extends_more : (e : Entry) (later earlier : Trace) → Extends later earlier → Extends (e ∷ later) earlier
extends_more e later earlier x = (e ∷ x.0, ap (λ z. e ∷ z) x.1)

-- an earlier trace of a run is a run
pub run_before : (grid : Grid) (row : TenantRow) (later earlier : Trace) → Extends later earlier → IsRun grid row later → IsRun grid row earlier
run_before grid row later earlier x run = let P : Trace → Type 0 = λ z. IsRun grid row z in along x.0 (subst P (sym x.1) run)
  where
    along : (more : Trace) → IsRun grid row (more ++ earlier) → IsRun grid row earlier
    along [] run = run
    along (e ∷ more) run = along more run.0

pub held_between_more : (grid : Grid) (row : TenantRow) (e : Entry) (earlier later : Trace) (server : ℕ) (file : File) (copy : StoredCopy) → IsRun grid row later → Follows grid row later e → is_loss e.turn server file ≡ false → HeldBetween grid earlier later server file copy → HeldBetween grid earlier (e ∷ later) server file copy
held_between_more grid row e earlier later server file copy run follows none h =
    record { moment = h.moment; since = h.since; until = extends_more e later h.moment h.until; held_then = h.held_then; had = h.had; kept = keeps_step grid row later e run follows server file copy.tag none h.kept }
