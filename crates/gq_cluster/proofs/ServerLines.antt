-- Server lines bring the servers of any aim up, and the others of the grid down, and change nothing else.
use Rattle.std.proofs.Common.{◌≡◌, ◌≢◌, ◌⊎◌, ℕ, zero, suc, ◌+◌, ◌*◌, ◌<◌, ◌≤◌, Bool, true, false, List, [], ◌∷◌, map, refl, sym, ap, ◌∙◌, subst, inl, inr, None, arith, append-nil}
use Rattle.std.specs.Prelude.{Contains, fold, nat_lt}
use Rattle.std.specs.List.{range_with_len}
use Rattle.std.proofs.lemmas.Bool.{cases_eq, eq-eqb, ne_eqb, lt-ltb}
use Rattle.std.proofs.lemmas.List.Elements.{Contains-append_left}
use Rattle.gq_grid.specs.Grid.{Grid, Servers, below}
use Rattle.gq_tag.specs.declared.StoredCopy.{StoredCopy}
use Rattle.gq_tag.specs.Tag.{File}
use Rattle.gq_desk.specs.declared.plans.TenantRow.{TenantRow}
use Rattle.gq_model.specs.declared.events.ServerLine.{ServerLine}
use Rattle.gq_model.specs.declared.events.ServerLine.TheVariants.{Down, Up}
use Rattle.gq_model.specs.declared.events.ServerRefusal.TheVariants.{Same}
use Rattle.gq_model.specs.Told.{Told, ServerOk, ServerRefused}
use Rattle.gq_model.specs.Trace.{Turn, Serving, Entry, State, Past, questions, up, gone, volumes, sent, is_lost, lacks, brought, session, offered}
use Rattle.gq_model.specs.Lone.{after, server_told, trace_after, quiet}
use Rattle.gq_cluster.specs.Cluster.{everyone}

-- the line by which a server comes up, or goes down
abbrev pub change : Bool → ℕ → ServerLine
change true n = Up n
change false n = Down n

-- such a line for each of these servers
abbrev pub lines_for : Servers → List ℕ → List Turn
lines_for aim servers = map (λ n. Serving (change (aim n) n)) servers

-- and for each server of the grid
abbrev pub as_aimed : Grid → Servers → List Turn
as_aimed grid aim = lines_for aim (below (grid.rows * grid.cols))

-- all but who is up, and what servers could give
abbrev pub others : State → State
others state = record { up = everyone; gone = state.gone; volumes = state.volumes; sent = state.sent; is_lost = state.is_lost; lacks = state.lacks; brought = state.brought; offered = λ server file peer. []; session = state.session }

-- what a server could be given behind the first past, it could be given behind the second
abbrev pub OffersMore : Past → Past → Type 0
OffersMore p q = (server : ℕ) (file : File) (peer : ℕ) (copy : StoredCopy) → Contains (offered p.trace server file peer) copy → Contains (offered q.trace server file peer) copy

-- ---- one line

-- the second past is the first one, but that the server is up or not as wanted
pub record Sets (p q : Past) (wanted : Bool) (n : ℕ) : Type 0 where
  pub lines : q.lines ≡ p.lines
  pub rest : others (questions q.trace) ≡ others (questions p.trace)
  pub this : up q.trace n ≡ wanted
  pub apart : (x : ℕ) → n ≢ x → up q.trace x ≡ up p.trace x
  pub offers : OffersMore p q

stays : (p q : Past) (wanted : Bool) (n : ℕ) → q ≡ p → up p.trace n ≡ wanted → Sets p q wanted n
stays p q wanted n same is =
    let P : Past → Type 0 = λ z. Sets p z wanted n in
    subst P (sym same) (record { lines = refl; rest = refl; this = is; apart = λ x ne. refl; offers = λ server file peer copy within. within })

-- the entry of a server line
abbrev changed_by : ServerLine → Entry
changed_by line = record { turn = Serving line; message = None; told = ServerOk; new = [] }

abbrev with_change : Past → ServerLine → Past
with_change p line = record { lines = p.lines; trace = changed_by line ∷ p.trace }

rest_stays : (p : Past) (wanted : Bool) (n : ℕ) → others (questions (with_change p (change wanted n)).trace) ≡ others (questions p.trace)
rest_stays p true n = λ i. record { up = everyone; gone = gone p.trace; volumes = volumes p.trace; sent = append-nil (sent p.trace) i; is_lost = is_lost p.trace; lacks = lacks p.trace; brought = brought p.trace; offered = λ server file peer. []; session = session p.trace }
rest_stays p false n = λ i. record { up = everyone; gone = gone p.trace; volumes = volumes p.trace; sent = append-nil (sent p.trace) i; is_lost = is_lost p.trace; lacks = lacks p.trace; brought = brought p.trace; offered = λ server file peer. []; session = session p.trace }

this_is : (p : Past) (wanted : Bool) (n : ℕ) → up (with_change p (change wanted n)).trace n ≡ wanted
this_is p true n = rw (eq-eqb n n refl) refl
this_is p false n = rw (eq-eqb n n refl) refl

apart_is : (p : Past) (wanted : Bool) (n x : ℕ) → n ≢ x → up (with_change p (change wanted n)).trace x ≡ up p.trace x
apart_is p true n x ne = rw (ne_eqb n x ne) refl
apart_is p false n x ne = rw (ne_eqb n x ne) refl

offers_is : (p : Past) (wanted : Bool) (n : ℕ) → OffersMore p (with_change p (change wanted n))
offers_is p true n = λ server file peer copy within. Contains-append_left (offered p.trace server file peer) _ copy within
offers_is p false n = λ server file peer copy within. Contains-append_left (offered p.trace server file peer) _ copy within

changes : (p q : Past) (wanted : Bool) (n : ℕ) → q ≡ with_change p (change wanted n) → Sets p q wanted n
changes p q wanted n same =
    let P : Past → Type 0 = λ z. Sets p z wanted n in
    subst P (sym same) (record { lines = refl; rest = rest_stays p wanted n; this = this_is p wanted n; apart = apart_is p wanted n; offers = offers_is p wanted n })

-- what is told to the line decides
after_serving : (grid : Grid) (row : TenantRow) (p : Past) (line : ServerLine) (w : Told) → server_told grid (up p.trace) (gone p.trace) line ≡ w → after grid row p (Serving line) ≡ record { lines = p.lines; trace = trace_after p.trace (Serving line) (quiet w) }
after_serving grid row p line w said = λ i. record { lines = p.lines; trace = trace_after p.trace (Serving line) (quiet (said i)) }

sets : (grid : Grid) (row : TenantRow) (p : Past) (wanted : Bool) (n : ℕ) → gone p.trace n ≡ false → n < grid.rows * grid.cols → Sets p (after grid row p (Serving (change wanted n))) wanted n
sets grid row p wanted n here within = go wanted (up p.trace n) refl
  where
    inside : nat_lt n (grid.rows * grid.cols) ≡ true
    inside = lt-ltb n (grid.rows * grid.cols) within

    go : (b is : Bool) → up p.trace n ≡ is → Sets p (after grid row p (Serving (change b n))) b n
    go true true e = stays p (after grid row p (Serving (Up n))) true n (after_serving grid row p (Up n) (ServerRefused Same) (rw (inside, here, e) refl)) e
    go true false e = changes p (after grid row p (Serving (Up n))) true n (after_serving grid row p (Up n) ServerOk (rw (inside, here, e) refl))
    go false true e = changes p (after grid row p (Serving (Down n))) false n (after_serving grid row p (Down n) ServerOk (rw (inside, here, e) refl))
    go false false e = stays p (after grid row p (Serving (Down n))) false n (after_serving grid row p (Down n) (ServerRefused Same) (rw (inside, here, e) refl)) e

-- ---- all lines

-- the second past is the first one, but that of the n servers from a on those of the aim are up
pub record SetsAll (p q : Past) (aim : Servers) (a n : ℕ) : Type 0 where
  pub lines : q.lines ≡ p.lines
  pub rest : others (questions q.trace) ≡ others (questions p.trace)
  pub these : (x : ℕ) → a ≤ x → x < a + n → up q.trace x ≡ aim x
  pub apart : (x : ℕ) → (x < a) ⊎ (a + n ≤ x) → up q.trace x ≡ up p.trace x
  pub offers : OffersMore p q

sets_more : (p q z : Past) (aim : Servers) (a n : ℕ) → Sets p q (aim a) a → SetsAll q z aim (a + 1) n → SetsAll p z aim a (suc n)
sets_more p q z aim a n one more = record { lines = more.lines ∙ one.lines; rest = more.rest ∙ one.rest; these = these; apart = apart; offers = λ server file peer copy within. more.offers server file peer copy (one.offers server file peer copy within) }
  where
    these : (x : ℕ) → a ≤ x → x < a + suc n → up z.trace x ≡ aim x
    these x low high = by (cases_eq a x)
      where
        by : (a ≡ x) ⊎ (a ≢ x) → up z.trace x ≡ aim x
        by (inl same) = ap (up z.trace) (sym same) ∙ more.apart a (inl (omega arith)) ∙ one.this ∙ ap aim same
        by (inr ne) = more.these x (omega arith) (omega arith)

    apart : (x : ℕ) → (x < a) ⊎ (a + suc n ≤ x) → up z.trace x ≡ up p.trace x
    apart x (inl low) = more.apart x (inl (omega arith)) ∙ one.apart x (λ same. omega arith)
    apart x (inr high) = more.apart x (inr (omega arith)) ∙ one.apart x (λ same. omega arith)

-- no server is lost
abbrev pub NoneGone : Past → Type 0
NoneGone p = (n : ℕ) → gone p.trace n ≡ false

sets_from : (grid : Grid) (row : TenantRow) (aim : Servers) (a n : ℕ) (p : Past) → NoneGone p → a + n ≤ grid.rows * grid.cols → SetsAll p (fold (after grid row) p (lines_for aim (range_with_len a n))) aim a n
sets_from grid row aim a zero p here low = record { lines = refl; rest = refl; these = λ x from below. absurd (omega arith); apart = λ x out. refl; offers = λ server file peer copy within. within }
sets_from grid row aim a (suc n) p here low =
    let one = sets grid row p (aim a) a (here a) (omega arith) in
    sets_more p (after grid row p (Serving (change (aim a) a))) (fold (after grid row) (after grid row p (Serving (change (aim a) a))) (lines_for aim (range_with_len (a + 1) n))) aim a n one
    (sets_from grid row aim (a + 1) n (after grid row p (Serving (change (aim a) a))) (λ n. ap (λ z. z.gone n) one.rest ∙ here n) (omega arith))

-- behind these lines exactly the servers of the aim are up, of those of the grid
pub all_set : (grid : Grid) (row : TenantRow) (aim : Servers) (p : Past) → NoneGone p → SetsAll p (fold (after grid row) p (as_aimed grid aim)) aim 0 (grid.rows * grid.cols)
all_set grid row aim p here = sets_from grid row aim 0 (grid.rows * grid.cols) p here (omega arith)
