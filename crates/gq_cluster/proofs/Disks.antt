-- A disk is lost by one turn of the model, and a server is given a copy by one; neither does anything in a session.
use Rattle.std.proofs.Common.{◌≡◌, ℕ, zero, suc, Bool, true, false, ◌&&◌, ◌||◌, not, List, [], ◌∷◌, refl, sym, ap, ◌∙◌, subst, None, arith, append-nil, eqb}
use Rattle.std.specs.Prelude.{Contains, if◌then◌else◌}
use Rattle.std.specs.List.{list_any}
use Rattle.std.proofs.lemmas.Bool.{and_parts, eq-eqb, eqb-true, or_left, or_right}
use Rattle.std.proofs.lemmas.Slice.Eq.{bytes_eq-Decides}
use Rattle.gq_tag.specs.declared.StoredCopy.{StoredCopy}
use Rattle.gq_tag.specs.Tag.{File, is_file, OwnMessage, to_server}
use Rattle.gq_phase.specs.Quorums.{are_peers}
use Rattle.gq_model.specs.Told.{ServerOk}
use Rattle.gq_model.specs.Trace.{Turn, Losing, Returning, Entry, Past, questions, sent, lacks, is_awaited, brought, offered, session}
use Rattle.gq_model.specs.Lone.{after, trace_after, quiet, is_counted, loss_told, equal_copies, return_told}
use Rattle.gq_cluster.specs.Cluster.{Setting, Cluster, Part, NoneCounts, is_within, parts_with, lost_part, given_part, with_loss, with_return}
use Rattle.gq_cluster.proofs.Standing.{Stands, holds_as, offers_on}

-- the second past stands for the cluster, by no line more
pub record IsBehind (s : Setting) (p q : Past) (then_is : Cluster) : Type 0 where
  pub stands : Stands s q then_is
  pub lines : q.lines ≡ p.lines

-- so does the past after such a turn, for the cluster after the node step
abbrev pub IsDone : Setting → Past → Turn → Cluster → Type 0
IsDone s p turn then_is = IsBehind s p (after s.grid s.row p turn) then_is

-- the entry of a turn that is told to nobody
abbrev silent_entry : Turn → Entry
silent_entry turn = record { turn = turn; message = None; told = ServerOk; new = [] }

abbrev with_turn : Past → Turn → Past
with_turn p turn = record { lines = p.lines; trace = silent_entry turn ∷ p.trace }

-- ---- a loss

none_any : (test : OwnMessage → Bool) (ms : List OwnMessage) → ((m : OwnMessage) → Contains ms m → test m ≡ false) → list_any test ms ≡ false
none_any test [] none = refl
none_any test (m ∷ ms) none = rw (none m (0, omega arith, refl)) (none_any test ms (λ x within. none x (suc within.0, omega (arith, within.1), within.2)))

-- no operation that goes on counts on what is lost
uncounted : (s : Setting) (p : Past) (c : Cluster) (server volumes : ℕ) → Stands s p c → NoneCounts s c server volumes → list_any (is_counted (questions p.trace) (Losing server volumes)) (sent p.trace) ≡ false
uncounted s p c server volumes stands none = none_any (is_counted (questions p.trace) (Losing server volumes)) (sent p.trace) each
  where
    each : (m : OwnMessage) → Contains (sent p.trace) m → is_counted (questions p.trace) (Losing server volumes) m ≡ false
    each m within = by (to_server m.body) refl (eqb server m.server && is_within volumes m.file) refl
      where
        written : Contains c.written m
        written = let P : List OwnMessage → Type 0 = λ z. Contains z m in subst P stands.written within

        by : (a : Bool) → to_server m.body ≡ a → (b : Bool) → (eqb server m.server && is_within volumes m.file) ≡ b → is_counted (questions p.trace) (Losing server volumes) m ≡ false
        by true asks b loss = rw asks refl
        by false reply false loss = rw (reply, loss) refl
        by false reply true loss =
            let parts = and_parts (eqb server m.server) (is_within volumes m.file) loss in
            let free : is_awaited ((c.part (s.home m.session)).session m.session) m ≡ false = none m written reply (sym (eqb-true server m.server parts.0)) parts.1 in
            let here : is_awaited (session p.trace m.session) m ≡ false = ap (λ z. is_awaited z m) (stands.sessions m.session) ∙ free in
            rw (reply, loss, here) refl

pub loses : (s : Setting) (p : Past) (c : Cluster) (server volumes : ℕ) → Stands s p c → NoneCounts s c server volumes → IsDone s p (Losing server volumes) (with_loss server volumes c)
loses s p c server volumes stands none = subst P (sym then_is) (record {
  stands = record {
    opened = stands.opened;
    written = append-nil (sent p.trace) ∙ stands.written;
    kept = stands.kept;
    beyond = stands.beyond;
    none_gone = stands.none_gone;
    lacking = lacking;
    copies = copies;
    sessions = λ k. stands.sessions k ∙ kept (s.home k) k (eqb server (s.home k));
    offers = λ to file peer copy within. offers_on _ _ _ _ copy (offers to file peer copy (eqb server to && is_within volumes file)) (holds_as (silent_entry turn ∷ p.trace) parts lacking copies file peer) within;
  };
  lines = refl;
})
  where
    turn : Turn
    turn = Losing server volumes

    P : Past → Type 0
    P z = IsBehind s p z (with_loss server volumes c)

    told : loss_told (questions p.trace) turn ≡ ServerOk
    told = rw (uncounted s p c server volumes stands none) refl

    then_is : after s.grid s.row p turn ≡ with_turn p turn
    then_is = λ i. record { lines = p.lines; trace = trace_after p.trace turn (quiet (told i)) }

    parts : ℕ → Part
    parts = parts_with server (lost_part volumes) c.part

    lacking : (n : ℕ) (file : File) → lacks (silent_entry turn ∷ p.trace) n file ≡ (parts n).lacks file
    lacking n file = by (eqb server n)
      where
        by : (b : Bool) → ((b && is_within volumes file) || lacks p.trace n file) ≡ (if b then lost_part volumes (c.part n) else c.part n).lacks file
        by true = ap (λ z. is_within volumes file || z) (stands.lacking n file)
        by false = stands.lacking n file

    copies : (n : ℕ) (file : File) → brought (silent_entry turn ∷ p.trace) n file ≡ (parts n).brought file
    copies n file = by (eqb server n)
      where
        by : (b : Bool) → ◌≡◌ {A = List StoredCopy} (if b && is_within volumes file then [] else brought p.trace n file) ((if b then lost_part volumes (c.part n) else c.part n).brought file)
        by true = ap (λ z. if is_within volumes file then [] else z) (stands.copies n file)
        by false = stands.copies n file

    kept : (n k : ℕ) (b : Bool) → (c.part n).session k ≡ (if b then lost_part volumes (c.part n) else c.part n).session k
    kept n k true = refl
    kept n k false = refl

    offers : (to : ℕ) (file : File) (peer : ℕ) (copy : StoredCopy) (b : Bool) → Contains (if b then [] else c.offered to file peer) copy → Contains (if b then [] else offered p.trace to file peer) copy
    offers to file peer copy true within = within
    offers to file peer copy false within = stands.offers to file peer copy within

-- ---- a return

equal_self : (copy : StoredCopy) → equal_copies copy copy ≡ true
equal_self copy = rw (eq-eqb copy.tag.number copy.tag.number refl, eq-eqb copy.tag.session copy.tag.session refl) ((bytes_eq-Decides copy.bytes copy.bytes).1 refl)

is_offered : (copy : StoredCopy) (copies : List StoredCopy) → Contains copies copy → list_any (equal_copies copy) copies ≡ true
is_offered copy [] within = absurd (omega (arith, within.1))
is_offered copy (x ∷ copies) (zero, low, is) = let P : StoredCopy → Type 0 = λ z. equal_copies copy z ≡ true in or_left (equal_copies copy x) (list_any (equal_copies copy) copies) (subst P (sym is) (equal_self copy))
is_offered copy (x ∷ copies) (suc i, low, is) = or_right (equal_copies copy x) (list_any (equal_copies copy) copies) (is_offered copy copies (i, omega arith, is))

pub returns : (s : Setting) (p : Past) (c : Cluster) (server : ℕ) (file : File) (peer : ℕ) (copy : StoredCopy) → Stands s p c → (c.part server).lacks file ≡ true → are_peers s.grid server peer ≡ true → Contains (c.offered server file peer) copy → IsDone s p (Returning server file peer copy) (with_return server file copy c)
returns s p c server file peer copy stands lack peers among = subst P (sym then_is) (record {
  stands = record {
    opened = stands.opened;
    written = append-nil (sent p.trace) ∙ stands.written;
    kept = stands.kept;
    beyond = stands.beyond;
    none_gone = stands.none_gone;
    lacking = lacking;
    copies = copies;
    sessions = λ k. stands.sessions k ∙ kept (s.home k) k (eqb server (s.home k));
    offers = λ to f m d within. offers_on (c.offered to f m) (offered p.trace to f m) _ _ d (stands.offers to f m d) (holds_as (silent_entry turn ∷ p.trace) parts lacking copies f m) within;
  };
  lines = refl;
})
  where
    turn : Turn
    turn = Returning server file peer copy

    P : Past → Type 0
    P z = IsBehind s p z (with_return server file copy c)

    told : return_told s.grid (questions p.trace) server file peer copy ≡ ServerOk
    told =
        let lacks_it : lacks p.trace server file ≡ true = stands.lacking server file ∙ lack in
        rw (lacks_it, peers, is_offered copy (offered p.trace server file peer) (stands.offers server file peer copy among)) refl

    then_is : after s.grid s.row p turn ≡ with_turn p turn
    then_is = λ i. record { lines = p.lines; trace = trace_after p.trace turn (quiet (told i)) }

    parts : ℕ → Part
    parts = parts_with server (given_part file copy) c.part

    and_true : (b : Bool) → b && true ≡ b
    and_true true = refl
    and_true false = refl

    lacking : (n : ℕ) (f : File) → lacks (silent_entry turn ∷ p.trace) n f ≡ (parts n).lacks f
    lacking n f = by (eqb server n)
      where
        by : (b : Bool) → (lacks p.trace n f && not (b && is_file file f)) ≡ (if b then given_part file copy (c.part n) else c.part n).lacks f
        by true = ap (λ z. z && not (is_file file f)) (stands.lacking n f)
        by false = and_true (lacks p.trace n f) ∙ stands.lacking n f

    copies : (n : ℕ) (f : File) → brought (silent_entry turn ∷ p.trace) n f ≡ (parts n).brought f
    copies n f = by (eqb server n)
      where
        by : (b : Bool) → ◌≡◌ {A = List StoredCopy} (if b && is_file file f then copy ∷ [] else brought p.trace n f) ((if b then given_part file copy (c.part n) else c.part n).brought f)
        by true = ap (λ z. if is_file file f then copy ∷ [] else z) (stands.copies n f)
        by false = stands.copies n f

    kept : (n k : ℕ) (b : Bool) → (c.part n).session k ≡ (if b then given_part file copy (c.part n) else c.part n).session k
    kept n k true = refl
    kept n k false = refl
