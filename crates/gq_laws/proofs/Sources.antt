-- Each copy that a write made is that of a write among the operations, which began before.
use Rattle.std.proofs.Common.{◌≡◌, ◌⊎◌, ℕ, ◌+◌, ◌<◌, Bool, true, false, ◌++◌, List, [], ◌∷◌, length, refl, sym, ap, ◌∙◌, subst, inl, inr, Some, None, arith, eqb}
use Rattle.std.specs.Prelude.{Contains, slice_get, if◌then◌else◌}
use Rattle.std.proofs.lemmas.Bool.{true≢false, eq-eqb, eqb-true}
use Rattle.gq_grid.specs.Grid.{Grid}
use Rattle.gq_tag.specs.declared.Tag.{Tag}
use Rattle.gq_tag.specs.Tag.{File}
use Rattle.gq_desk.specs.declared.plans.TenantRow.{TenantRow}
use Rattle.gq_desk.specs.declared.volumes.VolumeRow.{VolumeRow}
use Rattle.gq_phase.specs.Phase.{Writing, Reading, Listing, is_collect, with_reply, decided_copy}
use Rattle.gq_model.specs.Trace.{files_of, Turn, Own, Entry, Trace, Past, Elsewhere, Begins, up, volumes, task_of}
use Rattle.gq_model.specs.declared.events.Line.{Line}
use Rattle.gq_model.specs.declared.events.Line.TheVariants.{Write, Read, List as ListFiles}
use Rattle.gq_model.specs.Told.{Told, Began}
use Rattle.gq_model.specs.Lone.{after, said, is_refusal}
use Rattle.gq_laws.proofs.Words.{deed_on, op, current, round, collected}
use Rattle.gq_laws.specs.declared.ops.Kind.TheVariants.{Write as Writes}
use Rattle.gq_laws.specs.declared.ops.Op.{Op}
use Rattle.gq_laws.specs.Operations.{SessionAnswer, ending, write_tag, end_place, begun_at, begun_in, WroteWith}
use Rattle.gq_laws.proofs.Runs.{Made, made}
use Rattle.gq_phase.proofs.Saying.{even_is}
use Rattle.gq_laws.proofs.Acts.{going}
use Rattle.gq_laws.proofs.RoundEnds.{Next, ToStore, ToCollect, Skips, next_of}
use Rattle.gq_laws.proofs.Reaching.{Goes, goes_or_not, Reach, Here, Later, reach_up}
use Rattle.gq_laws.proofs.Telling.{first_told, tells, tells-cons}
use Rattle.gq_laws.proofs.SessionTurns.{View, Quiet, Turned, Finished, Started, Stopped, GivenUp, Jumped, view, moves_tag}
use Rattle.gq_laws.proofs.OperationMoments.{write_goes}
use Rattle.gq_laws.proofs.Beginnings.{at_later, at_first}
use Rattle.gq_laws.proofs.Making.{MakesCopy, made_entry}

-- ---- the write that begins

begun_write : (grid : Grid) (row : TenantRow) (file : File) (p : Past) (n : ℕ) (x : Turn) (rest : List SessionAnswer) (k v f : ℕ) (bytes : List ℕ) (o first count : ℕ) (tag : Tag) →
    x ≡ Own (Write k v f bytes) → said grid row p x ≡ Began o first count → record { volume = v; place = f } ≡ file → write_tag k rest ≡ Some tag →
    (w : Op) × (slice_get (begun_at file (first_told grid row p n x) rest) 0 ≡ Some w) × WroteWith w tag bytes × (w.begin ≡ n)
begun_write grid row file p n x rest k v f bytes o first count tag is says file_is tagged = (
  record { kind = Writes bytes; session = k; op = o; begin = n; end = end_place (ending k rest); tag = write_tag k rest },
  here (said grid row p x) says x is,
  (refl, tagged),
  refl,
)
  where
    v_is : eqb v file.volume ≡ true
    v_is = eq-eqb v file.volume (ap (λ z. z.volume) file_is)

    f_is : eqb f file.place ≡ true
    f_is = eq-eqb f file.place (ap (λ z. z.place) file_is)

    here : (w : Told) → w ≡ Began o first count → (y : Turn) → y ≡ Own (Write k v f bytes) →
        slice_get (begun_at file (record { place = n; turn = y; told = w; session = (first_told grid row p n x).session }) rest) 0 ≡ Some (record { kind = Writes bytes; session = k; op = o; begin = n; end = end_place (ending k rest); tag = write_tag k rest })
    here w w_is y y_is = rw (y_is, w_is, v_is, f_is)

-- what a line asks a write for
write_line : (vs : List VolumeRow) (line : Line) (file : File) (bytes : List ℕ) → task_of vs line ≡ Some (Writing file bytes) → (s : ℕ) × (v : ℕ) × (f : ℕ) × (line ≡ Write s v f bytes) × (record { volume = v; place = f } ≡ file)
write_line vs (Write s v f b) file bytes h =
    let both : Some (Writing (record { volume = v; place = f }) b) ≡ Some (Writing file bytes) = h in
    let same : b ≡ bytes = cc in
    let file_is : record { volume = v; place = f } ≡ file = cc in
    (s, v, f, ap (Write s v f) same, file_is)
write_line vs (Read s v f) file bytes h = absurd (let bad : Some (Reading (record { volume = v; place = f })) ≡ Some (Writing file bytes) = h in cc)
write_line vs (ListFiles s v) file bytes h = absurd (let bad : Some (Listing v (files_of vs v)) ≡ Some (Writing file bytes) = h in cc)
write_line vs _ file bytes h = absurd (let bad : None ≡ Some (Writing file bytes) = h in cc)

-- whose write it is
begins_own : (k s : ℕ) (b : Bool) (line : Line) → eqb s k ≡ b → (if b then Begins line else Elsewhere) ≡ Begins line → s ≡ k
begins_own k s true line e h = eqb-true s k e
begins_own k s false line e h = absurd (let bad : Elsewhere ≡ Begins line = h in cc)

whose : (t : Trace) (k s v f : ℕ) (bytes : List ℕ) (e : Entry) (line : Line) → e.turn ≡ Own (Write s v f bytes) → line ≡ Write s v f bytes → deed_on t k e ≡ Begins line → s ≡ k
whose t k s v f bytes e line is line_is does = begins_own k s (eqb s k) (Write s v f bytes) refl (rw (is, line_is) at does)

-- ---- along the run

-- where the copy comes from, seen from past p: it was made before, or the write that goes on makes it, or a write that begins later and before place m
pub data Source (grid : Grid) (row : TenantRow) (p : Past) (n : ℕ) (es : List Turn) (m : ℕ) (x : Made) : Type 0 where
  Before : Contains (made p.trace) x → Source grid row p n es m x
  Going : (k : ℕ) → current p.trace k ≡ Some (Writing x.file x.copy.bytes) → is_collect (round p.trace k) ≡ true → write_tag k (tells grid row p n es) ≡ Some x.copy.tag → Source grid row p n es m x
  After : (j : ℕ) (w : Op) → slice_get (begun_in x.file (tells grid row p n es)) j ≡ Some w → WroteWith w x.copy.tag x.copy.bytes → w.begin < m → Source grid row p n es m x

source_step : (grid : Grid) (row : TenantRow) (p : Past) (n : ℕ) (x : Turn) (es : List Turn) (m : ℕ) (y : Made) → n < m → Source grid row (after grid row p x) (n + 1) es m y → Source grid row p n (x ∷ es) m y
source_step grid row p n x es m y low source = go source
  where
    p' : Past
    p' = after grid row p x

    ts : List SessionAnswer
    ts = tells grid row p' (n + 1) es

    list : tells grid row p n (x ∷ es) ≡ first_told grid row p n x ∷ ts
    list = tells-cons grid row p n x es

    made_before : (((after grid row p x).trace ≡ p.trace) × (is_refusal (said grid row p x) ≡ true)) ⊎ Goes grid row p x → Contains (made p'.trace) y → Source grid row p n (x ∷ es) m y
    made_before (inl same) within = Before (let P : Trace → Type 0 = λ t. Contains (made t) y in subst P same.0 within)
    made_before (inr g) within = by (made_entry p.trace g.e y (let P : Trace → Type 0 = λ t. Contains (made t) y in subst P g.grown within))
      where
        by : Contains (made p.trace) y ⊎ MakesCopy p.trace g.e y → Source grid row p n (x ∷ es) m y
        by (inl old) = Before old
        by (inr new) = Going new.k new.busy (write_goes grid row p x new.k y.file y.copy.bytes g new.l new.r (Some y.copy.tag) new.busy new.does) (ap (write_tag new.k) list ∙ moves_tag grid row p n x new.k g new.l new.r (Some y.copy.tag) new.does ts)

    going_on : (k : ℕ) → current p'.trace k ≡ Some (Writing y.file y.copy.bytes) → is_collect (round p'.trace k) ≡ true → write_tag k ts ≡ Some y.copy.tag → View grid row p n x k → Source grid row p n (x ∷ es) m y
    going_on k busy odd tagged (Quiet u en tg) = Going k (sym u.current ∙ busy) (ap is_collect (sym u.round) ∙ odd) (ap (write_tag k) list ∙ tg ts ∙ tagged)
    going_on k busy odd tagged (Turned g l task r tag comes message is heard en tg) = absurd (by (next_of grid (up p.trace) (with_reply (going p.trace k task) l) r tag g.e.new heard))
      where
        was : current p.trace k ≡ Some (Writing y.file y.copy.bytes)
        was = sym (ap (λ t. current t k) g.grown ∙ (rw (is, current))) ∙ busy

        now : round p'.trace k ≡ r
        now = ap (λ t. round t k) g.grown ∙ (rw (is, round))

        by : Next grid (up p.trace) (with_reply (going p.trace k task) l) r tag g.e.new → ⊥
        by (ToStore o ends r_is tag_is new_is) = true≢false (sym odd ∙ ap is_collect (now ∙ r_is) ∙ even_is (length (collected p.trace k ++ decided_copy (with_reply (going p.trace k task) l) ∷ [])))
        by (Skips v f lists o ends skips r_is tag_is new_is) = let bad : Some (Writing y.file y.copy.bytes) ≡ Some (Listing v f) = sym was ∙ comes.busy ∙ ap Some lists in cc
        by (ToCollect v f lists even ends r_is tag_is new_is) = true≢false (sym (write_goes grid row p x k y.file y.copy.bytes g l r tag was is) ∙ even)
    going_on k busy odd tagged (Finished g l task out comes is heard en tg) = absurd (let bad : None ≡ Some (Writing y.file y.copy.bytes) = sym (ap (λ t. current t k) g.grown ∙ (rw (is, current))) ∙ busy in cc)
    going_on k busy odd tagged (Jumped g last number idle is en tg) = absurd (let bad : None ≡ Some (Writing y.file y.copy.bytes) = sym (ap (λ t. current t k) g.grown ∙ (rw (is, current))) ∙ busy in cc)
    going_on k busy odd tagged (GivenUp g is en tg) = absurd (let bad : None ≡ Some (Writing y.file y.copy.bytes) = sym (ap (λ t. current t k) g.grown ∙ (rw (is, current))) ∙ busy in cc)
    going_on k busy odd tagged (Stopped g is en tg) = absurd (let bad : None ≡ Some (Writing y.file y.copy.bytes) = sym (ap (λ t. current t k) g.grown ∙ (rw (is, current))) ∙ busy in cc)
    going_on k busy odd tagged (Started g line task first count turn says is does en tg) = by (write_line (volumes p.trace) line y.file y.copy.bytes asks)
      where
        asks : task_of (volumes p.trace) line ≡ Some (Writing y.file y.copy.bytes)
        asks = sym (ap (λ t. current t k) g.grown ∙ (rw (is, current))) ∙ busy

        by : (s : ℕ) × (v : ℕ) × (f : ℕ) × (line ≡ Write s v f y.copy.bytes) × (record { volume = v; place = f } ≡ y.file) → Source grid row p n (x ∷ es) m y
        by (s, v, f, line_is, file_is) =
            let own : s ≡ k = whose p.trace k s v f y.copy.bytes g.e line (g.turn ∙ turn ∙ ap Own line_is) line_is is in
            let w = begun_write grid row y.file p n x ts s v f y.copy.bytes (op p.trace k + 1) first count y.copy.tag (turn ∙ ap Own line_is) says file_is (ap (λ z. write_tag z ts) own ∙ tagged) in
            After 0 w.0 (ap (λ z. slice_get (begun_in y.file z) 0) list ∙ at_first (begun_at y.file (first_told grid row p n x) ts) (begun_in y.file ts) 0 w.0 w.1) w.2 (omega (arith, w.3))

    go : Source grid row p' (n + 1) es m y → Source grid row p n (x ∷ es) m y
    go (Before within) = made_before (goes_or_not grid row p x) within
    go (Going k busy odd tagged) = going_on k busy odd tagged (view grid row p n x k)
    go (After j w at wrote before) =
        let later = at_later (begun_at y.file (first_told grid row p n x) ts) (begun_in y.file ts) j w at in
        After later.0 w (ap (λ z. slice_get (begun_in y.file z) later.0) list ∙ later.1) wrote before

pub source : {grid : Grid} {row : TenantRow} {p q : Past} {n m : ℕ} {es rest : List Turn} (y : Made) → Reach grid row p n es q m rest → Contains (made q.trace) y → Source grid row p n es m y
source y Here within = Before within
source {grid} {row} {p} {q} {n} {m} y (Later {x = x} {es = es} a) within = source_step grid row p n x es m y (omega (arith, reach_up a)) (source y a within)
