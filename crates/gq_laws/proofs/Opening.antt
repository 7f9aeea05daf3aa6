-- The volumes that are read off the answers are those that the trace holds, and a listing's volume had its files when the listing began.
use Rattle.std.proofs.Common.{◌≡◌, ◌⊎◌, ℕ, zero, suc, ◌+◌, ◌<◌, true, false, ◌++◌, List, [], ◌∷◌, length, refl, sym, ap, ◌∙◌, subst, inl, inr, Option, Some, None, arith, append_assoc}
use Rattle.std.specs.Prelude.{slice_get}
use Rattle.std.proofs.lemmas.Bool.{true≢false}
use Rattle.gq_grid.specs.Grid.{Grid}
use Rattle.gq_tag.specs.Tag.{OwnMessage}
use Rattle.gq_desk.specs.declared.plans.TenantRow.{TenantRow}
use Rattle.gq_desk.specs.declared.volumes.VolumeRow.{VolumeRow}
use Rattle.gq_phase.specs.Phase.{Writing, Reading, Listing}
use Rattle.gq_model.specs.Trace.{files_of, Turn, Own, Trace, Past, task_of, volumes}
use Rattle.gq_model.specs.declared.events.Line.{Line}
use Rattle.gq_model.specs.declared.events.Line.TheVariants.{NewVolume, Write, Read, List as ListFiles}
use Rattle.gq_model.specs.Told.{Told, Opened}
use Rattle.gq_model.specs.Lone.{after, said, is_refusal}
use Rattle.gq_laws.proofs.Words.{step_on}
use Rattle.gq_laws.specs.Operations.{SessionAnswer, opened_in}
use Rattle.gq_laws.proofs.Acts.{opens_as, listed_volume}
use Rattle.gq_laws.proofs.Reaching.{Goes, goes_or_not, Reach, Here, Later}
use Rattle.gq_laws.proofs.Telling.{first_told, tells, tells-cons}

volumes_after : (t : Trace) (turn : Turn) (message : Option OwnMessage) (w : Told) (new : List OwnMessage) (n s : ℕ) (ts : List SessionAnswer) → ((files blocks : ℕ) → turn ≡ Own (NewVolume files blocks) → w ≡ Opened (length (volumes t))) →
    volumes t ++ opened_in (record { place = n; turn = turn; told = w; session = s } ∷ ts) ≡ volumes (record { turn = turn; message = message; told = w; new = new } ∷ t) ++ opened_in ts
volumes_after t (Own (NewVolume files blocks)) message w new n s ts h = rw (h files blocks refl, append_assoc)
volumes_after t turn message w new n s ts h = refl

volumes_refused : (n s : ℕ) (turn : Turn) (w : Told) (ts : List SessionAnswer) → is_refusal w ≡ true → opened_in (record { place = n; turn = turn; told = w; session = s } ∷ ts) ≡ opened_in ts
volumes_refused n s (Own (NewVolume files blocks)) (Opened v) ts h = absurd (true≢false (sym h))
volumes_refused n s (Own (NewVolume files blocks)) w ts h = refl
volumes_refused n s turn w ts h = refl

volumes_step : (grid : Grid) (row : TenantRow) (p : Past) (n : ℕ) (x : Turn) (ts : List SessionAnswer) → volumes p.trace ++ opened_in (first_told grid row p n x ∷ ts) ≡ volumes (after grid row p x).trace ++ opened_in ts
volumes_step grid row p n x ts = go (goes_or_not grid row p x)
  where
    go : (((after grid row p x).trace ≡ p.trace) × (is_refusal (said grid row p x) ≡ true)) ⊎ Goes grid row p x → volumes p.trace ++ opened_in (first_told grid row p n x ∷ ts) ≡ volumes (after grid row p x).trace ++ opened_in ts
    go (inl same) = ap (λ z. volumes p.trace ++ z) (volumes_refused n (first_told grid row p n x).session x (said grid row p x) ts same.1) ∙ ap (λ t. volumes t ++ opened_in ts) (sym same.0)
    go (inr g) =
        let one = volumes_after p.trace g.e.turn g.e.message g.e.told g.e.new n (first_told grid row p n x).session ts (opens_as grid row p.trace g.e.turn g.e.message g.e.told g.e.new g.follows) in
        ap (λ z. volumes p.trace ++ opened_in (z ∷ ts)) (λ i. record { place = n; turn = sym g.turn i; told = sym g.told i; session = (first_told grid row p n x).session }) ∙ one ∙ ap (λ t. volumes t ++ opened_in ts) (sym g.grown)

pub volumes_reach : {grid : Grid} {row : TenantRow} {p q : Past} {n m : ℕ} {es rest : List Turn} → Reach grid row p n es q m rest → volumes p.trace ++ opened_in (tells grid row p n es) ≡ volumes q.trace ++ opened_in (tells grid row q m rest)
volumes_reach Here = refl
volumes_reach {grid} {row} {p} {q} {n} (Later {x = x} {es = es} a) =
    ap (λ z. volumes p.trace ++ opened_in z) (tells-cons grid row p n x es) ∙ volumes_step grid row p n x (tells grid row (after grid row p x) (n + 1) es) ∙ volumes_reach a

slice_front : (xs ys : List VolumeRow) (v : ℕ) → v < length xs → slice_get (xs ++ ys) v ≡ slice_get xs v
slice_front [] ys v h = absurd (omega arith)
slice_front (x ∷ xs) ys zero h = refl
slice_front (x ∷ xs) ys (suc v) h = slice_front xs ys v (omega arith)

files_front : (xs ys : List VolumeRow) (v : ℕ) → v < length xs → files_of (xs ++ ys) v ≡ files_of xs v
files_front xs ys v h = rw (slice_front xs ys v h)

volume_line : (vs : List VolumeRow) (line : Line) (v n : ℕ) → task_of vs line ≡ Some (Listing v n) → (s : ℕ) × (line ≡ ListFiles s v)
volume_line vs (Write s w f bytes) v n h = absurd (let bad : Some (Writing (record { volume = w; place = f }) bytes) ≡ Some (Listing v n) = h in cc)
volume_line vs (Read s w f) v n h = absurd (let bad : Some (Reading (record { volume = w; place = f })) ≡ Some (Listing v n) = h in cc)
volume_line vs (ListFiles s w) v n h = let both : Some (Listing w (files_of vs w)) ≡ Some (Listing v n) = h in let same : w ≡ v = cc in (s, ap (ListFiles s) same)
volume_line vs _ v n h = absurd (let bad : None ≡ Some (Listing v n) = h in cc)

-- when a listing began its volume had as many files as it has at the end
pub listed_files : (grid : Grid) (row : TenantRow) (p q : Past) (n m : ℕ) (es : List Turn) (x : Turn) (rest : List Turn) (line : Line) (v f : ℕ) (g : Goes grid row q x) → Reach grid row p n es q m (x ∷ rest) →
    volumes p.trace ≡ [] → x ≡ Own line → task_of (volumes q.trace) line ≡ Some (Listing v f) → files_of (opened_in (tells grid row p n es)) v ≡ files_of (volumes q.trace) v
listed_files grid row p q n m es x rest line v f g reach none is asks =
    let own = volume_line (volumes q.trace) line v f asks in
    let turn : g.e.turn ≡ Own (ListFiles own.0 v) = g.turn ∙ is ∙ ap Own own.1 in
    let P : Turn → Type 0 = λ z. is_refusal (step_on grid row g.follows.lines q.trace z).told ≡ false in
    let low : v < length (volumes q.trace) = listed_volume grid row g.follows.lines q.trace own.0 v (subst P turn (ap is_refusal g.follows.told ∙ g.follows.accepted)) in
    let list : opened_in (tells grid row p n es) ≡ volumes q.trace ++ opened_in (tells grid row q m (x ∷ rest)) = ap (λ z. z ++ opened_in (tells grid row p n es)) (sym none) ∙ volumes_reach reach in
    ap (λ z. files_of z v) list ∙ files_front (volumes q.trace) (opened_in (tells grid row q m (x ∷ rest))) v low

-- a listing is asked for as many files as its volume has
pub volume_files : (vs : List VolumeRow) (line : Line) (v n : ℕ) → task_of vs line ≡ Some (Listing v n) → n ≡ files_of vs v
volume_files vs (Write s w f bytes) v n h = absurd (let bad : Some (Writing (record { volume = w; place = f }) bytes) ≡ Some (Listing v n) = h in cc)
volume_files vs (Read s w f) v n h = absurd (let bad : Some (Reading (record { volume = w; place = f })) ≡ Some (Listing v n) = h in cc)
volume_files vs (ListFiles s w) v n h = let both : Some (Listing w (files_of vs w)) ≡ Some (Listing v n) = h in let same : w ≡ v = cc in let count : files_of vs w ≡ n = cc in sym count ∙ ap (files_of vs) same
volume_files vs _ v n h = absurd (let bad : None ≡ Some (Listing v n) = h in cc)
