-- What a look tells: no less than what was settled as it began, settled as it ends, and the first copy or one that a write made.
use Rattle.std.proofs.Common.{◌≡◌, ℕ, zero, suc, Bool, true, false, List, [], ◌∷◌, ◌++◌, map, refl, sym, ap, ◌∙◌, subst, inl, Some, arith}
use Rattle.std.specs.Prelude.{◌==◌, Contains, slice_get}
use Rattle.std.proofs.lemmas.Bool.{eqb-true, true≢false}
use Rattle.gq_grid.specs.Grid.{Grid}
use Rattle.gq_tag.specs.declared.Tag.{Tag}
use Rattle.gq_tag.specs.declared.StoredCopy.{StoredCopy}
use Rattle.gq_tag.specs.Tag.{File}
use Rattle.gq_tag.proofs.Order.{IsAtMost, at_most_trans}
use Rattle.gq_phase.proofs.Meeting.{rounds_meet, stores_have_peers}
use Rattle.gq_desk.specs.declared.plans.TenantRow.{TenantRow}
use Rattle.gq_model.specs.Trace.{Turn, Trace, held, questions}
use Rattle.gq_laws.proofs.Holding.{keeps_had, had_keeps}
use Rattle.gq_laws.proofs.Found.{greatest_in, greatest_bound, position_of}
use Rattle.gq_laws.proofs.Invariant.{Invariant}
use Rattle.gq_laws.proofs.InvariantKept.{invariant_along}
use Rattle.gq_laws.proofs.Runs.{IsKnown, Keeps, Settled, Extends}
use Rattle.gq_laws.proofs.Sessions.{kept_since, known_grows}
use Rattle.gq_looks.specs.Looks.{Seen, Look, IsLook, WasSeen, trace_at, servers_of, copy_of}
use Rattle.gq_looks.proofs.Moments.{run_at, extends_at, keeps_at}

-- a server of the set was seen
seen_in : (seen : List Seen) (server : ℕ) → servers_of seen server ≡ true → (s : Seen) × Contains seen s × (s.server ≡ server)
seen_in [] server is = absurd (true≢false (sym is))
seen_in (x ∷ seen) server is = by (x.server == server) refl (seen_in seen server)
  where
    Result : Type 0
    Result = (s : Seen) × Contains (x ∷ seen) s × (s.server ≡ server)

    by : (b : Bool) → (x.server == server) ≡ b → (servers_of seen server ≡ true → (s : Seen) × Contains seen s × (s.server ≡ server)) → Result
    by true e later = (x, (0, omega arith, refl), eqb-true x.server server e)
    by false e later =
        let rest = later (rw e at is) in
        let at = rest.1 in
        (rest.0, (suc at.0, omega (arith, at.1), at.2), rest.2)

-- the copies that were collected
mapped_at : (seen : List Seen) (i : ℕ) (s : Seen) → slice_get seen i ≡ Some s → slice_get (map (λ s. s.copy) seen) i ≡ Some s.copy
mapped_at [] i s h = absurd (cc)
mapped_at (x ∷ seen) zero s h = let same : x ≡ s = cc in ap (λ (z : Seen). Some z.copy) same
mapped_at (x ∷ seen) (suc i) s h = mapped_at seen i s h

copy_was : (seen : List Seen) (c : StoredCopy) → Contains (map (λ s. s.copy) seen) c → (s : Seen) × Contains seen s × (s.copy ≡ c)
copy_was [] c within = absurd (omega (arith, within.1))
copy_was (x ∷ seen) c (zero, low, is) = (x, (0, omega arith, refl), is)
copy_was (x ∷ seen) c (suc i, low, is) = let later = copy_was seen c (i, omega arith, is) in let at = later.1 in (later.0, (suc at.0, omega (arith, at.1), at.2), later.2)

-- what was settled as the look began is no greater than its copy
pub look_least : (grid : Grid) (row : TenantRow) (turns : List Turn) (file : File) (look : Look) (tag : Tag) → IsLook grid row turns file look → Settled grid (trace_at grid row turns look.begin) file tag → IsAtMost tag (copy_of look).tag
look_least grid row turns file look tag is settled =
    let meet = rounds_meet grid (servers_of look.collected) settled.set is.collects settled.ends in
    let found = seen_in look.collected meet.0 meet.2 in
    let s : Seen = found.0 in
    let was : WasSeen grid row turns file look.begin look.end s = is.collected s found.1 in
    let t : Trace = trace_at grid row turns s.moment in
    let since : Extends t (trace_at grid row turns look.begin) = extends_at grid row turns look.begin s.moment was.after (omega (arith, was.before, is.within)) in
    let keeps : Keeps grid t s.server file tag = subst (λ n. Keeps grid t n file tag) (sym found.2) (kept_since grid row t (trace_at grid row turns look.begin) file tag (run_at grid row turns s.moment) since settled meet.0 meet.3) in
    let low : IsAtMost tag s.copy.tag = subst (λ (c : StoredCopy). IsAtMost tag c.tag) was.copy (keeps_had grid t s.server file tag was.has keeps) in
    let place = position_of look.collected s found.1 in
    at_most_trans tag s.copy.tag (copy_of look).tag low (greatest_bound (map (λ s. s.copy) look.collected) s.copy place.0 (mapped_at look.collected place.0 s place.1))

-- as it ends its copy's tag is settled
pub look_settles : (grid : Grid) (row : TenantRow) (turns : List Turn) (file : File) (look : Look) → IsLook grid row turns file look → Settled grid (trace_at grid row turns look.end) file (copy_of look).tag
look_settles grid row turns file look is =
    let some = stores_have_peers grid (servers_of look.confirmed) is.confirms in
    record { set = some.0; ends = some.1; peers = some.3; kept_there = λ server inside. there server (some.2 server inside) }
  where
    tag : Tag
    tag = (copy_of look).tag

    there : (server : ℕ) → servers_of look.confirmed server ≡ true → Keeps grid (trace_at grid row turns look.end) server file tag
    there server inside =
        let found = seen_in look.confirmed server inside in
        let s : Seen = found.0 in
        let was : WasSeen grid row turns file look.begin look.end s = is.confirmed s found.1 in
        let t : Trace = trace_at grid row turns s.moment in
        let low : IsAtMost tag (held (questions t) s.server file).tag = subst (λ (c : StoredCopy). IsAtMost tag c.tag) (sym was.copy) (is.no_less s found.1) in
        let then_kept : Keeps grid t s.server file tag = had_keeps grid t s.server file tag was.has low in
        subst (λ n. Keeps grid (trace_at grid row turns look.end) n file tag) found.2 (keeps_at grid row turns s.moment look.end s.server file tag was.before is.within was.kept then_kept)

-- its copy is the first one, or one that a write made before it ended
known_since : (later earlier : Trace) (file : File) (c : StoredCopy) → Extends later earlier → IsKnown earlier file c → IsKnown later file c
known_since later earlier file c since known = subst (λ (t : Trace). IsKnown t file c) since.1 (along since.0)
  where
    along : (more : Trace) → IsKnown (more ++ earlier) file c
    along [] = known
    along (e ∷ more) = known_grows e (more ++ earlier) file c (along more)

pub look_known : (grid : Grid) (row : TenantRow) (turns : List Turn) (file : File) (look : Look) → IsLook grid row turns file look → IsKnown (trace_at grid row turns look.end) file (copy_of look)
look_known grid row turns file look is = greatest_in (IsKnown (trace_at grid row turns look.end) file) (map (λ s. s.copy) look.collected) (inl refl) each
  where
    each : (c : StoredCopy) → Contains (map (λ s. s.copy) look.collected) c → IsKnown (trace_at grid row turns look.end) file c
    each c within =
        let found = copy_was look.collected c within in
        let s : Seen = found.0 in
        let was : WasSeen grid row turns file look.begin look.end s = is.collected s found.1 in
        let t : Trace = trace_at grid row turns s.moment in
        let inv : Invariant grid t = invariant_along grid row t (run_at grid row turns s.moment) in
        let known : IsKnown t file c = subst (λ (z : StoredCopy). IsKnown t file z) (was.copy ∙ found.2) (inv.held_known s.server file) in
        known_since (trace_at grid row turns look.end) t file c (extends_at grid row turns s.moment look.end was.before is.within) known
