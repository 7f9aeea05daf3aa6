-- What programs that fit a plan have.
use Rattle.std.proofs.Common.{◌≡◌, ℕ, ◌<◌, List, [], All, length, get_or, refl, sym, subst}
use Rattle.std.proofs.lemmas.List.{get_or_default}
use Rattle.gq_desk.specs.CheckedPlan.{CheckedPlan}
use Rattle.gq_model.specs.declared.events.Line.{Line}
use Rattle.gq_model.specs.declared.events.Line.TheVariants.{Bad, Quorum, NewVolume, Volumes, Write, Read, List as ListFiles, Deliver, Lose, Retry, Abandon}
use Rattle.gq_model.specs.Events.{IsRequestOf}
use Rattle.gq_session.specs.declared.records.Programs.{Programs}
use Rattle.gq_session.specs.Fitting.{IsRequest, FitsPlan, id_at, plan_sessions}

is_request : (k : ℕ) (line : Line) → IsRequestOf k line → IsRequest line
is_request k Bad is = absurd is
is_request k Quorum is = absurd is
is_request k (NewVolume files blocks) is = absurd is
is_request k Volumes is = absurd is
is_request k (Write session volume file bytes) is = refl
is_request k (Read session volume file) is = refl
is_request k (ListFiles session volume) is = refl
is_request k (Deliver number) is = absurd is
is_request k (Lose number) is = absurd is
is_request k (Retry session) is = absurd is
is_request k (Abandon session) is = absurd is

-- each line is a request
pub all_requests : (plan : CheckedPlan) (programs : Programs) → FitsPlan plan programs → All (All IsRequest) programs.sessions.items
all_requests plan programs fits place d low i e inside =
    let lists = programs.sessions.items in
    let k = (id_at (plan_sessions plan) place).number in
    let same : get_or lists place d ≡ get_or lists place [] = get_or_default lists place d [] low in
    let here : IsRequestOf k (get_or (get_or lists place []) i e) = (fits.requests place low).0 i e (subst (λ (lines : List Line). i < length lines) same inside) in
    is_request k (get_or (get_or lists place d) i e) (subst (λ (lines : List Line). IsRequestOf k (get_or lines i e)) (sym same) here)
