-- The round's message goes out once more, as the model's does.
use Rattle.std.proofs.Common.{◌≡◌, ◌∙◌, ℕ, ◌-◌, ◌<◌, List, [], length, ap, sym, subst}
use Rattle.std.specs.Prelude.{slice_set}
use Rattle.std.proofs.lemmas.List.{get_or_default, set-get_or}
use Rattle.gq_grid.specs.Sets.{servers}
use Rattle.gq_grid.specs.declared.ServerSet.{ServerSet}
use Rattle.gq_phase.specs.declared.ResendRefused.TheVariants.{NoQuorum as NoneUp}
use Rattle.gq_post.specs.Channels.{Channel, channel_at}
use Rattle.gq_model.specs.declared.events.Line.TheVariants.{Retry}
use Rattle.gq_model.specs.declared.events.Refusal.TheVariants.{NoQuorum}
use Rattle.gq_model.specs.Told.{Resent}
use Rattle.gq_world.specs.declared.sessions.SessionState.{SessionState}
use Rattle.gq_world.specs.Tables.{Tables, IsShaped, session_states_at, session_state_in}
use Rattle.gq_world.specs.Saying.{with_sent}
use Rattle.gq_world.specs.SessionStates.{IsAtWork, SessionStateResends, SessionStateRefuses}
use Rattle.gq_world.specs.Machine.{Acts, TellsLine}
use Rattle.gq_world.proofs.Quiet.{refused_acts, refused_tells}
use Rattle.gq_world.proofs.RetriesAndAbandons.{works, Resends, retry_refused, none_refused, again_tells, again_acts}
use Rattle.gq_world.proofs.tables.Core.retry.Goals as goal

pub returns-in-Some-clause-answer : goal.returns-in-Some-clause-answer
returns-in-Some-clause-answer c =
    refused_tells c.args.self.now c.args.tenant (Retry c.args.session) c.in-Some.word
    (retry_refused c.args.self.now c.args.tenant c.args.session c.in-Some.word (sym c.idle_refusal.ensures ∙ c.in-Some.is))

pub returns-in-Some-clause-acts : goal.returns-in-Some-clause-acts
returns-in-Some-clause-acts c =
    refused_acts c.args.self.now c.args.tenant (Retry c.args.session) c.in-Some.word
    (retry_refused c.args.self.now c.args.tenant c.args.session c.in-Some.word (sym c.idle_refusal.ensures ∙ c.in-Some.is))

pub resend-requires-clause-works : goal.resend-requires-clause-works
resend-requires-clause-works c =
    let w : Tables = c.args.self.now in
    let t : ℕ = c.args.tenant in
    let k : ℕ = c.args.session in
    let shaped : IsShaped w = subst IsShaped c.self.view_is c.self.invariant.1 in
    let tenants : t < length w.session_states = rw shaped.tenants c.requires.tenant in
    let session_states_now : c.self.inside.session_states.items ≡ w.session_states = ap (λ (x : Tables). x.session_states) c.self.view_is in
    let session_states_is : c.index_mut.result.now ≡ session_states_at w.session_states t =
    c.index_mut.ensures.value ∙ get_or_default c.self.inside.session_states.items t _ _ (rw session_states_now tenants) ∙ ap (λ all. session_states_at all t) session_states_now in
    subst (λ (all : List SessionState). IsAtWork (session_state_in all (k - 1)).operation) (sym session_states_is) (works w t k c.requires.ready (sym c.in_default.ensures))

pub returns-in_ok-sent-in-Ok-clause-answer : goal.returns-in_ok-sent-in-Ok-clause-answer
returns-in_ok-sent-in-Ok-clause-answer c =
    let w : Tables = c.args.self.now in
    let t : ℕ = c.args.tenant in
    let k : ℕ = c.args.session in
    let shaped : IsShaped w = subst IsShaped c.self.view_is c.self.invariant.1 in
    let channels : t < length w.channels = rw shaped.channels c.requires.tenant in
    let tenants : t < length w.session_states = rw shaped.tenants c.requires.tenant in
    let session_states_now : c.self.inside.session_states.items ≡ w.session_states = ap (λ (x : Tables). x.session_states) c.self.view_is in
    let session_states_is : c.index_mut.result.now ≡ session_states_at w.session_states t =
    c.index_mut.ensures.value ∙ get_or_default c.self.inside.session_states.items t _ _ (rw session_states_now tenants) ∙ ap (λ all. session_states_at all t) session_states_now in
    let up : c.servers.result ≡ w.up = c.servers.ensures ∙ ap (λ (x : Tables). x.up) c.self.view_is in
    let S : List SessionState → ServerSet → Type 0 = λ all set. SessionStateResends (session_state_in all (k - 1)) (servers set) c.in-Ok.messages in
    let sends : S (session_states_at w.session_states t) w.up = subst (S (session_states_at w.session_states t)) up (subst (λ all. S all c.servers.result) session_states_is c.in-Ok.ensures.ok) in
    let at : Resends w t k c.in-Ok.messages = record { channels = channels; asked = sym c.in_default.ensures; sends = sends } in
    let first : c.in_ok-sent-in-Ok.sent.first ≡ length (channel_at w.channels t) = c.in_ok-sent-in-Ok.ensures.first ∙ ap (λ (x : Tables). length (channel_at x.channels t)) c.self.view_is in
    let count : length c.in-Ok.messages ≡ c.in_ok-sent-in-Ok.sent.count = sym c.in_ok-sent-in-Ok.ensures.count in
    subst (TellsLine w t (Retry k)) (ap (λ n. Resent n (length c.in-Ok.messages)) (sym first) ∙ ap (Resent c.in_ok-sent-in-Ok.sent.first) count) (again_tells w t k c.in-Ok.messages at)

pub returns-in_ok-sent-in-Ok-clause-acts : goal.returns-in_ok-sent-in-Ok-clause-acts
returns-in_ok-sent-in-Ok-clause-acts c =
    let w : Tables = c.args.self.now in
    let t : ℕ = c.args.tenant in
    let k : ℕ = c.args.session in
    let shaped : IsShaped w = subst IsShaped c.self.view_is c.self.invariant.1 in
    let channels : t < length w.channels = rw shaped.channels c.requires.tenant in
    let tenants : t < length w.session_states = rw shaped.tenants c.requires.tenant in
    let session_states_now : c.self.inside.session_states.items ≡ w.session_states = ap (λ (x : Tables). x.session_states) c.self.view_is in
    let session_states_is : c.index_mut.result.now ≡ session_states_at w.session_states t =
    c.index_mut.ensures.value ∙ get_or_default c.self.inside.session_states.items t _ _ (rw session_states_now tenants) ∙ ap (λ all. session_states_at all t) session_states_now in
    let up : c.servers.result ≡ w.up = c.servers.ensures ∙ ap (λ (x : Tables). x.up) c.self.view_is in
    let S : List SessionState → ServerSet → Type 0 = λ all set. SessionStateResends (session_state_in all (k - 1)) (servers set) c.in-Ok.messages in
    let sends : S (session_states_at w.session_states t) w.up = subst (S (session_states_at w.session_states t)) up (subst (λ all. S all c.servers.result) session_states_is c.in-Ok.ensures.ok) in
    let at : Resends w t k c.in-Ok.messages = record { channels = channels; asked = sym c.in_default.ensures; sends = sends } in
    let V : List Channel → List (List SessionState) → Tables = λ channels session_states. record { plan = c.self.inside.plan; up = c.self.inside.up.up; kept = c.self.inside.kept; lines = c.self.inside.lines.items; desk = c.self.inside.desk; channels = channels; stores = c.self.inside.stores.items; session_states = session_states } in
    let kept : slice_set c.self.inside.session_states.items t c.resend.new.self ≡ c.self.inside.session_states.items =
    ap (slice_set c.self.inside.session_states.items t) (c.resend.ensures.same ∙ session_states_is ∙ ap (λ all. session_states_at all t) (sym session_states_now)) ∙ set-get_or c.self.inside.session_states.items t [] in
    let now : record w { channels = with_sent w.channels t c.in-Ok.messages } ≡ V c.send_all.new.self (slice_set c.self.inside.session_states.items t c.resend.new.self) =
    ap (λ (x : Tables). record x { channels = with_sent x.channels t c.in-Ok.messages }) (sym c.self.view_is)
    ∙ ap (λ channels. V channels c.self.inside.session_states.items) (sym c.in_ok-sent-in-Ok.ensures.sent) ∙ ap (V c.send_all.new.self) (sym kept) in
    subst (Acts w t (Retry k)) now (again_acts w t k c.in-Ok.messages at)

pub returns-in-Err-NoQuorum-clause-answer : goal.returns-in-Err-NoQuorum-clause-answer
returns-in-Err-NoQuorum-clause-answer c =
    let w : Tables = c.args.self.now in
    let t : ℕ = c.args.tenant in
    let k : ℕ = c.args.session in
    let shaped : IsShaped w = subst IsShaped c.self.view_is c.self.invariant.1 in
    let tenants : t < length w.session_states = rw shaped.tenants c.requires.tenant in
    let session_states_now : c.self.inside.session_states.items ≡ w.session_states = ap (λ (x : Tables). x.session_states) c.self.view_is in
    let session_states_is : c.index_mut.result.now ≡ session_states_at w.session_states t =
    c.index_mut.ensures.value ∙ get_or_default c.self.inside.session_states.items t _ _ (rw session_states_now tenants) ∙ ap (λ all. session_states_at all t) session_states_now in
    let up : c.servers.result ≡ w.up = c.servers.ensures ∙ ap (λ (x : Tables). x.up) c.self.view_is in
    let S : List SessionState → ServerSet → Type 0 = λ all set. SessionStateRefuses (session_state_in all (k - 1)) (servers set) NoneUp in
    let fault : SessionStateRefuses (session_state_in c.index_mut.result.now (k - 1)) (servers c.servers.result) NoneUp = subst (SessionStateRefuses (session_state_in c.index_mut.result.now (k - 1)) (servers c.servers.result)) c.in-Err-NoQuorum.field-0-is c.in-Err-NoQuorum.ensures.err in
    let refused : S (session_states_at w.session_states t) w.up = subst (S (session_states_at w.session_states t)) up (subst (λ all. S all c.servers.result) session_states_is fault) in
    refused_tells w t (Retry k) NoQuorum (none_refused w t k (sym c.in_default.ensures) refused)

pub returns-in-Err-NoQuorum-clause-acts : goal.returns-in-Err-NoQuorum-clause-acts
returns-in-Err-NoQuorum-clause-acts c =
    let w : Tables = c.args.self.now in
    let t : ℕ = c.args.tenant in
    let k : ℕ = c.args.session in
    let shaped : IsShaped w = subst IsShaped c.self.view_is c.self.invariant.1 in
    let tenants : t < length w.session_states = rw shaped.tenants c.requires.tenant in
    let session_states_now : c.self.inside.session_states.items ≡ w.session_states = ap (λ (x : Tables). x.session_states) c.self.view_is in
    let session_states_is : c.index_mut.result.now ≡ session_states_at w.session_states t =
    c.index_mut.ensures.value ∙ get_or_default c.self.inside.session_states.items t _ _ (rw session_states_now tenants) ∙ ap (λ all. session_states_at all t) session_states_now in
    let up : c.servers.result ≡ w.up = c.servers.ensures ∙ ap (λ (x : Tables). x.up) c.self.view_is in
    let S : List SessionState → ServerSet → Type 0 = λ all set. SessionStateRefuses (session_state_in all (k - 1)) (servers set) NoneUp in
    let fault : SessionStateRefuses (session_state_in c.index_mut.result.now (k - 1)) (servers c.servers.result) NoneUp = subst (SessionStateRefuses (session_state_in c.index_mut.result.now (k - 1)) (servers c.servers.result)) c.in-Err-NoQuorum.field-0-is c.in-Err-NoQuorum.ensures.err in
    let refused : S (session_states_at w.session_states t) w.up = subst (S (session_states_at w.session_states t)) up (subst (λ all. S all c.servers.result) session_states_is fault) in
    let V : List (List SessionState) → Tables = λ session_states. record { plan = c.self.inside.plan; up = c.self.inside.up.up; kept = c.self.inside.kept; lines = c.self.inside.lines.items; desk = c.self.inside.desk; channels = c.self.inside.post; stores = c.self.inside.stores.items; session_states = session_states } in
    let kept : slice_set c.self.inside.session_states.items t c.resend.new.self ≡ c.self.inside.session_states.items =
    ap (slice_set c.self.inside.session_states.items t) (c.resend.ensures.same ∙ session_states_is ∙ ap (λ all. session_states_at all t) (sym session_states_now)) ∙ set-get_or c.self.inside.session_states.items t [] in
    let now : w ≡ V (slice_set c.self.inside.session_states.items t c.resend.new.self) = sym c.self.view_is ∙ ap V (sym kept) in
    subst (Acts w t (Retry k)) now (refused_acts w t (Retry k) NoQuorum (none_refused w t k (sym c.in_default.ensures) refused))
