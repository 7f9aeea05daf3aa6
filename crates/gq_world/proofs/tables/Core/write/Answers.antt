-- A write is refused as the model refuses it, and begins as it does.
use Rattle.std.proofs.Common.{◌≡◌, ◌∙◌, ◌+◌, ◌-◌, ℕ, List, None, Err, length, ap, sym, subst, arith}
use Rattle.std.proofs.lemmas.Result.{IfOk-weaker, on_ok_weaker}
use Rattle.gq_grid.specs.Sets.{servers}
use Rattle.gq_post.specs.Channels.{channel_at}
use Rattle.gq_phase.specs.Phase.{Task}
use Rattle.gq_phase.specs.Quorums.{collect_quorum}
use Rattle.gq_model.specs.declared.events.Answer.{Answer}
use Rattle.gq_model.specs.declared.events.Line.{Line}
use Rattle.gq_model.specs.declared.events.Line.TheVariants.{Write}
use Rattle.gq_model.specs.declared.events.Refusal.TheVariants.{NoQuorum}
use Rattle.gq_model.specs.Told.{Began}
use Rattle.gq_model.specs.Lone.{Cause, first_cause}
use Rattle.gq_model.specs.Shown.{shown}
use Rattle.gq_world.specs.declared.sessions.SessionState.{SessionState}
use Rattle.gq_world.specs.Tables.{Tables, IsShaped}
use Rattle.gq_world.specs.Asking.{write_causes, begun_tables}
use Rattle.gq_world.specs.Machine.{Acts, TellsLine}
use Rattle.gq_world.proofs.Requests.{IsRequest, is_write, write_task, Refuses, early, without_quorum, refused_tells, refused_acts, IsBegun, is_begun, begun_tells, begun_acts, session_state_before, place_there, number_left, session_state_read, began_with, quorum_with}
use Rattle.gq_world.proofs.tables.Core.write.Goals as goal

pub returns-in-Some-clause-answer : goal.returns-in-Some-clause-answer
returns-in-Some-clause-answer c =
    let w : Tables = c.args.self.now in
    let t : ℕ = c.args.tenant in
    let task : Task = write_task c.args.volume c.args.file c.args.bytes.now in
    let line : Line = Write c.args.session c.args.volume c.args.file c.args.bytes.now in
    let causes : List Cause = write_causes w t c.args.session c.args.volume c.args.file c.args.bytes.now in
    let r : IsRequest w t c.args.session task line causes = is_write w t c.args.session c.args.volume c.args.file c.args.bytes.now in
    let refuses : Refuses w t line c.in-Some.word = early w t c.args.session task line causes c.in-Some.word r (sym c.write_refusal.ensures ∙ c.in-Some.is) in
    refused_tells w t line c.in-Some.word refuses

pub returns-in-Some-clause-acts : goal.returns-in-Some-clause-acts
returns-in-Some-clause-acts c =
    let w : Tables = c.args.self.now in
    let t : ℕ = c.args.tenant in
    let task : Task = write_task c.args.volume c.args.file c.args.bytes.now in
    let line : Line = Write c.args.session c.args.volume c.args.file c.args.bytes.now in
    let causes : List Cause = write_causes w t c.args.session c.args.volume c.args.file c.args.bytes.now in
    let r : IsRequest w t c.args.session task line causes = is_write w t c.args.session c.args.volume c.args.file c.args.bytes.now in
    let refuses : Refuses w t line c.in-Some.word = early w t c.args.session task line causes c.in-Some.word r (sym c.write_refusal.ensures ∙ c.in-Some.is) in
    refused_acts w t line c.in-Some.word refuses

pub begin-requires-clause-number : goal.begin-requires-clause-number
begin-requires-clause-number c =
    let w : Tables = c.args.self.now in
    let t : ℕ = c.args.tenant in
    let task : Task = write_task c.args.volume c.args.file c.args.bytes.now in
    let line : Line = Write c.args.session c.args.volume c.args.file c.args.bytes.now in
    let causes : List Cause = write_causes w t c.args.session c.args.volume c.args.file c.args.bytes.now in
    let r : IsRequest w t c.args.session task line causes = is_write w t c.args.session c.args.volume c.args.file c.args.bytes.now in
    let asked : first_cause causes ≡ None = sym c.in_default.ensures in
    number_left w t c.args.session task line causes r c.requires.ready asked

pub begin-requires-clause-place : goal.begin-requires-clause-place
begin-requires-clause-place c =
    let w : Tables = c.args.self.now in
    let t : ℕ = c.args.tenant in
    let task : Task = write_task c.args.volume c.args.file c.args.bytes.now in
    let line : Line = Write c.args.session c.args.volume c.args.file c.args.bytes.now in
    let causes : List Cause = write_causes w t c.args.session c.args.volume c.args.file c.args.bytes.now in
    let r : IsRequest w t c.args.session task line causes = is_write w t c.args.session c.args.volume c.args.file c.args.bytes.now in
    let asked : first_cause causes ≡ None = sym c.in_default.ensures in
    let s = r.session asked in
    let low = s.0 in
    let high = s.1 in
    omega arith

pub returns-in-Ok-clause-answer : goal.returns-in-Ok-clause-answer
returns-in-Ok-clause-answer c =
    let w : Tables = c.args.self.now in
    let t : ℕ = c.args.tenant in
    let task : Task = write_task c.args.volume c.args.file c.args.bytes.now in
    let line : Line = Write c.args.session c.args.volume c.args.file c.args.bytes.now in
    let causes : List Cause = write_causes w t c.args.session c.args.volume c.args.file c.args.bytes.now in
    let r : IsRequest w t c.args.session task line causes = is_write w t c.args.session c.args.volume c.args.file c.args.bytes.now in
    let asked : first_cause causes ≡ None = sym c.in_default.ensures in
    let k : ℕ = c.args.session in
    let shaped : IsShaped w = subst IsShaped c.self.view_is c.self.invariant.1 in
    let grid : c.grid.result.now ≡ w.plan.grid = c.grid.ensures ∙ ap (λ (x : Tables). x.plan.grid) c.self.view_is in
    let up : c.servers.result ≡ w.up = c.servers.ensures ∙ ap (λ (x : Tables). x.up) c.self.view_is in
    let s = r.session asked in
    let all : c.self.inside.session_states.items ≡ w.session_states = ap (λ (x : Tables). x.session_states) c.self.view_is in
    let session_state : c.index-session_state.result.now ≡ session_state_before w t k = session_state_read w t k _ _ _ _ _ _ all (rw shaped.tenants c.requires.tenant) (place_there w t k shaped c.requires.tenant s.0 s.1) c.index.ensures c.behind-self.view_is c.index-session_state.ensures in
    let begins = began_with w t k task c.grid.result.now c.servers.result c.index-session_state.result.now c.in-Ok.operation c.in-Ok.messages grid up session_state c.in-Ok.ensures.ok in
    let at : IsBegun w t k task causes c.in-Ok.operation c.in-Ok.messages =
    is_begun w t k task line causes c.in-Ok.operation c.in-Ok.messages r shaped c.requires.tenant asked
    (λ none. let h = c.in-Ok.ensures.none.1 (quorum_with w c.grid.result.now c.servers.result grid up ∙ none) in cc) begins in
    let P : Answer → Type 0 = λ answer. shown answer ≡ Began ((session_state_before w t k).op + 1) (length (channel_at w.channels t)) (length c.in-Ok.messages) in
    let Q : Answer → Type 0 = λ answer. TellsLine w t line (shown answer) in
    IfOk-weaker c.begin.result P Q (λ answer is. subst (TellsLine w t line) (sym is) (begun_tells w t k task line causes c.in-Ok.operation c.in-Ok.messages r at)) c.begin.ensures.answer

pub returns-in-Ok-clause-acts : goal.returns-in-Ok-clause-acts
returns-in-Ok-clause-acts c =
    let w : Tables = c.args.self.now in
    let t : ℕ = c.args.tenant in
    let task : Task = write_task c.args.volume c.args.file c.args.bytes.now in
    let line : Line = Write c.args.session c.args.volume c.args.file c.args.bytes.now in
    let causes : List Cause = write_causes w t c.args.session c.args.volume c.args.file c.args.bytes.now in
    let r : IsRequest w t c.args.session task line causes = is_write w t c.args.session c.args.volume c.args.file c.args.bytes.now in
    let asked : first_cause causes ≡ None = sym c.in_default.ensures in
    let k : ℕ = c.args.session in
    let shaped : IsShaped w = subst IsShaped c.self.view_is c.self.invariant.1 in
    let grid : c.grid.result.now ≡ w.plan.grid = c.grid.ensures ∙ ap (λ (x : Tables). x.plan.grid) c.self.view_is in
    let up : c.servers.result ≡ w.up = c.servers.ensures ∙ ap (λ (x : Tables). x.up) c.self.view_is in
    let s = r.session asked in
    let all : c.self.inside.session_states.items ≡ w.session_states = ap (λ (x : Tables). x.session_states) c.self.view_is in
    let session_state : c.index-session_state.result.now ≡ session_state_before w t k = session_state_read w t k _ _ _ _ _ _ all (rw shaped.tenants c.requires.tenant) (place_there w t k shaped c.requires.tenant s.0 s.1) c.index.ensures c.behind-self.view_is c.index-session_state.ensures in
    let begins = began_with w t k task c.grid.result.now c.servers.result c.index-session_state.result.now c.in-Ok.operation c.in-Ok.messages grid up session_state c.in-Ok.ensures.ok in
    let at : IsBegun w t k task causes c.in-Ok.operation c.in-Ok.messages =
    is_begun w t k task line causes c.in-Ok.operation c.in-Ok.messages r shaped c.requires.tenant asked
    (λ none. let h = c.in-Ok.ensures.none.1 (quorum_with w c.grid.result.now c.servers.result grid up ∙ none) in cc) begins in
    on_ok_weaker {P = c.begin.new.self ≡ begun_tables w t (k - 1) c.in-Ok.operation c.in-Ok.messages} {Q = Acts w t line c.begin.new.self} c.begin.result
    (λ is. subst (Acts w t line) (sym is) (begun_acts w t k task line causes c.in-Ok.operation c.in-Ok.messages r at)) c.begin.ensures.begun

pub returns-in-Err-NoQuorum-clause-answer : goal.returns-in-Err-NoQuorum-clause-answer
returns-in-Err-NoQuorum-clause-answer c =
    let w : Tables = c.args.self.now in
    let t : ℕ = c.args.tenant in
    let task : Task = write_task c.args.volume c.args.file c.args.bytes.now in
    let line : Line = Write c.args.session c.args.volume c.args.file c.args.bytes.now in
    let causes : List Cause = write_causes w t c.args.session c.args.volume c.args.file c.args.bytes.now in
    let r : IsRequest w t c.args.session task line causes = is_write w t c.args.session c.args.volume c.args.file c.args.bytes.now in
    let asked : first_cause causes ≡ None = sym c.in_default.ensures in
    let grid : c.grid.result.now ≡ w.plan.grid = c.grid.ensures ∙ ap (λ (x : Tables). x.plan.grid) c.self.view_is in
    let up : c.servers.result ≡ w.up = c.servers.ensures ∙ ap (λ (x : Tables). x.up) c.self.view_is in
    let none : collect_quorum w.plan.grid (servers w.up) ≡ None = sym (quorum_with w c.grid.result.now c.servers.result grid up) ∙ c.in-Err-NoQuorum.ensures.none.0 (ap Err c.in-Err-NoQuorum.field-0-is) in
    let refuses : Refuses w t line NoQuorum = without_quorum w t c.args.session task line causes r asked none in
    refused_tells w t line NoQuorum refuses

pub returns-in-Err-NoQuorum-clause-acts : goal.returns-in-Err-NoQuorum-clause-acts
returns-in-Err-NoQuorum-clause-acts c =
    let w : Tables = c.args.self.now in
    let t : ℕ = c.args.tenant in
    let task : Task = write_task c.args.volume c.args.file c.args.bytes.now in
    let line : Line = Write c.args.session c.args.volume c.args.file c.args.bytes.now in
    let causes : List Cause = write_causes w t c.args.session c.args.volume c.args.file c.args.bytes.now in
    let r : IsRequest w t c.args.session task line causes = is_write w t c.args.session c.args.volume c.args.file c.args.bytes.now in
    let asked : first_cause causes ≡ None = sym c.in_default.ensures in
    let grid : c.grid.result.now ≡ w.plan.grid = c.grid.ensures ∙ ap (λ (x : Tables). x.plan.grid) c.self.view_is in
    let up : c.servers.result ≡ w.up = c.servers.ensures ∙ ap (λ (x : Tables). x.up) c.self.view_is in
    let none : collect_quorum w.plan.grid (servers w.up) ≡ None = sym (quorum_with w c.grid.result.now c.servers.result grid up) ∙ c.in-Err-NoQuorum.ensures.none.0 (ap Err c.in-Err-NoQuorum.field-0-is) in
    let refuses : Refuses w t line NoQuorum = without_quorum w t c.args.session task line causes r asked none in
    refused_acts w t line NoQuorum refuses

pub overflow_add-who : goal.overflow_add-who
overflow_add-who c =
    let w : Tables = c.args.self.now in
    let t : ℕ = c.args.tenant in
    let task : Task = write_task c.args.volume c.args.file c.args.bytes.now in
    let line : Line = Write c.args.session c.args.volume c.args.file c.args.bytes.now in
    let causes : List Cause = write_causes w t c.args.session c.args.volume c.args.file c.args.bytes.now in
    let r : IsRequest w t c.args.session task line causes = is_write w t c.args.session c.args.volume c.args.file c.args.bytes.now in
    let asked : first_cause causes ≡ None = sym c.in_default.ensures in
    let k : ℕ = c.args.session in
    let shaped : IsShaped w = subst IsShaped c.self.view_is c.self.invariant.1 in
    let s = r.session asked in
    let all : c.self.inside.session_states.items ≡ w.session_states = ap (λ (x : Tables). x.session_states) c.self.view_is in
    let session_state : c.index-session_state.result.now ≡ session_state_before w t k = session_state_read w t k _ _ _ _ _ _ all (rw shaped.tenants c.requires.tenant) (place_there w t k shaped c.requires.tenant s.0 s.1) c.index.ensures c.behind-self.view_is c.index-session_state.ensures in
    let left = number_left w t k task line causes r c.requires.ready asked in
    let op : c.index-session_state.result.now.op ≡ (session_state_before w t k).op = ap (λ (x : SessionState). x.op) session_state in
    omega arith
