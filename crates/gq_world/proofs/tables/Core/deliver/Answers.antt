-- The message's conditions follow from what is ready, and the tables go on as the model does.
use Rattle.std.proofs.Common.{◌≡◌, ◌∙◌, ◌<◌, ℕ, List, ◌∷◌, [], false, None, Some, length, ap, sym, subst, arith, append-nil, ◌-◌, ◌≤◌}
use Rattle.std.specs.Prelude.{IsSome, slice_set}
use Rattle.std.proofs.lemmas.Result.{IfOk-weaker, on_ok_weaker}
use Rattle.std.proofs.lemmas.List.{get_or_default, set-get_or}
use Rattle.gq_grid.specs.Sets.{servers}
use Rattle.gq_grid.specs.declared.TheConstants.{MOST_SERVERS}
use Rattle.gq_tag.specs.declared.Message.{Message}
use Rattle.gq_tag.specs.Tag.{to_server, answer_body}
use Rattle.gq_post.specs.Channels.{Channel, channel_at, message_at}
use Rattle.gq_phase.specs.declared.Heard.{Heard}
use Rattle.gq_phase.specs.declared.Heard.TheVariants.{Noted}
use Rattle.gq_store.specs.Copies.{StoreCopies, copy_at, file_limit, store_accounts}
use Rattle.gq_store.specs.Serving.{held_after, serve_fault}
use Rattle.gq_model.specs.Told.{Replied}
use Rattle.gq_model.specs.declared.events.Answer.{Answer}
use Rattle.gq_model.specs.declared.events.Line.TheVariants.{Deliver}
use Rattle.gq_model.specs.Shown.{shown}
use Rattle.gq_world.specs.declared.sessions.SessionState.{SessionState}
use Rattle.gq_world.specs.Tables.{Tables, IsReady, IsShaped, session_states_at, session_state_in, store_at}
use Rattle.gq_phase.specs.Standing.{messages_of}
use Rattle.gq_world.specs.Saying.{with_sent, heard_told}
use Rattle.gq_world.specs.Response.{body_in}
use Rattle.gq_desk.specs.Volumes.{limit_of}
use Rattle.gq_world.specs.SessionStates.{SessionStateHears, SessionStateAnswers, FloorIsBelow}
use Rattle.gq_world.specs.Machine.{Acts, TellsLine}
use Rattle.gq_world.proofs.Ready.{server_below, number_below, session_state_floor_below, session_within, message_fits}
use Rattle.gq_world.proofs.Delivering.{HearsAt, heard_tells, heard_acts}
use Rattle.gq_world.proofs.Serving.{IsDownAt, down_tells, down_acts, Serves, served_tells, served_acts, never_refused, file_there}
use Rattle.gq_world.proofs.tables.Core.deliver.Goals as goal

pub returns-then-not-to_server-clause-answer : goal.returns-then-not-to_server-clause-answer
returns-then-not-to_server-clause-answer c =
    let w : Tables = c.args.self.now in
    let t : ℕ = c.args.tenant in
    let n : ℕ = c.args.number in
    let m : Message = c.in-Some.message in
    let r : IsReady w t = c.requires.ready in
    let shaped : IsShaped w = subst IsShaped c.self.view_is c.self.invariant.1 in
    let there : message_at (channel_at w.channels t) n ≡ Some m =
    sym (c.in-Some.ensures ∙ ap (λ k. message_at (channel_at c.self.inside.post t) k) c.from.ensures ∙ ap (λ (x : Tables). message_at (channel_at x.channels t) n) c.self.view_is) in
    let channels : t < length w.channels = rw shaped.channels c.requires.tenant in
    let tenants : t < length w.session_states = rw shaped.tenants c.requires.tenant in
    let session_states_now : c.self.inside.session_states.items ≡ w.session_states = ap (λ (x : Tables). x.session_states) c.self.view_is in
    let session_states_was : c.index_mut-session_states.result.now ≡ session_states_at w.session_states t =
    c.index_mut-session_states.ensures.value ∙ get_or_default c.self.inside.session_states.items t _ _ (rw session_states_now tenants) ∙ ap (λ all. session_states_at all t) session_states_now in
    let session_states_is : c.notes.new.self ≡ session_states_at w.session_states t = c.in_ok-noted.ensures.stays c.if-noted.false ∙ session_states_was in
    let heard : Heard = c.in_ok-heard.heard in
    let P : List SessionState → Type 0 = λ session_states. SessionStateHears (session_state_in session_states (m.session - 1)) (session_state_in c.hear.new.self (m.session - 1)) (servers c.servers.result) m heard in
    let hears' : SessionStateHears (session_state_in (session_states_at w.session_states t) (m.session - 1)) (session_state_in c.hear.new.self (m.session - 1)) (servers c.servers.result) m heard = subst P session_states_is c.in_ok-heard.ensures.hears in
    let hears : SessionStateHears (session_state_in (session_states_at w.session_states t) (m.session - 1)) (session_state_in c.hear.new.self (m.session - 1)) (servers w.up) m heard =
    subst (λ up. SessionStateHears (session_state_in (session_states_at w.session_states t) (m.session - 1)) (session_state_in c.hear.new.self (m.session - 1)) (servers up) m heard) (c.servers.ensures ∙ ap (λ (x : Tables). x.up) c.self.view_is) hears' in
    let fits = message_fits w t n m r there in
    let goes : to_server m.body ≡ false = sym c.to_server.ensures ∙ c.if-not-to_server.true in
    let at : HearsAt w t n m c.hear.new.self heard = record {
      there = there;
      goes = goes;
      within = c.requires.tenant;
      channels = channels;
      tenants = tenants;
      first = fits.first;
      last = fits.last;
      hears = hears;
      others = λ place other. c.hear.ensures.others place other ∙ ap (λ session_states. session_state_in session_states place) session_states_is;
    } in
    let channels_now : c.self.inside.post ≡ w.channels = ap (λ (x : Tables). x.channels) c.self.view_is in
    let P : Answer → Type 0 = λ answer. shown answer ≡ heard_told (length (channel_at c.self.inside.post t)) heard in
    let Q : Answer → Type 0 = λ answer. TellsLine w t (Deliver n) (shown answer) in
    IfOk-weaker c.answer_heard.result P Q
    (λ answer told. subst (TellsLine w t (Deliver n)) (sym (told ∙ ap (λ channels. heard_told (length (channel_at channels t)) heard) channels_now)) (heard_tells w t n m c.hear.new.self heard at))
    c.answer_heard.ensures.answer

pub returns-then-not-to_server-clause-acts : goal.returns-then-not-to_server-clause-acts
returns-then-not-to_server-clause-acts c =
    let w : Tables = c.args.self.now in
    let t : ℕ = c.args.tenant in
    let n : ℕ = c.args.number in
    let m : Message = c.in-Some.message in
    let r : IsReady w t = c.requires.ready in
    let shaped : IsShaped w = subst IsShaped c.self.view_is c.self.invariant.1 in
    let there : message_at (channel_at w.channels t) n ≡ Some m =
    sym (c.in-Some.ensures ∙ ap (λ k. message_at (channel_at c.self.inside.post t) k) c.from.ensures ∙ ap (λ (x : Tables). message_at (channel_at x.channels t) n) c.self.view_is) in
    let channels : t < length w.channels = rw shaped.channels c.requires.tenant in
    let tenants : t < length w.session_states = rw shaped.tenants c.requires.tenant in
    let session_states_now : c.self.inside.session_states.items ≡ w.session_states = ap (λ (x : Tables). x.session_states) c.self.view_is in
    let session_states_was : c.index_mut-session_states.result.now ≡ session_states_at w.session_states t =
    c.index_mut-session_states.ensures.value ∙ get_or_default c.self.inside.session_states.items t _ _ (rw session_states_now tenants) ∙ ap (λ all. session_states_at all t) session_states_now in
    let session_states_is : c.notes.new.self ≡ session_states_at w.session_states t = c.in_ok-noted.ensures.stays c.if-noted.false ∙ session_states_was in
    let heard : Heard = c.in_ok-heard.heard in
    let P : List SessionState → Type 0 = λ session_states. SessionStateHears (session_state_in session_states (m.session - 1)) (session_state_in c.hear.new.self (m.session - 1)) (servers c.servers.result) m heard in
    let hears' : SessionStateHears (session_state_in (session_states_at w.session_states t) (m.session - 1)) (session_state_in c.hear.new.self (m.session - 1)) (servers c.servers.result) m heard = subst P session_states_is c.in_ok-heard.ensures.hears in
    let hears : SessionStateHears (session_state_in (session_states_at w.session_states t) (m.session - 1)) (session_state_in c.hear.new.self (m.session - 1)) (servers w.up) m heard =
    subst (λ up. SessionStateHears (session_state_in (session_states_at w.session_states t) (m.session - 1)) (session_state_in c.hear.new.self (m.session - 1)) (servers up) m heard) (c.servers.ensures ∙ ap (λ (x : Tables). x.up) c.self.view_is) hears' in
    let fits = message_fits w t n m r there in
    let goes : to_server m.body ≡ false = sym c.to_server.ensures ∙ c.if-not-to_server.true in
    let at : HearsAt w t n m c.hear.new.self heard = record {
      there = there;
      goes = goes;
      within = c.requires.tenant;
      channels = channels;
      tenants = tenants;
      first = fits.first;
      last = fits.last;
      hears = hears;
      others = λ place other. c.hear.ensures.others place other ∙ ap (λ session_states. session_state_in session_states place) session_states_is;
    } in
    let now = ap (λ (x : Tables). record x { channels = with_sent x.channels t (messages_of heard); session_states = slice_set x.session_states t c.hear.new.self }) (sym c.self.view_is) in
    let V : List Channel → Tables = λ channels. record { plan = c.self.inside.plan; up = c.self.inside.up.up; kept = c.self.inside.kept; lines = c.self.inside.lines.items; desk = c.self.inside.desk; channels = channels; stores = c.self.inside.stores.items; session_states = slice_set c.self.inside.session_states.items t c.hear.new.self } in
    on_ok_weaker {P = c.answer_heard.new.post ≡ with_sent c.self.inside.post t (messages_of heard)} {Q = Acts w t (Deliver n) (V c.answer_heard.new.post)} c.answer_heard.result
    (λ sent. subst (Acts w t (Deliver n)) (now ∙ ap V (sym sent)) (heard_acts w t n m c.hear.new.self heard at))
    c.answer_heard.ensures.sent

pub has-requires : goal.has-requires
has-requires c =
    let w : Tables = c.args.self.now in
    let t : ℕ = c.args.tenant in
    let n : ℕ = c.args.number in
    let m : Message = c.in-Some.message in
    let r : IsReady w t = c.requires.ready in
    let shaped : IsShaped w = subst IsShaped c.self.view_is c.self.invariant.1 in
    let there : message_at (channel_at w.channels t) n ≡ Some m =
    sym (c.in-Some.ensures ∙ ap (λ k. message_at (channel_at c.self.inside.post t) k) c.from.ensures ∙ ap (λ (x : Tables). message_at (channel_at x.channels t) n) c.self.view_is) in
    let server : c.message.inside.server ≡ m.server = ap (λ (x : Message). x.server) c.message.view_is in
    subst (λ k. k < MOST_SERVERS) (sym server) (server_below w t n m r shaped there)

pub returns-then-not-has-clause-answer : goal.returns-then-not-has-clause-answer
returns-then-not-has-clause-answer c =
    let w : Tables = c.args.self.now in
    let t : ℕ = c.args.tenant in
    let n : ℕ = c.args.number in
    let m : Message = c.in-Some.message in
    let r : IsReady w t = c.requires.ready in
    let shaped : IsShaped w = subst IsShaped c.self.view_is c.self.invariant.1 in
    let there : message_at (channel_at w.channels t) n ≡ Some m =
    sym (c.in-Some.ensures ∙ ap (λ k. message_at (channel_at c.self.inside.post t) k) c.from.ensures ∙ ap (λ (x : Tables). message_at (channel_at x.channels t) n) c.self.view_is) in
    let server : c.message.inside.server ≡ m.server = ap (λ (x : Message). x.server) c.message.view_is in
    let fits = message_fits w t n m r there in
    let at : IsDownAt w t n m = record {
      there = there;
      goes = sym c.to_server.ensures ∙ c.if-not-to_server.false;
      down = ap (λ (x : Tables). servers x.up m.server) (sym c.self.view_is) ∙ ap (servers c.self.inside.up.up) (sym server) ∙ sym c.has.ensures ∙ c.if-not-has.true;
      server = fits.server;
    } in
    down_tells w t n m at

pub returns-then-not-has-clause-acts : goal.returns-then-not-has-clause-acts
returns-then-not-has-clause-acts c =
    let w : Tables = c.args.self.now in
    let t : ℕ = c.args.tenant in
    let n : ℕ = c.args.number in
    let m : Message = c.in-Some.message in
    let r : IsReady w t = c.requires.ready in
    let shaped : IsShaped w = subst IsShaped c.self.view_is c.self.invariant.1 in
    let there : message_at (channel_at w.channels t) n ≡ Some m =
    sym (c.in-Some.ensures ∙ ap (λ k. message_at (channel_at c.self.inside.post t) k) c.from.ensures ∙ ap (λ (x : Tables). message_at (channel_at x.channels t) n) c.self.view_is) in
    let server : c.message.inside.server ≡ m.server = ap (λ (x : Message). x.server) c.message.view_is in
    let fits = message_fits w t n m r there in
    let at : IsDownAt w t n m = record {
      there = there;
      goes = sym c.to_server.ensures ∙ c.if-not-to_server.false;
      down = ap (λ (x : Tables). servers x.up m.server) (sym c.self.view_is) ∙ ap (servers c.self.inside.up.up) (sym server) ∙ sym c.has.ensures ∙ c.if-not-has.true;
      server = fits.server;
    } in
    down_acts w t n m at

pub index_mut-store-requires : goal.index_mut-store-requires
index_mut-store-requires c =
    let w : Tables = c.args.self.now in
    let t : ℕ = c.args.tenant in
    let n : ℕ = c.args.number in
    let m : Message = c.in-Some.message in
    let r : IsReady w t = c.requires.ready in
    let shaped : IsShaped w = subst IsShaped c.self.view_is c.self.invariant.1 in
    let there : message_at (channel_at w.channels t) n ≡ Some m =
    sym (c.in-Some.ensures ∙ ap (λ k. message_at (channel_at c.self.inside.post t) k) c.from.ensures ∙ ap (λ (x : Tables). message_at (channel_at x.channels t) n) c.self.view_is) in
    let server : c.message.inside.server ≡ m.server = ap (λ (x : Message). x.server) c.message.view_is in
    let below = (message_fits w t n m r there).server in
    let count : length c.self.inside.stores.items ≡ length w.stores = ap (λ (x : Tables). length x.stores) c.self.view_is in
    let all = shaped.servers in
    omega (arith, server, c.self.inside.stores.ok.0)

pub serve-requires : goal.serve-requires
serve-requires c =
    let w : Tables = c.args.self.now in
    let t : ℕ = c.args.tenant in
    let n : ℕ = c.args.number in
    let m : Message = c.in-Some.message in
    let r : IsReady w t = c.requires.ready in
    let shaped : IsShaped w = subst IsShaped c.self.view_is c.self.invariant.1 in
    let there : message_at (channel_at w.channels t) n ≡ Some m =
    sym (c.in-Some.ensures ∙ ap (λ k. message_at (channel_at c.self.inside.post t) k) c.from.ensures ∙ ap (λ (x : Tables). message_at (channel_at x.channels t) n) c.self.view_is) in
    let server : c.message.inside.server ≡ m.server = ap (λ (x : Message). x.server) c.message.view_is in
    let fits = message_fits w t n m r there in
    let stores_now : c.self.inside.stores.items ≡ w.stores = ap (λ (x : Tables). x.stores) c.self.view_is in
    let stores : m.server < length w.stores = let below = fits.server in let all = shaped.servers in omega arith in
    let store_is : c.index_mut-store.result.now ≡ store_at w.stores m.server =
    c.index_mut-store.ensures.value ∙ get_or_default c.self.inside.stores.items c.message.inside.server _ _ (rw (stores_now, server) stores) ∙ ap (λ all. store_at all c.message.inside.server) stores_now ∙ ap (store_at w.stores) server in
    ap (λ (store : StoreCopies). serve_fault store m) store_is ∙ never_refused w t n m r there

pub answer-requires-clause-file : goal.answer-requires-clause-file
answer-requires-clause-file c =
    let w : Tables = c.args.self.now in
    let t : ℕ = c.args.tenant in
    let n : ℕ = c.args.number in
    let m : Message = c.in-Some.message in
    let r : IsReady w t = c.requires.ready in
    let shaped : IsShaped w = subst IsShaped c.self.view_is c.self.invariant.1 in
    let there : message_at (channel_at w.channels t) n ≡ Some m =
    sym (c.in-Some.ensures ∙ ap (λ k. message_at (channel_at c.self.inside.post t) k) c.from.ensures ∙ ap (λ (x : Tables). message_at (channel_at x.channels t) n) c.self.view_is) in
    let server : c.message.inside.server ≡ m.server = ap (λ (x : Message). x.server) c.message.view_is in
    let fits = message_fits w t n m r there in
    let stores_now : c.self.inside.stores.items ≡ w.stores = ap (λ (x : Tables). x.stores) c.self.view_is in
    let stores : m.server < length w.stores = let below = fits.server in let all = shaped.servers in omega arith in
    let store_is : c.index_mut-store.result.now ≡ store_at w.stores m.server =
    c.index_mut-store.ensures.value ∙ get_or_default c.self.inside.stores.items c.message.inside.server _ _ (rw (stores_now, server) stores) ∙ ap (λ all. store_at all c.message.inside.server) stores_now ∙ ap (store_at w.stores) server in
    let served : serve_fault c.index_mut-store.result.now m ≡ None = ap (λ (store : StoreCopies). serve_fault store m) store_is ∙ never_refused w t n m r there in
    let file : m.file ≡ c.message.inside.file = ap (λ (x : Message). x.file) (sym c.message.view_is) in
    let now : file_limit c.index_mut-store.result.now m.file ≡ file_limit c.serve.new.store c.message.inside.file =
    ap (file_limit c.index_mut-store.result.now) file ∙ ap (λ accounts. limit_of accounts c.message.inside.file) (sym c.serve.ensures.accounts) in
    subst IsSome now (file_there (file_limit c.index_mut-store.result.now m.file) m.body served)

pub returns-clause-answer : goal.returns-clause-answer
returns-clause-answer c =
    let w : Tables = c.args.self.now in
    let t : ℕ = c.args.tenant in
    let n : ℕ = c.args.number in
    let m : Message = c.in-Some.message in
    let r : IsReady w t = c.requires.ready in
    let shaped : IsShaped w = subst IsShaped c.self.view_is c.self.invariant.1 in
    let there : message_at (channel_at w.channels t) n ≡ Some m =
    sym (c.in-Some.ensures ∙ ap (λ k. message_at (channel_at c.self.inside.post t) k) c.from.ensures ∙ ap (λ (x : Tables). message_at (channel_at x.channels t) n) c.self.view_is) in
    let server : c.message.inside.server ≡ m.server = ap (λ (x : Message). x.server) c.message.view_is in
    let fits = message_fits w t n m r there in
    let stores_now : c.self.inside.stores.items ≡ w.stores = ap (λ (x : Tables). x.stores) c.self.view_is in
    let stores : m.server < length w.stores = let below = fits.server in let all = shaped.servers in omega arith in
    let store_is : c.index_mut-store.result.now ≡ store_at w.stores m.server =
    c.index_mut-store.ensures.value ∙ get_or_default c.self.inside.stores.items c.message.inside.server _ _ (rw (stores_now, server) stores) ∙ ap (λ all. store_at all c.message.inside.server) stores_now ∙ ap (store_at w.stores) server in
    let channels : t < length w.channels = rw shaped.channels c.requires.tenant in
    let reply : Message = record m { body = body_in c.as_slice.result.now c.in_ok-response.response } in
    let tenants : t < length w.session_states = rw shaped.tenants c.requires.tenant in
    let session_states_now : c.self.inside.session_states.items ≡ w.session_states = ap (λ (x : Tables). x.session_states) c.self.view_is in
    let session_states_was : c.index_mut-answering.result.now ≡ session_states_at w.session_states t =
    c.index_mut-answering.ensures.value ∙ get_or_default c.self.inside.session_states.items t _ _ (rw session_states_now tenants) ∙ ap (λ all. session_states_at all t) session_states_now in
    let A : List SessionState → Type 0 = λ session_states. SessionStateAnswers (session_state_in session_states (m.session - 1)) (session_state_in c.answers.new.self (m.session - 1)) m in
    let at : Serves w t n m reply c.answer.new.store c.answers.new.self = record {
      there = there;
      goes = sym c.to_server.ensures ∙ c.if-not-to_server.false;
      up = ap (λ (x : Tables). servers x.up m.server) (sym c.self.view_is) ∙ ap (servers c.self.inside.up.up) (sym server) ∙ sym c.has.ensures ∙ c.if-not-has.false;
      channels = channels;
      server = fits.server;
      stores = stores;
      reply_is = ap (λ body. record m { body = body }) (ap (λ content. body_in content c.in_ok-response.response) c.as_slice.ensures.value ∙ c.in_ok-response.ensures.response ∙ ap (λ (store : StoreCopies). answer_body (copy_at store m.file) m.body) store_is);
      held = ap (λ (store : StoreCopies). copy_at store m.file) c.answer.ensures.store ∙ c.in_ok-response.ensures.held ∙ ap (λ (store : StoreCopies). held_after (copy_at store m.file) m.body) store_is;
      others = λ other apart. ap (λ (store : StoreCopies). copy_at store other) c.answer.ensures.store ∙ c.in_ok-response.ensures.others other apart ∙ ap (λ (store : StoreCopies). copy_at store other) store_is;
      accounts = ap store_accounts c.answer.ensures.store ∙ c.in_ok-response.ensures.accounts ∙ ap store_accounts store_is;
      tenants = tenants;
      first = fits.first;
      last = fits.last;
      answers = subst A session_states_was c.answers.ensures.answers;
      stays = λ place other. c.answers.ensures.others place other ∙ ap (λ session_states. session_state_in session_states place) session_states_was;
    } in
    let number : c.in_ok-number.number ≡ length (channel_at w.channels t) = c.in_ok-number.ensures.number ∙ ap (λ (x : Tables). length (channel_at x.channels t)) c.self.view_is in
    subst (λ k. TellsLine w t (Deliver n) (Replied k)) (sym number) (served_tells w t n m reply c.answer.new.store c.answers.new.self at)

pub returns-clause-acts : goal.returns-clause-acts
returns-clause-acts c =
    let w : Tables = c.args.self.now in
    let t : ℕ = c.args.tenant in
    let n : ℕ = c.args.number in
    let m : Message = c.in-Some.message in
    let r : IsReady w t = c.requires.ready in
    let shaped : IsShaped w = subst IsShaped c.self.view_is c.self.invariant.1 in
    let there : message_at (channel_at w.channels t) n ≡ Some m =
    sym (c.in-Some.ensures ∙ ap (λ k. message_at (channel_at c.self.inside.post t) k) c.from.ensures ∙ ap (λ (x : Tables). message_at (channel_at x.channels t) n) c.self.view_is) in
    let server : c.message.inside.server ≡ m.server = ap (λ (x : Message). x.server) c.message.view_is in
    let fits = message_fits w t n m r there in
    let stores_now : c.self.inside.stores.items ≡ w.stores = ap (λ (x : Tables). x.stores) c.self.view_is in
    let stores : m.server < length w.stores = let below = fits.server in let all = shaped.servers in omega arith in
    let store_is : c.index_mut-store.result.now ≡ store_at w.stores m.server =
    c.index_mut-store.ensures.value ∙ get_or_default c.self.inside.stores.items c.message.inside.server _ _ (rw (stores_now, server) stores) ∙ ap (λ all. store_at all c.message.inside.server) stores_now ∙ ap (store_at w.stores) server in
    let channels : t < length w.channels = rw shaped.channels c.requires.tenant in
    let reply : Message = record m { body = body_in c.as_slice.result.now c.in_ok-response.response } in
    let tenants : t < length w.session_states = rw shaped.tenants c.requires.tenant in
    let session_states_now : c.self.inside.session_states.items ≡ w.session_states = ap (λ (x : Tables). x.session_states) c.self.view_is in
    let session_states_was : c.index_mut-answering.result.now ≡ session_states_at w.session_states t =
    c.index_mut-answering.ensures.value ∙ get_or_default c.self.inside.session_states.items t _ _ (rw session_states_now tenants) ∙ ap (λ all. session_states_at all t) session_states_now in
    let A : List SessionState → Type 0 = λ session_states. SessionStateAnswers (session_state_in session_states (m.session - 1)) (session_state_in c.answers.new.self (m.session - 1)) m in
    let at : Serves w t n m reply c.answer.new.store c.answers.new.self = record {
      there = there;
      goes = sym c.to_server.ensures ∙ c.if-not-to_server.false;
      up = ap (λ (x : Tables). servers x.up m.server) (sym c.self.view_is) ∙ ap (servers c.self.inside.up.up) (sym server) ∙ sym c.has.ensures ∙ c.if-not-has.false;
      channels = channels;
      server = fits.server;
      stores = stores;
      reply_is = ap (λ body. record m { body = body }) (ap (λ content. body_in content c.in_ok-response.response) c.as_slice.ensures.value ∙ c.in_ok-response.ensures.response ∙ ap (λ (store : StoreCopies). answer_body (copy_at store m.file) m.body) store_is);
      held = ap (λ (store : StoreCopies). copy_at store m.file) c.answer.ensures.store ∙ c.in_ok-response.ensures.held ∙ ap (λ (store : StoreCopies). held_after (copy_at store m.file) m.body) store_is;
      others = λ other apart. ap (λ (store : StoreCopies). copy_at store other) c.answer.ensures.store ∙ c.in_ok-response.ensures.others other apart ∙ ap (λ (store : StoreCopies). copy_at store other) store_is;
      accounts = ap store_accounts c.answer.ensures.store ∙ c.in_ok-response.ensures.accounts ∙ ap store_accounts store_is;
      tenants = tenants;
      first = fits.first;
      last = fits.last;
      answers = subst A session_states_was c.answers.ensures.answers;
      stays = λ place other. c.answers.ensures.others place other ∙ ap (λ session_states. session_state_in session_states place) session_states_was;
    } in
    let asked : message_at (channel_at c.self.inside.post t) c.from-2.result ≡ Some m = ap (message_at (channel_at c.self.inside.post t)) (c.from-2.ensures ∙ sym c.from.ensures) ∙ sym c.in-Some.ensures in
    let now = ap (λ (x : Tables). record x { stores = slice_set x.stores m.server c.answer.new.store; channels = with_sent x.channels t (reply ∷ []); session_states = slice_set x.session_states t c.answers.new.self }) (sym c.self.view_is) in
    let V : List Channel → ℕ → Tables = λ channels place. record { plan = c.self.inside.plan; up = c.self.inside.up.up; kept = c.self.inside.kept; lines = c.self.inside.lines.items; desk = c.self.inside.desk; channels = channels; stores = slice_set c.self.inside.stores.items place c.answer.new.store; session_states = slice_set c.self.inside.session_states.items t c.answers.new.self } in
    subst (Acts w t (Deliver n)) (now ∙ ap (λ channels. V channels m.server) (sym (c.in_ok-number.ensures.sent m asked)) ∙ ap (V c.answer.new.post) (sym server)) (served_acts w t n m reply c.answer.new.store c.answers.new.self r at)

pub hear-requires-clause-first : goal.hear-requires-clause-first
hear-requires-clause-first c =
    let w : Tables = c.args.self.now in
    let t : ℕ = c.args.tenant in
    let n : ℕ = c.args.number in
    let m : Message = c.in-Some.message in
    let r : IsReady w t = c.requires.ready in
    let shaped : IsShaped w = subst IsShaped c.self.view_is c.self.invariant.1 in
    let there : message_at (channel_at w.channels t) n ≡ Some m =
    sym (c.in-Some.ensures ∙ ap (λ k. message_at (channel_at c.self.inside.post t) k) c.from.ensures ∙ ap (λ (x : Tables). message_at (channel_at x.channels t) n) c.self.view_is) in
    let tenants : t < length w.session_states = rw shaped.tenants c.requires.tenant in
    let session_states_now : c.self.inside.session_states.items ≡ w.session_states = ap (λ (x : Tables). x.session_states) c.self.view_is in
    let session_states_was : c.index_mut-session_states.result.now ≡ session_states_at w.session_states t =
    c.index_mut-session_states.ensures.value ∙ get_or_default c.self.inside.session_states.items t _ _ (rw session_states_now tenants) ∙ ap (λ all. session_states_at all t) session_states_now in
    let session_states_is : c.notes.new.self ≡ session_states_at w.session_states t = c.in_ok-noted.ensures.stays c.if-noted.false ∙ session_states_was in
    (session_within w t n m c.requires.tenant r shaped there).0

pub hear-requires-clause-last : goal.hear-requires-clause-last
hear-requires-clause-last c =
    let w : Tables = c.args.self.now in
    let t : ℕ = c.args.tenant in
    let n : ℕ = c.args.number in
    let m : Message = c.in-Some.message in
    let r : IsReady w t = c.requires.ready in
    let shaped : IsShaped w = subst IsShaped c.self.view_is c.self.invariant.1 in
    let there : message_at (channel_at w.channels t) n ≡ Some m =
    sym (c.in-Some.ensures ∙ ap (λ k. message_at (channel_at c.self.inside.post t) k) c.from.ensures ∙ ap (λ (x : Tables). message_at (channel_at x.channels t) n) c.self.view_is) in
    let tenants : t < length w.session_states = rw shaped.tenants c.requires.tenant in
    let session_states_now : c.self.inside.session_states.items ≡ w.session_states = ap (λ (x : Tables). x.session_states) c.self.view_is in
    let session_states_was : c.index_mut-session_states.result.now ≡ session_states_at w.session_states t =
    c.index_mut-session_states.ensures.value ∙ get_or_default c.self.inside.session_states.items t _ _ (rw session_states_now tenants) ∙ ap (λ all. session_states_at all t) session_states_now in
    let session_states_is : c.notes.new.self ≡ session_states_at w.session_states t = c.in_ok-noted.ensures.stays c.if-noted.false ∙ session_states_was in
    subst (λ (session_states : List SessionState). m.session ≤ length session_states) (sym session_states_is) (session_within w t n m c.requires.tenant r shaped there).1

pub hear-requires-clause-server : goal.hear-requires-clause-server
hear-requires-clause-server c =
    let w : Tables = c.args.self.now in
    let t : ℕ = c.args.tenant in
    let n : ℕ = c.args.number in
    let m : Message = c.in-Some.message in
    let r : IsReady w t = c.requires.ready in
    let shaped : IsShaped w = subst IsShaped c.self.view_is c.self.invariant.1 in
    let there : message_at (channel_at w.channels t) n ≡ Some m =
    sym (c.in-Some.ensures ∙ ap (λ k. message_at (channel_at c.self.inside.post t) k) c.from.ensures ∙ ap (λ (x : Tables). message_at (channel_at x.channels t) n) c.self.view_is) in
    let tenants : t < length w.session_states = rw shaped.tenants c.requires.tenant in
    let session_states_now : c.self.inside.session_states.items ≡ w.session_states = ap (λ (x : Tables). x.session_states) c.self.view_is in
    let session_states_was : c.index_mut-session_states.result.now ≡ session_states_at w.session_states t =
    c.index_mut-session_states.ensures.value ∙ get_or_default c.self.inside.session_states.items t _ _ (rw session_states_now tenants) ∙ ap (λ all. session_states_at all t) session_states_now in
    let session_states_is : c.notes.new.self ≡ session_states_at w.session_states t = c.in_ok-noted.ensures.stays c.if-noted.false ∙ session_states_was in
    server_below w t n m r shaped there

pub hear-requires-clause-number : goal.hear-requires-clause-number
hear-requires-clause-number c =
    let w : Tables = c.args.self.now in
    let t : ℕ = c.args.tenant in
    let n : ℕ = c.args.number in
    let m : Message = c.in-Some.message in
    let r : IsReady w t = c.requires.ready in
    let shaped : IsShaped w = subst IsShaped c.self.view_is c.self.invariant.1 in
    let there : message_at (channel_at w.channels t) n ≡ Some m =
    sym (c.in-Some.ensures ∙ ap (λ k. message_at (channel_at c.self.inside.post t) k) c.from.ensures ∙ ap (λ (x : Tables). message_at (channel_at x.channels t) n) c.self.view_is) in
    let tenants : t < length w.session_states = rw shaped.tenants c.requires.tenant in
    let session_states_now : c.self.inside.session_states.items ≡ w.session_states = ap (λ (x : Tables). x.session_states) c.self.view_is in
    let session_states_was : c.index_mut-session_states.result.now ≡ session_states_at w.session_states t =
    c.index_mut-session_states.ensures.value ∙ get_or_default c.self.inside.session_states.items t _ _ (rw session_states_now tenants) ∙ ap (λ all. session_states_at all t) session_states_now in
    let session_states_is : c.notes.new.self ≡ session_states_at w.session_states t = c.in_ok-noted.ensures.stays c.if-noted.false ∙ session_states_was in
    number_below w t n m r there

pub hear-requires-clause-floor : goal.hear-requires-clause-floor
hear-requires-clause-floor c =
    let w : Tables = c.args.self.now in
    let t : ℕ = c.args.tenant in
    let n : ℕ = c.args.number in
    let m : Message = c.in-Some.message in
    let r : IsReady w t = c.requires.ready in
    let shaped : IsShaped w = subst IsShaped c.self.view_is c.self.invariant.1 in
    let there : message_at (channel_at w.channels t) n ≡ Some m =
    sym (c.in-Some.ensures ∙ ap (λ k. message_at (channel_at c.self.inside.post t) k) c.from.ensures ∙ ap (λ (x : Tables). message_at (channel_at x.channels t) n) c.self.view_is) in
    let tenants : t < length w.session_states = rw shaped.tenants c.requires.tenant in
    let session_states_now : c.self.inside.session_states.items ≡ w.session_states = ap (λ (x : Tables). x.session_states) c.self.view_is in
    let session_states_was : c.index_mut-session_states.result.now ≡ session_states_at w.session_states t =
    c.index_mut-session_states.ensures.value ∙ get_or_default c.self.inside.session_states.items t _ _ (rw session_states_now tenants) ∙ ap (λ all. session_states_at all t) session_states_now in
    let session_states_is : c.notes.new.self ≡ session_states_at w.session_states t = c.in_ok-noted.ensures.stays c.if-noted.false ∙ session_states_was in
    subst (λ (session_states : List SessionState). FloorIsBelow (session_state_in session_states (m.session - 1)).operation) (sym session_states_is) (session_state_floor_below w t n m r there)

pub notes-requires-clause-first : goal.notes-requires-clause-first
notes-requires-clause-first c =
    let w : Tables = c.args.self.now in
    let t : ℕ = c.args.tenant in
    let n : ℕ = c.args.number in
    let m : Message = c.in-Some.message in
    let r : IsReady w t = c.requires.ready in
    let shaped : IsShaped w = subst IsShaped c.self.view_is c.self.invariant.1 in
    let there : message_at (channel_at w.channels t) n ≡ Some m =
    sym (c.in-Some.ensures ∙ ap (λ k. message_at (channel_at c.self.inside.post t) k) c.from.ensures ∙ ap (λ (x : Tables). message_at (channel_at x.channels t) n) c.self.view_is) in
    let tenants : t < length w.session_states = rw shaped.tenants c.requires.tenant in
    let session_states_now : c.self.inside.session_states.items ≡ w.session_states = ap (λ (x : Tables). x.session_states) c.self.view_is in
    let session_states_was : c.index_mut-session_states.result.now ≡ session_states_at w.session_states t =
    c.index_mut-session_states.ensures.value ∙ get_or_default c.self.inside.session_states.items t _ _ (rw session_states_now tenants) ∙ ap (λ all. session_states_at all t) session_states_now in
    (session_within w t n m c.requires.tenant r shaped there).0

pub notes-requires-clause-last : goal.notes-requires-clause-last
notes-requires-clause-last c =
    let w : Tables = c.args.self.now in
    let t : ℕ = c.args.tenant in
    let n : ℕ = c.args.number in
    let m : Message = c.in-Some.message in
    let r : IsReady w t = c.requires.ready in
    let shaped : IsShaped w = subst IsShaped c.self.view_is c.self.invariant.1 in
    let there : message_at (channel_at w.channels t) n ≡ Some m =
    sym (c.in-Some.ensures ∙ ap (λ k. message_at (channel_at c.self.inside.post t) k) c.from.ensures ∙ ap (λ (x : Tables). message_at (channel_at x.channels t) n) c.self.view_is) in
    let tenants : t < length w.session_states = rw shaped.tenants c.requires.tenant in
    let session_states_now : c.self.inside.session_states.items ≡ w.session_states = ap (λ (x : Tables). x.session_states) c.self.view_is in
    let session_states_was : c.index_mut-session_states.result.now ≡ session_states_at w.session_states t =
    c.index_mut-session_states.ensures.value ∙ get_or_default c.self.inside.session_states.items t _ _ (rw session_states_now tenants) ∙ ap (λ all. session_states_at all t) session_states_now in
    subst (λ (session_states : List SessionState). m.session ≤ length session_states) (sym session_states_was) (session_within w t n m c.requires.tenant r shaped there).1

pub notes-requires-clause-server : goal.notes-requires-clause-server
notes-requires-clause-server c =
    let w : Tables = c.args.self.now in
    let t : ℕ = c.args.tenant in
    let n : ℕ = c.args.number in
    let m : Message = c.in-Some.message in
    let r : IsReady w t = c.requires.ready in
    let shaped : IsShaped w = subst IsShaped c.self.view_is c.self.invariant.1 in
    let there : message_at (channel_at w.channels t) n ≡ Some m =
    sym (c.in-Some.ensures ∙ ap (λ k. message_at (channel_at c.self.inside.post t) k) c.from.ensures ∙ ap (λ (x : Tables). message_at (channel_at x.channels t) n) c.self.view_is) in
    let tenants : t < length w.session_states = rw shaped.tenants c.requires.tenant in
    let session_states_now : c.self.inside.session_states.items ≡ w.session_states = ap (λ (x : Tables). x.session_states) c.self.view_is in
    let session_states_was : c.index_mut-session_states.result.now ≡ session_states_at w.session_states t =
    c.index_mut-session_states.ensures.value ∙ get_or_default c.self.inside.session_states.items t _ _ (rw session_states_now tenants) ∙ ap (λ all. session_states_at all t) session_states_now in
    server_below w t n m r shaped there

pub notes-requires-clause-number : goal.notes-requires-clause-number
notes-requires-clause-number c =
    let w : Tables = c.args.self.now in
    let t : ℕ = c.args.tenant in
    let n : ℕ = c.args.number in
    let m : Message = c.in-Some.message in
    let r : IsReady w t = c.requires.ready in
    let shaped : IsShaped w = subst IsShaped c.self.view_is c.self.invariant.1 in
    let there : message_at (channel_at w.channels t) n ≡ Some m =
    sym (c.in-Some.ensures ∙ ap (λ k. message_at (channel_at c.self.inside.post t) k) c.from.ensures ∙ ap (λ (x : Tables). message_at (channel_at x.channels t) n) c.self.view_is) in
    let tenants : t < length w.session_states = rw shaped.tenants c.requires.tenant in
    let session_states_now : c.self.inside.session_states.items ≡ w.session_states = ap (λ (x : Tables). x.session_states) c.self.view_is in
    let session_states_was : c.index_mut-session_states.result.now ≡ session_states_at w.session_states t =
    c.index_mut-session_states.ensures.value ∙ get_or_default c.self.inside.session_states.items t _ _ (rw session_states_now tenants) ∙ ap (λ all. session_states_at all t) session_states_now in
    number_below w t n m r there

pub returns-then-noted-clause-answer : goal.returns-then-noted-clause-answer
returns-then-noted-clause-answer c =
    let w : Tables = c.args.self.now in
    let t : ℕ = c.args.tenant in
    let n : ℕ = c.args.number in
    let m : Message = c.in-Some.message in
    let r : IsReady w t = c.requires.ready in
    let shaped : IsShaped w = subst IsShaped c.self.view_is c.self.invariant.1 in
    let there : message_at (channel_at w.channels t) n ≡ Some m =
    sym (c.in-Some.ensures ∙ ap (λ k. message_at (channel_at c.self.inside.post t) k) c.from.ensures ∙ ap (λ (x : Tables). message_at (channel_at x.channels t) n) c.self.view_is) in
    let channels : t < length w.channels = rw shaped.channels c.requires.tenant in
    let tenants : t < length w.session_states = rw shaped.tenants c.requires.tenant in
    let session_states_now : c.self.inside.session_states.items ≡ w.session_states = ap (λ (x : Tables). x.session_states) c.self.view_is in
    let session_states_was : c.index_mut-session_states.result.now ≡ session_states_at w.session_states t =
    c.index_mut-session_states.ensures.value ∙ get_or_default c.self.inside.session_states.items t _ _ (rw session_states_now tenants) ∙ ap (λ all. session_states_at all t) session_states_now in
    let P : List SessionState → Type 0 = λ session_states. SessionStateHears (session_state_in session_states (m.session - 1)) (session_state_in c.notes.new.self (m.session - 1)) (servers w.up) m Noted in
    let hears : SessionStateHears (session_state_in (session_states_at w.session_states t) (m.session - 1)) (session_state_in c.notes.new.self (m.session - 1)) (servers w.up) m Noted = subst P session_states_was (c.in_ok-noted.ensures.hears c.if-noted.true (servers w.up)) in
    let fits = message_fits w t n m r there in
    let goes : to_server m.body ≡ false = sym c.to_server.ensures ∙ c.if-not-to_server.true in
    let at : HearsAt w t n m c.notes.new.self Noted = record {
      there = there;
      goes = goes;
      within = c.requires.tenant;
      channels = channels;
      tenants = tenants;
      first = fits.first;
      last = fits.last;
      hears = hears;
      others = λ place other. c.notes.ensures.others place other ∙ ap (λ session_states. session_state_in session_states place) session_states_was;
    } in
    heard_tells w t n m c.notes.new.self Noted at

pub returns-then-noted-clause-acts : goal.returns-then-noted-clause-acts
returns-then-noted-clause-acts c =
    let w : Tables = c.args.self.now in
    let t : ℕ = c.args.tenant in
    let n : ℕ = c.args.number in
    let m : Message = c.in-Some.message in
    let r : IsReady w t = c.requires.ready in
    let shaped : IsShaped w = subst IsShaped c.self.view_is c.self.invariant.1 in
    let there : message_at (channel_at w.channels t) n ≡ Some m =
    sym (c.in-Some.ensures ∙ ap (λ k. message_at (channel_at c.self.inside.post t) k) c.from.ensures ∙ ap (λ (x : Tables). message_at (channel_at x.channels t) n) c.self.view_is) in
    let channels : t < length w.channels = rw shaped.channels c.requires.tenant in
    let tenants : t < length w.session_states = rw shaped.tenants c.requires.tenant in
    let session_states_now : c.self.inside.session_states.items ≡ w.session_states = ap (λ (x : Tables). x.session_states) c.self.view_is in
    let session_states_was : c.index_mut-session_states.result.now ≡ session_states_at w.session_states t =
    c.index_mut-session_states.ensures.value ∙ get_or_default c.self.inside.session_states.items t _ _ (rw session_states_now tenants) ∙ ap (λ all. session_states_at all t) session_states_now in
    let P : List SessionState → Type 0 = λ session_states. SessionStateHears (session_state_in session_states (m.session - 1)) (session_state_in c.notes.new.self (m.session - 1)) (servers w.up) m Noted in
    let hears : SessionStateHears (session_state_in (session_states_at w.session_states t) (m.session - 1)) (session_state_in c.notes.new.self (m.session - 1)) (servers w.up) m Noted = subst P session_states_was (c.in_ok-noted.ensures.hears c.if-noted.true (servers w.up)) in
    let fits = message_fits w t n m r there in
    let goes : to_server m.body ≡ false = sym c.to_server.ensures ∙ c.if-not-to_server.true in
    let at : HearsAt w t n m c.notes.new.self Noted = record {
      there = there;
      goes = goes;
      within = c.requires.tenant;
      channels = channels;
      tenants = tenants;
      first = fits.first;
      last = fits.last;
      hears = hears;
      others = λ place other. c.notes.ensures.others place other ∙ ap (λ session_states. session_state_in session_states place) session_states_was;
    } in
    let V : List Channel → Tables = λ channels. record { plan = c.self.inside.plan; up = c.self.inside.up.up; kept = c.self.inside.kept; lines = c.self.inside.lines.items; desk = c.self.inside.desk; channels = channels; stores = c.self.inside.stores.items; session_states = slice_set c.self.inside.session_states.items t c.notes.new.self } in
    let now = ap (λ (x : Tables). record x { channels = with_sent x.channels t []; session_states = slice_set x.session_states t c.notes.new.self }) (sym c.self.view_is) in
    let none : with_sent c.self.inside.post t [] ≡ c.self.inside.post = ap (slice_set c.self.inside.post t) (append-nil (channel_at c.self.inside.post t)) ∙ set-get_or c.self.inside.post t [] in
    subst (Acts w t (Deliver n)) (now ∙ ap V none) (heard_acts w t n m c.notes.new.self Noted at)

pub answers-requires-clause-first : goal.answers-requires-clause-first
answers-requires-clause-first c =
    let w : Tables = c.args.self.now in
    let t : ℕ = c.args.tenant in
    let n : ℕ = c.args.number in
    let m : Message = c.in-Some.message in
    let r : IsReady w t = c.requires.ready in
    let shaped : IsShaped w = subst IsShaped c.self.view_is c.self.invariant.1 in
    let there : message_at (channel_at w.channels t) n ≡ Some m =
    sym (c.in-Some.ensures ∙ ap (λ k. message_at (channel_at c.self.inside.post t) k) c.from.ensures ∙ ap (λ (x : Tables). message_at (channel_at x.channels t) n) c.self.view_is) in
    let tenants : t < length w.session_states = rw shaped.tenants c.requires.tenant in
    let session_states_now : c.self.inside.session_states.items ≡ w.session_states = ap (λ (x : Tables). x.session_states) c.self.view_is in
    let session_states_was : c.index_mut-answering.result.now ≡ session_states_at w.session_states t =
    c.index_mut-answering.ensures.value ∙ get_or_default c.self.inside.session_states.items t _ _ (rw session_states_now tenants) ∙ ap (λ all. session_states_at all t) session_states_now in
    (session_within w t n m c.requires.tenant r shaped there).0

pub answers-requires-clause-last : goal.answers-requires-clause-last
answers-requires-clause-last c =
    let w : Tables = c.args.self.now in
    let t : ℕ = c.args.tenant in
    let n : ℕ = c.args.number in
    let m : Message = c.in-Some.message in
    let r : IsReady w t = c.requires.ready in
    let shaped : IsShaped w = subst IsShaped c.self.view_is c.self.invariant.1 in
    let there : message_at (channel_at w.channels t) n ≡ Some m =
    sym (c.in-Some.ensures ∙ ap (λ k. message_at (channel_at c.self.inside.post t) k) c.from.ensures ∙ ap (λ (x : Tables). message_at (channel_at x.channels t) n) c.self.view_is) in
    let tenants : t < length w.session_states = rw shaped.tenants c.requires.tenant in
    let session_states_now : c.self.inside.session_states.items ≡ w.session_states = ap (λ (x : Tables). x.session_states) c.self.view_is in
    let session_states_was : c.index_mut-answering.result.now ≡ session_states_at w.session_states t =
    c.index_mut-answering.ensures.value ∙ get_or_default c.self.inside.session_states.items t _ _ (rw session_states_now tenants) ∙ ap (λ all. session_states_at all t) session_states_now in
    subst (λ (session_states : List SessionState). m.session ≤ length session_states) (sym session_states_was) (session_within w t n m c.requires.tenant r shaped there).1

pub answers-requires-clause-server : goal.answers-requires-clause-server
answers-requires-clause-server c =
    let w : Tables = c.args.self.now in
    let t : ℕ = c.args.tenant in
    let n : ℕ = c.args.number in
    let m : Message = c.in-Some.message in
    let r : IsReady w t = c.requires.ready in
    let shaped : IsShaped w = subst IsShaped c.self.view_is c.self.invariant.1 in
    let there : message_at (channel_at w.channels t) n ≡ Some m =
    sym (c.in-Some.ensures ∙ ap (λ k. message_at (channel_at c.self.inside.post t) k) c.from.ensures ∙ ap (λ (x : Tables). message_at (channel_at x.channels t) n) c.self.view_is) in
    let tenants : t < length w.session_states = rw shaped.tenants c.requires.tenant in
    let session_states_now : c.self.inside.session_states.items ≡ w.session_states = ap (λ (x : Tables). x.session_states) c.self.view_is in
    let session_states_was : c.index_mut-answering.result.now ≡ session_states_at w.session_states t =
    c.index_mut-answering.ensures.value ∙ get_or_default c.self.inside.session_states.items t _ _ (rw session_states_now tenants) ∙ ap (λ all. session_states_at all t) session_states_now in
    server_below w t n m r shaped there
