-- A letter comes to the server, and a copy of a start.
use Rattle.std.proofs.Common.{◌≡◌, ◌≢◌, ◌∙◌, ℕ, Bool, true, false, List, [], ◌∷◌, ◌++◌, length, refl, sym, ap, subst, Option, Some, None, arith, inl, inr}
use Rattle.std.specs.Prelude.{IsSome, map, slice_get, option_map, nat_lt, nat_le, ◌==◌}
use Rattle.std.specs.Option.{option_and_then}
use Rattle.std.proofs.lemmas.Bool.{cases_Bool, eq-eqb, and_parts, and_from}
use Rattle.std.proofs.lemmas.Bool.Decides.{nat_tests}
use Rattle.gq_tag.specs.declared.StoredCopy.{StoredCopy}
use Rattle.gq_tag.specs.declared.FileId.{FileId}
use Rattle.gq_tag.specs.declared.Body.{Body}
use Rattle.gq_tag.specs.declared.Body.TheVariants.{Ask, Copy, Store, Stored}
use Rattle.gq_tag.specs.declared.Message.{Message}
use Rattle.gq_tag.specs.Tag.{File, is_file, own_message, message_of, file_of, file_place, to_server, greatest, first_copy}
use Rattle.gq_desk.specs.Volumes.{Account, account_at, limit_in, limit_of}
use Rattle.gq_store.specs.Copies.{StoreCopies, copy_at}
use Rattle.gq_store.specs.Serving.{server_reply, held_after, fault_in}
use Rattle.gq_model.specs.Trace.{stored_by, limit_at, serves as model_serves}
use Rattle.gq_model.specs.Lone.{serve_step, reply_to}
use Rattle.gq_laws.proofs.Holding.{greatest-push}
use Rattle.gq_laws.proofs.OperationMoments.{same_file}
use Rattle.gq_node.specs.declared.output.Output.{Output}
use Rattle.gq_replace.specs.Plans.{place_of}
use Rattle.gq_node.specs.Sites.{site_of}
use Rattle.gq_cluster.specs.Cluster.{everyone}
use Rattle.gq_cluster.specs.Facts.{replaced_in}
use Rattle.gq_node.specs.Local.{Local, state_of, serves, file_fits, copy_fits}
use Rattle.gq_node.specs.Tables.{Tables, Agrees, Acts, Gives, fact_of, lacks_at}

-- ---- the copies

pub other_file : (t : ℕ) (a b : File) → is_file a b ≡ false → file_of t b ≢ file_of t a
other_file t a b differs same =
    let v : a.volume ≡ b.volume = ap (λ (f : FileId). f.volume) (sym same) in
    let p : a.place ≡ b.place = ap (λ (f : FileId). f.file) (sym same) in
    let is : is_file a b ≡ true = and_from (a.volume == b.volume) (a.place == b.place) (eq-eqb a.volume b.volume v) (eq-eqb a.place b.place p) in
    let e = sym is ∙ differs in
    cc

pub is_same_file : (f : File) → is_file f f ≡ true
is_same_file f = and_from (f.volume == f.volume) (f.place == f.place) (eq-eqb f.volume f.volume refl) (eq-eqb f.place f.place refl)

-- what the server then has of a file, where the letter's is this one or is not
brought_here : (serving : ℕ → File → Bool) (server session op round : ℕ) (file : File) (body : Body) (before : ℕ → File → List StoredCopy) → serving server file ≡ true →
    greatest (first_copy ∷ stored_by serving (Some (record { session = session; op = op; round = round; server = server; file = file; body = body })) before server file) ≡ held_after (greatest (first_copy ∷ before server file)) body
brought_here serving server session op round file Ask before has = refl
brought_here serving server session op round file (Copy copy) before has = refl
brought_here serving server session op round file Stored before has = refl
brought_here serving server session op round file (Store copy) before has =
    let one : stored_by serving (Some (record { session = session; op = op; round = round; server = server; file = file; body = Store copy })) before server file ≡ before server file ++ copy ∷ [] =
    rw (eq-eqb server server refl, eq-eqb file.volume file.volume refl, eq-eqb file.place file.place refl, has) refl in
    ap (λ copies. greatest (first_copy ∷ copies)) one ∙ greatest-push first_copy copy (before server file)

brought_there : (serving : ℕ → File → Bool) (server session op round : ℕ) (file : File) (body : Body) (before : ℕ → File → List StoredCopy) (f : File) → is_file file f ≡ false →
    stored_by serving (Some (record { session = session; op = op; round = round; server = server; file = file; body = body })) before server f ≡ before server f
brought_there serving server session op round file Ask before f other = refl
brought_there serving server session op round file (Copy copy) before f other = refl
brought_there serving server session op round file Stored before f other = refl
brought_there serving server session op round file (Store copy) before f other = rw (eq-eqb server server refl, other) refl

-- ---- the letter

-- the tables after the letter
abbrev pub with_store : Tables → StoreCopies → Tables
with_store w store = record w { store = store }

-- what the store did with the letter, and what is given
pub record Served (w : Tables) (t : ℕ) (m reply : Message) (store : StoreCopies) (out : Output) : Type 0 where
  pub tenant : m.tenant ≡ t
  pub own : m.file.tenant ≡ t
  pub server : m.server ≡ place_of w.here.node
  pub goes : to_server m.body ≡ true
  pub has : lacks_at w t (file_place m.file) ≡ false
  pub reply_is : reply ≡ server_reply (copy_at w.store m.file) m
  pub held : copy_at store m.file ≡ held_after (copy_at w.store m.file) m.body
  pub others : (other : FileId) → other ≢ m.file → copy_at store other ≡ copy_at w.store other
  pub answer : out.answer ≡ None
  pub letters : out.letters.items ≡ reply ∷ []
  pub transfer : out.transfer ≡ None
  pub fact : out.fact ≡ option_map (fact_of t) (replaced_in (copy_at w.store m.file) (file_place m.file) m.body)

file_is : (t : ℕ) (file : FileId) → file.tenant ≡ t → file ≡ file_of t (file_place file)
file_is t file own = λ i. record { tenant = own i; volume = file.volume; file = file.file }

held_is : (w : Tables) (t : ℕ) (m : Message) (local : Local) → m.file.tenant ≡ t → Agrees w t local → copy_at w.store m.file ≡ greatest (first_copy ∷ local.brought (file_place m.file))
held_is w t m local own agrees = ap (copy_at w.store) (file_is t m.file own) ∙ agrees.copies (file_place m.file)

served_own : (w : Tables) (t : ℕ) (m reply : Message) (store : StoreCopies) (out : Output) (local : Local) → Served w t m reply store out → Agrees w t local →
    Agrees (with_store w store) t (serves (site_of w.plan w.here t) local (own_message m)).local
served_own w t m reply store out local h agrees =
    let f : File = file_place m.file in
    let before : ℕ → File → List StoredCopy = λ server file. local.brought file in
    let serving : ℕ → File → Bool = model_serves everyone (λ server. local.lacks) in
    let has : serving m.server f ≡ true = (let h : local.lacks f ≡ false = sym (agrees.lacks f) ∙ h.has in rw h refl) in
    let B : ℕ → File → List StoredCopy = λ server file. stored_by serving (Some (record { session = m.session; op = m.op; round = m.round; server = m.server; file = f; body = m.body })) before server file in
    record {
      account = agrees.account;
      copies = λ file.
          let C : ℕ → Type 0 = λ here. copy_at store (file_of t file) ≡ greatest (first_copy ∷ B here file) in
          let there : C m.server = elim (cases_Bool (is_file f file)) [
            | inl same ↦ (
                let is : f ≡ file = same_file f file same in
                let D : File → Type 0 = λ x. copy_at store (file_of t x) ≡ greatest (first_copy ∷ B m.server x) in
                let now : D f = ap (copy_at store) (sym (file_is t m.file h.own)) ∙ h.held ∙ ap (λ copy. held_after copy m.body) (held_is w t m local h.own agrees)
                ∙ sym (brought_here serving m.server m.session m.op m.round f m.body before has) in
                subst D is now)
            | inr differs ↦ (
                let apart : file_of t file ≢ m.file = λ e. other_file t f file differs (e ∙ file_is t m.file h.own) in
                h.others (file_of t file) apart ∙ agrees.copies file
                ∙ sym (ap (λ copies. greatest (first_copy ∷ copies)) (brought_there serving m.server m.session m.op m.round f m.body before file differs)))
          ] in
          subst C h.server there;
      lacks = agrees.lacks;
      joined = agrees.joined;
      peer = agrees.peer;
      session_states = agrees.session_states;
    }

served_gives : (w : Tables) (t : ℕ) (m reply : Message) (store : StoreCopies) (out : Output) (local : Local) → Served w t m reply store out → Agrees w t local → Gives t (serves (site_of w.plan w.here t) local (own_message m)) out
served_gives w t m reply store out local h agrees =
    let held' = held_is w t m local h.own agrees in
    let M : ℕ → FileId → Message = λ tenant file. record { tenant = tenant; session = m.session; op = m.op; round = m.round; server = m.server; file = file; body = m.body } in
    let is : m ≡ message_of t (own_message m) = ap (λ tenant. M tenant m.file) h.tenant ∙ ap (M t) (file_is t m.file h.own) in
    let has : local.lacks (file_place m.file) ≡ false = sym (agrees.lacks (file_place m.file)) ∙ h.has in
    let stated : (serve_step (state_of everyone local) (own_message m)).new ≡ reply_to (greatest (first_copy ∷ local.brought (file_place m.file))) (own_message m) ∷ [] = rw has refl in
    record {
      answer = h.answer;
      letters = h.letters ∙ ap (λ r. r ∷ []) (h.reply_is ∙ ap (λ copy. server_reply copy m) held' ∙ ap (server_reply (greatest (first_copy ∷ local.brought (file_place m.file)))) is)
          ∙ sym (ap (map (message_of t)) stated);
      transfer = h.transfer;
      fact = h.fact ∙ ap (λ copy. option_map (fact_of t) (replaced_in copy (file_place m.file) m.body)) held';
    }

other_copies : (w : Tables) (t u : ℕ) (file : FileId) (store : StoreCopies) (local : Local) → u ≢ t → file.tenant ≡ t → ((other : FileId) → other ≢ file → copy_at store other ≡ copy_at w.store other) → Agrees w u local → Agrees (with_store w store) u local
other_copies w t u file store local other own others agrees = record {
  account = agrees.account;
  copies = λ f.
      let apart : file_of u f ≢ file = λ e. other (ap (λ (x : FileId). x.tenant) e ∙ own) in
      others (file_of u f) apart ∙ agrees.copies f;
  lacks = agrees.lacks;
  joined = agrees.joined;
  peer = agrees.peer;
  session_states = agrees.session_states;
}

pub serve_acts : (w : Tables) (t : ℕ) (m reply : Message) (store : StoreCopies) (out : Output) → Served w t m reply store out → Acts w t (λ site local. serves site local (own_message m)) out (with_store w store)
serve_acts w t m reply store out h = record {
  leads = record {
    plan = refl;
    here = refl;
    own = λ local agrees. served_own w t m reply store out local h agrees;
    others = λ u other local agrees. other_copies w t u m.file store local other h.own h.others agrees;
  };
  gives = λ local agrees. served_gives w t m reply store out local h agrees;
}

-- ---- the store does not refuse it

within_limit : (limit : ℕ) (copy : StoredCopy) → copy_fits limit copy ≡ true → nat_lt limit (length copy.bytes) ≡ false
within_limit limit copy fits = let parts = and_parts (nat_le (length copy.bytes) limit) _ fits in le_lt (length copy.bytes) limit parts.0
  where
    le_lt : (n limit : ℕ) → nat_le n limit ≡ true → nat_lt limit n ≡ false
    le_lt n limit is = grind (arith, nat_tests)

pub no_fault : (limit : Option ℕ) (body : Body) → file_fits limit body ≡ true → fault_in limit body ≡ None
no_fault None body fits = absurd (cc)
no_fault (Some limit) Ask fits = refl
no_fault (Some limit) (Copy copy) fits = refl
no_fault (Some limit) Stored fits = refl
no_fault (Some limit) (Store copy) fits = rw (within_limit limit copy fits) refl

pub file_there : (limit : Option ℕ) (body : Body) → file_fits limit body ≡ true → IsSome limit
file_there None body fits = absurd (cc)
file_there (Some limit) body fits = refl

-- ---- the limit of a file is that of the model

pub limit_is : (w : Tables) (t : ℕ) (file : FileId) (local : Local) → file.tenant ≡ t → Agrees w t local → limit_of w.desk file ≡ limit_at (state_of everyone local) file.volume file.file
limit_is w t file local own agrees =
    ap (λ u. option_and_then (limit_in file.file) (slice_get (account_at w.desk u).volumes file.volume)) own
    ∙ ap (λ (a : Account). option_and_then (limit_in file.file) (slice_get a.volumes file.volume)) agrees.account
