-- The store does what the model's server does.
use Rattle.std.proofs.Common.{◌≡◌, ◌∙◌, ℕ, ◌∷◌, [], ◌++◌, false, None, ap, sym, subst}
use Rattle.std.specs.Prelude.{option_map}
use Rattle.gq_tag.specs.declared.Message.{Message}
use Rattle.gq_tag.specs.Tag.{own_message, file_place}
use Rattle.gq_replace.specs.Plans.{place_of}
use Rattle.gq_store.specs.Copies.{StoreCopies, copy_at}
use Rattle.gq_node.specs.declared.output.Output.{Output}
use Rattle.gq_cluster.specs.Facts.{replaced_in}
use Rattle.gq_node.specs.Local.{serves}
use Rattle.gq_node.specs.Tables.{Tables, Acts, fact_of, lacks_at}
use Rattle.gq_node.proofs.Giving.{stored_shaped}
use Rattle.gq_node.proofs.Serving.{Served, serve_acts}
use Rattle.gq_node.proofs.tables.Core.serve.Goals as goal

pub returns : goal.returns
returns c =
    let m : Message = c.args.message.now in
    let t : ℕ = m.tenant in
    let V : StoreCopies → Tables = λ store. record { plan = c.self.inside.plan; here = record { node = c.self.inside.node; lost = c.self.inside.lost }; desk = c.self.inside.desk; store = store; given = c.self.inside.lacks.items; joined = c.self.inside.joined; peers = c.self.inside.peers.items; session_states = c.self.inside.session_states.items } in
    let v : Tables = V c.self.inside.store in
    let is : v ≡ c.args.self.now = c.self.view_is in
    let out : Output = record { answer = None; letters = c.grow.new.self; transfer = None; fact = c.in_ok-fact.fact } in
    let served : Served v t m c.in-Ok.reply c.serve.new.self out = record {
      tenant = λ i. t;
      own = c.requires.own;
      server = c.requires.server ∙ sym (ap (λ (x : Tables). place_of x.here.node) is);
      goes = c.requires.goes;
      has = ap (λ (x : Tables). lacks_at x t (file_place m.file)) is ∙ c.requires.has;
      reply_is = c.in-Ok.ensures.reply;
      held = c.in-Ok.ensures.held;
      others = c.in-Ok.ensures.others;
      answer = λ i. None;
      transfer = λ i. None;
      letters = c.in_ok-grow.ensures.items ∙ ap (λ xs. xs ++ c.in-Ok.reply ∷ []) c.new-letters.ensures.items;
      fact = c.in_ok-fact.ensures ∙ ap (λ (x : Tables). option_map (fact_of m.file.tenant) (replaced_in (copy_at x.store m.file) (file_place m.file) m.body)) (sym is)
          ∙ ap (λ u. option_map (fact_of u) (replaced_in (copy_at c.self.inside.store m.file) (file_place m.file) m.body)) c.requires.own;
    } in
    record { acts = subst (λ (x : Tables). Acts x t (λ site local. serves site local (own_message m)) out (V c.serve.new.self)) is (serve_acts v t m c.in-Ok.reply c.serve.new.self out served) }

pub invariant_of-self-in_err-grow : goal.invariant_of-self-in_err-grow
invariant_of-self-in_err-grow c =
    let m : Message = c.args.message.now in
    let v : Tables = record { plan = c.self.inside.plan; here = record { node = c.self.inside.node; lost = c.self.inside.lost }; desk = c.self.inside.desk; store = c.self.inside.store; given = c.self.inside.lacks.items; joined = c.self.inside.joined; peers = c.self.inside.peers.items; session_states = c.self.inside.session_states.items } in
    let has : lacks_at v m.file.tenant (file_place m.file) ≡ false = ap (λ (x : Tables). lacks_at x m.file.tenant (file_place m.file)) c.self.view_is ∙ ap (λ t. lacks_at c.args.self.now t (file_place m.file)) c.requires.own ∙ c.requires.has in
    stored_shaped v m.file c.serve.new.self c.self.invariant has c.in-Ok.ensures.others c.in-Ok.ensures.accounts

pub invariant_of-self-2 : goal.invariant_of-self-2
invariant_of-self-2 c =
    let m : Message = c.args.message.now in
    let v : Tables = record { plan = c.self.inside.plan; here = record { node = c.self.inside.node; lost = c.self.inside.lost }; desk = c.self.inside.desk; store = c.self.inside.store; given = c.self.inside.lacks.items; joined = c.self.inside.joined; peers = c.self.inside.peers.items; session_states = c.self.inside.session_states.items } in
    let has : lacks_at v m.file.tenant (file_place m.file) ≡ false = ap (λ (x : Tables). lacks_at x m.file.tenant (file_place m.file)) c.self.view_is ∙ ap (λ t. lacks_at c.args.self.now t (file_place m.file)) c.requires.own ∙ c.requires.has in
    stored_shaped v m.file c.serve.new.self c.self.invariant has c.in-Ok.ensures.others c.in-Ok.ensures.accounts
