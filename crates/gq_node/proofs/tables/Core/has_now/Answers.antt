-- The server has the copy from now on, and lacks the file no more.
use Rattle.std.proofs.Common.{◌≡◌, ◌∙◌, ℕ, ◌<◌, [], length, refl, sym, ap, subst}
use Rattle.std.specs.Prelude.{◌&&◌, not, slice_set, slice_index_or}
use Rattle.std.proofs.lemmas.List.{get_or_read_under}
use Rattle.gq_tag.specs.Tag.{file_place, is_file, newer_of}
use Rattle.gq_tag.specs.declared.FileId.{FileId}
use Rattle.gq_tag.specs.declared.StoredCopy.{StoredCopy}
use Rattle.gq_store.specs.Copies.{copy_at}
use Rattle.gq_node.specs.Lacks.{lacks_in}
use Rattle.gq_node.specs.Local.{silently, given}
use Rattle.gq_node.specs.Shape.{IsShaped}
use Rattle.gq_node.specs.Tables.{Tables, Leads, given_at}
use Rattle.gq_node.proofs.Giving.{IsGiven, given_leads, given_shaped}
use Rattle.gq_node.proofs.tables.Core.has_now.Goals as goal

abbrev tables : goal.After-self-1 → Tables
tables c = record { plan = c.self.inside.plan; here = record { node = c.self.inside.node; lost = c.self.inside.lost }; desk = c.self.inside.desk; store = c.self.inside.store; given = c.self.inside.lacks.items; joined = c.self.inside.joined; peers = c.self.inside.peers.items; session_states = c.self.inside.session_states.items }

within : (c : goal.After-self-1) → c.args.file.tenant < length c.self.inside.lacks.items
within c = subst (λ n. c.args.file.tenant < n) (sym c.self.invariant.given) (subst (λ (x : Tables). c.args.file.tenant < length x.plan.rows) (sym c.self.view_is) c.requires.tenant)

there : (c : goal.After-self-1) → c.index_mut.result.now ≡ given_at (tables c) c.args.file.tenant
there c =
    let low : c.from.result < length c.self.inside.lacks.items = subst (λ n. n < length c.self.inside.lacks.items) (sym c.from.ensures) (within c) in
    get_or_read_under c.self.inside.lacks.items c.from.result (length c.self.inside.lacks.items) c.index_mut.result.now [] c.index_mut.ensures.value low refl
    ∙ ap (λ n. slice_index_or c.self.inside.lacks.items n []) c.from.ensures

is_given : (c : goal.After-self-1) → IsGiven (tables c) c.args.file c.args.copy.now c.put-put.new.self c.give.new.self
is_given c =
    let file : FileId = c.args.file in
    let copy : StoredCopy = c.args.copy.now in
    record {
      held = c.put-put.ensures.copy ∙ ap (λ bytes. newer_of (copy_at c.self.inside.store file) (record { tag = copy.tag; bytes = bytes })) c.as_slice.ensures;
      others = c.put-put.ensures.others;
      lacks = λ f. c.give.ensures.lacks f ∙ ap (λ g. lacks_in g f && not (is_file (file_place file) f)) (there c);
    }

abbrev with_place : goal.After-self-1 → ℕ → Tables
with_place c n = record (tables c) { store = c.put-put.new.self; given = slice_set c.self.inside.lacks.items n c.give.new.self }

pub invariant_of-self : goal.invariant_of-self
invariant_of-self c =
    subst (λ n. IsShaped (with_place c n)) (sym c.from.ensures)
    (given_shaped (tables c) c.args.file c.args.copy.now c.put-put.new.self c.give.new.self c.self.invariant (within c) (is_given c) (c.give.ensures.volumes ∙ ap length (there c)) (λ v. c.give.ensures.marks v ∙ ap (λ g. length (slice_index_or g v [])) (there c)) c.put-put.ensures.accounts)

pub returns-clause-leads : goal.returns-clause-leads
returns-clause-leads c =
    subst (λ n. Leads c.args.self.now c.args.file.tenant (λ site local. silently (given (file_place c.args.file) c.args.copy.now local)) (with_place c n)) (sym c.from.ensures)
    (subst (λ x. Leads x c.args.file.tenant (λ site local. silently (given (file_place c.args.file) c.args.copy.now local)) (with_place c c.args.file.tenant)) c.self.view_is
    (given_leads (tables c) c.args.file c.args.copy.now c.put-put.new.self c.give.new.self (within c) (is_given c)))
