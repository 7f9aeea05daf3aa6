-- The server has the copy from now on, where it is greater.
use Rattle.std.specs.Prelude.{not, ◌&&◌}
use Rattle.std.proofs.Common.{◌≡◌, ◌∙◌, true, false, refl, Some, ap, sym, subst}
use Rattle.gq_tag.specs.declared.FileId.{FileId}
use Rattle.gq_tag.specs.declared.Body.TheVariants.{Store}
use Rattle.gq_tag.specs.declared.StoredCopy.{StoredCopy}
use Rattle.gq_tag.specs.Tag.{file_place, newer_of}
use Rattle.gq_desk.specs.Volumes.{limit_of}
use Rattle.gq_store.specs.Copies.{StoreCopies, copy_at}
use Rattle.gq_cluster.specs.Facts.{Kept}
use Rattle.gq_node.specs.declared.output.Fact.TheVariants.{Kept as IsKept}
use Rattle.gq_node.specs.Local.{recalls, file_fits}
use Rattle.gq_node.specs.Recalling.{fits_in}
use Rattle.gq_node.specs.Tables.{Tables, Leads, lacks_at}
use Rattle.gq_node.proofs.Giving.{stored_shaped}
use Rattle.gq_node.proofs.Recalling.{copy_leads}
use Rattle.gq_node.proofs.tables.Core.recall_copy.Goals as goal

abbrev inside : goal.After-put-put → Tables
inside c = record { plan = c.self.inside.plan; here = record { node = c.self.inside.node; lost = c.self.inside.lost }; desk = c.self.inside.desk; store = c.self.inside.store; given = c.self.inside.lacks.items; joined = c.self.inside.joined; peers = c.self.inside.peers.items; session_states = c.self.inside.session_states.items }

pub returns : goal.returns
returns c =
    let file : FileId = c.args.file in
    let copy : StoredCopy = c.args.copy.now in
    let V : StoreCopies → Tables = λ store. record { plan = c.self.inside.plan; here = record { node = c.self.inside.node; lost = c.self.inside.lost }; desk = c.self.inside.desk; store = store; given = c.self.inside.lacks.items; joined = c.self.inside.joined; peers = c.self.inside.peers.items; session_states = c.self.inside.session_states.items } in
    let v : Tables = V c.self.inside.store in
    let is : v ≡ c.args.self.now = c.self.view_is in
    let there : limit_of v.desk file ≡ Some c.in-Some.limit = sym c.limit.ensures ∙ c.in-Some.is in
    let room : file_fits (limit_of v.desk file) (Store copy) ≡ true = ap (λ limit. file_fits limit (Store copy)) there ∙ sym c.if-not-copy_fits.ensures in
    let fits : (not (lacks_at v file.tenant (file_place file)) && file_fits (limit_of v.desk file) (Store copy)) ≡ true = let has : lacks_at v file.tenant (file_place file) ≡ false = ap (λ (x : Tables). lacks_at x file.tenant (file_place file)) is ∙ sym c.lacks.ensures ∙ c.if-lacks.false in rw (has, room) refl in
    let put : copy_at c.put-put.new.self file ≡ newer_of (copy_at v.store file) copy = c.put-put.ensures.copy ∙ ap (λ bytes. newer_of (copy_at v.store file) (record { tag = copy.tag; bytes = bytes })) c.as_slice.ensures in
    record {
      leads = subst (λ (x : Tables). Leads x file.tenant (recalls (Kept (file_place file) copy)) (V c.put-put.new.self)) is (copy_leads v file copy c.put-put.new.self fits put c.put-put.ensures.others);
      fits = sym (ap (λ (x : Tables). fits_in x (IsKept file copy)) (sym is) ∙ room);
      none = λ never. cc;
      desk = ap (λ (x : Tables). x.desk) is;
    }

pub invariant_of-self : goal.invariant_of-self
invariant_of-self c =
    let has : lacks_at (inside c) c.args.file.tenant (file_place c.args.file) ≡ false = ap (λ (x : Tables). lacks_at x c.args.file.tenant (file_place c.args.file)) c.self.view_is ∙ sym c.lacks.ensures ∙ c.if-lacks.false in
    stored_shaped (inside c) c.args.file c.put-put.new.self c.self.invariant has c.put-put.ensures.others c.put-put.ensures.accounts
