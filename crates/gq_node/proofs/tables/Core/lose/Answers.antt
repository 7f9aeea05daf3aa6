-- A new node lacks all files of the volumes.
use Rattle.std.proofs.Common.{◌≡◌, ◌∙◌, ℕ, ◌<◌, List, true, length, sym, ap, subst}
use Rattle.std.specs.Prelude.{slice_set}
use Rattle.gq_desk.specs.Volumes.{account_at}
use Rattle.gq_desk.specs.declared.volumes.VolumeRow.{VolumeRow}
use Rattle.gq_node.specs.Lacks.{all_lost}
use Rattle.gq_node.specs.Opening.{Loses}
use Rattle.gq_node.specs.Shape.{IsShaped}
use Rattle.gq_node.specs.Tables.{Tables, is_new_node}
use Rattle.gq_node.proofs.Bereaving.{with_lacks, loses, loses_not, bereaved_shaped}
use Rattle.gq_node.proofs.tables.Core.lose.Goals as goal

pub returns-then-not-is_new : goal.returns-then-not-is_new
returns-then-not-is_new c = record { loses = loses_not c.args.self.now c.args.tenant c.args.volumes (sym (c.is_new.ensures 0) ∙ c.if-not-is_new.true) c.requires.first }

abbrev with_place : goal.After-drop-index_mut → ℕ → Tables
with_place c n = record { plan = c.self.inside.plan; here = record { node = c.self.inside.node; lost = c.self.inside.lost }; desk = c.self.inside.desk; store = c.self.inside.store; given = slice_set c.self.inside.lacks.items n c.in_ok-self-inside.field-0; joined = c.self.inside.joined; peers = c.self.inside.peers.items; session_states = c.self.inside.session_states.items }

within : (c : goal.After-drop-index_mut) → c.args.tenant < length c.args.self.now.given
within c = let shaped : IsShaped c.args.self.now = subst IsShaped c.self.view_is c.self.invariant in subst (λ n. c.args.tenant < n) (sym shaped.given) c.requires.tenant

new : (c : goal.After-drop-index_mut) → is_new_node c.args.self.now ≡ true
new c = sym (c.is_new.ensures 0) ∙ c.if-not-is_new.false

lost_is : (c : goal.After-drop-index_mut) → c.in_ok-self-inside.field-0 ≡ all_lost (account_at c.args.self.now.desk c.args.tenant).volumes c.args.volumes
lost_is c = c.in_ok-self-inside.ensures ∙ ap (λ (vs : List VolumeRow). all_lost vs c.args.volumes) (c.volumes-rows.ensures.volumes ∙ ap (λ (x : Tables). (account_at x.desk c.args.tenant).volumes) c.self.view_is)

pub invariant_of-self : goal.invariant_of-self
invariant_of-self c =
    let w : Tables = c.args.self.now in
    let t : ℕ = c.args.tenant in
    let shaped : IsShaped w = subst IsShaped c.self.view_is c.self.invariant in
    subst (λ n. IsShaped (with_place c n)) (sym c.from.ensures)
    (subst (λ (x : Tables). IsShaped (with_lacks x t c.in_ok-self-inside.field-0)) (sym c.self.view_is)
    (bereaved_shaped w t c.args.volumes c.in_ok-self-inside.field-0 shaped (within c) c.requires.few (new c) (lost_is c) c.requires.first))

pub returns : goal.returns
returns c =
    let w : Tables = c.args.self.now in
    let t : ℕ = c.args.tenant in
    record {
      loses =
          subst (λ n. Loses w t c.args.volumes (with_place c n)) (sym c.from.ensures)
          (subst (λ (x : Tables). Loses w t c.args.volumes (with_lacks x t c.in_ok-self-inside.field-0)) (sym c.self.view_is)
          (loses w t c.args.volumes c.in_ok-self-inside.field-0 (within c) (new c) (lost_is c) c.requires.first));
    }
