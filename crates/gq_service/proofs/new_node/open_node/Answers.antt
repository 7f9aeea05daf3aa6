-- Volumes are opened one after another, and no cause refuses one.
use Rattle.std.proofs.Common.{◌≡◌, ◌∙◌, ℕ, List, ap, subst}
use Rattle.gq_setup.specs.declared.openings.Opening.{Opening}
use Rattle.gq_setup.specs.Setups.{Setup, accounts_of, CanOpen}
use Rattle.gq_setup.specs.Laws.{here_of}
use Rattle.gq_service.proofs.NewNodes.{none_open, next_open, next_can, all_open}
use Rattle.gq_service.proofs.new_node.open_node.Goals as goal

pub loop-opening-init : goal.loop-opening-init
loop-opening-init c = let lost_is : c.in_ok-lost.lost ≡ c.args.this.now.plan.setup.lost = c.in_ok-lost.ensures ∙ c.lost.ensures.lost ∙ ap (λ (s : Setup). s.lost) c.setup-setup.ensures in record {
  has = none_open c.args.this.now.plan.setup.plan c.in_ok-copy.field-0 (here_of c.args.this.now.number c.args.this.now.plan.setup) c.in_ok-node.node.tables
      (c.in_ok-copy.ensures ∙ c.plan.ensures ∙ ap (λ (s : Setup). s.plan) c.setup-setup.ensures) c.in_ok-node.ensures.plan (c.in_ok-node.ensures.here ∙ ap (λ (lost : List ℕ). record { node = c.args.this.now.number; lost = lost }) lost_is) c.in_ok-node.ensures.agrees;
  has_memory = c.in_ok-node.ensures.has_memory;
}

pub with_volume-requires-clause-tenant : goal.with_volume-requires-clause-tenant
with_volume-requires-clause-tenant c =
    let setup : Setup = c.args.this.now.plan.setup in
    let openings : List Opening = c.openings-opening-items.result.now in
    let are : openings ≡ setup.openings = c.openings-opening-items.ensures.openings ∙ ap (λ (s : Setup). s.openings) c.setup-setup.ensures in
    let none : Opening = record { tenant = 0; files = 0; blocks = 0 } in
    let can : CanOpen (accounts_of setup.plan) openings = subst (λ (s : Setup). CanOpen (accounts_of s.plan) openings) c.setup-setup.ensures c.openings-opening-items.ensures.can in
    (next_can setup.plan (here_of c.args.this.now.number c.args.this.now.plan.setup) openings setup.openings c.loop-opening.opening-index none c.loop-opening.node.tables are c.loop-opening-test.true c.loop-opening.invariant.has can).tenant

pub with_volume-requires-clause-sound : goal.with_volume-requires-clause-sound
with_volume-requires-clause-sound c =
    let setup : Setup = c.args.this.now.plan.setup in
    let openings : List Opening = c.openings-opening-items.result.now in
    let are : openings ≡ setup.openings = c.openings-opening-items.ensures.openings ∙ ap (λ (s : Setup). s.openings) c.setup-setup.ensures in
    let none : Opening = record { tenant = 0; files = 0; blocks = 0 } in
    let can : CanOpen (accounts_of setup.plan) openings = subst (λ (s : Setup). CanOpen (accounts_of s.plan) openings) c.setup-setup.ensures c.openings-opening-items.ensures.can in
    (next_can setup.plan (here_of c.args.this.now.number c.args.this.now.plan.setup) openings setup.openings c.loop-opening.opening-index none c.loop-opening.node.tables are c.loop-opening-test.true c.loop-opening.invariant.has can).sound

pub loop-opening-preserved : goal.loop-opening-preserved
loop-opening-preserved c =
    let setup : Setup = c.args.this.now.plan.setup in
    let openings : List Opening = c.openings-opening-items.result.now in
    let are : openings ≡ setup.openings = c.openings-opening-items.ensures.openings ∙ ap (λ (s : Setup). s.openings) c.setup-setup.ensures in
    record {
      has = next_open setup.plan (here_of c.args.this.now.number c.args.this.now.plan.setup) openings setup.openings c.loop-opening.opening-index _ c.loop-opening.node.tables c.in_ok-node-2.node.tables are c.loop-opening-test.true c.loop-opening.invariant.has c.in_ok-node-2.ensures.opened;
      has_memory = c.in_ok-node-2.ensures.has_memory;
    }

pub returns-clause-node : goal.returns-clause-node
returns-clause-node c =
    all_open c.args.this.now.plan.setup.plan (here_of c.args.this.now.number c.args.this.now.plan.setup) c.openings-opening-items.result.now c.args.this.now.plan.setup.openings c.loop-opening.opening-index c.loop-opening.node.tables
    (c.openings-opening-items.ensures.openings ∙ ap (λ (s : Setup). s.openings) c.setup-setup.ensures) c.loop-opening-test.false c.loop-opening.invariant.has
