-- One tenant after another.
use Rattle.std.proofs.Common.{◌≡◌, ◌∙◌, ℕ, ◌<◌, ◌≤◌, length, ap, subst, arith}
use Rattle.gq_desk.specs.CheckedPlan.{CheckedPlan}
use Rattle.gq_node.specs.Resting.{FirstPlan}
use Rattle.gq_node.specs.Sites.{Here}
use Rattle.gq_setup.specs.Setups.{Setup}
use Rattle.gq_setup.specs.Laws.{here_of}
use Rattle.gq_service.specs.Serving.{first_of_read}
use Rattle.gq_service.proofs.NewNodes.{more_bereft, all_bereft}
use Rattle.gq_service.proofs.new_node.bereft_node.Goals as goal

pub loop-place-preserved : goal.loop-place-preserved
loop-place-preserved c =
    let setup : Setup = c.args.this.now.plan.setup in
    let here : Here = here_of c.args.this.now.number setup in
    let lost : ℕ → FirstPlan = first_of_read c.args.before.now in
    let tenants : c.tenants-tenants.result ≡ length setup.plan.rows = c.tenants-tenants.ensures.value ∙ ap (λ (p : CheckedPlan). length p.rows) (c.plan.ensures ∙ ap (λ (s : Setup). s.plan) c.setup.ensures) in
    let within : c.loop-place.place < length setup.plan.rows = subst (λ n. c.loop-place.place < n) tenants c.loop-place-test.true in
    let many : record { volumes = c.volumes_before.result; losses = c.losses_before-losses.result } ≡ lost c.loop-place.place = λ i. record { volumes = c.volumes_before.ensures.count i; losses = c.losses_before-losses.ensures c.loop-place.place i } in
    record {
      bereft = more_bereft setup.plan here setup.openings lost c.loop-place.place (record { volumes = c.volumes_before.result; losses = c.losses_before-losses.result }) c.loop-place.node.tables c.lack.new.self.tables c.loop-place.invariant.bereft within many c.in_ok-lack.ensures.begins;
      has_memory = c.in_ok-lack.ensures.has_memory;
    }

pub returns : goal.returns
returns c =
    let setup : Setup = c.args.this.now.plan.setup in
    let tenants : c.tenants-tenants.result ≡ length setup.plan.rows = c.tenants-tenants.ensures.value ∙ ap (λ (p : CheckedPlan). length p.rows) (c.plan.ensures ∙ ap (λ (s : Setup). s.plan) c.setup.ensures) in
    let past : length setup.plan.rows ≤ c.loop-place.place = subst (λ n. n ≤ c.loop-place.place) tenants (omega (arith, c.loop-place-test.false)) in
    all_bereft setup.plan (here_of c.args.this.now.number setup) setup.openings (first_of_read c.args.before.now) c.loop-place.place c.loop-place.node.tables c.loop-place.invariant.bereft past
