-- A start that leaves out those who went, or one that leaves nothing out.
use Rattle.std.proofs.Common.{◌≡◌, ◌∙◌, ℕ, List, true, false, sym, subst}
use Rattle.std.specs.List.{list_all}
use Rattle.gq_keeper.specs.LeavingOut.{facts_but}
use Rattle.gq_keeper.specs.Starting.{RecallsAll}
use Rattle.gq_keeper.proofs.Instants.{elapses_only}
use Rattle.gq_setup.specs.Setups.{Setup}
use Rattle.gq_wire.proofs.Arriving.{ok_more}
use Rattle.gq_service.specs.Gone.{facts_left, is_of_gone, somebody_went}
use Rattle.gq_service.specs.Kinds.{kind}
use Rattle.gq_service.proofs.Crashes.{left_reading_all, left_reading_some}
use Rattle.gq_service.proofs.Starting.{ready_only, strange_only}
use Rattle.gq_service.proofs.serving.read_journal.Goals as goal

-- ---- tenants went

pub returns-then-went-clause-recalled : goal.returns-then-went-clause-recalled
returns-then-went-clause-recalled g c =
    let setup : Setup = c.args.node.now.plan.setup in
    let seen : List ℕ = g.D.Log.seen c.args.disk.now in
    let some : true ≡ somebody_went setup seen = sym c.if-went.true ∙ c.requires.went in
    ok_more c.start_without.result _ _
    (λ found. ready_only found _ _
    (λ reading all. subst (λ b. RecallsAll g.M.Machine.recalls c.args.machine.now (facts_left b setup seen) c.start_without.new.machine) some
    (subst (λ (s : Setup). RecallsAll g.M.Machine.recalls c.args.machine.now (facts_but (is_of_gone s.gone) seen) c.start_without.new.machine) c.setup.ensures all)))
    c.start_without.ensures.recalled

pub returns-then-went-clause-strange : goal.returns-then-went-clause-strange
returns-then-went-clause-strange g c =
    let setup : Setup = c.args.node.now.plan.setup in
    let seen : List ℕ = g.D.Log.seen c.args.disk.now in
    let some : true ≡ somebody_went setup seen = sym c.if-went.true ∙ c.requires.went in
    ok_more c.start_without.result _ _
    (λ found. strange_only found _ _
    (λ one. (
      subst (λ b. list_all (g.M.Machine.readable c.args.machine.now) (facts_left b setup seen) ≡ false) some
          (subst (λ (s : Setup). list_all (g.M.Machine.readable c.args.machine.now) (facts_but (is_of_gone s.gone) seen) ≡ false) c.setup.ensures one.0),
      one.1,
    )))
    c.start_without.ensures.strange

pub returns-then-went-clause-anew : goal.returns-then-went-clause-anew
returns-then-went-clause-anew g c = λ is. c.start_without.ensures.anew

pub returns-then-went-clause-crash : goal.returns-then-went-clause-crash
returns-then-went-clause-crash g c = elapses_only _ _ _ _ _ _ c.start_without.ensures.crash
    (λ left l. left_reading_some (kind g.M.Machine.steps g.M.Machine.recalls g.M.Machine.readable g.M.Lasting.blank g.M.Lasting.rests g.M.Served.is_new) c.args.node.now.plan.setup c.setup.result.now c.args.node.now.number c.args.went c.args.machine.now c.start_without.new.machine c.args.node.now.plan.text.items (g.D.Log.synced c.args.disk.now) (g.D.Log.seen c.args.disk.now) left
    c.setup.ensures c.if-went.true c.requires.went c.requires.synced c.args.node.now.text c.requires.new l)

-- ---- nobody did

pub returns-clause-recalled : goal.returns-clause-recalled
returns-clause-recalled g c =
    let setup : Setup = c.args.node.now.plan.setup in
    let seen : List ℕ = g.D.Log.seen c.args.disk.now in
    let none : false ≡ somebody_went setup seen = sym c.if-went.false ∙ c.requires.went in
    ok_more c.start.result _ _
    (λ found. ready_only found _ _ (λ reading all. subst (λ b. RecallsAll g.M.Machine.recalls c.args.machine.now (facts_left b setup seen) c.start.new.machine) none all))
    c.start.ensures.recalled

pub returns-clause-strange : goal.returns-clause-strange
returns-clause-strange g c =
    let setup : Setup = c.args.node.now.plan.setup in
    let seen : List ℕ = g.D.Log.seen c.args.disk.now in
    let none : false ≡ somebody_went setup seen = sym c.if-went.false ∙ c.requires.went in
    ok_more c.start.result _ _
    (λ found. strange_only found _ _ (λ one. (subst (λ b. list_all (g.M.Machine.readable c.args.machine.now) (facts_left b setup seen) ≡ false) none one.0, one.1)))
    c.start.ensures.strange

pub returns-clause-anew : goal.returns-clause-anew
returns-clause-anew g c = λ is. absurd (let e : true ≡ false = sym is ∙ c.if-went.false in cc)

pub returns-clause-crash : goal.returns-clause-crash
returns-clause-crash g c = elapses_only _ _ _ _ _ _ c.start.ensures.crash
    (λ left r. left_reading_all (kind g.M.Machine.steps g.M.Machine.recalls g.M.Machine.readable g.M.Lasting.blank g.M.Lasting.rests g.M.Served.is_new) c.args.node.now.plan.setup c.args.node.now.number c.args.went c.args.node.now.plan.text.items (g.D.Log.seen c.args.disk.now) left c.if-went.false c.args.node.now.text r)
