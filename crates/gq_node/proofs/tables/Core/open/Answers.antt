-- The tenant has the volume from now on.
use Rattle.std.proofs.Common.{◌≡◌, ℕ, ◌<◌, List, length, sym, subst}
use Rattle.std.specs.Prelude.{slice_set}
use Rattle.gq_desk.specs.declared.limits.TheConstants.{MOST_VOLUMES}
use Rattle.gq_desk.specs.declared.volumes.VolumeRow.{VolumeRow}
use Rattle.gq_desk.specs.Volumes.{Account, account_at, with_volume}
use Rattle.gq_store.specs.Copies.{StoreCopies}
use Rattle.gq_node.specs.Opening.{Opens}
use Rattle.gq_node.specs.Shape.{IsShaped}
use Rattle.gq_node.specs.Tables.{Tables}
use Rattle.gq_node.proofs.Opening.{open_opens, opened_shaped}
use Rattle.gq_node.proofs.tables.Core.open.Goals as goal

pub returns-in-Ok-clause-opened : goal.returns-in-Ok-clause-opened
returns-in-Ok-clause-opened c =
    let row : VolumeRow = record { files = c.args.files; blocks = c.args.blocks } in
    let t : ℕ = c.args.tenant in
    let V : List Account → StoreCopies → Tables = λ desk store. record { plan = c.self.inside.plan; here = record { node = c.self.inside.node; lost = c.self.inside.lost }; desk = desk; store = store; given = c.self.inside.lacks.items; joined = c.self.inside.joined; peers = c.self.inside.peers.items; session_states = c.self.inside.session_states.items } in
    let v : Tables = V c.self.inside.desk c.self.inside.store in
    let is : v ≡ c.args.self = c.self.view_is in
    let shaped : IsShaped v = c.self.invariant in
    let within : t < length v.desk = rw shaped.desk (subst (λ (x : Tables). t < length x.plan.rows) (sym is) c.requires) in
    let opens : Opens v t row (V (slice_set v.desk t (with_volume row (account_at v.desk t))) c.add_files.new.self) = open_opens v t row c.add_files.new.self within c.in_ok-_number.ensures.sound c.in-Ok.ensures.copies in
    subst (λ (x : Tables). Opens x t row (V c.open_volume.new.self c.add_files.new.self)) is
    (subst (λ desk. Opens v t row (V desk c.add_files.new.self)) (sym c.in_ok-_number.ensures.opened) opens)

pub invariant_of-result : goal.invariant_of-result
invariant_of-result c =
    let row : VolumeRow = record { files = c.args.files; blocks = c.args.blocks } in
    let t : ℕ = c.args.tenant in
    let V : List Account → StoreCopies → Tables = λ desk store. record { plan = c.self.inside.plan; here = record { node = c.self.inside.node; lost = c.self.inside.lost }; desk = desk; store = store; given = c.self.inside.lacks.items; joined = c.self.inside.joined; peers = c.self.inside.peers.items; session_states = c.self.inside.session_states.items } in
    let v : Tables = V c.self.inside.desk c.self.inside.store in
    let shaped : IsShaped v = c.self.invariant in
    let within : t < length v.desk = rw shaped.desk (subst (λ (x : Tables). t < length x.plan.rows) (sym c.self.view_is) c.requires) in
    subst (λ desk. IsShaped (V desk c.add_files.new.self)) (sym c.in_ok-_number.ensures.opened)
    (opened_shaped v t row c.add_files.new.self shaped within c.in_ok-_number.ensures.sound (subst (λ n. n < MOST_VOLUMES) c.in_ok-_number.ensures.number c.in_ok-_number.ensures.few) c.in-Ok.ensures.added c.in-Ok.ensures.copies)
