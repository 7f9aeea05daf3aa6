-- The volume fits at every server, and the tables go on as the model does.
use Rattle.std.proofs.Common.{◌≡◌, ◌∙◌, ◌<◌, ℕ, List, None, length, ap, sym, subst, All}
use Rattle.std.specs.Prelude.{slice_set}
use Rattle.std.proofs.lemmas.List.{length-set}
use Rattle.gq_desk.specs.declared.volumes.VolumeRow.{VolumeRow}
use Rattle.gq_desk.specs.Volumes.{Account, account_at, with_volume, open_fault}
use Rattle.gq_store.specs.Copies.{StoreCopies}
use Rattle.gq_model.specs.declared.events.Line.TheVariants.{NewVolume}
use Rattle.gq_world.specs.Tables.{Tables, IsShaped, no_store, store_at}
use Rattle.gq_world.specs.Adding.{HasRoomForFiles, IsAdded}
use Rattle.gq_world.specs.Machine.{Acts}
use Rattle.gq_world.proofs.Opening.{Opens, opened_acts, opened_shaped, room_everywhere}
use Rattle.gq_world.proofs.tables.Core.open.Goals as goal

pub add_everywhere-requires : goal.add_everywhere-requires
add_everywhere-requires c =
    let w : Tables = c.args.self.now in
    let t : ℕ = c.args.tenant in
    let v : VolumeRow = record { files = c.args.files; blocks = c.args.blocks } in
    let V : Tables = record { plan = c.self.inside.plan; up = c.self.inside.up.up; kept = c.self.inside.kept; lines = c.self.inside.lines.items; desk = c.self.inside.desk; channels = c.self.inside.post; stores = c.self.inside.stores.items; session_states = c.self.inside.session_states.items } in
    let is : V ≡ w = c.self.view_is in
    let shaped : IsShaped w = subst IsShaped is c.self.invariant.1 in
    let sound : open_fault (account_at w.desk t) v ≡ None = subst (λ (x : Tables). open_fault (account_at x.desk t) v ≡ None) is c.in-Ok.ensures.sound in
    let room : All (HasRoomForFiles t c.args.files c.args.blocks) w.stores = room_everywhere w t c.args.files c.args.blocks c.requires.ready shaped c.requires.tenant sound in
    subst (λ (x : Tables). All (HasRoomForFiles t c.args.files c.args.blocks) x.stores) (sym is) room

pub invariant_of-self : goal.invariant_of-self
invariant_of-self c =
    let w : Tables = c.args.self.now in
    let t : ℕ = c.args.tenant in
    let v : VolumeRow = record { files = c.args.files; blocks = c.args.blocks } in
    let V : Tables = record { plan = c.self.inside.plan; up = c.self.inside.up.up; kept = c.self.inside.kept; lines = c.self.inside.lines.items; desk = c.self.inside.desk; channels = c.self.inside.post; stores = c.self.inside.stores.items; session_states = c.self.inside.session_states.items } in
    let is : V ≡ w = c.self.view_is in
    let desk : length c.open_volume.new.self ≡ length c.self.inside.desk = ap length c.in-Ok.ensures.opened ∙ length-set c.self.inside.desk t (with_volume v (account_at c.self.inside.desk t)) in
    (c.self.invariant.0, opened_shaped V c.open_volume.new.self c.add_everywhere.new.stores.items c.self.invariant.1 desk c.add_everywhere.ensures.count c.add_everywhere.ensures.kept)

pub invariant_of-self-in-Ok : goal.invariant_of-self-in-Ok
invariant_of-self-in-Ok c =
    let w : Tables = c.args.self.now in
    let t : ℕ = c.args.tenant in
    let v : VolumeRow = record { files = c.args.files; blocks = c.args.blocks } in
    let V : Tables = record { plan = c.self.inside.plan; up = c.self.inside.up.up; kept = c.self.inside.kept; lines = c.self.inside.lines.items; desk = c.self.inside.desk; channels = c.self.inside.post; stores = c.self.inside.stores.items; session_states = c.self.inside.session_states.items } in
    let is : V ≡ w = c.self.view_is in
    let desk : length c.open_volume.new.self ≡ length c.self.inside.desk = ap length c.in-Ok.ensures.opened ∙ length-set c.self.inside.desk t (with_volume v (account_at c.self.inside.desk t)) in
    (c.self.invariant.0, opened_shaped V c.open_volume.new.self c.add_everywhere.new.stores.items c.self.invariant.1 desk c.add_everywhere.ensures.count c.add_everywhere.ensures.kept)

pub returns-in_ok-add_everywhere-in-Ok-clause-acts : goal.returns-in_ok-add_everywhere-in-Ok-clause-acts
returns-in_ok-add_everywhere-in-Ok-clause-acts c =
    let w : Tables = c.args.self.now in
    let t : ℕ = c.args.tenant in
    let v : VolumeRow = record { files = c.args.files; blocks = c.args.blocks } in
    let V : Tables = record { plan = c.self.inside.plan; up = c.self.inside.up.up; kept = c.self.inside.kept; lines = c.self.inside.lines.items; desk = c.self.inside.desk; channels = c.self.inside.post; stores = c.self.inside.stores.items; session_states = c.self.inside.session_states.items } in
    let is : V ≡ w = c.self.view_is in
    let shaped : IsShaped w = subst IsShaped is c.self.invariant.1 in
    let sound : open_fault (account_at w.desk t) v ≡ None = subst (λ (x : Tables). open_fault (account_at x.desk t) v ≡ None) is c.in-Ok.ensures.sound in
    let room : All (HasRoomForFiles t c.args.files c.args.blocks) w.stores = room_everywhere w t c.args.files c.args.blocks c.requires.ready shaped c.requires.tenant sound in
    let new : List StoreCopies = c.add_everywhere.new.stores.items in
    let added : (s : ℕ) → s < length w.stores → IsAdded t c.args.files c.args.blocks (store_at w.stores s) (store_at new s) =
    subst (λ (x : Tables). (s : ℕ) → s < length x.stores → IsAdded t c.args.files c.args.blocks (store_at x.stores s) (store_at new s)) is c.in_ok-add_everywhere-in-Ok.ensures.added in
    let opens : Opens w t c.args.files c.args.blocks new = record {
      sound = sound;
      desk = rw shaped.desk c.requires.tenant;
      count = shaped.servers;
      tenants = λ s inside. (room s no_store inside).tenant;
      added = added;
    } in
    let now = ap (λ (x : Tables). record x { desk = slice_set x.desk t (with_volume v (account_at x.desk t)); stores = new }) (sym is) in
    let D : List Account → Tables = λ desk. record V { desk = desk; stores = new } in
    subst (Acts w t (NewVolume c.args.files c.args.blocks)) (now ∙ ap D (sym c.in-Ok.ensures.opened)) (opened_acts w t c.args.files c.args.blocks new opens)
