-- None of a volume that was not lost is lacked, and of another none that was given.
use Rattle.std.proofs.Common.{◌≡◌, ◌<◌, ◌≤◌, List, Bool, [], length, subst, arith, vec_len}
use Rattle.std.specs.Prelude.{slice_index_or}
use Rattle.gq_node.specs.Lacks.{Given, AllGiven}
use Rattle.gq_node.proofs.Lacking.{list_read, none_lacked, none_lacked_past}
use Rattle.gq_node.proofs.lacks.Lacks.next.Goals as goal

pub returns : goal.returns
returns c =
    let given : Given = c.args.self.now in
    let long : vec_len c.self.inside.volumes ≡ length c.self.inside.volumes.items = omega arith in
    let below : c.args.volume < length c.self.inside.volumes.items = omega (arith, long, c.len.ensures, c.if-volume-len.false) in
    let within : c.args.volume < length given = subst (λ (g : Given). c.args.volume < length g) c.self.view_is below in
    let files : c.index.result.now ≡ slice_index_or given c.args.volume [] = list_read given c.self.inside.volumes.items c.args.volume c.index.result.now c.index.result.now c.self.view_is within c.index.ensures in
    none_lacked given c.args.volume c.next.result (subst (λ (fs : List Bool). AllGiven fs c.next.result) files c.next.ensures)

pub returns-then-volume-len : goal.returns-then-volume-len
returns-then-volume-len c =
    let long : vec_len c.self.inside.volumes ≡ length c.self.inside.volumes.items = omega arith in
    let beyond : length c.self.inside.volumes.items ≤ c.args.volume = omega (arith, long, c.len.ensures, c.if-volume-len.true) in
    let past : length c.args.self.now ≤ c.args.volume = subst (λ (g : Given). length g ≤ c.args.volume) c.self.view_is beyond in
    λ place low. none_lacked_past c.args.self.now c.args.volume past place
