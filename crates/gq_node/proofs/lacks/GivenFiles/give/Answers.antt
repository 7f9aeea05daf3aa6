-- What was given stays given.
use Rattle.std.proofs.Common.{◌<◌, List, Bool, length, sym, subst}
use Rattle.gq_node.specs.Lacks.{AllGiven}
use Rattle.gq_node.proofs.Lacking.{given_still}
use Rattle.gq_node.proofs.lacks.GivenFiles.give.Goals as goal

pub next_from-self-inside-requires : goal.next_from-self-inside-requires
next_from-self-inside-requires c =
    let within : c.args.file < length c.self.inside.files.items = subst (λ (files : List Bool). c.args.file < length files) (sym c.self.view_is) c.requires in
    subst (λ files. AllGiven files c.self.inside.next) (sym c.as_slice.ensures.value) (given_still c.self.inside.files.items c.self.inside.next c.args.file within c.self.invariant)
