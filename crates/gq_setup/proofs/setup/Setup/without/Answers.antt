-- What is left can be opened and had, and nothing else changes.
use Rattle.std.proofs.Common.{◌≡◌, ◌<◌, List, [], length, sym, ap, ◌∙◌, subst}
use Rattle.std.specs.List.{All}
use Rattle.gq_desk.specs.CheckedPlan.{CheckedPlan}
use Rattle.gq_desk.specs.Volumes.{Account}
use Rattle.gq_lines.specs.Words.{Word}
use Rattle.gq_setup.specs.declared.openings.Opening.{Opening}
use Rattle.gq_setup.specs.declared.openings.ChunkRoom.{ChunkRoom}
use Rattle.gq_setup.specs.Leaving.{openings_left, rooms_left}
use Rattle.gq_setup.specs.Setups.{accounts_of, after_openings, CanOpen, CanHave, CanLose, CanGo}
use Rattle.gq_setup.proofs.LineByLine.{accounts-length}
use Rattle.gq_setup.proofs.Remaining.{open_left, had_left, all_open_there}
use Rattle.gq_setup.proofs.Rooms.{all_there}
use Rattle.gq_setup.proofs.setup.Setup.without.Goals as goal

pub openings_left-requires : goal.openings_left-requires
openings_left-requires c =
    subst (λ (openings : List Opening). All (λ (o : Opening). o.tenant < length c.self.inside.plan.rows) openings) (sym c.as_slice.ensures.value)
    (all_open_there (length c.self.inside.plan.rows) (accounts_of c.self.inside.plan) c.self.inside.openings.items (accounts-length c.self.inside.plan) c.self.invariant.1)

pub open_all-requires : goal.open_all-requires
open_all-requires c =
    let left : c.as_slice-2.result.now ≡ openings_left c.args.gone.now c.self.inside.plan c.self.inside.openings.items =
    c.as_slice-2.ensures.value ∙ c.in_ok-openings.ensures ∙ ap (openings_left c.args.gone.now c.self.inside.plan) c.as_slice.ensures.value in
    subst (λ (accounts : List Account). CanOpen accounts c.as_slice-2.result.now) (sym c.in_ok-desk.ensures)
    (subst (CanOpen (accounts_of c.self.inside.plan)) (sym left) (open_left c.args.gone.now c.self.inside.plan (accounts_of c.self.inside.plan) c.self.inside.openings.items c.self.invariant.1))

pub rooms_left-requires : goal.rooms_left-requires
rooms_left-requires c =
    subst (λ (rooms : List ChunkRoom). All (λ (room : ChunkRoom). room.tenant < length c.self.inside.plan.rows) rooms) (sym c.as_slice-3.ensures.value) (all_there c.self.inside.plan c.self.inside.rooms.items c.self.invariant.2)

pub invariant_of-result : goal.invariant_of-result
invariant_of-result c =
    let plan : CheckedPlan = c.self.inside.plan in
    let same : c.in_ok-copy.field-0 ≡ plan = c.in_ok-copy.ensures in
    let left : c.in_ok-openings.openings.items ≡ openings_left c.args.gone.now plan c.self.inside.openings.items = c.in_ok-openings.ensures ∙ ap (openings_left c.args.gone.now plan) c.as_slice.ensures.value in
    let rooms : c.in_ok-rooms_left.field-0.items ≡ rooms_left c.args.gone.now plan c.self.inside.rooms.items = c.in_ok-rooms_left.ensures ∙ ap (rooms_left c.args.gone.now plan) c.as_slice-3.ensures.value in (
      c.desk.view_is ∙ c.in_ok-open_all.ensures ∙ ap (λ (a : List Account). after_openings a c.as_slice-2.result.now) c.in_ok-desk.ensures
          ∙ ap (after_openings (accounts_of plan)) c.as_slice-2.ensures.value ∙ ap (λ (p : CheckedPlan). after_openings (accounts_of p) c.in_ok-openings.openings.items) (sym same),
      subst (λ (p : CheckedPlan). CanOpen (accounts_of p) c.in_ok-openings.openings.items) (sym same)
          (subst (CanOpen (accounts_of plan)) (sym left) (open_left c.args.gone.now plan (accounts_of plan) c.self.inside.openings.items c.self.invariant.1)),
      subst (λ (p : CheckedPlan). CanHave p [] c.in_ok-rooms_left.field-0.items) (sym same) (subst (CanHave plan []) (sym rooms) (had_left c.args.gone.now plan c.self.inside.rooms.items c.self.invariant.2)),
      subst (λ (p : CheckedPlan). CanLose p [] c.in_ok-copy-2.field-0) (sym same) (subst (CanLose plan []) (sym c.in_ok-copy-2.ensures) c.self.invariant.3),
      subst (λ (p : CheckedPlan). CanGo p [] c.in_ok-slice_copied.field-0.items) (sym same) (subst (CanGo plan []) (sym (c.in_ok-slice_copied.ensures.items ∙ c.as_slice-4.ensures.value)) c.self.invariant.4),
    )
