use Rattle.std.proofs.Common.{◌≡◌, ◌∙◌, length, map, ◌++◌, ◌*◌, ℕ, List, ap, subst, sym}
use Rattle.gq_grid.specs.Grid.{Grid}
use Rattle.gq_laws.specs.Operations.{Legal, Tagged}
use Rattle.gq_laws.specs.Orders.{order}
use Rattle.gq_laws.specs.declared.ops.Op.{Op}
use Rattle.gq_model.specs.declared.events.Event.{Event}
use Rattle.std.proofs.lemmas.List.{length-map}
use Rattle.gq_model.specs.declared.events.Answer.{Answer}
use Rattle.gq_model.specs.Shown.{shown}
use Rattle.gq_picture.specs.Absences.{absences, effects}
use Rattle.gq_picture.specs.Laws.{all_effects}
use Rattle.gq_picture.specs.declared.absences.Effect.{Effect}
use Rattle.gq_svg.specs.Svg.{picture_text}
use Rattle.gq_svg.specs.declared.picture.Heading.{Heading}
use Rattle.gq_tag.specs.Tag.{file_place}
use Rattle.gq_files.specs.Pictures.{heading_of, servers_of}
use Rattle.gq_files.proofs.Picturing.{picture_told, effects-length, run_count}
use Rattle.gq_files.proofs.picture.picture_text.Goals as goal

pub read_effects-requires : goal.read_effects-requires
read_effects-requires c =
    let answered = c.args.answered.now in
    ap length c.as_slice-answers.ensures.value ∙ run_count c.args.plan.now answered.events.items answered.answers.items c.requires.run ∙ sym (ap length c.as_slice-events.ensures.value)

pub read_absences-requires-clause-places : goal.read_absences-requires-clause-places
read_absences-requires-clause-places c =
    let answered = c.args.answered.now in
    let count : length c.as_slice-answers.result.now ≡ length c.as_slice-events.result.now =
    ap length c.as_slice-answers.ensures.value ∙ run_count c.args.plan.now answered.events.items answered.answers.items c.requires.run ∙ sym (ap length c.as_slice-events.ensures.value) in
    ap length c.as_slice-places.ensures.value ∙ c.requires.places ∙ sym (ap length c.as_slice-events.ensures.value)
    ∙ sym (ap length (c.as_slice-2.ensures.value ∙ c.in_ok-effects.ensures) ∙ effects-length c.as_slice-events.result.now (map shown c.as_slice-answers.result.now) (length-map c.as_slice-answers.result.now shown ∙ count))

pub returns : goal.returns
returns c =
    let answered = c.args.answered.now in let drawn = c.in_ok-ops.ops.items in let d = c.in_ok-drawing.drawing in
    let servers = c.servers.ensures.value ∙ ap (λ (g : Grid). g.rows * g.cols) c.grid.ensures in
    let seen = c.as_slice.ensures.value in
    let done : c.as_slice-2.result.now ≡ all_effects c.args.plan.now answered.events.items =
    c.as_slice-2.ensures.value ∙ c.in_ok-effects.ensures
    ∙ ap (λ (e : List Event). effects e (map shown c.as_slice-answers.result.now)) c.as_slice-events.ensures.value
    ∙ ap (λ (a : List Answer). effects answered.events.items (map shown a)) c.as_slice-answers.ensures.value
    ∙ ap (effects answered.events.items) c.requires.run in
    picture_told c.args.name.now (heading_of c.args.plan.now c.args.file.tenant (file_place c.args.file)) _ drawn c.as_slice-3.result.now _ c.as_slice-4.result.now d c.put_picture.new.out.items
    c.in_ok-ops.ensures
    (c.as_slice-4.ensures.value
    ∙ (c.in_ok-absences.ensures
    ∙ (ap (λ (n : ℕ). absences n c.as_slice-places.result.now c.as_slice-2.result.now) servers
    ∙ (ap (λ (p : List ℕ). absences (servers_of c.args.plan.now) p c.as_slice-2.result.now) c.as_slice-places.ensures.value
    ∙ ap (λ (e : List Effect). absences (servers_of c.args.plan.now) answered.places.items e) done))))
    (λ tagged. c.as_slice-3.ensures.value ∙ (c.in_ok-order.ensures.definition (subst Tagged (sym seen) tagged) ∙ ap order seen))
    (λ tagged. subst (λ (p : List ℕ). Legal drawn p) (sym c.as_slice-3.ensures.value)
    (subst (λ (o : List Op). Legal o c.in_ok-order.order.items) seen (c.in_ok-order.ensures.legal (subst Tagged (sym seen) tagged))))
    c.in_ok-drawing.ensures.drawing c.in_ok-drawing.ensures.truth
    (c.in_ok-put_picture.ensures
    ∙ (ap (λ z. z ++ picture_text c.args.name.now c.heading.result d) c.new-text.ensures.items
    ∙ ap (λ (h : Heading). picture_text c.args.name.now h d) c.heading.ensures))
