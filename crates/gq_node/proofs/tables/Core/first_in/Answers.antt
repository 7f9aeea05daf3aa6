-- One file more.
use Rattle.std.proofs.Common.{◌≡◌, ◌∙◌, ℕ, ◌<◌, length, sym, ap, subst, arith}
use Rattle.std.specs.Prelude.{slice_index_or}
use Rattle.gq_desk.specs.Volumes.{account_at}
use Rattle.gq_model.specs.Trace.{files_of}
use Rattle.gq_node.specs.Lacks.{Given, lacks_in}
use Rattle.gq_node.specs.Shape.{IsShaped}
use Rattle.gq_node.specs.Tables.{Tables, given_at, lacks_at}
use Rattle.gq_node.proofs.Lacking.{list_read}
use Rattle.gq_node.proofs.Giving.{at_place, first_in_from, first_in_more, first_in_here, first_in_none}
use Rattle.gq_node.proofs.tables.Core.first_in.Goals as goal

pub loop-place-init : goal.loop-place-init
loop-place-init c =
    let w : Tables = c.args.self.now in
    let shaped : IsShaped w = subst IsShaped c.self.view_is c.self.invariant in
    let within : c.args.tenant < length w.given = subst (λ n. c.args.tenant < n) (sym shaped.given) c.requires.tenant in
    let its : c.index.result.now ≡ given_at w c.args.tenant = list_read w.given c.self.inside.lacks.items c.args.tenant c.index.result.now c.index.result.now (ap (λ (x : Tables). x.given) c.self.view_is) within (c.index.ensures ∙ ap (λ n. slice_index_or c.self.inside.lacks.items n c.index.result.now) c.from.ensures) in
    first_in_from (lacks_at w c.args.tenant) c.args.volume c.next-first.result (files_of (account_at w.desk c.args.tenant).volumes c.args.volume) (λ place low. ap (λ (g : Given). lacks_in g (at_place c.args.volume place)) (sym its) ∙ c.next-first.ensures place low)

pub loop-place-preserved : goal.loop-place-preserved
loop-place-preserved c =
    let w : Tables = c.args.self.now in
    let n : ℕ = files_of (account_at w.desk c.args.tenant).volumes c.args.volume in
    let end : c.files-place-end.result ≡ n = c.files-place-end.ensures.value in
    let below : c.loop-place.place < n = omega arith in
    first_in_more (lacks_at w c.args.tenant) c.args.volume c.loop-place.place n below (sym c.lacks.ensures ∙ c.if-lacks.false) ∙ c.loop-place.invariant

pub returns-then-lacks-clause-first : goal.returns-then-lacks-clause-first
returns-then-lacks-clause-first c =
    let w : Tables = c.args.self.now in
    let n : ℕ = files_of (account_at w.desk c.args.tenant).volumes c.args.volume in
    let end : c.files-place-end.result ≡ n = c.files-place-end.ensures.value in
    let below : c.loop-place.place < n = omega arith in
    first_in_here (lacks_at w c.args.tenant) c.args.volume c.loop-place.place n below (sym c.lacks.ensures ∙ c.if-lacks.true) ∙ c.loop-place.invariant

pub returns-clause-first : goal.returns-clause-first
returns-clause-first c =
    let w : Tables = c.args.self.now in
    let n : ℕ = files_of (account_at w.desk c.args.tenant).volumes c.args.volume in
    let end : c.files-place-end.result ≡ n = c.files-place-end.ensures.value in
    sym (first_in_none (lacks_at w c.args.tenant) c.args.volume c.loop-place.place n (omega arith)) ∙ c.loop-place.invariant
