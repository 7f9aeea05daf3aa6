-- Each way in which a reply that ends the round is heard.
use Rattle.std.proofs.Common.{◌∙◌, ◌+◌, ap, sym}
use Rattle.std.specs.Prelude.{nat_lt}
use Rattle.std.proofs.lemmas.Bool.{and_parts}
use Rattle.gq_grid.specs.Grid.{with_server}
use Rattle.gq_grid.specs.Sets.{servers}
use Rattle.gq_tag.specs.View.{body_of}
use Rattle.gq_phase.specs.Best.{best_with}
use Rattle.gq_phase.specs.Standing.{is_list}
use Rattle.gq_phase.proofs.Saying.{current_parts, collected_result, skipped_result, over_result, on_hears, done_result, and-last, same_of, says_view, says_given, for_each}
use Rattle.gq_phase.proofs.operation.Operation.hear_last.Goals as goal

pub returns-then-not-skips-clause-hears : goal.returns-then-not-skips-clause-hears
returns-then-not-skips-clause-hears c =
    let now = current_parts c.args.self.now c.args.message.now c.requires.current in
    let betters = same_of c.args.self.now.task (best_with c.args.self.now.best (body_of c.message.inside.body)) (best_with c.args.self.now.best c.args.message.now.body) (ap (λ m. best_with c.args.self.now.best m.body) c.message.view_is) in
    collected_result c.args.self.now c.begin_store.new.self (servers c.args.up) c.args.message.now c.args.heard (best_with c.args.self.now.best (body_of c.message.inside.body)) c.args.givers c.in_ok-copy.copy c.begin_store.result
    now.0 now.1 c.requires.heard betters c.requires.givers c.requires.over
    (sym c.collects.ensures ∙ c.if-collects.true) c.in_ok-copy.ensures (sym c.skips.ensures ∙ c.if-not-skips.true) c.begin_store.ensures.new c.begin_store.ensures.ok

pub returns-then-not-skips-clause-tags : goal.returns-then-not-skips-clause-tags
returns-then-not-skips-clause-tags c =
    let now = current_parts c.args.self.now c.args.message.now c.requires.current in
    for_each c.args.self.now c.begin_store.new.self (servers c.args.up) c.args.message.now c.begin_store.result (λ m d.
    collected_result c.args.self.now c.begin_store.new.self (servers c.args.up) m c.args.heard (best_with c.args.self.now.best (body_of c.message.inside.body)) c.args.givers c.in_ok-copy.copy c.begin_store.result
    (d.op ∙ now.0) (d.round ∙ now.1) (c.requires.heard ∙ ap (λ s. with_server s (servers c.args.self.now.heard)) (sym d.server)) (says_view c.args.self.now (body_of c.message.inside.body) c.args.message.now.body m.body (ap (λ m. m.body) c.message.view_is) d.body) (c.requires.givers ∙ says_given c.args.self.now (servers c.args.self.now.givers) c.args.message.now m d) c.requires.over
    (sym c.collects.ensures ∙ c.if-collects.true) c.in_ok-copy.ensures (sym c.skips.ensures ∙ c.if-not-skips.true) c.begin_store.ensures.new c.begin_store.ensures.ok)

pub returns-then-goes_on_after-clause-hears : goal.returns-then-goes_on_after-clause-hears
returns-then-goes_on_after-clause-hears c =
    let now = current_parts c.args.self.now c.args.message.now c.requires.current in
    let betters = same_of c.args.self.now.task (best_with c.args.self.now.best (body_of c.message.inside.body)) (best_with c.args.self.now.best c.args.message.now.body) (ap (λ m. best_with c.args.self.now.best m.body) c.message.view_is) in
    let both = and_parts (is_list c.args.self.now.task) (nat_lt (c.args.self.now.course.collected + 1) c.args.self.now.course.files) (sym c.goes_on_after.ensures ∙ c.if-goes_on_after.true) in
    over_result c.args.self.now c.skip_on.new.self (servers c.args.up) c.args.message.now c.args.heard (best_with c.args.self.now.best (body_of c.message.inside.body)) c.args.givers c.in_ok-copy.copy c.skip_on.result
    now.0 now.1 c.requires.heard betters c.requires.givers c.requires.over
    (sym c.collects.ensures ∙ c.if-collects.true) c.in_ok-copy.ensures (sym c.skips.ensures ∙ c.if-not-skips.false) both.0 both.1 c.skip_on.ensures.new c.skip_on.ensures.ok

pub returns-then-goes_on_after-clause-tags : goal.returns-then-goes_on_after-clause-tags
returns-then-goes_on_after-clause-tags c =
    let now = current_parts c.args.self.now c.args.message.now c.requires.current in
    let both = and_parts (is_list c.args.self.now.task) (nat_lt (c.args.self.now.course.collected + 1) c.args.self.now.course.files) (sym c.goes_on_after.ensures ∙ c.if-goes_on_after.true) in
    for_each c.args.self.now c.skip_on.new.self (servers c.args.up) c.args.message.now c.skip_on.result (λ m d.
    over_result c.args.self.now c.skip_on.new.self (servers c.args.up) m c.args.heard (best_with c.args.self.now.best (body_of c.message.inside.body)) c.args.givers c.in_ok-copy.copy c.skip_on.result
    (d.op ∙ now.0) (d.round ∙ now.1) (c.requires.heard ∙ ap (λ s. with_server s (servers c.args.self.now.heard)) (sym d.server)) (says_view c.args.self.now (body_of c.message.inside.body) c.args.message.now.body m.body (ap (λ m. m.body) c.message.view_is) d.body) (c.requires.givers ∙ says_given c.args.self.now (servers c.args.self.now.givers) c.args.message.now m d) c.requires.over
    (sym c.collects.ensures ∙ c.if-collects.true) c.in_ok-copy.ensures (sym c.skips.ensures ∙ c.if-not-skips.false) both.0 both.1 c.skip_on.ensures.new c.skip_on.ensures.ok)

pub returns-else-goes_on_after-clause-hears : goal.returns-else-goes_on_after-clause-hears
returns-else-goes_on_after-clause-hears c =
    let now = current_parts c.args.self.now c.args.message.now c.requires.current in
    let betters = same_of c.args.self.now.task (best_with c.args.self.now.best (body_of c.message.inside.body)) (best_with c.args.self.now.best c.args.message.now.body) (ap (λ m. best_with c.args.self.now.best m.body) c.message.view_is) in
    skipped_result c.args.self.now c.skip_done.new.self (servers c.args.up) c.args.message.now c.args.heard (best_with c.args.self.now.best (body_of c.message.inside.body)) c.args.givers c.in_ok-copy.copy c.skip_done.result
    now.0 now.1 c.requires.heard betters c.requires.givers c.requires.over
    (sym c.collects.ensures ∙ c.if-collects.true) c.in_ok-copy.ensures (sym c.skips.ensures ∙ c.if-not-skips.false) c.skip_done.ensures.ok c.skip_done.ensures.done c.skip_done.ensures.floor
    (and-last (is_list c.args.self.now.task) (nat_lt (c.args.self.now.course.collected + 1) c.args.self.now.course.files) (sym c.goes_on_after.ensures ∙ c.if-goes_on_after.false))

pub returns-else-goes_on_after-clause-tags : goal.returns-else-goes_on_after-clause-tags
returns-else-goes_on_after-clause-tags c =
    let now = current_parts c.args.self.now c.args.message.now c.requires.current in
    for_each c.args.self.now c.skip_done.new.self (servers c.args.up) c.args.message.now c.skip_done.result (λ m d.
    skipped_result c.args.self.now c.skip_done.new.self (servers c.args.up) m c.args.heard (best_with c.args.self.now.best (body_of c.message.inside.body)) c.args.givers c.in_ok-copy.copy c.skip_done.result
    (d.op ∙ now.0) (d.round ∙ now.1) (c.requires.heard ∙ ap (λ s. with_server s (servers c.args.self.now.heard)) (sym d.server)) (says_view c.args.self.now (body_of c.message.inside.body) c.args.message.now.body m.body (ap (λ m. m.body) c.message.view_is) d.body) (c.requires.givers ∙ says_given c.args.self.now (servers c.args.self.now.givers) c.args.message.now m d) c.requires.over
    (sym c.collects.ensures ∙ c.if-collects.true) c.in_ok-copy.ensures (sym c.skips.ensures ∙ c.if-not-skips.false) c.skip_done.ensures.ok c.skip_done.ensures.done c.skip_done.ensures.floor
    (and-last (is_list c.args.self.now.task) (nat_lt (c.args.self.now.course.collected + 1) c.args.self.now.course.files) (sym c.goes_on_after.ensures ∙ c.if-goes_on_after.false)))

pub returns-then-goes_on-clause-hears : goal.returns-then-goes_on-clause-hears
returns-then-goes_on-clause-hears c =
    let now = current_parts c.args.self.now c.args.message.now c.requires.current in
    let betters = same_of c.args.self.now.task (best_with c.args.self.now.best (body_of c.message.inside.body)) (best_with c.args.self.now.best c.args.message.now.body) (ap (λ m. best_with c.args.self.now.best m.body) c.message.view_is) in
    let both = and_parts (is_list c.args.self.now.task) (nat_lt c.args.self.now.course.collected c.args.self.now.course.files) (sym c.goes_on.ensures ∙ c.if-goes_on.true) in
    on_hears c.args.self.now c.begin_collect.new.self (servers c.args.up) c.args.message.now c.args.heard (best_with c.args.self.now.best (body_of c.message.inside.body)) c.args.givers c.begin_collect.result
    now.0 now.1 c.requires.heard betters c.requires.givers c.requires.over
    (sym c.collects.ensures ∙ c.if-collects.false) both.0 both.1 c.begin_collect.ensures.new c.begin_collect.ensures.value

pub returns-then-goes_on-clause-tags : goal.returns-then-goes_on-clause-tags
returns-then-goes_on-clause-tags c =
    let now = current_parts c.args.self.now c.args.message.now c.requires.current in
    let both = and_parts (is_list c.args.self.now.task) (nat_lt c.args.self.now.course.collected c.args.self.now.course.files) (sym c.goes_on.ensures ∙ c.if-goes_on.true) in
    (λ m d.
    on_hears c.args.self.now c.begin_collect.new.self (servers c.args.up) m c.args.heard (best_with c.args.self.now.best (body_of c.message.inside.body)) c.args.givers c.begin_collect.result
    (d.op ∙ now.0) (d.round ∙ now.1) (c.requires.heard ∙ ap (λ s. with_server s (servers c.args.self.now.heard)) (sym d.server)) (says_view c.args.self.now (body_of c.message.inside.body) c.args.message.now.body m.body (ap (λ m. m.body) c.message.view_is) d.body) (c.requires.givers ∙ says_given c.args.self.now (servers c.args.self.now.givers) c.args.message.now m d) c.requires.over
    (sym c.collects.ensures ∙ c.if-collects.false) both.0 both.1 c.begin_collect.ensures.new c.begin_collect.ensures.value)

pub returns-else-goes_on-clause-hears : goal.returns-else-goes_on-clause-hears
returns-else-goes_on-clause-hears c =
    let now = current_parts c.args.self.now c.args.message.now c.requires.current in
    let betters = same_of c.args.self.now.task (best_with c.args.self.now.best (body_of c.message.inside.body)) (best_with c.args.self.now.best c.args.message.now.body) (ap (λ m. best_with c.args.self.now.best m.body) c.message.view_is) in
    done_result c.args.self.now c.finish.new.self (servers c.args.up) c.args.message.now c.args.heard (best_with c.args.self.now.best (body_of c.message.inside.body)) c.args.givers c.finish.result
    now.0 now.1 c.requires.heard betters c.requires.givers c.requires.over
    (sym c.collects.ensures ∙ c.if-collects.false) c.finish.ensures.ok c.finish.ensures.done c.finish.ensures.floor
    (and-last (is_list c.args.self.now.task) (nat_lt c.args.self.now.course.collected c.args.self.now.course.files) (sym c.goes_on.ensures ∙ c.if-goes_on.false))

pub returns-else-goes_on-clause-tags : goal.returns-else-goes_on-clause-tags
returns-else-goes_on-clause-tags c =
    let now = current_parts c.args.self.now c.args.message.now c.requires.current in
    for_each c.args.self.now c.finish.new.self (servers c.args.up) c.args.message.now c.finish.result (λ m d.
    done_result c.args.self.now c.finish.new.self (servers c.args.up) m c.args.heard (best_with c.args.self.now.best (body_of c.message.inside.body)) c.args.givers c.finish.result
    (d.op ∙ now.0) (d.round ∙ now.1) (c.requires.heard ∙ ap (λ s. with_server s (servers c.args.self.now.heard)) (sym d.server)) (says_view c.args.self.now (body_of c.message.inside.body) c.args.message.now.body m.body (ap (λ m. m.body) c.message.view_is) d.body) (c.requires.givers ∙ says_given c.args.self.now (servers c.args.self.now.givers) c.args.message.now m d) c.requires.over
    (sym c.collects.ensures ∙ c.if-collects.false) c.finish.ensures.ok c.finish.ensures.done c.finish.ensures.floor
    (and-last (is_list c.args.self.now.task) (nat_lt c.args.self.now.course.collected c.args.self.now.course.files) (sym c.goes_on.ensures ∙ c.if-goes_on.false)))
