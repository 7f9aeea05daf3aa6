-- What a start needs of a file, and a copy that is refused.
use Rattle.std.proofs.Common.{◌≡◌, ◌∙◌, ◌++◌, ℕ, [], Some, map, sym, ap, subst, append-nil}
use Rattle.std.specs.Prelude.{Result, Ok, Err, IfErr, OnOk}
use Rattle.gq_tag.specs.Tag.{File, file_of}
use Rattle.gq_desk.specs.Volumes.{limit_of}
use Rattle.gq_node.specs.Needing.{file_facts, file_at, place_facts}
use Rattle.gq_node.specs.Tables.{Tables, fact_of, lacks_at, is_new_node}
use Rattle.gq_node.proofs.Needing.{refused_in, nothing_needed, nothing_readable}
use Rattle.gq_node.proofs.tables.Core.put_place.Goals as goal

on_err : {T E : Type 0} (r : Result T E) {P Q : E → Type 0} → ((e : E) → P e → Q e) → IfErr r P → IfErr r Q
on_err (Ok x) f h = tt
on_err (Err e) f h = f e h

pub returns-clause-refused : goal.returns-clause-refused
returns-clause-refused c =
    let w = c.args.self.now in
    let there : limit_of w.desk (file_of c.args.tenant (file_at c.args.volume c.args.place)) ≡ Some c.in-Some.limit = ap (λ (x : Tables). limit_of x.desk (file_of c.args.tenant (file_at c.args.volume c.args.place))) (sym c.self.view_is) ∙ sym c.in-Some.ensures in
    on_err c.put_file.result (λ e. refused_in w c.args.tenant c.args.volume c.args.place c.in-Some.limit c.in_ok-copy.copy e c.requires.tenant there c.in_ok-copy.ensures) c.put_file.ensures.refused

pub returns-clause-facts : goal.returns-clause-facts
returns-clause-facts c =
    let w : Tables = c.args.self.now in
    let t : ℕ = c.args.tenant in
    let f : File = file_at c.args.volume c.args.place in
    let same : file_facts c.is_new.result c.lacks.result f c.in_ok-copy.copy ≡ place_facts w t c.args.volume c.args.place =
    ap (λ b. file_facts b c.lacks.result f c.in_ok-copy.copy) (c.is_new.ensures 0)
    ∙ ap (λ b. file_facts (is_new_node w) b f c.in_ok-copy.copy) c.lacks.ensures
    ∙ ap (file_facts (is_new_node w) (lacks_at w t f) f) c.in_ok-copy.ensures in
    subst (λ facts. OnOk c.put_file.result (c.put_file.new.facts.items ≡ c.args.facts.now.items ++ map (fact_of t) facts)) same c.put_file.ensures.facts

pub returns-then-needs_nothing-clause-facts : goal.returns-then-needs_nothing-clause-facts
returns-then-needs_nothing-clause-facts c =
    let w : Tables = c.args.self.now in
    let t : ℕ = c.args.tenant in
    let none : place_facts w t c.args.volume c.args.place ≡ [] = nothing_needed w t c.args.volume c.args.place (c.needs_nothing.ensures.old c.if-needs_nothing.true) (c.needs_nothing.ensures.first c.if-needs_nothing.true) in
    sym (ap (λ facts. c.args.facts.now.items ++ map (fact_of t) facts) none ∙ append-nil c.args.facts.now.items)

pub returns-then-needs_nothing-clause-readable : goal.returns-then-needs_nothing-clause-readable
returns-then-needs_nothing-clause-readable c = λ limit there. nothing_readable c.args.self.now c.args.tenant c.args.volume c.args.place limit (c.needs_nothing.ensures.first c.if-needs_nothing.true)
