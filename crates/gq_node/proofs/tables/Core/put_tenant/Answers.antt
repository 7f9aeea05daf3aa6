-- The sessions, and then the files.
use Rattle.std.proofs.Common.{◌∙◌, ◌++◌, List, map, sym, ap, append_assoc}
use Rattle.std.specs.Prelude.{Result, OnOk, Ok, Err}
use Rattle.std.proofs.lemmas.List.{map-append}
use Rattle.gq_desk.specs.CheckedPlan.{row_at}
use Rattle.gq_cluster.specs.Facts.{OwnFact}
use Rattle.gq_node.specs.Needing.{session_states_facts, volumes_facts}
use Rattle.gq_node.specs.Tables.{fact_of}
use Rattle.gq_node.proofs.Needing.{all_readable}
use Rattle.gq_node.proofs.tables.Core.put_tenant.Goals as goal

on_ok : {T E : Type 0} (r : Result T E) {P Q : Type 0} → (P → Q) → OnOk r P → OnOk r Q
on_ok (Ok x) f h = f h
on_ok (Err e) f h = tt

pub returns-clause-facts : goal.returns-clause-facts
returns-clause-facts c =
    let t = c.args.tenant in
    let s : List OwnFact = session_states_facts c.args.self.now t (row_at c.args.self.now.plan t).sessions in
    let v : List OwnFact = volumes_facts c.args.self.now t in
    on_ok c.put_volumes.result
    (λ e. e ∙ ap (λ z. z ++ map (fact_of t) v) c.in_ok-put_session_states.ensures ∙ append_assoc c.args.facts.now.items (map (fact_of t) s) (map (fact_of t) v) ∙ ap (λ z. c.args.facts.now.items ++ z) (sym (map-append (fact_of t) s v)))
    c.put_volumes.ensures.facts

pub returns-clause-readable : goal.returns-clause-readable
returns-clause-readable c = on_ok c.put_volumes.result (λ by_place. all_readable c.args.self.now c.args.tenant by_place) c.put_volumes.ensures.readable
