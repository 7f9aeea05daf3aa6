use Rattle.std.proofs.Common.{rules, ℕ, inr, subst}
use Rattle.gq_session.specs.Agendas.{Changes}
use Rattle.gq_session.proofs.cells.change_cell.Goals as goal
use Rattle.gq_session.proofs.cells.change_cell.Goals.{in-Some-2+in_ok-set_up, in_default-2}

pub returns-in_err-set_up-clause-list : goal.returns-in_err-set_up-clause-list
returns-in_err-set_up-clause-list g c = (c.in_ok-stamp.ensures.changed c.in-Some-2.stamp c.in-Some-2.is).list

pub returns-clause-list : goal.returns-clause-list
returns-clause-list g c =
    elim c.match-branch-3.branch [
      | in-Some-2+in_ok-set_up w ↦ (c.in_ok-stamp.ensures.changed w.in-Some-2.stamp w.in-Some-2.is).list
      | in_default-2 w ↦ search rules
    ]

pub returns-clause-done : goal.returns-clause-done
returns-clause-done g c =
    elim c.match-branch-3.branch [
      | in-Some-2+in_ok-set_up w ↦
          rw w.cell-is (inr (inr (record {
            change = c.in-Some.next;
            next = c.in-Some.ensures.line;
            server = search rules;
            differs = search rules;
            stamp = w.in-Some-2.stamp;
            schedule = subst (λ (seen : ℕ). Changes c.args.schedule.now c.change.new.self c.in-Some.next seen w.in-Some-2.stamp) c.last.ensures (c.in_ok-stamp.ensures.changed w.in-Some-2.stamp w.in-Some-2.is);
            cell = w.in_ok-set_up.ensures.set;
          })))
      | in_default-2 w ↦ search rules
    ]
