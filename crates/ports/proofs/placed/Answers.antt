use Rattle.std.proofs.Common.{refl, arith}
use Rattle.text.specs.declared.Name.{Name}
use Rattle.kept.specs.Rows.{name_at}
use Rattle.kept.specs.Kinds.{kind-module, kind-sensor, kind-actuator, kind-task, kind-input, kind-output, kind-task-end}
use Rattle.names.specs.Tables.{rows_in}
use Rattle.ports.specs.Boards.{placed_by}
use Rattle.ports.proofs.Others.{others}
use Rattle.ports.proofs.placed.Goals as goal

pub returns-in-0-clause-done : goal.returns-in-0-clause-done
unfolding placed_by
returns-in-0-clause-done c ix = rw (kind-module c.args.row.now c.in-0.is, c.name_row.ensures, c.first_name-first.ensures) refl

pub returns-in-3-clause-done : goal.returns-in-3-clause-done
returns-in-3-clause-done c ix =
    rw (kind-sensor c.args.row.now c.in-3.is, c.sensor.ensures.done (rows_in c.args.cells.now c.args.n), c.first_name-first.ensures, c.second_name.ensures, c.third_name.ensures) refl

pub returns-in-4-clause-done : goal.returns-in-4-clause-done
returns-in-4-clause-done c ix = rw (kind-actuator c.args.row.now c.in-4.is) (c.actuator.ensures.done ix)

pub returns-in-5-clause-done : goal.returns-in-5-clause-done
returns-in-5-clause-done c ix = rw (kind-task c.args.row.now c.in-5.is, c.task_begun.ensures.done (rows_in c.args.cells.now c.args.n), c.first_name-first.ensures) refl

pub returns-in-6-clause-done : goal.returns-in-6-clause-done
returns-in-6-clause-done c ix =
    rw (kind-input c.args.row.now c.in-6.is, c.input.ensures.done (rows_in c.args.cells.now c.args.n) (name_at c.args.row.now 7), c.first_name-first.ensures) refl

pub returns-in-7-clause-done : goal.returns-in-7-clause-done
returns-in-7-clause-done c ix = rw (kind-output c.args.row.now c.in-7.is) (c.output.ensures.done ix)

pub returns-in-8-clause-done : goal.returns-in-8-clause-done
returns-in-8-clause-done c ix = rw (kind-task-end c.args.row.now c.in-8.is, c.task_ended.ensures.done (rows_in c.args.cells.now c.args.n), c.first_name-first.ensures) refl

pub returns-in_default-clause-done : goal.returns-in_default-clause-done
returns-in_default-clause-done c ix = (others c.args.row.now (λ z. omega arith) (λ l. omega arith)).same _ _ _
