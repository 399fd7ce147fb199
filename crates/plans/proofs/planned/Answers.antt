use Rattle.std.proofs.Common.{refl, sym, ◌∙◌, arith}
use Rattle.kept.specs.Kinds.{kind-task-end, kind-mode, kind-activity, kind-guard, kind-guard-arg, kind-invoke, kind-arg, kind-update, kind-switch, kind-mode-end}
use Rattle.kept.specs.KeptLaws.{beyond}
use Rattle.names.specs.Tables.{rows_in}
use Rattle.plans.proofs.Idle.{idle}
use Rattle.plans.proofs.planned.Goals as goal

pub returns-in-8-clause-done : goal.returns-in-8-clause-done
returns-in-8-clause-done c ix = rw (kind-task-end c.args.row.now (sym c.cell.ensures ∙ c.in-8.is), c.task_ended.ensures.done c.args.s.now (rows_in c.args.cells.now c.args.all) (rows_in c.args.cells.now c.args.n) (record { start = 0; end = 0 })) refl

pub returns-in-9-clause-done : goal.returns-in-9-clause-done
returns-in-9-clause-done c ix = rw (kind-mode c.args.row.now (sym c.cell.ensures ∙ c.in-9.is), c.mode_begun-arrays.ensures, c.cell-in-9.ensures, c.name.ensures, c.name-in-9.ensures, c.cell-in-9-2.ensures) refl

pub returns-in-10-clause-done : goal.returns-in-10-clause-done
returns-in-10-clause-done c ix = rw (kind-activity c.args.row.now (sym c.cell.ensures ∙ c.in-10.is), c.activity_begun-arrays.ensures, c.name-in-10.ensures) refl

pub returns-in-11-clause-done : goal.returns-in-11-clause-done
returns-in-11-clause-done c ix = rw (kind-guard c.args.row.now (sym c.cell.ensures ∙ c.in-11.is), c.guard_named-arrays.ensures, c.name-in-11.ensures) refl

pub returns-in-12-clause-done : goal.returns-in-12-clause-done
returns-in-12-clause-done c ix = rw (kind-guard-arg c.args.row.now (sym c.cell.ensures ∙ c.in-12.is), c.operand_read-arrays.ensures ix, c.port.ensures) refl

pub returns-in-13-clause-done : goal.returns-in-13-clause-done
returns-in-13-clause-done c ix = rw (kind-invoke c.args.row.now (sym c.cell.ensures ∙ c.in-13.is), c.invoked.ensures.done ix (rows_in c.args.cells.now c.args.all) 0, c.name-in-13.ensures) refl

pub returns-in-14-clause-done : goal.returns-in-14-clause-done
returns-in-14-clause-done c ix = rw (kind-arg c.args.row.now (sym c.cell.ensures ∙ c.in-14.is), c.source_read.ensures.done ix (rows_in c.args.cells.now c.args.all), c.port-in-14.ensures) refl

pub returns-in-15-clause-done : goal.returns-in-15-clause-done
returns-in-15-clause-done c ix = rw (kind-update c.args.row.now (sym c.cell.ensures ∙ c.in-15.is), c.updated.ensures.done ix (rows_in c.args.cells.now c.args.all), c.name-in-15.ensures, c.port-in-15.ensures) refl

pub returns-in-16-clause-done : goal.returns-in-16-clause-done
returns-in-16-clause-done c ix = rw (kind-switch c.args.row.now (sym c.cell.ensures ∙ c.in-16.is), c.switched.ensures.done ix (rows_in c.args.cells.now c.args.n), c.name-in-16.ensures) refl

pub returns-in-17-clause-done : goal.returns-in-17-clause-done
returns-in-17-clause-done c ix = rw (kind-mode-end c.args.row.now (sym c.cell.ensures ∙ c.in-17.is), c.mode_ended.ensures.done (rows_in c.args.cells.now c.args.all) (rows_in c.args.cells.now c.args.n)) refl

pub returns-in_default-clause-done : goal.returns-in_default-clause-done
returns-in_default-clause-done c ix = idle _ _ _ c.args.row.now _ (rw (sym c.cell.ensures) (λ low. beyond 17 (beyond 16 (beyond 15 (beyond 14 (beyond 13 (beyond 12 (beyond 11 (beyond 10 (beyond 9 (beyond 8 low c.in_default.in_default-own.rest.0.0.0.0.0.0.0.0.0.1) c.in_default.in_default-own.rest.0.0.0.0.0.0.0.0.1) c.in_default.in_default-own.rest.0.0.0.0.0.0.0.1) c.in_default.in_default-own.rest.0.0.0.0.0.0.1) c.in_default.in_default-own.rest.0.0.0.0.0.1) c.in_default.in_default-own.rest.0.0.0.0.1) c.in_default.in_default-own.rest.0.0.0.1) c.in_default.in_default-own.rest.0.0.1) c.in_default.in_default-own.rest.0.1) c.in_default.in_default-own.rest.1))
