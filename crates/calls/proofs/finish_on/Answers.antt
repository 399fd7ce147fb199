use Rattle.std.proofs.Common.{[], arith, refl, sym, ◌∙◌}
use Rattle.machine.specs.Calls.{finish}
use Rattle.steps.specs.RowLaws.{lot-outputs, lot-results}
use Rattle.calls.specs.States.{store_of, work-within}
use Rattle.calls.proofs.finish_on.Goals as goal

pub returns-then-at : goal.returns-then-at
unfolding finish
returns-then-at c = λ ports. rw c.if-at.true refl

pub returns-then-not-is_at_work : goal.returns-then-not-is_at_work
unfolding finish
returns-then-not-is_at_work c = λ ports. rw (c.if-at.false, sym (c.is_at_work.ensures ports) ∙ c.if-not-is_at_work.true) refl

pub returns-then-not-fits : goal.returns-then-not-fits
unfolding finish
returns-then-not-fits c = λ ports.
    rw (c.if-at.false, sym (c.is_at_work.ensures ports) ∙ c.if-not-is_at_work.false, lot-outputs, lot-results, ← c.task_cell-from.ensures, ← c.task_cell-count.ensures, sym c.fits.ensures ∙ c.if-not-fits.true) refl

pub overflow_mul-task : goal.overflow_mul-task
overflow_mul-task c = record { fits = omega (arith, work-within (store_of c.args.at.now []) c.args.task (sym (c.is_at_work.ensures []) ∙ c.if-not-is_at_work.false)) }

pub returns : goal.returns
unfolding finish
returns c = λ ports.
    rw (c.if-at.false, sym (c.is_at_work.ensures ports) ∙ c.if-not-is_at_work.false, lot-outputs, lot-results, ← c.task_cell-from.ensures, ← c.task_cell-count.ensures, sym c.fits.ensures ∙ c.if-not-fits.false, c.place.ensures, c.join-at.ensures) refl
