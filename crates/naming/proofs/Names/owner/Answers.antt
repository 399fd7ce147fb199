use mathlib.Core.Path.{◌≡◌, sym, ◌∙◌}
use Rattle.naming.specs.Laws.{owner-begins, owner_here, owner-on, owner-none}
use native.Mathlib.Omega.{arith}
use Rattle.naming.proofs.Names.owner.Goals as goal

pub loop-task-init : goal.loop-task-init
loop-task-init c = owner-begins c.args.self.now.task_rows.now c.args.number c.args.self.now.tasks

pub returns-then-has : goal.returns-then-has
returns-then-has c = sym (c.loop-task.invariant ∙ owner_here c.args.self.now.task_rows.now c.args.number c.loop-task.task c.args.self.now.tasks c.loop-task-test.true (sym c.has.ensures ∙ c.if-has.true))

pub loop-task-preserved : goal.loop-task-preserved
loop-task-preserved c = c.loop-task.invariant ∙ owner-on c.args.self.now.task_rows.now c.args.number c.loop-task.task c.args.self.now.tasks c.loop-task-test.true (sym c.has.ensures ∙ c.if-has.false)

pub returns : goal.returns
returns c =
    let ended : c.args.self.now.tasks ≡ c.loop-task.task = omega arith in
    ended ∙ sym (c.loop-task.invariant ∙ owner-none c.args.self.now.task_rows.now c.args.number c.loop-task.task c.args.self.now.tasks ended)
