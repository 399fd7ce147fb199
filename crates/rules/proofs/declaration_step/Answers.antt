use Rattle.std.proofs.Common.{refl, arith, []}
use Rattle.refusals.specs.Checks.{first}
use Rattle.kept.specs.Rows.{read_of}
use Rattle.kept.specs.KeptLaws.{beyond}
use Rattle.kept.specs.Kinds.{kind-module, kind-section, kind-constant, kind-sensor, kind-actuator, kind-task, kind-input, kind-output, kind-task-end}
use Rattle.noting.specs.Rowed.{rowed-index}
use Rattle.noting.specs.Laying.{laid-nothing}
use Rattle.rules.specs.Going.{turns, told-plain}
use Rattle.rules.proofs.declaration_step.Goals as goal

pub returns-in-0 : goal.returns-in-0
returns-in-0 c = λ h state at rates tasks aims p g.
    let row = c.args.row.now in
    turns g (read_of row) p (kind-module row c.in-0.is) (laid-nothing _ _ _ _ _ _ _ refl) (λ m. refl) refl refl (told-plain c.called.ensures refl)

pub returns-in-1 : goal.returns-in-1
unfolding first
returns-in-1 c = λ h state at rates tasks aims p g.
    let row = c.args.row.now in
    turns g (read_of row) p (kind-section row c.in-1.is) (laid-nothing _ _ _ _ _ _ _ refl) (λ m. refl) refl refl (told-plain {verdict = first []} refl refl)

pub returns-in-2 : goal.returns-in-2
returns-in-2 c = λ h state at rates tasks aims p g.
    let row = c.args.row.now in
    turns g (read_of row) p (kind-constant row c.in-2.is) (laid-nothing _ _ _ _ _ _ _ refl) (λ m. rw g.rowed.same) refl refl (c.constant.ensures (rowed-index g.rowed))

pub returns-in-3 : goal.returns-in-3
returns-in-3 c = λ h state at rates tasks aims p g.
    let row = c.args.row.now in
    turns g (read_of row) p (kind-sensor row c.in-3.is) (laid-nothing _ _ _ _ _ _ _ refl) (λ m. rw g.rowed.same) refl refl (c.sensor.ensures (rowed-index g.rowed))

pub returns-in-4 : goal.returns-in-4
returns-in-4 c = λ h state at rates tasks aims p g.
    let row = c.args.row.now in
    turns g (read_of row) p (kind-actuator row c.in-4.is) (laid-nothing _ _ _ _ _ _ _ refl) (λ m. rw g.rowed.same) refl refl (c.actuator.ensures (rowed-index g.rowed))

pub returns-in-5 : goal.returns-in-5
returns-in-5 c = λ h state at rates tasks aims p g.
    let row = c.args.row.now in
    turns g (read_of row) p (kind-task row c.in-5.is) (laid-nothing _ _ _ _ _ _ _ refl) (λ m. rw g.rowed.same) refl refl (c.task.ensures (rowed-index g.rowed))

pub returns-in-6 : goal.returns-in-6
returns-in-6 c = λ h state at rates tasks aims p g.
    let row = c.args.row.now in
    turns g (read_of row) p (kind-input row c.in-6.is) (laid-nothing _ _ _ _ _ _ _ refl) (λ m. rw g.rowed.same) refl refl (c.input.ensures (rowed-index g.rowed))

pub returns-in-7 : goal.returns-in-7
returns-in-7 c = λ h state at rates tasks aims p g.
    let row = c.args.row.now in
    turns g (read_of row) p (kind-output row c.in-7.is) (laid-nothing _ _ _ _ _ _ _ refl) (λ m. rw g.rowed.same) refl refl (c.output.ensures (rowed-index g.rowed))

pub returns-in_default : goal.returns-in_default
returns-in_default c = λ h state at rates tasks aims p g.
    let row = c.args.row.now in
    let last = beyond 7 (beyond 6 (beyond 5 (beyond 4 (beyond 3 (beyond 2 (beyond 1 (beyond 0 (omega arith) c.in_default.in_default-own.rest.0.0.0.0.0.0.0.1) c.in_default.in_default-own.rest.0.0.0.0.0.0.1) c.in_default.in_default-own.rest.0.0.0.0.0.1) c.in_default.in_default-own.rest.0.0.0.0.1) c.in_default.in_default-own.rest.0.0.0.1) c.in_default.in_default-own.rest.0.0.1) c.in_default.in_default-own.rest.0.1) c.in_default.in_default-own.rest.1 in
    turns g (read_of row) p (kind-task-end row (omega (arith, h, last))) (laid-nothing _ _ _ _ _ _ _ refl) (λ m. refl) refl refl (told-plain c.called-in_default.ensures refl)
