use Rattle.std.proofs.Common.{◌≡◌, List, ℕ, ◌-◌}
use Rattle.machine.specs.Store.{reaction}
use Rattle.steps.specs.Steps.{board_of, store_of}
use Rattle.react.specs.Runs.{shown, runs}
use Rattle.react.proofs.obey_all.Given as goal

abbrev pub invariant-loop-steps : goal.invariant-loop-steps
invariant-loop-steps l = (before : List ℕ) → shown before (reaction (board_of l.program) l.aside l.mode l.pc (store_of l.fn.tasks l.initial.ports))
    ≡ runs (board_of l.program) l.aside before (l.program.instructions - l.steps) l.steps l.core l.ports
