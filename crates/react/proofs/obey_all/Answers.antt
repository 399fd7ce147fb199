use Rattle.std.proofs.Common.{rules, ◌≡◌, List, ℕ, ◌+◌, ◌-◌, ◌<◌, refl, sym, ◌∙◌}
use Rattle.std.specs.Prelude.{Ok, Err, Some, None}
use Rattle.std.proofs.Math.Nat.{sub-zero}
use Rattle.guards.specs.Tabs.{length-tab}
use Rattle.steps.specs.declared.Core.{Core}
use Rattle.steps.specs.declared.Row.{Row}
use Rattle.steps.specs.declared.programs.Program.{Program}
use Rattle.steps.specs.Rows.{instr_by, row_of}
use Rattle.steps.specs.Steps.{Ending, Next, Ended, board_of, goes, stepped, obey}
use Rattle.react.specs.Runs.{Shown, closes, runs, whole_run, over, row_on, row_ends, row-none}
use Rattle.react.proofs.obey_all.Goals as goal

-- the turn of the loop over a program
module _ (p : Program) (aside before : List ℕ) (whole : Shown) (steps : ℕ) (core : Core) (ports : List ℕ)
    (left : whole ≡ runs (board_of p) aside before (p.instructions - steps) steps core ports) (within : steps < p.instructions) where
  module _ (row : Row) (is : row ≡ row_of p.code.now core.pc) (here : core.pc < p.instructions) where
    on : (then : Core) (held : List ℕ) → stepped (Next then) held ≡ obey (board_of p) aside (instr_by row.opcode row.first row.second) (goes (core.pc + 1) core) ports
        → whole ≡ runs (board_of p) aside before (p.instructions - (steps + 1)) (steps + 1) then held
    on = row_on p.instructions p.code.now p.drivers.now p.guards.now p.modes.now p.tasks.now aside before whole steps core ports left within row is here

    end : (ending : Ending) (held : List ℕ) → stepped (Ended ending) held ≡ obey (board_of p) aside (instr_by row.opcode row.first row.second) (goes (core.pc + 1) core) ports
        → closes before ending (steps + 1) held ≡ whole
    end = row_ends p.instructions p.code.now p.drivers.now p.guards.now p.modes.now p.tasks.now aside before whole steps core ports left within row is here

pub loop-steps-init : goal.loop-steps-init
loop-steps-init c = λ before. rw sub-zero (sym (whole_run (board_of c.args.program.now) _ before _ _ _ _ (length-tab _ _)))

pub returns-then-program-core : goal.returns-then-program-core
returns-then-program-core c = λ before. let p = c.args.program.now in let l = c.loop-steps in
    row-none p.instructions p.code.now p.drivers.now p.guards.now p.modes.now p.tasks.now c.args.aside.now before _ l.steps l.core l.ports (l.invariant before) c.loop-steps-test.true c.if-program-core.true

pub returns-in_err-halted : goal.returns-in_err-halted
returns-in_err-halted c = λ before. let p = c.args.program.now in let l = c.loop-steps in
    let handed : c.from_residual.result ≡ Err c.in_err-halted.field-0.0 = search rules in
    rw handed (end p c.args.aside.now before _ l.steps l.core l.ports (l.invariant before) c.loop-steps-test.true c.row_at-row.result c.row_at-row.ensures c.if-program-core.false (Err c.in_err-halted.field-0.0) c.obey.new.ports c.in_err-halted.ensures)

pub returns-in-Some : goal.returns-in-Some
returns-in-Some c = λ before. let p = c.args.program.now in let l = c.loop-steps in
    end p c.args.aside.now before _ l.steps l.core l.ports (l.invariant before) c.loop-steps-test.true c.row_at-row.result c.row_at-row.ensures c.if-program-core.false (Ok c.in-Some.halted) c.obey.new.ports (rw c.in-Some.is at c.in_ok-halted.ensures)

pub loop-steps-preserved : goal.loop-steps-preserved
loop-steps-preserved c = λ before. let p = c.args.program.now in let l = c.loop-steps in
    on p c.args.aside.now before _ l.steps l.core l.ports (l.invariant before) c.loop-steps-test.true c.row_at-row.result c.row_at-row.ensures c.if-program-core.false _ _ (rw c.in_default.is at c.in_ok-halted.ensures)

pub returns : goal.returns
returns c = λ before. let l = c.loop-steps in
    over (board_of c.args.program.now) c.args.aside.now before _ _ l.steps l.core l.ports (l.invariant before) c.loop-steps-test.false l.ports
