use Rattle.std.proofs.Common.{sym, ◌∙◌, arith}
use Rattle.sheets.specs.Raising.{raised-step}
use Rattle.entries.proofs.Raises.{raised-out}
use Rattle.entries.proofs.rows.shift.Goals as goal

pub loop-left-preserved : goal.loop-left-preserved
loop-left-preserved c = sym (raised-step c.args.place c.args.width c.loop-left.left c.loop-left.rows c.loop-left-test.true) ∙ c.loop-left.invariant

pub returns : goal.returns
returns c = raised-out c.args.place c.args.width c.loop-left.left c.loop-left.rows _ (omega arith) c.loop-left.invariant
