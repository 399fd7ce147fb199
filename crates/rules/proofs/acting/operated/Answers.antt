use Rattle.std.proofs.Common.{sym, ◌∙◌}
use Rattle.judging.specs.Asking.{asked-none, asked-all}
use Rattle.rules.proofs.acting.operated.Goals as goal

pub returns-in_err-operand : goal.returns-in_err-operand
returns-in_err-operand c ix = asked-none _ c.from_residual.ensures (sym c.in_err-operand.was ∙ (rw (c.operand_wanted-wanted.ensures, c.first_port.ensures) at c.argument_rules-operand.ensures ix).0)

pub returns : goal.returns
returns c ix = rw (c.operated.ensures, (rw (c.operand_wanted-wanted.ensures, c.first_port.ensures) at c.argument_rules-operand.ensures ix).1) (asked-all (sym c.in_ok-operand.was ∙ (rw (c.operand_wanted-wanted.ensures, c.first_port.ensures) at c.argument_rules-operand.ensures ix).0))
