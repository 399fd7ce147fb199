use Rattle.std.specs.Prelude.{◌≡◌, ◌&&◌}
use Rattle.std.proofs.Common.{lt-ltb, le-ltb}
use Rattle.refusals.specs.Names.{is_known, is_unknown}
use Rattle.refusals.specs.Ports.{dotted_rules}
use Rattle.judging.proofs.ports.dotted_rules.Goals.{then-task-lt7, else-task-lt7}
use Rattle.judging.specs.Asking.{asked-ends, asked-on}
use Rattle.judging.proofs.ports.dotted_rules.Goals as goal

unmet : (c : goal.After-rule-3) → c.if-task-lt7.rule ≡ (is_known c.args.task && is_unknown c.args.output)
unmet c = elim c.if-task-lt7.branch [ then-task-lt7 w ↦ simp (w.rule-is, lt-ltb _ _ w.if-task-lt7.true) | else-task-lt7 w ↦ simp (w.rule-is, le-ltb _ _ w.if-task-lt7.false) ]

pub returns-in_err-name_rules : goal.returns-in_err-name_rules
unfolding dotted_rules
returns-in_err-name_rules c = asked-ends _ _ c.from_residual.ensures c.in_err-name_rules.ensures

pub returns-in_err-rule : goal.returns-in_err-rule
unfolding dotted_rules
returns-in_err-rule c = asked-on _ _ c.in_ok-name_rules.ensures (asked-ends _ _ c.from_residual-in_err-rule.ensures c.in_err-rule.ensures)

pub returns-in_err-rule-2 : goal.returns-in_err-rule-2
unfolding dotted_rules
returns-in_err-rule-2 c = asked-on _ _ c.in_ok-name_rules.ensures (asked-on _ _ c.in_ok-rule.ensures (asked-ends _ _ c.from_residual-in_err-rule-2.ensures (rw c.clash.ensures at c.in_err-rule-2.ensures)))

pub returns-in_err-name_rules-2 : goal.returns-in_err-name_rules-2
unfolding dotted_rules
returns-in_err-name_rules-2 c = asked-on _ _ c.in_ok-name_rules.ensures (asked-on _ _ c.in_ok-rule.ensures (asked-on _ _ (rw c.clash.ensures at c.in_ok-rule-2.ensures) (asked-ends _ _ c.from_residual-in_err-name_rules-2.ensures c.in_err-name_rules-2.ensures)))

pub returns : goal.returns
unfolding dotted_rules
returns c = asked-on _ _ c.in_ok-name_rules.ensures (asked-on _ _ c.in_ok-rule.ensures (asked-on _ _ (rw c.clash.ensures at c.in_ok-rule-2.ensures) (asked-on _ _ c.in_ok-name_rules-2.ensures (rw (unmet c) at c.rule-3.ensures))))
