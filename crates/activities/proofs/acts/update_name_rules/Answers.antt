use Rattle.std.specs.Prelude.{◌≡◌, ◌&&◌, not, eqb}
use Rattle.std.proofs.Common.{lt-ltb, le-ltb}
use Rattle.refusals.specs.Names.{is_known}
use Rattle.activities.specs.Kept.{update_checks}
use Rattle.activities.proofs.acts.update_name_rules.Goals.{then-actuator-lt7, else-actuator-lt7}
use Rattle.judging.specs.Asking.{asked-ends, asked-on}
use Rattle.activities.proofs.acts.update_name_rules.Goals as goal

twice : (c : goal.After-rule-2) → c.if-actuator-lt7.rule ≡ (is_known c.args.actuator && c.args.again)
twice c = elim c.if-actuator-lt7.branch [ then-actuator-lt7 w ↦ simp (w.rule-is, lt-ltb _ _ w.if-actuator-lt7.true) | else-actuator-lt7 w ↦ simp (w.rule-is, le-ltb _ _ w.if-actuator-lt7.false) ]

pub returns-in_err-name_rules : goal.returns-in_err-name_rules
unfolding update_checks
returns-in_err-name_rules c = asked-ends _ _ c.from_residual.ensures c.in_err-name_rules.ensures

pub returns-in_err-rule : goal.returns-in_err-rule
unfolding update_checks
returns-in_err-rule c = asked-on _ _ c.in_ok-name_rules.ensures (asked-ends _ _ c.from_residual-in_err-rule.ensures c.in_err-rule.ensures)

pub returns : goal.returns
unfolding update_checks
returns c = asked-on _ _ c.in_ok-name_rules.ensures (asked-on _ _ c.in_ok-rule.ensures (rw (twice c) at c.rule-2.ensures))
