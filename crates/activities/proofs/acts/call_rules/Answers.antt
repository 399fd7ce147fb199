use Rattle.std.specs.Prelude.{◌≡◌, ◌&&◌, not, eqb}
use Rattle.std.proofs.Common.{lt-ltb, le-ltb}
use Rattle.refusals.specs.Names.{is_known}
use Rattle.activities.specs.Kept.{call_checks}
use Rattle.activities.proofs.acts.call_rules.Goals.{then-task-lt7, else-task-lt7, then-task-lt7-2, else-task-lt7-2}
use Rattle.judging.specs.Asking.{asked-ends, asked-on}
use Rattle.activities.proofs.acts.call_rules.Goals as goal

twice : (c : goal.After-rule-3) → c.if-task-lt7-2.rule ≡ (is_known c.args.task && c.args.again)
twice c = elim c.if-task-lt7-2.branch [ then-task-lt7-2 w ↦ simp (w.rule-is, lt-ltb _ _ w.if-task-lt7-2.true) | else-task-lt7-2 w ↦ simp (w.rule-is, le-ltb _ _ w.if-task-lt7-2.false) ]

pub returns-in_err-name_rules : goal.returns-in_err-name_rules
unfolding call_checks
returns-in_err-name_rules c text ix = asked-ends _ _ c.from_residual.ensures c.in_err-name_rules.ensures

pub returns-in_err-rule : goal.returns-in_err-rule
unfolding call_checks
returns-in_err-rule c text ix = asked-on _ _ c.in_ok-name_rules.ensures (asked-ends _ _ c.from_residual-in_err-rule.ensures c.in_err-rule.ensures)

pub returns-in_err-rule-2 : goal.returns-in_err-rule-2
unfolding call_checks
returns-in_err-rule-2 c text ix = let miscalled : c.if-task-lt7.rule ≡ (is_known c.args.task && not (eqb c.count-inputs.result c.args.count)) = elim c.if-task-lt7.branch [ then-task-lt7 w ↦ simp (w.rule-is, lt-ltb _ _ w.if-task-lt7.true) | else-task-lt7 w ↦ simp (w.rule-is, le-ltb _ _ w.if-task-lt7.false) ] in
    asked-on _ _ c.in_ok-name_rules.ensures (asked-on _ _ c.in_ok-rule.ensures (asked-ends _ _ c.from_residual-in_err-rule-2.ensures (rw (miscalled, c.count-inputs.ensures _ ix) at c.in_err-rule-2.ensures)))

pub returns : goal.returns
unfolding call_checks
returns c text ix = let miscalled : c.if-task-lt7.rule ≡ (is_known c.args.task && not (eqb c.count-inputs.result c.args.count)) = elim c.if-task-lt7.branch [ then-task-lt7 w ↦ simp (w.rule-is, lt-ltb _ _ w.if-task-lt7.true) | else-task-lt7 w ↦ simp (w.rule-is, le-ltb _ _ w.if-task-lt7.false) ] in
    asked-on _ _ c.in_ok-name_rules.ensures (asked-on _ _ c.in_ok-rule.ensures (asked-on _ _ (rw (miscalled, c.count-inputs.ensures _ ix) at c.in_ok-rule-2.ensures) (rw (twice c) at c.rule-3.ensures)))
