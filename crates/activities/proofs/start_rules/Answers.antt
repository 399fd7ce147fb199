use Rattle.std.proofs.Common.{◌≡◌}
use Rattle.std.specs.Prelude.{◌&&◌}
use Rattle.refusals.specs.Activities.{start_rules}
use Rattle.activities.proofs.start_rules.Goals.{then-start, else-start}
use Rattle.activities.proofs.start_rules.Goals as goal

second : (c : goal.After-rule) → c.if-start.rule ≡ (c.args.start && c.args.started)
second c = elim c.if-start.branch [ then-start w ↦ simp (w.rule-is, w.if-start.true) | else-start w ↦ simp (w.rule-is, w.if-start.false) ]

pub returns : goal.returns
unfolding start_rules
returns c = rw (second c) at c.rule.ensures
