use Rattle.std.proofs.Common.{sym, ◌∙◌, rules, le-ltb, lt-ltb}
use Rattle.targets.proofs.is_mode.Goals as goal

pub returns-then-row-lt7 : goal.returns-then-row-lt7
returns-then-row-lt7 c = λ ix kept. rw (← c.find-row.ensures ix) (simp (lt-ltb _ _ c.if-row-lt7.true))

pub returns-else-row-lt7 : goal.returns-else-row-lt7
returns-else-row-lt7 c = λ ix kept. c.ahead.ensures kept ∙ sym (rw (← c.find-row.ensures ix) (simp (le-ltb _ _ c.if-row-lt7.false)))
