use Rattle.std.proofs.Common.{rules, sym}
use Rattle.model.specs.Values.{no_guard}
use Rattle.guards.specs.Rows.{guard_at}
use Rattle.guards.specs.Tabs.{within-tab, past-tab}
use Rattle.guards.proofs.guard_at.Goals as goal

pub returns-then-guard-lt256 : goal.returns-then-guard-lt256
unfolding guard_at
returns-then-guard-lt256 c = rw (within-tab (guard_at c.args.rows.now) 256 c.args.guard no_guard c.if-guard-lt256.true) (search rules)

pub returns-else-guard-lt256 : goal.returns-else-guard-lt256
returns-else-guard-lt256 c = sym (past-tab _ 256 _ no_guard c.if-guard-lt256.false)
