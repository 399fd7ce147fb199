use Rattle.std.proofs.Common.{refl, sym, ◌∙◌}
use Rattle.guards.specs.Tabs.{within-tab, past-tab}
use Rattle.steps.specs.Rows.{begin_at}
use Rattle.steps.proofs.programs.Program.begin_of.Goals as goal

pub returns-then-mode-lt8 : goal.returns-then-mode-lt8
returns-then-mode-lt8 c = c.at32.ensures ∙ sym (within-tab (begin_at c.args.self.now.modes.now) 8 c.args.mode 0 c.if-mode-lt8.true)

pub returns-else-mode-lt8 : goal.returns-else-mode-lt8
returns-else-mode-lt8 c = sym (past-tab _ 8 _ 0 c.if-mode-lt8.false)
