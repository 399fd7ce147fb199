use Rattle.std.proofs.Common.{sym, ◌∙◌}
use Rattle.steps.specs.Parts.{copy-on}
use Rattle.steps.proofs.copy_in.Goals as goal

pub loop-i-preserved : goal.loop-i-preserved
loop-i-preserved c = rw (c.copy32.ensures, c.at32-source.ensures) (sym (copy-on _ _ _ _ _ _ c.loop-i-test.true) ∙ c.loop-i.invariant)
