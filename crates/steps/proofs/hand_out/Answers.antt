use Rattle.std.proofs.Common.{sym, ◌∙◌}
use Rattle.steps.specs.Parts.{part-on}
use Rattle.steps.proofs.hand_out.Goals as goal

pub loop-i-preserved : goal.loop-i-preserved
loop-i-preserved c = rw (c.put32.ensures, c.at32.ensures) (sym (part-on _ _ _ _ _ _ c.loop-i-test.true) ∙ c.loop-i.invariant)
