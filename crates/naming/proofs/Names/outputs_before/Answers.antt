use mathlib.Core.Path.{◌≡◌, ap, sym, refl, ◌∙◌}
use Rattle.naming.specs.Names.{outputs_of}
use Rattle.naming.specs.Laws.{outputs-none, outputs-more}
use native.Mathlib.Omega.{arith}
use Rattle.naming.proofs.Names.outputs_before.Goals as goal

pub loop-k-init : goal.loop-k-init
loop-k-init c = (sym (outputs-none c.args.self.now.task_rows.now), omega arith)

pub loop-k-preserved : goal.loop-k-preserved
loop-k-preserved c = (outputs-more c.args.self.now.task_rows.now c.loop-k.k _ _ _ c.loop-k.invariant.0 c.at32.ensures refl, omega arith)

pub returns : goal.returns
returns c =
    let ended : c.loop-k.k ≡ c.args.task = omega arith in
    (c.loop-k.invariant.0 ∙ ap (outputs_of c.args.self.now.task_rows.now) ended, omega arith)
