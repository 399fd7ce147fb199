use mathlib.Core.Path.{sym, ◌∙◌}
use native.Mathlib.Omega.{arith}
use Rattle.scan.specs.Slices as slices
use Rattle.scan.proofs.words.part.Goals as goal

pub returns : goal.returns
returns c =
    let args = c.args in
    let stop = c.min-stop.result in
    slices.slice-range c.min.result stop args.s.now (omega arith) ∙ slices.slice-least args.start stop args.s.now c.min.result c.min.ensures ∙ rw c.min-stop.ensures (sym (slices.slice-clamp args.start args.end args.s.now))
