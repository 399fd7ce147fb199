use mathlib.Core.Path.{◌≡◌}
use lib.ListN.{length, length-set}
use Rattle.kept.specs.KeptLaws.{laid_by}
use native.Mathlib.Omega.{arith}
use Rattle.kept.proofs.storing.read.Goals as goal

pub bounds-row-2 : goal.bounds-row-2
bounds-row-2 c = simp length-set (omega arith)

pub bounds-row-3 : goal.bounds-row-3
bounds-row-3 c = simp length-set (omega arith)

pub bounds-row-4 : goal.bounds-row-4
bounds-row-4 c = simp length-set (omega arith)

pub bounds-row-0 : goal.bounds-row-0
bounds-row-0 c = simp length-set (omega arith)

pub returns : goal.returns
returns c =
    let row = c.lay.new.row in
    let long : length row ≡ 16 = omega (arith, c.row-1.given, c.requires) in
    laid_by c.args.before row c.item-read.result c.number_of-number.result long c.state_of.ensures c.item-read.ensures c.lay.ensures (c.number_of-number.ensures.number, c.number_of-number.ensures.state)
