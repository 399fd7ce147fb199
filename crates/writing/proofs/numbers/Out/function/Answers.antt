use Rattle.std.proofs.Common.{arith, refl}
use Rattle.writing.specs.Cells.{function_in, function-other}
use Rattle.writing.specs.Wrote.{wrote_as}
use Rattle.writing.proofs.numbers.Out.function.Goals as goal

pub returns-in-0 : goal.returns-in-0
unfolding function_in
returns-in-0 c = wrote_as (rw c.in-0.is refl) c.put_letters.ensures

pub returns-in-1 : goal.returns-in-1
unfolding function_in
returns-in-1 c = wrote_as (rw c.in-1.is refl) c.put_letters-in-1.ensures

pub returns-in-2 : goal.returns-in-2
unfolding function_in
returns-in-2 c = wrote_as (rw c.in-2.is refl) c.put_letters-in-2.ensures

pub returns-in_default : goal.returns-in_default
unfolding function_in
returns-in_default c = wrote_as (function-other c.args.number (omega arith)) c.put_letters-in_default.ensures
