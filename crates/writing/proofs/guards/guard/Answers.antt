use Rattle.std.proofs.Common.{arith, ap, ◌∙◌, ◌≡◌, min}
use Rattle.writing.specs.Wrote.{wrote-both, wrote_of, wrote-begin, wrote-more}
use Rattle.writing.specs.Puts.{parts}
use Rattle.writing.specs.Cells.{byte_of, function_in, argument_in, guard_at}
use Rattle.writing.proofs.guards.guard.Goals as goal

pub loop-k-init : goal.loop-k-init
loop-k-init c = wrote-begin _ _

pub loop-k-preserved : goal.loop-k-preserved
loop-k-preserved c = wrote-more _ _ c.loop-k.invariant (wrote_of (argument_in _) c.at32-in-loop-k.ensures (wrote_of (λ x. argument_in x c.at32-in-loop-k.result) c.at32-place.ensures c.argument.ensures))

pub returns : goal.returns
unfolding guard_at
returns c = let e : c.loop-k.k ≡ min c.at32-many.result 2 = omega arith in wrote-both (wrote_of function_in c.at32.ensures c.function.ensures) (wrote-both (wrote_of byte_of c.at32-many.ensures c.byte.ensures) (wrote_of (parts _) (e ∙ ap (λ x. min x 2) c.at32-many.ensures) c.loop-k.invariant))
