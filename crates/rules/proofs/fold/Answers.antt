use Rattle.std.proofs.Common.{refl, arith}
use Rattle.rules.specs.Going.{begins}
use Rattle.kept.specs.Rows.{state_of}
use Rattle.kept.specs.Kinds.{kind-goes, kind-stops}
use Rattle.rules.proofs.fold.Goals as goal

pub loop-at-init : goal.loop-at-init
unfolding state_of
loop-at-init c = (refl, refl, refl, refl, λ kept. rw c.nothing.ensures (begins _ c.requires))

pub returns-then-row-gt18 : goal.returns-then-row-gt18
returns-then-row-gt18 c = λ kept. rw (kind-stops c.fetch.new.row c.if-row-gt18.true) at (c.in_ok-turn.ensures kept (c.fetch.ensures kept) (c.loop-at.invariant.4 kept))

pub loop-at-preserved : goal.loop-at-preserved
loop-at-preserved c = (
  omega (arith, c.loop-at.invariant.0),
  omega (arith, c.loop-at.invariant.1),
  omega (arith, c.loop-at.invariant.2),
  omega (arith, c.loop-at.invariant.3),
  λ kept. (rw (kind-goes c.fetch.new.row (omega (arith, c.if-row-gt18.false))) at (c.in_ok-turn.ensures kept (c.fetch.ensures kept) (c.loop-at.invariant.4 kept))).1,
)
