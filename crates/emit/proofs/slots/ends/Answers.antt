use Rattle.std.proofs.Common.{◌≡◌, refl, ◌∙◌, arith}
use borrow.Author.Tests.{le-ltb}
use Rattle.emit.specs.declared.activities.Kind.TheVariants.{Termination}
use Rattle.emit.proofs.Divided.{never-due, end_none, end-first, end-due}
use Rattle.emit.proofs.slots.ends.Goals as goal

pub returns-then-slots-length : goal.returns-then-slots-length
returns-then-slots-length c = never-due Termination _ _ _ _ c.requires c.if-slots-length.true

pub returns-then-length-eq0 : goal.returns-then-length-eq0
returns-then-length-eq0 c = end_none _ _ _ _ c.requires c.if-slots-length.false Termination refl c.if-length-eq0.true

pub returns-then-slots-gt0 : goal.returns-then-slots-gt0
returns-then-slots-gt0 c =
    end-due _ _ _ _ c.requires c.if-slots-length.false Termination refl (omega (arith, c.if-length-eq0.false)) (λ e. omega (arith, c.if-slots-gt0.true))

pub returns-else-slots-gt0 : goal.returns-else-slots-gt0
returns-else-slots-gt0 c =
    let none : c.args.slots ≡ 0 = omega (arith, c.if-slots-gt0.false) in
    le-ltb 0 c.args.slots c.if-slots-gt0.false
    ∙ end-first _ _ _ _ c.requires c.if-slots-length.false Termination refl (omega (arith, c.if-length-eq0.false)) none
