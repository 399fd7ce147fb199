use Rattle.std.proofs.Common.{◌≡◌, arith, subst}
use Rattle.lines.specs.Inputs.{Going}
use Rattle.lines.specs.InputsLaws.{going-first, going-more, going-gives, look-gives, within, advances}
use Rattle.lines.proofs.input.Lines.advance.Goals as goal

pub loop-init : goal.loop-init
loop-init g c = going-first _ _

pub loop-preserved : goal.loop-preserved
loop-preserved g c = going-more c.loop.invariant c.in-More.ensures.looks c.in-More.ensures.room c.in-More.ensures.same_reference

pub returns-in_default : goal.returns-in_default
returns-in_default g c =
    let look = c.step.ensures in
    let last = c.in_default.not-More in
    let was = g.R.Read.remaining c.args.input.now in
    let now = g.R.Read.remaining c.step.new.input in
    let new = c.step.new.self in
    let inside = within (g.R.Read.remaining c.loop.input) now c.loop.self new c.step.result last look.looks in
    advances was now c.args.self.now new c.step.result last inside (λ found shown. going-gives found c.loop.invariant (look-gives c.step.result last look.looks look.room look.same_reference found shown))

pub returns : goal.returns
returns g c =
    let all : c.loop.counter ≡ 18446744073709551615 = omega (arith, c.loop-test.false, c.loop.auto.counter-end) in
    subst (Going (g.R.Read.remaining c.args.input.now) (g.R.Read.remaining c.loop.input) c.args.self.now c.loop.self) all c.loop.invariant
