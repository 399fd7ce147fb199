use Rattle.std.specs.Prelude.{◌≡◌, length}
use Rattle.std.proofs.Common.{◌∙◌, sym, arith}
use Rattle.std.proofs.Math.Path.{refl}
use Rattle.refusals.specs.Twice.{twice-end, twice-on, twice-out}
use Rattle.activities.specs.KeptLaws.{any-among}
use Rattle.activities.proofs.acts.twice_of.Goals as goal

pub loop-j-preserved : goal.loop-j-preserved
loop-j-preserved c = c.loop-j.invariant ∙ twice-on c.args.numbers.now c.loop-j.j c.loop-j-test.true (sym (any-among _ _) ∙ sym c.contains.ensures.value ∙ c.if-contains.false)

pub returns-then-contains : goal.returns-then-contains
returns-then-contains c = sym (c.loop-j.invariant ∙ twice-out c.args.numbers.now c.loop-j.j c.loop-j-test.true (sym (any-among _ _) ∙ sym c.contains.ensures.value ∙ c.if-contains.true))

pub returns : goal.returns
returns c =
    let end : c.loop-j.j ≡ length c.args.numbers.now = omega arith in
    sym (c.loop-j.invariant ∙ twice-end c.args.numbers.now c.loop-j.j (omega arith) ∙ end)
