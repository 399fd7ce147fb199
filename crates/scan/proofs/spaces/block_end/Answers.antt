use Prim.Native.Nat.{◌+◌, ◌-◌}
use mathlib.Core.Path.{◌≡◌, ◌∙◌}
use native.Mathlib.Omega.{arith}
use Rattle.text.proofs.SpacesLaws as law
use Rattle.scan.specs.Blocks.{block-pass, block-over}
use Rattle.scan.proofs.spaces.block_end.Goals as goal
use Rattle.scan.proofs.spaces.block_end.Goals.{else-s-i-eq42-via-then-s-i-eq42+else-s-i-eq47, else-s-i-eq42-via-else-s-i-eq42}

pub returns-then-s-i-eq47 : goal.returns-then-s-i-eq47
returns-then-s-i-eq47 c =
    let i = c.loop-i.i in
    let z : i - 1 + 1 ≡ i = omega arith in
    (omega arith, λ start. c.loop-i.invariant start ∙ law.block_out c.args.s.now (i - 1) (omega arith) c.if-s-i-eq42.true (rw z c.loop-i-test.true) (rw z c.if-s-i-eq47.true) start ∙ rw z)

pub loop-i-preserved : goal.loop-i-preserved
loop-i-preserved c =
    let i = c.loop-i.i in
    let z : i - 1 + 1 ≡ i = omega arith in
    let y : i + 1 - 1 ≡ i = omega arith in
    λ from. c.loop-i.invariant from ∙ block-pass c.args.s.now (i - 1) (rw z c.loop-i-test.true) (λ star slash. elim c.else-s-i-eq42.branch [ else-s-i-eq42-via-then-s-i-eq42+else-s-i-eq47 w ↦ w.if-s-i-eq47.false (rw z at slash) | else-s-i-eq42-via-else-s-i-eq42 w ↦ w.if-s-i-eq42.false star ]) from ∙ rw (z, y)

pub returns : goal.returns
returns c = λ start. c.loop-i.invariant start ∙ block-over c.args.s.now (c.loop-i.i - 1) (omega arith) start
