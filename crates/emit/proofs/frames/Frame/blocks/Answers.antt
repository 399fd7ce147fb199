use Rattle.std.proofs.Common.{refl, arith}
use Rattle.timing.specs.InstantLaws.{next_le}
use Rattle.emit.specs.Frames.{mode_in}
use Rattle.emit.proofs.Emission.{called}
use Rattle.emit.proofs.Parts.{period-is}
use Rattle.emit.proofs.Instants.{whole-mode}
use Rattle.emit.proofs.frames.Frame.blocks.Goals as goal

pub back-requires : goal.back-requires
back-requires c =
    let first = rw (c.new-instant.ensures.rows, c.new-instant.ensures.frame, c.new-instant.ensures.t) at c.next-first.ensures in
    (omega arith, omega (arith, c.args.self.short, first, next_le (mode_in c.args.acts.now c.args.self) 0, period-is c.args.acts.now c.args.self))

pub returns-clause-code : goal.returns-clause-code
returns-clause-code c =
    let first = rw (c.new-instant.ensures.rows, c.new-instant.ensures.frame, c.new-instant.ensures.t) at c.next-first.ensures in
    let back = rw (c.new-instant.ensures.rows, c.new-instant.ensures.frame, c.new-instant.ensures.t) at c.back.ensures.code in
    called refl (omega arith) (whole-mode c.args.self.driver (mode_in c.args.acts.now c.args.self) c.next-first.result first back c.later.ensures.code)
