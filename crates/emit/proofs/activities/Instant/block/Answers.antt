use Rattle.std.proofs.Common.{refl, arith}
use Rattle.timing.specs.InstantLaws.{next_le, next-after}
use Rattle.emit.specs.Frames.{mode_in}
use Rattle.emit.proofs.Emission.{called, follows}
use Rattle.emit.proofs.Parts.{period-is}
use Rattle.emit.proofs.activities.Instant.block.Goals as goal

pub overflow_sub-soon : goal.overflow_sub-soon
overflow_sub-soon c =
    let instant = c.args.self.now in
    let after = next-after (mode_in instant.acts.now instant.frame) instant.t (rw (period-is instant.acts.now instant.frame) c.requires.1) in
    omega (arith, after, c.front-soon.ensures.soon)

pub back-requires : goal.back-requires
back-requires c =
    let instant = c.args.self.now in
    let within = next_le (mode_in instant.acts.now instant.frame) instant.t in
    (omega (arith, c.requires.0, c.front-soon.ensures.code.few), omega (arith, instant.frame.short, c.front-soon.ensures.soon, within, period-is instant.acts.now instant.frame))

pub returns-clause-code : goal.returns-clause-code
returns-clause-code c = called refl (omega arith) (follows c.front-soon.ensures.code (rw c.front-soon.ensures.soon at c.back.ensures.code))
