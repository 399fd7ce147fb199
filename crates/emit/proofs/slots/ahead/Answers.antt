use Rattle.std.proofs.Common.{arith}
use Rattle.emit.proofs.Divided.{next-none, next_past, next-ahead}
use Rattle.emit.proofs.slots.ahead.Goals as goal
use Rattle.emit.proofs.slots.ahead.Goals.{then-length-eq0-via-then-length-eq0, then-length-eq0-via-else-length-eq0+then-frequency-slots}

pub returns-then-length-eq0 : goal.returns-then-length-eq0
returns-then-length-eq0 c = elim c.then-length-eq0.branch [
  | then-length-eq0-via-then-length-eq0 w ↦ next-none c.args.length c.args.t c.args.frequency c.args.slots _ c.requires.0 w.if-length-eq0.true
  | then-length-eq0-via-else-length-eq0+then-frequency-slots w ↦ next_past c.args.length c.args.t c.args.frequency c.args.slots _ c.requires.0 w.if-frequency-slots.true
]

pub returns : goal.returns
returns c =
    let args = c.args in
    omega (arith, next-ahead args.length args.t args.frequency args.slots 4294967296 c.requires.0 (omega (arith, c.if-length-eq0.false)) c.if-frequency-slots.false)
