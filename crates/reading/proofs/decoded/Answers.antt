use native.Mathlib.Omega.{arith}
use mathlib.Core.Path.{◌≡◌, sym, ap, ◌∙◌}
use Rattle.codec.specs.Numbers.{be}
use Rattle.codec.proofs.Numbers.{be-lawful}
use Rattle.reading.specs.Framing as framing
use Rattle.reading.specs.Readings.{result_of}
use Rattle.reading.proofs.decoded.Goals as goal

pub returns-in_default : goal.returns-in_default
returns-in_default c = ap result_of (sym (framing.decode-short c.args.bytes.now c.in_default.ensures))

pub returns-then-size-file : goal.returns-then-size-file
returns-then-size-file c = ap result_of (sym (framing.decode-wrong c.args.bytes.now c.in-Ok.ensures c.if-size-file.true))

pub versioned-requires : goal.versioned-requires
versioned-requires c = framing.bytes-left (be 4) (be-lawful 4) (record { below = λ i. omega (arith, c.type_inv.bytes i) }) c.in-Ok.ensures

pub returns : goal.returns
returns c = c.versioned.ensures ∙ ap result_of (sym (framing.decode-on c.args.bytes.now c.in-Ok.ensures c.if-size-file.false))
