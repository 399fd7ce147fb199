use Rattle.std.proofs.Common.{arith}
use Rattle.lines.specs.SayingsLaws.{glyph-digit, glyph-letter}
use Rattle.lines.proofs.saying.glyph.Goals as goal

pub returns-in-0-to-9 : goal.returns-in-0-to-9
returns-in-0-to-9 c = glyph-digit _ (omega arith)

pub returns-in_default : goal.returns-in_default
returns-in_default c = glyph-letter _ (omega arith)
