use mathlib.Core.Path.{sym, ap, ◌∙◌}
use Rattle.codec.specs.Numbers.{byte}
use Rattle.codec.proofs.Numbers.{byte-lawful}
use Rattle.reading.specs.Framing as framing
use Rattle.reading.specs.Readings.{result_of}
use Rattle.reading.proofs.versioned.Goals as goal

pub returns-in_default : goal.returns-in_default
returns-in_default c = ap result_of (sym (framing.versioned-none _ c.in_default.ensures))

pub returns-then-version-ne1 : goal.returns-then-version-ne1
returns-then-version-ne1 c = ap result_of (sym (framing.versioned-other _ c.in-Ok.ensures c.if-version-ne1.true))

pub judged-requires : goal.judged-requires
judged-requires c = framing.bytes-left byte byte-lawful c.requires c.in-Ok.ensures

pub returns : goal.returns
returns c = c.judged.ensures ∙ ap result_of (sym (framing.versioned-on _ c.in-Ok.ensures c.if-version-ne1.false))
