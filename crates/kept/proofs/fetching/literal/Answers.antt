use mathlib.Core.Path.{sym}
use Rattle.kept.specs.Rows.{literal_of}
use Rattle.kept.specs.KeptLaws.{literal-last}
use native.Mathlib.Omega.{arith}
use Rattle.kept.proofs.fetching.literal.Goals as goal

pub returns-in-0 : goal.returns-in-0
unfolding literal_of
returns-in-0 c = rw c.in-0.is

pub returns-in-1 : goal.returns-in-1
unfolding literal_of
returns-in-1 c = rw (c.in-1.is, c.name-digits.ensures)

pub returns-in_default : goal.returns-in_default
returns-in_default c = rw c.name-digits.ensures (sym (literal-last _ _ _ _ _ (omega (arith, c.in_default.in_default-own.rest.1, c.in_default.in_default-own.rest.0.1))))
