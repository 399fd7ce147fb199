use Rattle.std.proofs.Common.{◌≡◌}
use Rattle.model.specs.Clock.{fits as fits_of}
use Rattle.machine.specs.Store.{part}
use Rattle.calls.specs.Fitting.{rest}
use Rattle.calls.proofs.fits.Given as goal

abbrev pub invariant-loop-i : goal.invariant-loop-i
invariant-loop-i l = rest l.wanted l.at l.n l.types l.words l.i ≡ fits_of (part l.wanted l.at l.n) l.types l.words
