use Rattle.std.proofs.Common.{arith}
use Rattle.kept.specs.KeptLaws.{at-read}
use Rattle.kept.proofs.fetch.Goals as goal

pub copy_from_slice-requires : goal.copy_from_slice-requires
copy_from_slice-requires c = omega (arith, c.in-Some.ensures.size)

pub returns-in-Some : goal.returns-in-Some
returns-in-Some c = λ kept. rw c.copy_from_slice.ensures.after (at-read c.in-Some.ensures kept)
