use mathlib.Core.Path.{refl}
use Rattle.kept.specs.KeptLaws.{at-read, at-seen}
use Rattle.kept.proofs.look.Goals as goal

pub seen_in-requires : goal.seen_in-requires
seen_in-requires c = c.in-Some.ensures.size

pub returns-in-Some-clause-seen : goal.returns-in-Some-clause-seen
returns-in-Some-clause-seen c = λ kept. rw c.seen_in.ensures (at-seen c.in-Some.ensures kept)

pub returns-in-Some-clause-row : goal.returns-in-Some-clause-row
returns-in-Some-clause-row c = λ kept.
    rw c.seen_in.ensures (record {
      row = c.in-Some.kept.now;
      told = at-read c.in-Some.ensures kept;
      kind = refl;
      from = refl;
      to = refl;
      behind = refl;
      next = refl;
    })
