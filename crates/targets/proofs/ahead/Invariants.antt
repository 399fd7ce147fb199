use Rattle.std.proofs.Common.{◌≡◌, ◌+◌, ◌-◌, length, sym, refl, ◌∙◌, arith, rules}
use Rattle.text.specs.Items.{items_from}
use Rattle.text.proofs.ItemsLaws.{turn-ahead}
use Rattle.kept.specs.Rows.{state_of, read_of}
use Rattle.kept.specs.Kept.{Kept}
use Rattle.kept.specs.Kinds.{kind-goes, kind-stops}
use Rattle.refusals.specs.Names.{letters}
use Rattle.targets.specs.Ahead.{mode_ahead}
use Rattle.targets.specs.AheadLaws.{entered, quiet_same}
use Rattle.targets.specs.AheadLaws as law
use Rattle.targets.proofs.ahead.Given as goal

abbrev pub invariant-loop-place : goal.invariant-loop-place
invariant-loop-place l = (Kept l.s l.memo → mode_ahead l.s (letters l.s l.sought) (items_from l.s (state_of l.initial.behind) l.initial.place) ≡ mode_ahead l.s (letters l.s l.sought) (items_from l.s (state_of l.behind) l.place))

abbrev pub decreases-loop-place : goal.decreases-loop-place
decreases-loop-place l = length l.s + 1 - l.place
