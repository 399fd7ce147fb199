use mathlib.Core.Path.{refl, sym, ◌∙◌}
use Rattle.referring.specs.Rows.{good_update_in}
use borrow.Author.Rules.{rules}
use Rattle.referring.proofs.good_update.Goals as goal

pub returns-then-is_actuator : goal.returns-then-is_actuator
unfolding good_update_in
returns-then-is_actuator c = rw (sym c.is_actuator.ensures ∙ c.if-is_actuator.true, ← (rw c.wide32.ensures.0 at c.at32.ensures)) c.gives.ensures

pub returns : goal.returns
unfolding good_update_in
returns c = rw (sym c.is_actuator.ensures ∙ c.if-is_actuator.false) refl
