use Rattle.std.proofs.Common.{refl, sym, ◌∙◌}
use Rattle.machine.specs.Words.{lowest_in}
use Rattle.machine.specs.Calls.{next_task}
use Rattle.bits.specs.Found.{task-is, nobody-is}
use Rattle.calls.proofs.next_on.Goals as goal

pub returns-then-at : goal.returns-then-at
unfolding next_task
returns-then-at c = λ ports aside. rw c.if-at.true refl

pub returns-in_default : goal.returns-in_default
unfolding next_task
returns-in_default c = λ ports aside. rw (c.if-at.false, nobody-is (lowest_in c.args.at.now.waiting) (sym c.lowest.ensures ∙ c.in_default.is)) refl

pub returns : goal.returns
unfolding next_task
returns c = λ ports aside. rw (c.if-at.false, task-is (lowest_in c.args.at.now.waiting) _ (sym c.lowest.ensures ∙ c.in-Some.is), c.part-at.ensures) refl
