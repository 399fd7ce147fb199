use Rattle.text.specs.Items.{item_at}
use Rattle.productions.specs.ReadLaws.{module-told}
use Rattle.productions.specs.ActLaws.{guard-arg-told, arg-told}
use Rattle.items.specs.Bodies.{target-told}
use Rattle.items.proofs.item.Goals as goal

pub returns-in-Begin : goal.returns-in-Begin
unfolding item_at
returns-in-Begin c = rw (c.in-Begin.is, ← module-told c.args.s.now c.args.at, ← c.«module».ensures) c.close.ensures

pub returns-in-Module : goal.returns-in-Module
unfolding item_at
returns-in-Module c = rw c.in-Module.is c.body.ensures

pub returns-in-Task : goal.returns-in-Task
unfolding item_at
returns-in-Task c = rw c.in-Task.is c.body-in-Task.ensures

pub returns-in-Mode : goal.returns-in-Mode
unfolding item_at
returns-in-Mode c = rw c.in-Mode.is c.body-in-Mode.ensures

pub returns-in-Act : goal.returns-in-Act
unfolding item_at
returns-in-Act c = rw c.in-Act.is c.act.ensures

pub returns-in-Guarded : goal.returns-in-Guarded
unfolding item_at
returns-in-Guarded c = rw (c.in-Guarded.is, ← target-told c.args.s.now c.args.at _, ← c.token.ensures) c.target.ensures

pub returns-in-GuardArgs : goal.returns-in-GuardArgs
unfolding item_at
returns-in-GuardArgs c = rw (c.in-GuardArgs.is, ← guard-arg-told c.args.s.now _ c.args.at) c.guard_arg.ensures

pub returns-in-Args : goal.returns-in-Args
unfolding item_at
returns-in-Args c = rw (c.in-Args.is, ← arg-told c.args.s.now c.args.at) c.arg.ensures

pub returns-in-Finish : goal.returns-in-Finish
unfolding item_at
returns-in-Finish c = rw c.in-Finish.is c.finish.ensures
