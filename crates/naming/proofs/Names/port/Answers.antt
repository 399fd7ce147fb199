use mathlib.Core.Path.{refl}
use Rattle.naming.specs.Laws.{said-is, port-sensor, port-actuator, port-task}
use Rattle.naming.proofs.Names.port.Goals as goal

pub returns-then-number-self : goal.returns-then-number-self
returns-then-number-self c = said-is (port-sensor _ _ _ _ _ _ _ _ _ _ c.if-number-self.true refl) c.name.ensures

pub returns-then-behind-self : goal.returns-then-behind-self
returns-then-behind-self c = said-is (port-actuator _ _ _ _ _ _ _ _ _ _ c.if-number-self.false c.if-behind-self.true refl) c.name-then-behind-self.ensures

pub returns-else-behind-self : goal.returns-else-behind-self
returns-else-behind-self c = said-is (port-task _ _ _ _ _ _ _ _ _ _ c.if-number-self.false c.if-behind-self.false c.owner.ensures) c.task_port.ensures
