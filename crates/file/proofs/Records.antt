-- Sensors, actuators and tasks are lawful.
use Rattle.std.specs.Prelude.{refl, ℕ}
use Rattle.codec.specs.Codecs.{Lawful}
use Rattle.codec.proofs.Numbers.{be-lawful}
use Rattle.codec.proofs.Sequences.{dep-lawful}
use Rattle.codec.proofs.Views.{check-lawful, shape-lawful}
use Rattle.codec.proofs.Lists.{list-lawful, running-lawful}
use Rattle.file.specs.Records.{sensor, sensors, actuator, actuators, output, Used, port_count, task, tasks}
use Rattle.file.proofs.Parts.{count-lawful, type-lawful, value-lawful}
use Rattle.file.proofs.Names.{name-lawful}

pub sensor-lawful : Lawful sensor
unfolding sensor
sensor-lawful = shape-lawful _ _ _ (λ s. refl) (λ x h. refl) (dep-lawful _ _ _ name-lawful (λ n. dep-lawful _ _ _ type-lawful (λ t. name-lawful)))

pub sensors-lawful : Lawful sensors
unfolding sensors
sensors-lawful = list-lawful _ _ (count-lawful 2 _) sensor-lawful

pub actuator-lawful : Lawful actuator
unfolding actuator
actuator-lawful =
    shape-lawful _ _ _ (λ a. refl) (λ x h. refl)
    (dep-lawful _ _ _ name-lawful (λ n. dep-lawful _ _ _ type-lawful (λ t. dep-lawful _ _ _ (value-lawful t) (λ v. name-lawful))))

pub actuators-lawful : Lawful actuators
unfolding actuators
actuators-lawful = list-lawful _ _ (count-lawful 2 _) actuator-lawful

-- ---- tasks

pub output-lawful : Lawful output
unfolding output
output-lawful = shape-lawful _ _ _ (λ o. refl) (λ x h. refl) (dep-lawful _ _ _ name-lawful (λ n. dep-lawful _ _ _ type-lawful value-lawful))

pub port_count-lawful : (used : ℕ) → Lawful (port_count used)
unfolding port_count
port_count-lawful used = check-lawful _ _ _ (be-lawful 1)

pub task-lawful : (used : Used) → Lawful (task used)
unfolding task
task-lawful used =
    shape-lawful _ _ _ (λ t. refl) (λ x h. refl)
    (dep-lawful _ _ _ name-lawful
    (λ n. dep-lawful _ _ _ name-lawful
    (λ f. dep-lawful _ _ _ (list-lawful _ _ (port_count-lawful used.inputs) type-lawful)
    (λ i. list-lawful _ _ (port_count-lawful used.outputs) output-lawful))))

pub tasks-lawful : Lawful tasks
unfolding tasks
tasks-lawful = running-lawful _ _ _ _ (count-lawful 2 _) task-lawful
