use mathlib.Core.Path.{refl, ap}
use mathlib.Core.List.{List}
use Prim.Native.Nat.{ℕ}
use Rattle.codec.proofs.Sequences.{dep-no}
use Rattle.fields.specs.TakingLaws as law
use Rattle.reading.specs.Stages as to
use Rattle.reading.specs.Tabled.{takes-ports}
use Rattle.reading.proofs.filling.ports.Goals as goal

pub returns-in_err-name-clause-takes : goal.returns-in_err-name-clause-takes
returns-in_err-name-clause-takes c = law.takes-exit _ _ _ c.from_residual.ensures.1 (law.takes-no (dep-no _ _ _ c.in_err-name.ensures.reads))

pub returns-in_err-t-clause-takes : goal.returns-in_err-t-clause-takes
unfolding to.store_name to.store_sensors
returns-in_err-t-clause-takes c =
    let l = c.args.t.now in
    let name = to.put_name c.put_name.new.names (to.ports_of l) in
    law.takes-exit _ _ _ c.from_residual-in_err-t.ensures.1
    (takes-ports {l = l} (law.takes-got {a = c.in_ok-name.name.now} c.in_ok-name.ensures.reads (ap (λ (x : List ℕ). to.put_name x (to.ports_of l)) (c.put_name.ensures.row c.in_ok-name.ensures.short)))
    (law.takes-in {store = to.store_sensors} {l = name} (λ z. to.put_sensors z name) (λ a. refl) c.in_err-t.ensures.takes) law.takes_out)

pub returns-in_err-t-2-clause-takes : goal.returns-in_err-t-2-clause-takes
unfolding to.store_name to.store_sensors to.store_actuators
returns-in_err-t-2-clause-takes c =
    let l = c.args.t.now in
    let name = to.put_name c.put_name.new.names (to.ports_of l) in
    let sensors = to.put_sensors (c.in_ok-t.field-0, (c.sensors.new.names, c.sensors.new.types)) name in
    law.takes-exit _ _ _ c.from_residual-in_err-t-2.ensures.1
    (takes-ports {l = l} (law.takes-got {a = c.in_ok-name.name.now} c.in_ok-name.ensures.reads (ap (λ (x : List ℕ). to.put_name x (to.ports_of l)) (c.put_name.ensures.row c.in_ok-name.ensures.short)))
    (law.takes-in {store = to.store_sensors} {l = name} (λ z. to.put_sensors z name) (λ a. refl) c.in_ok-t.ensures.takes)
    (law.takes-in {store = to.store_actuators} {l = sensors} (λ z. to.put_actuators z sensors) (λ a. refl) c.in_err-t-2.ensures.takes))

pub returns-clause-takes : goal.returns-clause-takes
unfolding to.store_name to.store_sensors to.store_actuators
returns-clause-takes c =
    let l = c.args.t.now in
    let name = to.put_name c.put_name.new.names (to.ports_of l) in
    let sensors = to.put_sensors (c.in_ok-t.field-0, (c.sensors.new.names, c.sensors.new.types)) name in
    rw (c.mark-2.ensures, c.mark.ensures)
    (takes-ports {l = l} (law.takes-got {a = c.in_ok-name.name.now} c.in_ok-name.ensures.reads (ap (λ (x : List ℕ). to.put_name x (to.ports_of l)) (c.put_name.ensures.row c.in_ok-name.ensures.short)))
    (law.takes-in {store = to.store_sensors} {l = name} (λ z. to.put_sensors z name) (λ a. refl) c.in_ok-t.ensures.takes)
    (law.takes-in {store = to.store_actuators} {l = sensors} (λ z. to.put_actuators z sensors) (λ a. refl) c.in_ok-t-2.ensures.takes))
