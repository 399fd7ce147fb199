-- When two tables are the same.
use Rattle.std.specs.Prelude.{ℕ, ◌≡◌, refl, Bool, true, false, ◌&&◌, eqb}
use Rattle.std.proofs.Common.{arith, eqb-true, eq-eqb}
use Rattle.model.specs.Bytes.{same}
use Rattle.tables.specs.declared.Table.{Table}
use Rattle.comparing.specs.Same.{same_true, same_refl}

-- as many of each kind
unfoldable pub alike_counts : Table → Table → Bool
alike_counts one other =
    eqb one.sensors other.sensors
    && eqb one.actuators other.actuators
    && eqb one.tasks other.tasks
    && eqb one.drivers other.drivers
    && eqb one.guards other.guards
    && eqb one.modes other.modes
    && eqb one.instructions other.instructions

-- the same names
unfoldable pub alike_names : Table → Table → Bool
alike_names one other =
    same one.name other.name
    && same one.sensor_names other.sensor_names
    && same one.actuator_names other.actuator_names
    && same one.task_names other.task_names
    && same one.output_names other.output_names
    && same one.mode_names other.mode_names

-- the same ports
unfoldable pub alike_ports : Table → Table → Bool
alike_ports one other =
    same one.roles other.roles
    && same one.types other.types
    && same one.starts other.starts

-- the same rows of tasks, drivers, guards, modes and code
unfoldable pub alike_rows : Table → Table → Bool
alike_rows one other =
    same one.task_rows other.task_rows
    && same one.driver_rows other.driver_rows
    && same one.guard_rows other.guard_rows
    && same one.mode_rows other.mode_rows
    && same one.code other.code

-- number for number the same
unfoldable pub alike : Table → Table → Bool
alike one other = alike_counts one other && (alike_names one other && (alike_ports one other && alike_rows one other))

-- ---- exactly a table and itself

both : (a b : Bool) → (a && b) ≡ true → (a ≡ true) × (b ≡ true)
both true b e = (refl, e)
both false b e = absurd (let z : ◌≡◌ {A = ℕ} 0 1 = cc in omega arith)

all_true : {a b : Bool} → a ≡ true → b ≡ true → (a && b) ≡ true
all_true p q = rw (p, q)

-- tables that are alike are the same
pub alike-true : (one other : Table) → alike one other ≡ true → one ≡ other
unfolding alike alike_counts alike_names alike_ports alike_rows
alike-true one other e =
    let (counts, e₁) = both (alike_counts one other) _ e in
    let (names, e₂) = both (alike_names one other) _ e₁ in
    let (ports, rows) = both (alike_ports one other) _ e₂ in
    let (counts₇, counts-instructions) = both _ _ counts in
    let (counts₆, counts-modes) = both _ _ counts₇ in
    let (counts₅, counts-guards) = both _ _ counts₆ in
    let (counts₄, counts-drivers) = both _ _ counts₅ in
    let (counts₃, counts-tasks) = both _ _ counts₄ in
    let (counts₂, counts-actuators) = both _ _ counts₃ in
    let (names₆, names-mode-names) = both _ _ names in
    let (names₅, names-output-names) = both _ _ names₆ in
    let (names₄, names-task-names) = both _ _ names₅ in
    let (names₃, names-actuator-names) = both _ _ names₄ in
    let (names₂, names-sensor-names) = both _ _ names₃ in
    let (ports₃, ports-starts) = both _ _ ports in
    let (ports₂, ports-types) = both _ _ ports₃ in
    let (rows₅, rows_code) = both _ _ rows in
    let (rows₄, rows-mode-rows) = both _ _ rows₅ in
    let (rows₃, rows-guard-rows) = both _ _ rows₄ in
    let (rows₂, rows-driver-rows) = both _ _ rows₃ in
    let sensors = eqb-true one.sensors other.sensors counts₂ in
    let actuators = eqb-true one.actuators other.actuators counts-actuators in
    let tasks = eqb-true one.tasks other.tasks counts-tasks in
    let drivers = eqb-true one.drivers other.drivers counts-drivers in
    let guards = eqb-true one.guards other.guards counts-guards in
    let modes = eqb-true one.modes other.modes counts-modes in
    let instructions = eqb-true one.instructions other.instructions counts-instructions in
    let name = same_true one.name other.name names₂ in
    let sensor-names = same_true one.sensor_names other.sensor_names names-sensor-names in
    let actuator-names = same_true one.actuator_names other.actuator_names names-actuator-names in
    let task-names = same_true one.task_names other.task_names names-task-names in
    let output-names = same_true one.output_names other.output_names names-output-names in
    let mode-names = same_true one.mode_names other.mode_names names-mode-names in
    let roles = same_true one.roles other.roles ports₂ in
    let types = same_true one.types other.types ports-types in
    let starts = same_true one.starts other.starts ports-starts in
    let task-rows = same_true one.task_rows other.task_rows rows₂ in
    let driver-rows = same_true one.driver_rows other.driver_rows rows-driver-rows in
    let guard-rows = same_true one.guard_rows other.guard_rows rows-guard-rows in
    let mode-rows = same_true one.mode_rows other.mode_rows rows-mode-rows in
    let code = same_true one.code other.code rows_code in
    λ i. record {
      sensors = sensors i;
      actuators = actuators i;
      tasks = tasks i;
      drivers = drivers i;
      guards = guards i;
      modes = modes i;
      instructions = instructions i;
      name = name i;
      sensor_names = sensor-names i;
      actuator_names = actuator-names i;
      task_names = task-names i;
      output_names = output-names i;
      mode_names = mode-names i;
      roles = roles i;
      types = types i;
      starts = starts i;
      task_rows = task-rows i;
      driver_rows = driver-rows i;
      guard_rows = guard-rows i;
      mode_rows = mode-rows i;
      code = code i;
    }

-- and a table is alike to itself
pub alike_refl : (table : Table) → alike table table ≡ true
unfolding alike alike_counts alike_names alike_ports alike_rows
alike_refl table =
    let counts = all_true (all_true (all_true (all_true (all_true (all_true (eq-eqb table.sensors table.sensors refl) (eq-eqb table.actuators table.actuators refl)) (eq-eqb table.tasks table.tasks refl)) (eq-eqb table.drivers table.drivers refl)) (eq-eqb table.guards table.guards refl)) (eq-eqb table.modes table.modes refl)) (eq-eqb table.instructions table.instructions refl) in
    let names = all_true (all_true (all_true (all_true (all_true (same_refl table.name) (same_refl table.sensor_names)) (same_refl table.actuator_names)) (same_refl table.task_names)) (same_refl table.output_names)) (same_refl table.mode_names) in
    let ports = all_true (all_true (same_refl table.roles) (same_refl table.types)) (same_refl table.starts) in
    let rows = all_true (all_true (all_true (all_true (same_refl table.task_rows) (same_refl table.driver_rows)) (same_refl table.guard_rows)) (same_refl table.mode_rows)) (same_refl table.code) in
    all_true counts (all_true names (all_true ports rows))
