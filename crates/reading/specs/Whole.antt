-- The parts of a table that can stand in a file, put in one after the other, are the record of the table.
use Rattle.std.specs.Prelude.{ℕ, ◌+◌, ◌≤◌, ◌≡◌, refl, true, List, [], ◌++◌, map, length, replicate}
use Rattle.std.proofs.Common.{arith, sym, ap, ap₂, ◌∙◌, append_assoc, length-append}
use Rattle.std.proofs.lemmas.List.{length-map, length-replicate}
use Rattle.codec.proofs.Sequences.{dep-ok}
use Rattle.codec.proofs.Views.{shape-ok}
use Rattle.model.specs.Modules.{each, task_types, task_starts, port_types, port_starts}
use Rattle.file.specs.Tables.{Table}
use Rattle.file.specs.Names.{name}
use Rattle.file.specs.Records.{sensor, sensors, actuator, actuators, tasks}
use Rattle.file.specs.Code.{drivers, guards, modes, code}
use Rattle.file.specs.References.{task_roles, port_roles}
use Rattle.file.specs.Files.{table}
use Rattle.layout.specs.Rows.{zeros, padded, rows, name_cells, names}
use Rattle.layout.specs.Plain.{sensor_names, actuator_names, task_names, output_names, task_rows, driver_cells, guard_cells, mode_cells, instruction_cells, struct_of, blank}
use Rattle.layout.specs.Filling.{stored, fill, padded-none, padded-more, padded-zeros}
use Rattle.fields.specs.Taking.{counted}
use Rattle.declarations.specs.Stores.{TaskState, first_port, store_task}
use Rattle.declarations.specs.StoreLaws.{map_same}
use Rattle.tables.specs.declared.Table.{Table as Plain}
use Rattle.reading.specs.Stages.{PortState, port_state, store_name, store_sensors, store_actuators, ports_of, with_ports, store_ports, tasks_of, with_tasks, store_tasks, RestState, rest_state, store_drivers, store_guards, store_modes, store_code, rest_of, with_rest, store_rest}
use Rattle.reading.specs.Rowing.{few, name-short, zeros-stored}
use Rattle.reading.specs.PortRows.{sensors-filled, actuators-filled}
use Rattle.reading.specs.TaskRows.{nothing_yet, tasks-filled}
use Rattle.reading.specs.RestRows.{drivers-filled, guards-filled, modes-filled, code-filled}

-- ---- what stands in a table's parts

record Parts (t : Table) : Type 0 where
  name : name.ok t.name ≡ true
  sensors : sensors.ok t.sensors ≡ true
  actuators : actuators.ok t.actuators ≡ true
  tasks : tasks.ok t.tasks ≡ true
  drivers : drivers.ok t.drivers ≡ true
  guards : guards.ok t.guards ≡ true
  modes : modes.ok t.modes ≡ true
  code : code.ok t.code ≡ true

parts-of : (t : Table) → table.ok t ≡ true → Parts t
unfolding table
parts-of t h =
    let (n, s) = dep-ok _ _ _ t.name _ (shape-ok _ _ _ t h) in
    let (x, a) = dep-ok _ _ _ t.sensors _ s in
    let (y, k) = dep-ok _ _ _ t.actuators _ a in
    let (z, d) = dep-ok _ _ _ t.tasks _ k in
    let (u, g) = dep-ok _ _ _ t.drivers _ d in
    let (v, m) = dep-ok _ _ _ t.guards _ g in
    let (w, c) = dep-ok _ _ _ t.modes _ m in
    record { name = n; sensors = x; actuators = y; tasks = z; drivers = u; guards = v; modes = w; code = c }

-- ---- name, sensors and actuators

module _ (t : Table) where
  -- roles, types and beginning values of the ports before those of tasks
  abbrev front_roles : List ℕ
  front_roles = map (λ s. 1) t.sensors ++ map (λ a. 2) t.actuators

  abbrev front_types : List ℕ
  front_types = map (λ s. s.type) t.sensors ++ map (λ a. a.type) t.actuators

  abbrev front_starts : List ℕ
  front_starts = map (λ s. 0) t.sensors ++ map (λ a. a.start) t.actuators

  abbrev ports_done : PortState
  ports_done =
      port_state (padded 33 (name_cells t.name)) (length t.sensors) (length t.actuators) (names 64 (each sensor_names t.sensors)) (names 64 (each actuator_names t.actuators))
      (padded 320 front_roles) (padded 320 front_types) (padded 320 front_starts)

front-roles : (t : Table) → length t.sensors ≤ 32 → length t.actuators ≤ 32
    → stored (stored (zeros 320) 0 (replicate (length t.sensors) 1)) (length t.sensors) (replicate (length t.actuators) 2) ≡ padded 320 (front_roles t)
front-roles t h g =
    let n = length-replicate {A = ℕ} (length t.sensors) 1 in
    let m = length-replicate {A = ℕ} (length t.actuators) 2 in
    ap (λ (l : List ℕ). stored l (length t.sensors) (replicate (length t.actuators) 2)) (zeros-stored 320 (replicate (length t.sensors) 1) (omega arith))
    ∙ padded-more 320 (length t.sensors) (replicate (length t.sensors) 1) (replicate (length t.actuators) 2) (sym n) (omega arith)
    ∙ ap (padded 320) (ap₂ (λ (a b : List ℕ). a ++ b) (sym (map_same 1 t.sensors)) (sym (map_same 2 t.actuators)))

no-starts : {A : Type 0} (xs : List A) → length xs ≤ 320 → zeros 320 ≡ padded 320 (map (λ x. 0) xs)
no-starts xs h = padded-none 320 ∙ sym (padded-zeros 320 [] (length xs) (omega arith)) ∙ ap (padded 320) (sym (nothing_yet xs))

ports-done : (t : Table) → Parts t → store_actuators t.actuators (store_sensors t.sensors (store_name t.name (ports_of blank))) ≡ ports_done t
unfolding store_actuators store_sensors store_name counted blank sensors actuators
ports-done t p =
    let h = few sensor 2 32 t.sensors p.sensors in
    let g = few actuator 2 32 t.actuators p.actuators in
    let s = sensors-filled t.sensors p.sensors in
    let a =
    actuators-filled (length t.sensors) (map (λ x. x.type) t.sensors) (map (λ x. 0) t.sensors) (length-map {B = ℕ} t.sensors (λ x. x.type))
    (length-map {B = ℕ} t.sensors (λ x. 0)) h t.actuators p.actuators in
    let short = name-short t.name p.name in
    rw (s, front-roles t h g, no-starts t.sensors (omega arith), a, zeros-stored 33 (name_cells t.name) (omega arith)) refl

-- ---- tasks

abbrev tasks_done : Table → ℕ → ℕ → TaskState
tasks_done t inputs outputs =
    record {
      names = names 64 (each task_names t.tasks);
      ports = record {
        names = names 128 (each output_names t.tasks);
        types = padded 320 (port_types t.sensors t.actuators t.tasks);
        starts = padded 320 (port_starts t.sensors t.actuators t.tasks);
      };
      roles = padded 320 (port_roles t.sensors t.actuators t.tasks);
      rows = rows 4 128 (λ cells. cells) (task_rows (length t.sensors + length t.actuators) t.tasks);
      inputs = inputs;
      outputs = outputs;
    }

first-behind : (n : ℕ) → n ≤ 64 → first_port n ≡ n
unfolding first_port
first-behind n h = omega arith

tasks-done : (t : Table) → Parts t → store_tasks t.tasks (with_ports (ports_done t) blank) ≡ with_tasks (length t.tasks, tasks_done t 0 0) (with_ports (ports_done t) blank)
unfolding store_tasks counted blank sensors actuators port_types port_starts port_roles
tasks-done t p =
    let h = few sensor 2 32 t.sensors p.sensors in
    let g = few actuator 2 32 t.actuators p.actuators in
    let from = length t.sensors + length t.actuators in
    let one : length (front_types t) ≡ from =
    length-append (map (λ s. s.type) t.sensors) (map (λ a. a.type) t.actuators) ∙ ap₂ (λ (a b : ℕ). a + b) (length-map {B = ℕ} t.sensors (λ s. s.type)) (length-map {B = ℕ} t.actuators (λ a. a.type)) in
    let two : length (front_starts t) ≡ from =
    length-append {A = ℕ} (map (λ s. 0) t.sensors) (map (λ a. a.start) t.actuators) ∙ ap₂ (λ (a b : ℕ). a + b) (length-map {B = ℕ} t.sensors (λ s. 0)) (length-map {B = ℕ} t.actuators (λ a. a.start)) in
    let three : length (front_roles t) ≡ from =
    length-append {A = ℕ} (map (λ s. 1) t.sensors) (map (λ a. 2) t.actuators) ∙ ap₂ (λ (a b : ℕ). a + b) (length-map {B = ℕ} t.sensors (λ s. 1)) (length-map {B = ℕ} t.actuators (λ a. 2)) in
    let r = (tasks-filled from (front_types t) (front_starts t) (front_roles t) one two three (omega arith) t.tasks p.tasks).holds in
    let l = with_ports (ports_done t) blank in
    ap (λ (n : ℕ). with_tasks (length t.tasks, fill (store_task n) 0 t.tasks (tasks_of l)) l) (first-behind from (omega arith))
    ∙ (λ i.
    with_tasks (
      length t.tasks,
      record {
        names = r.names.is i;
        ports = record {
          names = r.titles.is i;
          types = (r.types ∙ ap (padded 320) (append_assoc (map (λ s. s.type) t.sensors) (map (λ a. a.type) t.actuators) (each task_types t.tasks))) i;
          starts = (r.starts ∙ ap (padded 320) (append_assoc (map (λ s. 0) t.sensors) (map (λ a. a.start) t.actuators) (each task_starts t.tasks))) i;
        };
        roles = (r.roles ∙ ap (padded 320) (append_assoc (map (λ s. 1) t.sensors) (map (λ a. 2) t.actuators) (each task_roles t.tasks))) i;
        rows = r.rows.is i;
        inputs = 0;
        outputs = 0;
      },
    ) l)

-- ---- drivers, guards, modes and code

abbrev rest_done : Table → RestState
rest_done t =
    rest_state (length t.drivers) (length t.guards) (length t.modes) (length t.code) (rows 12 3456 driver_cells t.drivers) (rows 6 1536 guard_cells t.guards)
    (names 8 (map (λ m. m.name) t.modes)) (rows 3 24 mode_cells t.modes) (rows 3 12288 instruction_cells t.code)

rest-done : (t : Table) → Parts t → store_code t.code (store_modes t.modes (store_guards t.guards (store_drivers t.drivers (rest_of blank)))) ≡ rest_done t
unfolding store_code store_modes store_guards store_drivers counted blank
rest-done t p =
    rw (drivers-filled t.drivers p.drivers, guards-filled t.guards p.guards, modes-filled t.modes p.modes, code-filled t.code p.code) refl

-- ---- the whole

-- the parts of a table, put one after the other into a record
unfoldable pub put_in : Table → Plain → Plain
put_in t l = store_rest (t.drivers, (t.guards, (t.modes, t.code))) (store_tasks t.tasks (store_ports (t.name, (t.sensors, t.actuators)) l))

pub whole : (t : Table) → table.ok t ≡ true → put_in t blank ≡ struct_of t
unfolding put_in store_ports store_rest blank struct_of
whole t h =
    let p = parts-of t h in
    let l = with_tasks (length t.tasks, tasks_done t 0 0) (with_ports (ports_done t) blank) in
    ap (λ (z : PortState). store_rest (t.drivers, (t.guards, (t.modes, t.code))) (store_tasks t.tasks (with_ports z blank))) (ports-done t p)
    ∙ ap (store_rest (t.drivers, (t.guards, (t.modes, t.code)))) (tasks-done t p)
    ∙ ap (λ (z : RestState). with_rest z l) (rest-done t p)
