-- What a table that can stand in a file has: every list within its room, and every part one that can stand there.
use Rattle.std.specs.Prelude.{ℕ, ◌+◌, ◌≤◌, ◌<◌, ◌≡◌, true, List, [], ◌∷◌, ◌++◌, length, get_or}
use Rattle.std.proofs.Common.{arith, leb-true}
use Rattle.codec.specs.Codecs.{Codec}
use Rattle.codec.proofs.Codecs.{and_left, and_right}
use Rattle.codec.specs.Sequences.{dep, dep_ok}
use Rattle.codec.proofs.Sequences.{dep-ok}
use Rattle.codec.specs.Views.{shape, view_ok}
use Rattle.codec.proofs.Views.{check-ok, shape-ok}
use Rattle.codec.specs.Lists.{list}
use Rattle.codec.proofs.Lists.{list-ok, running-ok}
use Rattle.model.specs.Modules.{each}
use Rattle.model.specs.Rooms.{sensor_room, actuator_room, task_room, mode_room, driver_room, guard_room, code_room}
use Rattle.model.specs.Instructions.{Driver, updates, releases, terminates}
use Rattle.file.specs.Tables.{Argument, port, fixed, GuardRow, Table}
use Rattle.file.specs.Parts.{count}
use Rattle.file.specs.Names.{name}
use Rattle.file.specs.Records.{sensor, sensors, actuator, actuators, tasks}
use Rattle.file.specs.Code.{releasing, driver_rest, driver, drivers, argument, guard, guards, mode, modes, instruction, code}
use Rattle.file.specs.Files.{table}
use Rattle.layout.specs.Plain.{driver_cells, argument_cells, guard_cells}
use Rattle.layout.specs.Cells.{many-ok-at}

-- a list with its count in front: within the room, and every part can stand in a file
pub record Listed {A : Type 0} (c : Codec A) (room : ℕ) (xs : List A) : Type 0 where
  pub few : length xs ≤ room
  pub fine : (d : A) (k : ℕ) → k < length xs → c.ok (get_or xs k d) ≡ true

listed : {A : Type 0} (c : Codec A) (size room : ℕ) (xs : List A) → (list (count size room) c).ok xs ≡ true → Listed c room xs
unfolding count
listed c size room xs h =
    let (few, fine) = list-ok _ c xs h in
    record { few = leb-true _ _ (check-ok _ _ _ _ few).0; fine = λ d k within. many-ok-at c xs d fine k within }

pub record Fits (t : Table) : Type 0 where
  pub sensed : Listed sensor sensor_room t.sensors
  pub updated : Listed actuator actuator_room t.actuators
  pub few-tasks : length t.tasks ≤ task_room
  pub driven : Listed driver driver_room t.drivers
  pub guarded : Listed guard guard_room t.guards
  pub moded : Listed mode mode_room t.modes
  pub coded : Listed instruction code_room t.code

pub table_fits : (t : Table) → table.ok t ≡ true → Fits t
unfolding table shape view_ok dep dep_ok sensors actuators tasks drivers guards modes code count
table_fits t h =
    let s = and_right (name.ok t.name) _ h in
    let a = and_right (sensors.ok t.sensors) _ s in
    let k = and_right (actuators.ok t.actuators) _ a in
    let d = and_right (tasks.ok t.tasks) _ k in
    let g = and_right (drivers.ok t.drivers) _ d in
    let m = and_right (guards.ok t.guards) _ g in
    record {
      sensed = listed sensor 2 sensor_room t.sensors (and_left _ _ s);
      updated = listed actuator 2 actuator_room t.actuators (and_left _ _ a);
      few-tasks = leb-true _ _ (check-ok _ _ _ _ (running-ok _ _ _ _ _ (and_left _ _ k)).0).0;
      driven = listed driver 2 driver_room t.drivers (and_left _ _ d);
      guarded = listed guard 2 guard_room t.guards (and_left _ _ g);
      moded = listed mode 2 mode_room t.modes (and_left _ _ m);
      coded = listed instruction 2 code_room t.code (and_right (modes.ok t.modes) _ m);
    }

-- ---- rows are wide enough

pub few-sources : (task : ℕ) (sources : List ℕ) → driver.ok (releases task sources) ≡ true → length sources ≤ 8
unfolding driver driver_rest
few-sources task sources h =
    let rest = (dep-ok _ _ _ releasing (task, sources) (shape-ok _ _ _ (releases task sources) h)).1 in
    (listed _ 1 8 sources (dep-ok _ _ _ task sources rest).1).few

pub driver-width : (d : Driver) → driver.ok d ≡ true → length (driver_cells d) ≤ 12
driver-width (updates source target) h = omega arith
driver-width (releases task sources) h = let few = few-sources task sources h in omega arith
driver-width (terminates task) h = omega arith

pub guard-arguments : (g : GuardRow) → guard.ok g ≡ true → Listed argument 2 g.arguments
unfolding guard
guard-arguments g h = listed _ 1 2 g.arguments (dep-ok _ _ _ g.function g.arguments (shape-ok _ _ _ g h)).1

pub few-arguments : (g : GuardRow) → guard.ok g ≡ true → length g.arguments ≤ 2
few-arguments g h = (guard-arguments g h).few

argument-width : (a : Argument) (rest : List ℕ) → length (argument_cells a ++ rest) ≡ 2 + length rest
argument-width (port number) rest = omega arith
argument-width (fixed type word) rest = omega arith

pub guard-width : (g : GuardRow) → guard.ok g ≡ true → length (guard_cells g) ≤ 6
guard-width g h = let most = go g.arguments (few-arguments g h) in omega arith
  where
    go : (arguments : List Argument) → length arguments ≤ 2 → 2 + length (each argument_cells arguments) ≤ 6
    go [] few = omega arith
    go (a ∷ []) few = omega (arith, argument-width a [])
    go (a ∷ b ∷ []) few = omega (arith, argument-width a (each argument_cells (b ∷ [])), argument-width b [])
    go (a ∷ b ∷ c ∷ more) few = absurd (omega arith)
