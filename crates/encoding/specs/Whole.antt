-- A table that the reader can return is written, from the arrays that it stands in, as its file.
use Rattle.std.specs.Prelude.{ℕ, zero, suc, ◌+◌, ◌-◌, ◌*◌, ◌<◌, ◌≡◌, refl, Bool, true, length}
use Rattle.std.proofs.Common.{zero-add, arith, sym, ◌∙◌, take_all}
use Rattle.std.proofs.Math.Path.{ap, ap₂}
use mathlib.Core.List.{List, [], ◌∷◌, ◌++◌, map, append_assoc}
use Rattle.std.proofs.Math.ListN.{get_or, take}
use Rattle.codec.proofs.Codecs.{and_left, and_right}
use Rattle.codec.specs.Numbers.{byte}
use Rattle.codec.specs.Sequences.{dep, dep_put, dep_ok}
use Rattle.codec.specs.Views.{shape, view, view_put, view_ok}
use Rattle.model.specs.Bytes.{place_in}
use Rattle.model.specs.Rooms.{sensor_room, actuator_room, task_room, mode_room, all_port_room, driver_room, guard_room, code_room}
use Rattle.model.specs.Values.{function_names}
use Rattle.model.specs.Modules.{port_types}
use Rattle.file.specs.Tables.{GuardRow, Table}
use Rattle.file.specs.Parts.{all_in}
use Rattle.file.specs.Names.{name}
use Rattle.file.specs.Records.{sensors, actuators, tasks}
use Rattle.file.specs.Code.{drivers, guards, modes, code}
use Rattle.file.specs.References.{port_roles, argument_type, good_argument, good_guard, good_driver, good_references}
use Rattle.file.specs.Files.{table, version_of, table_by, body, encode, sound}
use Rattle.file.proofs.Bounds.{body-room}
use Rattle.layout.specs.Rows.{padded, name_cells}
use Rattle.layout.specs.Plain.{board_room, struct_of}
use Rattle.layout.specs.Cells.{padded-cell}
use Rattle.referring.specs.Fits.{table_fits}
use Rattle.referring.specs.Guards.{no_row}
use Rattle.writing.specs.Cells.{quad_of, name_in}
use Rattle.filing.specs.Whole.{ports_of, rest_of, body_of, framed, file_of}
use Rattle.encoding.specs.Parts.{byte-is, quad_is}
use Rattle.encoding.specs.NameLaws.{name_in_lem}
use Rattle.encoding.specs.Ports.{sensors-is, actuators-is}
use Rattle.encoding.specs.Tasks.{tasks-stand}
use Rattle.encoding.specs.TaskLaws.{tasks-is}
use Rattle.encoding.specs.Drivers.{drivers-is}
use Rattle.encoding.specs.Guards.{takes-known, guards-is}
use Rattle.encoding.specs.Modes.{modes-is, code_is}

-- ---- what a sound table has

table-parts : (t : Table) → table.ok t ≡ true → (name.ok t.name ≡ true) × (tasks.ok t.tasks ≡ true)
unfolding table shape view_ok dep dep_ok
table-parts t h =
    let s = and_right (name.ok t.name) _ h in
    let a = and_right (sensors.ok t.sensors) _ s in
    let k = and_right (actuators.ok t.actuators) _ a in
    (and_left _ _ h, and_left _ _ k)

all-at : {A : Type 0} (test : A → Bool) (d : A) (xs : List A) → all_in test xs ≡ true → (k : ℕ) → k < length xs → test (get_or xs k d) ≡ true
unfolding all_in
all-at test d [] h k g = absurd (omega arith)
all-at test d (x ∷ xs) h zero g = and_left _ _ h
all-at test d (x ∷ xs) h (suc k) g = all-at test d xs (and_right (test x) _ h) k (omega arith)

guard-known : (roles types : List ℕ) (g : GuardRow) → good_guard roles types g ≡ true → place_in function_names 0 g.function < 4
unfolding good_guard
guard-known roles types g h =
    takes-known (place_in function_names 0 g.function) (map (argument_type types) g.arguments) (and_right (all_in (good_argument roles) g.arguments) _ h)

guards-known : (t : Table) → good_references t ≡ true → (k : ℕ) → k < length t.guards → place_in function_names 0 (get_or t.guards k no_row).function < 4
unfolding good_references
guards-known t h k g =
    let roles = port_roles t.sensors t.actuators t.tasks in
    let types = port_types t.sensors t.actuators t.tasks in
    let all : all_in (good_guard roles types) t.guards ≡ true = and_right (all_in (good_driver roles types t.tasks) t.drivers) _ (and_left _ _ h) in
    guard-known roles types (get_or t.guards k no_row) (all-at (good_guard roles types) no_row t.guards all k g)

-- ---- the parts in a row

table-put : (t : Table)
    → table.put t
    ≡ name.put t.name ++ (sensors.put t.sensors ++ (actuators.put t.actuators ++ (tasks.put t.tasks
    ++ (drivers.put t.drivers ++ (guards.put t.guards ++ (modes.put t.modes ++ code.put t.code))))))
unfolding table shape view view_put dep dep_put
table-put t = refl

module _ (t : Table) (good : sound t ≡ true) where
  stands : table.ok t ≡ true
  unfolding sound table_by
  stands = and_left _ _ good

  refers : good_references t ≡ true
  unfolding sound
  refers = and_right ((table_by (version_of t)).ok t) _ good

  name-is : name_in (struct_of t).name 0 ≡ name.put t.name
  unfolding struct_of
  name-is =
      name_in_lem (padded 33 (name_cells t.name)) 0 t.name (table-parts t stands).0 (λ j less.
      ap (λ (i : ℕ). get_or (padded 33 (name_cells t.name)) i 0) (zero-add j) ∙ padded-cell 33 (name_cells t.name) j)

  ports-are : ports_of (struct_of t) ≡ (byte.put 1 ++ name.put t.name) ++ (sensors.put t.sensors ++ actuators.put t.actuators)
  unfolding ports_of struct_of
  ports-are =
      let fits = table_fits t stands in
      ap₂ (λ (a b : List ℕ). a ++ b) (ap₂ (λ (a b : List ℕ). a ++ b) (byte-is 1 (omega arith)) name-is)
      (ap₂ (λ (a b : List ℕ). a ++ b) (sensors-is (2 * sensor_room) board_room t.sensors t.actuators t.tasks fits.sensed)
      (actuators-is (2 * actuator_room) board_room t.sensors t.actuators t.tasks fits.updated))

  rest-is : rest_of (struct_of t) ≡ drivers.put t.drivers ++ (guards.put t.guards ++ (modes.put t.modes ++ code.put t.code))
  unfolding rest_of struct_of
  rest-is =
      let fits = table_fits t stands in
      ap₂ (λ (a b : List ℕ). a ++ b) (drivers-is (12 * driver_room) t.drivers fits.driven)
      (ap₂ (λ (a b : List ℕ). a ++ b) (guards-is (6 * guard_room) t.guards fits.guarded (guards-known t refers))
      (ap₂ (λ (a b : List ℕ). a ++ b) (modes-is mode_room (3 * mode_room) t.modes fits.moded) (code_is (3 * code_room) t.code fits.coded)))

  body_is : body_of (struct_of t) ≡ body t
  unfolding body_of struct_of body version_of table_by byte
  body_is =
      ap₂ (λ (a b : List ℕ). a ++ b) ports-are
      (ap₂ (λ (a b : List ℕ). a ++ b)
      (tasks-is (2 * task_room) all_port_room board_room (4 * task_room) t.sensors t.actuators t.tasks (tasks-stand t.tasks (table-parts t stands).1))
      rest-is)
      ∙ simp append_assoc (ap (λ (l : List ℕ). 1 ∷ l) (sym (table-put t)))

  -- what is written is the file, in a buffer that has room for the longest
  pub file-is : file_of 71364 (struct_of t) ≡ encode t
  unfolding file_of framed encode sound
  file-is =
      let few = body-room t (and_left _ _ good) in
      ap (λ (l : List ℕ). quad_of (length (take 71360 l)) ++ take 71360 l) body_is
      ∙ ap (λ (l : List ℕ). quad_of (length l) ++ l) (take_all 71360 (body t) few)
      ∙ ap (λ (l : List ℕ). l ++ body t) (quad_is (length (body t)) (omega arith))
