-- Drivers: a row's judgment is the reader's test of the driver that stands there.
use Prim.Native.Nat.{ℕ, zero, suc, ◌+◌, ◌*◌, ◌≤◌, ◌<◌}
use Rattle.std.proofs.Common.{add-zero, zero-add, sym, ◌∙◌, length-append, ltb-true}
use native.Mathlib.Omega.{arith}
use Rattle.std.specs.Prelude.{◌≡◌, refl, Bool, true, false, cond, ◌&&◌, eqb, ltb, take}
use Rattle.std.proofs.Math.Path.{ap, ap₂}
use mathlib.Core.List.{List, [], ◌∷◌, ◌++◌, map}
use Rattle.std.proofs.Math.Dec.{eqb-zero-suc, eqb-suc-zero, eqb-suc-suc}
use Rattle.std.proofs.Math.ListN.{length, get_or, length-map, get_or-append}
use Rattle.std.proofs.Math.Seq.{get_or-append-add}
use Rattle.model.specs.Modules.{Sensor, Actuator, Task, no_task, each, task_types, port_types, task_ports, inputs_at}
use Rattle.model.specs.Instructions.{Driver, updates, releases, terminates, no_driver}
use Rattle.file.specs.Code.{driver}
use Rattle.file.specs.Parts.{all_in}
use Rattle.file.specs.References.{is_source, is_actuator, takes, good_driver}
use Rattle.layout.specs.Rows.{padded, rows}
use Rattle.layout.specs.Plain.{task_cells, task_rows, driver_cells}
use Rattle.layout.specs.Cells.{padded-cell, each-inside, rows-cell, task-row, length-task-rows}
use Rattle.referring.specs.Rows.{every_from, gives_in, serves_one_in, serves_in, good_release_in, good_update_in, good_driver_in, good_drivers_in}
use Rattle.referring.specs.Fits.{Listed, few-sources, driver-width}
use Rattle.referring.specs.Every.{and-true, every-part}

-- ---- Bool

and-under : (a b c : Bool) → (a ≡ true → b ≡ c) → (a && b) ≡ (a && c)
and-under true b c same = same refl
and-under false b c same = refl

turned : (a b c : Bool) → (b && (a && c)) ≡ ((a && b) && c)
turned true b c = refl
turned false true c = refl
turned false false c = refl

behind : (a b c : Bool) → (a && (b && c)) ≡ (b && cond a c false)
behind true b c = refl
behind false true c = refl
behind false false c = refl

-- ---- as many sources as inputs, each of its input's type

takes-from : (roles types : List ℕ) (test : ℕ → Bool) (at : ℕ) (inputs sources : List ℕ)
    → ((j : ℕ) → j < length sources → j < length inputs → test (at + j) ≡ gives_in roles types (get_or sources j 0) (get_or inputs j 0))
    → takes roles types inputs sources ≡ eqb (length sources) (length inputs) && every_from test at (length sources)
unfolding takes every_from gives_in
takes-from roles types test at [] [] same = refl
takes-from roles types test at [] (p ∷ sources) same = rw (eqb-suc-zero (length sources)) refl
takes-from roles types test at (wanted ∷ inputs) [] same = rw (eqb-zero-suc (length inputs)) refl
takes-from roles types test at (wanted ∷ inputs) (p ∷ sources) same =
    let here : test at ≡ gives_in roles types p wanted = ap test (sym (add-zero at)) ∙ same 0 (omega arith) (omega arith) in
    let on =
    takes-from roles types test (at + 1) inputs sources
    (λ j a b. let next : at + 1 + j ≡ at + suc j = omega arith in ap test next ∙ same (suc j) (omega arith) (omega arith)) in
    ap (λ (b : Bool). gives_in roles types p wanted && b) on ∙ behind (gives_in roles types p wanted) (eqb (length sources) (length inputs)) _
    ∙ ap₂ (λ (e g : Bool). e && cond g (every_from test (at + 1) (length sources)) false) (sym (eqb-suc-suc (length sources) (length inputs))) (sym here)

-- ---- the types of a task's inputs

task-types : (task : Task) → length (task_types task) ≡ task_ports task
task-types task = length-append task.inputs _ ∙ ap (λ (n : ℕ). length task.inputs + n) (length-map task.outputs (λ o. o.type))

inputs-at : (at : ℕ) (tasks : List Task) (k : ℕ) → k < length tasks → inputs_at at tasks k ≡ at + length (each task_types (take k tasks))
inputs-at at [] k within = absurd (omega arith)
inputs-at at (task ∷ tasks) zero within = sym (add-zero at)
inputs-at at (task ∷ tasks) (suc k) within =
    inputs-at (at + task_ports task) tasks k (omega arith)
    ∙ omega (arith, task-types task, length-append (task_types task) (each task_types (take k tasks)))

module _ (sensors : List Sensor) (actuators : List Actuator) (tasks : List Task) (k j : ℕ) (within : k < length tasks) where
  pub input-type : j < length (get_or tasks k no_task).inputs
      → get_or (port_types sensors actuators tasks) (inputs_at (length sensors + length actuators) tasks k + j) 0 ≡ get_or (get_or tasks k no_task).inputs j 0
  unfolding port_types
  input-type less =
      let task = get_or tasks k no_task in
      let before = length (each task_types (take k tasks)) in
      let a = map (λ (s : Sensor). s.type) sensors in
      let b = map (λ (s : Actuator). s.type) actuators in
      let place : inputs_at (length sensors + length actuators) tasks k + j ≡ length a + (length b + (before + j)) =
      omega (
        arith,
        inputs-at (length sensors + length actuators) tasks k within,
        length-map sensors (λ (s : Sensor). s.type),
        length-map actuators (λ (s : Actuator). s.type),
      ) in
      let inside : j < length (task_types task) = omega (arith, task-types task) in
      ap (λ (i : ℕ). get_or (a ++ (b ++ each task_types tasks)) i 0) place ∙ get_or-append-add a (b ++ each task_types tasks) (length b + (before + j)) 0
      ∙ get_or-append-add b (each task_types tasks) (before + j) 0 ∙ each-inside task_types no_task 0 tasks k j within inside
      ∙ get_or-append task.inputs _ 0 j less

-- ---- the rows of the tasks

module _ (at size : ℕ) (tasks : List Task) where
  -- the array of the tasks whose first port is `at`
  abbrev pub task_array : List ℕ
  task_array = rows 4 size (λ cells. cells) (task_rows at tasks)

  pub row-width : (k : ℕ) → k < length (task_rows at tasks) → length (get_or (task_rows at tasks) k []) ≤ 4
  row-width k within = let few = length-task-rows at tasks in rw (task-row at tasks k (omega arith)) (omega arith)

  pub task-cell : (k j : ℕ) → k < length tasks → j < 4 → get_or task_array (k * 4 + j) 0 ≡ get_or (task_cells (inputs_at at tasks k) (get_or tasks k no_task)) j 0
  task-cell k j within less =
      let few = length-task-rows at tasks in
      rows-cell 4 size (λ cells. cells) [] (task_rows at tasks) row-width k (omega arith) j less ∙ ap (λ (l : List ℕ). get_or l j 0) (task-row at tasks k within)

  pub task-first : (k : ℕ) → k < length tasks → get_or task_array (k * 4) 0 ≡ inputs_at at tasks k
  task-first k within = ap (λ (i : ℕ). get_or task_array i 0) (sym (add-zero (k * 4))) ∙ task-cell k 0 within (omega arith)

-- ---- one driver

module _ (sensors : List Sensor) (actuators : List Actuator) (tasks : List Task) (roles : List ℕ) (room size : ℕ) where
  abbrev types : List ℕ
  types = port_types sensors actuators tasks

  abbrev array : List ℕ
  array = task_array (length sensors + length actuators) size tasks

  gives-padded : (p wanted : ℕ) → gives_in (padded room roles) (padded room types) p wanted ≡ gives_in roles types p wanted
  unfolding gives_in
  gives-padded p wanted = simp padded-cell

  module _ (drivers : List ℕ) (k : ℕ) where
    -- the row of driver k is a driver's
    pub record Row (d : Driver) : Type 0 where
      pub cell : (j : ℕ) → j < 12 → get_or drivers (k * 12 + j) 0 ≡ get_or (driver_cells d) j 0

    row-tag : {d : Driver} → Row d → get_or drivers (k * 12) 0 ≡ get_or (driver_cells d) 0 0
    row-tag row = ap (λ (i : ℕ). get_or drivers i 0) (sym (add-zero (k * 12))) ∙ row.cell 0 (omega arith)

    update-row : (source target : ℕ) → good_update_in (padded room roles) (padded room types) source target ≡ good_driver roles types tasks (updates source target)
    unfolding good_update_in gives_in good_driver
    update-row source target = simp padded-cell (turned (is_source roles source) (is_actuator roles target) _)

    module _ (task : ℕ) (sources : List ℕ) (row : Row (releases task sources)) (few : length sources ≤ 8) (within : task < length tasks) where
      source_row : (j : ℕ) → j < length sources → j < length (get_or tasks task no_task).inputs
          → serves_one_in (padded room roles) (padded room types) drivers k (inputs_at (length sensors + length actuators) tasks task) (0 + j)
          ≡ gives_in roles types (get_or sources j 0) (get_or (get_or tasks task no_task).inputs j 0)
      unfolding serves_one_in
      source_row j less fewer =
          let place : k * 12 + 3 + (0 + j) ≡ k * 12 + suc (suc (suc j)) = omega arith in
          let first = inputs_at (length sensors + length actuators) tasks task in
          let source = ap (λ (i : ℕ). get_or drivers i 0) place ∙ row.cell (suc (suc (suc j))) (omega arith) in
          let wanted =
          padded-cell room types (first + (0 + j)) ∙ ap (λ (i : ℕ). get_or types (first + i) 0) (zero-add j)
          ∙ input-type sensors actuators tasks task j within fewer in
          ap₂ (gives_in (padded room roles) (padded room types)) source wanted ∙ gives-padded _ _

      release-row : good_release_in (padded room roles) (padded room types) array drivers k ≡ takes roles types (get_or tasks task no_task).inputs sources
      unfolding good_release_in serves_in
      release-row =
          rw (
            row.cell 1 (omega arith),
            row.cell 2 (omega arith),
            task-first (length sensors + length actuators) size tasks task within,
            task-cell (length sensors + length actuators) size tasks task 1 within (omega arith),
          )
          (sym (takes-from roles types _ 0 (get_or tasks task no_task).inputs sources source_row))

    driver-row : (d : Driver) → driver.ok d ≡ true → Row d
        → good_driver_in (padded room roles) (padded room types) array drivers (length tasks) k ≡ good_driver roles types tasks d
    unfolding good_driver_in good_driver
    driver-row (updates source target) fine row = rw (row-tag row, row.cell 1 (omega arith), row.cell 3 (omega arith)) (update-row source target)
    driver-row (releases task sources) fine row =
        rw (row-tag row, row.cell 1 (omega arith))
        (and-under (ltb task (length tasks)) _ _ (λ within. release-row task sources row (few-sources task sources fine) (ltb-true _ _ within)))
    driver-row (terminates task) fine row = rw (row-tag row, row.cell 1 (omega arith)) (and-true (ltb task (length tasks)))

  -- every row's judgment is the reader's test of its driver
  pub drivers-agree : (most : ℕ) (ds : List Driver) → Listed driver most ds
      → (span : ℕ) → good_drivers_in (padded room roles) (padded room types) array (rows 12 span driver_cells ds) (length tasks) (length ds) ≡ all_in (good_driver roles types tasks) ds
  unfolding good_drivers_in
  drivers-agree most ds listed span =
      every-part (good_driver roles types tasks) no_driver _ ds (λ k within.
      driver-row (rows 12 span driver_cells ds) k (get_or ds k no_driver) (listed.fine no_driver k within) (record {
        cell = λ j less. rows-cell 12 span driver_cells no_driver ds (λ i inside. driver-width (get_or ds i no_driver) (listed.fine no_driver i inside)) k within j less;
      }))
