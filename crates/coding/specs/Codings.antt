-- The table that the code of its modes is put into, for every table and all rows.
use Rattle.std.specs.Prelude.{ℕ, ◌+◌, ◌*◌, ◌<◌, ◌≤◌, ◌≡◌, refl, List, [], ◌∷◌, length, get_or, set, drop}
use Rattle.std.proofs.Common.{add-one, arith, sym, ◌∙◌, drop_of_length-le, drop-cons}
use Rattle.std.proofs.Math.Path.{ap}
use Rattle.std.proofs.lemmas.List.Edits.{sets}
use Rattle.model.specs.Rooms.{code_room, mode_room}
use Rattle.model.specs.Modules.{each}
use Rattle.model.specs.Instructions.{Instr}
use Rattle.layout.specs.Rows.{zeros}
use Rattle.tables.specs.declared.Table.{Table as Plain}
use Rattle.emit.specs.Rows.{code_by, begins_by, instruction_cells, Generated}
use Rattle.emit.specs.GeneratedLaws.{whole_code, whole-begins}

-- places of the code in the last cells of the modes' rows, the first in row k
unfoldable pub begun_from : List ℕ → ℕ → List ℕ → List ℕ
begun_from rows k [] = rows
begun_from rows k (begin ∷ begins) = begun_from (set rows (k * 3 + 2) begin) (k + 1) begins

-- a table with so many instructions, these rows of modes and this code
abbrev pub with_code : Plain → ℕ → List ℕ → List ℕ → Plain
with_code t count heads code =
    record {
      sensors = t.sensors;
      actuators = t.actuators;
      tasks = t.tasks;
      drivers = t.drivers;
      guards = t.guards;
      modes = t.modes;
      instructions = count;
      name = t.name;
      sensor_names = t.sensor_names;
      actuator_names = t.actuator_names;
      task_names = t.task_names;
      output_names = t.output_names;
      mode_names = t.mode_names;
      roles = t.roles;
      types = t.types;
      starts = t.starts;
      task_rows = t.task_rows;
      driver_rows = t.driver_rows;
      guard_rows = t.guard_rows;
      mode_rows = heads;
      code = code;
    }

-- a table with this code, whose modes begin at these places
abbrev pub whole_of : Plain → List Instr → List ℕ → Plain
whole_of t code begins = with_code t (length code) (begun_from t.mode_rows 0 (sets (zeros mode_room) 0 begins)) (sets (zeros (3 * code_room)) 0 (each instruction_cells code))

-- What is put into the arrays of code and of modes for rows of modes and activities: the code that fits, and where it begins in the last cell of each mode's row; and how many instructions there are.
pub record Coded (modes acts : List ℕ) (n tasks : ℕ) (code heads code' heads' : List ℕ) (count : ℕ) : Type 0 where
  pub begins : List ℕ
  pub made : Generated modes acts n tasks code (zeros mode_room) code' begins count
  pub begun : heads' ≡ begun_from heads 0 begins

-- ---- what is whole

-- a table whose code fits: with the arrays as they then are it has it whole
module _ (t : Plain) {modes acts code' heads' : List ℕ} {count : ℕ} (c : Coded modes acts t.modes t.tasks (zeros (3 * code_room)) t.mode_rows code' heads' count) where
  pub whole : count ≤ code_room → with_code t count heads' code' ≡ whole_of t (code_by modes acts t.modes t.tasks) (begins_by modes acts t.modes t.tasks)
  whole h =
      let p = c.begun ∙ ap (begun_from t.mode_rows 0) (whole-begins c.made h) in
      rw (c.made.size, p, whole_code c.made h) refl

-- ---- mode by mode

module _ (rows : List ℕ) (k : ℕ) (begins : List ℕ) where
  pub begun-on : k < length begins → begun_from (set rows (k * 3 + 2) (get_or begins k 0)) (k + 1) (drop (k + 1) begins) ≡ begun_from rows k (drop k begins)
  unfolding begun_from
  begun-on h =
      ap (λ (n : ℕ). begun_from (set rows (k * 3 + 2) (get_or begins k 0)) (k + 1) (drop n begins)) (add-one k)
      ∙ ap (begun_from rows k) (sym (drop-cons begins k 0 h))

  pub begun_all : length begins ≤ k → begun_from rows k (drop k begins) ≡ rows
  unfolding begun_from
  begun_all h = ap (begun_from rows k) (drop_of_length-le begins h)
