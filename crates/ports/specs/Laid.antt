-- What the items of a text have declared so far, as lists: names in their rows, ports by number, the rows of tasks.
use Rattle.std.specs.Prelude.{ℕ, ◌+◌, ◌≤◌, ◌<◌, List, [], ◌∷◌, ◌++◌, length}
use Rattle.model.specs.Rooms.{name_room}
use Rattle.text.specs.declared.Item.{Item}
use Rattle.text.specs.declared.Item.TheVariants as I
use Rattle.file.specs.References.{sensor_role, actuator_role, input_role, output_role}
use Rattle.timing.specs.SlotLaws.{Each}
use Rattle.refusals.specs.declared.Row.{Row}
use Rattle.refusals.specs.Names.{letters}
use Rattle.refusals.specs.Values.{type_named, literal_word}
use Rattle.ports.specs.Boards.{Lanes, lanes_of}

-- the names of the module, of sensors, actuators, tasks and outputs, in the order of their rows
pub record Words : Type 0 where
  pub modules : List (List ℕ)
  pub sensors : List (List ℕ)
  pub actuators : List (List ℕ)
  pub tasks : List (List ℕ)
  pub outputs : List (List ℕ)

-- the five lists together
abbrev pub words_of : List (List ℕ) → List (List ℕ) → List (List ℕ) → List (List ℕ) → List (List ℕ) → Words
words_of modules sensors actuators tasks outputs = record { modules = modules; sensors = sensors; actuators = actuators; tasks = tasks; outputs = outputs }

-- the first port of the task under way, its inputs and its outputs
pub record Under : Type 0 where
  pub first : ℕ
  pub inputs : ℕ
  pub outputs : ℕ

-- the three numbers together
abbrev pub under_of : ℕ → ℕ → ℕ → Under
under_of first inputs outputs = record { first = first; inputs = inputs; outputs = outputs }

-- names, ports, rows of tasks, and the task under way
pub record Laid : Type 0 where
  pub words : Words
  pub lanes : Lanes
  pub rows : List (List ℕ)
  pub under : Under

-- the four parts together
abbrev pub laid : Words → Lanes → List (List ℕ) → Under → Laid
laid words lanes rows under = record { words = words; lanes = lanes; rows = rows; under = under }

-- before the first item
abbrev pub bare : Laid
bare = laid (words_of [] [] [] [] []) (lanes_of [] [] []) [] (under_of 0 0 0)

-- one more name, one more port
abbrev pub also : List (List ℕ) → List ℕ → List (List ℕ)
also names name = names ++ (name ∷ [])

-- one more port: what it is, its type, what it holds at the beginning
abbrev pub lane_also : ℕ → ℕ → ℕ → Lanes → Lanes
lane_also role type start l = lanes_of (l.roles ++ (role ∷ [])) (l.types ++ (type ∷ [])) (l.starts ++ (start ∷ []))

-- first input port, number of inputs, first output port, number of outputs
abbrev pub under_cells : Under → List ℕ
under_cells u = u.first ∷ u.inputs ∷ (u.first + u.inputs) ∷ u.outputs ∷ []

-- what is declared behind an item, where these rows of names stand before it
unfoldable pub laid_by : List ℕ → List Row → Item → Laid → Laid
laid_by s rows (I.Module name) l =
    let w = l.words in
    laid (words_of (also w.modules (letters s name)) w.sensors w.actuators w.tasks w.outputs) l.lanes l.rows l.under
laid_by s rows I.Section l = l
laid_by s rows (I.Constant name value) l = l
laid_by s rows (I.Sensor typ name getter) l =
    let w = l.words in
    laid (words_of w.modules (also (also w.sensors (letters s name)) (letters s getter)) w.actuators w.tasks w.outputs)
    (lane_also sensor_role (type_named s typ) 0 l.lanes) l.rows l.under
laid_by s rows (I.Actuator typ name value setter) l =
    let w = l.words in
    laid (words_of w.modules w.sensors (also (also w.actuators (letters s name)) (letters s setter)) w.tasks w.outputs)
    (lane_also actuator_role (type_named s typ) (literal_word s rows value) l.lanes) l.rows l.under
laid_by s rows (I.TaskBegin name) l =
    let w = l.words in
    laid (words_of w.modules w.sensors w.actuators (also w.tasks (letters s name)) w.outputs) l.lanes l.rows (under_of (length l.lanes.types) 0 0)
laid_by s rows (I.Input typ name) l =
    laid l.words (lane_also input_role (type_named s typ) 0 l.lanes) l.rows (under_of l.under.first (l.under.inputs + 1) l.under.outputs)
laid_by s rows (I.Output typ name value) l =
    let w = l.words in
    laid (words_of w.modules w.sensors w.actuators w.tasks (also w.outputs (letters s name)))
    (lane_also output_role (type_named s typ) (literal_word s rows value) l.lanes) l.rows (under_of l.under.first l.under.inputs (l.under.outputs + 1))
laid_by s rows (I.TaskEnd function) l =
    let w = l.words in
    laid (words_of w.modules w.sensors w.actuators (also w.tasks (letters s function)) w.outputs) l.lanes (l.rows ++ (under_cells l.under ∷ [])) l.under
laid_by s rows (I.ModeBegin start at name digits milli) l = l
laid_by s rows (I.Activity kind at digits) l = l
laid_by s rows (I.Guard name arguments) l = l
laid_by s rows (I.GuardArg port) l = l
laid_by s rows (I.Invoke task arguments) l = l
laid_by s rows (I.Arg port) l = l
laid_by s rows (I.Update actuator source) l = l
laid_by s rows (I.Switch name) l = l
laid_by s rows I.ModeEnd l = l
laid_by s rows I.ModuleEnd l = l
laid_by s rows I.End l = l
laid_by s rows (I.No number at) l = l

-- ---- within the rooms (document 01, 'Room on the board')

-- names of at most 32 bytes, and no more than there is room for
pub record NamesWithin (room : ℕ) (names : List (List ℕ)) : Type 0 where
  pub short : Each (λ name. length name ≤ name_room) names
  pub few : length names ≤ room

-- room for every name, port, value and row
pub record Within (l : Laid) : Type 0 where
  pub title : NamesWithin 1 l.words.modules
  pub sensors : NamesWithin 64 l.words.sensors
  pub actuators : NamesWithin 64 l.words.actuators
  pub tasks : NamesWithin 64 l.words.tasks
  pub outputs : NamesWithin 128 l.words.outputs
  pub ports : length l.lanes.types ≤ 320
  pub starts : Each (λ word. word < 4294967296) l.lanes.starts
  pub rows : length l.rows ≤ 32
