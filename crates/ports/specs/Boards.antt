-- What an item of the text puts into the arrays of a table, whatever stands in them.
use Rattle.std.specs.Prelude.{ℕ, ◌≡◌, ◌+◌, ◌*◌, min, List, [], ◌∷◌, set, take}
use Rattle.std.proofs.Math.Seq.{slice}
use Rattle.model.specs.Rooms.{name_room}
use Rattle.text.specs.declared.Name.{Name}
use Rattle.text.specs.declared.Item.{Item}
use Rattle.text.specs.declared.Item.TheVariants as I
use Rattle.file.specs.References.{sensor_role, actuator_role, input_role, output_role}
use Rattle.layout.specs.Rows.{name_cells}
use Rattle.layout.specs.Filling.{stored}
use Rattle.refusals.specs.declared.Row.{Row}
use Rattle.refusals.specs.Values.{type_named, literal_word}
use Rattle.ports.specs.declared.Ports.{Ports}
use Rattle.ports.specs.declared.Arrays.{Arrays}
use Rattle.ports.specs.declared.rows.Role.{Role}
use Rattle.ports.specs.declared.rows.Role.TheVariants as R

-- ---- numbers and names as the arrays hold them

-- a number as 32 bits hold it: the highest stands for all above it
abbrev pub word : ℕ → ℕ
word number = min number 4294967295

-- one more
abbrev pub more : ℕ → ℕ
more count = word (count + 1)

-- a sum
abbrev pub both : ℕ → ℕ → ℕ
both left right = word (left + right)

-- names 32 bytes: the first of those from a place up to another
unfoldable pub short_part : List ℕ → ℕ → ℕ → List ℕ
short_part s start end = take name_room (slice start end s)

-- the same of a name
abbrev pub short_name : List ℕ → Name → List ℕ
short_name s name = short_part s name.start name.end

-- a name's row: its length, its bytes
abbrev pub name_row : List ℕ → Name → List ℕ
name_row s name = name_cells (short_name s name)

-- the two names of record k
abbrev pub names_put : List ℕ → ℕ → Name → Name → List ℕ → List ℕ
names_put s k first second l = stored (stored l (k * 66) (name_row s first)) (k * 66 + 33) (name_row s second)

-- the name in row k
abbrev pub name_put : List ℕ → ℕ → Name → List ℕ → List ℕ
name_put s k name l = stored l (k * 33) (name_row s name)

-- ---- ports by number

-- what each is, its type, what it holds at the beginning
pub record Lanes : Type 0 where
  pub roles : List ℕ
  pub types : List ℕ
  pub starts : List ℕ

-- the three arrays together
abbrev pub lanes_of : List ℕ → List ℕ → List ℕ → Lanes
lanes_of roles types starts = record { roles = roles; types = types; starts = starts }

-- a port of this number
abbrev pub lane_put : ℕ → ℕ → ℕ → ℕ → Lanes → Lanes
lane_put number role type start l = lanes_of (set l.roles number role) (set l.types number type) (set l.starts number start)

-- ---- what is counted

-- one more sensor, and one more port
abbrev pub sensor_counts : Ports → Ports
sensor_counts p =
    record { sensors = more p.sensors; actuators = p.actuators; tasks = p.tasks; labels = p.labels; titles = p.titles; ports = more p.ports; first = p.first; inputs = p.inputs; outputs = p.outputs }

-- one more actuator, and one more port
abbrev pub actuator_counts : Ports → Ports
actuator_counts p =
    record { sensors = p.sensors; actuators = more p.actuators; tasks = p.tasks; labels = p.labels; titles = p.titles; ports = more p.ports; first = p.first; inputs = p.inputs; outputs = p.outputs }

-- a task begins at the next port, with its name
abbrev pub begin_counts : Ports → Ports
begin_counts p =
    record { sensors = p.sensors; actuators = p.actuators; tasks = p.tasks; labels = more p.labels; titles = p.titles; ports = p.ports; first = p.ports; inputs = 0; outputs = 0 }

-- one more input of the task under way
abbrev pub input_counts : Ports → Ports
input_counts p =
    record { sensors = p.sensors; actuators = p.actuators; tasks = p.tasks; labels = p.labels; titles = p.titles; ports = more p.ports; first = p.first; inputs = more p.inputs; outputs = p.outputs }

-- one more output of the task under way, and one more name
abbrev pub output_counts : Ports → Ports
output_counts p =
    record { sensors = p.sensors; actuators = p.actuators; tasks = p.tasks; labels = p.labels; titles = more p.titles; ports = more p.ports; first = p.first; inputs = p.inputs; outputs = more p.outputs }

-- a task is complete, with its function's name
abbrev pub end_counts : Ports → Ports
end_counts p =
    record { sensors = p.sensors; actuators = p.actuators; tasks = more p.tasks; labels = more p.labels; titles = p.titles; ports = p.ports; first = p.first; inputs = p.inputs; outputs = p.outputs }

-- first input port, number of inputs, first output port, number of outputs
abbrev pub task_row : Ports → List ℕ
task_row p = p.first ∷ p.inputs ∷ both p.first p.inputs ∷ p.outputs ∷ []

-- the row of the task under way, behind those before
abbrev pub row_put : Ports → List ℕ → List ℕ
row_put p l = stored l (p.tasks * 4) (task_row p)

-- ---- all arrays

-- names of the module, of sensors, actuators, tasks and outputs
pub record Titles : Type 0 where
  pub title : List ℕ
  pub sensors : List ℕ
  pub actuators : List ℕ
  pub tasks : List ℕ
  pub outputs : List ℕ

-- the five arrays together
abbrev pub titles_of : List ℕ → List ℕ → List ℕ → List ℕ → List ℕ → Titles
titles_of title sensors actuators tasks outputs = record { title = title; sensors = sensors; actuators = actuators; tasks = tasks; outputs = outputs }

-- what is counted, names, ports, and the rows of tasks
pub record Board : Type 0 where
  pub counts : Ports
  pub names : Titles
  pub lanes : Lanes
  pub rows : List ℕ

-- the four parts together
abbrev pub board : Ports → Titles → Lanes → List ℕ → Board
board counts names lanes rows = record { counts = counts; names = names; lanes = lanes; rows = rows }

-- the same from each array
abbrev pub board_of : Ports → List ℕ → List ℕ → List ℕ → List ℕ → List ℕ → List ℕ → List ℕ → List ℕ → List ℕ → Board
board_of counts title sensors actuators tasks outputs roles types starts rows = board counts (titles_of title sensors actuators tasks outputs) (lanes_of roles types starts) rows

-- the same from the arrays that are lent
abbrev pub board_in : Arrays → Board
board_in a = board_of a.counts a.title.now a.sensors.now a.actuators.now a.tasks.now a.outputs.now a.roles.now a.types.now a.starts.now a.rows.now

-- the same arrays, whatever stands in them
pub record SameArrays (a b : Arrays) : Type 0 where
  pub title : a.title.ghost_name ≡ b.title.ghost_name
  pub sensors : a.sensors.ghost_name ≡ b.sensors.ghost_name
  pub actuators : a.actuators.ghost_name ≡ b.actuators.ghost_name
  pub tasks : a.tasks.ghost_name ≡ b.tasks.ghost_name
  pub outputs : a.outputs.ghost_name ≡ b.outputs.ghost_name
  pub roles : a.roles.ghost_name ≡ b.roles.ghost_name
  pub types : a.types.ghost_name ≡ b.types.ghost_name
  pub starts : a.starts.ghost_name ≡ b.starts.ghost_name
  pub rows : a.rows.ghost_name ≡ b.rows.ghost_name

-- what a port is
abbrev pub role_of : Role → ℕ
role_of R.Sensor = sensor_role
role_of R.Actuator = actuator_role
role_of R.Input = input_role
role_of R.Output = output_role

-- the next port
abbrev pub port_put : ℕ → ℕ → ℕ → Board → Board
port_put role typ start b = board b.counts b.names (lane_put b.counts.ports role typ start b.lanes) b.rows

-- the arrays behind an item, where these rows of names stand before it
unfoldable pub placed_by : List ℕ → List Row → Item → Board → Board
placed_by s rows (I.Module name) b =
    let n = b.names in
    board b.counts (titles_of (stored n.title 0 (name_row s name)) n.sensors n.actuators n.tasks n.outputs) b.lanes b.rows
placed_by s rows I.Section b = b
placed_by s rows (I.Constant name value) b = b
placed_by s rows (I.Sensor typ name getter) b =
    let n = b.names in
    board (sensor_counts b.counts) (titles_of n.title (names_put s b.counts.sensors name getter n.sensors) n.actuators n.tasks n.outputs)
    (lane_put b.counts.ports sensor_role (type_named s typ) 0 b.lanes) b.rows
placed_by s rows (I.Actuator typ name value setter) b =
    let n = b.names in
    board (actuator_counts b.counts) (titles_of n.title n.sensors (names_put s b.counts.actuators name setter n.actuators) n.tasks n.outputs)
    (lane_put b.counts.ports actuator_role (type_named s typ) (word (literal_word s rows value)) b.lanes) b.rows
placed_by s rows (I.TaskBegin name) b =
    let n = b.names in
    board (begin_counts b.counts) (titles_of n.title n.sensors n.actuators (name_put s b.counts.labels name n.tasks) n.outputs) b.lanes b.rows
placed_by s rows (I.Input typ name) b = board (input_counts b.counts) b.names (lane_put b.counts.ports input_role (type_named s typ) 0 b.lanes) b.rows
placed_by s rows (I.Output typ name value) b =
    let n = b.names in
    board (output_counts b.counts) (titles_of n.title n.sensors n.actuators n.tasks (name_put s b.counts.titles name n.outputs))
    (lane_put b.counts.ports output_role (type_named s typ) (word (literal_word s rows value)) b.lanes) b.rows
placed_by s rows (I.TaskEnd function) b =
    let n = b.names in
    board (end_counts b.counts) (titles_of n.title n.sensors n.actuators (name_put s b.counts.labels function n.tasks) n.outputs) b.lanes
    (row_put b.counts b.rows)
placed_by s rows (I.ModeBegin start at name digits milli) b = b
placed_by s rows (I.Activity kind at digits) b = b
placed_by s rows (I.Guard name arguments) b = b
placed_by s rows (I.GuardArg port) b = b
placed_by s rows (I.Invoke task arguments) b = b
placed_by s rows (I.Arg port) b = b
placed_by s rows (I.Update actuator source) b = b
placed_by s rows (I.Switch name) b = b
placed_by s rows I.ModeEnd b = b
placed_by s rows I.ModuleEnd b = b
placed_by s rows I.End b = b
placed_by s rows (I.No number at) b = b
