-- What is known of the module while its text is read. It grows behind a refusal too.
use Rattle.std.specs.Prelude.{ℕ, List, [], ◌∷◌, ◌++◌, Bool, false, cond, ◌||◌, eqb, length, get_or, drop}
use Rattle.std.proofs.Math.Option.{Option, none, some}
use Rattle.text.specs.declared.Item.{Item}
use Rattle.text.specs.declared.Item.TheVariants as I
use Rattle.model.specs.declared.Function.{Function}
use Rattle.model.specs.declared.Guard.{Guard}
use Rattle.model.specs.declared.Operand.{Operand}
use Rattle.model.specs.declared.Operand.TheVariants as O
use Rattle.model.specs.Values.{function_by, no_operand, value_of}
use Rattle.model.specs.Modules.{Sensor, Actuator, Output, Task, Act, Call, Update, Mode, Module, no_task}
use Rattle.refusals.specs.declared.Row.{Row}
use Rattle.refusals.specs.Names.{letters, constant_sort}
use Rattle.refusals.specs.Values.{type_named, literal_word, number_of}
use Rattle.refusals.specs.Ports.{task_named, port_named, argument_named}
use Rattle.refusals.specs.Activities.{period_at, function_named, guard_types, types_left, input_types, actuator_named, mode_named}

-- the activity under way: its frequency, its guard's function and operands, and the types of the arguments that are still to come
pub record Doing : Type 0 where
  pub frequency : ℕ
  pub function : Option Function
  pub operands : List Operand
  pub wanted : List ℕ

-- the module so far, the task and the mode under way, the activity under way, and whether a start mode was seen
pub record Draft : Type 0 where
  pub built : Module
  pub task : Task
  pub mode : Mode
  pub doing : Doing
  pub started : Bool

-- a mode before anything is known of it
abbrev pub no_mode : Mode
no_mode = record { name = []; start = false; period = 0; calls = []; updates = []; switches = [] }

-- an activity before anything is known of it
abbrev pub idle : Doing
idle = record { frequency = 0; function = none; operands = []; wanted = [] }

-- the module before its first item
abbrev pub blank : Draft
blank =
    record {
      built = record { name = []; sensors = []; actuators = []; tasks = []; guards = []; modes = [] };
      task = no_task;
      mode = no_mode;
      doing = idle;
      started = false;
    }

-- ---- one part changed

-- the draft with another module so far
abbrev pub with_built : Draft → Module → Draft
with_built draft built = record { built = built; task = draft.task; mode = draft.mode; doing = draft.doing; started = draft.started }

-- the draft with another task at hand
abbrev pub with_task : Draft → Task → Draft
with_task draft task = record { built = draft.built; task = task; mode = draft.mode; doing = draft.doing; started = draft.started }

-- the draft with another mode at hand
abbrev pub with_mode : Draft → Mode → Draft
with_mode draft mode = record { built = draft.built; task = draft.task; mode = mode; doing = draft.doing; started = draft.started }

-- the draft with another activity at hand
abbrev pub with_doing : Draft → Doing → Draft
with_doing draft doing = record { built = draft.built; task = draft.task; mode = draft.mode; doing = doing; started = draft.started }

-- ---- one more of the module

-- the module with its name
abbrev pub with_name : Module → List ℕ → Module
with_name m name = record { name = name; sensors = m.sensors; actuators = m.actuators; tasks = m.tasks; guards = m.guards; modes = m.modes }

-- the module with one more sensor
abbrev pub with_sensor : Module → Sensor → Module
with_sensor m sensor = record { name = m.name; sensors = m.sensors ++ (sensor ∷ []); actuators = m.actuators; tasks = m.tasks; guards = m.guards; modes = m.modes }

-- the module with one more actuator
abbrev pub with_actuator : Module → Actuator → Module
with_actuator m actuator = record { name = m.name; sensors = m.sensors; actuators = m.actuators ++ (actuator ∷ []); tasks = m.tasks; guards = m.guards; modes = m.modes }

-- the module with one more task
abbrev pub with_task_done : Module → Task → Module
with_task_done m task = record { name = m.name; sensors = m.sensors; actuators = m.actuators; tasks = m.tasks ++ (task ∷ []); guards = m.guards; modes = m.modes }

-- the module with more guards
abbrev pub with_guards : Module → List Guard → Module
with_guards m guards = record { name = m.name; sensors = m.sensors; actuators = m.actuators; tasks = m.tasks; guards = m.guards ++ guards; modes = m.modes }

-- the module with one more mode
abbrev pub with_mode_done : Module → Mode → Module
with_mode_done m mode = record { name = m.name; sensors = m.sensors; actuators = m.actuators; tasks = m.tasks; guards = m.guards; modes = m.modes ++ (mode ∷ []) }

-- ---- one more of the mode under way

-- the mode with one more task invoked
abbrev pub with_call : Mode → Act Call → Mode
with_call mode call =
    record { name = mode.name; start = mode.start; period = mode.period; calls = mode.calls ++ (call ∷ []); updates = mode.updates; switches = mode.switches }

-- the mode with one more actuator updated
abbrev pub with_update : Mode → Act Update → Mode
with_update mode update =
    record { name = mode.name; start = mode.start; period = mode.period; calls = mode.calls; updates = mode.updates ++ (update ∷ []); switches = mode.switches }

-- the mode with one more switch
abbrev pub with_switch : Mode → Act ℕ → Mode
with_switch mode switch =
    record { name = mode.name; start = mode.start; period = mode.period; calls = mode.calls; updates = mode.updates; switches = mode.switches ++ (switch ∷ []) }

-- one source more for the last call
abbrev pub sourced : ℕ → Act Call → Act Call
sourced source call =
    record { frequency = call.frequency; guard = call.guard; what = record { task = call.what.task; sources = call.what.sources ++ (source ∷ []) } }

-- the last task invoked gets one more source
unfoldable pub last_sourced : ℕ → List (Act Call) → List (Act Call)
last_sourced source [] = []
last_sourced source (call ∷ []) = sourced source call ∷ []
last_sourced source (call ∷ next ∷ calls) = call ∷ last_sourced source (next ∷ calls)

-- the mode with one more source for the task invoked last
abbrev pub with_source : Mode → ℕ → Mode
with_source mode source =
    record { name = mode.name; start = mode.start; period = mode.period; calls = last_sourced source mode.calls; updates = mode.updates; switches = mode.switches }

-- ---- the activity under way

-- a guard's operand is a port or a fixed value
abbrev pub operand_of : Row → Operand
operand_of row = cond (eqb row.sort constant_sort) (O.Fixed (value_of row.typ row.value)) (O.Port row.value)

-- its guard: none or one, and its number where others stand before it
abbrev pub guard_of : Option Function → List Operand → List Guard
guard_of none operands = []
guard_of (some function) operands = record { function = function; first = get_or operands 0 no_operand; second = get_or operands 1 no_operand } ∷ []

-- a guard's number: as many as stand before it
abbrev pub guard_number : Option Function → ℕ → Option ℕ
guard_number none before = none
guard_number (some function) before = some before

-- the activity at hand: its frequency, its guard, what it does
abbrev pub acting : {A : Type 0} → Draft → A → Act A
acting draft what =
    record { frequency = draft.doing.frequency; guard = guard_number draft.doing.function (length draft.built.guards); what = what }

-- the draft behind what an activity does
abbrev pub acted : Draft → Mode → List ℕ → Draft
acted draft mode wanted =
    record {
      built = with_guards draft.built (guard_of draft.doing.function draft.doing.operands);
      task = draft.task;
      mode = mode;
      doing = record { frequency = draft.doing.frequency; function = none; operands = []; wanted = wanted };
      started = draft.started;
    }

-- one operand more for its guard
abbrev pub with_operand : Doing → Row → Doing
with_operand doing row =
    record { frequency = doing.frequency; function = doing.function; operands = doing.operands ++ (operand_of row ∷ []); wanted = types_left row.typ doing.wanted }

-- the activity with the types still wanted
abbrev pub with_wanted : Doing → List ℕ → Doing
with_wanted doing wanted = record { frequency = doing.frequency; function = doing.function; operands = doing.operands; wanted = wanted }

-- ---- each item

-- a task of which the name is known
abbrev pub new_task : List ℕ → Task
new_task name = record { name = name; function = []; inputs = []; outputs = [] }

-- the task with one more input
abbrev pub with_input : Task → ℕ → Task
with_input task type = record { name = task.name; function = task.function; inputs = task.inputs ++ (type ∷ []); outputs = task.outputs }

-- the task with one more output
abbrev pub with_output : Task → Output → Task
with_output task output = record { name = task.name; function = task.function; inputs = task.inputs; outputs = task.outputs ++ (output ∷ []) }

-- the task with the host's function
abbrev pub with_function : Task → List ℕ → Task
with_function task function = record { name = task.name; function = function; inputs = task.inputs; outputs = task.outputs }

-- the draft behind an item; `all` are the rows of the whole text, among which a switch finds its target
abbrev pub drafted : List ℕ → List Row → List Row → Draft → Item → Draft
drafted s all rows draft (I.Module name) = with_built draft (with_name draft.built (letters s name))
drafted s all rows draft I.Section = draft
drafted s all rows draft (I.Constant name value) = draft
drafted s all rows draft (I.Sensor typ name getter) =
    with_built draft (with_sensor draft.built (record { name = letters s name; type = type_named s typ; getter = letters s getter }))
drafted s all rows draft (I.Actuator typ name value setter) =
    with_built draft (with_actuator draft.built (record { name = letters s name; type = type_named s typ; start = literal_word s rows value; setter = letters s setter }))
drafted s all rows draft (I.TaskBegin name) = with_task draft (new_task (letters s name))
drafted s all rows draft (I.Input typ name) = with_task draft (with_input draft.task (type_named s typ))
drafted s all rows draft (I.Output typ name value) =
    with_task draft (with_output draft.task (record { name = letters s name; type = type_named s typ; start = literal_word s rows value }))
drafted s all rows draft (I.TaskEnd name) = with_built draft (with_task_done draft.built (with_function draft.task (letters s name)))
drafted s all rows draft (I.ModeBegin start at name digits milli) =
    record {
      built = draft.built;
      task = draft.task;
      mode = record { name = letters s name; start = start; period = period_at s digits milli; calls = []; updates = []; switches = [] };
      doing = draft.doing;
      started = draft.started || start;
    }
drafted s all rows draft (I.Activity kind at digits) = with_doing draft (record { frequency = number_of s digits; function = none; operands = []; wanted = [] })
drafted s all rows draft (I.Guard name arguments) =
    let number = function_named s name in
    with_doing draft (record { frequency = draft.doing.frequency; function = some (function_by number); operands = []; wanted = guard_types number arguments })
drafted s all rows draft (I.GuardArg port) = with_doing draft (with_operand draft.doing (argument_named s rows port))
drafted s all rows draft (I.Invoke task arguments) =
    let row = task_named s rows task in
    acted draft (with_call draft.mode (acting draft (record { task = row.value; sources = [] }))) (input_types rows row arguments)
drafted s all rows draft (I.Arg port) =
    with_doing (with_mode draft (with_source draft.mode (port_named s rows port).value)) (with_wanted draft.doing (drop 1 draft.doing.wanted))
drafted s all rows draft (I.Update actuator source) =
    acted draft (with_update draft.mode (acting draft (record { source = (port_named s rows source).value; target = (actuator_named s rows actuator).value }))) []
drafted s all rows draft (I.Switch name) = acted draft (with_switch draft.mode (acting draft (mode_named s all name).value)) []
drafted s all rows draft I.ModeEnd = with_built draft (with_mode_done draft.built draft.mode)
drafted s all rows draft I.ModuleEnd = draft
drafted s all rows draft I.End = draft
drafted s all rows draft (I.No number at) = draft
