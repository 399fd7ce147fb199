-- What the judging pass knows at a place of the text beside the names, and what each item adds to it.
use Rattle.std.specs.Prelude.{ℕ, ◌+◌, ◌-◌, min, List, Bool, false, cond, ◌||◌, ltb}
use Rattle.text.specs.declared.Name.{Name}
use Rattle.text.specs.declared.Item.{Item}
use Rattle.text.specs.declared.Item.TheVariants as I
use Rattle.model.specs.Rooms.{activity_room}
use Rattle.model.specs.Values.{function_by, operands_of}
use Rattle.refusals.specs.declared.Row.{Row}
use Rattle.refusals.specs.Names.{no_type}
use Rattle.refusals.specs.Values.{number_of}
use Rattle.refusals.specs.Ports.{task_named, argument_named}
use Rattle.refusals.specs.Activities.{function_named}
use Rattle.activities.specs.Kept.{period_kept}
use Rattle.activities.specs.Operands.{operand_type, settled}
use Rattle.noting.specs.declared.Known.{Known}

-- at the beginning of the text
abbrev pub nothing_known : Known
nothing_known = record { started = false; period = 0; frequency = 0; calls = 0; updates = 0; activities = 0; operand = no_type; left = 0; task = 0; index = 0 }

-- one more, up to a limit
abbrev pub one_more : ℕ → ℕ → ℕ
one_more limit number = cond (ltb number limit) (number + 1) number

-- the rows that the table of names has room for
abbrev pub row_room : ℕ
row_room = 424

-- a mode begins: it has no activities yet
abbrev pub begun_by : List ℕ → Known → Bool → Name → Bool → Known
begun_by s known start digits milli = record { started = known.started || start; period = period_kept s digits milli; frequency = known.frequency; calls = 0; updates = 0; activities = 0; operand = known.operand; left = known.left; task = known.task; index = known.index }

-- an activity of this frequency
abbrev pub headed_by : List ℕ → Known → Name → Known
headed_by s known digits = record { started = known.started; period = known.period; frequency = min (number_of s digits) 4294967296; calls = known.calls; updates = known.updates; activities = known.activities; operand = known.operand; left = known.left; task = known.task; index = known.index }

-- a guard of this number: the type of its operands, and how many they are
abbrev pub guarded_by : Known → ℕ → Known
guarded_by known number = record { started = known.started; period = known.period; frequency = known.frequency; calls = known.calls; updates = known.updates; activities = known.activities; operand = operand_type (function_by number); left = operands_of (function_by number); task = known.task; index = known.index }

-- an operand of this type: what is left open has it
abbrev pub operated_by : Known → ℕ → Known
operated_by known type = record { started = known.started; period = known.period; frequency = known.frequency; calls = known.calls; updates = known.updates; activities = known.activities; operand = settled type known.operand; left = known.left - 1; task = known.task; index = known.index }

-- the task of this number is invoked; its first argument comes next
abbrev pub invoked_by : Known → ℕ → Known
invoked_by known task = record { started = known.started; period = known.period; frequency = known.frequency; calls = one_more activity_room known.calls; updates = known.updates; activities = one_more activity_room known.activities; operand = known.operand; left = known.left; task = task; index = 0 }

-- an argument of a task
abbrev pub argued_by : Known → Known
argued_by known = record { started = known.started; period = known.period; frequency = known.frequency; calls = known.calls; updates = known.updates; activities = known.activities; operand = known.operand; left = known.left; task = known.task; index = one_more row_room known.index }

-- an actuator is updated
abbrev pub updated_by : Known → Known
updated_by known = record { started = known.started; period = known.period; frequency = known.frequency; calls = known.calls; updates = one_more activity_room known.updates; activities = one_more activity_room known.activities; operand = known.operand; left = known.left; task = known.task; index = known.index }

-- a switch
abbrev pub switched_by : Known → Known
switched_by known = record { started = known.started; period = known.period; frequency = known.frequency; calls = known.calls; updates = known.updates; activities = one_more activity_room known.activities; operand = known.operand; left = known.left; task = known.task; index = known.index }

-- what is known behind an item
abbrev pub noted_by : List ℕ → List Row → Known → Item → Known
noted_by s rows known (I.Module name) = known
noted_by s rows known I.Section = known
noted_by s rows known (I.Constant name value) = known
noted_by s rows known (I.Sensor typ name getter) = known
noted_by s rows known (I.Actuator typ name value setter) = known
noted_by s rows known (I.TaskBegin name) = known
noted_by s rows known (I.Input typ name) = known
noted_by s rows known (I.Output typ name value) = known
noted_by s rows known (I.TaskEnd name) = known
noted_by s rows known (I.ModeBegin start at name digits milli) = begun_by s known start digits milli
noted_by s rows known (I.Activity kind at digits) = headed_by s known digits
noted_by s rows known (I.Guard name arguments) = guarded_by known (function_named s name)
noted_by s rows known (I.GuardArg port) = operated_by known (argument_named s rows port).typ
noted_by s rows known (I.Invoke task arguments) = invoked_by known (task_named s rows task).value
noted_by s rows known (I.Arg port) = argued_by known
noted_by s rows known (I.Update actuator source) = updated_by known
noted_by s rows known (I.Switch name) = switched_by known
noted_by s rows known I.ModeEnd = known
noted_by s rows known I.ModuleEnd = known
noted_by s rows known I.End = known
noted_by s rows known (I.No number at) = known
