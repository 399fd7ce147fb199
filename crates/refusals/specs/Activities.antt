-- Modes and their activities: the rules 4 and 6 to 12 that they must keep.
use Rattle.std.specs.Prelude.{ℕ, ◌*◌, ◌+◌, List, [], ◌∷◌, map, Bool, cond, ◌&&◌, eqb, ltb, length, drop}
use Rattle.text.specs.declared.Name.{Name}
use Rattle.model.specs.Bytes.{place_in}
use Rattle.model.specs.Rooms.{period_room, frequency_room, activity_room}
use Rattle.model.specs.Values.{int, boolean, function_names, function_by, operands_of}
use Rattle.model.specs.declared.Function.{Function}
use Rattle.model.specs.declared.Function.TheVariants.{IsTrue, IsFalse, Less, Equal}
use Rattle.model.specs.Modules.{Mode}
use Rattle.refusals.specs.declared.Row.{Row}
use Rattle.refusals.specs.Checks.{Check}
use Rattle.refusals.specs.Names.{letters, named, module_scope, task_scope, actuator_sort, mode_sort, input_sort, no_type, is_known, count, types, is_port_of}
use Rattle.refusals.specs.Refusals.{long_name, not_here, not_given, wrong_number, beyond, out_of_range, period_undivided, task_cut, acts_twice, full, second_start, no_start}
use Rattle.refusals.specs.Values.{number_of}

-- ---- a mode

-- a period after conversion, in microseconds
abbrev pub period_at : List ℕ → Name → Bool → ℕ
period_at s digits milli = cond milli (number_of s digits * 1000) (number_of s digits)

-- a mode's start: 12 at a second start mode
unfoldable pub start_rules : Bool → Bool → ℕ → List Check
start_rules started start at = second_start (start && started) at ∷ []

-- a mode's period: 8 where it is 0 or too long
unfoldable pub period_rules : List ℕ → Name → Bool → List Check
period_rules s digits milli = out_of_range (beyond period_room (period_at s digits milli)) digits ∷ []

-- ---- an activity's head

-- an activity's kind: 2 a task invoked, 3 an actuator updated, 4 a switch of the mode
abbrev pub switch_kind : ℕ
switch_kind = 4

-- what a mode has so far: its activities; the frequencies of the tasks invoked, and which; the actuators updated
abbrev pub activities_in : Mode → ℕ
activities_in mode = length mode.calls + length mode.updates + length mode.switches

-- the frequencies of the tasks invoked
abbrev pub frequencies_in : Mode → List ℕ
frequencies_in mode = map (λ act. act.frequency) mode.calls

-- the tasks invoked
abbrev pub invoked_in : Mode → List ℕ
invoked_in mode = map (λ act. act.what.task) mode.calls

-- the actuators updated
abbrev pub updated_in : Mode → List ℕ
updated_in mode = map (λ act. act.what.target) mode.updates

-- an activity's head: room, range, the period divided, no task cut by a switch
unfoldable pub head_rules : Mode → ℕ → ℕ → ℕ → Name → List Check
head_rules mode kind at frequency digits =
    full activity_room (activities_in mode) at ∷
    out_of_range (beyond frequency_room frequency) digits ∷
    period_undivided mode.period frequency digits ∷
    task_cut (eqb kind switch_kind) (frequencies_in mode) frequency digits ∷
    []

-- ---- a guard

-- the number of guards that are given, and which of them this name is
abbrev pub functions_given : ℕ
functions_given = 4

-- the number of the guard function of a name
abbrev pub function_named : List ℕ → Name → ℕ
function_named s name = place_in function_names 0 (letters s name)

-- Guards: is_true(boolean), is_false(boolean), less(int, int), equal(two of one type).
abbrev pub operand_types : Function → List ℕ
operand_types IsTrue = boolean ∷ []
operand_types IsFalse = boolean ∷ []
operand_types Less = int ∷ int ∷ []
operand_types Equal = no_type ∷ no_type ∷ []

-- a guard's name and the number of its arguments
unfoldable pub guard_rules : ℕ → Name → ℕ → List Check
guard_rules number name arguments =
    long_name name ∷
    not_given functions_given number name ∷
    wrong_number (ltb number functions_given) (operands_of (function_by number)) arguments name ∷
    []

-- the types that its operands must have; none is asked where their number is wrong
abbrev pub guard_types : ℕ → ℕ → List ℕ
guard_types number arguments =
    cond (ltb number functions_given && eqb (operands_of (function_by number)) arguments) (operand_types (function_by number)) []

-- behind an operand of a type, what is left open is that type
abbrev pub types_left : ℕ → List ℕ → List ℕ
types_left type wanted = map (λ left. cond (eqb left no_type) type left) (drop 1 wanted)

-- ---- what an activity does

-- the inputs of a task
abbrev pub inputs_of : Row → Row → Bool
inputs_of task = is_port_of (task_scope task.value) input_sort

-- a task's invocation: its name, not twice in the mode, the number of its arguments
unfoldable pub invoke_rules : List Row → Mode → Row → Name → ℕ → List Check
invoke_rules rows mode task name arguments =
    long_name name ∷
    not_here task name ∷
    wrong_number (is_known task) (count (inputs_of task) rows) arguments name ∷
    acts_twice task (invoked_in mode) name ∷
    []

-- the types that its arguments must have; none is asked where their number is wrong
abbrev pub input_types : List Row → Row → ℕ → List ℕ
input_types rows task arguments =
    cond (is_known task && eqb (count (inputs_of task) rows) arguments) (types (inputs_of task) rows) []

-- the actuator of a name
abbrev pub actuator_named : List ℕ → List Row → Name → Row
actuator_named s rows name = named s rows module_scope actuator_sort name

-- an update's actuator: its name, and not twice in the mode
unfoldable pub actuator_rules : Mode → Row → Name → List Check
actuator_rules mode actuator name = long_name name ∷ not_here actuator name ∷ acts_twice actuator (updated_in mode) name ∷ []

abbrev pub mode_named : List ℕ → List Row → Name → Row
mode_named s rows name = named s rows module_scope mode_sort name

-- a switch's target: the name of a mode
unfoldable pub target_rules : Row → Name → List Check
target_rules mode name = long_name name ∷ not_here mode name ∷ []

-- the module's end: 12 where no mode is the start mode
unfoldable pub end_rules : Bool → ℕ → List Check
end_rules started at = no_start started at ∷ []
