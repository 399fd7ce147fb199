-- Document 01, 'When the compiler says no', 4 to 12: what each item of a text must keep, and what the text is refused for.
use Rattle.std.specs.Prelude.{ℕ, List, [], ◌∷◌, ◌++◌, length, get_or}
use Rattle.text.specs.declared.Item.{Item}
use Rattle.text.specs.declared.Item.TheVariants as I
use Rattle.refusals.specs.declared.Row.{Row}
use Rattle.refusals.specs.Checks.{Check}
use Rattle.refusals.specs.Names.{constant_sort, sensor_sort, actuator_sort, task_sort, mode_sort, input_sort, output_sort, no_type}
use Rattle.refusals.specs.Refusals.{long_name}
use Rattle.refusals.specs.Values.{number_of, type_named, type_rules, value_rules}
use Rattle.refusals.specs.Declarations.{declares, new_rules, new_port_rules}
use Rattle.refusals.specs.Ports.{task_named, port_rules, argument_rules}
use Rattle.refusals.specs.Activities.{start_rules, period_rules, head_rules, function_named, guard_rules, invoke_rules, actuator_named, actuator_rules, mode_named, target_rules, end_rules}
use Rattle.refusals.specs.Draft.{Draft, blank, drafted}

-- what is known before an item: the names declared, and the module so far
pub record Env : Type 0 where
  pub rows : List Row
  pub draft : Draft

-- before the first item nothing is known
abbrev pub nothing : Env
nothing = record { rows = []; draft = blank }

-- what is known behind an item
abbrev pub grow : List ℕ → List Row → Env → Item → Env
grow s all env item = record { rows = env.rows ++ declares s env.rows item; draft = drafted s all env.rows env.draft item }

-- the type that the next argument must have
abbrev pub wanted_next : Env → ℕ
wanted_next env = get_or env.draft.doing.wanted 0 no_type

-- what an item must keep, in text order; `all` are the rows of the whole text
abbrev pub rules : List ℕ → List Row → Env → Item → List Check
rules s all env (I.Module name) = long_name name ∷ []
rules s all env I.Section = []
rules s all env (I.Constant name value) = new_rules s env.rows constant_sort name ++ value_rules s env.rows no_type value
rules s all env (I.Sensor typ name getter) = type_rules s typ ++ (new_rules s env.rows sensor_sort name ++ (long_name getter ∷ []))
rules s all env (I.Actuator typ name value setter) =
    type_rules s typ ++ (new_rules s env.rows actuator_sort name ++ (value_rules s env.rows (type_named s typ) value ++ (long_name setter ∷ [])))
rules s all env (I.TaskBegin name) = new_rules s env.rows task_sort name
rules s all env (I.Input typ name) = type_rules s typ ++ new_port_rules s env.rows input_sort name
rules s all env (I.Output typ name value) = type_rules s typ ++ (new_port_rules s env.rows output_sort name ++ value_rules s env.rows (type_named s typ) value)
rules s all env (I.TaskEnd name) = long_name name ∷ []
rules s all env (I.ModeBegin start at name digits milli) =
    start_rules env.draft.started start at ++ (new_rules s env.rows mode_sort name ++ period_rules s digits milli)
rules s all env (I.Activity kind at digits) = head_rules env.draft.mode kind at (number_of s digits) digits
rules s all env (I.Guard name arguments) = guard_rules (function_named s name) name arguments
rules s all env (I.GuardArg port) = argument_rules s env.rows (wanted_next env) port
rules s all env (I.Invoke task arguments) = invoke_rules env.rows env.draft.mode (task_named s env.rows task) task arguments
rules s all env (I.Arg port) = port_rules s env.rows (wanted_next env) port
rules s all env (I.Update actuator source) =
    let row = actuator_named s env.rows actuator in
    actuator_rules env.draft.mode row actuator ++ port_rules s env.rows row.typ source
rules s all env (I.Switch name) = target_rules (mode_named s all name) name
rules s all env I.ModeEnd = []
rules s all env I.ModuleEnd = []
rules s all env I.End = end_rules env.draft.started (length s)
rules s all env (I.No number at) = []

-- all that some items must keep, and what is known behind them
unfoldable pub rules_from : List ℕ → List Row → Env → List Item → List Check
rules_from s all env [] = []
rules_from s all env (item ∷ items) = rules s all env item ++ rules_from s all (grow s all env item) items

-- what is known behind items
unfoldable pub env_after : List ℕ → List Row → Env → List Item → Env
env_after s all env [] = env
env_after s all env (item ∷ items) = env_after s all (grow s all env item) items
