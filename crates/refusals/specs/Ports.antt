-- Ports and arguments as they are written: what they mean, and the rules 4, 6 and 7 that they must keep.
use Rattle.std.specs.Prelude.{ℕ, List, [], ◌∷◌, cond, ◌&&◌}
use Rattle.text.specs.declared.Name.{Name}
use Rattle.text.specs.declared.Port.{Port}
use Rattle.refusals.specs.declared.Row.{Row}
use Rattle.refusals.specs.Checks.{Check, check}
use Rattle.refusals.specs.Names.{named, module_scope, task_scope, sensor_sort, task_sort, output_sort, unknown, is_known, is_unknown}
use Rattle.refusals.specs.Refusals.{long_name, not_here, wrong_type}
use Rattle.refusals.specs.Values.{constant_named, use_rules}

-- the task of a name
abbrev pub task_named : List ℕ → List Row → Name → Row
task_named s rows name = named s rows module_scope task_sort name

-- an output of a task
unfoldable pub output_of : List ℕ → List Row → Row → Name → Row
output_of s rows task name =
    let output = named s rows (task_scope task.value) output_sort name in
    cond (is_known task) output unknown

-- Port: a sensor's name, or task "." output.
unfoldable pub port_named : List ℕ → List Row → Port → Row
port_named s rows port =
    let output = output_of s rows (task_named s rows port.first) port.second in
    let sensor = named s rows module_scope sensor_sort port.first in
    cond port.dotted output sensor

-- Arg: a port or a constant's name.
unfoldable pub argument_named : List ℕ → List Row → Port → Row
argument_named s rows port =
    let constant = constant_named s rows port.first in
    let plain = cond (is_known constant) constant (port_named s rows port) in
    cond port.dotted (port_named s rows port) plain

-- task "." output, for something of a type: the port begins with the task's name
unfoldable pub dotted_rules : ℕ → Row → Row → Port → List Check
dotted_rules wanted task output port =
    long_name port.first ∷
    not_here task port.first ∷
    wrong_type wanted output.typ port.first.start ∷
    long_name port.second ∷
    check 6 port.second.start (is_known task && is_unknown output) ∷
    []

-- a port or an argument that means this row, where a type is wanted
unfoldable pub place_rules : List ℕ → List Row → ℕ → Row → Port → List Check
place_rules s rows wanted row port =
    let dotted = dotted_rules wanted (task_named s rows port.first) row port in
    let plain = use_rules wanted row port.first in
    cond port.dotted dotted plain

-- a port in a source's place
abbrev pub port_rules : List ℕ → List Row → ℕ → Port → List Check
port_rules s rows wanted port = place_rules s rows wanted (port_named s rows port) port

-- a port or a constant in a guard argument's place
abbrev pub argument_rules : List ℕ → List Row → ℕ → Port → List Check
argument_rules s rows wanted port = place_rules s rows wanted (argument_named s rows port) port
