-- What a search for a name looks at in an item: its kind, its first name, and the state and the place behind it.
use Rattle.std.specs.Prelude.{ℕ, List, get_or}
use Rattle.text.specs.declared.Name.{Name}
use Rattle.text.specs.declared.Item.{Item}
use Rattle.text.specs.declared.Item.TheVariants as I
use Rattle.text.specs.declared.ReadItem.{ReadItem}
use Rattle.kept.specs.declared.Seen.{Seen}
use Rattle.kept.specs.Rows.{name_of}
use Rattle.kept.specs.States.{number_of}

-- the kind of an item, in the order of the grammar
abbrev pub kind_of : Item → ℕ
kind_of (I.Module name) = 0
kind_of I.Section = 1
kind_of (I.Constant name value) = 2
kind_of (I.Sensor typ name getter) = 3
kind_of (I.Actuator typ name value setter) = 4
kind_of (I.TaskBegin name) = 5
kind_of (I.Input typ name) = 6
kind_of (I.Output typ name value) = 7
kind_of (I.TaskEnd name) = 8
kind_of (I.ModeBegin start at name digits milli) = 9
kind_of (I.Activity kind at digits) = 10
kind_of (I.Guard name count) = 11
kind_of (I.GuardArg port) = 12
kind_of (I.Invoke task count) = 13
kind_of (I.Arg port) = 14
kind_of (I.Update actuator source) = 15
kind_of (I.Switch name) = 16
kind_of I.ModeEnd = 17
kind_of I.ModuleEnd = 18
kind_of I.End = 19
kind_of (I.No number at) = 20

-- the first name of an item, or its digits; from 0 to 0 where it has none
abbrev pub first_of : Item → Name
first_of (I.Module name) = name
first_of I.Section = name_of 0 0
first_of (I.Constant name value) = name
first_of (I.Sensor typ name getter) = typ
first_of (I.Actuator typ name value setter) = typ
first_of (I.TaskBegin name) = name
first_of (I.Input typ name) = typ
first_of (I.Output typ name value) = typ
first_of (I.TaskEnd name) = name
first_of (I.ModeBegin start at name digits milli) = name
first_of (I.Activity kind at digits) = digits
first_of (I.Guard name count) = name
first_of (I.GuardArg port) = port.first
first_of (I.Invoke task count) = task
first_of (I.Arg port) = port.first
first_of (I.Update actuator source) = actuator
first_of (I.Switch name) = name
first_of I.ModeEnd = name_of 0 0
first_of I.ModuleEnd = name_of 0 0
first_of I.End = name_of 0 0
first_of (I.No number at) = name_of 0 0

-- what a search looks at in an item that was read
abbrev pub seen_of : ReadItem → Seen
seen_of read = record { kind = kind_of read.item; start = (first_of read.item).start; end = (first_of read.item).end; behind = number_of read.state; next = read.next }

-- where that stands in a row
abbrev pub seen_in : List ℕ → Seen
seen_in row = record { kind = get_or row 0 0; start = get_or row 5 0; end = get_or row 6 0; behind = get_or row 3 0; next = get_or row 4 0 }
