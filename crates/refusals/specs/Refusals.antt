-- Document 01, 'When the compiler says no': the rows 4 to 12 of the table, each with its number, its cause and its offset.
use Rattle.std.specs.Prelude.{ℕ, ◌-◌, ◌%◌, List, [], ◌∷◌, Bool, true, false, cond, not, ◌&&◌, ◌||◌, eqb, ltb, leb}
use Rattle.text.specs.declared.Name.{Name}
use Rattle.model.specs.Rooms.{name_room, frequency_room}
use Rattle.refusals.specs.declared.Row.{Row}
use Rattle.refusals.specs.Checks.{Check, check}
use Rattle.refusals.specs.Names.{no_type, is_known, is_unknown}

-- 4 | name over 32 bytes | the name
abbrev pub long_name : Name → Check
long_name name = check 4 name.start (ltb name_room (name.end - name.start))

-- 5 | declared twice | second name
abbrev pub declared_twice : Row → Name → Check
declared_twice before name = check 5 name.start (is_known before)

-- 6 | name unknown here, or of another kind | the name
abbrev pub not_here : Row → Name → Check
not_here row name = check 6 name.start (is_unknown row)

-- the same of a type's or a guard's name, by its number among those given
abbrev pub not_given : ℕ → ℕ → Name → Check
not_given given number name = check 6 name.start (leb given number)

-- two types that are known, and differ
abbrev pub clash : ℕ → ℕ → Bool
clash wanted type = cond (eqb wanted no_type) false (cond (eqb type no_type) false (not (eqb wanted type)))

-- 7 | type disagrees | the value, port or argument, minus included
abbrev pub wrong_type : ℕ → ℕ → ℕ → Check
wrong_type wanted type at = check 7 at (clash wanted type)

-- 7 | wrong number of arguments | the task or guard name, where it is known
abbrev pub wrong_number : Bool → ℕ → ℕ → Name → Check
wrong_number known wanted arguments name = check 7 name.start (known && not (eqb wanted arguments))

-- an int: 32 bits, signed
abbrev pub beyond_int : ℕ → Bool → Bool
beyond_int number minus = ltb (cond minus 2147483648 2147483647) number

-- 1 to a limit
abbrev pub beyond : ℕ → ℕ → Bool
beyond limit number = eqb number 0 || ltb limit number

-- 8 | number out of range, a period after conversion | the digits, without a minus
abbrev pub out_of_range : Bool → Name → Check
out_of_range is digits = check 8 digits.start is

-- whether a frequency divides a number
abbrev pub divides : ℕ → ℕ → Bool
divides frequency number = eqb (number % frequency) 0

-- whether a frequency divides every one
unfoldable pub divides_all : ℕ → List ℕ → Bool
divides_all frequency [] = true
divides_all frequency (number ∷ numbers) =
    let on = divides_all frequency numbers in
    cond (divides frequency number) on false

-- 9 | frequency doesn't divide the period | the frequency, where it is in range
abbrev pub period_undivided : ℕ → ℕ → Name → Check
period_undivided period frequency digits = check 9 digits.start (not (beyond frequency_room frequency) && not (divides frequency period))

-- 9 | a switch's frequency doesn't divide that of every task invoked in its mode | the frequency, where it is in range
abbrev pub task_cut : Bool → List ℕ → ℕ → Name → Check
task_cut is_switch invoked frequency digits = check 9 digits.start (is_switch && (not (beyond frequency_room frequency) && not (divides_all frequency invoked)))

-- whether a number is one of these
unfoldable pub among : ℕ → List ℕ → Bool
among number [] = false
among number (other ∷ others) =
    let on = among number others in
    cond (eqb other number) true on

-- 10 | task invoked, or actuator updated, twice in a mode | second name
abbrev pub acts_twice : Row → List ℕ → Name → Check
acts_twice row before name = check 10 name.start (is_known row && among row.value before)

-- 11 | a table of the section above is full | first name too many, or the activity's "["
-- Drivers 288 and guards 256 have no line of their own: 32 tasks, and 32 activities in each of 8 modes, need no more. A third argument of a guard is 7.
abbrev pub full : ℕ → ℕ → ℕ → Check
full room taken at = check 11 at (leb room taken)

-- 12 | second "start" | second "start"
abbrev pub second_start : Bool → ℕ → Check
second_start started at = check 12 at started

-- 12 | no start mode | text length
abbrev pub no_start : Bool → ℕ → Check
no_start started at = check 12 at (not started)
