-- What the numbers in the rows of a table's arrays refer to (document 01, 'The file', refusal 24), for any arrays.
-- The arrays are those of crate tables: past the end of a list stands 0.
use Rattle.std.specs.Prelude.{ℕ, zero, suc, ◌+◌, ◌-◌, ◌*◌, Bool, true, false, cond, ◌&&◌, List, [], ◌∷◌, get_or, eqb, ltb}
use Rattle.file.specs.References.{is_source, is_actuator, function_takes}
use Rattle.tables.specs.declared.Table.{Table}

-- ---- numbers one after the other

-- n numbers from `at` on pass a test
unfoldable pub every_from : (ℕ → Bool) → ℕ → ℕ → Bool
every_from test at zero = true
every_from test at (suc n) =
    let later = every_from test (at + 1) n in
    cond (test at) later false

-- the numbers below n pass a test
abbrev pub every : (ℕ → Bool) → ℕ → Bool
every test n = every_from test 0 n

-- the sum of what n numbers from `at` on stand for
unfoldable pub sum_from : (ℕ → ℕ) → ℕ → ℕ → ℕ
sum_from value at zero = 0
sum_from value at (suc n) = value at + sum_from value (at + 1) n

-- ---- drivers, in rows of 12: tag, target port or task, number of sources, source ports

-- a port that can be read and is of a type
unfoldable pub gives_in : List ℕ → List ℕ → ℕ → ℕ → Bool
gives_in roles types port wanted = is_source roles port && eqb (get_or types port 0) wanted

-- source number k of a driver serves the input at port `first + k`: it can be read and is of the input's type
unfoldable pub serves_one_in : List ℕ → List ℕ → List ℕ → ℕ → ℕ → ℕ → Bool
serves_one_in roles types rows driver first k = gives_in roles types (get_or rows (driver * 12 + 3 + k) 0) (get_or types (first + k) 0)

-- the sources of a driver serve the inputs from port `first` on
unfoldable pub serves_in : List ℕ → List ℕ → List ℕ → ℕ → ℕ → ℕ → Bool
serves_in roles types rows driver first many = every (serves_one_in roles types rows driver first) many

-- a release has as many sources as its task has inputs, and they serve these
unfoldable pub good_release_in : List ℕ → List ℕ → List ℕ → List ℕ → ℕ → Bool
good_release_in roles types tasks rows driver =
    let task = get_or rows (driver * 12 + 1) 0 in
    let many = get_or rows (driver * 12 + 2) 0 in
    eqb many (get_or tasks (task * 4 + 1) 0) && serves_in roles types rows driver (get_or tasks (task * 4) 0) many

-- an update goes from a port that can be read to an actuator of its type
unfoldable pub good_update_in : List ℕ → List ℕ → ℕ → ℕ → Bool
good_update_in roles types source target = is_actuator roles target && gives_in roles types source (get_or types target 0)

-- a driver of a table with `count` tasks
unfoldable pub good_driver_in : List ℕ → List ℕ → List ℕ → List ℕ → ℕ → ℕ → Bool
good_driver_in roles types tasks rows count driver =
    let tag = get_or rows (driver * 12) 0 in
    let target = get_or rows (driver * 12 + 1) 0 in
    let update = good_update_in roles types (get_or rows (driver * 12 + 3) 0) target in
    let release = good_release_in roles types tasks rows driver in
    cond (eqb tag 3) update (ltb target count && cond (eqb tag 4) release true)

-- every driver's ports and task are there, of the right role and type
unfoldable pub good_drivers_in : List ℕ → List ℕ → List ℕ → List ℕ → ℕ → ℕ → Bool
good_drivers_in roles types tasks rows count many = every (good_driver_in roles types tasks rows count) many

-- ---- guards, in rows of 6: function, number of operands, then for each its place (0 port, 1 int, 2 boolean) and its word

-- an operand that can be read
unfoldable pub readable_in : List ℕ → ℕ → ℕ → Bool
readable_in roles place word = cond (eqb place 0) (is_source roles word) true

-- the type of an operand
unfoldable pub operand_type_in : List ℕ → ℕ → ℕ → ℕ
operand_type_in types place word = cond (eqb place 0) (get_or types word 0) (place - 1)

-- a function of one operand
unfoldable pub good_one_in : List ℕ → List ℕ → ℕ → ℕ → ℕ → Bool
good_one_in roles types function place word = readable_in roles place word && function_takes function (operand_type_in types place word ∷ [])

-- a function of two operands: the place and word of the first, then of the second
unfoldable pub good_two_in : List ℕ → List ℕ → ℕ → ℕ → ℕ → ℕ → ℕ → Bool
good_two_in roles types function place word second other =
    (readable_in roles place word && readable_in roles second other)
    && function_takes function (operand_type_in types place word ∷ operand_type_in types second other ∷ [])

-- a guard's operands are right in number, role and type
unfoldable pub good_guard_in : List ℕ → List ℕ → List ℕ → ℕ → Bool
good_guard_in roles types rows guard =
    let function = get_or rows (guard * 6) 0 in
    let many = get_or rows (guard * 6 + 1) 0 in
    let one = good_one_in roles types function (get_or rows (guard * 6 + 2) 0) (get_or rows (guard * 6 + 3) 0) in
    let two =
    good_two_in roles types function (get_or rows (guard * 6 + 2) 0) (get_or rows (guard * 6 + 3) 0) (get_or rows (guard * 6 + 4) 0) (get_or rows (guard * 6 + 5) 0) in
    cond (eqb many 1) one (cond (eqb many 2) two false)

-- every guard is right
unfoldable pub good_guards_in : List ℕ → List ℕ → List ℕ → ℕ → Bool
good_guards_in roles types rows many = every (good_guard_in roles types rows) many

-- ---- modes, in rows of 3: start, period, begin pc

-- a mode begins at an instruction
unfoldable pub good_begin_in : List ℕ → ℕ → ℕ → Bool
good_begin_in rows instructions mode = ltb (get_or rows (mode * 3 + 2) 0) instructions

-- every mode begins at an instruction
unfoldable pub good_begins_in : List ℕ → ℕ → ℕ → Bool
good_begins_in rows instructions many = every (good_begin_in rows instructions) many

-- a mode's mark as start mode
abbrev pub start_in : List ℕ → ℕ → ℕ
start_in rows mode = get_or rows (mode * 3) 0

-- how many modes are marked as start mode
unfoldable pub starts_in : List ℕ → ℕ → ℕ
starts_in rows many = sum_from (start_in rows) 0 many

-- every mode begins at an instruction, and exactly one is the start mode
unfoldable pub good_modes_in : List ℕ → ℕ → ℕ → Bool
good_modes_in rows many instructions = good_begins_in rows instructions many && eqb (starts_in rows many) 1

-- ---- code, in rows of 3: opcode and two arguments

-- what an instruction refers to is there
unfoldable pub good_instruction_in : ℕ → ℕ → ℕ → ℕ → ℕ → ℕ → ℕ → ℕ → Bool
good_instruction_in opcode first second instructions drivers tasks guards modes =
    cond (eqb opcode 1) (ltb first instructions)
    (cond (eqb opcode 2) (ltb first drivers)
    (cond (eqb opcode 3) (ltb first tasks)
    (cond (eqb opcode 4) (ltb first guards && ltb second instructions)
    (cond (eqb opcode 5) (ltb first instructions)
    (cond (eqb opcode 7) (ltb first modes) true)))))

-- the instruction of a row
unfoldable pub good_line_in : List ℕ → ℕ → ℕ → ℕ → ℕ → ℕ → ℕ → Bool
good_line_in rows instructions drivers tasks guards modes line =
    good_instruction_in (get_or rows (line * 3) 0) (get_or rows (line * 3 + 1) 0) (get_or rows (line * 3 + 2) 0) instructions drivers tasks guards modes

-- every instruction's reference is there
unfoldable pub good_code_in : List ℕ → ℕ → ℕ → ℕ → ℕ → ℕ → Bool
good_code_in rows instructions drivers tasks guards modes = every (good_line_in rows instructions drivers tasks guards modes) instructions

-- ---- the whole

-- no reference out of range or of another kind, no unknown guard or wrong argument count, types that agree, exactly one start mode
unfoldable pub good_in : Table → Bool
good_in t =
    good_drivers_in t.roles t.types t.task_rows t.driver_rows t.tasks t.drivers
    && (good_guards_in t.roles t.types t.guard_rows t.guards
    && (good_modes_in t.mode_rows t.modes t.instructions
    && good_code_in t.code t.instructions t.drivers t.tasks t.guards t.modes))
