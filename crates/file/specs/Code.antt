-- Drivers, guards, modes and code (document 01, 'The file'; opcodes: 'The code').
use Rattle.std.specs.Prelude.{Bool, true, List, [], ◌∷◌, ℕ, leb, ltb, eqb, get_or}
use Rattle.codec.specs.Codecs.{Codec}
use Rattle.codec.specs.Numbers.{byte, be}
use Rattle.codec.specs.Sequences.{dep}
use Rattle.codec.specs.Views.{check, shape}
use Rattle.codec.specs.Tags.{enum}
use Rattle.codec.specs.Lists.{list}
use Rattle.model.specs.Rooms.{port_room, argument_room, driver_room, guard_room, mode_room, code_room, period_room}
use Rattle.model.specs.Instructions.{Instr, nop, future, call, release, iff, jump, return, switch, Driver, updates, releases, terminates}
use Rattle.text.specs.Words.{within}
use Rattle.file.specs.Tables.{Argument, port, fixed, GuardRow, ModeRow}
use Rattle.file.specs.Parts.{count, type, value}
use Rattle.file.specs.Names.{name}

-- ---- drivers (3 source port, actuator port; 4 task, count, source ports; 5 task; numbers two bytes)

-- the kinds of drivers
pub data DriverTag : Type 0 where
  updating releasing terminating : DriverTag

-- a driver kind's number: 3 actuator update, 4 release, 5 termination
abbrev pub driver_tag : DriverTag → ℕ
driver_tag updating = 3
driver_tag releasing = 4
driver_tag terminating = 5

-- every kind of driver
abbrev pub driver_tags : List DriverTag
driver_tags = updating ∷ releasing ∷ terminating ∷ []

-- what stands behind a driver's kind
abbrev pub DriverRest : DriverTag → Type 0
DriverRest updating = ℕ × ℕ
DriverRest releasing = ℕ × List ℕ
DriverRest terminating = ℕ

-- how it is written: ports, or the task and its sources
unfoldable pub driver_rest : (tag : DriverTag) → Codec (DriverRest tag)
driver_rest updating = dep (be 2) (λ p. ℕ) (λ p. be 2)
driver_rest releasing = dep (be 2) (λ t. List ℕ) (λ t. list (count 1 port_room) (be 2))
driver_rest terminating = be 2

-- a driver as its kind and the rest
abbrev pub driver_parts : Driver → (tag : DriverTag) × DriverRest tag
driver_parts (updates source target) = (updating, (source, target))
driver_parts (releases t sources) = (releasing, (t, sources))
driver_parts (terminates t) = (terminating, t)

-- a driver from its kind and the rest
abbrev pub driver_of : (tag : DriverTag) → DriverRest tag → Driver
driver_of updating x = updates x.0 x.1
driver_of releasing x = releases x.0 x.1
driver_of terminating x = terminates x

-- a driver
unfoldable pub driver : Codec Driver
driver =
    shape (dep (enum byte 23 driver_tag driver_tags) DriverRest driver_rest)
    driver_parts (λ x. driver_of x.0 x.1)

-- the drivers, with their count before them
unfoldable pub drivers : Codec (List Driver)
drivers = list (count 2 driver_room) driver

-- ---- guards (function, count, arguments: 0 port, or 1 type and value)

-- the kinds of a guard's arguments
pub data ArgumentTag : Type 0 where
  of_port of_value : ArgumentTag

-- an argument kind's number: 0 a port, 1 a value
abbrev pub argument_tag : ArgumentTag → ℕ
argument_tag of_port = 0
argument_tag of_value = 1

-- both kinds of arguments
abbrev pub argument_tags : List ArgumentTag
argument_tags = of_port ∷ of_value ∷ []

-- what stands behind an argument's kind
abbrev pub ArgumentRest : ArgumentTag → Type 0
ArgumentRest of_port = ℕ
ArgumentRest of_value = ℕ × ℕ

-- how it is written: the port, or type and value
unfoldable pub argument_rest : (tag : ArgumentTag) → Codec (ArgumentRest tag)
argument_rest of_port = be 2
argument_rest of_value = dep type (λ t. ℕ) value

-- an argument as its kind and the rest
abbrev pub argument_parts : Argument → (tag : ArgumentTag) × ArgumentRest tag
argument_parts (port p) = (of_port, p)
argument_parts (fixed t word) = (of_value, (t, word))

-- an argument from its kind and the rest
abbrev pub argument_of : (tag : ArgumentTag) → ArgumentRest tag → Argument
argument_of of_port p = port p
argument_of of_value x = fixed x.0 x.1

-- an argument
unfoldable pub argument : Codec Argument
argument =
    shape (dep (enum byte 23 argument_tag argument_tags) ArgumentRest argument_rest)
    argument_parts (λ x. argument_of x.0 x.1)

-- a guard: its function's name and its arguments
unfoldable pub guard : Codec GuardRow
guard =
    shape (dep name (λ f. List Argument) (λ f. list (count 1 argument_room) argument))
    (λ g. (g.function, g.arguments)) (λ x. record { function = x.0; arguments = x.1 })

-- the guards, with their count before them
unfoldable pub guards : Codec (List GuardRow)
guards = list (count 2 guard_room) guard

-- ---- modes (name, start 0 or 1, period four bytes, begin pc four bytes)

-- a period or a delay: 1 to 2,147,483,647
abbrev pub good_time : ℕ → Bool
good_time n = within 1 period_room n

unfoldable pub mode : Codec ModeRow
mode =
    shape (dep name (λ n. ℕ × (ℕ × ℕ)) (λ n. dep (check byte 23 (λ s. leb s 1)) (λ s. ℕ × ℕ) (λ s. dep (check (be 4) 23 good_time) (λ p. ℕ) (λ p. be 4))))
    (λ m. (m.name, (m.start, (m.period, m.begin))))
    (λ x. record { name = x.0; start = x.1.0; period = x.1.1.0; begin = x.1.1.1 })

unfoldable pub modes : Codec (List ModeRow)
modes = list (count 2 mode_room) mode

-- ---- code (opcode, two arguments of four bytes)

-- what an argument of an instruction may be
pub data Form : Type 0 where
  free marker delay unused : Form

-- An unused argument is -1.
abbrev pub no_argument : ℕ
no_argument = 4294967295

-- whether a number is right for an instruction's argument of this form
abbrev pub fits_form : Form → ℕ → Bool
fits_form free n = true
fits_form marker n = leb n 2
fits_form delay n = good_time n
fits_form unused n = eqb n no_argument

-- the forms of both arguments, by opcode: 0 nop marker; 1 future pc, delay; 2 call driver; 3 release task; 4 if guard, else pc; 5 jump pc; 6 return; 7 switch mode
abbrev pub forms : List (Form × Form)
forms =
    (marker, unused) ∷ (free, delay) ∷ (free, unused) ∷ (free, unused) ∷ (free, free) ∷ (free, unused) ∷ (unused, unused) ∷ (free, unused) ∷ []

-- the forms of an opcode's two arguments
abbrev pub forms_of : ℕ → Form × Form
forms_of opcode = get_or forms opcode (unused, unused)

-- one argument, judged as soon as its four bytes are there
unfoldable pub word : Form → Codec ℕ
word form = check (be 4) 23 (fits_form form)

-- opcode 0 to 7, judged before its arguments are looked for
unfoldable pub triple : Codec (ℕ × (ℕ × ℕ))
triple =
    dep (check byte 23 (λ opcode. ltb opcode 8)) (λ opcode. ℕ × ℕ)
    (λ opcode. dep (word (forms_of opcode).0) (λ first. ℕ) (λ first. word (forms_of opcode).1))

-- an instruction as opcode and two arguments
abbrev pub triple_of : Instr → ℕ × (ℕ × ℕ)
triple_of (nop m) = (0, (m, no_argument))
triple_of (future pc d) = (1, (pc, d))
triple_of (call d) = (2, (d, no_argument))
triple_of (release t) = (3, (t, no_argument))
triple_of (iff g pc) = (4, (g, pc))
triple_of (jump pc) = (5, (pc, no_argument))
triple_of return = (6, (no_argument, no_argument))
triple_of (switch m) = (7, (m, no_argument))

-- the instruction of an opcode and two arguments
abbrev pub instr_by : ℕ → ℕ → ℕ → Instr
instr_by opcode first second =
    get_or (nop first ∷ future first second ∷ call first ∷ release first ∷ iff first second ∷ jump first ∷ return ∷ switch first ∷ []) opcode return

-- an instruction
unfoldable pub instruction : Codec Instr
instruction = shape triple triple_of (λ x. instr_by x.0 x.1.0 x.1.1)

-- the code, with its count before it
unfoldable pub code : Codec (List Instr)
code = list (count 2 code_room) instruction
