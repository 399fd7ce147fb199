-- Document 01, 'Room on the board'.
use Rattle.std.specs.Prelude.{ℕ}

-- bytes of a text ('The text of a module'), and of a name
abbrev pub text_room : ℕ
text_room = 16384

-- a name: 32 bytes
abbrev pub name_room : ℕ
name_room = 32

-- declarations of each kind
abbrev pub constant_room : ℕ
constant_room = 64

-- sensors in a module
abbrev pub sensor_room : ℕ
sensor_room = 32

-- actuators in a module
abbrev pub actuator_room : ℕ
actuator_room = 32

-- tasks in a module
abbrev pub task_room : ℕ
task_room = 32

abbrev pub mode_room : ℕ
mode_room = 8

-- activities in a mode
abbrev pub activity_room : ℕ
activity_room = 32

-- inputs, and outputs, of a task; and in all
abbrev pub port_room : ℕ
port_room = 8

-- inputs of all tasks together, and outputs
abbrev pub all_port_room : ℕ
all_port_room = 128

-- the highest frequency, and the longest period in microseconds
abbrev pub frequency_room : ℕ
frequency_room = 64

-- the longest period, in microseconds
abbrev pub period_room : ℕ
period_room = 2147483647

-- drivers in a file
abbrev pub driver_room : ℕ
driver_room = 288

-- guards in a file
abbrev pub guard_room : ℕ
guard_room = 256

-- arguments of a guard
abbrev pub argument_room : ℕ
argument_room = 2

-- instructions in a file
abbrev pub code_room : ℕ
code_room = 4096
