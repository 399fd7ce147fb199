-- Instructions and drivers (document 01, 'The code'; the TDL report's table of E-code instructions).
use Rattle.std.specs.Prelude.{ℕ, List}

-- Opcodes 0 to 7.
pub data Instr : Type 0 where
  nop : ℕ → Instr  -- a marker
  future : ℕ → ℕ → Instr  -- pc, delay
  call : ℕ → Instr  -- driver
  release : ℕ → Instr  -- task
  iff : ℕ → ℕ → Instr  -- guard, else pc
  jump : ℕ → Instr  -- pc
  return : Instr
  switch : ℕ → Instr  -- mode

-- Drivers 3, 4 and 5.
pub data Driver : Type 0 where
  updates : ℕ → ℕ → Driver  -- source port, actuator port
  releases : ℕ → List ℕ → Driver  -- task, source ports
  terminates : ℕ → Driver  -- task

-- A driver that changes nothing.
abbrev pub no_driver : Driver
no_driver = updates 0 0
