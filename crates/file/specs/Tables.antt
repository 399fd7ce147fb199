-- The table of a module, as the file holds it (document 01, 'The file').
use Rattle.std.specs.Prelude.{ℕ, List}
use Rattle.model.specs.Modules.{Sensor, Actuator, Task}
use Rattle.model.specs.Instructions.{Instr, Driver}

-- A guard's argument: 0 port, or 1 type and value.
pub data Argument : Type 0 where
  port : ℕ → Argument
  fixed : ℕ → ℕ → Argument

-- guards (function, count, arguments)
pub record GuardRow : Type 0 where
  pub function : List ℕ
  pub arguments : List Argument

-- modes (name, start 0 or 1, period four bytes, begin pc four bytes)
pub record ModeRow : Type 0 where
  pub name : List ℕ
  pub start : ℕ
  pub period : ℕ
  pub begin : ℕ

-- module name; sensors; actuators; tasks; drivers; guards; modes; code
pub record Table : Type 0 where
  pub name : List ℕ
  pub sensors : List Sensor
  pub actuators : List Actuator
  pub tasks : List Task
  pub drivers : List Driver
  pub guards : List GuardRow
  pub modes : List ModeRow
  pub code : List Instr
