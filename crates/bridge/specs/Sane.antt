-- The prescribed code of an accepted module names only its own tasks and guards.
use Rattle.std.specs.Prelude.{◌<◌, List, length}
use Rattle.model.specs.Modules.{Module}
use Rattle.model.specs.Instructions.{Instr, nop, future, call, release, iff, jump, return, switch}
use Rattle.timing.specs.SlotLaws.{Each}
use Rattle.timing.specs.Accepted.{Accepted}
use Rattle.timing.specs.Code.{code_of}
use Rattle.accepted.specs.Lists.{each_map}
use Rattle.accepted.specs.CodeFits.{Good, driver_count, code-good}

module _ (M : Module) where
  abbrev pub Sane : Instr → Type 0
  Sane (nop marker) = Unit {0}
  Sane (future pc delay) = Unit {0}
  Sane (call driver) = Unit {0}
  Sane (release task) = task < length M.tasks
  Sane (iff guard other) = guard < length M.guards
  Sane (jump pc) = Unit {0}
  Sane return = Unit {0}
  Sane (switch mode) = Unit {0}

  good-sane : (i : Instr) → Good (length (code_of M)) (driver_count M) M i → Sane i
  good-sane (nop marker) g = tt
  good-sane (future pc delay) g = tt
  good-sane (call driver) g = tt
  good-sane (release task) g = g
  good-sane (iff guard other) g = g.0
  good-sane (jump pc) g = tt
  good-sane return g = tt
  good-sane (switch mode) g = tt

  pub code-sane : Accepted M → Each Sane (code_of M)
  code-sane W = each_map (Good (length (code_of M)) (driver_count M) M) Sane good-sane (code_of M) (code-good M W)
