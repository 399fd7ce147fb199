use mathlib.Core.Path.{◌≡◌}
use Rattle.codec.specs.Readings.{got}
use Rattle.fields.specs.RunLaws as run
use Rattle.declarations.specs.Stores as to
use Rattle.file.specs.Parts.{type}
use Rattle.declarations.proofs.task_rows.inputs.Given as goal

abbrev pub invariant-loop-k : goal.invariant-loop-k
invariant-loop-k l = run.LeftMany type (to.store_input l.port) l.count l.k (got l.initial.types l.initial.file.rest.now) (got l.types l.file.rest.now)
