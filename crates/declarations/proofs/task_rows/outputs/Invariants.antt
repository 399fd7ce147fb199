use mathlib.Core.Path.{◌≡◌}
use Rattle.codec.specs.Readings.{got}
use Rattle.fields.specs.RunLaws as run
use Rattle.declarations.specs.Stores as to
use Rattle.declarations.specs.StoreLaws as store
use Rattle.file.specs.Records.{output}
use Rattle.declarations.proofs.task_rows.outputs.Given as goal

abbrev pub invariant-loop-k : goal.invariant-loop-k
invariant-loop-k l = run.LeftMany output (to.store_output l.used l.port) l.count l.k (got (store.ported l.initial.names l.initial.types l.initial.starts) l.initial.file.rest.now) (got (store.ported l.names l.types l.starts) l.file.rest.now)
