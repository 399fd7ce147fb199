use mathlib.Core.List.{List}
use Prim.Native.Nat.{ℕ}
use Rattle.codec.specs.Readings.{got}
use Rattle.fields.specs.RunLaws as run
use Rattle.records.specs.Stores as to
use Rattle.file.specs.Code.{instruction}
use Rattle.records.proofs.code_rows.code.Given as goal

abbrev pub invariant-loop-k : goal.invariant-loop-k
invariant-loop-k l = run.LeftMany instruction to.store_instruction l.count l.k (got l.initial.rows l.initial.file.rest.now) (got l.rows l.file.rest.now)
