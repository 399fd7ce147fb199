use mathlib.Core.List.{List}
use Prim.Native.Nat.{ℕ}
use mathlib.Core.Path.{ap, ◌∙◌}
use Rattle.model.specs.Bytes.{same}
use Rattle.scan.proofs.words.same.Goals as goal

pub returns : goal.returns
returns c = c.alike.ensures ∙ ap (λ (l : List ℕ). same l c.args.word.now) c.part.ensures
