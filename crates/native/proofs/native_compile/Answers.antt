use Rattle.native.specs.Faces.{translation}
use Rattle.std.proofs.Common.{ap, ◌∙◌, rules}
use Rattle.native.proofs.native_compile.Goals as goal

pub returns : goal.returns
returns c = record { answer = c.compiled.ensures ∙ ap translation c.compile.ensures.answer; buffer = c.compile.ensures.buffer }
