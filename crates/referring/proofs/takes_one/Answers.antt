use mathlib.Core.Path.{refl}
use borrow.Author.Tests.{lt-ltb, le-ltb}
use Rattle.file.specs.References.{function_takes}
use Rattle.referring.proofs.takes_one.Goals as goal

pub returns-then-function-lt2 : goal.returns-then-function-lt2
unfolding function_takes
returns-then-function-lt2 c = rw (lt-ltb _ 2 c.if-function-lt2.true) refl

pub returns : goal.returns
unfolding function_takes
returns c = rw (le-ltb _ 2 c.if-function-lt2.false) refl
