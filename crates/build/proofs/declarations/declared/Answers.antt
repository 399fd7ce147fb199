use Rattle.std.proofs.Common.{rules}
use Rattle.build.proofs.declarations.declared.Goals as goal

pub returns : goal.returns
returns c kept ix =
    let done = rw c.nothing.ensures at (c.walk.ensures.run kept ix) in
    search (rules, done)
