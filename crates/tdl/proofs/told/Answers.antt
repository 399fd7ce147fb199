use Rattle.tdl.specs.Writings.{told_at}
use mathlib.Core.Path.{sym, ap}
use borrow.Author.Rules.{rules}
use Rattle.tdl.proofs.told.Goals as goal

pub returns-in-Ok : goal.returns-in-Ok
returns-in-Ok c = ap (told_at c.args.end) (sym c.in-Ok.is)

pub returns-in-Err : goal.returns-in-Err
returns-in-Err c = ap (told_at c.args.end) (sym c.in-Err.is)
