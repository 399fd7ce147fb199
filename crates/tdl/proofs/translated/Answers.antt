use Rattle.layout.specs.Rows.{zeros}
use borrow.Author.Rules.{rules}
use Rattle.tdl.proofs.translated.Goals as goal

pub scheduled-requires : goal.scheduled-requires
unfolding zeros
scheduled-requires c = (c.requires.0, c.requires.1, record { roles = _; is = c.declared-ports.ensures c.requires.1 c.requires.0.indexed })
