use Rattle.std.proofs.Common.{sym, ◌∙◌, ap, eq-eqb}
use Rattle.text.specs.Tokens.{code_of}
use Rattle.productions.specs.Counted.{past-name}
use Rattle.productions.proofs.lists.count.Goals as goal

pub returns-in-Name : goal.returns-in-Name
returns-in-Name c = c.counted.ensures ∙ sym (past-name _ _ _ c.requires (eq-eqb _ _ (ap code_of c.in-Name.is)))
