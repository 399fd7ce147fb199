use mathlib.Core.Path.{refl, sym, ◌∙◌}
use Rattle.naming.specs.Laws.{has-input, has_other, among-is}
use Rattle.naming.proofs.Names.has.Goals as goal

pub returns-then-among : goal.returns-then-among
returns-then-among c = c.if-among.true ∙ sym (has-input _ _ _ (among-is _ _ _ _ _ _ _ c.at32.ensures c.at32-2.ensures c.among.ensures c.if-among.true))

pub returns-else-among : goal.returns-else-among
returns-else-among c =
    let input = among-is _ _ _ _ _ _ _ c.at32.ensures c.at32-2.ensures c.among.ensures c.if-among.false in
    let output = among-is _ _ _ _ _ _ _ c.at32-else-among.ensures c.at32-else-among-2.ensures c.among-else-among.ensures refl in
    sym (has_other _ _ _ input ∙ output)
