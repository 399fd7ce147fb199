use Rattle.std.proofs.Common.{arith}
use Rattle.lines.specs.NumbersLaws as law
use Rattle.lines.proofs.numbers.worth.Goals as goal

pub returns-in-48-to-57 : goal.returns-in-48-to-57
returns-in-48-to-57 c = (law.worth-plain _ (omega arith) (omega arith), omega arith)

pub returns-in-97-to-102 : goal.returns-in-97-to-102
returns-in-97-to-102 c = (law.worth-letter _ (omega arith) (omega arith), omega arith)

pub returns-in_default : goal.returns-in_default
returns-in_default c = (law.worth-other _ (λ h. omega arith) (λ h. omega arith), omega arith)

pub returns-in_default-2 : goal.returns-in_default-2
returns-in_default-2 c = (law.worth-other _ (λ h. omega arith) (λ h. omega arith), omega arith)

pub returns-in_default-3 : goal.returns-in_default-3
returns-in_default-3 c = (law.worth-other _ (λ h. omega arith) (λ h. omega arith), omega arith)
