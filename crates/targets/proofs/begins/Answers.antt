use Rattle.refusals.specs.Names.{letters}
use Rattle.std.proofs.Common.{sym, ◌∙◌, ne_eqb}
use Rattle.kept.specs.Kinds.{kind-mode}
use Rattle.targets.specs.AheadLaws.{kind-quiet}
use Rattle.targets.proofs.begins.Goals as goal

pub returns-then-kind-eq9 : goal.returns-then-kind-eq9
returns-then-kind-eq9 c = λ row k a e. rw (kind-mode row (sym k ∙ c.if-kind-eq9.true), ← a, ← e) c.same_parts.ensures

pub returns-else-kind-eq9 : goal.returns-else-kind-eq9
returns-else-kind-eq9 c = λ row k a e. ne_eqb _ _ c.if-kind-eq9.false ∙ sym (kind-quiet c.args.s.now (letters c.args.s.now c.args.sought) row (λ h. c.if-kind-eq9.false (k ∙ h)))
