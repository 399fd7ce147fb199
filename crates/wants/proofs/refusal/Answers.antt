use Rattle.std.proofs.Common.{◌∙◌, sym}
use Rattle.text.specs.declared.Token.TheVariants as T
use Rattle.text.specs.WantLaws.{refusal-two, refusal-three}
use Rattle.wants.proofs.Others.{same_is}
use Rattle.wants.proofs.refusal.Goals as goal

pub returns-then-eq : goal.returns-then-eq
returns-then-eq c =
    let found = c.args.found in
    rw (refusal-two found (sym (same_is found T.Bad) ∙ sym c.eq.ensures ∙ c.if-eq.true))

pub returns-else-eq : goal.returns-else-eq
returns-else-eq c =
    let found = c.args.found in
    rw (refusal-three found (sym (same_is found T.Bad) ∙ sym c.eq.ensures ∙ c.if-eq.false))
