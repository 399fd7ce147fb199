use Rattle.std.specs.Prelude.{◌≡◌, ltb, true}
use Rattle.std.proofs.Common.{◌∙◌, lt-ltb, leb-false}
use Rattle.refusals.specs.Activities.{guard_rules}
use Rattle.judging.specs.Asking.{not-broken}
use Rattle.judging.specs.Asking.{asked-ends, asked-on}
use Rattle.activities.proofs.operands.guard_rules.Goals as goal

pub returns-in_err-name_rules : goal.returns-in_err-name_rules
unfolding guard_rules
returns-in_err-name_rules c = asked-ends _ _ c.from_residual.ensures c.in_err-name_rules.ensures

pub returns-in_err-rule : goal.returns-in_err-rule
unfolding guard_rules
returns-in_err-rule c = asked-on _ _ c.in_ok-name_rules.ensures (asked-ends _ _ c.from_residual-in_err-rule.ensures c.in_err-rule.ensures)

pub returns : goal.returns
unfolding guard_rules
returns c = let few : ltb c.args.number 4 ≡ true = lt-ltb _ _ (leb-false _ _ (not-broken _ c.in_ok-rule.ensures)) in
    asked-on _ _ c.in_ok-name_rules.ensures (asked-on _ _ c.in_ok-rule.ensures ((rw c.operands_of.ensures at c.rule-2.ensures) ∙ rw few))
