use Rattle.std.specs.Prelude.{ℕ, ◌≡◌}
use Rattle.std.proofs.Common.{arith, ap, ◌∙◌}
use Rattle.std.proofs.Math.Path.{refl}
use Rattle.refusals.specs.Checks.{is_fine}
use Rattle.judging.specs.Asking.{asked-all}
use Rattle.rules.specs.Going.{told-broken}
use Rattle.rules.proofs.acting.begun.Goals as goal

pub returns-in_err-mode_rules : goal.returns-in_err-mode_rules
returns-in_err-mode_rules c ix = told-broken c.from_residual.ensures (rw (c.first_name-name.ensures, c.third_name-digits.ensures) at c.in_err-mode_rules.ensures ix)

pub returns : goal.returns
returns c ix =
    let fine = rw (c.first_name-name.ensures, c.third_name-digits.ensures) at c.in_ok-mode_rules.ensures ix in
    record {
      count = c.mode_entered.result;
      tells = rw (c.begun.ensures, c.third_name-digits.ensures) (asked-all fine);
      broken = λ f. let z : ◌≡◌ {A = ℕ} 0 1 = cc (ap is_fine fine ∙ f) in absurd (omega arith);
      entered = λ f. rw (← c.first_name-name.ensures) (c.mode_entered.ensures ix _ _ _ _);
    }
