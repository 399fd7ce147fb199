use Rattle.std.specs.Prelude.{ℕ, ◌≡◌, ◌<◌, ◌≤◌, [], ◌∷◌, Bool, true, false, not, ◌&&◌, ◌%◌, eqb, min}
use Rattle.std.proofs.Common.{arith, sym, ap, ◌∙◌, eq-eqb, ne_eqb}
use Rattle.std.proofs.Math.Path.{refl}
use Rattle.text.specs.declared.Name.{Name}
use Rattle.refusals.specs.Checks.{check, first}
use Rattle.refusals.specs.Refusals.{beyond, divides_all, period_undivided, task_cut}
use Rattle.refusals.specs.Values.{number_of}
use Rattle.activities.specs.Kept.{head_checks}
use Rattle.activities.specs.KeptLaws.{within, number-kept, all-divided}
use Rattle.judging.specs.Asking.{asked-ends, asked-on, not-broken}
use Rattle.activities.proofs.frequencies.head_rules.Goals.{then-kind-eq4, else-kind-eq4}
use Rattle.activities.proofs.frequencies.head_rules.Goals as goal

-- a frequency that is in range is the number as it is written
in_range : {kept number : ℕ} → kept ≡ min number 4294967296 → beyond 64 kept ≡ false → (kept ≡ number) × (0 < kept) × (beyond 64 number ≡ false)
in_range {kept} {number} e f =
    let low = within 64 kept f in
    let same : kept ≡ number = omega (arith, e, low.0, low.1) in
    (same, low.0, rw same at f)

-- and the rule of the period is then the plain one
period_so : {kept number : ℕ} (period : ℕ) (digits : Name) → kept ≡ number → beyond 64 number ≡ false → first (check 9 digits.start (not (eqb (period % kept) 0)) ∷ []) ≡ first (period_undivided period number digits ∷ [])
period_so period digits e f = simp (e, f)

pub returns-in_err-rule : goal.returns-in_err-rule
unfolding head_checks
returns-in_err-rule c = asked-ends _ _ c.from_residual.ensures c.in_err-rule.ensures

pub returns-in_err-rule-2 : goal.returns-in_err-rule-2
unfolding head_checks
returns-in_err-rule-2 c = asked-on _ _ c.in_ok-rule.ensures (asked-ends _ _ c.from_residual-in_err-rule-2.ensures (rw (c.beyond.ensures, c.number_of-frequency.ensures, number-kept) at c.in_err-rule-2.ensures))

pub nonzero_rem-period : goal.nonzero_rem-period
nonzero_rem-period c = (in_range c.number_of-frequency.ensures (sym c.beyond.ensures ∙ not-broken _ c.in_ok-rule-2.ensures)).1

pub returns-in_err-rule-3 : goal.returns-in_err-rule-3
unfolding head_checks
returns-in_err-rule-3 c =
    let (same, low, within-range) = in_range c.number_of-frequency.ensures (sym c.beyond.ensures ∙ not-broken _ c.in_ok-rule-2.ensures) in
    asked-on _ _ c.in_ok-rule.ensures (asked-on _ _ (rw (c.beyond.ensures, c.number_of-frequency.ensures, number-kept) at c.in_ok-rule-2.ensures)
    (asked-ends (period_undivided c.args.period (number_of c.args.s.now c.args.digits) c.args.digits ∷ []) _ c.from_residual-in_err-rule-3.ensures (c.in_err-rule-3.ensures ∙ period_so c.args.period c.args.digits same within-range)))

pub divides_all-requires : goal.divides_all-requires
divides_all-requires c = (in_range c.number_of-frequency.ensures (sym c.beyond.ensures ∙ not-broken _ c.in_ok-rule-2.ensures)).1

pub returns : goal.returns
unfolding head_checks
returns c =
    let (same, low, within-range) = in_range c.number_of-frequency.ensures (sym c.beyond.ensures ∙ not-broken _ c.in_ok-rule-2.ensures) in
    let number = number_of c.args.s.now c.args.digits in
    let cut : c.if-kind-eq4.rule ≡ (eqb c.args.kind 4 && (not (beyond 64 number) && not (divides_all number c.args.frequencies.now))) = elim c.if-kind-eq4.branch [
      | then-kind-eq4 w ↦ simp (w.rule-is, eq-eqb _ _ w.if-kind-eq4.true, within-range, w.divides_all.ensures, same, all-divided)
      | else-kind-eq4 w ↦ simp (w.rule-is, ne_eqb _ _ w.if-kind-eq4.false)
    ] in
    asked-on _ _ c.in_ok-rule.ensures (asked-on _ _ (rw (c.beyond.ensures, c.number_of-frequency.ensures, number-kept) at c.in_ok-rule-2.ensures)
    (asked-on (period_undivided c.args.period number c.args.digits ∷ []) _ (c.in_ok-rule-3.ensures ∙ period_so c.args.period c.args.digits same within-range) (rw cut at c.rule-4.ensures)))
