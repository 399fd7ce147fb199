use Rattle.std.proofs.Common.{◌≡◌, refl, arith}
use borrow.Author.Tests.{eq-eqb, ne_eqb}
use Rattle.sheets.specs.Sheets.{fed, source_read}
use Rattle.entries.proofs.acts.source_read.Goals as goal

pub returns-then-opened-gt0-clause-done : goal.returns-then-opened-gt0-clause-done
unfolding fed source_read
returns-then-opened-gt0-clause-done c ix all =
    rw (ne_eqb c.args.arrays.now.plan.opened.calls 0 (λ e. omega (arith, c.if-opened-gt0.true)), c.source.ensures, c.clamp-number.ensures, c.port_named.ensures ix, c.saturating_add.ensures) refl

pub returns-else-opened-gt0-clause-done : goal.returns-else-opened-gt0-clause-done
unfolding fed source_read
returns-else-opened-gt0-clause-done c ix all =
    let none : c.args.arrays.now.plan.opened.calls ≡ 0 = omega (arith, c.if-opened-gt0.false) in
    rw (eq-eqb c.args.arrays.now.plan.opened.calls 0 none) refl
