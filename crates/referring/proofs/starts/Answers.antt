use Prim.Native.Nat.{◌+◌, ◌-◌, ◌*◌, ◌≤◌}
use mathlib.Core.Path.{◌≡◌}
use native.Mathlib.Omega.{arith}
use Rattle.referring.specs.Rows.{start_in, starts_in}
use Rattle.referring.specs.RowLaws.{rest, rest_all, rest-on, rest-none}
use borrow.Author.Rules.{rules}
use Rattle.referring.proofs.starts.Goals as goal

pub loop-mode-init : goal.loop-mode-init
unfolding starts_in
loop-mode-init c = (search rules, search rules, omega (arith, rest_all (start_in (c.args.rows.now)) c.args.many))

pub loop-mode-preserved : goal.loop-mode-preserved
loop-mode-preserved c = (search rules, omega arith, omega (arith, rest-on (start_in (c.args.rows.now)) c.args.many c.loop-mode.mode c.loop-mode-test.true, rw c.wide32.ensures.0 at c.at32.ensures))

pub returns : goal.returns
returns c = omega (arith, rest-none (start_in (c.args.rows.now)) c.args.many c.loop-mode.mode c.loop-mode-test.false)
