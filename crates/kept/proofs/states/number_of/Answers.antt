use Prim.Native.Nat.{◌+◌, ◌*◌, ◌<◌}
use mathlib.Core.Path.{◌≡◌, ◌∙◌, ap}
use Rattle.kept.specs.Rows.{state_of}
use Rattle.kept.specs.States.{section_of, number_of, number-state}
use native.Mathlib.Omega.{arith}
use Rattle.kept.proofs.states.number_of.Goals as goal

pub returns-clause-state : goal.returns-clause-state
returns-clause-state c =
    let state = c.args.state in
    let small : section_of state < 256 = omega (arith, c.section-section.ensures) in
    let number : c.section-section.result * 16 + c.which-which.result ≡ number_of state = omega (arith, c.section-section.ensures, c.which-which.ensures) in
    ap state_of number ∙ number-state state small
