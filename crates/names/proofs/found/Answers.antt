use Rattle.names.specs.Walking.{named_none, named_some}
use Rattle.std.proofs.Common.{◌≡◌, ◌+◌, ◌-◌, refl, ◌∙◌, arith}
use Rattle.names.proofs.found.Goals as goal

pub returns-in-At : goal.returns-in-At
returns-in-At c = λ ix.
    let args = c.args in
    let here : c.in-At.k + 1 - 1 ≡ c.in-At.k = omega arith in
    let named = rw here at (named_some args.s.now args.scope c.part-word.result.now args.cells.now args.n (c.in-At.k + 1) (λ z. omega (arith, z)) (c.in-At.ensures.1 ix)) in
    c.whole.ensures ∙ rw c.part-word.ensures at named

pub returns-in-Nowhere : goal.returns-in-Nowhere
returns-in-Nowhere c = λ ix.
    let args = c.args in
    let none = named_none args.s.now args.scope c.part-word.result.now args.cells.now args.n 0 refl (c.in-Nowhere.ensures ix) in
    c.unknown.ensures ∙ rw c.part-word.ensures at none
