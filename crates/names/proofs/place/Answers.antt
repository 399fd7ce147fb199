use Rattle.names.specs.Walking.{walk_none, marked-none, marked-some, found-key}
use Rattle.names.specs.Hashing.{chain_by}
use Rattle.std.proofs.Common.{◌≡◌, ℕ, ◌+◌, ◌-◌, get_or, sym, refl, ap, ◌∙◌, arith}
use Rattle.names.proofs.place.Goals as goal

pub returns-then-head-eq0 : goal.returns-then-head-eq0
returns-then-head-eq0 c = λ ix.
    let args = c.args in
    let s = args.s.now in
    let word = args.word.now in
    let head = ap (λ (i : ℕ). get_or args.cells.now (i + 256) 0) (c.chain_of.ensures.0 ∙ chain_by args.scope word _ c.key_of-key.ensures) in
    let none = walk_none s args.scope word ix args.n c.if-cells-n.false (sym head ∙ c.if-head-eq0.true) in
    marked-none s args.scope word args.cells.now args.n 0 none refl

pub returns-in-None : goal.returns-in-None
returns-in-None c = λ ix.
    let args = c.args in
    let s = args.s.now in
    let word = args.word.now in
    let head = ap (λ (i : ℕ). get_or args.cells.now (i + 256) 0) (c.chain_of.ensures.0 ∙ chain_by args.scope word _ c.key_of-key.ensures) in
    let none = c.in-None.ensures.first s word ix c.if-cells-n.false c.key_of-key.ensures head in
    marked-none s args.scope word args.cells.now args.n 0 none refl

pub returns-in-Some : goal.returns-in-Some
returns-in-Some c = (
  omega (arith, c.in-Some.ensures.within),
  λ ix. let args = c.args in
      let s = args.s.now in
      let word = args.word.now in
      let k = c.in-Some.k in
      let head = ap (λ (i : ℕ). get_or args.cells.now (i + 256) 0) (c.chain_of.ensures.0 ∙ chain_by args.scope word _ c.key_of-key.ensures) in
      let found = c.in-Some.ensures.first s word ix c.if-cells-n.false c.key_of-key.ensures head in
      let here : k + 1 - 1 ≡ k = omega arith in
      let named = c.is_named.ensures c.if-is_named.true (rw here at (found-key s args.scope word args.cells.now args.n (k + 1) found (λ z. omega (arith, z)))) in
      marked-some s args.scope word args.cells.now args.n (k + 1) found (λ z. omega (arith, z)) (rw here named),
)
