use Rattle.std.proofs.Common.{◌≡◌, refl, arith}
use Rattle.emit.proofs.Emission.{called, guarding}
use Rattle.emit.proofs.activities.Kind.guarded.Goals as goal
use Rattle.emit.proofs.activities.Kind.guarded.Goals.{then-guard-gt0, else-guard-gt0}

pub returns-clause-code : goal.returns-clause-code
returns-clause-code c = elim c.if-guard-gt0.branch [
  | then-guard-gt0 w ↦
      called refl (omega arith)
      (guarding _ _ _ (w.size.ensures.0 _ _) (λ e. omega (arith, w.if-guard-gt0.true)) w.put.ensures.code (rw w.code-is at c.body.ensures.code))
  | else-guard-gt0 w ↦
      let none : c.args.guard ≡ 0 = omega (arith, w.if-guard-gt0.false) in
      rw none (called refl (omega arith) (rw w.code-is at c.body.ensures.code))
]
