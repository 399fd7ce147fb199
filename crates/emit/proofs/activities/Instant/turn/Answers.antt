use Rattle.std.proofs.Common.{sym, ◌∙◌, arith}
use Rattle.emit.proofs.Going.{next-end, turned, unturned}
use Rattle.emit.proofs.Marks.{due-is, near-is}
use Rattle.emit.proofs.activities.Instant.turn.Goals as goal
use Rattle.emit.proofs.activities.Instant.turn.Goals.{then-is_due, else-is_due}

pub returns-clause-code : goal.returns-clause-code
returns-clause-code c =
    let acts = c.args.self.now.acts.now in
    let period = c.args.self.now.frame.period in
    let due = c.is_due.ensures ∙ due-is c.marks-marks.ensures c.args.kind in
    elim c.if-is_due.branch [
      | then-is_due w ↦
          rw w.code-is
          (turned acts period c.args.self.now.t c.args.row c.at32.result c.at32.ensures c.args.kind c.args.driver w.guard-guard.result w.at32-then-is_due.result w.at32-what.result
          (sym w.if-is_due.true ∙ due) w.guard-guard.ensures w.at32-then-is_due.ensures w.at32-what.ensures w.guarded.ensures.code)
      | else-is_due w ↦
          rw w.code-is (unturned acts period c.args.self.now.t c.args.row c.at32.result c.at32.ensures c.args.kind c.args.driver _ (sym w.if-is_due.false ∙ due))
    ]

pub returns-clause-soon : goal.returns-clause-soon
returns-clause-soon c =
    next-end c.args.self.now.acts.now c.args.self.now.frame.period c.args.self.now.t c.args.row c.at32.result c.at32.ensures c.args.soon c.min.result
    (near-is c.marks-marks.ensures c.args.soon c.min.result c.requires.3 (omega arith))
