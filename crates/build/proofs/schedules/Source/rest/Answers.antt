use Rattle.std.proofs.Common.{ℕ, sym, ◌∙◌, arith}
use Rattle.text.specs.declared.Item.{Item}
use Rattle.kept.specs.Rows.{state_of}
use Rattle.names.specs.Tables.{rows_in}
use Rattle.sheets.specs.Sheets.{Sheet, planned}
use Rattle.build.specs.Lent.{past_end}
use Rattle.build.proofs.schedules.Source.rest.Goals as goal

pub returns-clause-run : goal.returns-clause-run
returns-clause-run c kept ix =
    let s = c.args.self.now.s.now in
    let cells = c.args.self.now.cells.now in
    let on = λ (k : ℕ) (item : Item) (sheet : Sheet). planned s (rows_in cells c.args.self.now.all) (rows_in cells k) item sheet in
    let walked = c.loop-walked.walked in
    sym (past_end on s (state_of walked.state) walked.at walked.declared _ (omega (arith, c.loop-walked-test.false))) ∙ c.loop-walked.invariant.run kept ix
