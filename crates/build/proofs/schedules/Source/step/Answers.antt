use Rattle.std.proofs.Common.{ℕ, refl, sym, ◌∙◌, ◌+◌, length, arith}
use Rattle.text.specs.declared.Item.{Item}
use Rattle.text.proofs.ItemsLaws.{turn-ahead}
use Rattle.kept.specs.Rows.{state_of, read_of}
use Rattle.names.specs.Tables.{rows_in}
use Rattle.sheets.specs.Sheets.{Sheet, planned}
use Rattle.build.specs.Walks.{on-ahead, over-out, run-again, run-over, declaring-few}
use Rattle.build.specs.Lent.{past_end}
use Rattle.build.proofs.schedules.Source.step.Goals as goal

pub returns-then-over-clause-run : goal.returns-then-over-clause-run
returns-then-over-clause-run c is ix =
    let s = c.args.self.now.s.now in
    let cells = c.args.self.now.cells.now in
    let on = λ (k : ℕ) (item : Item) (sheet : Sheet). planned s (rows_in cells c.args.self.now.all) (rows_in cells k) item sheet in
    let from = c.args.from in
    let read = read_of c.args.row.now in
    let out = over-out s (state_of from.state) from.at read c.requires.2 is (sym (c.over.ensures c.args.row.now refl) ∙ c.if-over.true) in
    past_end on s (state_of from.state) (length s + 1) from.declared _ (omega arith)
    ∙ run-over on s (state_of from.state) from.at read c.requires.2 is from.declared _ out (c.planned.ensures.done ix) refl

pub returns-clause-ahead : goal.returns-clause-ahead
returns-clause-ahead c =
    (on-ahead (read_of c.args.row.now).item c.args.from.at (read_of c.args.row.now).next (sym (c.over.ensures c.args.row.now refl) ∙ c.if-over.false)).0

pub returns-clause-few : goal.returns-clause-few
returns-clause-few c h =
    let read = read_of c.args.row.now in
    let ahead = on-ahead read.item c.args.from.at read.next (sym (c.over.ensures c.args.row.now refl) ∙ c.if-over.false) in
    omega (arith, ahead.0, c.requires.1, declaring-few read.item, c.declaring.ensures c.args.row.now refl)

pub returns-clause-run : goal.returns-clause-run
returns-clause-run c is ix =
    let s = c.args.self.now.s.now in
    let cells = c.args.self.now.cells.now in
    let on = λ (k : ℕ) (item : Item) (sheet : Sheet). planned s (rows_in cells c.args.self.now.all) (rows_in cells k) item sheet in
    let from = c.args.from in
    let read = read_of c.args.row.now in
    let ahead = on-ahead read.item from.at read.next (sym (c.over.ensures c.args.row.now refl) ∙ c.if-over.false) in
    run-again on s (state_of from.state) from.at read c.requires.2 is from.declared _ ahead.1 (c.planned.ensures.done ix) (c.declaring.ensures c.args.row.now refl) refl
