use Rattle.std.proofs.Common.{ℕ, refl, sym, ◌∙◌, rules, arith}
use Rattle.text.specs.declared.Item.{Item}
use Rattle.text.specs.Items.{items_from}
use Rattle.text.proofs.ItemsLaws.{turn-ahead}
use Rattle.kept.specs.Rows.{state_of, read_of}
use Rattle.names.specs.Tables.{rows_in}
use Rattle.ports.specs.Boards.{Board, placed_by}
use Rattle.ports.specs.Late.{late-items}
use Rattle.build.specs.Walks.{on-ahead, over-out, run-again, run-over, still-run, declaring-few}
use Rattle.build.proofs.declarations.walk.Goals as goal

pub loop-at-init : goal.loop-at-init
unfolding state_of
loop-at-init c =
    record { few = omega arith; rows = omega arith; run = λ kept ix. (omega arith, refl); same = record { title = refl; sensors = refl; actuators = refl; tasks = refl; outputs = refl; roles = refl; types = refl; starts = refl; rows = refl } }

pub returns-then-late-clause-run : goal.returns-then-late-clause-run
returns-then-late-clause-run c kept ix =
    let s = c.args.s.now in
    let loop = c.loop-at in
    let told = rw c.state_of.ensures at (sym c.late.ensures ∙ c.if-late.true) in
    still-run s c.args.cells.now loop.n (items_from s (state_of loop.state) loop.at) _ (late-items s (state_of loop.state) loop.at told) ∙ (loop.invariant.run kept ix).1

pub returns-then-over-clause-run : goal.returns-then-over-clause-run
returns-then-over-clause-run c kept ix =
    let s = c.args.s.now in
    let cells = c.args.cells.now in
    let on = λ (k : ℕ) (item : Item) (board : Board). placed_by s (rows_in cells k) item board in
    let loop = c.loop-at in
    let row = c.fetch.new.row in
    let read = read_of row in
    let run = loop.invariant.run kept ix in
    let is = c.fetch.ensures kept in
    let out = over-out s (state_of loop.state) loop.at read run.0 is (sym (c.over.ensures row refl) ∙ c.if-over.true) in
    run-over on s (state_of loop.state) loop.at read run.0 is loop.n _ out (c.placed.ensures.done ix) run.1

pub loop-at-preserved : goal.loop-at-preserved
loop-at-preserved c =
    let s = c.args.s.now in
    let cells = c.args.cells.now in
    let on = λ (k : ℕ) (item : Item) (board : Board). placed_by s (rows_in cells k) item board in
    let loop = c.loop-at in
    let row = c.fetch.new.row in
    let read = read_of row in
    let ahead = on-ahead read.item loop.at read.next (sym (c.over.ensures row refl) ∙ c.if-over.false) in
    record {
      few = omega (arith, ahead.0, loop.invariant.few, declaring-few read.item, c.declaring-n.ensures row refl);
      rows = omega (arith, ahead.0, loop.invariant.rows);
      run = λ kept ix.
          let run = loop.invariant.run kept ix in
          let is = c.fetch.ensures kept in (
            (turn-ahead s (state_of loop.state) loop.at read run.0 is ahead.1).1,
            run-again on s (state_of loop.state) loop.at read run.0 is loop.n _ ahead.1 (c.placed.ensures.done ix) (c.declaring-n.ensures row refl) run.1,
          );
      same = search rules;
    }

pub loop-at-smaller : goal.loop-at-smaller
loop-at-smaller c =
    let row = c.fetch.new.row in
    let read = read_of row in
    let ahead = on-ahead read.item c.loop-at.at read.next (sym (c.over.ensures row refl) ∙ c.if-over.false) in
    omega (arith, ahead.0, c.loop-at-test.true)

pub returns-clause-run : goal.returns-clause-run
returns-clause-run c kept ix = absurd (omega (arith, (c.loop-at.invariant.run kept ix).0, c.loop-at-test.false))
