use mathlib.Core.Path.{sym, ap, ◌∙◌}
use Rattle.file.specs.Files.{decode}
use Rattle.file.specs.Answers.{writes, written}
use Rattle.ecode.specs.Sound.{back_in, unsound-refused}
use Rattle.ecode.proofs.handed.Goals as goal

pub returns-then-reads_back : goal.returns-then-reads_back
returns-then-reads_back c =
    let bytes = c.args.bytes.now in
    let buffer = c.args.buffer.now in
    let good = sym c.if-reads_back.true ∙ c.reads_back.ensures in
    let hand = c.hand in
    (hand.ensures.0 ∙ ap (λ b. writes b bytes buffer) good, hand.ensures.1 ∙ ap (λ b. written b bytes buffer) good)

pub returns-else-reads_back : goal.returns-else-reads_back
returns-else-reads_back c = unsound-refused (back_in c.args.t.now (decode c.args.bytes.now)) c.args.bytes.now c.args.buffer.now (sym c.reads_back.ensures ∙ c.if-reads_back.false)
