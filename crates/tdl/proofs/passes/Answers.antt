use Rattle.std.proofs.Common.{sym, ◌∙◌, arith}
use Rattle.items.specs.Answers.{told}
use Rattle.grammar.proofs.Syntax.{syntax-free}
use Rattle.judging.specs.Asking.{handed}
use Rattle.tdl.specs.Stages.{compiles, long, unreadable}
use Rattle.tdl.proofs.passes.Goals as goal

pub returns-then-text-gt16384 : goal.returns-then-text-gt16384
returns-then-text-gt16384 c = compiles {text = c.args.text.now} {before = c.args.out.now} (long _ _ (omega (arith, c.if-text-gt16384.true)))

pub returns-in_err-syntax : goal.returns-in_err-syntax
returns-in_err-syntax c =
    let args = c.args in
    rw (handed c.from_residual.ensures) (compiles {text = args.text.now} {before = args.out.now} (unreadable _ _ (omega (arith, c.if-text-gt16384.false)) _ _ (told _ _ (sym c.in_err-syntax.was ∙ c.syntax.ensures.answer))))

pub judged-requires : goal.judged-requires
judged-requires c =
    (record { short = omega (arith, c.if-text-gt16384.false); is-module = (syntax-free _).0 (told _ _ (sym c.in_ok-syntax.was ∙ c.syntax.ensures.answer)) }, c.syntax.ensures.kept)
