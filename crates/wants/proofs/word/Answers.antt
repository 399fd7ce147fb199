use Rattle.std.proofs.lemmas.Result.{err_from_is_err_and}
use Rattle.wants.specs.Given.{word-told}
use Rattle.wants.proofs.word.Goals as goal

pub returns-in_err-next : goal.returns-in_err-next
returns-in_err-next c =
    let e = err_from_is_err_and c.from_residual.result c.from_residual.ensures.1 in
    rw (e.1, e.2, ← word-told _ _ _, ← c.next.ensures, c.in_err-next.was)

pub returns : goal.returns
returns c = rw (← word-told _ _ _, ← c.next.ensures, c.in_ok-next.was) c.spelt.ensures
