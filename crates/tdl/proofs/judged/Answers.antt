use Rattle.std.proofs.Common.{sym}
use Rattle.std.proofs.Math.Path.{refl}
use Rattle.judging.specs.Asking.{handed}
use Rattle.tdl.specs.Stages.{compiles, broken, names-indexed}
use Rattle.tdl.proofs.judged.Goals as goal

pub returns-in_err-rows : goal.returns-in_err-rows
returns-in_err-rows c =
    let pre = c.requires in
    rw (handed c.from_residual.ensures) (compiles (broken _ _ pre.0 _ _ (sym (c.in_err-rows.ensures pre.1).leftmost)))

pub translated-requires : goal.translated-requires
translated-requires c =
    let pre = c.requires in
    let judge = c.in_ok-rows.ensures pre.1 in
    (record { readable = pre.0; verdict = sym judge.leftmost; declared = judge.names _ refl; indexed = names-indexed judge }, pre.1)
