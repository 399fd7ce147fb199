use Prim.Native.Nat.{ℕ}
use Rattle.ecode.specs.Filed.{longest}
use Rattle.file.specs.Answers.{writes, written}
use lib.ListN.{length-replicate}
use mathlib.Core.Bool.{true}
use mathlib.Core.Path.{ap, ◌∙◌}
use Rattle.ecode.proofs.arrays.write_aside.Goals as goal

pub returns : goal.returns
returns c =
    let e = longest c.file_of-n.ensures (length-replicate {A = ℕ} 71364 0) in
    let buffer = c.args.buffer.now in
    let hand = c.hand in
    (hand.ensures.0 ∙ ap (λ f. writes true f buffer) e, hand.ensures.1 ∙ ap (λ f. written true f buffer) e)
