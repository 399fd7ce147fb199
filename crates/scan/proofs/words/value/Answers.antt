use Prim.Native.Nat.{ℕ, ◌+◌, ◌-◌, ◌*◌, min}
use mathlib.Core.Path.{sym, ap, ◌∙◌}
use lib.ListN.{get_or}
use Rattle.text.proofs.WordsLaws.{value-capped}
use Rattle.scan.specs.Slices.{value-next, value-over}
use Rattle.scan.proofs.words.value.Goals as goal

pub loop-b-preserved : goal.loop-b-preserved
loop-b-preserved c =
    let part = c.part-b-items.result.now in
    let i = c.loop-b.b-index in
    let exact = c.loop-b.invariant.0 in (
      exact * 10 + (get_or part i 0 - 48),
      c.min-n.ensures ∙ rw (c.from.ensures, c.saturating_sub.ensures, c.loop-b.invariant.1) (value-capped _ _),
      c.loop-b.invariant.2 ∙ value-next part i exact c.loop-b-test.true,
    )

pub returns : goal.returns
returns c =
    let part = c.part-b-items.result.now in
    c.loop-b.invariant.1 ∙ ap (λ (x : ℕ). min x 4294967296) (sym (c.loop-b.invariant.2 ∙ value-over part c.loop-b.b-index _ c.loop-b-test.false))
