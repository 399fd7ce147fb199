use Rattle.std.proofs.Common.{arith, rules, refl, ap, ap₂, sym, ◌∙◌, ◌≡◌, ◌+◌, min}
use Rattle.writing.specs.Wrote.{wrote-both, wrote_of, wrote-begin, wrote-more}
use Rattle.writing.specs.Puts.{parts}
use Rattle.writing.specs.Cells.{outputs_before, outputs-next, tasks_in}
use Rattle.writing.proofs.tasks.tasks.Goals as goal

pub loop-k-init : goal.loop-k-init
unfolding outputs_before
loop-k-init c = record { so_far = refl; few = search rules; wrote = wrote-begin _ _ }

pub loop-k-preserved : goal.loop-k-preserved
loop-k-preserved c =
    let i = c.loop-k.invariant in
    record {
      so_far = ap₂ (λ a b. a + b) i.so_far (c.few-row.ensures ∙ ap (λ x. min x 8) c.at32.ensures) ∙ sym (outputs-next _ _);
      few = omega arith;
      wrote = wrote-more _ _ i.wrote c.task.ensures;
    }

pub returns : goal.returns
unfolding tasks_in
returns c = let e : c.loop-k.k ≡ min c.args.t.now.counts.tasks 32 = omega arith in wrote-both c.pair.ensures (wrote_of (parts _) e c.loop-k.invariant.wrote)
