use Rattle.names.specs.Walking.{walk_begins, marked-kept, walk-hits, walk-on, walk_ends, walk-passes}
use Rattle.std.proofs.Common.{◌≡◌, ◌+◌, ◌-◌, sym, ◌∙◌, arith}
use Rattle.names.proofs.chained.Goals as goal

pub loop-link-init : goal.loop-link-init
loop-link-init c = (c.requires.2, λ s word ix h k e. rw e (walk_begins s c.args.scope word ix (rw e at c.requires.2)))

pub returns-then-is_marked-clause-first : goal.returns-then-is_marked-clause-first
returns-then-is_marked-clause-first c = λ s word ix h k e.
    let args = c.args in
    let walk = c.loop-link.invariant.1 s word ix h k e in
    let low = c.loop-link.invariant.0 in
    let is = sym (marked-kept s args.scope word ix walk low args.key k) ∙ sym c.is_marked.ensures ∙ c.if-is_marked.true in
    let here : c.loop-link.link - 1 + 1 ≡ c.loop-link.link = omega arith in
    here ∙ walk-hits s args.scope word ix walk low args.n c.loop-link-test.true is

pub returns-then-next-link-clause-first : goal.returns-then-next-link-clause-first
returns-then-next-link-clause-first c = λ s word ix h k e.
    let args = c.args in
    let walk = c.loop-link.invariant.1 s word ix h k e in
    let low = c.loop-link.invariant.0 in
    let is = sym (marked-kept s args.scope word ix walk low args.key k) ∙ sym c.is_marked.ensures ∙ c.if-is_marked.false in
    walk_ends s args.scope word ix walk low args.n h is c.if-next-link.true

pub loop-link-preserved : goal.loop-link-preserved
loop-link-preserved c = (
  omega arith,
  λ s word ix h k e. let args = c.args in
      let walk = c.loop-link.invariant.1 s word ix h k e in
      let low = c.loop-link.invariant.0 in
      let is = sym (marked-kept s args.scope word ix walk low args.key k) ∙ sym c.is_marked.ensures ∙ c.if-is_marked.false in
      walk-on s args.scope word ix walk low is c.if-next-link.false,
)

pub returns-clause-first : goal.returns-clause-first
returns-clause-first c = λ s word ix h k e.
    walk-passes s c.args.scope word ix (c.loop-link.invariant.1 s word ix h k e) c.loop-link.invariant.0 c.args.n c.loop-link-test.false
