use Rattle.std.specs.Prelude.{ℕ, ◌≡◌, ◌≤◌, ◌<◌, ◌⊎◌, Bool, true, false, eqb, [], slice_index}
use Rattle.std.proofs.lemmas.Bool.{eqb-false}
use Rattle.std.proofs.Common.{sym, refl, ap, ◌∙◌, arith, inl, inr, ⊎_elim, eqb-true}
use Rattle.refusals.specs.Checks.{first}
use Rattle.kept.specs.Rows.{read_of}
use Rattle.kept.specs.KeptLaws.{beyond}
use Rattle.kept.specs.Kinds.{kind-stops, kind-mode, kind-activity, kind-guard, kind-guard-arg, kind-invoke, kind-arg, kind-update, kind-switch, kind-mode-end, kind-module-end, kind-end, kind-no}
use Rattle.noting.specs.Rowed.{rowed-index}
use Rattle.noting.specs.Laying.{laid-nothing, laid-call, laid-update}
use Rattle.rules.specs.Meets.{head-same, operand_same, call_same, input-same, update_same, switch-same}
use Rattle.rules.specs.Going.{turns, told-plain, goes_over}
use Rattle.rules.proofs.step.Goals as goal

either-end : (kind : ℕ) → 17 ≤ kind → kind ≤ 18 → (kind ≡ 17) ⊎ (kind ≡ 18)
either-end kind low high = by (eqb kind 17) refl
  where
    by : (b : Bool) → eqb kind 17 ≡ b → (kind ≡ 17) ⊎ (kind ≡ 18)
    by true e = inl (eqb-true kind 17 e)
    by false e = let other = eqb-false kind 17 e in inr (omega arith)

pub returns-then-kind-lt9 : goal.returns-then-kind-lt9
returns-then-kind-lt9 c = λ kept p g. c.declaration_step.ensures c.if-kind-lt9.true _ _ _ _ _ p g

pub returns-then-kind-eq9 : goal.returns-then-kind-eq9
returns-then-kind-eq9 c = λ kept p g.
    let row = c.args.row.now in
    turns g (read_of row) p (kind-mode row c.if-kind-eq9.true) (laid-nothing _ _ _ _ _ _ _ refl) (λ m. rw (g.rowed.same, m.drafted.started)) refl refl (c.begun.ensures (rowed-index g.rowed))

pub returns-in-10 : goal.returns-in-10
returns-in-10 c = λ kept p g.
    let row = c.args.row.now in
    turns g (read_of row) p (kind-activity row c.in-10.is) (laid-nothing _ _ _ _ _ _ _ refl) (λ m. ap first (head-same m)) refl refl (told-plain c.headed.ensures refl)

pub returns-in-11 : goal.returns-in-11
returns-in-11 c = λ kept p g.
    let row = c.args.row.now in
    turns g (read_of row) p (kind-guard row c.in-11.is) (laid-nothing _ _ _ _ _ _ _ refl) (λ m. refl) refl refl (told-plain c.guarded.ensures refl)

pub returns-in-12 : goal.returns-in-12
returns-in-12 c = λ kept p g.
    let row = c.args.row.now in
    turns g (read_of row) p (kind-guard-arg row c.in-12.is) (laid-nothing _ _ _ _ _ _ _ refl) (λ m. ap first (operand_same m)) refl refl (told-plain (c.operated.ensures (rowed-index g.rowed)) refl)

pub returns-in-13 : goal.returns-in-13
returns-in-13 c = λ kept p g.
    let row = c.args.row.now in
    let ix = rowed-index g.rowed in
    turns g (read_of row) p (kind-invoke row c.in-13.is) (laid-call _ _ _ _ _ _ _ _ (c.invoked.ensures.arrays ix).0 (c.invoked.ensures.arrays ix).1) (λ m. ap first (call_same m)) refl refl (told-plain (c.invoked.ensures.told ix) refl)

pub returns-in-14 : goal.returns-in-14
returns-in-14 c = λ kept p g.
    let row = c.args.row.now in
    turns g (read_of row) p (kind-arg row c.in-14.is) (laid-nothing _ _ _ _ _ _ _ refl) (λ m. ap first (input-same m)) refl refl (told-plain (c.argued.ensures (rowed-index g.rowed)) refl)

pub returns-in-15 : goal.returns-in-15
returns-in-15 c = λ kept p g.
    let row = c.args.row.now in
    let ix = rowed-index g.rowed in
    turns g (read_of row) p (kind-update row c.in-15.is) (laid-update _ _ _ _ _ _ _ _ (c.updated.ensures.arrays ix)) (λ m. ap first (update_same m)) refl refl (told-plain (c.updated.ensures.told ix) refl)

pub returns-in-16 : goal.returns-in-16
returns-in-16 c = λ kept p g.
    let row = c.args.row.now in
    turns g (read_of row) p (kind-switch row c.in-16.is) (laid-nothing _ _ _ _ _ _ _ refl) (λ m. ap first (switch-same m)) refl refl (told-plain (c.switched.ensures (rowed-index g.rowed) kept) refl)

pub returns-in-17 : goal.returns-in-17
unfolding first
returns-in-17 c =
    let row = c.args.row.now in
    let low : 17 ≤ slice_index row 0 = omega arith in
    let high : slice_index row 0 ≤ 18 = omega arith in
    λ kept p g. ⊎_elim
    (λ e. turns g (read_of row) p (kind-mode-end row e) (laid-nothing _ _ _ _ _ _ _ refl) (λ m. refl) refl refl (told-plain {verdict = first []} refl refl))
    (λ e. turns g (read_of row) p (kind-module-end row e) (laid-nothing _ _ _ _ _ _ _ refl) (λ m. refl) refl refl (told-plain {verdict = first []} refl refl))
    (either-end (slice_index row 0) low high)

pub returns-in-19 : goal.returns-in-19
returns-in-19 c = λ kept p g.
    let row = c.args.row.now in
    let end = kind-end row c.in-19.is in
    rw c.ended.ensures (goes_over g (read_of row) p _ (rw (end, g.drafted.started)) (kind-stops row (omega (arith, c.in-19.is))))

pub returns-in_default-2 : goal.returns-in_default-2
unfolding first
returns-in_default-2 c = λ kept p g.
    let row = c.args.row.now in
    let last : 19 < slice_index row 0 = omega arith in
    goes_over g (read_of row) p (first []) (rw (kind-no row last)) (kind-stops row (omega (arith, last)))
