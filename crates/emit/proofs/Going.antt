-- A walk over the activities of a kind: what is still to come.
use Prim.Native.Nat.{ℕ, suc, ◌+◌, ◌-◌, ◌*◌, ◌/◌, ◌≤◌, ◌<◌}
use native.Mathlib.Omega.{arith}
use native.Mathlib.Nat.{add-zero}
use mathlib.Core.Path.{◌≡◌, refl, sym, ◌∙◌, ap}
use mathlib.Core.Bool.{Bool, true, false, cond}
use mathlib.Core.List.{List, [], ◌∷◌, map}
use lib.ListN.{get_or}
use Rattle.model.specs.Modules.{Act}
use Rattle.timing.specs.Slots.{spans, slots_from, any_of, keep, next_on, soonest}
use Rattle.timing.specs.Code.{Driven, ◌⊕◌, fixed, guarded, pieces, driven_from}
use Rattle.emit.specs.Rows.{guard_by, act_by, acts_by}
use Rattle.emit.specs.Emitted.{Out, emitted, Emitted}
use Rattle.emit.specs.Lines.{body_of, body_in, guard_for, seen_as, edge_of, due_at, lines, line}
use Rattle.emit.specs.declared.activities.Kind.{Kind}
use Rattle.emit.proofs.Emission.{emitted_then, emitted-same, emitted-none, called, nothing}

-- ---- one activity

module _ (kind : Kind) (period t driver : ℕ) where
  line-then : (act : Act ℕ) (acts : List (Act ℕ)) (pc : ℕ) → lines kind period t driver (act ∷ acts) pc ≡ (line kind period t driver act ⊕ lines kind period t (driver + 1) acts) pc
  unfolding lines line spans
  line-then act acts pc = go (any_of (edge_of kind t) (slots_from (period / act.frequency) act.frequency 0))
    where
      this : Act (Driven ℕ)
      this = record { frequency = act.frequency; guard = guard_for kind act.guard; what = record { driver = driver; does = act.what } }

      rest : List (Act (Driven ℕ))
      rest = keep (due_at kind period t) (driven_from (driver + 1) (map (seen_as kind) acts))

      go : (y : Bool) → pieces (body_in kind) (cond y (this ∷ rest) rest) pc ≡ (cond y (guarded (guard_for kind act.guard) (body_of kind act.what driver)) (fixed []) ⊕ pieces (body_in kind) rest) pc
      go true = refl
      go false = ap (pieces (body_in kind) rest) (sym (add-zero pc))

module _ (acts : List ℕ) (period t row frequency : ℕ) (often : frequency ≡ get_or acts (row * 3) 0) where
  slots-are : slots_from (period / frequency) frequency 0 ≡ spans period (act_by acts row)
  unfolding spans
  slots-are = rw often refl

  pub next-end : (soon next : ℕ) → next ≡ next_on t (slots_from (period / frequency) frequency 0) soon → next ≡ next_on t (spans period (act_by acts row)) soon
  next-end soon next e = e ∙ rw slots-are refl

  module _ (kind : Kind) (driver : ℕ) where
    pub turned : {s z : Out} (guard cell what : ℕ) → true ≡ any_of (edge_of kind t) (slots_from (period / frequency) frequency 0)
        → guard_by guard ≡ guard_for kind (guard_by cell) → cell ≡ get_or acts (row * 3 + 1) 0 → what ≡ get_or acts (row * 3 + 2) 0 → Emitted s z (guarded (guard_by guard) (body_of kind what driver)) 3
        → Emitted s z (line kind period t driver (act_by acts row)) 3
    unfolding line
    turned guard cell what due g c w e = called (rw (← slots-are, ← due, g, c, w) refl) (omega arith) e

    pub unturned : (s : Out) → false ≡ any_of (edge_of kind t) (slots_from (period / frequency) frequency 0) → Emitted s s (line kind period t driver (act_by acts row)) 3
    unfolding line
    unturned s due = called (rw (← slots-are, ← due) refl) (omega arith) (nothing s)

-- ---- the activities that are left

-- one less is left, one step on
less : (i count : ℕ) → i < count → count - i ≡ suc (count - (i + 1))
less i count h = omega arith

further : (n i : ℕ) → n + (i + 1) ≡ n + i + 1
further n i = omega arith

pub soon-on : (acts : List ℕ) (period t row i count soon next best : ℕ) → i < count → soonest period t (acts_by acts (row + i) (count - i)) soon ≡ best
    → next ≡ next_on t (spans period (act_by acts (row + i))) soon → soonest period t (acts_by acts (row + (i + 1)) (count - (i + 1))) next ≡ best
unfolding acts_by
soon-on acts period t row i count soon next best h e n =
    let f : soonest period t (act_by acts (row + i) ∷ acts_by acts (row + i + 1) (count - (i + 1))) soon ≡ best = rw (less i count h) at e in
    rw (further row i, n) f

pub soon-ends : (acts : List ℕ) (period t row i count soon best : ℕ) → count ≤ i → soonest period t (acts_by acts (row + i) (count - i)) soon ≡ best → soon ≡ best
unfolding acts_by
soon-ends acts period t row i count soon best h e = let z : count - i ≡ 0 = omega arith in rw z at e

-- What is left of a walk: its code and its soonest slot end are those of the whole.
pub record Going (kind : Kind) (period t : ℕ) (acts : List ℕ) (goal : Out) (best row driver left : ℕ) (z : Out) (soon : ℕ) : Type 0 where
  pub code : emitted z (lines kind period t driver (acts_by acts row left)) ≡ goal
  pub ends : soonest period t (acts_by acts row left) soon ≡ best

module _ (kind : Kind) (period t : ℕ) (acts : List ℕ) where
  pub going_on : {goal : Out} {best : ℕ} (row driver i count : ℕ) {s z : Out} (soon next : ℕ) {most : ℕ} → i < count → Going kind period t acts goal best (row + i) (driver + i) (count - i) s soon
      → Emitted s z (line kind period t (driver + i) (act_by acts (row + i))) most → next ≡ next_on t (spans period (act_by acts (row + i))) soon
      → Going kind period t acts goal best (row + (i + 1)) (driver + (i + 1)) (count - (i + 1)) z next
  unfolding acts_by
  going_on {goal} {best} row driver i count {s} {z} soon next h g e n =
      let on = lines kind period t (driver + i + 1) (acts_by acts (row + i + 1) (count - (i + 1))) in
      let all : emitted s (lines kind period t (driver + i) (act_by acts (row + i) ∷ acts_by acts (row + i + 1) (count - (i + 1)))) ≡ goal = rw (less i count h) at g.code in
      record {
        code =
            rw (further row i, further driver i)
            (ap (λ (x : Out). emitted x on) e.code
            ∙ sym (emitted_then s (line kind period t (driver + i) (act_by acts (row + i))) on)
            ∙ emitted-same s (line kind period t (driver + i) (act_by acts (row + i)) ⊕ on) (lines kind period t (driver + i) (act_by acts (row + i) ∷ acts_by acts (row + i + 1) (count - (i + 1))))
            (sym (line-then kind period t (driver + i) (act_by acts (row + i)) (acts_by acts (row + i + 1) (count - (i + 1))) s.pc))
            ∙ all);
        ends = soon-on acts period t row i count soon next best h g.ends n;
      }

  pub going-ends : {goal : Out} {best : ℕ} (row driver i count : ℕ) {z : Out} {soon : ℕ} → count ≤ i → Going kind period t acts goal best (row + i) (driver + i) (count - i) z soon → (z ≡ goal) × (soon ≡ best)
  unfolding acts_by lines
  going-ends {goal} {best} row driver i count {z} {soon} h g =
      let e : count - i ≡ 0 = omega arith in
      (sym (emitted-none z) ∙ (rw e at g.code), soon-ends acts period t row i count soon best h g.ends)
