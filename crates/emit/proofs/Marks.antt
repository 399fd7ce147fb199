-- What the slots of a frequency do at one instant.
use Prim.Native.Nat.{ℕ, ◌+◌, ◌/◌, min, ◌≤◌, ◌<◌}
use native.Mathlib.Omega.{arith}
use mathlib.Core.Path.{◌≡◌, refl, sym, ◌∙◌, ap}
use mathlib.Core.Bool.{Bool, true, false, cond}
use mathlib.Core.List.{List, [], ◌∷◌}
use lib.ListN.{length, get_or, set}
use lib.Seq.{get_or-set_same, get_or-set_other}
use lib.Dec.{eqb, ltb}
use borrow.Author.Tests.{eqb-true, eqb-false}
use Rattle.timing.specs.Slots.{Span, slots_from, any_of, sooner, next_on}
use Rattle.emit.specs.Lines.{edge_of}
use Rattle.emit.specs.Edges.{never, due_by, Edge, Edges, nothing}
use Rattle.emit.specs.declared.slots.Marks.{Marks}
use Rattle.emit.specs.declared.activities.Kind.{Kind}
use Rattle.emit.specs.declared.activities.Kind.TheVariants.{Termination, Update, Switch, Release}

-- ---- the first end ahead

module _ (t : ℕ) where
  sooner-min : (end a b : ℕ) → sooner t end (min a b) ≡ min a (sooner t end b)
  sooner-min end a b = go (ltb t end)
    where
      go : (y : Bool) → cond y (min (min a b) end) (min a b) ≡ min a (cond y (min b end) b)
      go true = omega arith
      go false = refl

  next-min : (l : List Span) (a b : ℕ) → next_on t l (min a b) ≡ min a (next_on t l b)
  next-min [] a b = refl
  next-min (span ∷ l) a b = ap (λ (n : ℕ). next_on t l n) (sooner-min span.to a b) ∙ next-min l a (sooner t span.to b)

-- ---- what the slots of a frequency do

module _ {period t frequency : ℕ} {marks : Marks} (told : Edge period t frequency marks) where
  pub due-is : (kind : Kind) → due_by kind marks ≡ any_of (edge_of kind t) (slots_from (period / frequency) frequency 0)
  due-is Termination = told.ends
  due-is Update = told.ends
  due-is Switch = told.ends
  due-is Release = told.begins

  pub near-is : (soon next : ℕ) → soon ≤ never → next ≡ min soon marks.ahead → next ≡ next_on t (slots_from (period / frequency) frequency 0) soon
  near-is soon next le e =
      let slots = slots_from (period / frequency) frequency 0 in
      let m : min soon never ≡ soon = omega arith in
      e ∙ ap (λ (x : ℕ). min soon x) told.ahead ∙ sym (next-min t slots soon never) ∙ ap (λ (x : ℕ). next_on t slots x) m

-- ---- those of the first frequencies

pub record Marked (period t count : ℕ) (marks : List Marks) : Type 0 where
  pub each : (frequency : ℕ) → frequency < count → Edge period t frequency (get_or marks frequency nothing)

module _ (period t : ℕ) (marks : List Marks) where
  pub marked-begins : Marked period t 0 marks
  marked-begins = record { each = λ frequency h. absurd (omega arith) }

  pub marked-on : (count : ℕ) (mark : Marks) → count < length marks → Marked period t count marks → Edge period t count mark → Marked period t (count + 1) (set marks count mark)
  marked-on count mark h m told = record { each = λ frequency lt. go frequency lt (eqb frequency count) refl }
    where
      go : (frequency : ℕ) → frequency < count + 1 → (y : Bool) → eqb frequency count ≡ y → Edge period t frequency (get_or (set marks count mark) frequency nothing)
      go frequency lt true e =
          let same = eqb-true frequency count e in
          rw (same, get_or-set_same marks count mark nothing h) told
      go frequency lt false e =
          let other = eqb-false frequency count e in
          rw (get_or-set_other marks count frequency mark nothing other) (m.each frequency (omega arith))

  pub marked-ends : (count : ℕ) → length marks ≤ count → Marked period t count marks → Edges period t marks
  marked-ends count h m = record { each = λ frequency lt. m.each frequency (omega arith) }
