-- Causality: what is shown up to a call does not depend on later calls; a reading enters only at a due tick; a result only where a slot of its task ends.
use Prim.Native.Nat.{ℕ}
use Rattle.std.specs.Prelude.{◌≡◌, Bool, false, List, [], ◌∷◌}
use Rattle.model.specs.Clock.{elapsed, fits}
use Rattle.model.specs.Modules.{Module}
use Rattle.timing.specs.SlotLaws.{Each}
use Rattle.timing.specs.Rules.{Standing, idle, ready, running, done}
use Rattle.timing.specs.Calls.{Ask, tick, next, finish, View, Said, result_types, remains, ask, replies, comes}
use Rattle.timing.specs.Lates.{ending_next}

-- ---- earlier answers do not depend on later calls

module _ (M : Module) where
  -- All that a history shows: each answer, and the module after it.
  abbrev pub shown : List Ask → View → List Said
  shown [] v = []
  shown (a ∷ rest) v = ask M a v ∷ shown rest (ask M a v).view

-- ---- results of the tasks of D, while no slot of theirs ends

-- how far a task has come
abbrev pub stage : Standing → ℕ
stage idle = 0
stage ready = 1
stage running = 2
stage (done results) = 3

-- As far come; and the same, unless the task is of D.
pub record Like (d : Bool) (x y : Standing) : Type 0 where
  pub as-far : stage x ≡ stage y
  pub same : d ≡ false → x ≡ y

module _ (M : Module) (D : ℕ → Bool) where
  -- The same calls, but for the results of tasks of D.
  abbrev pub VaryAt : Ask → Ask → Type 0
  VaryAt (tick count types words) (tick count1 types1 words1) = (count ≡ count1) × (types ≡ types1) × (words ≡ words1)
  VaryAt (tick count types words) next = ⊥
  VaryAt (tick count types words) (finish task1 types1 words1) = ⊥
  VaryAt next next = Unit {0}
  VaryAt next (tick count1 types1 words1) = ⊥
  VaryAt next (finish task1 types1 words1) = ⊥
  VaryAt (finish task types words) (finish task1 types1 words1) =
      (task ≡ task1) × (fits (result_types M task) types words ≡ fits (result_types M task) types1 words1) × (D task ≡ false → words ≡ words1)
  VaryAt (finish task types words) next = ⊥
  VaryAt (finish task types words) (tick count1 types1 words1) = ⊥

  abbrev pub Vary : List Ask → List Ask → Type 0
  Vary [] [] = Unit {0}
  Vary [] (b ∷ n) = ⊥
  Vary (a ∷ l) [] = ⊥
  Vary (a ∷ l) (b ∷ n) = VaryAt a b × Vary l n

  -- No slot of a task of D ends at a due tick.
  abbrev pub CalmAt : Ask → View → Type 0
  CalmAt (tick count types words) v = elapsed v.clock count ≡ remains M v.place → Each (λ a. D a.what.task ≡ false) (ending_next M v)
  CalmAt next v = Unit {0}
  CalmAt (finish task types words) v = Unit {0}

  abbrev pub Calm : List Ask → View → Type 0
  Calm [] v = Unit {0}
  Calm (a ∷ l) v = CalmAt a v × Calm l (ask M a v).view

  pub record NoTrace (l n : List Ask) (v w : View) : Type 0 where
    pub same-replies : replies M n w ≡ replies M l v
    pub same-mode : (comes M n w).place.mode ≡ (comes M l v).place.mode
    pub same-time : (comes M n w).place.time ≡ (comes M l v).place.time
    pub same-ports : (comes M n w).place.store.ports ≡ (comes M l v).place.store.ports
    pub same-released : (comes M n w).place.released ≡ (comes M l v).place.released
