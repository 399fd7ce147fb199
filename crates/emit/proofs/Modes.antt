-- The code of the modes, one behind the other: what is still to come, and what it is in the end.
use Prim.Native.Nat.{ℕ, suc, ◌+◌, ◌-◌, min, ◌≤◌, ◌<◌}
use native.Mathlib.Omega.{arith}
use native.Mathlib.Nat.{zero-add}
use mathlib.Core.Path.{◌≡◌, refl, sym, ◌∙◌, ap}
use mathlib.Core.List.{List, map}
use lib.ListN.{length, set}
use lib.Seq.{sets}
use native.Mathlib.Numerals.{add-one}
use Rattle.model.specs.Rooms.{task_room, mode_room}
use Rattle.timing.specs.Code.{◌⊕◌, mode_code, mode_driver_count, code_from, begins_from}
use Rattle.emit.specs.Rows.{mode_by, modes_from, modes_by, code_by, place_in, Generated}
use Rattle.emit.specs.Emitted.{Out, out, emitted, Emitted}
use Rattle.emit.specs.Frames.{mode_in, FrameOf}
use Rattle.emit.specs.declared.frames.Frame.{Frame}
use Rattle.emit.proofs.Emission.{emitted_then, emitted-pc, emitted-none, emitted-cells}
use Rattle.emit.proofs.Parts.{drivers-are}

-- What is left: `left` modes from the k-th on, whose first driver this is.
pub record Coming (modes acts : List ℕ) (goal : Out) (places : List ℕ) (k left driver : ℕ) (z : Out) (begins : List ℕ) : Type 0 where
  pub code : emitted z (code_from driver (modes_from modes acts k left)) ≡ goal
  pub starts : sets begins k (map place_in (begins_from driver (modes_from modes acts k left) z.pc)) ≡ places

module _ (modes acts : List ℕ) where
  pub coming-on : {goal : Out} {places : List ℕ} (k count driver : ℕ) (m : Frame) {s z : Out} {begins : List ℕ} {most : ℕ} (place : ℕ) → k < count → FrameOf modes k driver m
      → Coming modes acts goal places k (count - k) driver s begins → Emitted s z (mode_code m.driver (mode_in acts m)) most → place ≡ place_in s.pc
      → Coming modes acts goal places (k + 1) (count - (k + 1)) (driver + (m.updates + m.calls)) z (set begins k place)
  unfolding modes_from code_from begins_from
  coming-on {goal} {places} k count driver m {s} {z} {begins} place h is c e at =
      let less : count - k ≡ suc (count - (k + 1)) = omega arith in
      let M = mode_by modes acts k in
      let rest = modes_from modes acts (k + 1) (count - (k + 1)) in
      let mode : mode_in acts m ≡ M = rw (is.period, is.calls, is.updates, is.switches, is.row) refl in
      let same : mode_code driver M ≡ mode_code m.driver (mode_in acts m) = rw (mode, is.base) refl in
      let d : driver + mode_driver_count M ≡ driver + (m.updates + m.calls) = ap (λ (n : ℕ). driver + n) (sym (ap mode_driver_count mode) ∙ drivers-are acts m) in
      let z-is : z ≡ emitted s (mode_code driver M) = e.code ∙ ap (emitted s) (sym same) in
      let pc-is : z.pc ≡ s.pc + length (mode_code driver M s.pc) = ap (λ (x : Out). x.pc) z-is ∙ emitted-pc s (mode_code driver M) in
      let code : emitted s (mode_code driver M ⊕ code_from (driver + mode_driver_count M) rest) ≡ goal = rw less at c.code in
      let starts : sets (set begins k (place_in s.pc)) (suc k) (map place_in (begins_from (driver + mode_driver_count M) rest (s.pc + length (mode_code driver M s.pc)))) ≡ places = rw less at c.starts in
      record {
        code = rw (← d) (ap (λ (x : Out). emitted x (code_from (driver + mode_driver_count M) rest)) z-is ∙ sym (emitted_then s (mode_code driver M) (code_from (driver + mode_driver_count M) rest)) ∙ code);
        starts =
            rw (← d, at, pc-is)
            (ap (λ (i : ℕ). sets (set begins k (place_in s.pc)) i (map place_in (begins_from (driver + mode_driver_count M) rest (s.pc + length (mode_code driver M s.pc))))) (add-one k) ∙ starts);
      }

  pub coming-ends : {goal : Out} {places : List ℕ} (k count : ℕ) {driver : ℕ} {z : Out} {begins : List ℕ} → count ≤ k → Coming modes acts goal places k (count - k) driver z begins → (z ≡ goal) × (begins ≡ places)
  unfolding modes_from code_from begins_from
  coming-ends k count {driver} {z} h c =
      let e : count - k ≡ 0 = omega arith in
      (sym (emitted-none z) ∙ (rw e at c.code), rw e at c.starts)

  pub generated : (n tasks count driver pc : ℕ) (code begins code' begins' : List ℕ) → count ≡ min n mode_room → driver ≡ min tasks task_room
      → out code' pc ≡ emitted (out code 0) (code_from driver (modes_from modes acts 0 count)) → begins' ≡ sets begins 0 (map place_in (begins_from driver (modes_from modes acts 0 count) 0))
      → Generated modes acts n tasks code begins code' begins' pc
  generated n tasks count driver pc code begins code' begins' ec ed e b =
      let whole : out code' pc ≡ emitted (out code 0) (code_from (min tasks task_room) (modes_by modes acts n)) = e ∙ rw (ec, ed) refl in
      record {
        size = ap (λ (x : Out). x.pc) whole ∙ emitted-pc (out code 0) (code_from (min tasks task_room) (modes_by modes acts n)) ∙ zero-add (length (code_by modes acts n tasks));
        rows = ap (λ (x : Out). x.cells) whole ∙ emitted-cells code (code_from (min tasks task_room) (modes_by modes acts n));
        places = b ∙ rw (ec, ed) refl;
      }
