-- Lists given by their elements, filled up to a room; and the cells behind the last row of an array.
use Prim.Native.Nat.{ℕ, zero, suc, ◌+◌, ◌-◌, ◌*◌, ◌≤◌, ◌<◌}
use Rattle.std.proofs.Common.{add-zero, sym, ◌∙◌}
use Rattle.std.proofs.Math.Nat.{sub-zero, mul-le-mul_right}
use native.Mathlib.Omega.{arith}
use Rattle.std.proofs.Math.Decide.{dec_lt}
use Rattle.std.specs.Prelude.{◌≡◌, get_or, take}
use Rattle.std.proofs.Math.Path.{refl, ap, ap₂}
use mathlib.Core.List.{List, [], ◌∷◌, ◌++◌, map}
use Rattle.std.proofs.Math.ListN.{length, replicate, get_or-eq_default}
use Rattle.std.proofs.Math.Seq.{take-length}
use Rattle.model.specs.Modules.{each}
use Rattle.machine.specs.Boards.{padded}
use Rattle.guards.specs.Tabs.{tab}
use Rattle.layout.specs.Rows as layout
use Rattle.layout.specs.Rows.{rows}
use Rattle.layout.specs.Filling.{length-padded}
use Rattle.layout.specs.Cells.{padded-cell, each_width}

module _ {A : Type 0} where
  -- as many elements as a list has
  pub tab-list : (at : ℕ → A) (xs : List A) (d : A) → ((k : ℕ) → k < length xs → at k ≡ get_or xs k d) → tab at (length xs) ≡ xs
  unfolding tab
  tab-list at [] d same = refl
  tab-list at (x ∷ xs) d same = ap₂ ◌∷◌ (same 0 (omega arith)) (tab-list (λ i. at (suc i)) xs d (λ k within. same (suc k) (omega arith)))

  tab-blank : (at : ℕ → A) (room : ℕ) (blank : A) → ((k : ℕ) → k < room → at k ≡ blank) → tab at room ≡ replicate room blank
  unfolding tab
  tab-blank at zero blank same = refl
  tab-blank at (suc room) blank same = ap₂ ◌∷◌ (same 0 (omega arith)) (tab-blank (λ i. at (suc i)) room blank (λ k within. same (suc k) (omega arith)))

  tab-room : (at : ℕ → A) (room : ℕ) (blank : A) (xs : List A) → length xs ≤ room → ((k : ℕ) → k < room → at k ≡ get_or xs k blank) → tab at room ≡ padded room blank xs
  unfolding tab
  tab-room at room blank [] few same = tab-blank at room blank same ∙ ap (λ (n : ℕ). replicate n blank) (sym (sub-zero room))
  tab-room at zero blank (x ∷ xs) few same = absurd (omega arith)
  tab-room at (suc room) blank (x ∷ xs) few same =
      let on = tab-room (λ i. at (suc i)) room blank xs (omega arith) (λ k within. same (suc k) (omega arith)) in
      let left : room - length xs ≡ suc room - suc (length xs) = omega arith in
      ap₂ ◌∷◌ (same 0 (omega arith)) (on ∙ ap (λ (n : ℕ). xs ++ replicate n blank) left)

  -- the elements of a list, and what stands past its end, up to a room
  pub tab-padded : (at : ℕ → A) (room : ℕ) (blank : A) (xs : List A) → length xs ≤ room
      → ((k : ℕ) → k < length xs → at k ≡ get_or xs k blank) → ((k : ℕ) → length xs ≤ k → at k ≡ blank) → tab at room ≡ padded room blank xs
  tab-padded at room blank xs few here past = tab-room at room blank xs few (λ k within. go k (dec_lt k (length xs)))
    where
      go : (k : ℕ) → Dec (k < length xs) → at k ≡ get_or xs k blank
      go k (yes h) = here k h
      go k (no h) = let beyond : length xs ≤ k = omega (arith, h) in past k beyond ∙ sym (get_or-eq_default xs blank {n = k} beyond)

-- an element of a list's image
pub map_at : {A B : Type 0} (f : A → B) (xs : List A) (d : A) (e : B) (k : ℕ) → k < length xs → get_or (map f xs) k e ≡ f (get_or xs k d)
map_at f [] d e k within = absurd (omega arith)
map_at f (x ∷ xs) d e zero within = refl
map_at f (x ∷ xs) d e (suc k) within = map_at f xs d e k (omega arith)

-- behind the last row every cell is 0
module _ {A : Type 0} (width size : ℕ) (cells : A → List ℕ) (d : A) (xs : List A) (wide : (i : ℕ) → i < length xs → length (cells (get_or xs i d)) ≤ width) (k : ℕ) (past : length xs ≤ k) where
  pub past-cell : (j : ℕ) → get_or (rows width size cells xs) (k * width + j) 0 ≡ 0
  unfolding rows
  past-cell j =
      let row : A → List ℕ = λ x. layout.padded width (cells x) in
      let long : length (each row (take (length xs) xs)) ≡ length xs * width =
      each_width row d 0 width xs (length xs) (λ i within. length-padded width (cells (get_or xs i d)) (wide i within)) (omega arith) in
      let all : length (each row xs) ≡ length xs * width = ap (λ (l : List A). length (each row l)) (sym (take-length xs)) ∙ long in
      let less : length xs * width ≤ k * width = mul-le-mul_right width past in
      padded-cell size (each row xs) (k * width + j) ∙ get_or-eq_default (each row xs) 0 {n = k * width + j} (omega arith)

  pub past_first : get_or (rows width size cells xs) (k * width) 0 ≡ 0
  past_first = ap (λ (i : ℕ). get_or (rows width size cells xs) i 0) (sym (add-zero (k * width))) ∙ past-cell 0
