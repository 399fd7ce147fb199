-- Numbers and counted lists: what is written from cells is what the codecs write.
use Prim.Native.Nat.{ℕ, zero, suc, ◌+◌, ◌/◌, ◌%◌, ◌≤◌, ◌<◌, min}
use Rattle.std.proofs.Common.{arith, ◌∙◌, take-suc}
use Rattle.std.specs.Prelude.{◌≡◌, length, get_or, take}
use Rattle.std.proofs.Math.Path.{refl, sym, ap, ap₂}
use mathlib.Core.List.{List, [], ◌∷◌, ◌++◌, append-nil}
use Rattle.std.proofs.Math.Seq.{take-length}
use Rattle.codec.specs.Codecs.{Codec}
use Rattle.codec.specs.Numbers.{byte, be}
use Rattle.codec.specs.Sequences.{dep, dep_put}
use Rattle.codec.specs.Views.{shape, view, view_put}
use Rattle.codec.specs.Lists.{list, running, run, run_put}
use Rattle.model.specs.Modules.{each}
use Rattle.layout.specs.Filling.{each_both}
use Rattle.file.specs.Parts.{count}
use Rattle.writing.specs.Puts.{parts}
use Rattle.writing.specs.Cells.{byte_of, pair_of, quad_of, counted}

-- ---- numbers

pub byte-is : (n : ℕ) → n < 256 → byte_of n ≡ byte.put n
unfolding byte_of byte
byte-is n h = let e : n % 256 ≡ n = omega arith in ap (λ (x : ℕ). x ∷ []) e

pub one-is : (n : ℕ) → n < 256 → byte_of n ≡ (be 1).put n
unfolding byte_of be
one-is n h = let e : n % 256 ≡ n / 1 = omega arith in ap (λ (x : ℕ). x ∷ []) e

pub pair_is : (n : ℕ) → n < 65536 → pair_of n ≡ (be 2).put n
unfolding pair_of byte_of be
pair_is n h =
    let a : n / 256 % 256 ≡ n / 256 = omega arith in
    let b : n % 256 ≡ n % 256 / 1 = omega arith in
    ap₂ (λ (x y : ℕ). x ∷ y ∷ []) a b

pub quad_is : (n : ℕ) → n < 4294967296 → quad_of n ≡ (be 4).put n
unfolding quad_of pair_of byte_of be
quad_is n h =
    let a : n / 65536 / 256 % 256 ≡ n / 16777216 = omega arith in
    let b : n / 65536 % 256 ≡ n % 16777216 / 65536 = omega arith in
    let c : n / 256 % 256 ≡ n % 16777216 % 65536 / 256 = omega arith in
    let d : n % 256 ≡ n % 16777216 % 65536 % 256 / 1 = omega arith in
    ap₂ (λ (x y : ℕ). x ∷ y ∷ (n / 256 % 256) ∷ (n % 256) ∷ []) a b ∙ ap₂ (λ (x y : ℕ). (n / 16777216) ∷ (n % 16777216 / 65536) ∷ x ∷ y ∷ []) c d

-- ---- parts by their numbers are the parts of a list

module _ {A : Type 0} (part : ℕ → List ℕ) (g : A → List ℕ) (d : A) (xs : List A) (same : (k : ℕ) → k < length xs → part k ≡ g (get_or xs k d)) where
  parts-take : (n : ℕ) → n ≤ length xs → parts part n ≡ each g (take n xs)
  unfolding parts
  parts-take zero h = refl
  parts-take (suc n) h =
      ap₂ (λ (a b : List ℕ). a ++ b) (parts-take n (omega arith)) (same n (omega arith))
      ∙ ap (λ (l : List ℕ). each g (take n xs) ++ l) (sym (append-nil (g (get_or xs n d))))
      ∙ sym (ap (each g) (take-suc xs n d (omega arith)) ∙ each_both g (take n xs) (get_or xs n d ∷ []))

  pub parts-list : parts part (length xs) ≡ each g xs
  parts-list = parts-take (length xs) (omega arith) ∙ ap (each g) (take-length xs)

-- ---- what the codecs of lists write

pub run-each : {A S : Type 0} (c : S → Codec A) (on : S → A → S) (g : A → List ℕ) → ((s : S) (a : A) → (c s).put a ≡ g a) → (s : S) (xs : List A) → run_put c on s xs ≡ each g xs
run-each c on g same s [] = refl
run-each c on g same s (x ∷ xs) = ap₂ (λ (a b : List ℕ). a ++ b) (same s x) (run-each c on g same (on s x) xs)

pub running-put : {A S : Type 0} (c : S → Codec A) (on : S → A → S) (count : Codec ℕ) (s : S) (g : A → List ℕ) → ((s : S) (a : A) → (c s).put a ≡ g a) → (xs : List A)
    → (running c on count s).put xs ≡ count.put (length xs) ++ each g xs
unfolding running shape view view_put dep dep_put run
running-put c on count s g same xs = ap (λ (l : List ℕ). count.put (length xs) ++ l) (run-each c on g same s xs)

pub list_put : {A : Type 0} (count : Codec ℕ) (c : Codec A) (xs : List A) → (list count c).put xs ≡ count.put (length xs) ++ each c.put xs
unfolding list
list_put count c xs = running-put {S = Unit {0}} (λ s. c) (λ s a. s) count tt c.put (λ s a. refl) xs

-- ---- a counted list, from cells

module _ {A : Type 0} (head : ℕ → List ℕ) (room : ℕ) (part : ℕ → List ℕ) (d : A) (xs : List A) (few : length xs ≤ room) where
  pub counted-each : (front : List ℕ) (g : A → List ℕ) → head (length xs) ≡ front → ((k : ℕ) → k < length xs → part k ≡ g (get_or xs k d))
      → counted head room part (length xs) ≡ front ++ each g xs
  counted-each front g begins same =
      let e : min (length xs) room ≡ length xs = omega arith in
      ap₂ (λ (a b : List ℕ). a ++ b) begins (ap (parts part) e ∙ parts-list part g d xs same)

  pub counted_is : (count : Codec ℕ) (c : Codec A) → head (length xs) ≡ count.put (length xs) → ((k : ℕ) → k < length xs → part k ≡ c.put (get_or xs k d))
      → counted head room part (length xs) ≡ (list count c).put xs
  counted_is count c begins same = counted-each (count.put (length xs)) c.put begins same ∙ sym (list_put count c xs)
