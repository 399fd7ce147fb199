-- Parts of one kind, one after the other: n of them, or as many as a count in front says. Each may be judged by what stood before it.
use mathlib.Core.List.{List, [], ◌∷◌, ◌++◌}
use Rattle.std.specs.Prelude.{Bool, true, ◌&&◌, ℕ, zero, suc, eqb}
use Rattle.std.proofs.Math.ListN.{length}
use Rattle.codec.specs.Readings.{Reading, got, and_then}
use Rattle.codec.specs.Codecs.{Codec}
use Rattle.codec.specs.Sequences.{dep}
use Rattle.codec.specs.Views.{shape}

-- ---- n parts; s is what stood before the first, and `on` adds a part to it

module _ {A S : Type 0} (c : S → Codec A) (on : S → A → S) where
  abbrev pub run_put : S → List A → List ℕ
  run_put s [] = []
  run_put s (a ∷ xs) = (c s).put a ++ run_put (on s a) xs

  abbrev pub run_get : ℕ → S → List ℕ → Reading (List A)
  run_get zero s bs = got [] bs
  run_get (suc n) s bs = and_then ((c s).get bs) (λ a r. and_then (run_get n (on s a) r) (λ xs t. got (a ∷ xs) t))

  abbrev pub run_ok : S → List A → Bool
  run_ok s [] = true
  run_ok s (a ∷ xs) = (c s).ok a && run_ok (on s a) xs

  unfoldable pub run : S → ℕ → Codec (List A)
  run s n = record { put = run_put s; get = run_get n s; ok = λ xs. eqb (length xs) n && run_ok s xs }

  -- ---- a count, and as many parts

  module _ (count : Codec ℕ) (s : S) where
    unfoldable pub running : Codec (List A)
    unfolding shape dep run
    running = shape (dep count (λ n. List A) (run s)) (λ xs. (length xs, xs)) (λ x. x.1)

-- ---- parts that stand alone: nothing is kept of what stood before

module _ {A : Type 0} (c : Codec A) where
  abbrev pub many_put : List A → List ℕ
  many_put xs = run_put {S = Unit {0}} (λ s. c) (λ s a. s) tt xs

  abbrev pub many_get : ℕ → List ℕ → Reading (List A)
  many_get n bs = run_get {S = Unit {0}} (λ s. c) (λ s a. s) n tt bs

  abbrev pub many_ok : List A → Bool
  many_ok xs = run_ok {S = Unit {0}} (λ s. c) (λ s a. s) tt xs

  -- n parts
  unfoldable pub many : ℕ → Codec (List A)
  unfolding run
  many n = run {S = Unit {0}} (λ s. c) (λ s a. s) tt n

-- a count, and as many parts
module _ {A : Type 0} (count : Codec ℕ) (c : Codec A) where
  unfoldable pub list : Codec (List A)
  unfolding running
  list = running {S = Unit {0}} (λ s. c) (λ s a. s) count tt
