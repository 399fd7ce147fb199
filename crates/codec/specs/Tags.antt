-- One of a few values, each with its number; another number is refusal e.
use Rattle.std.specs.Prelude.{List, [], ◌∷◌, true, ℕ, eqb}
use Rattle.std.proofs.Math.Option.{Option, none, some}
use Rattle.codec.specs.Codecs.{Codec}
use Rattle.codec.specs.Views.{view, when_true}

-- the first that is there
abbrev pub or_else : {A : Type 0} → Option A → Option A → Option A
or_else (some a) o = some a
or_else none o = o

-- the first of some values that has this number
abbrev pub numbered : {A : Type 0} → (A → ℕ) → List A → ℕ → Option A
numbered number [] n = none
numbered number (a ∷ xs) n = or_else (when_true (eqb (number a) n) a) (numbered number xs n)

module _ {A : Type 0} (c : Codec ℕ) (e : ℕ) (number : A → ℕ) (all : List A) where
  unfoldable pub enum : Codec A
  unfolding view
  enum = view c e number (numbered number all) (λ a. true)
