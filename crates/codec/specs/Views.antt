-- A part read as something else: through another codec, under a test, or under another shape.
use mathlib.Core.List.{List}
use Rattle.std.specs.Prelude.{Bool, true, false, ◌&&◌, ℕ}
use Rattle.std.proofs.Math.Option.{Option, none, some}
use Rattle.codec.specs.Readings.{Reading, and_then, or_no}
use Rattle.codec.specs.Codecs.{Codec}

-- ---- B stands as A; where what stands is no B, the refusal is e

-- a value is written as the part that stands for it
unfoldable pub view_put : {A B : Type 0} → Codec A → (B → A) → B → List ℕ
view_put c to b = c.put (to b)

-- a part is read and turned into its value; a refusal where it stands for none
unfoldable pub view_get : {A B : Type 0} → Codec A → ℕ → (A → Option B) → List ℕ → Reading B
view_get c e from bs = and_then (c.get bs) (λ a r. or_no e (from a) r)

-- what a view can write
unfoldable pub view_ok : {A B : Type 0} → Codec A → (B → A) → (B → Bool) → B → Bool
view_ok c to fit b = fit b && c.ok (to b)

module _ {A B : Type 0} (c : Codec A) (e : ℕ) (to : B → A) (from : A → Option B) (fit : B → Bool) where
  unfoldable pub view : Codec B
  unfolding view_put view_get view_ok
  view = record { put = view_put c to; get = view_get c e from; ok = view_ok c to fit }

-- ---- a part that must pass a test, or the refusal is e

-- a value where a test holds
abbrev pub when_true : {A : Type 0} → Bool → A → Option A
when_true true a = some a
when_true false a = none

module _ {A : Type 0} (c : Codec A) (e : ℕ) (test : A → Bool) where
  unfoldable pub check : Codec A
  unfolding view
  check = view c e (λ a. a) (λ a. when_true (test a) a) test

-- ---- the same under another shape, as a record for a tuple

module _ {A B : Type 0} (c : Codec A) (to : B → A) (from : A → B) where
  unfoldable pub shape : Codec B
  unfolding view
  shape = view c 0 to (λ a. some (from a)) (λ b. true)
