-- One part after another: what the second is may depend on what stood first.
use mathlib.Core.List.{List, ◌++◌}
use Rattle.std.specs.Prelude.{Bool, ◌&&◌, ℕ}
use Rattle.codec.specs.Readings.{Reading, got, and_then}
use Rattle.codec.specs.Codecs.{Codec}

module _ {A : Type 0} (c : Codec A) (P : A → Type 0) (d : (a : A) → Codec (P a)) where
  unfoldable pub dep_put : (a : A) × P a → List ℕ
  dep_put x = c.put x.0 ++ (d x.0).put x.1

  unfoldable pub dep_get : List ℕ → Reading ((a : A) × P a)
  dep_get bs = and_then (c.get bs) (λ a r. and_then ((d a).get r) (λ b s. got (a, b) s))

  unfoldable pub dep_ok : (a : A) × P a → Bool
  dep_ok x = c.ok x.0 && (d x.0).ok x.1

  unfoldable pub dep : Codec ((a : A) × P a)
  unfolding dep_put dep_get dep_ok
  dep = record { put = dep_put; get = dep_get; ok = dep_ok }
