-- What is found behind white space and comments.
use Rattle.std.specs.Prelude.{ℕ, ◌≤◌, ◌<◌, ◌≡◌, List, length, get_or}
use Rattle.std.proofs.Common.{◌∙◌}
use Rattle.text.specs.declared.Skipped.TheVariants as Skipped
use Rattle.text.specs.Spaces.{spaces_at}
use Rattle.scan.specs.declared.spaces.Place.{Place}
use Rattle.scan.specs.declared.spaces.Place.TheVariants.{Byte, End, Open}

-- a byte of the text, its end, or the start of a comment that is not closed
abbrev pub Reached : List ℕ → ℕ → Place → Type 0
Reached s at (Byte i b) = (spaces_at s at ≡ Skipped.Stop i) × (i < length s) × (get_or s i 0 ≡ b)
Reached s at (End i) = (spaces_at s at ≡ Skipped.Stop i) × (length s ≤ i)
Reached s at (Open from) = spaces_at s at ≡ Skipped.Open from

-- the same from an earlier place
pub reached-before : (s : List ℕ) (at i : ℕ) → spaces_at s at ≡ spaces_at s i → (found : Place) → Reached s i found → Reached s at found
reached-before s at i e (Byte j b) p = (e ∙ p.0, p.1, p.2)
reached-before s at i e (End j) p = (e ∙ p.0, p.1)
reached-before s at i e (Open from) p = e ∙ p
