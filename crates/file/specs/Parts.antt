-- Counts, types and values (document 01, 'The file').
use Rattle.std.specs.Prelude.{Bool, true, ◌&&◌, List, [], ◌∷◌, ℕ, leb, ltb}
use Rattle.codec.specs.Codecs.{Codec}
use Rattle.codec.specs.Numbers.{byte, be}
use Rattle.codec.specs.Views.{check}
use Rattle.model.specs.Values.{fits_type}

-- every one passes
unfoldable pub all_in : {A : Type 0} → (A → Bool) → List A → Bool
all_in test [] = true
all_in test (x ∷ xs) = test x && all_in test xs

-- Counts: two bytes, but one inside a record; over the room: 22
unfoldable pub count : ℕ → ℕ → Codec ℕ
count size room = check (be size) 22 (λ n. leb n room)

-- Types: 0 int, 1 boolean; else 23
unfoldable pub type : Codec ℕ
type = check byte 23 (λ n. ltb n 2)

-- Values: four bytes, a boolean 0 or 1, else 23
unfoldable pub value : ℕ → Codec ℕ
value type = check (be 4) 23 (fits_type type)
