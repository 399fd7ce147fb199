-- Lists in arrays of a fixed room: what is not used is 0.
use Rattle.std.specs.Prelude.{ℕ, ◌*◌, ◌-◌, List, ◌∷◌, ◌++◌, length, replicate}
use Rattle.model.specs.Modules.{each}

-- so many zeros
unfoldable pub zeros : ℕ → List ℕ
zeros n = replicate n 0

-- a list, and zeros up to the room
unfoldable pub padded : ℕ → List ℕ → List ℕ
padded room list = list ++ zeros (room - length list)

-- records in rows of one width, each padded, in an array of a size
unfoldable pub rows : {A : Type 0} → ℕ → ℕ → (A → List ℕ) → List A → List ℕ
rows width size cells records = padded size (each (λ x. padded width (cells x)) records)

-- names in rows of 33: a length and 32 bytes
abbrev pub name_cells : List ℕ → List ℕ
name_cells name = length name ∷ name

abbrev pub names : ℕ → List (List ℕ) → List ℕ
names room list = rows 33 (33 * room) name_cells list
