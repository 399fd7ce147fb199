-- Bytes: quoted text as the list of its bytes, and when two lists of bytes are the same.
use Rattle.std.specs.Prelude.{ℕ, ◌+◌, List, [], ◌∷◌, Bool, true, false, cond, eqb}
use Prim.Native.Char.{code}
use Prim.Native.String.{String}
use Prim.Native.String as S

-- the bytes of a text in ASCII
abbrev pub bytes : String → List ℕ
bytes S.[] = []
bytes (S.◌∷◌ c s) = code c ∷ bytes s

-- byte for byte the same
unfoldable pub same : List ℕ → List ℕ → Bool
same [] [] = true
same [] (y ∷ ys) = false
same (x ∷ xs) [] = false
same (x ∷ xs) (y ∷ ys) =
    let on = same xs ys in
    cond (eqb x y) on false

-- the place of a word in a list of words, counted from n; behind the last where it is not there
unfoldable pub place_in : List (List ℕ) → ℕ → List ℕ → ℕ
place_in [] n w = n
place_in (v ∷ vs) n w =
    let on = place_in vs (n + 1) w in
    cond (same w v) n on
