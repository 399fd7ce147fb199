-- Document 01, 'The text of a module': white space and comments.
use Rattle.std.specs.Prelude.{ℕ, ◌+◌, List, [], ◌∷◌, Bool, true, cond, drop, eqb}
use Prim.Native.Char.{code}
use Rattle.text.specs.declared.Skipped.{Skipped}
use Rattle.text.specs.declared.Skipped.TheVariants.{Stop, Open}

-- Blank, LF, CR and TAB are white space.
abbrev pub white : ℕ → Bool
white b = cond (eqb b (code " ")) true (cond (eqb b (code "\n")) true (cond (eqb b (code "\r")) true (eqb b (code "\t"))))

unfoldable mutual
  -- white space and comments in the rest of the text, which begins at a place
  pub spaces : List ℕ → ℕ → Skipped
  spaces [] at = Stop at
  spaces (x ∷ xs) at =
      let on = spaces xs (at + 1) in
      let comment = slash xs at in
      cond (white x) on (cond (eqb x (code "/")) comment (Stop at))

  -- behind a `/` that stands at `from`
  pub slash : List ℕ → ℕ → Skipped
  slash [] from = Stop from
  slash (x ∷ xs) from =
      let in_line = line xs (from + 1 + 1) in
      let in_block = block xs (from + 1 + 1) from in
      cond (eqb x (code "/")) in_line (cond (eqb x (code "*")) in_block (Stop from))

  -- A line comment runs to the next LF or the end.
  pub line : List ℕ → ℕ → Skipped
  line [] at = Stop at
  line (x ∷ xs) at =
      let on = line xs (at + 1) in
      let out = spaces xs (at + 1) in
      cond (eqb x (code "\n")) out on

  -- A block comment that starts at `from` runs to the next `*/`; it is not closed where none comes.
  pub block : List ℕ → ℕ → ℕ → Skipped
  block [] at from = Open from
  block (x ∷ xs) at from =
      let on = block xs (at + 1) from in
      let on_star = star xs (at + 1) from in
      cond (eqb x (code "*")) on_star on

  -- in a block comment, behind a `*`
  pub star : List ℕ → ℕ → ℕ → Skipped
  star [] at from = Open from
  star (x ∷ xs) at from =
      let on = block xs (at + 1) from in
      let on_star = star xs (at + 1) from in
      let out = spaces xs (at + 1) in
      cond (eqb x (code "/")) out (cond (eqb x (code "*")) on_star on)

-- where white space and comments that begin at a place of the text end
abbrev pub spaces_at : List ℕ → ℕ → Skipped
spaces_at s at = spaces (drop at s) at

-- a line comment from a place on
abbrev pub line_at : List ℕ → ℕ → Skipped
line_at s at = line (drop at s) at

-- a block comment from a place on
abbrev pub block_at : List ℕ → ℕ → ℕ → Skipped
block_at s at from = block (drop at s) at from

-- where what was skipped ends
abbrev pub place_of : Skipped → ℕ
place_of (Stop at) = at
place_of (Open from) = from
