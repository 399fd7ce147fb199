-- Document 01, 'When the compiler says no': the leftmost of 4 to 12, at equal offsets the lowest number.
use Rattle.std.specs.Prelude.{ℕ, ◌≤◌, ◌<◌, ◌≡◌, List, [], ◌∷◌, Bool, true, false, cond, ◌⊎◌, Ok, Err}
use Rattle.refusals.specs.Verdicts.{Verdict, Fine, No}

-- a rule of the table at a place of the text: its number, its offset, and whether it is broken there
pub record Check : Type 0 where
  pub number : ℕ
  pub at : ℕ
  pub broken : Bool

-- a check by number, offset and whether it is broken
abbrev pub check : ℕ → ℕ → Bool → Check
check number at broken = record { number = number; at = at; broken = broken }

-- the cause of a refusal: a rule of this number is broken at this offset
unfoldable pub Cause : List Check → ℕ → ℕ → Type 0
Cause [] number at = ⊥
Cause (c ∷ cs) number at = (c ≡ check number at true) ⊎ Cause cs number at

-- the first cause stands left of the second; or they stand together, and its number is not higher
abbrev pub Precedes : ℕ → ℕ → ℕ → ℕ → Type 0
Precedes number at other there = (at < there) ⊎ ((at ≡ there) × (number ≤ other))

-- what the answer must be, in whatever order the rules are listed
abbrev pub Leftmost : List Check → Verdict → Type 0
Leftmost cs (Ok fine) = (number at : ℕ) → Cause cs number at → ⊥
Leftmost cs (Err r) = Cause cs r.number r.at × ((other there : ℕ) → Cause cs other there → Precedes r.number r.at other there)

-- the first that is broken, of rules in text order
unfoldable pub first : List Check → Verdict
first [] = Fine
first (c ∷ cs) =
    let on = first cs in
    cond c.broken (No c.number c.at) on

-- whether nothing was refused
abbrev pub is_fine : Verdict → Bool
is_fine (Ok fine) = true
is_fine (Err r) = false
