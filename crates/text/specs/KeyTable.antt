-- The keywords by their numbers: what holds of each number in this list holds of every keyword; a word of another number is a name.
use Rattle.std.specs.Prelude.{ℕ, ◌≤◌, ◌≡◌, List, [], ◌∷◌}
use Rattle.std.proofs.Math.ListN.{get_or-eq_default}
use Rattle.text.specs.declared.Token.TheVariants as Token
use Rattle.text.specs.Tokens.{key_tokens, key_token}

-- the keywords' numbers
abbrev pub key_numbers : List ℕ
key_numbers = 0 ∷ 1 ∷ 2 ∷ 3 ∷ 4 ∷ 5 ∷ 6 ∷ 7 ∷ 8 ∷ 9 ∷ 10 ∷ 11 ∷ 12 ∷ 13 ∷ 14 ∷ 15 ∷ 16 ∷ 17 ∷ 18 ∷ 19 ∷ 20 ∷ 21 ∷ []

-- no keyword: a name
pub key-none : (k : ℕ) → 22 ≤ k → key_token k ≡ Token.Name
unfolding key_tokens
key-none k h = get_or-eq_default key_tokens Token.Name h
