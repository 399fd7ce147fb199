-- Where tokens stand: at or behind their place, inside the text, and none but the end and a bad one is empty.
use Rattle.std.specs.Prelude.{ℕ, ◌≤◌, ◌<◌, ◌≡◌, List, length}
use Rattle.text.specs.declared.Skipped.{Skipped}
use Rattle.text.specs.declared.Lexed.{Lexed}
use Rattle.text.specs.Spaces.{place_of}
use Rattle.text.specs.Tokens.{code_of}

-- ---- white space and comments

pub record Within (low high : ℕ) (skipped : Skipped) : Type 0 where
  pub least : low ≤ place_of skipped
  pub most : place_of skipped ≤ high

-- ---- tokens
-- a token that was looked for from a place on
pub record TokenIn (s : List ℕ) (at : ℕ) (lexed : Lexed) : Type 0 where
  pub low : at ≤ lexed.start
  pub up : lexed.start ≤ lexed.end
  pub high : lexed.end ≤ length s
  pub some : code_of lexed.token < 36 → lexed.start < lexed.end
  pub last : code_of lexed.token ≡ 36 → lexed.start ≡ length s

pub record TokenHere (s : List ℕ) (at : ℕ) (lexed : Lexed) : Type 0 where
  pub place : at < length s
  pub low : at ≤ lexed.start
  pub some : lexed.start < lexed.end
  pub high : lexed.end ≤ length s
