-- Which texts are accepted, in words apart from the definition's text: each answer with its cause, in document 01's order ('When the compiler says no').
use Rattle.std.specs.Prelude.{ℕ, ◌≤◌, ◌<◌, ◌≡◌, List, length}
use Rattle.std.proofs.Math.Option.{some}
use Rattle.model.specs.Rooms.{text_room, code_room}
use Rattle.text.specs.declared.Item.{Item}
use Rattle.text.specs.Items.{Refusal}
use Rattle.grammar.specs.Expressions.{Word}
use Rattle.grammar.specs.Grammar.{Module}
use Rattle.grammar.specs.Judgement.{tokens_of, letters, Judged}
use Rattle.refusals.specs.Verdicts.{No}
use Rattle.refusals.specs.Checks.{Cause, Leftmost}
use Rattle.refusals.specs.Texts.{all_rules, module_of}
use Rattle.timing.specs.Code.{code_of}
use Rattle.prescribed.specs.Compiles.{Compiling, file, refused, file_of}

-- A text that is not too long and whose tokens are a module by the grammar.
pub record Readable (text : List ℕ) : Type 0 where
  pub short : length text ≤ text_room
  pub is-module : (items : List Item) × Word Module (letters text (tokens_of text)) items

-- No rule of 4 to 12 has a cause in it.
abbrev pub Unbroken : List ℕ → Type 0
Unbroken text = (number at : ℕ) → Cause (all_rules text) number at → ⊥

-- An answer and its cause. First 1; then the leftmost 2 or 3; only in a text free of these the leftmost of 4 to 12; then 13; last 14; else the one file.
pub data Answers (text : List ℕ) (room : ℕ) : Compiling → Type 0 where
  long : text_room < length text → Answers text room (refused 1 0)
  unreadable : (r : Refusal) → length text ≤ text_room → Judged Module text (some r) → Answers text room (refused r.number r.offset)
  broken : (number at : ℕ) → Readable text → Leftmost (all_rules text) (No number at) → Answers text room (refused number at)
  overfull : Readable text → Unbroken text → code_room < length (code_of (module_of text)) → Answers text room (refused 13 (length text))
  roomless : Readable text → Unbroken text → length (code_of (module_of text)) ≤ code_room → room < length (file_of (module_of text)) → Answers text room (refused 14 (length text))
  accepted : Readable text → Unbroken text → length (code_of (module_of text)) ≤ code_room → length (file_of (module_of text)) ≤ room → Answers text room (file (file_of (module_of text)))

module _ (text : List ℕ) (room : ℕ) where
  -- ---- exact acceptance
  pub record Accepts (content : List ℕ) : Type 0 where
    pub readable : Readable text
    pub unbroken : Unbroken text
    pub code_fits : length (code_of (module_of text)) ≤ code_room
    pub is : content ≡ file_of (module_of text)
    pub fits : length content ≤ room
