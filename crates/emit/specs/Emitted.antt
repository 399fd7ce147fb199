-- The table of the code while it is filled.
use Rattle.std.specs.Prelude.{ℕ, ◌+◌, ◌*◌, ◌≤◌, ◌≡◌, cond, List, [], ◌∷◌, set, ltb}
use Rattle.model.specs.Rooms.{code_room}
use Rattle.model.specs.Instructions.{Instr}
use Rattle.file.specs.Code.{triple_of}
use Rattle.timing.specs.Code.{Piece}
use Rattle.emit.specs.declared.listing.Listing.{Listing}

-- its cells, and the place of the next instruction, also beyond its end
pub record Out : Type 0 where
  pub cells : List ℕ
  pub pc : ℕ

abbrev pub out : List ℕ → ℕ → Out
out cells pc = record { cells = cells; pc = pc }

abbrev pub listed : Listing → Out
listed l = out l.cells.now l.pc

-- one row more; one beyond the table is only counted
unfoldable pub stored : Out → ℕ → ℕ → ℕ → Out
stored s opcode first second =
    record {
      cells = cond (ltb s.pc code_room) (set (set (set s.cells (s.pc * 3) opcode) (s.pc * 3 + 1) first) (s.pc * 3 + 2) second) s.cells;
      pc = s.pc + 1;
    }

pub record Stored (s z : Out) (opcode first second : ℕ) : Type 0 where
  pub code : z ≡ stored s opcode first second
  pub one_more : z.pc ≡ s.pc + 1

abbrev pub emit : Out → List Instr → Out
emit s [] = s
emit s (i ∷ rest) = emit (stored s (triple_of i).0 (triple_of i).1.0 (triple_of i).1.1) rest

-- a piece put behind what stands there
unfoldable pub emitted : Out → Piece → Out
emitted s piece = emit s (piece s.pc)

-- z is s with a piece of at most so many instructions
pub record Emitted (s z : Out) (piece : Piece) (most : ℕ) : Type 0 where
  pub code : z ≡ emitted s piece
  pub few : z.pc ≤ s.pc + most
  pub on : s.pc ≤ z.pc

-- more instructions than are ever counted
abbrev pub count_room : ℕ
count_room = 16000000000000
