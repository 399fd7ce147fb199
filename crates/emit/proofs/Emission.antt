-- The laws of the table that is filled.
use Prim.Native.Nat.{ℕ, zero, suc, ◌+◌, ◌-◌, ◌*◌, ◌≤◌, ◌<◌}
use native.Mathlib.Omega.{arith}
use native.Mathlib.Numerals.{add-one, add-two}
use native.Mathlib.Nat.{add-zero}
use mathlib.Core.Path.{◌≡◌, refl, sym, ◌∙◌, ap}
use mathlib.Core.Bool.{Bool, true, false}
use mathlib.Core.Option.{some}
use mathlib.Core.List.{List, [], ◌∷◌, ◌++◌}
use lib.ListN.{length, set, take}
use lib.Seq.{sets}
use lib.Dec.{ltb}
use borrow.Author.Tests.{lt-ltb, le-ltb, ltb-true, ltb-false}
use Rattle.model.specs.Rooms.{code_room}
use Rattle.model.specs.Modules.{each}
use Rattle.model.specs.Instructions.{Instr, iff}
use Rattle.file.specs.Code.{triple_of}
use Rattle.timing.specs.Code.{Piece, ◌⊕◌, fixed, guarded}
use Rattle.emit.specs.Rows.{guard_by, instruction_cells}
use Rattle.emit.specs.Emitted.{Out, out, stored, Stored, emit, emitted, Emitted}

abbrev with-one : Out → Instr → Out
with-one s i = stored s (triple_of i).0 (triple_of i).1.0 (triple_of i).1.1

emit-append : (s : Out) (these those : List Instr) → emit s (these ++ those) ≡ emit (emit s these) those
emit-append s [] those = refl
emit-append s (i ∷ these) those = emit-append (with-one s i) these those

emit-pc : (s : Out) (code : List Instr) → (emit s code).pc ≡ s.pc + length code
unfolding stored
emit-pc s [] = sym (add-zero s.pc)
emit-pc s (i ∷ code) = emit-pc (with-one s i) code ∙ omega arith

-- one piece behind the other
pub emitted_then : (s : Out) (P Q : Piece) → emitted s (P ⊕ Q) ≡ emitted (emitted s P) Q
unfolding emitted
emitted_then s P Q = emit-append s (P s.pc) (Q (s.pc + length (P s.pc))) ∙ rw (emit-pc s (P s.pc)) refl

pub emitted-pc : (s : Out) (P : Piece) → (emitted s P).pc ≡ s.pc + length (P s.pc)
unfolding emitted
emitted-pc s P = emit-pc s (P s.pc)

pub emitted-same : (s : Out) (P Q : Piece) → P s.pc ≡ Q s.pc → emitted s P ≡ emitted s Q
unfolding emitted
emitted-same s P Q h = ap (emit s) h

pub emitted-none : (s : Out) → emitted s (fixed []) ≡ s
unfolding emitted
emitted-none s = refl

pub follows : {s z w : Out} {P Q : Piece} {j k : ℕ} → Emitted s z P j → Emitted z w Q k → Emitted s w (P ⊕ Q) (j + k)
follows {s} {z} {w} {P} {Q} p q =
    record { code = q.code ∙ ap (λ (x : Out). emitted x Q) p.code ∙ sym (emitted_then s P Q); few = omega (arith, p.few, q.few); on = omega (arith, p.on, q.on) }

-- the same code under another name
pub called : {s z : Out} {P Q : Piece} {j k : ℕ} → P s.pc ≡ Q s.pc → j ≤ k → Emitted s z P j → Emitted s z Q k
called {s} {z} {P} {Q} h le p = record { code = p.code ∙ emitted-same s P Q h; few = omega (arith, p.few); on = p.on }

pub renamed : {s z : Out} {P : Piece} {k : ℕ} (Q : Piece) → P s.pc ≡ Q s.pc → Emitted s z P k → Emitted s z Q k
renamed {s} {z} {P} Q h p = called h (omega arith) p

pub single : {s z : Out} (i : Instr) → Stored s z (triple_of i).0 (triple_of i).1.0 (triple_of i).1.1 → Emitted s z (fixed (i ∷ [])) 1
unfolding emitted
single i e = record { code = e.code; few = omega (arith, e.one_more); on = omega (arith, e.one_more) }

pub nothing : (s : Out) → Emitted s s (fixed []) 0
nothing s = record { code = sym (emitted-none s); few = omega arith; on = omega arith }

-- ---- one row

pub stored_row : (cells : List ℕ) (pc opcode first second : ℕ) → pc < code_room
    → Stored (out cells pc) (out (set (set (set cells (pc * 3) opcode) (pc * 3 + 1) first) (pc * 3 + 2) second) (pc + 1)) opcode first second
unfolding stored
stored_row cells pc opcode first second h = record { code = rw (lt-ltb pc 4096 h) refl; one_more = refl }

pub stored-beyond : (cells : List ℕ) (pc opcode first second : ℕ) → code_room ≤ pc → Stored (out cells pc) (out cells (pc + 1)) opcode first second
unfolding stored
stored-beyond cells pc opcode first second h = record { code = rw (le-ltb pc 4096 h) refl; one_more = refl }

-- ---- a guard in front

guard_number : (g : ℕ) → (g ≡ 0 → ⊥) → guard_by g ≡ some (g - 1)
guard_number zero h = absurd (h refl)
guard_number (suc g) h = ap some (omega arith)

pub guarding : {s z w : Out} {j : ℕ} (g n : ℕ) (body : List Instr) → length body ≡ n → (g ≡ 0 → ⊥) → Stored s z 4 (g - 1) (s.pc + 1 + n) → Emitted z w (fixed body) j
    → Emitted s w (guarded (guard_by g) body) (1 + j)
guarding {s} {z} {w} {j} g n body e h p q =
    rw (guard_number g h) (called (ap (λ (x : ℕ). iff (g - 1) x ∷ body) (omega (arith, e))) (omega arith) (follows (single (iff (g - 1) (s.pc + 1 + n)) p) q))

-- ---- the cells in the end

row_on : (pc : ℕ) → (pc + 1) * 3 ≡ suc (suc (suc (pc * 3)))
row_on pc = omega arith

emit-cells : (code : List Instr) (s : Out) → (emit s code).cells ≡ sets s.cells (s.pc * 3) (each instruction_cells (take (code_room - s.pc) code))
unfolding stored
emit-cells [] s = go (code_room - s.pc)
  where
    go : (n : ℕ) → s.cells ≡ sets s.cells (s.pc * 3) (each instruction_cells (take n []))
    go zero = refl
    go (suc n) = refl
emit-cells (i ∷ code) s = go (ltb s.pc code_room) refl (emit-cells code (with-one s i))
  where
    go : (y : Bool) → ltb s.pc code_room ≡ y
        → (emit (with-one s i) code).cells ≡ sets (with-one s i).cells ((s.pc + 1) * 3) (each instruction_cells (take (code_room - (s.pc + 1)) code))
        → (emit (with-one s i) code).cells ≡ sets s.cells (s.pc * 3) (each instruction_cells (take (code_room - s.pc) (i ∷ code)))
    go true h on =
        let lt = ltb-true s.pc code_room h in
        let e : code_room - s.pc ≡ suc (code_room - (s.pc + 1)) = omega arith in
        on ∙ rw (h, e, row_on s.pc, add-one (s.pc * 3), add-two (s.pc * 3)) refl
    go false h on =
        let le = ltb-false s.pc code_room h in
        let e : code_room - s.pc ≡ 0 = omega arith in
        let f : code_room - (s.pc + 1) ≡ 0 = omega arith in
        on ∙ rw (h, e, f) refl

-- the cells of a table that was empty
pub emitted-cells : (cells : List ℕ) (P : Piece) → (emitted (out cells 0) P).cells ≡ sets cells 0 (each instruction_cells (take code_room (P 0)))
unfolding emitted
emitted-cells cells P = emit-cells (P 0) (out cells 0)
