-- The table of any names: its index is right, whether or not it has room for all of them.
use Rattle.std.specs.Prelude.{ℕ, ◌+◌, ◌≡◌, refl, List, [], ◌∷◌, Bool, true, false, cond}
use Rattle.std.proofs.Common.{arith, ◌∙◌, ltb-true, ltb-false}
use Rattle.refusals.specs.declared.Row.{Row}
use Rattle.names.specs.Tables.{room_in, has_room}
use Rattle.names.specs.Index.{Indexed, indexed, declared_in, Declared, empty_table, entered_in, table_in}
use Rattle.names.specs.Declaring.{declared-indexed, declared-all, empty-none, empty-indexed}

-- the index is right, and where there is room for a row at place k it has the rows before that
record Ready (s cells : List ℕ) (k : ℕ) : Type 0 where
  index : Indexed s cells
  has_all : has_room cells k ≡ true → indexed cells ≡ k

ready-more : {s cells : List ℕ} {k : ℕ} (row : Row) → Ready s cells k → Ready s (declared_in s cells k row) (k + 1)
ready-more {s} {cells} {k} row w = by (has_room cells k) refl
  where
    told : Declared s cells k row (declared_in s cells k row) (cond (has_room cells k) (k + 1) k)
    told = record { array = refl; rows = refl }

    by : (b : Bool) → has_room cells k ≡ b → Ready s (declared_in s cells k row) (k + 1)
    by true e = record { index = declared-indexed told e w.index (w.has_all e); has_all = λ h. declared-all told e ∙ rw e }
    by false e =
        let same : declared_in s cells k row ≡ cells = rw e in
        record { index = rw same w.index; has_all = λ h. absurd (omega (arith, ltb-false k (room_in cells) e, ltb-true (k + 1) (room_in cells) (rw same at h))) }

entered-ready : (s : List ℕ) (rows : List Row) (cells : List ℕ) (k : ℕ) → Ready s cells k → Indexed s (entered_in s cells k rows)
unfolding entered_in
entered-ready s [] cells k w = w.index
entered-ready s (row ∷ rows) cells k w = entered-ready s rows (declared_in s cells k row) (k + 1) (ready-more row w)

pub table-indexed : (s : List ℕ) (rows : List Row) → Indexed s (table_in s rows)
unfolding table_in
table-indexed s rows = entered-ready s rows empty_table 0 (record { index = empty-indexed s; has_all = λ h. empty-none })
