-- The table of declared names as an array of numbers: its index, and behind that eight numbers to a row, one row behind the other.
use Rattle.std.specs.Prelude.{◌≡◌, ℕ, zero, suc, ◌+◌, ◌-◌, ◌*◌, ◌/◌, ◌≤◌, Bool, Option, Some, None, List, [], ◌∷◌, length, nat_lt, slice_index}
use Rattle.refusals.specs.declared.Row.{Row}
use Rattle.refusals.specs.Names.{task_scope, is_sort, is_port, is_port_of}
use Rattle.names.specs.declared.Scope.{Scope}
use Rattle.names.specs.declared.Scope.TheVariants.{Numbered, OfTask}
use Rattle.names.specs.declared.Sought.{Sought}
use Rattle.names.specs.declared.Sought.TheVariants.{Sort, Port, PortOf}

-- the row at a place, behind the index; behind the end of the array stand zeros
unfoldable pub row_at : List ℕ → ℕ → Row
row_at cells k =
    record {
      start = slice_index cells (k * 8 + 1280);
      end = slice_index cells (k * 8 + 1280 + 1);
      scope = slice_index cells (k * 8 + 1280 + 2);
      sort = slice_index cells (k * 8 + 1280 + 3);
      typ = slice_index cells (k * 8 + 1280 + 4);
      value = slice_index cells (k * 8 + 1280 + 5);
    }

-- so many rows from a place on
unfoldable pub rows_from : ℕ → List ℕ → ℕ → List Row
rows_from zero cells k = []
rows_from (suc n) cells k = row_at cells k ∷ rows_from n cells (k + 1)

-- the first n rows
abbrev pub rows_in : List ℕ → ℕ → List Row
rows_in cells n = rows_from n cells 0

-- the number of rows that the array has room for
abbrev pub room_in : List ℕ → ℕ
room_in cells = (length cells - 1280) / 8

-- the array has room for a row behind the first n
abbrev pub has_room : List ℕ → ℕ → Bool
has_room cells n = nat_lt n (room_in cells)

-- the number of a scope
abbrev pub scope_of : Scope → ℕ
scope_of (Numbered number) = number
scope_of (OfTask task) = task_scope task

-- a scope's number where it fits; no row has a greater one
abbrev pub NumberOf : Scope → Option ℕ → Type 0
NumberOf scope (Some number) = number ≡ scope_of scope
NumberOf scope None = 18446744073709551616 ≤ scope_of scope

-- which rows are counted
abbrev pub is_of : Sought → Row → Bool
is_of (Sort sort) = is_sort sort
is_of Port = is_port
is_of (PortOf scope sort) = is_port_of (scope_of scope) sort
