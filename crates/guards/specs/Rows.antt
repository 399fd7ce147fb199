-- The guards of a table whose parts are flat rows of numbers (document 01, 'The file', guards).
-- A row of 6: function, number of operands, then for each its place (0 port, 1 int, 2 boolean) and its word. Past the end of the rows stands 0.
use Rattle.std.specs.Prelude.{ℕ, ◌+◌, ◌*◌, ◌%◌, cond, List, get_or, eqb}
use Rattle.std.specs.Int.{w32}
use Rattle.std.proofs.Common.{to_z}
use Rattle.model.specs.Rooms.{guard_room}
use Rattle.model.specs.Values.{function_by, no_guard}
use Rattle.model.specs.declared.Value.TheVariants.{Int, Flag}
use Rattle.model.specs.declared.Operand.{Operand}
use Rattle.model.specs.declared.Operand.TheVariants.{Port, Fixed}
use Rattle.model.specs.declared.Guard.{Guard}
use Rattle.guards.specs.Tabs.{tab}

abbrev pub operand_by : ℕ → ℕ → Operand
operand_by place word = cond (eqb place 0) (Port (word % 65536)) (cond (eqb place 1) (Fixed (Int (to_z w32 word))) (Fixed (Flag (eqb word 1))))

unfoldable pub guard_at : List ℕ → ℕ → Guard
guard_at rows guard =
    record {
      function = function_by (get_or rows (guard * 6) 0);
      first = operand_by (get_or rows (guard * 6 + 2) 0) (get_or rows (guard * 6 + 3) 0);
      second = operand_by (get_or rows (guard * 6 + 4) 0) (get_or rows (guard * 6 + 5) 0);
    }

abbrev pub guards_by : List ℕ → List Guard
guards_by rows = tab (guard_at rows) guard_room

abbrev pub guard_in : List ℕ → ℕ → Guard
guard_in rows guard = get_or (guards_by rows) guard no_guard
