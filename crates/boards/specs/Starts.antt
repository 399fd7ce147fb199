-- A start on the arrays of a sound table is the definition's start on the table.
use Rattle.std.specs.Prelude.{ℕ, ◌≡◌, true, List}
use Rattle.std.proofs.Common.{ap}
use Rattle.file.specs.Tables.{Table}
use Rattle.file.specs.Files.{sound}
use Rattle.layout.specs.Plain.{struct_of}
use Rattle.machine.specs.Boards.{Board}
use Rattle.machine.specs.Starts.{start_on, start}
use Rattle.emachine.specs.Machines.{board_in}
use Rattle.boards.specs.Agreement.{board-is}

pub start-as : (u : Table) (count : ℕ) (types words : List ℕ) → sound u ≡ true → start_on true (board_in (struct_of u)) count types words ≡ start u count types words
unfolding start
start-as u count types words is-sound = rw is-sound (ap (λ (b : Board). start_on true b count types words) (board-is u is-sound))
