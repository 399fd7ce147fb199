-- The board of the arrays of a sound table is the board of the table.
use Rattle.std.specs.Prelude.{◌+◌, ◌*◌, ◌≡◌, true, length}
use Rattle.codec.proofs.Codecs.{and_left}
use Rattle.model.specs.Rooms.{task_room, mode_room, driver_room, guard_room, code_room}
use Rattle.file.specs.Tables.{Table}
use Rattle.file.specs.Files.{table, table_by, sound}
use Rattle.machine.specs.Boards.{board_of}
use Rattle.emachine.specs.Machines.{board_in}
use Rattle.layout.specs.Rows.{zeros, padded}
use Rattle.layout.specs.Plain.{struct_of}
use Rattle.referring.specs.Fits.{table_fits}
use Rattle.boards.specs.Drivers.{drivers-are}
use Rattle.boards.specs.Guards.{guards-are}
use Rattle.boards.specs.Lots.{lots-are}
use Rattle.boards.specs.Modes.{start_is, begins-are, code_is}

-- a table that the reader can return can stand in a file
pub sound-stands : (t : Table) → sound t ≡ true → table.ok t ≡ true
unfolding sound table_by
sound-stands t is-sound = and_left _ _ is-sound

-- for every table that can stand in a file
pub board-stands : (t : Table) → table.ok t ≡ true → board_in (struct_of t) ≡ board_of t
unfolding struct_of board_of padded zeros
board-stands t stands =
    let fits = table_fits t stands in
    let code = code_is t (3 * code_room) in
    let drivers = drivers-are (12 * driver_room) t.drivers fits.driven in
    let guards = guards-are (6 * guard_room) t.guards fits.guarded in
    let begins = begins-are (3 * mode_room) t.modes fits.moded.few in
    let lots = lots-are (length t.sensors + length t.actuators) (4 * task_room) t.tasks fits.few-tasks in
    let start = start_is (3 * mode_room) t.modes in
    λ i. record {
      code = code i;
      drivers = drivers i;
      guards = guards i;
      begins = begins i;
      types = (board_of t).types;
      starts = (board_of t).starts;
      lots = lots i;
      sensors = length t.sensors;
      start = start i;
    }

pub board-is : (t : Table) → sound t ≡ true → board_in (struct_of t) ≡ board_of t
board-is t is-sound = board-stands t (sound-stands t is-sound)
