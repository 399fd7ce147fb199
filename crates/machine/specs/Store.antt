-- The machine's store: the ports, and which tasks are out, waiting and finished, as words; and what drivers and releases do to it.
use Rattle.std.specs.Prelude.{ℕ, zero, suc, ◌+◌, ◌*◌, Bool, true, false, cond, List, [], ◌∷◌, get_or, set, length, drop}
use Rattle.std.proofs.Math.Option.{none}
use Rattle.model.specs.Rooms.{port_room}
use Rattle.model.specs.Values.{holds, no_guard}
use Rattle.model.specs.Modules.{place, copy_to}
use Rattle.model.specs.Instructions.{Driver, updates, releases, terminates, no_driver}
use Rattle.machine.specs.Words.{has, joined, parted}
use Rattle.machine.specs.Boards.{Board, Lot, no_lot}
use Rattle.machine.specs.Instructions.{late, clash, Res, ok, bad, Ops, Run, exec, no_tally}

-- ports, and the words of the tasks out, waiting and finished
pub record Store : Type 0 where
  pub ports : List ℕ
  pub out : ℕ
  pub waiting : ℕ
  pub finished : ℕ

-- the n words from `at` on; past the end stands 0
abbrev pub part : List ℕ → ℕ → ℕ → List ℕ
part words at zero = []
part words at (suc n) = get_or words at 0 ∷ part words (at + 1) n

-- `aside` holds the results of finished tasks: those of task k from 8k on. They mean something only while the task's finished bit is set: a termination clears the bit and leaves the words.
module _ (b : Board) (aside : List ℕ) where
  -- where a task's ports begin
  abbrev pub lot_of : ℕ → Lot
  lot_of task = get_or b.lots task no_lot

  -- Terminating a task that is not out: nothing happens. One that is out and not finished: fault 40. Else its results go to its outputs.
  abbrev pub ended : ℕ → Store → Bool → Bool → Res Store
  ended task s false finished = ok s
  ended task s true false = bad (late task)
  ended task s true true =
      ok (record {
        ports = place (lot_of task).outputs (part aside (task * port_room) (lot_of task).results) s.ports;
        out = parted s.out task;
        waiting = s.waiting;
        finished = parted s.finished task;
      })

  -- a store with other ports
  abbrev pub with_ports : Store → List ℕ → Store
  with_ports s ports = record { ports = ports; out = s.out; waiting = s.waiting; finished = s.finished }

  -- Driver 3 copies a source to an actuator's port, driver 4 sources to a task's inputs, driver 5 terminates a task.
  abbrev pub driven : Driver → Store → Res Store
  driven (updates source target) s = ok (with_ports s (set s.ports target (get_or s.ports source 0)))
  driven (releases task sources) s = ok (with_ports s (copy_to (lot_of task).inputs sources s.ports))
  driven (terminates task) s = ended task s (has s.out task) (has s.finished task)

  -- how many tasks that are out a driver terminates
  abbrev pub ending_by : Driver → Store → ℕ
  ending_by (updates source target) s = 0
  ending_by (releases task sources) s = 0
  ending_by (terminates task) s = cond (has s.out task) 1 0

  -- Releasing a task that is out: fault 43. Else it is out and waits to be handed out.
  abbrev pub released : ℕ → Store → Bool → Res Store
  released task s true = bad clash
  released task s false = ok (record { ports = s.ports; out = joined s.out task; waiting = joined s.waiting task; finished = s.finished })

  -- the driver of a number
  abbrev pub driver_at : ℕ → Driver
  driver_at driver = get_or b.drivers driver no_driver

  -- the instructions over a store: guards read its ports, drivers and releases change it
  abbrev pub store_ops : Ops Store
  store_ops =
      record {
        test = λ guard s. holds s.ports (get_or b.guards guard no_guard);
        drive = λ driver s. driven (driver_at driver) s;
        begin = λ task s. released task s (has s.out task);
        ending = λ driver s. ending_by (driver_at driver) s;
      }

  -- One reaction from an instruction on: at most as many instructions as the code holds.
  unfoldable pub reaction : ℕ → ℕ → Store → Run Store
  reaction mode pc s = exec store_ops b.begins b.code (length b.code) (drop pc b.code) mode none no_tally s
