-- The module of a text that no rule of 2 to 12 refuses is accepted: all that the timing rules and the code rest on.
use Rattle.std.specs.Prelude.{ℕ, ◌≡◌, List}
use Rattle.std.proofs.Common.{arith}
use Rattle.std.proofs.Math.Option.{none}
use Rattle.model.specs.Modules.{Module, Mode, Act, Call}
use Rattle.text.specs.Items.{syntax_of}
use Rattle.timing.specs.SlotLaws.{Fits, each-zip}
use Rattle.timing.specs.SlotFits.{divided-fits}
use Rattle.timing.specs.Rules.{no_mode}
use Rattle.timing.specs.Accepted.{CallFits, ModeFits, Accepted}
use Rattle.refusals.specs.Verdicts.{Fine}
use Rattle.refusals.specs.Names.{sensor_sort, actuator_sort, task_sort, mode_sort, input_sort, output_sort}
use Rattle.refusals.specs.Texts.{verdict_of, module_of}
use Rattle.accepted.specs.Folds.{all_rows}
use Rattle.accepted.specs.Lists.{each_map, each_at}
use Rattle.accepted.specs.RowsRoom.{rows-room, port-sorts}
use Rattle.accepted.specs.Tallies.{rows-tallied}
use Rattle.accepted.specs.TaskPorts.{tasks-told, told-few}
use Rattle.accepted.specs.Starts.{start-there}
use Rattle.accepted.specs.GuardRoom.{guards-room}
use Rattle.accepted.specs.GuardsFit.{guards-fit}
use Rattle.accepted.specs.ModesFit.{CallOk, ModeOk, modes-ok}
use Rattle.accepted.specs.Meanings.{roles_of, types_of}
use Rattle.accepted.specs.Takes.{Taken, Drives, modes-drive, takes-length}

module _ (M : Module) where
  call_fits : (period : ℕ) (call : Act Call) → CallOk M period call → Taken M call → CallFits M call
  call_fits period call k f = record { guard = k.guard-in; task = k.task-in; sources = k.sources-in; as_many = takes-length (roles_of M) (types_of M) _ call.what.sources f }

  mode-fits : (mode : Mode) → ModeOk M mode → Drives M mode → ModeFits M mode
  mode-fits mode o f =
      record {
        lasting = record { lasts = o.lasts; calls-fit = each_map (CallOk M mode.period) (Fits mode.period) (λ c k. divided-fits mode.period c k.whole) mode.calls o.calls-ok };
        period = o.short;
        calls = each-zip (CallOk M mode.period) (Taken M) (CallFits M) (call_fits mode.period) mode.calls o.calls-ok f.taken;
        updates = o.updates-ok;
        guarded = o.guards-ok;
        distinct = o.distinct;
        leads = o.leads;
      }

pub accepted : (s : List ℕ) → syntax_of s ≡ none → verdict_of s ≡ Fine → Accepted (module_of s)
accepted s e v =
    let M = module_of s in
    let fits = each-zip (ModeOk M) (Drives M) (ModeFits M) (mode-fits M) M.modes (modes-ok s e v) (modes-drive s e v) in
    let room = (rows-room s e v).room in
    let tally = rows-tallied s e v in
    let guards = guards-room s e v in
    let modes = room mode_sort in
    let sum = port-sorts (all_rows s) in
    record {
      modes = λ k l. each_at (ModeFits M) no_mode M.modes k fits l;
      start = start-there s e v;
      guards = guards-fit s e v;
      few-sensors = omega (arith, room sensor_sort, tally.of-sensors);
      few-actuators = omega (arith, room actuator_sort, tally.of-actuators);
      few-tasks = omega (arith, room task_sort, tally.of-tasks);
      few-modes = omega (arith, room mode_sort, tally.of-modes);
      few-guards = omega (arith, guards, modes, tally.of-modes);
      few-ports = omega (arith, sum, tally.of-ports, room sensor_sort, room actuator_sort, room input_sort, room output_sort);
      few-outputs = told-few 0 (all_rows s) M.tasks (tasks-told s e v);
    }
