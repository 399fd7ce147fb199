-- Each item keeps what the arrays hold: where they held the draft before it, they hold the draft behind it.
use Rattle.std.specs.Prelude.{ℕ, ◌≡◌, refl, Bool, true, false, ◌||◌, List, [], ◌∷◌, length, drop}
use Rattle.std.proofs.Common.{arith, sym}
use Rattle.text.specs.declared.Item.{Item}
use Rattle.text.specs.declared.Item.TheVariants as I
use Rattle.text.specs.declared.Name.{Name}
use Rattle.refusals.specs.declared.Row.{Row}
use Rattle.refusals.specs.Names.{letters}
use Rattle.refusals.specs.Values.{number_of}
use Rattle.refusals.specs.Ports.{task_named, port_named, argument_named}
use Rattle.refusals.specs.Activities.{function_named, guard_types, input_types, actuator_named, mode_named}
use Rattle.refusals.specs.Draft as D
use Rattle.layout.specs.Rows.{zeros, rows}
use Rattle.layout.specs.Filling.{padded-none}
use Rattle.sheets.specs.declared.Plan.{Plan}
use Rattle.sheets.specs.Sheets.{Sheet, sheet, begun, planned}
use Rattle.sheets.specs.Held.{frames, Ordered, inside_after, Within, ArraysHold, PlansHold}
use Rattle.sheets.specs.KeptSame.{same-arrays, activity-kept, guard-kept, operand_read}
use Rattle.sheets.proofs.KeptCalls.{invoke-kept}
use Rattle.sheets.proofs.KeptSources.{source-kept}
use Rattle.sheets.proofs.KeptUpdates.{update-kept}
use Rattle.sheets.proofs.KeptSwitches.{switch_kept}
use Rattle.sheets.proofs.KeptModes.{begin-kept, end_kept, task-kept}
-- ---- before the first item

use Rattle.sheets.specs.Kept.{no_name, no_plan}

pub plans-begin : (s : List ℕ) → PlansHold s false D.blank (sheet no_plan (zeros 1536) (zeros 3456) (zeros 768) (zeros 264) (zeros 24) (zeros 40))
unfolding rows frames
plans-begin s =
    record {
      filled = refl;
      acting = refl;
      opened = λ e. let z : ◌≡◌ {A = ℕ} 0 1 = cc in absurd (omega arith);
      arrays =
          λ w.
          record {
            drivers = padded-none 3456;
            acts = padded-none 768;
            guards = padded-none 1536;
            names = padded-none 264;
            heads = padded-none 24;
            modes = padded-none 40;
          };
    }

-- ---- each item
-- a draft that differs in nothing that the arrays hold
module _ {s : List ℕ} {inside : Bool} (draft : D.Draft) (h : Sheet) (holds : PlansHold s inside draft h) where
  task-kept-open : (task : _) → PlansHold s inside (D.with_task draft task) h
  task-kept-open task = record { filled = holds.filled; acting = holds.acting; opened = holds.opened; arrays = same-arrays refl refl refl refl h.plan holds.arrays }

  name-kept : (name : List ℕ) → PlansHold s inside (D.with_built draft (D.with_name draft.built name)) h
  name-kept name = record { filled = holds.filled; acting = holds.acting; opened = holds.opened; arrays = same-arrays refl refl refl refl h.plan holds.arrays }

  sensor-kept : (sensor : _) → PlansHold s inside (D.with_built draft (D.with_sensor draft.built sensor)) h
  sensor-kept sensor = record { filled = holds.filled; acting = holds.acting; opened = holds.opened; arrays = same-arrays refl refl refl refl h.plan holds.arrays }

  actuator-kept : (actuator : _) → PlansHold s inside (D.with_built draft (D.with_actuator draft.built actuator)) h
  actuator-kept actuator = record { filled = holds.filled; acting = holds.acting; opened = holds.opened; arrays = same-arrays refl refl refl refl h.plan holds.arrays }

module _ (s : List ℕ) (all rows : List Row) (draft : D.Draft) (h : Sheet) where
  pub plans-kept : (inside : Bool) (item : Item) → Ordered inside item → PlansHold s inside draft h → PlansHold s (inside_after inside item) (D.drafted s all rows draft item) (planned s all rows item h)
  plans-kept inside (I.Module name) o p = name-kept draft h p (letters s name)
  plans-kept inside I.Section o p = p
  plans-kept inside (I.Constant name value) o p = p
  plans-kept inside (I.Sensor typ name getter) o p = sensor-kept draft h p _
  plans-kept inside (I.Actuator typ name value setter) o p = actuator-kept draft h p _
  plans-kept inside (I.TaskBegin name) o p = task-kept-open draft h p _
  plans-kept inside (I.Input typ name) o p = task-kept-open draft h p _
  plans-kept inside (I.Output typ name value) o p = task-kept-open draft h p _
  plans-kept false (I.TaskEnd name) o p = task-kept draft h p (D.with_function draft.task (letters s name))
  plans-kept true (I.TaskEnd name) o p = let z : ◌≡◌ {A = ℕ} 0 1 = cc in absurd (omega arith)
  plans-kept false (I.ModeBegin start at name digits milli) o p = begin-kept draft h p start name digits milli (draft.started || start)
  plans-kept true (I.ModeBegin start at name digits milli) o p = let z : ◌≡◌ {A = ℕ} 0 1 = cc in absurd (omega arith)
  plans-kept inside (I.Activity kind at digits) o p = activity-kept draft h p (number_of s digits)
  plans-kept inside (I.Guard name arguments) o p = guard-kept draft h p (function_named s name) (guard_types (function_named s name) arguments)
  plans-kept inside (I.GuardArg port) o p = operand_read draft h p (argument_named s rows port)
  plans-kept true (I.Invoke task arguments) o p = invoke-kept draft h p (task_named s rows task).value (input_types rows (task_named s rows task) arguments)
  plans-kept false (I.Invoke task arguments) o p = let z : ◌≡◌ {A = ℕ} 0 1 = cc in absurd (omega arith)
  plans-kept true (I.Arg port) o p = source-kept draft h p (port_named s rows port).value (D.with_wanted draft.doing (drop 1 draft.doing.wanted)) refl
  plans-kept false (I.Arg port) o p = let z : ◌≡◌ {A = ℕ} 0 1 = cc in absurd (omega arith)
  plans-kept true (I.Update actuator source) o p = update-kept draft h p (port_named s rows source).value (actuator_named s rows actuator).value []
  plans-kept false (I.Update actuator source) o p = let z : ◌≡◌ {A = ℕ} 0 1 = cc in absurd (omega arith)
  plans-kept true (I.Switch name) o p = switch_kept draft h p (mode_named s all name).value []
  plans-kept false (I.Switch name) o p = let z : ◌≡◌ {A = ℕ} 0 1 = cc in absurd (omega arith)
  plans-kept true I.ModeEnd o p = end_kept draft h p
  plans-kept false I.ModeEnd o p = let z : ◌≡◌ {A = ℕ} 0 1 = cc in absurd (omega arith)
  plans-kept inside I.ModuleEnd o p = p
  plans-kept inside I.End o p = p
  plans-kept inside (I.No number at) o p = p
