-- Each item keeps what the arrays hold: where they held the draft before it, they hold the draft behind it.
use Rattle.std.specs.Prelude.{ℕ, ◌≡◌, refl, Bool, true, false, ◌||◌, List, [], ◌∷◌, length, drop}
use Rattle.std.proofs.Common.{arith, sym}
use Rattle.text.specs.declared.Item.{Item}
use Rattle.text.specs.declared.Item.TheVariants as I
use Rattle.text.specs.declared.Name.{Name}
use Rattle.refusals.specs.declared.Row.{Row}
use Rattle.refusals.specs.Names.{letters}
use Rattle.refusals.specs.Values.{number_of}
use Rattle.refusals.specs.Ports.{task_named, port_named, argument_named}
use Rattle.refusals.specs.Activities.{function_named, guard_types, input_types, actuator_named, mode_named}
use Rattle.refusals.specs.Draft as D
use Rattle.layout.specs.Rows.{zeros, rows}
use Rattle.layout.specs.Filling.{padded-none}
use Rattle.sheets.specs.declared.Plan.{Plan}
use Rattle.sheets.specs.Sheets.{Sheet, sheet, begun, planned}
use Rattle.sheets.specs.Held.{frames, Ordered, inside_after, Within, ArraysHold, PlansHold}
use Rattle.sheets.specs.KeptSame.{same-arrays, activity-kept, guard-kept, operand_read}

-- ---- before the first item

abbrev pub no_name : Name
no_name = record { start = 0; end = 0 }

-- nothing is filled and nothing under way
abbrev pub no_plan : Plan
no_plan =
    record {
      filled = record { tasks = 0; drivers = 0; acts = 0; guards = 0; modes = 0 };
      opened = record { name = no_name; start = 0; period = 0; calls = 0; updates = 0; switches = 0; sources = 0 };
      acting = begun 0 0;
    }
