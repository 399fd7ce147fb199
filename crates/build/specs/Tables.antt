-- The arrays that the two walks fill, and where they begin.
use Rattle.layout.specs.Rows.{zeros}
use Rattle.ports.specs.Boards.{Board}
use Rattle.sheets.specs.Sheets.{Sheet, sheet}
use Rattle.sheets.specs.Kept.{no_plan}
use Rattle.tables.specs.declared.Table.{Table as Plain}

-- modes, guards, activities and drivers before the first item
abbrev pub blank_sheet : Sheet
blank_sheet = sheet no_plan (zeros 1536) (zeros 3456) (zeros 768) (zeros 264) (zeros 24) (zeros 40)

-- the table without its code
abbrev pub table_in : Board → Sheet → Plain
table_in b h =
    record {
      sensors = b.counts.sensors;
      actuators = b.counts.actuators;
      tasks = b.counts.tasks;
      drivers = h.plan.filled.drivers;
      guards = h.plan.filled.guards;
      modes = h.plan.filled.modes;
      instructions = 0;
      name = b.names.title;
      sensor_names = b.names.sensors;
      actuator_names = b.names.actuators;
      task_names = b.names.tasks;
      output_names = b.names.outputs;
      mode_names = h.names;
      roles = b.lanes.roles;
      types = b.lanes.types;
      starts = b.lanes.starts;
      task_rows = b.rows;
      driver_rows = h.drivers;
      guard_rows = h.guards;
      mode_rows = h.heads;
      code = zeros 12288;
    }
