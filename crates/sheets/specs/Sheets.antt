-- What each item puts into the arrays, and what is kept from item to item. Numbers are kept up to 4294967295, the greatest of 32 bits.
use Rattle.std.specs.Prelude.{ℕ, zero, suc, ◌+◌, ◌-◌, ◌*◌, min, ◌≡◌, Bool, true, false, cond, List, [], ◌∷◌, eqb, ltb, leb, length, get_or, set}
use Rattle.text.specs.declared.Name.{Name}
use Rattle.text.specs.declared.Item.{Item}
use Rattle.text.specs.declared.Item.TheVariants as I
use Rattle.refusals.specs.declared.Row.{Row}
use Rattle.refusals.specs.Names.{letters, constant_sort}
use Rattle.refusals.specs.Values.{number_of}
use Rattle.refusals.specs.Ports.{task_named, port_named, argument_named}
use Rattle.refusals.specs.Activities.{function_named, actuator_named, mode_named}
use Rattle.activities.specs.Kept.{period_kept}
use Rattle.layout.specs.Rows.{name_cells}
use Rattle.layout.specs.Filling.{stored}
use Rattle.sheets.specs.declared.Filled.{Filled}
use Rattle.sheets.specs.declared.Opened.{Opened}
use Rattle.sheets.specs.declared.Acting.{Acting}
use Rattle.sheets.specs.declared.Plan.{Plan}
use Rattle.sheets.specs.declared.Arrays.{Arrays}

-- a number of 32 bits; where it is more, the greatest
abbrev pub cap : ℕ → ℕ
cap number = min number 4294967295

-- ---- rows

-- so many cells from a place on, moved up by a width, the last first; where they stood stands 0
unfoldable pub raised : ℕ → ℕ → ℕ → List ℕ → List ℕ
raised place width zero l = l
raised place width (suc count) l = raised place width count (set (set l (place + count + width) (get_or l (place + count) 0)) (place + count) 0)

-- a row put in among rows of a width, where so many rows follow
unfoldable pub inserted : ℕ → ℕ → ℕ → List ℕ → List ℕ → List ℕ
inserted width row behind cells l = stored (raised (row * width) width (behind * width) l) (row * width) cells

-- a name of at most 32 bytes, as this number
unfoldable pub name_stored : List ℕ → Name → ℕ → List ℕ → List ℕ
name_stored s name number l = cond (leb (length (letters s name)) 32) (stored l (number * 33) (name_cells (letters s name))) l

-- one source more for the release at a row, which has so many
unfoldable pub source_stored : ℕ → ℕ → ℕ → List ℕ → List ℕ
source_stored row sources port l = set (set l (row * 12 + 2) (cap (sources + 1))) (row * 12 + 3 + sources) port

-- ---- the activity under way

-- an activity of a frequency and a guard's function, without operands
abbrev pub begun : ℕ → ℕ → Acting
begun frequency function =
    record { frequency = frequency; function = function; operands = 0; first_place = 0; first_word = 0; second_place = 0; second_word = 0 }

-- a guard's function by its number and 1; one that is not given is the last
abbrev pub function_cell : ℕ → ℕ
function_cell number = min (number + 1) 4

-- an operand's place: 0 a port, 1 an int, 2 a boolean
unfoldable pub place_of : Row → ℕ
place_of row = cond (eqb row.sort constant_sort) (cond (eqb row.typ 1) 2 1) 0

-- its word, or its port
unfoldable pub word_in : Row → ℕ
word_in row = cond (eqb row.sort constant_sort) (cond (eqb row.typ 1) (cond (eqb row.value 1) 1 0) (cap row.value)) (cap row.value)

-- one operand more; only the first two are kept
unfoldable pub with_operand : Acting → ℕ → ℕ → Acting
with_operand a place word =
    cond (eqb a.operands 0)
    (record { frequency = a.frequency; function = a.function; operands = 1; first_place = place; first_word = word; second_place = a.second_place; second_word = a.second_word })
    (cond (eqb a.operands 1)
    (record { frequency = a.frequency; function = a.function; operands = 2; first_place = a.first_place; first_word = a.first_word; second_place = place; second_word = word })
    a)

-- a guard's row: function, number of operands, and each operand's place and word
unfoldable pub guard_row_of : Acting → List ℕ
guard_row_of a =
    cond (ltb (a.function - 1) 2)
    ((a.function - 1) ∷ 1 ∷ a.first_place ∷ a.first_word ∷ [])
    ((a.function - 1) ∷ 2 ∷ a.first_place ∷ a.first_word ∷ a.second_place ∷ a.second_word ∷ [])

-- the guard of an activity, if it has one, as this number
unfoldable pub guard_stored : ℕ → Acting → List ℕ → List ℕ
guard_stored number a l = cond (eqb a.function 0) l (stored l (number * 6) (guard_row_of a))

-- an activity's guard: 0 none, else its number and 1
unfoldable pub guard_cell : Acting → ℕ → ℕ
guard_cell a guards = cond (eqb a.function 0) 0 (cap (guards + 1))

-- ---- what is kept

abbrev pub with_acting : Plan → Acting → Plan
with_acting plan acting = record { filled = plan.filled; opened = plan.opened; acting = acting }

abbrev pub with_opened : Plan → Opened → Plan
with_opened plan opened = record { filled = plan.filled; opened = opened; acting = plan.acting }

-- a mode's begin
abbrev pub mode_opened : List ℕ → Plan → Bool → Name → Name → Bool → Plan
mode_opened s plan start name digits milli =
    with_opened plan (record { name = name; start = cond start 1 0; period = cap (period_kept s digits milli); calls = 0; updates = 0; switches = 0; sources = 0 })

-- the mode under way with so many activities of each kind, and sources of the task invoked last
abbrev pub counted_in : Opened → ℕ → ℕ → ℕ → ℕ → Opened
counted_in o calls updates switches sources =
    record { name = o.name; start = o.start; period = o.period; calls = calls; updates = updates; switches = switches; sources = sources }

-- what is filled behind the mode under way
abbrev pub closed : Filled → Opened → Filled
closed f o =
    record {
      tasks = f.tasks;
      drivers = cap (f.drivers + cap (o.updates + o.calls));
      acts = cap (f.acts + cap (cap (o.updates + o.calls) + o.switches));
      guards = f.guards;
      modes = cap (f.modes + 1);
    }

abbrev pub mode_closed : Plan → Plan
mode_closed plan = record { filled = closed plan.filled plan.opened; opened = plan.opened; acting = plan.acting }

-- one task more
abbrev pub task_closed : Plan → Plan
task_closed plan =
    record {
      filled =
          record {
            tasks = cap (plan.filled.tasks + 1);
            drivers = cap (plan.filled.drivers + 1);
            acts = plan.filled.acts;
            guards = plan.filled.guards;
            modes = plan.filled.modes;
          };
      opened = plan.opened;
      acting = plan.acting;
    }

-- the guards behind an activity
unfoldable pub guards_after : Acting → ℕ → ℕ
guards_after a guards = cond (eqb a.function 0) guards (cap (guards + 1))

-- behind an activity its guard counts, and nothing of it is under way but its frequency
abbrev pub acted : Plan → Opened → Plan
acted plan opened =
    record {
      filled =
          record {
            tasks = plan.filled.tasks;
            drivers = plan.filled.drivers;
            acts = plan.filled.acts;
            guards = guards_after plan.acting plan.filled.guards;
            modes = plan.filled.modes;
          };
      opened = opened;
      acting = begun plan.acting.frequency 0;
    }

abbrev pub called : Plan → Plan
called plan = acted plan (counted_in plan.opened (cap (plan.opened.calls + 1)) plan.opened.updates plan.opened.switches 0)

abbrev pub renewed : Plan → Plan
renewed plan = acted plan (counted_in plan.opened plan.opened.calls (cap (plan.opened.updates + 1)) plan.opened.switches plan.opened.sources)

abbrev pub turned : Plan → Plan
turned plan = acted plan (counted_in plan.opened plan.opened.calls plan.opened.updates (cap (plan.opened.switches + 1)) plan.opened.sources)

-- one source more, where a task is invoked
unfoldable pub fed : Plan → Plan
fed plan =
    let o = plan.opened in
    cond (eqb o.calls 0) plan (with_opened plan (counted_in o o.calls o.updates o.switches (cap (o.sources + 1))))

-- ---- the rows of activities and drivers

-- the termination of a task stands behind those before, and before all drivers of modes
abbrev pub termination_stored : Filled → List ℕ → List ℕ
termination_stored f l = inserted 12 f.tasks (f.drivers - f.tasks) (5 ∷ f.tasks ∷ []) l

-- a release stands behind all drivers so far
abbrev pub release_stored : Plan → ℕ → List ℕ → List ℕ
release_stored plan task l = stored l ((plan.filled.drivers + plan.opened.updates + plan.opened.calls) * 12) (4 ∷ cap task ∷ 0 ∷ [])

-- an update stands behind the updates before, and before the releases
abbrev pub update_stored : Plan → ℕ → ℕ → List ℕ → List ℕ
update_stored plan source target l = inserted 12 (plan.filled.drivers + plan.opened.updates) plan.opened.calls (3 ∷ cap target ∷ 1 ∷ cap source ∷ []) l

-- one source more for the last release, where a task is invoked
unfoldable pub source_read : Plan → ℕ → List ℕ → List ℕ
source_read plan port l =
    cond (eqb plan.opened.calls 0) l
    (source_stored (plan.filled.drivers + plan.opened.updates + (plan.opened.calls - 1)) plan.opened.sources (cap port) l)

-- an activity's row: frequency, guard, what
abbrev pub act_row_of : Plan → ℕ → List ℕ
act_row_of plan what = plan.acting.frequency ∷ guard_cell plan.acting plan.filled.guards ∷ what ∷ []

abbrev pub call_stored : Plan → ℕ → List ℕ → List ℕ
call_stored plan task l = inserted 3 (plan.filled.acts + plan.opened.calls) (plan.opened.updates + plan.opened.switches) (act_row_of plan (cap task)) l

abbrev pub updating_stored : Plan → List ℕ → List ℕ
updating_stored plan l = inserted 3 (plan.filled.acts + plan.opened.calls + plan.opened.updates) plan.opened.switches (act_row_of plan 0) l

abbrev pub switch_stored : Plan → ℕ → List ℕ → List ℕ
switch_stored plan target l =
    inserted 3 (plan.filled.acts + plan.opened.calls + plan.opened.updates + plan.opened.switches) 0 (act_row_of plan (cap target)) l

-- ---- the arrays and what is kept

pub record Sheet : Type 0 where
  pub plan : Plan
  pub guards : List ℕ
  pub drivers : List ℕ
  pub acts : List ℕ
  pub names : List ℕ
  pub heads : List ℕ
  pub modes : List ℕ

abbrev pub sheet : Plan → List ℕ → List ℕ → List ℕ → List ℕ → List ℕ → List ℕ → Sheet
sheet plan guards drivers acts names heads modes =
    record { plan = plan; guards = guards; drivers = drivers; acts = acts; names = names; heads = heads; modes = modes }

abbrev pub sheet_of : Arrays → Sheet
sheet_of a = sheet a.plan a.guards.now a.drivers.now a.acts.now a.names.now a.heads.now a.modes.now

-- the same arrays, whatever stands in them
pub record SameArrays (a b : Arrays) : Type 0 where
  pub guards : a.guards.ghost_name ≡ b.guards.ghost_name
  pub drivers : a.drivers.ghost_name ≡ b.drivers.ghost_name
  pub acts : a.acts.ghost_name ≡ b.acts.ghost_name
  pub names : a.names.ghost_name ≡ b.names.ghost_name
  pub heads : a.heads.ghost_name ≡ b.heads.ghost_name
  pub modes : a.modes.ghost_name ≡ b.modes.ghost_name

abbrev pub with_plan : Sheet → Plan → Sheet
with_plan h plan = sheet plan h.guards h.drivers h.acts h.names h.heads h.modes

-- each item
abbrev pub planned : List ℕ → List Row → List Row → Item → Sheet → Sheet
planned s all rows (I.TaskEnd name) h =
    sheet (task_closed h.plan) h.guards (termination_stored h.plan.filled h.drivers) h.acts h.names h.heads h.modes
planned s all rows (I.ModeBegin start at name digits milli) h = with_plan h (mode_opened s h.plan start name digits milli)
planned s all rows (I.Activity kind at digits) h = with_plan h (with_acting h.plan (begun (cap (number_of s digits)) 0))
planned s all rows (I.Guard name arguments) h = with_plan h (with_acting h.plan (begun h.plan.acting.frequency (function_cell (function_named s name))))
planned s all rows (I.GuardArg port) h =
    with_plan h (with_acting h.plan (with_operand h.plan.acting (place_of (argument_named s rows port)) (word_in (argument_named s rows port))))
planned s all rows (I.Invoke task arguments) h =
    let number = (task_named s rows task).value in
    sheet (called h.plan) (guard_stored h.plan.filled.guards h.plan.acting h.guards) (release_stored h.plan number h.drivers)
    (call_stored h.plan number h.acts) h.names h.heads h.modes
planned s all rows (I.Arg port) h =
    sheet (fed h.plan) h.guards (source_read h.plan (port_named s rows port).value h.drivers) h.acts h.names h.heads h.modes
planned s all rows (I.Update actuator source) h =
    sheet (renewed h.plan) (guard_stored h.plan.filled.guards h.plan.acting h.guards)
    (update_stored h.plan (port_named s rows source).value (actuator_named s rows actuator).value h.drivers)
    (updating_stored h.plan h.acts) h.names h.heads h.modes
planned s all rows (I.Switch name) h =
    sheet (turned h.plan) (guard_stored h.plan.filled.guards h.plan.acting h.guards) h.drivers
    (switch_stored h.plan (mode_named s all name).value h.acts) h.names h.heads h.modes
planned s all rows I.ModeEnd h =
    let f = h.plan.filled in
    let o = h.plan.opened in
    sheet (mode_closed h.plan) h.guards h.drivers h.acts (name_stored s o.name f.modes h.names)
    (stored h.heads (f.modes * 3) (o.start ∷ o.period ∷ 0 ∷ []))
    (stored h.modes (f.modes * 5) (o.period ∷ o.calls ∷ o.updates ∷ o.switches ∷ f.acts ∷ []))
planned s all rows (I.Module name) h = h
planned s all rows I.Section h = h
planned s all rows (I.Constant name value) h = h
planned s all rows (I.Sensor typ name getter) h = h
planned s all rows (I.Actuator typ name value setter) h = h
planned s all rows (I.TaskBegin name) h = h
planned s all rows (I.Input typ name) h = h
planned s all rows (I.Output typ name value) h = h
planned s all rows I.ModuleEnd h = h
planned s all rows I.End h = h
planned s all rows (I.No number at) h = h
