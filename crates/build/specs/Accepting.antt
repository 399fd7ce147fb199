-- Of an accepted text the arrays are those of its module's table, whose code is not made yet.
use Rattle.std.specs.Prelude.{ℕ, ◌+◌, ◌≤◌, ◌≡◌, refl, cond, List, [], ◌∷◌, ◌++◌, map, length}
use Rattle.std.proofs.Common.{arith, ap, ◌∙◌, append-nil}
use Rattle.std.proofs.Math.Path.{sym}
use Rattle.std.proofs.lemmas.Simd.{map-map}
use Rattle.std.proofs.Math.Option.{none}
use Rattle.std.proofs.lemmas.List.{length-map}
use Rattle.model.specs.Modules.{Module, Mode, each}
use Rattle.timing.specs.Code.{drivers_of}
use Rattle.file.specs.Tables.{ModeRow, Table}
use Rattle.prescribed.specs.Tables.{guard_row, table_of}
use Rattle.layout.specs.Rows.{zeros, padded, rows, name_cells, names}
use Rattle.layout.specs.Plain.{sensor_names, actuator_names, mode_cells, instruction_cells, struct_of}
use Rattle.layout.specs.Filling.{padded-none, padded-zeros}
use Rattle.layout.specs.Cells.{length-task-rows}
use Rattle.text.specs.Items.{items_of, syntax_of}
use Rattle.refusals.specs.Verdicts.{Fine}
use Rattle.refusals.specs.Texts.{verdict_of, module_of}
use Rattle.names.specs.Tables.{rows_in}
use Rattle.accepted.specs.Folds.{all_rows}
use Rattle.accepted.specs.NamesFit.{names-fit}
use Rattle.ports.specs.Boards.{Board}
use Rattle.ports.specs.Laid.{Laid}
use Rattle.ports.specs.Holding.{Fits}
use Rattle.ports.specs.Placing.{blank_board}
use Rattle.sheets.specs.Whole.{Whole}
use Rattle.sheets.specs.Rooms.{accepted-within, accepted-whole}
use Rattle.build.specs.Walks.{board_run, sheet_run}
use Rattle.build.specs.Sections.{Tells}
use Rattle.build.specs.Tables.{blank_sheet, table_in}
use Rattle.build.specs.Scheduled.{modes-walked, ports-walked}
use Rattle.build.specs.Rooms.{twos, declared-within}

-- a mode in the file, whose code begins at 0 until it is made
abbrev pub plain_mode : Mode → ModeRow
plain_mode m = record { name = m.name; start = cond m.start 1 0; period = m.period; begin = 0 }

-- the table of a module before its code is made
unfoldable pub uncoded : Module → Table
uncoded M =
    record {
      name = M.name;
      sensors = M.sensors;
      actuators = M.actuators;
      tasks = M.tasks;
      drivers = drivers_of M;
      guards = map guard_row M.guards;
      modes = map plain_mode M.modes;
      code = [];
    }

-- ---- rows of records that are others' images

each-images : {A B C : Type 0} (f : B → List C) (g : A → B) (xs : List A) → each f (map g xs) ≡ each (λ x. f (g x)) xs
each-images f g [] = refl
each-images f g (x ∷ xs) = ap (λ l. f (g x) ++ l) (each-images f g xs)

rows-images : {A B : Type 0} (width size : ℕ) (cells : B → List ℕ) (g : A → B) (xs : List A) → rows width size cells (map g xs) ≡ rows width size (λ x. cells (g x)) xs
unfolding rows
rows-images width size cells g xs = ap (padded size) (each-images (λ x. padded width (cells x)) g xs)

-- a name alone in its array
one-row : (name : List ℕ) → length name ≤ 32 → rows 33 33 name_cells (name ∷ []) ≡ padded 33 (name_cells name)
unfolding rows padded
one-row name h = ap (padded 33) (append-nil (padded 33 (name_cells name))) ∙ padded-zeros 33 (name_cells name) _ (omega arith)

no_code : zeros 12288 ≡ rows 3 12288 instruction_cells []
unfolding rows
no_code = padded-none 12288

-- ---- the parts of the table

-- counts and arrays of declarations are those of the table
pub record DeclaredRight (M : Module) (b : Board) : Type 0 where
  pub sensors : b.counts.sensors ≡ length M.sensors
  pub actuators : b.counts.actuators ≡ length M.actuators
  pub tasks : b.counts.tasks ≡ length M.tasks
  pub name : b.names.title ≡ (struct_of (uncoded M)).name
  pub sensor-names : b.names.sensors ≡ (struct_of (uncoded M)).sensor_names
  pub actuator-names : b.names.actuators ≡ (struct_of (uncoded M)).actuator_names
  pub task-names : b.names.tasks ≡ (struct_of (uncoded M)).task_names
  pub output-names : b.names.outputs ≡ (struct_of (uncoded M)).output_names
  pub roles : b.lanes.roles ≡ (struct_of (uncoded M)).roles
  pub types : b.lanes.types ≡ (struct_of (uncoded M)).types
  pub starts : b.lanes.starts ≡ (struct_of (uncoded M)).starts
  pub task-rows : b.rows ≡ (struct_of (uncoded M)).task_rows

declared-right : (M : Module) (l : Laid) (b : Board) → length M.name ≤ 32 → l.words.modules ≡ M.name ∷ [] → Tells l M.sensors M.actuators M.tasks → Fits l b → DeclaredRight M b
unfolding struct_of uncoded
declared-right M l b short titled told f =
    let x = twos sensor_names (λ k. refl) M.sensors in
    let y = twos actuator_names (λ k. refl) M.actuators in
    let p : length l.words.sensors ≡ length (each sensor_names M.sensors) = ap (λ (w : List (List ℕ)). length w) told.sensor-words in
    let q : length l.words.actuators ≡ length (each actuator_names M.actuators) = ap (λ (w : List (List ℕ)). length w) told.actuator-words in
    let u = f.sensors.behind in
    let v = f.actuators.behind in
    record {
      sensors = omega (arith, x, p, u);
      actuators = omega (arith, y, q, v);
      tasks = f.rows.behind ∙ ap (λ (r : List (List ℕ)). length r) told.rows ∙ length-task-rows (length M.sensors + length M.actuators) M.tasks;
      name = f.title.held.is ∙ ap (λ (w : List (List ℕ)). rows 33 33 name_cells w) titled ∙ one-row M.name short;
      sensor-names = f.sensors.held.is ∙ ap (λ (w : List (List ℕ)). rows 33 2112 name_cells w) told.sensor-words;
      actuator-names = f.actuators.held.is ∙ ap (λ (w : List (List ℕ)). rows 33 2112 name_cells w) told.actuator-words;
      task-names = f.tasks.held.is ∙ ap (λ (w : List (List ℕ)). rows 33 2112 name_cells w) told.task-words;
      output-names = f.outputs.held.is ∙ ap (λ (w : List (List ℕ)). rows 33 4224 name_cells w) told.output-words;
      roles = f.lanes.roles ∙ ap (padded 320) told.roles;
      types = f.lanes.types ∙ ap (padded 320) told.types;
      starts = f.lanes.starts ∙ ap (padded 320) told.starts;
      task-rows = f.rows.held.is ∙ ap (λ (r : List (List ℕ)). rows 4 128 (λ cells. cells) r) told.rows;
    }

module _ (s cells : List ℕ) (all : ℕ) (there : rows_in cells all ≡ all_rows s) (e : syntax_of s ≡ none) (v : verdict_of s ≡ Fine) where
  pub ports-right : DeclaredRight (module_of s) (board_run s cells 0 (items_of s) blank_board)
  ports-right =
      let w = ports-walked s cells all there e in
      let within = declared-within s e v w.laid w.order.0 w.order.1 in
      declared-right (module_of s) w.laid _ (names-fit s e v).module-name.short w.order.0 w.order.1 (w.holds.fits within)

  pub plans-right : Whole (module_of s) (sheet_run s cells all 0 (items_of s) blank_sheet)
  plans-right = accepted-whole s e v _ (modes-walked s cells all there e)

  names-right : (sheet_run s cells all 0 (items_of s) blank_sheet).names ≡ names 8 (map (λ r. r.name) (map plain_mode (module_of s).modes))
  names-right = ((modes-walked s cells all there e).arrays (accepted-within s e v)).names ∙ ap (λ (w : List (List ℕ)). names 8 w) (sym (map-map (λ (r : ModeRow). r.name) plain_mode (module_of s).modes))

  -- the whole table, but its code and where the code of each mode begins
  pub table-right : table_in (board_run s cells 0 (items_of s) blank_board) (sheet_run s cells all 0 (items_of s) blank_sheet) ≡ struct_of (uncoded (module_of s))
  unfolding struct_of table_of uncoded
  table-right =
      let M = module_of s in
      let p = ports-right in
      let q = plans-right in
      let guards = q.guards-told ∙ sym (length-map M.guards guard_row) in
      let modes = q.modes-told ∙ sym (length-map M.modes plain_mode) in
      let heads = q.mode-rows ∙ sym (rows-images 3 24 mode_cells plain_mode M.modes) in
      λ i.
      record {
        sensors = p.sensors i;
        actuators = p.actuators i;
        tasks = p.tasks i;
        drivers = q.drivers-told i;
        guards = guards i;
        modes = modes i;
        instructions = 0;
        name = p.name i;
        sensor_names = p.sensor-names i;
        actuator_names = p.actuator-names i;
        task_names = p.task-names i;
        output_names = p.output-names i;
        mode_names = names-right i;
        roles = p.roles i;
        types = p.types i;
        starts = p.starts i;
        task_rows = p.task-rows i;
        driver_rows = q.driver-rows i;
        guard_rows = q.guard-rows i;
        mode_rows = heads i;
        code = no_code i;
      }
