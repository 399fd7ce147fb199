-- What is declared so far stands in the arrays, and so it does behind each item: nothing is asked of the order of items.
use Rattle.std.specs.Prelude.{ℕ, ◌+◌, ◌≤◌, ◌<◌, ◌≡◌, List, [], ◌∷◌, ◌++◌, length}
use native.Mathlib.Omega.{arith}
use Rattle.std.proofs.Math.Path.{refl}
use Rattle.std.proofs.Math.ListN.{length-append}
use Rattle.text.specs.declared.Name.{Name}
use Rattle.text.specs.declared.Literal.{Literal}
use Rattle.text.specs.declared.Item.{Item}
use Rattle.text.specs.declared.Item.TheVariants as I
use Rattle.layout.specs.Rows.{zeros, name_cells}
use Rattle.layout.specs.Filling.{rowed-none, padded-none}
use Rattle.timing.specs.SlotLaws.{Each}
use Rattle.refusals.specs.declared.Row.{Row}
use Rattle.refusals.specs.Names.{letters}
use Rattle.refusals.specs.Values.{type_named, literal_word}
use Rattle.accepted.specs.Lists.{each_first}
use Rattle.ports.specs.declared.Ports.{Ports}
use Rattle.ports.specs.Boards.{word, Board, board_of, placed_by}
use Rattle.ports.specs.Laid.{Laid, bare, also, lane_also, under_cells, laid_by}
use Rattle.ports.specs.Holding.{each_last, names-before, rowing_more, rowing-both, rowing-next, even-more, Laning, laning-more, tasked-more, Well, Holds}

-- what is counted before the first item
abbrev pub no_ports : Ports
no_ports = record { sensors = 0; actuators = 0; tasks = 0; labels = 0; titles = 0; ports = 0; first = 0; inputs = 0; outputs = 0 }

-- arrays of zeros
abbrev pub blank_board : Board
blank_board = board_of no_ports (zeros 33) (zeros 2112) (zeros 2112) (zeros 2112) (zeros 4224) (zeros 320) (zeros 320) (zeros 320) (zeros 128)

pub bare-holds : Holds bare blank_board
bare-holds =
    record {
      well = record { even = record { roles = refl; starts = refl }; inside = omega arith };
      fits = λ w.
          record {
            title = record { held = rowed-none 33 33 name_cells; behind = refl };
            sensors = record { held = rowed-none 33 2112 name_cells; behind = refl };
            actuators = record { held = rowed-none 33 2112 name_cells; behind = refl };
            tasks = record { held = rowed-none 33 2112 name_cells; behind = refl };
            outputs = record { held = rowed-none 33 4224 name_cells; behind = refl };
            lanes = record { roles = padded-none 320; types = padded-none 320; starts = padded-none 320; next = refl };
            rows = record { held = rowed-none 4 128 (λ cells. cells); behind = refl };
            under = record { first = refl; inputs = refl; outputs = refl };
          };
    }

-- a word that 32 bits hold
kept : (start : ℕ) → start < 4294967296 → word start ≡ start
kept start h = omega arith

module _ (s : List ℕ) (rows : List Row) (l : Laid) (b : Board) (h : Holds l b) where
  abbrev types : List ℕ
  types = l.lanes.types

  abbrev starts : List ℕ
  starts = l.lanes.starts

  -- one more port
  well-more : (role type start first inputs outputs : ℕ) → first + inputs + outputs ≤ length types + 1 → (words : _) (row : _) → Well (record { words = words; lanes = lane_also role type start l.lanes; rows = row; under = record { first = first; inputs = inputs; outputs = outputs } })
  well-more role type start first inputs outputs i words row =
      let n : length (lane_also role type start l.lanes).types ≡ length types + 1 = length-append types (type ∷ []) in
      record { even = even-more role type start l.lanes h.well.even; inside = omega arith }

  fewer : (type : ℕ) → length (types ++ (type ∷ [])) ≤ 320 → length types ≤ 320
  fewer type w = let n = length-append types (type ∷ []) in omega arith

  starts-before : (start : ℕ) → Each (λ (word : ℕ). word < 4294967296) (starts ++ (start ∷ [])) → Each (λ (word : ℕ). word < 4294967296) starts
  starts-before start w = each_first (λ (word : ℕ). word < 4294967296) starts (start ∷ []) w

  start-kept : (start : ℕ) → Each (λ (word : ℕ). word < 4294967296) (starts ++ (start ∷ [])) → word start ≡ start
  start-kept start w = kept start (each_last (λ (word : ℕ). word < 4294967296) starts start w)

  title-placed : (name : Name) → Holds (laid_by s rows (I.Module name) l) (placed_by s rows (I.Module name) b)
  unfolding laid_by placed_by
  title-placed name =
      record {
        well = record { even = h.well.even; inside = h.well.inside };
        fits = λ w.
            let few = w.title.few in
            let n = length-append l.words.modules (letters s name ∷ []) in
            let f = h.fits (record { title = names-before 1 l.words.modules (letters s name) w.title; sensors = w.sensors; actuators = w.actuators; tasks = w.tasks; outputs = w.outputs; ports = w.ports; starts = w.starts; rows = w.rows }) in
            let one = rowing_more 1 s name 0 (omega arith) w.title f.title in
            record { title = record { held = one.held; behind = refl }; sensors = f.sensors; actuators = f.actuators; tasks = f.tasks; outputs = f.outputs; lanes = f.lanes; rows = f.rows; under = f.under };
      }

  sensor-placed : (typ name getter : Name) → Holds (laid_by s rows (I.Sensor typ name getter) l) (placed_by s rows (I.Sensor typ name getter) b)
  unfolding laid_by placed_by
  sensor-placed typ name getter =
      let old = l.words.sensors in
      record {
        well = well-more 1 (type_named s typ) 0 _ _ _ (let i = h.well.inside in omega arith) _ _;
        fits = λ w.
            let few = w.sensors.few in
            let n = length-append (also old (letters s name)) (letters s getter ∷ []) in
            let m = length-append old (letters s name ∷ []) in
            let f = h.fits (record { title = w.title; sensors = names-before 64 old (letters s name) (names-before 64 (also old (letters s name)) (letters s getter) w.sensors); actuators = w.actuators; tasks = w.tasks; outputs = w.outputs; ports = fewer (type_named s typ) w.ports; starts = starts-before 0 w.starts; rows = w.rows }) in
            let k = f.sensors.behind in
            record { title = f.title; sensors = rowing-both 64 s name getter b.counts.sensors (omega arith) w.sensors f.sensors; actuators = f.actuators; tasks = f.tasks; outputs = f.outputs; lanes = laning-more l.lanes b.lanes b.counts.ports 1 (type_named s typ) 0 h.well.even w.ports f.lanes; rows = f.rows; under = record { first = f.under.first; inputs = f.under.inputs; outputs = f.under.outputs } };
      }

  actuator-placed : (typ name : Name) (value : Literal) (setter : Name) → Holds (laid_by s rows (I.Actuator typ name value setter) l) (placed_by s rows (I.Actuator typ name value setter) b)
  unfolding laid_by placed_by
  actuator-placed typ name value setter =
      let old = l.words.actuators in
      let start = literal_word s rows value in
      record {
        well = well-more 2 (type_named s typ) start _ _ _ (let i = h.well.inside in omega arith) _ _;
        fits = λ w.
            let few = w.actuators.few in
            let n = length-append (also old (letters s name)) (letters s setter ∷ []) in
            let m = length-append old (letters s name ∷ []) in
            let f = h.fits (record { title = w.title; sensors = w.sensors; actuators = names-before 64 old (letters s name) (names-before 64 (also old (letters s name)) (letters s setter) w.actuators); tasks = w.tasks; outputs = w.outputs; ports = fewer (type_named s typ) w.ports; starts = starts-before start w.starts; rows = w.rows }) in
            let k = f.actuators.behind in
            let lanes : Laning (lane_also 2 (type_named s typ) start l.lanes) _ _ = laning-more l.lanes b.lanes b.counts.ports 2 (type_named s typ) start h.well.even w.ports f.lanes in
            record { title = f.title; sensors = f.sensors; actuators = rowing-both 64 s name setter b.counts.actuators (omega arith) w.actuators f.actuators; tasks = f.tasks; outputs = f.outputs; lanes = rw (start-kept start w.starts) lanes; rows = f.rows; under = record { first = f.under.first; inputs = f.under.inputs; outputs = f.under.outputs } };
      }

  begin-placed : (name : Name) → Holds (laid_by s rows (I.TaskBegin name) l) (placed_by s rows (I.TaskBegin name) b)
  unfolding laid_by placed_by
  begin-placed name =
      record {
        well = record { even = h.well.even; inside = omega arith };
        fits = λ w.
            let few = w.tasks.few in
            let n = length-append l.words.tasks (letters s name ∷ []) in
            let f = h.fits (record { title = w.title; sensors = w.sensors; actuators = w.actuators; tasks = names-before 64 l.words.tasks (letters s name) w.tasks; outputs = w.outputs; ports = w.ports; starts = w.starts; rows = w.rows }) in
            let k = f.tasks.behind in
            record { title = f.title; sensors = f.sensors; actuators = f.actuators; tasks = rowing-next 64 s name (omega arith) w.tasks f.tasks; outputs = f.outputs; lanes = f.lanes; rows = f.rows; under = record { first = f.lanes.next; inputs = refl; outputs = refl } };
      }

  input-placed : (typ name : Name) → Holds (laid_by s rows (I.Input typ name) l) (placed_by s rows (I.Input typ name) b)
  unfolding laid_by placed_by
  input-placed typ name =
      record {
        well = well-more 3 (type_named s typ) 0 _ _ _ (let i = h.well.inside in omega arith) _ _;
        fits = λ w.
            let small = fewer (type_named s typ) w.ports in
            let inside = h.well.inside in
            let f = h.fits (record { title = w.title; sensors = w.sensors; actuators = w.actuators; tasks = w.tasks; outputs = w.outputs; ports = small; starts = starts-before 0 w.starts; rows = w.rows }) in
            let i = f.under.inputs in
            record { title = f.title; sensors = f.sensors; actuators = f.actuators; tasks = f.tasks; outputs = f.outputs; lanes = laning-more l.lanes b.lanes b.counts.ports 3 (type_named s typ) 0 h.well.even w.ports f.lanes; rows = f.rows; under = record { first = f.under.first; inputs = omega arith; outputs = f.under.outputs } };
      }

  output-placed : (typ name : Name) (value : Literal) → Holds (laid_by s rows (I.Output typ name value) l) (placed_by s rows (I.Output typ name value) b)
  unfolding laid_by placed_by
  output-placed typ name value =
      let start = literal_word s rows value in
      record {
        well = well-more 4 (type_named s typ) start _ _ _ (let i = h.well.inside in omega arith) _ _;
        fits = λ w.
            let few = w.outputs.few in
            let n = length-append l.words.outputs (letters s name ∷ []) in
            let small = fewer (type_named s typ) w.ports in
            let inside = h.well.inside in
            let f = h.fits (record { title = w.title; sensors = w.sensors; actuators = w.actuators; tasks = w.tasks; outputs = names-before 128 l.words.outputs (letters s name) w.outputs; ports = small; starts = starts-before start w.starts; rows = w.rows }) in
            let k = f.outputs.behind in
            let o = f.under.outputs in
            let lanes : Laning (lane_also 4 (type_named s typ) start l.lanes) _ _ = laning-more l.lanes b.lanes b.counts.ports 4 (type_named s typ) start h.well.even w.ports f.lanes in
            record { title = f.title; sensors = f.sensors; actuators = f.actuators; tasks = f.tasks; outputs = rowing-next 128 s name (omega arith) w.outputs f.outputs; lanes = rw (start-kept start w.starts) lanes; rows = f.rows; under = record { first = f.under.first; inputs = f.under.inputs; outputs = omega arith } };
      }

  end-placed : (function : Name) → Holds (laid_by s rows (I.TaskEnd function) l) (placed_by s rows (I.TaskEnd function) b)
  unfolding laid_by placed_by
  end-placed function =
      record {
        well = record { even = h.well.even; inside = h.well.inside };
        fits = λ w.
            let few = w.tasks.few in
            let n = length-append l.words.tasks (letters s function ∷ []) in
            let m = length-append l.rows (under_cells l.under ∷ []) in
            let more = w.rows in
            let inside = h.well.inside in
            let small = w.ports in
            let f = h.fits (record { title = w.title; sensors = w.sensors; actuators = w.actuators; tasks = names-before 64 l.words.tasks (letters s function) w.tasks; outputs = w.outputs; ports = w.ports; starts = w.starts; rows = omega (arith, m, more) }) in
            let k = f.tasks.behind in
            record { title = f.title; sensors = f.sensors; actuators = f.actuators; tasks = rowing-next 64 s function (omega arith) w.tasks f.tasks; outputs = f.outputs; lanes = f.lanes; rows = tasked-more l.rows b.rows l.under b.counts (omega arith) w.rows f.under f.rows; under = record { first = f.under.first; inputs = f.under.inputs; outputs = f.under.outputs } };
      }

  pub placed-holds : (item : Item) → Holds (laid_by s rows item l) (placed_by s rows item b)
  unfolding laid_by placed_by
  placed-holds (I.Module name) = title-placed name
  placed-holds I.Section = h
  placed-holds (I.Constant name value) = h
  placed-holds (I.Sensor typ name getter) = sensor-placed typ name getter
  placed-holds (I.Actuator typ name value setter) = actuator-placed typ name value setter
  placed-holds (I.TaskBegin name) = begin-placed name
  placed-holds (I.Input typ name) = input-placed typ name
  placed-holds (I.Output typ name value) = output-placed typ name value
  placed-holds (I.TaskEnd function) = end-placed function
  placed-holds (I.ModeBegin start at name digits milli) = h
  placed-holds (I.Activity kind at digits) = h
  placed-holds (I.Guard name arguments) = h
  placed-holds (I.GuardArg port) = h
  placed-holds (I.Invoke task arguments) = h
  placed-holds (I.Arg port) = h
  placed-holds (I.Update actuator source) = h
  placed-holds (I.Switch name) = h
  placed-holds I.ModeEnd = h
  placed-holds I.ModuleEnd = h
  placed-holds I.End = h
  placed-holds (I.No number at) = h
