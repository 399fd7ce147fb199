-- The board of a module's table holds the module's own drivers, guards, places and types.
use Prim.Native.Nat.{ℕ, zero, suc, ◌+◌, ◌-◌, ◌≤◌, ◌<◌}
use Rattle.std.proofs.Common.{arith, add-zero, add_assoc, sym, ◌∙◌, ap₂, length-append, drop-drop, get_or-drop, of_z, to_z, to_z-of_z}
use Rattle.std.specs.Prelude.{◌≡◌, Bool, true, false, cond, take, set, eqb}
use Rattle.std.proofs.Math.Path.{refl, ap}
use Rattle.std.proofs.Math.Option.{Option, none, some}
use mathlib.Core.List.{List, [], ◌∷◌, ◌++◌, append_assoc, append-nil, map}
use Rattle.std.proofs.Math.ListN.{length, get_or, drop, replicate}
use Rattle.std.proofs.Math.Seq.{drop-append_seam}
use Rattle.std.specs.Int.{w32}
use Rattle.model.specs.Bytes.{same, place_in}
use Rattle.model.specs.Rooms.{driver_room, guard_room, mode_room, task_room}
use Rattle.model.specs.Values.{int, boolean, function_names, function_by, function_number, no_operand, no_guard, operands_of}
use Rattle.model.specs.Modules.{Module, Mode, Sensor, Actuator, Output, Task, no_task, each, task_types, task_ports, port_types, port_starts, inputs_at, outputs_at}
use Rattle.model.specs.Instructions.{Driver, no_driver}
use Rattle.model.specs.declared.Value.{Value}
use Rattle.model.specs.declared.Value.TheVariants.{Int, Flag}
use Rattle.model.specs.declared.Operand.{Operand}
use Rattle.model.specs.declared.Operand.TheVariants.{Port, Fixed}
use Rattle.model.specs.declared.Function.{Function}
use Rattle.model.specs.declared.Function.TheVariants.{IsTrue, IsFalse, Less, Equal}
use Rattle.model.specs.declared.Guard.{Guard}
use Rattle.file.specs.Tables.{ModeRow, Table}
use Rattle.timing.specs.SlotLaws.{Each}
use Rattle.timing.specs.Rules.{inputs_of, outputs_of, task_ports_from}
use Rattle.timing.specs.Calls as C
use Rattle.timing.specs.Calls.{start_mode}
use Rattle.timing.specs.Code.{code_of, drivers_of, begins_of, begins_from, mode_driver_count}
use Rattle.timing.specs.Accepted.{Accepted, OperandFits, SecondFits, GuardFits}
use Rattle.machine.specs.Boards.{Board, board_of, padded, Lot, no_lot, lots_from, operand_of, guard_of, start_from, board_room}
use Rattle.machine.specs.Store.{part, lot_of}
use Rattle.machine.specs.Calls.{reading_types, result_types}
use Rattle.prescribed.specs.Tables.{table_of, guard_row, argument_of, mode_rows}

-- ---- lists at their room's length

filled : {A : Type 0} (n k : ℕ) (blank : A) → get_or (replicate n blank) k blank ≡ blank
filled zero k blank = refl
filled (suc n) zero blank = refl
filled (suc n) (suc k) blank = filled n k blank

more : {A : Type 0} (list : List A) (n k : ℕ) (blank : A) → get_or (list ++ replicate n blank) k blank ≡ get_or list k blank
more [] n k blank = filled n k blank
more (a ∷ list) n zero blank = refl
more (a ∷ list) n (suc k) blank = more list n k blank

pub padded-at : {A : Type 0} (room : ℕ) (blank : A) (list : List A) (k : ℕ) → get_or (padded room blank list) k blank ≡ get_or list k blank
padded-at room blank list k = more list (room - length list) k blank

-- ---- guards

operand-back : (M : Module) (operand : Operand) → OperandFits M operand → operand_of (argument_of operand) ≡ operand
operand-back M (Port number) h = refl
operand-back M (Fixed (Int number)) h = ap (λ z. Fixed (Int z)) (to_z-of_z h)
operand-back M (Fixed (Flag true)) h = refl
operand-back M (Fixed (Flag false)) h = refl

abbrev made : Function → Operand → Operand → Guard
made function first second = record { function = function; first = first; second = second }

pub guard-back : (M : Module) (guard : Guard) → GuardFits M guard → guard_of (guard_row guard) ≡ guard
unfolding place_in same
guard-back M guard fits = go guard.function refl
  where
    a : operand_of (argument_of guard.first) ≡ guard.first
    a = operand-back M guard.first fits.first

    go : (f : Function) → guard.function ≡ f → guard_of (guard_row guard) ≡ guard
    go IsTrue e = let s : SecondFits M IsTrue guard.second = rw e at fits.second in rw e (λ i. made IsTrue (a i) (sym s i))
    go IsFalse e = let s : SecondFits M IsFalse guard.second = rw e at fits.second in rw e (λ i. made IsFalse (a i) (sym s i))
    go Less e = let s : SecondFits M Less guard.second = rw e at fits.second in rw e (λ i. made Less (a i) (operand-back M guard.second s i))
    go Equal e = let s : SecondFits M Equal guard.second = rw e at fits.second in rw e (λ i. made Equal (a i) (operand-back M guard.second s i))

guards-back : (M : Module) (guards : List Guard) → Each (GuardFits M) guards → map guard_of (map guard_row guards) ≡ guards
guards-back M [] h = refl
guards-back M (g ∷ guards) h = ap₂ (λ (x : Guard) (l : List Guard). x ∷ l) (guard-back M g h.0) (guards-back M guards h.1)

-- ---- modes

begins-length : (n : ℕ) (ms : List Mode) (pc : ℕ) → length (begins_from n ms pc) ≡ length ms
unfolding begins_from
begins-length n [] pc = refl
begins-length n (m ∷ ms) pc = ap suc (begins-length (n + mode_driver_count m) ms _)

rows-begin : (ms : List Mode) (begins : List ℕ) → length begins ≡ length ms → map (λ m. m.begin) (mode_rows ms begins) ≡ begins
rows-begin [] [] e = refl
rows-begin [] (b ∷ begins) e = absurd (omega arith)
rows-begin (m ∷ ms) [] e = absurd (omega arith)
rows-begin (m ∷ ms) (b ∷ begins) e = ap (λ (l : List ℕ). b ∷ l) (rows-begin ms begins (omega arith))

rows_start : (k : ℕ) (ms : List Mode) (begins : List ℕ) → length begins ≡ length ms → start_from k (mode_rows ms begins) ≡ C.start_from k ms
rows_start k [] [] e = refl
rows_start k [] (b ∷ begins) e = absurd (omega arith)
rows_start k (m ∷ ms) [] e = absurd (omega arith)
rows_start k (m ∷ ms) (b ∷ begins) e = go m.start (rows_start (suc k) ms begins (omega arith))
  where
    go : (s : Bool) → start_from (suc k) (mode_rows ms begins) ≡ C.start_from (suc k) ms → cond (eqb (cond s 1 0) 1) k (start_from (suc k) (mode_rows ms begins)) ≡ cond s k (C.start_from (suc k) ms)
    go true r = refl
    go false r = r

-- ---- tasks

lots-at : (at : ℕ) (tasks : List Task) (k : ℕ) → k < length tasks
    → get_or (lots_from at tasks) k no_lot ≡ record { inputs = inputs_at at tasks k; outputs = outputs_at at tasks k; results = length (get_or tasks k no_task).outputs }
lots-at at [] k h = absurd (omega arith)
lots-at at (task ∷ tasks) zero h = refl
lots-at at (task ∷ tasks) (suc k) h = lots-at (at + task_ports task) tasks k (omega arith)

-- the n words from `at` on, where they are known
pub part-is : (words : List ℕ) (at : ℕ) (wanted r : List ℕ) → drop at words ≡ wanted ++ r → part words at (length wanted) ≡ wanted
part-is words at [] r h = refl
part-is words at (w ∷ wanted) r h =
    let first : get_or words at 0 ≡ w = ap (λ (i : ℕ). get_or words i 0) (sym (add-zero at)) ∙ sym (get_or-drop at words 0 0) ∙ ap (λ (l : List ℕ). get_or l 0 0) h in
    let next : drop (at + 1) words ≡ wanted ++ r = sym (drop-drop 1 at words) ∙ ap (λ (l : List ℕ). drop 1 l) h in
    ap₂ (λ (x : ℕ) (l : List ℕ). x ∷ l) first (part-is words (at + 1) wanted r next)

mapped : {A B : Type 0} (f : A → B) (l : List A) → length (map f l) ≡ length l
mapped f [] = refl
mapped f (a ∷ l) = ap suc (mapped f l)

passed : (list : List ℕ) (at : ℕ) (l r : List ℕ) → drop at list ≡ l ++ r → drop (at + length l) list ≡ r
passed list at l r h = sym (drop-drop (length l) at list) ∙ ap (λ (x : List ℕ). drop (length l) x) h ∙ drop-append_seam l r

-- where the types of task k's outputs stand among those of tasks
outputs-there : (list : List ℕ) (at : ℕ) (tasks : List Task) (k : ℕ) (r : List ℕ) → k < length tasks → drop at list ≡ each task_types tasks ++ r
    → (s : List ℕ) × (drop (outputs_at at tasks k) list ≡ map (λ o. o.type) (get_or tasks k no_task).outputs ++ s)
outputs-there list at [] k r h e = absurd (omega arith)
outputs-there list at (task ∷ tasks) zero r h e =
    let outs = map (λ (o : Output). o.type) task.outputs in
    let f : drop at list ≡ task.inputs ++ (outs ++ (each task_types tasks ++ r)) = e ∙ simp append_assoc in
    (each task_types tasks ++ r, passed list at task.inputs (outs ++ (each task_types tasks ++ r)) f)
outputs-there list at (task ∷ tasks) (suc k) r h e =
    let n : length (task_types task) ≡ task_ports task = length-append task.inputs (map (λ o. o.type) task.outputs) ∙ ap (λ (i : ℕ). length task.inputs + i) (mapped _ task.outputs) in
    let f : drop (at + task_ports task) list ≡ each task_types tasks ++ r = rw (← n) (passed list at (task_types task) (each task_types tasks ++ r) (e ∙ append_assoc (task_types task) (each task_types tasks) r)) in
    outputs-there list (at + task_ports task) tasks k r (omega arith) f

-- ---- the board of a module

module _ (M : Module) where
  abbrev pub board : Board
  board = board_of (table_of M)

  pub board-code : board.code ≡ code_of M
  unfolding board_of table_of
  board-code = refl

  pub board-driver : (d : ℕ) → get_or board.drivers d no_driver ≡ get_or (drivers_of M) d no_driver
  unfolding board_of table_of
  board-driver d = padded-at driver_room no_driver (drivers_of M) d

  pub board-begin : (k : ℕ) → get_or board.begins k 0 ≡ get_or (begins_of M) k 0
  unfolding board_of table_of begins_of
  board-begin k =
      padded-at mode_room 0 (map (λ m. m.begin) (mode_rows M.modes (begins_from (length M.tasks) M.modes 0))) k
      ∙ ap (λ (l : List ℕ). get_or l k 0) (rows-begin M.modes (begins_from (length M.tasks) M.modes 0) (begins-length (length M.tasks) M.modes 0))

  pub board-start : board.start ≡ start_mode M
  unfolding board_of table_of begins_of
  board-start = rows_start 0 M.modes (begins_from (length M.tasks) M.modes 0) (begins-length (length M.tasks) M.modes 0)

  pub board-guard : Accepted M → (g : ℕ) → get_or board.guards g no_guard ≡ get_or M.guards g no_guard
  unfolding board_of table_of
  board-guard W g =
      padded-at guard_room no_guard (map guard_of (map guard_row M.guards)) g
      ∙ ap (λ (l : List Guard). get_or l g no_guard) (guards-back M M.guards W.guards)

  pub board-lot : (k : ℕ) → k < length M.tasks → lot_of board [] k ≡ record { inputs = inputs_of M k; outputs = outputs_of M k; results = length (get_or M.tasks k no_task).outputs }
  unfolding board_of table_of
  board-lot k h = padded-at task_room no_lot (lots_from (task_ports_from M) M.tasks) k ∙ lots-at (task_ports_from M) M.tasks k h

  abbrev types : List ℕ
  types = port_types M.sensors M.actuators M.tasks

  -- the types of readings, and of task k's results
  pub board-readings : reading_types board ≡ C.reading_types M
  unfolding board_of table_of port_types
  board-readings =
      let ss = map (λ (s : Sensor). s.type) M.sensors in
      rw (← mapped (λ (s : Sensor). s.type) M.sensors) (part-is board.types 0 ss _ (append_assoc ss _ _))

  pub board-results : (k : ℕ) → k < length M.tasks → result_types board k ≡ C.result_types M k
  unfolding board_of table_of port_types
  board-results k h =
      let ss = map (λ (s : Sensor). s.type) M.sensors in
      let acts = map (λ (a : Actuator). a.type) M.actuators in
      let zs : List ℕ = replicate (board_room - length types) 0 in
      let l = board.types in
      let e0 : drop 0 l ≡ ss ++ (acts ++ (each task_types M.tasks ++ zs)) = simp append_assoc in
      let e1 = passed l 0 ss (acts ++ (each task_types M.tasks ++ zs)) e0 in
      let e2 = passed l (0 + length ss) acts (each task_types M.tasks ++ zs) e1 in
      let n : 0 + length ss + length acts ≡ task_ports_from M = omega (arith, mapped (λ (s : Sensor). s.type) M.sensors, mapped (λ (a : Actuator). a.type) M.actuators) in
      let (s, q) = outputs-there l (task_ports_from M) M.tasks k zs h (rw (← n) e2) in
      let outs = map (λ (o : Output). o.type) (get_or M.tasks k no_task).outputs in
      rw (board-lot k h, ← mapped (λ (o : Output). o.type) (get_or M.tasks k no_task).outputs) (part-is l (outputs_of M k) outs s q)
