-- The table of an accepted text can stand in a file, so that its file reads back to it (document 01, 'The file').
use Rattle.std.specs.Prelude.{ℕ, zero, suc, ◌+◌, ◌*◌, ◌≤◌, ◌<◌, ◌≡◌, List, [], ◌∷◌, map, Bool, cond, ◌&&◌, leb, get_or}
use Rattle.std.proofs.Common.{arith, le-leb, lt-ltb, of_z}
use Rattle.std.proofs.Math.Path.{refl}
use Rattle.std.proofs.Math.Bool.{true, false}
use Rattle.std.proofs.Math.Option.{none, some}
use Rattle.std.proofs.Math.ListN.{length, length-map}
use mir.Syntax.{w32}
use Rattle.std.proofs.Math.Facts.{Fits-of_z}
use Rattle.codec.proofs.Codecs.{and_both}
use Rattle.codec.specs.Numbers.{byte, be}
use Rattle.codec.proofs.Numbers.{be-ok}
use Rattle.codec.specs.Sequences.{dep, dep_ok}
use Rattle.codec.specs.Views.{check, shape, view_ok}
use Rattle.codec.specs.Tags.{enum}
use Rattle.codec.specs.Lists.{run_ok}
use Rattle.model.specs.Rooms.{period_room}
use Rattle.model.specs.Bytes.{bytes, place_in, same}
use Rattle.model.specs.Values.{function_names, function_number}
use Rattle.model.specs.declared.Value.TheVariants.{Int, Flag}
use Rattle.model.specs.declared.Operand.{Operand}
use Rattle.model.specs.declared.Operand.TheVariants as O
use Rattle.model.specs.declared.Function.{Function}
use Rattle.model.specs.declared.Function.TheVariants.{IsTrue, IsFalse, Less, Equal}
use Rattle.model.specs.Modules.{Module, Sensor, Actuator, Output, Task, Mode, Act, Call, Update, each}
use Rattle.model.specs.Instructions.{Instr, nop, future, call, release, iff, jump, return, switch, updates, releases, terminates}
use Rattle.file.specs.Tables.{Argument}
use Rattle.file.specs.Parts.{all_in, count, type}
use Rattle.file.specs.Names.{name_bytes, is_keyword, good_name, name}
use Rattle.text.specs.Words.{keywords}
use Rattle.file.specs.Records.{sensor, sensors, actuator, actuators, output, Used, none_used, used_with, port_count, task, tasks}
use Rattle.file.specs.Code.{driver_rest, driver, drivers, argument_rest, argument, guard, guards, mode, modes, free, marker, delay, unused, no_argument, forms_of, word, triple, triple_of, instruction, code}
use Rattle.file.specs.Files.{table, table_by, sound}
use Rattle.prescribed.specs.Tables.{argument_of, guard_row, mode_rows, table_of}
use Rattle.text.specs.Items.{syntax_of}
use Rattle.timing.specs.SlotLaws.{Each, each-zip}
use Rattle.timing.specs.Accepted.{ports, OperandFits, SecondFits, GuardFits, CallFits, UpdateFits, ModeFits, Accepted}
use Rattle.timing.specs.Code.{terminates_from, mode_drivers, drivers_of, begins_of, code_of}
use Rattle.refusals.specs.Verdicts.{Fine}
use Rattle.refusals.specs.Activities.{activities_in}
use Rattle.refusals.specs.Texts.{verdict_of, module_of}
use Rattle.accepted.specs.Lists.{each_append, each_map, each-mapped}
use Rattle.accepted.specs.CodeFits.{Good, drivers_from, driver_count, drivers-count, code-good, begins-in, every-mode}
use Rattle.accepted.specs.NamesFit.{NameFits, SensorNames, ActuatorNames, OutputNames, TaskNames, ModeNames, names-fit}
use Rattle.accepted.specs.TypesFit.{OutputFits, ActuatorFits, TaskFits, parts-fit}
use Rattle.accepted.specs.TaskPorts.{tasks-told, told-few, told-few-inputs}
use Rattle.accepted.specs.PortTotals.{all_inputs, all_outputs, inputs-in-all, outputs-in-all}
use Rattle.accepted.specs.GuardRoom.{activities-room}
use Rattle.accepted.specs.TableHolds.{list-so, running-so, byte-so, count-so, type-so, value-so, within-so, name-so}
use Rattle.accepted.specs.TableRefers.{mode-rows-length, begins-as-many, text-refers}
use Rattle.accepted.specs.Folds.{all_rows}
use Rattle.accepted.specs.Accepts.{accepted}

-- ---- sensors, actuators, tasks

sensor-so : (x : Sensor) → SensorNames x → x.type < 2 → sensor.ok x ≡ true
unfolding sensor shape view_ok dep dep_ok
sensor-so x n t = and_both (name-so x.name n.0) (and_both (type-so x.type t) (name-so x.getter n.1))

sensors-so : (xs : List Sensor) → length xs ≤ 32 → Each SensorNames xs → Each (λ (x : Sensor). x.type < 2) xs → sensors.ok xs ≡ true
unfolding sensors
sensors-so xs l n t = list-so (count 2 32) sensor xs (count-so 2 32 (length xs) l (omega (arith, l))) (each-zip SensorNames (λ (x : Sensor). x.type < 2) (λ x. sensor.ok x ≡ true) sensor-so xs n t)

actuator-so : (x : Actuator) → ActuatorNames x → ActuatorFits x → actuator.ok x ≡ true
unfolding actuator shape view_ok dep dep_ok
actuator-so x n f = and_both (name-so x.name n.0) (and_both (type-so x.type f.known) (and_both (value-so x.type x.start f.fits f.word) (name-so x.setter n.1)))

actuators-so : (xs : List Actuator) → length xs ≤ 32 → Each ActuatorNames xs → Each ActuatorFits xs → actuators.ok xs ≡ true
unfolding actuators
actuators-so xs l n t = list-so (count 2 32) actuator xs (count-so 2 32 (length xs) l (omega (arith, l))) (each-zip ActuatorNames ActuatorFits (λ x. actuator.ok x ≡ true) actuator-so xs n t)

output-so : (x : Output) → OutputNames x → OutputFits x → output.ok x ≡ true
unfolding output shape view_ok dep dep_ok
output-so x n f = and_both (name-so x.name n) (and_both (type-so x.type f.known) (value-so x.type x.start f.fits f.word))

port-count-so : (used n : ℕ) → n ≤ 8 → used + n ≤ 128 → (port_count used).ok n ≡ true
unfolding port_count check view_ok
port-count-so used n l k = and_both (and_both (le-leb n 8 l) (le-leb (used + n) 128 k)) (be-ok 1 n (omega (arith, l)))

task-so : (used : Used) (x : Task) → TaskNames x → TaskFits x → length x.inputs ≤ 8 → length x.outputs ≤ 8 → used.inputs + length x.inputs ≤ 128 → used.outputs + length x.outputs ≤ 128 → (task used).ok x ≡ true
unfolding task shape view_ok dep dep_ok
task-so used x n f i o a b =
    and_both (name-so x.name n.0) (and_both (name-so x.function n.1) (and_both
    (list-so (port_count used.inputs) type x.inputs (port-count-so used.inputs (length x.inputs) i a) (each_map (λ t. t < 2) (λ t. type.ok t ≡ true) type-so x.inputs f.inputs-known))
    (list-so (port_count used.outputs) output x.outputs (port-count-so used.outputs (length x.outputs) o b) (each-zip OutputNames OutputFits (λ x. output.ok x ≡ true) output-so x.outputs n.2 f.outputs-fit))))

run-tasks : (used : Used) (xs : List Task) → Each TaskNames xs → Each TaskFits xs → Each (λ (t : Task). length t.inputs ≤ 8) xs → Each (λ (t : Task). length t.outputs ≤ 8) xs → used.inputs + all_inputs xs ≤ 128 → used.outputs + all_outputs xs ≤ 128 → run_ok task used_with used xs ≡ true
run-tasks used [] n f i o a b = refl
run-tasks used (x ∷ xs) n f i o a b = and_both (task-so used x n.0 f.0 i.0 o.0 (omega (arith, a)) (omega (arith, b))) (run-tasks (used_with used x) xs n.1 f.1 i.1 o.1 (omega (arith, a)) (omega (arith, b)))

tasks-so : (xs : List Task) → length xs ≤ 32 → Each TaskNames xs → Each TaskFits xs → Each (λ (t : Task). length t.inputs ≤ 8) xs → Each (λ (t : Task). length t.outputs ≤ 8) xs → all_inputs xs ≤ 128 → all_outputs xs ≤ 128 → tasks.ok xs ≡ true
unfolding tasks
tasks-so xs l n f i o a b = running-so task used_with (count 2 32) none_used xs (count-so 2 32 (length xs) l (omega (arith, l))) (run-tasks none_used xs n f i o (omega (arith, a)) (omega (arith, b)))

-- ---- drivers

terminate-so : (k : ℕ) → k < 65536 → driver.ok (terminates k) ≡ true
unfolding driver driver_rest shape view_ok dep dep_ok enum
terminate-so k l = and_both (byte-so 5 (omega arith)) (be-ok 2 k l)

update-so : (source target : ℕ) → source < 65536 → target < 65536 → driver.ok (updates source target) ≡ true
unfolding driver driver_rest shape view_ok dep dep_ok enum
update-so source target l k = and_both (byte-so 3 (omega arith)) (and_both (be-ok 2 source l) (be-ok 2 target k))

release-so : (t : ℕ) (sources : List ℕ) → t < 65536 → length sources ≤ 8 → Each (λ p. p < 65536) sources → driver.ok (releases t sources) ≡ true
unfolding driver driver_rest shape view_ok dep dep_ok enum
release-so t sources l k h = and_both (byte-so 4 (omega arith)) (and_both (be-ok 2 t l) (list-so (count 1 8) (be 2) sources (count-so 1 8 (length sources) k (omega (arith, k))) (each_map (λ p. p < 65536) (λ p. (be 2).ok p ≡ true) (λ p l. be-ok 2 p l) sources h)))

terminates-so : (k : ℕ) (ts : List Task) → k + length ts ≤ 32 → Each (λ d. driver.ok d ≡ true) (terminates_from k ts)
terminates-so k [] l = tt
terminates-so k (t ∷ ts) l = (terminate-so k (omega (arith, l)), terminates-so (k + 1) ts (omega (arith, l)))

inputs-few-at : (ts : List Task) (k : ℕ) → Each (λ (t : Task). length t.inputs ≤ 8) ts → length (get_or ts k (record { name = []; function = []; inputs = []; outputs = [] })).inputs ≤ 8
inputs-few-at [] k h = omega arith
inputs-few-at (t ∷ ts) zero h = h.0
inputs-few-at (t ∷ ts) (suc k) h = inputs-few-at ts k h.1

-- the names of the guards' functions
function-fits : (f : Function) → NameFits (get_or function_names (function_number f) [])
unfolding good_name name_bytes all_in is_keyword place_in keywords same
function-fits IsTrue = record { good = refl; some = omega arith; short = omega arith }
function-fits IsFalse = record { good = refl; some = omega arith; short = omega arith }
function-fits Less = record { good = refl; some = omega arith; short = omega arith }
function-fits Equal = record { good = refl; some = omega arith; short = omega arith }

function-name : (f : Function) → name.ok (get_or function_names (function_number f) []) ≡ true
function-name f = name-so (get_or function_names (function_number f) []) (function-fits f)

module _ (M : Module) (W : Accepted M) (few : Each (λ (t : Task). length t.inputs ≤ 8) M.tasks) where
  call-so : (a : Act Call) → CallFits M a → driver.ok (releases a.what.task a.what.sources) ≡ true
  call-so a f =
      let p = W.few-ports in
      let n = W.few-tasks in
      let t = f.task in
      let m = inputs-few-at M.tasks a.what.task few in
      release-so a.what.task a.what.sources (omega (arith, n, t)) (omega (arith, f.as_many, m)) (each_map (λ q. q < ports M) (λ q. q < 65536) (λ q l. omega (arith, l, p)) a.what.sources f.sources)

  act-so : (a : Act Update) → UpdateFits M a → driver.ok (updates a.what.source a.what.target) ≡ true
  act-so a f = let p = W.few-ports in let x = f.source in let y = f.target in update-so a.what.source a.what.target (omega (arith, p, x)) (omega (arith, p, y))

  mode-drivers-so : (ms : List Mode) → Each (ModeFits M) ms → Each (λ d. driver.ok d ≡ true) (each mode_drivers ms)
  mode-drivers-so [] h = tt
  mode-drivers-so (m ∷ ms) h =
      each_append (λ d. driver.ok d ≡ true) (mode_drivers m) (each mode_drivers ms)
      (each_append (λ d. driver.ok d ≡ true) (map (λ a. updates a.what.source a.what.target) m.updates) (map (λ a. releases a.what.task a.what.sources) m.calls)
      (each-mapped (λ d. driver.ok d ≡ true) (λ (a : Act Update). updates a.what.source a.what.target) m.updates (each_map (UpdateFits M) (λ a. driver.ok (updates a.what.source a.what.target) ≡ true) act-so m.updates h.0.updates))
      (each-mapped (λ d. driver.ok d ≡ true) (λ (a : Act Call). releases a.what.task a.what.sources) m.calls (each_map (CallFits M) (λ a. driver.ok (releases a.what.task a.what.sources) ≡ true) call-so m.calls h.0.calls)))
      (mode-drivers-so ms h.1)

  busy-drivers : (ms : List Mode) → Each (λ m. activities_in m ≤ 32) ms → drivers_from 0 0 M ms ≤ 32 * length ms
  busy-drivers [] h = omega arith
  busy-drivers (m ∷ ms) h = let e = busy-drivers ms h.1 in let b = h.0 in omega (arith, e, b)

  drivers-so : Each (λ m. activities_in m ≤ 32) M.modes → drivers.ok (drivers_of M) ≡ true
  unfolding drivers drivers_of
  drivers-so busy =
      let c = drivers-count M 0 0 in
      let b = busy-drivers M.modes busy in
      let t = W.few-tasks in
      let m = W.few-modes in
      let l : length (drivers_of M) ≤ 288 = omega (arith, c, b, t, m) in
      list-so (count 2 288) driver (drivers_of M) (count-so 2 288 (length (drivers_of M)) l (omega (arith, l)))
      (each_append (λ d. driver.ok d ≡ true) (terminates_from 0 M.tasks) (each mode_drivers M.modes) (terminates-so 0 M.tasks (omega (arith, t))) (mode-drivers-so M.modes (every-mode M M.modes W.modes)))

  -- ---- guards

  argument-so : (o : Operand) → OperandFits M o → argument.ok (argument_of o) ≡ true
  unfolding argument argument_rest shape view_ok dep dep_ok enum
  argument-so (O.Port p) h = let n = W.few-ports in and_both (byte-so 0 (omega arith)) (be-ok 2 p (omega (arith, n, h)))
  argument-so (O.Fixed (Int number)) h = and_both (byte-so 1 (omega arith)) (and_both (type-so 0 (omega arith)) (value-so 0 (of_z w32 number) refl (Fits-of_z h).fits))
  argument-so (O.Fixed (Flag true)) h = and_both (byte-so 1 (omega arith)) (and_both (type-so 1 (omega arith)) (value-so 1 1 refl (omega arith)))
  argument-so (O.Fixed (Flag false)) h = and_both (byte-so 1 (omega arith)) (and_both (type-so 1 (omega arith)) (value-so 1 0 refl (omega arith)))

  one-so : (f : List ℕ) (a : Argument) → name.ok f ≡ true → argument.ok a ≡ true → guard.ok (record { function = f; arguments = a ∷ [] }) ≡ true
  unfolding guard shape view_ok dep dep_ok
  one-so f a n p = and_both n (list-so (count 1 2) argument (a ∷ []) (count-so 1 2 1 (omega arith) (omega arith)) (p, tt))

  two-so : (f : List ℕ) (a b : Argument) → name.ok f ≡ true → argument.ok a ≡ true → argument.ok b ≡ true → guard.ok (record { function = f; arguments = a ∷ b ∷ [] }) ≡ true
  unfolding guard shape view_ok dep dep_ok
  two-so f a b n p q = and_both n (list-so (count 1 2) argument (a ∷ b ∷ []) (count-so 1 2 2 (omega arith) (omega arith)) (p, (q, tt)))

  guard-by : (f : Function) (a b : Operand) → OperandFits M a → SecondFits M f b → guard.ok (guard_row (record { function = f; first = a; second = b })) ≡ true
  guard-by IsTrue a b p q = one-so (bytes "isTrue") (argument_of a) (function-name IsTrue) (argument-so a p)
  guard-by IsFalse a b p q = one-so (bytes "isFalse") (argument_of a) (function-name IsFalse) (argument-so a p)
  guard-by Less a b p q = two-so (bytes "less") (argument_of a) (argument_of b) (function-name Less) (argument-so a p) (argument-so b q)
  guard-by Equal a b p q = two-so (bytes "equal") (argument_of a) (argument_of b) (function-name Equal) (argument-so a p) (argument-so b q)

  guards_so : guards.ok (map guard_row M.guards) ≡ true
  unfolding guards
  guards_so =
      let n = length-map M.guards guard_row in
      let l = W.few-guards in
      list-so (count 2 256) guard (map guard_row M.guards) (count-so 2 256 (length (map guard_row M.guards)) (omega (arith, n, l)) (omega (arith, n, l)))
      (each-mapped (λ g. guard.ok g ≡ true) guard_row M.guards (each_map (GuardFits M) (λ g. guard.ok (guard_row g) ≡ true) (λ g h. guard-by g.function g.first g.second h.first h.second) M.guards W.guards))

  -- ---- modes and code

  module _ (few-code : length (code_of M) ≤ 4096) where
    mode-so : (n : List ℕ) (start : Bool) (time begin : ℕ) → NameFits n → 0 < time → time ≤ period_room → begin < 4096 → mode.ok (record { name = n; start = cond start 1 0; period = time; begin = begin }) ≡ true
    unfolding mode check shape view_ok dep dep_ok
    mode-so n start time begin h lo hi b =
        and_both (name-so n h) (and_both (start-so start) (and_both (and_both (within-so 1 period_room time (omega (arith, lo)) hi) (be-ok 4 time (omega (arith, hi)))) (be-ok 4 begin (omega (arith, b)))))
      where
        start-so : (b : Bool) → (leb (cond b 1 0) 1 && byte.ok (cond b 1 0)) ≡ true
        start-so true = and_both refl (byte-so 1 (omega arith))
        start-so false = and_both refl (byte-so 0 (omega arith))

    rows-so : (ms : List Mode) (begins : List ℕ) → Each ModeNames ms → Each (ModeFits M) ms → Each (λ b. b < length (code_of M)) begins → Each (λ m. mode.ok m ≡ true) (mode_rows ms begins)
    rows-so [] begins n f b = tt
    rows-so (m ∷ ms) [] n f b = tt
    rows-so (m ∷ ms) (begin ∷ begins) n f b = let l = b.0 in (mode-so m.name m.start m.period begin n.0 f.0.lasting.lasts f.0.period (omega (arith, l, few-code)), rows-so ms begins n.1 f.1 b.1)

    modes-so : Each ModeNames M.modes → modes.ok (mode_rows M.modes (begins_of M)) ≡ true
    unfolding modes
    modes-so n =
        let e = mode-rows-length M.modes (begins_of M) (begins-as-many M) in
        let l = W.few-modes in
        list-so (count 2 8) mode (mode_rows M.modes (begins_of M)) (count-so 2 8 (length (mode_rows M.modes (begins_of M))) (omega (arith, e, l)) (omega (arith, e, l))) (rows-so M.modes (begins_of M) n (every-mode M M.modes W.modes) (begins-in M W))

    unused-so : (word unused).ok no_argument ≡ true
    unfolding word check view_ok
    unused-so = and_both refl (be-ok 4 no_argument (omega arith))

    free-so : (n : ℕ) → n < 65536 → (word free).ok n ≡ true
    unfolding word check view_ok
    free-so n l = and_both refl (be-ok 4 n (omega (arith, l)))

    marker-so : (n : ℕ) → n ≤ 2 → (word marker).ok n ≡ true
    unfolding word check view_ok
    marker-so n l = and_both (le-leb n 2 l) (be-ok 4 n (omega (arith, l)))

    delay-so : (n : ℕ) → 0 < n → n ≤ period_room → (word delay).ok n ≡ true
    unfolding word check view_ok
    delay-so n lo hi = and_both (within-so 1 period_room n (omega (arith, lo)) hi) (be-ok 4 n (omega (arith, hi)))

    triple-so : (opcode first second : ℕ) → opcode < 8 → (word (forms_of opcode).0).ok first ≡ true → (word (forms_of opcode).1).ok second ≡ true → triple.ok (opcode, (first, second)) ≡ true
    unfolding triple check view_ok dep dep_ok
    triple-so opcode first second l a b = and_both (and_both (lt-ltb opcode 8 l) (byte-so opcode (omega (arith, l)))) (and_both a b)

    shaped-so : (i : Instr) → triple.ok (triple_of i) ≡ true → instruction.ok i ≡ true
    unfolding instruction shape view_ok
    shaped-so i h = h

    module _ (few-drivers : length (drivers_of M) ≤ 288) where
      instruction-so : (i : Instr) → Good (length (code_of M)) (driver_count M) M i → instruction.ok i ≡ true
      instruction-so (nop m) h = shaped-so (nop m) (triple-so 0 m no_argument (omega arith) (marker-so m h) unused-so)
      instruction-so (future pc d) h = let p = h.0 in shaped-so (future pc d) (triple-so 1 pc d (omega arith) (free-so pc (omega (arith, p, few-code))) (delay-so d h.1 h.2))
      instruction-so (call d) h = shaped-so (call d) (triple-so 2 d no_argument (omega arith) (free-so d (omega (arith, h, few-drivers))) unused-so)
      instruction-so (release t) h = let l = W.few-tasks in shaped-so (release t) (triple-so 3 t no_argument (omega arith) (free-so t (omega (arith, h, l))) unused-so)
      instruction-so (iff g pc) h = let l = W.few-guards in let x = h.0 in let y = h.1 in shaped-so (iff g pc) (triple-so 4 g pc (omega arith) (free-so g (omega (arith, l, x))) (free-so pc (omega (arith, y, few-code))))
      instruction-so (jump pc) h = shaped-so (jump pc) (triple-so 5 pc no_argument (omega arith) (free-so pc (omega (arith, h, few-code))) unused-so)
      instruction-so return h = shaped-so return (triple-so 6 no_argument no_argument (omega arith) unused-so unused-so)
      instruction-so (switch m) h = let l = W.few-modes in shaped-so (switch m) (triple-so 7 m no_argument (omega arith) (free-so m (omega (arith, h, l))) unused-so)

      code-so : code.ok (code_of M) ≡ true
      unfolding code
      code-so = list-so (count 2 4096) instruction (code_of M) (count-so 2 4096 (length (code_of M)) few-code (omega (arith, few-code))) (each_map (Good (length (code_of M)) (driver_count M) M) (λ i. instruction.ok i ≡ true) instruction-so (code_of M) (code-good M W))

-- ---- the whole table

pub table-sound : (s : List ℕ) → syntax_of s ≡ none → verdict_of s ≡ Fine → length (code_of (module_of s)) ≤ 4096 → sound (table_of (module_of s)) ≡ true
unfolding sound table_by table table_of shape view_ok dep dep_ok
table-sound s e v few-code =
    let M = module_of s in
    let W = accepted s e v in
    let n = names-fit s e v in
    let p = parts-fit s e v in
    let told = tasks-told s e v in
    let busy = activities-room s e v in
    let few = told-few-inputs 0 (all_rows s) M.tasks told in
    let c = drivers-count M 0 0 in
    let b = busy-drivers M W few M.modes busy in
    let t = W.few-tasks in
    let m = W.few-modes in
    let l : length (drivers_of M) ≤ 288 = omega (arith, c, b, t, m) in
    and_both
    (and_both (name-so M.name n.module-name)
    (and_both (sensors-so M.sensors W.few-sensors n.sensors-named p.sensors-known)
    (and_both (actuators-so M.actuators W.few-actuators n.actuators-named p.actuators-fit)
    (and_both (tasks-so M.tasks W.few-tasks n.tasks-named p.tasks-fit few (told-few 0 (all_rows s) M.tasks told) (inputs-in-all s e v) (outputs-in-all s e v))
    (and_both (drivers-so M W few busy)
    (and_both (guards_so M W few)
    (and_both (modes-so M W few few-code n.modes-named) (code-so M W few few-code l))))))))
    (text-refers s e v)
