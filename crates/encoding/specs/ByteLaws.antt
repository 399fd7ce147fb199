-- Whatever the arrays of a table hold, what is written from them is bytes.
use Rattle.std.specs.Prelude.{ℕ, zero, suc, ◌+◌, ◌-◌, ◌*◌, ◌/◌, ◌%◌, ◌<◌, ◌≡◌, refl, Bool, true, false, cond, List, [], ◌∷◌, eqb, ltb, get_or, take}
use Rattle.std.proofs.Common.{arith, subst, ltb-true}
use Rattle.codec.specs.Codecs.{Bytes}
use Rattle.codec.proofs.Codecs.{no_bytes, bytes-both, and_left, and_right}
use Rattle.tables.specs.declared.Table.{Table as Plain}
use Rattle.file.specs.Parts.{all_in}
use Rattle.writing.specs.Puts.{parts}
use Rattle.writing.specs.Cells.{byte_of, pair_of, quad_of, cell, name_in, sensor_in, sensors_in, actuator_in, actuators_in, inputs_in, output_in, outputs_in, TaskArrays, task_in, tasks_in, sources_in, driver_at, drivers_in, function_in, function-other, argument_in, guard_at, guards_in, mode_in, modes_in, instruction_at, code_in}
use Rattle.filing.specs.Whole.{task_arrays, ports_of, rest_of, body_of, framed, file_of}

-- ---- numbers, parts, one of two

byte-whole : (n : ℕ) → Bytes (byte_of n)
unfolding byte_of
byte-whole n = record { below = go }
  where
    go : (i : ℕ) → get_or (n % 256 ∷ []) i 0 < 256
    go zero = omega arith
    go (suc i) = omega arith

pair-whole : (n : ℕ) → Bytes (pair_of n)
unfolding pair_of
pair-whole n = bytes-both (byte-whole (n / 256)) (byte-whole n)

quad-whole : (n : ℕ) → Bytes (quad_of n)
unfolding quad_of
quad-whole n = bytes-both (pair-whole (n / 65536)) (pair-whole n)

parts_whole : (part : ℕ → List ℕ) → ((k : ℕ) → Bytes (part k)) → (n : ℕ) → Bytes (parts part n)
unfolding parts
parts_whole part h zero = no_bytes
parts_whole part h (suc n) = bytes-both (parts_whole part h n) (h n)

cond-whole : (t : Bool) {a b : List ℕ} → Bytes a → Bytes b → Bytes (cond t a b)
cond-whole true p q = p
cond-whole false p q = q

take_whole : (n : ℕ) (l : List ℕ) → Bytes l → Bytes (take n l)
take_whole n l h = record { below = go n l h.below }
  where
    go : (n : ℕ) (l : List ℕ) → ((i : ℕ) → get_or l i 0 < 256) → (i : ℕ) → get_or (take n l) i 0 < 256
    go zero l h i = omega arith
    go (suc n) [] h i = omega arith
    go (suc n) (x ∷ l) h zero = h 0
    go (suc n) (x ∷ l) h (suc i) = go n l (λ j. h (suc j)) i

all_whole : (l : List ℕ) → all_in (λ b. ltb b 256) l ≡ true → (i : ℕ) → get_or l i 0 < 256
unfolding all_in
all_whole [] h i = omega arith
all_whole (x ∷ l) h zero = ltb-true x 256 (and_left _ _ h)
all_whole (x ∷ l) h (suc i) = all_whole l (and_right (ltb x 256) _ h) i

-- ---- the parts of a file

name-whole : (names : List ℕ) (row : ℕ) → Bytes (name_in names row)
unfolding name_in
name-whole names row = bytes-both (byte-whole _) (parts_whole _ (λ k. byte-whole _) _)

sensors-whole : (names types : List ℕ) (many : ℕ) → Bytes (sensors_in names types many)
unfolding sensors_in sensor_in
sensors-whole names types many =
    bytes-both (pair-whole many) (parts_whole _ (λ k. bytes-both (name-whole names (k * 66)) (bytes-both (byte-whole _) (name-whole names (k * 66 + 33)))) _)

actuators-whole : (names types starts : List ℕ) (from many : ℕ) → Bytes (actuators_in names types starts from many)
unfolding actuators_in actuator_in
actuators-whole names types starts from many =
    bytes-both (pair-whole many)
    (parts_whole _ (λ k. bytes-both (name-whole names (k * 66)) (bytes-both (byte-whole _) (bytes-both (quad-whole _) (name-whole names (k * 66 + 33))))) _)

task-whole : (t : TaskArrays) (k : ℕ) → Bytes (task_in t k)
unfolding task_in inputs_in outputs_in output_in
task-whole t k =
    bytes-both (name-whole t.names (k * 66)) (bytes-both (name-whole t.names (k * 66 + 33))
    (bytes-both (bytes-both (byte-whole _) (parts_whole _ (λ j. byte-whole _) _))
    (bytes-both (byte-whole _) (parts_whole _ (λ j. bytes-both (name-whole t.output_names _) (bytes-both (byte-whole _) (quad-whole _))) _))))

tasks-whole : (t : TaskArrays) (many : ℕ) → Bytes (tasks_in t many)
unfolding tasks_in
tasks-whole t many = bytes-both (pair-whole many) (parts_whole (task_in t) (task-whole t) _)

driver-whole : (rows : List ℕ) (row : ℕ) → Bytes (driver_at rows row)
unfolding driver_at sources_in
driver-whole rows row =
    bytes-both (byte-whole _)
    (cond-whole (eqb (cell rows row) 3) (bytes-both (pair-whole _) (pair-whole _))
    (bytes-both (pair-whole _) (cond-whole (eqb (cell rows row) 4) (bytes-both (byte-whole _) (parts_whole _ (λ k. pair-whole _) _)) no_bytes)))

drivers-whole : (rows : List ℕ) (many : ℕ) → Bytes (drivers_in rows many)
unfolding drivers_in
drivers-whole rows many = bytes-both (pair-whole many) (parts_whole _ (λ k. driver-whole rows (k * 12)) _)

-- each of the four names is bytes
known-whole : (number : ℕ) → all_in (λ b. ltb b 256) (function_in number) ≡ true → Bytes (function_in number)
known-whole number h = record { below = all_whole (function_in number) h }

function-whole : (number : ℕ) → Bytes (function_in number)
unfolding function_in all_in
function-whole zero = known-whole 0 refl
function-whole (suc zero) = known-whole 1 refl
function-whole (suc (suc zero)) = known-whole 2 refl
function-whole (suc (suc (suc n))) = subst Bytes (function-other (suc (suc (suc n))) (omega arith)) (known-whole 3 refl)

argument-whole : (place word : ℕ) → Bytes (argument_in place word)
unfolding argument_in
argument-whole place word =
    cond-whole (eqb place 0) (bytes-both (byte-whole 0) (pair-whole word)) (bytes-both (byte-whole 1) (bytes-both (byte-whole _) (quad-whole word)))

guards_whole : (rows : List ℕ) (many : ℕ) → Bytes (guards_in rows many)
unfolding guards_in guard_at
guards_whole rows many =
    bytes-both (pair-whole many)
    (parts_whole _ (λ k. bytes-both (function-whole _) (bytes-both (byte-whole _) (parts_whole _ (λ j. argument-whole _ _) _))) _)

modes-whole : (names rows : List ℕ) (many : ℕ) → Bytes (modes_in names rows many)
unfolding modes_in mode_in
modes-whole names rows many =
    bytes-both (pair-whole many) (parts_whole _ (λ k. bytes-both (name-whole names (k * 33)) (bytes-both (byte-whole _) (bytes-both (quad-whole _) (quad-whole _)))) _)

code-whole : (rows : List ℕ) (many : ℕ) → Bytes (code_in rows many)
unfolding code_in instruction_at
code-whole rows many = bytes-both (pair-whole many) (parts_whole _ (λ k. bytes-both (byte-whole _) (bytes-both (quad-whole _) (quad-whole _))) _)

body-whole : (t : Plain) → Bytes (body_of t)
unfolding body_of ports_of rest_of
body-whole t =
    bytes-both
    (bytes-both (bytes-both (byte-whole 1) (name-whole t.name 0)) (bytes-both (sensors-whole _ _ t.sensors) (actuators-whole _ _ _ _ t.actuators)))
    (bytes-both (tasks-whole (task_arrays t) t.tasks)
    (bytes-both (drivers-whole _ t.drivers) (bytes-both (guards_whole _ t.guards) (bytes-both (modes-whole _ _ t.modes) (code-whole _ t.instructions)))))

pub file-whole : (room : ℕ) (t : Plain) → Bytes (file_of room t)
unfolding file_of framed
file-whole room t = bytes-both (quad-whole _) (take_whole (room - 4) (body_of t) (body-whole t))
