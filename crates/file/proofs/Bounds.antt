-- The bounds of every part of a file: the bytes that it takes at most, and the numbers that reading it refuses with.
-- So a file has at most 71,364 bytes, and the reader refuses with 20 to 24 and with no other number.
use Rattle.std.specs.Prelude.{◌≡◌, refl, Bool, true, false, cond, List, [], ◌∷◌, ℕ, ◌≤◌, eqb, leb, length}
use Rattle.std.proofs.Common.{subst, arith, lit≤, length-append, leb-true}
use Rattle.codec.specs.Readings.{Reading, got, no}
use Rattle.codec.specs.Codecs.{Codec, Bounded}
use Rattle.codec.specs.Numbers.{be}
use Rattle.codec.proofs.Codecs.{bounded-up, and_left}
use Rattle.codec.proofs.Numbers.{byte-bounded, be-bounded, be-length}
use Rattle.codec.proofs.Sequences.{dep-bounded}
use Rattle.codec.proofs.Views.{check-bounded, check-ok, shape-bounded}
use Rattle.codec.proofs.Tags.{enum-bounded}
use Rattle.codec.proofs.Lists.{list-bounded, running-bounded}
use Rattle.text.specs.Words.{within}
use Rattle.file.specs.Tables.{Table}
use Rattle.file.specs.Parts.{count, type, value}
use Rattle.file.specs.Names.{name}
use Rattle.file.specs.Records.{sensor, sensors, actuator, actuators, output, Used, port_count, task, tasks}
use Rattle.file.specs.Code.{DriverTag, updating, releasing, terminating, driver_rest, driver, drivers, ArgumentTag, of_port, of_value, argument_rest, argument, guard, guards, mode, modes, Form, word, triple, instruction, code}
use Rattle.file.specs.References.{good_references}
use Rattle.file.specs.Files.{table, version_of, known_version, table_by, body, encode, Answer, read, refused, judged, versioned, framed, decode, sound}
use Rattle.file.specs.Bounds.{Between, file_room}

-- a part of at most n bytes that refuses with 22 and 23
abbrev Part : {A : Type 0} → ℕ → Codec A → Type 0
Part n c = Bounded (Between 22 23) n c

missing : Between 22 23 22
missing = record { least = lit≤ tt; most = lit≤ tt }

bad : Between 22 23 23
bad = record { least = lit≤ tt; most = lit≤ tt }

within-high : (low high n : ℕ) → within low high n ≡ true → n ≤ high
within-high low high n h = go (leb low n) h
  where
    go : (t : Bool) → cond t (leb n high) false ≡ true → n ≤ high
    go true e = leb-true n high e
    go false e = absurd (let z : ◌≡◌ {A = ℕ} 0 1 = cc in omega arith)

-- ---- small parts

count-part : (size room : ℕ) → Part size (count size room)
unfolding count
count-part size room = check-bounded _ _ _ missing (be-bounded missing size)

count_most : (size room n : ℕ) → (count size room).ok n ≡ true → n ≤ room
unfolding count
count_most size room n h = leb-true _ _ (check-ok _ _ _ n h).0

type-part : Part 1 type
unfolding type
type-part = check-bounded _ _ _ bad (byte-bounded missing)

value-part : (t : ℕ) → Part 4 (value t)
unfolding value
value-part t = check-bounded _ _ _ bad (be-bounded missing 4)

name-part : Part 33 name
unfolding name
name-part =
    check-bounded _ _ _ bad
    (list-bounded _ _ 32 (check-bounded _ _ _ bad (byte-bounded missing)) (λ n h. within-high 1 32 n (check-ok _ _ _ n h).0) (byte-bounded missing))

-- ---- records

sensors-part : Part 2146 sensors
unfolding sensors sensor
sensors-part =
    list-bounded _ _ 32 (count-part 2 32) (count_most 2 32)
    (shape-bounded _ _ _ (dep-bounded _ _ _ name-part (λ n. dep-bounded _ _ _ type-part (λ t. name-part))))

actuators-part : Part 2274 actuators
unfolding actuators actuator
actuators-part =
    list-bounded _ _ 32 (count-part 2 32) (count_most 2 32)
    (shape-bounded _ _ _ (dep-bounded _ _ _ name-part (λ n. dep-bounded _ _ _ type-part (λ t. dep-bounded _ _ _ (value-part t) (λ v. name-part)))))

output-part : Part 38 output
unfolding output
output-part = shape-bounded _ _ _ (dep-bounded _ _ _ name-part (λ n. dep-bounded _ _ _ type-part value-part))

port_count-part : (used : ℕ) → Part 1 (port_count used)
unfolding port_count
port_count-part used = check-bounded _ _ _ missing (be-bounded missing 1)

port_count-most : (used n : ℕ) → (port_count used).ok n ≡ true → n ≤ 8
unfolding port_count
port_count-most used n h = leb-true _ _ (and_left _ _ (check-ok _ _ _ n h).0)

task-part : (used : Used) → Part 380 (task used)
unfolding task
task-part used =
    shape-bounded _ _ _
    (dep-bounded _ _ _ name-part
    (λ n. dep-bounded _ _ _ name-part
    (λ f. dep-bounded _ _ _ (list-bounded _ _ 8 (port_count-part used.inputs) (port_count-most used.inputs) type-part)
    (λ i. list-bounded _ _ 8 (port_count-part used.outputs) (port_count-most used.outputs) output-part))))

tasks-part : Part 12162 tasks
unfolding tasks
tasks-part = running-bounded _ _ _ _ 32 (count-part 2 32) (count_most 2 32) task-part

-- ---- drivers, guards, modes, code

driver_rest-part : (tag : DriverTag) → Part 19 (driver_rest tag)
unfolding driver_rest
driver_rest-part updating = bounded-up (lit≤ tt) (dep-bounded _ _ _ (be-bounded missing 2) (λ p. be-bounded missing 2))
driver_rest-part releasing = dep-bounded _ _ _ (be-bounded missing 2) (λ t. list-bounded _ _ 8 (count-part 1 8) (count_most 1 8) (be-bounded missing 2))
driver_rest-part terminating = bounded-up (lit≤ tt) (be-bounded missing 2)

drivers-part : Part 5762 drivers
unfolding drivers driver
drivers-part =
    list-bounded _ _ 288 (count-part 2 288) (count_most 2 288)
    (shape-bounded _ _ _ (dep-bounded _ _ _ (enum-bounded _ _ _ _ bad (byte-bounded missing)) driver_rest-part))

argument_rest-part : (tag : ArgumentTag) → Part 5 (argument_rest tag)
unfolding argument_rest
argument_rest-part of_port = bounded-up (lit≤ tt) (be-bounded missing 2)
argument_rest-part of_value = dep-bounded _ _ _ type-part value-part

argument-part : Part 6 argument
unfolding argument
argument-part = shape-bounded _ _ _ (dep-bounded _ _ _ (enum-bounded _ _ _ _ bad (byte-bounded missing)) argument_rest-part)

guards-part : Part 11778 guards
unfolding guards guard
guards-part =
    list-bounded _ _ 256 (count-part 2 256) (count_most 2 256)
    (shape-bounded _ _ _ (dep-bounded _ _ _ name-part (λ f. list-bounded _ _ 2 (count-part 1 2) (count_most 1 2) argument-part)))

modes-part : Part 338 modes
unfolding modes mode
modes-part =
    list-bounded _ _ 8 (count-part 2 8) (count_most 2 8)
    (shape-bounded _ _ _
    (dep-bounded _ _ _ name-part
    (λ n. dep-bounded _ _ _ (check-bounded _ _ _ bad (byte-bounded missing))
    (λ s. dep-bounded _ _ _ (check-bounded _ _ _ bad (be-bounded missing 4)) (λ p. be-bounded missing 4)))))

word-part : (form : Form) → Part 4 (word form)
unfolding word
word-part form = check-bounded _ _ _ bad (be-bounded missing 4)

code-part : Part 36866 code
unfolding code instruction triple
code-part =
    list-bounded _ _ 4096 (count-part 2 4096) (count_most 2 4096)
    (shape-bounded _ _ _
    (dep-bounded _ _ _ (check-bounded _ _ _ bad (byte-bounded missing)) (λ o. dep-bounded _ _ _ (word-part _) (λ f. word-part _))))

table-part : (version : ℕ) → Part 71359 (table_by version)
unfolding table_by table
table-part version =
    shape-bounded _ _ _
    (dep-bounded _ _ _ name-part
    (λ x. dep-bounded _ _ _ sensors-part
    (λ x. dep-bounded _ _ _ actuators-part
    (λ x. dep-bounded _ _ _ tasks-part
    (λ x. dep-bounded _ _ _ drivers-part
    (λ x. dep-bounded _ _ _ guards-part
    (λ x. dep-bounded _ _ _ modes-part (λ x. code-part))))))))

-- ---- the length of a file

pub body-room : (t : Table) → (table_by (version_of t)).ok t ≡ true → length (body t) ≤ 71360
unfolding body
body-room t h = let p = (table-part (version_of t)).room t h in omega arith

pub file-room : (t : Table) → sound t ≡ true → length (encode t) ≤ file_room
unfolding encode sound
file-room t h =
    let p = body-room t (and_left _ _ h) in
    let q = be-length 4 (length (body t)) in
    simp length-append (omega arith)

-- ---- the refusals of a file

refused-is : (n : ℕ) {e : ℕ} → Between 20 24 n → refused n ≡ refused e → Between 20 24 e
refused-is n {e} b p = let q : n ≡ e = cc in subst (Between 20 24) q b

cond-refuses : (b : Bool) (a : Answer) (n : ℕ) {e : ℕ} → Between 20 24 n → (a ≡ refused e → Between 20 24 e) → cond b a (refused n) ≡ refused e → Between 20 24 e
cond-refuses true a n b f p = f p
cond-refuses false a n b f p = refused-is n b p

judged-refuses : (m : Reading Table) {e : ℕ} → ((n : ℕ) → m ≡ no n → Between 22 23 n) → judged m ≡ refused e → Between 20 24 e
judged-refuses (no n) f p = let b = f n refl in refused-is n (omega arith) p
judged-refuses (got t []) f p = cond-refuses (good_references t) (read t) 24 (omega arith) (λ q. absurd (let z : ◌≡◌ {A = ℕ} 0 1 = cc in omega arith)) p
judged-refuses (got t (b ∷ rest)) f p = refused-is 22 (omega arith) p

versioned-refuses : (bs : List ℕ) {e : ℕ} → versioned bs ≡ refused e → Between 20 24 e
versioned-refuses [] p = refused-is 20 (omega arith) p
versioned-refuses (version ∷ rest) p =
    cond-refuses (known_version version) _ 21 (omega arith) (judged-refuses ((table_by version).get rest) ((table-part version).number rest)) p

framed-refuses : (m : Reading ℕ) {e : ℕ} → framed m ≡ refused e → Between 20 24 e
framed-refuses (no n) p = refused-is 20 (omega arith) p
framed-refuses (got n rest) p = cond-refuses (eqb n (length rest)) _ 20 (omega arith) (versioned-refuses rest) p

pub decode-refuses : (bs : List ℕ) (e : ℕ) → decode bs ≡ refused e → Between 20 24 e
unfolding decode
decode-refuses bs e p = framed-refuses ((be 4).get bs) p
