-- Sensors and actuators, and where the ports of every kind stand among the ports.
use Rattle.std.specs.Prelude.{ℕ, zero, suc, ◌+◌, ◌^◌, ◌<◌, ◌≡◌, refl, true}
use Rattle.std.proofs.Common.{arith, ap, ◌∙◌, get_or-append-add, ltb-true}
use Rattle.std.proofs.Math.Path.{sym, ap₂}
use mathlib.Core.List.{List, [], ◌∷◌, ◌++◌, map}
use Rattle.std.proofs.Math.ListN.{length, get_or, length-map, get_or-append}
use Rattle.codec.specs.Numbers.{byte, be}
use Rattle.codec.proofs.Numbers.{be-below}
use Rattle.codec.specs.Sequences.{dep, dep_put}
use Rattle.codec.proofs.Sequences.{dep-ok}
use Rattle.codec.specs.Views.{check, shape, view, view_put}
use Rattle.codec.proofs.Views.{check-ok, shape-ok}
use Rattle.model.specs.Rooms.{sensor_room, actuator_room}
use Rattle.model.specs.Modules.{Sensor, Actuator, Task, each, port_types, port_starts, task_types, task_starts}
use Rattle.file.specs.Parts.{count, type, value}
use Rattle.file.specs.Names.{name}
use Rattle.file.specs.Records.{sensor, sensors, actuator, actuators}
use Rattle.layout.specs.Rows.{padded, names}
use Rattle.layout.specs.Plain.{sensor_names, actuator_names}
use Rattle.layout.specs.Cells.{padded-cell}
use Rattle.referring.specs.Fits.{Listed}
use Rattle.writing.specs.Cells.{byte_of, pair_of, quad_of, cell, sensor_in, sensors_in, actuator_in, actuators_in}
use Rattle.encoding.specs.Parts.{byte-is, pair_is, quad_is, counted_is}
use Rattle.encoding.specs.NameLaws.{first-name, second-name}

-- ---- counts, types and values

pub count-put : (size room n : ℕ) → (count size room).put n ≡ (be size).put n
unfolding count check view view_put
count-put size room n = refl

pub type-below : (n : ℕ) → type.ok n ≡ true → n < 2
unfolding type
type-below n h = ltb-true n 2 (check-ok _ _ _ n h).0

type_put : (n : ℕ) → type.put n ≡ byte.put n
unfolding type check view view_put
type_put n = refl

pub type-is : (n : ℕ) → type.ok n ≡ true → byte_of n ≡ type.put n
type-is n h = let l = type-below n h in byte-is n (omega arith) ∙ sym (type_put n)

value-below : (t n : ℕ) → (value t).ok n ≡ true → n < 256 ^ 4
unfolding value
value-below t n h = be-below 4 n (check-ok _ _ _ n h).1

value-put : (t n : ℕ) → (value t).put n ≡ (be 4).put n
unfolding value check view view_put
value-put t n = refl

pub value-is : (t n : ℕ) → (value t).ok n ≡ true → quad_of n ≡ (value t).put n
value-is t n h = let l = value-below t n h in quad_is n (omega arith) ∙ sym (value-put t n)

-- ---- cells of mapped lists, and of three lists in a row

pub map_at : {A B : Type 0} (f : A → B) (xs : List A) (d : A) (e : B) (k : ℕ) → k < length xs → get_or (map f xs) k e ≡ f (get_or xs k d)
map_at f [] d e k h = absurd (omega arith)
map_at f (x ∷ xs) d e zero h = refl
map_at f (x ∷ xs) d e (suc k) h = map_at f xs d e k (omega arith)

pub at_first : (room : ℕ) (a b : List ℕ) (k : ℕ) → k < length a → cell (padded room (a ++ b)) k ≡ get_or a k 0
at_first room a b k h = padded-cell room (a ++ b) k ∙ get_or-append a b 0 k h

pub at_second : (room : ℕ) (a b c : List ℕ) (n k : ℕ) → length a ≡ n → k < length b → cell (padded room (a ++ (b ++ c))) (n + k) ≡ get_or b k 0
at_second room a b c n k e h =
    padded-cell room (a ++ (b ++ c)) (n + k) ∙ ap (λ (i : ℕ). get_or (a ++ (b ++ c)) (i + k) 0) (sym e) ∙ get_or-append-add a (b ++ c) k 0 ∙ get_or-append b c 0 k h

pub at-third : (room : ℕ) (a b c : List ℕ) (n m k : ℕ) → length a ≡ n → length b ≡ m → cell (padded room (a ++ (b ++ c))) (n + m + k) ≡ get_or c k 0
at-third room a b c n m k e f =
    let place : n + m + k ≡ length a + (length b + k) = omega arith in
    padded-cell room (a ++ (b ++ c)) (n + m + k) ∙ ap (λ (i : ℕ). get_or (a ++ (b ++ c)) i 0) place
    ∙ get_or-append-add a (b ++ c) (length b + k) 0 ∙ get_or-append-add b c k 0

-- ---- sensors

-- what stands where no sensor is
abbrev pub no_sensor : Sensor
no_sensor = record { name = []; type = 0; getter = [] }

sensor-ok : (s : Sensor) → sensor.ok s ≡ true → (name.ok s.name ≡ true) × (type.ok s.type ≡ true) × (name.ok s.getter ≡ true)
unfolding sensor
sensor-ok s h =
    let (a, r) = dep-ok _ _ _ s.name (s.type, s.getter) (shape-ok _ _ _ s h) in
    let (b, c) = dep-ok _ _ _ s.type s.getter r in
    (a, b, c)

sensor-put : (s : Sensor) → sensor.put s ≡ name.put s.name ++ (type.put s.type ++ name.put s.getter)
unfolding sensor shape view view_put dep dep_put
sensor-put s = refl

module _ (room places : ℕ) (sensing : List Sensor) (acting : List Actuator) (tasking : List Task) (fine : Listed sensor sensor_room sensing) where
  sensor-is : (k : ℕ) → k < length sensing → sensor_in (names room (each sensor_names sensing)) (padded places (port_types sensing acting tasking)) k ≡ sensor.put (get_or sensing k no_sensor)
  unfolding sensor_in port_types
  sensor-is k h =
      let s = get_or sensing k no_sensor in
      let good : (i : ℕ) → i < length sensing → (name.ok (get_or sensing i no_sensor).name ≡ true) × (name.ok (get_or sensing i no_sensor).getter ≡ true) =
      λ i g. let o = sensor-ok (get_or sensing i no_sensor) (fine.fine no_sensor i g) in (o.0, o.2) in
      let few = length-map sensing (λ (x : Sensor). x.type) in
      let typed : cell (padded places (map (λ (x : Sensor). x.type) sensing ++ (map (λ (x : Actuator). x.type) acting ++ each task_types tasking))) k ≡ s.type =
      at_first places (map (λ (x : Sensor). x.type) sensing) _ k (omega arith) ∙ map_at (λ (x : Sensor). x.type) sensing no_sensor 0 k h in
      ap₂ (λ (a b : List ℕ). a ++ b) (first-name (λ (x : Sensor). x.name) (λ (x : Sensor). x.getter) no_sensor sensing room good k h)
      (ap₂ (λ (a b : List ℕ). a ++ b) (ap byte_of typed ∙ type-is s.type (sensor-ok s (fine.fine no_sensor k h)).1)
      (second-name (λ (x : Sensor). x.name) (λ (x : Sensor). x.getter) no_sensor sensing room good k h))
      ∙ sym (sensor-put s)

  pub sensors-is : sensors_in (names room (each sensor_names sensing)) (padded places (port_types sensing acting tasking)) (length sensing) ≡ sensors.put sensing
  unfolding sensors_in sensors
  sensors-is =
      let few = fine.few in
      counted_is pair_of sensor_room _ no_sensor sensing few (count 2 sensor_room) sensor (pair_is (length sensing) (omega arith) ∙ sym (count-put 2 sensor_room (length sensing))) sensor-is

-- ---- actuators

-- what stands where no actuator is
abbrev pub no_actuator : Actuator
no_actuator = record { name = []; type = 0; start = 0; setter = [] }

actuator-ok : (a : Actuator) → actuator.ok a ≡ true
    → (name.ok a.name ≡ true) × (type.ok a.type ≡ true) × ((value a.type).ok a.start ≡ true) × (name.ok a.setter ≡ true)
unfolding actuator
actuator-ok a h =
    let (p, r) = dep-ok _ _ _ a.name (a.type, (a.start, a.setter)) (shape-ok _ _ _ a h) in
    let (q, s) = dep-ok _ _ _ a.type (a.start, a.setter) r in
    let (u, v) = dep-ok _ _ _ a.start a.setter s in
    (p, q, u, v)

actuator-put : (a : Actuator) → actuator.put a ≡ name.put a.name ++ (type.put a.type ++ ((value a.type).put a.start ++ name.put a.setter))
unfolding actuator shape view view_put dep dep_put
actuator-put a = refl

module _ (room places : ℕ) (sensing : List Sensor) (acting : List Actuator) (tasking : List Task) (fine : Listed actuator actuator_room acting) where
  actuator-is : (k : ℕ) → k < length acting
      → actuator_in (names room (each actuator_names acting)) (padded places (port_types sensing acting tasking)) (padded places (port_starts sensing acting tasking)) (length sensing) k
      ≡ actuator.put (get_or acting k no_actuator)
  unfolding actuator_in port_types port_starts
  actuator-is k h =
      let a = get_or acting k no_actuator in
      let (p, q, u, v) = actuator-ok a (fine.fine no_actuator k h) in
      let good : (i : ℕ) → i < length acting → (name.ok (get_or acting i no_actuator).name ≡ true) × (name.ok (get_or acting i no_actuator).setter ≡ true) =
      λ i g. let o = actuator-ok (get_or acting i no_actuator) (fine.fine no_actuator i g) in (o.0, o.3) in
      let few = length-map acting (λ (x : Actuator). x.type) in
      let few-starts = length-map acting (λ (x : Actuator). x.start) in
      let typed : cell (padded places (map (λ (x : Sensor). x.type) sensing ++ (map (λ (x : Actuator). x.type) acting ++ each task_types tasking))) (length sensing + k) ≡ a.type =
      at_second places (map (λ (x : Sensor). x.type) sensing) (map (λ (x : Actuator). x.type) acting) (each task_types tasking) (length sensing) k (length-map sensing (λ (x : Sensor). x.type)) (omega arith) ∙ map_at (λ (x : Actuator). x.type) acting no_actuator 0 k h in
      let started : cell (padded places (map (λ (x : Sensor). 0) sensing ++ (map (λ (x : Actuator). x.start) acting ++ each task_starts tasking))) (length sensing + k) ≡ a.start =
      at_second places (map (λ (x : Sensor). 0) sensing) (map (λ (x : Actuator). x.start) acting) (each task_starts tasking) (length sensing) k (length-map sensing (λ (x : Sensor). 0)) (omega arith) ∙ map_at (λ (x : Actuator). x.start) acting no_actuator 0 k h in
      ap₂ (λ (l m : List ℕ). l ++ m) (first-name (λ (x : Actuator). x.name) (λ (x : Actuator). x.setter) no_actuator acting room good k h)
      (ap₂ (λ (l m : List ℕ). l ++ m) (ap byte_of typed ∙ type-is a.type q)
      (ap₂ (λ (l m : List ℕ). l ++ m) (ap quad_of started ∙ value-is a.type a.start u)
      (second-name (λ (x : Actuator). x.name) (λ (x : Actuator). x.setter) no_actuator acting room good k h)))
      ∙ sym (actuator-put a)

  pub actuators-is :
      actuators_in (names room (each actuator_names acting)) (padded places (port_types sensing acting tasking)) (padded places (port_starts sensing acting tasking)) (length sensing) (length acting) ≡ actuators.put acting
  unfolding actuators_in actuators
  actuators-is =
      let few = fine.few in
      counted_is pair_of actuator_room _ no_actuator acting few (count 2 actuator_room) actuator (pair_is (length acting) (omega arith) ∙ sym (count-put 2 actuator_room (length acting))) actuator-is
