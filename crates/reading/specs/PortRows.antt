-- The arrays of the module's name, sensors and actuators, filled from zeros.
use Rattle.std.specs.Prelude.{ℕ, ◌+◌, ◌≤◌, ◌<◌, ◌≡◌, true}
use Rattle.std.proofs.Common.{arith, sym, ap₂, ◌∙◌, length-append}
use Rattle.std.proofs.Math.Path.{ap}
use mathlib.Core.List.{List, [], ◌∷◌, ◌++◌, map, append-nil}
use Rattle.std.proofs.Math.ListN.{length, set}
use Rattle.std.proofs.lemmas.List.{length-map}
use Rattle.codec.proofs.Sequences.{dep-ok}
use Rattle.codec.proofs.Views.{shape-ok}
use Rattle.model.specs.Modules.{Sensor, Actuator, each}
use Rattle.file.specs.Names.{name}
use Rattle.file.specs.Records.{sensor, sensors, actuator, actuators}
use Rattle.layout.specs.Rows.{zeros, padded, name_cells, names}
use Rattle.layout.specs.Plain.{sensor_names, actuator_names}
use Rattle.layout.specs.Filling.{fill, padded-none, Rowed, rowed-none, filled}
use Rattle.declarations.specs.Stores.{Ported, store_sensor, store_actuator}
use Rattle.reading.specs.Rowing.{few, fine, name-short, both-more, map_more, padded-cell-more}

-- a cell behind a list and what was made of some records
pub padded-map-more : {A : Type 0} (f : A → ℕ) (room at : ℕ) (front : List ℕ) (done : List A) (x : A) → at ≡ length front + length done → at < room
    → set (padded room (front ++ map f done)) at (f x) ≡ padded room (front ++ map f (done ++ (x ∷ [])))
padded-map-more f room at front done x e h =
    let n = length-map {B = ℕ} done f in
    let m = length-append front (map f done) in
    padded-cell-more room at (front ++ map f done) (f x) (omega arith) (omega arith) ∙ ap (padded room) (map_more f front done x)

-- ---- sensors

sensor-names : (x : Sensor) → sensor.ok x ≡ true → (length x.name ≤ 32) × (length x.getter ≤ 32)
unfolding sensor
sensor-names x h =
    let (n, r) = dep-ok _ _ _ x.name (x.type, x.getter) (shape-ok _ _ _ x h) in
    (name-short x.name n, name-short x.getter (dep-ok _ _ _ x.type x.getter r).1)

record SensorsIn (done : List Sensor) (l : List ℕ × List ℕ) : Type 0 where
  names : Rowed 33 2112 name_cells (each sensor_names done) l.0
  types : l.1 ≡ padded 320 (map (λ x. x.type) done)

sensors-more : (done : List Sensor) (x : Sensor) (l : List ℕ × List ℕ) → SensorsIn done l → sensor.ok x ≡ true → length done < 32
    → SensorsIn (done ++ (x ∷ [])) (store_sensor (length done) x l)
unfolding store_sensor
sensors-more done x l i h g =
    let (a, b) = sensor-names x h in
    record {
      names = both-more (λ (s : Sensor). s.name) (λ s. s.getter) 2112 done x l.0 a b (omega arith) i.names;
      types = ap (λ (z : List ℕ). set z (length done) x.type) i.types ∙ padded-map-more (λ (s : Sensor). s.type) 320 (length done) [] done x (omega arith) (omega arith);
    }

pub sensors-filled : (xs : List Sensor) → sensors.ok xs ≡ true
    → fill store_sensor 0 xs (zeros 2112, zeros 320) ≡ (names 64 (each sensor_names xs), padded 320 (map (λ x. x.type) xs))
unfolding sensors
sensors-filled xs h =
    let r =
    (filled {U = Unit {0}} (λ u. sensor) (λ u a. u) store_sensor (λ u done l. SensorsIn done l) 32 (λ u. sensors-more) tt [] xs (zeros 2112, zeros 320)
    (record { names = rowed-none 33 2112 name_cells; types = padded-none 320 }) (fine sensor 2 32 xs h) (let g = few sensor 2 32 xs h in omega arith)).holds in
    ap₂ (λ (a b : List ℕ). (a, b)) r.names.is r.types

-- ---- actuators, behind some ports

actuator-names : (x : Actuator) → actuator.ok x ≡ true → (length x.name ≤ 32) × (length x.setter ≤ 32)
unfolding actuator
actuator-names x h =
    let (n, r) = dep-ok _ _ _ x.name (x.type, (x.start, x.setter)) (shape-ok _ _ _ x h) in
    let (t, v) = dep-ok _ _ _ x.type (x.start, x.setter) r in
    (name-short x.name n, name-short x.setter (dep-ok _ _ _ x.start x.setter v).1)

record ActuatorsIn (front begins : List ℕ) (done : List Actuator) (l : Ported) : Type 0 where
  names : Rowed 33 2112 name_cells (each actuator_names done) l.names
  types : l.types ≡ padded 320 (front ++ map (λ x. x.type) done)
  starts : l.starts ≡ padded 320 (begins ++ map (λ x. x.start) done)

module _ (from : ℕ) (front begins : List ℕ) (typed : length front ≡ from) (begun : length begins ≡ from) (near : from ≤ 32) where
  actuators-more : (done : List Actuator) (x : Actuator) (l : Ported) → ActuatorsIn front begins done l → actuator.ok x ≡ true → length done < 32
      → ActuatorsIn front begins (done ++ (x ∷ [])) (store_actuator from (length done) x l)
  unfolding store_actuator
  actuators-more done x l i h g =
      let (a, b) = actuator-names x h in
      record {
        names = both-more (λ (s : Actuator). s.name) (λ s. s.setter) 2112 done x l.names a b (omega arith) i.names;
        types =
            ap (λ (z : List ℕ). set z (from + length done) x.type) i.types
            ∙ padded-map-more (λ (s : Actuator). s.type) 320 (from + length done) front done x (omega arith) (omega arith);
        starts =
            ap (λ (z : List ℕ). set z (from + length done) x.start) i.starts
            ∙ padded-map-more (λ (s : Actuator). s.start) 320 (from + length done) begins done x (omega arith) (omega arith);
      }

  pub actuators-filled : (xs : List Actuator) → actuators.ok xs ≡ true
      → fill (store_actuator from) 0 xs (record { names = zeros 2112; types = padded 320 front; starts = padded 320 begins })
      ≡ record { names = names 64 (each actuator_names xs); types = padded 320 (front ++ map (λ x. x.type) xs); starts = padded 320 (begins ++ map (λ x. x.start) xs) }
  unfolding actuators
  actuators-filled xs h =
      let r =
      (filled {U = Unit {0}} (λ u. actuator) (λ u a. u) (store_actuator from) (λ u done l. ActuatorsIn front begins done l) 32 (λ u. actuators-more) tt [] xs
      (record { names = zeros 2112; types = padded 320 front; starts = padded 320 begins })
      (record { names = rowed-none 33 2112 name_cells; types = ap (padded 320) (sym (append-nil front)); starts = ap (padded 320) (sym (append-nil begins)) })
      (fine actuator 2 32 xs h) (let g = few actuator 2 32 xs h in omega arith)).holds in
      (λ i. record { names = r.names.is i; types = r.types i; starts = r.starts i })
