-- Drivers: what is written from their rows is what their codec writes.
use Prim.Native.Nat.{ℕ, suc, ◌+◌, ◌*◌, ◌≤◌, ◌<◌}
use Rattle.std.proofs.Common.{add-zero, ◌∙◌}
use native.Mathlib.Omega.{arith}
use Rattle.std.specs.Prelude.{◌≡◌, refl, true, cond, eqb}
use Rattle.std.proofs.Math.Path.{sym, ap, ap₂}
use mathlib.Core.List.{List, [], ◌++◌, append-nil}
use Rattle.std.proofs.Math.ListN.{length, get_or}
use Rattle.codec.specs.Numbers.{byte, be}
use Rattle.codec.proofs.Numbers.{be-below}
use Rattle.codec.specs.Sequences.{dep, dep_put}
use Rattle.codec.proofs.Sequences.{dep-ok}
use Rattle.codec.specs.Views.{shape, view, view_put}
use Rattle.codec.proofs.Views.{shape-ok}
use Rattle.codec.specs.Tags.{enum}
use Rattle.codec.specs.Lists.{list}
use Rattle.codec.proofs.Lists.{list-ok}
use Rattle.model.specs.Rooms.{port_room, driver_room}
use Rattle.model.specs.Instructions.{Driver, updates, releases, terminates, no_driver}
use Rattle.file.specs.Parts.{count}
use Rattle.file.specs.Code.{updating, releasing, terminating, driver_rest, driver, drivers}
use Rattle.layout.specs.Rows.{rows}
use Rattle.layout.specs.Plain.{driver_cells}
use Rattle.layout.specs.Cells.{rows-cell, many-ok-at}
use Rattle.referring.specs.Fits.{Listed, few-sources, driver-width}
use Rattle.writing.specs.Cells.{byte_of, pair_of, cell, sources_in, driver_at, drivers_in}
use Rattle.encoding.specs.Parts.{byte-is, one-is, pair_is, counted_is}
use Rattle.encoding.specs.Ports.{count-put}

-- a number of two bytes that can stand in a file
pub two_is : (n : ℕ) → (be 2).ok n ≡ true → pair_of n ≡ (be 2).put n
two_is n h = let l = be-below 2 n h in pair_is n (omega arith)

-- the rest of a driver that can stand in a file can
update-ok : (source target : ℕ) → driver.ok (updates source target) ≡ true → ((be 2).ok source ≡ true) × ((be 2).ok target ≡ true)
unfolding driver driver_rest
update-ok source target h = dep-ok _ _ _ source target (dep-ok _ _ _ updating (source, target) (shape-ok _ _ _ (updates source target) h)).1

release-ok : (task : ℕ) (sources : List ℕ) → driver.ok (releases task sources) ≡ true
    → ((be 2).ok task ≡ true) × ((k : ℕ) → k < length sources → (be 2).ok (get_or sources k 0) ≡ true)
unfolding driver driver_rest
release-ok task sources h =
    let (p, q) = dep-ok _ _ _ task sources (dep-ok _ _ _ releasing (task, sources) (shape-ok _ _ _ (releases task sources) h)).1 in
    (p, many-ok-at (be 2) sources 0 (list-ok _ _ sources q).1)

terminate-ok : (task : ℕ) → driver.ok (terminates task) ≡ true → (be 2).ok task ≡ true
unfolding driver driver_rest
terminate-ok task h = (dep-ok _ _ _ terminating task (shape-ok _ _ _ (terminates task) h)).1

-- what the codec writes
update-put : (source target : ℕ) → driver.put (updates source target) ≡ byte.put 3 ++ ((be 2).put source ++ (be 2).put target)
unfolding driver driver_rest shape enum view view_put dep dep_put
update-put source target = refl

release-put : (task : ℕ) (sources : List ℕ) → driver.put (releases task sources) ≡ byte.put 4 ++ ((be 2).put task ++ (list (count 1 port_room) (be 2)).put sources)
unfolding driver driver_rest shape enum view view_put dep dep_put
release-put task sources = refl

terminate-put : (task : ℕ) → driver.put (terminates task) ≡ byte.put 5 ++ (be 2).put task
unfolding driver driver_rest shape enum view view_put dep dep_put
terminate-put task = refl

module _ (array : List ℕ) (row : ℕ) where
  abbrev rest : ℕ → List ℕ
  rest tag =
      byte_of tag
      ++ cond (eqb tag 3) (pair_of (cell array (row + 3)) ++ pair_of (cell array (row + 1)))
      (pair_of (cell array (row + 1)) ++ cond (eqb tag 4) (sources_in array (row + 3) (cell array (row + 2))) [])

  pub driver-is : (d : Driver) → driver.ok d ≡ true → ((j : ℕ) → j < 12 → cell array (row + j) ≡ get_or (driver_cells d) j 0) → driver_at array row ≡ driver.put d
  unfolding driver_at sources_in
  driver-is (updates source target) h is =
      let (p, q) = update-ok source target h in
      ap rest (ap (cell array) (sym (add-zero row)) ∙ is 0 (omega arith))
      ∙ ap₂ (λ (a b : List ℕ). a ++ b) (byte-is 3 (omega arith))
      (ap₂ (λ (a b : List ℕ). a ++ b) (ap pair_of (is 3 (omega arith)) ∙ two_is source p) (ap pair_of (is 1 (omega arith)) ∙ two_is target q))
      ∙ sym (update-put source target)
  driver-is (releases task sources) h is =
      let (p, q) = release-ok task sources h in
      let few = few-sources task sources h in
      ap rest (ap (cell array) (sym (add-zero row)) ∙ is 0 (omega arith))
      ∙ ap₂ (λ (a b : List ℕ). a ++ b) (byte-is 4 (omega arith))
      (ap₂ (λ (a b : List ℕ). a ++ b) (ap pair_of (is 1 (omega arith)) ∙ two_is task p)
      (ap (sources_in array (row + 3)) (is 2 (omega arith)) ∙ sources-are few (λ k g. let e : row + 3 + k ≡ row + suc (suc (suc k)) = omega arith in ap (cell array) e ∙ is (suc (suc (suc k))) (omega arith)) q))
      ∙ sym (release-put task sources)
    where
      sources-are : length sources ≤ 8 → ((k : ℕ) → k < length sources → cell array (row + 3 + k) ≡ get_or sources k 0) → ((k : ℕ) → k < length sources → (be 2).ok (get_or sources k 0) ≡ true)
          → sources_in array (row + 3) (length sources) ≡ (list (count 1 port_room) (be 2)).put sources
      sources-are few shown good =
          counted_is byte_of port_room (λ k. pair_of (cell array (row + 3 + k))) 0 sources few (count 1 port_room) (be 2)
          (one-is (length sources) (omega arith) ∙ sym (count-put 1 port_room (length sources))) (λ k g. ap pair_of (shown k g) ∙ two_is (get_or sources k 0) (good k g))
  driver-is (terminates task) h is =
      ap rest (ap (cell array) (sym (add-zero row)) ∙ is 0 (omega arith))
      ∙ ap₂ (λ (a b : List ℕ). a ++ b) (byte-is 5 (omega arith)) (append-nil (pair_of (cell array (row + 1))) ∙ ap pair_of (is 1 (omega arith)) ∙ two_is task (terminate-ok task h))
      ∙ sym (terminate-put task)

pub drivers-is : (size : ℕ) (list : List Driver) → Listed driver driver_room list → drivers_in (rows 12 size driver_cells list) (length list) ≡ drivers.put list
unfolding drivers_in drivers
drivers-is size list fine =
    let few = fine.few in
    counted_is pair_of driver_room _ no_driver list few (count 2 driver_room) driver (pair_is (length list) (omega arith) ∙ sym (count-put 2 driver_room (length list)))
    (λ k h.
    driver-is (rows 12 size driver_cells list) (k * 12) (get_or list k no_driver) (fine.fine no_driver k h)
    (rows-cell 12 size driver_cells no_driver list (λ i g. driver-width (get_or list i no_driver) (fine.fine no_driver i g)) k h))
