-- The arrays of drivers, guards, modes and code, filled from zeros.
use Rattle.std.specs.Prelude.{ℕ, ◌+◌, ◌*◌, ◌≤◌, ◌<◌, ◌≡◌, refl, true, List, [], ◌∷◌, ◌++◌, map, length}
use Rattle.std.proofs.Common.{arith, sym, ap₂, subst, lit≤}
use Rattle.std.proofs.lemmas.List.{map-append, length-map}
use Rattle.codec.proofs.Sequences.{dep-ok}
use Rattle.codec.proofs.Views.{shape-ok}
use Rattle.model.specs.Instructions.{Instr, Driver}
use Rattle.file.specs.Tables.{GuardRow, ModeRow}
use Rattle.file.specs.Names.{name}
use Rattle.file.specs.Code.{driver, drivers, guard, guards, mode, modes, instruction, code}
use Rattle.layout.specs.Rows.{zeros, rows, name_cells, names}
use Rattle.layout.specs.Plain.{driver_cells, guard_cells, mode_cells, instruction_cells}
use Rattle.layout.specs.Filling.{stored, fill, Rowed, rowed-none, rowed-more, filled}
use Rattle.referring.specs.Fits.{driver-width, guard-width}
use Rattle.records.specs.Stores.{store_driver, store_guard, store_mode, store_instruction}
use Rattle.reading.specs.Rowing.{few, fine, rows-filled, name-short}

pub drivers-filled : (xs : List Driver) → drivers.ok xs ≡ true → fill store_driver 0 xs (zeros 3456) ≡ rows 12 3456 driver_cells xs
unfolding drivers store_driver
drivers-filled xs h = rows-filled driver driver_cells 12 3456 288 store_driver (λ k x l. refl) driver-width (lit≤ tt) xs (fine driver 2 288 xs h) (few driver 2 288 xs h)

pub guards-filled : (xs : List GuardRow) → guards.ok xs ≡ true → fill store_guard 0 xs (zeros 1536) ≡ rows 6 1536 guard_cells xs
unfolding guards store_guard
guards-filled xs h = rows-filled guard guard_cells 6 1536 256 store_guard (λ k x l. refl) guard-width (lit≤ tt) xs (fine guard 2 256 xs h) (few guard 2 256 xs h)

pub code-filled : (xs : List Instr) → code.ok xs ≡ true → fill store_instruction 0 xs (zeros 12288) ≡ rows 3 12288 instruction_cells xs
unfolding code store_instruction
code-filled xs h =
    rows-filled instruction instruction_cells 3 12288 4096 store_instruction (λ k x l. refl) (λ x g. lit≤ tt) (lit≤ tt) xs (fine instruction 2 4096 xs h) (few instruction 2 4096 xs h)

-- ---- modes

mode-named : (m : ModeRow) → mode.ok m ≡ true → length m.name ≤ 32
unfolding mode
mode-named m h = name-short m.name (dep-ok _ _ _ m.name (m.start, (m.period, m.begin)) (shape-ok _ _ _ m h)).0

record ModesIn (done : List ModeRow) (l : List ℕ × List ℕ) : Type 0 where
  names : Rowed 33 264 name_cells (map (λ m. m.name) done) l.0
  rows : Rowed 3 24 mode_cells done l.1

modes-more : (done : List ModeRow) (m : ModeRow) (l : List ℕ × List ℕ) → ModesIn done l → mode.ok m ≡ true → length done < 8 → ModesIn (done ++ (m ∷ [])) (store_mode (length done) m l)
unfolding store_mode
modes-more done m l i h g =
    let n = length-map {B = List ℕ} done (λ x. x.name) in
    let short = mode-named m h in
    record {
      names =
          subst (λ (z : List (List ℕ)). Rowed 33 264 name_cells z (stored l.0 (length done * 33) (name_cells m.name))) (sym (map-append (λ x. x.name) done (m ∷ [])))
          (rowed-more 33 264 name_cells (length done * 33) m.name (omega arith) (omega arith) (omega arith) i.names);
      rows = rowed-more 3 24 mode_cells (length done * 3) m refl (lit≤ tt) (omega arith) i.rows;
    }

pub modes-filled : (xs : List ModeRow) → modes.ok xs ≡ true → fill store_mode 0 xs (zeros 264, zeros 24) ≡ (names 8 (map (λ m. m.name) xs), rows 3 24 mode_cells xs)
unfolding modes
modes-filled xs h =
    let r =
    (filled {U = Unit {0}} (λ u. mode) (λ u a. u) store_mode (λ u done l. ModesIn done l) 8 (λ u. modes-more) tt [] xs (zeros 264, zeros 24)
    (record { names = rowed-none 33 264 name_cells; rows = rowed-none 3 24 mode_cells }) (fine mode 2 8 xs h) (let g = few mode 2 8 xs h in omega arith)).holds in
    ap₂ (λ (a b : List ℕ). (a, b)) r.names.is r.rows.is
