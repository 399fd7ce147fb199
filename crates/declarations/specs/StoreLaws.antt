-- How parts of the readers' states are filled.
use Rattle.std.specs.Prelude.{ℕ, ◌+◌, ◌≡◌, refl, List, [], ◌∷◌, map, length, set, replicate}
use Rattle.std.proofs.Common.{add-zero, arith, ap, ◌∙◌}
use Rattle.std.proofs.lemmas.List.{length-map, length-replicate, replicate-append-replicate}
use Rattle.model.specs.Modules.{Task}
use Rattle.file.specs.References.{task_roles}
use Rattle.layout.specs.Filling.{stored, fill, stored-both, stored_more}
use Rattle.fields.specs.CellLaws.{fill-cells}
use Rattle.declarations.specs.Stores.{Ported, store_input}

-- ---- names, types and beginning values

abbrev pub ported : List ℕ → List ℕ → List ℕ → Ported
ported names types starts = record { names = names; types = types; starts = starts }

pub fill-inputs : (first : ℕ) (xs l : List ℕ) → fill (store_input first) 0 xs l ≡ stored l first xs
unfolding store_input
fill-inputs first xs l = fill-cells (store_input first) first (λ k x m. refl) 0 xs l ∙ ap (λ (i : ℕ). stored l i xs) (add-zero first)

-- ---- cells that hold the same

pub map_same : {A : Type 0} (role : ℕ) (xs : List A) → map (λ x. role) xs ≡ replicate (length xs) role
map_same role [] = refl
map_same role (x ∷ xs) = ap (λ (l : List ℕ). role ∷ l) (map_same role xs)

-- the roles of a task's ports
pub task-marks : (l : List ℕ) (first : ℕ) (t : Task)
    → stored l first (task_roles t) ≡ stored (stored l first (replicate (length t.inputs) 3)) (first + length t.inputs) (replicate (length t.outputs) 4)
task-marks l first t =
    stored-both l first (map (λ i. 3) t.inputs) (map (λ o. 4) t.outputs) ∙ rw (length-map {B = ℕ} t.inputs (λ i. 3), map_same 3 t.inputs, map_same 4 t.outputs) refl

pub marked_more : (l : List ℕ) (from k role : ℕ) → set (stored l from (replicate k role)) (from + k) role ≡ stored l from (replicate (k + 1) role)
marked_more l from k role =
    let e : from + k ≡ from + length (replicate k role) = omega (arith, length-replicate k role) in
    ap (λ (i : ℕ). set (stored l from (replicate k role)) i role) e ∙ stored_more l from role (replicate k role)
    ∙ ap (λ (m : List ℕ). stored l from m) (replicate-append-replicate k 1 role)
