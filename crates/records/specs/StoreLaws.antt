-- How rows are filled, and what an instruction that was read is told by.
use Rattle.std.specs.Prelude.{ℕ, ◌+◌, ◌*◌, ◌≡◌, refl, List, [], ◌∷◌, ◌++◌, ltb, length}
use Rattle.std.proofs.Common.{add-zero, arith, sym, ap, ◌∙◌, subst, ltb-true}
use Rattle.codec.specs.Readings.{got}
use Rattle.codec.proofs.Readings.{and_then-got, got_same}
use Rattle.codec.specs.Numbers.{byte, be}
use Rattle.codec.specs.Sequences.{dep, dep_get}
use Rattle.codec.specs.Views.{check}
use Rattle.model.specs.Modules.{each}
use Rattle.file.specs.Tables.{Argument, port, fixed}
use Rattle.file.specs.Code.{fits_form, forms_of, word, triple, triple_of, instr_by}
use Rattle.file.proofs.CodeLaws.{triple-named}
use Rattle.layout.specs.Plain.{argument_cells}
use Rattle.layout.specs.Filling.{stored, fill, stored-none, stored-both}
use Rattle.fields.specs.NameLaws.{check-passed}
use Rattle.fields.specs.CellLaws.{fill-cells}
use Rattle.records.specs.Stores.{store_source, store_argument}

-- ---- a row filled cell by cell

pub fill-sources : (place : ℕ) (xs l : List ℕ) → fill (store_source place) 0 xs l ≡ stored l place xs
unfolding store_source
fill-sources place xs l = fill-cells (store_source place) place (λ k x m. refl) 0 xs l ∙ ap (λ (i : ℕ). stored l i xs) (add-zero place)

argument-width : (a : Argument) → length (argument_cells a) ≡ 2
argument-width (port p) = refl
argument-width (fixed t w) = refl

fill-arguments-from : (place k : ℕ) (xs : List Argument) (l : List ℕ) → fill (store_argument place) k xs l ≡ stored l (place + 2 * k) (each argument_cells xs)
unfolding fill store_argument
fill-arguments-from place k [] l = sym (stored-none l (place + 2 * k))
fill-arguments-from place k (x ∷ xs) l =
    let e : place + 2 * (k + 1) ≡ place + 2 * k + length (argument_cells x) = omega (arith, argument-width x) in
    fill-arguments-from place (k + 1) xs (stored l (place + 2 * k) (argument_cells x))
    ∙ ap (λ (i : ℕ). stored (stored l (place + 2 * k) (argument_cells x)) i (each argument_cells xs)) e
    ∙ sym (stored-both l (place + 2 * k) (argument_cells x) (each argument_cells xs))

pub fill-arguments : (place : ℕ) (xs : List Argument) (l : List ℕ) → fill (store_argument place) 0 xs l ≡ stored l place (each argument_cells xs)
fill-arguments place xs l = let e : place + 2 * 0 ≡ place = omega arith in fill-arguments-from place 0 xs l ∙ ap (λ (i : ℕ). stored l i (each argument_cells xs)) e

-- a row that begins with some cells, and goes on with sources, or with arguments
pub row-sources : (l m : List ℕ) (place : ℕ) (front xs : List ℕ) → m ≡ stored l place front → stored l place (front ++ xs) ≡ fill (store_source (place + length front)) 0 xs m
row-sources l m place front xs e = stored-both l place front xs ∙ ap (λ (z : List ℕ). stored z (place + length front) xs) (sym e) ∙ sym (fill-sources (place + length front) xs m)

pub row-arguments : (l m : List ℕ) (place : ℕ) (front : List ℕ) (xs : List Argument) → m ≡ stored l place front
    → stored l place (front ++ each argument_cells xs) ≡ fill (store_argument (place + length front)) 0 xs m
row-arguments l m place front xs e =
    stored-both l place front (each argument_cells xs) ∙ ap (λ (z : List ℕ). stored z (place + length front) (each argument_cells xs)) (sym e)
    ∙ sym (fill-arguments (place + length front) xs m)

-- ---- an instruction that was read is told by its three numbers

triple-shown : (o a b : ℕ) (y : ℕ × ℕ) (x : ℕ × (ℕ × ℕ)) → triple_of (instr_by o a b) ≡ (o, (a, b)) → ◌≡◌ {A = ℕ × ℕ} (a, b) y → ◌≡◌ {A = ℕ × (ℕ × ℕ)} (o, y) x
    → triple_of (instr_by x.0 x.1.0 x.1.1) ≡ x
triple-shown o a b y x n e f = subst (λ (z : ℕ × (ℕ × ℕ)). triple_of (instr_by z.0 z.1.0 z.1.1) ≡ z) f (subst (λ (z : ℕ × ℕ). triple_of (instr_by o z.0 z.1) ≡ (o, z)) e n)

pub triple-read : (bs : List ℕ) (x : ℕ × (ℕ × ℕ)) (rest : List ℕ) → triple.get bs ≡ got x rest → triple_of (instr_by x.0 x.1.0 x.1.1) ≡ x
unfolding triple word dep dep_get
triple-read bs x rest e =
    let (o, r, p, q) = and_then-got ((check byte 23 (λ opcode. ltb opcode 8)).get bs) _ e in
    let (y, t, u, v) = and_then-got ((dep (check (be 4) 23 (fits_form (forms_of o).0)) (λ first. ℕ) (λ first. check (be 4) 23 (fits_form (forms_of o).1))).get r) _ q in
    let (a, z, f, g) = and_then-got ((check (be 4) 23 (fits_form (forms_of o).0)).get r) _ u in
    let (b, w, h, i) = and_then-got ((check (be 4) 23 (fits_form (forms_of o).1)).get z) _ g in
    triple-shown o a b y x (triple-named o a b (ltb-true o 8 (check-passed byte 23 _ bs p)) (check-passed (be 4) 23 _ r f) (check-passed (be 4) 23 _ z h)) (got_same i).0 (got_same v).0
