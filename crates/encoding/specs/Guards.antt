-- Guards: what is written from their rows is what their codec writes, where the function is one of the four.
use Prim.Native.Nat.{ℕ, zero, suc, ◌+◌, ◌-◌, ◌*◌, ◌≤◌, ◌<◌}
use Rattle.std.proofs.Common.{add-zero, arith, ap, ◌∙◌, subst, ne_eqb, eqb-true, ltb-true}
use Rattle.std.specs.Prelude.{◌≡◌, refl, Bool, true, false, cond, ◌&&◌, ◌||◌, T, eqb, length, get_or}
use Rattle.std.proofs.Math.Path.{sym, ap₂}
use mathlib.Core.List.{List, [], ◌∷◌, ◌++◌}
use Rattle.codec.proofs.Codecs.{and_left}
use Rattle.codec.specs.Numbers.{byte, be}
use Rattle.codec.specs.Sequences.{dep, dep_put}
use Rattle.codec.proofs.Sequences.{dep-ok}
use Rattle.codec.specs.Views.{shape, view, view_put}
use Rattle.codec.proofs.Views.{shape-ok}
use Rattle.codec.specs.Tags.{enum}
use Rattle.codec.specs.Lists.{list}
use Rattle.model.specs.Bytes.{bytes, same, place_in}
use Rattle.model.specs.Rooms.{argument_room, guard_room}
use Rattle.model.specs.Values.{int, function_names}
use Rattle.text.proofs.WordsLaws.{same→eq}
use Rattle.file.specs.Tables.{Argument, port, fixed, GuardRow}
use Rattle.file.specs.Parts.{count, type, value}
use Rattle.file.specs.Names.{name}
use Rattle.file.specs.Code.{of_port, of_value, argument_rest, argument, guard, guards}
use Rattle.file.specs.References.{function_takes}
use Rattle.layout.specs.Rows.{rows, name_cells}
use Rattle.layout.specs.Plain.{argument_cells, guard_cells}
use Rattle.layout.specs.Cells.{rows-cell, each_part}
use Rattle.referring.specs.Fits.{Listed, guard-arguments, guard-width}
use Rattle.referring.specs.Guards.{no_row}
use Rattle.writing.specs.Cells.{byte_of, pair_of, cell, counted, function_in, argument_in, guard_at, guards_in}
use Rattle.encoding.specs.Parts.{byte-is, one-is, pair_is, counted_is}
use Rattle.encoding.specs.NameLaws.{name-cells}
use Rattle.encoding.specs.Ports.{count-put, type-is, value-is}
use Rattle.encoding.specs.Drivers.{two_is}

-- ---- the function's number finds its name

place-least : (words : List (List ℕ)) (n : ℕ) (w : List ℕ) → n ≤ place_in words n w
unfolding place_in
place-least [] n w = omega arith
place-least (v ∷ words) n w = go (same w v) (place-least words (n + 1) w)
  where
    go : (t : Bool) → n + 1 ≤ place_in words (n + 1) w → n ≤ cond t n (place_in words (n + 1) w)
    go true l = omega arith
    go false l = omega arith

-- a word that is found stands at its place
place_found : (words : List (List ℕ)) (n : ℕ) (w d : List ℕ) (i : ℕ) → place_in words n w ≡ n + i → i < length words → get_or words i d ≡ w
unfolding place_in
place_found [] n w d i e h = absurd (omega arith)
place_found (v ∷ words) n w d i e h = go (same w v) refl (place_found words (n + 1) w d) i e h
  where
    go : (t : Bool) → same w v ≡ t → ((j : ℕ) → place_in words (n + 1) w ≡ n + 1 + j → j < length words → get_or words j d ≡ w) → (i : ℕ) → cond t n (place_in words (n + 1) w) ≡ n + i → i < length (v ∷ words) → get_or (v ∷ words) i d ≡ w
    go true p f zero q l = sym (same→eq w v (subst T (sym p) tt))
    go true p f (suc j) q l = absurd (omega arith)
    go false p f zero q l = absurd (let m = place-least words (n + 1) w in omega arith)
    go false p f (suc j) q l = f j (omega arith) (omega arith)

pub function-is : (w : List ℕ) → place_in function_names 0 w < 4 → function_in (place_in function_names 0 w) ≡ name.put w
unfolding function_in
function-is w h = ap name_cells (place_found function_names 0 w (bytes "equal") (place_in function_names 0 w) (omega arith) (omega arith)) ∙ sym (name-cells w)

-- a guard whose references are good has one of the four functions
pub takes-known : (f : ℕ) (kinds : List ℕ) → function_takes f kinds ≡ true → f < 4
unfolding function_takes
takes-known f [] h = absurd (let z : ◌≡◌ {A = ℕ} 0 1 = cc in omega arith)
takes-known f (t ∷ []) h = let l = ltb-true f 2 (and_left _ _ h) in omega arith
takes-known f (t ∷ u ∷ []) h = go (eqb f 2) (eqb f 3) refl refl h
  where
    go : (a b : Bool) → eqb f 2 ≡ a → eqb f 3 ≡ b → ((a && (eqb t int && eqb u int)) || (b && eqb t u)) ≡ true → f < 4
    go true b p q e = let l = eqb-true f 2 p in omega arith
    go false true p q e = let l = eqb-true f 3 q in omega arith
    go false false p q e = absurd (let z : ◌≡◌ {A = ℕ} 0 1 = cc in omega arith)
takes-known f (t ∷ u ∷ v ∷ kinds) h = absurd (let z : ◌≡◌ {A = ℕ} 0 1 = cc in omega arith)

-- ---- arguments

port-put : (p : ℕ) → argument.put (port p) ≡ byte.put 0 ++ (be 2).put p
unfolding argument argument_rest shape enum view view_put dep dep_put
port-put p = refl

fixed-put : (t w : ℕ) → argument.put (fixed t w) ≡ byte.put 1 ++ (type.put t ++ (value t).put w)
unfolding argument argument_rest shape enum view view_put dep dep_put
fixed-put t w = refl

port-ok : (p : ℕ) → argument.ok (port p) ≡ true → (be 2).ok p ≡ true
unfolding argument argument_rest
port-ok p h = (dep-ok _ _ _ of_port p (shape-ok _ _ _ (port p) h)).1

fixed-ok : (t w : ℕ) → argument.ok (fixed t w) ≡ true → (type.ok t ≡ true) × ((value t).ok w ≡ true)
unfolding argument argument_rest
fixed-ok t w h = dep-ok _ _ _ t w (dep-ok _ _ _ of_value (t, w) (shape-ok _ _ _ (fixed t w) h)).1

argument_is : (a : Argument) → argument.ok a ≡ true → argument_in (get_or (argument_cells a) 0 0) (get_or (argument_cells a) 1 0) ≡ argument.put a
unfolding argument_in
argument_is (port p) h = ap₂ (λ (a b : List ℕ). a ++ b) (byte-is 0 (omega arith)) (two_is p (port-ok p h)) ∙ sym (port-put p)
argument_is (fixed t w) h =
    let (p, q) = fixed-ok t w h in
    let e : t + 1 - 1 ≡ t = omega arith in
    rw (ne_eqb (t + 1) 0 (λ same. omega arith))
    (ap₂ (λ (a b : List ℕ). a ++ b) (byte-is 1 (omega arith)) (ap₂ (λ (a b : List ℕ). a ++ b) (ap byte_of e ∙ type-is t p) (value-is t w q)) ∙ sym (fixed-put t w))

argument-wide : (a : Argument) → length (argument_cells a) ≡ 2
argument-wide (port p) = refl
argument-wide (fixed t w) = refl

-- ---- one guard

guard-put : (g : GuardRow) → guard.put g ≡ name.put g.function ++ (list (count 1 argument_room) argument).put g.arguments
unfolding guard shape view view_put dep dep_put
guard-put g = refl

module _ (array : List ℕ) (row : ℕ) (g : GuardRow) (good : guard.ok g ≡ true) (known : place_in function_names 0 g.function < 4)
    (is : (j : ℕ) → j < 6 → cell array (row + j) ≡ get_or (guard_cells g) j 0) where
  argument-cell : (k j : ℕ) → k < length g.arguments → j < 2 → cell array (row + (2 + 2 * k + j)) ≡ get_or (argument_cells (get_or g.arguments k (port 0))) j 0
  argument-cell k j h l =
      let few = (guard-arguments g good).few in
      let e : row + (2 + 2 * k + j) ≡ row + suc (suc (k * 2 + j)) = omega arith in
      ap (cell array) e ∙ is (suc (suc (k * 2 + j))) (omega arith)
      ∙ each_part argument_cells (port 0) 0 2 g.arguments k j (λ i m. argument-wide (get_or g.arguments i (port 0))) h l

  argument-shown : (k : ℕ) → k < length g.arguments → argument_in (cell array (row + 2 + 2 * k)) (cell array (row + 3 + 2 * k)) ≡ argument.put (get_or g.arguments k (port 0))
  argument-shown k h =
      let a : row + 2 + 2 * k ≡ row + (2 + 2 * k + 0) = omega arith in
      let b : row + 3 + 2 * k ≡ row + (2 + 2 * k + 1) = omega arith in
      ap₂ argument_in (ap (cell array) a ∙ argument-cell k 0 h (omega arith)) (ap (cell array) b ∙ argument-cell k 1 h (omega arith))
      ∙ argument_is (get_or g.arguments k (port 0)) ((guard-arguments g good).fine (port 0) k h)

  pub guard-is : guard_at array row ≡ guard.put g
  unfolding guard_at
  guard-is =
      let few = (guard-arguments g good).few in
      let part : ℕ → List ℕ = λ k. argument_in (cell array (row + 2 + 2 * k)) (cell array (row + 3 + 2 * k)) in
      ap₂ (λ (a b : List ℕ). a ++ b)
      (ap function_in (ap (cell array) (sym (add-zero row)) ∙ is 0 (omega arith)) ∙ function-is g.function known)
      (ap (λ (n : ℕ). counted byte_of argument_room part n) (is 1 (omega arith))
      ∙ counted_is byte_of argument_room part (port 0) g.arguments few (count 1 argument_room) argument
      (one-is (length g.arguments) (omega arith) ∙ sym (count-put 1 argument_room (length g.arguments))) argument-shown)
      ∙ sym (guard-put g)

pub guards-is : (size : ℕ) (all : List GuardRow) → Listed guard guard_room all → ((k : ℕ) → k < length all → place_in function_names 0 (get_or all k no_row).function < 4)
    → guards_in (rows 6 size guard_cells all) (length all) ≡ guards.put all
unfolding guards_in guards
guards-is size all fine known =
    let few = fine.few in
    counted_is pair_of guard_room _ no_row all few (count 2 guard_room) guard (pair_is (length all) (omega arith) ∙ sym (count-put 2 guard_room (length all)))
    (λ k h.
    guard-is (rows 6 size guard_cells all) (k * 6) (get_or all k no_row) (fine.fine no_row k h) (known k h)
    (rows-cell 6 size guard_cells no_row all (λ i g. guard-width (get_or all i no_row) (fine.fine no_row i g)) k h))
