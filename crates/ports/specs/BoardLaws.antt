-- The bytes of a name in its row.
use Prim.Native.Nat.{ℕ, suc, ◌+◌, ◌-◌, ◌≤◌, ◌<◌, min}
use Rattle.std.proofs.Common.{arith, refl, leb, leb-true, leb-false, take_all}
use Rattle.std.specs.Prelude.{◌≡◌, List, [], ◌∷◌, Bool, true, false, cond, length, get_or, take}
use Rattle.std.proofs.Math.Path.{sym, ap}
use Rattle.std.proofs.Math.ListN.{length-take}
use Rattle.std.proofs.Math.Seq.{slice, get_or-drop, get_or-take}
use Rattle.model.specs.Bytes.{same, place_in}
use Rattle.model.specs.Values.{type_names}
use Rattle.text.specs.declared.Name.{Name}
use Rattle.scan.specs.Slices.{slice-length}
use Rattle.refusals.specs.Names.{letters}
use Rattle.refusals.specs.Values.{type_named}
use Rattle.ports.specs.Boards.{short_part, Lanes, Titles, titles_of, board}
use Rattle.ports.specs.declared.Ports.{Ports}

-- the first letters of a name
pub take-few : (n : ℕ) (w : List ℕ) → take (min (length w) n) w ≡ take n w
take-few n w = by (leb (length w) n) refl
  where
    by : (b : Bool) → leb (length w) n ≡ b → take (min (length w) n) w ≡ take n w
    by true q =
        let le = leb-true (length w) n q in
        let e : min (length w) n ≡ length w = omega arith in
        rw (e, take_all (length w) w (omega arith), take_all n w le) refl
    by false q =
        let gt = leb-false (length w) n q in
        let e : min (length w) n ≡ n = omega arith in
        rw e refl

-- a place in a list of words is at most behind the last
placed-least : (vs : List (List ℕ)) (n : ℕ) (w : List ℕ) → place_in vs n w ≤ n + length vs
unfolding place_in
placed-least [] n w = omega arith
placed-least (v ∷ vs) n w = by (same w v) (placed-least vs (n + 1) w)
  where
    by : (b : Bool) → place_in vs (n + 1) w ≤ n + 1 + length vs → cond b n (place_in vs (n + 1) w) ≤ n + suc (length vs)
    by true h = omega arith
    by false h = omega arith

pub type-small : (s : List ℕ) (name : Name) → type_named s name ≤ 2
type-small s name = let h = placed-least type_names 0 (letters s name) in omega arith
