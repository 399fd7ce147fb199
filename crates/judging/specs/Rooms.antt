-- Parts of what a declared name must keep, and numbers that are kept up to a bound behind every range.
use Rattle.std.specs.Prelude.{ℕ, ◌<◌, min, ◌≡◌, refl, List, [], ◌∷◌, Bool, true, false, ltb}
use Rattle.std.proofs.Common.{arith, ltb-true, ltb-false, lt-ltb, le-ltb, lit<}
use Rattle.text.specs.declared.Name.{Name}
use Rattle.model.specs.Rooms.{port_room, all_port_room}
use Rattle.refusals.specs.declared.Row.{Row}
use Rattle.refusals.specs.Checks.{Check}
use Rattle.refusals.specs.Names.{meaning, count, is_sort, is_port_of}
use Rattle.refusals.specs.Refusals.{long_name, declared_twice, full, beyond_int}

-- 4 and 5 of a name that is declared in a scope
abbrev pub fresh_rules : List ℕ → List Row → ℕ → Name → List Check
fresh_rules s rows scope name = long_name name ∷ declared_twice (meaning s rows scope name) name ∷ []

-- 11 of an input or output: per task, and in all
abbrev pub port_room_rules : List Row → ℕ → ℕ → ℕ → List Check
port_room_rules rows scope sort at =
    full port_room (count (is_port_of scope sort) rows) at ∷
    full all_port_room (count (is_sort sort) rows) at ∷
    []

-- a number that is kept up to 4294967296 is beyond a lower limit where the number is
pub ltb-kept : (limit number : ℕ) → limit < 4294967296 → ltb limit (min number 4294967296) ≡ ltb limit number
ltb-kept limit number h = by (ltb limit number) refl
  where
    by : (b : Bool) → ltb limit number ≡ b → ltb limit (min number 4294967296) ≡ b
    by true e = let p = ltb-true limit number e in lt-ltb limit (min number 4294967296) (omega arith)
    by false e = let p = ltb-false limit number e in le-ltb limit (min number 4294967296) (omega arith)

pub int-kept : (number : ℕ) (minus : Bool) → beyond_int (min number 4294967296) minus ≡ beyond_int number minus
int-kept number true = ltb-kept 2147483648 number (lit< tt)
int-kept number false = ltb-kept 2147483647 number (lit< tt)
