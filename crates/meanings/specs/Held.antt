-- What the table holds of an item's declaration: a constant's word is kept up to 4294967296, which is out of range.
use Rattle.std.specs.Prelude.{ℕ, min, ◌≡◌, refl, List, [], ◌∷◌, Bool, true, false, cond}
use Rattle.std.proofs.Common.{arith}
use Rattle.refusals.specs.declared.Row.{Row}
use Rattle.refusals.specs.Names.{constant_sort, is_sort}
use Rattle.refusals.specs.Values.{int_word}
use Rattle.meanings.specs.declared.declaring.Declaration.{Declaration}
use Rattle.meanings.specs.declared.declaring.Declaration.TheVariants.{Nothing, One}

abbrev pub rows_of : Declaration → List Row
rows_of Nothing = []
rows_of (One row) = row ∷ []

abbrev pub held_row : Row → Row
held_row row =
    record {
      start = row.start;
      end = row.end;
      scope = row.scope;
      sort = row.sort;
      typ = row.typ;
      value = cond (is_sort constant_sort row) (min row.value 4294967296) row.value;
    }

pub word_held : (number : ℕ) (minus : Bool) → int_word (min number 4294967296) minus ≡ min (int_word number minus) 4294967296
word_held number true = omega arith
word_held number false = refl
