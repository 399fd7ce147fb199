-- An item that puts nothing into the arrays.
use Rattle.std.specs.Prelude.{◌≡◌, ℕ, List}
use Rattle.text.specs.declared.Item.{Item}
use Rattle.refusals.specs.declared.Row.{Row}
use Rattle.ports.specs.Boards.{Board, placed_by}

pub record Still (item : Item) : Type 0 where
  pub same : (s : List ℕ) (rows : List Row) (b : Board) → b ≡ placed_by s rows item b
