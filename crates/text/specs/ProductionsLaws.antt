-- Every production reads an item whose parts stand in text order, behind its place and inside the text; or it refuses there.
use Rattle.std.specs.Prelude.{ℕ, ◌≤◌, ◌<◌, List, length}
use Rattle.std.proofs.Math.Path.{◌≡◌}
use Rattle.std.proofs.Math.Bool.{true}
use Rattle.text.specs.declared.Item.TheVariants as I
use Rattle.text.specs.declared.ReadItem.{ReadItem}
use Rattle.text.specs.ExpectLaws.{Refused}
use Rattle.text.specs.Items.{goes}
use Rattle.text.specs.Laid.{Laid}

-- an item that goes on: behind its place, inside the text, its parts in order
pub record Onward (at high : ℕ) (r : ReadItem) : Type 0 where
  pub ahead : at < r.next
  pub inside : r.next ≤ high
  pub laid : Laid at r.next r.item

-- what an item read from a place on comes to: it goes on, refuses with 2 or 3, or is the end at the text's length
pub record Good (s : List ℕ) (at : ℕ) (r : ReadItem) : Type 0 where
  pub on : goes r.item ≡ true → Onward at (length s) r
  pub no : (number offset : ℕ) → r.item ≡ I.No number offset → Refused at (length s) number offset
  pub end : r.item ≡ I.End → r.next ≡ length s
