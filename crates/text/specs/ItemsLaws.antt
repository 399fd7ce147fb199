-- The items of a text, one behind the other, and what they say of it, in turns.
use Prim.Native.Nat.{ℕ}
use Rattle.std.proofs.Math.Path.{◌≡◌}
use Rattle.std.specs.Prelude.{List, [], ◌∷◌}
use Rattle.std.proofs.Math.Bool.{true}
use Rattle.text.specs.declared.Item.{Item}
use Rattle.text.specs.declared.Item.TheVariants as I
use Rattle.text.specs.Items.{goes}

-- ---- where the items end

-- items that go on, up to the end of the text or a refusal
pub data Ends : List Item → Type 0 where
  at-end : Ends (I.End ∷ [])
  at-refusal : (number offset : ℕ) → Ends (I.No number offset ∷ [])
  onward : (item : Item) {items : List Item} → goes item ≡ true → Ends items → Ends (item ∷ items)
