-- The first switch whose guard holds wins, and none is taken where none holds.
use Rattle.std.specs.Prelude.{ℕ, ◌≡◌, refl, true, false, List, [], ◌∷◌, ◌++◌}
use Rattle.std.proofs.Math.Option.{none, some}
use Rattle.model.specs.Modules.{Module, Act}
use Rattle.timing.specs.SlotLaws.{Each}
use Rattle.timing.specs.Rules.{passes, chosen}

module _ (M : Module) (ports : List ℕ) where
  pub first-wins : (before after : List (Act ℕ)) (a : Act ℕ) → Each (λ b. passes M b.guard ports ≡ false) before → passes M a.guard ports ≡ true
      → chosen M (before ++ (a ∷ after)) ports ≡ some a.what
  first-wins [] after a w h = rw h refl
  first-wins (b ∷ before) after a w h = rw w.0 (first-wins before after a w.1 h)

  pub none-wins : (acts : List (Act ℕ)) → Each (λ b. passes M b.guard ports ≡ false) acts → chosen M acts ports ≡ none
  none-wins [] w = refl
  none-wins (a ∷ acts) w = rw w.0 (none-wins acts w.1)
