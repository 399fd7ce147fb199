-- Cells that are moved up, the last first: behind the last turn none is left.
use Prim.Native.Nat.{ℕ}
use mathlib.Core.Path.{◌≡◌, sym, ap, ◌∙◌}
use mathlib.Core.List.{List}
use Rattle.sheets.specs.Sheets.{raised}
use Rattle.sheets.specs.Raising.{raised-none}

pub raised-out : (place width left : ℕ) (rows all : List ℕ) → left ≡ 0 → raised place width left rows ≡ all → rows ≡ all
raised-out place width left rows all e h = sym (ap (λ (k : ℕ). raised place width k rows) e ∙ raised-none place width rows) ∙ h
