-- Readings go forward: what is read behind another stands behind it, and a refusal stays where it was found.
use Rattle.std.specs.Prelude.{ℕ, ◌≤◌, ◌<◌, ◌≡◌, List, length}
use Rattle.text.specs.declared.Got.{Got}

-- ---- nothing was refused, and h was read behind g

pub record Follows (s : List ℕ) (g h : Got) : Type 0 where
  pub fine : g.bad ≡ 0
  pub low : g.end ≤ h.start
  pub some : h.start < h.end
  pub high : h.end ≤ length s

-- ---- where a reading stands that began at a place, refused or not
-- 2 or 3, from a place on
pub record Refused (low high number offset : ℕ) : Type 0 where
  pub two : 2 ≤ number
  pub three : number ≤ 3
  pub least : low ≤ offset
  pub most : offset ≤ high

pub record Kept (s : List ℕ) (at : ℕ) (g : Got) : Type 0 where
  pub on : g.bad ≡ 0 → (at ≤ g.end) × (g.end ≤ length s)
  pub out : (g.bad ≡ 0 → ⊥) → Refused at (length s) g.bad g.start
