-- Items passed over that begin no mode and that items follow.
use Rattle.std.specs.Prelude.{ℕ, ◌≤◌, ◌<◌, ◌≡◌, refl, List, get_or}
use Rattle.std.proofs.Common.{ap}
use Rattle.text.specs.Items.{item_at}
use Rattle.kept.specs.Rows.{state_of, read_of}
use Rattle.kept.specs.Kept.{Kept}
use Rattle.kept.specs.KeptLaws.{lent_of, fetched}

-- from a place, in the state of a number, to another
pub data Skipped (s : List ℕ) (state at : ℕ) : ℕ → ℕ → Type 0 where
  here : Skipped s state at state at
  over : {beyond ahead : ℕ} → Skipped s state at beyond ahead → (row : List ℕ) → read_of row ≡ item_at s (state_of beyond) ahead → (get_or row 0 0 ≡ 9 → ⊥) → get_or row 0 0 ≤ 18 → Skipped s state at (get_or row 3 0) (get_or row 4 0)

-- one row more
pub skip-on : {s memo : List ℕ} {state at beyond ahead : ℕ} (k : ℕ) → Kept s memo → k < get_or memo 0 0
    → (get_or (lent_of memo k) 0 0 ≡ 9 → ⊥) × (get_or (lent_of memo k) 0 0 ≤ 18) × (get_or (lent_of memo k) 1 0 ≡ beyond) × (get_or (lent_of memo k) 2 0 ≡ ahead)
    → Skipped s state at beyond ahead → Skipped s state at (get_or (lent_of memo k) 3 0) (get_or (lent_of memo k) 4 0)
skip-on {memo = memo} k kept below w before = over before (lent_of memo k) (fetched k kept below refl (ap state_of w.2) w.3) w.0 w.1
