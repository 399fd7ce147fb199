-- How parts of a file that were read are put into a state: a reading goes on with the next part, or stays a refusal.
use Rattle.std.specs.Prelude.{ℕ, ◌-◌, ◌≡◌, List, length}
use Rattle.codec.specs.Readings.{Reading, got, and_then}
use Rattle.codec.specs.Codecs.{Codec}
use Rattle.codec.specs.Lists.{run_get}
use Rattle.layout.specs.Filling.{fill}

-- the next part, put into the state; a refusal stays
unfoldable pub taken : {A S : Type 0} → Codec A → (A → S → S) → Reading S → Reading S
taken c store m = and_then m (λ l bs. and_then (c.get bs) (λ a rest. got (store a l) rest))

-- from p one part further, which is put into the state, is q
pub record Takes {A S : Type 0} (c : Codec A) (store : A → S → S) (p q : Reading S) : Type 0 where
  pub is : taken c store p ≡ q

-- what is left of n parts behind the first k, put into the state, each read under what stood before it
unfoldable pub ahead : {A S U : Type 0} → (U → Codec A) → (U → A → U) → (S → U) → (ℕ → A → S → S) → ℕ → ℕ → Reading S → Reading S
ahead c with used store n k m = and_then m (λ l bs. and_then (run_get c with (n - k) (used l) bs) (λ xs rest. got (fill store k xs l) rest))

-- n parts from p on are those from q on behind the first k
pub record Left {A S U : Type 0} (c : U → Codec A) (with : U → A → U) (used : S → U) (store : ℕ → A → S → S) (n k : ℕ) (p q : Reading S) : Type 0 where
  pub is : ahead c with used store n 0 p ≡ ahead c with used store n k q

-- from p n parts further is q
pub record Runs {A S U : Type 0} (c : U → Codec A) (with : U → A → U) (used : S → U) (store : ℕ → A → S → S) (n : ℕ) (p q : Reading S) : Type 0 where
  pub is : ahead c with used store n 0 p ≡ q

-- a list of parts put into the state, and their number beside it
unfoldable pub counted : {A S : Type 0} → (ℕ → A → S → S) → List A → ℕ × S → ℕ × S
counted store xs l = (length xs, fill store 0 xs l.1)
