-- Rows that an array lends a walk: each is the item of the text at its own place, in its own state.
use Rattle.std.specs.Prelude.{ℕ, ◌+◌, ◌-◌, ◌*◌, ◌≤◌, ◌<◌, ◌≡◌, refl, List, Bool, true, false, ltb, length, get_or, take, drop}
use Rattle.std.proofs.Common.{arith, sym, ap, ◌∙◌, ltb-true, ltb-false}
use Rattle.text.specs.declared.State.{State}
use Rattle.text.specs.declared.Item.{Item}
use Rattle.text.specs.Items.{items_in, items_from}
use Rattle.kept.specs.Kept.{row_of, Right, Kept}
use Rattle.build.specs.Walks.{runs}

-- so many rows of sixteen numbers, from a place of an array on
pub record Lent (s lent : List ℕ) (first many : ℕ) : Type 0 where
  pub each : (k : ℕ) → k < many → Right s (take 16 (drop (first + k * 16) lent))

-- the row at a place, as it is lent
abbrev pub part_of : List ℕ → ℕ → List ℕ
part_of lent place = take (place + 16 - place) (drop place lent)

-- a walk that is not ahead of where it began stands there, before the first row
abbrev pub Away : ℕ → ℕ → ℕ → ℕ → ℕ → Type 0
Away begun from k state at = at ≤ from → (k ≡ 0) × (state ≡ begun) × (at ≡ from)

-- the rows that an array keeps
pub lent-kept : {s memo : List ℕ} (many : ℕ) → many ≤ get_or memo 0 0 → Kept s memo → Lent s memo 16 many
unfolding row_of
lent-kept many m kept = record { each = λ k l. let e : 16 + k * 16 ≡ k * 16 + 16 = omega arith in rw e (kept.each k (omega (arith, m, l))) }

-- the first row
first-row : (lent : List ℕ) (first k : ℕ) → k ≡ 0 → part_of lent (first + k * 16) ≡ take 16 (drop first lent)
first-row lent first k z =
    let w : first + k * 16 + 16 - (first + k * 16) ≡ 16 = omega arith in
    let e : first + k * 16 ≡ first = omega (arith, z) in
    rw w (ap (λ (n : ℕ). take 16 (drop n lent)) e)

-- a walk whose next row is of another state or place is ahead, if the first row is of those where it began
pub missed : {begun from state at : ℕ} (lent : List ℕ) (first k : ℕ) → Away begun from k state at → (get_or (part_of lent (first + k * 16)) 1 0 ≡ state → get_or (part_of lent (first + k * 16)) 2 0 ≡ at → ⊥)
    → get_or (take 16 (drop first lent)) 1 0 ≡ begun → get_or (take 16 (drop first lent)) 2 0 ≡ from → from < at
missed {begun} {from} {state} {at} lent first k away other p q = by (ltb from at) refl
  where
    by : (b : Bool) → ltb from at ≡ b → from < at
    by true e = ltb-true from at e
    by false e =
        let still = away (ltb-false from at e) in
        let here = first-row lent first k still.0 in
        absurd (other (ap (λ (l : List ℕ). get_or l 1 0) here ∙ p ∙ sym still.1) (ap (λ (l : List ℕ). get_or l 2 0) here ∙ q ∙ sym still.2))

-- past the end of a text stands nothing
pub past_end : {B : Type 0} (on : ℕ → Item → B → B) (s : List ℕ) (state : State) (at n : ℕ) (b : B) → length s < at → runs on n (items_from s state at) b ≡ b
unfolding runs items_in
past_end on s state at n b h = let z : length s + 1 - at ≡ 0 = omega (arith, h) in rw z refl
