-- Laws of words put into ports one after the other, for the loops that do it.
use Rattle.std.specs.Prelude.{ℕ, zero, suc, ◌+◌, ◌-◌, ◌≤◌, ◌<◌, ◌≡◌, refl, List, [], ◌∷◌, length, get_or, set, drop}
use Rattle.std.proofs.Common.{arith, add-one, ◌∙◌, ap, ap₂, drop_of_length-le, drop-cons}
use Rattle.model.specs.Modules.{place, copy_to}
use Rattle.machine.specs.Store.{part}

-- ---- a whole list

-- one word more is placed
pub place-on : (words : List ℕ) (at i : ℕ) (ports : List ℕ) → i < length words
    → place (at + i) (drop i words) ports ≡ place (at + (i + 1)) (drop (i + 1) words) (set ports (at + i) (get_or words i 0))
place-on words at i ports within =
    rw (drop-cons words i 0 within, add-one i) (ap (λ (k : ℕ). place k (drop (suc i) words) (set ports (at + i) (get_or words i 0))) (omega arith))

pub place-done : (words : List ℕ) (at i : ℕ) (ports : List ℕ) → length words ≤ i → place (at + i) (drop i words) ports ≡ ports
place-done words at i ports past = rw (drop_of_length-le words {i = i} past) refl

pub place-all : (words : List ℕ) (at : ℕ) (ports : List ℕ) → place at words ports ≡ place (at + 0) (drop 0 words) ports
place-all words at ports = ap (λ (k : ℕ). place k words ports) (omega arith)

-- ---- a part of a list

part-first : (words : List ℕ) (from n : ℕ) → 0 < n → part words from n ≡ get_or words from 0 ∷ part words (from + 1) (n - 1)
part-first words from zero within = absurd (omega arith)
part-first words from (suc n) within =
    let count : n ≡ suc n - 1 = omega arith in ap (λ (k : ℕ). get_or words from 0 ∷ part words (from + 1) k) count

module _ (words : List ℕ) (from n : ℕ) (i : ℕ) where
  -- what is left of the part at its ith word
  abbrev pub left : List ℕ
  left = part words (from + i) (n - i)

  pub left-on : i < n → left ≡ get_or words (from + i) 0 ∷ part words (from + (i + 1)) (n - (i + 1))
  left-on within =
      let place-count : from + i + 1 ≡ from + (i + 1) = omega arith in
      let count : n - i - 1 ≡ n - (i + 1) = omega arith in
      part-first words (from + i) (n - i) (omega arith)
      ∙ ap₂ (λ (k m : ℕ). get_or words (from + i) 0 ∷ part words k m) place-count count

  pub left-none : n ≤ i → left ≡ []
  left-none past = let count : n - i ≡ 0 = omega arith in ap (λ (k : ℕ). part words (from + i) k) count

  pub part-on : (to : ℕ) (ports : List ℕ) → i < n
      → place (to + i) left ports ≡ place (to + (i + 1)) (part words (from + (i + 1)) (n - (i + 1))) (set ports (to + i) (get_or words (from + i) 0))
  part-on to ports within = rw (left-on within) (ap (λ (k : ℕ). place k (part words (from + (i + 1)) (n - (i + 1))) (set ports (to + i) (get_or words (from + i) 0))) (omega arith))

  pub part-done : (to : ℕ) (ports : List ℕ) → n ≤ i → place (to + i) left ports ≡ ports
  part-done to ports past = rw (left-none past) refl

  pub copy-on : (to : ℕ) (ports : List ℕ) → i < n
      → copy_to (to + i) left ports ≡ copy_to (to + (i + 1)) (part words (from + (i + 1)) (n - (i + 1))) (set ports (to + i) (get_or ports (get_or words (from + i) 0) 0))
  copy-on to ports within = rw (left-on within) (ap (λ (k : ℕ). copy_to k (part words (from + (i + 1)) (n - (i + 1))) (set ports (to + i) (get_or ports (get_or words (from + i) 0) 0))) (omega arith))

  pub copy_done : (to : ℕ) (ports : List ℕ) → n ≤ i → copy_to (to + i) left ports ≡ ports
  copy_done to ports past = rw (left-none past) refl

module _ (words : List ℕ) (from n to : ℕ) (ports : List ℕ) where
  left-all : part words from n ≡ left words from n 0
  left-all =
      let start : from ≡ from + 0 = omega arith in
      let count : n ≡ n - 0 = omega arith in
      ap₂ (λ (k m : ℕ). part words k m) start count

  pub part-all : place to (part words from n) ports ≡ place (to + 0) (left words from n 0) ports
  part-all = ap₂ (λ (k : ℕ) (l : List ℕ). place k l ports) (omega arith) left-all

  pub copy-all : copy_to to (part words from n) ports ≡ copy_to (to + 0) (left words from n 0) ports
  copy-all = ap₂ (λ (k : ℕ) (l : List ℕ). copy_to k l ports) (omega arith) left-all
