-- Laws of words of 64 bits: what a word has after a task joins or parts, which task is the lowest, and how many there are.
use Prim.Native.Nat.{ℕ, zero, suc, ◌+◌, ◌-◌, ◌*◌, ◌/◌, ◌%◌, ◌^◌, ◌≤◌, ◌<◌}
use Rattle.std.proofs.Math.Nat.{pow-succ', div-div-eq-div-mul, div-eq_of_lt}
use Rattle.std.proofs.Common.{div-one, add-one, arith, sym, ap, ◌∙◌, pow_mono}
use Rattle.std.specs.Prelude.{◌≡◌, Bool, ltb}
use Rattle.std.proofs.Math.Path.{refl}
use Rattle.std.proofs.Math.Bool.{true, false, cond}
use Rattle.std.proofs.Math.Option.{Option, none, some}
use Rattle.std.specs.Int.Count.{count_trailing_zeros, under, ones, ones_step}
use Rattle.std.proofs.Math.Dec.{eqb}
use borrow.Author.Tests.{eqb-true, eqb-false, eq-eqb, lt-ltb, le-ltb, ltb-true, ltb-false}
use Rattle.machine.specs.Words.{has, joined, parted, lowest_from, lowest_in, count_from, count_in}

-- ---- bits of a number

abbrev pub bit : ℕ → ℕ → ℕ
bit word k = word / 2 ^ k % 2

twice : (k : ℕ) → 2 ^ suc k ≡ 2 * 2 ^ k
twice k = pow-succ' 2 k

-- a bit past the lowest is a bit of the half
pub bit-half : (word k : ℕ) → bit word (suc k) ≡ bit (word / 2) k
bit-half word k = rw (pow-succ', ← div-div-eq-div-mul)

pub bit-lowest : (word : ℕ) → bit word 0 ≡ word % 2
bit-lowest word = rw div-one

-- a number of d bits has none above them
pub bit-above : (d word k : ℕ) → word < 2 ^ d → d ≤ k → bit word k ≡ 0
bit-above d word k small past =
    let below : word < 2 ^ k = omega (arith, pow_mono past) in
    ap (λ (n : ℕ). n % 2) (div-eq_of_lt below)

half-more : (word k : ℕ) → (word + 2 ^ suc k) / 2 ≡ word / 2 + 2 ^ k
half-more word k = omega (arith, twice k)

-- a bit that is clear is set by adding its power, and no other changes
pub set_same : (k word : ℕ) → bit word k ≡ 0 → bit (word + 2 ^ k) k ≡ 1
set_same zero word clear = bit-lowest (word + 1) ∙ omega (arith, bit-lowest word)
set_same (suc k) word clear =
    bit-half (word + 2 ^ suc k) k ∙ ap (λ (n : ℕ). bit n k) (half-more word k) ∙ set_same k (word / 2) (sym (bit-half word k) ∙ clear)

pub set_other : (k j word : ℕ) → bit word k ≡ 0 → (j ≡ k → ⊥) → bit (word + 2 ^ k) j ≡ bit word j
set_other zero zero word clear apart = absurd (apart refl)
set_other zero (suc j) word clear apart =
    let half : (word + 1) / 2 ≡ word / 2 = omega (arith, bit-lowest word) in
    bit-half (word + 1) j ∙ ap (λ (n : ℕ). bit n j) half ∙ sym (bit-half word j)
set_other (suc k) zero word clear apart =
    let odd : (word + 2 ^ suc k) % 2 ≡ word % 2 = omega (arith, twice k) in
    bit-lowest (word + 2 ^ suc k) ∙ odd ∙ sym (bit-lowest word)
set_other (suc k) (suc j) word clear apart =
    bit-half (word + 2 ^ suc k) j ∙ ap (λ (n : ℕ). bit n j) (half-more word k)
    ∙ set_other k j (word / 2) (sym (bit-half word k) ∙ clear) (λ same. apart (ap suc same)) ∙ sym (bit-half word j)

-- the number still has d bits
pub set-fits : (d k word : ℕ) → k < d → word < 2 ^ d → bit word k ≡ 0 → word + 2 ^ k < 2 ^ d
set-fits zero k word within small clear = absurd (omega arith)
set-fits (suc d) zero word within small clear = omega (arith, twice d, bit-lowest word)
set-fits (suc d) (suc k) word within small clear =
    omega (arith, twice d, twice k, set-fits d k (word / 2) (omega arith) (omega (arith, twice d)) (sym (bit-half word k) ∙ clear))

-- a bit that is set is in the number; taking it away clears it and changes no other
pub set-le : (k word : ℕ) → bit word k ≡ 1 → 2 ^ k ≤ word
set-le zero word is_set = omega (arith, bit-lowest word)
set-le (suc k) word is_set = omega (arith, twice k, set-le k (word / 2) (sym (bit-half word k) ∙ is_set))

pub clear-same : (k word : ℕ) → bit word k ≡ 1 → bit (word - 2 ^ k) k ≡ 0
clear-same zero word is_set = bit-lowest (word - 1) ∙ omega (arith, bit-lowest word)
clear-same (suc k) word is_set =
    let in-half : bit (word / 2) k ≡ 1 = sym (bit-half word k) ∙ is_set in
    let half : (word - 2 ^ suc k) / 2 ≡ word / 2 - 2 ^ k = omega (arith, twice k, set-le k (word / 2) in-half) in
    bit-half (word - 2 ^ suc k) k ∙ ap (λ (n : ℕ). bit n k) half ∙ clear-same k (word / 2) in-half

pub clear-other : (k j word : ℕ) → bit word k ≡ 1 → (j ≡ k → ⊥) → bit (word - 2 ^ k) j ≡ bit word j
clear-other k j word is_set apart =
    let whole : word - 2 ^ k + 2 ^ k ≡ word = omega (arith, set-le k word is_set) in
    sym (set_other k j (word - 2 ^ k) (clear-same k word is_set) apart) ∙ ap (λ (n : ℕ). bit n j) whole

-- ---- tasks in a word

pub has-bit : (word task : ℕ) → has word task ≡ true → bit word task ≡ 1
has-bit word task it-has = eqb-true (bit word task) 1 it-has

pub hasnt-bit : (word task : ℕ) → has word task ≡ false → bit word task ≡ 0
hasnt-bit word task it-hasnt = let other = eqb-false (bit word task) 1 it-hasnt in omega arith

pub has-past : (word task : ℕ) → word < 2 ^ 64 → 64 ≤ task → has word task ≡ false
has-past word task small past = rw (bit-above 64 word task small past) refl

-- a task that is in a word of 64 bits has a number below 64
pub has_within : (word task : ℕ) → word < 2 ^ 64 → has word task ≡ true → task < 64
has_within word task small it-has = go (ltb task 64) refl
  where
    go : (within : Bool) → ltb task 64 ≡ within → task < 64
    go true within = ltb-true task 64 within
    go false past = let z : ◌≡◌ {A = Bool} true false = sym it-has ∙ has-past word task small (ltb-false task 64 past) in let n : ◌≡◌ {A = ℕ} 0 1 = cc in absurd (omega arith)

module _ (word task : ℕ) where
  pub join-same : task < 64 → has (joined word task) task ≡ true
  join-same within = go (has word task) refl
    where
      go : (there : Bool) → has word task ≡ there → has (cond there word (cond (ltb task 64) (word + 2 ^ task) word)) task ≡ true
      go true it-has = it-has
      go false it-hasnt = rw (lt-ltb task 64 within) (eq-eqb _ 1 (set_same task word (hasnt-bit word task it-hasnt)))

  pub join-other : (j : ℕ) → (j ≡ task → ⊥) → has (joined word task) j ≡ has word j
  join-other j apart = go (has word task) refl (ltb task 64)
    where
      go : (there : Bool) → has word task ≡ there → (within : Bool) → has (cond there word (cond within (word + 2 ^ task) word)) j ≡ has word j
      go true it-has within = refl
      go false it-hasnt true = ap (λ (n : ℕ). eqb n 1) (set_other task j word (hasnt-bit word task it-hasnt) apart)
      go false it-hasnt false = refl

  pub part_same : has (parted word task) task ≡ false
  part_same = go (has word task) refl
    where
      go : (there : Bool) → has word task ≡ there → has (cond there (word - 2 ^ task) word) task ≡ false
      go true it-has = rw (clear-same task word (has-bit word task it-has)) refl
      go false it-hasnt = it-hasnt

  pub part-other : (j : ℕ) → (j ≡ task → ⊥) → has (parted word task) j ≡ has word j
  part-other j apart = go (has word task) refl
    where
      go : (there : Bool) → has word task ≡ there → has (cond there (word - 2 ^ task) word) j ≡ has word j
      go true it-has = ap (λ (n : ℕ). eqb n 1) (clear-other task j word (has-bit word task it-has) apart)
      go false it-hasnt = refl

-- ---- the lowest, by the zeros below it

half-on : (word task : ℕ) → word / 2 ^ (task + 1) ≡ word / 2 ^ task / 2
half-on word task = rw (add-one task, div-div-eq-div-mul) (ap (λ (n : ℕ). word / n) (omega (arith, twice task)))

abbrev pub found : ℕ → ℕ → ℕ → Option ℕ
found n task zeros = cond (ltb zeros n) (some (task + zeros)) none

lowest-from : (n task word : ℕ) → lowest_from n task word ≡ found n task (count_trailing_zeros n (word / 2 ^ task))
unfolding lowest_from count_trailing_zeros
lowest-from zero task word = refl
lowest-from (suc n) task word =
    rw (lowest-from n (task + 1) word, half-on word task) (go (word / 2 ^ task % 2) (count_trailing_zeros n (word / 2 ^ task / 2)) (omega arith))
  where
    go : (lowest lower : ℕ) → lowest < 2 → cond (eqb lowest 1) (some task) (found n (task + 1) lower) ≡ found (suc n) task (under lowest lower)
    go zero lower small = further (ltb lower n) refl
      where
        further : (on : Bool) → ltb lower n ≡ on → cond on (some (task + 1 + lower)) none ≡ found (suc n) task (suc lower)
        further true on = rw (lt-ltb (suc lower) (suc n) (omega (arith, ltb-true lower n on))) (ap some (omega arith))
        further false on = rw (le-ltb (suc lower) (suc n) (omega (arith, ltb-false lower n on))) refl
    go (suc zero) lower small = rw (lt-ltb 0 (suc n) (omega arith)) (ap some (omega arith))
    go (suc (suc lowest)) lower small = absurd (omega arith)

pub lowest-zeros : (word : ℕ) → lowest_in word ≡ found 64 0 (count_trailing_zeros 64 word)
lowest-zeros word = lowest-from 64 0 word ∙ rw div-one refl

-- ---- how many, by the ones

count-from : (n task word : ℕ) → word / 2 ^ task < 2 ^ n → count_from n task word ≡ ones (word / 2 ^ task)
unfolding count_from ones
count-from zero task word small = rw (below_one (word / 2 ^ task) small) refl
  where
    below_one : (number : ℕ) → number < 2 ^ 0 → number ≡ 0
    below_one number h = omega arith
count-from (suc n) task word small =
    rw (count-from n (task + 1) word (rw (half-on word task) (omega (arith, twice n))), half-on word task)
    (go (word / 2 ^ task % 2) refl (omega arith) ∙ sym (ones_step (word / 2 ^ task)))
  where
    go : (lowest : ℕ) → word / 2 ^ task % 2 ≡ lowest → lowest < 2
        → cond (eqb lowest 1) (ones (word / 2 ^ task / 2) + 1) (ones (word / 2 ^ task / 2)) ≡ word / 2 ^ task % 2 + ones (word / 2 ^ task / 2)
    go zero is small = omega arith
    go (suc zero) is small = omega arith
    go (suc (suc lowest)) is small = absurd (omega arith)

pub count_ones : (word : ℕ) → word < 2 ^ 64 → count_in word ≡ ones word
count_ones word small = count-from 64 0 word (rw div-one small) ∙ rw div-one refl

-- ---- how many, after a task joins or parts

module _ (word other task : ℕ) (alike : (j : ℕ) → (j ≡ task → ⊥) → has other j ≡ has word j) (lacks : has word task ≡ false) (gains : has other task ≡ true) where
  count-outside : (n from : ℕ) → task < from → count_from n from other ≡ count_from n from word
  unfolding count_from
  count-outside zero from before = refl
  count-outside (suc n) from before =
      rw (count-outside n (from + 1) (omega arith), alike from (λ same. omega arith)) refl

  count-one-more : (n from : ℕ) → from ≤ task → task < from + n → count_from n from other ≡ count_from n from word + 1
  unfolding count_from
  count-one-more zero from low high = absurd (omega arith)
  count-one-more (suc n) from low high = go (eqb from task) refl (count-one-more n (from + 1))
    where
      go : (here : Bool) → eqb from task ≡ here
          → (from + 1 ≤ task → task < from + 1 + n → count_from n (from + 1) other ≡ count_from n (from + 1) word + 1)
          → cond (has other from) (count_from n (from + 1) other + 1) (count_from n (from + 1) other) ≡ cond (has word from) (count_from n (from + 1) word + 1) (count_from n (from + 1) word) + 1
      go true same higher =
          let it = eqb-true from task same in
          rw (it, gains, lacks) (ap (λ (k : ℕ). k + 1) (count-outside n (task + 1) (omega arith)))
      go false apart higher =
          let it = eqb-false from task apart in
          rw (higher (omega arith) (omega arith), alike from it) (further (has word from))
        where
          further : (there : Bool) → cond there (count_from n (from + 1) word + 1 + 1) (count_from n (from + 1) word + 1) ≡ cond there (count_from n (from + 1) word + 1) (count_from n (from + 1) word) + 1
          further true = refl
          further false = refl

pub count-joined : (word task : ℕ) → task < 64 → has word task ≡ false → count_in (joined word task) ≡ count_in word + 1
count-joined word task within lacks =
    count-one-more word (joined word task) task (join-other word task) lacks (join-same word task within) 64 0 (omega arith) (omega arith)

pub count-parted : (word task : ℕ) → task < 64 → has word task ≡ true → count_in word ≡ count_in (parted word task) + 1
count-parted word task within it-has =
    count-one-more (parted word task) word task (λ j apart. sym (part-other word task j apart)) (part_same word task) it-has 64 0 (omega arith) (omega arith)
