-- Two's complement at 32 bits: what the conversions between an integer and its word need.
use Rattle.std.proofs.Common.{◌≡◌, ℕ, zero, suc, ◌-◌, ◌<◌, ◌≤◌, Bool, true, false, T, ℤ, pos, negsuc, ◌-ℤ◌, nat_abs, sym, refl, ap, ◌∙◌, subst, arith, w32, SFits, to_z, of_z, ltb-true, le-ltb}
use lib.Signed.{lt_z, non_neg}
use mir.Val.{sel}
use mir.Facts.{to_z_pos}

-- what -1 minus a number is
flip-pos : (n : ℕ) → negsuc 0 -ℤ pos n ≡ negsuc n
flip-pos zero = refl
flip-pos (suc n) = ap (λ (x : ℕ). negsuc (suc x)) (omega arith)

flip-neg : (n : ℕ) → negsuc 0 -ℤ negsuc n ≡ pos n
flip-neg n = rw (le-ltb (suc n) 1 (omega arith)) (ap pos (omega arith))

-- a negative number: its flip can be cast, and gives its word
pub record Negative (number : ℤ) : Type 0 where
  pub fits : SFits w32 (negsuc 0 -ℤ number)
  pub not_negative : T (non_neg (negsuc 0 -ℤ number))
  pub small : nat_abs (negsuc 0 -ℤ number) < 2147483648
  pub word : 4294967295 - nat_abs (negsuc 0 -ℤ number) ≡ of_z w32 number

pub negative : (number : ℤ) → SFits w32 number → lt_z number (pos 0) ≡ true → Negative number
negative (pos n) fits below = absurd (omega (arith, ltb-true n 0 below))
negative (negsuc n) fits below =
    let bound : n < 2147483648 = fits.sfits in
    record {
      fits = subst (λ (x : ℤ). SFits w32 x) (sym (flip-neg n)) (record { sfits = bound });
      not_negative = subst (λ (x : ℤ). T (non_neg x)) (sym (flip-neg n)) tt;
      small = subst (λ (x : ℤ). nat_abs x < 2147483648) (sym (flip-neg n)) bound;
      word = ap (λ (x : ℤ). 4294967295 - nat_abs x) (flip-neg n) ∙ omega arith;
    }

-- any other number is its word
pub record Natural (number : ℤ) : Type 0 where
  pub not_negative : T (non_neg number)
  pub small : nat_abs number < 2147483648
  pub word : nat_abs number ≡ of_z w32 number

pub natural : (number : ℤ) → SFits w32 number → lt_z number (pos 0) ≡ false → Natural number
natural (pos n) fits below = record { not_negative = tt; small = fits.sfits; word = refl }
natural (negsuc n) fits below = let z : ◌≡◌ {A = ℕ} 0 1 = cc in absurd (omega arith)

-- a word with its top bit: the flip of the flipped word
pub record High (word : ℕ) : Type 0 where
  pub fits : SFits w32 (negsuc 0 -ℤ to_z w32 (4294967295 - word))
  pub number : negsuc 0 -ℤ to_z w32 (4294967295 - word) ≡ to_z w32 word

pub high : (word : ℕ) → word < 4294967296 → 2147483648 ≤ word → High word
high word fits top =
    let low : 4294967295 - word < 2147483648 = omega arith in
    let flip : negsuc 0 -ℤ to_z w32 (4294967295 - word) ≡ negsuc (4294967295 - word) =
    ap (λ (x : ℤ). negsuc 0 -ℤ x) (to_z_pos w32 low) ∙ flip-pos (4294967295 - word) in
    record {
      fits = subst (λ (x : ℤ). SFits w32 x) (sym flip) (record { sfits = low });
      number = flip ∙ ap negsuc (omega arith) ∙ sym (ap (λ (b : Bool). sel b (pos word) (negsuc (4294967296 - suc word))) (le-ltb word 2147483648 top));
    }
