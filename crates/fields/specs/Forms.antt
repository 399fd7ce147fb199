-- The forms of an instruction's arguments, by its opcode.
use Rattle.std.specs.Prelude.{ℕ, zero, suc, ◌≤◌, ◌<◌, ◌≡◌, refl, true, leb, eqb}
use Rattle.std.proofs.Common.{arith}
use Rattle.file.specs.Code.{good_time, fits_form, forms_of, no_argument}

pub first-marker : (o a : ℕ) → o ≡ 0 → leb a 2 ≡ fits_form (forms_of o).0 a
first-marker zero a e = refl
first-marker (suc o) a e = absurd (omega arith)

pub first-none : (o a : ℕ) → o ≡ 6 → eqb a no_argument ≡ fits_form (forms_of o).0 a
first-none o a e = rw e refl

pub first_past : (o a : ℕ) → 8 ≤ o → eqb a no_argument ≡ fits_form (forms_of o).0 a
first_past (suc (suc (suc (suc (suc (suc (suc (suc o)))))))) a h = refl
first_past zero a h = absurd (omega arith)
first_past (suc zero) a h = absurd (omega arith)
first_past (suc (suc zero)) a h = absurd (omega arith)
first_past (suc (suc (suc zero))) a h = absurd (omega arith)
first_past (suc (suc (suc (suc zero)))) a h = absurd (omega arith)
first_past (suc (suc (suc (suc (suc zero))))) a h = absurd (omega arith)
first_past (suc (suc (suc (suc (suc (suc zero)))))) a h = absurd (omega arith)
first_past (suc (suc (suc (suc (suc (suc (suc zero))))))) a h = absurd (omega arith)

pub first-free : (o a : ℕ) → (o ≡ 0 → ⊥) → (o ≡ 6 → ⊥) → o < 8 → true ≡ fits_form (forms_of o).0 a
first-free zero a h g l = absurd (h refl)
first-free (suc zero) a h g l = refl
first-free (suc (suc zero)) a h g l = refl
first-free (suc (suc (suc zero))) a h g l = refl
first-free (suc (suc (suc (suc zero)))) a h g l = refl
first-free (suc (suc (suc (suc (suc zero))))) a h g l = refl
first-free (suc (suc (suc (suc (suc (suc zero)))))) a h g l = absurd (g refl)
first-free (suc (suc (suc (suc (suc (suc (suc zero))))))) a h g l = refl
first-free (suc (suc (suc (suc (suc (suc (suc (suc o)))))))) a h g l = absurd (omega arith)

pub second-delay : (o a : ℕ) → o ≡ 1 → good_time a ≡ fits_form (forms_of o).1 a
second-delay o a e = rw e refl

pub second-free : (o a : ℕ) → o ≡ 4 → true ≡ fits_form (forms_of o).1 a
second-free o a e = rw e refl

pub second_none : (o a : ℕ) → (o ≡ 1 → ⊥) → (o ≡ 4 → ⊥) → eqb a no_argument ≡ fits_form (forms_of o).1 a
second_none zero a h g = refl
second_none (suc zero) a h g = absurd (h refl)
second_none (suc (suc zero)) a h g = refl
second_none (suc (suc (suc zero))) a h g = refl
second_none (suc (suc (suc (suc zero)))) a h g = absurd (g refl)
second_none (suc (suc (suc (suc (suc zero))))) a h g = refl
second_none (suc (suc (suc (suc (suc (suc zero)))))) a h g = refl
second_none (suc (suc (suc (suc (suc (suc (suc zero))))))) a h g = refl
second_none (suc (suc (suc (suc (suc (suc (suc (suc o)))))))) a h g = refl

pub ruleset first_forms = (first-marker, first-none, first_past, first-free)
