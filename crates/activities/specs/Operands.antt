-- The operands of a guard, by their number and one type.
use Rattle.std.specs.Prelude.{ℕ, zero, suc, ◌-◌, ◌≤◌, ◌≡◌, refl, List, [], ◌∷◌, cond, eqb, get_or, take}
use Rattle.std.proofs.Common.{arith}
use Rattle.model.specs.Values.{function_by, operands_of}
use Rattle.model.specs.declared.Function.{Function}
use Rattle.model.specs.declared.Function.TheVariants.{IsTrue, IsFalse, Less, Equal}
use Rattle.refusals.specs.Names.{no_type}
use Rattle.refusals.specs.Activities.{operand_types, types_left}

-- the type of all operands of a function; none is asked of the first of two of one type
abbrev pub operand_type : Function → ℕ
operand_type function = get_or (operand_types function) 0 no_type

-- so many of one type
abbrev pub pair_of : ℕ → ℕ → List ℕ
pair_of left type = take left (type ∷ type ∷ [])

pub operands-pair : (function : Function) → operand_types function ≡ pair_of (operands_of function) (operand_type function)
operands-pair IsTrue = refl
operands-pair IsFalse = refl
operands-pair Less = refl
operands-pair Equal = refl

-- a number that is none of a function's is read as the last
pub function-last : (number : ℕ) → (number ≡ 0 → ⊥) → (number ≡ 1 → ⊥) → (number ≡ 2 → ⊥) → function_by number ≡ Equal
function-last zero a b c = absurd (a refl)
function-last (suc zero) a b c = absurd (b refl)
function-last (suc (suc zero)) a b c = absurd (c refl)
function-last (suc (suc (suc zero))) a b c = refl
function-last (suc (suc (suc (suc number)))) a b c = refl

-- what is wanted behind an operand of a type
abbrev pub settled : ℕ → ℕ → ℕ
settled type wanted = cond (eqb wanted no_type) type wanted

pub pair_left : (type wanted left : ℕ) → left ≤ 2 → types_left type (pair_of left wanted) ≡ pair_of (left - 1) (settled type wanted)
pair_left type wanted zero h = refl
pair_left type wanted (suc zero) h = refl
pair_left type wanted (suc (suc zero)) h = refl
pair_left type wanted (suc (suc (suc left))) h = absurd (omega arith)
