-- Types, values and guards (document 01, 'The text of a module', guards; 'The file', types and values).
-- A port holds a word of 32 bits: an int in two's complement, a boolean as 0 or 1. The type says which.
use Rattle.std.specs.Prelude.{ℕ, Bool, true, false, cond, List, [], ◌∷◌, get_or, eqb, leb}
use Rattle.std.specs.Int.Signed.{lt_z}
use Rattle.std.specs.Int.{w32}
use Rattle.std.proofs.Common.{of_z, to_z}
use Rattle.model.specs.Bytes.{bytes}
use Rattle.model.specs.declared.Value.{Value}
use Rattle.model.specs.declared.Value.TheVariants.{Int, Flag}
use Rattle.model.specs.declared.Operand.{Operand}
use Rattle.model.specs.declared.Operand.TheVariants.{Port, Fixed}
use Rattle.model.specs.declared.Function.{Function}
use Rattle.model.specs.declared.Function.TheVariants.{IsTrue, IsFalse, Less, Equal}
use Rattle.model.specs.declared.Guard.{Guard}

-- Types: 0 int, 1 boolean.
abbrev pub int : ℕ
int = 0

-- the type boolean
abbrev pub boolean : ℕ
boolean = 1

-- The names of the types, by number.
abbrev pub type_names : List (List ℕ)
type_names = bytes "int" ∷ bytes "boolean" ∷ []

-- A word that a value of this type can have: a boolean is 0 or 1.
abbrev pub fits_type : ℕ → ℕ → Bool
fits_type type word = cond (eqb type boolean) (leb word 1) true

-- The value that a word of a type stands for, and the word of a value.
abbrev pub value_of : ℕ → ℕ → Value
value_of type word = cond (eqb type boolean) (Flag (eqb word 1)) (Int (to_z w32 word))

-- the word of a value: an int in 32 bits with its sign, a boolean as 0 or 1
abbrev pub word_of : Value → ℕ
word_of (Int number) = of_z w32 number
word_of (Flag true) = 1
word_of (Flag false) = 0

-- What an operand comes to where the ports hold these words.
abbrev pub operand_word : List ℕ → Operand → ℕ
operand_word ports (Port number) = get_or ports number 0
operand_word ports (Fixed value) = word_of value

-- What a guard's function says of its operands' words: `less` goes by the signed numbers.
abbrev pub says : Function → ℕ → ℕ → Bool
says IsTrue first second = eqb first 1
says IsFalse first second = eqb first 0
says Less first second = lt_z (to_z w32 first) (to_z w32 second)
says Equal first second = eqb first second

-- Whether a guard holds where the ports hold these words.
unfoldable pub holds : List ℕ → Guard → Bool
holds ports guard = says guard.function (operand_word ports guard.first) (operand_word ports guard.second)

-- The functions by number, their names and the number of their operands.
abbrev pub function_names : List (List ℕ)
function_names = bytes "isTrue" ∷ bytes "isFalse" ∷ bytes "less" ∷ bytes "equal" ∷ []

-- a guard function's number
abbrev pub function_number : Function → ℕ
function_number IsTrue = 0
function_number IsFalse = 1
function_number Less = 2
function_number Equal = 3

-- the guard function of a number
abbrev pub function_by : ℕ → Function
function_by number = get_or (IsTrue ∷ IsFalse ∷ Less ∷ Equal ∷ []) number Equal

-- how many arguments a guard function takes
abbrev pub operands_of : Function → ℕ
operands_of IsTrue = 1
operands_of IsFalse = 1
operands_of Less = 2
operands_of Equal = 2

-- The operand that is not there.
abbrev pub no_operand : Operand
no_operand = Port 0

-- what stands where no guard is
abbrev pub no_guard : Guard
no_guard = record { function = IsTrue; first = no_operand; second = no_operand }
