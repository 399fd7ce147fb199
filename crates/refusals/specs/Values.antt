-- Types and values as they are written: which type, which word, and the rules 4, 6, 7 and 8 that they must keep.
use Rattle.std.specs.Prelude.{ℕ, ◌-◌, ◌%◌, ◌^◌, List, [], ◌∷◌, Bool, cond}
use Rattle.text.specs.declared.Name.{Name}
use Rattle.text.specs.declared.Literal.{Literal}
use Rattle.text.specs.declared.Literal.TheVariants.{Truth, Number, Named}
use Rattle.text.specs.Words.{value}
use Rattle.model.specs.Bytes.{place_in}
use Rattle.model.specs.Values.{int, boolean, type_names}
use Rattle.refusals.specs.declared.Row.{Row}
use Rattle.refusals.specs.Checks.{Check}
use Rattle.refusals.specs.Names.{letters, named, module_scope, constant_sort, no_type}
use Rattle.refusals.specs.Refusals.{long_name, not_here, not_given, wrong_type, beyond_int, out_of_range}

-- the number that digits stand for
abbrev pub number_of : List ℕ → Name → ℕ
number_of s digits = value (letters s digits)

-- the type of this name; `no_type` where it is not given
abbrev pub type_named : List ℕ → Name → ℕ
type_named s name = place_in type_names 0 (letters s name)

-- an int in two's complement; -0 is 0
abbrev pub int_word : ℕ → Bool → ℕ
int_word number minus = cond minus ((2 ^ 32 - number) % 2 ^ 32) number

-- an earlier constant's name
abbrev pub constant_named : List ℕ → List Row → Name → Row
constant_named s rows name = named s rows module_scope constant_sort name

-- the type of a literal
abbrev pub literal_type : List ℕ → List Row → Literal → ℕ
literal_type s rows (Truth at truth) = boolean
literal_type s rows (Number at digits minus) = int
literal_type s rows (Named name) = (constant_named s rows name).typ

-- the word of a literal
abbrev pub literal_word : List ℕ → List Row → Literal → ℕ
literal_word s rows (Truth at truth) = cond truth 1 0
literal_word s rows (Number at digits minus) = int_word (number_of s digits) minus
literal_word s rows (Named name) = (constant_named s rows name).value

-- a type's name
unfoldable pub type_rules : List ℕ → Name → List Check
type_rules s name = long_name name ∷ not_given no_type (type_named s name) name ∷ []

-- a name that is used, for something of a type
unfoldable pub use_rules : ℕ → Row → Name → List Check
use_rules wanted row name = long_name name ∷ not_here row name ∷ wrong_type wanted row.typ name.start ∷ []

-- a value, where a type is wanted
unfoldable pub value_rules : List ℕ → List Row → ℕ → Literal → List Check
value_rules s rows wanted (Truth at truth) = wrong_type wanted boolean at ∷ []
value_rules s rows wanted (Number at digits minus) = wrong_type wanted int at ∷ out_of_range (beyond_int (number_of s digits) minus) digits ∷ []
value_rules s rows wanted (Named name) = use_rules wanted (constant_named s rows name) name
