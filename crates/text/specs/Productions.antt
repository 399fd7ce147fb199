-- The productions of the grammar, read token by token. An item is as much of one as stands between two repetitions.
-- A working definition: crate grammar states document 01's grammar as data, and proves that what is refused, and what is read, is the grammar's.
-- Names have no meaning yet: of a value, a port or an argument only the tokens count.
use Rattle.std.specs.Prelude.{ℕ, zero, suc, ◌+◌, ◌-◌, List, Bool, true, false, cond, eqb, ltb, length}
use Rattle.model.specs.Bytes.{bytes}
use Rattle.text.specs.declared.Token.TheVariants as T
use Rattle.text.specs.declared.Got.{Got}
use Rattle.text.specs.declared.ReadPort.{ReadPort}
use Rattle.text.specs.declared.Literal.{Literal}
use Rattle.text.specs.declared.Literal.TheVariants.{Truth, Number, Named}
use Rattle.text.specs.declared.ReadLiteral.{ReadLiteral}
use Rattle.text.specs.declared.State.TheVariants as Q
use Rattle.text.specs.declared.Item.TheVariants as I
use Rattle.text.specs.declared.ReadItem.{ReadItem}
use Rattle.text.specs.Tokens.{token_at, code_of, code_at, stands}
use Rattle.text.specs.Expect.{got, want, want_any, want_word, either, name_of, closed}

-- ---- Value: "true", "false", ["-"] number, or an earlier constant's name.

-- a literal that was read, and where it ends
abbrev pub literal_of : Got → Literal → ReadLiteral
literal_of last literal = record { bad = last.bad; start = last.start; end = last.end; literal = literal }

-- a value as the reading that goes on behind it
abbrev pub past_literal : ReadLiteral → Got
past_literal read = got read.bad read.start read.end

-- a literal: true or false
unfoldable pub truth_at : List ℕ → Got → Bool → ReadLiteral
truth_at s g truth =
    let word = want_any s g in
    literal_of word (Truth word.start truth)

-- a literal: a minus and a number
unfoldable pub minus_at : List ℕ → Got → ReadLiteral
minus_at s g =
    let minus = want T.Minus s g in
    let number = want T.Number s minus in
    literal_of number (Number minus.start (name_of number) true)

-- a literal: a number
unfoldable pub number_at : List ℕ → Got → ReadLiteral
number_at s g =
    let number = want T.Number s g in
    literal_of number (Number number.start (name_of number) false)

-- a literal: the name of a constant
unfoldable pub named_at : List ℕ → Got → ReadLiteral
named_at s g =
    let name = want T.Name s g in
    literal_of name (Named (name_of name))

-- a literal
unfoldable pub literal_at : List ℕ → Got → ReadLiteral
literal_at s g =
    cond (stands T.KeyTrue s g.end) (truth_at s g true) (
    cond (stands T.KeyFalse s g.end) (truth_at s g false) (
    cond (stands T.Minus s g.end) (minus_at s g) (
    cond (stands T.Number s g.end) (number_at s g) (
    named_at s g))))

-- ---- Port: a sensor's name, or task "." output. Arg: a port or a constant's name.

-- a port that was read: a name, or two with a dot between
abbrev pub port_of : Got → Got → Got → Bool → ReadPort
port_of last first second dotted =
    record { bad = last.bad; start = last.start; end = last.end; port = record { first = name_of first; second = name_of second; dotted = dotted } }

-- where a port that was read ends
abbrev pub past_port : ReadPort → Got
past_port read = got read.bad read.start read.end

-- a port: a name, or task and port with a dot between
unfoldable pub port_at : List ℕ → Got → ReadPort
port_at s g =
    let name = want T.Name s g in
    let output = want T.Name s (want T.Dot s name) in
    cond (stands T.Dot s name.end) (port_of output name output true) (port_of name name name false)

-- ---- Module

-- "module" name "{"
unfoldable pub module_at : List ℕ → Got → ReadItem
module_at s g =
    let word = want T.KeyModule s g in
    let name = want T.Name s word in
    let last = want T.LeftBrace s name in
    closed (I.Module (name_of name)) (Q.Module 1) last

-- name "=" value ";"
unfoldable pub constant_at : List ℕ → Got → ReadItem
constant_at s g =
    let name = want T.Name s g in
    let equals = want T.Equals s name in
    let value = literal_at s equals in
    let last = want T.Semicolon s (past_literal value) in
    closed (I.Constant (name_of name) value.literal) (Q.Module 2) last

-- type name "uses" name ";"
unfoldable pub sensor_at : List ℕ → Got → ReadItem
sensor_at s g =
    let type = want T.Name s g in
    let name = want T.Name s type in
    let uses = want T.KeyUses s name in
    let getter = want T.Name s uses in
    let last = want T.Semicolon s getter in
    closed (I.Sensor (name_of type) (name_of name) (name_of getter)) (Q.Module 3) last

-- type name ":=" value "uses" name ";"
unfoldable pub actuator_at : List ℕ → Got → ReadItem
actuator_at s g =
    let type = want T.Name s g in
    let name = want T.Name s type in
    let becomes = want T.Becomes s name in
    let value = literal_at s becomes in
    let uses = want T.KeyUses s (past_literal value) in
    let setter = want T.Name s uses in
    let last = want T.Semicolon s setter in
    closed (I.Actuator (name_of type) (name_of name) value.literal (name_of setter)) (Q.Module 4) last

-- ---- Task

-- "task" name "{"
unfoldable pub task_at : List ℕ → Got → ReadItem
task_at s g =
    let word = want T.KeyTask s g in
    let name = want T.Name s word in
    let last = want T.LeftBrace s name in
    closed (I.TaskBegin (name_of name)) (Q.Task 1) last

-- input: type name ";"
unfoldable pub input_at : List ℕ → Got → ReadItem
input_at s g =
    let type = want T.Name s g in
    let name = want T.Name s type in
    let last = want T.Semicolon s name in
    closed (I.Input (name_of type) (name_of name)) (Q.Task 2) last

-- output: type name ":=" value ";"
unfoldable pub output_at : List ℕ → Got → ReadItem
output_at s g =
    let type = want T.Name s g in
    let name = want T.Name s type in
    let becomes = want T.Becomes s name in
    let value = literal_at s becomes in
    let last = want T.Semicolon s (past_literal value) in
    closed (I.Output (name_of type) (name_of name) value.literal) (Q.Task 3) last

-- "uses" name ";" "}"
unfoldable pub task_end_at : List ℕ → Got → ReadItem
task_end_at s g =
    let uses = want T.KeyUses s g in
    let name = want T.Name s uses in
    let semicolon = want T.Semicolon s name in
    let last = want T.RightBrace s semicolon in
    closed (I.TaskEnd (name_of name)) (Q.Module 5) last

-- ---- Mode

-- the word before a mode's period
abbrev pub period : List ℕ
period = bytes "period"

-- the word before a frequency
abbrev pub freq : List ℕ
freq = bytes "freq"

-- the unit of milliseconds
abbrev pub ms : List ℕ
ms = bytes "ms"

-- the unit of microseconds
abbrev pub us : List ℕ
us = bytes "us"

-- "mode" name "[" "period" "=" number unit "]" "{": the mode that begins at `at`, behind its "mode"
unfoldable pub mode_of : List ℕ → Bool → ℕ → Got → ReadItem
mode_of s start at word =
    let name = want T.Name s word in
    let bracket = want T.LeftBracket s name in
    let period_word = want_word period s bracket in
    let equals = want T.Equals s period_word in
    let number = want T.Number s equals in
    let milli = want_word ms s number in
    let unit = either milli (want_word us s number) in
    let close = want T.RightBracket s unit in
    let last = want T.LeftBrace s close in
    closed (I.ModeBegin start at (name_of name) (name_of number) (eqb milli.bad 0)) (Q.Mode 1) last

-- ["start"] mode
unfoldable pub mode_at : List ℕ → Got → ReadItem
mode_at s g =
    let start = want_any s g in
    let started = want T.KeyMode s start in
    let word = want T.KeyMode s g in
    cond (stands T.KeyStart s g.end) (mode_of s true start.start started) (mode_of s false word.start word)

-- Act: "[" "freq" "=" number "]", in section k
unfoldable pub activity_at : List ℕ → ℕ → Got → ReadItem
activity_at s k g =
    let bracket = want T.LeftBracket s g in
    let freq_word = want_word freq s bracket in
    let equals = want T.Equals s freq_word in
    let number = want T.Number s equals in
    let last = want T.RightBracket s number in
    closed (I.Activity k bracket.start (name_of number)) (Q.Act k) last

-- ---- how many arguments stand between parentheses

-- names, dots and commas
abbrev pub is_part : ℕ → Bool
is_part c = cond (eqb c (code_of T.Comma)) true (cond (eqb c (code_of T.Name)) true (eqb c (code_of T.Dot)))

-- one more where the token is a comma
abbrev pub comma : ℕ → ℕ → ℕ
comma c n = cond (eqb c (code_of T.Comma)) (suc n) n

-- the commas in a run of names, dots and commas
unfoldable pub commas_in : ℕ → List ℕ → ℕ → ℕ
commas_in zero s at = 0
commas_in (suc fuel) s at =
    let c = code_at s at in
    let on = commas_in fuel s (token_at s at).end in
    let more = comma c on in
    let here = cond (is_part c) more 0 in
    cond (ltb at (length s)) here 0

-- the commas in the run of names, dots and commas from a place on
abbrev pub commas_from : List ℕ → ℕ → ℕ
commas_from s at = commas_in (length s - at) s at

-- the number of arguments behind "(", where ")" does not follow at once
unfoldable pub count_at : List ℕ → ℕ → ℕ
count_at s at = 1 + commas_from s at

-- ---- guards: "if" name "(" [arg {"," arg}] ")" "then", in section k

-- the whole where it has no argument, else up to the first
unfoldable pub guard_at : List ℕ → ℕ → Got → ReadItem
guard_at s k g =
    let word = want T.KeyIf s g in
    let name = want T.Name s word in
    let paren = want T.LeftParen s name in
    let last = want T.KeyThen s (want T.RightParen s paren) in
    cond (stands T.RightParen s paren.end)
    (closed (I.Guard (name_of name) 0) (Q.Guarded k) last)
    (closed (I.Guard (name_of name) (count_at s paren.end)) (Q.GuardArgs k) paren)

-- arg ",", or arg ")" "then"
unfoldable pub guard_arg_at : List ℕ → ℕ → Got → ReadItem
guard_arg_at s k g =
    let arg = port_at s g in
    let past = past_port arg in
    cond (stands T.Comma s past.end)
    (closed (I.GuardArg arg.port) (Q.GuardArgs k) (want T.Comma s past))
    (closed (I.GuardArg arg.port) (Q.Guarded k) (want T.KeyThen s (want T.RightParen s past)))

-- ---- activities behind their guard

-- task: name "(" [port {"," port}] ")" ";", the whole where it has no port, else up to the first
unfoldable pub invoke_at : List ℕ → Got → ReadItem
invoke_at s g =
    let name = want T.Name s g in
    let paren = want T.LeftParen s name in
    let last = want T.Semicolon s (want T.RightParen s paren) in
    cond (stands T.RightParen s paren.end)
    (closed (I.Invoke (name_of name) 0) (Q.Mode 2) last)
    (closed (I.Invoke (name_of name) (count_at s paren.end)) Q.Args paren)

-- port ",", or port ")" ";"
unfoldable pub arg_at : List ℕ → Got → ReadItem
arg_at s g =
    let arg = port_at s g in
    let past = past_port arg in
    cond (stands T.Comma s past.end)
    (closed (I.Arg arg.port) Q.Args (want T.Comma s past))
    (closed (I.Arg arg.port) (Q.Mode 2) (want T.Semicolon s (want T.RightParen s past)))

-- actuator: name ":=" port ";"
unfoldable pub update_at : List ℕ → Got → ReadItem
update_at s g =
    let name = want T.Name s g in
    let becomes = want T.Becomes s name in
    let source = port_at s becomes in
    let last = want T.Semicolon s (past_port source) in
    closed (I.Update (name_of name) source.port) (Q.Mode 3) last

-- mode: name ";"
unfoldable pub switch_at : List ℕ → Got → ReadItem
switch_at s g =
    let name = want T.Name s g in
    let last = want T.Semicolon s name in
    closed (I.Switch (name_of name)) (Q.Mode 4) last
