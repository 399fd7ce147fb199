-- What the code reads of each production: an item and the place behind it, or the first refusal.
use Rattle.std.specs.Prelude.{ℕ, ◌≡◌, List, Result, Ok, Err, Bool, true, false, cond, is_ok}
use Rattle.text.specs.declared.Token.{Token}
use Rattle.text.specs.declared.Token.TheVariants as T
use Rattle.text.specs.declared.Lexed.{Lexed}
use Rattle.text.specs.declared.Name.{Name}
use Rattle.text.specs.declared.Port.{Port}
use Rattle.text.specs.declared.Literal.{Literal}
use Rattle.text.specs.declared.Literal.TheVariants.{Truth, Number, Named}
use Rattle.text.specs.declared.Refusal.{Refusal}
use Rattle.text.specs.declared.State.{State}
use Rattle.text.specs.declared.State.TheVariants as Q
use Rattle.text.specs.declared.Item.{Item}
use Rattle.text.specs.declared.Item.TheVariants as I
use Rattle.text.specs.declared.ReadItem.{ReadItem}
use Rattle.text.specs.Tokens.{token_at, is}
use Rattle.text.specs.Expect.{from, want, want_word, read}
use Rattle.text.specs.Productions.{period, freq, ms, us, count_at}
use Rattle.wants.specs.Given.{told, want_of, spelling, ◌>>=◌}
use Rattle.productions.specs.declared.activities.Call.{Call}

-- what is read, or a refusal
abbrev pub Reads : Type 0 → Type 0
Reads A = Result A Refusal

-- an item and the place behind it, or a refusal, in front of a state
abbrev pub closed_of : State → Reads (Item × ℕ) → ReadItem
closed_of state (Ok part) = read part.0 state part.1
closed_of state (Err refusal) = read (I.No refusal.number refusal.at) state refusal.at

-- the next token, and the token found, which must be t
abbrev pub next : Token → List ℕ → ℕ → Reads Name
next t s at = told (want t s (from at))

abbrev pub given : Token → Lexed → Reads Name
given t found = told (want_of t found)

-- ---- values and ports

-- a literal and the place behind it, by the token found
unfoldable pub literal_by : List ℕ → Lexed → Reads (Literal × ℕ)
literal_by s found =
    let minus = next T.Number s found.end >>= λ digits. Ok (Number found.start digits true, digits.end) in
    let number = given T.Number found >>= λ digits. Ok (Number found.start digits false, digits.end) in
    let name = given T.Name found >>= λ name. Ok (Named name, name.end) in
    cond (is T.KeyTrue found) (Ok (Truth found.start true, found.end)) (
    cond (is T.KeyFalse found) (Ok (Truth found.start false, found.end)) (
    cond (is T.Minus found) minus (
    cond (is T.Number found) number
    name)))

abbrev pub literal_of : List ℕ → ℕ → Reads (Literal × ℕ)
literal_of s at = literal_by s (token_at s at)

-- a port behind its first name, and the token behind it
unfoldable pub port_by : List ℕ → Name → Lexed → Reads (Port × Lexed)
port_by s first found =
    let dotted = next T.Name s found.end >>= λ second. Ok (record { first = first; second = second; dotted = true }, token_at s second.end) in
    cond (is T.Dot found) dotted (Ok (record { first = first; second = first; dotted = false }, found))

unfoldable pub port_of : List ℕ → ℕ → Reads (Port × Lexed)
port_of s at = do
  first ← next T.Name s at
  port_by s first (token_at s first.end)

-- ---- the module

unfoldable pub module_of : List ℕ → ℕ → Reads (Item × ℕ)
module_of s at = do
  word ← next T.KeyModule s at
  name ← next T.Name s word.end
  last ← next T.LeftBrace s name.end
  Ok (I.Module name, last.end)

unfoldable pub constant_of : List ℕ → Lexed → Reads (Item × ℕ)
constant_of s found = do
  name ← given T.Name found
  equals ← next T.Equals s name.end
  value ← literal_of s equals.end
  last ← next T.Semicolon s value.1
  Ok (I.Constant name value.0, last.end)

unfoldable pub sensor_of : List ℕ → Lexed → Reads (Item × ℕ)
sensor_of s found = do
  type ← given T.Name found
  name ← next T.Name s type.end
  uses ← next T.KeyUses s name.end
  getter ← next T.Name s uses.end
  last ← next T.Semicolon s getter.end
  Ok (I.Sensor type name getter, last.end)

unfoldable pub actuator_of : List ℕ → Lexed → Reads (Item × ℕ)
actuator_of s found = do
  type ← given T.Name found
  name ← next T.Name s type.end
  becomes ← next T.Becomes s name.end
  value ← literal_of s becomes.end
  uses ← next T.KeyUses s value.1
  setter ← next T.Name s uses.end
  last ← next T.Semicolon s setter.end
  Ok (I.Actuator type name value.0 setter, last.end)

-- ---- a task

unfoldable pub task_of : List ℕ → Lexed → Reads (Item × ℕ)
task_of s found = do
  word ← given T.KeyTask found
  name ← next T.Name s word.end
  last ← next T.LeftBrace s name.end
  Ok (I.TaskBegin name, last.end)

unfoldable pub input_of : List ℕ → Lexed → Reads (Item × ℕ)
input_of s found = do
  type ← given T.Name found
  name ← next T.Name s type.end
  last ← next T.Semicolon s name.end
  Ok (I.Input type name, last.end)

unfoldable pub output_of : List ℕ → Lexed → Reads (Item × ℕ)
output_of s found = do
  type ← given T.Name found
  name ← next T.Name s type.end
  becomes ← next T.Becomes s name.end
  value ← literal_of s becomes.end
  last ← next T.Semicolon s value.1
  Ok (I.Output type name value.0, last.end)

unfoldable pub task_end_of : List ℕ → Lexed → Reads (Item × ℕ)
task_end_of s found = do
  uses ← given T.KeyUses found
  name ← next T.Name s uses.end
  semicolon ← next T.Semicolon s name.end
  last ← next T.RightBrace s semicolon.end
  Ok (I.TaskEnd name, last.end)

-- ---- a mode

-- letters as a unit, which is milli where they are "ms"
unfoldable pub unit_by : List ℕ → Name → Reads (Bool × ℕ)
unit_by s letters =
    let micro = told (spelling us s letters) >>= λ word. Ok (false, letters.end) in
    cond (is_ok (told (spelling ms s letters))) (Ok (true, letters.end)) micro

unfoldable pub unit_of : List ℕ → ℕ → Reads (Bool × ℕ)
unit_of s at = do
  letters ← next T.Name s at
  unit_by s letters

unfoldable pub mode_of : List ℕ → Bool → ℕ → ℕ → Reads (Item × ℕ)
mode_of s start begin at = do
  name ← next T.Name s at
  bracket ← next T.LeftBracket s name.end
  word ← told (want_word period s (from bracket.end))
  equals ← next T.Equals s word.end
  digits ← next T.Number s equals.end
  unit ← unit_of s digits.end
  close ← next T.RightBracket s unit.1
  last ← next T.LeftBrace s close.end
  Ok (I.ModeBegin start begin name digits unit.0, last.end)

unfoldable pub begin_of : List ℕ → Lexed → Reads (Item × ℕ)
begin_of s found =
    let started = next T.KeyMode s found.end >>= λ word. mode_of s true found.start word.end in
    let plain = given T.KeyMode found >>= λ word. mode_of s false word.start word.end in
    cond (is T.KeyStart found) started plain

unfoldable pub activity_of : List ℕ → ℕ → Lexed → Reads (Item × ℕ)
activity_of s k found = do
  bracket ← given T.LeftBracket found
  word ← told (want_word freq s (from bracket.end))
  equals ← next T.Equals s word.end
  digits ← next T.Number s equals.end
  last ← next T.RightBracket s digits.end
  Ok (I.Activity k bracket.start digits, last.end)

-- ---- a name and "(", and how many arguments follow

-- the place behind what was read, a refusal's own
abbrev pub place_of : {A : Type 0} → Reads (A × ℕ) → ℕ
place_of (Ok part) = part.1
place_of (Err refusal) = refusal.at

-- the token behind a name and its "(", where they were read
abbrev pub Behind : List ℕ → Reads (Name × ℕ) → Lexed → Type 0
Behind s head found = found ≡ token_at s (place_of head)

unfoldable pub whole_of : List ℕ → Reads (Name × ℕ) → Lexed → Token → Reads Call
whole_of s head found closing = do
  part ← head
  last ← next closing s found.end
  Ok (record { name = part.0; count = 0; next = last.end })

unfoldable pub listed_of : List ℕ → Reads (Name × ℕ) → Reads Call
listed_of s head = do
  part ← head
  Ok (record { name = part.0; count = count_at s part.1; next = part.1 })

unfoldable pub call_of : List ℕ → Reads (Name × ℕ) → Token → Bool × Reads Call
call_of s head closing =
    let found = token_at s (place_of head) in
    cond (is T.RightParen found) (true, whole_of s head found closing) (false, listed_of s head)

unfoldable pub named_of : List ℕ → Name → Reads (Name × ℕ)
named_of s name = do
  paren ← next T.LeftParen s name.end
  Ok (name, paren.end)

unfoldable pub condition_of : List ℕ → Lexed → Reads (Name × ℕ)
condition_of s found = do
  word ← given T.KeyIf found
  name ← next T.Name s word.end
  named_of s name

unfoldable pub invocation_of : List ℕ → Lexed → Reads (Name × ℕ)
invocation_of s found = do
  name ← given T.Name found
  named_of s name

unfoldable pub guard_of : List ℕ → ℕ → Lexed → ReadItem
guard_of s k found =
    let call = call_of s (condition_of s found) T.KeyThen in
    closed_of (cond call.0 (Q.Guarded k) (Q.GuardArgs k)) (call.1 >>= λ c. Ok (I.Guard c.name c.count, c.next))

unfoldable pub invoke_of : List ℕ → Lexed → ReadItem
invoke_of s found =
    let call = call_of s (invocation_of s found) T.Semicolon in
    closed_of (cond call.0 (Q.Mode 2) Q.Args) (call.1 >>= λ c. Ok (I.Invoke c.name c.count, c.next))

-- ---- an argument, with "," or with what closes the list

-- the token behind a port, or where it is refused
abbrev pub follower_of : List ℕ → Reads (Port × Lexed) → Lexed
follower_of s (Ok port) = port.1
follower_of s (Err refusal) = token_at s refusal.at

unfoldable pub last_of : List ℕ → Reads (Port × Lexed) → Token → Reads (Port × ℕ)
last_of s port closing = do
  part ← port
  paren ← given T.RightParen part.1
  last ← next closing s paren.end
  Ok (part.0, last.end)

unfoldable pub argument_of : List ℕ → ℕ → Token → Bool × Reads (Port × ℕ)
argument_of s at closing =
    let port = port_of s at in
    cond (is T.Comma (follower_of s port)) (true, port >>= λ part. Ok (part.0, part.1.end)) (false, last_of s port closing)

unfoldable pub guard_arg_of : List ℕ → ℕ → ℕ → ReadItem
guard_arg_of s k at =
    let arg = argument_of s at T.KeyThen in
    closed_of (cond arg.0 (Q.GuardArgs k) (Q.Guarded k)) (arg.1 >>= λ part. Ok (I.GuardArg part.0, part.1))

unfoldable pub arg_of : List ℕ → ℕ → ReadItem
arg_of s at =
    let arg = argument_of s at T.Semicolon in
    closed_of (cond arg.0 Q.Args (Q.Mode 2)) (arg.1 >>= λ part. Ok (I.Arg part.0, part.1))

-- ---- what an activity does

unfoldable pub update_of : List ℕ → Lexed → Reads (Item × ℕ)
update_of s found = do
  actuator ← given T.Name found
  becomes ← next T.Becomes s actuator.end
  source ← port_of s becomes.end
  last ← given T.Semicolon source.1
  Ok (I.Update actuator source.0, last.end)

unfoldable pub switch_of : List ℕ → Lexed → Reads (Item × ℕ)
switch_of s found = do
  mode ← given T.Name found
  last ← next T.Semicolon s mode.end
  Ok (I.Switch mode, last.end)
