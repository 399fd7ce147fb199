-- The lines of an input: what is held of it, what a look at that finds, and what a call answers.
use Rattle.std.specs.Prelude.{ℕ, ◌≡◌, ◌≢◌, ◌+◌, ◌≤◌, ◌<◌, ◌⊎◌, List, [], ◌∷◌, ◌++◌, Bool, true, false, length, slice_range, All, Contains, Option, if◌then◌else◌}
use Rattle.std.specs.Io.KnownBytes.{Consumes}
use Rattle.std.specs.Io.BufRead.{Rests}
use Rattle.std.specs.Borrow.{Fml, MutBor}
use mir.Syntax.{named}
use Rattle.lines.specs.declared.input.Lines.{Lines}
use Rattle.lines.specs.declared.input.Found.{Found}
use Rattle.lines.specs.declared.input.Found.TheVariants.{Line, Long, End}
use Rattle.lines.specs.declared.input.Step.{Step}
use Rattle.lines.specs.declared.input.Step.TheVariants.{Line as LineAt, Long as LongAt, End as EndAt, More}
use Rattle.lines.specs.contracts.input.Lines.{the_row}

-- what is held of the input
abbrev pub held : Lines → List ℕ
held lines = slice_range lines.buffer.now lines.from lines.to

-- no LF is among some bytes
abbrev pub Unbroken : List ℕ → Type 0
Unbroken bytes = All (λ byte. byte ≢ 10) bytes

-- some bytes begin with a line, and so much is left of them: what stands behind its LF, or nothing at the end of the input
abbrev pub Ends : List ℕ → List ℕ → List ℕ → Type 0
Ends all line rest = Unbroken line × ((all ≡ line ++ 10 ∷ rest) ⊎ ((all ≡ line) × (rest ≡ []) × (0 < length line)))

-- what is left of some bytes behind those that are passed over: none are, or those with the first LF, or some without an LF of which more may come
abbrev pub Passed : Bool → Bool → List ℕ → List ℕ → Type 0
Passed false false all rest = all ≡ rest
Passed false true all rest = ⊥
Passed true false all rest = (line : List ℕ) × Unbroken line × (all ≡ line ++ 10 ∷ rest)
Passed true true all rest = (line : List ℕ) × Unbroken line × (all ≡ line ++ rest)

-- nothing is read where a line too long ends
abbrev pub EndsPassed : Lines → Lines → List ℕ → Type 0
EndsPassed old new read = (read ≡ []) × (old.over ≡ true) × (new.over ≡ false) × Passed true false (held old) (held new)

-- some are read behind what is held, in which no line ends, or in place of what is passed over
abbrev pub IsFilled : Lines → Lines → List ℕ → Type 0
IsFilled old new read = (0 < length read) × Unbroken (held old) × (new.over ≡ old.over) × (held new ≡ (if old.over then [] else held old) ++ read)

-- a look at what is held finds a line of it, all of it as a line too long, the end, or that more of the input is wanted
abbrev pub Looks : Option (List ℕ) → Option (List ℕ) → Lines → Lines → Step → Type 0
Looks was now old new (LineAt from to) = Consumes was now [] × (old.over ≡ false) × (new.over ≡ false) × (from ≤ to) × (to < length new.buffer.now) × Ends (held old) (slice_range new.buffer.now from to) (held new)
Looks was now old new LongAt = Consumes was now [] × (old.over ≡ false) × (new.over ≡ true) × Unbroken (held old) × (length (held old) ≡ length old.buffer.now) × (held new ≡ [])
Looks was now old new EndAt = Consumes was now [] × (new.over ≡ old.over) × Passed old.over old.over (held old) [] × (held new ≡ []) × (old.over ≡ false → 0 < length old.buffer.now)
Looks was now old new More = (read : List ℕ) × Consumes was now read × (EndsPassed old new read ⊎ IsFilled old new read)

-- something was found, and a line found stands in the buffer
abbrev pub IsWithin : Lines → Step → Type 0
IsWithin lines (LineAt from to) = (from ≤ to) × (to ≤ length lines.buffer.now)
IsWithin lines More = ⊥
IsWithin lines _ = Unit {0}

-- what was found, with the bytes of a line
abbrev pub Shows : Lines → Step → Found → Type 0
Shows lines (LineAt from to) (Line line) = line.now ≡ slice_range lines.buffer.now from to
Shows lines LongAt Long = Unit {0}
Shows lines EndAt End = Unit {0}
Shows lines _ _ = ⊥

-- a line answered has no LF and is shorter than the room that it stands in
abbrev pub IsLine : ℕ → Found → Type 0
IsLine room (Line line) = Unbroken line.now × (length line.now < room)
IsLine room _ = Unit {0}

-- what is left begins with the line answered, or is a line too long, and nothing more is passed over; at the end nothing is left
abbrev pub Tells : Lines → Bool → List ℕ → Lines → Found → Type 0
Tells old over rest new (Line line) = (over ≡ false) × (new.over ≡ false) × (length line.now < length old.buffer.now) × Ends rest line.now (held new)
Tells old over rest new Long = (over ≡ false) × (new.over ≡ true) × Unbroken rest × (length rest ≡ length old.buffer.now) × (held new ≡ [])
Tells old over rest new End = (new.over ≡ over) × (rest ≡ []) × (held new ≡ []) × (over ≡ false → 0 < length old.buffer.now)

-- so much was read and passed over, and that is answered; nothing is read where a line ends in what is held behind what is passed over
pub record Gives (was now : Option (List ℕ)) (old new : Lines) (found : Found) : Type 0 where
  pub read : List ℕ
  pub over : Bool
  pub rest : List ℕ
  pub consumed : Consumes was now read
  pub at_once : (behind : List ℕ) → Passed old.over false (held old) behind → Contains behind 10 → read ≡ []
  pub passed : Passed old.over over (held old ++ read) rest
  pub told : Tells old over rest new found
  pub room : length new.buffer.now ≡ length old.buffer.now
  pub same_reference : new.buffer.ghost_name ≡ old.buffer.ghost_name

-- where a line too long ended, one look more than bytes were read
abbrev pub unread_looks : Bool → Bool → ℕ
unread_looks true false = 1
unread_looks _ _ = 0

-- so far only more of the input was wanted, so many times, and a byte or more was read each time but one
pub record Going (was now : Option (List ℕ)) (old new : Lines) (turn : ℕ) : Type 0 where
  pub read : List ℕ
  pub consumed : Consumes was now read
  pub at_once : (behind : List ℕ) → Passed old.over false (held old) behind → Contains behind 10 → read ≡ []
  pub passed : Passed old.over new.over (held old ++ read) (held new)
  pub turns : turn ≤ length read + unread_looks old.over new.over
  pub room : length new.buffer.now ≡ length old.buffer.now
  pub same_reference : new.buffer.ghost_name ≡ old.buffer.ghost_name

-- something is found, or more is still wanted after 2^64 - 1 looks
abbrev pub Advances : Option (List ℕ) → Option (List ℕ) → Lines → Lines → Step → Type 0
Advances was now old new More = Going was now old new 18446744073709551615
Advances was now old new step = IsWithin new step × ((found : Found) → Shows new step found → Gives was now old new found)

-- that is answered, with some lines left
abbrev pub Answers : Option (List ℕ) → Option (List ℕ) → Lines → Found → Type 0
Answers was now old found = (left : Lines) × Gives was now old left found

-- that, once the line is no longer borrowed
abbrev pub GivesOnce : Option (List ℕ) → Option (List ℕ) → MutBor Lines → Found → Fml
GivesOnce was now lines found = Rests (the_row (record { mir = named 1; lft = [] })) lines (λ new. Gives was now lines.now new found)
