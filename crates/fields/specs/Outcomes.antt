-- How what the code returns stands for a reading of the file: a value and the bytes that are left, or a refusal.
use Rattle.std.specs.Prelude.{ℕ, ◌+◌, ◌≡◌, Bool, ◌&&◌, leb, List, Result, Ok, Err}
use Rattle.codec.specs.Readings.{Reading, got, no}
use Rattle.codec.specs.Codecs.{Codec}
use Rattle.model.specs.Rooms.{port_room, all_port_room}
use Rattle.file.specs.declared.Refused.{Refused}

-- what was returned, seen by view, and the bytes that are left
abbrev pub outcome : {A B : Type 0} → (A → B) → Result A Refused → List ℕ → Reading B
outcome view (Ok a) rest = got (view a) rest
outcome view (Err e) rest = no e.number

-- a number was read
abbrev pub Reads : Codec ℕ → List ℕ → Result ℕ Refused → List ℕ → Type 0
Reads c bytes result rest = c.get bytes ≡ outcome (λ v. v) result rest

-- a task's count of inputs, or of outputs, where the tasks before have as many as are used
abbrev pub fits_share : ℕ → ℕ → Bool
fits_share used n = leb n port_room && leb (used + n) all_port_room
