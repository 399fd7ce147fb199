-- What a host program is told: document 01's numbers for each answer, and where a machine stands.
use Rattle.std.specs.Prelude.{ℕ, List, [], ◌∷◌, Ok, Err}
use Rattle.std.proofs.Math.Option.{Option, none, some}
use Rattle.tables.specs.declared.Table.{Table}
use Rattle.prescribed.specs.Compiled.{Compiled}
use Rattle.machine.specs.Answers.{Meaning, reaction_means, turn_means, finishing_means}
use Rattle.machine.specs.Calls as C
use Rattle.calls.specs.declared.Standing.{Standing}
use Rattle.native.specs.declared.Translation.{Translation}
use Rattle.native.specs.declared.Held.{Held}
use Rattle.native.specs.declared.Face.{Face}

-- the compiler's answer: 0 and the length of the file, or the refusal's number and byte offset
abbrev pub translation : Compiled → Translation
translation (Ok length) = record { number = 0; place = length }
translation (Err r) = record { number = r.number; place = r.at }

-- how many instructions, sensors and modes a table has
abbrev pub counts_in : Table → List ℕ
counts_in t = t.instructions ∷ t.sensors ∷ t.modes ∷ []

-- where a machine stands, as the host is told it
abbrev pub held_of : Standing → Held
held_of at =
    record {
      clock = at.clock;
      remaining = at.remaining;
      mode = at.mode;
      pc = at.pc;
      out = at.out;
      waiting = at.waiting;
      finished = at.finished;
      stopped = at.stopped;
      fault = at.fault;
      late = at.late;
    }

-- the task that an answer names; 4294967295 where it names none
abbrev pub task_in : Option ℕ → ℕ
task_in none = 4294967295
task_in (some task) = task

-- an answer's number, instructions and task
abbrev pub face_of : Meaning → Face
face_of means = record { number = means.number; instructions = means.instructions; task = task_in means.task }

-- what tick, next and finish answer the host
abbrev pub tick_face : C.Ticked → Face
tick_face t = face_of (reaction_means t.answer)

abbrev pub turn_face : C.Handed → Face
turn_face t = face_of (turn_means t.answer)

abbrev pub finish_face : C.Finished → Face
finish_face t = face_of (finishing_means t.answer)
