-- Rows written out, and the code that they hold: computed.
use Rattle.std.specs.Prelude.{ℕ, ◌≡◌, refl, List, [], ◌∷◌, length}
use Rattle.model.specs.Instructions.{nop, future, call, release, iff, jump, return, switch}
use Rattle.timing.specs.Slots.{spans}
use Rattle.timing.specs.Rules.{next_instant}
use Rattle.timing.specs.Code.{front, back, instants_from, instants_of, later_blocks, mode_code, code_from, begins_from}
use Rattle.emit.specs.Rows.{acts_by, mode_of, modes_from, code_by, begins_by}

-- period 10: a task twice, an update twice, a switch under guard 0 to mode 1; period 4: an update
modes : List ℕ
modes = 10 ∷ 1 ∷ 1 ∷ 1 ∷ 0 ∷ 4 ∷ 0 ∷ 1 ∷ 0 ∷ 3 ∷ []

acts : List ℕ
acts = 2 ∷ 0 ∷ 0 ∷ 2 ∷ 0 ∷ 0 ∷ 1 ∷ 1 ∷ 1 ∷ 1 ∷ 0 ∷ 0 ∷ []

code-of-two : code_by modes acts 2 1 ≡
    call 2 ∷ release 0 ∷ future 4 5 ∷ return
    ∷ call 0 ∷ nop 1 ∷ call 1 ∷ nop 2 ∷ call 2 ∷ release 0 ∷ future 12 5 ∷ return
    ∷ call 0 ∷ nop 1 ∷ call 1 ∷ nop 2 ∷ iff 0 18 ∷ switch 1 ∷ jump 0
    ∷ future 21 4 ∷ return ∷ nop 1 ∷ call 3 ∷ nop 2 ∷ jump 19 ∷ []
unfolding modes acts modes_from mode_of acts_by code_from mode_code later_blocks back front instants_of instants_from next_instant spans
code-of-two = refl

begins-of-two : begins_by modes acts 2 1 ≡ 0 ∷ 19 ∷ []
unfolding modes acts modes_from mode_of acts_by begins_from mode_code later_blocks back front instants_of instants_from next_instant spans
begins-of-two = refl

-- no rows: modes of no length with nothing in them, eight at most
nothing : length (code_by [] [] 9 0) ≡ 40
unfolding modes_from mode_of acts_by code_from mode_code later_blocks back front instants_of instants_from next_instant spans
nothing = refl

-- a frequency of 0 has no slots, one that does not divide the period ends before it
odd : code_by (7 ∷ 0 ∷ 2 ∷ 0 ∷ 0 ∷ []) (0 ∷ 0 ∷ 0 ∷ 2 ∷ 0 ∷ 0 ∷ []) 1 0 ≡
    future 2 3 ∷ return
    ∷ nop 1 ∷ call 1 ∷ nop 2 ∷ future 7 3 ∷ return
    ∷ nop 1 ∷ call 1 ∷ nop 2 ∷ future 12 1 ∷ return
    ∷ nop 1 ∷ nop 2 ∷ jump 0 ∷ []
unfolding modes_from mode_of acts_by code_from mode_code later_blocks back front instants_of instants_from next_instant spans
odd = refl
