-- The code that a module prescribes (document 01, 'The code').
use Rattle.std.specs.Prelude.{ℕ, zero, suc, ◌+◌, ◌-◌, true, false, List, [], ◌∷◌, ◌++◌, map, length, ltb}
use Rattle.std.proofs.Math.Option.{Option, none, some}
use Rattle.model.specs.Modules.{Module, Mode, Task, Act, Call, Update, each}
use Rattle.model.specs.Instructions.{Instr, nop, future, call, release, iff, jump, return, switch, Driver, updates, releases, terminates}
use Rattle.timing.specs.Slots.{closing, opening}
use Rattle.timing.specs.Rules.{next_instant}

-- ---- drivers: terminate for each task; then for each mode its updates and its releases

-- the termination drivers, one for each task
abbrev pub terminates_from : ℕ → List Task → List Driver
terminates_from k [] = []
terminates_from k (task ∷ tasks) = terminates k ∷ terminates_from (k + 1) tasks

abbrev pub mode_drivers : Mode → List Driver
mode_drivers m = map (λ a. updates a.what.source a.what.target) m.updates ++ map (λ a. releases a.what.task a.what.sources) m.calls

-- the drivers of a module: terminations, then mode by mode updates and releases
unfoldable pub drivers_of : Module → List Driver
drivers_of M = terminates_from 0 M.tasks ++ each mode_drivers M.modes

-- an activity with the number of its driver
pub record Driven (A : Type 0) : Type 0 where
  pub driver : ℕ
  pub does : A

-- activities with their drivers' numbers, from a number on
abbrev pub driven_from : {A : Type 0} → ℕ → List (Act A) → List (Act (Driven A))
driven_from n [] = []
driven_from n (a ∷ rest) = record { frequency = a.frequency; guard = a.guard; what = record { driver = n; does = a.what } } ∷ driven_from (n + 1) rest

-- the drivers of a mode's updates stand from n on, those of its releases behind them
abbrev pub driven_updates : ℕ → Mode → List (Act (Driven Update))
driven_updates n m = driven_from n m.updates

-- a mode's invocations with their drivers' numbers, behind the updates'
abbrev pub driven_calls : ℕ → Mode → List (Act (Driven Call))
driven_calls n m = driven_from (n + length m.updates) m.calls

-- ---- pieces of code, each a function of the place where it stands

-- a piece of code, as a function of its place
abbrev pub Piece : Type 0
Piece = ℕ → List Instr

infixr 60 ◌⊕◌
-- one piece behind the other
abbrev pub ◌⊕◌ : Piece → Piece → Piece
◌⊕◌ p q pc = p pc ++ q (pc + length (p pc))

-- code that does not depend on its place
abbrev pub fixed : List Instr → Piece
fixed instrs pc = instrs

-- A guarded activity has an `if` in front whose else goes behind it.
abbrev pub guarded : Option ℕ → List Instr → Piece
guarded none body pc = body
guarded (some guard) body pc = iff guard (pc + suc (length body)) ∷ body

-- the pieces of activities, one behind the other
abbrev pub pieces : {A : Type 0} → (A → List Instr) → List (Act A) → Piece
pieces body [] = fixed []
pieces body (a ∷ rest) = guarded a.guard (body a.what) ⊕ pieces body rest

-- A termination has no `if`; its driver's number is its task's.
abbrev pub terminating : List (Act Call) → List Instr
terminating [] = []
terminating (a ∷ rest) = call a.what.task ∷ terminating rest

-- what an update does
abbrev pub updating : Driven Update → List Instr
updating u = call u.driver ∷ []

-- what a switch does
abbrev pub switching : ℕ → List Instr
switching target = switch target ∷ []

-- A release is call, release.
abbrev pub releasing : Driven Call → List Instr
releasing c = call c.driver ∷ release c.does.task ∷ []

-- ---- blocks. n is the first driver of the mode

-- terminations in text order, nop 1, updates, nop 2, switches
unfoldable pub front : ℕ → Mode → ℕ → Piece
front n m t =
    fixed (terminating (closing m.period t m.calls))
    ⊕ (fixed (nop 1 ∷ [])
    ⊕ (pieces updating (closing m.period t (driven_updates n m))
    ⊕ (fixed (nop 2 ∷ [])
    ⊕ pieces switching (closing m.period t m.switches))))

-- Future names the next block and the distance.
abbrev pub await : ℕ → Piece
await distance pc = future (pc + 2) distance ∷ return ∷ []

-- releases, future, return
unfoldable pub back : ℕ → Mode → ℕ → ℕ → Piece
back n m t distance = pieces releasing (opening m.period t (driven_calls n m)) ⊕ await distance

-- the instants after t inside the period, at most `most` of them
unfoldable pub instants_from : ℕ → Mode → ℕ → List ℕ
instants_from zero m t = []
instants_from (suc most) m t = elim (ltb (next_instant m t) m.period) [ true ↦ next_instant m t ∷ instants_from most m (next_instant m t) | false ↦ [] ]

-- the instants of a mode
unfoldable pub instants_of : Mode → List ℕ
instants_of m = instants_from m.period m 0

-- the first of a list, or another
abbrev pub first_or : ℕ → List ℕ → ℕ
first_or n [] = n
first_or n (t ∷ ts) = t

-- one block for each of these instants, and an end block; the begin block stands at `begin`
unfoldable pub later_blocks : ℕ → Mode → ℕ → List ℕ → Piece
later_blocks n m begin [] = front n m m.period ⊕ fixed (jump begin ∷ [])
later_blocks n m begin (t ∷ ts) = front n m t ⊕ (back n m t (first_or m.period ts - t) ⊕ later_blocks n m begin ts)

-- a begin block: releases at 0, future, return; then the others
unfoldable pub mode_code : ℕ → Mode → Piece
mode_code n m begin = (back n m 0 (first_or m.period (instants_of m)) ⊕ later_blocks n m begin (instants_of m)) begin

abbrev pub mode_driver_count : Mode → ℕ
mode_driver_count m = length m.updates + length m.calls

-- For each mode, in order.
unfoldable pub code_from : ℕ → List Mode → Piece
code_from n [] = fixed []
code_from n (m ∷ ms) = mode_code n m ⊕ code_from (n + mode_driver_count m) ms

-- where each mode's begin block stands
unfoldable pub begins_from : ℕ → List Mode → ℕ → List ℕ
begins_from n [] pc = []
begins_from n (m ∷ ms) pc = pc ∷ begins_from (n + mode_driver_count m) ms (pc + length (mode_code n m pc))

-- the code of a module
unfoldable pub code_of : Module → List Instr
code_of M = code_from (length M.tasks) M.modes 0

-- the modes' begin places
unfoldable pub begins_of : Module → List ℕ
begins_of M = begins_from (length M.tasks) M.modes 0
