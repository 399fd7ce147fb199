-- The words in which demand 3 speaks of a machine, its calls and answers, beside the timing rules (timing, Rules and Calls).
-- Definitions only; the theorems stand in Demands.
use Rattle.std.specs.Prelude.{ℕ, ◌+◌, ◌≡◌, ◌⊎◌, Bool, true, false, cond, ◌&&◌, ◌||◌, not, List, [], ◌∷◌, ◌++◌, map, length, get_or, take, eqb, Ok, Err}
use Rattle.std.proofs.Math.Option.{Option, none, some}
use Rattle.model.specs.Modules.{Module, Act, Call, Update}
use Rattle.timing.specs.Slots.{closing}
use Rattle.timing.specs.Rules.{Standing, idle, done, mode_at, outputs_of}
use Rattle.timing.specs.Calls.{View, remains, ask}
use Rattle.timing.specs.Accepted.{ports}
use Rattle.timing.specs.Ticks.{Due, next_time}
use Rattle.timing.specs.Lates.{ending_next}
use Rattle.timing.specs.Orders.{among}
use Rattle.timing.specs.Changes.{tasks_of}
use Rattle.timing.specs.Counts.{ended_out}
use Rattle.timing.specs.Docks.{reply_to}
use Rattle.machine.specs.Asks.{Ask, tick, next, finish, Answer, ticking, turning, finishing}
use Rattle.machine.specs.declared.Reaction.TheVariants.{Obeyed, Idle, Refused, Late, Fault}
use Rattle.machine.specs.Words.{has}
use Rattle.calls.specs.declared.Standing.{Standing as Where}
use Rattle.emachine.specs.declared.Machine.{Machine}
use Rattle.emachine.specs.Machines.{state_in}
use Rattle.bridge.specs.Views.{stand_of, row_of}
use Rattle.bridge.specs.OrderKept.{Seen, seen_in, noted}
use Rattle.demands.specs.Uses.{Runs, Launch, module_in, first}

-- ---- a machine that shows what the rules say

-- stopped by 40 and this task, or not stopped
abbrev pub Halted : Option ℕ → Where → Type 0
Halted none at = at.stopped ≡ false
Halted (some task) at = (at.stopped ≡ true) × ((at.fault ≡ 40) × (at.late ≡ task))

-- the word in a port of the module, and how far a task has come
abbrev pub word : Module → Machine → ℕ → ℕ
word M m i = get_or (take (ports M) m.ports) i 0

abbrev pub standing : Module → Machine → ℕ → Standing
standing M m j = stand_of (has m.standing.out j) (has m.standing.waiting j) (has m.standing.finished j) (row_of M m.aside j)

-- Clock, remaining time and mode; the word of every port of the module; of every task whether it is out, waits or is finished, and its results; whether the machine is stopped by a late task.
pub record Same (M : Module) (m : Machine) (v : View) : Type 0 where
  pub clock : m.standing.clock ≡ v.clock
  pub remaining : m.standing.remaining ≡ remains M v.place
  pub mode : m.standing.mode ≡ v.place.mode
  pub ports-are : take (ports M) m.ports ≡ v.place.store.ports
  pub tasks-are : (j : ℕ) → standing M m j ≡ get_or v.place.store.tasks j idle
  pub halted : Halted v.stopped m.standing

-- ---- in time, on calls and answers

-- a finish of task j
abbrev pub finishes : Ask → ℕ → Bool
finishes (tick count types words) j = false
finishes next j = false
finishes (finish task types words) j = eqb j task

-- A call that releases task j: a tick that is answered Obeyed, at an instant at which the rules release it.
abbrev pub Releases : Answer → List ℕ → ℕ → Type 0
Releases (ticking (Obeyed n)) released j = among j released ≡ true
Releases (ticking Idle) released j = ⊥
Releases (ticking (Refused number)) released j = ⊥
Releases (ticking (Late task)) released j = ⊥
Releases (ticking (Fault number)) released j = ⊥
Releases (turning x) released j = ⊥
Releases (finishing x) released j = ⊥

-- A call that finishes task j: a finish of it that is answered Taken.
abbrev pub Finishes : Ask → Answer → ℕ → Type 0
Finishes a (ticking x) j = ⊥
Finishes a (turning x) j = ⊥
Finishes a (finishing (Ok _)) j = finishes a j ≡ true
Finishes a (finishing (Err why)) j = ⊥

module _ (M : Module) where
  -- not the tick that ends a slot of task j
  abbrev pub Before : Ask → View → ℕ → Type 0
  Before (tick count types words) v j = Due M v count types words → among j (tasks_of (ending_next M v)) ≡ false
  Before next v j = Unit {0}
  Before (finish task types words) v j = Unit {0}

  -- From here on task j is finished before the tick that ends its slot.
  abbrev pub FinishedFirst : ℕ → List Ask → List Answer → View → Type 0
  FinishedFirst j [] answers v = Unit {0}
  FinishedFirst j (a ∷ calls) [] v = Unit {0}
  FinishedFirst j (a ∷ calls) (x ∷ answers) v = Finishes a x j ⊎ (Before a v j × FinishedFirst j calls answers (ask M a v).view)

  -- So is every task that is released, from its release on.
  abbrev pub EachInTime : List Ask → List Answer → View → Type 0
  EachInTime [] answers v = Unit {0}
  EachInTime (a ∷ calls) [] v = Unit {0}
  EachInTime (a ∷ calls) (x ∷ answers) v =
      ((j : ℕ) → Releases x (ask M a v).view.place.released j → FinishedFirst j calls answers (ask M a v).view) × EachInTime calls answers (ask M a v).view

-- Every released task is finished before the tick that ends its slot; the start releases too.
pub record InTime (l : Launch) (calls : List Ask) (answers : List Answer) : Type 0 where
  pub started-ones : (j : ℕ) → among j (first l).place.released ≡ true → FinishedFirst (module_in l) j calls answers (first l)
  pub later_ones : EachInTime (module_in l) calls answers (first l)

-- ---- late, on calls and answers

-- The tasks owed: from the release on, until a finish is answered Taken.
abbrev pub owing : Ask → Answer → List ℕ → (ℕ → Bool) → ℕ → Bool
owing a (ticking (Obeyed n)) released owed j = owed j || among j released
owing a (ticking Idle) released owed j = owed j
owing a (ticking (Refused number)) released owed j = owed j
owing a (ticking (Late task)) released owed j = owed j
owing a (ticking (Fault number)) released owed j = owed j
owing a (turning x) released owed j = owed j
owing a (finishing (Ok _)) released owed j = owed j && not (finishes a j)
owing a (finishing (Err why)) released owed j = owed j

abbrev pub still_owed : Module → List Ask → List Answer → View → (ℕ → Bool) → ℕ → Bool
still_owed M [] answers v owed = owed
still_owed M (a ∷ calls) [] v owed = owed
still_owed M (a ∷ calls) (x ∷ answers) v owed = still_owed M calls answers (ask M a v).view (owing a x (ask M a v).view.place.released owed)

-- owed behind the start, and behind calls
abbrev pub owed_first : Launch → ℕ → Bool
owed_first l j = among j (first l).place.released

abbrev pub owed_after : Launch → List Ask → List Answer → ℕ → Bool
owed_after l calls answers = still_owed (module_in l) calls answers (first l) (owed_first l)

-- the first invocation of these, in text order, whose task is owed
abbrev pub first_owed : List (Act Call) → (ℕ → Bool) → Option ℕ
first_owed [] owed = none
first_owed (i ∷ rest) owed =
    let later = first_owed rest owed in
    cond (owed i.what.task) (some i.what.task) later

-- ---- when a port changes

-- A call that hands output i of a task over: a reaction, at an instant at which a slot of the task ends, and the word is that of the results that were finished.
pub record HandsOver (M : Module) (v : View) (m : Machine) (x : Answer) (n : Machine) (task i : ℕ) : Type 0 where
  pub steps : ℕ
  pub reacts : x ≡ ticking (Obeyed steps)
  pub ends : among task (tasks_of (ending_next M v)) ≡ true
  pub results : List ℕ
  pub finished : standing M m task ≡ done results
  pub holds : word M n (outputs_of M task + i) ≡ get_or results i 0

-- the updates of which a slot ends at the next instant, in text order
abbrev pub updates_next : Module → View → List (Act Update)
updates_next M v = closing (mode_at M v.place.mode).period (next_time M v) (mode_at M v.place.mode).updates

-- A call that sets actuator i: a reaction, at an instant at which a slot of one of its updates ends, and the word is that of the update's source.
pub record Sets (M : Module) (v : View) (x : Answer) (n : Machine) (i : ℕ) : Type 0 where
  pub steps : ℕ
  pub reacts : x ≡ ticking (Obeyed steps)
  pub before : List (Act Update)
  pub update : Act Update
  pub after : List (Act Update)
  pub ends : updates_next M v ≡ before ++ (update ∷ after)
  pub aims : update.what.target ≡ i
  pub holds : word M n i ≡ word M n update.what.source

-- A call that takes a reading into sensor i: a due tick, and the word is its reading.
pub record Senses (M : Module) (a : Ask) (x : Answer) (n : Machine) (i : ℕ) : Type 0 where
  pub steps : ℕ
  pub reacts : x ≡ ticking (Obeyed steps)
  pub count : ℕ
  pub types : List ℕ
  pub words : List ℕ
  pub called : a ≡ tick count types words
  pub holds : word M n i ≡ get_or words i 0

-- A call that fills the inputs of a task: a reaction at which the rules release it.
pub record Fills (M : Module) (v : View) (a : Ask) (x : Answer) (task : ℕ) : Type 0 where
  pub steps : ℕ
  pub reacts : x ≡ ticking (Obeyed steps)
  pub releases : among task (ask M a v).view.place.released ≡ true

-- No port, no task out and no mode has changed.
pub record Rests (m n : Machine) : Type 0 where
  pub same-ports : n.ports ≡ m.ports
  pub same_out : n.standing.out ≡ m.standing.out
  pub same-mode : n.standing.mode ≡ m.standing.mode

-- two runs that show no difference: the same answers (in the rules' words), the same mode, the same word in every port of the module
pub record Alike (M : Module) (answers₁ : List Answer) (n₁ : Machine) (answers₂ : List Answer) (n₂ : Machine) : Type 0 where
  pub same-answers : map reply_to answers₂ ≡ map reply_to answers₁
  pub same-mode : n₂.standing.mode ≡ n₁.standing.mode
  pub same-ports : take (ports M) n₂.ports ≡ take (ports M) n₁.ports

-- ---- releases and terminations, counted from the calls that did not fault

-- what a call counts: only a reaction
abbrev pub if_obeyed : Answer → ℕ → ℕ
if_obeyed (ticking (Obeyed steps)) n = n
if_obeyed (ticking Idle) n = 0
if_obeyed (ticking (Refused number)) n = 0
if_obeyed (ticking (Late task)) n = 0
if_obeyed (ticking (Fault number)) n = 0
if_obeyed (turning x) n = 0
if_obeyed (finishing x) n = 0

module _ (M : Module) where
  -- the tasks released at each reaction
  abbrev pub released_in : List Ask → List Answer → View → ℕ
  released_in [] answers v = 0
  released_in (a ∷ calls) [] v = 0
  released_in (a ∷ calls) (x ∷ answers) v = if_obeyed x (length (ask M a v).view.place.released) + released_in calls answers (ask M a v).view

  -- the invocations whose slot ends at each reaction, of tasks that were out
  abbrev pub ended_in : List Ask → List Answer → View → ℕ
  ended_in [] answers v = 0
  ended_in (a ∷ calls) [] v = 0
  ended_in (a ∷ calls) (x ∷ answers) v = if_obeyed x (ended_out (ending_next M v) v.place.store.tasks) + ended_in calls answers (ask M a v).view

-- so far, the start's releases too
abbrev pub releases_so_far : Launch → List Ask → List Answer → ℕ
releases_so_far l calls answers = length (first l).place.released + released_in (module_in l) calls answers (first l)

abbrev pub terminations_so_far : Launch → List Ask → List Answer → ℕ
terminations_so_far l calls answers = ended_in (module_in l) calls answers (first l)

-- ---- what is seen behind each reaction of a run: mode, ports, and which tasks are out

abbrev pub seen : Module → Machine → Seen
seen M m = seen_in M (state_in m)

abbrev pub log : (M : Module) (calls : List Ask) (answers : List Answer) (m n : Machine) → Runs m calls answers n → List Seen
log M [] answers m n r = []
log M (a ∷ calls) [] m n r = []
log M (a ∷ calls) (x ∷ answers) m n (k, (c, r)) = noted (reply_to x) (seen M k) (log M calls answers k n r)
