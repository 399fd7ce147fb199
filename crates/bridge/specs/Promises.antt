-- What a machine on an accepted module's table keeps, spelled out for the machine itself (document 01, 'What time does' and 'The machine'): no fault in time, a late task named, a missed instant served after all.
use Rattle.std.specs.Prelude.{ℕ, ◌<◌, ◌≡◌, refl, ◌≢◌, Bool, true, false, List, [], ◌∷◌, get_or}
use Rattle.std.proofs.Common.{arith, sym, ◌∙◌, subst}
use Rattle.std.proofs.Math.Path.{ap}
use Rattle.std.proofs.Math.Option.{Option, none, some}
use Rattle.model.specs.Clock.{elapsed, fits}
use Rattle.model.specs.Modules.{Module, Act, Call}
use Rattle.timing.specs.SlotLaws.{Each}
use Rattle.timing.specs.Rules.{Standing, idle}
use Rattle.timing.specs.Calls as C
use Rattle.timing.specs.Calls.{Ask, Reply, fell, View, Said, ask, started, comes, remains, reading_types}
use Rattle.timing.specs.Accepted.{Accepted}
use Rattle.timing.specs.Ticks.{Due}
use Rattle.timing.specs.Lates.{first_late, ending_next, late-falls, falls-late, Prompt, NoFault, no-fault, never-stopped}
use Rattle.timing.specs.Docks.{Answer, ticking, reply_to, Dock}
use Rattle.timing.specs.Histories.{shadow, stop_of}
use Rattle.machine.specs.declared.Reaction.{Reaction}
use Rattle.machine.specs.declared.Reaction.TheVariants.{Refused, Late, Fault}
use Rattle.machine.specs.Instructions as E
use Rattle.machine.specs.Calls as K
use Rattle.machine.specs.Calls.{State, Ticked, stopped_by}
use Rattle.machine.proofs.ClockLaws.{missed-is, still-served}
use Rattle.bridge.specs.Boards.{board, board-readings}
use Rattle.bridge.specs.Docked.{Asked, asks, dock_of, stop_by}
use Rattle.bridge.specs.Faithful.{machine_answers, machine_leaves, Started, begun}
use Rattle.bridge.specs.Beside.{Beside}

-- ---- what is shown

module _ (M : Module) where
  -- the word in a port of the module, and how far a task has come
  abbrev pub word_in : State → ℕ → ℕ
  word_in m i = get_or (dock_of M m).store.ports i 0

  abbrev pub standing_in : State → ℕ → Standing
  standing_in m task = get_or (dock_of M m).store.tasks task idle

  -- an answer that is no fault
  pub record Unfaulted (x : Answer) : Type 0 where
    pub not_late : (task : ℕ) → x ≢ ticking (Late task)
    pub not-wild : (number : ℕ) → x ≢ ticking (Fault number)

  -- a tick that is due: the machine is not stopped, the readings fit, and what remains has gone by
  pub record DueNow (m : State) (count : ℕ) (types words : List ℕ) : Type 0 where
    pub live : m.stopped ≡ false
    pub fitting : fits (reading_types M) types words ≡ true
    pub now : elapsed m.clock count ≡ m.remaining

module _ (M : Module) (W : Accepted M) where
  module _ (count : ℕ) (types₀ words₀ : List ℕ) (S : Started M W count types₀ words₀) where
    -- the machine behind the start and some calls, and what the rules say then
    abbrev pub machine_at : List Ask → State
    machine_at before = machine_leaves M before (begun M W count types₀ words₀)

    abbrev pub view_at : List Ask → View
    view_at before = comes M before (started M count words₀)

    -- NO FAULT. If every released task is finished before the tick that ends its slot, no call answers a fault, and the machine is not stopped.
    pub record InTime (rest : List Ask) : Type 0 where
      pub no-faults : Each (Unfaulted M) (machine_answers M rest (begun M W count types₀ words₀))
      pub goes_on : (machine_at rest).stopped ≡ false

    module _ (before : List Ask) where
      -- the invocations whose slot ends at the next instant, in text order
      abbrev pub ending_soon : List (Act Call)
      ending_soon = ending_next M (view_at before)

      -- LATE. A tick that ends the slot of a task that is out and unfinished answers 40 with the first such task in text order, at that very instant; all else is as before the call.
      pub record Named (at : ℕ) (types words : List ℕ) (task : ℕ) : Type 0 where
        pub answers : (asks M (C.tick at types words) (machine_at before)).answer ≡ ticking (Late task)
        pub leaves : (asks M (C.tick at types words) (machine_at before)).state ≡ stopped_by 40 task (machine_at before)

      -- MISSED. A tick past the due instant is 33 and changes nothing, and the due count is still served.
      pub record Missed (at : ℕ) (types words : List ℕ) : Type 0 where
        pub refuses : K.tick (board M) (machine_at before) at types words ≡ record { answer = Refused 33; state = machine_at before }
        pub served : (again : ℕ) (types₁ words₁ : List ℕ) → DueNow M (machine_at before) again types₁ words₁
            → K.tick (board M) (K.tick (board M) (machine_at before) at types words).state again types₁ words₁ ≡ K.reacted (board M) (machine_at before) again words₁
